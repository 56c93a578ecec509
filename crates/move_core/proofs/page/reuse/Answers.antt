use Rattle.std.proofs.Common.{◌≡◌, ◌≤◌, length, map}
use Rattle.std.specs.List.{AllByRecursion}
use Rattle.dvi_ops.specs.Instruction.{Axis}
use Rattle.dvi_ops.specs.Layout.{IsWritable, bytes_of}
use Rattle.dvi_ops.specs.View.{body_view}
use Rattle.move_core.specs.SamePage.{HasNoHollow, MeansTheSame, NestsNoDeeper, PassesThroughNoOther, SetsBeforeUse, UsesStored, leaves_in_order}
use Rattle.move_core.specs.SamePage.{unset_registers}
use Rattle.move_core.proofs.SameBody.{are_bodies, are_lists, gives_reused, if_ok, reused_before, reused_fits, reused_full, reused_length}
use Rattle.move_core.proofs.SameBody.{reused_meaning, reused_nests, reused_order, reused_places, reused_uses}
use Rattle.move_core.proofs.page.reuse.Goals as goal

pub returns-clause-meaning : goal.returns-clause-meaning
returns-clause-meaning c =
    if_ok _ _ c.with_registers.result
    (λ written writes. are_bodies MeansTheSame (map body_view c.args.ops.items) (map body_view c.in_ok-trimmed.trimmed.items) (map body_view written.items) reused_meaning c.requires c.in_ok-trimmed.ensures writes)
    c.with_registers.ensures

pub returns-clause-points : goal.returns-clause-points
returns-clause-points c =
    if_ok _ _ c.with_registers.result
    (λ written writes. are_bodies PassesThroughNoOther (map body_view c.args.ops.items) (map body_view c.in_ok-trimmed.trimmed.items) (map body_view written.items) reused_places c.requires c.in_ok-trimmed.ensures writes)
    c.with_registers.ensures

pub returns-clause-nesting : goal.returns-clause-nesting
returns-clause-nesting c =
    if_ok _ _ c.with_registers.result
    (λ written writes. are_bodies NestsNoDeeper (map body_view c.args.ops.items) (map body_view c.in_ok-trimmed.trimmed.items) (map body_view written.items) (λ f plain. reused_nests f) c.requires c.in_ok-trimmed.ensures writes)
    c.with_registers.ensures

pub returns-clause-full : goal.returns-clause-full
returns-clause-full c =
    if_ok _ _ c.with_registers.result
    (λ written writes. are_bodies (λ f g. HasNoHollow g) (map body_view c.args.ops.items) (map body_view c.in_ok-trimmed.trimmed.items) (map body_view written.items) (λ f plain. reused_full f) c.requires c.in_ok-trimmed.ensures writes)
    c.with_registers.ensures

pub returns-clause-held : goal.returns-clause-held
returns-clause-held c =
    if_ok _ _ c.with_registers.result
    (λ written writes. are_bodies (λ f g. (axis : Axis) → UsesStored axis unset_registers g) (map body_view c.args.ops.items) (map body_view c.in_ok-trimmed.trimmed.items) (map body_view written.items) (λ f plain axis. reused_uses axis f plain) c.requires c.in_ok-trimmed.ensures writes)
    c.with_registers.ensures

pub returns-clause-set_before_use : goal.returns-clause-set_before_use
returns-clause-set_before_use c =
    if_ok _ _ c.with_registers.result
    (λ written writes. are_bodies (λ f g. (axis : Axis) → SetsBeforeUse axis unset_registers g) (map body_view c.args.ops.items)
    (map body_view c.in_ok-trimmed.trimmed.items) (map body_view written.items) (λ f plain axis. reused_before axis f plain) c.requires
    c.in_ok-trimmed.ensures writes)
    c.with_registers.ensures

pub returns-clause-bytes : goal.returns-clause-bytes
returns-clause-bytes c =
    if_ok _ _ c.with_registers.result
    (λ written writes. are_lists (λ is js. length (bytes_of js) ≤ length (bytes_of is)) (map body_view c.args.ops.items) (map body_view c.in_ok-trimmed.trimmed.items) (map body_view written.items) reused_length c.requires c.in_ok-trimmed.ensures writes)
    c.with_registers.ensures

pub returns-clause-order : goal.returns-clause-order
returns-clause-order c =
    if_ok _ _ c.with_registers.result
    (λ written writes. are_lists (λ is js. leaves_in_order js ≡ leaves_in_order is) (map body_view c.args.ops.items) (map body_view c.in_ok-trimmed.trimmed.items) (map body_view written.items) reused_order c.requires c.in_ok-trimmed.ensures writes)
    c.with_registers.ensures

pub returns-clause-writable : goal.returns-clause-writable
returns-clause-writable c =
    if_ok _ _ c.with_registers.result
    (λ written writes. are_lists (λ is js. AllByRecursion IsWritable is → AllByRecursion IsWritable js) (map body_view c.args.ops.items) (map body_view c.in_ok-trimmed.trimmed.items) (map body_view written.items) reused_fits c.requires c.in_ok-trimmed.ensures writes)
    c.with_registers.ensures

pub returns-clause-reused : goal.returns-clause-reused
returns-clause-reused c =
    if_ok _ _ c.with_registers.result
    (λ written writes body e. gives_reused (map body_view c.args.ops.items) (map body_view c.in_ok-trimmed.trimmed.items) (map body_view written.items) body c.in_ok-trimmed.ensures writes e)
    c.with_registers.ensures
