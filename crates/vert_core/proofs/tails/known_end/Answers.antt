use Rattle.std.proofs.Common.{◌≡◌, ℕ, ◌+◌, ◌-◌, ◌*◌, ◌/◌, ◌<◌, ◌≤◌, length, arith, subst}
use Rattle.pack_core.specs.Tails.{IsTail}
use Rattle.vert_core.specs.Tails.{last_items}
use Rattle.vert_core.proofs.Ends.{end-read, least}
use Rattle.vert_core.proofs.tails.known_end.Goals as goal

pub returns-clause-measures : goal.returns-clause-measures
returns-clause-measures c =
    let n = c.min-spans.result in
    let xs = c.args.nodes.now in
    let entry = c.index-entries-spans.result in
    let few = least n (length xs / 32) (length c.args.entries.now) c.min-spans.ensures in
    let some : 0 < n = omega (arith, c.if-spans-eq0.false) in
    let same : 32 * (n - 1 + 1) ≡ n * 32 = omega (arith, some) in
    let within : 32 * (n - 1 + 1) ≤ length xs = omega (arith, some, few.0) in
    let there : n - 1 < length c.args.entries.now = omega (arith, some, few.1) in
    subst (λ (k : ℕ). IsTail (last_items k xs) entry) same (end-read c.args.entries.now xs (n - 1) entry c.requires within there c.index-entries-spans.is)
