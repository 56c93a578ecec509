use Rattle.std.proofs.Common.{◌≡◌, ◌∙◌, ◌-◌, List, length, Option, Some, None, ap, sym}
use Rattle.scaled_core.proofs.EachOf.{each_at}
use Rattle.job_machine.specs.declared.OpenList.{OpenList}
use Rattle.job_machine.specs.State.{innermost}
use Rattle.job_machine.specs.Checks.{box_checks, first_refusal}
use Rattle.job_lists.specs.Private.BoundedLists.{IsBounded}
use Rattle.job_machine.proofs.States.{no_box}
use Rattle.job_lists.proofs.BoundedLists.{one_changed, box_fits}
use Rattle.job_lists.proofs.nest.Nest.append_to_innermost.Goals as goal

pub invariant_of-self : goal.invariant_of-self
invariant_of-self c =
    let nest : List OpenList = c.self.inside.lists.items in
    let l : OpenList = c.in-Some.innermost.now in
    let found : innermost nest ≡ Some l = c.in-Some.ensures.list_lent in
    let free : first_refusal (box_checks c.args.params.now (Some l) c.args.box_node) ≡ None =
    ap (λ (o : Option OpenList). first_refusal (box_checks c.args.params.now o c.args.box_node)) (sym found ∙ ap innermost c.self.view_is) ∙ c.requires in
    let lists =
    one_changed nest (length nest - 1) c.append_with_glue.new.open_list c.self.invariant.0 c.self.invariant.1
    (box_fits c.append_with_glue.result c.args.params.now c.args.shift c.args.box_node l c.append_with_glue.new.open_list free
    (each_at IsBounded nest (length nest - 1) l c.self.invariant.1 found) c.append_with_glue.ensures.ok c.append_with_glue.ensures.err) in
    (lists.0, lists.1, c.self.invariant.2)

pub unreachable-requires : goal.unreachable-requires
unreachable-requires c =
    no_box c.args.params.now (innermost c.args.self.now) c.args.box_node c.requires (ap innermost (sym c.self.view_is) ∙ c.innermost_of.ensures.none c.in_default.is)
