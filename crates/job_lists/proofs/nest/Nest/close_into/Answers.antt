use Rattle.std.proofs.Common.{◌≡◌, ◌∙◌, ◌-◌, List, length, set, Option, Some, None, ap, arith, subst, sym}
use Rattle.std.specs.Prelude.{pos}
use Rattle.job_machine.specs.declared.OpenList.{OpenList}
use Rattle.job_machine.specs.State.{innermost, outer}
use Rattle.job_machine.specs.Checks.{box_checks, first_refusal}
use Rattle.job_lists.specs.Private.BoundedLists.{IsBounded}
use Rattle.job_machine.proofs.States.{no_box, none_around}
use Rattle.job_lists.proofs.Nests.{around_found, closing_into}
use Rattle.job_lists.proofs.BoundedLists.{changed_and_taken, bounded_with_box}
use Rattle.job_lists.proofs.nest.Nest.close_into.Goals as goal

pub append_with_glue-requires : goal.append_with_glue-requires
append_with_glue-requires c =
    let found =
    around_found c.self.inside.lists.items c.in-Some.around.now c.len-count.result c.len-count.ensures.value (omega (arith, c.if-count-lt2.false, c.len-count.ensures.value)) c.in-Some.ensures.value in
    sym (ap (λ (l : Option OpenList). first_refusal (box_checks c.args.params.now l c.args.box_node)) found)
    ∙ (ap (λ (nest : List OpenList). first_refusal (box_checks c.args.params.now (innermost (outer nest)) c.args.box_node)) c.self.view_is ∙ c.requires)

pub returns-clause-ok : goal.returns-clause-ok
returns-clause-ok c =
    rw (sym c.self.view_is) (closing_into c.args.params.now c.self.inside.lists.items c.args.box_node c.in-Some.around.now c.append_with_glue.new.open_list c.len-count.result c.pop.new.self.items
    c.len-count.ensures.value (omega (arith, c.if-count-lt2.false, c.len-count.ensures.value)) c.in-Some.ensures.value c.in_ok-append_with_glue.ensures.ok c.pop.ensures.rest)

pub invariant_of-self-2 : goal.invariant_of-self-2
invariant_of-self-2 c =
    let nest : List OpenList = c.self.inside.lists.items in
    let count = c.len-count.result in
    let changed : OpenList = c.append_with_glue.new.open_list in
    let found = around_found nest c.in-Some.around.now count c.len-count.ensures.value (omega (arith, c.if-count-lt2.false, c.len-count.ensures.value)) c.in-Some.ensures.value in
    let free : first_refusal (box_checks c.args.params.now (Some c.in-Some.around.now) c.args.box_node) ≡ None =
    sym (ap (λ (l : Option OpenList). first_refusal (box_checks c.args.params.now l c.args.box_node)) found)
    ∙ (ap (λ (lists : List OpenList). first_refusal (box_checks c.args.params.now (innermost (outer lists)) c.args.box_node)) c.self.view_is ∙ c.requires) in
    let lists =
    changed_and_taken nest (count - 2) (length (set nest (count - 2) changed) - 1) changed c.pop.new.self.items c.self.invariant.0 c.self.invariant.1
    (subst IsBounded (sym c.in_ok-append_with_glue.ensures.ok) (bounded_with_box c.args.params.now (pos 0) c.args.box_node c.in-Some.around.now free)) c.pop.ensures.rest in
    (lists.0, lists.1, c.self.invariant.2)

pub unreachable-requires : goal.unreachable-requires
unreachable-requires c =
    let nest : List OpenList = c.self.inside.lists.items in
    no_box c.args.params.now (innermost (outer nest)) c.args.box_node
    (ap (λ (lists : List OpenList). first_refusal (box_checks c.args.params.now (innermost (outer lists)) c.args.box_node)) c.self.view_is ∙ c.requires)
    (none_around nest c.len-count.result c.len-count.ensures.value c.if-count-lt2.true)
