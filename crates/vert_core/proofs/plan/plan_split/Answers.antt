use Rattle.std.proofs.Common.{◌≡◌, ◌∙◌, ℕ, take, true, false, refl, ap, sym}
use Rattle.std.specs.Prelude.{Option, Some, is_some}
use Rattle.std.specs.List.{list_all}
use Rattle.pack_core.specs.declared.pack.Shell.{Shell}
use Rattle.pack_core.specs.declared.pack.Target.TheVariants.{To}
use Rattle.scaled_core.specs.Dimensions.{fits}
use Rattle.pack_core.specs.Boxes.{vbox_numbers}
use Rattle.vert_core.specs.declared.parts.SplitFault.{SplitFault}
use Rattle.vert_core.specs.Split.{items_after, refusal, rest_numbers}
use Rattle.vert_core.proofs.Rests.{refusal-infinite, refusal-fits, refusal-planned, handed_on}
use Rattle.vert_core.proofs.plan.plan_split.Goals as goal

pub returns-then-has_infinite_shrink-clause-err : goal.returns-then-has_infinite_shrink-clause-err
returns-then-has_infinite_shrink-clause-err c =
    refusal-infinite c.args.params.now c.args.height c.args.nodes.now (sym c.has_infinite_shrink.ensures ∙ c.if-has_infinite_shrink.true)

pub returns-in_default-clause-err : goal.returns-in_default-clause-err
returns-in_default-clause-err c =
    let place = c.split_place-place.ensures.value in
    refusal-fits c.args.params.now c.args.height c.args.nodes.now false (list_all fits (rest_numbers c.args.params.now (items_after c.args.params.now c.args.height c.args.nodes.now)))
    (sym c.has_infinite_shrink.ensures ∙ c.if-has_infinite_shrink.false)
    (ap (λ (i : ℕ). list_all fits (vbox_numbers (To c.args.height) c.args.params.now.split_max_depth (take i c.args.nodes.now))) (sym place) ∙ sym c.vbox_shell.ensures.fits ∙ ap (λ (s : Option Shell). is_some s) c.in_default.is)
    refl

pub returns-in_err-rest-clause-err : goal.returns-in_err-rest-clause-err
returns-in_err-rest-clause-err c =
    let at =
    refusal-planned c.args.params.now c.args.height c.args.nodes.now c.split_place-place.result true false
    (sym c.has_infinite_shrink.ensures ∙ c.if-has_infinite_shrink.false) c.split_place-place.ensures.value
    (sym c.in-Some.ensures.fits) (sym c.in_err-rest.ensures.fits) in
    handed_on (λ (e : SplitFault). refusal c.args.params.now c.args.height c.args.nodes.now ≡ Some e) c.from_residual.result c.in_err-rest.field-0.0
    c.from_residual.ensures.1 (at ∙ ap Some (sym c.in_err-rest.ensures.fault))

pub returns-clause-ok : goal.returns-clause-ok
returns-clause-ok c =
    refusal-planned c.args.params.now c.args.height c.args.nodes.now c.split_place-place.result true true
    (sym c.has_infinite_shrink.ensures ∙ c.if-has_infinite_shrink.false) c.split_place-place.ensures.value
    (sym c.in-Some.ensures.fits) (sym c.in_ok-rest.ensures.fits)
