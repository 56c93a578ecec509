use Rattle.std.proofs.Common.{◌≡◌, ◌∙◌, ◌==◌, Some, None, length, to_z, of_z, w64, arith}
use Rattle.std.specs.Prelude.{◌-ℤ◌, if◌then◌else◌}
use Rattle.std.proofs.lemmas.Int.{ints}
use Rattle.pack_core.specs.Glue.{glue_badness, stretch_totals, shrink_totals}
use Rattle.pack_core.specs.Orders.{order_amounts}
use Rattle.pack_core.specs.Private.Orders.{by_order}
use Rattle.pack_core.specs.Private.Steps.{dimens_of}
use Rattle.pack_core.proofs.Steps.{glue-given, glue-refused-stretch, glue-refused-shrink}
use Rattle.pack_core.proofs.setting.set_glue.Goals as goal

pub returns-in_err-stretch : goal.returns-in_err-stretch
returns-in_err-stretch c = λ nodes e s t.
    let can : dimens_of (order_amounts (stretch_totals nodes)) ≡ None = cc (s, c.dimens_of.ensures, c.in_err-stretch.was) in
    c.from_residual.ensures ∙ glue-refused-stretch (c.args.size -ℤ c.args.natural) nodes can

pub returns-in_err-shrink : goal.returns-in_err-shrink
returns-in_err-shrink c = λ nodes e s t.
    let can : dimens_of (order_amounts (shrink_totals nodes)) ≡ None = cc (t, c.dimens_of-2.ensures, c.in_err-shrink.was) in
    c.from_residual-in_err-shrink.ensures ∙ glue-refused-shrink (c.args.size -ℤ c.args.natural) nodes can

pub returns : goal.returns
returns c = λ nodes e s t.
    let same : to_z w64 (of_z w64 c.exact_sub-excess.result) ≡ c.args.size -ℤ c.args.natural = omega (arith, ints) in
    let bad : c.list_badness.result
    ≡ (if length nodes == 0 then 0 else glue_badness (c.args.size -ℤ c.args.natural) (by_order c.in_ok-stretch.stretch) (by_order c.in_ok-shrink.shrink)) =
    c.list_badness.ensures ∙ rw (same, e) in
    let can_stretch : dimens_of (order_amounts (stretch_totals nodes)) ≡ Some c.in_ok-stretch.stretch = cc (s, c.dimens_of.ensures, c.in_ok-stretch.was) in
    let can_shrink : dimens_of (order_amounts (shrink_totals nodes)) ≡ Some c.in_ok-shrink.shrink = cc (t, c.dimens_of-2.ensures, c.in_ok-shrink.was) in
    glue-given (c.args.size -ℤ c.args.natural) nodes c.in_ok-stretch.stretch c.in_ok-shrink.shrink c.set_to.result c.list_badness.result
    can_stretch can_shrink (c.set_to.ensures ∙ rw same) bad
