use Rattle.std.proofs.Common.{◌≡◌, ◌∙◌, ℤ, ap, arith}
use Rattle.std.specs.Prelude.{◌-ℤ◌}
use Rattle.std.specs.Int.{int_min}
use Rattle.std.proofs.lemmas.Int.{ints}
use Rattle.scaled_core.specs.Dimensions.{dimension_of}
use Rattle.pack_core.specs.Items.{downward, breadth}
use Rattle.pack_core.specs.Totals.{total, greatest_of}
use Rattle.pack_core.specs.Boxes.{vbox_depth}
use Rattle.pack_core.specs.Private.Steps.{glue_set}
use Rattle.pack_core.proofs.Steps.{dimension-same, vbox-given, vbox-refused, vbox-unfit-natural, vbox-unfit-width, vbox-unfit-glue}
use Rattle.pack_core.proofs.pack.vertical_shell.Goals as goal

pub returns : goal.returns
returns c = λ nodes is e.
    let deep : c.at_most-depth.result ≡ vbox_depth c.args.limit nodes =
    c.at_most-depth.ensures.value ∙ ap (λ (d : ℤ). int_min d c.args.limit) is.pending_depth in
    let natural : c.height_above.result ≡ dimension_of (total downward nodes -ℤ c.at_most-depth.result) =
    c.height_above.ensures ∙ ap (λ (z : ℤ). dimension_of (z -ℤ c.at_most-depth.result)) is.advance in
    let width : c.try_new.result ≡ dimension_of (greatest_of breadth nodes) = dimension-same _ _ c.try_new.result c.try_new.ensures.value (omega (arith, ints, is.breadth)) in
    vbox-given c.args.target c.args.limit nodes c.in_ok-natural.natural c.in_ok-width.width c.in_ok-height.height c.at_most-depth.result c.in_ok-set.set deep
    (cc (natural, c.in_ok-natural.was)) (cc (c.wanted_size.ensures, c.in_ok-height.was)) (cc (width, c.in_ok-width.was))
    (cc (c.set_glue.ensures nodes e is.stretch is.shrink, c.in_ok-set.was)) c.at_most-depth.ensures.fits

pub returns-in_err-natural : goal.returns-in_err-natural
returns-in_err-natural c = λ nodes is e.
    let deep : c.at_most-depth.result ≡ vbox_depth c.args.limit nodes =
    c.at_most-depth.ensures.value ∙ ap (λ (d : ℤ). int_min d c.args.limit) is.pending_depth in
    let natural : c.height_above.result ≡ dimension_of (total downward nodes -ℤ c.at_most-depth.result) =
    c.height_above.ensures ∙ ap (λ (z : ℤ). dimension_of (z -ℤ c.at_most-depth.result)) is.advance in
    c.from_residual.ensures ∙ vbox-unfit-natural c.args.target c.args.limit nodes c.at_most-depth.result deep (cc (natural, c.in_err-natural.was))

pub returns-in_err-height : goal.returns-in_err-height
returns-in_err-height c = λ nodes is e.
    let deep : c.at_most-depth.result ≡ vbox_depth c.args.limit nodes =
    c.at_most-depth.ensures.value ∙ ap (λ (d : ℤ). int_min d c.args.limit) is.pending_depth in
    let natural : c.height_above.result ≡ dimension_of (total downward nodes -ℤ c.at_most-depth.result) =
    c.height_above.ensures ∙ ap (λ (z : ℤ). dimension_of (z -ℤ c.at_most-depth.result)) is.advance in
    c.from_residual-in_err-height.ensures
    ∙ vbox-refused c.args.target c.args.limit nodes c.in_ok-natural.natural c.at_most-depth.result deep
    (cc (natural, c.in_ok-natural.was)) (cc (c.wanted_size.ensures, c.in_err-height.was))

pub returns-in_err-width : goal.returns-in_err-width
returns-in_err-width c = λ nodes is e.
    let width : c.try_new.result ≡ dimension_of (greatest_of breadth nodes) = dimension-same _ _ c.try_new.result c.try_new.ensures.value (omega (arith, ints, is.breadth)) in
    c.from_residual-in_err-width.ensures ∙ vbox-unfit-width c.args.target c.args.limit nodes (cc (width, c.in_err-width.was))

pub returns-in_err-set : goal.returns-in_err-set
returns-in_err-set c = λ nodes is e.
    c.from_residual-in_err-set.ensures
    ∙ vbox-unfit-glue c.args.target c.args.limit nodes (glue_set (c.in_ok-height.height -ℤ c.in_ok-natural.natural) nodes) (cc (c.set_glue.ensures nodes e is.stretch is.shrink, c.in_err-set.was))
