use Rattle.std.proofs.Common.{◌≡◌, ◌∙◌, ◌+◌, ◌*◌, ◌-◌, ◌<◌, ℕ, pos, List, [], Ok, length, take, get_or, ap, arith, sym, subst}
use Rattle.std.specs.Option.{IfSome}
use Rattle.std.proofs.lemmas.Int.{ints}
use Rattle.scaled_core.specs.Dimensions.{dimension_of}
use Rattle.scaled_core.specs.DimensionTexts.{decimal_fraction}
use Rattle.scaled_core.specs.ParsedTexts.{front_digits, text_after_digits, text_after_fraction, point_digits, read_dimension}
use Rattle.scaled_core.proofs.ShortTexts.{some_digit, after-short, points-text, short-read}
use Rattle.scaled_core.proofs.reading.short_points.Goals as goal

pub ending_fraction-requires : goal.ending_fraction-requires
ending_fraction-requires c =
    omega (arith, ap length c.front_number-whole.ensures.after, after-short (take (length c.args.text.now - 2) c.args.text.now), c.if-number-gt9.false)

pub returns : goal.returns
returns c =
    let text = c.args.text.now in
    let number = take (length text - 2) text in
    let p : get_or text (length text - 2) 0 ≡ 112 = omega arith in
    let t : get_or text (length text - 1) 0 ≡ 116 = omega arith in
    let some : 0 < length (front_digits number) = some_digit _ (λ one. c.if-whole-eq1.false (c.front_number-whole.ensures.scale ∙ one)) in
    let all : text_after_fraction (text_after_digits number) ≡ [] = ap text_after_fraction (sym c.front_number-whole.ensures.after) ∙ c.in_ok-fraction.ensures.all in
    let fraction : c.in_ok-fraction.fraction ≡ decimal_fraction (point_digits (text_after_digits number)) =
    c.in_ok-fraction.ensures.value ∙ ap (λ (xs : List ℕ). decimal_fraction (point_digits xs)) c.front_number-whole.ensures.after in
    let found : c.try_new.result ≡ dimension_of (pos (65536 * c.front_number-whole.result.value + c.in_ok-fraction.fraction)) =
    c.try_new.ensures.value
    ∙ ap dimension_of
    (omega (arith, ints, c.front_number-whole.ensures.value_bounded, c.front_number-whole.ensures.scale_bounded, c.in_ok-fraction.ensures.value_bounded)) in
    subst (λ (xs : List ℕ). IfSome c.try_new.result (λ d. read_dimension xs ≡ Ok d)) (sym (points-text text c.in-112.len_at_least p t))
    (short-read number c.front_number-whole.result.value c.in_ok-fraction.fraction c.try_new.result c.front_number-whole.ensures.value some all fraction found)
