use Rattle.std.proofs.Common.{◌≡◌, ◌≤◌, ◌∙◌, ◌*◌, ◌-◌, ℕ, length, take, drop, get_or, ap, arith, sym}
use Rattle.std.proofs.lemmas.List.{length-take}
use Rattle.std.specs.Str.Parse.{digits_value}
use Rattle.scaled_core.specs.DimensionTexts.{decimal_fraction}
use Rattle.scaled_core.specs.Rounding.{nearest}
use Rattle.scaled_core.specs.ParsedTexts.{front_digits}
use Rattle.scaled_core.proofs.ShortTexts.{no-fraction, none-after, point-front, point-after, front-short, fraction-short, empty-text}
use Rattle.scaled_core.proofs.reading.ending_fraction.Goals as goal

pub returns-in-empty-clause-value : goal.returns-in-empty-clause-value
returns-in-empty-clause-value c = no-fraction c.args.text.now c.in-empty.len_below

pub returns-in-empty-clause-all : goal.returns-in-empty-clause-all
returns-in-empty-clause-all c = none-after c.args.text.now c.in-empty.len_below

pub returns-else-not-is_empty-clause-value : goal.returns-else-not-is_empty-clause-value
returns-else-not-is_empty-clause-value c =
    let text = c.args.text.now in
    let after = take (length text - 1) (drop 1 text) in
    let digits = front_digits after in
    let point : get_or text 0 0 ≡ 46 = omega arith in
    let few : length digits ≤ 17 = omega (arith, front-short after, length-take (length text - 1) (drop 1 text), c.requires) in
    c.nearest_small.ensures.value
    ∙ ap (λ (v : ℕ). nearest (v * 65536) c.front_number-number.result.scale) c.front_number-number.ensures.value
    ∙ ap (λ (s : ℕ). nearest (digits_value 10 digits * 65536) s) c.front_number-number.ensures.scale
    ∙ fraction-short digits few
    ∙ ap decimal_fraction (point-front text c.in-46.len_at_least point)

pub returns-else-not-is_empty-clause-all : goal.returns-else-not-is_empty-clause-all
returns-else-not-is_empty-clause-all c =
    let text = c.args.text.now in
    let point : get_or text 0 0 ≡ 46 = omega arith in
    point-after text c.in-46.len_at_least point ∙ sym c.front_number-number.ensures.after
    ∙ empty-text c.front_number-number.result.after.now c.if-not-is_empty.ensures
