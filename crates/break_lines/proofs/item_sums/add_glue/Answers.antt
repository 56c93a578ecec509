use Rattle.std.proofs.Common.{◌≡◌, ◌∙◌, ◌+ℤ◌, to_z, of_z, w64, ap, arith}
use Rattle.std.proofs.lemmas.Int.{ints}
use Rattle.break_lines.specs.declared.sums.Sums.{Sums}
use Rattle.break_lines.specs.Private.Marks.{plus, stretch_alone, shrink_alone}
use Rattle.break_lines.proofs.Amounts.{glue_amounts, glue_small}
use Rattle.break_lines.proofs.item_sums.add_glue.Goals as goal

pub add_shrink-requires-clause-shrink_bounded : goal.add_shrink-requires-clause-shrink_bounded
add_shrink-requires-clause-shrink_bounded c =
    let same = ap (λ (s : Sums). s.shrink) c.add_stretch.ensures in
    record { low = omega (arith, ints, same, c.requires.shrink); high = omega (arith, ints, same, c.requires.shrink) }

pub returns-clause-value : goal.returns-clause-value
returns-clause-value c =
    let s = c.args.sums.now in
    let g = c.args.glue.now in
    let width : to_z w64 (of_z w64 (to_z w64 (of_z w64 s.width) +ℤ to_z w64 (of_z w64 c.from.result))) ≡ s.width +ℤ g.width = omega (arith, ints, c.requires.width, c.from.ensures, c.get.ensures.value, c.get.ensures.fits) in
    let stretch : to_z w64 (of_z w64 c.from-2.result) ≡ g.stretch = omega (arith, ints, c.from-2.ensures, c.get-2.ensures.value, c.get-2.ensures.fits) in
    let shrink : to_z w64 (of_z w64 c.from-3.result) ≡ g.shrink = omega (arith, ints, c.from-3.ensures, c.get-3.ensures.value, c.get-3.ensures.fits) in
    let stretched : c.add_stretch.new.sums ≡ plus (record s { width = s.width +ℤ g.width }) (stretch_alone g.stretch_order g.stretch) =
    c.add_stretch.ensures ∙ ap (λ z. plus (record s { width = z }) (stretch_alone g.stretch_order (to_z w64 (of_z w64 c.from-2.result)))) width
    ∙ ap (λ z. plus (record s { width = s.width +ℤ g.width }) (stretch_alone g.stretch_order z)) stretch in
    c.add_shrink.ensures ∙ ap (λ t. plus t (shrink_alone g.shrink_order (to_z w64 (of_z w64 c.from-3.result)))) stretched
    ∙ ap (λ z. plus (plus (record s { width = s.width +ℤ g.width }) (stretch_alone g.stretch_order g.stretch)) (shrink_alone g.shrink_order z)) shrink
    ∙ glue_amounts s g

pub returns-clause-amounts_bounded : goal.returns-clause-amounts_bounded
returns-clause-amounts_bounded c =
    glue_small c.args.glue.now
    (record { low = omega (arith, ints, c.get.ensures.value, c.get.ensures.fits); high = omega (arith, ints, c.get.ensures.value, c.get.ensures.fits) })
    (record { low = omega (arith, ints, c.get-2.ensures.value, c.get-2.ensures.fits); high = omega (arith, ints, c.get-2.ensures.value, c.get-2.ensures.fits) })
    (record { low = omega (arith, ints, c.get-3.ensures.value, c.get-3.ensures.fits); high = omega (arith, ints, c.get-3.ensures.value, c.get-3.ensures.fits) })
