use Rattle.std.proofs.Common.{◌≡◌, ◌∙◌, ◌+ℤ◌, to_z, of_z, w64, ap, sym, arith}
use Rattle.std.proofs.lemmas.Int.{ints}
use Rattle.break_lines.specs.Private.Marks.{plus, stretch_alone}
use Rattle.break_lines.proofs.Amounts.{more_normal, more_fil, more_fill, more_filll}
use Rattle.break_lines.proofs.item_sums.add_stretch.Goals as goal

pub returns-in-Normal : goal.returns-in-Normal
returns-in-Normal c =
    let s = c.args.sums.now in
    let a = c.args.amount in
    let fits : to_z w64 (of_z w64 (to_z w64 (of_z w64 s.stretch) +ℤ to_z w64 (of_z w64 a))) ≡ s.stretch +ℤ a = omega (arith, ints, c.requires.sums_bounded.stretch, c.requires.amount_bounded) in
    ap (λ z. record s { stretch = z }) fits ∙ more_normal s a ∙ ap (λ order. plus s (stretch_alone order a)) (sym c.in-Normal.is)

pub returns-in-Fil : goal.returns-in-Fil
returns-in-Fil c =
    let s = c.args.sums.now in
    let a = c.args.amount in
    let fits : to_z w64 (of_z w64 (to_z w64 (of_z w64 s.fil) +ℤ to_z w64 (of_z w64 a))) ≡ s.fil +ℤ a = omega (arith, ints, c.requires.sums_bounded.fil, c.requires.amount_bounded) in
    ap (λ z. record s { fil = z }) fits ∙ more_fil s a ∙ ap (λ order. plus s (stretch_alone order a)) (sym c.in-Fil.is)

pub returns-in-Fill : goal.returns-in-Fill
returns-in-Fill c =
    let s = c.args.sums.now in
    let a = c.args.amount in
    let fits : to_z w64 (of_z w64 (to_z w64 (of_z w64 s.fill) +ℤ to_z w64 (of_z w64 a))) ≡ s.fill +ℤ a = omega (arith, ints, c.requires.sums_bounded.fill, c.requires.amount_bounded) in
    ap (λ z. record s { fill = z }) fits ∙ more_fill s a ∙ ap (λ order. plus s (stretch_alone order a)) (sym c.in-Fill.is)

pub returns-in-Filll : goal.returns-in-Filll
returns-in-Filll c =
    let s = c.args.sums.now in
    let a = c.args.amount in
    let fits : to_z w64 (of_z w64 (to_z w64 (of_z w64 s.filll) +ℤ to_z w64 (of_z w64 a))) ≡ s.filll +ℤ a = omega (arith, ints, c.requires.sums_bounded.filll, c.requires.amount_bounded) in
    ap (λ z. record s { filll = z }) fits ∙ more_filll s a ∙ ap (λ order. plus s (stretch_alone order a)) (sym c.in-Filll.is)
