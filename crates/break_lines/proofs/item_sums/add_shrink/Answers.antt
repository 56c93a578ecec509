use Rattle.std.proofs.Common.{◌≡◌, ◌∙◌, ◌+ℤ◌, to_z, of_z, w64, ap, sym, arith}
use Rattle.std.proofs.lemmas.Int.{ints}
use Rattle.break_lines.specs.Private.Marks.{plus, shrink_alone}
use Rattle.break_lines.proofs.Amounts.{more_shrink}
use Rattle.break_lines.proofs.item_sums.add_shrink.Goals as goal

pub returns-in-Normal : goal.returns-in-Normal
returns-in-Normal c =
    let s = c.args.sums.now in
    let a = c.args.amount in
    let fits : to_z w64 (of_z w64 (to_z w64 (of_z w64 s.shrink) +ℤ to_z w64 (of_z w64 a))) ≡ s.shrink +ℤ a = omega (arith, ints, c.requires.shrink_bounded, c.requires.amount_bounded) in
    ap (λ z. record s { shrink = z }) fits ∙ more_shrink s a ∙ ap (λ order. plus s (shrink_alone order a)) (sym c.in-Normal.is)
