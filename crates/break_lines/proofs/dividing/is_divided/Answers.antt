use Rattle.std.proofs.Common.{◌≡◌, ◌+◌, ◌-◌, ◌<◌, ◌≤◌, length, refl, subst, arith, rules}
use Rattle.std.proofs.Math.Logic.{◌⊎◌, inl, inr}
use Rattle.std.proofs.lemmas.Bool.{cases_lt}
use Rattle.break_lines.specs.Legal.{legal_places}
use Rattle.break_lines.specs.Facts.{facts_of}
use Rattle.break_lines.specs.Divided.{AddsLess}
use Rattle.break_lines.proofs.Marked.{got, count_is}
use Rattle.break_lines.proofs.Divided.{divided_by, less_of}
use Rattle.break_lines.proofs.dividing.is_divided.Goals as goal

pub adds_less-requires-clause-from : goal.adds_less-requires-clause-from
adds_less-requires-clause-from c =
    let last : c.loop-next.next < length c.args.marks.now = search rules in
    c.requires.marks_bounded 0 _ (got c.args.marks.now 0 _ (omega arith))

pub adds_less-requires-clause-place : goal.adds_less-requires-clause-place
adds_less-requires-clause-place c =
    let last : c.loop-next.next < length c.args.marks.now = search rules in
    c.requires.marks_bounded (c.loop-next.next - 1) _ (got c.args.marks.now (c.loop-next.next - 1) _ (omega arith))

pub adds_less-requires-clause-to : goal.adds_less-requires-clause-to
adds_less-requires-clause-to c =
    let last : c.loop-next.next < length c.args.marks.now = search rules in
    c.requires.marks_bounded (length c.args.marks.now - 1) _ (got c.args.marks.now (length c.args.marks.now - 1) _ (omega arith))

pub loop-next-preserved : goal.loop-next-preserved
loop-next-preserved c list is m some within = cases (cases_lt (m + 1) c.loop-next.next)
  where
    last : c.loop-next.next < length c.args.marks.now
    last = search rules

    low : 2 ≤ c.loop-next.next
    low = c.loop-next.auto.next

    cases : (m + 1 < c.loop-next.next) ⊎ (c.loop-next.next ≤ m + 1) → AddsLess (facts_of list) c.args.amount 0 m (length (legal_places list))
    cases (inl before) = c.loop-next.invariant list is m some before
    cases (inr here) =
        let marks = c.args.marks.now in
        let next = c.loop-next.next in
        let at : next - 1 ≡ m = omega arith in
        let end : length marks - 1 ≡ length (legal_places list) = omega (arith, count_is list marks is) in
        let less = less_of list marks c.args.amount 0 (next - 1) (length marks - 1) _ _ _ is (omega (arith, low)) (omega (arith, last, low)) (omega (arith, last))
        (got marks 0 _ (omega arith)) (got marks (next - 1) _ (omega arith)) (got marks (length marks - 1) _ (omega arith)) (c.if-not-adds_less.ensures refl) in
        subst (λ b. AddsLess (facts_of list) c.args.amount 0 m b) end (subst (λ k. AddsLess (facts_of list) c.args.amount 0 k (length marks - 1)) at less)

pub returns : goal.returns
returns c list is steady divided =
    let end : length c.args.marks.now ≤ c.loop-next.next = search rules in
    divided_by list c.args.amount steady c.requires.amount_positive
    (λ m some within. c.loop-next.invariant list is m some (omega (arith, end, within, count_is list c.args.marks.now is)))
