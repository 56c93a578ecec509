use Rattle.std.proofs.Common.{◌≡◌, ◌+◌, ◌-◌, ◌<◌, ◌≤◌, Bool, true, false, length, refl, subst, arith, rules}
use Rattle.std.proofs.Math.Logic.{◌⊎◌, inl, inr}
use Rattle.std.proofs.lemmas.Bool.{cases_lt}
use Rattle.break_lines.proofs.Marked.{got, count_is}
use Rattle.break_lines.proofs.Evenness.{GoesOn, goes_on_next, goes_on_grown, even_by}
use Rattle.break_lines.proofs.even.is_even.Goals as goal

pub goes_on-requires-clause-here : goal.goes_on-requires-clause-here
goes_on-requires-clause-here c =
    let last : c.loop-next.next < length c.args.marks.now = search rules in
    c.requires.marks_bounded (c.loop-next.next - 1) _ (got c.args.marks.now (c.loop-next.next - 1) _ (omega (arith, last)))

pub goes_on-requires-clause-next : goal.goes_on-requires-clause-next
goes_on-requires-clause-next c =
    let last : c.loop-next.next < length c.args.marks.now = search rules in
    c.requires.marks_bounded c.loop-next.next _ (got c.args.marks.now c.loop-next.next _ last)

pub loop-next-preserved : goal.loop-next-preserved
loop-next-preserved c list is grows k within = cases (cases_lt (k + 1) c.loop-next.next)
  where
    last : c.loop-next.next < length c.args.marks.now
    last = search rules

    low : 1 ≤ c.loop-next.next
    low = c.loop-next.auto.next

    cases : (k + 1 < c.loop-next.next) ⊎ (c.loop-next.next ≤ k + 1) → GoesOn list k
    cases (inl before) = c.loop-next.invariant list is grows k before
    cases (inr here) = by_kind c.args.stretch_grows refl
      where
        at : c.loop-next.next - 1 ≡ k
        at = omega (arith, here, within)

        by_kind : (grown : Bool) → c.args.stretch_grows ≡ grown → GoesOn list k
        by_kind false e =
            let marks = c.args.marks.now in
            let next = c.loop-next.next in
            subst (GoesOn list) at
            (goes_on_next list marks (next - 1) next _ _ is (omega (arith, low)) last (got marks (next - 1) _ (omega (arith, last)))
            (got marks next _ last) (c.if-not-goes_on.ensures.all refl e))
        by_kind true e =
            let marks = c.args.marks.now in
            let next = c.loop-next.next in
            subst (GoesOn list) at
            (goes_on_next list marks (next - 1) next _ _ is (omega (arith, low)) last (got marks (next - 1) _ (omega (arith, last)))
            (got marks next _ last)
            (goes_on_grown list marks (next - 1) next _ _ is (omega (arith, low)) last (got marks (next - 1) _ (omega (arith, last)))
            (got marks next _ last) (grows e) (c.if-not-goes_on.ensures.width refl e)))

pub returns : goal.returns
returns c list is grows even =
    let end : length c.args.marks.now ≤ c.loop-next.next = search rules in
    even_by list (λ k within. c.loop-next.invariant list is grows k (omega (arith, end, within, count_is list c.args.marks.now is)))
