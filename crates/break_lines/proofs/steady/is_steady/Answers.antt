use Rattle.std.proofs.Common.{◌≡◌, ◌+◌, ◌-◌, ◌<◌, ◌≤◌, length, refl, subst, arith, rules}
use Rattle.std.proofs.Math.Logic.{◌⊎◌, inl, inr}
use Rattle.std.proofs.lemmas.Bool.{cases_lt}
use Rattle.break_lines.specs.Facts.{Facts, facts_of}
use Rattle.break_lines.specs.Steady.{IsRising}
use Rattle.break_lines.proofs.Marked.{got, count_is}
use Rattle.break_lines.proofs.Rising.{steady_by}
use Rattle.break_lines.proofs.Steadiness.{rises, rises_on}
use Rattle.break_lines.proofs.steady.is_steady.Goals as goal

pub is_rising-requires-clause-from : goal.is_rising-requires-clause-from
is_rising-requires-clause-from c =
    let last : c.loop-next.next < length c.args.marks.now = search rules in
    c.requires.marks_bounded (c.loop-next.next - 2) _ (got c.args.marks.now (c.loop-next.next - 2) _ (omega arith))

pub is_rising-requires-clause-to : goal.is_rising-requires-clause-to
is_rising-requires-clause-to c =
    let last : c.loop-next.next < length c.args.marks.now = search rules in
    c.requires.marks_bounded (c.loop-next.next - 1) _ (got c.args.marks.now (c.loop-next.next - 1) _ (omega arith))

pub is_rising-requires-clause-next : goal.is_rising-requires-clause-next
is_rising-requires-clause-next c =
    let last : c.loop-next.next < length c.args.marks.now = search rules in
    c.requires.marks_bounded c.loop-next.next _ (got c.args.marks.now c.loop-next.next _ (omega arith))

pub returns-then-not-is_rising-clause-no : goal.returns-then-not-is_rising-clause-no
returns-then-not-is_rising-clause-no c list is steady =
    let marks = c.args.marks.now in
    let next = c.loop-next.next in
    let last : next < length marks = search rules in
    let low : 2 ≤ next = c.loop-next.auto.next in
    c.if-not-is_rising.ensures.no (rises_on list marks (next - 2) (next - 1) next _ _ _ is (omega arith) (omega arith) last
    (got marks (next - 2) _ (omega arith)) (got marks (next - 1) _ (omega arith)) (got marks next _ last) steady)

pub loop-next-preserved : goal.loop-next-preserved
loop-next-preserved c list is b some within = cases (cases_lt (b + 1) c.loop-next.next)
  where
    f : Facts
    f = facts_of list

    last : c.loop-next.next < length c.args.marks.now
    last = search rules

    low : 2 ≤ c.loop-next.next
    low = c.loop-next.auto.next

    cases : (b + 1 < c.loop-next.next) ⊎ (c.loop-next.next ≤ b + 1) → IsRising f 0 b × IsRising f (b - 1) b
    cases (inl before) = c.loop-next.invariant list is b some before
    cases (inr here) =
        let marks = c.args.marks.now in
        let next = c.loop-next.next in
        let to : next - 1 ≡ b = omega arith in
        let from : next - 2 ≡ b - 1 = omega arith in
        let both = rises list marks (next - 2) (next - 1) next _ _ _ is (omega arith) (omega arith) last
        (got marks (next - 2) _ (omega arith)) (got marks (next - 1) _ (omega arith)) (got marks next _ last)
        (c.if-not-is_rising.ensures.yes refl) in
        (subst (IsRising f 0) to both.0, subst (λ a. IsRising f a b) from (subst (IsRising f (next - 2)) to both.1))

pub returns-clause-yes : goal.returns-clause-yes
returns-clause-yes c list is rising =
    let end : length c.args.marks.now ≤ c.loop-next.next = search rules in
    steady_by list (λ b some within. c.loop-next.invariant list is b some (omega (arith, end, count_is list c.args.marks.now is)))
