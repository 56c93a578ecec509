-- One turn of the walk that finds out whether a list is steady.
use Rattle.std.proofs.Common.{◌≡◌, ◌∙◌, ℕ, ◌+◌, ◌<◌, ◌≤◌, true, false, List, length, drop, get_or, ap, sym, subst, arith, Some}
use Rattle.std.specs.Prelude.{pos, ◌-ℤ◌, slice_get, nat_lt}
use Rattle.std.proofs.Math.Logic.{◌⊎◌, inl, inr}
use Rattle.std.proofs.lemmas.Int.{ints}
use Rattle.std.proofs.lemmas.Bool.{cases_lt, cond-true, cond-false}
use Rattle.std.proofs.lemmas.Bool.Decides.{nat_tests}
use Rattle.node_core.specs.declared.tree.Node.{Node}
use Rattle.break_lines.specs.declared.sums.Sums.{Sums}
use Rattle.break_lines.specs.declared.mark.MeasuredBreak.{MeasuredBreak}
use Rattle.break_lines.specs.Legal.{legal_places}
use Rattle.break_lines.specs.LineItems.{sums_of, first_item_kept, minus}
use Rattle.break_lines.specs.Facts.{facts_of, position_of, begins_at}
use Rattle.break_lines.specs.Private.Marks.{measured_break, start_mark, marks_of, no_sums, line_between, RisesOn}
use Rattle.break_lines.specs.Steady.{IsNoNarrower, IsRising, IsSteady}
use Rattle.break_lines.proofs.Marked.{start_is, place_is, begin_is, line_at, count_is, got}
use Rattle.break_lines.proofs.Places.{rising_places}
use Rattle.break_lines.proofs.Rising.{begun}

-- A sum minus itself is nothing.
nothing_left : (s : Sums) → no_sums ≡ minus s s
nothing_left s =
    let width : pos 0 ≡ s.width -ℤ s.width = omega (arith, ints) in
    let stretch : pos 0 ≡ s.stretch -ℤ s.stretch = omega (arith, ints) in
    let fil : pos 0 ≡ s.fil -ℤ s.fil = omega (arith, ints) in
    let fill : pos 0 ≡ s.fill -ℤ s.fill = omega (arith, ints) in
    let filll : pos 0 ≡ s.filll -ℤ s.filll = omega (arith, ints) in
    let shrink : pos 0 ≡ s.shrink -ℤ s.shrink = omega (arith, ints) in
    cc (width, stretch, fil, fill, filll, shrink)

-- The line from the start to a place has all items before the place.
start_line :
    (list : List Node) (marks : List MeasuredBreak) (n : ℕ) (x y : MeasuredBreak) → marks ≡ marks_of list → 0 < n → n < length marks
    → slice_get marks 0 ≡ Some x → slice_get marks n ≡ Some y → line_between x y ≡ minus (sums_of list) y.from_position
start_line list marks n x y is some within here there = cases (cases_lt x.begin y.position)
  where
    from : x ≡ start_mark list
    from = start_is list marks x is here

    to : y ≡ measured_break list (position_of list n)
    to = place_is list marks n y is some within there

    cases : (x.begin < y.position) ⊎ (y.position ≤ x.begin) → line_between x y ≡ minus (sums_of list) y.from_position
    cases (inl begins) =
        let test : nat_lt x.begin y.position ≡ true = grind (arith, nat_tests) in
        cond-true (nat_lt x.begin y.position) (minus x.from_begin y.from_position) no_sums test
        ∙ ap (λ m. minus m.from_begin y.from_position) from
    cases (inr empty) =
        let test : nat_lt x.begin y.position ≡ false = grind (arith, nat_tests) in
        let first : position_of list n ≡ 0 = omega (arith, empty, ap (λ m. m.begin) from, ap (λ m. m.position) to) in
        let all : y.from_position ≡ sums_of list = ap (λ m. m.from_position) to ∙ ap (λ k. sums_of (drop k list)) first in
        cond-false (nat_lt x.begin y.position) (minus x.from_begin y.from_position) no_sums test
        ∙ nothing_left (sums_of list) ∙ ap (minus (sums_of list)) (sym all)

-- Less is taken away from the wider line.
taken : (all s t : Sums) → IsNoNarrower s t → IsNoNarrower (minus all t) (minus all s)
taken all s t is = record { width = omega (arith, ints, is.width); shrunk = omega (arith, ints, is.shrunk) }

untaken : (all s t : Sums) → IsNoNarrower (minus all t) (minus all s) → IsNoNarrower s t
untaken all s t is = record { width = omega (arith, ints, is.width); shrunk = omega (arith, ints, is.shrunk) }

-- A line gets no narrower, in terms of its marks and in terms of the list.
risen :
    (list : List Node) (marks : List MeasuredBreak) (a b n : ℕ) (x y z : MeasuredBreak) → marks ≡ marks_of list → a < b → n ≡ b + 1 → n < length marks
    → slice_get marks a ≡ Some x → slice_get marks b ≡ Some y → slice_get marks n ≡ Some z
    → IsNoNarrower (line_between x z) (line_between x y) → IsRising (facts_of list) a b
risen list marks a b n x y z is later one within here there next rising =
    let to = line_at list marks a b x y is later (omega arith) here there in
    let on = line_at list marks a (b + 1) x z is (omega arith) (omega arith) here (ap (slice_get marks) (sym one) ∙ next) in
    subst (λ s. IsNoNarrower s ((facts_of list).sums a b)) on (subst (IsNoNarrower (line_between x z)) to rising)

unrisen :
    (list : List Node) (marks : List MeasuredBreak) (a b n : ℕ) (x y z : MeasuredBreak) → marks ≡ marks_of list → a < b → n ≡ b + 1 → n < length marks
    → slice_get marks a ≡ Some x → slice_get marks b ≡ Some y → slice_get marks n ≡ Some z
    → IsRising (facts_of list) a b → IsNoNarrower (line_between x z) (line_between x y)
unrisen list marks a b n x y z is later one within here there next rising =
    let to = line_at list marks a b x y is later (omega arith) here there in
    let on = line_at list marks a (b + 1) x z is (omega arith) (omega arith) here (ap (slice_get marks) (sym one) ∙ next) in
    subst (λ s. IsNoNarrower s (line_between x y)) (sym on) (subst (IsNoNarrower ((facts_of list).sums a (b + 1))) (sym to) rising)

-- A line to a place among the items that are dropped at its beginning is empty.
empty_line : (x y : MeasuredBreak) → y.position ≤ x.begin → line_between x y ≡ no_sums
empty_line x y dropped =
    let test : nat_lt x.begin y.position ≡ false = grind (arith, nat_tests) in
    cond-false (nat_lt x.begin y.position) (minus x.from_begin y.from_position) no_sums test

-- The line from the start.
from_start :
    (list : List Node) (marks : List MeasuredBreak) (b n : ℕ) (y z : MeasuredBreak) → marks ≡ marks_of list → 0 < b → n ≡ b + 1 → n < length marks
    → slice_get marks b ≡ Some y → slice_get marks n ≡ Some z
    → IsNoNarrower y.from_position z.from_position → IsRising (facts_of list) 0 b
from_start list marks b n y z is some one within there next wider =
    let s = get_or marks 0 y in
    let start = got marks 0 y (omega arith) in
    let to = start_line list marks b s y is some (omega arith) start there in
    let on = start_line list marks n s z is (omega arith) within start next in
    risen list marks 0 b n s y z is some one within start there next
    (subst (λ l. IsNoNarrower l (line_between s y)) (sym on)
    (subst (IsNoNarrower (minus (sums_of list) z.from_position)) (sym to) (taken (sums_of list) y.from_position z.from_position wider)))

-- The lines that a turn of the walk tests.
pub rises :
    (list : List Node) (marks : List MeasuredBreak) (a b n : ℕ) (x y z : MeasuredBreak) → marks ≡ marks_of list → b ≡ a + 1 → n ≡ b + 1 → n < length marks
    → slice_get marks a ≡ Some x → slice_get marks b ≡ Some y → slice_get marks n ≡ Some z
    → RisesOn x y z → IsRising (facts_of list) 0 b × IsRising (facts_of list) a b
rises list marks a b n x y z is after one within here there next rising =
    (first, cases (cases_lt (position_of list b) (first_item_kept list (begins_at list a))))
  where
    first : IsRising (facts_of list) 0 b
    first = from_start list marks b n y z is (omega arith) one within there next rising.wider

    places : b < length (legal_places list)
    places = omega (arith, count_is list marks is)

    cases :
        (position_of list b < first_item_kept list (begins_at list a)) ⊎ (first_item_kept list (begins_at list a) ≤ position_of list b)
        → IsRising (facts_of list) a b
    cases (inr begins) =
        begun list a b (omega arith) places (rising_places list b (b + 1) (omega arith) (omega arith) (omega (arith, places))).0 begins first
    cases (inl early) =
        let from = (begin_is list marks a x is (omega arith) here).0 in
        let to = ap (λ m. m.position) (place_is list marks b y is (omega arith) (omega arith) there) in
        let empty : y.position ≤ x.begin = omega (arith, early, from, to) in
        risen list marks a b n x y z is (omega arith) one within here there next
        (subst (IsNoNarrower (line_between x z)) (sym (empty_line x y empty)) (rising.begins empty))

pub rises_on :
    (list : List Node) (marks : List MeasuredBreak) (a b n : ℕ) (x y z : MeasuredBreak) → marks ≡ marks_of list → b ≡ a + 1 → n ≡ b + 1 → n < length marks
    → slice_get marks a ≡ Some x → slice_get marks b ≡ Some y → slice_get marks n ≡ Some z
    → IsSteady (facts_of list) → RisesOn x y z
rises_on list marks a b n x y z is after one within here there next steady =
    let s = get_or marks 0 y in
    let start = got marks 0 y (omega arith) in
    let places : b < length (legal_places list) = omega (arith, count_is list marks is) in
    let to = start_line list marks b s y is (omega arith) (omega arith) start there in
    let on = start_line list marks n s z is (omega arith) within start next in
    let first = unrisen list marks 0 b n s y z is (omega arith) one within start there next (steady 0 b (omega arith) places) in
    let second = unrisen list marks a b n x y z is (omega arith) one within here there next (steady a b (omega arith) places) in
    record {
      wider = untaken (sums_of list) y.from_position z.from_position
          (subst (λ l. IsNoNarrower l (minus (sums_of list) y.from_position)) on (subst (IsNoNarrower (line_between s z)) to first));
      begins = λ empty. subst (IsNoNarrower (line_between x z)) (empty_line x y empty) second;
    }
