-- Divided lists: the line from the start to the end, divided at each place, decides for all lines.
use Rattle.std.proofs.Common.{◌≡◌, ◌∙◌, ℕ, zero, suc, ◌+◌, ◌-◌, ◌<◌, ◌≤◌, min, List, length, take, ap, subst, arith, Some}
use Rattle.std.specs.Prelude.{ℤ, pos, ◌-ℤ◌, ◌<ℤ◌, ◌≤ℤ◌, slice_get}
use Rattle.std.proofs.Math.Logic.{◌⊎◌, inl, inr}
use Rattle.std.proofs.lemmas.Int.{ints}
use Rattle.std.proofs.lemmas.Bool.{cases_lt}
use Rattle.node_core.specs.declared.tree.Node.{Node}
use Rattle.break_lines.specs.declared.sums.Sums.{Sums}
use Rattle.break_lines.specs.Sizes.{least_width}
use Rattle.break_lines.specs.Legal.{legal_places}
use Rattle.break_lines.specs.LineItems.{sums_of, first_item_kept, minus}
use Rattle.break_lines.specs.Facts.{Facts, facts_of, position_of, begins_at}
use Rattle.break_lines.specs.Steady.{IsSteady}
use Rattle.break_lines.specs.Divided.{IsLess, AddsLess, IsDivided}
use Rattle.break_lines.specs.declared.mark.MeasuredBreak.{MeasuredBreak}
use Rattle.break_lines.specs.Private.Marks.{marks_of, line_between}
use Rattle.break_lines.proofs.KeptSums.{kept_sums}
use Rattle.break_lines.proofs.Places.{rising_places, begins_some, begins_before}
use Rattle.break_lines.proofs.Marked.{line_at}
use Rattle.break_lines.proofs.Rising.{first_same}

-- In a steady paragraph a line that is shrunk as far as it can gets no narrower by going on.
rises_by :
    (facts : Facts) (a b n : ℕ) → IsSteady facts → a < b → b + n ≤ facts.places
    → least_width (facts.sums a b) ≤ℤ least_width (facts.sums a (b + n))
rises_by facts a b zero steady earlier within =
    let same : b ≡ b + 0 = omega arith in
    subst (λ l. least_width (facts.sums a b) ≤ℤ least_width (facts.sums a l)) same (omega (arith, ints))
rises_by facts a b (suc n) steady earlier within =
    let before = rises_by facts a b n steady earlier (omega arith) in
    let same : b + n + 1 ≡ b + suc n = omega arith in
    let next = (steady a (b + n) (omega arith) (omega arith)).shrunk in
    subst (λ l. least_width (facts.sums a b) ≤ℤ least_width (facts.sums a l)) same (omega (arith, ints, before, next))

pub least_rises :
    (facts : Facts) (a b l : ℕ) → IsSteady facts → a < b → b ≤ l → l ≤ facts.places
    → least_width (facts.sums a b) ≤ℤ least_width (facts.sums a l)
least_rises facts a b l steady earlier later within =
    let same : b + (l - b) ≡ l = omega arith in
    subst (λ k. least_width (facts.sums a b) ≤ℤ least_width (facts.sums a k)) same (rises_by facts a b (l - b) steady earlier (omega arith))

-- The width of the first items of a list, shrunk as far as they can.
abbrev front_width : List Node → ℕ → ℤ
front_width list k = least_width (sums_of (take k list))

least_minus : (s t : Sums) → least_width (minus s t) ≡ least_width s -ℤ least_width t
least_minus s t = omega (arith, ints)

line_width :
    (list : List Node) (a b : ℕ) → a < b → b ≤ length (legal_places list)
    → least_width ((facts_of list).sums a b)
    ≡ front_width list (position_of list b) -ℤ front_width list (min (position_of list b) (first_item_kept list (begins_at list a)))
line_width list a b earlier within =
    let s = sums_of (take (position_of list b) list) in
    let f = sums_of (take (min (position_of list b) (first_item_kept list (begins_at list a))) list) in
    ap least_width (kept_sums list (begins_at list a) (position_of list b) (begins_before list a b earlier within)) ∙ least_minus s f

-- The width of a line that begins before its end, and of one that does not.
begun_width :
    (list : List Node) (a b : ℕ) → a < b → b ≤ length (legal_places list) → first_item_kept list (begins_at list a) ≤ position_of list b
    → least_width ((facts_of list).sums a b)
    ≡ front_width list (position_of list b) -ℤ front_width list (first_item_kept list (begins_at list a))
begun_width list a b earlier within begun =
    let n : min (position_of list b) (first_item_kept list (begins_at list a)) ≡ first_item_kept list (begins_at list a) = omega arith in
    line_width list a b earlier within ∙ ap (λ k. front_width list (position_of list b) -ℤ front_width list k) n

not_begun_width :
    (list : List Node) (a b : ℕ) → a < b → b ≤ length (legal_places list) → position_of list b < first_item_kept list (begins_at list a)
    → least_width ((facts_of list).sums a b) ≡ pos 0
not_begun_width list a b earlier within early =
    let n : min (position_of list b) (first_item_kept list (begins_at list a)) ≡ position_of list b = omega arith in
    let same = line_width list a b earlier within ∙ ap (λ k. front_width list (position_of list b) -ℤ front_width list k) n in
    omega (arith, ints, same)

-- The position of a place is not before that of an earlier one.
later_place :
    (list : List Node) (a b : ℕ) → 0 < a → a ≤ b → b ≤ length (legal_places list) → position_of list a ≤ position_of list b
later_place list a b some earlier within = cases (cases_lt a b)
  where
    cases : (a < b) ⊎ (b ≤ a) → position_of list a ≤ position_of list b
    cases (inl less) = omega (arith, (rising_places list a b some less within).0)
    cases (inr same) =
        let one : a ≡ b = omega arith in
        omega (arith, ap (position_of list) one)

-- If a line has not begun at the place where it is divided, it is as wide as the second of the two.
not_begun :
    (list : List Node) (amount : ℤ) (a m b : ℕ)
    → pos 0 <ℤ amount → a < m → m < b → b ≤ length (legal_places list) → position_of list m < first_item_kept list (begins_at list a)
    → AddsLess (facts_of list) amount a m b
not_begun list amount zero m b some later before within early = absurd (omega (arith, early))
not_begun list amount (suc n) m b some later before within early =
    let a = suc n in
    let from_m : begins_at list m ≡ Some (position_of list m) = begins_some list m (omega arith) in
    let places = rising_places list a m (omega arith) later (omega arith) in
    let first = ap (first_item_kept list) from_m ∙ first_same list (position_of list a) (position_of list m) (omega (arith, places.0)) early in
    let front = not_begun_width list a m later (omega arith) early in
    let back = line_width list m b before within
    ∙ ap (λ k. front_width list (position_of list b) -ℤ front_width list (min (position_of list b) k)) first in
    let whole = line_width list a b (omega arith) within in
    omega (arith, ints, front, back, whole)

-- If a line has begun there, the two are wider by less than the amount.
begun :
    (list : List Node) (amount : ℤ) (a m b : ℕ)
    → IsSteady (facts_of list) → pos 0 <ℤ amount → a < m → m < b → b ≤ length (legal_places list)
    → first_item_kept list (begins_at list a) ≤ position_of list m → AddsLess (facts_of list) amount 0 m (length (legal_places list))
    → AddsLess (facts_of list) amount a m b
begun list amount a m b steady some later before within low is = cases (cases_lt (position_of list b) (first_item_kept list (begins_at list m)))
  where
    end : ℕ
    end = length (legal_places list)

    cases :
        (position_of list b < first_item_kept list (begins_at list m)) ⊎ (first_item_kept list (begins_at list m) ≤ position_of list b)
        → AddsLess (facts_of list) amount a m b
    cases (inl early) =
        let back = not_begun_width list m b before within early in
        let rises = least_rises (facts_of list) a m b steady later (omega arith) within in
        omega (arith, ints, back, rises)
    cases (inr begins) =
        let last = later_place list b end (omega arith) within (omega arith) in
        let next = rising_places list m b (omega arith) before within in
        let front = begun_width list a m later (omega arith) low in
        let back = begun_width list m b before within begins in
        let whole = begun_width list a b (omega arith) within (omega (arith, low, next.0)) in
        let all_front = begun_width list 0 m (omega arith) (omega arith) (omega arith) in
        let all_back = begun_width list m end (omega arith) (omega arith) (omega (arith, begins, last)) in
        let all = begun_width list 0 end (omega arith) (omega arith) (omega arith) in
        omega (arith, ints, front, back, whole, all_front, all_back, all, is)

pub divided_by :
    (list : List Node) (amount : ℤ)
    → IsSteady (facts_of list) → pos 0 <ℤ amount
    → ((m : ℕ) → 0 < m → m < length (legal_places list) → AddsLess (facts_of list) amount 0 m (length (legal_places list)))
    → IsDivided (facts_of list) amount
divided_by list amount steady some is a m b later before within = cases (cases_lt (position_of list m) (first_item_kept list (begins_at list a)))
  where
    cases :
        (position_of list m < first_item_kept list (begins_at list a)) ⊎ (first_item_kept list (begins_at list a) ≤ position_of list m)
        → AddsLess (facts_of list) amount a m b
    cases (inl early) = not_begun list amount a m b some later before within early
    cases (inr low) = begun list amount a m b steady some later before within low (is m (omega arith) (omega arith))

-- The same in terms of the marks.
pub less_of :
    (list : List Node) (marks : List MeasuredBreak) (amount : ℤ) (a m b : ℕ) (x y z : MeasuredBreak) → marks ≡ marks_of list → a < m → m < b → b < length marks
    → slice_get marks a ≡ Some x → slice_get marks m ≡ Some y → slice_get marks b ≡ Some z
    → IsLess (line_between x y) (line_between y z) (line_between x z) amount → AddsLess (facts_of list) amount a m b
less_of list marks amount a m b x y z is later before within here there end less =
    let front = line_at list marks a m x y is later (omega arith) here there in
    let back = line_at list marks m b y z is before within there end in
    let whole = line_at list marks a b x z is (omega arith) within here end in
    subst (λ s. IsLess ((facts_of list).sums a m) ((facts_of list).sums m b) s amount) whole
    (subst (λ s. IsLess ((facts_of list).sums a m) s (line_between x z) amount) back
    (subst (λ s. IsLess s (line_between y z) (line_between x z) amount) front less))
