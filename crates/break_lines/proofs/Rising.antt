-- Steady lists: the lines from the start and from the place directly before each place decide for all.
use Rattle.std.proofs.Common.{◌≡◌, ◌∙◌, ℕ, zero, suc, ◌+◌, ◌-◌, ◌<◌, ◌≤◌, min, true, false, List, [], ◌∷◌, length, take, drop, ap, sym, subst, arith, Some, None}
use Rattle.std.proofs.Math.Seq.{drop-nil}
use Rattle.std.proofs.Math.Logic.{◌⊎◌, inl, inr}
use Rattle.std.proofs.lemmas.Int.{ints}
use Rattle.std.proofs.lemmas.Bool.{cases_Bool, cases_lt, cond-true, cond-false}
use Rattle.node_core.specs.declared.tree.Node.{Node}
use Rattle.break_lines.specs.declared.sums.Sums.{Sums}
use Rattle.break_lines.specs.Legal.{is_dropped, legal_places}
use Rattle.break_lines.specs.LineItems.{kept_items, sums_of, lead, first_item_kept, minus}
use Rattle.break_lines.specs.Facts.{facts_of, position_of, begins_at}
use Rattle.break_lines.specs.Steady.{IsNoNarrower, IsRising, IsSteady}
use Rattle.break_lines.proofs.KeptSums.{kept_sums, kept_some}
use Rattle.break_lines.proofs.Places.{rising_places, begins_some, begins_before}

-- Each of the dropped items at the beginning is followed by the rest of them.
lead_drop : (list : List Node) (j : ℕ) → j ≤ lead list → j + lead (drop j list) ≡ lead list
lead_drop list zero low = omega arith
lead_drop [] (suc j) low = absurd (omega arith)
lead_drop (x ∷ list) (suc j) low = cases (lead_drop list j) (cases_Bool (is_dropped x))
  where
    cases : (j ≤ lead list → j + lead (drop j list) ≡ lead list) → (is_dropped x ≡ true) ⊎ (is_dropped x ≡ false) → suc j + lead (drop j list) ≡ lead (x ∷ list)
    cases before (inl is) =
        let more : lead (x ∷ list) ≡ lead list + 1 = cond-true (is_dropped x) (lead list + 1) 0 is in
        omega (arith, more, before (omega (arith, more)))
    cases before (inr is) =
        let none : lead (x ∷ list) ≡ 0 = cond-false (is_dropped x) (lead list + 1) 0 is in
        absurd (omega (arith, none))

drop_more : (list : List Node) (i j : ℕ) → drop j (drop i list) ≡ drop (i + j) list
drop_more list zero j = let n : j ≡ zero + j = omega arith in ap (λ k. drop k list) n
drop_more [] (suc i) j = drop-nil j ∙ sym (drop-nil (suc i + j))
drop_more (x ∷ list) (suc i) j = let n : suc (i + j) ≡ suc i + j = omega arith in drop_more list i j ∙ ap (λ k. drop k (x ∷ list)) n

-- Lines from two places with only dropped items between them begin at the same item.
pub first_same : (list : List Node) (a x : ℕ) → a ≤ x → x < first_item_kept list (Some a) → first_item_kept list (Some x) ≡ first_item_kept list (Some a)
first_same list a x later before =
    let j = x - a in
    let n : (a + 1) + j ≡ x + 1 = omega arith in
    let same : drop j (drop (a + 1) list) ≡ drop (x + 1) list = drop_more list (a + 1) j ∙ ap (λ k. drop k list) n in
    omega (arith, lead_drop (drop (a + 1) list) j (omega (arith, before)), ap lead same, n)

-- Items that are added change the width of each line that has begun as much as that of the line from the start.
rising_from :
    (s t z f : Sums) → IsNoNarrower (minus t z) (minus s z) → IsNoNarrower (minus t f) (minus s f)
rising_from s t z f is = record { width = omega (arith, ints, is.width); shrunk = omega (arith, ints, is.shrunk) }

pub begun :
    (list : List Node) (a b : ℕ) → a < b → b < length (legal_places list) → position_of list b < position_of list (b + 1)
    → first_item_kept list (begins_at list a) ≤ position_of list b → IsRising (facts_of list) 0 b → IsRising (facts_of list) a b
begun list a b earlier within rises low is =
    let from = begins_at list a in
    let s = sums_of (take (position_of list b) list) in
    let t = sums_of (take (position_of list (b + 1)) list) in
    let z = sums_of (take 0 list) in
    let f = sums_of (take (first_item_kept list from) list) in
    let s_a : sums_of (kept_items list from (position_of list b)) ≡ minus s f =
    kept_some list from (position_of list b) (begins_before list a b earlier (omega arith)) low in
    let t_a : sums_of (kept_items list from (position_of list (b + 1))) ≡ minus t f =
    kept_some list from (position_of list (b + 1)) (begins_before list a (b + 1) (omega arith) (omega arith)) (omega arith) in
    let s_0 : sums_of (kept_items list None (position_of list b)) ≡ minus s z = kept_some list None (position_of list b) tt (omega arith) in
    let t_0 : sums_of (kept_items list None (position_of list (b + 1))) ≡ minus t z = kept_some list None (position_of list (b + 1)) tt (omega arith) in
    let first : IsNoNarrower (minus t z) (minus s z) = subst (λ x. IsNoNarrower (minus t z) x) s_0 (subst (λ x. IsNoNarrower x (sums_of (kept_items list None (position_of list b)))) t_0 is) in
    subst (λ x. IsNoNarrower x (sums_of (kept_items list from (position_of list b)))) (sym t_a) (subst (λ x. IsNoNarrower (minus t f) x) (sym s_a) (rising_from s t z f first))

-- A line that has not begun is the line from the place directly before its end.
not_begun :
    (list : List Node) (a b : ℕ) → 0 < a → a < b → b < length (legal_places list)
    → position_of list b < first_item_kept list (begins_at list a) → IsRising (facts_of list) (b - 1) b → IsRising (facts_of list) a b
not_begun list a b some earlier within early is = cases (cases_lt a (b - 1))
  where
    cases : (a < b - 1) ⊎ (b - 1 ≤ a) → IsRising (facts_of list) a b
    cases (inr same) =
        let one : b - 1 ≡ a = omega arith in
        subst (λ n. IsRising (facts_of list) n b) one is
    cases (inl less) =
        let c = b - 1 in
        let from_a : begins_at list a ≡ Some (position_of list a) = begins_some list a some in
        let from_c : begins_at list c ≡ Some (position_of list c) = begins_some list c (omega arith) in
        let p_a = rising_places list a c some less (omega arith) in
        let p_c = rising_places list c b (omega arith) (omega arith) (omega arith) in
        let first = first_same list (position_of list a) (position_of list c) (omega (arith, p_a.0))
        (omega (arith, p_c.0, early, ap (first_item_kept list) from_a)) in
        let same : first_item_kept list (begins_at list c) ≡ first_item_kept list (begins_at list a) =
        ap (first_item_kept list) from_c ∙ first ∙ ap (first_item_kept list) (sym from_a) in
        let to = λ (n : ℕ) (low : c < n) (last : n ≤ length (legal_places list)).
        kept_sums list (begins_at list c) (position_of list n) (begins_before list c n low last)
        ∙ ap (λ k. minus (sums_of (take (position_of list n) list)) (sums_of (take (min (position_of list n) k) list))) same
        ∙ sym (kept_sums list (begins_at list a) (position_of list n) (begins_before list a n (omega (arith, less, low)) last)) in
        let here = to b (omega arith) (omega arith) in
        let next = to (b + 1) (omega arith) (omega arith) in
        subst (λ x. IsNoNarrower x (sums_of (kept_items list (begins_at list a) (position_of list b)))) next
        (subst (λ x. IsNoNarrower (sums_of (kept_items list (begins_at list c) (position_of list (b + 1)))) x) here is)

pub steady_by :
    (list : List Node)
    → ((b : ℕ) → 0 < b → b < length (legal_places list) → IsRising (facts_of list) 0 b × IsRising (facts_of list) (b - 1) b)
    → IsSteady (facts_of list)
steady_by list is zero b earlier within = (is b (omega arith) within).0
steady_by list is (suc a) b earlier within = cases (cases_lt (position_of list b) (first_item_kept list (begins_at list (suc a))))
  where
    cases :
        (position_of list b < first_item_kept list (begins_at list (suc a))) ⊎ (first_item_kept list (begins_at list (suc a)) ≤ position_of list b)
        → IsRising (facts_of list) (suc a) b
    cases (inl early) = not_begun list (suc a) b (omega arith) earlier within early (is b (omega arith) within).1
    cases (inr begins) =
        let rises = rising_places list b (b + 1) (omega arith) (omega arith) (omega arith) in
        begun list (suc a) b earlier within rises.0 begins (is b (omega arith) within).0
