-- The sums over the items of a line are differences of sums over the first items of the list.
use Rattle.std.proofs.Common.{◌≡◌, ◌∙◌, ℕ, zero, suc, ◌+◌, ◌≤◌, min, true, false, List, [], ◌∷◌, take, drop, refl, ap, sym, arith, Option, Some, None}
use Rattle.std.specs.Prelude.{ℤ, pos, ◌+ℤ◌, ◌-ℤ◌, slice_get}
use Rattle.std.proofs.Math.Logic.{◌⊎◌, inl, inr}
use Rattle.std.proofs.lemmas.Int.{ints}
use Rattle.std.proofs.lemmas.Bool.{cases_Bool, cond-true, cond-false}
use Rattle.node_core.specs.declared.tree.Node.{Node}
use Rattle.node_core.specs.declared.tree.Node.TheVariants as nodes
use Rattle.node_core.specs.declared.tree.Order.TheVariants.{Normal, Fil, Fill, Filll}
use Rattle.pack_core.specs.Items.{item_width, stretch_in, shrink_in}
use Rattle.pack_core.specs.Totals.{total}
use Rattle.pack_core.proofs.Sums.{total-append}
use Rattle.break_lines.specs.declared.sums.Sums.{Sums}
use Rattle.break_lines.specs.Legal.{is_dropped}
use Rattle.break_lines.specs.LineItems.{BeginsBefore, at_break, without_first, kept_items, sums_of, lead, first_item_kept, minus}

take_none : (n : ℕ) → take {A = Node} n [] ≡ []
take_none zero = refl
take_none (suc n) = refl

-- Dropping the items at the beginning subtracts their sum.
front_dropped :
    (f : Node → ℤ) (list : List Node) (b : ℕ)
    → total f (without_first (take b list)) ≡ total f (take b list) -ℤ total f (take (min b (lead list)) list)
front_dropped f list zero =
    let n : min 0 (lead list) ≡ 0 = omega arith in
    let first : total f (take (min 0 (lead list)) list) ≡ pos 0 = ap (λ k. total f (take k list)) n in
    omega (arith, ints, first)
front_dropped f [] (suc b) = ap (λ xs. pos 0 -ℤ total f xs) (sym (take_none (min (suc b) 0)))
front_dropped f (x ∷ list) (suc b) = cases (front_dropped f list b) (cases_Bool (is_dropped x))
  where
    cases :
        total f (without_first (take b list)) ≡ total f (take b list) -ℤ total f (take (min b (lead list)) list)
        → (is_dropped x ≡ true) ⊎ (is_dropped x ≡ false)
        → total f (without_first (x ∷ take b list)) ≡ (f x +ℤ total f (take b list)) -ℤ total f (take (min (suc b) (lead (x ∷ list))) (x ∷ list))
    cases before (inl is) =
        let front : without_first (x ∷ take b list) ≡ without_first (take b list) = cond-true (is_dropped x) (without_first (take b list)) (x ∷ take b list) is in
        let more : lead (x ∷ list) ≡ lead list + 1 = cond-true (is_dropped x) (lead list + 1) 0 is in
        let n : min (suc b) (lead (x ∷ list)) ≡ suc (min b (lead list)) = omega (arith, more) in
        let last : total f (take (min (suc b) (lead (x ∷ list))) (x ∷ list)) ≡ f x +ℤ total f (take (min b (lead list)) list) =
        ap (λ k. total f (take k (x ∷ list))) n in
        omega (arith, ints, ap (total f) front, last, before)
    cases before (inr is) =
        let front : without_first (x ∷ take b list) ≡ x ∷ take b list = cond-false (is_dropped x) (without_first (take b list)) (x ∷ take b list) is in
        let more : lead (x ∷ list) ≡ 0 = cond-false (is_dropped x) (lead list + 1) 0 is in
        let n : min (suc b) (lead (x ∷ list)) ≡ 0 = omega (arith, more) in
        let last : total f (take (min (suc b) (lead (x ∷ list))) (x ∷ list)) ≡ pos 0 = ap (λ k. total f (take k (x ∷ list))) n in
        omega (arith, ints, ap (total f) front, last)

-- The same after the first c items.
after_dropped :
    (f : Node → ℤ) (list : List Node) (c b : ℕ) → c ≤ b
    → total f (without_first (drop c (take b list))) ≡ total f (take b list) -ℤ total f (take (min b (c + lead (drop c list))) list)
after_dropped f list zero b low =
    let same : 0 + lead list ≡ lead list = omega arith in
    front_dropped f list b ∙ ap (λ n. total f (take b list) -ℤ total f (take (min b n) list)) (sym same)
after_dropped f list (suc c) zero low = absurd (omega arith)
after_dropped f [] (suc c) (suc b) low = ap (λ xs. pos 0 -ℤ total f xs) (sym (take_none (min (suc b) (suc c + 0))))
after_dropped f (x ∷ list) (suc c) (suc b) low =
    let before = after_dropped f list c b (omega arith) in
    let n : min (suc b) (suc c + lead (drop c list)) ≡ suc (min b (c + lead (drop c list))) = omega arith in
    let last : total f (take (min (suc b) (suc c + lead (drop c list))) (x ∷ list)) ≡ f x +ℤ total f (take (min b (c + lead (drop c list))) list) =
    ap (λ k. total f (take k (x ∷ list))) n in
    omega (arith, ints, last, before)

-- The rest of the item at the end of a line adds nothing.
abbrev pub IsNothingAtBreaks : (Node → ℤ) → Type 0
IsNothingAtBreaks f = (node : Option Node) → total f (at_break node) ≡ pos 0

pub kept_total :
    (f : Node → ℤ) (list : List Node) (from : Option ℕ) (b : ℕ) → IsNothingAtBreaks f → BeginsBefore from b
    → total f (kept_items list from b) ≡ total f (take b list) -ℤ total f (take (min b (first_item_kept list from)) list)
kept_total f list None b none before =
    let end = none (slice_get list b) in
    let parts = total-append f (take b list) (at_break (slice_get list b)) in
    let n : min b 0 ≡ 0 = omega arith in
    let first : total f (take (min b 0) list) ≡ pos 0 = ap (λ k. total f (take k list)) n in
    omega (arith, ints, end, parts, first)
kept_total f list (Some a) b none before =
    let end = none (slice_get list b) in
    let parts = total-append f (without_first (drop (a + 1) (take b list))) (at_break (slice_get list b)) in
    omega (arith, ints, end, parts, after_dropped f list (a + 1) b (omega arith))

nothing : (f : Node → ℤ) → f (nodes.Kern (pos 0)) ≡ pos 0 → ((penalty : ℤ) → f (nodes.Penalty penalty) ≡ pos 0) → IsNothingAtBreaks f
nothing f kern penalty None = refl
nothing f kern penalty (Some (nodes.Kern width)) = omega (arith, ints, kern)
nothing f kern penalty (Some (nodes.Penalty p)) = omega (arith, ints, penalty p)
nothing f kern penalty (Some (nodes.Glyph g)) = refl
nothing f kern penalty (Some (nodes.FontKern width)) = refl
nothing f kern penalty (Some (nodes.Glue g)) = refl
nothing f kern penalty (Some (nodes.Rule sizes)) = refl
nothing f kern penalty (Some (nodes.Special text)) = refl
nothing f kern penalty (Some (nodes.Box shift b)) = refl

-- The sums over the items of a line are a difference of sums over first items.
pub kept_sums :
    (list : List Node) (from : Option ℕ) (b : ℕ) → BeginsBefore from b
    → sums_of (kept_items list from b) ≡ minus (sums_of (take b list)) (sums_of (take (min b (first_item_kept list from)) list))
unfolding sums_of
kept_sums list from b before =
    let width = kept_total item_width list from b (nothing item_width refl (λ p. refl)) before in
    let stretch = kept_total (stretch_in Normal) list from b (nothing (stretch_in Normal) refl (λ p. refl)) before in
    let fil = kept_total (stretch_in Fil) list from b (nothing (stretch_in Fil) refl (λ p. refl)) before in
    let fill = kept_total (stretch_in Fill) list from b (nothing (stretch_in Fill) refl (λ p. refl)) before in
    let filll = kept_total (stretch_in Filll) list from b (nothing (stretch_in Filll) refl (λ p. refl)) before in
    let shrink = kept_total (shrink_in Normal) list from b (nothing (shrink_in Normal) refl (λ p. refl)) before in
    cc (width, stretch, fil, fill, filll, shrink)

-- If all items are dropped, the sums are 0.
pub kept_nothing :
    (list : List Node) (from : Option ℕ) (b : ℕ) → BeginsBefore from b → b ≤ first_item_kept list from
    → sums_of (kept_items list from b) ≡ record { width = pos 0; stretch = pos 0; fil = pos 0; fill = pos 0; filll = pos 0; shrink = pos 0 }
kept_nothing list from b before all =
    let n : min b (first_item_kept list from) ≡ b = omega arith in
    kept_sums list from b before ∙ ap (λ k. minus (sums_of (take b list)) (sums_of (take k list))) n ∙ none (sums_of (take b list))
  where
    none : (s : Sums) → minus s s ≡ record { width = pos 0; stretch = pos 0; fil = pos 0; fill = pos 0; filll = pos 0; shrink = pos 0 }
    none s =
        let width : s.width -ℤ s.width ≡ pos 0 = omega (arith, ints) in
        let stretch : s.stretch -ℤ s.stretch ≡ pos 0 = omega (arith, ints) in
        let fil : s.fil -ℤ s.fil ≡ pos 0 = omega (arith, ints) in
        let fill : s.fill -ℤ s.fill ≡ pos 0 = omega (arith, ints) in
        let filll : s.filll -ℤ s.filll ≡ pos 0 = omega (arith, ints) in
        let shrink : s.shrink -ℤ s.shrink ≡ pos 0 = omega (arith, ints) in
        cc (width, stretch, fil, fill, filll, shrink)

pub kept_some :
    (list : List Node) (from : Option ℕ) (b : ℕ) → BeginsBefore from b → first_item_kept list from ≤ b
    → sums_of (kept_items list from b) ≡ minus (sums_of (take b list)) (sums_of (take (first_item_kept list from) list))
kept_some list from b before some =
    let n : min b (first_item_kept list from) ≡ first_item_kept list from = omega arith in
    kept_sums list from b before ∙ ap (λ k. minus (sums_of (take b list)) (sums_of (take k list))) n
