-- The search for the place of least cost.
use Rattle.std.proofs.Common.{◌≡◌, ◌∙◌, ℕ, ◌+◌, ◌-◌, ◌≤◌, ◌&&◌, List, [], ◌∷◌, ◌++◌, length, suc, Bool, true, false, refl, ap, arith, sym}
use Rattle.std.specs.Prelude.{ℤ, int_lt, Option, Some, None}
use Rattle.std.proofs.lemmas.Int.{ints}
use Rattle.std.specs.List.{list_all, filter_map, range_with_len}
use Rattle.std.specs.Option.{IfSome}
use Rattle.std.proofs.lemmas.List.{drop_all, take_all}
use Rattle.std.proofs.Math.Bool.{or-true}
use Rattle.std.proofs.Common.{◌==◌}
use Rattle.node_core.specs.declared.params.SplitParams.{SplitParams}
use Rattle.node_core.specs.declared.tree.Node.{Node}
use Rattle.vert_core.specs.declared.trials.Trial.{Trial}
use Rattle.vert_core.specs.Costs.{awful, cost, is_last, front_badness}
use Rattle.vert_core.specs.Split.{trial_at, trials, up_to_last, is_cheaper, last_cheapest, trial_place, split_place}
use Rattle.vert_core.specs.Places.{eject, place_penalty}
use Rattle.vert_core.specs.Private.Steps.{cheaper_trial, trial_list, trials_from, IsOpen}

less-trans : (a b c : ℤ) → int_lt a b ≡ true → int_lt b c ≡ true → int_lt a c ≡ true
less-trans a b c ab bc = here (int_lt a c) refl
  where
    here : (less : Bool) → int_lt a c ≡ less → int_lt a c ≡ true
    here true e = e
    here false e = absurd (omega (arith, ints))

pub both-true : (a b : Bool) → (a && b) ≡ true → (a ≡ true) × (b ≡ true)
both-true true true e = (refl, refl)
both-true true false e = absurd (cc)
both-true false b e = absurd (cc)

-- A trial that is cheaper than another one is cheaper than everything that the other one is cheaper than.
pub cheaper-all : (best t : Trial) (ts : List Trial) → is_cheaper best t ≡ true → list_all (is_cheaper t) ts ≡ true → list_all (is_cheaper best) ts ≡ true
cheaper-all best t [] less all = refl
cheaper-all best t (x ∷ xs) less all =
    let parts = both-true (is_cheaper t x) (list_all (is_cheaper t) xs) all in
    rw (less-trans (cost best) (cost t) (cost x) less parts.0, cheaper-all best t xs less parts.1) refl

-- One of the best trial so far and the next one is kept.
kept-by :
    (best t : Trial) (ts : List Trial) (less all rest : Bool) → is_cheaper best t ≡ less → list_all (is_cheaper best) ts ≡ all → list_all (is_cheaper t) ts ≡ rest
    → last_cheapest (best ∷ t ∷ ts) ≡ last_cheapest (cheaper_trial (Some best) t ∷ ts)
kept-by best t ts false all rest less-is all-is rest-is = rw less-is refl
kept-by best t ts true true rest less-is all-is rest-is = rw (less-is, all-is) refl
kept-by best t ts true false true less-is all-is rest-is = let other = cheaper-all best t ts less-is rest-is in absurd (cc)
kept-by best t ts true false false less-is all-is rest-is = rw (less-is, all-is, rest-is) refl

pub kept : (best : Option Trial) (t : Trial) (ts : List Trial) → last_cheapest (trial_list best ++ t ∷ ts) ≡ last_cheapest (cheaper_trial best t ∷ ts)
kept None t ts = refl
kept (Some best) t ts = kept-by best t ts (is_cheaper best t) (list_all (is_cheaper best) ts) (list_all (is_cheaper t) ts) refl refl refl

-- The trials of the places from i on begin with that of i, if there is one.
places-more : (n i : ℕ) → i ≤ n → range_with_len i (n + 1 - i) ≡ i ∷ range_with_len (i + 1) (n + 1 - (i + 1))
places-more n i within = let more : n + 1 - i ≡ suc (n + 1 - (i + 1)) = omega arith in rw more refl

pub trials-none :
    (params : SplitParams) (goal : ℤ) (items : List Node) (i : ℕ) → i ≤ length items → trial_at params goal items i ≡ None
    → trials_from params goal items i ≡ trials_from params goal items (i + 1)
unfolding trials_from
trials-none params goal items i within none = rw (places-more (length items) i within, none) refl

pub trials-some :
    (params : SplitParams) (goal : ℤ) (items : List Node) (i : ℕ) (t : Trial) → i ≤ length items → trial_at params goal items i ≡ Some t
    → trials_from params goal items i ≡ t ∷ trials_from params goal items (i + 1)
unfolding trials_from
trials-some params goal items i t within some = rw (places-more (length items) i within, some) refl

-- There is a trial at the end of the list, and it is the last.
pub trial-end :
    (params : SplitParams) (goal : ℤ) (items : List Node) (badness : ℕ) → badness ≡ front_badness params goal items
    → trial_at params goal items (length items) ≡ Some (record { place = length items; penalty = eject; badness = badness })
unfolding place_penalty
trial-end params goal items badness is =
    rw (drop_all (length items) items (omega arith), take_all (length items) items (omega arith), is) refl

pub end-last : (i badness : ℕ) → is_last (record { place = i; penalty = eject; badness = badness }) ≡ true
unfolding is_last
end-last i badness = or-true (badness == awful)

-- All trials are those of the places from the first on.
pub trials-all : (params : SplitParams) (goal : ℤ) (items : List Node) → trials_from params goal items 0 ≡ trials params goal items
unfolding trials_from
trials-all params goal items =
    let all : length items + 1 - 0 ≡ length items + 1 = omega arith in ap (λ (n : ℕ). filter_map (trial_at params goal items) (range_with_len 0 n)) all

-- The kept trial is one of the two.
pub kept-open : (items : List Node) (best : Option Trial) (t : Trial) → IfSome best (λ b. IsOpen items b.place) → IsOpen items t.place → IsOpen items ((cheaper_trial best t).place)
kept-open items None t so_far here = here
kept-open items (Some best) t so_far here = by (is_cheaper best t) refl
  where
    by : (less : Bool) → is_cheaper best t ≡ less → IsOpen items ((cheaper_trial (Some best) t).place)
    by true e = rw e so_far
    by false e = rw e here

-- The chosen trial is among the best one so far and those of the places from i on.
abbrev pub IsChosenFrom : SplitParams → (goal : ℤ) → List Node → Option Trial → ℕ → Type 0
IsChosenFrom params goal items best i =
    last_cheapest (trial_list best ++ up_to_last (trials_from params goal items i)) ≡ last_cheapest (up_to_last (trials params goal items))

pub chosen-none :
    (params : SplitParams) (goal : ℤ) (items : List Node) (best : Option Trial) (i : ℕ) → i ≤ length items → trial_at params goal items i ≡ None
    → IsChosenFrom params goal items best i → IsChosenFrom params goal items best (i + 1)
chosen-none params goal items best i within none so_far =
    ap (λ (ts : List Trial). last_cheapest (trial_list best ++ up_to_last ts)) (sym (trials-none params goal items i within none)) ∙ so_far

pub chosen-more :
    (params : SplitParams) (goal : ℤ) (items : List Node) (best : Option Trial) (i : ℕ) (t : Trial) → i ≤ length items → trial_at params goal items i ≡ Some t
    → is_last t ≡ false → IsChosenFrom params goal items best i → IsChosenFrom params goal items (Some (cheaper_trial best t)) (i + 1)
chosen-more params goal items best i t within some more so_far =
    let rest : List Trial = trials_from params goal items (i + 1) in
    let first : up_to_last (trials_from params goal items i) ≡ t ∷ up_to_last rest = ap up_to_last (trials-some params goal items i t within some) ∙ rw more refl in
    sym (ap (λ (ts : List Trial). last_cheapest (trial_list best ++ ts)) first ∙ kept best t (up_to_last rest)) ∙ so_far

pub chosen-last :
    (params : SplitParams) (goal : ℤ) (items : List Node) (best : Option Trial) (i : ℕ) (t : Trial) → i ≤ length items → trial_at params goal items i ≡ Some t
    → is_last t ≡ true → IsChosenFrom params goal items best i → (cheaper_trial best t).place ≡ split_place params goal items
unfolding split_place
chosen-last params goal items best i t within some last so_far =
    let first : up_to_last (trials_from params goal items i) ≡ t ∷ [] = ap up_to_last (trials-some params goal items i t within some) ∙ rw last refl in
    ap trial_place (sym (ap (λ (ts : List Trial). last_cheapest (trial_list best ++ ts)) first ∙ kept best t []) ∙ so_far)
