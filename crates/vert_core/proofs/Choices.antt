-- The trial that is found is the chosen one.
use Rattle.std.proofs.Common.{◌≡◌, ◌≢◌, ◌∙◌, ◌⊎◌, ℕ, ◌+◌, ◌<◌, ◌&&◌, List, [], ◌∷◌, length, take, suc, zero, Bool, true, false, refl, inl, inr, ap, sym, arith}
use Rattle.std.specs.Prelude.{ℤ, pos, ◌≤ℤ◌, ◌<ℤ◌, int_lt, Option, Some, None, if◌then◌else◌}
use Rattle.std.proofs.lemmas.Int.{ints, by_lt_z}
use Rattle.std.proofs.lemmas.Bool.{cases_eq}
use Rattle.std.proofs.lemmas.Option.{none-some}
use Rattle.std.specs.Option.{option_map}
use Rattle.std.specs.List.{list_all, filter_map, cons_option, range_with_len}
use Rattle.node_core.specs.declared.params.SplitParams.{SplitParams}
use Rattle.node_core.specs.declared.tree.Node.{Node}
use Rattle.vert_core.specs.declared.trials.Trial.{Trial}
use Rattle.vert_core.specs.Costs.{cost, front_badness, is_last}
use Rattle.vert_core.specs.Places.{eject, penalty_before}
use Rattle.vert_core.specs.Split.{trial_at, trials, up_to_last, is_cheaper, last_cheapest, trial_place, split_place}
use Rattle.vert_core.specs.Chosen.{IsAllowedTrial, IsTried, IsChosenTrial, IsSplitPlace}
use Rattle.vert_core.proofs.Search.{both-true, cheaper-all, trial-end}

-- If a trial costs at most as much as another one, it is cheaper than everything that the other one is cheaper than.
le-less : (a b c : ℤ) → int_lt b a ≡ false → int_lt b c ≡ true → int_lt a c ≡ true
le-less a b c ba bc = here (int_lt a c) refl
  where
    here : (less : Bool) → int_lt a c ≡ less → int_lt a c ≡ true
    here true e = e
    here false e = absurd (omega (arith, ints))

le-all : (x s : Trial) (ts : List Trial) → is_cheaper s x ≡ false → list_all (is_cheaper s) ts ≡ true → list_all (is_cheaper x) ts ≡ true
le-all x s [] le all = refl
le-all x s (y ∷ ys) le all =
    let parts = both-true (is_cheaper s y) (list_all (is_cheaper s) ys) all in
    rw (le-less (cost x) (cost s) (cost y) le parts.0, le-all x s ys le parts.1) refl

-- A trial that is cheaper than each of some trials is cheaper than the cheapest of them, and conversely.
found-step :
    (s u x : Trial) (xs : List Trial) (first : Bool) → (if first then Some x else last_cheapest xs) ≡ Some u → is_cheaper s x ≡ true
    → (last_cheapest xs ≡ Some u → is_cheaper s u ≡ true) → is_cheaper s u ≡ true
found-step s u x xs true e less later = let same : x ≡ u = cc in rw (← same) less
found-step s u x xs false e less later = later e

all-found : (s u : Trial) (ts : List Trial) → last_cheapest ts ≡ Some u → list_all (is_cheaper s) ts ≡ true → is_cheaper s u ≡ true
all-found s u [] e all = absurd (cc)
all-found s u (x ∷ xs) e all =
    let parts = both-true (is_cheaper s x) (list_all (is_cheaper s) xs) all in
    found-step s u x xs (list_all (is_cheaper x) xs) e parts.0 (λ f. all-found s u xs f parts.1)

all-step :
    (s u x : Trial) (xs : List Trial) (first less : Bool) → list_all (is_cheaper x) xs ≡ first → (if first then Some x else last_cheapest xs) ≡ Some u
    → is_cheaper s x ≡ less → is_cheaper s u ≡ true → (last_cheapest xs ≡ Some u → list_all (is_cheaper s) xs ≡ true)
    → (less && list_all (is_cheaper s) xs) ≡ true
all-step s u x xs true true all e is su later = cheaper-all s x xs is all
all-step s u x xs true false all e is su later = let same : x ≡ u = cc in absurd (cc (ap (is_cheaper s) same))
all-step s u x xs false true all e is su later = later e
all-step s u x xs false false all e is su later = let other = le-all x s xs is (later e) in absurd (cc)

found-all : (s u : Trial) (ts : List Trial) → last_cheapest ts ≡ Some u → is_cheaper s u ≡ true → list_all (is_cheaper s) ts ≡ true
found-all s u [] e su = refl
found-all s u (x ∷ xs) e su =
    all-step s u x xs (list_all (is_cheaper x) xs) (is_cheaper s x) refl e refl su (λ f. found-all s u xs f su)

none-step :
    (x : Trial) (xs : List Trial) (first : Bool) → list_all (is_cheaper x) xs ≡ first → (if first then Some x else last_cheapest xs) ≡ None
    → (last_cheapest xs ≡ None → list_all (is_cheaper x) xs ≡ true) → ⊥
none-step x xs true all e later = cc
none-step x xs false all e later = let other = later e in cc

none-all : (s : Trial) (ts : List Trial) → last_cheapest ts ≡ None → list_all (is_cheaper s) ts ≡ true
none-all s [] e = refl
none-all s (x ∷ xs) e = absurd (none-step x xs (list_all (is_cheaper x) xs) refl e (λ f. none-all x xs f))

-- A trial of the places from the next one on is one of the places from this one on.
widened : (f : ℕ → Option Trial) (i b : ℕ) (t : Trial) → IsAllowedTrial f (i + 1) b t → IsAllowedTrial f i b t
widened f i b t al = record { after = omega (arith, al.after); below = al.below; allowed = al.allowed }

shrunk : (f : ℕ → Option Trial) (i b : ℕ) (t : Trial) → t.place ≢ i → IsAllowedTrial f i b t → IsAllowedTrial f (i + 1) b t
shrunk f i b t apart al = record { after = omega (arith, al.after, apart); below = al.below; allowed = al.allowed }

tried-shrunk : (f : ℕ → Option Trial) (i b : ℕ) (t : Trial) → t.place ≢ i → IsTried f i b t → IsTried f (i + 1) b t
tried-shrunk f i b t apart tr = record { allowed = shrunk f i b t apart tr.allowed; reached = λ o al less. tr.reached o (widened f i b o al) less }

same-trial : (f : ℕ → Option Trial) (i b : ℕ) (s t : Trial) → f i ≡ Some s → t.place ≡ i → IsAllowedTrial f i b t → t ≡ s
same-trial f i b s t is at al = let other : f i ≡ Some t = sym (ap f at) ∙ al.allowed in cc

-- There is no trial at the first place.
none-here : (f : ℕ → Option Trial) (i b : ℕ) (t : Trial) → f i ≡ None → IsAllowedTrial f i b t → t.place ≢ i
none-here f i b t none al = λ at. none-some t (sym none ∙ sym (ap f at) ∙ al.allowed)

chosen-widened : (f : ℕ → Option Trial) (i b : ℕ) (t : Trial) → f i ≡ None → IsChosenTrial f (i + 1) b t → IsChosenTrial f i b t
chosen-widened f i b t none ch = record {
  tried = record {
    allowed = widened f i b t ch.tried.allowed;
    reached = λ o al less. ch.tried.reached o (shrunk f i b o (none-here f i b o none al) al) less;
  };
  least = λ o tr. ch.least o (tried-shrunk f i b o (none-here f i b o none tr.allowed) tr);
  latest = λ o tr less. ch.latest o (tried-shrunk f i b o (none-here f i b o none tr.allowed) tr) less;
}

-- The result for the places from i on.
abbrev Found : (ℕ → Option Trial) → (i b : ℕ) → Option Trial → Type 0
Found f i b None = (t : Trial) → IsAllowedTrial f i b t → ⊥
Found f i b (Some t) = IsChosenTrial f i b t

found-widened : (f : ℕ → Option Trial) (i b : ℕ) (o : Option Trial) → f i ≡ None → Found f (i + 1) b o → Found f i b o
found-widened f i b None none found = λ t al. found t (shrunk f i b t (none-here f i b t none al) al)
found-widened f i b (Some t) none found = chosen-widened f i b t none found

-- The first trial is chosen if each one that is tried after it costs more.
allowed-here : (f : ℕ → Option Trial) (i b : ℕ) (s : Trial) → f i ≡ Some s → s.place ≡ i → i < b → IsAllowedTrial f i b s
allowed-here f i b s is at below = record { after = omega (arith, at); below = omega (arith, at); allowed = ap f at ∙ is }

first-chosen :
    (f : ℕ → Option Trial) (i b : ℕ) (s : Trial) → f i ≡ Some s → s.place ≡ i → i < b
    → ((o : Trial) → IsTried f i b o → o.place ≢ i → cost s <ℤ cost o) → IsChosenTrial f i b s
first-chosen f i b s is at below dearer = record {
  tried = record { allowed = allowed-here f i b s is at below; reached = λ o al less. absurd (omega (arith, al.after, less, at)) };
  least = λ o tr. least o tr (cases_eq o.place i);
  latest = λ o tr less. dearer o tr (λ e. absurd (omega (arith, e, less, at)));
}
  where
    least : (o : Trial) → IsTried f i b o → (o.place ≡ i) ⊎ (o.place ≢ i) → cost s ≤ℤ cost o
    least o tr (inl e) = let same : cost o ≡ cost s = ap cost (same-trial f i b s o is e tr.allowed) in omega (arith, ints, same)
    least o tr (inr e) = omega (arith, ints, dearer o tr e)

-- A later trial that costs at most as much as the first is chosen.
later-chosen :
    (f : ℕ → Option Trial) (i b : ℕ) (s u : Trial) → f i ≡ Some s → is_last s ≡ false → cost u ≤ℤ cost s → IsChosenTrial f (i + 1) b u → IsChosenTrial f i b u
later-chosen f i b s u is more le ch = record {
  tried = record { allowed = widened f i b u ch.tried.allowed; reached = λ o al less. reached o al less (cases_eq o.place i) };
  least = λ o tr. least o tr (cases_eq o.place i);
  latest = λ o tr less. ch.latest o (tried-shrunk f i b o (λ e. absurd (omega (arith, e, less, ch.tried.allowed.after))) tr) less;
}
  where
    reached : (o : Trial) → IsAllowedTrial f i b o → o.place < u.place → (o.place ≡ i) ⊎ (o.place ≢ i) → is_last o ≡ false
    reached o al less (inl e) = ap is_last (same-trial f i b s o is e al) ∙ more
    reached o al less (inr e) = ch.tried.reached o (shrunk f i b o e al) less

    least : (o : Trial) → IsTried f i b o → (o.place ≡ i) ⊎ (o.place ≢ i) → cost u ≤ℤ cost o
    least o tr (inl e) = let same : cost o ≡ cost s = ap cost (same-trial f i b s o is e tr.allowed) in omega (arith, ints, same, le)
    least o tr (inr e) = ch.least o (tried-shrunk f i b o e tr)

found-more :
    (f : ℕ → Option Trial) (i b : ℕ) (s : Trial) (rest : List Trial) (all : Bool) (best : Option Trial) → f i ≡ Some s → s.place ≡ i → i < b → is_last s ≡ false
    → list_all (is_cheaper s) rest ≡ all → last_cheapest rest ≡ best → Found f (i + 1) b best → Found f i b (if all then Some s else best)
found-more f i b s rest true None is at below more all best found =
    first-chosen f i b s is at below (λ o tr apart. absurd (found o (shrunk f i b o apart tr.allowed)))
found-more f i b s rest true (Some u) is at below more all best found =
    let less = all-found s u rest best all in
    first-chosen f i b s is at below (λ o tr apart. omega (arith, ints, less, found.least o (tried-shrunk f i b o apart tr)))
found-more f i b s rest false None is at below more all best found = absurd (cc (none-all s rest best))
found-more f i b s rest false (Some u) is at below more all best found = here (is_cheaper s u) refl
  where
    here : (less : Bool) → is_cheaper s u ≡ less → IsChosenTrial f i b u
    here true e = absurd (cc (found-all s u rest best e))
    here false e = later-chosen f i b s u is more (omega (arith, ints, e)) found

found-first :
    (f : ℕ → Option Trial) (i b : ℕ) (s : Trial) (ts : List Trial) (last : Bool) → f i ≡ Some s → s.place ≡ i → i < b → is_last s ≡ last
    → Found f (i + 1) b (last_cheapest (up_to_last ts)) → Found f i b (last_cheapest (if last then s ∷ [] else s ∷ up_to_last ts))
found-first f i b s ts true is at below last found =
    first-chosen f i b s is at below
    (λ o tr apart. let first : is_last s ≡ false = tr.reached s (allowed-here f i b s is at below) (omega (arith, at, apart, tr.allowed.after)) in absurd (cc))
found-first f i b s ts false is at below last found =
    found-more f i b s (up_to_last ts) (list_all (is_cheaper s) (up_to_last ts)) (last_cheapest (up_to_last ts)) is at below last refl refl found

found-step-on :
    (f : ℕ → Option Trial) (i b : ℕ) (ts : List Trial) (x : Option Trial) → f i ≡ x → ((t : Trial) → f i ≡ Some t → t.place ≡ i) → i < b
    → Found f (i + 1) b (last_cheapest (up_to_last ts)) → Found f i b (last_cheapest (up_to_last (cons_option x ts)))
found-step-on f i b ts None is at below found = found-widened f i b (last_cheapest (up_to_last ts)) is found
found-step-on f i b ts (Some s) is at below found = found-first f i b s ts (is_last s) is (at s is) below refl found

found-from :
    (f : ℕ → Option Trial) → ((i : ℕ) (t : Trial) → f i ≡ Some t → t.place ≡ i) → (n i b : ℕ) → b ≡ i + n
    → Found f i b (last_cheapest (up_to_last (filter_map f (range_with_len i n))))
found-from f at zero i b end = λ t al. absurd (omega (arith, al.after, al.below, end))
found-from f at (suc n) i b end =
    found-step-on f i b (filter_map f (range_with_len (i + 1) n)) (f i) refl (at i) (omega (arith, end)) (found-from f at n (i + 1) b (omega (arith, end)))

-- The trials of a list are at their places, and there is one at the end.
at-place : (i badness : ℕ) (t : Trial) (penalty : Option ℤ) → option_map (λ (p : ℤ). record { place = i; penalty = p; badness = badness }) penalty ≡ Some t → t.place ≡ i
at-place i badness t None e = absurd (cc)
at-place i badness t (Some p) e = let same : t ≡ record { place = i; penalty = p; badness = badness } = cc in ap (λ (x : Trial). x.place) same

chosen-of :
    (params : SplitParams) (goal : ℤ) (items : List Node) (best : Option Trial) → Found (trial_at params goal items) 0 (length items + 1) best
    → IsSplitPlace params goal items (trial_place best)
chosen-of params goal items None found =
    absurd (found (record { place = length items; penalty = eject; badness = front_badness params goal items })
    (record { after = omega arith; below = omega arith; allowed = trial-end params goal items (front_badness params goal items) refl }))
chosen-of params goal items (Some t) found = record { trial = t; here = refl; chosen = found }

-- Only one trial is chosen.
only-chosen : (f : ℕ → Option Trial) (a b : ℕ) (t u : Trial) → IsChosenTrial f a b t → IsChosenTrial f a b u → t.place ≡ u.place
only-chosen f a b t u ct cu = here (cases_eq t.place u.place)
  where
    here : (t.place ≡ u.place) ⊎ (t.place ≢ u.place) → t.place ≡ u.place
    here (inl e) = e
    here (inr apart) =
        by_lt_z (pos t.place) (pos u.place)
        (λ less. let c = ct.latest u cu.tried (omega (arith, ints, less)) in absurd (omega (arith, ints, c, cu.least t ct.tried)))
        (λ more. let c = cu.latest t ct.tried (omega (arith, ints, more, apart)) in absurd (omega (arith, ints, c, ct.least u cu.tried)))

-- The place of the split is that of the chosen trial.
pub split-place-chosen : (params : SplitParams) (goal : ℤ) (items : List Node) → IsSplitPlace params goal items (split_place params goal items)
unfolding split_place
split-place-chosen params goal items =
    chosen-of params goal items (last_cheapest (up_to_last (trials params goal items)))
    (found-from (trial_at params goal items) (λ i t e. at-place i (front_badness params goal (take i items)) t (penalty_before items i) e) (length items + 1) 0 (length items + 1) (omega arith))

pub split-place-only : (params : SplitParams) (goal : ℤ) (items : List Node) (place : ℕ) → IsSplitPlace params goal items place → split_place params goal items ≡ place
split-place-only params goal items place other =
    let found = split-place-chosen params goal items in
    sym found.here ∙ only-chosen (trial_at params goal items) 0 (length items + 1) found.trial other.trial found.chosen other.chosen ∙ other.here
