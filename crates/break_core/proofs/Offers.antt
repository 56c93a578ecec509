-- Offers that are kept without their entries, and the row that they stand for.
use Rattle.std.proofs.Common.{◌≡◌, ◌∙◌, ℕ, zero, suc, ◌+◌, ◌<◌, ◌≤◌, true, false, List, [], ◌∷◌, ◌++◌, length, set, replicate, refl, ap, sym, subst, arith, Option, Some, None}
use Rattle.std.specs.Prelude.{ℤ, pos, not, int_lt, slice_get, ◌==◌, ◌<ℤ◌, ◌≤ℤ◌}
use Rattle.std.proofs.Math.Logic.{◌⊎◌, inl, inr}
use Rattle.std.proofs.lemmas.Bool.{cases_Bool, cases_eq, cond-true, cond-false}
use Rattle.std.proofs.lemmas.Int.{ints}
use Rattle.std.proofs.lemmas.List.{append_assoc, append-nil}
use Rattle.std.proofs.lemmas.Option.{same_Some}
use Rattle.break_lines.specs.declared.state.Fitness.{Fitness}
use Rattle.break_lines.specs.declared.state.Fitness.TheVariants.{VeryLoose, Loose, Decent, Tight}
use Rattle.break_lines.specs.declared.state.BreakState.{BreakState}
use Rattle.break_lines.specs.Orders.{NotAfter}
use Rattle.break_lines.specs.Problems.{class_index, tie_numbers}
use Rattle.break_lines.specs.Tables.{Entry, slot, slots, compared_numbers, row_entries, IsFirst, IsPut}
use Rattle.break_lines.specs.Totals.{entry_with_totals}
use Rattle.break_lines.proofs.Dictionary.{rank_apart, not_after_refl, not_after_later}
use Rattle.break_lines.proofs.Entries.{get_left, get-set_other, set-get_same}
use Rattle.break_core.specs.declared.row.Offer.{Offer}
use Rattle.break_core.specs.declared.row.Row.{Row}
use Rattle.break_core.specs.Private.Filling.{IsKind}
use Rattle.break_core.specs.Private.Offers.{no_entry, no_offer, no_offers, class_of, totals_of, entry_after, shown_offer, shown_from, row_at, IsOffer, AreOffers, offer_numbers, IsAsGood, IsAtMost, IsBelow, IsEmpty, IsSameRow}

-- Ends of lines that are equal, or of which one comes first.
pub tie_first :
    (s t a b : BreakState) → IsFirst s t → s ≡ a → t ≡ b → NotAfter (tie_numbers (a ∷ [])) (tie_numbers (b ∷ []))
tie_first s t a b first is_a is_b =
    subst (λ x. NotAfter (tie_numbers (x ∷ [])) (tie_numbers (b ∷ []))) is_a
    (subst (λ x. NotAfter (tie_numbers (s ∷ [])) (tie_numbers (x ∷ []))) is_b (first [] []))

pub tie_same : (a b : BreakState) → a ≡ b → NotAfter (tie_numbers (a ∷ [])) (tie_numbers (b ∷ []))
tie_same a b same = subst (λ x. NotAfter (tie_numbers (a ∷ [])) (tie_numbers (x ∷ []))) same (not_after_refl (tie_numbers (a ∷ [])))

-- Of offers with the same totals the ends before decide.
pub good_tie :
    (table : List Entry) (a b : Offer)
    → a.overhang ≡ b.overhang → a.demerits ≡ b.demerits
    → ((e f : Entry) → slice_get table a.index ≡ Some e → slice_get table b.index ≡ Some f → NotAfter (tie_numbers (e.end ∷ [])) (tie_numbers (f.end ∷ [])))
    → IsAsGood table a b
good_tie table a b same equal tie e f at_e at_f = inr (same, inr (equal, tie e f at_e at_f))

pub good_same : (table : List Entry) (a : Offer) → IsAsGood table a a
good_same table a e f at_e at_f =
    subst (λ x. NotAfter (offer_numbers a e) (offer_numbers a x)) (same_Some e f (sym at_e ∙ at_f)) (not_after_refl (offer_numbers a e))

class_of-rank : (class : Fitness) → class_of (0 + class_index class) ≡ class
class_of-rank VeryLoose = refl
class_of-rank Loose = refl
class_of-rank Decent = refl
class_of-rank Tight = refl

-- The content of a slot, and that of a slot into which an offer was written.
shown_at :
    (table : List Entry) (place n k : ℕ) (offers : List Offer) (o : Offer)
    → slice_get offers k ≡ Some o → slice_get (shown_from table place n offers) k ≡ Some (shown_offer table place (class_of (n + k)) o)
shown_at table place n k [] o at = absurd (cc)
shown_at table place n zero (x ∷ offers) o at =
    let same : n ≡ n + 0 = omega arith in
    ap (λ y. Some (shown_offer table place (class_of n) y)) (same_Some x o at) ∙ ap (λ m. Some (shown_offer table place (class_of m) o)) same
shown_at table place n (suc k) (x ∷ offers) o at =
    let same : suc n + k ≡ n + suc k = omega arith in
    shown_at table place (suc n) k offers o at ∙ ap (λ m. Some (shown_offer table place (class_of m) o)) same

shown_set :
    (table : List Entry) (place n k : ℕ) (offers : List Offer) (o : Offer)
    → shown_from table place n (set offers k o) ≡ set (shown_from table place n offers) k (shown_offer table place (class_of (n + k)) o)
shown_set table place n k [] o = refl
shown_set table place n zero (x ∷ offers) o =
    let same : n ≡ n + 0 = omega arith in
    ap (λ m. shown_offer table place (class_of m) o ∷ shown_from table place (suc n) offers) same
shown_set table place n (suc k) (x ∷ offers) o =
    let same : suc n + k ≡ n + suc k = omega arith in
    ap (λ xs. shown_offer table place (class_of n) x ∷ xs)
    (shown_set table place (suc n) k offers o
    ∙ ap (λ m. set (shown_from table place (suc n) offers) k (shown_offer table place (class_of m) o)) same)

shown_here :
    (table : List Entry) (place : ℕ) (offers : List Offer) (class : Fitness) (o : Offer)
    → slice_get offers (class_index class) ≡ Some o
    → slice_get (shown_from table place 0 offers) (class_index class) ≡ Some (shown_offer table place class o)
shown_here table place offers class o at =
    shown_at table place 0 (class_index class) offers o at ∙ ap (λ c. Some (shown_offer table place c o)) (class_of-rank class)

shown_written :
    (table : List Entry) (place : ℕ) (offers : List Offer) (class : Fitness) (o : Offer)
    → shown_from table place 0 (set offers (class_index class) o)
    ≡ set (shown_from table place 0 offers) (class_index class) (shown_offer table place class o)
shown_written table place offers class o =
    shown_set table place 0 (class_index class) offers o
    ∙ ap (λ c. set (shown_from table place 0 offers) (class_index class) (shown_offer table place c o)) (class_of-rank class)

pub shown_long : (table : List Entry) (place n : ℕ) (offers : List Offer) → length (shown_from table place n offers) ≡ length offers
shown_long table place n [] = refl
shown_long table place n (o ∷ offers) = ap suc (shown_long table place (suc n) offers)

-- The row is that of the offers if no lines are counted, and else the other one.
pub row_uncounted :
    (cut : ℕ) (table : List Entry) (place : ℕ) (row : Row) → cut ≡ 0 → row_at cut table place row ≡ shown_from table place 0 row.offers
row_uncounted zero table place row none = refl
row_uncounted (suc n) table place row none = absurd (omega (arith, none))

pub row_wide :
    (cut : ℕ) (table : List Entry) (place : ℕ) (row : Row) → cut ≡ 0 → length row.offers ≡ 4 → length (row_at cut table place row) ≡ slots cut
row_wide cut table place row none long =
    ap length (row_uncounted cut table place row none) ∙ shown_long table place 0 row.offers ∙ long ∙ ap slots (sym none)

pub row_counted : (cut : ℕ) (table : List Entry) (place : ℕ) (row : Row) → 0 < cut → row_at cut table place row ≡ row.counted.items
row_counted zero table place row some = absurd (omega (arith, some))
row_counted (suc n) table place row some = refl

-- A row without offers.
pub row_none : (cut : ℕ) (table : List Entry) (place : ℕ) (row : Row) → IsEmpty cut row → row_at cut table place row ≡ replicate (slots cut) None
row_none zero table place row empty = ap (shown_from table place 0) (empty.offers refl)
row_none (suc n) table place row empty = empty.counted (omega arith)

none_here : (class : Fitness) (o : Offer) → slice_get no_offers (class_index class) ≡ Some o → o ≡ no_offer
none_here VeryLoose o at = sym (same_Some no_offer o at)
none_here Loose o at = sym (same_Some no_offer o at)
none_here Decent o at = sym (same_Some no_offer o at)
none_here Tight o at = sym (same_Some no_offer o at)

pub offers_none : (cut : ℕ) (table : List Entry) (place : ℕ) (row : Row) → IsEmpty cut row → cut ≡ 0 → AreOffers table place row.offers
offers_none cut table place row empty none = subst (AreOffers table place) (sym (empty.offers none)) (λ class o at. inl (none_here class o at))

-- Rows with the same offers.
pub same_row : (row : Row) → IsSameRow row row
same_row row = record { offers = refl; counted = refl }

pub same_rows : (a b c : Row) → IsSameRow a b → IsSameRow b c → IsSameRow a c
same_rows a b c first second = record { offers = second.offers ∙ first.offers; counted = second.counted ∙ first.counted }

pub same_empty : (cut : ℕ) (old new : Row) → IsSameRow old new → IsEmpty cut old → IsEmpty cut new
same_empty cut old new same empty =
    record { offers = λ none. same.offers ∙ empty.offers none; counted = λ some. same.counted ∙ empty.counted some }

-- What an offer stands for.
apart : (n m : ℕ) → n < m → (n == m) ≡ false
apart n m less = which (cases_Bool (n == m))
  where
    which : ((n == m) ≡ true) ⊎ ((n == m) ≡ false) → (n == m) ≡ false
    which (inl same) = let equal : n ≡ m = grind arith in absurd (omega (arith, less, equal))
    which (inr other) = other

same_number : (n m : ℕ) → n ≡ m → (n == m) ≡ true
same_number n m same = grind arith

shown_none : (table : List Entry) (place : ℕ) (class : Fitness) (o : Offer) → o.index ≡ no_entry → shown_offer table place class o ≡ None
shown_none table place class o none =
    cond-true (o.index == no_entry) None (entry_after (slice_get table o.index) place class o) (same_number o.index no_entry none)

shown_some :
    (table : List Entry) (place : ℕ) (class : Fitness) (o : Offer) (e : Entry)
    → o.index < no_entry → slice_get table o.index ≡ Some e → shown_offer table place class o ≡ Some (entry_with_totals e o.index place (totals_of class o))
shown_some table place class o e real present =
    cond-false (o.index == no_entry) None (entry_after (slice_get table o.index) place class o) (apart o.index no_entry real)
    ∙ ap (λ x. entry_after x place class o) present

-- Entries have the order of their offers.
pub shown_ordered :
    (a b : Offer) (e f : Entry) (place : ℕ) (class : Fitness)
    → NotAfter (offer_numbers a e) (offer_numbers b f)
    → NotAfter (compared_numbers (entry_with_totals e a.index place (totals_of class a)))
    (compared_numbers (entry_with_totals f b.index place (totals_of class b)))
shown_ordered a b e f place class (inl less) = inl less
shown_ordered a b e f place class (inr (same, inl less)) = inr (same, inl less)
shown_ordered a b e f place class (inr (same, inr (equal, rest))) =
    inr (
      same,
      inr (
        equal,
        not_after_later (tie_numbers ((entry_with_totals e a.index place (totals_of class a)).end ∷ [])) (tie_numbers (e.end ∷ []))
            (tie_numbers (f.end ∷ [])) rest,
      ),
    )

pub offer_real :
    (table : List Entry) (place : ℕ) (class : Fitness) (o : Offer)
    → (o ≡ no_offer) ⊎ IsOffer table place class o → (o.index ≡ no_entry → ⊥) → IsOffer table place class o
offer_real table place class o (inl none) some = absurd (some (ap (λ (x : Offer). x.index) none))
offer_real table place class o (inr is) some = is

-- Integers.
pub at_most_cases : (a b : ℤ) → a ≤ℤ b → (a <ℤ b) ⊎ (a ≡ b)
at_most_cases a b least = which (cases_Bool (int_lt a b))
  where
    which : (int_lt a b ≡ true) ⊎ (int_lt a b ≡ false) → (a <ℤ b) ⊎ (a ≡ b)
    which (inl less) = inl (grind arith)
    which (inr other) = inr (omega (arith, ints, not_less other))
      where
        not_less : int_lt a b ≡ false → b ≤ℤ a
        not_less same = grind arith

-- An offer is not put into a slot that holds a better one.
pub put_kept :
    (table : List Entry) (low place : ℕ) (offers : List Offer) (class : Fitness) (held offered : Offer) (e : Entry)
    → slice_get offers (class_index class) ≡ Some held → slice_get table offered.index ≡ Some e
    → offered.overhang ≤ℤ pos 9223372036854775807 → offered.demerits ≤ℤ pos 9223372036854775807
    → AreOffers table low offers → IsBelow held offered
    → IsPut (entry_with_totals e offered.index place (totals_of class offered)) (shown_from table place 0 offers) (shown_from table place 0 offers)
put_kept table low place offers class held offered e at present few_overhang few_demerits are below =
    record {
      held = shown_offer table place class held;
      was_present = was;
      kept = kept;
      is_kept = record {
        is = inr shown;
        offered = shown_ordered held offered is.before e place class (lower below);
        older = λ h same. subst (λ x. NotAfter (compared_numbers kept) (compared_numbers x)) (same_Some kept h (sym shown ∙ same))
            (not_after_refl (compared_numbers kept));
      };
      is = sym (set-get_same (shown_from table place 0 offers) here (Some kept) (was ∙ ap Some shown));
    }
  where
    is : IsOffer table low class held
    is = there (are class held at) below
      where
        there : (held ≡ no_offer) ⊎ IsOffer table low class held → IsBelow held offered → IsOffer table low class held
        there (inr stands) _ = stands
        there (inl none) (inl less) = absurd (omega (arith, ints, less, few_overhang, ap (λ (x : Offer). x.overhang) none))
        there (inl none) (inr (same, less)) = absurd (omega (arith, ints, less, few_demerits, ap (λ (x : Offer). x.demerits) none))

    kept : Entry
    kept = entry_with_totals is.before held.index place (totals_of class held)

    here : ℕ
    here = slot ((entry_with_totals e offered.index place (totals_of class offered)).end)

    is_here : here ≡ class_index class
    is_here = omega arith

    shown : shown_offer table place class held ≡ Some kept
    shown = shown_some table place class held is.before is.real is.present

    was : slice_get (shown_from table place 0 offers) here ≡ Some (shown_offer table place class held)
    was = ap (slice_get (shown_from table place 0 offers)) is_here ∙ shown_here table place offers class held at

    lower : IsBelow held offered → NotAfter (offer_numbers held is.before) (offer_numbers offered e)
    lower (inl less) = inl less
    lower (inr (same, less)) = inr (same, inl less)

-- An offer is put into a slot without one, or instead of one that is not better. Of two with the same totals the later one is better.
pub put_new :
    (table : List Entry) (low place : ℕ) (offers : List Offer) (class : Fitness) (held offered : Offer) (e : Entry)
    → slice_get offers (class_index class) ≡ Some held → slice_get table offered.index ≡ Some e
    → offered.index < no_entry → low ≤ e.end.place → AreOffers table low offers → IsAtMost offered held
    → IsPut (entry_with_totals e offered.index place (totals_of class offered)) (shown_from table place 0 offers)
    (shown_from table place 0 (set offers (class_index class) offered))
put_new table low place offers class held offered e at present real later are most =
    record {
      held = shown_offer table place class held;
      was_present = was;
      kept = new;
      is_kept = record {
        is = inl refl;
        offered = not_after_refl (compared_numbers new);
        older = λ h same. older h same (are class held at) most;
      };
      is = shown_written table place offers class offered
          ∙ ap (set (shown_from table place 0 offers) (class_index class)) (shown_some table place class offered e real present)
          ∙ ap (λ n. set (shown_from table place 0 offers) n (Some new)) (sym is_here);
    }
  where
    new : Entry
    new = entry_with_totals e offered.index place (totals_of class offered)

    here : ℕ
    here = slot new.end

    is_here : here ≡ class_index class
    is_here = omega arith

    was : slice_get (shown_from table place 0 offers) here ≡ Some (shown_offer table place class held)
    was = ap (slice_get (shown_from table place 0 offers)) is_here ∙ shown_here table place offers class held at

    no_older : (h : Entry) → shown_offer table place class held ≡ Some h → held.index ≡ no_entry → NotAfter (compared_numbers new) (compared_numbers h)
    no_older h same none = let nothing = shown_none table place class held none in absurd (cc)

    first : (f : Entry) → f.end.place < low → IsAtMost offered held → NotAfter (offer_numbers offered e) (offer_numbers held f)
    first f earlier (inl less) = inl less
    first f earlier (inr (same, least)) = inr (same, cases (at_most_cases offered.demerits held.demerits least))
      where
        cases :
            (offered.demerits <ℤ held.demerits) ⊎ (offered.demerits ≡ held.demerits)
            → NotAfter (offered.demerits ∷ tie_numbers (e.end ∷ [])) (held.demerits ∷ tie_numbers (f.end ∷ []))
        cases (inl less) = inl less
        cases (inr equal) = inr (equal, inl (omega (arith, ints, earlier, later)))

    older :
        (h : Entry) → shown_offer table place class held ≡ Some h → (held ≡ no_offer) ⊎ IsOffer table low class held
        → IsAtMost offered held → NotAfter (compared_numbers new) (compared_numbers h)
    older h same (inl none) better = no_older h same (ap (λ (x : Offer). x.index) none)
    older h same (inr is) better =
        subst (λ x. NotAfter (compared_numbers new) (compared_numbers x))
        (same_Some (entry_with_totals is.before held.index place (totals_of class held)) h
        (sym (shown_some table place class held is.before is.real is.present) ∙ same))
        (shown_ordered offered held e is.before place class (first is.before is.earlier better))

-- Offers of entries of earlier places than one are of entries of earlier places than a later one.
pub offers_later : (table : List Entry) (low high : ℕ) (offers : List Offer) → low ≤ high → AreOffers table low offers → AreOffers table high offers
offers_later table low high offers later are class o at = which (are class o at)
  where
    which : (o ≡ no_offer) ⊎ IsOffer table low class o → (o ≡ no_offer) ⊎ IsOffer table high class o
    which (inl none) = inl none
    which (inr is) =
        inr (record {
          before = is.before;
          real = is.real;
          present = is.present;
          earlier = omega (arith, is.earlier, later);
          small = is.small;
        })

written : (offers : List Offer) (k : ℕ) (offered o : Offer) → slice_get (set offers k offered) k ≡ Some o → offered ≡ o
written [] k offered o at = absurd (cc)
written (x ∷ offers) zero offered o at = same_Some offered o at
written (x ∷ offers) (suc k) offered o at = written offers k offered o at

-- Each offer of a row stands for an entry after one was put into it.
pub offers_put :
    (table : List Entry) (place : ℕ) (offers new : List Offer) (class : Fitness) (offered : Offer)
    → AreOffers table place offers → IsOffer table place class offered
    → (new ≡ offers) ⊎ (new ≡ set offers (class_index class) offered) → AreOffers table place new
offers_put table place offers new class offered are is (inl same) = subst (AreOffers table place) (sym same) are
offers_put table place offers new class offered are is (inr made) = subst (AreOffers table place) (sym made) all
  where
    -- The classes are compared by their numbers.
    all : AreOffers table place (set offers (class_index class) offered)
    all other o at = which (cases_eq (class_index other) (class_index class))
      where
        which :
            (class_index other ≡ class_index class) ⊎ (class_index other ≡ class_index class → ⊥) → (o ≡ no_offer) ⊎ IsOffer table place other o
        which (inl same) =
            let kind : other ≡ class = rank_apart other class same in
            let there : slice_get (set offers (class_index class) offered) (class_index class) ≡ Some o =
            ap (slice_get (set offers (class_index class) offered)) (sym same) ∙ at in
            let one : offered ≡ o = written offers (class_index class) offered o there in
            inr (subst (λ c. IsOffer table place c o) (sym kind) (subst (IsOffer table place class) one is))
        which (inr apart) = are other o (sym (get-set_other offers (class_index class) (class_index other) offered apart) ∙ at)

-- Offers stand for the same entries in a longer table.
pub offer_longer :
    (table more : List Entry) (place : ℕ) (class : Fitness) (o : Offer)
    → (o ≡ no_offer) ⊎ IsOffer table place class o → (o ≡ no_offer) ⊎ IsOffer (table ++ more) place class o
offer_longer table more place class o (inl none) = inl none
offer_longer table more place class o (inr is) =
    inr (record {
      before = is.before;
      real = is.real;
      present = get_left table more o.index is.before is.present;
      earlier = is.earlier;
      small = is.small;
    })

shown_longer :
    (table more : List Entry) (place : ℕ) (class : Fitness) (o : Offer)
    → (o ≡ no_offer) ⊎ IsOffer table place class o → shown_offer (table ++ more) place class o ≡ shown_offer table place class o
shown_longer table more place class o (inl none) =
    let number : o.index ≡ no_entry = ap (λ (x : Offer). x.index) none in
    shown_none (table ++ more) place class o number ∙ sym (shown_none table place class o number)
shown_longer table more place class o (inr is) =
    shown_some (table ++ more) place class o is.before is.real (get_left table more o.index is.before is.present)
    ∙ sym (shown_some table place class o is.before is.real is.present)

entries_joined : (xs ys : List (Option Entry)) → row_entries (xs ++ ys) ≡ row_entries xs ++ row_entries ys
entries_joined [] ys = refl
entries_joined (None ∷ xs) ys = entries_joined xs ys
entries_joined (Some e ∷ xs) ys = ap (λ es. e ∷ es) (entries_joined xs ys)

-- An offer is moved to the table.
pub moved_some :
    (table new : List Entry) (place : ℕ) (class : Fitness) (o : Offer) (e : Entry)
    → o.index < no_entry → slice_get table o.index ≡ Some e → new ≡ table ++ entry_with_totals e o.index place (totals_of class o) ∷ []
    → new ≡ table ++ row_entries (shown_offer table place class o ∷ [])
moved_some table new place class o e real present made =
    made ∙ ap (λ x. table ++ row_entries (x ∷ [])) (sym (shown_some table place class o e real present))

-- One more offer is moved.
pub moved_more :
    (table now new : List Entry) (front : List (Option Entry)) (place : ℕ) (class : Fitness) (o : Offer)
    → (o ≡ no_offer) ⊎ IsOffer table place class o → now ≡ table ++ row_entries front
    → new ≡ now ++ row_entries (shown_offer now place class o ∷ []) → new ≡ table ++ row_entries (front ++ shown_offer table place class o ∷ [])
moved_more table now new front place class o is before made =
    made
    ∙ ap (λ t. t ++ row_entries (shown_offer t place class o ∷ [])) before
    ∙ ap (λ x. (table ++ row_entries front) ++ row_entries (x ∷ [])) (shown_longer table (row_entries front) place class o is)
    ∙ append_assoc table (row_entries front) (row_entries (shown_offer table place class o ∷ []))
    ∙ ap (λ es. table ++ es) (sym (entries_joined front (shown_offer table place class o ∷ [])))

pub offer_moved :
    (table now : List Entry) (front : List (Option Entry)) (place : ℕ) (class : Fitness) (o : Offer)
    → (o ≡ no_offer) ⊎ IsOffer table place class o → now ≡ table ++ row_entries front → (o ≡ no_offer) ⊎ IsOffer now place class o
offer_moved table now front place class o is before =
    subst (λ t. (o ≡ no_offer) ⊎ IsOffer t place class o) (sym before) (offer_longer table (row_entries front) place class o is)

-- The offers for all classes are moved.
four_same :
    (offers : List Offer) (a b c d : Offer)
    → length offers ≡ 4 → slice_get offers 0 ≡ Some a → slice_get offers 1 ≡ Some b → slice_get offers 2 ≡ Some c → slice_get offers 3 ≡ Some d
    → offers ≡ a ∷ b ∷ c ∷ d ∷ []
four_same [] a b c d long at_a at_b at_c at_d = absurd (omega (arith, long))
four_same (x ∷ []) a b c d long at_a at_b at_c at_d = absurd (omega (arith, long))
four_same (x ∷ y ∷ []) a b c d long at_a at_b at_c at_d = absurd (omega (arith, long))
four_same (x ∷ y ∷ z ∷ []) a b c d long at_a at_b at_c at_d = absurd (omega (arith, long))
four_same (x ∷ y ∷ z ∷ w ∷ []) a b c d long at_a at_b at_c at_d =
    ap (λ v. v ∷ y ∷ z ∷ w ∷ []) (same_Some x a at_a)
    ∙ ap (λ v. a ∷ v ∷ z ∷ w ∷ []) (same_Some y b at_b)
    ∙ ap (λ v. a ∷ b ∷ v ∷ w ∷ []) (same_Some z c at_c)
    ∙ ap (λ v. a ∷ b ∷ c ∷ v ∷ []) (same_Some w d at_d)
four_same (x ∷ y ∷ z ∷ w ∷ v ∷ offers) a b c d long at_a at_b at_c at_d = absurd (omega (arith, long))

-- The table after the first offers were moved.
pub record AreMoved (table : List Entry) (place : ℕ) (offers : List Offer) (front : List (Option Entry)) (now : List Entry) : Type 0 where
  pub is : now ≡ table ++ row_entries front

pub moved_start : (table : List Entry) (place : ℕ) (offers : List Offer) → AreMoved table place offers [] table
moved_start table place offers = record { is = sym (append-nil table) }

pub moved_next :
    (table now new : List Entry) (front : List (Option Entry)) (place : ℕ) (offers : List Offer) (class : Fitness) (o : Offer)
    → AreMoved table place offers front now → AreOffers table place offers → slice_get offers (class_index class) ≡ Some o
    → new ≡ now ++ row_entries (shown_offer now place class o ∷ []) → AreMoved table place offers (front ++ shown_offer table place class o ∷ []) new
moved_next table now new front place offers class o before are at made =
    record { is = moved_more table now new front place class o (are class o at) before.is made }

pub moved_held :
    (table now : List Entry) (front : List (Option Entry)) (place : ℕ) (offers : List Offer) (class : Fitness) (o : Offer)
    → AreMoved table place offers front now → AreOffers table place offers → slice_get offers (class_index class) ≡ Some o
    → (o ≡ no_offer) ⊎ IsOffer now place class o
moved_held table now front place offers class o before are at = offer_moved table now front place class o (are class o at) before.is

pub moved_all :
    (table new : List Entry) (place : ℕ) (offers : List Offer) (a b c d : Offer)
    → length offers ≡ 4 → slice_get offers 0 ≡ Some a → slice_get offers 1 ≡ Some b → slice_get offers 2 ≡ Some c → slice_get offers 3 ≡ Some d
    → AreMoved table place offers
    (shown_offer table place VeryLoose a ∷ shown_offer table place Loose b ∷ shown_offer table place Decent c ∷ shown_offer table place Tight d ∷ []) new
    → new ≡ table ++ row_entries (shown_from table place 0 offers)
moved_all table new place offers a b c d long at_a at_b at_c at_d all =
    all.is ∙ ap (λ xs. table ++ row_entries (shown_from table place 0 xs)) (sym (four_same offers a b c d long at_a at_b at_c at_d))

-- Whether lines are counted, by the number of the constant.
pub kind_false : (counted first_lines : ℕ) → IsKind (not (counted == 0)) first_lines → counted ≡ 0 → first_lines ≡ 0
kind_false counted first_lines is none = subst (λ n. IsKind (not (n == 0)) first_lines) none is

pub kind_true : (counted first_lines : ℕ) → IsKind (not (counted == 0)) first_lines → (counted ≡ 0 → ⊥) → 0 < first_lines
kind_true counted first_lines is some = which (cases_Bool (counted == 0))
  where
    which : ((counted == 0) ≡ true) ⊎ ((counted == 0) ≡ false) → 0 < first_lines
    which (inl same) = let none : counted ≡ 0 = grind arith in absurd (some none)
    which (inr other) = subst (λ t. IsKind (not t) first_lines) other is
