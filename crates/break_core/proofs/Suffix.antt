-- The best offer of groups that wait has the effect of all their offers.
use Rattle.std.proofs.Common.{◌≡◌, ◌∙◌, ℕ, zero, suc, ◌+◌, ◌<◌, ◌≤◌, Bool, List, [], ◌∷◌, length, refl, ap, sym, subst, arith, Option, Some}
use Rattle.std.specs.Prelude.{◌<ℤ◌, ◌≤ℤ◌, slice_get}
use Rattle.std.proofs.Math.Logic.{◌⊎◌, inl, inr}
use Rattle.std.proofs.lemmas.Bool.{cases_lt}
use Rattle.std.proofs.lemmas.Int.{ints}
use Rattle.std.proofs.lemmas.Option.{same_Some, slice_get_within}
use Rattle.node_core.specs.declared.params.Params.{Params}
use Rattle.break_lines.specs.declared.group.ActiveGroup.{ActiveGroup}
use Rattle.break_lines.specs.declared.state.Fitness.{Fitness}
use Rattle.break_lines.specs.declared.state.LineCost.{LineCost}
use Rattle.break_lines.specs.Orders.{NotAfter}
use Rattle.break_lines.specs.Problems.{Problem, class_index, tie_numbers}
use Rattle.break_lines.specs.Totals.{entry_with_totals}
use Rattle.break_lines.specs.Tables.{Entry, compared_numbers, IsOffered, IsRow, IsPut}
use Rattle.break_lines.proofs.Dictionary.{not_after_refl, not_after_trans}
use Rattle.break_lines.proofs.Entries.{get_at}
use Rattle.break_lines.proofs.Rows.{row_best}
use Rattle.break_core.specs.declared.active_list.Live.{Live}
use Rattle.break_core.specs.declared.row.Offer.{Offer}
use Rattle.break_core.specs.Private.Active.{groups_of, HaveBest, CanAllWait, AreRising, IsLeastOf, IsNext, IsActive, IsOfferingEach}
use Rattle.break_core.specs.Private.Filling.{offer_from}
use Rattle.break_core.specs.Private.Offers.{totals_of, offer_numbers, offer_before, IsAtMost, IsBelow, IsBestFor, IsLaterOrBetter, IsOffer}
use Rattle.break_core.proofs.BestEntries.{offer_by, offers_ordered, offer_is_made}
use Rattle.break_core.proofs.BestOffers.{offers, one_end}
use Rattle.break_core.proofs.Lives.{group_at}
use Rattle.break_core.proofs.Offers.{at_most_cases, shown_ordered}

-- The first group alone, and one more group.
pub least_first : (lives : List Live) (slot : ℕ) (live : Live) (best : Offer) → slice_get lives 0 ≡ Some live → slice_get live.best slot ≡ Some best → IsLeastOf lives 1 slot best
least_first lives slot live best there is = record { by = 0; live = live; present = there; is = is; least = least }
  where
    least :
        (k : ℕ) (other : Live) → k < 1 → slice_get lives k ≡ Some other
        → (o : Offer) × (slice_get other.best slot ≡ Some o) × (IsBelow best o ⊎ ((k ≤ 0) × IsAtMost best o))
    least zero other few here =
        let same : live ≡ other = same_Some live other (sym there ∙ here) in
        let equal : best.demerits ≤ℤ best.demerits = omega (arith, ints) in
        (best, ap (λ (x : Live). slice_get x.best slot) (sym same) ∙ is, inr (omega arith, inr (refl, equal)))
    least (suc k) other few here = absurd (omega (arith, few))

at_most_trans : (a b c : Offer) → IsAtMost a b → IsAtMost b c → IsAtMost a c
at_most_trans a b c (inl first) (inl second) = inl (omega (arith, ints, first, second))
at_most_trans a b c (inl first) (inr (same, second)) = inl (omega (arith, ints, first, same))
at_most_trans a b c (inr (equal, first)) (inl second) = inl (omega (arith, ints, equal, second))
at_most_trans a b c (inr (equal, first)) (inr (same, second)) = inr (equal ∙ same, omega (arith, ints, first, second))

below_at_most : (a b : Offer) → IsBelow a b → IsAtMost a b
below_at_most a b (inl less) = inl less
below_at_most a b (inr (same, less)) = inr (same, omega (arith, ints, less))

pub least_more :
    (lives : List Live) (n slot : ℕ) (live : Live) (best next kept : Offer)
    → IsLeastOf lives n slot best → slice_get lives n ≡ Some live → slice_get live.best slot ≡ Some next → IsLaterOrBetter best next kept
    → IsLeastOf lives (n + 1) slot kept
least_more lives n slot live best next kept is there at (inr (same, below)) =
    subst (IsLeastOf lives (n + 1) slot) (sym same)
    (record { by = is.by; live = is.live; present = is.present; is = is.is; least = λ k other few here. least k other few here (cases_lt k n) })
  where
    least :
        (k : ℕ) (other : Live) → k < n + 1 → slice_get lives k ≡ Some other → (k < n) ⊎ (n ≤ k)
        → (o : Offer) × (slice_get other.best slot ≡ Some o) × (IsBelow best o ⊎ ((k ≤ is.by) × IsAtMost best o))
    least k other few here (inl before) = is.least k other before here
    least k other few here (inr after) =
        let number : n ≡ k = omega (arith, few, after) in
        let one : live ≡ other = same_Some live other (sym there ∙ ap (slice_get lives) number ∙ here) in
        (next, ap (λ (x : Live). slice_get x.best slot) (sym one) ∙ at, inl below)
least_more lives n slot live best next kept is there at (inl (same, most)) =
    subst (IsLeastOf lives (n + 1) slot) (sym same)
    (record { by = n; live = live; present = there; is = at; least = λ k other few here. least k other few here (cases_lt k n) })
  where
    lower : (k : ℕ) (o : Offer) → IsBelow best o ⊎ ((k ≤ is.by) × IsAtMost best o) → IsAtMost next o
    lower k o (inl below) = at_most_trans next best o most (below_at_most best o below)
    lower k o (inr (before, less)) = at_most_trans next best o most less

    least :
        (k : ℕ) (other : Live) → k < n + 1 → slice_get lives k ≡ Some other → (k < n) ⊎ (n ≤ k)
        → (o : Offer) × (slice_get other.best slot ≡ Some o) × (IsBelow next o ⊎ ((k ≤ n) × IsAtMost next o))
    least k other few here (inl before) =
        let found = is.least k other before here in
        (found.0, found.1, inr (omega (arith, before), lower k found.0 found.2))
    least k other few here (inr after) =
        let number : n ≡ k = omega (arith, few, after) in
        let one : live ≡ other = same_Some live other (sym there ∙ ap (slice_get lives) number ∙ here) in
        let equal : next.demerits ≤ℤ next.demerits = omega (arith, ints) in
        (next, ap (λ (x : Live). slice_get x.best slot) (sym one) ∙ at, inr (omega (arith, few), inr (refl, equal)))

-- The first group is the earliest.
pub rising_from :
    (lives : List Live) (k : ℕ) (a b : Live)
    → AreRising lives → slice_get lives 0 ≡ Some a → slice_get lives k ≡ Some b → a.group.place ≤ b.group.place
rising_from lives zero a b rise first here = omega (arith, ap (λ (x : Live). x.group.place) (same_Some a b (sym first ∙ here)))
rising_from lives (suc k) a b rise first here =
    let c = get_at lives k (omega (arith, slice_get_within lives (suc k) b here)) in
    omega (arith, rising_from lives k a c.0 rise first c.1, rise k (suc k) c.0 b (omega arith) c.1 here)

-- An offer of an entry of an earlier place than one is of an earlier place than a later one.
pub stands_later : (table : List Entry) (low high : ℕ) (class : Fitness) (o : Offer) → low ≤ high → IsOffer table low class o → IsOffer table high class o
stands_later table low high class o later is =
    record { before = is.before; real = is.real; present = is.present; earlier = omega (arith, is.earlier, later); small = is.small }

-- A group is the next one after some entries.
pub record IsThere (p : Problem) (stop : ℕ → ℕ → Bool) (table : List Entry) (b at low : ℕ) (g : ActiveGroup) : Type 0 where
  pub from : ℕ
  pub after : ℕ
  pub later : at ≤ from
  pub more : low ≤ after
  pub next : IsNext p stop table b from after g

there_at :
    (p : Problem) (stop : ℕ → ℕ → Bool) (table : List Entry) (b high at low : ℕ) (lives : List Live) (k : ℕ) (live : Live)
    → IsActive p stop table b high at low (groups_of lives) → slice_get lives k ≡ Some live → IsThere p stop table b at low live.group
there_at p stop table b high at low [] k live is there = absurd (cc)
there_at p stop table b high at low (x ∷ lives) zero live is there =
    subst (λ (y : Live). IsThere p stop table b at low y.group) (same_Some x live there)
    (record { from = at; after = low; later = omega arith; more = omega arith; next = is.0 })
there_at p stop table b high at low (x ∷ lives) (suc k) live is there =
    let rest = there_at p stop table b high x.group.end (x.group.place + 1) lives k live is.1 there in
    record {
      from = rest.from;
      after = rest.after;
      later = omega (arith, rest.later, is.0.gap, is.0.group.rises);
      more = omega (arith, rest.more, is.0.later);
      next = rest.next;
    }

-- The places of groups increase.
places_rise :
    (p : Problem) (stop : ℕ → ℕ → Bool) (table : List Entry) (b high at low : ℕ) (lives : List Live) (j k : ℕ) (earlier later : Live)
    → IsActive p stop table b high at low (groups_of lives) → j < k → slice_get lives j ≡ Some earlier → slice_get lives k ≡ Some later
    → earlier.group.place < later.group.place
places_rise p stop table b high at low [] j k earlier later is less there here = absurd (cc)
places_rise p stop table b high at low (x ∷ lives) zero zero earlier later is less there here = absurd (omega (arith, less))
places_rise p stop table b high at low (x ∷ lives) zero (suc k) earlier later is less there here =
    let rest = there_at p stop table b high x.group.end (x.group.place + 1) lives k later is.1 here in
    omega (arith, rest.more, rest.next.later, ap (λ (y : Live). y.group.place) (same_Some x earlier there))
places_rise p stop table b high at low (x ∷ lives) (suc j) zero earlier later is less there here = absurd (omega (arith, less))
places_rise p stop table b high at low (x ∷ lives) (suc j) (suc k) earlier later is less there here =
    places_rise p stop table b high x.group.end (x.group.place + 1) lives j k earlier later is.1 (omega (arith, less)) there here

-- An entry with an offer is one of a group.
pub record IsInGroup (lives : List Live) (n : ℕ) : Type 0 where
  pub number : ℕ
  pub live : Live
  pub present : slice_get lives number ≡ Some live
  pub low : live.group.start ≤ n
  pub high : n < live.group.end

in_group :
    (p : Problem) (stop : ℕ → ℕ → Bool) (table : List Entry) (b high at low : ℕ) (lives : List Live) (n : ℕ) (f : Entry)
    → b ≤ p.places → IsActive p stop table b high at low (groups_of lives) → at ≤ n → IsOffered p table b n f → IsInGroup lives n
in_group p stop table b high at low [] n f within is from of =
    let none = is.silent n of.by from (slice_get_within table n of.by of.present) of.present b (omega arith) within in
    let some = of.offers in
    absurd (cc)
in_group p stop table b high at low (x ∷ lives) n f within is from of =
    cases (cases_lt n x.group.start) (cases_lt n x.group.end)
    (λ past. in_group p stop table b high x.group.end (x.group.place + 1) lives n f within is.1 past of)
  where
    cases : (n < x.group.start) ⊎ (x.group.start ≤ n) → (n < x.group.end) ⊎ (x.group.end ≤ n) → (x.group.end ≤ n → IsInGroup lives n) → IsInGroup (x ∷ lives) n
    cases (inl before) _ later =
        let none = is.0.silent n of.by from before of.present b (omega arith) within in
        let some = of.offers in
        absurd (cc)
    cases (inr start) (inl end) later = record { number = 0; live = x; present = refl; low = start; high = end }
    cases (inr start) (inr past) later =
        let rest = later past in
        record { number = suc rest.number; live = rest.live; present = rest.present; low = rest.low; high = rest.high }

-- Putting only the best offer of all groups into its slot has the effect of all their offers.
pub waiting_offered :
    (table : List Entry) (params : Params) (lives : List Live) (place : ℕ) (alone : LineCost) (best offered : Offer) (old new : List (Option Entry))
    → params.first_lines ≡ 0 → HaveBest table params lives → CanAllWait 0 table place lives
    → IsLeastOf lives (length lives) (class_index alone.class) best → offered ≡ offer_by best alone
    → ((e : Entry) → slice_get table offered.index ≡ Some e → IsPut (entry_with_totals e offered.index place (totals_of alone.class offered)) old new)
    → IsOfferingEach table params alone lives place old new
waiting_offered table params lives place alone best offered old new none are can least made put p stop at low cut within costs active before =
    subst (IsRow p table place (length table)) (sym stored.is)
    (row_best p table place at (length table) best.index shown stored.kept stored.held old from to offers_it stored.was_present stored.is_kept lowest before)
  where
    live : Live
    live = least.live

    is : IsBestFor table params alone.class live.group.start live.group.end best
    is = are least.by live least.present none alone.class best least.is

    shown : Entry
    shown = entry_with_totals is.entry best.index place (totals_of alone.class (offer_by best alone))

    stored : IsPut shown old new
    stored =
        subst (λ x. IsPut (entry_with_totals is.entry x.index place (totals_of alone.class x)) old new) made
        (put is.entry (ap (λ (x : Offer). slice_get table x.index) made ∙ is.present))

    here : IsThere p stop table place at low live.group
    here = there_at p stop table place place at low lives least.by live active least.present

    from : at ≤ best.index
    from = omega (arith, here.later, here.next.gap, is.low)

    to : best.index < length table
    to = slice_get_within table best.index is.entry is.present

    own : shown ≡ offer_from params is.entry best.index place alone
    own =
        ap (λ x. entry_with_totals is.entry best.index place (totals_of alone.class (offer_by x alone))) is.is
        ∙ offer_is_made params is.entry best.index place alone

    offers_it : IsOffered p table place best.index shown
    offers_it =
        record {
          by = is.entry;
          present = is.present;
          offers = offers p params live.group place alone is.entry best.index (cut ∙ none) here.next.group.since
              (λ s there. costs least.by live.group (group_at lives least.by live least.present) s there)
              (here.next.group.entries best.index is.entry is.low is.high is.present)
              ∙ ap Some (sym own);
        }

    lowest :
        (k : ℕ) (f : Entry) → at ≤ k → k < length table → IsOffered p table place k f
        → (f.end ≡ shown.end) × NotAfter (compared_numbers shown) (compared_numbers f)
    lowest k f low_k high_k of = (
      ap (λ x. x.end) (sym is_f) ∙ one_end params place alone of.by is.entry k best.index ∙ ap (λ x. x.end) (sym own),
      subst (λ x. NotAfter (compared_numbers shown) (compared_numbers x)) (offer_is_made params of.by k place alone ∙ is_f)
          (shown_ordered (offer_by best alone) (offer_by (offer_before params of.by k alone.class) alone) is.entry of.by place alone.class
          (offers_ordered best (offer_before params of.by k alone.class) is.entry of.by alone order)),
    )
      where
        inside : IsInGroup lives k
        inside = in_group p stop table place place at low lives k f within active low_k of

        other : Live
        other = inside.live

        its : IsThere p stop table place at low other.group
        its = there_at p stop table place place at low lives inside.number other active inside.present

        is_f : offer_from params of.by k place alone ≡ f
        is_f =
            same_Some (offer_from params of.by k place alone) f
            (sym (offers p params other.group place alone of.by k (cut ∙ none) its.next.group.since
            (λ s there. costs inside.number other.group (group_at lives inside.number other inside.present) s there)
            (its.next.group.entries k of.by inside.low inside.high of.present))
            ∙ of.offers)

        found : (o : Offer) × (slice_get other.best (class_index alone.class) ≡ Some o) × (IsBelow best o ⊎ ((inside.number ≤ least.by) × IsAtMost best o))
        found = least.least inside.number other (slice_get_within lives inside.number other inside.present) inside.present

        o : Offer
        o = found.0

        is_o : IsBestFor table params alone.class other.group.start other.group.end o
        is_o = are inside.number other inside.present none alone.class o found.1

        order : NotAfter (offer_numbers best is.entry) (offer_numbers (offer_before params of.by k alone.class) of.by)
        order =
            not_after_trans (offer_numbers best is.entry) (offer_numbers o is_o.entry) (offer_numbers (offer_before params of.by k alone.class) of.by)
            (first found.2)
            (is_o.least k of.by inside.low inside.high of.present)
          where
            at_place : is.entry.end.place ≡ live.group.place
            at_place = here.next.group.entries best.index is.entry is.low is.high is.present

            at_other : is_o.entry.end.place ≡ other.group.place
            at_other = its.next.group.entries o.index is_o.entry is_o.low is_o.high is_o.present

            tied : (inside.number < least.by) ⊎ (least.by ≤ inside.number) → inside.number ≤ least.by → NotAfter (tie_numbers (is.entry.end ∷ [])) (tie_numbers (is_o.entry.end ∷ []))
            tied (inl less) _ =
                let later = places_rise p stop table place place at low lives inside.number least.by other live active less inside.present least.present in
                inl (omega (arith, ints, later, at_place, at_other))
            tied (inr most) fewer =
                let number : least.by ≡ inside.number = omega (arith, most, fewer) in
                let one : live ≡ other = same_Some live other (sym least.present ∙ ap (slice_get lives) number ∙ inside.present) in
                let same : best ≡ o = same_Some best o (sym least.is ∙ ap (λ (x : Live). slice_get x.best (class_index alone.class)) one ∙ found.1) in
                let entry : is.entry ≡ is_o.entry =
                same_Some is.entry is_o.entry (sym is.present ∙ ap (λ (x : Offer). slice_get table x.index) same ∙ is_o.present) in
                subst (λ e. NotAfter (tie_numbers (is.entry.end ∷ [])) (tie_numbers (e.end ∷ []))) entry (not_after_refl (tie_numbers (is.entry.end ∷ [])))

            first : IsBelow best o ⊎ ((inside.number ≤ least.by) × IsAtMost best o) → NotAfter (offer_numbers best is.entry) (offer_numbers o is_o.entry)
            first (inl (inl less)) = inl less
            first (inl (inr (same, less))) = inr (same, inl less)
            first (inr (fewer, inl less)) = inl less
            first (inr (fewer, inr (same, less))) = inr (same, second (at_most_cases best.demerits o.demerits less))
              where
                second :
                    (best.demerits <ℤ o.demerits) ⊎ (best.demerits ≡ o.demerits)
                    → NotAfter (best.demerits ∷ tie_numbers (is.entry.end ∷ [])) (o.demerits ∷ tie_numbers (is_o.entry.end ∷ []))
                second (inl lower) = inl lower
                second (inr equal) = inr (equal, tied (cases_lt inside.number least.by) fewer)
