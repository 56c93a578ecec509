-- The entries of a group that make the best offers, known by their totals.
use Rattle.std.proofs.Common.{◌≡◌, ◌≢◌, ◌∙◌, ℕ, set, zero, suc, ◌+◌, ◌<◌, ◌≤◌, ◌++◌, true, false, min, List, [], ◌∷◌, length, length-append, refl, ap, sym, subst, arith, Option, Some}
use Rattle.std.specs.Prelude.{ℤ, ◌+ℤ◌, nat_lt, slice_get}
use Rattle.std.proofs.Math.Logic.{◌⊎◌, inl, inr}
use Rattle.std.proofs.lemmas.Bool.{cases_Bool, cases_eq}
use Rattle.std.proofs.lemmas.Int.{ints}
use Rattle.std.proofs.lemmas.Option.{same_Some, slice_get_within}
use Rattle.node_core.specs.declared.params.Params.{Params}
use Rattle.break_lines.specs.declared.group.ActiveGroup.{ActiveGroup}
use Rattle.break_lines.specs.declared.state.BreakState.{BreakState}
use Rattle.break_lines.specs.declared.state.Fitness.{Fitness}
use Rattle.break_lines.specs.declared.state.Fitness.TheVariants.{VeryLoose, Loose, Decent, Tight}
use Rattle.break_lines.specs.declared.state.LineCost.{LineCost}
use Rattle.break_lines.specs.Costs.{adjacent_demerits, is_apart, line_after}
use Rattle.break_lines.specs.Orders.{NotAfter}
use Rattle.break_lines.specs.Problems.{class_index, end_after}
use Rattle.break_lines.specs.SmallCosts.{IsSmallAlone}
use Rattle.break_lines.specs.Tables.{Entry, compared_numbers, IsPut}
use Rattle.break_lines.specs.Totals.{Within, AreSmallTotals, entry_with_totals}
use Rattle.break_lines.proofs.Dictionary.{state_same, rank_few, not_after_refl, not_after_trans}
use Rattle.break_lines.proofs.Entries.{get_at, get_left, get-set_same, get-set_other}
use Rattle.break_core.specs.declared.active_list.Live.{Live}
use Rattle.break_core.specs.declared.row.Offer.{Offer}
use Rattle.break_core.specs.declared.row.Row.{Row}
use Rattle.break_core.specs.Private.Active.{HaveBest}
use Rattle.break_core.specs.Private.Filling.{IsOf, IsBestOffer, IsOfferingBest, offer_from}
use Rattle.break_core.specs.Private.Offers.{no_entry, totals_of, shown_from, row_at, IsOffer, offer_numbers, offer_before, IsBestFor, AreBestFor, IsBefore, AreBefore, IsBetter, AreBetter, AreNumbered, IsPutBetter}
use Rattle.break_core.proofs.Active.{shorter}
use Rattle.break_core.proofs.BestOffers.{best_offered}
use Rattle.break_core.proofs.Offers.{shown_ordered}

-- An entry before lines of each class.
pub before_four :
    (params : Params) (e : Entry) (index : ℕ) (a b c d : Offer)
    → IsBefore params e index VeryLoose a → IsBefore params e index Loose b → IsBefore params e index Decent c → IsBefore params e index Tight d
    → AreBefore params e index (a ∷ b ∷ c ∷ d ∷ [])
before_four params e index a b c d first second third fourth VeryLoose o at = subst (IsBefore params e index VeryLoose) (same_Some a o at) first
before_four params e index a b c d first second third fourth Loose o at = subst (IsBefore params e index Loose) (same_Some b o at) second
before_four params e index a b c d first second third fourth Decent o at = subst (IsBefore params e index Decent) (same_Some c o at) third
before_four params e index a b c d first second third fourth Tight o at = subst (IsBefore params e index Tight) (same_Some d o at) fourth

-- An entry before lines of two classes, if the demerits for both are the same.
before_same :
    (params : Params) (e : Entry) (index : ℕ) (known other : Fitness) (o : Offer)
    → adjacent_demerits params e.end.class known ≡ adjacent_demerits params e.end.class other
    → IsBefore params e index known o → IsBefore params e index other o
before_same params e index known other o same is =
    record {
      is = is.is ∙ ap (λ (x : ℤ). offer_with e index (e.demerits +ℤ x)) same;
      small = record { overhang = is.small.overhang; demerits = is.small.demerits };
      class_bounded = subst (Within 500000000) same is.class_bounded;
    }
  where
    offer_with : Entry → ℕ → ℤ → Offer
    offer_with x n demerits = record { overhang = x.overhang; demerits = demerits; index = n }

-- The offers before lines of each class, by those before a very loose line and before a tight one.
abbrev pub before_offers : (class : Fitness) → (below above : Offer) → List Offer
before_offers VeryLoose below above = below ∷ below ∷ above ∷ above ∷ []
before_offers Loose below above = below ∷ below ∷ below ∷ above ∷ []
before_offers Decent below above = below ∷ above ∷ above ∷ above ∷ []
before_offers Tight below above = below ∷ below ∷ above ∷ above ∷ []

-- An entry before lines of each class, by its offers before a very loose line and before a tight one.
pub before_each :
    (params : Params) (e : Entry) (index : ℕ) (class : Fitness) (below above : Offer)
    → class ≡ e.end.class → IsBefore params e index VeryLoose below → IsBefore params e index Tight above
    → AreBefore params e index (before_offers class below above)
unfolding adjacent_demerits is_apart
before_each params e index VeryLoose below above at low high =
    before_four params e index below below above above low
    (before_same params e index VeryLoose Loose below (by (λ c. adjacent_demerits params c VeryLoose ≡ adjacent_demerits params c Loose) refl) low)
    (before_same params e index Tight Decent above (by (λ c. adjacent_demerits params c Tight ≡ adjacent_demerits params c Decent) refl) high)
    high
  where
    by : (P : Fitness → Type 0) → P VeryLoose → P e.end.class
    by P is = subst P at is
before_each params e index Loose below above at low high =
    before_four params e index below below below above low
    (before_same params e index VeryLoose Loose below (by (λ c. adjacent_demerits params c VeryLoose ≡ adjacent_demerits params c Loose) refl) low)
    (before_same params e index VeryLoose Decent below (by (λ c. adjacent_demerits params c VeryLoose ≡ adjacent_demerits params c Decent) refl) low)
    high
  where
    by : (P : Fitness → Type 0) → P Loose → P e.end.class
    by P is = subst P at is
before_each params e index Decent below above at low high =
    before_four params e index below above above above low
    (before_same params e index Tight Loose above (by (λ c. adjacent_demerits params c Tight ≡ adjacent_demerits params c Loose) refl) high)
    (before_same params e index Tight Decent above (by (λ c. adjacent_demerits params c Tight ≡ adjacent_demerits params c Decent) refl) high)
    high
  where
    by : (P : Fitness → Type 0) → P Decent → P e.end.class
    by P is = subst P at is
before_each params e index Tight below above at low high =
    before_four params e index below below above above low
    (before_same params e index VeryLoose Loose below (by (λ c. adjacent_demerits params c VeryLoose ≡ adjacent_demerits params c Loose) refl) low)
    (before_same params e index Tight Decent above (by (λ c. adjacent_demerits params c Tight ≡ adjacent_demerits params c Decent) refl) high)
    high
  where
    by : (P : Fitness → Type 0) → P Tight → P e.end.class
    by P is = subst P at is

-- The better ones of two offers for each class.
better_one :
    (table : List Entry) (x y z u v w : Offer) → x ≡ u → y ≡ v → z ≡ w → IsBetter table x y z → IsBetter table u v w
better_one table x y z u v w is_x is_y is_z is =
    subst (λ o. IsBetter table o v w) is_x (subst (λ o. IsBetter table x o w) is_y (subst (IsBetter table x y) is_z is))

put_one :
    (table : List Entry) (slot : ℕ) (other : Offer) (before after xs new : List Offer)
    → slice_get before slot ≡ slice_get xs slot → slice_get new slot ≡ slice_get after slot → IsPutBetter table slot other before after
    → (x y z : Offer) → slice_get xs slot ≡ Some x → other ≡ y → slice_get new slot ≡ Some z → IsBetter table x y z
put_one table slot other before after xs new same kept put x y z at_x is_y at_z =
    better_one table put.held other put.kept x y z (same_Some put.held x (sym put.was ∙ same ∙ at_x)) is_y
    (same_Some put.kept z (sym put.is ∙ sym kept ∙ at_z)) put.better

pub put_four :
    (table : List Entry) (v0 v1 v2 v3 v4 ys : List Offer) (b0 b1 b2 b3 : Offer)
    → slice_get ys 0 ≡ Some b0 → slice_get ys 1 ≡ Some b1 → slice_get ys 2 ≡ Some b2 → slice_get ys 3 ≡ Some b3
    → IsPutBetter table 0 b0 v0 v1 → IsPutBetter table 1 b1 v1 v2 → IsPutBetter table 2 b2 v2 v3 → IsPutBetter table 3 b3 v3 v4 → AreBetter table v0 ys v4
put_four table v0 v1 v2 v3 v4 ys b0 b1 b2 b3 q0 q1 q2 q3 p0 p1 p2 p3 VeryLoose x y z at_x at_y at_z =
    put_one table 0 b0 v0 v1 v0 v4 refl (p3.rest 0 (λ no. cc) ∙ p2.rest 0 (λ no. cc) ∙ p1.rest 0 (λ no. cc)) p0 x y z at_x (same_Some b0 y (sym q0 ∙ at_y)) at_z
put_four table v0 v1 v2 v3 v4 ys b0 b1 b2 b3 q0 q1 q2 q3 p0 p1 p2 p3 Loose x y z at_x at_y at_z =
    put_one table 1 b1 v1 v2 v0 v4 (p0.rest 1 (λ no. cc)) (p3.rest 1 (λ no. cc) ∙ p2.rest 1 (λ no. cc)) p1 x y z at_x (same_Some b1 y (sym q1 ∙ at_y)) at_z
put_four table v0 v1 v2 v3 v4 ys b0 b1 b2 b3 q0 q1 q2 q3 p0 p1 p2 p3 Decent x y z at_x at_y at_z =
    put_one table 2 b2 v2 v3 v0 v4 (p1.rest 2 (λ no. cc) ∙ p0.rest 2 (λ no. cc)) (p3.rest 2 (λ no. cc)) p2 x y z at_x (same_Some b2 y (sym q2 ∙ at_y)) at_z
put_four table v0 v1 v2 v3 v4 ys b0 b1 b2 b3 q0 q1 q2 q3 p0 p1 p2 p3 Tight x y z at_x at_y at_z =
    put_one table 3 b3 v3 v4 v0 v4 (p2.rest 3 (λ no. cc) ∙ p1.rest 3 (λ no. cc) ∙ p0.rest 3 (λ no. cc)) refl p3 x y z at_x (same_Some b3 y (sym q3 ∙ at_y)) at_z

-- Numbers of entries.
pub numbered_before :
    (table : List Entry) (params : Params) (e : Entry) (index : ℕ) (offers : List Offer)
    → AreBefore params e index offers → index < length table → AreNumbered table offers
numbered_before table params e index offers are within class o at =
    omega (arith, ap (λ (x : Offer). x.index) ((are class o at).is), within)

pub numbered_best :
    (table : List Entry) (params : Params) (from to : ℕ) (best : List Offer) → AreBestFor table params from to best → AreNumbered table best
numbered_best table params from to best are class o at = let is = are class o at in omega (arith, is.high, is.within)

pub numbered_slot :
    (table : List Entry) (offers : List Offer) (slot : ℕ) (o : Offer)
    → slot < 4 → AreNumbered table offers → slice_get offers slot ≡ Some o → o.index < length table
numbered_slot table offers zero o few are at = are VeryLoose o at
numbered_slot table offers (suc zero) o few are at = are Loose o at
numbered_slot table offers (suc (suc zero)) o few are at = are Decent o at
numbered_slot table offers (suc (suc (suc zero))) o few are at = are Tight o at
numbered_slot table offers (suc (suc (suc (suc n)))) o few are at = absurd (omega (arith, few))

pub numbered_set :
    (table : List Entry) (offers : List Offer) (slot : ℕ) (held other : Offer)
    → slice_get offers slot ≡ Some held → AreNumbered table offers → other.index < length table → AreNumbered table (set offers slot other)
numbered_set table offers slot held other was are within class o at = which (cases_eq (class_index class) slot)
  where
    which : (class_index class ≡ slot) ⊎ (class_index class ≢ slot) → o.index < length table
    which (inl same) =
        let is : other ≡ o = same_Some other o (sym (get-set_same offers slot other held was) ∙ ap (slice_get (set offers slot other)) (sym same) ∙ at) in
        subst (λ (x : Offer). x.index < length table) is within
    which (inr apart) = are class o (sym (get-set_other offers slot (class_index class) other apart) ∙ at)

-- The first entry is the best one alone.
pub best_first :
    (table : List Entry) (params : Params) (start : ℕ) (e : Entry) (best : List Offer)
    → slice_get table start ≡ Some e → start + 1 ≤ no_entry → AreBefore params e start best → AreBestFor table params start (start + 1) best
best_first table params start e best present few are class o at =
    record {
      low = omega (arith, number);
      high = omega (arith, number);
      within = omega (arith, slice_get_within table start e present);
      real = few;
      entry = e;
      present = ap (slice_get table) number ∙ present;
      is = is.is ∙ ap (λ n. offer_before params e n class) (sym number);
      small = is.small;
      class_bounded = is.class_bounded;
      least = least;
    }
  where
    is : IsBefore params e start class o
    is = are class o at

    number : o.index ≡ start
    number = ap (λ (x : Offer). x.index) is.is

    least :
        (j : ℕ) (f : Entry) → start ≤ j → j < start + 1 → slice_get table j ≡ Some f
        → NotAfter (offer_numbers o e) (offer_numbers (offer_before params f j class) f)
    least j f low high there =
        let same : start ≡ j = omega (arith, low, high) in
        let one : e ≡ f = same_Some e f (sym present ∙ ap (slice_get table) same ∙ there) in
        subst (λ x. NotAfter (offer_numbers o e) (offer_numbers (offer_before params x j class) x)) one
        (subst (λ n. NotAfter (offer_numbers o e) (offer_numbers (offer_before params e n class) e)) same
        (subst (λ x. NotAfter (offer_numbers o e) (offer_numbers x e)) is.is (not_after_refl (offer_numbers o e))))

-- With one more entry, the better one of both is the best one.
best_one :
    (table : List Entry) (params : Params) (class : Fitness) (from to : ℕ) (e : Entry) (best other kept : Offer)
    → IsBestFor table params class from to best → from ≤ to → to + 1 ≤ no_entry → slice_get table to ≡ Some e → IsBefore params e to class other
    → IsBetter table best other kept → IsBestFor table params class from (to + 1) kept
best_one table params class from to e best other kept is rises few present made better = which better.either
  where
    number : other.index ≡ to
    number = ap (λ (x : Offer). x.index) made.is

    there : slice_get table other.index ≡ Some e
    there = ap (slice_get table) number ∙ present

    within : to + 1 ≤ length table
    within = omega (arith, slice_get_within table to e present)

    least :
        (g : Entry) → slice_get table kept.index ≡ Some g
        → (j : ℕ) (f : Entry) → from ≤ j → j < to + 1 → slice_get table j ≡ Some f
        → NotAfter (offer_numbers kept g) (offer_numbers (offer_before params f j class) f)
    least g here j f low high at = cases (cases_Bool (nat_lt j to))
      where
        cases : (nat_lt j to ≡ true) ⊎ (nat_lt j to ≡ false) → NotAfter (offer_numbers kept g) (offer_numbers (offer_before params f j class) f)
        cases (inl h) =
            let less : j < to = grind arith in
            not_after_trans (offer_numbers kept g) (offer_numbers best is.entry) (offer_numbers (offer_before params f j class) f)
            (better.first g is.entry here is.present) (is.least j f low less at)
        cases (inr h) =
            let most : to ≤ j = grind arith in
            let same : to ≡ j = omega (arith, most, high) in
            let one : e ≡ f = same_Some e f (sym present ∙ ap (slice_get table) same ∙ at) in
            subst (λ x. NotAfter (offer_numbers kept g) (offer_numbers (offer_before params x j class) x)) one
            (subst (λ n. NotAfter (offer_numbers kept g) (offer_numbers (offer_before params e n class) e)) same
            (subst (λ x. NotAfter (offer_numbers kept g) (offer_numbers x e)) made.is (better.second g e here there)))

    which : (kept ≡ best) ⊎ (kept ≡ other) → IsBestFor table params class from (to + 1) kept
    which (inl same) =
        let index : kept.index ≡ best.index = ap (λ (x : Offer). x.index) same in
        let here : slice_get table kept.index ≡ Some is.entry = ap (slice_get table) index ∙ is.present in
        record {
          low = omega (arith, is.low, index);
          high = omega (arith, is.high, index);
          within = within;
          real = few;
          entry = is.entry;
          present = here;
          is = same ∙ is.is ∙ ap (λ n. offer_before params is.entry n class) (sym index);
          small = subst (λ x. AreSmallTotals (totals_of class x)) (sym same) is.small;
          class_bounded = is.class_bounded;
          least = least is.entry here;
        }
    which (inr same) =
        let index : kept.index ≡ to = ap (λ (x : Offer). x.index) same ∙ number in
        let here : slice_get table kept.index ≡ Some e = ap (slice_get table) index ∙ present in
        record {
          low = omega (arith, rises, index);
          high = omega (arith, index);
          within = within;
          real = few;
          entry = e;
          present = here;
          is = same ∙ made.is ∙ ap (λ n. offer_before params e n class) (sym index);
          small = subst (λ x. AreSmallTotals (totals_of class x)) (sym same) made.small;
          class_bounded = made.class_bounded;
          least = least e here;
        }

pub best_more :
    (table : List Entry) (params : Params) (from to : ℕ) (e : Entry) (best others kept : List Offer)
    → AreBestFor table params from to best → from ≤ to → to + 1 ≤ no_entry → slice_get table to ≡ Some e → AreBefore params e to others
    → length best ≡ 4 → length others ≡ 4 → AreBetter table best others kept → AreBestFor table params from (to + 1) kept
best_more table params from to e best others kept are rises few present made long wide better class o at =
    let rank = rank_few class in
    let first = get_at best (class_index class) (omega (arith, long, rank)) in
    let second = get_at others (class_index class) (omega (arith, wide, rank)) in
    best_one table params class from to e first.0 second.0 o (are class first.0 first.1) rises few present (made class second.0 second.1)
    (better class first.0 second.0 o first.1 second.1 at)

-- The offer of the best entry by a line: the totals of both together.
abbrev pub offer_by : Offer → LineCost → Offer
offer_by best alone = record { overhang = best.overhang +ℤ alone.overhang; demerits = best.demerits +ℤ alone.demerits; index = best.index }

-- The offers by a line have the order of their entries.
pub offers_ordered :
    (a b : Offer) (e f : Entry) (alone : LineCost)
    → NotAfter (offer_numbers a e) (offer_numbers b f) → NotAfter (offer_numbers (offer_by a alone) e) (offer_numbers (offer_by b alone) f)
offers_ordered a b e f alone (inl less) = inl (omega (arith, ints))
offers_ordered a b e f alone (inr (same, inl less)) = inr (omega (arith, ints), inl (omega (arith, ints)))
offers_ordered a b e f alone (inr (same, inr (equal, rest))) = inr (omega (arith, ints), inr (omega (arith, ints), rest))

-- It stands for the offer of the entry.
pub offer_is_made :
    (params : Params) (e : Entry) (k place : ℕ) (alone : LineCost)
    → entry_with_totals e k place (totals_of alone.class (offer_by (offer_before params e k alone.class) alone)) ≡ offer_from params e k place alone
offer_is_made params e k place alone =
    ap (λ s. entry s ((e.demerits +ℤ extra) +ℤ alone.demerits)) end ∙ ap (entry (end_after 0 e.end place (line_after params e.end.class alone))) costs
  where
    extra : ℤ
    extra = adjacent_demerits params e.end.class alone.class

    entry : BreakState → ℤ → Entry
    entry s demerits = record { end = s; overhang = e.overhang +ℤ alone.overhang; demerits = demerits; from = e.end; index = k }

    state : BreakState
    state = record { place = place; lines = 0; class = alone.class }

    lines : 0 ≡ min (e.end.lines + 1) 0
    lines = omega arith

    end : state ≡ end_after 0 e.end place (line_after params e.end.class alone)
    end = state_same state (end_after 0 e.end place (line_after params e.end.class alone)) refl lines refl

    costs : (e.demerits +ℤ extra) +ℤ alone.demerits ≡ e.demerits +ℤ (alone.demerits +ℤ extra)
    costs = omega (arith, ints)

-- The offer of the best entry is the best offer.
pub best_by_totals :
    (table : List Entry) (params : Params) (group : ActiveGroup) (place : ℕ) (alone : LineCost) (best : Offer)
    → (is : IsBestFor table params alone.class group.start group.end best)
    → IsBestOffer table params place alone group.start group.end
    (entry_with_totals is.entry best.index place (totals_of alone.class (offer_by best alone)))
best_by_totals table params group place alone best is =
    record {
      by = best.index;
      low = is.low;
      high = is.high;
      entry = is.entry;
      present = is.present;
      is = ap (λ x. entry_with_totals is.entry best.index place (totals_of alone.class (offer_by x alone))) is.is
          ∙ offer_is_made params is.entry best.index place alone;
      least = λ j f low high there.
          subst (λ x. NotAfter (compared_numbers (entry_with_totals is.entry best.index place (totals_of alone.class (offer_by best alone)))) (compared_numbers x))
          (offer_is_made params f j place alone)
          (shown_ordered (offer_by best alone) (offer_by (offer_before params f j alone.class) alone) is.entry f place alone.class
          (offers_ordered best (offer_before params f j alone.class) is.entry f alone (is.least j f low high there)));
    }

-- Putting it into its slot has the effect of all offers of the group.
pub totals_offered :
    (table : List Entry) (params : Params) (live : Live) (place : ℕ) (alone : LineCost) (best offered : Offer) (old new : List (Option Entry))
    → IsOf 0 table live.group → IsBestFor table params alone.class live.group.start live.group.end best → offered ≡ offer_by best alone
    → ((e : Entry) → slice_get table offered.index ≡ Some e → IsPut (entry_with_totals e offered.index place (totals_of alone.class offered)) old new)
    → IsOfferingBest table params live.group place alone old new
totals_offered table params live place alone best offered old new of is made put =
    best_offered table params live.group place alone (entry_with_totals is.entry best.index place (totals_of alone.class (offer_by best alone))) old new of
    (best_by_totals table params live.group place alone best is)
    (subst (λ x. IsPut (entry_with_totals is.entry x.index place (totals_of alone.class x)) old new) made
    (put is.entry (ap (λ (x : Offer). slice_get table x.index) made ∙ is.present)))

-- It stands for an entry whose last line is small.
pub offer_stands :
    (table : List Entry) (params : Params) (live : Live) (alone : LineCost) (best offered : Offer)
    → IsOf 0 table live.group → IsBestFor table params alone.class live.group.start live.group.end best
    → IsSmallAlone alone → offered ≡ offer_by best alone → IsOffer table (live.group.place + 1) alone.class offered
offer_stands table params live alone best offered of is small made =
    subst (IsOffer table (live.group.place + 1) alone.class) (sym made)
    (record {
      before = is.entry;
      real = omega (arith, is.high, is.real);
      present = is.present;
      earlier = omega (arith, (of best.index is.entry is.low is.high is.present).0);
      small = record {
        overhang = record { low = omega (arith, ints, overhang, small.overhang.low); high = omega (arith, ints, overhang, small.overhang.high) };
        demerits = record {
          low = omega (arith, ints, demerits, small.demerits.low, is.class_bounded.low);
          high = omega (arith, ints, demerits, small.demerits.high, is.class_bounded.high);
        };
      };
    })
  where
    overhang : best.overhang ≡ is.entry.overhang
    overhang = ap (λ (x : Offer). x.overhang) is.is

    demerits : best.demerits ≡ is.entry.demerits +ℤ adjacent_demerits params is.entry.end.class alone.class
    demerits = ap (λ (x : Offer). x.demerits) is.is

-- The same for rows as a whole.
pub best_in_row :
    (cut : ℕ) (table : List Entry) (params : Params) (group : ActiveGroup) (place : ℕ) (alone : LineCost) (old new : Row)
    → cut ≡ 0 → IsOfferingBest table params group place alone (shown_from table place 0 old.offers) (shown_from table place 0 new.offers)
    → IsOfferingBest table params group place alone (row_at cut table place old) (row_at cut table place new)
best_in_row zero table params group place alone old new none is = is
best_in_row (suc cut) table params group place alone old new none is = absurd (omega (arith, none))

-- The best entries stay the best ones in a longer table.
pub best_longer : (table more : List Entry) (params : Params) (lives : List Live) → HaveBest table params lives → HaveBest (table ++ more) params lives
best_longer table more params lives are k live at none class o here = best_in_longer class o (are k live at none class o here)
  where
    best_in_longer : (class : Fitness) (o : Offer) → IsBestFor table params class live.group.start live.group.end o → IsBestFor (table ++ more) params class live.group.start live.group.end o
    best_in_longer class o is =
        record {
          low = is.low;
          high = is.high;
          within = omega (arith, is.within, length-append table more);
          real = is.real;
          entry = is.entry;
          present = get_left table more o.index is.entry is.present;
          is = is.is;
          small = is.small;
          class_bounded = is.class_bounded;
          least = λ j f low high there. is.least j f low high (shorter table more j f (omega (arith, high, is.within)) there);
        }
