-- Offers without their entries, if no lines are counted: totals, and the number of the entry before the last line (own).
use Rattle.std.specs.Prelude.{◌≡◌, ◌≢◌, ◌<◌, ◌≤◌, ◌⊎◌, ◌==◌, ℕ, zero, suc, ℤ, pos, List, replicate, [], ◌∷◌, length, slice_get, Option, Some, None}
use Rattle.std.specs.Prelude.{◌<ℤ◌, ◌≤ℤ◌, if◌then◌else◌}
use Rattle.node_core.specs.declared.params.Params.{Params}
use Rattle.break_lines.specs.declared.state.Fitness.{Fitness}
use Rattle.break_lines.specs.declared.state.Fitness.TheVariants.{VeryLoose, Loose, Decent, Tight}
use Rattle.break_lines.specs.declared.state.LineCost.{LineCost}
use Rattle.break_lines.specs.Costs.{adjacent_demerits}
use Rattle.break_lines.specs.Orders.{NotAfter}
use Rattle.break_lines.specs.Problems.{class_index, tie_numbers}
use Rattle.break_lines.specs.Tables.{Entry, slots, IsSmallLine}
use Rattle.break_lines.specs.Totals.{Within, AreSmallTotals, totals_before, line_of_totals, entry_with_totals}
use Rattle.break_core.specs.declared.row.Offer.{Offer}
use Rattle.break_core.specs.declared.row.Row.{Row}

-- The number that stands for no entry.
abbrev pub no_entry : ℕ
no_entry = 18446744073709551615

-- No offer: its totals are the greatest ones, so that each offer replaces it.
abbrev pub no_offer : Offer
no_offer = record { overhang = pos 9223372036854775807; demerits = pos 9223372036854775807; index = no_entry }

-- The class with this number.
abbrev pub class_of : ℕ → Fitness
class_of zero = VeryLoose
class_of (suc zero) = Loose
class_of (suc (suc zero)) = Decent
class_of (suc (suc (suc n))) = Tight

-- The totals of an offer for a state of this class.
abbrev pub totals_of : Fitness → Offer → LineCost
totals_of class o = record { class = class; overhang = o.overhang; demerits = o.demerits }

-- The entry for a place that an offer stands for, if its number is that of an entry.
abbrev pub entry_after : Option Entry → (place : ℕ) → Fitness → Offer → Option Entry
entry_after None place class o = None
entry_after (Some e) place class o = Some (entry_with_totals e o.index place (totals_of class o))

abbrev pub shown_offer : (table : List Entry) → (place : ℕ) → Fitness → Offer → Option Entry
shown_offer table place class o = if o.index == no_entry then None else entry_after (slice_get table o.index) place class o

-- The row for a place that offers for classes from number n on stand for.
abbrev pub shown_from : (table : List Entry) → (place n : ℕ) → List Offer → List (Option Entry)
shown_from table place n [] = []
shown_from table place n (o ∷ offers) = shown_offer table place (class_of n) o ∷ shown_from table place (suc n) offers

-- The row for a place.
abbrev pub row_at : (cut : ℕ) → (table : List Entry) → (place : ℕ) → Row → List (Option Entry)
row_at zero table place row = shown_from table place 0 row.offers
row_at (suc n) table place row = row.counted.items

-- An offer stands for an entry, whose last line is small and comes from an earlier place than this one.
pub record IsOffer (table : List Entry) (place : ℕ) (class : Fitness) (o : Offer) : Type 0 where
  pub before : Entry
  pub real : o.index < no_entry
  pub present : slice_get table o.index ≡ Some before
  pub earlier : before.end.place < place
  pub small : IsSmallLine (line_of_totals before (totals_of class o))

-- Each offer of a row is none, or stands for an entry.
abbrev pub AreOffers : (table : List Entry) → (place : ℕ) → List Offer → Type 0
AreOffers table place offers =
    (class : Fitness) (o : Offer) → slice_get offers (class_index class) ≡ Some o → (o ≡ no_offer) ⊎ IsOffer table place class o

-- The totals of the first offer are at most those of the second, or below them.
abbrev pub IsAtMost : (first second : Offer) → Type 0
IsAtMost first second =
    (first.overhang <ℤ second.overhang) ⊎ ((first.overhang ≡ second.overhang) × (first.demerits ≤ℤ second.demerits))

abbrev pub IsBelow : (first second : Offer) → Type 0
IsBelow first second =
    (first.overhang <ℤ second.overhang) ⊎ ((first.overhang ≡ second.overhang) × (first.demerits <ℤ second.demerits))

-- The better one of two offers, of which the second is of a later place.
abbrev pub IsLaterOrBetter : (held next r : Offer) → Type 0
IsLaterOrBetter held next r = ((r ≡ next) × IsAtMost next held) ⊎ ((r ≡ held) × IsBelow held next)

-- The numbers by which offers for one state are compared.
abbrev pub offer_numbers : Offer → (before : Entry) → List ℤ
offer_numbers o e = o.overhang ∷ o.demerits ∷ tie_numbers (e.end ∷ [])

-- The first offer is as good as the second or better.
abbrev pub IsAsGood : (table : List Entry) → (first second : Offer) → Type 0
IsAsGood table first second =
    (e f : Entry) → slice_get table first.index ≡ Some e → slice_get table second.index ≡ Some f
    → NotAfter (offer_numbers first e) (offer_numbers second f)

-- Entry number `index` before a line of a class.
abbrev pub offer_before : Params → Entry → (index : ℕ) → Fitness → Offer
offer_before params e index class =
    record { overhang = e.overhang; demerits = (totals_before params e class).demerits; index = index }

-- An offer of the entries `from` to `to` that makes the best one for each place by each line of a class.
pub record IsBestFor (table : List Entry) (params : Params) (class : Fitness) (from to : ℕ) (best : Offer) : Type 0 where
  pub low : from ≤ best.index
  pub high : best.index < to
  pub within : to ≤ length table
  pub real : to ≤ no_entry
  pub entry : Entry
  pub present : slice_get table best.index ≡ Some entry
  pub is : best ≡ offer_before params entry best.index class
  pub small : AreSmallTotals (totals_of class best)
  pub class_bounded : Within 500000000 (adjacent_demerits params entry.end.class class)
  pub least :
      (j : ℕ) (f : Entry) → from ≤ j → j < to → slice_get table j ≡ Some f
      → NotAfter (offer_numbers best entry) (offer_numbers (offer_before params f j class) f)

-- These offers are the best ones for lines of each class.
abbrev pub AreBestFor : (table : List Entry) → Params → (from to : ℕ) → List Offer → Type 0
AreBestFor table params from to best =
    (class : Fitness) (o : Offer) → slice_get best (class_index class) ≡ Some o → IsBestFor table params class from to o

-- Entry number `index` before a line of a class, known by its small totals.
pub record IsBefore (params : Params) (e : Entry) (index : ℕ) (class : Fitness) (o : Offer) : Type 0 where
  pub is : o ≡ offer_before params e index class
  pub small : AreSmallTotals (totals_of class o)
  pub class_bounded : Within 500000000 (adjacent_demerits params e.end.class class)

-- The same for lines of each class.
abbrev pub AreBefore : Params → Entry → (index : ℕ) → List Offer → Type 0
AreBefore params e index offers =
    (class : Fitness) (o : Offer) → slice_get offers (class_index class) ≡ Some o → IsBefore params e index class o

-- The better one of two offers.
pub record IsBetter (table : List Entry) (a b r : Offer) : Type 0 where
  pub either : (r ≡ a) ⊎ (r ≡ b)
  pub first : IsAsGood table r a
  pub second : IsAsGood table r b

-- The same for lines of each class.
abbrev pub AreBetter : (table : List Entry) → (a b r : List Offer) → Type 0
AreBetter table a b r =
    (class : Fitness) (x y z : Offer)
    → slice_get a (class_index class) ≡ Some x → slice_get b (class_index class) ≡ Some y → slice_get r (class_index class) ≡ Some z
    → IsBetter table x y z

-- The step from some offers to others: the one with this number is the better one of it and another offer.
pub record IsPutBetter (table : List Entry) (slot : ℕ) (other : Offer) (old new : List Offer) : Type 0 where
  pub held : Offer
  pub kept : Offer
  pub was : slice_get old slot ≡ Some held
  pub is : slice_get new slot ≡ Some kept
  pub better : IsBetter table held other kept
  pub rest : (k : ℕ) → k ≢ slot → slice_get new k ≡ slice_get old k

-- The numbers of offers for each class are numbers of entries.
abbrev pub AreNumbered : (table : List Entry) → List Offer → Type 0
AreNumbered table offers = (class : Fitness) (o : Offer) → slice_get offers (class_index class) ≡ Some o → o.index < length table

-- A row without offers.
abbrev pub no_offers : List Offer
no_offers = no_offer ∷ no_offer ∷ no_offer ∷ no_offer ∷ []

pub record IsEmpty (cut : ℕ) (row : Row) : Type 0 where
  pub offers : cut ≡ 0 → row.offers ≡ no_offers
  pub counted : 0 < cut → row.counted.items ≡ replicate (slots cut) None

-- A row has the offers of another one.
pub record IsSameRow (old new : Row) : Type 0 where
  pub offers : new.offers ≡ old.offers
  pub counted : new.counted.items ≡ old.counted.items
