-- The best offer of a group, if no lines are counted.
use Rattle.std.proofs.Common.{◌≡◌, ◌∙◌, ℕ, ◌+◌, ◌<◌, ◌≤◌, Bool, true, false, List, min, refl, ap, sym, subst, arith, Option, Some, None}
use Rattle.std.specs.Prelude.{ℤ, nat_lt, ◌&&◌}
use Rattle.std.proofs.Math.Logic.{◌⊎◌, inl, inr}
use Rattle.std.proofs.lemmas.Bool.{cases_Bool, cond-false}
use Rattle.std.proofs.lemmas.Option.{same_Some}
use Rattle.node_core.specs.declared.params.Params.{Params}
use Rattle.break_lines.specs.declared.group.ActiveGroup.{ActiveGroup}
use Rattle.break_lines.specs.declared.state.Fitness.{Fitness}
use Rattle.break_lines.specs.declared.state.LineCost.{LineCost}
use Rattle.break_lines.specs.declared.state.BreakState.{BreakState}
use Rattle.break_lines.specs.Orders.{NotAfter}
use Rattle.break_lines.specs.Problems.{Problem}
use Rattle.break_lines.specs.Ways.{last_forced_below}
use Rattle.break_lines.specs.Tables.{Entry, extended_entry, compared_numbers, offer, IsOffered, IsRow, IsPut}
use Rattle.break_lines.proofs.Dictionary.{state_same}
use Rattle.break_lines.proofs.Reached.{offer_is}
use Rattle.break_lines.proofs.Rows.{row_best}
use Rattle.break_lines.specs.declared.sums.Sums.{Sums}
use Rattle.break_lines.specs.declared.cost.LineFit.{LineFit}
use Rattle.break_lines.specs.declared.cost.Bound.{Bound}
use Rattle.break_lines.specs.Costs.{line_fit, admitted_line, line_alone, line_after, after_class}
use Rattle.break_lines.specs.Sizes.{fits_of_sums, fit_after}
use Rattle.break_lines.proofs.Parts.{parts}
use Rattle.break_lines.proofs.Widths.{both_overfull, greatest_none}
use Rattle.break_core.specs.Private.Filling.{IsOf, IsOfferingUnless, offer_from, IsBestOffer, IsOfferingBest}
use Rattle.break_core.proofs.Active.{row_same}
use Rattle.break_core.proofs.Overfull.{no_offer}

-- The offer of an entry of the group.
pub offers :
    (p : Problem) (params : Params) (group : ActiveGroup) (place : ℕ) (alone : LineCost) (e : Entry) (k : ℕ)
    → p.cut ≡ 0 → last_forced_below p place ≤ group.place → ((s : BreakState) → s.place ≡ group.place → p.line s place ≡ Some (line_after params s.class alone))
    → e.end.place ≡ group.place → offer p e k place ≡ Some (offer_from params e k place alone)
offers p params group place alone e k cut late follow at =
    offer_is p e k place (Some (line_after params e.end.class alone)) (subst (λ n. last_forced_below p place ≤ n) (sym at) late) (follow e.end at)
    ∙ ap Some (ap (λ n. extended_entry n e k place (line_after params e.end.class alone)) cut)

-- All offers of a group are for one state.
pub one_end :
    (params : Params) (place : ℕ) (alone : LineCost) (e f : Entry) (k j : ℕ)
    → (offer_from params e k place alone).end ≡ (offer_from params f j place alone).end
one_end params place alone e f k j =
    let lines : min (e.end.lines + 1) 0 ≡ min (f.end.lines + 1) 0 = omega arith in
    state_same (offer_from params e k place alone).end (offer_from params f j place alone).end refl lines refl

-- Putting only the best offer into its slot has the effect of all offers of the group.
pub best_offered :
    (table : List Entry) (params : Params) (group : ActiveGroup) (place : ℕ) (alone : LineCost) (best : Entry) (old new : List (Option Entry))
    → IsOf 0 table group → IsBestOffer table params place alone group.start group.end best → IsPut best old new
    → IsOfferingBest table params group place alone old new
best_offered table params group place alone best old new of is put p cut late follow before =
    subst (IsRow p table place group.end) (sym put.is)
    (row_best p table place group.start group.end is.by best put.kept put.held old is.low is.high offered put.was_present put.is_kept least before)
  where
    offered : IsOffered p table place is.by best
    offered =
        record {
          by = is.entry;
          present = is.present;
          offers = offers p params group place alone is.entry is.by cut late follow (of is.by is.entry is.low is.high is.present).0
              ∙ ap Some (sym is.is);
        }

    least : (k : ℕ) (f : Entry) → group.start ≤ k → k < group.end → IsOffered p table place k f → (f.end ≡ best.end) × NotAfter (compared_numbers best) (compared_numbers f)
    least k f low high o =
        let made : offer_from params o.by k place alone ≡ f =
        same_Some (offer_from params o.by k place alone) f
        (sym (offers p params group place alone o.by k cut late follow (of k o.by low high o.present).0) ∙ o.offers) in (
          ap (λ x. x.end) (sym made) ∙ one_end params place alone o.by is.entry k is.by ∙ ap (λ x. x.end) (sym is.is),
          subst (λ x. NotAfter (compared_numbers best) (compared_numbers x)) made (is.least k o.by low high o.present),
        )

-- If no lines are counted, the lines to a place are the line that was judged once, with the demerits for the class of the line before it.
fit_once :
    (params : Params) (bound : Bound) (penalty : ℤ) (sums : Sums) (lines : ℕ) (before : Fitness) (found : Option LineCost)
    → params.first_lines ≡ 0 → found ≡ line_alone params bound penalty (line_fit sums params.hsize)
    → admitted_line params bound penalty before (fit_after params.first_lines lines (fits_of_sums params sums)) ≡ after_class params before found
unfolding fits_of_sums
fit_once params bound penalty sums lines before found none is =
    ap (admitted_line params bound penalty before) rest ∙ sym (parts params bound penalty before (line_fit sums params.hsize)) ∙ ap (after_class params before) (sym is)
  where
    not_first : (nat_lt lines params.first_lines ≡ true) ⊎ (nat_lt lines params.first_lines ≡ false) → nat_lt lines params.first_lines ≡ false
    not_first (inl h) = let less : lines < params.first_lines = grind arith in absurd (omega (arith, none))
    not_first (inr h) = h

    rest : fit_after params.first_lines lines (fits_of_sums params sums) ≡ line_fit sums params.hsize
    rest =
        cond-false (nat_lt lines params.first_lines) (fits_of_sums params sums).first (fits_of_sums params sums).rest
        (not_first (cases_Bool (nat_lt lines params.first_lines)))

pub best_line :
    (left_out : Bool) (table : List Entry) (params : Params) (bound : Bound) (group : ActiveGroup) (place : ℕ) (penalty : ℤ) (sums : Sums) (alone : LineCost)
    (old new : List (Option Entry))
    → params.first_lines ≡ 0 → left_out ≡ false → Some alone ≡ line_alone params bound penalty (line_fit sums params.hsize)
    → IsOfferingBest table params group place alone old new
    → IsOfferingUnless left_out table params bound group place penalty (fits_of_sums params sums) old new
unfolding after_class
best_line left_out table params bound group place penalty sums alone old new none not_left_out is offering p cut late line_fit before =
    offering p (cut ∙ none) late
    (λ s at. line_fit s at
    ∙ cond-false left_out None (admitted_line params bound penalty s.class (fit_after params.first_lines s.lines (fits_of_sums params sums))) not_left_out
    ∙ fit_once params bound penalty sums s.lines s.class (Some alone) none is)
    before

pub none_line :
    (left_out : Bool) (table : List Entry) (params : Params) (bound : Bound) (group : ActiveGroup) (place : ℕ) (penalty : ℤ) (sums : Sums) (row : List (Option Entry))
    → params.first_lines ≡ 0 → left_out ≡ false → None ≡ line_alone params bound penalty (line_fit sums params.hsize)
    → group.start ≤ group.end → IsOf params.first_lines table group
    → IsOfferingUnless left_out table params bound group place penalty (fits_of_sums params sums) row row
unfolding after_class
none_line left_out table params bound group place penalty sums row none not_left_out is rises of p cut late line_fit before =
    row_same p table place group.start group.end row rises (λ k e low high at. no_offer p e k place (no_line e (of k e low high at).0)) before
  where
    no_line : (e : Entry) → e.end.place ≡ group.place → p.line e.end place ≡ None
    no_line e at =
        line_fit e.end at
        ∙ cond-false left_out None (admitted_line params bound penalty e.end.class (fit_after params.first_lines e.end.lines (fits_of_sums params sums))) not_left_out
        ∙ fit_once params bound penalty sums e.end.lines e.end.class None none is

pub overfull_once :
    (params : Params) (sums : Sums) (line : LineFit)
    → params.first_lines ≡ 0 → line ≡ line_fit sums params.hsize
    → line.overfull ≡ ((fits_of_sums params sums).first.overfull && (fits_of_sums params sums).rest.overfull)
overfull_once params sums line none is =
    ap (λ j. j.overfull) is ∙ sym (both_overfull params sums ∙ ap (λ n. (line_fit sums n).overfull) (greatest_none params none))
