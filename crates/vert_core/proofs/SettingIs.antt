-- What the setting of a paragraph says is so: a paragraph with a setting is set by it, and one without is not set for the fault that is reported.
use Rattle.std.proofs.Common.{◌≡◌, ◌∙◌, ◌≢◌, ◌<◌, ◌≤◌, ◌^◌, Bool, true, false, if◌then◌else◌, List, [], ◌∷◌, reverse, length, refl, subst, arith, Option, Some, None, Ok, Err}
use Rattle.std.specs.Prelude.{ℤ}
use Rattle.std.specs.Global.{Vec}
use Rattle.std.proofs.lemmas.Option.{same_Some}
use Rattle.std.proofs.lemmas.List.{length-map, length-reverse}
use denote.RawPtr.{null_ptr}
use Rattle.node_core.specs.declared.params.Params.{Params}
use Rattle.node_core.specs.declared.tree.Node.{Node}
use Rattle.break_lines.specs.declared.state.BreakState.{BreakState}
use Rattle.break_lines.specs.Problems.{Path, ends_of, places_of}
use Rattle.break_lines.specs.Chosen.{top, IsFalling, IsChosen, AdmitsNone}
use Rattle.break_lines.specs.declared.fault.BreakFault.{BreakFault}
use Rattle.break_lines.specs.declared.fault.BreakFault.TheVariants as breaking
use Rattle.break_lines.specs.Legal.{legal_places}
use Rattle.break_lines.specs.Facts.{Facts, facts_of, refusal}
use Rattle.break_lines.proofs.Refusals.{few_places}
use Rattle.break_core.specs.declared.broken.Breaks.{Breaks}
use Rattle.break_core.specs.declared.broken.Pass.{Pass}
use Rattle.break_core.specs.declared.broken.Pass.TheVariants.{First, Second, Third}
use Rattle.break_core.specs.Passes.{bound_of, problem_of, line_end_at, IsBefore, IsBroken}
use Rattle.break_core.proofs.Admitting.{last_admits}
use Rattle.vert_core.specs.declared.paragraph.ParagraphFault.{ParagraphFault}
use Rattle.vert_core.specs.declared.paragraph.ParagraphFault.TheVariants.{InfiniteShrink, TooManyBreaks, DimensionTooLarge, OutOfMemory}
use Rattle.vert_core.specs.LeastLists.{least_path}
use Rattle.vert_core.specs.Lines.{lines_fit}
use Rattle.vert_core.specs.Finished.{finished_list}
use Rattle.vert_core.specs.Paragraphs.{SetParagraph, break_fault, IsSet, IsSetParagraph, IsUnsetList, IsUnset}
use Rattle.vert_core.specs.Setting.{ChosenLines, chosen_or, chosen_lines, ends_by, paragraph_in_lines, set_by, set_if_fit, set_or, list_setting, setting}
use Rattle.vert_core.proofs.LeastLists.{none_least, least_chosen}
use Rattle.vert_core.proofs.Unbroken.{not_for_memory}

-- The chosen lines are the chosen list of the first pass that admits one.
record AreChosen (facts : Facts) (params : Params) (chosen : ChosenLines) : Type 0 where
  is : IsChosen (problem_of facts params (bound_of params chosen.pass)) (places_of (ends_of chosen.path)) chosen.path
  earlier : (pass : Pass) → IsBefore pass chosen.pass → AdmitsNone (problem_of facts params (bound_of params pass))

abbrev lines_in : Pass → Path → ChosenLines
lines_in pass q = record { pass = pass; path = q }

module _ (facts : Facts) (params : Params) where
  abbrev Admits : Pass → Type 0
  Admits pass = AdmitsNone (problem_of facts params (bound_of params pass))

  before_first : (pass : Pass) → IsBefore pass First → Admits pass
  before_first First h = absurd h
  before_first Second h = absurd h
  before_first Third h = absurd h

  before_second : Admits First → (pass : Pass) → IsBefore pass Second → Admits pass
  before_second first First h = first
  before_second first Second h = absurd h
  before_second first Third h = absurd h

  before_third : Admits First → Admits Second → (pass : Pass) → IsBefore pass Third → Admits pass
  before_third first second First h = first
  before_third first second Second h = second
  before_third first second Third h = absurd h

  abbrev least_in : Pass → Option Path
  least_in pass = least_path (problem_of facts params (bound_of params pass))

  chosen_in : (pass : Pass) (q : Path) (chosen : ChosenLines) → least_in pass ≡ Some q → ((other : Pass) → IsBefore other pass → Admits other)
      → Some (lines_in pass q) ≡ Some chosen → AreChosen facts params chosen
  chosen_in pass q chosen least earlier is =
      subst (AreChosen facts params) (same_Some (lines_in pass q) chosen is)
      (record { is = least_chosen (problem_of facts params (bound_of params pass)) q least; earlier = earlier })

  lines_are : (chosen : ChosenLines) → chosen_lines facts params ≡ Some chosen → AreChosen facts params chosen
  unfolding chosen_lines
  lines_are chosen is = cases (least_in First) (least_in Second) (least_in Third) refl refl refl is
    where
      none : (pass : Pass) → least_in pass ≡ None → Admits pass
      none pass is = none_least (problem_of facts params (bound_of params pass)) is

      cases : (first second third : Option Path) → least_in First ≡ first → least_in Second ≡ second → least_in Third ≡ third
          → chosen_or First first (chosen_or Second second (chosen_or Third third None)) ≡ Some chosen → AreChosen facts params chosen
      cases (Some q) second third one two three is = chosen_in First q chosen one before_first is
      cases None (Some q) third one two three is = chosen_in Second q chosen two (before_second (none First one)) is
      cases None None (Some q) one two three is = chosen_in Third q chosen three (before_third (none First one) (none Second two)) is
      cases None None None one two three is = absurd (cc)

  -- One of the passes chooses a list.
  some_lines : chosen_lines facts params ≡ None → ⊥
  unfolding chosen_lines
  some_lines is = cases (least_in First) (least_in Second) (least_in Third) refl is
    where
      cases : (first second third : Option Path) → least_in Third ≡ third → chosen_or First first (chosen_or Second second (chosen_or Third third None)) ≡ None → ⊥
      cases (Some q) second third three is = cc
      cases None (Some q) third three is = cc
      cases None None (Some q) three is = cc
      cases None None None three is = last_admits facts params (none_least (problem_of facts params (bound_of params Third)) three)

-- There are at most as many lines as places.
few_ends : (ends : List BreakState) → IsFalling (places_of ends) → length ends ≤ top (places_of ends)
few_ends [] falls = omega arith
few_ends (s ∷ ends) falls = omega (arith, few_ends ends falls.1, falls.0)

-- A vector with few elements.
abbrev vector_of : {A : Type 0} (xs : List A) → length xs < 2 ^ 63 → Vec A
vector_of xs few =
    record { ptr = null_ptr; len = length xs; cap = length xs; alloc = record { memory = record { seal = tt } }; items = xs; ok = (refl, omega arith); small = few }

module _ (list : List Node) (params : Params) (previous : ℤ) where
  few_lines : (chosen : ChosenLines) → refusal list ≡ None → AreChosen (facts_of list) params chosen → length (ends_by list chosen) < 2 ^ 63
  few_lines chosen free are =
      let ends = ends_of chosen.path in
      let count : length (ends_by list chosen) ≡ length ends = length-map (reverse ends) (line_end_at (facts_of list)) ∙ length-reverse ends in
      let falls = few_ends ends are.is.is_list.falls in
      let last : top (places_of ends) ≡ length (legal_places list) = are.is.is_list.ends in
      let places : length (legal_places list) ≤ 8192 = few_places list free in
      omega (arith, count, falls, last, places)

  -- The breaks of the chosen lines.
  abbrev breaks_by : (chosen : ChosenLines) → length (ends_by list chosen) < 2 ^ 63 → Breaks
  breaks_by chosen few = record { lines = vector_of (ends_by list chosen) few; pass = chosen.pass; overhang = chosen.path.overhang; demerits = chosen.path.demerits }

  broken_by : (chosen : ChosenLines) (few : length (ends_by list chosen) < 2 ^ 63) → AreChosen (facts_of list) params chosen
      → IsBroken (facts_of list) params (breaks_by chosen few)
  broken_by chosen few are = record { path = chosen.path; chosen = are.is; earlier = are.earlier; lines = refl; overhang = refl; demerits = refl }

  list_is_set : (set : SetParagraph) → list_setting list params previous ≡ Ok set → (refusal list ≡ None) × IsSet list params previous set
  unfolding list_setting
  list_is_set set is = cases (refusal list) (chosen_lines (facts_of list) params) refl refl is
    where
      set_is : (chosen : ChosenLines) → refusal list ≡ None → AreChosen (facts_of list) params chosen → lines_fit (paragraph_in_lines list params previous chosen) ≡ true
          → IsSet list params previous (set_by list params previous chosen)
      set_is chosen free are fit =
          let few = few_lines chosen free are in
          record { breaks = breaks_by chosen few; broken = broken_by chosen few are; fit = fit; items = refl; depth = refl; lines = refl; pass = refl; overhang = refl; demerits = refl }

      fits : (chosen : ChosenLines) → refusal list ≡ None → AreChosen (facts_of list) params chosen → (b : Bool) → lines_fit (paragraph_in_lines list params previous chosen) ≡ b
          → (if b then Ok (set_by list params previous chosen) else Err DimensionTooLarge) ≡ Ok set → (refusal list ≡ None) × IsSet list params previous set
      fits chosen free are true fit is =
          let same : set_by list params previous chosen ≡ set = cc in
          (free, subst (IsSet list params previous) same (set_is chosen free are fit))
      fits chosen free are false fit is = absurd (cc)

      cases : (refused : Option BreakFault) (found : Option ChosenLines) → refusal list ≡ refused → chosen_lines (facts_of list) params ≡ found
          → set_or refused (set_if_fit list params previous found) ≡ Ok set → (refusal list ≡ None) × IsSet list params previous set
      cases None None free none is = absurd (cc)
      cases None (Some chosen) free some is = fits chosen free (lines_are (facts_of list) params chosen some) (lines_fit (paragraph_in_lines list params previous chosen)) refl is
      cases (Some breaking.InfiniteShrink) found refused some is = absurd (cc)
      cases (Some breaking.TooManyBreaks) found refused some is = absurd (cc)
      cases (Some breaking.OutOfMemory) found refused some is = absurd (cc)

  -- The fault of a list that is not set.
  abbrev IsReported : ParagraphFault → Type 0
  IsReported fault = (fault ≢ OutOfMemory) × IsUnsetList list params previous fault

  list_is_unset : (fault : ParagraphFault) → list_setting list params previous ≡ Err fault → IsReported fault
  unfolding list_setting
  list_is_unset fault is = cases (refusal list) (chosen_lines (facts_of list) params) refl refl is
    where
      large : (chosen : ChosenLines) → refusal list ≡ None → AreChosen (facts_of list) params chosen → lines_fit (paragraph_in_lines list params previous chosen) ≡ false
          → IsReported DimensionTooLarge
      large chosen free are fit =
          let few = few_lines chosen free are in
          ((λ same. cc), (free, (breaks_by chosen few, broken_by chosen few are, fit)))

      fits : (chosen : ChosenLines) → refusal list ≡ None → AreChosen (facts_of list) params chosen → (b : Bool) → lines_fit (paragraph_in_lines list params previous chosen) ≡ b
          → (if b then Ok (set_by list params previous chosen) else Err DimensionTooLarge) ≡ Err fault → IsReported fault
      fits chosen free are true fit is = absurd (cc)
      fits chosen free are false fit is =
          let same : DimensionTooLarge ≡ fault = cc in
          subst IsReported same (large chosen free are fit)

      cases : (refused : Option BreakFault) (found : Option ChosenLines) → refusal list ≡ refused → chosen_lines (facts_of list) params ≡ found
          → set_or refused (set_if_fit list params previous found) ≡ Err fault → IsReported fault
      cases None None free none is = absurd (some_lines (facts_of list) params none)
      cases None (Some chosen) free some is = fits chosen free (lines_are (facts_of list) params chosen some) (lines_fit (paragraph_in_lines list params previous chosen)) refl is
      cases (Some breaking.InfiniteShrink) found refused some is =
          let same : InfiniteShrink ≡ fault = cc in
          subst IsReported same ((λ e. cc), refused)
      cases (Some breaking.TooManyBreaks) found refused some is =
          let same : TooManyBreaks ≡ fault = cc in
          subst IsReported same ((λ e. cc), refused)
      cases (Some breaking.OutOfMemory) found refused some is = absurd (not_for_memory list refused)

-- A paragraph with a setting is set so.
pub paragraph_is_set : (list : List Node) (params : Params) (previous : ℤ) (set : SetParagraph) → setting list params previous ≡ Ok set
    → (break_fault list params.par_fill_skip ≡ None) × IsSetParagraph list params previous set
unfolding setting
paragraph_is_set [] params previous set is = (refl, cc)
paragraph_is_set (x ∷ rest) params previous set is = list_is_set (finished_list (x ∷ rest) params.par_fill_skip) params previous set is

-- A paragraph without a setting is not set for that fault, which is not lack of memory.
pub paragraph_is_unset : (list : List Node) (params : Params) (previous : ℤ) (fault : ParagraphFault) → setting list params previous ≡ Err fault
    → (fault ≢ OutOfMemory) × IsUnset list params previous fault
unfolding setting
paragraph_is_unset [] params previous fault is = absurd (cc)
paragraph_is_unset (x ∷ rest) params previous fault is = list_is_unset (finished_list (x ∷ rest) params.par_fill_skip) params previous fault is
