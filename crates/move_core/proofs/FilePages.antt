-- What the writer of a file needs about the reused body: a good page shows the same with it, with h and v in signed 32 bits.
use Rattle.std.proofs.Common.{◌≡◌, ◌++◌, [], ◌∷◌, List, ℤ, Some, None, IsSome, refl, sym, ◌∙◌, ap, subst, arith, Contains}
use Rattle.std.specs.List.{flat_map, AllByRecursion}
use Rattle.std.proofs.lemmas.List.Elements.{All-contains, All-weaker, All-contains_itself, All-from_recursion, recursion_from_All}
use Rattle.dvi_ops.specs.Instruction.{Move, Instruction, Do, Definition}
use Rattle.dvi_ops.specs.Body.{DviState, Widths, Meaning, instruction_acts, bounded_acts, start}
use Rattle.scaled_core.specs.Mark.{Mark}
use Rattle.dvi_ops.specs.Forest.{Forest, flat, meaning, points, IsPoint}
use Rattle.dvi_ops.specs.Fonts.{WidthsByName, definitions_in, definitions, selection_of, selections, first_definition_of, widths_in, known_after}
use Rattle.dvi_ops.specs.Layout.{FilePage, Table, IsGood, define, table_widths}
use Rattle.dvi_ops.specs.Plain.{NamesNoRegister}
use Rattle.dvi_ops.proofs.Ranges.{meaning-kept, kept-meaning}
use Rattle.move_core.specs.Reused.{reused_body}
use Rattle.move_core.specs.SamePage.{ShownPage, shown_meaning, leaves_in_order}
use Rattle.move_core.proofs.SameBody.{plain_forest, reused_meaning, reused_places, reused_nests, reused_order, reused_fits}

selections-still : (is : List Instruction) → selections is ≡ flat_map (λ leaf. selection_of (Do leaf)) (leaves_in_order is)
selections-still [] = refl
selections-still (Do (Move axis step) ∷ is) = selections-still is
selections-still (Do leaf ∷ is) = ap (λ (fonts : List ℤ). selection_of (Do leaf) ++ fonts) (selections-still is)
selections-still (i ∷ is) = selections-still is

definitions-still : (is : List Instruction) → definitions is ≡ flat_map (λ leaf. definitions_in (Do leaf)) (leaves_in_order is)
definitions-still [] = refl
definitions-still (Do (Move axis step) ∷ is) = definitions-still is
definitions-still (Do leaf ∷ is) = ap (λ (fonts : List Definition). definitions_in (Do leaf) ++ fonts) (definitions-still is)
definitions-still (i ∷ is) = definitions-still is

-- The same fonts are selected, in the same order.
pub reused_selections : (f : Forest) → selections (flat (reused_body f)) ≡ selections (flat f)
reused_selections f =
    selections-still (flat (reused_body f)) ∙ (ap (flat_map (λ leaf. selection_of (Do leaf))) (reused_order f) ∙ sym (selections-still (flat f)))

-- The same fonts are defined, in the same order.
pub reused_definitions : (f : Forest) → definitions (flat (reused_body f)) ≡ definitions (flat f)
reused_definitions f =
    definitions-still (flat (reused_body f)) ∙ (ap (flat_map (λ leaf. definitions_in (Do leaf))) (reused_order f) ∙ sym (definitions-still (flat f)))

-- A meaning that shows the same as another has the same marks.
shown_back : (m : Meaning) (marks : List Mark) (s : DviState) → shown_meaning m ≡ shown_meaning (Some (marks, s)) → (t : DviState) × (m ≡ Some (marks, t))
shown_back None marks s e = absurd cc
shown_back (Some (others, t)) marks s e =
    let same : record { marks = others; h = t.place.h; v = t.place.v; font = t.font } ≡ record { marks = marks; h = s.place.h; v = s.place.v; font = s.font } = cc in
    (t, ap (λ (x : ShownPage). Some (x.marks, t)) same)

-- A body that shows marks from a place in signed 32 bits, with h and v in that range all the way, and its reused body.
pub reused_kept : (widths : Widths) (f : Forest) (s : DviState) (marks : List Mark) (last : DviState) → AllByRecursion NamesNoRegister (flat f) →
    IsPoint (s.place.h, s.place.v) → meaning (bounded_acts (instruction_acts widths)) f s ≡ Some (marks, last) →
    (t : DviState) × (meaning (bounded_acts (instruction_acts widths)) (reused_body f) s ≡ Some (marks, t))
reused_kept widths f s marks last names here e =
    let plain = plain_forest f names in
    let free = kept-meaning (instruction_acts widths) f s (marks, last) here e in
    let within =
    recursion_from_All IsPoint (points (instruction_acts widths) (reused_body f) s)
    (All-weaker (Contains (points (instruction_acts widths) (reused_body f) s)) IsPoint
    (λ p there. All-contains IsPoint (points (instruction_acts widths) f s) p (All-from_recursion IsPoint (points (instruction_acts widths) f s) free.1) (reused_places f plain widths s p there))
    (points (instruction_acts widths) (reused_body f) s) (All-contains_itself (points (instruction_acts widths) (reused_body f) s))) in
    let found = shown_back (meaning (instruction_acts widths) (reused_body f) s) marks last (reused_meaning f plain widths s ∙ ap shown_meaning free.0) in
    (found.0, meaning-kept (instruction_acts widths) (reused_body f) s within ∙ found.1)

-- A good page stays good with its reused body, and has the same marks.
pub good_reused : (metrics : WidthsByName) (table : Table) (known : List Definition) (p : FilePage) (marks : List Mark) →
    AllByRecursion NamesNoRegister (flat p.body) → IsGood metrics table known p marks → IsGood metrics table known (record p { body = reused_body p.body }) marks
good_reused metrics table known p marks names good =
    let fonts = sym (reused_selections p.body) in
    let shows = reused_kept (table_widths metrics table) p.body start marks good.last names (refl, refl) good.shows in
    record {
      ten = good.ten;
      counts_fit = good.counts_fit;
      fresh = good.fresh;
      writable = reused_fits p.body good.writable;
      plain = reused_definitions p.body ∙ good.plain;
      chosen = subst (AllByRecursion (λ f. IsSome (first_definition_of f (known_after known (define p.fresh))))) fonts good.chosen;
      measured = subst (AllByRecursion (λ f. IsSome (widths_in metrics (table f)))) fonts good.measured;
      shallow = omega (arith, good.shallow, reused_nests p.body);
      last = shows.0;
      shows = shows.1;
    }
