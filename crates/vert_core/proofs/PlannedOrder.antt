-- The lines of a list that is broken follow one another in the list.
use Rattle.std.proofs.Common.{◌≡◌, ◌∙◌, ℕ, zero, suc, ◌+◌, ◌-◌, ◌<◌, ◌≤◌, List, [], ◌∷◌, ◌++◌, length, map, flat_map, reverse, true, get_or, refl, ap, sym, subst, arith, Option}
use Rattle.std.specs.Prelude.{ℤ}
use Rattle.std.proofs.lemmas.List.{length-reverse, get_or-reverse, map-append, reverse-append}
use Rattle.std.proofs.lemmas.Option.{slice_get-get_or}
use Rattle.node_core.specs.declared.params.Params.{Params}
use Rattle.node_core.specs.declared.tree.Node.{Node}
use Rattle.break_lines.specs.declared.state.BreakState.{BreakState}
use Rattle.break_lines.specs.Problems.{ends_of, places_of}
use Rattle.break_lines.specs.Chosen.{top, IsFalling}
use Rattle.break_lines.proofs.Entries.{get_at}
use Rattle.break_core.specs.declared.broken.Breaks.{Breaks}
use Rattle.break_core.specs.declared.broken.LineEnd.{LineEnd}
use Rattle.break_core.specs.Passes.{line_end_at, IsBroken}
use Rattle.break_lines.specs.Facts.{facts_of, position_of}
use Rattle.break_lines.specs.Legal.{legal_places, up_to}
use Rattle.break_lines.proofs.Places.{place_at, rising_places}
use Rattle.vert_core.specs.declared.planning.PlannedLine.{PlannedLine}
use Rattle.vert_core.specs.Lines.{BrokenParagraph, line_places, broken_list, line_begin, brought_by, vertical_items, last_depth, lines_fit}
use Rattle.vert_core.specs.Paragraphs.{with_breaks}
use Rattle.vert_core.specs.Private.Measuring.{Follow}
use Rattle.vert_core.specs.Private.Planned.{first_index, plan_of_line, stacked_nodes, copied_line, moved_lines, AreInOrder}
use Rattle.vert_core.proofs.Stacks.{count_places}
use Rattle.vert_core.proofs.Filled.{order_more, order_weak}
use Rattle.vert_core.proofs.PlannedLines.{index_within, index_after, moved_copied, count_copied, stacked_all}

-- The places of lines rise, and none is after the end of a list of this length.
record AreRising (places : List ℕ) (last : ℕ) : Type 0 where
  pub within : (k : ℕ) → k < length places → get_or places k 0 ≤ last
  pub rise : (k : ℕ) → k + 1 < length places → get_or places k 0 < get_or places (k + 1) 0

-- The positions of places, the last one first.
abbrev positions : List Node → List BreakState → List ℕ
positions list [] = []
positions list (s ∷ before) = position_of list s.place ∷ positions list before

position_within : (list : List Node) (place : ℕ) → 0 < place → place ≤ length (legal_places list) → position_of list place ≤ length list
position_within list place some within =
    let x = get_at (legal_places list) (place - 1) (omega arith) in
    let at = place_at list (place - 1) x.0 x.1 in
    let is : place - 1 + 1 ≡ place = omega arith in
    omega (arith, at.0, at.1, ap (position_of list) is)

top_within : (s : BreakState) (before : List BreakState) → IsFalling (places_of (s ∷ before)) → 0 < s.place
top_within s before falls = omega (arith, falls.0)

fall_within :
    (list : List Node) (ends : List BreakState) → IsFalling (places_of ends) → top (places_of ends) ≤ length (legal_places list)
    → (k : ℕ) → k < length (positions list ends) → get_or (positions list ends) k 0 ≤ length list
fall_within list [] falls last k below = absurd (omega arith)
fall_within list (s ∷ before) falls last zero below = position_within list s.place (top_within s before falls) last
fall_within list (s ∷ before) falls last (suc k) below = fall_within list before falls.1 (omega (arith, falls.0, last)) k (omega (arith, below))

fall :
    (list : List Node) (ends : List BreakState) → IsFalling (places_of ends) → top (places_of ends) ≤ length (legal_places list)
    → (k : ℕ) → suc k < length (positions list ends) → get_or (positions list ends) (suc k) 0 < get_or (positions list ends) k 0
fall list [] falls last k below = absurd (omega arith)
fall list (s ∷ []) falls last k below = absurd (omega (arith, below))
fall list (s ∷ t ∷ before) falls last zero below = (rising_places list t.place s.place (top_within t before falls.1) falls.0 last).0
fall list (s ∷ t ∷ before) falls last (suc k) below = fall list (t ∷ before) falls.1 (omega (arith, falls.0, last)) k (omega (arith, below))

-- In order, they are the places of the ends of lines.
same_places : (list : List Node) (ends : List BreakState) → line_places (map (line_end_at (facts_of list)) ends) ≡ positions list ends
same_places list [] = refl
same_places list (s ∷ rest) = ap (λ xs. position_of list s.place ∷ xs) (same_places list rest)

positions_snoc : (list : List Node) (xs ys : List BreakState) → positions list (xs ++ ys) ≡ positions list xs ++ positions list ys
positions_snoc list [] ys = refl
positions_snoc list (s ∷ xs) ys = ap (λ zs. position_of list s.place ∷ zs) (positions_snoc list xs ys)

count_positions : (list : List Node) (ends : List BreakState) → length (positions list ends) ≡ length ends
count_positions list [] = refl
count_positions list (s ∷ rest) = ap suc (count_positions list rest)

positions_reverse : (list : List Node) (ends : List BreakState) → positions list (reverse ends) ≡ reverse (positions list ends)
positions_reverse list [] = refl
positions_reverse list (s ∷ rest) =
    ap (positions list) (reverse-append (s ∷ []) rest)
    ∙ (positions_snoc list (reverse rest) (s ∷ [])
    ∙ (ap (λ xs. xs ++ position_of list s.place ∷ []) (positions_reverse list rest) ∙ sym (reverse-append (position_of list s.place ∷ []) (positions list rest))))

rising_reverse :
    (list : List Node) (ends : List BreakState) → IsFalling (places_of ends) → top (places_of ends) ≤ length (legal_places list)
    → AreRising (reverse (positions list ends)) (length list)
rising_reverse list ends falls last = record { within = within; rise = rise }
  where
    qs : List ℕ
    qs = positions list ends

    count : length (reverse qs) ≡ length qs
    count = length-reverse qs

    within : (k : ℕ) → k < length (reverse qs) → get_or (reverse qs) k 0 ≤ length list
    within k below =
        omega (
          arith,
          get_or-reverse qs k 0 (omega (arith, below, count)),
          fall_within list ends falls last (length qs - 1 - k) (omega (arith, below, count)),
        )

    rise : (k : ℕ) → k + 1 < length (reverse qs) → get_or (reverse qs) k 0 < get_or (reverse qs) (k + 1) 0
    rise k below =
        let j = length qs - 1 - (k + 1) in
        let next : length qs - 1 - k ≡ suc j = omega (arith, below, count) in
        omega (
          arith,
          get_or-reverse qs k 0 (omega (arith, below, count)),
          get_or-reverse qs (k + 1) 0 (omega (arith, below, count)),
          ap (λ i. get_or qs i 0) next,
          fall list ends falls last j (omega (arith, below, count)),
        )

begin_within : (p : BrokenParagraph) (n : ℕ) → (plan_of_line p n).begin ≤ (plan_of_line p n).end
unfolding plan_of_line
begin_within p n = index_within p.nodes (line_begin p.places n) (get_or p.places n 0)

end_within : (p : BrokenParagraph) (n : ℕ) → (plan_of_line p n).end < get_or p.places n 0 + 1
unfolding plan_of_line
end_within p n = omega arith

begins_after :
    (p : BrokenParagraph) (m : ℕ) → get_or p.places m 0 < get_or p.places (suc m) 0 → get_or p.places m 0 < length p.nodes → m < length p.places
    → get_or p.places m 0 + 1 ≤ (plan_of_line p (suc m)).begin
unfolding plan_of_line
begins_after p m earlier within here =
    subst (λ (begin : Option ℕ). get_or p.places m 0 + 1 ≤ first_index p.nodes begin (get_or p.places (suc m) 0)) (sym (slice_get-get_or p.places m 0 here))
    (index_after p.nodes (get_or p.places m 0) (get_or p.places (suc m) 0) earlier within)

-- The order of planned lines whose places rise, by the bound of the last one.
ordered_before : (p : BrokenParagraph) → AreRising p.places (length p.nodes) → (n : ℕ) → n < length p.places → AreInOrder (plan_of_line p n).begin (map (plan_of_line p) (up_to n))
ordered_before p rising zero below = tt
ordered_before p rising (suc m) below =
    let one : m + 1 ≡ suc m = omega arith in
    let here : m < length p.places = omega (arith, below) in
    let bound = get_or p.places m 0 + 1 in
    let earlier : get_or p.places m 0 < get_or p.places (suc m) 0 = omega (arith, rising.rise m (omega (arith, below)), ap (λ i. get_or p.places i 0) one) in
    let within : get_or p.places m 0 < length p.nodes = omega (arith, earlier, rising.within (suc m) below) in
    let order : AreInOrder bound (map (plan_of_line p) (up_to (suc m))) =
    subst (AreInOrder bound) (sym (map-append (plan_of_line p) (up_to m) (m ∷ [])))
    (order_more bound (map (plan_of_line p) (up_to m)) (plan_of_line p m) (begin_within p m) (end_within p m) (ordered_before p rising m here)) in
    order_weak bound (plan_of_line p (suc m)).begin (map (plan_of_line p) (up_to (suc m))) (begins_after p m earlier within here) order

ordered_to : (p : BrokenParagraph) → AreRising p.places (length p.nodes) → (n : ℕ) → n < length p.places → AreInOrder (get_or p.places n 0 + 1) (map (plan_of_line p) (up_to (suc n)))
ordered_to p rising n below =
    subst (AreInOrder (get_or p.places n 0 + 1)) (sym (map-append (plan_of_line p) (up_to n) (n ∷ [])))
    (order_more (get_or p.places n 0 + 1) (map (plan_of_line p) (up_to n)) (plan_of_line p n) (begin_within p n) (end_within p n) (ordered_before p rising n below))

ordered : (p : BrokenParagraph) (n : ℕ) → AreRising p.places (length p.nodes) → n ≡ length p.places → AreInOrder (length p.nodes + 1) (map (plan_of_line p) (up_to n))
ordered p zero rising is = tt
ordered p (suc n) rising is =
    order_weak (get_or p.places n 0 + 1) (length p.nodes + 1) (map (plan_of_line p) (up_to (suc n))) (omega (arith, rising.within n (omega (arith, is))))
    (ordered_to p rising n (omega (arith, is)))

-- The planned lines of a broken list are in order.
pub broken_in_order :
    (list : List Node) (params : Params) (previous : ℤ) (breaks : Breaks) → IsBroken (facts_of list) params breaks
    → AreInOrder (length list + 1) (map (plan_of_line (with_breaks list params previous breaks)) (up_to (length breaks.lines.items)))
broken_in_order list params previous breaks broken =
    let ends = ends_of broken.path in
    let is_list = broken.chosen.is_list in
    let p = with_breaks list params previous breaks in
    let places : p.places ≡ reverse (positions list ends) =
    ap line_places broken.lines ∙ (same_places list (reverse ends) ∙ positions_reverse list ends) in
    let rising : AreRising p.places (length list) =
    subst (λ (xs : List ℕ). AreRising xs (length list)) (sym places) (rising_reverse list ends is_list.falls (omega (arith, is_list.ends))) in
    ordered p (length breaks.lines.items) rising (sym (count_places breaks.lines.items))

-- Its lines end at places, one after another.
follow_more :
    (list : List Node) (xs : List ℕ) (from m to : ℕ) → Follow list xs from m → m < to → to ≤ length (legal_places list)
    → Follow list (xs ++ position_of list to ∷ []) from to
follow_more list [] from m to is later last = (to, omega (arith, is, later), last, refl, refl)
follow_more list (p ∷ xs) from m to is later last = (is.0, is.1, is.2, is.3, follow_more list xs is.0 m to is.4 later last)

follow_reverse :
    (list : List Node) (ends : List BreakState) → IsFalling (places_of ends) → top (places_of ends) ≤ length (legal_places list)
    → Follow list (reverse (positions list ends)) 0 (top (places_of ends))
follow_reverse list [] falls last = refl
follow_reverse list (s ∷ before) falls last =
    subst (λ xs. Follow list xs 0 s.place) (sym (reverse-append (position_of list s.place ∷ []) (positions list before)))
    (follow_more list (reverse (positions list before)) 0 (top (places_of before)) s.place (follow_reverse list before falls.1 (omega (arith, falls.0, last))) falls.0 last)

pub broken_follows :
    (list : List Node) (params : Params) (breaks : Breaks) → IsBroken (facts_of list) params breaks
    → Follow list (line_places breaks.lines.items) 0 (length (legal_places list))
broken_follows list params breaks broken =
    let ends = ends_of broken.path in
    let is_list = broken.chosen.is_list in
    let places : line_places breaks.lines.items ≡ reverse (positions list ends) =
    ap line_places broken.lines ∙ (same_places list (reverse ends) ∙ positions_reverse list ends) in
    let end : top (places_of ends) ≡ length (legal_places list) = omega (arith, is_list.ends) in
    subst (λ (xs : List ℕ). Follow list xs 0 (length (legal_places list))) (sym places)
    (subst (Follow list (reverse (positions list ends)) 0) end (follow_reverse list ends is_list.falls (omega (arith, end))))

-- Once they have copies of the items, planned lines add the vertical items.
pub copied_items :
    (p : BrokenParagraph) (n : ℕ) (lines : List PlannedLine) → n ≡ length p.places → lines ≡ map (plan_of_line p) (up_to n)
    → flat_map stacked_nodes (map (copied_line p.nodes) lines) ≡ vertical_items p
unfolding vertical_items
copied_items p n lines count is =
    ap (λ xs. flat_map stacked_nodes (map (copied_line p.nodes) xs)) is ∙ (stacked_all p (up_to n) ∙ ap (λ n. flat_map (brought_by p) (up_to n)) count)

-- So they do with the items themselves.
pub moved_items :
    (list : List Node) (params : Params) (previous : ℤ) (breaks : Breaks) (lines : List PlannedLine)
    → lines ≡ map (plan_of_line (with_breaks list params previous breaks)) (up_to (length breaks.lines.items)) → AreInOrder (length list + 1) lines
    → flat_map stacked_nodes (moved_lines list (length list) lines) ≡ vertical_items (with_breaks list params previous breaks)
moved_items list params previous breaks lines is order =
    moved_copied list (length list + 1) lines order
    ∙ copied_items (with_breaks list params previous breaks) (length breaks.lines.items) lines (sym (count_places breaks.lines.items)) is

pub moved_count :
    (list : List Node) (lines : List PlannedLine) (count : ℕ) → AreInOrder (length list + 1) lines → count ≡ length (flat_map stacked_nodes lines)
    → count ≡ length (flat_map stacked_nodes (moved_lines list (length list) lines))
moved_count list lines count order is = omega (arith, is, count_copied list lines, ap length (moved_copied list (length list + 1) lines order))

-- A paragraph without lines.
pub no_items : (list : List Node) (ends : List LineEnd) (params : Params) (previous : ℤ) → length ends ≡ 0 → vertical_items (broken_list list ends params previous) ≡ []
unfolding vertical_items
no_items list [] params previous none = refl
no_items list (end ∷ ends) params previous none = absurd (omega (arith, none))

pub no_depth : (list : List Node) (ends : List LineEnd) (params : Params) (previous : ℤ) → length ends ≡ 0 → last_depth (broken_list list ends params previous) ≡ previous
unfolding last_depth
no_depth list [] params previous none = refl
no_depth list (end ∷ ends) params previous none = absurd (omega (arith, none))

pub no_large_line : (list : List Node) (ends : List LineEnd) (params : Params) (previous : ℤ) → length ends ≡ 0 → lines_fit (broken_list list ends params previous) ≡ true
unfolding lines_fit
no_large_line list [] params previous none = refl
no_large_line list (end ∷ ends) params previous none = absurd (omega (arith, none))
