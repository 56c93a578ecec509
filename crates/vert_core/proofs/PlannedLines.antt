-- Planned lines, and what they add to a vertical list once they have their items.
use Rattle.std.proofs.Common.{◌≡◌, ◌∙◌, ◌⊎◌, inl, inr, ℕ, zero, suc, ◌+◌, ◌-◌, ◌<◌, ◌≤◌, min, Bool, true, false, cond, List, [], ◌∷◌, ◌++◌, length, length-append, length-take, length-drop, take, drop, map, flat_map, get_or, refl, ap, sym, arith, Option, Some, None}
use Rattle.std.specs.Prelude.{ℤ, pos, slice_get, nat_lt}
use Rattle.std.proofs.lemmas.Bool.{cases_Bool, cond-true, cond-false}
use Rattle.std.proofs.lemmas.List.{map-append, take_all, take-take, drop-drop, drop-take, drop_all}
use Rattle.std.proofs.lemmas.List.Concat.{flat_map-append}
use Rattle.node_core.specs.declared.params.Params.{Params}
use Rattle.node_core.specs.declared.tree.BoxNode.{BoxNode}
use Rattle.node_core.specs.declared.tree.Glue.{Glue}
use Rattle.node_core.specs.declared.tree.Node.{Node}
use Rattle.node_core.specs.Items.{Items, none}
use Rattle.node_core.specs.Nodes.{items_of}
use Rattle.node_core.proofs.NodeLemmas.{nodes_of-items_of}
use Rattle.pack_core.specs.Boxes.{hbox, packed_of}
use Rattle.break_lines.specs.Legal.{is_dropped, up_to}
use Rattle.break_lines.specs.LineItems.{at_break, without_first, kept_items}
use Rattle.break_lines.specs.Sizes.{line_size}
use Rattle.vert_core.specs.declared.measuring.MeasuredLine.{MeasuredLine}
use Rattle.vert_core.specs.declared.planning.PlannedLine.{PlannedLine}
use Rattle.vert_core.specs.Interline.{interline, glue_of, appended_nodes}
use Rattle.vert_core.specs.Lines.{BrokenParagraph, line_begin, line_items, boxed_line, line_box, depth_before, penalty_after, penalty_nodes, after_line, brought_by}
use Rattle.vert_core.specs.Private.Planned.{front_items, first_index, penalty_between, hollow_box, plan_of_line, items_with_break, closed_box, stacked_nodes, with_part, part_of, copied_line, moved_lines, AreInOrder}
use Rattle.vert_core.proofs.KeptItems.{length-without_first}

-- The items before the end of a line are some of those up to the end.
pub short_front : (list : List Node) (begin : Option ℕ) (end : ℕ) → length (front_items list begin end) ≤ length (take end list)
short_front list None end = omega arith
short_front list (Some a) end = omega (arith, length-without_first (drop (a + 1) (take end list)), length-drop (a + 1) (take end list))

pub front_within : (list : List Node) (begin : Option ℕ) (end : ℕ) (xs : List Node) (m : ℕ) → xs ≡ front_items list begin end → m ≡ min end (length list) → length xs ≤ m
front_within list begin end xs m is least = omega (arith, short_front list begin end, ap length is, least, length-take end list)

pub index_within : (list : List Node) (begin : Option ℕ) (end : ℕ) → first_index list begin end ≤ end
index_within list begin end = omega (arith, length-take end list)

-- A line begins after the end of the line before it.
pub index_after : (list : List Node) (a end : ℕ) → a < end → a < length list → a + 1 ≤ first_index list (Some a) end
index_after list a end earlier within =
    omega (arith, length-take end list, length-without_first (drop (a + 1) (take end list)), length-drop (a + 1) (take end list))

-- What is left without the first items is the end of the list.
suffix : (xs : List Node) → without_first xs ≡ drop (length xs - length (without_first xs)) xs
suffix [] = refl
suffix (x ∷ rest) = cases (suffix rest) (cases_Bool (is_dropped x))
  where
    cases : without_first rest ≡ drop (length rest - length (without_first rest)) rest → (is_dropped x ≡ true) ⊎ (is_dropped x ≡ false)
        → without_first (x ∷ rest) ≡ drop (length (x ∷ rest) - length (without_first (x ∷ rest))) (x ∷ rest)
    cases before (inl dropped) =
        let is : without_first (x ∷ rest) ≡ without_first rest = cond-true (is_dropped x) (without_first rest) (x ∷ rest) dropped in
        let count : length (x ∷ rest) - length (without_first (x ∷ rest)) ≡ suc (length rest - length (without_first rest)) =
        omega (arith, ap length is, length-without_first rest) in
        is ∙ (before ∙ ap (λ n. drop n (x ∷ rest)) (sym count))
    cases before (inr stays) =
        let is : without_first (x ∷ rest) ≡ x ∷ rest = cond-false (is_dropped x) (without_first rest) (x ∷ rest) stays in
        let count : length (x ∷ rest) - length (without_first (x ∷ rest)) ≡ 0 = omega (arith, ap length is) in
        is ∙ ap (λ n. drop n (x ∷ rest)) (sym count)

-- The items of a line are those from its first one on.
front_drop : (list : List Node) (begin : Option ℕ) (end : ℕ) → front_items list begin end ≡ drop (first_index list begin end) (take end list)
front_drop list None end =
    let count : length (take end list) - length (take end list) ≡ 0 = omega arith in
    ap (λ n. drop n (take end list)) (sym count)
front_drop list (Some a) end = cases (search arith)
  where
    ys : List Node
    ys = take end list

    zs : List Node
    zs = drop (a + 1) ys

    w : List Node
    w = without_first zs

    cases : (a + 1 ≤ length ys) ⊎ (length ys < a + 1) → w ≡ drop (length ys - length w) ys
    cases (inl within) =
        let count : (a + 1) + (length zs - length w) ≡ length ys - length w = omega (arith, length-drop (a + 1) ys, length-without_first zs, within) in
        suffix zs ∙ (drop-drop (length zs - length w) (a + 1) ys ∙ ap (λ n. drop n ys) count)
    cases (inr past) =
        let empty : zs ≡ [] = drop_all (a + 1) ys (omega (arith, past)) in
        let none_left : w ≡ [] = ap without_first empty in
        none_left ∙ sym (drop_all (length ys - length w) ys (omega (arith, ap length none_left)))

get_drop : (xs : List Node) (n k : ℕ) → slice_get (drop n xs) k ≡ slice_get xs (n + k)
get_drop xs zero k = ap (slice_get xs) (omega arith)
get_drop [] (suc n) k = refl
get_drop (x ∷ xs) (suc n) k =
    let count : suc n + k ≡ suc (n + k) = omega arith in
    get_drop xs n k ∙ ap (slice_get (x ∷ xs)) (sym count)

get_take : (xs : List Node) (n k : ℕ) → k < n → slice_get (take n xs) k ≡ slice_get xs k
get_take xs zero k below = absurd (omega arith)
get_take [] (suc n) k below = refl
get_take (x ∷ xs) (suc n) zero below = refl
get_take (x ∷ xs) (suc n) (suc k) below = get_take xs n k (omega arith)

-- A line needs the items up to the one at its end.
line_of_take : (xs : List Node) (n k : ℕ) → k < n → items_with_break k (take n xs) ≡ items_with_break k xs
line_of_take xs n k below =
    ap (λ ys. ys ++ at_break (slice_get (take n xs) k)) (take-take k n xs (omega (arith, below)))
    ∙ ap (λ x. take k xs ++ at_break x) (get_take xs n k below)

pub kept_front : (list : List Node) (begin : Option ℕ) (end : ℕ) → front_items list begin end ++ at_break (slice_get list end) ≡ kept_items list begin end
kept_front list None end = refl
kept_front list (Some a) end = refl

-- The items from the first one of a line on give what the line keeps.
line_kept :
    (list : List Node) (begin : Option ℕ) (end : ℕ)
    → items_with_break (end - first_index list begin end) (drop (first_index list begin end) list) ≡ kept_items list begin end
line_kept list begin end =
    let b = first_index list begin end in
    let count : b + (end - b) ≡ end = omega (arith, index_within list begin end) in
    ap (λ xs. xs ++ at_break (slice_get (drop b list) (end - b)))
    (sym (drop-take b (end - b) list) ∙ (ap (λ n. drop b (take n list)) count ∙ sym (front_drop list begin end)))
    ∙ (ap (λ x. front_items list begin end ++ at_break x) (get_drop list b (end - b) ∙ ap (slice_get list) count) ∙ kept_front list begin end)

-- What a line adds, by what it keeps.
stacked_part :
    (line : PlannedLine) (part xs : List Node) → items_with_break (line.end - line.begin) part ≡ xs
    → stacked_nodes (with_part part line) ≡ appended_nodes line.glue (pos 0) (record line.box_node { list = items_of xs }) ++ penalty_nodes line.penalty
unfolding stacked_nodes
stacked_part line part xs is =
    ap (λ ys. appended_nodes line.glue (pos 0) (record line.box_node { list = items_of (items_with_break (line.end - line.begin) ys) }) ++ penalty_nodes line.penalty) (nodes_of-items_of part)
    ∙ ap (λ ys. appended_nodes line.glue (pos 0) (record line.box_node { list = items_of ys }) ++ penalty_nodes line.penalty) is

pub stacked_copy :
    (list : List Node) (line : PlannedLine)
    → stacked_nodes (copied_line list line) ≡ appended_nodes line.glue (pos 0) (record line.box_node { list = items_of (items_with_break (line.end - line.begin) (drop line.begin list)) }) ++ penalty_nodes line.penalty
stacked_copy list line =
    stacked_part line (part_of list line) (items_with_break (line.end - line.begin) (drop line.begin list))
    (line_of_take (drop line.begin list) (line.end - line.begin + 1) (line.end - line.begin) (omega arith))

stacked_move :
    (list : List Node) (line : PlannedLine) (next : ℕ) → line.begin ≤ line.end → (line.end < next) ⊎ (next ≡ length list)
    → stacked_nodes (with_part (drop line.begin (take next list)) line) ≡ stacked_nodes (copied_line list line)
stacked_move list line next within (inl later) =
    let b = line.begin in
    let count : b + (next - b) ≡ next = omega (arith, within, later) in
    let part : drop b (take next list) ≡ take (next - b) (drop b list) = ap (λ n. drop b (take n list)) (sym count) ∙ drop-take b (next - b) list in
    stacked_part line (drop b (take next list)) (items_with_break (line.end - b) (drop b list))
    (ap (items_with_break (line.end - b)) part ∙ line_of_take (drop b list) (next - b) (line.end - b) (omega (arith, within, later)))
    ∙ sym (stacked_copy list line)
stacked_move list line next within (inr last) =
    stacked_part line (drop line.begin (take next list)) (items_with_break (line.end - line.begin) (drop line.begin list))
    (ap (λ xs. items_with_break (line.end - line.begin) (drop line.begin xs)) (take_all next list (omega (arith, last))))
    ∙ sym (stacked_copy list line)

-- Whether the items are moved or copied, the lines add the same.
pub moved_copied :
    (list : List Node) (bound : ℕ) (lines : List PlannedLine) → AreInOrder bound lines
    → flat_map stacked_nodes (moved_lines list (length list) lines) ≡ flat_map stacked_nodes (map (copied_line list) lines)
moved_copied list bound [] order = refl
moved_copied list bound (line ∷ []) order =
    ap (λ xs. xs ++ []) (stacked_move list line (length list) order.0 (inr refl))
moved_copied list bound (line ∷ next ∷ rest) order =
    ap (λ xs. xs ++ flat_map stacked_nodes (moved_lines list (length list) (next ∷ rest))) (stacked_move list line next.begin order.0 (inl order.1))
    ∙ ap (λ xs. stacked_nodes (copied_line list line) ++ xs) (moved_copied list bound (next ∷ rest) order.2)

length_appended : (glue : Option Glue) (a b : BoxNode) → length (appended_nodes glue (pos 0) a) ≡ length (appended_nodes glue (pos 0) b)
length_appended None a b = refl
length_appended (Some glue) a b = refl

-- The number of items that a line adds does not depend on its own items.
length_copied : (list : List Node) (line : PlannedLine) → length (stacked_nodes (copied_line list line)) ≡ length (stacked_nodes line)
unfolding stacked_nodes
length_copied list line =
    omega (
      arith,
      length-append (appended_nodes line.glue (pos 0) (closed_box (copied_line list line))) (penalty_nodes line.penalty),
      length-append (appended_nodes line.glue (pos 0) (closed_box line)) (penalty_nodes line.penalty),
      length_appended line.glue (closed_box (copied_line list line)) (closed_box line),
    )

pub count_copied : (list : List Node) (lines : List PlannedLine) → length (flat_map stacked_nodes (map (copied_line list) lines)) ≡ length (flat_map stacked_nodes lines)
count_copied list [] = refl
count_copied list (line ∷ rest) =
    omega (
      arith,
      length-append (stacked_nodes (copied_line list line)) (flat_map stacked_nodes (map (copied_line list) rest)),
      length-append (stacked_nodes line) (flat_map stacked_nodes rest),
      length_copied list line,
      count_copied list rest,
    )

-- One more line counts its items.
pub count_more :
    (lines new : List PlannedLine) (line : PlannedLine) → new ≡ lines ++ line ∷ [] → length (flat_map stacked_nodes new) ≡ length (flat_map stacked_nodes lines) + length (stacked_nodes line)
count_more lines new line is =
    omega (
      arith,
      ap (λ xs. length (flat_map stacked_nodes xs)) is,
      ap length (flat_map-append stacked_nodes lines (line ∷ [])),
      length-append (flat_map stacked_nodes lines) (stacked_nodes line ++ []),
      length-append (stacked_nodes line) [],
    )

pub map_more : {A : Type 0} (f : ℕ → A) (n : ℕ) → map f (up_to (n + 1)) ≡ map f (up_to n) ++ f n ∷ []
map_more f n =
    let one : n + 1 ≡ suc n = omega arith in
    ap (λ k. map f (up_to k)) one ∙ map-append f (up_to n) (n ∷ [])

-- A line is planned as it was measured.
pub planned_one :
    (p : BrokenParagraph) (line : ℕ) (depth : ℤ) (m : MeasuredLine) (x : PlannedLine) → depth ≡ depth_before p line
    → (packed_of (items_of (line_items p line)) m.shell).box_node ≡ boxed_line (line_size p.params line) (line_items p line)
    → m.glue ≡ glue_of (interline p.params depth m.shell.height)
    → m.begin ≡ first_index p.nodes (line_begin p.places line) (get_or p.places line 0)
    → x ≡ record { glue = m.glue; box_node = (packed_of none m.shell).box_node; penalty = penalty_between p.params (length p.places) line; begin = m.begin; end = get_or p.places line 0 }
    → x ≡ plan_of_line p line
unfolding plan_of_line line_box packed_of
planned_one p line depth m x before packed glue begin is =
    let b = boxed_line (line_size p.params line) (line_items p line) in
    let height : m.shell.height ≡ b.height = ap (λ (b : BoxNode). b.height) packed in
    let same : m.glue ≡ glue_of (interline p.params (depth_before p line) b.height) =
    glue ∙ (ap (λ d. glue_of (interline p.params d m.shell.height)) before ∙ ap (λ h. glue_of (interline p.params (depth_before p line) h)) height) in
    let box : (packed_of none m.shell).box_node ≡ hollow_box b = ap hollow_box packed in
    is
    ∙ (ap (λ g. record { glue = g; box_node = (packed_of none m.shell).box_node; penalty = penalty_between p.params (length p.places) line; begin = m.begin; end = get_or p.places line 0 }) same
    ∙ (ap (λ y. record { glue = glue_of (interline p.params (depth_before p line) b.height); box_node = y; penalty = penalty_between p.params (length p.places) line; begin = m.begin; end = get_or p.places line 0 }) box
    ∙ ap (λ n. record { glue = glue_of (interline p.params (depth_before p line) b.height); box_node = hollow_box b; penalty = penalty_between p.params (length p.places) line; begin = n; end = get_or p.places line 0 }) begin))

box_list : (size : ℤ) (items : List Node) → (boxed_line size items).list ≡ items_of items
unfolding boxed_line hbox
box_list size items = refl

penalty_after_line : (params : Params) (count line : ℕ) → penalty_nodes (penalty_between params count line) ≡ after_line params count line
penalty_after_line params count line = cases (nat_lt (line + 1) count)
  where
    cases : (b : Bool) → penalty_nodes (cond b (penalty_after params count line) (pos 0)) ≡ cond b (penalty_nodes (penalty_after params count line)) []
    cases true = refl
    cases false = refl

-- With its items a planned line adds what the line brings.
planned_stacked :
    (p : BrokenParagraph) (line : ℕ)
    → appended_nodes (plan_of_line p line).glue (pos 0) (record (plan_of_line p line).box_node { list = items_of (items_with_break ((plan_of_line p line).end - (plan_of_line p line).begin) (drop (plan_of_line p line).begin p.nodes)) })
    ++ penalty_nodes (plan_of_line p line).penalty
    ≡ brought_by p line
unfolding plan_of_line brought_by line_box
planned_stacked p line =
    let end = get_or p.places line 0 in
    let begin = line_begin p.places line in
    let b = boxed_line (line_size p.params line) (line_items p line) in
    let glue = glue_of (interline p.params (depth_before p line) b.height) in
    let penalty = penalty_between p.params (length p.places) line in
    let items : items_of (items_with_break (end - first_index p.nodes begin end) (drop (first_index p.nodes begin end) p.nodes)) ≡ b.list =
    ap items_of (line_kept p.nodes begin end) ∙ sym (box_list (line_size p.params line) (line_items p line)) in
    ap (λ (xs : Items). appended_nodes glue (pos 0) (record (hollow_box b) { list = xs }) ++ penalty_nodes penalty) items
    ∙ ap (λ xs. appended_nodes glue (pos 0) b ++ xs) (penalty_after_line p.params (length p.places) line)

line_stacked : (p : BrokenParagraph) (line : ℕ) → stacked_nodes (copied_line p.nodes (plan_of_line p line)) ≡ brought_by p line
line_stacked p line = stacked_copy p.nodes (plan_of_line p line) ∙ planned_stacked p line

pub stacked_all : (p : BrokenParagraph) (lines : List ℕ) → flat_map stacked_nodes (map (copied_line p.nodes) (map (plan_of_line p) lines)) ≡ flat_map (brought_by p) lines
stacked_all p [] = refl
stacked_all p (line ∷ rest) =
    ap (λ xs. xs ++ flat_map stacked_nodes (map (copied_line p.nodes) (map (plan_of_line p) rest))) (line_stacked p line)
    ∙ ap (λ xs. brought_by p line ++ xs) (stacked_all p rest)
