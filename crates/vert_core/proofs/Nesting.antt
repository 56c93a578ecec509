-- How deep boxes nest in lines.
use Rattle.std.proofs.Common.{◌≡◌, ◌∙◌, ℕ, ◌+◌, ◌-◌, ◌<◌, max, Bool, true, false, cond, List, [], ◌∷◌, ◌++◌, append-nil, length, take, drop, map, flat_map, get_or, refl, ap, sym, arith, Option, Some, None}
use Rattle.std.specs.Prelude.{ℤ, pos, slice_get}
use Rattle.std.proofs.lemmas.List.{map-append, take_more}
use Rattle.std.proofs.lemmas.List.Concat.{flat_map-append}
use Rattle.node_core.specs.declared.tree.BoxNode.{BoxNode}
use Rattle.node_core.specs.declared.tree.Glue.{Glue}
use Rattle.node_core.specs.declared.tree.Node.{Node}
use Rattle.node_core.specs.declared.tree.Node.TheVariants as nodes
use Rattle.node_core.specs.Items.{items_depth}
use Rattle.node_core.specs.Nodes.{items_of}
use Rattle.pack_core.specs.Glue.{is_zero}
use Rattle.break_lines.specs.LineItems.{at_break}
use Rattle.vert_core.specs.declared.planning.PlannedLine.{PlannedLine}
use Rattle.vert_core.specs.Interline.{appended_nodes}
use Rattle.vert_core.specs.Lines.{penalty_nodes}
use Rattle.vert_core.specs.Private.Planned.{items_with_break, stacked_nodes, copied_line}
use Rattle.vert_core.proofs.PlannedLines.{stacked_copy}

-- The depth of two lists together.
depth_joined : (xs ys : List Node) → items_depth (items_of (xs ++ ys)) ≡ max (items_depth (items_of xs)) (items_depth (items_of ys))
depth_joined [] ys = omega arith
depth_joined ((nodes.Glyph g) ∷ rest) ys = depth_joined rest ys
depth_joined ((nodes.FontKern width) ∷ rest) ys = depth_joined rest ys
depth_joined ((nodes.Kern width) ∷ rest) ys = depth_joined rest ys
depth_joined ((nodes.Glue g) ∷ rest) ys = depth_joined rest ys
depth_joined ((nodes.Penalty p) ∷ rest) ys = depth_joined rest ys
depth_joined ((nodes.Rule sizes) ∷ rest) ys = depth_joined rest ys
depth_joined ((nodes.Special text) ∷ rest) ys = depth_joined rest ys
depth_joined ((nodes.Box shift b) ∷ rest) ys = omega (arith, depth_joined rest ys)

-- What a line keeps of the item at its end is no box.
depth_at_break : (x : Option Node) → items_depth (items_of (at_break x)) ≡ 0
depth_at_break None = refl
depth_at_break (Some (nodes.Glyph g)) = refl
depth_at_break (Some (nodes.FontKern width)) = refl
depth_at_break (Some (nodes.Kern width)) = refl
depth_at_break (Some (nodes.Glue g)) = refl
depth_at_break (Some (nodes.Penalty p)) = refl
depth_at_break (Some (nodes.Rule sizes)) = refl
depth_at_break (Some (nodes.Special text)) = refl
depth_at_break (Some (nodes.Box shift b)) = refl

depth_penalty : (penalty : ℤ) → items_depth (items_of (penalty_nodes penalty)) ≡ 0
depth_penalty penalty = cases (is_zero penalty)
  where
    cases : (b : Bool) → items_depth (items_of (cond b [] (nodes.Penalty penalty ∷ []))) ≡ 0
    cases true = refl
    cases false = refl

depth_appended : (glue : Option Glue) (b : BoxNode) → items_depth (items_of (appended_nodes glue (pos 0) b)) ≡ items_depth b.list + 1
depth_appended None b = omega arith
depth_appended (Some glue) b = omega arith

-- The depth of what a line adds, by its items before its end.
line_depth :
    (list : List Node) (line : PlannedLine)
    → items_depth (items_of (stacked_nodes (copied_line list line))) ≡ items_depth (items_of (take (line.end - line.begin) (drop line.begin list))) + 1
line_depth list line =
    let c = line.end - line.begin in
    let ys = drop line.begin list in
    let b : BoxNode = record line.box_node { list = items_of (items_with_break c ys) } in
    omega (
      arith,
      ap (λ (xs : List Node). items_depth (items_of xs)) (stacked_copy list line),
      depth_joined (appended_nodes line.glue (pos 0) b) (penalty_nodes line.penalty),
      depth_appended line.glue b,
      depth_penalty line.penalty,
      depth_joined (take c ys) (at_break (slice_get ys c)),
      depth_at_break (slice_get ys c),
    )

-- With one more line.
pub levels_more :
    (list : List Node) (lines : List PlannedLine) (i : ℕ) (line : PlannedLine) → i < length lines → line ≡ get_or lines i line
    → items_depth (items_of (flat_map stacked_nodes (map (copied_line list) (take (i + 1) lines))))
    ≡ max (items_depth (items_of (flat_map stacked_nodes (map (copied_line list) (take i lines))))) (items_depth (items_of (take (line.end - line.begin) (drop line.begin list))) + 1)
levels_more list lines i line below is =
    let front = take i lines in
    let all : take (i + 1) lines ≡ front ++ line ∷ [] = take_more lines i line below ∙ ap (λ x. front ++ x ∷ []) (sym is) in
    let split : flat_map stacked_nodes (map (copied_line list) (take (i + 1) lines)) ≡ flat_map stacked_nodes (map (copied_line list) front) ++ stacked_nodes (copied_line list line) =
    ap (λ (xs : List PlannedLine). flat_map stacked_nodes (map (copied_line list) xs)) all
    ∙ (ap (flat_map stacked_nodes) (map-append (copied_line list) front (line ∷ []))
    ∙ (flat_map-append stacked_nodes (map (copied_line list) front) (copied_line list line ∷ [])
    ∙ ap (λ xs. flat_map stacked_nodes (map (copied_line list) front) ++ xs) (append-nil (stacked_nodes (copied_line list line))))) in
    omega (
      arith,
      ap (λ (xs : List Node). items_depth (items_of xs)) split,
      depth_joined (flat_map stacked_nodes (map (copied_line list) front)) (stacked_nodes (copied_line list line)),
      line_depth list line,
    )
