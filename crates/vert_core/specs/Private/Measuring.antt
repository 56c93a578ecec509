-- The lines of a broken list, as they are measured and stacked (own).
use Rattle.std.specs.Prelude.{◌≡◌, ◌<◌, ◌≤◌, ℕ, ℤ, pos, Bool, false, List, [], ◌∷◌, length, drop, MatchOption}
use Rattle.std.specs.List.{list_any}
use Rattle.node_core.specs.Classes.{shrinks_infinitely}
use Rattle.node_core.specs.declared.tree.BoxNode.{BoxNode}
use Rattle.node_core.specs.declared.tree.Node.{Node}
use Rattle.break_lines.specs.Sizes.{line_size}
use Rattle.vert_core.specs.declared.measuring.BrokenList.{BrokenList}
use Rattle.vert_core.specs.declared.measuring.MeasuredSums.{MeasuredSums}
use Rattle.break_lines.specs.Facts.{facts_of, begins_at, position_of}
use Rattle.break_lines.specs.Legal.{legal_places}
use Rattle.break_lines.specs.Spans.{AreSizesOf}
use Rattle.break_lines.specs.declared.sums.Sums.{Sums}
use Rattle.pack_core.specs.declared.orders.OrderAmounts.{OrderAmounts}
use Rattle.vert_core.specs.Lines.{BrokenParagraph, broken_list, line_begin, line_places, line_items, boxed_line, items_fit, fits_after}

-- The paragraph of a broken list after a previous depth.
abbrev pub paragraph_of : BrokenList → (previous_depth : ℤ) → BrokenParagraph
paragraph_of broken previous_depth = broken_list broken.nodes.now broken.ends.now broken.params.now previous_depth

-- The items that a line keeps, which do not depend on the previous depth.
abbrev pub items_at : BrokenList → (line : ℕ) → List Node
items_at broken line = line_items (paragraph_of broken (pos 0)) line

-- The box of a line.
abbrev pub box_at : BrokenList → (line : ℕ) → BoxNode
box_at broken line = boxed_line (line_size broken.params.now line) (items_at broken line)

-- Whether a line fits after a previous depth.
abbrev pub fits_at : BrokenList → (line : ℕ) → (previous_depth : ℤ) → Bool
fits_at broken line previous_depth = fits_after broken.params.now (line_size broken.params.now line) previous_depth (items_at broken line)

-- Whether the numbers of the box of a line fit.
abbrev pub box_fits_at : BrokenList → (line : ℕ) → Bool
box_fits_at broken line = items_fit (line_size broken.params.now line) (items_at broken line)

-- These are the positions of places after place `from`, in order, and the last one is place `last`.
abbrev pub Follow : List Node → List ℕ → (from last : ℕ) → Type 0
Follow list [] from last = from ≡ last
Follow list (position ∷ rest) from last =
    (to : ℕ) × (from < to) × (to ≤ length (legal_places list)) × (position ≡ position_of list to) × Follow list rest to last

-- What a list was measured by speaks of that list, and none of its glue shrinks infinitely.
pub record IsMeasuredBy (list : List Node) (measured : MeasuredSums) : Type 0 where
  pub facts : facts_of measured.meter.nodes.now ≡ facts_of list
  pub sizes : AreSizesOf list measured.sizes
  pub finite : list_any shrinks_infinitely list ≡ false

-- A line begins at place `from`, and it and the lines after it end at later places.
pub record IsAt (list : List Node) (places : List ℕ) (line from : ℕ) : Type 0 where
  pub begin : begins_at list from ≡ line_begin places line
  pub follow : Follow list (drop line places) from (length (legal_places list))

-- If the list was measured, its measures are right, and the line begins at place `from`.
abbrev pub IsKnown : BrokenList → (line from : ℕ) → Type 0
IsKnown broken line from =
    MatchOption broken.measured (Unit {0})
    (λ measured. IsMeasuredBy broken.nodes.now measured.now × IsAt broken.nodes.now (line_places broken.ends.now) line from)

-- The stretch and the shrink that the sums over a line know, in the four orders: such a list has no shrink of an infinite order.
abbrev pub amounts_of_stretch : Sums → OrderAmounts
amounts_of_stretch sums = record { normal = sums.stretch; fil = sums.fil; fill = sums.fill; filll = sums.filll }

abbrev pub amounts_of_shrink : Sums → OrderAmounts
amounts_of_shrink sums = record { normal = sums.shrink; fil = pos 0; fill = pos 0; filll = pos 0 }
