-- The sizes of the places of a list, and of its lines (own; the items of a line: TeX: The Program, part 39, §879 to §882).
use Rattle.std.specs.Prelude.{◌≡◌, ◌+◌, ◌-◌, ℕ, zero, suc, ℤ, Bool, true, List, ◌∷◌, length, map, reverse, take, drop, Option, Some, None}
use Rattle.std.specs.Prelude.{if◌then◌else◌}
use Rattle.node_core.specs.declared.tree.Node.{Node}
use Rattle.node_core.specs.Nodes.{IsPlain}
use Rattle.pack_core.specs.Items.{height_above_baseline, depth_below_baseline}
use Rattle.pack_core.specs.Totals.{greatest_of}
use Rattle.break_lines.specs.declared.line_sizes.PlaceSizes.{PlaceSizes}
use Rattle.break_lines.specs.declared.line_sizes.LineSizes.{LineSizes}
use Rattle.break_lines.specs.declared.line_sizes.MeasuredSpan.{MeasuredSpan}
use Rattle.break_lines.specs.Legal.{is_legal, legal_places}
use Rattle.break_lines.specs.LineItems.{next_kept, without_first}
use Rattle.break_lines.specs.Facts.{begins_at, position_of}

-- The greatest value of a size over the items from an index to a later one, at least 0.
abbrev pub greatest_between : (Node → ℤ) → List Node → (i j : ℕ) → ℤ
greatest_between size list i j = greatest_of size (take (j - i) (drop i list))

-- The first number from i on that passes a test, or the number after this many that do not.
abbrev pub first_passed : (ℕ → Bool) → (count i : ℕ) → ℕ
first_passed test zero i = i
first_passed test (suc count) i = if test i then i else first_passed test count (i + 1)

-- The first legal place at an index or after it.
abbrev pub next_place : List Node → (i : ℕ) → ℕ
next_place list i = first_passed (is_legal list) (length list - i) i

-- The sizes of a legal place: the greatest height and depth, at least 0, of the items after it up to the next place.
abbrev pub sizes_at : List Node → ℕ → PlaceSizes
sizes_at list place =
    record {
      position = place;
      begin = next_kept list (place + 1);
      height = greatest_between height_above_baseline list (place + 1) (next_place list (place + 1));
      depth = greatest_between depth_below_baseline list (place + 1) (next_place list (place + 1));
    }

-- Those of the start: of the items up to the first place.
abbrev pub start_sizes : List Node → PlaceSizes
start_sizes list =
    record {
      position = 0;
      begin = 0;
      height = greatest_between height_above_baseline list 0 (next_place list 0);
      depth = greatest_between depth_below_baseline list 0 (next_place list 0);
    }

-- The sizes of the start and of the legal places, in order.
abbrev pub sizes_of : List Node → List PlaceSizes
sizes_of list = start_sizes list ∷ map (sizes_at list) (legal_places list)

-- What a walk over a list found out about its lines is right.
pub record AreSizesOf (list : List Node) (sizes : LineSizes) : Type 0 where
  pub places : reverse sizes.places.items ≡ sizes_of list
  pub plain : sizes.plain ≡ true → IsPlain list

-- The items that a line keeps before the item at its end.
abbrev pub front_items : List Node → (begin : Option ℕ) → (end : ℕ) → List Node
front_items list None end = take end list
front_items list (Some a) end = without_first (drop (a + 1) (take end list))

-- The index of the first of them; where there is none, it is that of the item at the end.
abbrev pub first_index : List Node → (begin : Option ℕ) → (end : ℕ) → ℕ
first_index list begin end = length (take end list) - length (front_items list begin end)

-- A line from a place to a later one: where it ends and begins, and the greatest height and depth, at least 0, of its items.
pub record IsSpan (list : List Node) (from last : ℕ) (span : MeasuredSpan) : Type 0 where
  pub to : span.to ≡ last
  pub begin : span.begin ≡ first_index list (begins_at list from) (position_of list last)
  pub height : span.height ≡ greatest_of height_above_baseline (front_items list (begins_at list from) (position_of list last))
  pub depth : span.depth ≡ greatest_of depth_below_baseline (front_items list (begins_at list from) (position_of list last))
