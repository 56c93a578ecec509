-- The items of a list that a line keeps, and the sums over them (TeX: The Program, part 38, §822 and §837; part 39, §879 to §882).
use Rattle.std.specs.Prelude.{◌<◌, ◌+◌, ◌^◌, ◌-ℤ◌, ◌++◌, ℕ, pos, List, [], ◌∷◌, take, drop, slice_get, Option, Some, None, if◌then◌else◌}
use Rattle.node_core.specs.declared.tree.Node.{Node}
use Rattle.node_core.specs.declared.tree.Node.TheVariants as nodes
use Rattle.node_core.specs.declared.tree.Order.TheVariants.{Normal, Fil, Fill, Filll}
use Rattle.scaled_core.specs.Dimensions.{Within}
use Rattle.pack_core.specs.Items.{item_width, stretch_in, shrink_in}
use Rattle.pack_core.specs.Totals.{total}
use Rattle.break_lines.specs.declared.sums.Sums.{Sums}
use Rattle.break_lines.specs.Legal.{is_dropped}

-- What a line keeps of the item at its end: glue disappears, a kern loses its width, and a penalty stays.
abbrev pub at_break : Option Node → List Node
at_break (Some (nodes.Kern width)) = nodes.Kern (pos 0) ∷ []
at_break (Some (nodes.Penalty penalty)) = nodes.Penalty penalty ∷ []
at_break other = []

-- A list without the glue, the explicit kerns and the penalties at its beginning.
abbrev pub without_first : List Node → List Node
without_first [] = []
without_first (node ∷ rest) = if is_dropped node then without_first rest else (node ∷ rest)

-- The items of the line to place b: from the start all items, and from another place the items after it, without those that are dropped at the
-- beginning (own if b is among the dropped items: then the line is empty, or has only its last item).
abbrev pub kept_items : List Node → (from : Option ℕ) → (b : ℕ) → List Node
kept_items list None b = take b list ++ at_break (slice_get list b)
kept_items list (Some a) b = without_first (drop (a + 1) (take b list)) ++ at_break (slice_get list b)

-- A line begins before its end.
abbrev pub BeginsBefore : (from : Option ℕ) → (b : ℕ) → Type 0
BeginsBefore None b = Unit {0}
BeginsBefore (Some a) b = a < b

-- The sums over the items of a line: their widths, their stretch in each order, and their shrink.
unfoldable pub sums_of : List Node → Sums
sums_of items =
    record {
      width = total item_width items;
      stretch = total (stretch_in Normal) items;
      fil = total (stretch_in Fil) items;
      fill = total (stretch_in Fill) items;
      filll = total (stretch_in Filll) items;
      shrink = total (shrink_in Normal) items;
    }

-- The number of items at the beginning of a list that are dropped.
abbrev pub lead : List Node → ℕ
lead [] = 0
lead (node ∷ rest) = if is_dropped node then lead rest + 1 else 0

-- The difference of two sums (own).
abbrev pub minus : Sums → Sums → Sums
minus a b =
    record {
      width = a.width -ℤ b.width;
      stretch = a.stretch -ℤ b.stretch;
      fil = a.fil -ℤ b.fil;
      fill = a.fill -ℤ b.fill;
      filll = a.filll -ℤ b.filll;
      shrink = a.shrink -ℤ b.shrink;
    }

-- The index of the first item from k on that is not dropped, or the end if there is none.
abbrev pub next_kept : List Node → (k : ℕ) → ℕ
next_kept list k = k + lead (drop k list)

-- The index of the first item of a line, after those that are dropped.
abbrev pub first_item_kept : List Node → Option ℕ → ℕ
first_item_kept list None = 0
first_item_kept list (Some a) = next_kept list (a + 1)

-- The sums over at most 131,072 items are below these bounds (own).
pub record IsSmallSums (sums : Sums) : Type 0 where
  pub width : Within (2 ^ 49) sums.width
  pub stretch : Within (2 ^ 48) sums.stretch
  pub shrink : Within (2 ^ 48) sums.shrink
