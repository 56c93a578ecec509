-- The places of a list as its meter stores them, and the walk that finds them (own).
use Rattle.std.specs.Prelude.{◌≡◌, ◌≢◌, ◌+◌, ◌-◌, ◌<◌, ◌≤◌, ◌+ℤ◌, ◌≤ℤ◌, ◌++◌, ℕ, ℤ, pos, Bool, true, false, int_lt, nat_lt, List, ◌∷◌}
use Rattle.std.specs.Prelude.{length, map, filter, reverse, drop, slice_get, Option, Some, None, if◌then◌else◌}
use Rattle.std.specs.List.{list_any}
use Rattle.node_core.specs.declared.tree.Node.{Node}
use Rattle.node_core.specs.declared.tree.Node.TheVariants as nodes
use Rattle.node_core.specs.Classes.{shrinks_infinitely}
use Rattle.node_core.specs.declared.tree.Order.{Order}
use Rattle.node_core.specs.declared.tree.Order.TheVariants.{Normal, Fil, Fill, Filll}
use Rattle.node_core.specs.Nodes.{max_nodes, IsPlain}
use Rattle.pack_core.specs.Items.{item_width, height_above_baseline, depth_below_baseline, stretch_in, shrink_in, is_order}
use Rattle.break_lines.specs.Problems.{max_places}
use Rattle.break_lines.specs.declared.sums.Sums.{Sums}
use Rattle.break_lines.specs.declared.item_sums.RunSizes.{RunSizes}
use Rattle.break_lines.specs.declared.mark.MeasuredBreak.{MeasuredBreak}
use Rattle.break_lines.specs.declared.walk.BreakWalk.{BreakWalk}
use Rattle.break_lines.specs.Legal.{up_to, is_legal, legal_places, penalty_of}
use Rattle.break_lines.specs.LineItems.{sums_of, next_kept, minus}
use Rattle.break_lines.specs.Facts.{refusal}
use Rattle.break_lines.specs.Spans.{greatest_between, next_place, sizes_at}
use Rattle.break_lines.specs.Private.SmallMarks.{IsPrefix, AreSmallMarks}
use Rattle.break_lines.specs.Steady.{IsNoNarrower}
use Rattle.break_lines.specs.Even.{Covers}

-- The sums over no items.
abbrev pub no_sums : Sums
no_sums = record { width = pos 0; stretch = pos 0; fil = pos 0; fill = pos 0; filll = pos 0; shrink = pos 0 }

-- What an item adds to the sums.
abbrev pub amounts_of : Node → Sums
amounts_of node =
    record {
      width = item_width node;
      stretch = stretch_in Normal node;
      fil = stretch_in Fil node;
      fill = stretch_in Fill node;
      filll = stretch_in Filll node;
      shrink = shrink_in Normal node;
    }

-- The sizes of a glyph or a font kern; its width is all that it adds to the sums (own: the walk passes them in a loop of their own).
unfoldable pub sizes_in_run : Node → Option RunSizes
sizes_in_run (nodes.Glyph glyph) = Some (record { width = glyph.width; height = glyph.height; depth = glyph.depth })
sizes_in_run (nodes.FontKern width) = Some (record { width = width; height = pos 0; depth = pos 0 })
sizes_in_run (nodes.Kern width) = None
sizes_in_run (nodes.Glue glue) = None
sizes_in_run (nodes.Penalty penalty) = None
sizes_in_run (nodes.Rule rule) = None
sizes_in_run (nodes.Special text) = None
sizes_in_run (nodes.Box shift b) = None

-- What stretch in an order adds to the sums (own).
abbrev pub stretch_alone : Order → (amount : ℤ) → Sums
stretch_alone order amount =
    record {
      width = pos 0;
      stretch = if is_order Normal order then amount else pos 0;
      fil = if is_order Fil order then amount else pos 0;
      fill = if is_order Fill order then amount else pos 0;
      filll = if is_order Filll order then amount else pos 0;
      shrink = pos 0;
    }

-- What shrink in an order adds to the sums (own).
abbrev pub shrink_alone : Order → (amount : ℤ) → Sums
shrink_alone order amount = record no_sums { shrink = if is_order Normal order then amount else pos 0 }

-- The sum of two sums (own).
abbrev pub plus : Sums → Sums → Sums
plus a b =
    record {
      width = a.width +ℤ b.width;
      stretch = a.stretch +ℤ b.stretch;
      fil = a.fil +ℤ b.fil;
      fill = a.fill +ℤ b.fill;
      filll = a.filll +ℤ b.filll;
      shrink = a.shrink +ℤ b.shrink;
    }

-- Whether an item is glue whose stretch is negative.
abbrev pub has_negative_stretch : Node → Bool
has_negative_stretch (nodes.Glue glue) = int_lt glue.stretch (pos 0)
has_negative_stretch (nodes.Glyph glyph) = false
has_negative_stretch (nodes.FontKern width) = false
has_negative_stretch (nodes.Kern width) = false
has_negative_stretch (nodes.Penalty penalty) = false
has_negative_stretch (nodes.Rule rule) = false
has_negative_stretch (nodes.Special text) = false
has_negative_stretch (nodes.Box shift b) = false

-- The mark of a legal place.
abbrev pub measured_break : List Node → ℕ → MeasuredBreak
measured_break list place =
    record {
      position = place;
      begin = next_kept list (place + 1);
      penalty = penalty_of (slice_get list place);
      from_position = sums_of (drop place list);
      from_begin = sums_of (drop (next_kept list (place + 1)) list);
    }

-- The mark of the start: the first line begins with the first item, even if it is an item that is dropped elsewhere.
abbrev pub start_mark : List Node → MeasuredBreak
start_mark list = record { position = 0; begin = 0; penalty = pos 0; from_position = sums_of list; from_begin = sums_of list }

-- The marks of the start and of the legal places, in order.
abbrev pub marks_of : List Node → List MeasuredBreak
marks_of list = start_mark list ∷ map (measured_break list) (legal_places list)

-- The sums over the items of the line from a place to a later one.
abbrev pub line_between : (from to : MeasuredBreak) → Sums
line_between from to = if nat_lt from.begin to.position then minus from.from_begin to.from_position else no_sums

-- The line from the start to place `to` gets no narrower when it goes on to the next place; nor does that from the place directly before, if it is
-- empty.
pub record RisesOn (from to next : MeasuredBreak) : Type 0 where
  pub wider : IsNoNarrower to.from_position next.from_position
  pub begins : to.position ≤ from.begin → IsNoNarrower (line_between from next) no_sums

-- The items that are dropped after a place, and those of the line from there to the next place, are not negative together, in their width and in
-- their stretch of each order; nor are the items from the place to the next one, if that is among those that are dropped.
pub record GoesOnEvenly (here next : MeasuredBreak) : Type 0 where
  pub dropped : Covers here.from_position here.from_begin
  pub line : here.begin ≤ next.position → Covers here.from_begin next.from_position
  pub passed : next.position < here.begin → Covers here.from_position next.from_position

-- The same in their width alone.
pub record GoesOnInWidth (here next : MeasuredBreak) : Type 0 where
  pub dropped : here.from_begin.width ≤ℤ here.from_position.width
  pub line : here.begin ≤ next.position → next.from_position.width ≤ℤ here.from_begin.width
  pub passed : next.position < here.begin → next.from_position.width ≤ℤ here.from_position.width

-- The measures of a list that is not refused.
pub record IsMarked (list : List Node) (found : List MeasuredBreak) : Type 0 where
  pub fits : refusal list ≡ None
  pub marks : found ≡ marks_of list
  pub small : AreSmallMarks found

-- The state of a walk that has passed the items from an index on.
pub record HasMeasuredFrom (list : List Node) (index : ℕ) (walk : BreakWalk) : Type 0 where
  -- The marks of the places among these items, together with those of the places before them, are all marks.
  pub marks : map (measured_break list) (filter (is_legal list) (up_to index)) ++ reverse walk.marks.items
      ≡ map (measured_break list) (legal_places list)
  pub few : length walk.marks.items ≤ max_places
  pub small_marks : AreSmallMarks (reverse walk.marks.items)
  pub sums : walk.sums ≡ sums_of (drop index list)
  pub small_sums : IsPrefix (length list - index) walk.sums
  pub begin : walk.begin ≡ next_kept list index
  pub from_begin : walk.begin ≢ index → walk.from_begin ≡ sums_of (drop walk.begin list)
  pub small_begin : IsPrefix max_nodes walk.from_begin
  pub finite : list_any shrinks_infinitely (drop index list) ≡ false
  pub grows : walk.stretch_grows ≡ true → list_any has_negative_stretch (drop index list) ≡ false
  pub plain : walk.plain ≡ true → IsPlain (drop index list)
  -- The same of the sizes of these places.
  pub sizes : map (sizes_at list) (filter (is_legal list) (up_to index)) ++ reverse walk.sizes.items ≡ map (sizes_at list) (legal_places list)
  pub height : walk.height ≡ greatest_between height_above_baseline list index (next_place list index)
  pub depth : walk.depth ≡ greatest_between depth_below_baseline list index (next_place list index)
