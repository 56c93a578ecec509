-- The steps of a split, with one definition for each call (own; only private calls use them).
use Rattle.std.specs.Prelude.{◌≡◌, ◌<◌, ◌≤◌, ◌+◌, ◌-◌, ◌++◌, ℕ, ℤ, false, if◌then◌else◌, List, [], ◌∷◌, length, drop, take, Option, Some, None}
use Rattle.std.specs.List.{filter, filter_map, range_with_len, slice_get}
use Rattle.std.specs.Option.{IfSome}
use Rattle.node_core.specs.declared.params.SplitParams.{SplitParams}
use Rattle.node_core.specs.declared.tree.Glue.{Glue}
use Rattle.node_core.specs.declared.tree.Node.{Node}
use Rattle.node_core.specs.declared.tree.Node.TheVariants as nodes
use Rattle.node_core.specs.Nodes.{items_of}
use Rattle.pack_core.specs.declared.pack.PackedBox.{PackedBox}
use Rattle.pack_core.specs.Boxes.{packed_of}
use Rattle.vert_core.specs.declared.trials.Trial.{Trial}
use Rattle.vert_core.specs.declared.plan.SplitRest.{SplitRest}
use Rattle.vert_core.specs.declared.plan.Plan.{Plan}
use Rattle.vert_core.specs.Places.{is_some_before_break}
use Rattle.vert_core.specs.Split.{trial_at, is_cheaper, is_special}

-- The trial to keep of the best one so far and a later one: the later one, unless the earlier one is cheaper.
abbrev pub cheaper_trial : Option Trial → Trial → Trial
cheaper_trial None t = t
cheaper_trial (Some best) t = if is_cheaper best t then best else t

-- The best trial so far, as a list.
abbrev pub trial_list : Option Trial → List Trial
trial_list None = []
trial_list (Some t) = t ∷ []

-- The trials of the places from i on.
unfoldable pub trials_from : SplitParams → (goal : ℤ) → List Node → ℕ → List Trial
trials_from params goal items i = filter_map (trial_at params goal items) (range_with_len i (length items + 1 - i))

-- A place of the list before an item that is dropped, or at its end.
pub record IsOpen (items : List Node) (i : ℕ) : Type 0 where
  pub within : i ≤ length items
  pub dropped : is_some_before_break (slice_get items i) ≡ false

-- Items below glue, if there is any.
abbrev pub glued_items : Option Glue → List Node → List Node
glued_items None items = items
glued_items (Some glue) items = nodes.Glue glue ∷ items

-- The items of the rest: the specials among those from `first` on and before `start`, and those from `start` on, below the glue.
abbrev pub rest_list : SplitRest → List Node → List Node
rest_list rest items = filter is_special (take (rest.start - rest.first) (drop rest.first items)) ++ glued_items rest.glue (drop rest.start items)

-- The items of the rest, if there is one.
abbrev pub left_items : Option SplitRest → List Node → List Node
left_items None items = []
left_items (Some rest) items = rest_list rest items

-- The rest in the box that was found for it.
abbrev pub packed_left : Option SplitRest → List Node → Option PackedBox
packed_left None items = None
packed_left (Some rest) items = Some (packed_of (items_of (rest_list rest items)) rest.shell)

-- The rest can be taken from the list: it has an item, and the slot of the item before its first one is free for the glue.
pub record IsInside (rest : SplitRest) (items : List Node) : Type 0 where
  pub free : 0 < rest.first
  pub ordered : rest.first ≤ rest.start
  pub within : rest.start ≤ length items
  pub some : 0 < length (rest_list rest items)

-- The plan fits the list: it can be carried out.
pub record PlanFits (items : List Node) (plan : Plan) : Type 0 where
  pub within : plan.place ≤ length items
  pub after : IfSome plan.rest (λ rest. plan.place < rest.first)
  pub inside : IfSome plan.rest (λ rest. IsInside rest items)
