-- The split of a vertical list: its front fills a height, and its rest is left (TeX: The Program, part 44, §968 and §970 to §979, vert_break and
-- vsplit).
use Rattle.std.specs.Prelude.{◌-ℤ◌, ◌+◌, ◌++◌, ℕ, ℤ, pos, Bool, true, false, int_lt, if◌then◌else◌}
use Rattle.std.specs.Prelude.{List, [], ◌∷◌, length, take, drop, Option, Some, None}
use Rattle.std.specs.Int.{int_max}
use Rattle.std.specs.List.{list_all, list_any, filter_map, range_with_len}
use Rattle.std.specs.Option.{option_map}
use Rattle.node_core.specs.declared.params.SplitParams.{SplitParams}
use Rattle.node_core.specs.declared.tree.Glue.{Glue}
use Rattle.node_core.specs.declared.tree.Node.{Node}
use Rattle.node_core.specs.declared.tree.Node.TheVariants as nodes
use Rattle.node_core.specs.Nodes.{items_of}
use Rattle.node_core.specs.Classes.{shrinks_infinitely}
use Rattle.scaled_core.specs.Dimensions.{fits}
use Rattle.pack_core.specs.declared.pack.Target.{Target}
use Rattle.pack_core.specs.declared.pack.Target.TheVariants.{Natural, To}
use Rattle.pack_core.specs.declared.pack.PackedBox.{PackedBox}
use Rattle.pack_core.specs.Boxes.{vbox, vbox_badness, vbox_numbers}
use Rattle.pack_core.specs.Items.{first_above}
use Rattle.vert_core.specs.declared.trials.Trial.{Trial}
use Rattle.vert_core.specs.declared.parts.SplitFault.{SplitFault}
use Rattle.vert_core.specs.declared.parts.SplitFault.TheVariants.{InfiniteShrink, DimensionTooLarge, OutOfMemory}
use Rattle.vert_core.specs.Places.{is_box_or_rule, penalty_before}
use Rattle.vert_core.specs.Costs.{cost, front_badness, is_last}

-- The trial of the place before item i, if a split is allowed there: its penalty, and the badness of the items before it.
abbrev pub trial_at : SplitParams → (goal : ℤ) → List Node → ℕ → Option Trial
trial_at params goal items i =
    option_map (λ (penalty : ℤ). record { place = i; penalty = penalty; badness = front_badness params goal (take i items) }) (penalty_before items i)

-- The trials of all places where a split is allowed, in order, including the end.
abbrev pub trials : SplitParams → (goal : ℤ) → List Node → List Trial
trials params goal items = filter_map (trial_at params goal items) (range_with_len 0 (length items + 1))

-- The trials up to the first last one, which is included.
abbrev pub up_to_last : List Trial → List Trial
up_to_last [] = []
up_to_last (t ∷ ts) = if is_last t then t ∷ [] else t ∷ up_to_last ts

-- Whether a trial costs less than another.
abbrev pub is_cheaper : Trial → Trial → Bool
is_cheaper t other = int_lt (cost t) (cost other)

-- The last of the trials with the least cost: the first trial that is cheaper than each later one.
abbrev pub last_cheapest : List Trial → Option Trial
last_cheapest [] = None
last_cheapest (t ∷ ts) = if list_all (is_cheaper t) ts then Some t else last_cheapest ts

-- The place of a trial; without a trial, the beginning (own: there is always one, since a split is allowed at the end).
abbrev pub trial_place : Option Trial → ℕ
trial_place None = 0
trial_place (Some t) = t.place

-- The place of the split: the last place of least cost among those that are tried (TeX: The Program, part 44, §970 to §976, vert_break).
unfoldable pub split_place : SplitParams → (goal : ℤ) → List Node → ℕ
split_place params goal items = trial_place (last_cheapest (up_to_last (trials params goal items)))

-- The items before the place of the split.
abbrev pub front_items : SplitParams → (goal : ℤ) → List Node → List Node
front_items params goal items = take (split_place params goal items) items

-- The items from the first box or rule on (TeX: The Program, part 44, §968, prune_page_top).
abbrev pub from_box_or_rule : List Node → List Node
from_box_or_rule [] = []
from_box_or_rule (x ∷ xs) = if is_box_or_rule x then x ∷ xs else from_box_or_rule xs

-- Whether an item is a special.
abbrev pub is_special : Node → Bool
is_special (nodes.Special text) = true
is_special (nodes.Glyph glyph) = false
is_special (nodes.FontKern width) = false
is_special (nodes.Kern width) = false
is_special (nodes.Glue glue) = false
is_special (nodes.Penalty penalty) = false
is_special (nodes.Rule rule) = false
is_special (nodes.Box shift b) = false

-- The specials before the first box or rule, which stay; glue, kerns and penalties there are dropped (TeX: The Program, part 44, §968,
-- prune_page_top: a whatsit stays).
abbrev pub specials_above : List Node → List Node
specials_above [] = []
specials_above (x ∷ xs) = if is_box_or_rule x then [] else (if is_special x then x ∷ specials_above xs else specials_above xs)

-- The width of the glue above a box or a rule of this height: that of splittopskip minus the height, at least 0 (TeX: The Program, part 44, §969).
abbrev pub top_width : SplitParams → (height : ℤ) → ℤ
top_width params height = int_max (pos 0) (params.split_top_skip.width -ℤ height)

-- The glue above a box or a rule of this height: it stretches and shrinks as splittopskip does.
abbrev pub top_glue : SplitParams → (height : ℤ) → Glue
top_glue params height = record params.split_top_skip { width = top_width params height }

-- The items from the first box or rule on, with the glue above them; none if there is no box or rule.
abbrev pub from_first_box : SplitParams → List Node → List Node
from_first_box params [] = []
from_first_box params (x ∷ xs) = nodes.Glue (top_glue params (first_above x)) ∷ x ∷ xs

-- What is left of the items after a place: the specials, and then the glue and the items below it.
abbrev pub left_of : SplitParams → (after : List Node) → List Node
left_of params after = specials_above after ++ from_first_box params (from_box_or_rule after)

-- The items after the place of the split.
abbrev pub items_after : SplitParams → (goal : ℤ) → List Node → List Node
items_after params goal items = drop (split_place params goal items) items

-- A vertical list in its vbox, and its badness: the result of `vpack` if all numbers fit.
abbrev pub packed_vbox : Target → (limit : ℤ) → List Node → PackedBox
packed_vbox target limit items = record { box_node = vbox target limit (items_of items); badness = vbox_badness target limit items }

-- The greatest dimension: as a limit it does not limit the depth of a box (TeX: The Program, part 33, §668, vpack).
abbrev pub no_limit : ℤ
no_limit = pos 1073741823

-- The front of a split: the items before the place, in a vbox of exactly this height with a depth of at most splitmaxdepth (TeX: The Program, part
-- 44, §977, vsplit).
unfoldable pub front_of : SplitParams → (goal : ℤ) → List Node → PackedBox
front_of params goal items = packed_vbox (To goal) params.split_max_depth (front_items params goal items)

-- The items that are left, in a vbox of its natural height; none if nothing is left.
abbrev pub packed_rest : List Node → Option PackedBox
packed_rest [] = None
packed_rest (x ∷ xs) = Some (packed_vbox Natural no_limit (x ∷ xs))

-- The rest of a split (TeX: The Program, part 44, §977, vsplit).
unfoldable pub rest_of : SplitParams → (goal : ℤ) → List Node → Option PackedBox
rest_of params goal items = packed_rest (left_of params (items_after params goal items))

-- The width of the glue above the first box or rule, as a number that has to fit (own).
abbrev pub top_widths : SplitParams → List Node → List ℤ
top_widths params [] = []
top_widths params (x ∷ xs) = top_width params (first_above x) ∷ []

-- The numbers of the rest that have to fit: the width of its glue, and the numbers of its vbox (own: TeX tests none).
abbrev pub rest_numbers : SplitParams → (after : List Node) → List ℤ
rest_numbers params after = top_widths params (from_box_or_rule after) ++ vbox_numbers Natural no_limit (left_of params after)

-- The numbers of a split that have to fit: those of the front and those of the rest (own).
unfoldable pub split_numbers : SplitParams → (goal : ℤ) → List Node → List ℤ
split_numbers params goal items =
    vbox_numbers (To goal) params.split_max_depth (front_items params goal items) ++ rest_numbers params (items_after params goal items)

-- Why a list is not split, if it is not. The first reason is glue anywhere in the list that shrinks in an infinite order. Each glue is tested by
-- itself, since other glue does not make up for it (TeX: The Program, part 44, §976; own: TeX looks no further than the split). The second reason is
-- a number that does not fit (own).
unfoldable pub refusal : SplitParams → (goal : ℤ) → List Node → Option SplitFault
refusal params goal items =
    if list_any shrinks_infinitely items then Some InfiniteShrink
    else (if list_all fits (split_numbers params goal items) then None else Some DimensionTooLarge)

-- The fault that is returned if a list was not split: the reason, or otherwise that memory was refused (own).
abbrev pub fault_of : Option SplitFault → SplitFault
fault_of (Some fault) = fault
fault_of None = OutOfMemory
