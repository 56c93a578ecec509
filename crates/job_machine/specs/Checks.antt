-- When a command is refused, and with which refusal: one row for each command (own; after TeX: The Program, parts 16, 32, 33 and 47).
use Rattle.std.specs.List.{list_all, list_any}
use Rattle.std.specs.Prelude.{◌+◌, ◌==◌, ◌++◌, ◌∷◌, ◌&&◌, ◌||◌, [], ℕ, ℤ, pos, Bool, true, false, not, nat_le, nat_lt, List, length}
use Rattle.std.specs.Prelude.{Option, Some, None, is_none, is_some, Result, Ok, Err, is_ok}
use Rattle.node_core.specs.declared.tree.Node.{Node}
use Rattle.node_core.specs.declared.tree.Kind.{Kind}
use Rattle.node_core.specs.declared.tree.Kind.TheVariants.{Horizontal, Vertical}
use Rattle.node_core.specs.declared.tree.Rule as rules
use Rattle.node_core.specs.declared.tree.RuleSize.{RuleSize}
use Rattle.node_core.specs.declared.tree.RuleSize.TheVariants.{Running, Fixed}
use Rattle.node_core.specs.declared.tree.BoxNode.{BoxNode}
use Rattle.node_core.specs.declared.params.Params.{Params}
use Rattle.node_core.specs.declared.params.SplitParams.{SplitParams}
use Rattle.node_core.specs.Nodes.{nodes_of, box_depth}
use Rattle.job_machine.specs.declared.OpenList.{OpenList}
use Rattle.job_machine.specs.declared.ListPurpose.{ListPurpose}
use Rattle.job_machine.specs.declared.ListPurpose.TheVariants as purposes
use Rattle.job_machine.specs.declared.command.Command.{Command}
use Rattle.job_machine.specs.declared.command.Command.TheVariants.{LoadFont, UseFont, Open, Paragraph, End, Text, Character, Rule, Kern, Glue}
use Rattle.job_machine.specs.declared.command.Command.TheVariants.{Penalty, Append, Unbox, LastBox, Split, Measure, Void, Set, Count, Special, Ship}
use Rattle.job_machine.specs.declared.replies.Refusal.{Refusal}
use Rattle.job_machine.specs.declared.replies.Refusal.TheVariants.{DimensionTooLarge, NoFont, SlotTaken, NoOpenList, WrongMode, WrongKind}
use Rattle.job_machine.specs.declared.replies.Refusal.TheVariants.{ListTooLong, TooDeep, InfiniteShrink, HugePage, TooManyPages, TooMuchShipped}
use Rattle.job_machine.specs.declared.replies.Refusal.TheVariants.{TooMuchSpecial, JobOver, VoidBox}
use Rattle.node_core.specs.declared.limits.TheConstants.{MAX_OPEN_LISTS, MAX_ITEMS, MAX_DEPTH, MAX_SPECIAL_TEXT}
use Rattle.pack_core.specs.declared.pack.PackedBox as packs
pub use Rattle.page_core.specs.Limits.{first_refusal}
use Rattle.page_core.specs.Limits.{page_limits}
use Rattle.scaled_core.specs.Dimensions.{fits}
use Rattle.node_core.specs.Classes.{shrinks_infinitely}
use Rattle.vert_core.specs.Split.{split_numbers}
use Rattle.tfm_core.specs.Fonts.{SizedFont}
use Rattle.tfm_core.specs.Slots.{font_in}
use Rattle.job_machine.specs.FontSlots.{current_font, CharacterItems, text_shaped, character_shaped}
use Rattle.job_machine.specs.State.{State, innermost, outer, items_in, open_count, held_in, font_for}
use Rattle.job_machine.specs.NextPages.{page_in}
use Rattle.job_machine.specs.OpenLists.{kind_in, is_vertical, glue_in, box_items, packed_list}
use Rattle.job_machine.specs.Paragraphs.{paragraph_checks}

-- The refusal of items that do not fit into a list that has this number of items already.
abbrev pub count_checks : (count : ℕ) → List Node → List (Bool × Refusal)
count_checks count items = (nat_lt MAX_ITEMS (count + length items), ListTooLong) ∷ []

-- The refusal of items that do not fit into the innermost list.
abbrev pub length_checks : State → List Node → List (Bool × Refusal)
length_checks m items = count_checks (open_count m) items

-- The refusals of one more item.
abbrev pub item_checks : State → List (Bool × Refusal)
item_checks m = (length m.nest == 0, NoOpenList) ∷ (nat_le MAX_ITEMS (open_count m), ListTooLong) ∷ []

-- The refusals of any characters: they need a current font and go into a horizontal list.
abbrev pub character_checks : State → List (Bool × Refusal)
character_checks m =
    (length m.nest == 0, NoOpenList) ∷ (is_vertical (kind_in (innermost m.nest)), WrongMode) ∷ (is_none (current_font m.fonts m.current), NoFont) ∷ []

-- The refusals of characters that become these items: those of any characters, and then that the items do not fit.
abbrev pub shape_checks : State → CharacterItems → List (Bool × Refusal)
shape_checks m shaped = character_checks m ++ length_checks m shaped.items

-- The refusal of a font that is not given.
abbrev pub refusal_in : Result SizedFont Refusal → List (Bool × Refusal)
refusal_in (Ok font) = []
refusal_in (Err refusal) = (true, refusal) ∷ []

-- The refusals of opening a box. One without a register needs a list around it to go into.
abbrev pub open_checks : List OpenList → Option ℕ → List (Bool × Refusal)
open_checks nest into = (is_none into && (length nest == 0), NoOpenList) ∷ (nat_le MAX_OPEN_LISTS (length nest), TooDeep) ∷ []

-- The refusals of opening a paragraph, which goes into a vertical list.
abbrev pub par_checks : List OpenList → List (Bool × Refusal)
par_checks nest =
    (length nest == 0, NoOpenList) ∷ (not (is_vertical (kind_in (innermost nest))), WrongMode) ∷ (nat_le MAX_OPEN_LISTS (length nest), TooDeep) ∷ []

-- The refusals of a box at the end of an open list: the glue before it does not fit, or the list would be too long.
abbrev pub box_checks : Params → Option OpenList → BoxNode → List (Bool × Refusal)
box_checks params None b = (true, NoOpenList) ∷ []
box_checks params (Some open_list) b =
    (not (is_ok (glue_in params open_list b.height)), DimensionTooLarge)
    ∷ (nat_lt MAX_ITEMS (length (nodes_of open_list.list) + length (box_items params open_list (pos 0) b)), ListTooLong) ∷ []

-- The refusals of the place that the box of a closed list goes to. A register takes any box.
abbrev pub home_checks : Params → (around : List OpenList) → (into : Option ℕ) → BoxNode → List (Bool × Refusal)
home_checks params around None b = box_checks params (innermost around) b
home_checks params around (Some r) b = []

-- The refusals of the box of a closed list: it nests too deep, and then those of the place that it goes to.
abbrev pub place_checks : Params → (around : List OpenList) → (into : Option ℕ) → BoxNode → List (Bool × Refusal)
place_checks params around into b = (nat_lt MAX_DEPTH (box_depth b), TooDeep) ∷ home_checks params around into b

-- The refusals of packing an open list: a size does not fit where there is no box, else those of the box.
abbrev pub packed_checks : Params → (around : List OpenList) → (into : Option ℕ) → Option packs.PackedBox → List (Bool × Refusal)
packed_checks params around into None = (true, DimensionTooLarge) ∷ []
packed_checks params around into (Some packed) = place_checks params around into packed.box_node

-- The refusals of the end of an open list, by what it was opened for and with these lists around.
abbrev pub purpose_checks : Params → (around : List OpenList) → OpenList → ListPurpose → List (Bool × Refusal)
purpose_checks params around open_list (purposes.Box opening) = packed_checks params around opening.into (packed_list params (Some open_list))
purpose_checks params around open_list purposes.Paragraph = paragraph_checks params around open_list.list

-- The refusals of the end of an open list with these lists around.
abbrev pub close_checks : Params → (around : List OpenList) → Option OpenList → List (Bool × Refusal)
close_checks params around None = (true, NoOpenList) ∷ []
close_checks params around (Some open_list) = purpose_checks params around open_list open_list.purpose

-- The refusals of the end of the innermost list.
abbrev pub end_checks : Params → List OpenList → List (Bool × Refusal)
end_checks params nest = close_checks params (outer nest) (innermost nest)

-- The refusals of the box of a register at the end of the innermost list. A void register adds nothing and is not refused.
abbrev pub held_checks : Params → Option OpenList → Option BoxNode → List (Bool × Refusal)
held_checks params open_list None = []
held_checks params open_list (Some b) = box_checks params open_list b

-- The refusals of `box` and `copy`: no list is open, and then those of the box of the register.
abbrev pub append_checks : State → (register : ℕ) → List (Bool × Refusal)
append_checks m r = (length m.nest == 0, NoOpenList) ∷ held_checks m.params (innermost m.nest) (held_in m.registers r)

-- Whether two kinds differ.
abbrev pub is_other : Kind → Kind → Bool
is_other Horizontal Horizontal = false
is_other Vertical Vertical = false
is_other Horizontal Vertical = true
is_other Vertical Horizontal = true

-- The refusals of the items of a box at the end of a list of that kind with this number of items.
abbrev pub items_checks : Kind → (count : ℕ) → Option BoxNode → List (Bool × Refusal)
items_checks kind count None = []
items_checks kind count (Some b) =
    (is_other kind b.kind, WrongKind) ∷ (nat_lt MAX_ITEMS (count + length (nodes_of b.list)), ListTooLong) ∷ []

-- The refusals of the items of the box of a register at the end of an open list: the list is not of the command's kind, and then those of the
-- items.
abbrev pub inner_checks : Kind → Option OpenList → Option BoxNode → List (Bool × Refusal)
inner_checks kind open_list held =
    (is_other kind (kind_in open_list), WrongMode) ∷ items_checks kind (length (nodes_of (items_in open_list))) held

-- The refusals of the four commands that unbox: no list is open, and then those of the items of the register's box.
abbrev pub unbox_checks : State → Kind → (register : ℕ) → List (Bool × Refusal)
unbox_checks m kind r = (length m.nest == 0, NoOpenList) ∷ inner_checks kind (innermost m.nest) (held_in m.registers r)

-- The refusals of a split of the box of a register: it is an hbox, glue of its list shrinks in an infinite order, or a number of the parts does
-- not fit. A void register has no parts and is not refused.
abbrev pub split_checks : SplitParams → (height : ℤ) → Option BoxNode → List (Bool × Refusal)
split_checks params height None = []
split_checks params height (Some b) =
    (is_other Vertical b.kind, WrongKind) ∷ (list_any shrinks_infinitely (nodes_of b.list), InfiniteShrink)
    ∷ (not (list_all fits (split_numbers params height (nodes_of b.list))), DimensionTooLarge) ∷ []

-- Whether a size of a rule is running.
abbrev pub is_running : RuleSize → Bool
is_running Running = true
is_running (Fixed size) = false

-- Whether a rule does not belong in a list of that kind. Only the sizes across the list may be running, since they become those of the box around: so
-- the width may not in a horizontal list, nor the height or the depth in a vertical one.
abbrev pub is_misplaced : Kind → rules.Rule → Bool
is_misplaced Horizontal rule = is_running rule.width
is_misplaced Vertical rule = is_running rule.height || is_running rule.depth

-- The refusals of the page of the box of a register. A void register is refused before these.
abbrev pub page_checks : State → (held : Option BoxNode) → List (Bool × Refusal)
page_checks m None = []
page_checks m (Some b) = page_limits TooManyPages TooMuchShipped TooMuchSpecial HugePage m.pages m.shipped (page_in m b)

-- The refusals of each command, each with its condition. Their order is part of the contract: scripts see which refusal comes first.
abbrev pub own_checks : State → Command → List (Bool × Refusal)
own_checks m (LoadFont load) = (is_some (font_in m.fonts load.slot), SlotTaken) ∷ refusal_in (font_for m load)
own_checks m (UseFont slot) = (is_none (font_in m.fonts slot), NoFont) ∷ []
own_checks m (Text text) = shape_checks m (text_shaped m.fonts m.current text)
own_checks m (Character code) = shape_checks m (character_shaped m.fonts m.current code)
own_checks m (Open opening) = open_checks m.nest opening.into
own_checks m Paragraph = par_checks m.nest
own_checks m End = end_checks m.params m.nest
own_checks m (Rule rule) =
    (length m.nest == 0, NoOpenList) ∷ (is_misplaced (kind_in (innermost m.nest)) rule, WrongMode)
    ∷ (nat_le MAX_ITEMS (open_count m), ListTooLong) ∷ []
own_checks m (Kern width) = item_checks m
own_checks m (Glue glue) = item_checks m
own_checks m (Penalty n) = item_checks m
own_checks m (Append taken) = append_checks m taken.register
own_checks m (Unbox taken) = unbox_checks m taken.kind taken.register
own_checks m (LastBox r) = (length m.nest == 0, NoOpenList) ∷ []
own_checks m (Split splitting) = split_checks m.params.split splitting.height (held_in m.registers splitting.register)
own_checks m (Measure r) = []
own_checks m (Void r) = []
own_checks m (Set parameter) = []
own_checks m (Count counting) = []
own_checks m (Special text) =
    (length m.nest == 0, NoOpenList) ∷ (nat_lt MAX_SPECIAL_TEXT (length text), TooMuchSpecial) ∷ (nat_le MAX_ITEMS (open_count m), ListTooLong) ∷ []
own_checks m (Ship r) = (is_none (held_in m.registers r), VoidBox) ∷ page_checks m (held_in m.registers r)

-- All refusals of a command in their order. That the job is over comes first for each command.
abbrev pub checks : State → Command → List (Bool × Refusal)
checks m command = (m.over, JobOver) ∷ own_checks m command
