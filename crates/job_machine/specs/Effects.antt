-- What an accepted command changes, and the pages that it adds: one row for each command (own; after TeX: The Program, parts 16, 32, 33 and 47).
use Rattle.std.specs.Prelude.{◌+◌, ◌++◌, ◌∷◌, [], ℕ, ℤ, pos, List, slice_set, Option, Some, None}
use Rattle.node_core.specs.declared.tree.Node.{Node}
use Rattle.node_core.specs.declared.tree.Node.TheVariants as nodes
use Rattle.node_core.specs.declared.tree.Rule as rules
use Rattle.node_core.specs.declared.tree.BoxNode.{BoxNode}
use Rattle.std.specs.Option.{option_map}
use Rattle.node_core.specs.declared.params.Params.{Params}
use Rattle.node_core.specs.declared.params.SplitParams.{SplitParams}
use Rattle.node_core.specs.Nodes.{items_of, nodes_of, last_box, without_last_box}
use Rattle.vert_core.specs.Interline.{ignored_depth}
use Rattle.job_machine.specs.declared.OpenList.{OpenList}
use Rattle.job_machine.specs.declared.ListPurpose.{ListPurpose}
use Rattle.job_machine.specs.declared.ListPurpose.TheVariants as purposes
use Rattle.job_machine.specs.declared.command.Splitting.{Splitting}
use Rattle.job_machine.specs.declared.command.Transfer.{Transfer}
use Rattle.job_machine.specs.declared.command.Transfer.TheVariants.{Move, Copy}
use Rattle.job_machine.specs.declared.command.Command.{Command}
use Rattle.job_machine.specs.declared.command.Command.TheVariants.{LoadFont, UseFont, Open, Paragraph, End, Text, Character, Rule, Kern, Glue}
use Rattle.job_machine.specs.declared.command.Command.TheVariants.{Penalty, Append, Unbox, LastBox, Split, Measure, Void, Set, Count, Special, Ship}
use Rattle.pack_core.specs.declared.pack.PackedBox as packs
use Rattle.vert_core.specs.Split.{front_of, rest_of}
use Rattle.page_core.specs.Marks.{ShippedPage}
use Rattle.job_machine.specs.FontSlots.{with_font, text_shaped, character_shaped}
use Rattle.job_machine.specs.State.{State, innermost, outer, with_innermost, items_in, held_in, shipped_with, font_for}
use Rattle.job_machine.specs.NextPages.{shipped_pages}
use Rattle.job_machine.specs.OpenLists.{opened_list, box_items, packed_list}
use Rattle.job_machine.specs.Paragraphs.{with_paragraph}
use Rattle.job_machine.specs.Parameters.{with_parameter}

-- The nest with more nodes at the end of its innermost list.
abbrev pub with_nodes : List OpenList → List Node → Option OpenList → List OpenList
with_nodes nest nodes None = nest
with_nodes nest nodes (Some open_list) =
    with_innermost nest (record open_list { list = items_of (nodes_of open_list.list ++ nodes) })

-- The state with more items at the end of the innermost list.
abbrev pub with_items : State → List Node → State
with_items m items = record m { nest = with_nodes m.nest items (innermost m.nest) }

-- The nest with a rule at the end of its innermost list, whose previous depth then counts as none (TeX: The Program, part 47, §1056).
abbrev pub with_rule : List OpenList → rules.Rule → Option OpenList → List OpenList
with_rule nest rule None = nest
with_rule nest rule (Some open_list) =
    with_innermost nest
    (record open_list { list = items_of (nodes_of open_list.list ++ nodes.Rule rule ∷ []); previous_depth = ignored_depth })

-- A list with a box at its end, after the glue before it. The previous depth is then that of the box (TeX: The Program, part 33, §679).
abbrev pub list_with_box : Params → (shift : ℤ) → BoxNode → OpenList → OpenList
list_with_box params shift b open_list =
    record open_list { list = items_of (nodes_of open_list.list ++ box_items params open_list shift b); previous_depth = b.depth }

-- The nest with a box at the end of its innermost list.
abbrev pub with_box : Params → List OpenList → (shift : ℤ) → BoxNode → Option OpenList → List OpenList
with_box params nest shift b None = nest
with_box params nest shift b (Some open_list) = with_innermost nest (list_with_box params shift b open_list)

-- The nest without the last item of its innermost list, where that is a box. Glue before the box stays, and so does the previous depth (TeX: The
-- Program, part 47, §1080 and §1081).
abbrev pub without_last : List OpenList → Option OpenList → List OpenList
without_last nest None = nest
without_last nest (Some open_list) =
    with_innermost nest
    (record open_list { list = items_of (without_last_box (last_box (nodes_of open_list.list)) (nodes_of open_list.list)) })

-- The registers after the box of one was used: moving it out makes the register void, copying leaves it.
abbrev pub with_taken : Transfer → List (Option BoxNode) → ℕ → List (Option BoxNode)
with_taken Move registers r = slice_set registers r None
with_taken Copy registers r = registers

-- The state after the box of a closed list went into its register, or to the end of the innermost of the lists around.
abbrev pub with_home : State → (around : List OpenList) → (into : Option ℕ) → BoxNode → State
with_home m around None b = record m { nest = with_box m.params around (pos 0) b (innermost around) }
with_home m around (Some r) b = record m { nest = around; registers = slice_set m.registers r (Some b) }

-- The state after the innermost list was packed into a box, which goes into its register or to the end of the list around.
abbrev pub with_closed : State → (into : Option ℕ) → Option packs.PackedBox → State
with_closed m into None = m
with_closed m into (Some packed) = with_home m (outer m.nest) into packed.box_node

-- The state after the end of the innermost list, by what it was opened for.
abbrev pub with_purpose : State → OpenList → ListPurpose → State
with_purpose m open_list (purposes.Box opening) = with_closed m opening.into (packed_list m.params (Some open_list))
with_purpose m open_list purposes.Paragraph = record m { nest = with_paragraph m.params (outer m.nest) open_list.list }

-- The state after the end of the innermost list, if there is one.
abbrev pub with_ended : State → Option OpenList → State
with_ended m None = m
with_ended m (Some open_list) = with_purpose m open_list open_list.purpose

-- The state with the box of a register at the end of the innermost list.
abbrev pub with_used : State → Transfer → (register : ℕ) → (shift : ℤ) → Option BoxNode → State
with_used m taking r shift None = m
with_used m taking r shift (Some b) =
    record m { nest = with_box m.params m.nest shift b (innermost m.nest); registers = with_taken taking m.registers r }

-- The state with the items of the box of a register at the end of the innermost list (TeX: The Program, part 47, §1110).
abbrev pub with_unboxed : State → Transfer → (register : ℕ) → Option BoxNode → State
with_unboxed m taking r None = m
with_unboxed m taking r (Some b) =
    record m { nest = with_nodes m.nest (nodes_of b.list) (innermost m.nest); registers = with_taken taking m.registers r }

-- The registers after a box was split into these parts. The rest goes back into its register first, and then the front into the other one: so a
-- register that is both has the front (TeX: The Program, part 44, §977 to §979).
abbrev pub with_parts : List (Option BoxNode) → Splitting → (front : packs.PackedBox) → (rest : Option packs.PackedBox) → List (Option BoxNode)
with_parts registers splitting front rest =
    slice_set (slice_set registers splitting.register (option_map (λ (p : packs.PackedBox). p.box_node) rest)) splitting.into (Some front.box_node)

-- The registers after the box of one was split. Where that register is void, the one for the front becomes void.
abbrev pub with_split : SplitParams → List (Option BoxNode) → Splitting → Option BoxNode → List (Option BoxNode)
with_split params registers splitting None = slice_set registers splitting.into None
with_split params registers splitting (Some b) =
    with_parts registers splitting (front_of params splitting.height (nodes_of b.list)) (rest_of params splitting.height (nodes_of b.list))

-- The state after an accepted command.
abbrev pub state_after_command : State → Command → State
state_after_command m (LoadFont load) = record m { fonts = with_font m.fonts load.slot load.name (font_for m load) }
state_after_command m (UseFont slot) = record m { current = Some slot }
state_after_command m (Text text) = with_items m (text_shaped m.fonts m.current text).items
state_after_command m (Character code) = with_items m (character_shaped m.fonts m.current code).items
state_after_command m (Open opening) = record m { nest = m.nest ++ opened_list (purposes.Box opening) ∷ [] }
state_after_command m Paragraph = record m { nest = m.nest ++ opened_list purposes.Paragraph ∷ [] }
state_after_command m End = with_ended m (innermost m.nest)
state_after_command m (Rule rule) = record m { nest = with_rule m.nest rule (innermost m.nest) }
state_after_command m (Kern width) = with_items m (nodes.Kern width ∷ [])
state_after_command m (Glue glue) = with_items m (nodes.Glue glue ∷ [])
state_after_command m (Penalty n) = with_items m (nodes.Penalty n ∷ [])
state_after_command m (Append taken) = with_used m taken.taking taken.register taken.shift (held_in m.registers taken.register)
state_after_command m (Unbox taken) = with_unboxed m taken.taking taken.register (held_in m.registers taken.register)
state_after_command m (LastBox r) =
    record m {
      nest = without_last m.nest (innermost m.nest);
      registers = slice_set m.registers r (last_box (nodes_of (items_in (innermost m.nest))));
    }
state_after_command m (Split splitting) =
    record m { registers = with_split m.params.split m.registers splitting (held_in m.registers splitting.register) }
state_after_command m (Measure r) = m
state_after_command m (Void r) = record m { registers = slice_set m.registers r None }
state_after_command m (Set parameter) = record m { params = with_parameter m.params parameter }
state_after_command m (Count counting) = record m { counts = slice_set m.counts counting.count counting.value }
state_after_command m (Special text) = with_items m (nodes.Special text ∷ [])
state_after_command m (Ship r) =
    record m {
      registers = slice_set m.registers r None;
      shipped = shipped_with m.shipped (held_in m.registers r);
      pages = m.pages + 1;
    }

-- The pages that an accepted command adds.
abbrev pub new_pages : State → Command → List ShippedPage
new_pages m (Ship r) = shipped_pages m (held_in m.registers r)
new_pages m command = []
