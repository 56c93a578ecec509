-- What an accepted command answers: one row for each command (own).
use Rattle.std.specs.Prelude.{◌+◌, ℕ, ℤ, pos, List, length, Option, Some, None}
use Rattle.node_core.specs.declared.tree.BoxNode.{BoxNode}
use Rattle.std.specs.Option.{option_map}
use Rattle.node_core.specs.declared.params.Params.{Params}
use Rattle.node_core.specs.declared.params.SplitParams.{SplitParams}
use Rattle.node_core.specs.Nodes.{nodes_of}
use Rattle.job_machine.specs.declared.OpenList.{OpenList}
use Rattle.job_machine.specs.declared.ListPurpose.{ListPurpose}
use Rattle.job_machine.specs.declared.ListPurpose.TheVariants as purposes
use Rattle.scaled_core.specs.declared.sizes.Sizes.{Sizes}
use Rattle.job_machine.specs.declared.command.Command.{Command}
use Rattle.job_machine.specs.declared.command.Command.TheVariants.{LoadFont, UseFont, Open, Paragraph, End, Text, Character, Rule, Kern, Glue}
use Rattle.job_machine.specs.declared.command.Command.TheVariants.{Penalty, Append, Unbox, LastBox, Split, Measure, Void, Set, Count, Special, Ship}
use Rattle.job_machine.specs.declared.replies.Answer.{Answer}
use Rattle.job_machine.specs.declared.replies.Answer.TheVariants as answers
use Rattle.job_machine.specs.declared.replies.Answer.TheVariants.{Done, Packed, Measured, MeasuredVoid, Shaped, Added, SplitVoid, Shipped}
use Rattle.pack_core.specs.declared.pack.PackedBox as packs
use Rattle.vert_core.specs.Split.{front_of, rest_of}
use Rattle.job_machine.specs.FontSlots.{CharacterItems, text_shaped, character_shaped}
use Rattle.job_machine.specs.State.{State, innermost, outer, held_in, nodes_in}
use Rattle.job_machine.specs.OpenLists.{box_items, packed_list}
use Rattle.job_machine.specs.Paragraphs.{set_after, paragraph_answer}

-- The sizes of a box, as answers report them.
abbrev pub sizes_of : BoxNode → Sizes
sizes_of b = record { width = b.width; height = b.height; depth = b.depth }

-- The answer to the end of a list that becomes a box. Where a size does not fit there is no box: the end is refused, and this answer is not given.
abbrev pub packed_answer : Option packs.PackedBox → Answer
packed_answer None = Done
packed_answer (Some packed) = Packed (sizes_of packed.box_node) packed.badness

-- The answer to the end of an open list, by what it was opened for and with these lists around.
abbrev pub purpose_answer : Params → (around : List OpenList) → OpenList → ListPurpose → Answer
purpose_answer params around open_list (purposes.Box opening) = packed_answer (packed_list params (Some open_list))
purpose_answer params around open_list purposes.Paragraph = paragraph_answer (set_after params around open_list.list)

-- The answer to the end of an open list with these lists around. Where no list is open the end is refused, and this answer is not given.
abbrev pub end_answer : Params → (around : List OpenList) → Option OpenList → Answer
end_answer params around None = Done
end_answer params around (Some open_list) = purpose_answer params around open_list open_list.purpose

-- The answer to `measure`: the kind and the sizes of the box in the register.
abbrev pub measured_answer : Option BoxNode → Answer
measured_answer None = MeasuredVoid
measured_answer (Some b) = Measured b.kind (sizes_of b)

-- The answer to a split into these parts: the sizes of both, and the badness of the front.
abbrev pub parts_answer : (front : packs.PackedBox) → (rest : Option packs.PackedBox) → Answer
parts_answer front rest = answers.Split (sizes_of front.box_node) front.badness (option_map (λ (p : packs.PackedBox). sizes_of p.box_node) rest)

-- The answer to a split of the box of a register.
abbrev pub split_answer : SplitParams → (height : ℤ) → Option BoxNode → Answer
split_answer params height None = SplitVoid
split_answer params height (Some b) = parts_answer (front_of params height (nodes_of b.list)) (rest_of params height (nodes_of b.list))

-- The answer to characters that become these items.
abbrev pub shaped_answer : CharacterItems → Answer
shaped_answer shaped = Shaped (length shaped.items) shaped.missing

-- How many items the box of a register adds to the innermost list.
abbrev pub box_count_in : Params → Option OpenList → Option BoxNode → ℕ
box_count_in params None held = 0
box_count_in params (Some open_list) None = 0
box_count_in params (Some open_list) (Some b) = length (box_items params open_list (pos 0) b)

-- The answer to an accepted command.
abbrev pub answer_of : State → Command → Answer
answer_of m (LoadFont load) = Done
answer_of m (UseFont slot) = Done
answer_of m (Text text) = shaped_answer (text_shaped m.fonts m.current text)
answer_of m (Character code) = shaped_answer (character_shaped m.fonts m.current code)
answer_of m (Open opening) = Done
answer_of m Paragraph = Done
answer_of m End = end_answer m.params (outer m.nest) (innermost m.nest)
answer_of m (Rule rule) = Done
answer_of m (Kern width) = Done
answer_of m (Glue glue) = Done
answer_of m (Penalty n) = Done
answer_of m (Append taken) = Added (box_count_in m.params (innermost m.nest) (held_in m.registers taken.register))
answer_of m (Unbox taken) = Added (length (nodes_in (held_in m.registers taken.register)))
answer_of m (LastBox r) = Done
answer_of m (Split splitting) = split_answer m.params.split splitting.height (held_in m.registers splitting.register)
answer_of m (Measure r) = measured_answer (held_in m.registers r)
answer_of m (Void r) = Done
answer_of m (Set parameter) = Done
answer_of m (Count counting) = Done
answer_of m (Special text) = Done
answer_of m (Ship r) = Shipped (m.pages + 1)
