-- The end of a paragraph: how it is set after the list around it, what `end` answers, and why it is refused (own; after TeX: The Program, part 39,
-- §877 to §890, and part 47, §1096).
use Rattle.std.specs.Prelude.{◌+◌, ◌++◌, ◌∷◌, [], ℕ, ℤ, Bool, true, nat_lt, List, length, Option, Some, None, is_none, Result, Ok, Err}
use Rattle.node_core.specs.declared.params.Params.{Params}
use Rattle.node_core.specs.Items.{Items, items_depth}
use Rattle.node_core.specs.Nodes.{items_of, nodes_of}
use Rattle.break_core.specs.declared.broken.Pass.{Pass}
use Rattle.break_core.specs.declared.broken.Pass.TheVariants.{First, Second, Third}
use Rattle.break_lines.specs.declared.fault.BreakFault.{BreakFault}
use Rattle.break_lines.specs.declared.fault.BreakFault.TheVariants as breaking
use Rattle.vert_core.specs.Interline.{ignored_depth}
use Rattle.vert_core.specs.declared.paragraph.ParagraphFault.{ParagraphFault}
use Rattle.vert_core.specs.declared.paragraph.ParagraphFault.TheVariants as faults
use Rattle.vert_core.specs.Paragraphs.{SetParagraph, break_fault}
use Rattle.vert_core.specs.Setting.{setting}
use Rattle.job_machine.specs.declared.replies.Answer.{Answer}
use Rattle.job_machine.specs.declared.replies.Answer.TheVariants as answers
use Rattle.job_machine.specs.declared.replies.Refusal.{Refusal}
use Rattle.job_machine.specs.declared.replies.Refusal.TheVariants.{NoOpenList, InfiniteShrink, TooManyBreaks, DimensionTooLarge, TooDeep, ListTooLong}
use Rattle.node_core.specs.declared.limits.TheConstants.{MAX_ITEMS, MAX_DEPTH}
use Rattle.job_machine.specs.declared.OpenList.{OpenList}
use Rattle.job_machine.specs.State.{innermost, with_innermost, items_in}

-- The previous depth of an open list; where no list is open, the one that counts as none.
abbrev pub depth_in : Option OpenList → ℤ
depth_in None = ignored_depth
depth_in (Some open_list) = open_list.previous_depth

-- How a paragraph of these items is set after the innermost of the lists around it, whose previous depth decides the glue before the first line.
abbrev pub set_after : Params → (around : List OpenList) → Items → Result SetParagraph ParagraphFault
set_after params around items = setting (nodes_of items) params (depth_in (innermost around))

-- The number of the pass that found the breaks: 0 for an empty paragraph, which has none.
abbrev pub pass_number : Option Pass → ℕ
pass_number None = 0
pass_number (Some First) = 1
pass_number (Some Second) = 2
pass_number (Some Third) = 3

-- The answer to the end of a paragraph. One that is not set is refused, and this answer is not given.
abbrev pub paragraph_answer : Result SetParagraph ParagraphFault → Answer
paragraph_answer (Ok set) = answers.Paragraph set.lines (pass_number set.pass) set.overhang set.demerits
paragraph_answer (Err fault) = answers.Done

-- The refusal of a paragraph that is not set. Refused memory is no refusal here: `Steps` allows it apart from the table.
abbrev pub paragraph_refusal : ParagraphFault → Option Refusal
paragraph_refusal faults.InfiniteShrink = Some InfiniteShrink
paragraph_refusal faults.TooManyBreaks = Some TooManyBreaks
paragraph_refusal faults.DimensionTooLarge = Some DimensionTooLarge
paragraph_refusal faults.OutOfMemory = None

-- The checks of a refusal that is already found.
abbrev pub refused_by : Option Refusal → List (Bool × Refusal)
refused_by None = []
refused_by (Some refusal) = (true, refusal) ∷ []

-- The refusals of the lines of a paragraph for a list that has this number of items: a line nests too deep, or the list would be too long.
abbrev pub lines_checks : (count : ℕ) → Items → List (Bool × Refusal)
lines_checks count items = (nat_lt MAX_DEPTH (items_depth items), TooDeep) ∷ (nat_lt MAX_ITEMS (count + length (nodes_of items)), ListTooLong) ∷ []

-- The refusals of a paragraph for a list that has this number of items: why it is not set, else those of its lines.
abbrev pub set_checks : (count : ℕ) → Result SetParagraph ParagraphFault → List (Bool × Refusal)
set_checks count (Ok set) = lines_checks count set.items
set_checks count (Err fault) = refused_by (paragraph_refusal fault)

-- The refusals of the end of a paragraph of these items with these lists around.
abbrev pub paragraph_checks : Params → (around : List OpenList) → Items → List (Bool × Refusal)
paragraph_checks params around items =
    (is_none (innermost around), NoOpenList) ∷ set_checks (length (nodes_of (items_in (innermost around)))) (set_after params around items)

-- The refusals of a paragraph that may not be broken: its glue shrinks in an infinite order, or else it has too many legal breakpoints.
abbrev pub unbroken_checks : Option BreakFault → List (Bool × Refusal)
unbroken_checks None = []
unbroken_checks (Some breaking.InfiniteShrink) = (true, InfiniteShrink) ∷ []
unbroken_checks (Some breaking.TooManyBreaks) = (true, TooManyBreaks) ∷ []
unbroken_checks (Some breaking.OutOfMemory) = []

-- The refusals of the end of a paragraph that are found before memory is taken: no list is around it, or it may not be broken.
abbrev pub early_paragraph_checks : Params → (around : List OpenList) → Items → List (Bool × Refusal)
early_paragraph_checks params around items =
    (is_none (innermost around), NoOpenList) ∷ unbroken_checks (break_fault (nodes_of items) params.par_fill_skip)

-- The lists around a paragraph, with its lines at the end of the innermost one, whose previous depth is then that of the last line.
abbrev pub with_lines : (around : List OpenList) → Option OpenList → Result SetParagraph ParagraphFault → List OpenList
with_lines around None result = around
with_lines around (Some open_list) (Err fault) = around
with_lines around (Some open_list) (Ok set) =
    with_innermost around (record open_list { list = items_of (nodes_of open_list.list ++ nodes_of set.items); previous_depth = set.depth })

-- The lists around a paragraph of these items after its end.
abbrev pub with_paragraph : Params → (around : List OpenList) → Items → List OpenList
with_paragraph params around items = with_lines around (innermost around) (set_after params around items)
