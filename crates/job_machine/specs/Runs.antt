-- Steps and runs of the machine, with what it does not choose: whether memory is refused, and whether the device fails (own).
use Rattle.std.specs.Prelude.{◌≡◌, ◌≢◌, ◌+◌, ◌==◌, [], ◌∷◌, ℕ, ℤ, Bool, true, not, List, length, Option, Some, None, is_none, is_some, IsSome, Result}
use Rattle.std.specs.Prelude.{Ok, Err}
use Rattle.job_machine.specs.declared.command.Command.{Command}
use Rattle.job_machine.specs.declared.command.Command.TheVariants.{LoadFont, UseFont, Open, Paragraph, End, Text, Character, Rule, Kern, Glue}
use Rattle.job_machine.specs.declared.command.Command.TheVariants.{Penalty, Append, Unbox, LastBox, Split, Measure, Void, Set, Count, Special, Ship}
use Rattle.job_machine.specs.declared.replies.Refusal.{Refusal}
use Rattle.job_machine.specs.declared.replies.Refusal.TheVariants.{OutOfMemory, NoFont, SlotTaken, NoOpenList, Device, ListsOpen, JobOver}
use Rattle.page_core.specs.declared.summary.Summary.{Summary}
use Rattle.job_machine.specs.Reply.{Reply}
use Rattle.tfm_core.specs.NamedBytes.{file_named}
use Rattle.tfm_core.specs.Slots.{font_in}
use Rattle.node_core.specs.declared.params.Params.{Params}
use Rattle.node_core.specs.declared.params.SplitParams.{SplitParams}
use Rattle.node_core.specs.declared.tree.BoxNode.{BoxNode}
use Rattle.node_core.specs.Nodes.{nodes_of}
use Rattle.vert_core.specs.Split.{rest_of}
use Rattle.job_machine.specs.declared.OpenList.{OpenList}
use Rattle.job_machine.specs.declared.ListPurpose.{ListPurpose}
use Rattle.job_machine.specs.declared.ListPurpose.TheVariants as purposes
use Rattle.job_machine.specs.State.{State, innermost, outer, held_in, nodes_in}
use Rattle.job_machine.specs.OpenLists.{GoesIntoList}
use Rattle.job_machine.specs.Checks.{checks, character_checks, purpose_checks, first_refusal}
use Rattle.job_machine.specs.Paragraphs.{early_paragraph_checks}
use Rattle.job_machine.specs.Machine.{Machine, reply_to, step, stopped_machine, lost_machine}

-- A split of the box of a register leaves a rest.
abbrev pub LeavesRest : SplitParams → (height : ℤ) → (held : Option BoxNode) → Type 0
LeavesRest params height None = ⊥
LeavesRest params height (Some b) = IsSome (rest_of params height (nodes_of b.list))

-- The commands for which memory may be refused. An empty text takes none, nor does the end of a list whose box goes into a register, the use of a
-- void register, unboxing without items, or a split that leaves no rest.
abbrev pub MayRunOutOfMemory : State → Command → Type 0
MayRunOutOfMemory m (LoadFont load) = Unit {0}
MayRunOutOfMemory m (UseFont slot) = ⊥
MayRunOutOfMemory m (Open opening) = Unit {0}
MayRunOutOfMemory m Paragraph = Unit {0}
MayRunOutOfMemory m End = GoesIntoList (innermost m.nest)
MayRunOutOfMemory m (Text text) = text ≢ []
MayRunOutOfMemory m (Character code) = Unit {0}
MayRunOutOfMemory m (Rule rule) = Unit {0}
MayRunOutOfMemory m (Kern width) = Unit {0}
MayRunOutOfMemory m (Glue glue) = Unit {0}
MayRunOutOfMemory m (Penalty n) = Unit {0}
MayRunOutOfMemory m (Append taken) = IsSome (held_in m.registers taken.register)
MayRunOutOfMemory m (Unbox taken) = nodes_in (held_in m.registers taken.register) ≢ []
MayRunOutOfMemory m (LastBox r) = ⊥
MayRunOutOfMemory m (Split splitting) = LeavesRest m.params.split splitting.height (held_in m.registers splitting.register)
MayRunOutOfMemory m (Measure r) = ⊥
MayRunOutOfMemory m (Void r) = ⊥
MayRunOutOfMemory m (Set parameter) = ⊥
MayRunOutOfMemory m (Count counting) = ⊥
MayRunOutOfMemory m (Special text) = Unit {0}
MayRunOutOfMemory m (Ship r) = Unit {0}

-- The refusals of the end of an open list that are found before memory is taken, by what it was opened for and with these lists around.
abbrev pub early_purpose_checks : Params → (around : List OpenList) → OpenList → ListPurpose → List (Bool × Refusal)
early_purpose_checks params around open_list (purposes.Box opening) = purpose_checks params around open_list (purposes.Box opening)
early_purpose_checks params around open_list purposes.Paragraph = early_paragraph_checks params around open_list.list

-- The refusals of the end of an open list with these lists around that are found before memory is taken.
abbrev pub early_end_checks : Params → (around : List OpenList) → Option OpenList → List (Bool × Refusal)
early_end_checks params around None = (true, NoOpenList) ∷ []
early_end_checks params around (Some open_list) = early_purpose_checks params around open_list open_list.purpose

-- The refusals that are found before memory is taken, in their order. Where one holds, the command never answers OutOfMemory. Only those are left out
-- that depend on the bytes of a font file or its size, on the number of items of a text, or on the lines of a paragraph.
abbrev pub early_checks : State → Command → List (Bool × Refusal)
early_checks m (LoadFont load) =
    (m.over, JobOver) ∷ (is_some (font_in m.fonts load.slot), SlotTaken) ∷ (is_none (file_named load.name m.files), NoFont) ∷ []
early_checks m (Text text) = (m.over, JobOver) ∷ character_checks m
early_checks m (Character code) = (m.over, JobOver) ∷ character_checks m
early_checks m End = (m.over, JobOver) ∷ early_end_checks m.params (outer m.nest) (innermost m.nest)
early_checks m command = checks m command

-- The command makes a page.
abbrev pub IsShip : Command → Type 0
IsShip (Ship r) = Unit {0}
IsShip command = ⊥

-- A machine takes a command, replies and becomes the next one, while the device's count of failures goes from n to k. It replies as the table says;
-- or memory was refused to a command that no early check refuses, and nothing changes; or the device failed once, in an accepted ship, and the job is
-- over, with the page of this command being sent.
pub data StepsTo (m : Machine) (n : ℕ) (command : Command) (reply : Reply) (next : Machine) (k : ℕ) : Type 0 where
  Replies : reply ≡ reply_to m.state command → next ≡ step m command → k ≡ n → StepsTo m n command reply next k
  LacksMemory : reply ≡ Err OutOfMemory → MayRunOutOfMemory m.state command → first_refusal (early_checks m.state command) ≡ None → next ≡ m → k ≡ n
      → StepsTo m n command reply next k
  LosesDevice : reply ≡ Err Device → IsShip command → first_refusal (checks m.state command) ≡ None → next ≡ lost_machine m command → k ≡ n + 1
      → StepsTo m n command reply next k

-- A machine takes these commands one after the other, with one reply for each.
abbrev pub Run : Machine → ℕ → List Command → List Reply → Machine → ℕ → Type 0
Run m n [] [] next k = (next ≡ m) × (k ≡ n)
Run m n [] (reply ∷ replies) next k = ⊥
Run m n (command ∷ commands) [] next k = ⊥
Run m n (command ∷ commands) (reply ∷ replies) next k =
    (middle : Machine) × (i : ℕ) × StepsTo m n command reply middle i × Run middle i commands replies next k

-- The refusals of finishing a job, in their order.
abbrev pub finish_checks : State → List (Bool × Refusal)
finish_checks m = (m.over, JobOver) ∷ (not (length m.nest == 0), ListsOpen) ∷ []

-- A job finishes: it counts its pages; or it is refused, and nothing changes; or memory was refused to a job with pages, and nothing changes; or the
-- device failed once in a job with pages, which is then over.
pub data Finishes (m : Machine) (n : ℕ) (result : Result Summary Refusal) (next : Machine) (k : ℕ) : Type 0 where
  Finished : (summary : Summary) → result ≡ Ok summary → first_refusal (finish_checks m.state) ≡ None → summary.pages ≡ length m.pages
      → next ≡ stopped_machine m → k ≡ n → Finishes m n result next k
  Refuses : (refusal : Refusal) → result ≡ Err refusal → first_refusal (finish_checks m.state) ≡ Some refusal → next ≡ m → k ≡ n
      → Finishes m n result next k
  WantsMemory : result ≡ Err OutOfMemory → first_refusal (finish_checks m.state) ≡ None → m.pages ≢ [] → next ≡ m → k ≡ n → Finishes m n result next k
  LostDevice : result ≡ Err Device → first_refusal (finish_checks m.state) ≡ None → m.pages ≢ [] → next ≡ stopped_machine m → k ≡ n + 1
      → Finishes m n result next k
