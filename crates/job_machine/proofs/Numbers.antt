-- No command but `ship` reads or changes how many nodes, bytes of texts and pages were shipped.
use Rattle.std.proofs.Common.{◌≡◌, ℕ, List, [], Option, Some, None, refl, ap, ◌∙◌}
use Rattle.std.specs.Prelude.{ℤ}
use Rattle.node_core.specs.declared.tree.BoxNode.{BoxNode}
use Rattle.node_core.specs.Loads.{Load}
use Rattle.pack_core.specs.declared.pack.PackedBox as packs
use Rattle.job_machine.specs.declared.command.Transfer.{Transfer}
use Rattle.job_machine.specs.declared.replies.Refusal.{Refusal}
use Rattle.job_machine.specs.declared.command.Command.{Command}
use Rattle.job_machine.specs.declared.command.Command.TheVariants.{LoadFont, UseFont, Open, Paragraph, End, Text, Character, Rule, Kern, Glue, Penalty, Append, Unbox, LastBox, Split, Measure, Void, Set, Count, Special, Ship}
use Rattle.job_machine.specs.declared.OpenList.{OpenList}
use Rattle.job_machine.specs.declared.ListPurpose.{ListPurpose}
use Rattle.job_machine.specs.declared.ListPurpose.TheVariants as purposes
use Rattle.job_machine.specs.OpenLists.{packed_list}
use Rattle.job_machine.specs.State.{State, innermost, outer, held_in}
use Rattle.job_machine.specs.Checks.{checks, first_refusal}
use Rattle.job_machine.specs.Answers.{answer_of}
use Rattle.job_machine.specs.Effects.{with_home, with_closed, with_purpose, with_ended, with_used, with_unboxed, state_after_command, new_pages}
use Rattle.job_machine.specs.Machine.{reply_by, reply_to, state_by, state_after}
use Rattle.job_machine.specs.Runs.{IsShip, MayRunOutOfMemory, early_checks}

-- The state with these numbers of what was shipped and of pages.
abbrev pub numbered : State → (shipped : Load) → (pages : ℕ) → State
numbered s shipped pages = record s { shipped = shipped; pages = pages }

module _ (s : State) (n : Load) (p : ℕ) where
  home_numbered : (around : List OpenList) (into : Option ℕ) (b : BoxNode) → with_home (numbered s n p) around into b ≡ numbered (with_home s around into b) n p
  home_numbered around None b = refl
  home_numbered around (Some r) b = refl

  closed_numbered : (into : Option ℕ) (packed : Option packs.PackedBox)
      → with_closed (numbered s n p) into packed ≡ numbered (with_closed s into packed) n p
  closed_numbered into None = refl
  closed_numbered into (Some packed) = home_numbered (outer s.nest) into packed.box_node

  purpose_numbered : (l : OpenList) (purpose : ListPurpose) → with_purpose (numbered s n p) l purpose ≡ numbered (with_purpose s l purpose) n p
  purpose_numbered l (purposes.Box opening) = closed_numbered opening.into (packed_list s.params (Some l))
  purpose_numbered l purposes.Paragraph = refl

  ended_numbered : (l : Option OpenList) → with_ended (numbered s n p) l ≡ numbered (with_ended s l) n p
  ended_numbered None = refl
  ended_numbered (Some l) = purpose_numbered l l.purpose

  used_numbered : (taking : Transfer) (r : ℕ) (shift : ℤ) (held : Option BoxNode) → with_used (numbered s n p) taking r shift held ≡ numbered (with_used s taking r shift held) n p
  used_numbered taking r shift None = refl
  used_numbered taking r shift (Some b) = refl

  unboxed_numbered : (taking : Transfer) (r : ℕ) (held : Option BoxNode) → with_unboxed (numbered s n p) taking r held ≡ numbered (with_unboxed s taking r held) n p
  unboxed_numbered taking r None = refl
  unboxed_numbered taking r (Some b) = refl

-- The effect of a command is the same whatever was shipped, and it adds no page.
pub record IsApart (s : State) (n : Load) (p : ℕ) (command : Command) : Type 0 where
  pub checked : first_refusal (checks (numbered s n p) command) ≡ first_refusal (checks s command)
  pub early : first_refusal (early_checks (numbered s n p) command) ≡ first_refusal (early_checks s command)
  pub answer : answer_of (numbered s n p) command ≡ answer_of s command
  pub state : state_after_command (numbered s n p) command ≡ numbered (state_after_command s command) n p
  pub memory : MayRunOutOfMemory s command → MayRunOutOfMemory (numbered s n p) command
  pub none : new_pages s command ≡ []

pub apart : (s : State) (n : Load) (p : ℕ) (command : Command) → (IsShip command → ⊥) → IsApart s n p command
apart s n p (LoadFont load) other = record { checked = refl; early = refl; answer = refl; state = refl; memory = λ takes. takes; none = refl }
apart s n p (UseFont slot) other = record { checked = refl; early = refl; answer = refl; state = refl; memory = λ takes. takes; none = refl }
apart s n p (Open opening) other = record { checked = refl; early = refl; answer = refl; state = refl; memory = λ takes. takes; none = refl }
apart s n p Paragraph other = record { checked = refl; early = refl; answer = refl; state = refl; memory = λ takes. takes; none = refl }
apart s n p End other =
    record { checked = refl; early = refl; answer = refl; state = ended_numbered s n p (innermost s.nest); memory = λ takes. takes; none = refl }
apart s n p (Text text) other = record { checked = refl; early = refl; answer = refl; state = refl; memory = λ takes. takes; none = refl }
apart s n p (Character code) other = record { checked = refl; early = refl; answer = refl; state = refl; memory = λ takes. takes; none = refl }
apart s n p (Rule rule) other = record { checked = refl; early = refl; answer = refl; state = refl; memory = λ takes. takes; none = refl }
apart s n p (Kern width) other = record { checked = refl; early = refl; answer = refl; state = refl; memory = λ takes. takes; none = refl }
apart s n p (Glue glue) other = record { checked = refl; early = refl; answer = refl; state = refl; memory = λ takes. takes; none = refl }
apart s n p (Penalty number) other = record { checked = refl; early = refl; answer = refl; state = refl; memory = λ takes. takes; none = refl }
apart s n p (Append taken) other =
    record {
      checked = refl;
      early = refl;
      answer = refl;
      state = used_numbered s n p taken.taking taken.register taken.shift (held_in s.registers taken.register);
      memory = λ takes. takes;
      none = refl;
    }
apart s n p (Unbox taken) other =
    record {
      checked = refl;
      early = refl;
      answer = refl;
      state = unboxed_numbered s n p taken.taking taken.register (held_in s.registers taken.register);
      memory = λ takes. takes;
      none = refl;
    }
apart s n p (LastBox r) other = record { checked = refl; early = refl; answer = refl; state = refl; memory = λ takes. takes; none = refl }
apart s n p (Split splitting) other = record { checked = refl; early = refl; answer = refl; state = refl; memory = λ takes. takes; none = refl }
apart s n p (Measure r) other = record { checked = refl; early = refl; answer = refl; state = refl; memory = λ takes. takes; none = refl }
apart s n p (Void r) other = record { checked = refl; early = refl; answer = refl; state = refl; memory = λ takes. takes; none = refl }
apart s n p (Set parameter) other = record { checked = refl; early = refl; answer = refl; state = refl; memory = λ takes. takes; none = refl }
apart s n p (Count counting) other = record { checked = refl; early = refl; answer = refl; state = refl; memory = λ takes. takes; none = refl }
apart s n p (Special text) other = record { checked = refl; early = refl; answer = refl; state = refl; memory = λ takes. takes; none = refl }
apart s n p (Ship r) other = absurd (other tt)

-- The reply of such a command, and the state after it, are the same too.
module _ (s : State) (n : Load) (p : ℕ) (command : Command) (other : IsShip command → ⊥) where
  pub reply_apart : reply_to (numbered s n p) command ≡ reply_to s command
  reply_apart =
      let same = apart s n p command other in
      ap (λ refused. reply_by refused (answer_of (numbered s n p) command)) same.checked
      ∙ ap (reply_by (first_refusal (checks s command))) same.answer

  pub state_apart : state_after (numbered s n p) command ≡ numbered (state_after s command) n p
  state_apart =
      let same = apart s n p command other in
      ap (λ refused. state_by refused (numbered s n p) (state_after_command (numbered s n p) command)) same.checked
      ∙ (ap (state_by (first_refusal (checks s command)) (numbered s n p)) same.state ∙ by_refusal (first_refusal (checks s command)))
    where
      by_refusal : (refused : Option Refusal) → state_by refused (numbered s n p) (numbered (state_after_command s command) n p) ≡ numbered (state_by refused s (state_after_command s command)) n p
      by_refusal None = refl
      by_refusal (Some refusal) = refl

-- Such a command leaves the number of pages as it is.
pub pages_stay : (s : State) (command : Command) → (IsShip command → ⊥) → (state_after_command s command).pages ≡ s.pages
pages_stay s command other = ap (λ (t : State). t.pages) (apart s s.shipped s.pages command other).state
