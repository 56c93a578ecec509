-- What holds after every run of the machine: the font files do not change, and the state counts the pages.
use Rattle.std.proofs.Common.{◌≡◌, ℕ, ◌+◌, Bool, true, false, List, [], ◌∷◌, ◌++◌, length, length-append, Option, Some, None, refl, ap, sym, ◌∙◌, subst, arith}
use Rattle.std.specs.Prelude.{is_none}
use Rattle.node_core.specs.declared.tree.BoxNode.{BoxNode}
use Rattle.tfm_core.specs.NamedBytes.{NamedBytes}
use Rattle.page_core.specs.Marks.{ShippedPage}
use Rattle.job_machine.specs.declared.command.Command.{Command}
use Rattle.job_machine.specs.declared.command.Command.TheVariants.{LoadFont, UseFont, Open, Paragraph, End, Text, Character, Rule, Kern, Glue, Penalty, Append, Unbox, LastBox, Split, Measure, Void, Set, Count, Special, Ship}
use Rattle.job_machine.specs.declared.replies.Refusal.{Refusal}
use Rattle.job_machine.specs.declared.replies.Refusal.TheVariants.{JobOver, VoidBox}
use Rattle.job_machine.specs.Reply.{Reply}
use Rattle.job_machine.specs.State.{State, held_in}
use Rattle.job_machine.specs.NextPages.{shipped_pages}
use Rattle.job_machine.specs.Checks.{checks, first_refusal, page_checks}
use Rattle.job_machine.specs.Effects.{state_after_command, new_pages}
use Rattle.job_machine.specs.Machine.{Machine, state_by}
use Rattle.job_machine.specs.Runs.{StepsTo, Replies, LacksMemory, LosesDevice, Run}
use Rattle.job_machine.proofs.KeptRest.{job_kept}
use Rattle.job_machine.proofs.Numbers.{pages_stay}

-- Where a ship is accepted, its register holds a box.
second_fails : (a b : Bool) (p q : Refusal) (rest : List (Bool × Refusal)) → first_refusal ((a, p) ∷ (b, q) ∷ rest) ≡ None → b ≡ false
second_fails true b p q rest none = cc
second_fails false true p q rest none = cc
second_fails false false p q rest none = refl

pub box_is_held : (s : State) (r : ℕ) → first_refusal (checks s (Ship r)) ≡ None → is_none (held_in s.registers r) ≡ false
box_is_held s r none =
    second_fails s.over (is_none (held_in s.registers r)) JobOver VoidBox
    (page_checks s (held_in s.registers r)) none

-- A command counts the pages that it adds.
after-pages : (s : State) (command : Command) → first_refusal (checks s command) ≡ None → (state_after_command s command).pages ≡ s.pages + length (new_pages s command)
after-pages s (Ship r) none = cases (held_in s.registers r) (box_is_held s r none)
  where
    cases : (held : Option BoxNode) → is_none held ≡ false → s.pages + 1 ≡ s.pages + length (shipped_pages s held)
    cases None isnt = cc
    cases (Some b) isnt = refl
after-pages s (LoadFont load) none = omega arith
after-pages s (UseFont slot) none = omega arith
after-pages s (Open opening) none = omega arith
after-pages s Paragraph none = omega arith
after-pages s End none = omega (arith, pages_stay s End (λ ships. ships))
after-pages s (Text text) none = omega arith
after-pages s (Character code) none = omega arith
after-pages s (Rule rule) none = omega arith
after-pages s (Kern width) none = omega arith
after-pages s (Glue glue) none = omega arith
after-pages s (Penalty n) none = omega arith
after-pages s (Append taken) none = omega (arith, pages_stay s (Append taken) (λ ships. ships))
after-pages s (Unbox taken) none = omega (arith, pages_stay s (Unbox taken) (λ ships. ships))
after-pages s (LastBox r) none = omega arith
after-pages s (Split splitting) none = omega arith
after-pages s (Measure r) none = omega arith
after-pages s (Void r) none = omega arith
after-pages s (Set parameter) none = omega arith
after-pages s (Count counting) none = omega arith
after-pages s (Special text) none = omega arith

-- After a step there are as many pages as the state counts.
pub counted :
    (s : State) (command : Command) (pages : List ShippedPage) (refused : Option Refusal) → first_refusal (checks s command) ≡ refused → s.pages ≡ length pages
    → (state_by refused s (state_after_command s command)).pages ≡ length (state_by refused pages (pages ++ new_pages s command))
counted s command pages None is count = omega (arith, after-pages s command is, length-append pages (new_pages s command))
counted s command pages (Some refusal) is count = count

-- The state of a machine counts its pages.
abbrev pub AreCounted : Machine → Type 0
AreCounted m = m.state.pages ≡ length m.pages

files_of : Machine → List NamedBytes
files_of m = m.state.files

one_keeps : (m : Machine) (n : ℕ) (command : Command) (reply : Reply) (next : Machine) (k : ℕ) → StepsTo m n command reply next k → files_of next ≡ files_of m
unfolding files_of
one_keeps m n command reply next k (Replies says goes counts) = ap files_of goes ∙ (job_kept m.state command).files
one_keeps m n command reply next k (LacksMemory says takes may goes counts) = ap files_of goes
one_keeps m n command reply next k (LosesDevice says ships may goes counts) = ap files_of goes

-- A run does not change the font files.
pub files_kept : (m : Machine) (n : ℕ) (commands : List Command) (replies : List Reply) (next : Machine) (k : ℕ) → Run m n commands replies next k → next.state.files ≡ m.state.files
unfolding files_of
files_kept m n [] [] next k run = ap files_of run.0
files_kept m n [] (reply ∷ replies) next k run = absurd run
files_kept m n (command ∷ commands) [] next k run = absurd run
files_kept m n (command ∷ commands) (reply ∷ replies) next k run =
    files_kept run.0 run.1 commands replies next k run.3 ∙ one_keeps m n command reply run.0 run.1 run.2

one_counts :
    (m : Machine) (n : ℕ) (command : Command) (reply : Reply) (next : Machine) (k : ℕ) → StepsTo m n command reply next k → AreCounted m → AreCounted next
one_counts m n command reply next k (Replies says goes counts) count =
    subst AreCounted (sym goes) (counted m.state command m.pages (first_refusal (checks m.state command)) refl count)
one_counts m n command reply next k (LacksMemory says takes may goes counts) count = subst AreCounted (sym goes) count
one_counts m n command reply next k (LosesDevice says ships may goes counts) count = subst AreCounted (sym goes) count

-- After a run there are as many pages as the state counts.
pub pages_counted :
    (m : Machine) (n : ℕ) (commands : List Command) (replies : List Reply) (next : Machine) (k : ℕ) → Run m n commands replies next k → AreCounted m → AreCounted next
pages_counted m n [] [] next k run count = subst AreCounted (sym run.0) count
pages_counted m n [] (reply ∷ replies) next k run count = absurd run
pages_counted m n (command ∷ commands) [] next k run count = absurd run
pages_counted m n (command ∷ commands) (reply ∷ replies) next k run count =
    pages_counted run.0 run.1 commands replies next k run.3 (one_counts m n command reply run.0 run.1 run.2 count)
