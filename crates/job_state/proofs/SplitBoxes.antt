-- A split changes the registers, and all else stays.
use Rattle.std.proofs.Common.{◌≡◌, ◌∙◌, sym, false, List, Option, Some, None, Result, Ok, Err, refl, ap}
use Rattle.std.specs.Prelude.{IfOk, OnOk, OnErr}
use Rattle.node_core.specs.declared.tree.BoxNode.{BoxNode}
use Rattle.job_machine.specs.declared.command.Command.TheVariants.{Split}
use Rattle.job_machine.specs.declared.replies.Refusal.{Refusal}
use Rattle.job_machine.specs.declared.command.Splitting.{Splitting}
use Rattle.job_machine.specs.Reply.{Reply}
use Rattle.job_machine.specs.State.{State, held_in}
use Rattle.job_machine.specs.Checks.{checks, split_checks, first_refusal}
use Rattle.job_machine.specs.Answers.{split_answer}
use Rattle.job_machine.specs.Effects.{with_split}
use Rattle.job_machine.specs.Machine.{reply_by, reply_to, state_by, state_after}

-- Why the box of a register is not split; then the answer and the registers of a split.
abbrev pub refused : State → Splitting → Option Refusal
refused s splitting = first_refusal (split_checks s.params.split splitting.height (held_in s.registers splitting.register))

abbrev pub reply_in : State → Splitting → Reply
reply_in s splitting = reply_by (refused s splitting) (split_answer s.params.split splitting.height (held_in s.registers splitting.register))

abbrev pub registers_in : State → Splitting → List (Option BoxNode)
registers_in s splitting = state_by (refused s splitting) s.registers (with_split s.params.split s.registers splitting (held_in s.registers splitting.register))

-- A job that is not over has no other refusal of a split.
refused_so : (s : State) (splitting : Splitting) → s.over ≡ false → refused s splitting ≡ first_refusal (checks s (Split splitting))
refused_so s splitting running = rw running refl

reply_so : (s : State) (splitting : Splitting) → s.over ≡ false → reply_in s splitting ≡ reply_to s (Split splitting)
reply_so s splitting running = ap (λ o. reply_by o (split_answer s.params.split splitting.height (held_in s.registers splitting.register))) (refused_so s splitting running)

by_refusal : (s : State) (o : Option Refusal) (registers : List (Option BoxNode))
    → record s { registers = state_by o s.registers registers } ≡ state_by o s (record s { registers = registers })
by_refusal s None registers = refl
by_refusal s (Some refusal) registers = refl

state_so : (s : State) (splitting : Splitting) → s.over ≡ false → record s { registers = registers_in s splitting } ≡ state_after s (Split splitting)
state_so s splitting running =
    let new = with_split s.params.split s.registers splitting (held_in s.registers splitting.register) in
    by_refusal s (refused s splitting) new ∙ ap (λ o. state_by o s (record s { registers = new })) (refused_so s splitting running)

-- The reply and the registers of a split are those of the command.
module _ {E : Type 0} (t s : State) (splitting : Splitting) (same : t ≡ s) (running : s.over ≡ false) where
  pub split_reply : (result : Result Reply E) → IfOk result (λ reply. reply ≡ reply_in t splitting) → IfOk result (λ reply. reply ≡ reply_to s (Split splitting))
  split_reply (Ok reply) is = is ∙ ap (λ (x : State). reply_in x splitting) same ∙ reply_so s splitting running
  split_reply (Err e) is = is

  pub split_state : (result : Result Reply E) (now : List (Option BoxNode)) → OnOk result (now ≡ registers_in t splitting)
      → OnOk result (record t { registers = now } ≡ state_after s (Split splitting))
  split_state (Ok reply) now is =
      ap (λ (xs : List (Option BoxNode)). record t { registers = xs }) is ∙ ap (λ (x : State). record x { registers = registers_in x splitting }) same ∙ state_so s splitting running
  split_state (Err e) now is = is

  pub split_admitted : (result : Result Reply E) → OnErr result (refused t splitting ≡ None) → OnErr result (first_refusal (checks s (Split splitting)) ≡ None)
  split_admitted (Ok reply) is = is
  split_admitted (Err e) is = sym (refused_so s splitting running) ∙ (sym (ap (λ (x : State). refused x splitting) same) ∙ is)
