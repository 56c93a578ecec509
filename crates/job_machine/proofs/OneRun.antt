-- The replies to commands, and the result of an end, leave one machine.
use Rattle.std.proofs.Common.{◌≡◌, ◌+◌, ℕ, List, [], ◌∷◌, Option, Some, None, Result, Ok, Err, sym, ◌∙◌, subst, arith}
use Rattle.job_machine.specs.declared.command.Command.{Command}
use Rattle.job_machine.specs.declared.replies.Refusal.{Refusal}
use Rattle.job_machine.specs.declared.replies.Refusal.TheVariants.{OutOfMemory, Device}
use Rattle.page_core.specs.declared.summary.Summary.{Summary}
use Rattle.job_machine.specs.Reply.{Reply}
use Rattle.job_machine.specs.Machine.{Machine}
use Rattle.job_machine.specs.Runs.{StepsTo, Replies, LacksMemory, LosesDevice, Run, Finishes, Finished, Refuses, WantsMemory, LostDevice}
use Rattle.job_machine.proofs.Refusals.{counted_fault, unchanged}

-- A step by the table is no refused growth that changes the machine, and no failure of the device.
by_memory : (m next : Machine) (n k : ℕ) (command : Command) (reply : Reply) → reply ≡ Err OutOfMemory → StepsTo m n command reply next k → next ≡ m
by_memory m next n k command reply is goes = unchanged m next n k command OutOfMemory (λ e. cc) (subst (λ (r : Reply). StepsTo m n command r next k) is goes)

by_device : (m next : Machine) (n k : ℕ) (command : Command) (reply : Reply) → reply ≡ Err Device → k ≡ n → StepsTo m n command reply next k → ⊥
by_device m next n k command reply is same goes =
    let more : k ≡ n + 1 = counted_fault m next n k command (subst (λ (r : Reply). StepsTo m n command r next k) is goes) in
    omega (arith, same, more)

two_refusals : {A : Type 0} (r : Result A Refusal) → r ≡ Err OutOfMemory → r ≡ Err Device → ⊥
two_refusals r memory device = cc

one_step : (m a b : Machine) (n i j : ℕ) (command : Command) (reply : Reply) → StepsTo m n command reply a i → StepsTo m n command reply b j → (a ≡ b) × (i ≡ j)
one_step m a b n i j command reply (Replies s g c) (Replies t h d) = (g ∙ sym h, c ∙ sym d)
one_step m a b n i j command reply (Replies s g c) (LacksMemory t takes may h d) = (by_memory m a n i command reply t (Replies s g c) ∙ sym h, c ∙ sym d)
one_step m a b n i j command reply (Replies s g c) (LosesDevice t ships may h d) = absurd (by_device m a n i command reply t c (Replies s g c))
one_step m a b n i j command reply (LacksMemory s takes may g c) (Replies t h d) = (g ∙ sym (by_memory m b n j command reply s (Replies t h d)), c ∙ sym d)
one_step m a b n i j command reply (LacksMemory s takes may g c) (LacksMemory t takes' may' h d) = (g ∙ sym h, c ∙ sym d)
one_step m a b n i j command reply (LacksMemory s takes may g c) (LosesDevice t ships may' h d) = absurd (two_refusals reply s t)
one_step m a b n i j command reply (LosesDevice s ships may g c) (Replies t h d) = absurd (by_device m b n j command reply s d (Replies t h d))
one_step m a b n i j command reply (LosesDevice s ships may g c) (LacksMemory t takes may' h d) = absurd (two_refusals reply t s)
one_step m a b n i j command reply (LosesDevice s ships may g c) (LosesDevice t ships' may' h d) = (g ∙ sym h, c ∙ sym d)

pub runs_agree : (m a b : Machine) (n i j : ℕ) (commands : List Command) (replies : List Reply) → Run m n commands replies a i → Run m n commands replies b j → (a ≡ b) × (i ≡ j)
runs_agree m a b n i j [] [] r q = (r.0 ∙ sym q.0, r.1 ∙ sym q.1)
runs_agree m a b n i j [] (reply ∷ replies) r q = absurd r
runs_agree m a b n i j (command ∷ commands) [] r q = absurd r
runs_agree m a b n i j (command ∷ commands) (reply ∷ replies) r q =
    let same = one_step m r.0 q.0 n r.1 q.1 command reply r.2 q.2 in
    let counted : Run r.0 q.1 commands replies a i = subst (λ (l : ℕ). Run r.0 l commands replies a i) same.1 r.3 in
    runs_agree q.0 a b q.1 i j commands replies (subst (λ (x : Machine). Run x q.1 commands replies a i) same.0 counted) q.3

some_none : {A : Type 0} (o : Option A) (x : A) → o ≡ Some x → o ≡ None → ⊥
some_none o x some none = cc

ok_err : (r : Result Summary Refusal) (summary : Summary) (refusal : Refusal) → r ≡ Ok summary → r ≡ Err refusal → ⊥
ok_err r summary refusal ok err = cc

pub ends_agree : (m a b : Machine) (n i j : ℕ) (end : Result Summary Refusal) → Finishes m n end a i → Finishes m n end b j → (a ≡ b) × (i ≡ j)
ends_agree m a b n i j end (Finished x s may p g c) (Finished y t may' q h d) = (g ∙ sym h, c ∙ sym d)
ends_agree m a b n i j end (Finished x s may p g c) (Refuses r t is h d) = absurd (ok_err end x r s t)
ends_agree m a b n i j end (Finished x s may p g c) (WantsMemory t may' some h d) = absurd (ok_err end x OutOfMemory s t)
ends_agree m a b n i j end (Finished x s may p g c) (LostDevice t may' some h d) = absurd (ok_err end x Device s t)
ends_agree m a b n i j end (Refuses r s is g c) (Finished y t may' q h d) = absurd (ok_err end y r t s)
ends_agree m a b n i j end (Refuses r s is g c) (Refuses r' t is' h d) = (g ∙ sym h, c ∙ sym d)
ends_agree m a b n i j end (Refuses r s is g c) (WantsMemory t may' some h d) = (g ∙ sym h, c ∙ sym d)
ends_agree m a b n i j end (Refuses r s is g c) (LostDevice t may' some h d) = absurd (some_none _ r is may')
ends_agree m a b n i j end (WantsMemory s may some g c) (Finished y t may' q h d) = absurd (ok_err end y OutOfMemory t s)
ends_agree m a b n i j end (WantsMemory s may some g c) (Refuses r t is h d) = (g ∙ sym h, c ∙ sym d)
ends_agree m a b n i j end (WantsMemory s may some g c) (WantsMemory t may' some' h d) = (g ∙ sym h, c ∙ sym d)
ends_agree m a b n i j end (WantsMemory s may some g c) (LostDevice t may' some' h d) = absurd (two_refusals end s t)
ends_agree m a b n i j end (LostDevice s may some g c) (Finished y t may' q h d) = absurd (ok_err end y Device t s)
ends_agree m a b n i j end (LostDevice s may some g c) (Refuses r t is h d) = absurd (some_none _ r is may)
ends_agree m a b n i j end (LostDevice s may some g c) (WantsMemory t may' some' h d) = absurd (two_refusals end t s)
ends_agree m a b n i j end (LostDevice s may some g c) (LostDevice t may' some' h d) = (g ∙ sym h, c ∙ sym d)
