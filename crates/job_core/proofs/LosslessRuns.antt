-- Runs in which no device fails.
use Rattle.std.proofs.Common.{◌≡◌, ◌≢◌, ◌≤◌, ◌⊎◌, inl, inr, ℕ, Bool, true, false, List, [], ◌∷◌, length, Some, Result, Err, refl, ap, sym, ◌∙◌, subst, arith}
use Rattle.std.specs.Prelude.{◌==◌, not, IfErr}
use Rattle.std.specs.List.{AllByRecursion}
use Rattle.job_machine.specs.declared.command.Command.{Command}
use Rattle.job_machine.specs.declared.replies.Refusal.{Refusal}
use Rattle.job_machine.specs.declared.replies.Refusal.TheVariants.{OutOfMemory, Device, JobOver, ListsOpen}
use Rattle.page_core.specs.declared.summary.Summary.{Summary}
use Rattle.job_machine.specs.Reply.{Reply}
use Rattle.job_machine.specs.State.{State}
use Rattle.job_machine.specs.Checks.{first_refusal}
use Rattle.job_machine.specs.Machine.{Machine}
use Rattle.job_machine.specs.Runs.{StepsTo, Replies, LacksMemory, LosesDevice, Run, finish_checks, Finishes, Finished, Refuses, WantsMemory, LostDevice}
use Rattle.job_machine.proofs.KeptRest.{job_kept}
use Rattle.job_machine.proofs.Refusals.{counted_fault}

-- The count of failures only rises.
step_rises : (m : Machine) (n : ℕ) (command : Command) (reply : Reply) (next : Machine) (k : ℕ) → StepsTo m n command reply next k → n ≤ k
step_rises m n command reply next k (Replies says goes counts) = omega (arith, counts)
step_rises m n command reply next k (LacksMemory says takes may goes counts) = omega (arith, counts)
step_rises m n command reply next k (LosesDevice says ships may goes counts) = omega (arith, counts)

pub run_rises : (m : Machine) (n : ℕ) (commands : List Command) (replies : List Reply) (next : Machine) (k : ℕ) → Run m n commands replies next k → n ≤ k
run_rises m n [] [] next k run = omega (arith, run.1)
run_rises m n [] (reply ∷ replies) next k run = absurd run
run_rises m n (command ∷ commands) [] next k run = absurd run
run_rises m n (command ∷ commands) (reply ∷ replies) next k run =
    omega (arith, step_rises m n command reply run.0 run.1 run.2, run_rises run.0 run.1 commands replies next k run.3)

pub end_rises : (m : Machine) (n : ℕ) (end : Result Summary Refusal) (next : Machine) (k : ℕ) → Finishes m n end next k → n ≤ k
end_rises m n end next k (Finished summary says may pages goes counts) = omega (arith, counts)
end_rises m n end next k (Refuses refusal says may goes counts) = omega (arith, counts)
end_rises m n end next k (WantsMemory says may some goes counts) = omega (arith, counts)
end_rises m n end next k (LostDevice says may some goes counts) = omega (arith, counts)

-- A machine whose count of failures stays goes on.
step_runs : (m : Machine) (n : ℕ) (command : Command) (reply : Reply) (next : Machine) (k : ℕ) → StepsTo m n command reply next k → k ≡ n → m.state.over ≡ false → next.state.over ≡ false
step_runs m n command reply next k (Replies says goes counts) same running = ap (λ (x : Machine). x.state.over) goes ∙ ((job_kept m.state command).over ∙ running)
step_runs m n command reply next k (LacksMemory says takes may goes counts) same running = ap (λ (x : Machine). x.state.over) goes ∙ running
step_runs m n command reply next k (LosesDevice says ships may goes counts) same running = absurd (omega (arith, same, counts))

-- Its reply is not Device.
step_kept : (m : Machine) (n : ℕ) (command : Command) (reply : Reply) (next : Machine) (k : ℕ) → StepsTo m n command reply next k → k ≡ n → reply ≢ Err Device
step_kept m n command reply next k goes same is =
    omega (arith, same, counted_fault m next n k command (subst (λ (r : Reply). StepsTo m n command r next k) is goes))

-- If the count of failures stays in a run, no reply is Device, and the job is not over.
pub run_kept : (m : Machine) (n : ℕ) (commands : List Command) (replies : List Reply) (next : Machine) (k : ℕ) → Run m n commands replies next k → k ≤ n → m.state.over ≡ false
    → AllByRecursion (λ reply. reply ≢ Err Device) replies × (next.state.over ≡ false)
run_kept m n [] [] next k run stays running = (tt, ap (λ (x : Machine). x.state.over) run.0 ∙ running)
run_kept m n [] (reply ∷ replies) next k run stays running = absurd run
run_kept m n (command ∷ commands) [] next k run stays running = absurd run
run_kept m n (command ∷ commands) (reply ∷ replies) next k run stays running =
    let rises = step_rises m n command reply run.0 run.1 run.2 in
    let later = run_rises run.0 run.1 commands replies next k run.3 in
    let same : run.1 ≡ n = omega (arith, rises, later, stays) in
    let rest = run_kept run.0 run.1 commands replies next k run.3 (omega (arith, rises, stays)) (step_runs m n command reply run.0 run.1 run.2 same running) in
    ((step_kept m n command reply run.0 run.1 run.2 same, rest.0), rest.1)

-- The refusal of the end of a job that is not over.
open_end : (s : State) (refusal : Refusal) → s.over ≡ false → first_refusal (finish_checks s) ≡ Some refusal → refusal ≡ ListsOpen
open_end s refusal running is = by_tests (not (length s.nest == 0)) (sym (ap (λ (over : Bool). first_refusal ((over, JobOver) ∷ (not (length s.nest == 0), ListsOpen) ∷ [])) running) ∙ is)
  where
    by_tests : (nested : Bool) → first_refusal ((false, JobOver) ∷ (nested, ListsOpen) ∷ []) ≡ Some refusal → refusal ≡ ListsOpen
    by_tests true is = cc
    by_tests false is = cc

-- If the count of failures stays in the end of a job that is not over, it is refused only for memory or open lists.
pub end_kept : (m : Machine) (n : ℕ) (end : Result Summary Refusal) (next : Machine) (k : ℕ) → Finishes m n end next k → k ≤ n → m.state.over ≡ false
    → IfErr end (λ refusal. (refusal ≡ OutOfMemory) ⊎ (refusal ≡ ListsOpen))
end_kept m n end next k (Finished summary says may pages goes counts) stays running =
    subst (λ (r : Result Summary Refusal). IfErr r (λ refusal. (refusal ≡ OutOfMemory) ⊎ (refusal ≡ ListsOpen))) (sym says) tt
end_kept m n end next k (Refuses refusal says may goes counts) stays running =
    subst (λ (r : Result Summary Refusal). IfErr r (λ refusal. (refusal ≡ OutOfMemory) ⊎ (refusal ≡ ListsOpen))) (sym says) (inr (open_end m.state refusal running may))
end_kept m n end next k (WantsMemory says may some goes counts) stays running =
    subst (λ (r : Result Summary Refusal). IfErr r (λ refusal. (refusal ≡ OutOfMemory) ⊎ (refusal ≡ ListsOpen))) (sym says) (inl refl)
end_kept m n end next k (LostDevice says may some goes counts) stays running = absurd (omega (arith, stays, counts))
