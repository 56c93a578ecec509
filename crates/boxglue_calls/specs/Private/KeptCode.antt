-- How the logic stores what is kept of a job (own; the model of `KeptJob` alone).
use Rattle.std.specs.Prelude.{ℕ, List, refl}
use Rattle.std.specs.Coded.{Coded, code_by, coded×, coded_ℕ, coded_list}
use Rattle.job_core.specs.Jobs.{JobView}
use Rattle.job_core.specs.Private.JobViewCode.{coded_job_view}
use Rattle.boxglue_calls.specs.Jobs.{KeptState}

-- What is kept is stored as the job, and then its other fields.
abbrev pub coded_kept : Coded KeptState
coded_kept =
    code_by ((JobView × ℕ) × (List ℕ × ℕ)) (coded× (coded× coded_job_view coded_ℕ) (coded× (coded_list coded_ℕ) coded_ℕ))
    (λ k. ((k.job, k.lines), (k.answers, k.taken))) (λ p. record { job = p.0.0; lines = p.0.1; answers = p.1.0; taken = p.1.1 }) (λ _. refl)
