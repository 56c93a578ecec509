-- How the logic stores the view of a job (own; the model of `Job` alone).
use Rattle.std.specs.Prelude.{ℕ, List, Option, refl}
use Rattle.std.specs.Coded.{Coded, code_by, coded×, coded_ℕ, coded_list, coded_option}
use Rattle.job_machine.specs.State.{State}
use Rattle.dvi_write.specs.SoFar.{ProgressView}
use Rattle.dvi_device.specs.Pasts.{Past}
use Rattle.dvi_write.specs.Private.WritingCode.{coded_so_far, coded_past}
use Rattle.job_state.specs.Private.StateCode.{coded_state}
use Rattle.job_core.specs.Jobs.{JobView}

-- How the view of a job is stored: its state, and what its writer keeps; the bytes that its device has reported, the number of its failures, its
-- past, and that at the start.
abbrev pub coded_job_view : Coded JobView
coded_job_view =
    code_by ((State × ProgressView) × ((Option (List ℕ) × ℕ) × (Past × Past)))
    (coded× (coded× coded_state coded_so_far) (coded× (coded× (coded_option (coded_list coded_ℕ)) coded_ℕ) (coded× coded_past coded_past)))
    (λ s. ((s.state, s.so_far), ((s.bytes_written, s.failed), (s.past, s.began))))
    (λ p. record { state = p.0.0; so_far = p.0.1; bytes_written = p.1.0.0; failed = p.1.0.1; past = p.1.1.0; began = p.1.1.1 }) (λ _. refl)
