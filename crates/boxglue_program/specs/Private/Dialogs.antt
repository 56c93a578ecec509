-- What the functions below a session do (own).
use Rattle.std.specs.Prelude.{◌≡◌, ◌++◌, ℕ, Bool, List, Contains, Option, refl}
use Rattle.std.specs.Coded.{Coded, code_by, coded×, coded_ℕ, coded_bool, coded_list}
use Rattle.job_core.specs.Jobs.{JobView}
use Rattle.job_core.specs.Private.JobViewCode.{coded_job_view}
use Rattle.boxglue_script.specs.LineContents.{IsWhole}
use Rattle.boxglue_program.specs.Sessions.{DialogView, SessionView, IsSent, StopsIn}

-- A dialog by its parts.
abbrev pub dialog_of : JobView → ℕ → Bool → DialogView
dialog_of job lines accepted = record { job = job; lines = lines; accepted = accepted }

-- The answers that wait, and whether the client reads.
pub record OutboxView : Type 0 where
  pub waiting : List ℕ
  pub reads : Bool

-- An outbox by its parts.
abbrev pub outbox_of : List ℕ → Bool → OutboxView
outbox_of waiting reads = record { waiting = waiting; reads = reads }

-- A text was added to the answers that wait, and a beginning of all was sent.
pub record Sends (old new : OutboxView) (before after : Option (List ℕ)) (text : List ℕ) : Type 0 where
  pub sent : List ℕ
  pub split : old.waiting ++ text ≡ sent ++ new.waiting
  pub is_sent : IsSent old.reads new.reads before after sent

-- A session by its parts.
abbrev pub session_of : DialogView → Bool → List ℕ → ℕ → SessionView
session_of dialog reads partial_line left = record { dialog = dialog; reads = reads; partial_line = partial_line; left = left }

-- A piece was cut after its last line feed.
pub record IsCutAfterLines (piece whole rest : List ℕ) : Type 0 where
  pub split : piece ≡ whole ++ rest
  pub ends : IsWhole whole
  pub unended : Contains rest 10 → ⊥

-- Some whole lines of a text were run.
abbrev pub StopsAfterLines : (text : List ℕ) → (old : DialogView) → (answers : List ℕ) → (new : DialogView) → Type 0
StopsAfterLines text old answers new = (stops : StopsIn text old answers new) × IsWhole stops.whole

-- How the logic stores the view of a dialog.
abbrev pub coded_dialog : Coded DialogView
coded_dialog =
    code_by ((JobView × ℕ) × Bool) (coded× (coded× coded_job_view coded_ℕ) coded_bool) (λ d. ((d.job, d.lines), d.accepted))
    (λ p. dialog_of p.0.0 p.0.1 p.1) (λ _. refl)

-- How the logic stores the view of a session.
abbrev pub coded_session : Coded SessionView
coded_session =
    code_by (DialogView × ((Bool × List ℕ) × ℕ)) (coded× coded_dialog (coded× (coded× coded_bool (coded_list coded_ℕ)) coded_ℕ))
    (λ s. (s.dialog, ((s.reads, s.partial_line), s.left))) (λ p. session_of p.0 p.1.0.0 p.1.0.1 p.1.1) (λ _. refl)
