-- The parts of a state on which the refusals of any characters depend (own).
use Rattle.std.specs.Prelude.{[], ℕ, List, Option}
use Rattle.tfm_core.specs.Slots.{Slots}
use Rattle.job_machine.specs.declared.OpenList.{OpenList}
use Rattle.job_machine.specs.State.{State, first_state}

-- A state with these open lists, these fonts and this current one; all else is as in a new job.
abbrev pub state_for_characters : List OpenList → Slots → (current : Option ℕ) → State
state_for_characters nest fonts current = record (first_state []) { nest = nest; fonts = fonts; current = current }
