use Rattle.std.proofs.Common.{◌≡◌, ◌≤◌, ◌<◌, ℕ}
use Rattle.std.specs.Prelude.{slice_get, Some}
use Rattle.break_lines.specs.Tables.{Entry}
use Rattle.break_core.specs.Private.Near.{HasMeeting}
use Rattle.break_core.proofs.neighbours.is_met.Given as goal

abbrev pub invariant-loop-index : goal.invariant-loop-index
invariant-loop-index l = record {
  low : l.later.start ≤ l.by;
  met : (k : ℕ) (e : Entry) → l.fn.earlier.start ≤ k → k < l.index → slice_get l.table k ≡ Some e → HasMeeting l.table l.later e;
}
