-- The lines so far have their numbers.
use Rattle.std.proofs.Common.{◌≡◌, ◌++◌, take, drop}
use Rattle.boxglue_calls.specs.Numbers.{numbered_lines}
use Rattle.boxglue_calls.proofs.jobs.numbering.number_on.Given as goal

abbrev pub invariant-loop-line : goal.invariant-loop-line
invariant-loop-line l = l.lines ≡ numbered_lines l.before (take l.line-index l.fn.lines) ++ drop l.line-index l.fn.lines
