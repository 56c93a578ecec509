use Rattle.std.proofs.Common.{MatchOption}
use Rattle.break_lines.specs.Private.Tables.{IsBestEnd, HasNoEnd}
use Rattle.break_lines.proofs.answer.best_end.Given as goal

abbrev pub invariant-loop-index : goal.invariant-loop-index
invariant-loop-index l = MatchOption l.best (HasNoEnd l.table l.place l.index) (IsBestEnd l.table l.place l.index)
