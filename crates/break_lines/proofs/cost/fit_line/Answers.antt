use Rattle.std.proofs.Common.{arith}
use Rattle.std.proofs.lemmas.Int.{ints}
use Rattle.break_lines.proofs.Costs.{short_is, long_is}
use Rattle.break_lines.proofs.cost.fit_line.Goals as goal

pub returns-then-shortfall-gt0-clause-value : goal.returns-then-shortfall-gt0-clause-value
returns-then-shortfall-gt0-clause-value c =
    short_is c.args.sums.now c.args.size _ c.fit_short.result c.fit_short.ensures.value (omega (arith, ints)) (omega (arith, ints))

pub returns-clause-value : goal.returns-clause-value
returns-clause-value c =
    long_is c.args.sums.now c.args.size _ c.fit_long.result c.fit_long.ensures.value (omega (arith, ints)) (omega (arith, ints))
