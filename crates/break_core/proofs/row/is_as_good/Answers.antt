use Rattle.std.proofs.Common.{arith}
use Rattle.std.proofs.lemmas.Int.{ints}
use Rattle.break_core.proofs.Offers.{good_tie}
use Rattle.break_core.proofs.row.is_as_good.Goals as goal

pub returns-clause-yes : goal.returns-clause-yes
returns-clause-yes c = λ yes.
    good_tie c.args.table.now c.args.first c.args.second (omega (arith, ints)) (omega (arith, ints)) (c.wins_tie.ensures.yes yes)

pub returns-clause-no : goal.returns-clause-no
returns-clause-no c = λ no.
    good_tie c.args.table.now c.args.second c.args.first (omega (arith, ints)) (omega (arith, ints))
    (λ e f at_e at_f. c.wins_tie.ensures.no no f e at_f at_e)
