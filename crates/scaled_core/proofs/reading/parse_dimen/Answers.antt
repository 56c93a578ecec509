use Rattle.std.proofs.Common.{Ok, arith, sym}
use Rattle.std.proofs.lemmas.Grind.{common_steps}
use Rattle.scaled_core.specs.ParsedTexts.{dimension_value, read_dimension}
use Rattle.scaled_core.proofs.ReadingCases.{reads-ok, reads-fits, reads-too_large, reads-not_a_dimension}
use Rattle.scaled_core.proofs.reading.parse_dimen.Goals as goal

-- A short text.
pub returns-in-Some-clause-ok : goal.returns-in-Some-clause-ok
returns-in-Some-clause-ok c = reads-ok c.args.text.now (Ok c.in-Some.points) (sym c.in-Some.ensures)

pub returns-in-Some-clause-too_large : goal.returns-in-Some-clause-too_large
returns-in-Some-clause-too_large c = reads-too_large c.args.text.now (Ok c.in-Some.points) (sym c.in-Some.ensures)

pub returns-in-Some-clause-not_a_dimension : goal.returns-in-Some-clause-not_a_dimension
returns-in-Some-clause-not_a_dimension c = reads-not_a_dimension c.args.text.now (Ok c.in-Some.points) (sym c.in-Some.ensures)

-- Any other text. The parts give the value, and the other clauses follow from it.
pub returns-clause-value : goal.returns-clause-value
unfolding read_dimension dimension_value
returns-clause-value c = grind (arith, common_steps)

pub returns-clause-ok : goal.returns-clause-ok
returns-clause-ok c = reads-ok c.args.text.now c.written_value.result (returns-clause-value c)

pub returns-clause-fits : goal.returns-clause-fits
returns-clause-fits c = reads-fits c.args.text.now c.written_value.result (returns-clause-value c)

pub returns-clause-too_large : goal.returns-clause-too_large
returns-clause-too_large c = reads-too_large c.args.text.now c.written_value.result (returns-clause-value c)

pub returns-clause-not_a_dimension : goal.returns-clause-not_a_dimension
returns-clause-not_a_dimension c = reads-not_a_dimension c.args.text.now c.written_value.result (returns-clause-value c)
