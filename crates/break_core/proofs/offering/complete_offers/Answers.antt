use Rattle.std.proofs.Common.{arith}
use Rattle.break_core.proofs.Offers.{kind_false, kind_true}
use Rattle.break_core.proofs.offering.complete_offers.Goals as goal

pub returns-then-this-ne0 : goal.returns-then-this-ne0
returns-then-this-ne0 g c = λ none.
    absurd (omega (arith, none, kind_true g.row.COUNTED c.args.params.now.first_lines c.requires.kind c.if-this-ne0.true))

pub put_rest-requires-clause-first : goal.put_rest-requires-clause-first
put_rest-requires-clause-first g c =
    c.requires.first (kind_false g.row.COUNTED c.args.params.now.first_lines c.requires.kind (omega (arith, c.if-this-ne0.false)))
