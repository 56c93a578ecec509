use Rattle.boxglue_program.proofs.SessionEnds.{whole_to}
use Rattle.boxglue_program.proofs.session.whole_size.Goals as goal

pub returns-then-piece-size-eq10-clause-whole : goal.returns-then-piece-size-eq10-clause-whole
returns-then-piece-size-eq10-clause-whole c = whole_to c.args.piece.now c.loop-size.size c.loop-size-test.true c.loop-size.invariant.within c.if-piece-size-eq10.true
