-- What the session has done with what it has read.
use Rattle.boxglue_program.proofs.SessionCalls.{InSession}
use Rattle.boxglue_program.proofs.session.run_session.Given as goal

abbrev pub invariant-loop : goal.invariant-loop
invariant-loop g l =
    InSession l.initial.session l.session (g.R.Read.remaining l.initial.reader) (g.R.Read.remaining l.reader) (g.W.Write.contents l.initial.writer) (g.W.Write.contents l.writer)
