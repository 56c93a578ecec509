-- The line is the next one of the script, or the first bad one.
use Rattle.std.proofs.Common.{inr, sym, subst, List}
use Rattle.boxglue_script.specs.declared.script.Line.{Line}
use Rattle.boxglue_script.specs.Blocks.{lines_of}
use Rattle.boxglue_script.specs.Private.Reading.{ReadsOn}
use Rattle.boxglue_script.proofs.LineContentLaws.{gives_read, reads_on, stops_at}
use Rattle.boxglue_script.proofs.script.take_line.Goals as goal

pub returns-in_err-read_line_of-clause-memory : goal.returns-in_err-read_line_of-clause-memory
returns-in_err-read_line_of-clause-memory c = λ _. let gives = c.in_err-read_line_of.ensures.memory in gives_read c.args.line.now gives.0 gives.1

pub returns-in_err-push-in-Command-clause-memory : goal.returns-in_err-push-in-Command-clause-memory
returns-in_err-push-in-Command-clause-memory c = λ _. gives_read c.args.line.now c.in-Command.command (rw c.in-Command.is at c.in_ok-read_line_of.ensures.said)

pub returns-in_ok-push-in-Command-clause-ok : goal.returns-in_ok-push-in-Command-clause-ok
returns-in_ok-push-in-Command-clause-ok c =
    subst (λ (found : List Line). ReadsOn c.args.number c.args.line.now (lines_of c.args.found.now) found) (sym c.in_ok-push-in-Command.ensures.ok)
    (reads_on c.args.number c.args.line.now (lines_of c.args.found.now) c.in-Command.command (rw c.in-Command.is at c.in_ok-read_line_of.ensures.said))

pub returns-in-Bad-clause-bad : goal.returns-in-Bad-clause-bad
returns-in-Bad-clause-bad c =
    let bad = rw c.in-Bad.is at c.in_ok-read_line_of.ensures.said in inr (stops_at c.args.number c.args.line.now (lines_of c.args.found.now) c.in-Bad.cause bad.0 bad.1)
