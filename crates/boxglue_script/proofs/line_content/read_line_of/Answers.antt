-- What was read of the line.
use Rattle.std.proofs.Common.{sym, ◌∙◌}
use Rattle.boxglue_script.proofs.LineContentLaws.{read_is_said, said_alone, refused_gives}
use Rattle.boxglue_script.proofs.line_content.read_line_of.Goals as goal

pub returns-clause-said : goal.returns-clause-said
returns-clause-said c =
    read_is_said c.args.line.now c.command_of.result (sym c.is_passed_over.ensures ∙ c.if-is_passed_over.false) c.command_of.ensures.read

pub returns-clause-only : goal.returns-clause-only
returns-clause-only c =
    said_alone c.args.line.now c.command_of.result
    (read_is_said c.args.line.now c.command_of.result (sym c.is_passed_over.ensures ∙ c.if-is_passed_over.false) c.command_of.ensures.read)

pub returns-clause-memory : goal.returns-clause-memory
returns-clause-memory c =
    refused_gives c.args.line.now c.command_of.result (sym c.is_passed_over.ensures ∙ c.if-is_passed_over.false) c.command_of.ensures.memory
