-- The command of a line whose first word is neither `text` nor `special`.
use Rattle.std.proofs.Common.{◌≡◌, arith}
use Rattle.std.proofs.lemmas.Grind.{common_steps}
use Rattle.boxglue_script.specs.ScriptLines.{fields_of}
use Rattle.boxglue_script.specs.Private.Reading.{first_word, command_by, command_of, command_of_printable, command_of_line}
use Rattle.boxglue_script.proofs.FieldLemmas.{line_command}
use Rattle.boxglue_script.proofs.line_content.command_of.Goals as goal

pub returns-clause-read : goal.returns-clause-read
unfolding command_of_line command_of_printable
returns-clause-read c =
    let same : command_by (first_word c.first_field.result.0.now) (fields_of c.new.result.rest.now) ≡ command_of (fields_of c.args.line.now) =
    line_command c.args.line.now c.first_field.result.0.now c.first_field.result.1.now (fields_of c.new.result.rest.now)
    c.first_field.ensures.field c.first_field.ensures.text_left c.new.ensures in
    grind (arith, common_steps, same)

pub returns-clause-memory : goal.returns-clause-memory
unfolding command_of_line command_of_printable
returns-clause-memory c =
    let same : command_by (first_word c.first_field.result.0.now) (fields_of c.new.result.rest.now) ≡ command_of (fields_of c.args.line.now) =
    line_command c.args.line.now c.first_field.result.0.now c.first_field.result.1.now (fields_of c.new.result.rest.now)
    c.first_field.ensures.field c.first_field.ensures.text_left c.new.ensures in
    grind (arith, common_steps, same)
