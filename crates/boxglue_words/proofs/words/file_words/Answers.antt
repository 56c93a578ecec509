-- The file is the value of its argument.
use Rattle.std.proofs.Common.{◌≡◌, ◌∙◌, sym, None, Some}
use Rattle.clap.specs.Matches.{found_of}
use Rattle.clap.specs.Words.{first_of, rows_of}
use Rattle.clap.proofs.WalkLemmas.{first_value-rows}
use Rattle.boxglue_words.specs.Private.Steps.{IsFileFault}
use Rattle.boxglue_words.proofs.PairLemmas.{handed_on}
use Rattle.boxglue_words.proofs.TaskLemmas.{faulty_fonts, file_missing}
use Rattle.boxglue_words.proofs.words.file_words.Goals as goal

pub returns-in_default-clause-err : goal.returns-in_default-clause-err
returns-in_default-clause-err c =
    let rows = rows_of (found_of c.args.matches.now) in
    let lacks : first_of c.args.id.now rows ≡ None = sym (first_value-rows (found_of c.args.matches.now) c.args.id.now) ∙ sym c.in_default.ensures in
    file_missing c.args.id.now rows _ c.no_line.ensures lacks

pub returns-clause-path : goal.returns-clause-path
returns-clause-path c = sym (first_value-rows (found_of c.args.matches.now) c.args.id.now) ∙ sym c.in-Some.ensures

pub returns-in_err-fonts-clause-err : goal.returns-in_err-fonts-clause-err
returns-in_err-fonts-clause-err c =
    let rows = rows_of (found_of c.args.matches.now) in
    let given : first_of c.args.id.now rows ≡ Some c.in-Some.path.now = sym (first_value-rows (found_of c.args.matches.now) c.args.id.now) ∙ sym c.in-Some.ensures in
    handed_on (IsFileFault c.args.id.now rows) c.from_residual.result c.in_err-fonts.field-0.0 c.from_residual.ensures.1
    (faulty_fonts c.args.id.now rows c.in-Some.path.now c.in_err-fonts.field-0.0 given c.in_err-fonts.ensures.err)
