-- What is asked for: the four numbers, the path and the fonts.
use Rattle.std.proofs.Common.{refl, codes}
use Rattle.clap.specs.Matches.{found_of}
use Rattle.clap.specs.Words.{rows_of}
use Rattle.boxglue_words.specs.Tasks.{AsksBy, IsRefusedBy, font_words, paints}
use Rattle.boxglue_words.proofs.PairLemmas.{handed_on}
use Rattle.boxglue_words.proofs.TaskLemmas.{no_painting, no_options, refused_file, refused_line}
use Rattle.boxglue_words.proofs.words.paints.Goals as goal

pub returns-in_default-clause-err : goal.returns-in_default-clause-err
returns-in_default-clause-err c =
    let rows = rows_of (found_of c.args.matches.now) in
    refused_line _ _ c.no_line.ensures (no_options rows (c.in_default.ensures.none refl))

pub returns-clause-ok : goal.returns-clause-ok
returns-clause-ok c =
    let rows = rows_of (found_of c.args.matches.now) in
    let file = c.in_ok-file in (
      paints c.in-Some.options file.file.path.now (font_words rows),
      (refl, c.in-Some.ensures.options_returned, file.ensures.path, refl),
      (refl, refl, file.ensures.fonts),
    )

pub returns-in_err-file-clause-err : goal.returns-in_err-file-clause-err
returns-in_err-file-clause-err c =
    let rows = rows_of (found_of c.args.matches.now) in
    handed_on (IsRefusedBy (AsksBy (codes "paint") rows)) c.from_residual.result c.in_err-file.field-0.0 c.from_residual.ensures.1
    (refused_file (AsksBy (codes "paint") rows) (codes "DVI") rows (λ path. paints c.in-Some.options path (font_words rows))
    (λ path given. (refl, c.in-Some.ensures.options_returned, given, refl)) (λ path. refl)
    (no_painting rows) c.in_err-file.field-0.0 c.in_err-file.ensures.err)
