-- What is asked for: the path and the fonts.
use Rattle.std.proofs.Common.{refl, codes}
use Rattle.clap.specs.Matches.{found_of}
use Rattle.clap.specs.Words.{rows_of}
use Rattle.boxglue_words.specs.Tasks.{AsksBy, IsRefusedBy, font_words, holds_session}
use Rattle.boxglue_words.proofs.PairLemmas.{handed_on}
use Rattle.boxglue_words.proofs.TaskLemmas.{no_session, refused_file}
use Rattle.boxglue_words.proofs.words.holds_session.Goals as goal

pub returns-clause-ok : goal.returns-clause-ok
returns-clause-ok c =
    let rows = rows_of (found_of c.args.matches.now) in
    (holds_session c.in_ok-file.file.path.now (font_words rows), (refl, c.in_ok-file.ensures.path, refl), (refl, c.in_ok-file.ensures.fonts))

pub returns-in_err-file-clause-err : goal.returns-in_err-file-clause-err
returns-in_err-file-clause-err c =
    let rows = rows_of (found_of c.args.matches.now) in
    handed_on (IsRefusedBy (AsksBy (codes "session") rows)) c.from_residual.result c.in_err-file.field-0.0 c.from_residual.ensures.1
    (refused_file (AsksBy (codes "session") rows) (codes "OUT") rows (λ path. holds_session path (font_words rows)) (λ path given. (refl, given, refl)) (λ path. refl)
    (no_session rows) c.in_err-file.field-0.0 c.in_err-file.ensures.err)
