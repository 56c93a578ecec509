-- What is asked for: the path and the fonts.
use Rattle.std.proofs.Common.{refl, codes}
use Rattle.clap.specs.Matches.{found_of}
use Rattle.clap.specs.Words.{rows_of}
use Rattle.boxglue_words.specs.Tasks.{AsksBy, IsRefusedBy, font_words, lists}
use Rattle.boxglue_words.proofs.PairLemmas.{handed_on}
use Rattle.boxglue_words.proofs.TaskLemmas.{no_list, refused_file}
use Rattle.boxglue_words.proofs.words.lists.Goals as goal

pub returns-clause-ok : goal.returns-clause-ok
returns-clause-ok c =
    let rows = rows_of (found_of c.args.matches.now) in
    (lists c.in_ok-file.file.path.now (font_words rows), (refl, c.in_ok-file.ensures.path, refl), (refl, c.in_ok-file.ensures.fonts))

pub returns-in_err-file-clause-err : goal.returns-in_err-file-clause-err
returns-in_err-file-clause-err c =
    let rows = rows_of (found_of c.args.matches.now) in
    handed_on (IsRefusedBy (AsksBy (codes "list") rows)) c.from_residual.result c.in_err-file.field-0.0 c.from_residual.ensures.1
    (refused_file (AsksBy (codes "list") rows) (codes "DVI") rows (λ path. lists path (font_words rows)) (λ path given. (refl, given, refl)) (λ path. refl)
    (no_list rows) c.in_err-file.field-0.0 c.in_err-file.ensures.err)
