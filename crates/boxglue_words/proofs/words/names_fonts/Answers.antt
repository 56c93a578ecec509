-- What is asked for: the path.
use Rattle.std.proofs.Common.{◌≡◌, ◌∙◌, sym, refl, codes, Some, None}
use Rattle.clap.specs.Matches.{found_of}
use Rattle.clap.specs.Words.{first_of, rows_of}
use Rattle.clap.proofs.WalkLemmas.{first_value-rows}
use Rattle.boxglue_words.specs.Tasks.{names_fonts}
use Rattle.boxglue_words.proofs.TaskLemmas.{no_fonts_named, refused_line}
use Rattle.boxglue_words.proofs.words.names_fonts.Goals as goal

pub returns-in-Some-clause-ok : goal.returns-in-Some-clause-ok
returns-in-Some-clause-ok c =
    let rows = rows_of (found_of c.args.matches.now) in
    let given : first_of (codes "DVI") rows ≡ Some c.in-Some.dvi.now = sym (first_value-rows (found_of c.args.matches.now) (codes "DVI")) ∙ sym c.in-Some.ensures in
    (names_fonts c.in-Some.dvi.now, (refl, given), refl)

pub returns-in-None-clause-err : goal.returns-in-None-clause-err
returns-in-None-clause-err c =
    let rows = rows_of (found_of c.args.matches.now) in
    let lacks : first_of (codes "DVI") rows ≡ None = sym (first_value-rows (found_of c.args.matches.now) (codes "DVI")) ∙ sym c.in-None.ensures in
    refused_line _ _ c.no_line.ensures (no_fonts_named rows lacks)
