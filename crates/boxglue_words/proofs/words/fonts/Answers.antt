-- The words NAME=TFM are the values of their argument, or none.
use Rattle.std.proofs.Common.{◌≡◌, ◌∙◌, sym, ap, [], map}
use Rattle.std.specs.Prelude.{unwrap_or}
use Rattle.clap.specs.Matches.{found_of}
use Rattle.clap.specs.Words.{rows_of}
use Rattle.boxglue_words.specs.Tasks.{font_words}
use Rattle.boxglue_words.proofs.TaskLemmas.{font_words-values}
use Rattle.boxglue_words.proofs.words.fonts.Goals as goal

pub returns-in-Some-clause-ok : goal.returns-in-Some-clause-ok
returns-in-Some-clause-ok c =
    let given : font_words (rows_of (found_of c.args.matches.now)) ≡ map (λ word. word.now) c.in-Some.words.now =
    sym (font_words-values (found_of c.args.matches.now)) ∙ ap (λ o. unwrap_or o []) (sym c.in-Some.ensures) in
    rw given c.read_pairs.ensures.ok

pub returns-in-Some-clause-err : goal.returns-in-Some-clause-err
returns-in-Some-clause-err c =
    let given : font_words (rows_of (found_of c.args.matches.now)) ≡ map (λ word. word.now) c.in-Some.words.now =
    sym (font_words-values (found_of c.args.matches.now)) ∙ ap (λ o. unwrap_or o []) (sym c.in-Some.ensures) in
    rw given c.read_pairs.ensures.err

pub returns-in-None-clause-ok : goal.returns-in-None-clause-ok
returns-in-None-clause-ok c =
    let given : font_words (rows_of (found_of c.args.matches.now)) ≡ [] =
    sym (font_words-values (found_of c.args.matches.now)) ∙ ap (λ o. unwrap_or o []) (sym c.in-None.ensures) in
    rw given c.read_pairs-in-None.ensures.ok
