-- What clap matches is what the words ask for, and what it refuses is no command line.
use Rattle.std.proofs.Common.{◌≡◌, ◌∙◌, List, [], ap, map, string_bytes, subst, sym}
use Rattle.std.proofs.lemmas.Result.{IfErr-weaker, IfOk-weaker}
use Rattle.clap.specs.Kinds.{HasKind}
use Rattle.clap.specs.Words.{Text, app_of, fault_of, is_simple, is_simple_and_free, subcommand_of, subcommand_rows_of}
use Rattle.boxglue_words.specs.CommandLine.{boxglue}
use Rattle.boxglue_words.specs.Tasks.{IsTask}
use Rattle.boxglue_words.proofs.TaskLemmas.{boxglue_has_matches, boxglue_is_simple, error_refused, refused_of, task_of, version_asked}
use Rattle.boxglue_words.proofs.words.read_words.Goals as goal

pub returns-in-Ok-clause-ok : goal.returns-in-Ok-clause-ok
returns-in-Ok-clause-ok c =
    let words : List Text = map string_bytes c.args.words.now in
    let line : app_of c.in_ok-line.line ≡ boxglue = c.in_ok-line.ensures in
    let met = c.in-Ok in
    let accepted : fault_of boxglue words ≡ [] = subst (λ a. fault_of a words ≡ []) line (met.ensures.kinds (ap is_simple_and_free line ∙ boxglue_is_simple)) in
    let same : subcommand_rows_of met.matches ≡ subcommand_of boxglue words =
    (met.ensures.matches (ap is_simple line ∙ boxglue_has_matches)).1 ∙ ap (λ a. subcommand_of a words) line in
    IfOk-weaker c.read_matches.result _ _ (λ task h. task_of met.matches words task accepted same h) c.read_matches.ensures.ok

pub returns-in-Ok-clause-err : goal.returns-in-Ok-clause-err
returns-in-Ok-clause-err c =
    let words : List Text = map string_bytes c.args.words.now in
    let line : app_of c.in_ok-line.line ≡ boxglue = c.in_ok-line.ensures in
    let met = c.in-Ok in
    let accepted : fault_of boxglue words ≡ [] = subst (λ a. fault_of a words ≡ []) line (met.ensures.kinds (ap is_simple_and_free line ∙ boxglue_is_simple)) in
    let same : subcommand_rows_of met.matches ≡ subcommand_of boxglue words =
    (met.ensures.matches (ap is_simple line ∙ boxglue_has_matches)).1 ∙ ap (λ a. subcommand_of a words) line in
    IfErr-weaker c.read_matches.result _ _ (λ fault h. refused_of met.matches words fault accepted same h) c.read_matches.ensures.err

pub returns-in-Err-clause-ok : goal.returns-in-Err-clause-ok
returns-in-Err-clause-ok c =
    let words : List Text = map string_bytes c.args.words.now in
    let line : app_of c.in_ok-line.line ≡ boxglue = c.in_ok-line.ensures in
    let kinds : HasKind (fault_of boxglue words) c.in-Err.error =
    subst (λ a. HasKind (fault_of a words) c.in-Err.error) line (c.in-Err.ensures.kinds (ap is_simple_and_free line ∙ boxglue_is_simple)) in
    IfOk-weaker c.read_error.result _ _ (λ task h. subst (IsTask words) (sym h.0) (version_asked words c.in-Err.error kinds h.1)) c.read_error.ensures.ok

pub returns-in-Err-clause-err : goal.returns-in-Err-clause-err
returns-in-Err-clause-err c =
    let words : List Text = map string_bytes c.args.words.now in
    let line : app_of c.in_ok-line.line ≡ boxglue = c.in_ok-line.ensures in
    let kinds : HasKind (fault_of boxglue words) c.in-Err.error =
    subst (λ a. HasKind (fault_of a words) c.in-Err.error) line (c.in-Err.ensures.kinds (ap is_simple_and_free line ∙ boxglue_is_simple)) in
    error_refused words c.in-Err.error c.read_error.result kinds c.read_error.ensures.line c.read_error.ensures.memory c.read_error.ensures.other
