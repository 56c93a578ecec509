-- Without a subcommand nothing is asked for.
use Rattle.std.proofs.Common.{◌≡◌, Option, List, None, subst, sym}
use Rattle.clap.specs.Words.{Row, Text, subcommand_rows_of}
use Rattle.boxglue_words.specs.Tasks.{Asks, nothing}
use Rattle.boxglue_words.proofs.TaskLemmas.{none_met}
use Rattle.boxglue_words.proofs.words.read_matches.Goals as goal

pub returns-in-None-clause-ok : goal.returns-in-None-clause-ok
returns-in-None-clause-ok c =
    let none : subcommand_rows_of c.args.matches.now ≡ None = none_met c.args.matches.now c.in-None.ensures.variant in
    (nothing, subst (λ (met : Option (Text × List Row)). Asks met nothing) (sym none) tt, tt)
