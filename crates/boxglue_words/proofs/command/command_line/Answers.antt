-- Each subcommand comes after those before it.
use Rattle.std.proofs.Common.{◌∙◌, ap, ap₂}
use Rattle.std.proofs.lemmas.Result.{IfOk-weaker}
use Rattle.clap.specs.Words.{App, Shape, with_subcommand}
use Rattle.boxglue_words.proofs.command.command_line.Goals as goal

top : App → Shape
top a = a.top

pub returns : goal.returns
unfolding top
returns c =
    let one = c.in_ok-subcommand.ensures.shape c.in_ok-typeset.ensures.local ∙ ap₂ with_subcommand c.in_ok-alone.ensures (ap top c.in_ok-typeset.ensures.shape) in
    let two = c.in_ok-subcommand-2.ensures.shape c.in_ok-session.ensures.local ∙ ap₂ with_subcommand one (ap top c.in_ok-session.ensures.shape) in
    let three = c.in_ok-subcommand-3.ensures.shape c.in_ok-lists.ensures.local ∙ ap₂ with_subcommand two (ap top c.in_ok-lists.ensures.shape) in
    let four = c.in_ok-subcommand-4.ensures.shape c.in_ok-names_fonts.ensures.local ∙ ap₂ with_subcommand three (ap top c.in_ok-names_fonts.ensures.shape) in
    IfOk-weaker c.subcommand-5.result _ _ (λ r a. a.shape c.in_ok-paint.ensures.local ∙ ap₂ with_subcommand four (ap top c.in_ok-paint.ensures.shape)) c.subcommand-5.ensures
