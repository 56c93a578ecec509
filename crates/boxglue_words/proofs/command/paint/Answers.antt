-- Each argument comes after those before it, and none is global.
use Rattle.std.proofs.Common.{◌≡◌, ◌∙◌, ◌||◌, Bool, false, ap₂, codes}
use Rattle.std.proofs.lemmas.Result.{IfOk-weaker}
use Rattle.clap.specs.Words.{app_of, new_app, with_rule}
use Rattle.clap.specs.declared.builder.Command.TheViews.{out-Command}
use Rattle.boxglue_words.proofs.command.paint.Goals as goal

either : Bool → Bool → Bool
either a b = a || b

pub returns-clause-shape : goal.returns-clause-shape
returns-clause-shape c =
    let named : app_of c.subcommand.result ≡ new_app (codes "paint") = c.subcommand.ensures.shape in
    let page = c.in_ok-arg.ensures.shape c.number.ensures.local ∙ ap₂ with_rule named c.number.ensures.rule in
    let dpi = c.in_ok-arg-2.ensures.shape c.number-2.ensures.local ∙ ap₂ with_rule page c.number-2.ensures.rule in
    let width = c.in_ok-arg-3.ensures.shape c.number-3.ensures.local ∙ ap₂ with_rule dpi c.number-3.ensures.rule in
    let height = c.in_ok-arg-4.ensures.shape c.number-4.ensures.local ∙ ap₂ with_rule width c.number-4.ensures.rule in
    let dvi = c.in_ok-arg-5.ensures.shape c.path.ensures.local ∙ ap₂ with_rule height c.path.ensures.rule in
    IfOk-weaker c.arg-6.result _ _ (λ r a. a.shape c.fonts.ensures.local ∙ ap₂ with_rule dvi c.fonts.ensures.rule) c.arg-6.ensures

pub returns-clause-local : goal.returns-clause-local
unfolding either
returns-clause-local c =
    let named : (out-Command c.subcommand.result).has_globals ≡ false = c.subcommand.ensures.local in
    let page = c.in_ok-arg.ensures.globals ∙ ap₂ either named c.number.ensures.local in
    let dpi = c.in_ok-arg-2.ensures.globals ∙ ap₂ either page c.number-2.ensures.local in
    let width = c.in_ok-arg-3.ensures.globals ∙ ap₂ either dpi c.number-3.ensures.local in
    let height = c.in_ok-arg-4.ensures.globals ∙ ap₂ either width c.number-4.ensures.local in
    let dvi = c.in_ok-arg-5.ensures.globals ∙ ap₂ either height c.path.ensures.local in
    IfOk-weaker c.arg-6.result _ _ (λ r a. a.globals ∙ ap₂ either dvi c.fonts.ensures.local) c.arg-6.ensures
