-- A character of one byte is passed over as in the general way.
use Rattle.std.proofs.Common.{◌+◌, get_or, arith, refl, sym, subst}
use Rattle.dvi_scan.specs.declared.executing.OpenPage.{OpenPage}
use Rattle.dvi_scan.specs.declared.executing.PassState.TheVariants as states
use Rattle.dvi_read.specs.Walks.{IsWalked}
use Rattle.dvi_read.proofs.CharacterLemmas.{character_passed}
use Rattle.dvi_read.proofs.check.walk.pass_character.Goals as goal

pub returns-in-Inside-clause-passed : goal.returns-in-Inside-clause-passed
returns-in-Inside-clause-passed c = λ fine metrics after_post postamble chain walked.
    let bytes = c.args.source.now.bytes.now in
    let old = c.args.walk.now in
    let new = c.pass_in_page.new.page in
    let (f, width, font, asked, there) = c.pass_in_page.ensures.passed fine in
    let passed =
    character_passed metrics after_post bytes postamble chain c.args.at old c.in-Inside.page c.in-Inside.is new.state.place (get_or bytes c.args.at 0)
    f width (omega (arith, c.requires.low, c.requires.high)) refl
    (omega (arith, c.if-byte-ge128.false)) font asked there walked in
    subst (λ (p : OpenPage). IsWalked metrics after_post bytes postamble chain (c.args.at + 1) (record old { pass_state = states.Inside p }))
    (sym c.pass_in_page.ensures.rest) passed
