-- A file that is checked, and each reason of a refusal.
use Rattle.std.proofs.Common.{[], ◌≡◌, ◌++◌, List, ℕ, map, sym, subst, ◌∙◌}
use Rattle.dvi_scan.proofs.ErrLemmas.{handed_on}
use Rattle.dvi_ops.specs.File.{IsFile, MarkedPage}
use Rattle.dvi_ops.specs.Fonts.{definitions}
use Rattle.dvi_ops.specs.Instruction.{Postamble}
use Rattle.dvi_ops.specs.Tokens.{token_instructions}
use Rattle.dvi_ops.specs.View.{view_postamble}
use Rattle.dvi_ops.proofs.Frames.{one_list_of_pages}
use Rattle.tfm_core.specs.FileWidths.{file_widths}
use Rattle.tfm_core.specs.NamedBytes.{NamedBytes}
use Rattle.dvi_scan.specs.Pass.{Between}
use Rattle.dvi_scan.specs.Passed.{file_framing}
use Rattle.dvi_scan.specs.View.{marked_page}
use Rattle.dvi_read.specs.Opening.{BeforeThePages, IsDviFault}
use Rattle.dvi_read.specs.PageMarks.{HasGlyphWidths, marks_of}
use Rattle.dvi_read.specs.Private.OpeningParts.{HasPassed}
use Rattle.dvi_read.specs.ItemsLeft.{HasRest}
use Rattle.dvi_read.specs.declared.check.checked_file.CheckedFile.{CheckedFile}
use Rattle.dvi_read.specs.declared.check.walk.Walk.{Walk}
use Rattle.dvi_read.specs.declared.fonts.ReadFonts.{ReadFonts}
use Rattle.dvi_read.proofs.CheckedLemmas.{checked_fault, checked_widths, rest_space}
use Rattle.dvi_read.proofs.FaultLemmas.{post_within}
use Rattle.dvi_read.proofs.ShownLemmas.{one_shown, opened_shows}
use Rattle.dvi_read.proofs.TextLemmas.{starts_texts}
use Rattle.dvi_read.proofs.OpenLemmas.{IsRefused, exact_refused, refused, units_of_post}
use Rattle.dvi_read.proofs.check.dvi.Dvi.open.Goals as goal

-- The walk over the chain that was lent.
walked_chain : (files : List NamedBytes) (bytes : List ℕ) (post after last : ℕ) (postamble : Postamble) (lent chain : List ℕ) (from : ℕ)
    (walk : Walk) → lent ≡ chain
    → HasPassed files bytes (file_framing post after last postamble lent) from walk
    → HasPassed files bytes (file_framing post after last postamble chain) from walk
walked_chain files bytes post after last postamble lent chain from walk same passed =
    subst (λ (ps : List ℕ). HasPassed files bytes (file_framing post after last postamble ps) from walk) same passed

pub returns-in_err-ending-clause-bad : goal.returns-in_err-ending-clause-bad
returns-in_err-ending-clause-bad c =
    handed_on (IsDviFault c.args.files.now c.args.bytes.now) c.from_residual.result c.in_err-ending.field-0.0 c.from_residual.ensures.1 (BeforeThePages c.in_err-ending.ensures.bad)

pub returns-in_err-ending-clause-refused : goal.returns-in_err-ending-clause-refused
returns-in_err-ending-clause-refused c =
    let fault = c.in_err-ending.field-0.0 in
    handed_on (IsRefused c.args.files.now c.args.bytes.now) c.from_residual.result fault c.from_residual.ensures.1 (refused c.args.files.now c.args.bytes.now fault (BeforeThePages c.in_err-ending.ensures.bad))

pub returns-in_err-walk-clause-refused : goal.returns-in_err-walk-clause-refused
returns-in_err-walk-clause-refused c =
    let fault = c.in_err-walk.field-0.0 in
    handed_on (IsRefused c.args.files.now c.args.bytes.now) c.from_residual-in_err-walk.result fault c.from_residual-in_err-walk.ensures.1
    (refused c.args.files.now c.args.bytes.now fault c.in_err-walk.ensures.bad)

pub returns-in_err-check_after_pages-clause-bad : goal.returns-in_err-check_after_pages-clause-bad
returns-in_err-check_after_pages-clause-bad c =
    let front = c.in_ok-ending.field-0 in
    let ending = front.ending in
    let fault = c.in_err-check_after_pages.field-0.0 in
    handed_on (IsDviFault c.args.files.now c.args.bytes.now) c.from_residual-in_err-check_after_pages.result fault c.from_residual-in_err-check_after_pages.ensures.1
    (checked_fault c.args.files.now c.args.bytes.now ending.post ending.after ending.last (view_postamble ending.postamble) front.chain.items
    front.from c.in_ok-walk.walk
    (walked_chain c.args.files.now c.args.bytes.now ending.post ending.after ending.last (view_postamble ending.postamble) c.deref.result.now
    front.chain.items front.from c.in_ok-walk.walk c.deref.ensures.value c.in_ok-walk.ensures.ok) fault
    c.in_err-check_after_pages.ensures.bad)

pub returns-in_err-check_after_pages-clause-refused : goal.returns-in_err-check_after_pages-clause-refused
returns-in_err-check_after_pages-clause-refused c =
    let front = c.in_ok-ending.field-0 in
    let ending = front.ending in
    let fault = c.in_err-check_after_pages.field-0.0 in
    handed_on (IsRefused c.args.files.now c.args.bytes.now) c.from_residual-in_err-check_after_pages.result fault c.from_residual-in_err-check_after_pages.ensures.1
    (refused c.args.files.now c.args.bytes.now fault
    (checked_fault c.args.files.now c.args.bytes.now ending.post ending.after ending.last (view_postamble ending.postamble) front.chain.items
    front.from c.in_ok-walk.walk
    (walked_chain c.args.files.now c.args.bytes.now ending.post ending.after ending.last (view_postamble ending.postamble) c.deref.result.now
    front.chain.items front.from c.in_ok-walk.walk c.deref.ensures.value c.in_ok-walk.ensures.ok) fault
    c.in_err-check_after_pages.ensures.bad))

pub of-shown-requires : goal.of-shown-requires
of-shown-requires c =
    let front = c.in_ok-ending.field-0 in
    let ending = front.ending in
    let walk = c.in_ok-walk.walk in
    let file : CheckedFile =
    record { bytes = c.args.bytes; from = front.from; post = ending.post; most = c.most_pushes.result; fonts = c.fonts_of-fonts.result; places = front.chain } in
    let (all, is, shows) =
    opened_shows c.args.files.now file ending.after ending.last (view_postamble ending.postamble) walk
    (walked_chain c.args.files.now c.args.bytes.now ending.post ending.after ending.last (view_postamble ending.postamble) c.deref.result.now
    front.chain.items front.from c.in_ok-walk.walk c.deref.ensures.value c.in_ok-walk.ensures.ok) (map marked_page walk.done.items)
    c.check_after_pages.new.walk.known (λ k. (c.type_inv.bytes k).fits) c.in_ok-check_after_pages.ensures.ended c.in_ok-check_after_pages.ensures.closed (c.fonts_of-fonts.ensures ∙ c.in_ok-check_after_pages.ensures.fonts) c.most_pushes.ensures in
    (all, shows)

pub returns-clause-ok : goal.returns-clause-ok
returns-clause-ok c =
    let front = c.in_ok-ending.field-0 in
    let ending = front.ending in
    let walk = c.in_ok-walk.walk in
    let file : CheckedFile =
    record { bytes = c.args.bytes; from = front.from; post = ending.post; most = c.most_pushes.result; fonts = c.fonts_of-fonts.result; places = front.chain } in
    let (all, is, shows) =
    opened_shows c.args.files.now file ending.after ending.last (view_postamble ending.postamble) walk
    (walked_chain c.args.files.now c.args.bytes.now ending.post ending.after ending.last (view_postamble ending.postamble) c.deref.result.now
    front.chain.items front.from c.in_ok-walk.walk c.deref.ensures.value c.in_ok-walk.ensures.ok) (map marked_page walk.done.items)
    c.check_after_pages.new.walk.known (λ k. (c.type_inv.bytes k).fits) c.in_ok-check_after_pages.ensures.ended c.in_ok-check_after_pages.ensures.closed (c.fonts_of-fonts.ensures ∙ c.in_ok-check_after_pages.ensures.fonts) c.most_pushes.ensures in
    subst (λ (pages : List MarkedPage). IsFile (file_widths c.args.files.now) c.args.bytes.now pages) (one_shown file all c.of-shown.result.pages shows.has c.of-shown.ensures.has) is

pub returns-clause-exact : goal.returns-clause-exact
returns-clause-exact c = λ pages file.
    one_list_of_pages (file_widths c.args.files.now) c.args.bytes.now c.of-shown.result.pages pages (returns-clause-ok c) file

pub returns-clause-units : goal.returns-clause-units
returns-clause-units c =
    let ending = c.in_ok-ending.field-0.ending in
    let starts = c.in_ok-ending.ensures.ok in
    units_of_post c.args.bytes.now ending.post ending.last (view_postamble ending.postamble) starts.chained.framed.ends

pub returns-clause-widths : goal.returns-clause-widths
returns-clause-widths c = λ f.
    let front = c.in_ok-ending.field-0 in
    let ending = front.ending in
    let bytes = c.args.bytes.now in
    let pages = c.of-shown.result.pages in
    let same = c.fonts_of-fonts.ensures ∙ c.in_ok-check_after_pages.ensures.fonts in
    let rest = subst (λ (fonts : ReadFonts). HasRest bytes front.from ending.post c.most_pushes.result fonts [] (Between []) pages) same c.of-shown.ensures.has in
    subst (λ (fonts : ReadFonts). HasGlyphWidths (file_widths c.args.files.now) (definitions (token_instructions f.front ++ token_instructions f.tail)) fonts (marks_of pages)) (sym same)
    (checked_widths c.args.files.now bytes ending.post ending.after ending.last (view_postamble ending.postamble) front.chain.items front.from
    c.in_ok-walk.walk (walked_chain c.args.files.now c.args.bytes.now ending.post ending.after ending.last (view_postamble ending.postamble)
    c.deref.result.now front.chain.items front.from c.in_ok-walk.walk c.deref.ensures.value c.in_ok-walk.ensures.ok) c.check_after_pages.new.walk.known
    c.most_pushes.result pages c.in_ok-check_after_pages.ensures.closed rest f)

pub returns-clause-space : goal.returns-clause-space
returns-clause-space c =
    let front = c.in_ok-ending.field-0 in
    rest_space c.args.bytes.now front.from front.ending.post c.most_pushes.result c.fonts_of-fonts.result c.of-shown.result.pages
    c.of-shown.ensures.has

pub returns-in_err-ending-clause-exact : goal.returns-in_err-ending-clause-exact
returns-in_err-ending-clause-exact c =
    exact_refused c.args.files.now c.args.bytes.now c.from_residual.result c.in_err-ending.field-0.0 c.from_residual.ensures.1 (BeforeThePages c.in_err-ending.ensures.bad)

pub returns-in_err-walk-clause-exact : goal.returns-in_err-walk-clause-exact
returns-in_err-walk-clause-exact c =
    exact_refused c.args.files.now c.args.bytes.now c.from_residual-in_err-walk.result c.in_err-walk.field-0.0 c.from_residual-in_err-walk.ensures.1 c.in_err-walk.ensures.bad

pub returns-in_err-check_after_pages-clause-exact : goal.returns-in_err-check_after_pages-clause-exact
returns-in_err-check_after_pages-clause-exact c =
    let front = c.in_ok-ending.field-0 in
    let ending = front.ending in
    let fault = c.in_err-check_after_pages.field-0.0 in
    exact_refused c.args.files.now c.args.bytes.now c.from_residual-in_err-check_after_pages.result fault c.from_residual-in_err-check_after_pages.ensures.1
    (checked_fault c.args.files.now c.args.bytes.now ending.post ending.after ending.last (view_postamble ending.postamble) front.chain.items
    front.from c.in_ok-walk.walk
    (walked_chain c.args.files.now c.args.bytes.now ending.post ending.after ending.last (view_postamble ending.postamble) c.deref.result.now
    front.chain.items front.from c.in_ok-walk.walk c.deref.ensures.value c.in_ok-walk.ensures.ok) fault
    c.in_err-check_after_pages.ensures.bad)

pub returns-clause-texts : goal.returns-clause-texts
returns-clause-texts c = λ f.
    let front = c.in_ok-ending.field-0 in
    let ending = front.ending in
    let starts = c.in_ok-ending.ensures.ok in
    let bytes = c.args.bytes.now in
    starts_texts bytes ending.post ending.after ending.last (view_postamble ending.postamble) front.chain.items front.from starts
    (post_within c.args.files.now bytes ending.post ending.after ending.last (view_postamble ending.postamble)
    front.chain.items starts.chained.framed) f
