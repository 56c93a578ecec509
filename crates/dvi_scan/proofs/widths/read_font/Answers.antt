use Rattle.std.proofs.Common.{◌≡◌, ℤ, true, sym, ◌∙◌, ap, subst, Option, Some}
use Rattle.std.specs.Prelude.{IfErr}
use Rattle.std.proofs.lemmas.Result.{IfOk-weaker}
use Rattle.dvi_scan.specs.Widths.{HasBytes}
use Rattle.tfm_core.specs.FileWidths.{width_at, widths_by}
use Rattle.tfm_core.specs.FontReads.{IsFontIn, IsReadRefusal}
use Rattle.tfm_core.specs.Fonts.{SizedFont, chosen_size, fits_at, font_at, glyph_of}
use Rattle.tfm_core.specs.Rules.{metric_file}
use Rattle.tfm_core.proofs.ByteLemmas.{byte-glyph_of}
use Rattle.dvi_scan.proofs.MetricFileLemmas.{widths_found}
use Rattle.dvi_scan.proofs.widths.read_font.Goals as goal

pub returns-clause-ok : goal.returns-clause-ok
returns-clause-ok c =
    let bytes = c.args.bytes.now in
    let size = c.args.font.now.size in
    IfOk-weaker c.read.result (IsFontIn bytes c.size_of.result) (λ read. widths_by (metric_file bytes) size ≡ Some (width_at read))
    (λ read found.
    let e : chosen_size found.metrics c.size_of.result ≡ size = ap (chosen_size found.metrics) c.size_of.ensures in
    let fits = subst (λ (z : ℤ). fits_at found.metrics z ≡ true) e found.fits in
    widths_found bytes size found.metrics read found.read fits (found.same ∙ ap (font_at found.metrics) e)) c.read.ensures.ok

pub returns-clause-bytes : goal.returns-clause-bytes
returns-clause-bytes c =
    let bytes = c.args.bytes.now in
    IfOk-weaker c.read.result (IsFontIn bytes c.size_of.result) HasBytes
    (λ read found code size there.
    byte-glyph_of bytes found.metrics (chosen_size found.metrics c.size_of.result) code size found.read
    (ap (λ (font : SizedFont). glyph_of font code) (sym found.same) ∙ there)) c.read.ensures.ok

pub returns-clause-bad : goal.returns-clause-bad
returns-clause-bad c = subst (λ (size : Option ℤ). IfErr c.read.result (IsReadRefusal c.args.bytes.now size)) c.size_of.ensures c.read.ensures.refused
