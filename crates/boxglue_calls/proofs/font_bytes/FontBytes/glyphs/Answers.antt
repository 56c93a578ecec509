-- All rows are written.
use Rattle.std.proofs.Common.{ℕ, arith}
use Rattle.std.proofs.lemmas.List.FromFn.{fill_by_all}
use Rattle.tfm_core.specs.MetricFile.{record_in}
use Rattle.boxglue_calls.specs.Metrics.{glyph_row, no_glyph}
use Rattle.boxglue_calls.specs.Private.MetricPlaces.{character_in}
use Rattle.boxglue_calls.proofs.font_bytes.FontBytes.glyphs.Goals as goal

pub returns : goal.returns
returns c =
    let font = c.args.self.now in
    fill_by_all (λ (code : ℕ). glyph_row (record_in font.bytes.now) font.font.now.size (character_in font.bytes.now code)) c.loop-code.rows 256 no_glyph
    c.loop-code.invariant.long (λ k below. c.loop-code.invariant.each k (omega (arith, c.loop-code-test.false)))
