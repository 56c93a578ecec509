use Rattle.std.proofs.Common.{◌≡◌, ◌<◌, ℕ, get_or, length}
use Rattle.tfm_core.specs.MetricFile.{record_in}
use Rattle.boxglue_calls.specs.Metrics.{glyph_row, no_glyph}
use Rattle.boxglue_calls.specs.Private.MetricPlaces.{character_in}
use Rattle.boxglue_calls.proofs.font_bytes.FontBytes.glyphs.Given as goal

abbrev pub invariant-loop-code : goal.invariant-loop-code
invariant-loop-code l = record {
  long : length l.rows ≡ 256;
  each : (k : ℕ) → k < l.code
      → get_or l.rows k no_glyph ≡ glyph_row (record_in l.self.bytes.now) l.self.font.now.size (character_in l.self.bytes.now k);
}
