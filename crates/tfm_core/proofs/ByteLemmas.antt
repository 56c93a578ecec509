-- The codes of the characters of a metric file.
use Rattle.std.proofs.Common.{◌≡◌, ℕ, ◌-◌, ◌<◌, ◌≤◌, Bool, true, false, cond, List, length, Option, Some, None, Ok, eqb, ltb, refl, sym, ◌∙◌, subst, ℤ, arith}
use Rattle.std.specs.List.{slice_get}
use Rattle.std.specs.Option.{option_map}
use Rattle.std.proofs.lemmas.Bool.{ltb-false}
use Rattle.std.proofs.lemmas.Option.{slice_get_within}
use Rattle.tfm_core.specs.declared.fault.TfmCause.TheVariants.{Counts}
use Rattle.scaled_core.specs.declared.sizes.Sizes.{Sizes}
use Rattle.tfm_core.specs.declared.record.CharInfo.{CharInfo}
use Rattle.tfm_core.specs.declared.record.Counts.{Counts as Numbers}
use Rattle.tfm_core.specs.Fonts.{font_at, glyph_of, sizes_in}
use Rattle.tfm_core.specs.MetricFile.{MetricFile, counts_in}
use Rattle.tfm_core.specs.Rules.{IsMetricFile, breaks_counts, character_at, has_wrong_codes, metric_file, with_width}
use Rattle.tfm_core.proofs.LawLemmas.{glyph_of-font_at}
use Rattle.tfm_core.proofs.ReadingLemmas.{IsMetricFile-from_read}
use Rattle.tfm_core.proofs.RuleLemmas.{or_false}

-- The last code is a byte.
last_small : (c : Numbers) → breaks_counts c ≡ false → c.last ≤ 255
unfolding breaks_counts has_wrong_codes
last_small c kept =
    let p = or_false _ _ kept in
    let q = or_false _ _ p.0 in
    let r = or_false _ _ q.0 in
    ltb-false 255 c.last (or_false _ _ r.1).1

kept_test : (b : Bool) (o : Option CharInfo) (c : CharInfo) → cond b None o ≡ Some c → (b ≡ false) × (o ≡ Some c)
kept_test true o c h = absurd (cc)
kept_test false o c h = (refl, h)

with_width-same : (o : Option CharInfo) (c : CharInfo) → with_width o ≡ Some c → o ≡ Some c
with_width-same None c h = absurd (cc)
with_width-same (Some d) c h = (kept_test (eqb d.width 0) (Some d) c h).1

-- A character that the font has is in the table, which begins with the first code.
character_within : (first : ℕ) (characters : List CharInfo) (code : ℕ) (c : CharInfo) → character_at first characters code ≡ Some c → (first ≤ code) × (code - first < length characters)
unfolding character_at
character_within first characters code c at =
    let p = kept_test (ltb code first) (with_width (slice_get characters (code - first))) c at in
    (ltb-false code first p.0, slice_get_within characters (code - first) c (with_width-same (slice_get characters (code - first)) c p.1))

mapped_from : {X Y : Type 0} (f : X → Y) (o : Option X) (y : Y) → option_map f o ≡ Some y → (x : X) × (o ≡ Some x)
mapped_from f None y h = absurd (cc)
mapped_from f (Some x) y h = (x, refl)

-- A character of a metric file at a size is a byte.
pub byte-glyph_of : (bytes : List ℕ) (file : MetricFile) (size : ℤ) (code : ℕ) (glyph : Sizes) → metric_file bytes ≡ Ok file
    → glyph_of (font_at file size) code ≡ Some glyph → code < 256
byte-glyph_of bytes file size code glyph read at =
    let is : IsMetricFile bytes file = IsMetricFile-from_read bytes file read in
    let found = mapped_from (sizes_in file size) (character_at file.counts.first file.characters code) glyph (sym (glyph_of-font_at file size code) ∙ at) in
    let within = character_within file.counts.first file.characters code found.0 found.1 in
    let small : file.counts.last ≤ 255 =
    subst (λ (c : Numbers). c.last ≤ 255) (sym is.encoded.counts) (last_small (counts_in bytes) (is.kept Counts)) in
    omega (arith, within.0, within.1, is.encoded.characters.length_is)
