-- The entry of the character, and the word with the index that it has.
use Rattle.std.proofs.Common.{◌≡◌, ◌+◌, ◌-◌, ℕ, arith, ap, sym, ◌∙◌}
use Rattle.tfm_core.specs.MetricFile.{char_info, record_in}
use Rattle.tfm_core.specs.Words.{from_word, signed_word}
use Rattle.tfm_core.specs.declared.record.CharInfo.{CharInfo}
use Rattle.boxglue_calls.specs.Metrics.{italic_word}
use Rattle.boxglue_calls.proofs.MetricBytes.{character_reads}
use Rattle.boxglue_calls.proofs.MetricLaws.{same_word, word_fits}
use Rattle.boxglue_calls.proofs.font_bytes.FontBytes.italic.Goals as goal

pub overflow_sub-character : goal.overflow_sub-character
overflow_sub-character c =
    let font = c.args.self.now in
    let reads = character_reads font.bytes.now font.places c.args.code font.read font.placed c.requires in
    omega (arith, reads.first, c.from.ensures)

pub italic_index-index-requires : goal.italic_index-index-requires
italic_index-index-requires c =
    let font = c.args.self.now in
    let reads = character_reads font.bytes.now font.places c.args.code font.read font.placed c.requires in
    omega (arith, reads.entry_fits, c.from.ensures)

pub word-requires : goal.word-requires
word-requires c =
    let font = c.args.self.now in
    let reads = character_reads font.bytes.now font.places c.args.code font.read font.placed c.requires in
    let index : c.italic_index-index.result ≡ reads.character.italic =
    c.italic_index-index.ensures.value
    ∙ (ap (λ (k : ℕ). (char_info (from_word font.bytes.now (font.places.characters + (k - font.places.first)))).italic) c.from.ensures
    ∙ ap (λ (i : CharInfo). i.italic) (sym reads.entry)) in
    omega (arith, reads.italic_fits, index)

pub returns-clause-value : goal.returns-clause-value
returns-clause-value c = λ character at.
    let font = c.args.self.now in
    let reads = character_reads font.bytes.now font.places c.args.code font.read font.placed c.requires in
    let index : c.italic_index-index.result ≡ reads.character.italic =
    c.italic_index-index.ensures.value
    ∙ (ap (λ (k : ℕ). (char_info (from_word font.bytes.now (font.places.characters + (k - font.places.first)))).italic) c.from.ensures
    ∙ ap (λ (i : CharInfo). i.italic) (sym reads.entry)) in
    let same : reads.character ≡ character = let e = reads.is in cc in
    same_word c.word.result _ c.word.ensures.fits
    (c.word.ensures.value
    ∙ (ap (λ (k : ℕ). signed_word (from_word font.bytes.now (font.places.italics + k))) index
    ∙ (sym reads.italic ∙ ap (italic_word (record_in font.bytes.now)) same)))

pub returns-clause-fits : goal.returns-clause-fits
returns-clause-fits c = word_fits c.word.result c.word.ensures.fits
