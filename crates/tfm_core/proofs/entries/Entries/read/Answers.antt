use Rattle.std.proofs.Common.{◌∙◌, ap, w32}
use Rattle.std.proofs.lemmas.Int.{to_z-of_z}
use Rattle.tfm_core.specs.MetricFile.{lig_kern_step}
use Rattle.tfm_core.specs.Words.{signed_word, table}
use Rattle.tfm_core.proofs.TableLemmas.{record_from_tables}
use Rattle.tfm_core.proofs.entries.Entries.read.Goals as goal

pub returns : goal.returns
returns c =
    let at = c.places_of-at.result in
    let bytes = c.args.bytes.now in
    record_from_tables c.args.counts c.args.bytes.now _ _ _ _ _ _ _ _ _ _ _ _
    c.places_of-at.ensures
    c.character_count.ensures.value
    (to_z-of_z w32 _ c.word.ensures.fits ∙ c.word.ensures.value)
    (to_z-of_z w32 _ c.word-2.ensures.fits ∙ c.word-2.ensures.value)
    c.in_ok-table.ensures
    (c.in_ok-table-2.ensures ∙ ap (table signed_word bytes at.widths) c.from.ensures)
    (c.in_ok-table-3.ensures ∙ ap (table signed_word bytes at.heights) c.from-2.ensures)
    (c.in_ok-table-4.ensures ∙ ap (table signed_word bytes at.depths) c.from-3.ensures)
    (c.in_ok-table-5.ensures ∙ ap (table signed_word bytes at.italics) c.from-4.ensures)
    (c.in_ok-table-6.ensures ∙ ap (table lig_kern_step bytes at.steps) c.from-5.ensures)
    (c.in_ok-table-7.ensures ∙ ap (table signed_word bytes at.kerns) c.from-6.ensures)
    (c.in_ok-table-8.ensures ∙ ap (table signed_word bytes at.parameters) c.from-7.ensures)
