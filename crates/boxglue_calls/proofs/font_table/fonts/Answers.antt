-- The table, as it is handed over.
use Rattle.std.proofs.Common.{◌≡◌, inr, length, rules}
use Rattle.boxglue_calls.proofs.FontTableLaws.{handed_fonts}
use Rattle.boxglue_calls.proofs.font_table.fonts.Goals as goal

pub returns-in-Ok-clause-done : goal.returns-in-Ok-clause-done
returns-in-Ok-clause-done c =
    let table = c.in-Ok.table in
    let fonts_size : c.len.result ≡ length table.fonts.items = search rules in
    let text_size : c.len-in-Ok.result ≡ length table.text.items = search rules in
    inr (handed_fonts c.args.dvi.now _ _ _ _ _ c.file_status.result c.hand_over_both.result table.fonts.items _ table.text.items _ table.accepted c.in-Ok.ensures c.deref.ensures.value
    c.deref-in-Ok.ensures.value c.file_status.ensures c.hand_over_both.ensures fonts_size text_size)
