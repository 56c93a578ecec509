-- The rows fit and are written, or they do not.
use Rattle.std.proofs.Common.{◌≡◌, ◌≤◌, ◌++◌, ◌∙◌, [], false, true, List, ℕ, ap, length, rules, subst, sym}
use Rattle.std.specs.Borrow.{Bor}
use Rattle.dvi_ops.specs.File.{MarkedPage}
use Rattle.dvi_ops.specs.Fonts.{definitions}
use Rattle.dvi_ops.specs.Tokens.{token_instructions}
use Rattle.dvi_read.proofs.AgainLemmas.{same_pages}
use Rattle.dvi_read.proofs.TextLemmas.{all_remaining}
use Rattle.dvi_read.specs.PageMarks.{HasGlyphWidths, marks_of, text_places}
use Rattle.dvi_read.specs.Seen.{seen_of}
use Rattle.dvi_read.specs.ItemsLeft.{HasCheckedTexts, AreItemsLeft}
use Rattle.dvi_read.specs.declared.check.checked_file.CheckedFile.{CheckedFile}
use Rattle.dvi_read.specs.declared.seen_items.SeenItems.{SeenItems}
use Rattle.scaled_core.specs.Mark.{Mark}
use Rattle.tfm_core.specs.FileWidths.{file_widths}
use Rattle.tfm_core.specs.NamedBytes.{NamedBytes}
use Rattle.dvi_ops.specs.declared.op.Units.{Units as UnitsOf}
use Rattle.boxglue_calls.specs.MarkTables.{MarkOutputs, mark_outputs}
use Rattle.boxglue_calls.specs.Private.MarkFiles.{IsChecked}
use Rattle.boxglue_calls.specs.Private.MarkRows.{CanBeWritten, HasRowsFor, HoldsRows}
use Rattle.boxglue_calls.proofs.MarkRowLaws.{marks_seen_in, pages_seen_in}
use Rattle.boxglue_calls.proofs.MarkTableLaws.{rows_handed, rows_lack}
use Rattle.boxglue_calls.proofs.RowSteps.{same_widths}
use Rattle.boxglue_calls.proofs.mark_table.hand_over_rows.Goals as goal

-- All is known that the second walk needs.
can_write : (files : List NamedBytes) (bytes : List ℕ) (units : UnitsOf) (first new : SeenItems) (all : List MarkedPage)
    (checked : IsChecked files bytes units first all) (buffers : MarkOutputs) (pages marks : ℕ)
    → new.file ≡ first.file → AreItemsLeft new (seen_of all) → new.at ≡ new.file.now.from → pages ≡ length all → marks ≡ length (marks_of all)
    → (pages ≤ length buffers.pages) × (marks ≤ length buffers.marks)
    → CanBeWritten (file_widths files) (definitions (token_instructions checked.file.frame.front ++ token_instructions checked.file.frame.tail)) new buffers (text_places 0 checked.file.frame.front) all
can_write files bytes units first new all checked buffers pages marks same remaining begun pages_is marks_is (pages_fit, marks_fit) =
    record {
      remaining = remaining;
      texts = all_remaining new (text_places 0 checked.file.frame.front) begun
          (subst (λ (file : Bor CheckedFile). HasCheckedTexts file.now (text_places 0 checked.file.frame.front)) (sym same) checked.texts);
      widths = same_widths (file_widths files) (definitions (token_instructions checked.file.frame.front ++ token_instructions checked.file.frame.tail)) first new (marks_of all) same checked.widths;
      pages_fit = subst (λ (n : ℕ). n ≤ length buffers.pages) pages_is pages_fit;
      marks_fit = subst (λ (n : ℕ). n ≤ length buffers.marks) marks_is marks_fit;
    }

pub count_rows-counts-requires : goal.count_rows-counts-requires
count_rows-counts-requires c = let (files, bytes, all, checked) = c.requires in (seen_of all, checked.remaining)

pub rewind-requires : goal.rewind-requires
rewind-requires c = c.count_rows-counts.ensures.remaining

pub write_rows-requires : goal.write_rows-requires
write_rows-requires c =
    let (files, bytes, all, checked) = c.requires in
    let first = c.args.seen_items.now in
    let counted = c.count_rows-counts.ensures in
    let fact : c.have_space.result ≡ true = search rules in (
      file_widths files,
      definitions (token_instructions checked.file.frame.front ++ token_instructions checked.file.frame.tail),
      text_places 0 checked.file.frame.front,
      all,
      can_write files bytes c.args.units first c.rewind.new.self all checked (mark_outputs c.args.pages.now c.args.marks.now []) c.count_rows-counts.result.pages c.count_rows-counts.result.marks
          (c.rewind.ensures.same ∙ counted.same)
          (c.rewind.ensures.remaining all (same_pages first c.count_rows-counts.new.seen_items all counted.same checked.all)) c.rewind.ensures.place
          (counted.pages (seen_of all) checked.remaining ∙ pages_seen_in all)
          (counted.marks (seen_of all) checked.remaining ∙ ap (λ (ms : List Mark). length ms) (marks_seen_in all)) (c.have_space.ensures.yes fact),
    )

pub returns-then-not-have_space : goal.returns-then-not-have_space
returns-then-not-have_space c = λ files bytes all text checked.
    let counted = c.count_rows-counts.ensures in
    let sizes = c.sizes_of.ensures in
    let first = c.args.seen_items.now in
    let pages_is = counted.pages (seen_of all) checked.remaining ∙ pages_seen_in all in
    let marks_is = counted.marks (seen_of all) checked.remaining ∙ ap (λ (ms : List Mark). length ms) (marks_seen_in all) in
    let metrics = file_widths files in
    let defined = definitions (token_instructions checked.file.frame.front ++ token_instructions checked.file.frame.tail) in
    let widths = subst (λ (ms : List Mark). HasGlyphWidths metrics defined first.file.now.fonts ms) (sym (marks_seen_in all)) checked.widths in
    let places = text_places 0 checked.file.frame.front in
    let rows = subst (λ (ms : List Mark). HasRowsFor metrics defined first.file.now.bytes.now places ms) (marks_seen_in all)
    (counted.rows metrics defined places (seen_of all) checked.remaining (all_remaining first places checked.begun checked.texts) widths) in
    let fact : c.have_space.result ≡ false = search rules in
    rows_lack files bytes c.args.units first all checked c.sizes_of.result (sizes.pages ∙ pages_is) (sizes.marks ∙ marks_is) sizes.text sizes.units rows c.args.pages.now c.args.marks.now text
    c.count_rows-counts.result.pages c.count_rows-counts.result.marks pages_is marks_is (c.have_space.ensures.no fact)

pub returns : goal.returns
returns c = λ files bytes all text checked.
    let counted = c.count_rows-counts.ensures in
    let sizes = c.sizes_of.ensures in
    let first = c.args.seen_items.now in
    let pages_is = counted.pages (seen_of all) checked.remaining ∙ pages_seen_in all in
    let marks_is = counted.marks (seen_of all) checked.remaining ∙ ap (λ (ms : List Mark). length ms) (marks_seen_in all) in
    let defined = definitions (token_instructions checked.file.frame.front ++ token_instructions checked.file.frame.tail) in
    let fact : c.have_space.result ≡ true = search rules in
    let same = c.rewind.ensures.same ∙ counted.same in
    let before = mark_outputs c.args.pages.now c.args.marks.now [] in
    let can = can_write files bytes c.args.units first c.rewind.new.self all checked before c.count_rows-counts.result.pages c.count_rows-counts.result.marks same
    (c.rewind.ensures.remaining all (same_pages first c.count_rows-counts.new.seen_items all counted.same checked.all)) c.rewind.ensures.place
    pages_is marks_is (c.have_space.ensures.yes fact) in
    let places = text_places 0 checked.file.frame.front in
    let written = c.write_rows.ensures (file_widths files) defined places all can in
    rows_handed files bytes c.args.units first all checked c.sizes_of.result (sizes.pages ∙ pages_is) (sizes.marks ∙ marks_is) sizes.text sizes.units c.args.pages.now c.write_rows.new.pages c.args.marks.now
    c.write_rows.new.marks text
    (subst (λ (file : Bor CheckedFile). HoldsRows (file_widths files) defined file.now.bytes.now before (mark_outputs c.write_rows.new.pages c.write_rows.new.marks []) places all) same written)
