-- The tables of a file, and how they are handed over.
use Rattle.std.proofs.Common.{◌≡◌, ◌≢◌, ◌≤◌, ◌<◌, ◌+◌, ◌/◌, ◌++◌, [], Bool, true, false, List, length, ℕ, arith, inl, inr, refl, sym, ◌∙◌, ap, subst}
use Rattle.std.specs.Prelude.{◌⊎◌}
use Rattle.dvi_ops.specs.File.{Frame, IsFile, MarkedPage}
use Rattle.dvi_ops.specs.Fonts.{definitions, widths_of}
use Rattle.dvi_ops.specs.Instruction.{Definition}
use Rattle.dvi_ops.specs.Tokens.{token_instructions}
use Rattle.dvi_ops.specs.View.{units as view_units}
use Rattle.dvi_ops.specs.declared.op.Units.{Units as UnitsOf}
use Rattle.dvi_read.specs.Opened.{HasUnitsOf, OpenedFile}
use Rattle.dvi_read.specs.PageMarks.{HasGlyphWidths, HasSpaceFor, marks_of, text_places}
use Rattle.dvi_read.specs.Seen.{seen_of}
use Rattle.dvi_read.specs.ItemsLeft.{HasCheckedPages, HasCheckedTexts, AreItemsLeft}
use Rattle.dvi_read.specs.declared.check.checked_file.CheckedFile.{CheckedFile}
use Rattle.dvi_read.specs.declared.seen_items.SeenItems.{SeenItems}
use Rattle.tfm_core.specs.FileWidths.{file_widths}
use Rattle.tfm_core.specs.NamedBytes.{NamedBytes}
use Rattle.boxglue_calls.specs.Buffers.{HandsOver}
use Rattle.boxglue_calls.specs.Private.MarkFiles.{FitsIn, HandsOverFully, IsChecked, IsRefusal}
use Rattle.boxglue_calls.specs.Private.MarkRows.{HasRowsFor, HoldsRows}
use Rattle.boxglue_calls.specs.MarkTables.{AreMarkRows, HandsOverAll, LacksSpace, MarkOutputs, mark_outputs, no_units, page_rows, text_starts}
use Rattle.boxglue_calls.specs.Pages.{read_status}
use Rattle.boxglue_calls.specs.declared.mark_table.DviMark.{DviMark}
use Rattle.boxglue_calls.specs.declared.mark_table.DviPage.{DviPage}
use Rattle.boxglue_calls.specs.declared.mark_table.MarkSizes.{MarkSizes}
use Rattle.boxglue_calls.proofs.MarkRowLaws.{length-pages, length-rows}
use Rattle.boxglue_calls.proofs.WrittenParts.{holds_none}

-- A file that was opened, and what is to be seen of it.
pub opened_checked : (files : List NamedBytes) (bytes : List ℕ) (dvi : OpenedFile) (units : UnitsOf) (s : SeenItems)
    → (file : IsFile (file_widths files) bytes dvi.pages) → HasUnitsOf bytes dvi → dvi.file.bytes.now ≡ bytes
    → ((f : Frame bytes) → HasGlyphWidths (file_widths files) (definitions (token_instructions f.front ++ token_instructions f.tail)) dvi.file.fonts
    (marks_of dvi.pages)) → HasSpaceFor bytes dvi.pages
    → ((f : Frame bytes) → HasCheckedTexts dvi.file (text_places 0 f.front)) → view_units units ≡ dvi.units → AreItemsLeft s (seen_of dvi.pages)
    → HasCheckedPages s.file.now dvi.pages → s.at ≡ s.file.now.from
    → s.file.now ≡ dvi.file → IsChecked files bytes units s dvi.pages
opened_checked files bytes dvi units s file units_are bytes_are widths space texts units_is remaining all begun same =
    record {
      file = file;
      units_are = units_is ∙ units_are file.frame;
      remaining = remaining;
      all = all;
      texts = subst (λ (f : CheckedFile). HasCheckedTexts f (text_places 0 file.frame.front)) (sym same) (texts file.frame);
      begun = begun;
      bytes_are = ap (λ (f : CheckedFile). f.bytes.now) same ∙ bytes_are;
      widths = subst (λ (f : CheckedFile). HasGlyphWidths (file_widths files) (definitions (token_instructions file.frame.front ++ token_instructions file.frame.tail)) f.fonts (marks_of dvi.pages)) (sym same)
          (widths file.frame);
      space = space;
    }

-- The tables of a checked file.
module _ (files : List NamedBytes) (bytes : List ℕ) (units : UnitsOf) (s : SeenItems) (all : List MarkedPage)
    (checked : IsChecked files bytes units s all) (sizes : MarkSizes)
    (pages_size : sizes.pages ≡ length all) (marks_size : sizes.marks ≡ length (marks_of all)) (text_size : sizes.text ≡ 0)
    (units_is : view_units units ≡ record { num = sizes.num; den = sizes.den; mag = sizes.mag }) where
  abbrev pub table : List Definition
  table = definitions (token_instructions checked.file.frame.front ++ token_instructions checked.file.frame.tail)

  abbrev pub places : List ℕ
  places = text_places 0 checked.file.frame.front

  handed_rows : (rows : List DviMark) → AreMarkRows bytes (widths_of (file_widths files) table) rows (marks_of all) → text_starts rows ≡ places → (old new : MarkOutputs) (status : ℕ)
      → HandsOverAll old new (mark_outputs (page_rows 0 all) rows []) 0 status → HandsOverFully files bytes old new sizes status
  handed_rows rows are starts old new status handed =
      let pages : length (page_rows 0 all) ≡ length all = length-pages 0 all in
      let marks : length rows ≡ length (marks_of all) = length-rows bytes (file_widths files) table rows (marks_of all) are in
      let few = checked.space.marks_fit in
      let low = checked.space.pages_fit in (
        record {
          outputs = mark_outputs (page_rows 0 all) rows [];
          accepted = true;
          table = inl (record { pages = all; file = checked.file; rows_are = refl; marks_are = are; starts_are = starts; units_are = sym units_is ∙ checked.units_are }, refl, refl);
          handed = handed;
          pages_size = pages_size ∙ sym pages;
          marks_size = marks_size ∙ sym marks;
          text_size = text_size;
        },
        record { pages_fit = omega arith; marks_fit = omega arith; text_fits = omega arith },
      )

  pub rows_lack : HasRowsFor (file_widths files) table s.file.now.bytes.now places (marks_of all) → (pages : List DviPage) (marks : List DviMark) (text : List ℕ) (n m : ℕ) → n ≡ length all → m ≡ length (marks_of all)
      → (length pages < n) ⊎ (length marks < m) → HandsOverFully files bytes (mark_outputs pages marks text) (mark_outputs pages marks text) sizes 4
  rows_lack (rows, are, starts) pages marks text n m n_is m_is few =
      let here = subst (λ (b : List ℕ). AreMarkRows b (widths_of (file_widths files) table) rows (marks_of all)) checked.bytes_are are in
      let pages_is : length (page_rows 0 all) ≡ length all = length-pages 0 all in
      let marks_is : length rows ≡ length (marks_of all) = length-rows bytes (file_widths files) table rows (marks_of all) here in
      handed_rows rows here starts (mark_outputs pages marks text) (mark_outputs pages marks text) 4 (inr (lacks rows pages_is marks_is few, refl, refl, refl, refl))
    where
      lacks : (rows : List DviMark) → length (page_rows 0 all) ≡ length all → length rows ≡ length (marks_of all) → (length pages < n) ⊎ (length marks < m)
          → LacksSpace (mark_outputs pages marks text) (mark_outputs (page_rows 0 all) rows [])
      lacks rows pages_is marks_is (inl few) = inl (omega arith)
      lacks rows pages_is marks_is (inr few) = inr (inl (omega arith))

  pub rows_handed : (pages pages_new : List DviPage) (marks marks_new : List DviMark) (text : List ℕ) → HoldsRows (file_widths files) table s.file.now.bytes.now (mark_outputs pages marks []) (mark_outputs pages_new marks_new []) places all
      → HandsOverFully files bytes (mark_outputs pages marks text) (mark_outputs pages_new marks_new text) sizes 0
  rows_handed pages pages_new marks marks_new text has =
      let here = subst (λ (b : List ℕ). AreMarkRows b (widths_of (file_widths files) table) has.rows (marks_of all)) checked.bytes_are has.are in
      handed_rows has.rows here has.starts (mark_outputs pages marks text) (mark_outputs pages_new marks_new text) 0 (inl (has.pages, has.marks, holds_none text, refl))

-- The line of a refusal.
pub refusal_handed : (files : List NamedBytes) (bytes line : List ℕ) (pages : List DviPage) (marks : List DviMark) (text text_new : List ℕ) (sizes : MarkSizes) (status : ℕ) → IsRefusal files bytes line
    → HandsOver text text_new line 1 status → sizes.pages ≡ 0 → sizes.marks ≡ 0 → sizes.text ≡ length line
    → no_units ≡ record { num = sizes.num; den = sizes.den; mag = sizes.mag }
    → HandsOverFully files bytes (mark_outputs pages marks text) (mark_outputs pages marks text_new) sizes status
refusal_handed files bytes line pages marks text text_new sizes status refusal handed pages_size marks_size text_size units =
    let short = refusal.short in (
      record {
        outputs = mark_outputs [] [] line;
        accepted = false;
        table = inr (refusal.refuses, refl, refl, sym units);
        handed = by_text handed;
        pages_size = pages_size;
        marks_size = marks_size;
        text_size = text_size;
      },
      record { pages_fit = omega arith; marks_fit = omega arith; text_fits = short },
    )
  where
    by_text : HandsOver text text_new line 1 status → HandsOverAll (mark_outputs pages marks text) (mark_outputs pages marks text_new) (mark_outputs [] [] line) (read_status false) status
    by_text (inl (holds, is)) = inl (holds_none pages, holds_none marks, holds, is)
    by_text (inr (few, same, is)) = inr (inr (inr few), refl, refl, same, is)

-- The status of a file that was read is 0 or 1.
done_small : (accepted : Bool) (done : ℕ) → done ≡ read_status accepted → done ≤ 1
done_small true done is = omega arith
done_small false done is = omega arith

-- The status of what is handed over is neither 2 nor 3.
pub handed_loud : (files : List NamedBytes) (bytes : List ℕ) (old new : MarkOutputs) (sizes : MarkSizes) (status : ℕ) → HandsOverFully files bytes old new sizes status → (status ≡ 2) ⊎ (status ≡ 3) → ⊥
handed_loud files bytes old new sizes status (h, fits) silent = by_status (done_small h.accepted (read_status h.accepted) refl) h.handed silent
  where
    by_status : read_status h.accepted ≤ 1 → HandsOverAll old new h.outputs (read_status h.accepted) status → (status ≡ 2) ⊎ (status ≡ 3) → ⊥
    by_status small (inl (pages, marks, text, is)) (inl two) = absurd (omega arith)
    by_status small (inl (pages, marks, text, is)) (inr three) = absurd (omega arith)
    by_status small (inr (few, pages, marks, text, is)) (inl two) = absurd (omega arith)
    by_status small (inr (few, pages, marks, text, is)) (inr three) = absurd (omega arith)

-- The buffers that always suffice.
lacks_none : (size : ℕ) (old outputs : MarkOutputs) → FitsIn size outputs → size / 46 ≤ length old.pages → size ≤ length old.marks
    → 64 ≤ length old.text → LacksSpace old outputs → ⊥
lacks_none size old outputs fits pages_space marks_space text_space (inl few) = let fit = fits.pages_fit in absurd (omega arith)
lacks_none size old outputs fits pages_space marks_space text_space (inr (inl few)) = let fit = fits.marks_fit in absurd (omega arith)
lacks_none size old outputs fits pages_space marks_space text_space (inr (inr few)) = let fit = fits.text_fits in absurd (omega arith)

pub spaces_suffice : (files : List NamedBytes) (bytes : List ℕ) (old new : MarkOutputs) (sizes : MarkSizes) (status : ℕ)
    → HandsOverFully files bytes old new sizes status
    → length bytes / 46 ≤ length old.pages → length bytes ≤ length old.marks → 64 ≤ length old.text → status ≢ 4
spaces_suffice files bytes old new sizes status (h, fits) pages_space marks_space text_space four =
    by_status (done_small h.accepted (read_status h.accepted) refl) h.handed
  where
    by_status : read_status h.accepted ≤ 1 → HandsOverAll old new h.outputs (read_status h.accepted) status → ⊥
    by_status small (inl (pages, marks, text, is)) = absurd (omega arith)
    by_status small (inr (few, pages, marks, text, is)) = lacks_none (length bytes) old h.outputs fits pages_space marks_space text_space few
