-- The rows that are written, one after the other.
use Rattle.std.proofs.Common.{◌≡◌, ◌≤◌, ◌+◌, ◌-◌, ◌++◌, [], ◌∷◌, List, drop, length, take, ℕ, ℤ, Some, append-nil, append_assoc, arith, length-append, inl, inr, refl, sym, ◌∙◌, ap, subst, subst₂}
use Rattle.std.specs.Prelude.{◌⊎◌}
use Rattle.std.specs.Borrow.{Bor}
use Rattle.std.specs.List.{AllByRecursion}
use Rattle.scaled_core.proofs.EachOf.{all_back}
use Rattle.scaled_core.specs.Mark.{Mark}
use Rattle.dvi_ops.specs.File.{MarkedPage}
use Rattle.dvi_ops.specs.Fonts.{WidthsByName, widths_of}
use Rattle.dvi_ops.specs.Instruction.{Definition}
use Rattle.dvi_read.proofs.SeenLemmas.{more_marks, page_seen}
use Rattle.dvi_read.specs.PageMarks.{HasGlyphWidths, IsGlyphWidth, OfGlyph, marks_of}
use Rattle.dvi_read.specs.Seen.{SeenItemView, Counts, Marked, seen_of}
use Rattle.dvi_read.specs.ItemsLeft.{AreTextsLeft, EndsText, AreItemsLeft, PassesText, ShowsNext, TextEndsAt}
use Rattle.dvi_read.specs.declared.check.checked_file.CheckedFile.{CheckedFile}
use Rattle.dvi_read.specs.declared.seen_items.SeenItem.{SeenItem}
use Rattle.dvi_read.specs.declared.seen_items.SeenItem.TheVariants as seen_items
use Rattle.dvi_read.specs.declared.seen_items.SeenItems.{SeenItems}
use Rattle.dvi_scan.specs.View.{mark_of}
use Rattle.boxglue_calls.specs.Buffers.{Holds}
use Rattle.boxglue_calls.specs.MarkTables.{AreMarkRows, IsMarkRow, MarkOutputs, page_row, page_rows, text_start_of, text_starts}
use Rattle.boxglue_calls.specs.Private.MarkRows.{AddsMark, BeginsPage, CanBeWritten, HasPlace, HasRowsFor, HoldsRows, WritesItem, marks_among}
use Rattle.boxglue_calls.specs.Private.MarkRows.{pages_among, row_of}
use Rattle.boxglue_calls.specs.declared.mark_rows.RowProgress.{RowProgress}
use Rattle.boxglue_calls.specs.declared.mark_table.DviMark.{DviMark}
use Rattle.boxglue_calls.specs.declared.mark_table.DviPage.{DviPage}
use Rattle.boxglue_calls.proofs.MarkRowLaws.{is_row, length-pages, length-rows, start_of, starts_more, marks-among, marks-append, marks_seen_in, no_mark_first, one_seen, pages-among, pages_last, pages_seen_in, rows_more}
use Rattle.boxglue_calls.proofs.WrittenParts.{holds_last, holds_more, holds_none, same_length}

-- The last of the pages, and its row.
abbrev pub HasOpen : List MarkedPage → DviPage → Type 0
HasOpen shown row = (shown ≡ []) ⊎ (before : List MarkedPage) × (page : MarkedPage) × (shown ≡ before ++ page ∷ []) × (row ≡ page_row (length (marks_of before)) page)

-- The rows of the pages that were seen are written. The texts of their specials begin at these places.
pub record HasWritten (bytes : List ℕ) (metrics : WidthsByName) (table : List Definition) (old new : MarkOutputs) (w : RowProgress) (places : List ℕ) (shown : List MarkedPage) : Type 0 where
  pub rows : List DviMark
  pub are : AreMarkRows bytes (widths_of metrics table) rows (marks_of shown)
  pub starts : text_starts rows ≡ places
  pub pages : Holds old.pages new.pages (page_rows 0 shown)
  pub marks : Holds old.marks new.marks rows
  pub pages_count : w.pages ≡ length shown
  pub marks_count : w.marks ≡ length (marks_of shown)
  pub last : HasOpen shown w.row

-- A page that begins.
abbrev empty_page : List ℤ → MarkedPage
empty_page counts = record { counts = counts; marks = [] }

module _ (bytes : List ℕ) (metrics : WidthsByName) (table : List Definition) (old mid after : MarkOutputs) (w new : RowProgress) (places : List ℕ) (shown : List MarkedPage) (has : HasWritten bytes metrics table old mid w places shown) where
  page_more : (counts : List ℤ) → length shown + 1 ≤ length old.pages → BeginsPage counts w new mid.pages after.pages → after.marks ≡ mid.marks
      → HasWritten bytes metrics table old after new places (shown ++ empty_page counts ∷ [])
  page_more counts space begins same =
      let page = empty_page counts in
      let size : length (page_rows 0 shown) ≡ length shown = length-pages 0 shown in
      let here : w.pages ≡ length (page_rows 0 shown) = has.pages_count ∙ sym size in
      let row_is : new.row ≡ page_row (length (marks_of shown)) page = begins.row ∙ ap (λ (n : ℕ). page_row n page) has.marks_count in
      let put : after.pages ≡ take (length (page_rows 0 shown)) mid.pages ++ ((new.row ∷ []) ++ drop (length (page_rows 0 shown) + 1) mid.pages) =
      subst (λ (n : ℕ). after.pages ≡ take n mid.pages ++ ((new.row ∷ []) ++ drop (n + 1) mid.pages)) here begins.written in
      let rows_are : page_rows 0 shown ++ new.row ∷ [] ≡ page_rows 0 (shown ++ page ∷ []) =
      ap (λ (row : DviPage). page_rows 0 shown ++ row ∷ []) row_is ∙ sym (pages_last shown page) in
      let marks_are : marks_of (shown ++ page ∷ []) ≡ marks_of shown = marks-append shown page ∙ append-nil (marks_of shown) in
      let more : length (shown ++ page ∷ []) ≡ length shown + 1 = length-append shown (page ∷ []) in
      let count = begins.pages_count in
      let before = has.pages_count in
      let fits : length (page_rows 0 shown) + 1 ≤ length old.pages = omega arith in
      record {
        rows = has.rows;
        are = subst (λ (ms : List Mark). AreMarkRows bytes (widths_of metrics table) has.rows ms) (sym marks_are) has.are;
        starts = has.starts;
        pages = subst (λ (rows : List DviPage). Holds old.pages after.pages rows) rows_are
            (holds_more old.pages mid.pages after.pages (page_rows 0 shown) (new.row ∷ []) has.pages fits put);
        marks = subst (λ (rows : List DviMark). Holds old.marks rows has.rows) (sym same) has.marks;
        pages_count = omega arith;
        marks_count = begins.marks_count ∙ (has.marks_count ∙ ap (λ (ms : List Mark). length ms) (sym marks_are));
        last = inr (shown, page, refl, row_is);
      }

  mark_more : (row : DviMark) (mark : Mark) (before : List MarkedPage) (page : MarkedPage) → shown ≡ before ++ page ∷ [] → w.row ≡ page_row (length (marks_of before)) page
      → length (marks_of shown) + 1 ≤ length old.marks → IsMarkRow bytes (widths_of metrics table) row mark → AddsMark row w new mid after
      → HasWritten bytes metrics table old after new (places ++ text_start_of row) (before ++ record page { marks = page.marks ++ mark ∷ [] } ∷ [])
  mark_more row mark before page is row_is space is_row adds =
      let next : MarkedPage = record page { marks = page.marks ++ mark ∷ [] } in
      let start : ℕ = length (marks_of before) in
      let size : length (page_rows 0 before) ≡ length before = length-pages 0 before in
      let all : length shown ≡ length before + 1 = ap (λ (ps : List MarkedPage). length ps) is ∙ length-append before (page ∷ []) in
      let count = has.pages_count in
      let here : w.pages - 1 ≡ length (page_rows 0 before) = omega arith in
      let put : after.pages ≡ take (length (page_rows 0 before)) mid.pages ++ ((new.row ∷ []) ++ drop (length (page_rows 0 before) + 1) mid.pages) =
      subst (λ (n : ℕ). after.pages ≡ take n mid.pages ++ ((new.row ∷ []) ++ drop (n + 1) mid.pages)) here adds.page_written in
      let held : Holds old.pages mid.pages (page_rows 0 before ++ page_row start page ∷ []) =
      subst (λ (rows : List DviPage). Holds old.pages mid.pages rows) (ap (λ (ps : List MarkedPage). page_rows 0 ps) is ∙ pages_last before page) has.pages in
      let longer : length page.marks + 1 ≡ length (page.marks ++ mark ∷ []) = sym (length-append page.marks (mark ∷ [])) in
      let new_row : new.row ≡ page_row start next =
      adds.row ∙ (ap (λ (r : DviPage). record r { marks = r.marks + 1 }) row_is ∙ ap (λ (n : ℕ). record (page_row start page) { marks = n }) longer) in
      let rows_are : page_rows 0 before ++ new.row ∷ [] ≡ page_rows 0 (before ++ next ∷ []) =
      ap (λ (r : DviPage). page_rows 0 before ++ r ∷ []) new_row ∙ sym (pages_last before next) in
      let marks_shown : marks_of shown ≡ marks_of before ++ page.marks = ap marks_of is ∙ marks-append before page in
      let marks_are : marks_of shown ++ mark ∷ [] ≡ marks_of (before ++ next ∷ []) =
      ap (λ (ms : List Mark). ms ++ mark ∷ []) marks_shown ∙ (append_assoc (marks_of before) page.marks (mark ∷ []) ∙ sym (marks-append before next)) in
      let rows_size : length has.rows ≡ length (marks_of shown) = length-rows bytes metrics table has.rows (marks_of shown) has.are in
      let place : w.marks ≡ length has.rows = has.marks_count ∙ sym rows_size in
      let put_mark : after.marks ≡ take (length has.rows) mid.marks ++ ((row ∷ []) ++ drop (length has.rows + 1) mid.marks) =
      subst (λ (n : ℕ). after.marks ≡ take n mid.marks ++ ((row ∷ []) ++ drop (n + 1) mid.marks)) place adds.mark_written in
      let pages_size : length (before ++ next ∷ []) ≡ length before + 1 = length-append before (next ∷ []) in
      let marks_size : length (marks_of shown ++ mark ∷ []) ≡ length (marks_of shown) + 1 = length-append (marks_of shown) (mark ∷ []) in
      let marks_count = has.marks_count in
      let new_pages = adds.pages_count in
      let new_marks = adds.marks_count in
      let mark_fits : length has.rows + 1 ≤ length old.marks = omega arith in
      let count_is : new.marks ≡ length (marks_of shown ++ mark ∷ []) = omega arith in
      record {
        rows = has.rows ++ row ∷ [];
        are = subst (λ (ms : List Mark). AreMarkRows bytes (widths_of metrics table) (has.rows ++ row ∷ []) ms) marks_are (rows_more bytes metrics table has.rows (marks_of shown) row mark has.are is_row);
        starts = starts_more has.rows row places has.starts;
        pages = subst (λ (rows : List DviPage). Holds old.pages after.pages rows) rows_are
            (holds_last old.pages mid.pages after.pages (page_rows 0 before) (page_row start page) new.row held put);
        marks = holds_more old.marks mid.marks after.marks has.rows (row ∷ []) has.marks mark_fits put_mark;
        pages_count = omega arith;
        marks_count = count_is ∙ ap (λ (ms : List Mark). length ms) marks_are;
        last = inr (before, next, refl, new_row);
      }

-- What is written, and what is still to be seen.
pub record IsWriting (metrics : WidthsByName) (table : List Definition) (first : SeenItems) (old new : MarkOutputs) (w : RowProgress)
    (places : List ℕ) (all : List MarkedPage) (s : SeenItems) : Type 0 where
  pub shown : List MarkedPage
  pub rest : List SeenItemView
  pub passed : List ℕ
  pub left : List ℕ
  pub parts : seen_of all ≡ seen_of shown ++ rest
  pub remaining : AreItemsLeft s rest
  pub texts_parts : places ≡ passed ++ left
  pub texts : AreTextsLeft s left
  pub same : s.file ≡ first.file
  pub has : HasWritten first.file.now.bytes.now metrics table old new w passed shown

pub writing_first : (metrics : WidthsByName) (table : List Definition) (s : SeenItems) (old : MarkOutputs) (w : RowProgress) (places : List ℕ)
    (all : List MarkedPage) → CanBeWritten metrics table s old places all
    → w.pages ≡ 0 → w.marks ≡ 0 → IsWriting metrics table s old old w places all s
writing_first metrics table s old w places all can pages marks =
    record {
      shown = [];
      rest = seen_of all;
      passed = [];
      left = places;
      parts = refl;
      remaining = can.remaining;
      texts_parts = refl;
      texts = can.texts;
      same = refl;
      has = record {
        rows = [];
        are = tt;
        starts = refl;
        pages = holds_none old.pages;
        marks = holds_none old.marks;
        pages_count = pages;
        marks_count = marks;
        last = inl refl;
      };
    }

module _ (metrics : WidthsByName) (table : List Definition) (first : SeenItems) (old mid : MarkOutputs) (w : RowProgress) (places : List ℕ)
    (all : List MarkedPage) (s : SeenItems) (can : CanBeWritten metrics table first old places all)
    (writing : IsWriting metrics table first old mid w places all s) where
  abbrev shown : List MarkedPage
  shown = writing.shown

  -- Where a page comes next, there is space for its row.
  page_space : (counts : List ℤ) (later : List SeenItemView) → writing.rest ≡ Counts counts ∷ later → length shown + 1 ≤ length old.pages
  page_space counts later is =
      let parts : length all ≡ length shown + (pages_among later + 1) =
      sym (pages_seen_in all)
      ∙ (ap pages_among (writing.parts ∙ ap (λ (ss : List SeenItemView). seen_of shown ++ ss) is)
      ∙ (pages-among (seen_of shown) (Counts counts ∷ later) ∙ ap (λ (n : ℕ). n + (pages_among later + 1)) (pages_seen_in shown))) in
      let fit = can.pages_fit in omega arith

  -- Where a mark comes next, it is one of all.
  marks_parts : (mark : Mark) (later : List SeenItemView) → writing.rest ≡ Marked mark ∷ later
      → marks_of all ≡ marks_of shown ++ (mark ∷ marks_among later)
  marks_parts mark later is =
      sym (marks_seen_in all)
      ∙ (ap marks_among (writing.parts ∙ ap (λ (ss : List SeenItemView). seen_of shown ++ ss) is)
      ∙ (marks-among (seen_of shown) (Marked mark ∷ later) ∙ ap (λ (ms : List Mark). ms ++ (mark ∷ marks_among later)) (marks_seen_in shown)))

  mark_space : (mark : Mark) (later : List SeenItemView) → writing.rest ≡ Marked mark ∷ later → length (marks_of shown) + 1 ≤ length old.marks
  mark_space mark later is =
      let parts : length (marks_of all) ≡ length (marks_of shown) + length (mark ∷ marks_among later) =
      ap (λ (ms : List Mark). length ms) (marks_parts mark later is) ∙ length-append (marks_of shown) (mark ∷ marks_among later) in
      let fit = can.marks_fit in omega arith

  -- Some page is open there.
  opened : (mark : Mark) (later : List SeenItemView) → writing.rest ≡ Marked mark ∷ later
      → (before : List MarkedPage) × (page : MarkedPage) × (shown ≡ before ++ page ∷ []) × (w.row ≡ page_row (length (marks_of before)) page)
  opened mark later is = by_last writing.has.last
    where
      by_last : HasOpen shown w.row → (before : List MarkedPage) × (page : MarkedPage) × (shown ≡ before ++ page ∷ []) × (w.row ≡ page_row (length (marks_of before)) page)
      by_last (inl none) =
          absurd (no_mark_first all mark later (writing.parts ∙ (ap (λ (ps : List MarkedPage). seen_of ps ++ writing.rest) none ∙ is)))
      by_last (inr last) = last

  pub place_there : (new : SeenItems) (item : SeenItem) → ShowsNext writing.rest new (Some item) → HasPlace item w mid
  place_there new (seen_items.Page counts) (later, is, remaining) =
      let space = page_space counts later is in
      let count = writing.has.pages_count in
      let long = same_length old.pages mid.pages (page_rows 0 shown) writing.has.pages in omega arith
  place_there new (seen_items.Mark mark) (later, is, remaining) =
      let space = mark_space (mark_of mark) later is in
      let (before, page, shown_is, row_is) = opened (mark_of mark) later is in
      let count = writing.has.pages_count in
      let marks_count = writing.has.marks_count in
      let all_pages : length shown ≡ length before + 1 = ap (λ (ps : List MarkedPage). length ps) shown_is ∙ length-append before (page ∷ []) in
      let all_marks : length (marks_of shown) ≡ length (marks_of before) + length page.marks =
      ap (λ (ps : List MarkedPage). length (marks_of ps)) shown_is
      ∙ (ap (λ (ms : List Mark). length ms) (marks-append before page) ∙ length-append (marks_of before) page.marks) in
      let own : w.row.marks ≡ length page.marks = ap (λ (r : DviPage). r.marks) row_is in
      let rows : length (page_rows 0 shown) ≡ length shown = length-pages 0 shown in
      let fit = writing.has.pages.space in
      let long = same_length old.pages mid.pages (page_rows 0 shown) writing.has.pages in
      let long_marks = same_length old.marks mid.marks writing.has.rows writing.has.marks in
      (omega arith, omega arith, omega arith, omega arith)

  -- The glyph has its width in the fonts as they are now.
  glyph_now : (new : SeenItems) (mark : Mark) (later : List SeenItemView) → new.file ≡ first.file → writing.rest ≡ Marked mark ∷ later
      → OfGlyph (IsGlyphWidth metrics table new.file.now.fonts) mark
  glyph_now new mark later same is =
      let each = subst (λ (ms : List Mark). AllByRecursion (OfGlyph (IsGlyphWidth metrics table first.file.now.fonts)) ms) (marks_parts mark later is) can.widths.widths in
      let here : OfGlyph (IsGlyphWidth metrics table first.file.now.fonts) mark =
      (all_back (OfGlyph (IsGlyphWidth metrics table first.file.now.fonts)) (marks_of shown) (mark ∷ marks_among later) each).0 in
      subst (λ (file : Bor CheckedFile). OfGlyph (IsGlyphWidth metrics table file.now.fonts) mark) (sym same) here

  pub written_next : (new : SeenItems) (item : SeenItem) (w_new : RowProgress) (after : MarkOutputs) → new.file ≡ s.file
      → EndsText s.file.now.bytes.now new.at (Some item)
      → PassesText writing.left new (Some item) → ShowsNext writing.rest new (Some item) → WritesItem item new w w_new mid after
      → IsWriting metrics table first old after w_new places all new
  written_next new (seen_items.Page counts) w_new after same text (left, left_is, texts) (later, is, remaining) (begins, marks) =
      let page = empty_page counts in
      record {
        shown = shown ++ page ∷ [];
        rest = later;
        parts = writing.parts
            ∙ (ap (λ (ss : List SeenItemView). seen_of shown ++ ss) is
            ∙ (sym (append_assoc (seen_of shown) (Counts counts ∷ []) later)
            ∙ ap (λ (ss : List SeenItemView). ss ++ later) (sym (page_seen shown page))));
        remaining = remaining;
        passed = writing.passed;
        left = left;
        texts_parts = writing.texts_parts ∙ ap (λ (ps : List ℕ). writing.passed ++ ps) left_is;
        texts = texts;
        same = same ∙ writing.same;
        has = page_more first.file.now.bytes.now metrics table old mid after w w_new writing.passed shown writing.has counts
            (page_space counts later is) begins marks;
      }
  written_next new (seen_items.Mark mark) w_new after same text (left, left_is, texts) (later, is, remaining) adds =
      let m = mark_of mark in
      let (before, page, shown_is, row_is) = opened m later is in
      let next : MarkedPage = record page { marks = page.marks ++ m ∷ [] } in
      let all_same = same ∙ writing.same in
      let ends : TextEndsAt first.file.now.bytes.now new.at m = subst (λ (file : Bor CheckedFile). TextEndsAt file.now.bytes.now new.at m) writing.same text in
      let row = is_row first.file.now.bytes.now metrics table new.file.now.fonts new.at m (glyph_now new m later all_same is) ends in
      let start : List ℕ = text_start_of (row_of new.file.now.fonts new.at m) in
      let left_parts : writing.left ≡ start ++ left = left_is ∙ ap (λ (ps : List ℕ). ps ++ left) (sym (start_of new.file.now.fonts new.at m)) in
      let seen : seen_of shown ++ (Marked m ∷ []) ≡ seen_of (before ++ next ∷ []) =
      ap (λ (ss : List SeenItemView). ss ++ (Marked m ∷ [])) (ap (λ (ps : List MarkedPage). seen_of ps) shown_is ∙ page_seen before page)
      ∙ (sym (more_marks before page.counts page.marks (m ∷ [])) ∙ sym (page_seen before next)) in
      record {
        shown = before ++ next ∷ [];
        rest = later;
        parts = writing.parts
            ∙ (ap (λ (ss : List SeenItemView). seen_of shown ++ ss) is
            ∙ (sym (append_assoc (seen_of shown) (Marked m ∷ []) later) ∙ ap (λ (ss : List SeenItemView). ss ++ later) seen));
        remaining = remaining;
        passed = writing.passed ++ start;
        left = left;
        texts_parts = writing.texts_parts ∙ (ap (λ (ps : List ℕ). writing.passed ++ ps) left_parts ∙ sym (append_assoc writing.passed start left));
        texts = texts;
        same = all_same;
        has = mark_more first.file.now.bytes.now metrics table old mid after w w_new writing.passed shown writing.has
            (row_of new.file.now.fonts new.at m) m before page shown_is row_is (mark_space m later is) row adds;
      }

  pub written_all : writing.rest ≡ [] → writing.left ≡ [] → HoldsRows metrics table first.file.now.bytes.now old mid places all
  written_all none no_texts =
      let whole : seen_of all ≡ seen_of shown =
      writing.parts ∙ (ap (λ (ss : List SeenItemView). seen_of shown ++ ss) none ∙ append-nil (seen_of shown)) in
      let is : shown ≡ all = sym (one_seen all shown whole) in
      record {
        pages = subst (λ (ps : List MarkedPage). Holds old.pages mid.pages (page_rows 0 ps)) is writing.has.pages;
        rows = writing.has.rows;
        are = subst (λ (ps : List MarkedPage). AreMarkRows first.file.now.bytes.now (widths_of metrics table) writing.has.rows (marks_of ps)) is writing.has.are;
        starts = writing.has.starts ∙ (sym (append-nil writing.passed) ∙ (ap (λ (ps : List ℕ). writing.passed ++ ps) (sym no_texts) ∙ sym writing.texts_parts));
        marks = writing.has.marks;
      }

-- The rows of the marks that were counted.
pub record HasCounted (metrics : WidthsByName) (table : List Definition) (first : SeenItems) (places : List ℕ) (seen : List SeenItemView)
    (s : SeenItems) : Type 0 where
  pub done : List Mark
  pub rest : List SeenItemView
  pub passed : List ℕ
  pub left : List ℕ
  pub remaining : AreItemsLeft s rest
  pub parts : marks_among seen ≡ done ++ marks_among rest
  pub texts_parts : places ≡ passed ++ left
  pub texts : AreTextsLeft s left
  pub rows : HasRowsFor metrics table first.file.now.bytes.now passed done

pub counted_row : (metrics : WidthsByName) (table : List Definition) (first : SeenItems) (places : List ℕ) (seen : List SeenItemView)
    (s new : SeenItems) (item : SeenItem) → HasGlyphWidths metrics table first.file.now.fonts (marks_among seen)
    → s.file ≡ first.file → new.file ≡ s.file → EndsText s.file.now.bytes.now new.at (Some item) → (c : HasCounted metrics table first places seen s)
    → PassesText c.left new (Some item) → ShowsNext c.rest new (Some item)
    → HasCounted metrics table first places seen new
counted_row metrics table first places seen s new (seen_items.Page counts) widths before same text c (left, left_is, texts) (later, is, remaining) =
    record {
      done = c.done;
      rest = later;
      passed = c.passed;
      left = left;
      remaining = remaining;
      parts = c.parts ∙ ap (λ (ss : List SeenItemView). c.done ++ marks_among ss) is;
      texts_parts = c.texts_parts ∙ ap (λ (ps : List ℕ). c.passed ++ ps) left_is;
      texts = texts;
      rows = c.rows;
    }
counted_row metrics table first places seen s new (seen_items.Mark mark) widths before same text c (left, left_is, texts) (later, is, remaining) =
    let m = mark_of mark in
    let parts : marks_among seen ≡ c.done ++ (m ∷ marks_among later) = c.parts ∙ ap (λ (ss : List SeenItemView). c.done ++ marks_among ss) is in
    let each = subst (λ (ms : List Mark). AllByRecursion (OfGlyph (IsGlyphWidth metrics table first.file.now.fonts)) ms) parts widths.widths in
    let here : OfGlyph (IsGlyphWidth metrics table first.file.now.fonts) m =
    (all_back (OfGlyph (IsGlyphWidth metrics table first.file.now.fonts)) c.done (m ∷ marks_among later) each).0 in
    let now : OfGlyph (IsGlyphWidth metrics table new.file.now.fonts) m = subst (λ (file : Bor CheckedFile). OfGlyph (IsGlyphWidth metrics table file.now.fonts) m) (sym (same ∙ before)) here in
    let ends : TextEndsAt first.file.now.bytes.now new.at m = subst (λ (file : Bor CheckedFile). TextEndsAt file.now.bytes.now new.at m) before text in
    let row = is_row first.file.now.bytes.now metrics table new.file.now.fonts new.at m now ends in
    let made : DviMark = row_of new.file.now.fonts new.at m in
    let start : List ℕ = text_start_of made in
    let left_parts : c.left ≡ start ++ left = left_is ∙ ap (λ (ps : List ℕ). ps ++ left) (sym (start_of new.file.now.fonts new.at m)) in
    let (rows, are, starts) = c.rows in
    record {
      done = c.done ++ m ∷ [];
      rest = later;
      passed = c.passed ++ start;
      left = left;
      remaining = remaining;
      parts = parts ∙ sym (append_assoc c.done (m ∷ []) (marks_among later));
      texts_parts = c.texts_parts ∙ (ap (λ (ps : List ℕ). c.passed ++ ps) left_parts ∙ sym (append_assoc c.passed start left));
      texts = texts;
      rows = (rows ++ made ∷ [], rows_more first.file.now.bytes.now metrics table rows c.done made m are row, starts_more rows made c.passed starts);
    }

pub counted_rows : (metrics : WidthsByName) (table : List Definition) (first : SeenItems) (places : List ℕ) (seen : List SeenItemView) (s : SeenItems)
    (c : HasCounted metrics table first places seen s) → c.rest ≡ [] → c.left ≡ []
    → HasRowsFor metrics table first.file.now.bytes.now places (marks_among seen)
counted_rows metrics table first places seen s c none no_texts =
    let whole : marks_among seen ≡ c.done = c.parts ∙ (ap (λ (ss : List SeenItemView). c.done ++ marks_among ss) none ∙ append-nil c.done) in
    let all : places ≡ c.passed = c.texts_parts ∙ (ap (λ (ps : List ℕ). c.passed ++ ps) no_texts ∙ append-nil c.passed) in
    subst₂ (λ (ps : List ℕ) (ms : List Mark). HasRowsFor metrics table first.file.now.bytes.now ps ms) (sym all) (sym whole) c.rows

-- The glyphs have their widths in the same file.
pub same_widths : (metrics : WidthsByName) (table : List Definition) (a b : SeenItems) (marks : List Mark) → b.file ≡ a.file
    → HasGlyphWidths metrics table a.file.now.fonts marks
    → HasGlyphWidths metrics table b.file.now.fonts marks
same_widths metrics table a b marks same has = subst (λ (file : Bor CheckedFile). HasGlyphWidths metrics table file.now.fonts marks) (sym same) has

-- One more row is counted.
pub counted_next : (rest later : List SeenItemView) (seen : SeenItemView) (pages marks pages_new marks_new pages_all marks_all : ℕ)
    → rest ≡ seen ∷ later → pages + pages_among rest ≡ pages_all
    → marks + length (marks_among rest) ≡ marks_all → pages_new ≡ pages + pages_among (seen ∷ []) → marks_new ≡ marks + length (marks_among (seen ∷ []))
    → (pages_new + pages_among later ≡ pages_all) × (marks_new + length (marks_among later) ≡ marks_all)
counted_next rest later (Counts counts) pages marks pages_new marks_new pages_all marks_all is have have_marks one one_mark =
    let size : pages_among rest ≡ pages_among later + 1 = ap pages_among is in
    let marks_size : length (marks_among rest) ≡ length (marks_among later) = ap (λ (ss : List SeenItemView). length (marks_among ss)) is in
    (omega arith, omega arith)
counted_next rest later (Marked mark) pages marks pages_new marks_new pages_all marks_all is have have_marks one one_mark =
    let size : pages_among rest ≡ pages_among later = ap pages_among is in
    let marks_size : length (marks_among rest) ≡ length (mark ∷ marks_among later) = ap (λ (ss : List SeenItemView). length (marks_among ss)) is in
    (omega arith, omega arith)
