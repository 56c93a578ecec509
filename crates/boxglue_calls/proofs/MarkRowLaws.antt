-- The rows of marks and of pages.
use Rattle.std.proofs.Common.{◌≡◌, ◌<◌, ◌+◌, ◌-◌, ◌^◌, ◌++◌, [], ◌∷◌, List, length, map, ℕ, ℤ, pos, Option, append-nil, arith, length-append, refl, sym, ◌∙◌, ap, lt-ltb}
use Rattle.std.specs.Prelude.{unwrap_or}
use Rattle.std.proofs.lemmas.Grind.{flat_map-append}
use Rattle.dvi_ops.specs.File.{MarkedPage}
use Rattle.dvi_ops.specs.Fonts.{WidthsByName, widths_of}
use Rattle.dvi_ops.specs.Instruction.{Definition}
use Rattle.dvi_read.specs.PageMarks.{IsGlyphWidth, OfGlyph, marks_of, text_in}
use Rattle.dvi_read.specs.Seen.{SeenItemView, Counts, Marked, seen_of, seen_on}
use Rattle.dvi_read.specs.ItemsLeft.{TextEndsAt}
use Rattle.dvi_read.specs.declared.fonts.ReadFonts.{ReadFonts}
use Rattle.scaled_core.specs.Mark.{Mark, Glyph, Rule, Special}
use Rattle.boxglue_calls.specs.Private.MarkRows.{marks_among, pages_among, row_of, size_of}
use Rattle.boxglue_calls.specs.MarkTables.{AreMarkRows, IsMarkRow, glyph_row, page_row, page_rows, special_row, text_start_of, text_starts}
use Rattle.boxglue_calls.specs.declared.mark_table.DviMark.{DviMark}
use Rattle.boxglue_calls.specs.declared.mark_table.DviPage.{DviPage}

-- One page more.
pub marks-append : (pages : List MarkedPage) (page : MarkedPage) → marks_of (pages ++ page ∷ []) ≡ marks_of pages ++ page.marks
marks-append pages page = flat_map-append (λ (p : MarkedPage). p.marks) pages (page ∷ []) ∙ ap (λ (ms : List Mark). marks_of pages ++ ms) (append-nil page.marks)

pages_more : (start : ℕ) (pages : List MarkedPage) (page : MarkedPage) → page_rows start (pages ++ page ∷ []) ≡ page_rows start pages ++ page_row (start + length (marks_of pages)) page ∷ []
pages_more start [] page = let same : start ≡ start + 0 = omega arith in ap (λ (n : ℕ). page_row n page ∷ []) same
pages_more start (first ∷ rest) page =
    let size = length-append first.marks (marks_of rest) in
    let same : start + length first.marks + length (marks_of rest) ≡ start + length (first.marks ++ marks_of rest) = omega arith in
    ap (λ (rows : List DviPage). page_row start first ∷ rows)
    (pages_more (start + length first.marks) rest page ∙ ap (λ (n : ℕ). page_rows (start + length first.marks) rest ++ page_row n page ∷ []) same)

pub pages_last : (pages : List MarkedPage) (page : MarkedPage) → page_rows 0 (pages ++ page ∷ []) ≡ page_rows 0 pages ++ page_row (length (marks_of pages)) page ∷ []
pages_last pages page =
    let none : 0 + length (marks_of pages) ≡ length (marks_of pages) = omega arith in
    pages_more 0 pages page ∙ ap (λ (n : ℕ). page_rows 0 pages ++ page_row n page ∷ []) none

-- The number of pages.
pub length-pages : (start : ℕ) (pages : List MarkedPage) → length (page_rows start pages) ≡ length pages
length-pages start [] = refl
length-pages start (page ∷ pages) = let rest = length-pages (start + length page.marks) pages in omega arith

-- A length below 2^32 is kept.
size_is : (n : ℕ) → n < 2 ^ 32 → size_of n ≡ n
size_is n below = rw (lt-ltb n (2 ^ 32) below) refl

-- The row is that of the mark, where its text ends at the place and its glyph has a width.
pub is_row : (bytes : List ℕ) (metrics : WidthsByName) (table : List Definition) (fonts : ReadFonts) (place : ℕ) (mark : Mark) → OfGlyph (IsGlyphWidth metrics table fonts) mark → TextEndsAt bytes place mark
    → IsMarkRow bytes (widths_of metrics table) (row_of fonts place mark) mark
is_row bytes metrics table fonts place (Glyph font code h v) (width, here, is) ends =
    (width, is, ap (λ (o : Option ℤ). glyph_row font code h v (unwrap_or o (pos 0))) here)
is_row bytes metrics table fonts place (Rule h v height width) glyph ends = refl
is_row bytes metrics table fonts place (Special h v text) glyph ends =
    (place - length text, ends, ap (λ (n : ℕ). special_row h v n (place - length text)) (size_is (length text) ends.short))

-- Where the text of the row begins.
pub start_of : (fonts : ReadFonts) (place : ℕ) (mark : Mark) → text_start_of (row_of fonts place mark) ≡ map (λ text. place - length text) (text_in mark)
start_of fonts place (Glyph font code h v) = refl
start_of fonts place (Rule h v height width) = refl
start_of fonts place (Special h v text) = refl

pub starts_more : (rows : List DviMark) (row : DviMark) (places : List ℕ) → text_starts rows ≡ places → text_starts (rows ++ row ∷ []) ≡ places ++ text_start_of row
starts_more rows row places is =
    flat_map-append text_start_of rows (row ∷ [])
    ∙ (ap (λ (ps : List ℕ). text_starts rows ++ ps) (append-nil (text_start_of row)) ∙ ap (λ (ps : List ℕ). ps ++ text_start_of row) is)

-- One row more, for one mark more.
pub rows_more : (bytes : List ℕ) (metrics : WidthsByName) (table : List Definition) (rows : List DviMark) (marks : List Mark) (row : DviMark) (mark : Mark) → AreMarkRows bytes (widths_of metrics table) rows marks
    → IsMarkRow bytes (widths_of metrics table) row mark → AreMarkRows bytes (widths_of metrics table) (rows ++ row ∷ []) (marks ++ mark ∷ [])
rows_more bytes metrics table [] [] row mark are is = (is, tt)
rows_more bytes metrics table (r ∷ rows) (m ∷ marks) row mark (first, are) is = (first, rows_more bytes metrics table rows marks row mark are is)
rows_more bytes metrics table [] (m ∷ marks) row mark are is = absurd are
rows_more bytes metrics table (r ∷ rows) [] row mark are is = absurd are

-- The number of rows is that of the marks.
pub length-rows : (bytes : List ℕ) (metrics : WidthsByName) (table : List Definition) (rows : List DviMark) (marks : List Mark) → AreMarkRows bytes (widths_of metrics table) rows marks → length rows ≡ length marks
length-rows bytes metrics table [] [] are = refl
length-rows bytes metrics table (r ∷ rows) (m ∷ marks) (first, are) = let rest = length-rows bytes metrics table rows marks are in omega arith
length-rows bytes metrics table [] (m ∷ marks) are = absurd are
length-rows bytes metrics table (r ∷ rows) [] are = absurd are

-- Pages and marks among what is seen.
pub pages-among : (xs ys : List SeenItemView) → pages_among (xs ++ ys) ≡ pages_among xs + pages_among ys
pages-among [] ys = omega arith
pages-among (Counts counts ∷ xs) ys = let rest = pages-among xs ys in omega arith
pages-among (Marked mark ∷ xs) ys = pages-among xs ys

pub marks-among : (xs ys : List SeenItemView) → marks_among (xs ++ ys) ≡ marks_among xs ++ marks_among ys
marks-among [] ys = refl
marks-among (Counts counts ∷ xs) ys = marks-among xs ys
marks-among (Marked mark ∷ xs) ys = ap (λ (ms : List Mark). mark ∷ ms) (marks-among xs ys)

marked_pages : (marks : List Mark) → pages_among (map Marked marks) ≡ 0
marked_pages [] = refl
marked_pages (mark ∷ marks) = marked_pages marks

marked_marks : (marks : List Mark) → marks_among (map Marked marks) ≡ marks
marked_marks [] = refl
marked_marks (mark ∷ marks) = ap (λ (ms : List Mark). mark ∷ ms) (marked_marks marks)

pub pages_seen_in : (pages : List MarkedPage) → pages_among (seen_of pages) ≡ length pages
pages_seen_in [] = refl
pages_seen_in (page ∷ pages) =
    let parts : pages_among (seen_on page ++ seen_of pages) ≡ pages_among (map Marked page.marks) + 1 + pages_among (seen_of pages) = pages-among (seen_on page) (seen_of pages) in
    let none = marked_pages page.marks in
    let rest = pages_seen_in pages in omega arith

pub marks_seen_in : (pages : List MarkedPage) → marks_among (seen_of pages) ≡ marks_of pages
marks_seen_in [] = refl
marks_seen_in (page ∷ pages) =
    marks-among (seen_on page) (seen_of pages)
    ∙ (ap (λ (ms : List Mark). ms ++ marks_among (seen_of pages)) (marked_marks page.marks) ∙ ap (λ (ms : List Mark). page.marks ++ ms) (marks_seen_in pages))

-- What is seen of pages says which they are.
abbrev leading : List SeenItemView → List Mark
leading [] = []
leading (Counts counts ∷ rest) = []
leading (Marked mark ∷ rest) = mark ∷ leading rest

abbrev grouped : List SeenItemView → List MarkedPage
grouped [] = []
grouped (Counts counts ∷ rest) = record { counts = counts; marks = leading rest } ∷ grouped rest
grouped (Marked mark ∷ rest) = grouped rest

leading_marks : (marks : List Mark) (pages : List MarkedPage) → leading (map Marked marks ++ seen_of pages) ≡ marks
leading_marks [] [] = refl
leading_marks [] (page ∷ pages) = refl
leading_marks (mark ∷ marks) pages = ap (λ (ms : List Mark). mark ∷ ms) (leading_marks marks pages)

grouped_marks : (marks : List Mark) (rest : List SeenItemView) → grouped (map Marked marks ++ rest) ≡ grouped rest
grouped_marks [] rest = refl
grouped_marks (mark ∷ marks) rest = grouped_marks marks rest

abbrev page_with : List ℤ → List Mark → MarkedPage
page_with counts marks = record { counts = counts; marks = marks }

grouped_seen : (pages : List MarkedPage) → grouped (seen_of pages) ≡ pages
grouped_seen [] = refl
grouped_seen (page ∷ pages) =
    ap (λ (ms : List Mark). page_with page.counts ms ∷ grouped (map Marked page.marks ++ seen_of pages)) (leading_marks page.marks pages)
    ∙ ap (λ (ps : List MarkedPage). page ∷ ps) (grouped_marks page.marks (seen_of pages) ∙ grouped_seen pages)

pub one_seen : (one other : List MarkedPage) → seen_of one ≡ seen_of other → one ≡ other
one_seen one other same = sym (grouped_seen one) ∙ (ap grouped same ∙ grouped_seen other)

-- No mark is seen before a page.
pub no_mark_first : (pages : List MarkedPage) (mark : Mark) (rest : List SeenItemView) → seen_of pages ≡ Marked mark ∷ rest → ⊥
no_mark_first [] mark rest e = absurd cc
no_mark_first (page ∷ pages) mark rest e = absurd cc
