-- One page of a checked file (own).
use Rattle.std.specs.Prelude.{◌≡◌, [], Bool, true, List, filter, length, slice_get, ℕ, Some}
use Rattle.scaled_core.specs.Mark.{Mark}
use Rattle.dvi_ops.specs.Body.{start}
use Rattle.dvi_ops.specs.File.{MarkedPage}
use Rattle.dvi_scan.specs.Pass.{PassStateView, Inside}
use Rattle.dvi_scan.specs.declared.executing.OpenPage.{OpenPage}
use Rattle.dvi_read.specs.ItemsLeft.{HasRest, pass_with}
use Rattle.dvi_read.specs.PageMarks.{is_rule}
use Rattle.dvi_read.specs.declared.check.checked_file.CheckedFile.{CheckedFile}
use Rattle.dvi_read.specs.declared.seen_items.one_page.MarkChoice.{MarkChoice}
use Rattle.dvi_read.specs.declared.seen_items.one_page.MarkChoice.TheVariants.{All, Rules}
use Rattle.dvi_read.specs.declared.seen_items.one_page.PageStart.{PageStart}

-- The instructions from a place on make these pages, in this state of the pass.
abbrev pub HasRestAt : CheckedFile → (at : ℕ) → PassStateView → List MarkedPage → Type 0
HasRestAt file at here pages = HasRest file.bytes.now at file.post file.most file.fonts [] here pages

-- The page with this index has begun, after these pages.
abbrev pub IsPageStart : CheckedFile → List MarkedPage → (index : ℕ) → PageStart → Type 0
IsPageStart file pages index begin =
    (before : List MarkedPage) × (length before ≡ index) × HasRestAt file begin.at (Inside before begin.counts [] [] start) pages

-- A page is open, after these pages and these marks of its own, and the instructions from a place on make the rest of it and the other pages.
abbrev pub IsOpenAt : CheckedFile → (at : ℕ) → (before : List MarkedPage) → (marks : List Mark) → OpenPage → (pages : List MarkedPage) → Type 0
IsOpenAt file at before marks page pages = HasRestAt file at (pass_with true before marks page) pages

-- Whether a mark is kept.
abbrev pub is_kept : MarkChoice → Mark → Bool
is_kept All mark = true
is_kept Rules mark = is_rule mark

-- A page is that with this index, with those of its marks that are kept.
abbrev pub ShowsKept : MarkChoice → MarkedPage → (index : ℕ) → (pages : List MarkedPage) → Type 0
ShowsKept kept page index pages =
    (all : List Mark) × (slice_get pages index ≡ Some (record { counts = page.counts; marks = all })) × (page.marks ≡ filter (is_kept kept) all)
