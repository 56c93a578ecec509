-- What `fonts` prints of a file that is read (own).
use Rattle.std.specs.Prelude.{◌≡◌, Bool, List, ℕ}
use Rattle.boxglue_words.specs.Readings.{Files, IsFileReading, IsReadableFile, IsUnreadableFile}
use Rattle.boxglue_print.specs.Fonts.{AreFontsPrinted}
use Rattle.boxglue_lib.specs.Ends.{TaskRules}

-- The text has the units of the file at a path and its fonts, or is the line of its refusal.
abbrev pub IsFontListing : Files → (dvi : List ℕ) → (text : List ℕ) → (fine : Bool) → Type 0
IsFontListing contents dvi text fine = (bytes : List ℕ) × IsFileReading (contents dvi) bytes × AreFontsPrinted bytes text fine

-- The rules of `fonts`: the lines of the file at a path or the line of its refusal; or the path cannot be read. No page is missing, and memory is
-- refused only where the file can be read.
abbrev pub font_rules : Files → (dvi : List ℕ) → TaskRules
font_rules contents dvi = record {
  IsAnswer = IsFontListing contents dvi;
  IsUnread = λ path. (path.now ≡ dvi) × IsUnreadableFile (contents dvi);
  LacksPage = ⊥;
  LacksMemory = IsReadableFile (contents dvi);
}
