-- What `list` and `paint` print of files that are read (own).
use Rattle.std.specs.Prelude.{◌⊎◌, ℕ, Bool, List}
use Rattle.boxglue_print.specs.Outputs.{IsListed, IsPainted, LacksPage}
use Rattle.boxglue_words.specs.Hosts.{AreFilesOf}
use Rattle.boxglue_words.specs.Readings.{Files, IsFileReading}
use Rattle.boxglue_words.specs.declared.input_fault.InputFault.TheVariants.{OutOfMemory as WantsMemory, Unreadable}
use Rattle.raster_core.specs.PaintOptions.{PaintOptionsView}
use Rattle.tfm_core.specs.NamedBytes.{NamedBytes}
use Rattle.boxglue_words.specs.declared.fonts.NamedPath.{NamedPath}
use Rattle.boxglue_lib.specs.Ends.{TaskRules}
use Rattle.boxglue_lib.specs.Inputs.{IsUnreadDvi}

-- The DVI file and the files of the fonts were read, with these bytes and files.
pub record InputsAreRead (contents : Files) (dvi : List ℕ) (fonts : List NamedPath) (bytes : List ℕ) (files : List NamedBytes) : Type 0 where
  pub bytes_are : IsFileReading (contents dvi) bytes
  pub files_are : AreFilesOf contents fonts files

-- Memory was refused: for an input that can be read, after those before it were read; or after all were read. Where that was is not
-- known, so this holds wherever the DVI file can be read: a file of a font that cannot be read, and the lack of a page, may be hidden.
abbrev pub LacksMemoryForDvi : Files → (dvi : List ℕ) → List NamedPath → Type 0
LacksMemoryForDvi contents dvi fonts =
    IsUnreadDvi contents dvi fonts WantsMemory ⊎ ((bytes : List ℕ) × (files : List NamedBytes) × InputsAreRead contents dvi fonts bytes files)

-- The text is the listing of the file at a path, or the line of its refusal.
abbrev pub IsListing : Files → (dvi : List ℕ) → List NamedPath → (text : List ℕ) → (fine : Bool) → Type 0
IsListing contents dvi fonts text fine =
    (bytes : List ℕ) × (files : List NamedBytes) × InputsAreRead contents dvi fonts bytes files × IsListed files bytes text fine

-- The text is the bitmap of a page of the file at a path, or the line of the file's refusal.
abbrev pub IsPaintingOfFile : Files → PaintOptionsView → (dvi : List ℕ) → List NamedPath → (text : List ℕ) → (fine : Bool) → Type 0
IsPaintingOfFile contents options dvi fonts text fine =
    (bytes : List ℕ) × (files : List NamedBytes) × InputsAreRead contents dvi fonts bytes files × IsPainted files bytes options text fine

-- The file at a path has no such page.
abbrev pub HasNoPage : Files → PaintOptionsView → (dvi : List ℕ) → List NamedPath → Type 0
HasNoPage contents options dvi fonts =
    (bytes : List ℕ) × (files : List NamedBytes) × InputsAreRead contents dvi fonts bytes files × LacksPage files bytes options.page

-- The rules of `list`: the listing of the file at a path or the line of its refusal; or a path that cannot be read. No page is missing.
abbrev pub listing_rules : Files → (dvi : List ℕ) → List NamedPath → TaskRules
listing_rules contents dvi fonts = record {
  IsAnswer = IsListing contents dvi fonts;
  IsUnread = λ path. IsUnreadDvi contents dvi fonts (Unreadable path);
  LacksPage = ⊥;
  LacksMemory = LacksMemoryForDvi contents dvi fonts;
}

-- The rules of `paint`: the bitmap of a page of the file at a path or the line of its refusal; a path that cannot be read; or the file has no such
-- page.
abbrev pub painting_rules : Files → PaintOptionsView → (dvi : List ℕ) → List NamedPath → TaskRules
painting_rules contents options dvi fonts = record {
  IsAnswer = IsPaintingOfFile contents options dvi fonts;
  IsUnread = λ path. IsUnreadDvi contents dvi fonts (Unreadable path);
  LacksPage = HasNoPage contents options dvi fonts;
  LacksMemory = LacksMemoryForDvi contents dvi fonts;
}
