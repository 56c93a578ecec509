-- What is known of a host, and the font files of a command line (own).
use Rattle.std.specs.Prelude.{◌≡◌, ◌==◌, ◌++◌, ⊤, ℕ, length, not, List, [], ◌∷◌, Option, Some, None, if◌then◌else◌, Bool}
use Rattle.std.specs.Borrow.{Bor}
use base.Stored.{Gv, gnil, gnum, gcons}
use Rattle.dvi_device.specs.Beginnings.{Beginning}
use Rattle.tfm_core.specs.NamedBytes.{NamedBytes}
use Rattle.boxglue_words.specs.declared.fonts.NamedPath.{NamedPath}
use Rattle.boxglue_words.specs.declared.host.ReadFault.{ReadFault}
use Rattle.boxglue_words.specs.declared.host.ReadFault.TheVariants as reads
use Rattle.boxglue_words.specs.Readings.{Files, IsFileReading, IsReadableFile, IsUnreadableFile}
use Rattle.boxglue_words.specs.declared.input_fault.InputFault.{InputFault}
use Rattle.boxglue_words.specs.declared.input_fault.InputFault.TheVariants.{OutOfMemory, Unreadable}

-- The bytes of a file that was just created: none, if they are known.
abbrev pub just_created : Option (List ℕ) → Option (List ℕ)
just_created None = None
just_created (Some bytes) = Some []

-- What a file device reports: the bytes that the created file took; before its creation, no byte.
abbrev pub written_to_file : Bool → Option (List ℕ) → Option (List ℕ)
written_to_file is_created written = if is_created then written else just_created written

-- The paths of the files that a host has created, the last one first, after one more file or none was created.
abbrev pub created_after : (created : Bool) → (path : List ℕ) → (before : List (List ℕ)) → List (List ℕ)
created_after created path before = if created then path ∷ before else before

-- The code of a value as numbers. Each part begins with its kind, so that different codes have different numbers.
abbrev pub numbers_of : Gv → List ℕ
numbers_of gnil = 0 ∷ []
numbers_of (gnum n) = 1 ∷ n ∷ []
numbers_of (gcons left right) = 2 ∷ (numbers_of left ++ numbers_of right)

-- The beginning of a file device at a path, around a host with this code that had reported these bytes of the file that it created, and had failed
-- this often. Nothing is sent before such a device is made. In place of that stand the path, after its length, and the code: a job returns its device
-- with the beginning that it had, so they say for which file and which host the returned device was made.
abbrev pub begun_for : (path : List ℕ) → (host : Gv) → (written : Option (List ℕ)) → (failures : ℕ) → Beginning
begun_for path host written failures = record { sent = length path ∷ (path ++ numbers_of host); bytes_written = written; failed = failures }

-- Whether a host has failed between two counts of its failures.
abbrev pub has_failed : (before now : ℕ) → Bool
has_failed before now = not (now == before)

-- The fault of a reading at a path: out of memory, or the path that cannot be read.
abbrev pub fault_at : (path : Bor (List ℕ)) → ReadFault → InputFault
fault_at path reads.OutOfMemory = OutOfMemory
fault_at path reads.Unreadable = Unreadable path

-- The file of a font: it has its name, and the bytes at its path.
pub record IsFileOf (contents : Files) (font : NamedPath) (file : NamedBytes) : Type 0 where
  pub name : file.name ≡ font.name
  pub bytes : IsFileReading (contents font.path.now) file.bytes

-- The files are those of the fonts, in order.
abbrev pub AreFilesOf : Files → List NamedPath → List NamedBytes → Type 0
AreFilesOf contents [] [] = ⊤
AreFilesOf contents [] (file ∷ files) = ⊥
AreFilesOf contents (font ∷ fonts) [] = ⊥
AreFilesOf contents (font ∷ fonts) (file ∷ files) = IsFileOf contents font file × AreFilesOf contents fonts files

-- The file of a font was not read: out of memory, where the file can be read; or it cannot be read, and its path is named.
abbrev pub IsUnreadOf : Files → NamedPath → InputFault → Type 0
IsUnreadOf contents font OutOfMemory = IsReadableFile (contents font.path.now)
IsUnreadOf contents font (Unreadable path) = (path.now ≡ font.path.now) × IsUnreadableFile (contents font.path.now)

-- The file of a font was not read; those of the fonts before it were.
pub record IsUnread (contents : Files) (fonts : List NamedPath) (fault : InputFault) : Type 0 where
  pub before : List NamedPath
  pub files : List NamedBytes
  pub font : NamedPath
  pub after : List NamedPath
  pub split : fonts ≡ before ++ (font ∷ after)
  pub read : AreFilesOf contents before files
  pub unread : IsUnreadOf contents font fault
