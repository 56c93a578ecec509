-- What a task reads, and why it is not read (own).
use Rattle.std.specs.Prelude.{◌≡◌, ◌⊎◌, ℕ, List, Option, codes}
use Rattle.boxglue_words.specs.Hosts.{AreFilesOf, IsUnread}
use Rattle.boxglue_words.specs.Readings.{Files, IsFileReading, IsReadable, IsReadableFile, IsUnreadable, IsUnreadableFile}
use Rattle.boxglue_words.specs.declared.input_fault.InputFault.{InputFault}
use Rattle.boxglue_words.specs.declared.input_fault.InputFault.TheVariants.{OutOfMemory, Unreadable}
use Rattle.tfm_core.specs.NamedBytes.{NamedBytes}
use Rattle.boxglue_words.specs.declared.fonts.NamedPath.{NamedPath}

-- Why the files of the fonts and then the script of standard input were not read: out of memory, at the file of a font or at standard input that can
-- be read, or one of them cannot be read. What comes before it was read.
abbrev pub IsUnreadScript : Files → (input : Option (List ℕ)) → List NamedPath → InputFault → Type 0
IsUnreadScript contents input fonts OutOfMemory =
    IsUnread contents fonts OutOfMemory
    ⊎ (((files : List NamedBytes) × AreFilesOf contents fonts files) × IsReadable input)
IsUnreadScript contents input fonts (Unreadable path) =
    IsUnread contents fonts (Unreadable path)
    ⊎ (((files : List NamedBytes) × AreFilesOf contents fonts files) × (path.now ≡ codes "-") × IsUnreadable input)

-- Why a DVI file and then the files of the fonts were not read: out of memory, at the DVI file or the file of a font that can be read, or one of them
-- cannot be read. What comes before it was read.
abbrev pub IsUnreadDvi : Files → (dvi : List ℕ) → List NamedPath → InputFault → Type 0
IsUnreadDvi contents dvi fonts OutOfMemory =
    IsReadableFile (contents dvi)
    ⊎ (((bytes : List ℕ) × IsFileReading (contents dvi) bytes) × IsUnread contents fonts OutOfMemory)
IsUnreadDvi contents dvi fonts (Unreadable path) =
    ((path.now ≡ dvi) × IsUnreadableFile (contents dvi))
    ⊎ (((bytes : List ℕ) × IsFileReading (contents dvi) bytes) × IsUnread contents fonts (Unreadable path))
