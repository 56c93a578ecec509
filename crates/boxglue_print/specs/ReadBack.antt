-- The file of a machine's pages, as a reader sees it (own).
use Rattle.std.specs.Prelude.{◌≡◌, ℕ, Bool, true, List, map, Result}
use Rattle.dvi_read.specs.Listing.{listing}
use Rattle.dvi_read.specs.Opened.{OpenedFile, GivesPages, IsExact}
use Rattle.dvi_read.specs.declared.fault.DviFault.{DviFault}
use Rattle.job_machine.specs.Machine.{Machine}
use Rattle.page_core.specs.Marks.{ShippedPage, read_page}

-- A call that opens these bytes with the machine's font files and is exact gives the machine's pages, or memory is refused.
abbrev pub IsReadBack : Machine → List ℕ → Type 0
IsReadBack m bytes = (opened : Result OpenedFile DviFault) → IsExact m.state.files bytes opened → GivesPages (map read_page m.pages) opened

-- The printed text is the listing of these pages, each with its counts and the marks of its box, and the file was accepted.
abbrev pub ListsPages : List ShippedPage → (listed : List ℕ) → (accepted : Bool) → Type 0
ListsPages pages listed accepted = (listed ≡ listing (map read_page pages)) × (accepted ≡ true)
