-- A finished file is read back.
use Rattle.std.proofs.Common.{◌≢◌, [], ◌∷◌, ℕ, List, map, Option, Some, None, Result, Ok, Err, refl}
use Rattle.std.specs.Prelude.{IfSome, OnOk}
use Rattle.job_machine.specs.declared.replies.Refusal.{Refusal}
use Rattle.page_core.specs.declared.summary.Summary.{Summary}
use Rattle.dvi_ops.specs.File.{IsFileOfPages}
use Rattle.dvi_read.specs.Opened.{OpenedFile, GivesPages, IsExact}
use Rattle.dvi_read.specs.declared.fault.DviFault.{DviFault}
use Rattle.job_core.specs.Jobs.{Represents, JobView}
use Rattle.job_core.specs.Shown.{FilesPages}
use Rattle.job_machine.specs.Machine.{Machine}
use Rattle.page_core.specs.Marks.{ShippedPage, read_page}
use Rattle.boxglue_print.specs.ReadBack.{IsReadBack}
use Rattle.tfm_core.specs.FileWidths.{file_widths}
use Rattle.tfm_core.specs.NamedBytes.{NamedBytes}

-- The pages of a file with at least one page, as they are read.
some_pages : (files : List NamedBytes) (pages : List ShippedPage) (ended : Result Summary Refusal) (bytes_written : Option (List ℕ)) → pages ≢ []
    → OnOk ended (IfSome bytes_written (λ bytes. IsFileOfPages (file_widths files) bytes (map read_page pages)))
    → OnOk ended (IfSome bytes_written (λ bytes. (opened : Result OpenedFile DviFault) → IsExact files bytes opened → GivesPages (map read_page pages) opened))
some_pages files pages (Err refusal) bytes_written some is = tt
some_pages files pages (Ok summary) None some is = tt
some_pages files [] (Ok summary) (Some bytes) some is = absurd (some refl)
some_pages files (page ∷ pages) (Ok summary) (Some bytes) some is = λ opened exact. exact (map read_page (page ∷ pages)) is

pub read_back : (m : Machine) (old new : JobView) (ended : Result Summary Refusal) → Represents old m → m.pages ≢ [] → FilesPages old ended new → OnOk ended (IfSome new.bytes_written (IsReadBack m))
read_back m old new ended holds some shows =
    some_pages m.state.files m.pages ended new.bytes_written some (shows m (file_widths m.state.files) holds (λ name size widths e. e))
