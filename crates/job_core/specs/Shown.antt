-- What the finished file shows, by the definition of DVI files and the font files alone (own; DVItype, 13 to 20).
use Rattle.std.specs.Prelude.{◌≡◌, ℕ, ℤ, List, map, Option, Some, Result, OnOk, IfSome}
use Rattle.tfm_core.specs.NamedBytes.{NamedBytes}
use Rattle.tfm_core.specs.FileWidths.{file_widths}
use Rattle.dvi_ops.specs.Fonts.{WidthsByName}
use Rattle.job_machine.specs.declared.replies.Refusal.{Refusal}
use Rattle.page_core.specs.declared.summary.Summary.{Summary}
use Rattle.dvi_ops.specs.File.{IsFileOfPages}
use Rattle.page_core.specs.Marks.{read_page}
use Rattle.job_machine.specs.Machine.{Machine}
use Rattle.job_core.specs.Jobs.{JobView, Represents}

-- The metrics give at least what the font files give, each font by the first file of its name.
abbrev pub GivesFiles : WidthsByName → List NamedBytes → Type 0
GivesFiles metrics files = (name : List ℕ) (size : ℤ) (widths : ℤ → Option ℤ) → file_widths files name size ≡ Some widths
    → metrics name size ≡ Some widths

-- If the end succeeds, and the device reports what it took, this is a DVI file of exactly the pages of each machine that the job represented, with
-- the widths that the job's own font files give.
abbrev pub FilesPages : JobView → Result Summary Refusal → JobView → Type 0
FilesPages old result new =
    (m : Machine) (metrics : WidthsByName) → Represents old m → GivesFiles metrics m.state.files
    → OnOk result (IfSome new.bytes_written (λ bytes. IsFileOfPages metrics bytes (map read_page m.pages)))
