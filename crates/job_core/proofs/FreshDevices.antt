-- What a device reports that had reported no byte when its job was made.
use Rattle.std.proofs.Common.{◌≡◌, ◌++◌, [], ℕ, false, List, length, take, drop, Option, Some, None, refl, ap, sym, ◌∙◌, append_assoc}
use Rattle.std.specs.Prelude.{IfSome}
use Rattle.std.proofs.Math.Seq.{take-append_seam, take-length}
use Rattle.std.proofs.lemmas.List.{take-append-drop}
use Rattle.dvi_device.specs.Written.{written_then, GrowsByFront, IsFrontOf}
use Rattle.dvi_write.specs.Layout.{unfinished_file}
use Rattle.dvi_write.specs.Writing.{HasWritten}
use Rattle.job_machine.specs.Machine.{Machine}
use Rattle.job_core.specs.Jobs.{JobView, IsProperFrontOf, HasWrittenPages, writing_of}

-- What a device had reported before it took a byte, if it reports these bytes now. The clauses of the writer take it.
abbrev pub before_writing : Option (List ℕ) → Option (List ℕ)
before_writing None = None
before_writing (Some bytes) = Some []

-- It reports exactly the bytes that it took.
pub said : (bytes_written new : Option (List ℕ)) (bytes : List ℕ) (P : List ℕ → Type 0) → new ≡ written_then (before_writing bytes_written) bytes → P bytes → IfSome new P
said None new bytes P is holds = rw is tt
said (Some bytes_written) new bytes P is holds = rw is holds

pub told : (bytes_written : Option (List ℕ)) (bytes : List ℕ) → IfSome bytes_written (λ all. all ≡ bytes) → bytes_written ≡ written_then (before_writing bytes_written) bytes
told None bytes is = refl
told (Some all) bytes is = ap Some is

-- A part of the bytes that were to be sent.
pub said_part : (bytes_written new : Option (List ℕ)) (all : List ℕ) → GrowsByFront (before_writing bytes_written) new all → IfSome new (λ bytes. IsProperFrontOf bytes all)
said_part bytes_written new all (n, less, is) = said bytes_written new (take n all) (λ bytes. IsProperFrontOf bytes all) is (n, less, refl)

-- What is reported begins with the pages if it is the pages.
pub begins : (pages : List ℕ) (bytes_written : Option (List ℕ)) → IfSome bytes_written (λ bytes. bytes ≡ pages) → IfSome bytes_written (λ bytes. IsFrontOf pages bytes)
begins pages None is = tt
begins pages (Some bytes) is = (length bytes, sym is ∙ sym (take-length bytes))

-- A beginning stays one if more follows.
front_stays : (pages bytes more : List ℕ) → IsFrontOf pages bytes → IsFrontOf pages (bytes ++ more)
front_stays pages bytes more (n, at) =
    let split : bytes ++ more ≡ pages ++ (drop n bytes ++ more) =
    ap (λ (l : List ℕ). l ++ more) (sym (take-append-drop n bytes) ∙ ap (λ (l : List ℕ). l ++ drop n bytes) (sym at)) ∙ append_assoc pages (drop n bytes) more in
    (length pages, sym (take-append_seam pages (drop n bytes ++ more)) ∙ ap (take (length pages)) (sym split))

pub begins_on : (pages : List ℕ) (old new : Option (List ℕ)) → IfSome old (λ bytes. IsFrontOf pages bytes) → ((more : List ℕ) × (new ≡ written_then old more)) → IfSome new (λ bytes. IsFrontOf pages bytes)
begins_on pages None new holds (more, is) = rw is tt
begins_on pages (Some bytes) new holds (more, is) = rw is (front_stays pages bytes more holds)

-- The writer of a job that has written pages has written them, and the other way.
pub writer_has : (job : JobView) (m : Machine) → job.state.over ≡ false → HasWrittenPages job m → HasWritten m.state.fonts (before_writing job.bytes_written) (writing_of job) m.pages
writer_has job m running has =
    record { bytes_written = told job.bytes_written (unfinished_file m.state.fonts m.pages) has.bytes_written; past = has.past; so_far = has.so_far; right = has.right; running = running }

pub job_has : (before : Option (List ℕ)) (job : JobView) (m : Machine) → HasWritten m.state.fonts (before_writing before) (writing_of job) m.pages → HasWrittenPages job m
job_has before job m written =
    let all = unfinished_file m.state.fonts m.pages in
    record { bytes_written = said before job.bytes_written all (λ bytes. bytes ≡ all) written.bytes_written refl; past = written.past; so_far = written.so_far; right = written.right }
