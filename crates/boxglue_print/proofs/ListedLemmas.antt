-- The file of a typeset script is listed.
use Rattle.std.proofs.Common.{◌≡◌, ◌≢◌, ◌∙◌, [], ◌∷◌, ℕ, Bool, List, map, Option, Some, None, Result, Ok, Err, refl, ap, subst}
use Rattle.std.proofs.Math.Logic.{◌⊎◌, inl, inr}
use Rattle.std.specs.Prelude.{IfSome, OnOk}
use Rattle.job_machine.specs.declared.replies.Refusal.{Refusal}
use Rattle.page_core.specs.declared.summary.Summary.{Summary}
use Rattle.dvi_read.specs.Listing.{listing}
use Rattle.dvi_ops.specs.File.{MarkedPage, IsFile, IsFileOfPages}
use Rattle.dvi_ops.specs.Fonts.{WidthsByName}
use Rattle.boxglue_print.specs.Outputs.{IsListed}
use Rattle.boxglue_program.specs.Reports.{any_bytes}
use Rattle.boxglue_program.specs.Runs.{RanScript}
use Rattle.boxglue_print.specs.ReadBack.{ListsPages}
use Rattle.page_core.specs.Marks.{ShippedPage, read_page}
use Rattle.tfm_core.specs.FileWidths.{file_widths}
use Rattle.tfm_core.specs.NamedBytes.{NamedBytes}

-- Bytes are a file of at most one list of pages.
abbrev pub OneFile : Type 0
OneFile = (metrics : WidthsByName) (bytes : List ℕ) (pages others : List MarkedPage) → IsFile metrics bytes pages → IsFile metrics bytes others → pages ≡ others

-- The text that is printed for a file of some pages.
printed : OneFile → (files : List NamedBytes) (bytes : List ℕ) (pages : List ShippedPage) → pages ≢ [] → IsFileOfPages (file_widths files) bytes (map read_page pages)
    → (listed : List ℕ) (accepted : Bool) → IsListed files bytes listed accepted → ListsPages pages listed accepted
printed one files bytes [] some is listed accepted prints = absurd (some refl)
printed one files bytes (page ∷ pages) some is listed accepted (inl lists) =
    (lists.text_is ∙ ap listing (one (file_widths files) bytes lists.pages (map read_page (page ∷ pages)) lists.file is), lists.accepted_is)
printed one files bytes (page ∷ pages) some is listed accepted (inr refuses) = absurd (refuses.none (map read_page (page ∷ pages)) is)

pub listed_back : OneFile → (text answer bytes : List ℕ) (files : List NamedBytes) (n k : ℕ) (fine : Bool) (ran : RanScript any_bytes text files n k (Some bytes) answer fine)
    (summary : Summary) → ran.end ≡ Ok summary → ran.run.middle.pages ≢ []
    → (listed : List ℕ) (accepted : Bool) → IsListed files bytes listed accepted → ListsPages ran.run.middle.pages listed accepted
listed_back one text answer bytes files n k fine ran summary ended some =
    let pages = ran.run.middle.pages in
    let widths = file_widths files in
    let is : OnOk ran.end (IfSome (Some bytes) (λ bytes. IsFileOfPages widths bytes (map read_page pages))) = ran.run.dvi widths (λ name size widths e. e) in
    printed one files bytes pages some
    (subst (λ end. OnOk end (IfSome (Some bytes) (λ bytes. IsFileOfPages widths bytes (map read_page pages)))) ended is)
