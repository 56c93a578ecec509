-- The texts for refused files, and for pages.
use Rattle.std.proofs.Common.{◌≡◌, ◌-◌, ◌||◌, [], ◌∷◌, ℕ, Bool, true, false, List, length, Some, inl, inr, refl, arith, ◌∙◌, ap}
use Rattle.std.proofs.Math.Path.{fun_ext}
use Rattle.std.proofs.lemmas.Option.{slice_get_within}
use Rattle.std.specs.Prelude.{◌≢◌, filter, slice_get}
use Rattle.scaled_core.specs.Mark.{Mark, Glyph, Rule, Special}
use Rattle.dvi_ops.specs.File.{Frame, IsFile, MarkedPage}
use Rattle.dvi_ops.proofs.Frames.{one_list_of_pages}
use Rattle.dvi_ops.specs.Instruction.{Units}
use Rattle.std.specs.Fmt.{digits}
use Rattle.boxglue_program.specs.Texts.{refusal_line, refusal_text}
use Rattle.boxglue_print.specs.Faults.{KnownLines, fault_line}
use Rattle.boxglue_print.specs.Outputs.{IsPainted, LacksPage, Paints, RefusesFile, ShowsPage}
use Rattle.dvi_read.specs.Opened.{IsNoFile}
use Rattle.dvi_read.specs.Opening.{IsDviFault}
use Rattle.dvi_read.specs.PageMarks.{is_rule, rules_alone}
use Rattle.dvi_read.specs.declared.fault.DviFault.{DviFault}
use Rattle.dvi_read.specs.declared.fault.DviFault.TheVariants.{OutOfMemory}
use Rattle.raster_core.specs.PixelGrids.{PixelGrid, painted_grid, white}
use Rattle.raster_core.specs.Pixels.{Scale, covers, is_covered, scale_of}
use Rattle.raster_core.specs.PlainText.{pbm}
use Rattle.raster_core.specs.PaintOptions.{PaintOptionsView}
use Rattle.tfm_core.specs.FileWidths.{file_widths}
use Rattle.tfm_core.specs.NamedBytes.{NamedBytes}

-- The line of a refusal is printed for a file that is refused.
pub refuses : (files : List NamedBytes) (bytes text : List ℕ) (fault : DviFault) (accepted : Bool) → fault ≢ OutOfMemory → IsDviFault files bytes fault
    → (fault ≢ OutOfMemory → IsNoFile files bytes) → text ≡ fault_line fault → accepted ≡ false → RefusesFile files bytes text accepted
refuses files bytes text fault accepted other broken none text_is accepted_is = record {
  fault = fault;
  other = other;
  broken = broken;
  none = none other;
  text_is = text_is;
  accepted_is = accepted_is;
}

-- The bitmap of a page, by its pixels.
pub shows : (files : List NamedBytes) (bytes : List ℕ) (options : PaintOptionsView) (pages : List MarkedPage) (units : Units) (shown : MarkedPage)
    (grid : PixelGrid)
    → IsFile (file_widths files) bytes pages → ((f : Frame bytes) → units ≡ f.postamble.units) → slice_get pages (options.page - 1) ≡ Some shown
    → grid ≡ painted_grid (is_covered (scale_of units options.dpi) shown.marks) (white options.width options.height)
    → ShowsPage files bytes options grid
shows files bytes options pages units shown grid file same page_is picture_is = record {
  pages = pages;
  file = file;
  shown = shown;
  page_is = page_is;
  grid_is = picture_is
      ∙ ap (λ (u : Units). painted_grid (is_covered (scale_of u options.dpi) shown.marks) (white options.width options.height)) (same file.frame);
}

-- So its text is printed.
pub paints : (files : List NamedBytes) (bytes : List ℕ) (options : PaintOptionsView) (grid : PixelGrid) → ShowsPage files bytes options grid
    → Paints files bytes options (pbm grid) true
paints files bytes options grid shows = record {
  pages = shows.pages;
  file = shows.file;
  shown = shows.shown;
  page_is = shows.page_is;
  text_is = ap pbm shows.grid_is;
  accepted_is = refl;
}

-- The rules of a page cover what its marks do.
rules_cover : (s : Scale) (marks : List Mark) (x y : ℕ) → is_covered s (filter is_rule marks) x y ≡ is_covered s marks x y
rules_cover s [] x y = refl
rules_cover s (Glyph font code h v ∷ marks) x y = rules_cover s marks x y
rules_cover s (Rule h v height width ∷ marks) x y = ap (λ (b : Bool). covers s (Rule h v height width) x y || b) (rules_cover s marks x y)
rules_cover s (Special h v text ∷ marks) x y = rules_cover s marks x y

-- So the bitmap of its rules is that of the page.
pub rules_painted : (s : Scale) (page shown : MarkedPage) (grid old : PixelGrid) → page ≡ rules_alone shown
    → grid ≡ painted_grid (is_covered s page.marks) old → grid ≡ painted_grid (is_covered s shown.marks) old
rules_painted s page shown grid old same is =
    is ∙ (ap (λ (p : MarkedPage). painted_grid (is_covered s p.marks) old) same
    ∙ ap (λ (black : ℕ → ℕ → Bool). painted_grid black old) (fun_ext (λ x. fun_ext (λ y. rules_cover s shown.marks x y))))

-- A page that is shown is there.
pub shown_page : (files : List NamedBytes) (bytes : List ℕ) (options : PaintOptionsView) (grid : PixelGrid) → ShowsPage files bytes options grid
    → LacksPage files bytes options.page → ⊥
shown_page files bytes options grid shows lacks =
    let same = ap (λ (pages : List MarkedPage). length pages) (one_list_of_pages (file_widths files) bytes shows.pages lacks.pages shows.file lacks.file) in
    let within = slice_get_within shows.pages (options.page - 1) shows.shown shows.page_is in
    let few = lacks.few in
    absurd (omega arith)

-- A file whose page is painted has that page.
pub has_page : (files : List NamedBytes) (bytes : List ℕ) (options : PaintOptionsView) (text : List ℕ) (accepted : Bool)
    → IsPainted files bytes options text accepted
    → LacksPage files bytes options.page → ⊥
has_page files bytes options text accepted (inl paints) lacks =
    let same = ap (λ (pages : List MarkedPage). length pages) (one_list_of_pages (file_widths files) bytes paints.pages lacks.pages paints.file lacks.file) in
    let within = slice_get_within paints.pages (options.page - 1) paints.shown paints.page_is in
    let few = lacks.few in
    absurd (omega arith)
has_page files bytes options text accepted (inr refuses) lacks = refuses.none lacks.pages lacks.file

-- The known lines, computed by the definitions.
pub known_lines : KnownLines
unfolding fault_line refusal_line refusal_text digits
known_lines = (refl, (λ number. refl), (λ name. refl), (λ number. refl), (λ number. refl))
