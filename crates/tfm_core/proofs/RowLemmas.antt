-- The rows of a font.
use Rattle.std.proofs.Common.{◌≡◌, ℕ, ◌<◌, true, false, List, Option, Some, None, length, get_or, refl, sym, subst, ap, ◌∙◌, arith}
use Rattle.std.specs.Option.{IfSome, is_some, option_and_then}
use Rattle.std.proofs.lemmas.Bool.{false≢true}
use Rattle.std.proofs.lemmas.List.{get_or_read}
use Rattle.tfm_core.specs.declared.font.FontRow.{FontRow}
use Rattle.scaled_core.specs.declared.sizes.Sizes.{Sizes}
use Rattle.tfm_core.specs.declared.record.LigKernStep.{LigKernStep}
use Rattle.tfm_core.specs.Fonts.{SizedFont, action_of, glyph_of, matching_step, step_of}
use Rattle.tfm_core.specs.Private.FontView.{AreRows, IsFontRow, is_in, no_row}
use Rattle.tfm_core.proofs.ProgramLemmas.{matching_step-without}

-- The row that is read for a character is the row of that character.
pub IsRow-at : (font : SizedFont) (rows : List FontRow) (code : ℕ) (row : FontRow) → AreRows font rows → code < 256 → row ≡ get_or rows code row → IsFontRow font code row
IsRow-at font rows code row all small e =
    let within : code < length rows = omega (arith, all.count) in
    subst (λ (r : FontRow). IsFontRow font code r) (sym (get_or_read rows code row within e no_row)) (all.each code small)

-- If there is a step, there is a program.
pub has_start : (font : SizedFont) (code following : ℕ) (row : FontRow) → IsFontRow font code row → following < 256 → is_in row.followers following ≡ true → row.start ≡ None → ⊥
has_start font code following row is small found none =
    let nothing : matching_step font code following ≡ None = matching_step-without font code following (sym none ∙ is.start) in
    false≢true (sym (ap (λ (o : Option LigKernStep). is_some o) nothing) ∙ (sym (is.followers following small) ∙ found))

-- A character whose set does not have the following one stands alone.
nothing_found : (o : Option LigKernStep) → is_some o ≡ false → o ≡ None
nothing_found None e = refl
nothing_found (Some step) e = absurd (cc)

alone_if_there : (font : SizedFont) (code following : ℕ) (glyph : Option Sizes) → glyph ≡ glyph_of font code → step_of font code following ≡ None
    → IfSome glyph (λ size. (glyph_of font code ≡ Some size) × (step_of font code following ≡ None))
alone_if_there font code following None at after = tt
alone_if_there font code following (Some size) at after = (sym at, after)

pub stands_alone : (font : SizedFont) (code following : ℕ) (row : FontRow) → IsFontRow font code row → following < 256 → is_in row.followers following ≡ false → IfSome row.glyph (λ size. (glyph_of font code ≡ Some size) × (step_of font code following ≡ None))
unfolding step_of
stands_alone font code following row is small out =
    let none : matching_step font code following ≡ None = nothing_found (matching_step font code following) (sym (is.followers following small) ∙ out) in
    alone_if_there font code following row.glyph is.glyph (ap (option_and_then (action_of font)) none)
