-- The beginning of the line of a glyph.
use Rattle.std.proofs.Common.{◌≡◌, ◌<◌, ◌-◌, ◌++◌, ℕ, ℤ, SFits, w32, List, [], ◌∷◌, codes, length, take, ap, sym, refl, ◌∙◌, append_assoc, arith, length-append}
use Rattle.std.proofs.lemmas.List.{take_at}
use Rattle.std.specs.Fmt.{signed_decimal}
use Rattle.dvi_read.specs.Private.GlyphHeads.{head_text}
use Rattle.dvi_read.specs.Listing.{line}
use Rattle.dvi_read.specs.Private.ListingParts.{decimal_line_end}
use Rattle.dvi_read.proofs.MarkLines.{passed, one_more, written_line}

-- Its parts, which were written one before the other.
pub head_written : (font code : ℤ) (old one two three : List ℕ) → SFits w32 font → SFits w32 code → one ≡ (codes " " ++ signed_decimal (passed code)) ++ old → two ≡ (codes " " ++ signed_decimal (passed font)) ++ one
    → three ≡ codes "glyph" ++ two → three ≡ head_text font code ++ old
unfolding head_text
head_written font code old one two three ff fc first second third =
    let number : List ℕ = codes " " ++ signed_decimal code in
    let selected : List ℕ = codes " " ++ signed_decimal font in
    third
    ∙ (ap (λ (l : List ℕ). codes "glyph" ++ l) (one_more font one two ff second ∙ ap (λ (l : List ℕ). selected ++ l) (one_more code old one fc first))
    ∙ (ap (λ (l : List ℕ). codes "glyph" ++ l) (sym (append_assoc selected number old)) ∙ sym (append_assoc (codes "glyph") (selected ++ number) old)))

-- Its size, and itself as the first bytes.
pub head_size : (font code : ℤ) (old new : List ℕ) → new ≡ head_text font code ++ old → length new - length old ≡ length (head_text font code)
head_size font code old new is = omega (arith, ap length is, length-append (head_text font code) old)

pub head_first : (font code : ℤ) (old new : List ℕ) (size : ℕ) → new ≡ head_text font code ++ old → size ≡ length (head_text font code) → take size new ≡ head_text font code
head_first font code old new size is same = ap (λ (l : List ℕ). take size l) is ∙ take_at (head_text font code) old size (sym same)

pub head_there : (font code : ℤ) → 0 < length (head_text font code)
unfolding head_text
head_there font code =
    omega (arith, length-append (codes "glyph") ((codes " " ++ signed_decimal font) ++ (codes " " ++ signed_decimal code)))

-- The line of a glyph: its end, then the number before it, then its beginning.
pub written_glyph : (font code h v : ℤ) (one two whole : List ℕ) → SFits w32 font → SFits w32 code → SFits w32 h → SFits w32 v → one ≡ decimal_line_end (passed v)
    → two ≡ (codes " " ++ signed_decimal (passed h)) ++ one → whole ≡ head_text (passed font) (passed code) ++ two → line (codes "glyph") (font ∷ code ∷ h ∷ v ∷ []) ≡ whole ++ []
unfolding head_text
written_glyph font code h v one two whole ff fc fh fv ends second all =
    let three : List ℕ = (codes " " ++ signed_decimal (passed code)) ++ two in
    let four : List ℕ = (codes " " ++ signed_decimal (passed font)) ++ three in
    let parts : whole ≡ codes "glyph" ++ four =
    all
    ∙ (append_assoc (codes "glyph") ((codes " " ++ signed_decimal (passed font)) ++ (codes " " ++ signed_decimal (passed code))) two
    ∙ ap (λ (l : List ℕ). codes "glyph" ++ l) (append_assoc (codes " " ++ signed_decimal (passed font)) (codes " " ++ signed_decimal (passed code)) two)) in
    written_line (codes "glyph") font code h v one two three four whole ff fc fh fv ends second refl refl parts

-- A line grows by it.
pub head_grows : (font code : ℤ) (old new : List ℕ) → new ≡ head_text font code ++ old → length old < length new
head_grows font code old new is = omega (arith, ap length is, length-append (head_text font code) old, head_there font code)
