-- The lines of a listing.
use Rattle.std.proofs.Common.{◌≡◌, ◌≢◌, ℕ, ℤ, ◌/◌, ◌%◌, Bool, true, false, if◌then◌else◌, ◌++◌, ◌<◌, List, [], ◌∷◌, length, codes, decimal, ap, refl, arith, length-append}
use Rattle.std.specs.Fmt.{signed_decimal}
use Rattle.std.specs.List.{flat_map}
use Rattle.dvi_ops.specs.File.{MarkedPage}
use Rattle.dvi_read.specs.Listing.{hexadecimal_digit, is_shown_plainly, line, listing, mark_line, page_lines, pages_lines, shown_byte}

-- A line is not empty, since it has a line feed.
pub line_there : (words : List ℕ) (numbers : List ℤ) → 0 < length (line words numbers)
unfolding line
line_there words numbers =
    let texts = flat_map (λ number. codes " " ++ signed_decimal number) numbers in
    omega (arith, length-append words (texts ++ (10 ∷ [])), length-append texts (10 ∷ []))

-- A byte of a special is shown by at least one byte.
pub shown_there : (byte : ℕ) → 0 < length (shown_byte byte)
unfolding shown_byte
shown_there byte = by_test (is_shown_plainly byte)
  where
    by_test : (plain : Bool) → 0 < length (if plain then byte ∷ [] else 92 ∷ hexadecimal_digit (byte / 16) ∷ hexadecimal_digit (byte % 16) ∷ [])
    by_test true = omega arith
    by_test false = omega arith

-- A listing of some pages is not empty.
pub pages_listed : (pages : List MarkedPage) → (length pages ≡ 0 → ⊥) → listing pages ≢ []
unfolding page_lines
pages_listed [] some none = some refl
pages_listed (page ∷ pages) some none =
    let counts = line (codes "page " ++ (decimal 1 ++ codes " counts")) page.counts in
    let rest = flat_map mark_line page.marks in
    let there : 0 < length counts = line_there (codes "page " ++ (decimal 1 ++ codes " counts")) page.counts in
    let nothing : length ((counts ++ rest) ++ pages_lines 2 pages) ≡ 0 = ap (λ (bs : List ℕ). length bs) none in
    omega (arith, there, nothing, length-append (counts ++ rest) (pages_lines 2 pages), length-append counts rest)
