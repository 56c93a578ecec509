-- The text of a listing (own; the pages and the marks are DVItype's, 15 and 16).
use Rattle.std.specs.Prelude.{[], ◌∷◌, ◌++◌, ◌+◌, ◌/◌, ◌%◌, ◌==◌, ◌&&◌, not, nat_le, nat_lt, if◌then◌else◌, Bool, List, ℕ, ℤ, Option, Some, None}
use Rattle.std.specs.Prelude.{codes, decimal}
use Rattle.std.specs.Borrow.{Bor}
use Rattle.std.specs.Fmt.{signed_decimal}
use Rattle.std.specs.List.{flat_map, enumerate_from}
use Rattle.scaled_core.specs.Mark.{Mark, Glyph, Rule, Special}
use Rattle.dvi_ops.specs.File.{MarkedPage}

-- A line: its first words, then numbers in decimal with a space before each, and a line feed.
unfoldable pub line : List ℕ → List ℤ → List ℕ
line words numbers = words ++ (flat_map (λ number. codes " " ++ signed_decimal number) numbers ++ (10 ∷ []))

-- A lower case hexadecimal digit.
abbrev pub hexadecimal_digit : ℕ → ℕ
hexadecimal_digit n = if nat_lt n 10 then 48 + n else 87 + n

-- Whether a byte of a special is shown unchanged: it is printable and is no backslash.
abbrev pub is_shown_plainly : ℕ → Bool
is_shown_plainly byte = nat_le 32 byte && nat_le byte 126 && not (byte == 92)

-- A byte of a special: unchanged, or a backslash and two hexadecimal digits.
unfoldable pub shown_byte : ℕ → List ℕ
shown_byte byte = if is_shown_plainly byte then byte ∷ [] else 92 ∷ hexadecimal_digit (byte / 16) ∷ hexadecimal_digit (byte % 16) ∷ []

-- The end of the line of a special: its text, and a line feed.
unfoldable pub text_line : List ℕ → List ℕ
text_line text = flat_map shown_byte text ++ (10 ∷ [])

-- The line of a special: its place, then a space and its text.
unfoldable pub special_line : (h v : ℤ) → (text : List ℕ) → List ℕ
special_line h v text = codes "special" ++ (flat_map (λ number. codes " " ++ signed_decimal number) (h ∷ v ∷ []) ++ (codes " " ++ text_line text))

-- The line of a mark: a glyph's font, character and place; a rule's place, height and width; a special's place and text.
abbrev pub mark_line : Mark → List ℕ
mark_line (Glyph font code h v) = line (codes "glyph") (font ∷ code ∷ h ∷ v ∷ [])
mark_line (Rule h v height width) = line (codes "rule") (h ∷ v ∷ height ∷ width ∷ [])
mark_line (Special h v text) = special_line h v text

-- The lines of the page with this number: its counts, then its marks.
unfoldable pub page_lines : ℕ → MarkedPage → List ℕ
page_lines number page = line (codes "page " ++ (decimal number ++ codes " counts")) page.counts ++ flat_map mark_line page.marks

-- The lines of some pages, the first of them with this number.
abbrev pub pages_lines : ℕ → List MarkedPage → List ℕ
pages_lines number pages = flat_map (λ p. page_lines p.0 p.1) (enumerate_from number pages)

-- The listing of all pages, which are numbered from 1.
abbrev pub listing : List MarkedPage → List ℕ
listing pages = pages_lines 1 pages

-- The rest of the line of a special that was begun.
abbrev pub rest_of_line : Option (Bor (List ℕ)) → List ℕ
rest_of_line None = []
rest_of_line (Some text) = text_line text.now
