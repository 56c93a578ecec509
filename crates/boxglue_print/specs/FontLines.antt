-- The lines of the fonts of a DVI file (own).
use Rattle.std.specs.Prelude.{◌≡◌, [], ◌∷◌, ◌++◌, ◌/◌, ◌%◌, ◌==◌, ◌&&◌, not, nat_le, if◌then◌else◌, Bool, List, ℕ, ℤ, pos, negsuc, codes}
use Rattle.std.specs.Fmt.{signed_decimal}
use Rattle.std.specs.Int.{w32, cast_unsigned, to_be_bytes}
use Rattle.std.specs.List.{flat_map}
use Rattle.dvi_ops.specs.Instruction.{Definition, Units}
use Rattle.dvi_read.specs.Listing.{hexadecimal_digit}

-- A byte as two lower case hexadecimal digits.
abbrev pub hexadecimal_byte : ℕ → List ℕ
hexadecimal_byte byte = hexadecimal_digit (byte / 16) ∷ hexadecimal_digit (byte % 16) ∷ []

-- Whether a byte of a word is printed unchanged: it is printable, no space and no backslash.
abbrev pub is_plain : ℕ → Bool
is_plain byte = nat_le 33 byte && nat_le byte 126 && not (byte == 92)

-- A byte of a word: unchanged, or a backslash and its two digits.
unfoldable pub word_byte : ℕ → List ℕ
word_byte byte = if is_plain byte then byte ∷ [] else 92 ∷ hexadecimal_byte byte

-- A name as one word. An empty name is a lone backslash.
abbrev pub word : List ℕ → List ℕ
word [] = 92 ∷ []
word name = flat_map word_byte name

-- The area as one more word, with a space before it; nothing, if it is empty.
abbrev pub area_word : List ℕ → List ℕ
area_word [] = []
area_word area = codes " " ++ word area

-- The four bytes of a check sum, the highest first, as eight digits: a negative sum is the number without a sign of the same bytes.
unfoldable pub check_sum_text : ℤ → List ℕ
check_sum_text sum = flat_map hexadecimal_byte (to_be_bytes w32 (cast_unsigned w32 sum))

-- A number after a space.
unfoldable pub space_and_number : ℤ → List ℕ
space_and_number number = codes " " ++ signed_decimal number

-- The number of a font and its name.
unfoldable pub number_and_name : Definition → List ℕ
number_and_name font = codes "font" ++ (space_and_number font.number ++ (codes " " ++ word font.name))

-- Its size and its design size, in DVI units, and its check sum.
unfoldable pub sizes : Definition → List ℕ
sizes font = space_and_number font.size ++ (space_and_number font.design_size ++ (codes " " ++ check_sum_text font.check_sum))

-- The line of a font: its number, name, size, design size and check sum, and its area, if that is not empty.
unfoldable pub font_line : Definition → List ℕ
font_line font = number_and_name font ++ (sizes font ++ (area_word font.area ++ codes "\n"))

-- The line of the units.
unfoldable pub units_line : Units → List ℕ
units_line units = codes "units" ++ (space_and_number units.num ++ (space_and_number units.den ++ (space_and_number units.mag ++ codes "\n")))

-- The line of the units, and those of the fonts.
abbrev pub fonts_lines : Units → List Definition → List ℕ
fonts_lines units fonts = units_line units ++ flat_map font_line fonts

-- Known lines: a font of TeX's, and one whose name has a space and a backslash, with an area and a check sum of which the highest bit is set.
abbrev pub KnownFontLines : Type 0
KnownFontLines =
    (units_line (record { num = pos 25400000; den = pos 473628672; mag = pos 1000 }) ≡ codes "units 25400000 473628672 1000\n")
    × (font_line (record { number = pos 0; check_sum = pos 1274110073; size = pos 655360; design_size = pos 655360; area = []; name = codes "cmr10" })
    ≡ codes "font 0 cmr10 655360 655360 4bf16079\n")
    × (font_line (record { number = negsuc 0; check_sum = negsuc 0; size = pos 1; design_size = pos 0; area = codes "a/"; name = codes "b \\" })
    ≡ codes "font -1 b\\20\\5c 1 0 ffffffff a/\n")
    × (word [] ≡ codes "\\")
