-- The spelling of an instruction that is written: the fewest bytes wherever an operand may have several lengths; for a special the form xxx1 or xxx4
-- (own; the clause `spelled` of `spell` connects it with `Spells`).
use Rattle.std.specs.Prelude.{◌≡◌, ◌<◌, ◌+◌, ◌++◌, ◌^◌, ◌∷◌, [], List, length, ℕ, ℤ, pos, negsuc, nat_lt, if◌then◌else◌}
use Rattle.std.specs.Int.{w32, cast_unsigned}
use Rattle.std.specs.Int.RustNames.{FitsSigned}
use Rattle.std.specs.List.{flat_map, AllByRecursion}
use Rattle.byteorder.specs.Endian.{big_bytes}
use Rattle.dvi_ops.specs.Instruction.{By, Set, Again, Definition, Units, Postamble, BodyLeaf, SetChar, PutChar, SetRule, PutRule, Nop, Move, FontNum}
use Rattle.dvi_ops.specs.Instruction.{FontDef, Xxx, Instruction, Do, Push, Pop, Bop, Eop, Pre, Post, PostPost}
use Rattle.dvi_ops.specs.Table.{plain_code, register_code}

-- The n lowest bytes of z in two's complement, the highest of them first.
unfoldable pub operand : ℕ → ℤ → List ℕ
operand n z = big_bytes n (cast_unsigned w32 z)

-- The fewest bytes that hold m and -m-1 as signed numbers: 1 to 4.
abbrev pub bytes_for : ℕ → ℕ
bytes_for m = if nat_lt m 128 then 1 else if nat_lt m 32768 then 2 else if nat_lt m 8388608 then 3 else 4

-- The fewest bytes that hold z as a signed number.
unfoldable pub signed_size : ℤ → ℕ
signed_size (pos m) = bytes_for m
signed_size (negsuc m) = bytes_for m

-- The fewest bytes that hold the number of a character or of a font: one to three bytes are unsigned, four are signed.
unfoldable pub code_size : ℤ → ℕ
code_size (pos m) = if nat_lt m 256 then 1 else if nat_lt m 65536 then 2 else if nat_lt m 16777216 then 3 else 4
code_size (negsuc m) = 4

-- The code base + n, and n bytes of z.
abbrev pub code_and_number : ℕ → ℕ → ℤ → List ℕ
code_and_number base n z = (base + n) ∷ operand n z

-- A movement, with the fewest bytes that hold its amount.
abbrev pub coded_signed : ℕ → ℤ → List ℕ
coded_signed base z = code_and_number base (signed_size z) z

-- The selection of a character or a font, with the fewest bytes that hold its number.
abbrev pub coded_number : ℕ → ℤ → List ℕ
coded_number base z = code_and_number base (code_size z) z

-- A character: set_char for 0 to 127, else set1 to set4.
unfoldable pub char_spelling : ℤ → List ℕ
char_spelling (pos c) = if nat_lt c 128 then c ∷ [] else coded_number 127 (pos c)
char_spelling (negsuc c) = coded_number 127 (negsuc c)

-- A font selection: fnt_num for 0 to 63, else fnt1 to fnt4.
unfoldable pub font_spelling : ℤ → List ℕ
font_spelling (pos f) = if nat_lt f 64 then (171 + f) ∷ [] else coded_number 234 (pos f)
font_spelling (negsuc f) = coded_number 234 (negsuc f)

-- A special: xxx1 for up to 255 bytes, else xxx4.
unfoldable pub text_spelling : List ℕ → List ℕ
text_spelling text =
    if nat_lt (length text) 256 then 239 ∷ length text ∷ text else 242 ∷ (operand 4 (pos (length text)) ++ text)

-- The bytes of a font definition after its number.
abbrev pub definition_bytes : Definition → List ℕ
definition_bytes d =
    operand 4 d.check_sum ++ (operand 4 d.size ++ (operand 4 d.design_size ++ (length d.area ∷ length d.name ∷ (d.area ++ d.name))))

-- A font definition: fnt_def1 to fnt_def4, by the font's number.
abbrev pub definition_spelling : Definition → List ℕ
definition_spelling d = coded_number 242 d.number ++ definition_bytes d

-- The bytes of num, den and mag.
abbrev pub units_bytes : Units → List ℕ
units_bytes units = operand 4 units.num ++ (operand 4 units.den ++ operand 4 units.mag)

-- The operands of post.
abbrev pub post_bytes : Postamble → List ℕ
post_bytes p =
    operand 4 p.last_bop
    ++ (units_bytes p.units
    ++ (operand 4 p.height_plus_depth ++ (operand 4 p.width ++ (operand 2 (pos p.stack_depth) ++ operand 2 (pos p.pages)))))

-- The spelling of a leaf.
unfoldable pub leaf_spelling : BodyLeaf → List ℕ
leaf_spelling (SetChar c) = char_spelling c
leaf_spelling (PutChar c) = coded_number 132 c
leaf_spelling (SetRule height width) = 132 ∷ (operand 4 height ++ operand 4 width)
leaf_spelling (PutRule height width) = 137 ∷ (operand 4 height ++ operand 4 width)
leaf_spelling Nop = 138 ∷ []
leaf_spelling (Move axis (By z)) = coded_signed (plain_code axis) z
leaf_spelling (Move axis (Set register z)) = coded_signed (register_code axis register) z
leaf_spelling (Move axis (Again register)) = register_code axis register ∷ []
leaf_spelling (FontNum f) = font_spelling f
leaf_spelling (FontDef d) = definition_spelling d
leaf_spelling (Xxx text) = text_spelling text

-- The spelling of an instruction that is written.
unfoldable pub spelling : Instruction → List ℕ
spelling (Do leaf) = leaf_spelling leaf
spelling (Bop counts pointer) = 139 ∷ (flat_map (operand 4) counts ++ operand 4 pointer)
spelling Eop = 140 ∷ []
spelling Push = 141 ∷ []
spelling Pop = 142 ∷ []
spelling (Pre id units comment) = 247 ∷ id ∷ (units_bytes units ++ (length comment ∷ comment))
spelling (Post p) = 248 ∷ post_bytes p
spelling (PostPost place id) = 249 ∷ (operand 4 place ++ id ∷ [])

-- Each length in an instruction fits its field (own; the widths of the fields: DVItype, 15 to 20).
abbrev pub HasSpelling : Instruction → Type 0
HasSpelling (Do (FontDef d)) = (length d.area < 256) × (length d.name < 256)
HasSpelling (Do (Xxx text)) = length text < 2 ^ 32
HasSpelling (Pre id units comment) = length comment < 256
HasSpelling i = Unit {0}

-- A number fits a field of four bytes (own; the widths of the fields: DVItype, 15 to 20).
abbrev pub NumberFits : ℤ → Type 0
NumberFits z = FitsSigned w32 z

-- The numbers num, den and mag each fit a field of four bytes.
abbrev pub UnitsFit : Units → Type 0
UnitsFit units = NumberFits units.num × NumberFits units.den × NumberFits units.mag

-- Each number of a leaf fits a field of four bytes.
abbrev pub LeafFits : BodyLeaf → Type 0
LeafFits (SetChar c) = NumberFits c
LeafFits (PutChar c) = NumberFits c
LeafFits (SetRule height width) = NumberFits height × NumberFits width
LeafFits (PutRule height width) = NumberFits height × NumberFits width
LeafFits Nop = Unit {0}
LeafFits (Move axis (By z)) = NumberFits z
LeafFits (Move axis (Set register z)) = NumberFits z
LeafFits (Move axis (Again register)) = Unit {0}
LeafFits (FontNum f) = NumberFits f
LeafFits (FontDef d) = NumberFits d.number × NumberFits d.check_sum × NumberFits d.size × NumberFits d.design_size
LeafFits (Xxx text) = Unit {0}

-- Each number of two bytes or more in an instruction fits its field, and a bop has ten counts. An identifier is one byte, and needs no condition.
abbrev pub NumbersFit : Instruction → Type 0
NumbersFit (Do leaf) = LeafFits leaf
NumbersFit (Bop counts pointer) = (length counts ≡ 10) × AllByRecursion NumberFits counts × NumberFits pointer
NumbersFit Eop = Unit {0}
NumbersFit Push = Unit {0}
NumbersFit Pop = Unit {0}
NumbersFit (Pre id units comment) = UnitsFit units
NumbersFit (Post p) =
    NumberFits p.last_bop × UnitsFit p.units × NumberFits p.height_plus_depth × NumberFits p.width × (p.stack_depth < 65536) × (p.pages < 65536)
NumbersFit (PostPost place id) = NumberFits place

-- An instruction that is no special, or a special of up to 255 bytes, which xxx1 spells.
abbrev pub HasShortText : Instruction → Type 0
HasShortText (Do (Xxx text)) = length text < 256
HasShortText i = Unit {0}

-- A leaf that is neither a special nor a font definition.
abbrev pub IsBrief : BodyLeaf → Type 0
IsBrief (FontDef d) = ⊥
IsBrief (Xxx text) = ⊥
IsBrief leaf = Unit {0}
