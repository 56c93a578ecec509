-- The table of instructions: which bytes spell which instruction, with every length of an operand that the standard allows (DVItype, 15 to 20).
-- Numbers have their highest byte first. A byte is a number below 256.
use Rattle.std.specs.Prelude.{◌≡◌, ◌⊎◌, ◌≤◌, ◌<◌, ◌+◌, ◌++◌, ◌∷◌, [], List, length, ℕ, ℤ, pos, ◌==◌, if◌then◌else◌}
use Rattle.byteorder.specs.Endian.{big_number, twos_complement}
use Rattle.dvi_ops.specs.Instruction.{Axis, Across, Downward, MoveRegister, First, Second, By, Set, Again, Definition, Units, BodyLeaf, SetChar}
use Rattle.dvi_ops.specs.Instruction.{PutChar, SetRule, PutRule, Nop, Move, FontNum, FontDef, Xxx, Instruction, Do, Push, Pop, Bop, Eop, Pre, Post}
use Rattle.dvi_ops.specs.Instruction.{PostPost}

-- The value of n bytes as a signed number (DVItype, 27).
abbrev pub signed : ℕ → List ℕ → ℤ
signed n bytes = twos_complement n (big_number n bytes)

-- The number of a character or of a font: four bytes are signed, fewer are not (DVItype, 27).
abbrev pub code : ℕ → List ℕ → ℤ
code n bytes = if n == 4 then signed n bytes else pos (big_number n bytes)

-- An operation code, and after it one to four bytes with the value z.
abbrev pub IsCoded : (ℕ → List ℕ → ℤ) → ℕ → ℤ → List ℕ → Type 0
IsCoded says base z bytes =
    (n : ℕ) × (operand : List ℕ) × (1 ≤ n) × (n ≤ 4) × (bytes ≡ (base + n) ∷ operand) × (length operand ≡ n) × (says n operand ≡ z)

-- Four bytes with the value z.
abbrev pub SpellsSigned : ℤ → List ℕ → Type 0
SpellsSigned z bytes = (length bytes ≡ 4) × (signed 4 bytes ≡ z)

-- Two bytes with the value n.
abbrev pub SaysShort : ℕ → List ℕ → Type 0
SaysShort n bytes = (length bytes ≡ 2) × (big_number 2 bytes ≡ n)

-- Four bytes for each of the numbers, in order.
abbrev pub SaysEach : List ℤ → List ℕ → Type 0
SaysEach [] bytes = bytes ≡ []
SaysEach (z ∷ zs) bytes = (a : List ℕ) × (rest : List ℕ) × (bytes ≡ a ++ rest) × SpellsSigned z a × SaysEach zs rest

-- Twelve bytes with the values num, den and mag.
abbrev pub SaysUnits : Units → List ℕ → Type 0
SaysUnits units bytes =
    (a : List ℕ) × (b : List ℕ) × (c : List ℕ) × (bytes ≡ a ++ (b ++ c)) × SpellsSigned units.num a × SpellsSigned units.den b
    × SpellsSigned units.mag c

-- A rule: its code, its height and its width.
abbrev pub IsRule : ℕ → ℤ → ℤ → List ℕ → Type 0
IsRule operation height width bytes = (a : List ℕ) × (b : List ℕ) × (bytes ≡ operation ∷ (a ++ b)) × SpellsSigned height a × SpellsSigned width b

-- The bytes of a font definition after its number.
abbrev pub SaysDefinition : Definition → List ℕ → Type 0
SaysDefinition d bytes =
    (check_sum : List ℕ) × (size : List ℕ) × (design_size : List ℕ)
    × (bytes ≡ check_sum ++ (size ++ (design_size ++ (length d.area ∷ length d.name ∷ (d.area ++ d.name)))))
    × SpellsSigned d.check_sum check_sum × SpellsSigned d.size size × SpellsSigned d.design_size design_size

-- The code before right1 or down1.
abbrev pub plain_code : Axis → ℕ
plain_code Across = 142
plain_code Downward = 156

-- The codes w0, x0, y0 and z0, each of which is directly before w1, x1, y1 or z1.
abbrev pub register_code : Axis → MoveRegister → ℕ
register_code Across First = 147
register_code Across Second = 152
register_code Downward First = 161
register_code Downward Second = 166

-- The bytes spell the leaf.
abbrev pub SpellsLeaf : BodyLeaf → List ℕ → Type 0
SpellsLeaf (SetChar c) bytes = ((n : ℕ) × (n < 128) × (c ≡ pos n) × (bytes ≡ n ∷ [])) ⊎ IsCoded code 127 c bytes
SpellsLeaf (PutChar c) bytes = IsCoded code 132 c bytes
SpellsLeaf (SetRule height width) bytes = IsRule 132 height width bytes
SpellsLeaf (PutRule height width) bytes = IsRule 137 height width bytes
SpellsLeaf Nop bytes = bytes ≡ 138 ∷ []
SpellsLeaf (Move axis (By z)) bytes = IsCoded signed (plain_code axis) z bytes
SpellsLeaf (Move axis (Set register z)) bytes = IsCoded signed (register_code axis register) z bytes
SpellsLeaf (Move axis (Again register)) bytes = bytes ≡ register_code axis register ∷ []
SpellsLeaf (FontNum f) bytes = ((n : ℕ) × (n < 64) × (f ≡ pos n) × (bytes ≡ (171 + n) ∷ [])) ⊎ IsCoded code 234 f bytes
SpellsLeaf (FontDef d) bytes =
    (n : ℕ) × (number : List ℕ) × (rest : List ℕ)
    × (1 ≤ n) × (n ≤ 4) × (bytes ≡ (242 + n) ∷ (number ++ rest)) × (length number ≡ n) × (code n number ≡ d.number) × SaysDefinition d rest
SpellsLeaf (Xxx text) bytes =
    (n : ℕ) × (count : List ℕ) × (1 ≤ n) × (n ≤ 4) × (bytes ≡ (238 + n) ∷ (count ++ text)) × (length count ≡ n) × (big_number n count ≡ length text)

-- The bytes spell the instruction.
abbrev pub Spells : Instruction → List ℕ → Type 0
Spells (Do leaf) bytes = SpellsLeaf leaf bytes
Spells (Bop counts pointer) bytes =
    (a : List ℕ) × (b : List ℕ) × (bytes ≡ 139 ∷ (a ++ b)) × (length counts ≡ 10) × SaysEach counts a × SpellsSigned pointer b
Spells Eop bytes = bytes ≡ 140 ∷ []
Spells Push bytes = bytes ≡ 141 ∷ []
Spells Pop bytes = bytes ≡ 142 ∷ []
Spells (Pre id units comment) bytes = (a : List ℕ) × (bytes ≡ 247 ∷ id ∷ (a ++ (length comment ∷ comment))) × SaysUnits units a
Spells (Post p) bytes =
    (last : List ℕ) × (units : List ℕ) × (tall : List ℕ) × (wide : List ℕ) × (deep : List ℕ) × (count : List ℕ)
    × (bytes ≡ 248 ∷ (last ++ (units ++ (tall ++ (wide ++ (deep ++ count)))))) × SpellsSigned p.last_bop last × SaysUnits p.units units
    × SpellsSigned p.height_plus_depth tall × SpellsSigned p.width wide × SaysShort p.stack_depth deep × SaysShort p.pages count
Spells (PostPost place id) bytes = (a : List ℕ) × (bytes ≡ 249 ∷ (a ++ id ∷ [])) × SpellsSigned place a
