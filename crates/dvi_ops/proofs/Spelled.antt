-- The written bytes spell the instruction.
use Rattle.std.proofs.Common.{ℕ, suc, ℤ, pos, negsuc, ◌≡◌, ◌≤◌, ◌<◌, ◌-◌, ◌*◌, ◌%◌, ◌^◌, ◌-ℤ◌, List, [], ◌∷◌, ◌++◌, length, nat_lt, if◌then◌else◌, arith, inl, inr, refl, sym, ap, ◌∙◌, append-nil}
use Rattle.std.proofs.lemmas.Bool.{cases_lt, lt-ltb, le-ltb}
use Rattle.std.proofs.lemmas.Int.{ints}
use Rattle.std.specs.Int.{w32, cast_unsigned, bytes_high_first}
use Rattle.std.specs.Int.Signed.{mag}
use Rattle.std.specs.List.{AllByRecursion, flat_map}
use Rattle.byteorder.specs.Endian.{big_number}
use Rattle.byteorder.specs.Numbers.{big_from-bytes, length-bytes_high_first}
use Rattle.dvi_ops.specs.Instruction.{By, Set, Again, Definition, Units, BodyLeaf, SetChar, PutChar, SetRule, PutRule, Nop, Move, FontNum, FontDef, Xxx, Instruction, Do, Push, Pop, Bop, Eop, Pre, Post, PostPost}
use Rattle.dvi_ops.specs.Spelling.{HasSpelling, LeafFits, NumberFits, NumbersFit, UnitsFit, bytes_for, char_spelling, code_size, coded_number, coded_signed, definition_bytes, font_spelling, leaf_spelling, operand, signed_size, spelling, text_spelling, units_bytes}
use Rattle.dvi_ops.specs.Table.{signed, code, IsCoded, SpellsSigned, SaysShort, SaysEach, SaysUnits, SpellsLeaf, Spells, plain_code, register_code}
use Rattle.dvi_ops.proofs.Numbers.{four}

-- An operand has its number of bytes, and their value is that of the number's low bytes.
pub operand_length : (n : ℕ) (z : ℤ) → length (operand n z) ≡ n
unfolding operand
operand_length n z = length-bytes_high_first n (cast_unsigned w32 z)

pub operand_says : (n : ℕ) (z : ℤ) → big_number n (operand n z) ≡ cast_unsigned w32 z % 256 ^ n
unfolding operand
operand_says n z = ap (big_number n) (sym (append-nil (bytes_high_first n (cast_unsigned w32 z)))) ∙ big_from-bytes n (cast_unsigned w32 z) []

-- A test with a known outcome.
below_half : (m half whole x : ℕ) → x ≡ m → m < half → (if nat_lt x half then pos x else pos x -ℤ pos whole) ≡ pos m
below_half m half whole x e h = rw (e, lt-ltb m half h) refl

above_half : (m half whole x : ℕ) → x ≡ whole - suc m → m < half → whole ≡ 2 * half → (if nat_lt x half then pos x else pos x -ℤ pos whole) ≡ negsuc m
above_half m half whole x e h w = let high : half ≤ x = omega arith in rw (le-ltb x half high) (omega (arith, ints))

-- A number that fits in n bytes is their value.
says_one : (z : ℤ) → mag z < 128 → signed 1 (operand 1 z) ≡ z
says_one (pos m) h = below_half m 128 256 (big_number 1 (operand 1 (pos m))) (operand_says 1 (pos m) ∙ omega arith) h
says_one (negsuc m) h = above_half m 128 256 (big_number 1 (operand 1 (negsuc m))) (operand_says 1 (negsuc m) ∙ omega arith) h refl

says_two : (z : ℤ) → mag z < 32768 → signed 2 (operand 2 z) ≡ z
says_two (pos m) h = below_half m 32768 65536 (big_number 2 (operand 2 (pos m))) (operand_says 2 (pos m) ∙ omega arith) h
says_two (negsuc m) h = above_half m 32768 65536 (big_number 2 (operand 2 (negsuc m))) (operand_says 2 (negsuc m) ∙ omega arith) h refl

says_three : (z : ℤ) → mag z < 8388608 → signed 3 (operand 3 z) ≡ z
says_three (pos m) h = below_half m 8388608 16777216 (big_number 3 (operand 3 (pos m))) (operand_says 3 (pos m) ∙ omega arith) h
says_three (negsuc m) h = above_half m 8388608 16777216 (big_number 3 (operand 3 (negsuc m))) (operand_says 3 (negsuc m) ∙ omega arith) h refl

says_four : (z : ℤ) → mag z < 2147483648 → signed 4 (operand 4 z) ≡ z
says_four (pos m) h = below_half m 2147483648 4294967296 (big_number 4 (operand 4 (pos m))) (operand_says 4 (pos m) ∙ omega arith) h
says_four (negsuc m) h = above_half m 2147483648 4294967296 (big_number 4 (operand 4 (negsuc m))) (operand_says 4 (negsuc m) ∙ omega arith) h refl

-- The size of a signed number, by cases.
bytes_cases : (P : ℕ → Type 0) (m : ℕ) → (m < 128 → P 1) → (m < 32768 → P 2) → (m < 8388608 → P 3) → P 4 → P (bytes_for m)
bytes_cases P m one two three four = elim (cases_lt m 128) [
  | inl h ↦ rw (lt-ltb m 128 h) (one h)
  | inr h1 ↦ rw (le-ltb m 128 h1) (elim (cases_lt m 32768) [
    | inl h ↦ rw (lt-ltb m 32768 h) (two h)
    | inr h2 ↦ rw (le-ltb m 32768 h2) (elim (cases_lt m 8388608) [
      | inl h ↦ rw (lt-ltb m 8388608 h) (three h)
      | inr h3 ↦ rw (le-ltb m 8388608 h3) four
    ])
  ])
]

pub signed_cases : (P : ℕ → Type 0) (z : ℤ) → (mag z < 128 → P 1) → (mag z < 32768 → P 2) → (mag z < 8388608 → P 3) → P 4 → P (signed_size z)
unfolding signed_size
signed_cases P (pos m) one two three four = bytes_cases P m one two three four
signed_cases P (negsuc m) one two three four = bytes_cases P m one two three four

-- A signed operand is coded.
pub signed_coded : (base : ℕ) (z : ℤ) → NumberFits z → IsCoded signed base z (coded_signed base z)
signed_coded base z fits =
    let range : (1 ≤ signed_size z) × (signed_size z ≤ 4) = signed_cases (λ n. (1 ≤ n) × (n ≤ 4)) z (λ h. (omega arith, omega arith)) (λ h. (omega arith, omega arith)) (λ h. (omega arith, omega arith)) (omega arith, omega arith) in
    let says : signed (signed_size z) (operand (signed_size z) z) ≡ z = signed_cases (λ n. signed n (operand n z) ≡ z) z (says_one z) (says_two z) (says_three z) (says_four z fits.sfits) in
    (signed_size z, operand (signed_size z) z, range.0, range.1, refl, operand_length (signed_size z) z, says)

-- The number of a character or of a font is coded.
code_cases : (m : ℕ) (P : ℕ → Type 0) → (m < 256 → P 1) → (m < 65536 → P 2) → (m < 16777216 → P 3) → P 4 → P (code_size (pos m))
unfolding code_size
code_cases m P one two three four = elim (cases_lt m 256) [
  | inl h ↦ rw (lt-ltb m 256 h) (one h)
  | inr h1 ↦ rw (le-ltb m 256 h1) (elim (cases_lt m 65536) [
    | inl h ↦ rw (lt-ltb m 65536 h) (two h)
    | inr h2 ↦ rw (le-ltb m 65536 h2) (elim (cases_lt m 16777216) [
      | inl h ↦ rw (lt-ltb m 16777216 h) (three h)
      | inr h3 ↦ rw (le-ltb m 16777216 h3) four
    ])
  ])
]

pub number_coded : (base : ℕ) (z : ℤ) → NumberFits z → IsCoded code base z (coded_number base z)
unfolding code_size
number_coded base (pos m) fits =
    let z : ℤ = pos m in
    let range : (1 ≤ code_size (pos m)) × (code_size (pos m) ≤ 4) = code_cases m (λ n. (1 ≤ n) × (n ≤ 4)) (λ h. (omega arith, omega arith)) (λ h. (omega arith, omega arith)) (λ h. (omega arith, omega arith)) (omega arith, omega arith) in
    let says : code (code_size (pos m)) (operand (code_size (pos m)) (pos m)) ≡ pos m =
    code_cases m (λ n. code n (operand n (pos m)) ≡ pos m)
    (λ h. ap pos (operand_says 1 (pos m) ∙ omega arith)) (λ h. ap pos (operand_says 2 (pos m) ∙ omega arith)) (λ h. ap pos (operand_says 3 (pos m) ∙ omega arith)) (says_four (pos m) fits.sfits) in
    (code_size (pos m), operand (code_size (pos m)) (pos m), range.0, range.1, refl, operand_length (code_size (pos m)) (pos m), says)
number_coded base (negsuc m) fits =
    (4, operand 4 (negsuc m), omega arith, omega arith, refl, operand_length 4 (negsuc m), says_four (negsuc m) fits.sfits)

-- Numbers of four bytes and of two are written right.
pub word_says : (z : ℤ) → NumberFits z → SpellsSigned z (operand 4 z)
word_says z fits = (operand_length 4 z, says_four z fits.sfits)

pub half_says : (n : ℕ) → n < 65536 → SaysShort n (operand 2 (pos n))
half_says n h = (operand_length 2 (pos n), operand_says 2 (pos n) ∙ omega arith)

pub each_says : (zs : List ℤ) → AllByRecursion NumberFits zs → SaysEach zs (flat_map (operand 4) zs)
each_says [] all = refl
each_says (z ∷ zs) all = (operand 4 z, flat_map (operand 4) zs, refl, word_says z all.0, each_says zs all.1)

pub units_say : (u : Units) → UnitsFit u → SaysUnits u (units_bytes u)
units_say u fits = (operand 4 u.num, operand 4 u.den, operand 4 u.mag, refl, word_says u.num fits.0, word_says u.den fits.1, word_says u.mag fits.2)

pub char_spelled : (c : ℤ) → NumberFits c → SpellsLeaf (SetChar c) (char_spelling c)
unfolding char_spelling
char_spelled (pos c) fits = elim (cases_lt c 128) [
  | inl h ↦ rw (lt-ltb c 128 h) (inl (c, h, refl, refl))
  | inr h ↦ rw (le-ltb c 128 h) (inr (number_coded 127 (pos c) fits))
]
char_spelled (negsuc c) fits = inr (number_coded 127 (negsuc c) fits)

pub font_spelled : (f : ℤ) → NumberFits f → SpellsLeaf (FontNum f) (font_spelling f)
unfolding font_spelling
font_spelled (pos f) fits = elim (cases_lt f 64) [
  | inl h ↦ rw (lt-ltb f 64 h) (inl (f, h, refl, refl))
  | inr h ↦ rw (le-ltb f 64 h) (inr (number_coded 234 (pos f) fits))
]
font_spelled (negsuc f) fits = inr (number_coded 234 (negsuc f) fits)

pub text_spelled : (text : List ℕ) → length text < 2 ^ 32 → SpellsLeaf (Xxx text) (text_spelling text)
unfolding text_spelling
text_spelled text bound = elim (cases_lt (length text) 256) [
  | inl h ↦ rw (lt-ltb (length text) 256 h) (1, length text ∷ [], omega arith, omega arith, refl, refl, omega arith)
  | inr h ↦ rw (le-ltb (length text) 256 h) (4, operand 4 (pos (length text)), omega arith, omega arith, refl, operand_length 4 (pos (length text)), operand_says 4 (pos (length text)) ∙ omega arith)
]

pub definition_spelled : (d : Definition) → LeafFits (FontDef d) → SpellsLeaf (FontDef d) (coded_number 242 d.number ++ definition_bytes d)
definition_spelled d fits =
    let (n, number, low, high, whole, len, value) = number_coded 242 d.number fits.0 in (
      n,
      number,
      definition_bytes d,
      low,
      high,
      ap (λ (r : List ℕ). r ++ definition_bytes d) whole,
      len,
      value,
      (operand 4 d.check_sum, operand 4 d.size, operand 4 d.design_size, refl, word_says d.check_sum fits.1, word_says d.size fits.2, word_says d.design_size fits.3),
    )

leaf_spelled : (leaf : BodyLeaf) → HasSpelling (Do leaf) → LeafFits leaf → SpellsLeaf leaf (leaf_spelling leaf)
unfolding leaf_spelling
leaf_spelled (SetChar c) has fits = char_spelled c fits
leaf_spelled (PutChar c) has fits = number_coded 132 c fits
leaf_spelled (SetRule height width) has fits = (operand 4 height, operand 4 width, refl, word_says height fits.0, word_says width fits.1)
leaf_spelled (PutRule height width) has fits = (operand 4 height, operand 4 width, refl, word_says height fits.0, word_says width fits.1)
leaf_spelled Nop has fits = refl
leaf_spelled (Move axis (By z)) has fits = signed_coded (plain_code axis) z fits
leaf_spelled (Move axis (Set register z)) has fits = signed_coded (register_code axis register) z fits
leaf_spelled (Move axis (Again register)) has fits = refl
leaf_spelled (FontNum f) has fits = font_spelled f fits
leaf_spelled (FontDef d) has fits = definition_spelled d fits
leaf_spelled (Xxx text) has fits = text_spelled text has

pub written_is_spelled : (i : Instruction) → HasSpelling i → NumbersFit i → Spells i (spelling i)
unfolding spelling
written_is_spelled (Do leaf) has fits = leaf_spelled leaf has fits
written_is_spelled (Bop counts pointer) has fits =
    (flat_map (operand 4) counts, operand 4 pointer, refl, fits.0, each_says counts fits.1, word_says pointer fits.2)
written_is_spelled Eop has fits = refl
written_is_spelled Push has fits = refl
written_is_spelled Pop has fits = refl
written_is_spelled (Pre id units comment) has fits = (units_bytes units, refl, units_say units fits)
written_is_spelled (Post p) has fits = (
  operand 4 p.last_bop,
  units_bytes p.units,
  operand 4 p.height_plus_depth,
  operand 4 p.width,
  operand 2 (pos p.stack_depth),
  operand 2 (pos p.pages),
  refl,
  word_says p.last_bop fits.0,
  units_say p.units fits.1,
  word_says p.height_plus_depth fits.2,
  word_says p.width fits.3,
  half_says p.stack_depth fits.4,
  half_says p.pages fits.5,
)
written_is_spelled (PostPost place id) has fits = (operand 4 place, refl, word_says place fits)
