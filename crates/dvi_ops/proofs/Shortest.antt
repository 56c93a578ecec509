-- The lengths of spellings, and that the written one is the shortest.
use Rattle.std.proofs.Common.{ℕ, suc, ℤ, pos, negsuc, ◌≡◌, ◌≤◌, ◌<◌, ◌+◌, ◌*◌, ◌-ℤ◌, ◌≤ℤ◌, ◌<ℤ◌, neg_ℤ, List, [], ◌∷◌, ◌++◌, length, slice_index, nat_lt, if◌then◌else◌, arith, inl, inr, refl, ap, subst, ◌∙◌}
use Rattle.std.proofs.lemmas.Bool.{cases_lt, lt-ltb, le-ltb}
use Rattle.std.proofs.lemmas.Int.{ints}
use Rattle.std.proofs.lemmas.List.{get_or_append_left, get_or_past, length-append}
use Rattle.std.specs.Int.Signed.{mag}
use Rattle.std.specs.List.{flat_map}
use Rattle.byteorder.specs.Endian.{big_number}
use Rattle.byteorder.specs.Numbers.{big_from-lt}
use Rattle.dvi_ops.specs.Instruction.{Axis, Movement, By, Set, Again, Definition, Units, Postamble, BodyLeaf, SetChar, PutChar, SetRule, PutRule, Nop, Move, FontNum, FontDef, Xxx, Instruction, Do, Push, Pop, Bop, Eop, Pre, Post, PostPost}
use Rattle.dvi_ops.specs.Spelling.{HasShortText, IsBrief, bytes_for, char_spelling, code_size, code_and_number, coded_number, coded_signed, definition_bytes, font_spelling, leaf_spelling, operand, post_bytes, signed_size, spelling, text_spelling, units_bytes}
use Rattle.dvi_ops.specs.Table.{signed, code, IsCoded, IsRule, SaysUnits, SaysDefinition, SpellsLeaf, Spells, plain_code, register_code}
use Rattle.dvi_ops.proofs.Fronts.{words_read}
use Rattle.dvi_ops.proofs.Numbers.{four}
use Rattle.dvi_ops.proofs.Spelled.{operand_length, signed_cases}

-- Each byte is below 256.
abbrev pub AreBytes : List ℕ → Type 0
AreBytes bytes = (k : ℕ) → slice_index bytes k < 256

after : (n : ℕ) (bytes operand : List ℕ) → bytes ≡ n ∷ operand → AreBytes bytes → AreBytes operand
after n bytes operand e small k = let h = small (suc k) in let same : slice_index bytes (suc k) ≡ slice_index operand k = ap (λ (x : List ℕ). slice_index x (suc k)) e in omega arith

front_small : (a b : List ℕ) (k : ℕ) → AreBytes (a ++ b) → slice_index a k < 256
front_small a b k small = elim (cases_lt k (length a)) [
  | inl inside ↦ let same = get_or_append_left a b 0 k inside in let h = small k in omega arith
  | inr past ↦ rw (get_or_past a k 0 past) (omega arith)
]

-- The range of n bytes as a signed number.
mag_below : (z : ℤ) (half : ℕ) → neg_ℤ (pos half) ≤ℤ z → z <ℤ pos half → mag z < half
mag_below (pos m) half low high = omega (arith, ints)
mag_below (negsuc m) half low high = omega (arith, ints)

complement_small : (half whole x : ℕ) → whole ≡ 2 * half → x < whole → mag (if nat_lt x half then pos x else pos x -ℤ pos whole) < half
complement_small half whole x w h = elim (cases_lt x half) [
  | inl below ↦ rw (lt-ltb x half below) below
  | inr above ↦ rw (le-ltb x half above) (mag_below (pos x -ℤ pos whole) half (omega (arith, ints)) (omega (arith, ints)))
]

size_is : (z : ℤ) → signed_size z ≡ bytes_for (mag z)
unfolding signed_size
size_is (pos m) = refl
size_is (negsuc m) = refl

bytes_one : (m : ℕ) → m < 128 → bytes_for m ≤ 1
bytes_one m h = rw (lt-ltb m 128 h) (omega arith)

bytes_two : (m : ℕ) → m < 32768 → bytes_for m ≤ 2
bytes_two m h = elim (cases_lt m 128) [
  | inl h1 ↦ rw (lt-ltb m 128 h1) (omega arith)
  | inr h1 ↦ rw (le-ltb m 128 h1, lt-ltb m 32768 h) (omega arith)
]

bytes_three : (m : ℕ) → m < 8388608 → bytes_for m ≤ 3
bytes_three m h = elim (cases_lt m 128) [
  | inl h1 ↦ rw (lt-ltb m 128 h1) (omega arith)
  | inr h1 ↦ elim (cases_lt m 32768) [
    | inl h2 ↦ rw (le-ltb m 128 h1, lt-ltb m 32768 h2) (omega arith)
    | inr h2 ↦ rw (le-ltb m 128 h1, le-ltb m 32768 h2, lt-ltb m 8388608 h) (omega arith)
  ]
]

signed_least : (n : ℕ) (bytes : List ℕ) (z : ℤ) → 1 ≤ n → n ≤ 4 → AreBytes bytes → signed n bytes ≡ z → signed_size z ≤ n
signed_least n bytes z low high small =
    four (λ n. signed n bytes ≡ z → signed_size z ≤ n) n low high
    (λ e. let h : mag z < 128 = subst (λ (z : ℤ). mag z < 128) e (complement_small 128 256 (big_number 1 bytes) refl (big_from-lt 0 1 bytes small)) in rw (size_is z) (bytes_one (mag z) h))
    (λ e. let h : mag z < 32768 = subst (λ (z : ℤ). mag z < 32768) e (complement_small 32768 65536 (big_number 2 bytes) refl (big_from-lt 0 2 bytes small)) in rw (size_is z) (bytes_two (mag z) h))
    (λ e. let h : mag z < 8388608 = subst (λ (z : ℤ). mag z < 8388608) e (complement_small 8388608 16777216 (big_number 3 bytes) refl (big_from-lt 0 3 bytes small)) in rw (size_is z) (bytes_three (mag z) h))
    (λ e. signed_cases (λ n. n ≤ 4) z (λ h. omega arith) (λ h. omega arith) (λ h. omega arith) (omega arith))

-- The range of n bytes as the number of a character or of a font.
code_one : (m : ℕ) → m < 256 → code_size (pos m) ≤ 1
unfolding code_size
code_one m h = rw (lt-ltb m 256 h) (omega arith)

code_two : (m : ℕ) → m < 65536 → code_size (pos m) ≤ 2
unfolding code_size
code_two m h = elim (cases_lt m 256) [
  | inl h1 ↦ rw (lt-ltb m 256 h1) (omega arith)
  | inr h1 ↦ rw (le-ltb m 256 h1, lt-ltb m 65536 h) (omega arith)
]

code_three : (m : ℕ) → m < 16777216 → code_size (pos m) ≤ 3
unfolding code_size
code_three m h = elim (cases_lt m 256) [
  | inl h1 ↦ rw (lt-ltb m 256 h1) (omega arith)
  | inr h1 ↦ elim (cases_lt m 65536) [
    | inl h2 ↦ rw (le-ltb m 256 h1, lt-ltb m 65536 h2) (omega arith)
    | inr h2 ↦ rw (le-ltb m 256 h1, le-ltb m 65536 h2, lt-ltb m 16777216 h) (omega arith)
  ]
]

pub code_range : (z : ℤ) → (1 ≤ code_size z) × (code_size z ≤ 4)
unfolding code_size
code_range (pos m) = elim (cases_lt m 256) [
  | inl h1 ↦ rw (lt-ltb m 256 h1) (omega arith, omega arith)
  | inr h1 ↦ elim (cases_lt m 65536) [
    | inl h2 ↦ rw (le-ltb m 256 h1, lt-ltb m 65536 h2) (omega arith, omega arith)
    | inr h2 ↦ elim (cases_lt m 16777216) [
      | inl h3 ↦ rw (le-ltb m 256 h1, le-ltb m 65536 h2, lt-ltb m 16777216 h3) (omega arith, omega arith)
      | inr h3 ↦ rw (le-ltb m 256 h1, le-ltb m 65536 h2, le-ltb m 16777216 h3) (omega arith, omega arith)
    ]
  ]
]
code_range (negsuc m) = (omega arith, omega arith)

pub signed_range : (z : ℤ) → (1 ≤ signed_size z) × (signed_size z ≤ 4)
signed_range z = signed_cases (λ n. (1 ≤ n) × (n ≤ 4)) z (λ h. (omega arith, omega arith)) (λ h. (omega arith, omega arith)) (λ h. (omega arith, omega arith)) (omega arith, omega arith)

code_least : (n : ℕ) (bytes : List ℕ) (z : ℤ) → 1 ≤ n → n ≤ 4 → AreBytes bytes → code n bytes ≡ z → code_size z ≤ n
code_least n bytes z low high small =
    four (λ n. code n bytes ≡ z → code_size z ≤ n) n low high
    (λ e. subst (λ (z : ℤ). code_size z ≤ 1) e (code_one (big_number 1 bytes) (big_from-lt 0 1 bytes small)))
    (λ e. subst (λ (z : ℤ). code_size z ≤ 2) e (code_two (big_number 2 bytes) (big_from-lt 0 2 bytes small)))
    (λ e. subst (λ (z : ℤ). code_size z ≤ 3) e (code_three (big_number 3 bytes) (big_from-lt 0 3 bytes small)))
    (λ e. (code_range z).1)

-- The lengths of the parts of a written spelling.
pub coded_length : (base n : ℕ) (z : ℤ) → length (code_and_number base n z) ≡ suc n
coded_length base n z = ap suc (operand_length n z)

abbrev Longer : List ℕ → List ℕ → Type 0
Longer bytes spelled = length spelled ≤ length bytes

longer : (a b : List ℕ) → length a ≡ length b → Longer b a
longer a b e = omega arith

signed_shortest : (base : ℕ) (z : ℤ) (bytes : List ℕ) → AreBytes bytes → IsCoded signed base z bytes → Longer bytes (coded_signed base z)
signed_shortest base z bytes small code_and_number =
    let (n, operand, low, high, whole, len, value) = code_and_number in
    let least = signed_least n operand z low high (after (base + n) bytes operand whole small) value in
    omega (arith, coded_length base (signed_size z) z, ap (λ (x : List ℕ). length x) whole)

code_shortest : (base : ℕ) (z : ℤ) (bytes : List ℕ) → AreBytes bytes → IsCoded code base z bytes → Longer bytes (coded_number base z)
code_shortest base z bytes small code_and_number =
    let (n, operand, low, high, whole, len, value) = code_and_number in
    let least = code_least n operand z low high (after (base + n) bytes operand whole small) value in
    omega (arith, coded_length base (code_size z) z, ap (λ (x : List ℕ). length x) whole)

char_shortest : (c : ℤ) (bytes : List ℕ) → AreBytes bytes → SpellsLeaf (SetChar c) bytes → Longer bytes (char_spelling c)
unfolding char_spelling
char_shortest (pos c) bytes small (inl (n, h, e, whole)) = let below : c < 128 = omega (arith, ints) in rw (lt-ltb c 128 below) (omega (arith, ap (λ (x : List ℕ). length x) whole))
char_shortest (negsuc c) bytes small (inl (n, h, e, whole)) = absurd (cc)
char_shortest (pos c) bytes small (inr code_and_number) = elim (cases_lt c 128) [
  | inl h ↦ rw (lt-ltb c 128 h) (omega (arith, ap (λ (x : List ℕ). length x) code_and_number.4))
  | inr h ↦ rw (le-ltb c 128 h) (code_shortest 127 (pos c) bytes small code_and_number)
]
char_shortest (negsuc c) bytes small (inr code_and_number) = code_shortest 127 (negsuc c) bytes small code_and_number

font_shortest : (f : ℤ) (bytes : List ℕ) → AreBytes bytes → SpellsLeaf (FontNum f) bytes → Longer bytes (font_spelling f)
unfolding font_spelling
font_shortest (pos f) bytes small (inl (n, h, e, whole)) = let below : f < 64 = omega (arith, ints) in rw (lt-ltb f 64 below) (omega (arith, ap (λ (x : List ℕ). length x) whole))
font_shortest (negsuc f) bytes small (inl (n, h, e, whole)) = absurd (cc)
font_shortest (pos f) bytes small (inr code_and_number) = elim (cases_lt f 64) [
  | inl h ↦ rw (lt-ltb f 64 h) (omega (arith, ap (λ (x : List ℕ). length x) code_and_number.4))
  | inr h ↦ rw (le-ltb f 64 h) (code_shortest 234 (pos f) bytes small code_and_number)
]
font_shortest (negsuc f) bytes small (inr code_and_number) = code_shortest 234 (negsuc f) bytes small code_and_number

-- The lengths of the fixed fields.
pub units_length : (u : Units) → length (units_bytes u) ≡ 12
units_length u =
    omega (arith, length-append (operand 4 u.num) (operand 4 u.den ++ operand 4 u.mag), length-append (operand 4 u.den) (operand 4 u.mag), operand_length 4 u.num, operand_length 4 u.den, operand_length 4 u.mag)

pub definition_length : (d : Definition) → length (definition_bytes d) ≡ 14 + length d.area + length d.name
definition_length d =
    let names : List ℕ = length d.area ∷ length d.name ∷ (d.area ++ d.name) in
    omega (arith, length-append (operand 4 d.check_sum) (operand 4 d.size ++ (operand 4 d.design_size ++ names)), length-append (operand 4 d.size) (operand 4 d.design_size ++ names), length-append (operand 4 d.design_size) names, length-append d.area d.name, operand_length 4 d.check_sum, operand_length 4 d.size, operand_length 4 d.design_size)

pub counts_length : (counts : List ℤ) → length (flat_map (operand 4) counts) ≡ 4 * length counts
counts_length [] = refl
counts_length (z ∷ zs) = omega (arith, counts_length zs, operand_length 4 z, length-append (operand 4 z) (flat_map (operand 4) zs))

pub rule_length : (height width : ℤ) → length (operand 4 height ++ operand 4 width) ≡ 8
rule_length height width = omega (arith, length-append (operand 4 height) (operand 4 width), operand_length 4 height, operand_length 4 width)

-- Any spelling of a fixed field has the same length.
says_units_length : (u : Units) (a : List ℕ) → SaysUnits u a → length a ≡ 12
says_units_length u a says =
    let (p, q, r, whole, one, two, three) = says in
    ap (λ (x : List ℕ). length x) whole ∙ omega (arith, length-append p (q ++ r), length-append q r, one.0, two.0, three.0)

says_definition_length : (d : Definition) (a : List ℕ) → SaysDefinition d a → length a ≡ 14 + length d.area + length d.name
says_definition_length d a says =
    let (p, q, r, whole, one, two, three) = says in
    let names : List ℕ = length d.area ∷ length d.name ∷ (d.area ++ d.name) in
    ap (λ (x : List ℕ). length x) whole ∙ omega (arith, length-append p (q ++ (r ++ names)), length-append q (r ++ names), length-append r names, length-append d.area d.name, one.0, two.0, three.0)

is_rule_length : (operation : ℕ) (height width : ℤ) (a : List ℕ) → IsRule operation height width a → length a ≡ 9
is_rule_length operation height width a says =
    let (p, q, whole, tall, wide) = says in
    ap (λ (x : List ℕ). length x) whole ∙ omega (arith, length-append p q, tall.0, wide.0)

definition_shortest : (d : Definition) (bytes : List ℕ) → AreBytes bytes → SpellsLeaf (FontDef d) bytes → Longer bytes (coded_number 242 d.number ++ definition_bytes d)
definition_shortest d bytes small says =
    let (n, number, rest, low, high, whole, len, value, more) = says in
    let all = after (242 + n) bytes (number ++ rest) whole small in
    let least = code_least n number d.number low high (λ k. front_small number rest k all) value in
    omega (arith, length-append (coded_number 242 d.number) (definition_bytes d), coded_length 242 (code_size d.number) d.number, definition_length d, ap (λ (x : List ℕ). length x) whole, length-append number rest, says_definition_length d rest more)

text_shortest : (text bytes : List ℕ) → length text < 256 → SpellsLeaf (Xxx text) bytes → Longer bytes (text_spelling text)
unfolding text_spelling
text_shortest text bytes short says =
    let (n, count, low, high, whole, len, value) = says in
    rw (lt-ltb (length text) 256 short) (omega (arith, ap (λ (x : List ℕ). length x) whole, length-append count text))

leaf_shortest : (leaf : BodyLeaf) (bytes : List ℕ) → HasShortText (Do leaf) → AreBytes bytes → SpellsLeaf leaf bytes → Longer bytes (leaf_spelling leaf)
unfolding leaf_spelling
leaf_shortest (SetChar c) bytes short small says = char_shortest c bytes small says
leaf_shortest (PutChar c) bytes short small says = code_shortest 132 c bytes small says
leaf_shortest (SetRule height width) bytes short small says = omega (arith, is_rule_length 132 height width bytes says, rule_length height width)
leaf_shortest (PutRule height width) bytes short small says = omega (arith, is_rule_length 137 height width bytes says, rule_length height width)
leaf_shortest Nop bytes short small whole = omega (arith, ap (λ (x : List ℕ). length x) whole)
leaf_shortest (Move axis (By z)) bytes short small says = signed_shortest (plain_code axis) z bytes small says
leaf_shortest (Move axis (Set register z)) bytes short small says = signed_shortest (register_code axis register) z bytes small says
leaf_shortest (Move axis (Again register)) bytes short small whole = omega (arith, ap (λ (x : List ℕ). length x) whole)
leaf_shortest (FontNum f) bytes short small says = font_shortest f bytes small says
leaf_shortest (FontDef d) bytes short small says = definition_shortest d bytes small says
leaf_shortest (Xxx text) bytes short small says = text_shortest text bytes short says

-- The length of the operands of post.
pub post_length : (p : Postamble) → length (post_bytes p) ≡ 28
post_length p =
    let a : List ℕ = operand 2 (pos p.stack_depth) ++ operand 2 (pos p.pages) in
    let b : List ℕ = operand 4 p.width ++ a in
    let c : List ℕ = operand 4 p.height_plus_depth ++ b in
    omega (arith, length-append (operand 4 p.last_bop) (units_bytes p.units ++ c), length-append (units_bytes p.units) c, length-append (operand 4 p.height_plus_depth) b, length-append (operand 4 p.width) a, length-append (operand 2 (pos p.stack_depth)) (operand 2 (pos p.pages)), units_length p.units, operand_length 4 p.last_bop, operand_length 4 p.height_plus_depth, operand_length 4 p.width, operand_length 2 (pos p.stack_depth), operand_length 2 (pos p.pages))

pub pre_length : (u : Units) (comment : List ℕ) → length (units_bytes u ++ (length comment ∷ comment)) ≡ 13 + length comment
pre_length u comment = omega (arith, length-append (units_bytes u) (length comment ∷ comment), units_length u)

pub bop_length : (counts : List ℤ) (pointer : ℤ) → length (flat_map (operand 4) counts ++ operand 4 pointer) ≡ 4 * length counts + 4
bop_length counts pointer = omega (arith, length-append (flat_map (operand 4) counts) (operand 4 pointer), counts_length counts, operand_length 4 pointer)

pub place_length : (place : ℤ) (id : ℕ) → length (operand 4 place ++ id ∷ []) ≡ 5
place_length place id = omega (arith, length-append (operand 4 place) (id ∷ []), operand_length 4 place)

-- No spelling is shorter than the one that is written.
pub written_is_shortest : (i : Instruction) (bytes : List ℕ) → HasShortText i → AreBytes bytes → Spells i bytes → length (spelling i) ≤ length bytes
unfolding spelling
written_is_shortest (Do leaf) bytes short small says = leaf_shortest leaf bytes short small says
written_is_shortest (Bop counts pointer) bytes short small says =
    let (a, b, whole, ten, each, last) = says in
    omega (arith, bop_length counts pointer, ap (λ (x : List ℕ). length x) whole, length-append a b, (words_read counts a 10 ten each).1, last.0)
written_is_shortest Eop bytes short small whole = omega (arith, ap (λ (x : List ℕ). length x) whole)
written_is_shortest Push bytes short small whole = omega (arith, ap (λ (x : List ℕ). length x) whole)
written_is_shortest Pop bytes short small whole = omega (arith, ap (λ (x : List ℕ). length x) whole)
written_is_shortest (Pre id units comment) bytes short small says =
    let (a, whole, more) = says in
    omega (arith, pre_length units comment, ap (λ (x : List ℕ). length x) whole, length-append a (length comment ∷ comment), says_units_length units a more)
written_is_shortest (Post p) bytes short small says =
    let (last, units, tall, wide, deep, count, whole, says_last, says_units, says_tall, says_wide, says_deep, says_count) = says in
    omega (arith, post_length p, ap (λ (x : List ℕ). length x) whole, length-append last (units ++ (tall ++ (wide ++ (deep ++ count)))), length-append units (tall ++ (wide ++ (deep ++ count))), length-append tall (wide ++ (deep ++ count)), length-append wide (deep ++ count), length-append deep count, says_last.0, says_units_length p.units units says_units, says_tall.0, says_wide.0, says_deep.0, says_count.0)
written_is_shortest (PostPost place id) bytes short small says =
    let (a, whole, more) = says in
    omega (arith, place_length place id, ap (λ (x : List ℕ). length x) whole, length-append a (id ∷ []), more.0)

-- The lengths of the written spellings.
signed_length : (base : ℕ) (z : ℤ) → (2 ≤ length (coded_signed base z)) × (length (coded_signed base z) ≤ 5)
signed_length base z = let range = signed_range z in (omega (arith, coded_length base (signed_size z) z), omega (arith, coded_length base (signed_size z) z))

code_length : (base : ℕ) (z : ℤ) → (2 ≤ length (coded_number base z)) × (length (coded_number base z) ≤ 5)
code_length base z = let range = code_range z in (omega (arith, coded_length base (code_size z) z), omega (arith, coded_length base (code_size z) z))

char_length : (c : ℤ) → length (char_spelling c) ≤ 5
unfolding char_spelling
char_length (pos c) = elim (cases_lt c 128) [ inl h ↦ rw (lt-ltb c 128 h) (omega arith) | inr h ↦ rw (le-ltb c 128 h) (code_length 127 (pos c)).1 ]
char_length (negsuc c) = (code_length 127 (negsuc c)).1

font_length : (f : ℤ) → length (font_spelling f) ≤ 5
unfolding font_spelling
font_length (pos f) = elim (cases_lt f 64) [ inl h ↦ rw (lt-ltb f 64 h) (omega arith) | inr h ↦ rw (le-ltb f 64 h) (code_length 234 (pos f)).1 ]
font_length (negsuc f) = (code_length 234 (negsuc f)).1

text_length : (text : List ℕ) → length (text_spelling text) ≤ 5 + length text
unfolding text_spelling
text_length text = elim (cases_lt (length text) 256) [
  | inl h ↦ rw (lt-ltb (length text) 256 h) (omega arith)
  | inr h ↦ rw (le-ltb (length text) 256 h) (omega (arith, length-append (operand 4 (pos (length text))) text, operand_length 4 (pos (length text))))
]

leaf_length : (leaf : BodyLeaf) → IsBrief leaf → length (leaf_spelling leaf) ≤ 9
unfolding leaf_spelling
leaf_length (SetChar c) brief = omega (arith, char_length c)
leaf_length (PutChar c) brief = omega (arith, (code_length 132 c).1)
leaf_length (SetRule height width) brief = omega (arith, rule_length height width)
leaf_length (PutRule height width) brief = omega (arith, rule_length height width)
leaf_length Nop brief = omega arith
leaf_length (Move axis (By z)) brief = omega (arith, (signed_length (plain_code axis) z).1)
leaf_length (Move axis (Set register z)) brief = omega (arith, (signed_length (register_code axis register) z).1)
leaf_length (Move axis (Again register)) brief = omega arith
leaf_length (FontNum f) brief = omega (arith, font_length f)
leaf_length (FontDef d) brief = absurd brief
leaf_length (Xxx text) brief = absurd brief

pub brief_length : (leaf : BodyLeaf) → IsBrief leaf → length (spelling (Do leaf)) ≤ 9
unfolding spelling
brief_length leaf brief = leaf_length leaf brief

pub movement_length : (axis : Axis) (step : Movement) → length (spelling (Do (Move axis step))) ≤ 5
unfolding spelling leaf_spelling
movement_length axis (By z) = (signed_length (plain_code axis) z).1
movement_length axis (Set register z) = (signed_length (register_code axis register) z).1
movement_length axis (Again register) = omega arith

pub special_length : (text : List ℕ) → length (spelling (Do (Xxx text))) ≤ 5 + length text
unfolding spelling leaf_spelling
special_length text = text_length text

pub font_definition_length : (d : Definition) → length (spelling (Do (FontDef d))) ≤ 19 + length d.area + length d.name
unfolding spelling leaf_spelling
font_definition_length d =
    omega (arith, length-append (coded_number 242 d.number) (definition_bytes d), (code_length 242 d.number).1, definition_length d)

pub page_length : (counts : List ℤ) (pointer : ℤ) → length counts ≡ 10 → length (spelling (Bop counts pointer)) ≡ 45
unfolding spelling
page_length counts pointer ten = omega (arith, bop_length counts pointer)

pub one_byte : (length (spelling Eop) ≡ 1) × (length (spelling Push) ≡ 1) × (length (spelling Pop) ≡ 1)
unfolding spelling
one_byte = (refl, refl, refl)

pub preamble_length : (id : ℕ) (u : Units) (comment : List ℕ) → length (spelling (Pre id u comment)) ≡ 15 + length comment
unfolding spelling
preamble_length id u comment = omega (arith, pre_length u comment)

pub postamble_length : (p : Postamble) → length (spelling (Post p)) ≡ 29
unfolding spelling
postamble_length p = omega (arith, post_length p)

pub ending_length : (place : ℤ) (id : ℕ) → length (spelling (PostPost place id)) ≡ 6
unfolding spelling
ending_length place id = omega (arith, place_length place id)
