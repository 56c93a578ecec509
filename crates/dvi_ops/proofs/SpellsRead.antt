-- Bytes that spell an instruction are read as it, whatever follows.
use Rattle.std.proofs.Common.{ℕ, ℤ, pos, ◌≡◌, ◌≤◌, ◌<◌, ◌+◌, ◌-◌, List, [], ◌∷◌, ◌++◌, length, arith, inl, inr, refl, ap, ◌∙◌, append_assoc}
use Rattle.std.proofs.lemmas.Bool.{lt-ltb, le-ltb}
use Rattle.byteorder.specs.Endian.{big_number}
use Rattle.dvi_ops.specs.Instruction.{Across, Downward, First, Second, By, Set, Again, Definition, Units, Postamble, BodyLeaf, SetChar, PutChar, SetRule, PutRule, Nop, Move, FontNum, FontDef, Xxx, Instruction, Do, Push, Pop, Bop, Eop, Pre, Post, PostPost}
use Rattle.dvi_ops.specs.Private.Reading.{front_image, first_bytes, signed_at, code_at, two_at, char_at, bop_at, plain_at, movement_at, font_at, text_at, names_at, definition_at, long_at, comment_at, pre_at, post_at, post_post_at, frame_at, read}
use Rattle.dvi_ops.specs.Table.{signed, code, IsCoded, IsRule, SpellsSigned, SaysShort, SaysEach, SaysUnits, SaysDefinition, SpellsLeaf, Spells}
use Rattle.dvi_ops.proofs.Fronts.{got, cut_at, number_reads, word_reads, two_reads, three_reads, halves_reads, words_read}
use Rattle.dvi_ops.proofs.Numbers.{four}

-- An instruction with an operand of one to four bytes.
coded_read : (says : ℕ → List ℕ → ℤ) (make : ℤ → Instruction) (base : ℕ) (z : ℤ) (a x : List ℕ)
    → ((m : ℕ) (rest : List ℕ) → 1 ≤ m → m ≤ 4 → read ((base + m) ∷ rest) ≡ front_image make (front_image (says m) (first_bytes m rest)))
    → IsCoded says base z a → read (a ++ x) ≡ got (make z) x
coded_read says make base z a x step coded =
    let (n, operand, low, high, whole, len, value) = coded in
    let here : read ((base + n) ∷ (operand ++ x)) ≡ got (make z) x = step n (operand ++ x) low high ∙ ap (front_image make) (number_reads says n z operand x len value) in
    ap (λ (r : List ℕ). read (r ++ x)) whole ∙ here

set_read : (m : ℕ) (rest : List ℕ) → 1 ≤ m → m ≤ 4 → read ((127 + m) ∷ rest) ≡ front_image (λ c. Do (SetChar c)) (front_image (code m) (first_bytes m rest))
unfolding read char_at code_at
set_read m rest low high = four (λ m. read ((127 + m) ∷ rest) ≡ front_image (λ c. Do (SetChar c)) (front_image (code m) (first_bytes m rest))) m low high refl refl refl refl

put_read : (m : ℕ) (rest : List ℕ) → 1 ≤ m → m ≤ 4 → read ((132 + m) ∷ rest) ≡ front_image (λ c. Do (PutChar c)) (front_image (code m) (first_bytes m rest))
unfolding read plain_at code_at
put_read m rest low high = four (λ m. read ((132 + m) ∷ rest) ≡ front_image (λ c. Do (PutChar c)) (front_image (code m) (first_bytes m rest))) m low high refl refl refl refl

right_read : (m : ℕ) (rest : List ℕ) → 1 ≤ m → m ≤ 4 → read ((142 + m) ∷ rest) ≡ front_image (λ z. Do (Move Across (By z))) (front_image (signed m) (first_bytes m rest))
unfolding read movement_at signed_at
right_read m rest low high = four (λ m. read ((142 + m) ∷ rest) ≡ front_image (λ z. Do (Move Across (By z))) (front_image (signed m) (first_bytes m rest))) m low high refl refl refl refl

w_read : (m : ℕ) (rest : List ℕ) → 1 ≤ m → m ≤ 4 → read ((147 + m) ∷ rest) ≡ front_image (λ z. Do (Move Across (Set First z))) (front_image (signed m) (first_bytes m rest))
unfolding read movement_at signed_at
w_read m rest low high = four (λ m. read ((147 + m) ∷ rest) ≡ front_image (λ z. Do (Move Across (Set First z))) (front_image (signed m) (first_bytes m rest))) m low high refl refl refl refl

x_read : (m : ℕ) (rest : List ℕ) → 1 ≤ m → m ≤ 4 → read ((152 + m) ∷ rest) ≡ front_image (λ z. Do (Move Across (Set Second z))) (front_image (signed m) (first_bytes m rest))
unfolding read movement_at signed_at
x_read m rest low high = four (λ m. read ((152 + m) ∷ rest) ≡ front_image (λ z. Do (Move Across (Set Second z))) (front_image (signed m) (first_bytes m rest))) m low high refl refl refl refl

down_read : (m : ℕ) (rest : List ℕ) → 1 ≤ m → m ≤ 4 → read ((156 + m) ∷ rest) ≡ front_image (λ z. Do (Move Downward (By z))) (front_image (signed m) (first_bytes m rest))
unfolding read movement_at signed_at
down_read m rest low high = four (λ m. read ((156 + m) ∷ rest) ≡ front_image (λ z. Do (Move Downward (By z))) (front_image (signed m) (first_bytes m rest))) m low high refl refl refl refl

y_read : (m : ℕ) (rest : List ℕ) → 1 ≤ m → m ≤ 4 → read ((161 + m) ∷ rest) ≡ front_image (λ z. Do (Move Downward (Set First z))) (front_image (signed m) (first_bytes m rest))
unfolding read movement_at signed_at
y_read m rest low high = four (λ m. read ((161 + m) ∷ rest) ≡ front_image (λ z. Do (Move Downward (Set First z))) (front_image (signed m) (first_bytes m rest))) m low high refl refl refl refl

z_read : (m : ℕ) (rest : List ℕ) → 1 ≤ m → m ≤ 4 → read ((166 + m) ∷ rest) ≡ front_image (λ z. Do (Move Downward (Set Second z))) (front_image (signed m) (first_bytes m rest))
unfolding read movement_at signed_at
z_read m rest low high = four (λ m. read ((166 + m) ∷ rest) ≡ front_image (λ z. Do (Move Downward (Set Second z))) (front_image (signed m) (first_bytes m rest))) m low high refl refl refl refl

fnt_read : (m : ℕ) (rest : List ℕ) → 1 ≤ m → m ≤ 4 → read ((234 + m) ∷ rest) ≡ front_image (λ f. Do (FontNum f)) (front_image (code m) (first_bytes m rest))
unfolding read font_at code_at
fnt_read m rest low high = four (λ m. read ((234 + m) ∷ rest) ≡ front_image (λ f. Do (FontNum f)) (front_image (code m) (first_bytes m rest))) m low high refl refl refl refl

-- Characters and fonts whose code includes their number.
char_read : (n : ℕ) (x : List ℕ) → n < 128 → read (n ∷ x) ≡ got (Do (SetChar (pos n))) x
unfolding read char_at
char_read n x h = let wide : n < 132 = omega arith in rw (lt-ltb n 132 wide, lt-ltb n 128 h) refl

font_read : (n : ℕ) (x : List ℕ) → n < 64 → read ((171 + n) ∷ x) ≡ got (Do (FontNum (pos n))) x
unfolding read font_at
font_read n x h =
    let same : 171 + n - 171 ≡ n = omega arith in
    rw (le-ltb (171 + n) 132 (omega arith), le-ltb (171 + n) 143 (omega arith), le-ltb (171 + n) 157 (omega arith), le-ltb (171 + n) 171 (omega arith), lt-ltb (171 + n) 239 (omega arith), lt-ltb (171 + n) 235 (omega arith), same) refl

-- A rule.
rule_read : (operation : ℕ) (make : ℤ × ℤ → Instruction) (height width : ℤ) (a x : List ℕ)
    → ((rest : List ℕ) → read (operation ∷ rest) ≡ front_image make (two_at rest)) → IsRule operation height width a → read (a ++ x) ≡ got (make (height, width)) x
rule_read operation make height width a x step rule =
    let (p, q, whole, tall, wide) = rule in
    let here : read (operation ∷ ((p ++ q) ++ x)) ≡ got (make (height, width)) x =
    step ((p ++ q) ++ x) ∙ ap (λ (r : List ℕ). front_image make (two_at r)) (append_assoc p q x) ∙ ap (front_image make) (two_reads height width p q x tall wide) in
    ap (λ (r : List ℕ). read (r ++ x)) whole ∙ here

-- A special.
text_code : (m : ℕ) (rest : List ℕ) → 1 ≤ m → m ≤ 4 → read ((238 + m) ∷ rest) ≡ text_at m rest
unfolding read long_at
text_code m rest low high = four (λ m. read ((238 + m) ∷ rest) ≡ text_at m rest) m low high refl refl refl refl

text_read : (n : ℕ) (count text x : List ℕ) → length count ≡ n → big_number n count ≡ length text → text_at n ((count ++ text) ++ x) ≡ got (Do (Xxx text)) x
unfolding text_at
text_read n count text x len value =
    rw (append_assoc count text x, cut_at n count (text ++ x) len, value, cut_at (length text) text x refl) refl

-- A font definition.
definition_code : (m : ℕ) (rest : List ℕ) → 1 ≤ m → m ≤ 4 → read ((242 + m) ∷ rest) ≡ front_image (λ d. Do (FontDef d)) (definition_at m rest)
unfolding read long_at
definition_code m rest low high = four (λ m. read ((242 + m) ∷ rest) ≡ front_image (λ d. Do (FontDef d)) (definition_at m rest)) m low high refl refl refl refl

names_read : (area name x : List ℕ) → names_at (length area ∷ length name ∷ (area ++ (name ++ x))) ≡ got (area, name) x
unfolding names_at
names_read area name x = rw (cut_at (length area) area (name ++ x) refl, cut_at (length name) name x refl) refl

definition_read : (d : Definition) (n : ℕ) (number rest x : List ℕ) → length number ≡ n → code n number ≡ d.number → SaysDefinition d rest
    → definition_at n ((number ++ rest) ++ x) ≡ got d x
unfolding definition_at code_at
definition_read d n number rest x len value says =
    let (sum, size, design, whole, first, second, third) = says in
    let names : List ℕ = length d.area ∷ length d.name ∷ (d.area ++ (d.name ++ x)) in
    let shape : (number ++ rest) ++ x ≡ number ++ (sum ++ (size ++ (design ++ names))) = rw whole (simp append_assoc) in
    rw (shape, number_reads code n d.number number (sum ++ (size ++ (design ++ names))) len value, three_reads d.check_sum d.size d.design_size sum size design names first second third, names_read d.area d.name x) refl

leaf_read : (leaf : BodyLeaf) (a x : List ℕ) → SpellsLeaf leaf a → read (a ++ x) ≡ got (Do leaf) x
unfolding read plain_at movement_at
leaf_read (SetChar c) a x (inl (n, h, e, whole)) = rw (whole, e) (char_read n x h)
leaf_read (SetChar c) a x (inr coded) = coded_read code (λ c. Do (SetChar c)) 127 c a x set_read coded
leaf_read (PutChar c) a x coded = coded_read code (λ c. Do (PutChar c)) 132 c a x put_read coded
leaf_read (SetRule height width) a x rule = rule_read 132 (λ r. Do (SetRule r.0 r.1)) height width a x (λ rest. refl) rule
leaf_read (PutRule height width) a x rule = rule_read 137 (λ r. Do (PutRule r.0 r.1)) height width a x (λ rest. refl) rule
leaf_read Nop a x whole = rw whole refl
leaf_read (Move Across (By z)) a x coded = coded_read signed (λ z. Do (Move Across (By z))) 142 z a x right_read coded
leaf_read (Move Across (Set First z)) a x coded = coded_read signed (λ z. Do (Move Across (Set First z))) 147 z a x w_read coded
leaf_read (Move Across (Set Second z)) a x coded = coded_read signed (λ z. Do (Move Across (Set Second z))) 152 z a x x_read coded
leaf_read (Move Across (Again First)) a x whole = rw whole refl
leaf_read (Move Across (Again Second)) a x whole = rw whole refl
leaf_read (Move Downward (By z)) a x coded = coded_read signed (λ z. Do (Move Downward (By z))) 156 z a x down_read coded
leaf_read (Move Downward (Set First z)) a x coded = coded_read signed (λ z. Do (Move Downward (Set First z))) 161 z a x y_read coded
leaf_read (Move Downward (Set Second z)) a x coded = coded_read signed (λ z. Do (Move Downward (Set Second z))) 166 z a x z_read coded
leaf_read (Move Downward (Again First)) a x whole = rw whole refl
leaf_read (Move Downward (Again Second)) a x whole = rw whole refl
leaf_read (FontNum f) a x (inl (n, h, e, whole)) = rw (whole, e) (font_read n x h)
leaf_read (FontNum f) a x (inr coded) = coded_read code (λ f. Do (FontNum f)) 234 f a x fnt_read coded
leaf_read (FontDef d) a x says =
    let (n, number, rest, low, high, whole, len, value, more) = says in
    let here : read ((242 + n) ∷ ((number ++ rest) ++ x)) ≡ got (Do (FontDef d)) x =
    definition_code n ((number ++ rest) ++ x) low high ∙ ap (front_image (λ d. Do (FontDef d))) (definition_read d n number rest x len value more) in
    ap (λ (r : List ℕ). read (r ++ x)) whole ∙ here
leaf_read (Xxx text) a x says =
    let (n, count, low, high, whole, len, value) = says in
    let here : read ((238 + n) ∷ ((count ++ text) ++ x)) ≡ got (Do (Xxx text)) x =
    text_code n ((count ++ text) ++ x) low high ∙ text_read n count text x len value in
    ap (λ (r : List ℕ). read (r ++ x)) whole ∙ here

-- The operands of bop, pre, post and post_post.
bop_read : (counts : List ℤ) (pointer : ℤ) (a b x : List ℕ) → length counts ≡ 10 → SaysEach counts a → SpellsSigned pointer b → bop_at ((a ++ b) ++ x) ≡ got (Bop counts pointer) x
unfolding bop_at
bop_read counts pointer a b x ten each says =
    let (same, forty) = words_read counts a 10 ten each in
    rw (append_assoc a b x, cut_at 40 a (b ++ x) forty, word_reads pointer b x says, same) refl

pre_read : (id : ℕ) (units : Units) (comment a x : List ℕ) → SaysUnits units a → pre_at (id ∷ ((a ++ (length comment ∷ comment)) ++ x)) ≡ got (Pre id units comment) x
unfolding pre_at comment_at
pre_read id units comment a x says =
    let (p, q, r, whole, first, second, third) = says in
    let rest : List ℕ = length comment ∷ (comment ++ x) in
    let shape : (a ++ (length comment ∷ comment)) ++ x ≡ p ++ (q ++ (r ++ rest)) = rw whole (simp append_assoc) in
    rw (shape, three_reads units.num units.den units.mag p q r rest first second third, cut_at (length comment) comment x refl) refl

post_read : (p : Postamble) (last units tall wide deep count x : List ℕ) → SpellsSigned p.last_bop last → SaysUnits p.units units → SpellsSigned p.height_plus_depth tall → SpellsSigned p.width wide
    → SaysShort p.stack_depth deep → SaysShort p.pages count → post_at ((last ++ (units ++ (tall ++ (wide ++ (deep ++ count))))) ++ x) ≡ got (Post p) x
unfolding post_at
post_read p last units tall wide deep count x says_last says_units says_tall says_wide says_deep says_count =
    let (a, b, c, whole, first, second, third) = says_units in
    let sizes : List ℕ = tall ++ (wide ++ (deep ++ (count ++ x))) in
    let shape : (last ++ (units ++ (tall ++ (wide ++ (deep ++ count))))) ++ x ≡ last ++ (a ++ (b ++ (c ++ sizes))) = rw whole (simp append_assoc) in
    rw (shape, word_reads p.last_bop last (a ++ (b ++ (c ++ sizes))) says_last, three_reads p.units.num p.units.den p.units.mag a b c sizes first second third, two_reads p.height_plus_depth p.width tall wide (deep ++ (count ++ x)) says_tall says_wide, halves_reads p.stack_depth p.pages deep count x says_deep says_count) refl

post_post_read : (place : ℤ) (id : ℕ) (a x : List ℕ) → SpellsSigned place a → post_post_at ((a ++ id ∷ []) ++ x) ≡ got (PostPost place id) x
unfolding post_post_at
post_post_read place id a x says = rw (append_assoc a (id ∷ []) x, word_reads place a (id ∷ x) says) refl

pub spells_read : (i : Instruction) (a x : List ℕ) → Spells i a → read (a ++ x) ≡ got i x
unfolding read plain_at frame_at
spells_read (Do leaf) a x says = leaf_read leaf a x says
spells_read (Bop counts pointer) a x says =
    let (p, q, whole, ten, each, last) = says in
    ap (λ (r : List ℕ). read (r ++ x)) whole ∙ bop_read counts pointer p q x ten each last
spells_read Eop a x whole = rw whole refl
spells_read Push a x whole = rw whole refl
spells_read Pop a x whole = rw whole refl
spells_read (Pre id units comment) a x says =
    let (p, whole, says_units) = says in
    ap (λ (r : List ℕ). read (r ++ x)) whole ∙ pre_read id units comment p x says_units
spells_read (Post p) a x says =
    let (last, units, tall, wide, deep, count, whole, says_last, says_units, says_tall, says_wide, says_deep, says_count) = says in
    ap (λ (r : List ℕ). read (r ++ x)) whole ∙ post_read p last units tall wide deep count x says_last says_units says_tall says_wide says_deep says_count
spells_read (PostPost place id) a x says =
    let (p, whole, says_place) = says in
    ap (λ (r : List ℕ). read (r ++ x)) whole ∙ post_post_read place id p x says_place
