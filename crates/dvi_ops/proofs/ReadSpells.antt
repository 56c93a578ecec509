-- The bytes that were read as an instruction spell it.
use Rattle.std.proofs.Common.{ℕ, ℤ, pos, ◌≡◌, ◌≤◌, ◌<◌, ◌+◌, ◌-◌, List, [], ◌∷◌, ◌++◌, length, None, arith, inl, inr, refl, sym, ap, subst, ◌∙◌, append_assoc}
use Rattle.byteorder.specs.Endian.{big_number}
use Rattle.dvi_ops.specs.Instruction.{Axis, Across, Downward, First, Second, By, Set, Again, Definition, Units, Postamble, SetChar, PutChar, SetRule, PutRule, Nop, Move, FontNum, FontDef, Xxx, Instruction, Do, Push, Pop, Bop, Eop, Pre, Post, PostPost}
use Rattle.dvi_ops.specs.Private.Reading.{Front, front_image, front_then, first_bytes, signed_at, code_at, byte_at, two_at, three_at, halves_at, words, char_at, bop_at, plain_at, movement_at, font_at, text_at, names_at, definition_at, long_at, comment_at, pre_at, post_at, post_post_at, frame_at, read}
use Rattle.dvi_ops.specs.Table.{signed, code, IsCoded, IsRule, SaysUnits, SaysDefinition, Spells, plain_code, register_code}
use Rattle.dvi_ops.proofs.Fronts.{got, split, same_first, same_rest, made_is, followed_is, cut_is, byte_is, number_is, word_is, two_is, three_is, halves_is, words_stand}

-- The bytes begin with a spelling of the instruction, and the rest follows.
pub record BeginsWith (i : Instruction) (bytes rest : List ℕ) : Type 0 where
  pub front : List ℕ
  pub whole : bytes ≡ front ++ rest
  pub spells : Spells i front

-- An instruction with no operand.
fixed_is : (operation : ℕ) (j i : Instruction) (bytes rest : List ℕ) → Spells j (operation ∷ []) → got j bytes ≡ got i rest
    → BeginsWith i (operation ∷ bytes) rest
fixed_is operation j i bytes rest says e = record {
  front = operation ∷ [];
  whole = ap (λ (r : List ℕ). operation ∷ r) (same_rest j i bytes rest e);
  spells = subst (λ (k : Instruction). Spells k (operation ∷ [])) (same_first j i bytes rest e) says;
}

-- An instruction with an operand of one to four bytes.
coded_is : (says : ℕ → List ℕ → ℤ) (make : ℤ → Instruction) (base m operation : ℕ) (bytes rest : List ℕ) (i : Instruction)
    → 1 ≤ m → m ≤ 4 → operation ≡ base + m → ((z : ℤ) (a : List ℕ) → IsCoded says base z a → Spells (make z) a)
    → front_image make (front_image (says m) (first_bytes m bytes)) ≡ got i rest → BeginsWith i (operation ∷ bytes) rest
coded_is says make base m operation bytes rest i low high op spells e =
    let (z, f, same) = made_is make (front_image (says m) (first_bytes m bytes)) i rest e in
    let (a, whole, len, value) = number_is says m z bytes rest f in
    record {
      front = (base + m) ∷ a;
      whole = cc;
      spells = subst (λ (k : Instruction). Spells k ((base + m) ∷ a)) same (spells z ((base + m) ∷ a) (m, a, low, high, refl, len, value));
    }

char_is : (operation : ℕ) (bytes rest : List ℕ) (i : Instruction) → operation < 132 → char_at operation bytes ≡ got i rest
    → BeginsWith i (operation ∷ bytes) rest
unfolding char_at code_at
char_is operation bytes rest i bound e =
    split operation 128 (got (Do (SetChar (pos operation))) bytes) (front_image (λ c. Do (SetChar c)) (code_at (operation - 127) bytes)) (got i rest) e
    (λ below f. fixed_is operation (Do (SetChar (pos operation))) i bytes rest (inl (operation, below, refl, refl)) f)
    (λ above f. coded_is code (λ c. Do (SetChar c)) 127 (operation - 127) operation bytes rest i (omega arith) (omega arith) (omega arith) (λ z a h. inr h) f)

-- A rule.
rule_is : (make : ℤ × ℤ → Instruction) (operation : ℕ) (bytes rest : List ℕ) (i : Instruction)
    → ((height width : ℤ) (a : List ℕ) → IsRule operation height width a → Spells (make (height, width)) a)
    → front_image make (two_at bytes) ≡ got i rest → BeginsWith i (operation ∷ bytes) rest
rule_is make operation bytes rest i spells e =
    let (r, f, same) = made_is make (two_at bytes) i rest e in
    let (a, b, whole, tall, wide) = two_is r bytes rest f in
    record {
      front = operation ∷ (a ++ b);
      whole = ap (λ (r : List ℕ). operation ∷ r) (whole ∙ sym (append_assoc a b rest));
      spells = subst (λ (k : Instruction). Spells k (operation ∷ (a ++ b))) same (spells r.0 r.1 (operation ∷ (a ++ b)) (a, b, refl, tall, wide));
    }

bop_is : (bytes rest : List ℕ) (i : Instruction) → bop_at bytes ≡ got i rest → BeginsWith i (139 ∷ bytes) rest
unfolding bop_at
bop_is bytes rest i e =
    let (a, r, f, g) = followed_is (first_bytes 40 bytes) (λ counts rest. front_image (λ pointer. Bop (words 10 counts) pointer) (signed_at 4 rest)) i rest e in
    let (whole, forty) = cut_is 40 bytes a r f in
    let (pointer, h, same) = made_is (λ pointer. Bop (words 10 a) pointer) (signed_at 4 r) i rest g in
    let (b, more, says) = word_is pointer r rest h in
    let (ten, each) = words_stand 10 a forty in
    let spells : Spells (Bop (words 10 a) pointer) (139 ∷ (a ++ b)) = (a, b, refl, ten, each, says) in
    record {
      front = 139 ∷ (a ++ b);
      whole = ap (λ (r : List ℕ). 139 ∷ r) (whole ∙ ap (λ (r : List ℕ). a ++ r) more ∙ sym (append_assoc a b rest));
      spells = subst (λ (k : Instruction). Spells k (139 ∷ (a ++ b))) same spells;
    }

-- A code that is known.
by_code : (operation code : ℕ) (bytes rest : List ℕ) (i : Instruction) → operation ≡ code → BeginsWith i (code ∷ bytes) rest
    → BeginsWith i (operation ∷ bytes) rest
by_code operation code bytes rest i e begins = subst (λ (n : ℕ). BeginsWith i (n ∷ bytes) rest) (sym e) begins

plain_is : (operation : ℕ) (bytes rest : List ℕ) (i : Instruction) → 132 ≤ operation → operation ≤ 142 → plain_at operation bytes ≡ got i rest
    → BeginsWith i (operation ∷ bytes) rest
unfolding plain_at code_at
plain_is operation bytes rest i low high e =
    split operation 133 _ _ (got i rest) e
    (λ h f. by_code operation 132 bytes rest i (omega arith) (rule_is (λ r. Do (SetRule r.0 r.1)) 132 bytes rest i (λ height width a says. says) f))
    (λ a1 e1. split operation 137 _ _ (got i rest) e1
    (λ h f. coded_is code (λ c. Do (PutChar c)) 132 (operation - 132) operation bytes rest i (omega arith) (omega arith) (omega arith) (λ z a says. says) f)
    (λ a2 e2. split operation 138 _ _ (got i rest) e2
    (λ h f. by_code operation 137 bytes rest i (omega arith) (rule_is (λ r. Do (PutRule r.0 r.1)) 137 bytes rest i (λ height width a says. says) f))
    (λ a3 e3. split operation 139 _ _ (got i rest) e3
    (λ h f. by_code operation 138 bytes rest i (omega arith) (fixed_is 138 (Do Nop) i bytes rest refl f))
    (λ a4 e4. split operation 140 _ _ (got i rest) e4
    (λ h f. by_code operation 139 bytes rest i (omega arith) (bop_is bytes rest i f))
    (λ a5 e5. split operation 141 _ _ (got i rest) e5
    (λ h f. by_code operation 140 bytes rest i (omega arith) (fixed_is 140 Eop i bytes rest refl f))
    (λ a6 e6. split operation 142 _ _ (got i rest) e6
    (λ h f. by_code operation 141 bytes rest i (omega arith) (fixed_is 141 Push i bytes rest refl f))
    (λ a7 f. by_code operation 142 bytes rest i (omega arith) (fixed_is 142 Pop i bytes rest refl f))))))))

-- The codes of the registers, counted from the code before right1 or down1.
first_code : (axis : Axis) → register_code axis First ≡ plain_code axis + 5
first_code Across = refl
first_code Downward = refl

second_code : (axis : Axis) → register_code axis Second ≡ plain_code axis + 10
second_code Across = refl
second_code Downward = refl

movement_is : (axis : Axis) (offset operation : ℕ) (bytes rest : List ℕ) (i : Instruction) → 1 ≤ offset → offset ≤ 14 → operation ≡ plain_code axis + offset
    → movement_at axis offset bytes ≡ got i rest → BeginsWith i (operation ∷ bytes) rest
unfolding movement_at signed_at
movement_is axis offset operation bytes rest i low high op e =
    let one = first_code axis in
    let two = second_code axis in
    split offset 5 _ _ (got i rest) e
    (λ h f. coded_is signed (λ z. Do (Move axis (By z))) (plain_code axis) offset operation bytes rest i (omega arith) (omega arith) op (λ z a says. says) f)
    (λ a1 e1. split offset 6 _ _ (got i rest) e1
    (λ h f. by_code operation (register_code axis First) bytes rest i (omega arith) (fixed_is (register_code axis First) (Do (Move axis (Again First))) i bytes rest refl f))
    (λ a2 e2. split offset 10 _ _ (got i rest) e2
    (λ h f. coded_is signed (λ z. Do (Move axis (Set First z))) (register_code axis First) (offset - 5) operation bytes rest i (omega arith) (omega arith) (omega arith) (λ z a says. says) f)
    (λ a3 e3. split offset 11 _ _ (got i rest) e3
    (λ h f. by_code operation (register_code axis Second) bytes rest i (omega arith) (fixed_is (register_code axis Second) (Do (Move axis (Again Second))) i bytes rest refl f))
    (λ a4 f. coded_is signed (λ z. Do (Move axis (Set Second z))) (register_code axis Second) (offset - 10) operation bytes rest i (omega arith) (omega arith) (omega arith) (λ z a says. says) f))))

font_is : (operation : ℕ) (bytes rest : List ℕ) (i : Instruction) → 171 ≤ operation → operation ≤ 238 → font_at operation bytes ≡ got i rest
    → BeginsWith i (operation ∷ bytes) rest
unfolding font_at code_at
font_is operation bytes rest i low high e =
    split operation 235 _ _ (got i rest) e
    (λ h f.
    let same : 171 + (operation - 171) ≡ operation = omega arith in
    let spells : Spells (Do (FontNum (pos (operation - 171)))) (operation ∷ []) = inl (operation - 171, omega arith, refl, ap (λ (n : ℕ). n ∷ []) (sym same)) in
    fixed_is operation (Do (FontNum (pos (operation - 171)))) i bytes rest spells f)
    (λ above f. coded_is code (λ f. Do (FontNum f)) 234 (operation - 234) operation bytes rest i (omega arith) (omega arith) (omega arith) (λ z a says. inr says) f)

text_is : (n : ℕ) (bytes rest : List ℕ) (i : Instruction) → 1 ≤ n → n ≤ 4 → text_at n bytes ≡ got i rest → BeginsWith i ((238 + n) ∷ bytes) rest
unfolding text_at
text_is n bytes rest i low high e =
    let (count, r, f, g) = followed_is (first_bytes n bytes) (λ count rest. front_image (λ text. Do (Xxx text)) (first_bytes (big_number n count) rest)) i rest e in
    let (whole, len) = cut_is n bytes count r f in
    let (text, h, same) = made_is (λ text. Do (Xxx text)) (first_bytes (big_number n count) r) i rest g in
    let (more, long) = cut_is (big_number n count) r text rest h in
    let spells : Spells (Do (Xxx text)) ((238 + n) ∷ (count ++ text)) = (n, count, low, high, refl, len, sym long) in
    record {
      front = (238 + n) ∷ (count ++ text);
      whole = ap (λ (r : List ℕ). (238 + n) ∷ r) (whole ∙ ap (λ (r : List ℕ). count ++ r) more ∙ sym (append_assoc count text rest));
      spells = subst (λ (k : Instruction). Spells k ((238 + n) ∷ (count ++ text))) same spells;
    }

names_is : (names : List ℕ × List ℕ) (bytes rest : List ℕ) → names_at bytes ≡ got names rest
    → bytes ≡ length names.0 ∷ length names.1 ∷ (names.0 ++ (names.1 ++ rest))
unfolding names_at
names_is names bytes rest e =
    let (a, r, f, g) = followed_is (byte_at bytes) (λ a rest. front_then (byte_at rest) (λ l rest. front_then (first_bytes a rest) (λ area rest. front_image (λ name. (area, name)) (first_bytes l rest)))) names rest e in
    let (l, q, h, k) = followed_is (byte_at r) (λ l rest. front_then (first_bytes a rest) (λ area rest. front_image (λ name. (area, name)) (first_bytes l rest))) names rest g in
    let (area, p, m, t) = followed_is (first_bytes a q) (λ area rest. front_image (λ name. (area, name)) (first_bytes l rest)) names rest k in
    let (name, u, pair) = made_is (λ name. (area, name)) (first_bytes l p) names rest t in
    let first = byte_is a bytes r f in
    let second = byte_is l r q h in
    let (third, long_area) = cut_is a q area p m in
    let (fourth, long_name) = cut_is l p name rest u in
    let whole : bytes ≡ length area ∷ length name ∷ (area ++ (name ++ rest)) =
    first ∙ ap (λ (x : List ℕ). a ∷ x) (second ∙ ap (λ (x : List ℕ). l ∷ x) (third ∙ ap (λ (x : List ℕ). area ++ x) fourth))
    ∙ ap (λ (n : ℕ). n ∷ l ∷ (area ++ (name ++ rest))) (sym long_area) ∙ ap (λ (n : ℕ). length area ∷ n ∷ (area ++ (name ++ rest))) (sym long_name) in
    subst (λ (p : List ℕ × List ℕ). bytes ≡ length p.0 ∷ length p.1 ∷ (p.0 ++ (p.1 ++ rest))) pair whole

-- A font definition, from its parts.
abbrev defined : ℤ → ℤ × ℤ × ℤ → List ℕ × List ℕ → Definition
defined number sizes names = record {
  number = number;
  check_sum = sizes.0;
  size = sizes.1;
  design_size = sizes.2;
  area = names.0;
  name = names.1;
}

definition_is : (n : ℕ) (d : Definition) (bytes rest : List ℕ) → definition_at n bytes ≡ got d rest
    → (number : List ℕ) × (body : List ℕ) × (bytes ≡ (number ++ body) ++ rest) × (length number ≡ n) × (code n number ≡ d.number) × SaysDefinition d body
unfolding definition_at code_at
definition_is n d bytes rest e =
    let (z, r, f, g) = followed_is (front_image (code n) (first_bytes n bytes)) (λ number rest. front_then (three_at rest) (λ sizes rest. front_image (λ names. defined number sizes names) (names_at rest))) d rest e in
    let (sizes, q, h, k) = followed_is (three_at r) (λ sizes rest. front_image (λ names. defined z sizes names) (names_at rest)) d rest g in
    let (names, m, same) = made_is (λ names. defined z sizes names) (names_at q) d rest k in
    let (number, first, len, value) = number_is code n z bytes r f in
    let (a, b, c, second, one, two, three) = three_is sizes r q h in
    let third = names_is names q rest m in
    let tail : List ℕ = length names.0 ∷ length names.1 ∷ (names.0 ++ names.1) in
    let body : List ℕ = a ++ (b ++ (c ++ tail)) in
    let shape : (number ++ body) ++ rest ≡ number ++ (a ++ (b ++ (c ++ (length names.0 ∷ length names.1 ∷ (names.0 ++ (names.1 ++ rest)))))) = simp append_assoc in
    let whole : bytes ≡ (number ++ body) ++ rest =
    first ∙ ap (λ (x : List ℕ). number ++ x) (second ∙ ap (λ (x : List ℕ). a ++ (b ++ (c ++ x))) third) ∙ sym shape in
    let says : SaysDefinition (defined z sizes names) body = (a, b, c, refl, one, two, three) in
    (number, body, whole, len, value ∙ ap (λ (d : Definition). d.number) same, subst (λ (d : Definition). SaysDefinition d body) same says)

long_is : (operation : ℕ) (bytes rest : List ℕ) (i : Instruction) → 239 ≤ operation → operation ≤ 246 → long_at operation bytes ≡ got i rest
    → BeginsWith i (operation ∷ bytes) rest
unfolding long_at
long_is operation bytes rest i low high e =
    split operation 243 _ _ (got i rest) e
    (λ h f. by_code operation (238 + (operation - 238)) bytes rest i (omega arith) (text_is (operation - 238) bytes rest i (omega arith) (omega arith) f))
    (λ h f.
    let n : ℕ = operation - 242 in
    let (d, g, same) = made_is (λ d. Do (FontDef d)) (definition_at (operation - 242) bytes) i rest f in
    let (number, body, whole, len, value, says) = definition_is (operation - 242) d bytes rest g in
    let spells : Spells (Do (FontDef d)) ((242 + (operation - 242)) ∷ (number ++ body)) = (operation - 242, number, body, omega arith, omega arith, refl, len, value, says) in
    by_code operation (242 + (operation - 242)) bytes rest i (omega arith) (record {
      front = (242 + (operation - 242)) ∷ (number ++ body);
      whole = ap (λ (r : List ℕ). (242 + (operation - 242)) ∷ r) whole;
      spells = subst (λ (k : Instruction). Spells k ((242 + (operation - 242)) ∷ (number ++ body))) same spells;
    }))

-- The units, from three numbers.
abbrev measured : ℤ × ℤ × ℤ → Units
measured u = record { num = u.0; den = u.1; mag = u.2 }

comment_is : (comment bytes rest : List ℕ) → comment_at bytes ≡ got comment rest → bytes ≡ length comment ∷ (comment ++ rest)
unfolding comment_at
comment_is comment bytes rest e =
    let (k, r, f, g) = followed_is (byte_at bytes) (λ k rest. first_bytes k rest) comment rest e in
    let (whole, len) = cut_is k r comment rest g in
    byte_is k bytes r f ∙ ap (λ (x : List ℕ). k ∷ x) whole ∙ ap (λ (n : ℕ). n ∷ (comment ++ rest)) (sym len)

pre_is : (bytes rest : List ℕ) (i : Instruction) → pre_at bytes ≡ got i rest → BeginsWith i (247 ∷ bytes) rest
unfolding pre_at
pre_is bytes rest i e =
    let (id, r, f, g) = followed_is (byte_at bytes) (λ id rest. front_then (three_at rest) (λ u rest. front_image (λ comment. Pre id (measured u) comment) (comment_at rest))) i rest e in
    let (u, q, h, k) = followed_is (three_at r) (λ u rest. front_image (λ comment. Pre id (measured u) comment) (comment_at rest)) i rest g in
    let (comment, m, same) = made_is (λ comment. Pre id (measured u) comment) (comment_at q) i rest k in
    let (a, b, c, second, one, two, three) = three_is u r q h in
    let first = byte_is id bytes r f in
    let third = comment_is comment q rest m in
    let units : List ℕ = a ++ (b ++ c) in
    let front : List ℕ = 247 ∷ id ∷ (units ++ (length comment ∷ comment)) in
    let shape : units ++ (length comment ∷ comment) ++ rest ≡ a ++ (b ++ (c ++ (length comment ∷ (comment ++ rest)))) = simp append_assoc in
    let says : SaysUnits (measured u) units = (a, b, c, refl, one, two, three) in
    let spells : Spells (Pre id (measured u) comment) front = (units, refl, says) in
    record {
      front = front;
      whole = ap (λ (x : List ℕ). 247 ∷ x) (first ∙ ap (λ (x : List ℕ). id ∷ x) (second ∙ ap (λ (x : List ℕ). a ++ (b ++ (c ++ x))) third ∙ sym shape));
      spells = subst (λ (k : Instruction). Spells k front) same spells;
    }

-- The operands of post, from their parts.
abbrev closed : ℤ → ℤ × ℤ × ℤ → ℤ × ℤ → ℕ × ℕ → Postamble
closed last u sizes counts = record {
  last_bop = last;
  units = measured u;
  height_plus_depth = sizes.0;
  width = sizes.1;
  stack_depth = counts.0;
  pages = counts.1;
}

post_is : (bytes rest : List ℕ) (i : Instruction) → post_at bytes ≡ got i rest → BeginsWith i (248 ∷ bytes) rest
unfolding post_at
post_is bytes rest i e =
    let (last, r, f, g) = followed_is (signed_at 4 bytes) (λ last rest. front_then (three_at rest) (λ u rest. front_then (two_at rest) (λ sizes rest. front_image (λ counts. Post (closed last u sizes counts)) (halves_at rest)))) i rest e in
    let (u, q, h, k) = followed_is (three_at r) (λ u rest. front_then (two_at rest) (λ sizes rest. front_image (λ counts. Post (closed last u sizes counts)) (halves_at rest))) i rest g in
    let (sizes, p, m, t) = followed_is (two_at q) (λ sizes rest. front_image (λ counts. Post (closed last u sizes counts)) (halves_at rest)) i rest k in
    let (counts, v, same) = made_is (λ counts. Post (closed last u sizes counts)) (halves_at p) i rest t in
    let (bop, first, says_bop) = word_is last bytes r f in
    let (a, b, c, second, one, two, three) = three_is u r q h in
    let (tall, wide, third, says_tall, says_wide) = two_is sizes q p m in
    let (deep, count, fourth, says_deep, says_count) = halves_is counts p rest v in
    let units : List ℕ = a ++ (b ++ c) in
    let body : List ℕ = bop ++ (units ++ (tall ++ (wide ++ (deep ++ count)))) in
    let shape : body ++ rest ≡ bop ++ (a ++ (b ++ (c ++ (tall ++ (wide ++ (deep ++ (count ++ rest))))))) = simp append_assoc in
    let says : SaysUnits (measured u) units = (a, b, c, refl, one, two, three) in
    let spells : Spells (Post (closed last u sizes counts)) (248 ∷ body) =
    (bop, units, tall, wide, deep, count, refl, says_bop, says, says_tall, says_wide, says_deep, says_count) in
    let inner : q ≡ tall ++ (wide ++ (deep ++ (count ++ rest))) = third ∙ ap (λ (x : List ℕ). tall ++ (wide ++ x)) fourth in
    let outer : r ≡ a ++ (b ++ (c ++ (tall ++ (wide ++ (deep ++ (count ++ rest)))))) = second ∙ ap (λ (x : List ℕ). a ++ (b ++ (c ++ x))) inner in
    record {
      front = 248 ∷ body;
      whole = ap (λ (x : List ℕ). 248 ∷ x) (first ∙ ap (λ (x : List ℕ). bop ++ x) outer ∙ sym shape);
      spells = subst (λ (k : Instruction). Spells k (248 ∷ body)) same spells;
    }

post_post_is : (bytes rest : List ℕ) (i : Instruction) → post_post_at bytes ≡ got i rest → BeginsWith i (249 ∷ bytes) rest
unfolding post_post_at
post_post_is bytes rest i e =
    let (place, r, f, g) = followed_is (signed_at 4 bytes) (λ place rest. front_image (λ id. PostPost place id) (byte_at rest)) i rest e in
    let (id, h, same) = made_is (λ id. PostPost place id) (byte_at r) i rest g in
    let (a, first, says) = word_is place bytes r f in
    let second = byte_is id r rest h in
    let spells : Spells (PostPost place id) (249 ∷ (a ++ id ∷ [])) = (a, refl, says) in
    record {
      front = 249 ∷ (a ++ id ∷ []);
      whole = ap (λ (x : List ℕ). 249 ∷ x) (first ∙ ap (λ (x : List ℕ). a ++ x) second ∙ sym (append_assoc a (id ∷ []) rest));
      spells = subst (λ (k : Instruction). Spells k (249 ∷ (a ++ id ∷ []))) same spells;
    }

frame_is : (operation : ℕ) (bytes rest : List ℕ) (i : Instruction) → 247 ≤ operation → frame_at operation bytes ≡ got i rest
    → BeginsWith i (operation ∷ bytes) rest
unfolding frame_at
frame_is operation bytes rest i low e =
    split operation 248 _ _ (got i rest) e
    (λ h f. by_code operation 247 bytes rest i (omega arith) (pre_is bytes rest i f))
    (λ a1 e1. split operation 249 _ _ (got i rest) e1
    (λ h f. by_code operation 248 bytes rest i (omega arith) (post_is bytes rest i f))
    (λ a2 e2. split operation 250 _ _ (got i rest) e2
    (λ h f. by_code operation 249 bytes rest i (omega arith) (post_post_is bytes rest i f))
    (λ a3 f. absurd (cc))))

pub read_spells : (bytes rest : List ℕ) (i : Instruction) → read bytes ≡ got i rest → BeginsWith i bytes rest
unfolding read
read_spells [] rest i e = absurd (let none : ◌≡◌ {A = Front Instruction} None (got i rest) = e in cc)
read_spells (operation ∷ bytes) rest i e =
    split operation 132 _ _ (got i rest) e
    (λ h f. char_is operation bytes rest i h f)
    (λ a1 e1. split operation 143 _ _ (got i rest) e1
    (λ h f. plain_is operation bytes rest i (omega arith) (omega arith) f)
    (λ a2 e2. split operation 157 _ _ (got i rest) e2
    (λ h f. movement_is Across (operation - 142) operation bytes rest i (omega arith) (omega arith) (omega arith) f)
    (λ a3 e3. split operation 171 _ _ (got i rest) e3
    (λ h f. movement_is Downward (operation - 156) operation bytes rest i (omega arith) (omega arith) (omega arith) f)
    (λ a4 e4. split operation 239 _ _ (got i rest) e4
    (λ h f. font_is operation bytes rest i (omega arith) (omega arith) f)
    (λ a5 e5. split operation 247 _ _ (got i rest) e5
    (λ h f. long_is operation bytes rest i (omega arith) (omega arith) f)
    (λ a6 f. frame_is operation bytes rest i a6 f))))))
