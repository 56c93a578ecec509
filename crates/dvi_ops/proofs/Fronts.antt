-- Reading at the start of some bytes, field by field: a field that is there is read, and what was read is there.
use Rattle.std.proofs.Common.{ℕ, zero, suc, ℤ, ◌≡◌, ◌≤◌, ◌<◌, ◌*◌, List, [], ◌∷◌, ◌++◌, length, take, drop, nat_le, nat_lt, Bool, true, false, cond, Some, None, arith, inl, inr, refl, sym, ap, ◌∙◌, subst}
use Rattle.std.proofs.Math.Seq.{take-append_seam, drop-append_seam}
use Rattle.std.proofs.lemmas.Bool.{cases_lt, le-leb, lt-ltb, le-ltb, leb-true}
use Rattle.std.proofs.lemmas.List.{length-append, length-drop, length-take-le, take-append-drop}
use Rattle.byteorder.specs.Endian.{big_number, twos_complement}
use Rattle.byteorder.specs.Numbers.{big_from-append, big_from-take}
use Rattle.dvi_ops.specs.Private.Reading.{Front, front_image, front_then, first_bytes, signed_at, half_at, byte_at, two_at, three_at, halves_at, words}
use Rattle.dvi_ops.specs.Table.{signed, SpellsSigned, SaysEach, SaysShort}

-- The two cases of a test.
pub split : {A G : Type 0} → (m n : ℕ) (x y r : A) → cond (nat_lt m n) x y ≡ r → (m < n → x ≡ r → G) → (n ≤ m → y ≡ r → G) → G
split {A = A} {G = G} m n x y r e below above = elim (cases_lt m n) [
  | inl h ↦ below h (let t = lt-ltb m n h in rw t at e)
  | inr h ↦ above h (let t = le-ltb m n h in rw t at e)
]

-- A value that was read, and the rest of the bytes.
abbrev pub got : {A : Type 0} → A → List ℕ → Front A
got v x = Some (v, x)

pub same_first : {A : Type 0} → (v w : A) (x y : List ℕ) → got v x ≡ got w y → v ≡ w
same_first {A = A} v w x y e = let pair : ◌≡◌ {A = A × List ℕ} (v, x) (w, y) = cc in ap (λ (p : A × List ℕ). p.0) pair

pub same_rest : {A : Type 0} → (v w : A) (x y : List ℕ) → got v x ≡ got w y → x ≡ y
same_rest {A = A} v w x y e = let pair : ◌≡◌ {A = A × List ℕ} (v, x) (w, y) = cc in ap (λ (p : A × List ℕ). p.1) pair

-- The right number of bytes is cut off.
pub cut_at : (n : ℕ) (a x : List ℕ) → length a ≡ n → first_bytes n (a ++ x) ≡ got a x
cut_at n a x e =
    let enough : n ≤ length (a ++ x) = omega (arith, length-append a x) in
    let test = le-leb n (length (a ++ x)) enough in
    rw (test, ← e, take-append_seam a x, drop-append_seam a x) refl

-- What was cut off is the beginning of the bytes.
pub cut_is : (n : ℕ) (bytes a x : List ℕ) → first_bytes n bytes ≡ got a x → (bytes ≡ a ++ x) × (length a ≡ n)
cut_is n bytes a x e = go (nat_le n (length bytes)) refl e where
  go : (b : Bool) → nat_le n (length bytes) ≡ b → cond b (got (take n bytes) (drop n bytes)) None ≡ got a x → (bytes ≡ a ++ x) × (length a ≡ n)
  go true t f =
      let front : take n bytes ≡ a = same_first (take n bytes) a (drop n bytes) x f in
      let rest : drop n bytes ≡ x = same_rest (take n bytes) a (drop n bytes) x f in
      (rw (← front, ← rest) (sym (take-append-drop n bytes)), rw (← front) (length-take-le n bytes (leb-true n (length bytes) t)))
  go false t f = cc

-- An image comes from a value that was read.
pub made_is : {A B : Type 0} → (f : A → B) (o : Front A) (b : B) (x : List ℕ) → front_image f o ≡ got b x → (a : A) × (o ≡ got a x) × (f a ≡ b)
made_is {B = B} f None b x e = absurd (let none : ◌≡◌ {A = Front B} None (got b x) = e in cc)
made_is f (Some (v, rest)) b x e =
    (v, ap (λ (r : List ℕ). got v r) (same_rest (f v) b rest x e), same_first (f v) b rest x e)

-- Where two values were read one after the other, each was read.
pub followed_is : {A B : Type 0} → (o : Front A) (next : A → List ℕ → Front B) (b : B) (x : List ℕ) → front_then o next ≡ got b x
    → (a : A) × (rest : List ℕ) × (o ≡ got a rest) × (next a rest ≡ got b x)
followed_is {B = B} None next b x e = absurd (let none : ◌≡◌ {A = Front B} None (got b x) = e in cc)
followed_is (Some (v, rest)) next b x e = (v, rest, refl, e)

-- A number of n bytes is read.
pub number_reads : (says : ℕ → List ℕ → ℤ) (n : ℕ) (z : ℤ) (a x : List ℕ) → length a ≡ n → says n a ≡ z → front_image (says n) (first_bytes n (a ++ x)) ≡ got z x
number_reads says n z a x len value = rw (cut_at n a x len, value) refl

pub number_is : (says : ℕ → List ℕ → ℤ) (n : ℕ) (z : ℤ) (bytes x : List ℕ) → front_image (says n) (first_bytes n bytes) ≡ got z x
    → (a : List ℕ) × (bytes ≡ a ++ x) × (length a ≡ n) × (says n a ≡ z)
number_is says n z bytes x e =
    let (a, f, value) = made_is (says n) (first_bytes n bytes) z x e in
    let (whole, len) = cut_is n bytes a x f in
    (a, whole, len, value)

-- A number of four bytes is read.
pub word_reads : (z : ℤ) (a x : List ℕ) → SpellsSigned z a → signed_at 4 (a ++ x) ≡ got z x
unfolding signed_at
word_reads z a x says = number_reads signed 4 z a x says.0 says.1

pub word_is : (z : ℤ) (bytes x : List ℕ) → signed_at 4 bytes ≡ got z x → (a : List ℕ) × (bytes ≡ a ++ x) × SpellsSigned z a
unfolding signed_at
word_is z bytes x e = let (a, whole, len, value) = number_is signed 4 z bytes x e in (a, whole, (len, value))

-- A number of two bytes is read.
pub half_reads : (n : ℕ) (a x : List ℕ) → SaysShort n a → half_at (a ++ x) ≡ got n x
unfolding half_at
half_reads n a x says = rw (cut_at 2 a x says.0, says.1) refl

pub half_is : (n : ℕ) (bytes x : List ℕ) → half_at bytes ≡ got n x → (a : List ℕ) × (bytes ≡ a ++ x) × SaysShort n a
unfolding half_at
half_is n bytes x e =
    let (a, f, value) = made_is (big_number 2) (first_bytes 2 bytes) n x e in
    let (whole, len) = cut_is 2 bytes a x f in
    (a, whole, (len, value))

-- A byte that was read is the first one.
pub byte_is : (n : ℕ) (bytes x : List ℕ) → byte_at bytes ≡ got n x → bytes ≡ n ∷ x
byte_is n [] x e = absurd (let none : ◌≡◌ {A = Front ℕ} None (got n x) = e in cc)
byte_is n (b ∷ rest) x e = let first = same_first b n rest x e in let more = same_rest b n rest x e in cc

-- Two numbers of four bytes are read.
pub two_reads : (y z : ℤ) (a b x : List ℕ) → SpellsSigned y a → SpellsSigned z b → two_at (a ++ (b ++ x)) ≡ got (y, z) x
unfolding two_at
two_reads y z a b x first second = rw (word_reads y a (b ++ x) first, word_reads z b x second) refl

pub two_is : (p : ℤ × ℤ) (bytes x : List ℕ) → two_at bytes ≡ got p x
    → (a : List ℕ) × (b : List ℕ) × (bytes ≡ a ++ (b ++ x)) × SpellsSigned p.0 a × SpellsSigned p.1 b
unfolding two_at
two_is p bytes x e =
    let (y, rest, f, g) = followed_is (signed_at 4 bytes) (λ a rest. front_image (λ b. (a, b)) (signed_at 4 rest)) p x e in
    let (z, h, pair) = made_is (λ b. (y, b)) (signed_at 4 rest) p x g in
    let (a, whole, first) = word_is y bytes rest f in
    let (b, more, second) = word_is z rest x h in
    (a, b, whole ∙ ap (λ (r : List ℕ). a ++ r) more, subst (λ (q : ℤ × ℤ). SpellsSigned q.0 a) pair first, subst (λ (q : ℤ × ℤ). SpellsSigned q.1 b) pair second)

-- Three numbers of four bytes are read.
pub three_reads : (y z u : ℤ) (a b c x : List ℕ) → SpellsSigned y a → SpellsSigned z b → SpellsSigned u c → three_at (a ++ (b ++ (c ++ x))) ≡ got (y, z, u) x
unfolding three_at
three_reads y z u a b c x first second third = rw (word_reads y a (b ++ (c ++ x)) first, two_reads z u b c x second third) refl

pub three_is : (p : ℤ × ℤ × ℤ) (bytes x : List ℕ) → three_at bytes ≡ got p x
    → (a : List ℕ) × (b : List ℕ) × (c : List ℕ) × (bytes ≡ a ++ (b ++ (c ++ x))) × SpellsSigned p.0 a × SpellsSigned p.1 b × SpellsSigned p.2 c
unfolding three_at
three_is p bytes x e =
    let (y, rest, f, g) = followed_is (signed_at 4 bytes) (λ a rest. front_image (λ bc. (a, bc.0, bc.1)) (two_at rest)) p x e in
    let (q, h, triple) = made_is (λ bc. (y, bc.0, bc.1)) (two_at rest) p x g in
    let (a, whole, first) = word_is y bytes rest f in
    let (b, c, more, second, third) = two_is q rest x h in
    (a, b, c, whole ∙ ap (λ (r : List ℕ). a ++ r) more, subst (λ (r : ℤ × ℤ × ℤ). SpellsSigned r.0 a) triple first, subst (λ (r : ℤ × ℤ × ℤ). SpellsSigned r.1 b) triple second, subst (λ (r : ℤ × ℤ × ℤ). SpellsSigned r.2 c) triple third)

-- Two numbers of two bytes are read.
pub halves_reads : (m n : ℕ) (a b x : List ℕ) → SaysShort m a → SaysShort n b → halves_at (a ++ (b ++ x)) ≡ got (m, n) x
unfolding halves_at
halves_reads m n a b x first second = rw (half_reads m a (b ++ x) first, half_reads n b x second) refl

pub halves_is : (p : ℕ × ℕ) (bytes x : List ℕ) → halves_at bytes ≡ got p x
    → (a : List ℕ) × (b : List ℕ) × (bytes ≡ a ++ (b ++ x)) × SaysShort p.0 a × SaysShort p.1 b
unfolding halves_at
halves_is p bytes x e =
    let (m, rest, f, g) = followed_is (half_at bytes) (λ a rest. front_image (λ b. (a, b)) (half_at rest)) p x e in
    let (n, h, pair) = made_is (λ b. (m, b)) (half_at rest) p x g in
    let (a, whole, first) = half_is m bytes rest f in
    let (b, more, second) = half_is n rest x h in
    (a, b, whole ∙ ap (λ (r : List ℕ). a ++ r) more, subst (λ (q : ℕ × ℕ). SaysShort q.0 a) pair first, subst (λ (q : ℕ × ℕ). SaysShort q.1 b) pair second)

-- A list of numbers of four bytes is read.
pub words_read : (zs : List ℤ) (a : List ℕ) (n : ℕ) → length zs ≡ n → SaysEach zs a → (words n a ≡ zs) × (length a ≡ 4 * n)
unfolding words
words_read [] a zero len says = (refl, ap (λ (l : List ℕ). length l) says)
words_read [] a (suc n) len says = absurd (omega arith)
words_read (z ∷ zs) a zero len says = absurd (omega arith)
words_read (z ∷ zs) a (suc n) len says =
    let (b, rest, whole, first, more) = says in
    let (tail, long) = words_read zs rest n (omega arith) more in
    let four : length b ≡ 4 = first.0 in
    let after : drop 4 (b ++ rest) ≡ rest = rw (← four) (drop-append_seam b rest) in
    let head : signed 4 (b ++ rest) ≡ z = ap (twos_complement 4) (big_from-append 4 b rest (omega arith)) ∙ first.1 in
    let all : words (suc n) (b ++ rest) ≡ z ∷ zs = rw (head, after, tail) refl in
    (ap (words (suc n)) whole ∙ all, ap (λ (l : List ℕ). length l) whole ∙ omega (arith, length-append b rest))

pub words_stand : (n : ℕ) (a : List ℕ) → length a ≡ 4 * n → (length (words n a) ≡ n) × SaysEach (words n a) a
unfolding words
words_stand zero [] len = (refl, refl)
words_stand zero (b ∷ a) len = absurd (omega arith)
words_stand (suc n) a len =
    let enough : 4 ≤ length a = omega arith in
    let (count, more) = words_stand n (drop 4 a) (omega (arith, length-drop 4 a)) in
    let front : length (take 4 a) ≡ 4 = length-take-le 4 a enough in
    let says : SpellsSigned (signed 4 a) (take 4 a) = (front, ap (twos_complement 4) (big_from-take 0 4 4 a (omega arith))) in
    (omega (arith, count), (take 4 a, drop 4 a, sym (take-append-drop 4 a), says, more))
