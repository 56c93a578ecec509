-- Rows in lines of seventy digits.
use Rattle.std.proofs.Common.{◌≡◌, ◌≢◌, ℕ, zero, suc, ◌+◌, ◌-◌, ◌*◌, ◌<◌, ◌≤◌, ◌/◌, ◌%◌, ◌||◌, Bool, true, false, nat_eq, List, [], ◌∷◌, ◌++◌, length, take, drop, map, min, replicate, refl, sym, ap, ◌∙◌, arith}
use Rattle.std.specs.Prelude.{slice_index}
use Rattle.std.proofs.Math.Seq.{drop-append_seam, take-append_seam}
use Rattle.raster_core.specs.Words.{in_rows, is_set}
use Rattle.std.specs.List.{flat_map, range_with_len}
use Rattle.std.proofs.lemmas.List.{append-nil, append_assoc, map-append}
use Rattle.std.proofs.lemmas.Grind.{flat_map-append}
use Rattle.std.proofs.lemmas.Bool.{eqb-false}
use Rattle.std.proofs.Math.Bool.{or-true}
use Rattle.raster_core.specs.PlainText.{digit_text, ends_line, row_text}
use Rattle.raster_core.specs.Private.RowPieces.{digit_of, digits, columns_text, line_text}

range_split : (a n m : ℕ) → range_with_len a (n + m) ≡ range_with_len a n ++ range_with_len (a + n) m
range_split a zero m =
    let e : 0 + m ≡ m = omega arith in
    let f : a ≡ a + 0 = omega arith in
    ap (range_with_len a) e ∙ ap (λ b. range_with_len b m) f
range_split a (suc n) m =
    let e : suc n + m ≡ suc (n + m) = omega arith in
    let f : a + 1 + n ≡ a + suc n = omega arith in
    ap (range_with_len a) e ∙ ap (λ l. a ∷ l) (range_split (a + 1) n m ∙ ap (λ b. range_with_len (a + 1) n ++ range_with_len b m) f)

-- The digits of some columns, and of those after them.
pub digits_split : (black : ℕ → Bool) (from n m : ℕ) → digits black from (n + m) ≡ digits black from n ++ digits black (from + n) m
unfolding digits
digits_split black from n m =
    ap (map (λ x. digit_of (black x))) (range_split from n m) ∙ map-append (λ x. digit_of (black x)) (range_with_len from n) (range_with_len (from + n) m)

pub columns_split : (width : ℕ) (black : ℕ → Bool) (from n m : ℕ)
    → columns_text width black from (n + m) ≡ columns_text width black from n ++ columns_text width black (from + n) m
unfolding columns_text
columns_split width black from n m =
    ap (flat_map (λ x. digit_text (black x) (ends_line width x))) (range_split from n m)
    ∙ flat_map-append (λ x. digit_text (black x) (ends_line width x)) (range_with_len from n) (range_with_len (from + n) m)

-- A column that is not the last of its line.
inner : (w line k : ℕ) → k < 69 → 70 * line + k + 1 < w → ends_line w (70 * line + k) ≡ false
inner w line k a b =
    let m : (70 * line + k + 1) % 70 ≡ k + 1 = omega arith in
    let p : nat_eq ((70 * line + k + 1) % 70) 0 ≡ false = grind (arith, m) in
    let q : nat_eq (70 * line + k + 1) w ≡ false = grind (arith, b) in
    ap (λ e. e || nat_eq (70 * line + k + 1) w) p ∙ q

-- The last column of a line.
last : (w line m : ℕ) → suc m ≡ min (w - 70 * line) 70 → ends_line w (70 * line + m) ≡ true
last w line m e = go (nat_eq (70 * line + m + 1) w) refl
  where
    go : (b : Bool) → nat_eq (70 * line + m + 1) w ≡ b → (nat_eq ((70 * line + m + 1) % 70) 0 || nat_eq (70 * line + m + 1) w) ≡ true
    go true p = ap (λ b. nat_eq ((70 * line + m + 1) % 70) 0 || b) p ∙ or-true (nat_eq ((70 * line + m + 1) % 70) 0)
    go false p =
        let d : 70 * line + m + 1 ≢ w = eqb-false (70 * line + m + 1) w p in
        let f : m ≡ 69 = omega (arith, e, d) in
        let z : (70 * line + m + 1) % 70 ≡ 0 = omega (arith, f) in
        ap (λ n. nat_eq n 0 || nat_eq (70 * line + m + 1) w) z

-- Digits whose last one ends a line.
one_line : (w : ℕ) (black : ℕ → Bool) (from n : ℕ) → ((k : ℕ) → k < n → ends_line w (from + k) ≡ false) → ends_line w (from + n) ≡ true
    → columns_text w black from (suc n) ≡ digits black from (suc n) ++ 10 ∷ []
unfolding columns_text digits
one_line w black from zero none end =
    let z : from ≡ from + 0 = omega arith in
    ap (λ e. digit_text (black from) e ++ []) (ap (ends_line w) z ∙ end)
one_line w black from (suc n) none end =
    let z : from ≡ from + 0 = omega arith in
    let next : from + 1 + n ≡ from + suc n = omega arith in
    ap (λ e. digit_text (black from) e ++ flat_map (λ x. digit_text (black x) (ends_line w x)) (range_with_len (from + 1) (suc n)))
    (ap (ends_line w) z ∙ none 0 (omega arith))
    ∙ ap (λ l. digit_of (black from) ∷ l) (one_line w black (from + 1) n
    (λ k h. let s : from + 1 + k ≡ from + suc k = omega arith in ap (ends_line w) s ∙ none (suc k) (omega (arith, h)))
    (ap (ends_line w) next ∙ end))

-- A line is its digits and a line feed.
pub line_is : (w : ℕ) (black : ℕ → Bool) (line : ℕ) → 70 * line < w → line_text w black line ≡ digits black (70 * line) (min (w - 70 * line) 70) ++ 10 ∷ []
unfolding line_text
line_is w black line some = go (min (w - 70 * line) 70) refl
  where
    go : (n : ℕ) → n ≡ min (w - 70 * line) 70 → columns_text w black (70 * line) n ≡ digits black (70 * line) n ++ 10 ∷ []
    go zero e = absurd (omega (arith, e, some))
    go (suc n) e = one_line w black (70 * line) n (λ k h. inner w line k (omega (arith, e, h)) (omega (arith, e, h))) (last w line n e)

-- The columns of some lines, and of the next one.
pub next_line : (w : ℕ) (black : ℕ → Bool) (line : ℕ) → 70 * line < w
    → columns_text w black 0 (min w (70 * (line + 1))) ≡ columns_text w black 0 (min w (70 * line)) ++ line_text w black line
unfolding line_text
next_line w black line some =
    let n : min w (70 * (line + 1)) ≡ 70 * line + min (w - 70 * line) 70 = omega arith in
    let z : 0 + 70 * line ≡ 70 * line = omega arith in
    let m : 70 * line ≡ min w (70 * line) = omega (arith, some) in
    ap (columns_text w black 0) n
    ∙ (columns_split w black 0 (70 * line) (min (w - 70 * line) 70)
    ∙ (ap (λ f. columns_text w black 0 (70 * line) ++ columns_text w black f (min (w - 70 * line) 70)) z
    ∙ ap (λ k. columns_text w black 0 k ++ columns_text w black (70 * line) (min (w - 70 * line) 70)) m))

-- There are as many digits as columns.
pub length-digits : (black : ℕ → Bool) (from n : ℕ) → length (digits black from n) ≡ n
unfolding digits
length-digits black from zero = refl
length-digits black from (suc n) = omega (arith, length-digits black (from + 1) n)

-- The digits of equal pixels.
pub same_digits : (f g : ℕ → Bool) (a b n : ℕ) → ((i : ℕ) → i < n → f (a + i) ≡ g (b + i)) → digits f a n ≡ digits g b n
unfolding digits
same_digits f g a b zero same = refl
same_digits f g a b (suc n) same =
    let a0 : a + 0 ≡ a = omega arith in
    let b0 : b + 0 ≡ b = omega arith in
    let first : f a ≡ g b = sym (ap f a0) ∙ same 0 (omega arith) ∙ ap g b0 in
    ap (λ (x : Bool). digit_of x ∷ digits f (a + 1) n) first
    ∙ ap (λ (l : List ℕ). digit_of (g b) ∷ l) (same_digits f g (a + 1) (b + 1) n
    (λ i h. let s : a + 1 + i ≡ a + suc i = omega arith in let t : b + suc i ≡ b + 1 + i = omega arith in ap f s ∙ same (suc i) (omega (arith, h)) ∙ ap g t))

-- A part of the digits of a row.
pub part_digits : (black : ℕ → Bool) (row : List ℕ) (from n : ℕ) → row ≡ digits black 0 (length row) → from + n ≤ length row → take n (drop from row) ≡ digits black from n
part_digits black row from n is within =
    let m : ℕ = length row - (from + n) in
    let all : length row ≡ from + (n + m) = omega (arith, within) in
    let z : 0 + from ≡ from = omega arith in
    let front : List ℕ = digits black 0 from in
    let part : List ℕ = digits black from n in
    let parts : row ≡ front ++ (part ++ digits black (from + n) m) =
    is ∙ ap (digits black 0) all ∙ digits_split black 0 from (n + m) ∙ ap (λ (k : ℕ). front ++ digits black k (n + m)) z
    ∙ ap (λ (l : List ℕ). front ++ l) (digits_split black from n m) in
    ap (λ (l : List ℕ). take n (drop from l)) parts
    ∙ ap (λ (k : ℕ). take n (drop k (front ++ (part ++ digits black (from + n) m)))) (sym (length-digits black 0 from))
    ∙ ap (take n) (drop-append_seam front (part ++ digits black (from + n) m))
    ∙ ap (λ (k : ℕ). take k (part ++ digits black (from + n) m)) (sym (length-digits black from n))
    ∙ take-append_seam part (digits black (from + n) m)

-- One more digit.
pub one_digit : (black : ℕ → Bool) (i d : ℕ) (mid : List ℕ) → mid ≡ digits black 0 i → d ≡ digit_of (black i) → mid ++ d ∷ [] ≡ digits black 0 (i + 1)
unfolding digits
one_digit black i d mid is digit =
    let z : 0 + i ≡ i = omega arith in
    ap (λ (l : List ℕ). l ++ d ∷ []) is ∙ ap (λ (k : ℕ). digits black 0 i ++ k ∷ []) (digit ∙ ap (λ (k : ℕ). digit_of (black k)) (sym z)) ∙ sym (digits_split black 0 i 1)

-- Pixels that are all equal.
pub even_digits : (black : ℕ → Bool) (all : Bool) (from n : ℕ) → ((i : ℕ) → black i ≡ all) → replicate n (digit_of all) ≡ digits black from n
unfolding digits
even_digits black all from zero same = refl
even_digits black all from (suc n) same =
    ap (λ (x : Bool). digit_of x ∷ replicate n (digit_of all)) (sym (same from)) ∙ ap (λ (l : List ℕ). digit_of (black from) ∷ l) (even_digits black all (from + 1) n same)

-- The digits of a word whose bits are all 1.
pub full_word : replicate 64 49 ≡ digits (is_set 18446744073709551615) 0 64
unfolding digits
full_word = refl

-- The digits of a word in its row.
pub word_digits :
    (words : List ℕ) (stride y k : ℕ) → digits (is_set (slice_index words (y * stride + k))) 0 64 ≡ digits (λ x. in_rows words stride x y) (64 * k) 64
unfolding in_rows
word_digits words stride y k =
    same_digits (is_set (slice_index words (y * stride + k))) (λ x. in_rows words stride x y) 0 (64 * k) 64
    (λ i h.
    let at : k ≡ (64 * k + i) / 64 = omega (arith, h) in
    let bit : 0 + i ≡ (64 * k + i) % 64 = omega (arith, h) in
    ap (λ (n : ℕ). is_set (slice_index words (y * stride + k)) n) bit ∙ ap (λ (n : ℕ). is_set (slice_index words (y * stride + n)) ((64 * k + i) % 64)) at)

-- One more word of a row.
pub more_words :
    (words : List ℕ) (stride y k : ℕ) (mid part : List ℕ) → mid ≡ digits (λ x. in_rows words stride x y) 0 (64 * k)
    → part ≡ digits (is_set (slice_index words (y * stride + k))) 0 64 → mid ++ part ≡ digits (λ x. in_rows words stride x y) 0 (64 * (k + 1))
more_words words stride y k mid part is more =
    let z : 0 + 64 * k ≡ 64 * k = omega arith in
    let n : 64 * k + 64 ≡ 64 * (k + 1) = omega arith in
    let black : ℕ → Bool = λ x. in_rows words stride x y in
    ap (λ (l : List ℕ). l ++ part) is
    ∙ ap (λ (l : List ℕ). digits black 0 (64 * k) ++ l) (more ∙ word_digits words stride y k)
    ∙ ap (λ (a : ℕ). digits black 0 (64 * k) ++ digits black a 64) (sym z)
    ∙ sym (digits_split black 0 (64 * k) 64)
    ∙ ap (digits black 0) n

-- The digits of a line, and a line feed.
pub ended_line : (w : ℕ) (black : ℕ → Bool) (line n : ℕ) (old mid new : List ℕ) → 70 * line < w → n ≡ min (w - 70 * line) 70
    → mid ≡ old ++ digits black (70 * line) n → new ≡ mid ++ 10 ∷ [] → new ≡ old ++ line_text w black line
ended_line w black line n old mid new some e a b =
    b
    ∙ (ap (λ l. l ++ 10 ∷ []) a
    ∙ (append_assoc old (digits black (70 * line) n) (10 ∷ [])
    ∙ ap (λ l. old ++ l) (ap (λ k. digits black (70 * line) k ++ 10 ∷ []) e ∙ sym (line_is w black line some))))

-- No columns yet, one more line, and all columns.
pub no_columns : (w : ℕ) (black : ℕ → Bool) (n : ℕ) (old : List ℕ) → n ≡ 0 → old ≡ old ++ columns_text w black 0 n
unfolding columns_text
no_columns w black n old e = sym (append-nil old) ∙ ap (λ k. old ++ columns_text w black 0 k) (sym e)

pub more_lines : (w : ℕ) (black : ℕ → Bool) (line : ℕ) (old mid new : List ℕ) → 70 * line < w → mid ≡ old ++ columns_text w black 0 (min w (70 * line))
    → new ≡ mid ++ line_text w black line → new ≡ old ++ columns_text w black 0 (min w (70 * (line + 1)))
more_lines w black line old mid new some a b =
    b
    ∙ (ap (λ l. l ++ line_text w black line) a
    ∙ (append_assoc old (columns_text w black 0 (min w (70 * line))) (line_text w black line)
    ∙ ap (λ l. old ++ l) (sym (next_line w black line some))))

pub all_columns : (w : ℕ) (black : ℕ → Bool) (n : ℕ) (old new : List ℕ) → n ≡ w → new ≡ old ++ columns_text w black 0 n → new ≡ old ++ row_text w black
unfolding columns_text row_text
all_columns w black n old new e a = a ∙ ap (λ k. old ++ columns_text w black 0 k) e
