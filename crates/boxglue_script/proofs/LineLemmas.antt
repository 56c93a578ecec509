-- The first line of a text, and the lines of two texts.
use Rattle.std.proofs.Common.{◌≡◌, ◌⊎◌, inl, inr, ◌==◌, not, Option, None, Some, ℕ, suc, ◌+◌, ◌<◌, ◌≤◌, Bool, true, false, List, [], ◌∷◌, ◌++◌, length, get_or, take, drop, refl, ap, sym, ◌∙◌, arith, append_assoc, drop-cons}
use Rattle.std.specs.Prelude.{map, unwrap_or}
use Rattle.std.specs.List.{onto_first, slice_split, prefix_len, before_first, after_first}
use Rattle.std.proofs.Math.Dec.{eqb-suc-zero}
use Rattle.std.specs.Str.Lines.{lines, lines_of_parts, strip_carriage_return}
use Rattle.std.proofs.lemmas.Bool.Decides.{nat_tests}
use Rattle.std.proofs.lemmas.List.Splits.{slice_split_first, slice_split_none, slice_split-cons_yes, slice_split-cons_no, length-slice_split}
use Rattle.std.proofs.lemmas.List.Sums.{fails_before_first, prefix_len_is, prefix_len_stops}
use Rattle.std.proofs.lemmas.List.{take_all, drop_all, take-append-drop, append-nil, append_cancel_right, length-append}
use Rattle.memchr.specs.Find.{IsFirstByte, is_byte}
use Rattle.boxglue_script.specs.LineContents.{IsWhole}
use Rattle.boxglue_script.specs.Private.Reading.{in_line}

abbrev pub is_feed : ℕ → Bool
is_feed b = b == 10

-- A part that others follow is a line that ends with a line feed.
pub lines_of_more : (x : List ℕ) (parts : List (List ℕ)) → 0 < length parts → lines_of_parts (x ∷ parts) ≡ strip_carriage_return x ∷ lines_of_parts parts
lines_of_more x [] h = absurd (omega arith)
lines_of_more x (y ∷ more) h = refl

-- A line that ends with a line feed.
pub lines-first : (text : List ℕ) (n : ℕ) → n ≡ prefix_len in_line text → n < length text → lines text ≡ strip_carriage_return (take n text) ∷ lines (drop (n + 1) text)
lines-first text n e inside =
    ap lines_of_parts (slice_split_first is_feed text 0 (rw (← e) inside))
    ∙ lines_of_more (before_first is_feed text) (slice_split is_feed (after_first is_feed text)) (omega (arith, length-slice_split is_feed (after_first is_feed text)))
    ∙ (rw (← e) refl)

last_line : (text : List ℕ) → 0 < length text → lines_of_parts (text ∷ []) ≡ text ∷ []
last_line [] h = absurd (omega arith)
last_line (b ∷ text) h = rw (eqb-suc-zero (length text)) refl

-- The last line, if it has no line feed.
pub lines-last : (text : List ℕ) (n : ℕ) → 0 < length text → n ≡ prefix_len in_line text → length text ≤ n → lines text ≡ take n text ∷ lines (drop n text)
lines-last text n some e h =
    let nothing : drop n text ≡ [] = drop_all n text h in
    let none : slice_split is_feed text ≡ text ∷ [] = slice_split_none is_feed text (λ k d lt. fails_before_first is_feed text k d (omega arith)) in
    let whole : take n text ≡ text = take_all n text (omega arith) in
    rw (nothing, whole) (ap lines_of_parts none ∙ last_line text some)

onto_joined : (x : ℕ) (parts rest : List (List ℕ)) → 0 < length parts → onto_first x (parts ++ rest) ≡ onto_first x parts ++ rest
onto_joined x [] rest some = absurd (omega arith)
onto_joined x (part ∷ parts) rest some = refl

split_by : (x : ℕ) (xs ys : List ℕ) (b : Bool) → is_feed x ≡ b → slice_split is_feed (xs ++ 10 ∷ ys) ≡ slice_split is_feed xs ++ slice_split is_feed ys
    → slice_split is_feed (x ∷ (xs ++ 10 ∷ ys)) ≡ slice_split is_feed (x ∷ xs) ++ slice_split is_feed ys
split_by x xs ys true e more =
    slice_split-cons_yes is_feed x (xs ++ 10 ∷ ys) e
    ∙ (ap (λ (parts : List (List ℕ)). [] ∷ parts) more ∙ ap (λ (parts : List (List ℕ)). parts ++ slice_split is_feed ys) (sym (slice_split-cons_yes is_feed x xs e)))
split_by x xs ys false e more =
    slice_split-cons_no is_feed x (xs ++ 10 ∷ ys) e
    ∙ (ap (onto_first x) more
    ∙ (onto_joined x (slice_split is_feed xs) (slice_split is_feed ys) (omega (arith, length-slice_split is_feed xs))
    ∙ ap (λ (parts : List (List ℕ)). parts ++ slice_split is_feed ys) (sym (slice_split-cons_no is_feed x xs e))))

-- The parts of two texts with a line feed between them.
split_joined : (xs ys : List ℕ) → slice_split is_feed (xs ++ 10 ∷ ys) ≡ slice_split is_feed xs ++ slice_split is_feed ys
split_joined [] ys = refl
split_joined (x ∷ xs) ys = split_by x xs ys _ refl (split_joined xs ys)

-- Parts that others follow are lines that end with a line feed.
parts_joined : (parts rest : List (List ℕ)) → 0 < length rest → lines_of_parts (parts ++ rest) ≡ map strip_carriage_return parts ++ lines_of_parts rest
parts_joined [] rest some = refl
parts_joined (part ∷ parts) rest some =
    lines_of_more part (parts ++ rest) (omega (arith, length-append parts rest, some))
    ∙ ap (λ (ls : List (List ℕ)). strip_carriage_return part ∷ ls) (parts_joined parts rest some)

ended_lines : (front more : List ℕ) → lines (front ++ 10 ∷ more) ≡ map strip_carriage_return (slice_split is_feed front) ++ lines more
ended_lines front more =
    ap lines_of_parts (split_joined front more)
    ∙ parts_joined (slice_split is_feed front) (slice_split is_feed more) (omega (arith, length-slice_split is_feed more))

lines_ended : (front more : List ℕ) → lines ((front ++ 10 ∷ []) ++ more) ≡ lines (front ++ 10 ∷ []) ++ lines more
lines_ended front more =
    ap lines (append_assoc front (10 ∷ []) more)
    ∙ (ended_lines front more
    ∙ ap (λ (ls : List (List ℕ)). ls ++ lines more) (sym (ended_lines front [] ∙ append-nil (map strip_carriage_return (slice_split is_feed front)))))

-- The lines of a text whose lines are whole, and of what follows it.
pub lines_joined : (text more : List ℕ) → IsWhole text → lines (text ++ more) ≡ lines text ++ lines more
lines_joined text more (inl none) = rw none refl
lines_joined text more (inr (front, is)) = rw is (lines_ended front more)

is_feed_byte : (byte : ℕ) → in_line byte ≡ false → byte ≡ 10
is_feed_byte byte e = grind (arith, nat_tests, e)

-- What comes up to the first line feed of a text, and what follows it.
ended_front : (text : List ℕ) (n : ℕ) → n ≡ prefix_len in_line text → n < length text → text ≡ (take n text ++ 10 ∷ []) ++ drop (n + 1) text
ended_front text n e inside =
    let next : suc n ≡ n + 1 = omega arith in
    let feed : get_or text n 0 ≡ 10 = is_feed_byte (get_or text n 0) (rw e (prefix_len_stops in_line text 0 (rw (← e) inside))) in
    sym (take-append-drop n text)
    ∙ (ap (λ (more : List ℕ). take n text ++ more)
    (drop-cons text n 0 inside ∙ (ap (λ (byte : ℕ). byte ∷ drop (suc n) text) feed ∙ ap (λ (k : ℕ). 10 ∷ drop k text) next))
    ∙ sym (append_assoc (take n text) (10 ∷ []) (drop (n + 1) text)))

-- A text begins with this line, and this follows its end.
abbrev pub Splits : (text line rest : List ℕ) → Type 0
Splits text line rest = (front : List ℕ) × (text ≡ front ++ rest) × (lines front ≡ line ∷ []) × (IsWhole front ⊎ (rest ≡ []))

pub splits_first : (text line rest : List ℕ) (n : ℕ) → n ≡ prefix_len in_line text → n < length text → rest ≡ drop (n + 1) text → lines text ≡ line ∷ lines rest → Splits text line rest
splits_first text line rest n e inside rest_is first =
    let front = take n text ++ 10 ∷ [] in
    let split : text ≡ front ++ rest = ended_front text n e inside ∙ ap (λ (more : List ℕ). front ++ more) (sym rest_is) in
    let whole : IsWhole front = inr (take n text, refl) in (
      front,
      split,
      append_cancel_right (lines front) (line ∷ []) (lines rest) (sym (lines_joined front rest whole) ∙ (ap lines (sym split) ∙ first)),
      inl whole,
    )

pub splits_last : (text line rest : List ℕ) → rest ≡ [] → lines text ≡ line ∷ lines rest → Splits text line rest
splits_last text line rest none first =
    (text, sym (append-nil text) ∙ ap (λ (more : List ℕ). text ++ more) (sym none), first ∙ ap (λ (more : List ℕ). line ∷ lines more) none, inr none)

pub ruleset splitting = (lines-first, lines-last)

no_feed : (b : Bool) → (b ≡ true → ⊥) → not b ≡ true
no_feed true other = absurd (other refl)
no_feed false other = refl

-- The number of bytes before the first line feed, by a search for it.
pub first_feed : (text : List ℕ) (found : Option ℕ) → IsFirstByte (is_byte 10) text found → unwrap_or found (length text) ≡ prefix_len in_line text
first_feed text None nowhere =
    sym (prefix_len_is in_line text (length text) 0 (omega arith) (λ k below. no_feed (get_or text k 0 == 10) (nowhere k (omega arith) below)) (λ past. absurd (omega arith)))
first_feed text (Some k) first =
    sym (prefix_len_is in_line text k 0 (omega (arith, first.0.high)) (λ j below. no_feed (get_or text j 0 == 10) (first.0.before j (omega arith) below)) (λ inside. ap not first.1))
