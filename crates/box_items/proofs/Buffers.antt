-- Items that are written into a buffer, one after the other.
use Rattle.std.proofs.Common.{◌≡◌, ◌∙◌, ℕ, ◌+◌, ◌<◌, ◌≤◌, List, [], ◌∷◌, ◌++◌, length, take, drop, set, refl, ap, sym, arith, append_assoc, length-set}
use Rattle.std.proofs.lemmas.List.{drop-set-lt, take-append-drop, take_more_set}
use Rattle.box_items.specs.Private.Written.{put_from}

module _ {A : Type 0} where
  -- First some items, and then others after them.
  pub put_more : (buffer : List A) (at : ℕ) (xs ys : List A) → put_from (put_from buffer at xs) (at + length xs) ys ≡ put_from buffer at (xs ++ ys)
  put_more buffer at [] ys = ap (λ (n : ℕ). put_from buffer n ys) (omega arith)
  put_more buffer at (x ∷ xs) ys =
      let same : at + length (x ∷ xs) ≡ at + 1 + length xs = omega arith in
      ap (λ (n : ℕ). put_from (put_from (set buffer at x) (at + 1) xs) n ys) same ∙ put_more (set buffer at x) (at + 1) xs ys

  -- The buffer keeps its length.
  pub length-put : (buffer : List A) (at : ℕ) (xs : List A) → length (put_from buffer at xs) ≡ length buffer
  length-put buffer at [] = refl
  length-put buffer at (x ∷ xs) = length-put (set buffer at x) (at + 1) xs ∙ length-set buffer at x

  -- What the buffer is, if it has space for the items.
  pub put_is : (buffer : List A) (at : ℕ) (xs : List A) → at + length xs ≤ length buffer
      → put_from buffer at xs ≡ take at buffer ++ (xs ++ drop (at + length xs) buffer)
  put_is buffer at [] space = sym (take-append-drop at buffer) ∙ ap (λ (n : ℕ). take at buffer ++ drop n buffer) (omega arith)
  put_is buffer at (x ∷ xs) space =
      let within : at < length buffer = omega arith in
      let size = length-set buffer at x in
      let after : at + 1 + length xs ≤ length (set buffer at x) = omega arith in
      let front : take (at + 1) (set buffer at x) ≡ take at buffer ++ x ∷ [] = take_more_set buffer at x within in
      let back : drop (at + 1 + length xs) (set buffer at x) ≡ drop (at + 1 + length xs) buffer = drop-set-lt (at + 1 + length xs) buffer at x (omega arith) in
      let same : at + 1 + length xs ≡ at + length (x ∷ xs) = omega arith in
      put_is (set buffer at x) (at + 1) xs after
      ∙ (ap (λ (f : List A). f ++ (xs ++ drop (at + 1 + length xs) (set buffer at x))) front
      ∙ (append_assoc (take at buffer) (x ∷ []) (xs ++ drop (at + 1 + length xs) (set buffer at x))
      ∙ (ap (λ (d : List A). take at buffer ++ (x ∷ (xs ++ d))) back
      ∙ ap (λ (n : ℕ). take at buffer ++ (x ∷ (xs ++ drop n buffer))) same)))

  -- An item is written, then others, and then others again.
  pub put_three :
      (buffer first second : List A) (n m k : ℕ) (x : A) (inside rest all : List A) → first ≡ put_from buffer n (x ∷ []) → m ≡ n + 1
      → second ≡ put_from first m inside → k ≡ m + length inside → all ≡ (x ∷ inside) ++ rest → put_from second k rest ≡ put_from buffer n all
  put_three buffer first second n m k x inside rest all first_is m_is second_is k_is all_is =
      ap (λ (b : List A). put_from b k rest) second_is
      ∙ (ap (λ (q : ℕ). put_from (put_from first m inside) q rest) k_is
      ∙ (put_more first m inside rest
      ∙ (ap (λ (b : List A). put_from b m (inside ++ rest)) first_is
      ∙ (ap (λ (q : ℕ). put_from (put_from buffer n (x ∷ [])) q (inside ++ rest)) m_is
      ∙ (put_more buffer n (x ∷ []) (inside ++ rest) ∙ ap (put_from buffer n) (sym all_is))))))

  -- Items are written, and then others.
  pub put_two :
      (buffer first : List A) (n k : ℕ) (inside rest all : List A) → first ≡ put_from buffer n inside → k ≡ n + length inside → all ≡ inside ++ rest
      → put_from first k rest ≡ put_from buffer n all
  put_two buffer first n k inside rest all first_is k_is all_is =
      ap (λ (b : List A). put_from b k rest) first_is
      ∙ (ap (λ (q : ℕ). put_from (put_from buffer n inside) q rest) k_is ∙ (put_more buffer n inside rest ∙ ap (put_from buffer n) (sym all_is)))

  -- Items at the front of a buffer.
  pub put_front : (buffer xs : List A) → length xs ≤ length buffer → put_from buffer 0 xs ≡ xs ++ drop (length xs) buffer
  put_front buffer xs space =
      let same : 0 + length xs ≡ length xs = omega arith in
      let within : 0 + length xs ≤ length buffer = omega arith in
      put_is buffer 0 xs within ∙ ap (λ (n : ℕ). xs ++ drop n buffer) same
