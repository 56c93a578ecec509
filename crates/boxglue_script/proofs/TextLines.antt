-- Lines of `text` and of `special`, whose text is unchanged.
use Rattle.std.proofs.Common.{◌≡◌, inl, inr, ⊎_elim, ℕ, ◌+◌, ◌<◌, ◌≤◌, zero, suc, Bool, true, false, List, [], ◌∷◌, ◌++◌, length, codes, take, drop, get_or, refl, ap, sym, subst, ◌∙◌, arith}
use Rattle.std.specs.Prelude.{replicate}
use Rattle.std.proofs.Math.Numerals.{one-add}
use Rattle.std.proofs.Math.Seq.{take-append_seam, drop-append_seam}
use Rattle.std.specs.List.{prefix_len}
use Rattle.std.proofs.lemmas.Bool.{eqb-true, cases_lt}
use Rattle.std.proofs.lemmas.List.{take-append-drop, drop_more, take_all, drop_all, append-nil}
use Rattle.std.proofs.lemmas.List.Sums.{passes_at_first}
use Rattle.boxglue_script.specs.ScriptLines.{is_space, fields_of, IsLineOf, IsTextLine, IsSpecialLine}
use Rattle.boxglue_script.specs.Private.Reading.{in_field, without_spaces, front_field, after_field, kept_text}
use Rattle.boxglue_script.proofs.FieldLemmas.{fields_first}

spaced_one : (byte : ℕ) (line : List ℕ) (b : Bool) → is_space byte ≡ b → line ≡ replicate (prefix_len is_space line) 32 ++ without_spaces line → byte ∷ line ≡ replicate (prefix_len is_space (byte ∷ line)) 32 ++ without_spaces (byte ∷ line)
spaced_one byte line true e more =
    let space : byte ≡ 32 = eqb-true byte 32 e in
    rw (e, one-add, space) (ap (λ (xs : List ℕ). 32 ∷ xs) more)
spaced_one byte line false e more = rw e refl

-- A line is its spaces and the rest.
spaced : (line : List ℕ) → line ≡ replicate (prefix_len is_space line) 32 ++ without_spaces line
spaced [] = refl
spaced (byte ∷ line) = spaced_one byte line (is_space byte) refl (spaced line)

after_one_space : (xs : List ℕ) (byte : ℕ) (rest : List ℕ) → is_space byte ≡ true → xs ≡ byte ∷ rest → xs ≡ 32 ∷ drop 1 xs
after_one_space xs byte rest space e = rw (e, eqb-true byte 32 space) refl

-- The text after a field that is this word: nothing if the word ends the line, otherwise all after one space.
said_from : (word t : List ℕ) (k n : ℕ) → n ≡ prefix_len in_field t → take n t ≡ word → IsLineOf word (replicate k 32 ++ t) (drop 1 (drop n t))
said_from word t k n e front = ⊎_elim
    (λ (inside : n < length t).
    let space : is_space (get_or t n 0) ≡ true = rw e (passes_at_first is_space t 0 (rw (← e) inside)) in
    let text = after_one_space (drop n t) (get_or t n 0) (drop (n + 1) t) space (drop_more t n 0 inside) in
    let all : t ≡ word ++ 32 ∷ drop 1 (drop n t) = sym (take-append-drop n t) ∙ ap (λ (xs : List ℕ). xs ++ drop n t) front ∙ ap (λ (xs : List ℕ). word ++ xs) text in
    (k, inr (ap (λ (xs : List ℕ). replicate k 32 ++ xs) all)))
    (λ (past : length t ≤ n).
    let nothing : drop n t ≡ [] = drop_all n t past in
    let all : t ≡ word = sym (take-append-drop n t) ∙ (rw (front, nothing) (append-nil word)) in
    (k, inl (ap (λ (xs : List ℕ). replicate k 32 ++ xs) all, ap (drop 1) nothing)))
    (cases_lt n (length t))

-- A line whose first field is this word is a line of the word and of the text that is kept.
pub word_said : (word line : List ℕ) → front_field line ≡ word → IsLineOf word line (kept_text line)
unfolding front_field after_field
word_said word line h =
    let P : List ℕ → Type 0 = λ x. IsLineOf word x (drop 1 (drop (prefix_len in_field (without_spaces line)) (without_spaces line))) in
    subst P (sym (spaced line)) (said_from word (without_spaces line) (prefix_len is_space line) (prefix_len in_field (without_spaces line)) refl h)

-- The spaces before a byte that is not a space.
unspaced : (n byte : ℕ) (rest : List ℕ) → is_space byte ≡ false → without_spaces (replicate n 32 ++ byte ∷ rest) ≡ byte ∷ rest
unspaced zero byte rest e = rw e refl
unspaced (suc n) byte rest e = rw one-add (unspaced n byte rest e)

-- What is read of a line: its first field and the text that is kept.
pub record IsRead (line word text : List ℕ) : Type 0 where
  pub front : front_field line ≡ word
  pub kept : kept_text line ≡ text

-- A word that a line may begin with, by its first byte and the others: its bytes are no spaces.
pub record IsFirstWord (byte : ℕ) (more : List ℕ) : Type 0 where
  pub starts : is_space byte ≡ false
  pub alone : prefix_len in_field (byte ∷ more) ≡ length (byte ∷ more)
  pub followed : (text : List ℕ) → prefix_len in_field (byte ∷ more ++ 32 ∷ text) ≡ length (byte ∷ more)

-- A line of a word and a text is read as such.
word_read : (byte : ℕ) (more line text : List ℕ) → IsFirstWord byte more → IsLineOf (byte ∷ more) line text → IsRead line (byte ∷ more) text
unfolding front_field after_field
word_read byte more line text is (n, said) = ⊎_elim
    (λ (alone : (line ≡ replicate n 32 ++ byte ∷ more) × (text ≡ [])). record {
      front = rw (alone.0, unspaced n byte more is.starts, is.alone) (take_all (length (byte ∷ more)) (byte ∷ more) (omega arith));
      kept = rw (alone.0, alone.1, unspaced n byte more is.starts, is.alone) (ap (drop 1) (drop_all (length (byte ∷ more)) (byte ∷ more) (omega arith)));
    })
    (λ (followed : line ≡ replicate n 32 ++ (byte ∷ more ++ 32 ∷ text)). record {
      front = rw (followed, unspaced n byte (more ++ 32 ∷ text) is.starts, is.followed text) (take-append_seam (byte ∷ more) (32 ∷ text));
      kept = rw (followed, unspaced n byte (more ++ 32 ∷ text) is.starts, is.followed text) (ap (drop 1) (drop-append_seam (byte ∷ more) (32 ∷ text)));
    })
    said

pub text_read : (line text : List ℕ) → IsTextLine line text → IsRead line (codes "text") text
text_read line text said = word_read 116 (codes "ext") line text (record { starts = refl; alone = refl; followed = λ text. refl }) said

pub special_read : (line text : List ℕ) → IsSpecialLine line text → IsRead line (codes "special") text
special_read line text said = word_read 115 (codes "pecial") line text (record { starts = refl; alone = refl; followed = λ text. refl }) said

-- The fields of a line whose first one is not empty.
pub first_is : (byte : ℕ) (word line : List ℕ) → front_field line ≡ byte ∷ word → fields_of line ≡ (byte ∷ word) ∷ fields_of (after_field line)
first_is byte word line h = fields_first line (rw h (omega arith)) ∙ (rw h refl)
