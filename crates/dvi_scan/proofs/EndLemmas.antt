-- The end of a file is unique, and each frame has it.
use Rattle.std.proofs.Common.{◌≡◌, ◌≤◌, ◌<◌, ◌+◌, ◌-◌, ◌++◌, [], ◌∷◌, List, ℕ, pos, length, take, drop, replicate, slice_index, inl, inr, refl, sym, ◌∙◌, ap, subst, append_assoc, length-append, arith}
use Rattle.std.proofs.Math.Seq.{get_or-append_seam, get_or-append_right}
use Rattle.std.proofs.lemmas.Bool.{cases_lt}
use Rattle.std.proofs.lemmas.List.{drop_at, take_at, get_or-replicate, length-replicate}
use Rattle.dvi_ops.specs.Instruction.{Postamble, Post}
use Rattle.dvi_ops.specs.Table.{Spells, SpellsSigned, signed}
use Rattle.dvi_ops.specs.Tokens.{token_bytes}
use Rattle.dvi_ops.specs.File.{Frame}
use Rattle.dvi_scan.specs.Ends.{IsSpelledAt, IsTrailed, HasPostamble}
use Rattle.dvi_scan.proofs.ChainLemmas.{says_front}
use Rattle.dvi_scan.proofs.PlaceLemmas.{one_spelled_at}

-- The last byte before the bytes 223 is at one place.
pub one_trail : (bytes : List ℕ) (e f : ℕ) → IsTrailed bytes e → IsTrailed bytes f → e ≡ f
one_trail bytes e f s t = elim (cases_lt e f) [
  | inl below ↦ (let padded = t.padded in absurd (t.last (s.after f below (omega arith))))
  | inr above ↦ elim (cases_lt f e) [
    | inl below ↦ (let padded = s.padded in absurd (s.last (t.after e below (omega arith))))
    | inr same ↦ omega arith
  ]
]

-- So the end is unique, and it names one post.
pub one_end : (bytes : List ℕ) (post e post' e' : ℕ) (postamble postamble' : Postamble) → HasPostamble bytes post e postamble
    → HasPostamble bytes post' e' postamble' → (e ≡ e') × (post ≡ post') × (postamble ≡ postamble')
one_end bytes post e post' e' postamble postamble' s t =
    let last : e ≡ e' = one_trail bytes e e' s.closed.trailed t.closed.trailed in
    let named : pos post ≡ pos post' = sym s.named ∙ (ap (λ (n : ℕ). signed 4 (drop (n - 4) bytes)) last ∙ t.named) in
    let places : post ≡ post' = cc in
    let spelled_at = subst (λ (place : ℕ). IsSpelledAt bytes place (e' - 5) (Post postamble')) (sym places) t.spelled_at in
    let same : Post postamble ≡ Post postamble' =
    one_spelled_at bytes post (e - 5) (e' - 5) (Post postamble) (Post postamble') s.spelled_at spelled_at in
    (last, places, cc)

-- The end of bytes with these parts.
module _ (front post tail operand : List ℕ) (padding : ℕ) (postamble : Postamble)
    (padded : 4 ≤ padding) (spelled : Spells (Post postamble) post) (says : SpellsSigned (pos (length front)) operand) where
  pub bytes : List ℕ
  bytes = front ++ (post ++ (tail ++ (249 ∷ (operand ++ (2 ∷ replicate padding 223)))))

  pub before : List ℕ
  before = front ++ (post ++ tail)

  upto : bytes ≡ before ++ (249 ∷ (operand ++ (2 ∷ replicate padding 223)))
  unfolding bytes before
  upto = simp append_assoc

  upto_version : bytes ≡ (before ++ (249 ∷ operand)) ++ (2 ∷ replicate padding 223)
  upto_version = upto ∙ sym (append_assoc before (249 ∷ operand) (2 ∷ replicate padding 223))

  upto_operand : bytes ≡ (before ++ (249 ∷ [])) ++ (operand ++ (2 ∷ replicate padding 223))
  upto_operand = upto ∙ sym (append_assoc before (249 ∷ []) (operand ++ (2 ∷ replicate padding 223)))

  pub e : ℕ
  e = length before + 5

  size_before : length (before ++ (249 ∷ operand)) ≡ e
  unfolding e
  size_before = omega (arith, length-append before (249 ∷ operand), says.0)

  whole : length bytes ≡ e + 1 + padding
  whole = ap (λ (x : List ℕ). length x) upto_version ∙ omega (arith, length-append (before ++ (249 ∷ operand)) (2 ∷ replicate padding 223), size_before, length-replicate {A = ℕ} padding 223)

  version : slice_index bytes e ≡ 2
  version = ap (λ (x : List ℕ). slice_index x e) upto_version ∙ subst (λ (n : ℕ). slice_index ((before ++ (249 ∷ operand)) ++ (2 ∷ replicate padding 223)) n ≡ 2) size_before (get_or-append_seam (before ++ (249 ∷ operand)) 2 (replicate padding 223) 0)

  trailed : IsTrailed bytes e
  unfolding e
  trailed =
      record {
        space = (let five : e ≡ length before + 5 = size_e in omega arith);
        padded = (let size = whole in omega arith);
        after = λ k above below. is_223 k above (let size = whole in omega arith);
        last = λ same. (let two = version in differ _ _ two same refl);
      }
    where
      size_e : e ≡ length before + 5
      size_e = refl

      differ : (x y : ℕ) → x ≡ 2 → y ≡ 223 → x ≡ y → ⊥
      differ x y two more same = omega arith

      is_223 : (k : ℕ) → e < k → k < e + 1 + padding → slice_index bytes k ≡ 223
      is_223 k above below =
          let size : length ((before ++ (249 ∷ operand)) ++ 2 ∷ []) ≡ e + 1 = length-append (before ++ (249 ∷ operand)) (2 ∷ []) ∙ omega (arith, size_before) in
          ap (λ (x : List ℕ). slice_index x k) (upto_version ∙ sym (append_assoc (before ++ (249 ∷ operand)) (2 ∷ []) (replicate padding 223)))
          ∙ (get_or-append_right ((before ++ (249 ∷ operand)) ++ 2 ∷ []) (replicate padding 223) k 0 (omega arith)
          ∙ get_or-replicate padding (k - length ((before ++ (249 ∷ operand)) ++ 2 ∷ [])) 223 0 (omega arith))

  pub ends : HasPostamble bytes (length front) e postamble
  unfolding e bytes before
  ends =
      record {
        closed = record { trailed = trailed; version = version; opcode = opcode };
        named = ap (λ (x : List ℕ). signed 4 x) operand_there ∙ says_front (pos (length front)) operand (2 ∷ replicate padding 223) says;
        spelled_at = (length post, space, subst (λ (x : List ℕ). Spells (Post postamble) x) (sym post_there) spelled);
      }
    where
      size_e : e - 5 ≡ length before
      size_e = omega arith

      size_operand : length (before ++ (249 ∷ [])) ≡ e - 4
      size_operand = length-append before (249 ∷ []) ∙ omega arith

      opcode : slice_index bytes (e - 5) ≡ 249
      opcode = ap (λ (x : List ℕ). slice_index x (e - 5)) upto ∙ (ap (λ (n : ℕ). slice_index (before ++ (249 ∷ (operand ++ (2 ∷ replicate padding 223)))) n) size_e ∙ get_or-append_seam before 249 (operand ++ (2 ∷ replicate padding 223)) 0)

      operand_there : drop (e - 4) bytes ≡ operand ++ (2 ∷ replicate padding 223)
      operand_there = ap (λ (x : List ℕ). drop (e - 4) x) upto_operand ∙ drop_at (before ++ (249 ∷ [])) (operand ++ (2 ∷ replicate padding 223)) (e - 4) size_operand

      post_there : take (length post) (drop (length front) bytes) ≡ post
      post_there = ap (λ (x : List ℕ). take (length post) x) (drop_at front (post ++ (tail ++ (249 ∷ (operand ++ (2 ∷ replicate padding 223))))) (length front) refl)
          ∙ take_at post (tail ++ (249 ∷ (operand ++ (2 ∷ replicate padding 223)))) (length post) refl

      space : length front + length post ≤ e - 5
      space = let size = size_e in omega (arith, length-append front (post ++ tail), length-append post tail)

-- The end of a frame.
pub frame_ends : (bytes : List ℕ) (f : Frame bytes) → (last : ℕ) × HasPostamble bytes (length (token_bytes f.front)) last f.postamble
unfolding bytes
frame_ends all f =
    let (operand, spelled, says) = f.ending_spelled in
    let same : all ≡ bytes (token_bytes f.front) f.post (token_bytes f.tail) operand f.padding f.postamble f.padded f.post_spelled says =
    f.whole ∙ ap (λ (x : List ℕ). token_bytes f.front ++ (f.post ++ (token_bytes f.tail ++ x))) (ap (λ (x : List ℕ). x ++ replicate f.padding 223) spelled ∙ ap (λ (x : List ℕ). 249 ∷ x) (append_assoc operand (2 ∷ []) (replicate f.padding 223))) in
    let last = e (token_bytes f.front) f.post (token_bytes f.tail) operand f.padding f.postamble f.padded f.post_spelled says in (
      last,
      subst (λ (x : List ℕ). HasPostamble x (length (token_bytes f.front)) last f.postamble) (sym same)
          (ends (token_bytes f.front) f.post (token_bytes f.tail) operand f.padding f.postamble f.padded f.post_spelled says),
    )

-- The place of the version of a frame.
pub frame_last : (bytes : List ℕ) (f : Frame bytes) → (frame_ends bytes f).0 ≡ length (token_bytes f.front) + (length f.post + length (token_bytes f.tail)) + 5
unfolding frame_ends e before
frame_last bytes f = let size = length-append (token_bytes f.front) (f.post ++ token_bytes f.tail) in let rest = length-append f.post (token_bytes f.tail) in omega arith
