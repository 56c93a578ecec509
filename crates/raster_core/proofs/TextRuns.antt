-- Texts that are built piece by piece.
use Rattle.std.proofs.Common.{◌≡◌, ℕ, zero, suc, ◌+◌, ◌*◌, ◌<◌, Bool, List, ◌++◌, length, refl, sym, ap, ◌∙◌, arith}
use Rattle.std.specs.List.{flat_map, range_with_len}
use Rattle.std.proofs.Math.Nat.{suc-mul}
use Rattle.std.proofs.lemmas.List.{append-nil, append_assoc}
use Rattle.raster_core.specs.Words.{in_rows}
use Rattle.raster_core.specs.PixelGrids.{PixelGrid, grid_of, is_black}
use Rattle.raster_core.specs.PlainText.{digit_text, ends_line, header_text, pbm, row_text, rows_text}
use Rattle.raster_core.proofs.DrawnPixels.{drawn_pixel}

flat_map_from : (f : ℕ → List ℕ) (a n : ℕ) → flat_map f (range_with_len a (suc n)) ≡ flat_map f (range_with_len a n) ++ f (a + n)
flat_map_from f a zero = append-nil (f a) ∙ ap f (omega arith)
flat_map_from f a (suc n) =
    ap (λ l. f a ++ l) (flat_map_from f (a + 1) n)
    ∙ (sym (append_assoc (f a) (flat_map f (range_with_len (a + 1) n)) (f (a + 1 + n))) ∙ ap (λ k. f a ++ flat_map f (range_with_len (a + 1) n) ++ f k) (omega arith))

-- One more piece.
flat_map_next : (f : ℕ → List ℕ) (n : ℕ) → flat_map f (range_with_len 0 (n + 1)) ≡ flat_map f (range_with_len 0 n) ++ f n
flat_map_next f n =
    let e : n + 1 ≡ suc n = omega arith in
    let z : 0 + n ≡ n = omega arith in
    ap (λ k. flat_map f (range_with_len 0 k)) e ∙ (flat_map_from f 0 n ∙ ap (λ k. flat_map f (range_with_len 0 n) ++ f k) z)

pub appended_more : (f : ℕ → List ℕ) (n : ℕ) (old mid new piece : List ℕ) → mid ≡ old ++ flat_map f (range_with_len 0 n) → new ≡ mid ++ piece → piece ≡ f n
    → new ≡ old ++ flat_map f (range_with_len 0 (n + 1))
appended_more f n old mid new piece a b c =
    b
    ∙ (ap (λ l. l ++ piece) a
    ∙ (append_assoc old (flat_map f (range_with_len 0 n)) piece
    ∙ ap (λ l. old ++ l) (ap (λ l. flat_map f (range_with_len 0 n) ++ l) c ∙ sym (flat_map_next f n))))

-- One more row adds its bytes.
pub row_more : (n size : ℕ) → (n + 1) * size ≡ n * size + size
row_more n size = let e : n + 1 ≡ suc n = omega arith in ap (λ k. k * size) e ∙ suc-mul n size

pub same_digit : (b c e f : Bool) → b ≡ c → e ≡ f → digit_text b e ≡ digit_text c f
same_digit b c e f p q = ap (λ x. digit_text x e) p ∙ ap (digit_text c) q

pub same_from : (f g : ℕ → List ℕ) (a n : ℕ) → ((k : ℕ) → k < a + n → f k ≡ g k) → flat_map f (range_with_len a n) ≡ flat_map g (range_with_len a n)
same_from f g a zero same = refl
same_from f g a (suc n) same =
    ap (λ l. l ++ flat_map f (range_with_len (a + 1) n)) (same a (omega arith)) ∙ ap (λ l. g a ++ l) (same_from f g (a + 1) n (λ k h. same k (omega arith)))

same_rows_text : (w h : ℕ) (f g : ℕ → ℕ → Bool) → ((x y : ℕ) → x < w → y < h → f x y ≡ g x y) → rows_text w h f ≡ rows_text w h g
unfolding rows_text row_text
same_rows_text w h f g same =
    same_from (λ y. flat_map (λ x. digit_text (f x y) (ends_line w x)) (range_with_len 0 w)) (λ y. flat_map (λ x. digit_text (g x y) (ends_line w x)) (range_with_len 0 w)) 0 h
    (λ y b. same_from (λ x. digit_text (f x y) (ends_line w x)) (λ x. digit_text (g x y) (ends_line w x)) 0 w
    (λ x a. ap (λ d. digit_text d (ends_line w x)) (same x y (omega arith) (omega arith))))

-- The text of a drawn grid.
pub pbm_drawn : (w h : ℕ) (f : ℕ → ℕ → Bool) → header_text w h ++ rows_text w h f ≡ pbm (grid_of w h f)
unfolding grid_of
pbm_drawn w h f =
    ap (λ l. header_text w h ++ l) (same_rows_text w h f (is_black (grid_of w h f)) (λ x y a b. sym (drawn_pixel w h f x y a b)))

pub text_is : (w h : ℕ) (words mask seen : List ℕ) (stride : ℕ) (p : PixelGrid) → seen ≡ words → stride ≡ length mask → grid_of w h (in_rows words (length mask)) ≡ p
    → header_text w h ++ rows_text w h (in_rows seen stride) ≡ pbm p
text_is w h words mask seen stride p a b c =
    ap (λ l. header_text w h ++ rows_text w h (in_rows l stride)) a
    ∙ (ap (λ n. header_text w h ++ rows_text w h (in_rows words n)) b
    ∙ (pbm_drawn w h (in_rows words (length mask)) ∙ ap pbm c))
