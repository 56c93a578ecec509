-- Pixels as bytes.
use Rattle.std.proofs.Common.{◌≡◌, ℕ, ◌+◌, ◌*◌, ◌/◌, ◌<◌, ◌≤◌, ◌++◌, ◌∷◌, [], ◌&&◌, Bool, List, length, map, sym, ap, ◌∙◌, arith, ⊎_elim}
use Rattle.std.specs.List.{range_with_len}
use Rattle.std.proofs.Math.Path.{fun_ext}
use Rattle.std.proofs.lemmas.Bool.{cases_lt, lt-ltb, le-ltb}
use Rattle.std.proofs.lemmas.List.{append_assoc}
use Rattle.std.proofs.lemmas.List.FromFn.{map-range_with_len_more}
use Rattle.std.proofs.lemmas.Nat.{row_fits}
use Rattle.raster_core.specs.PackedRows.{packed_byte, packed_row, packed_rows, pixel_bytes}
use Rattle.raster_core.specs.PixelGrids.{PixelGrid, grid_of, is_black}
use Rattle.raster_core.specs.Private.PackedRows.{pixel}
use Rattle.raster_core.specs.Words.{in_rows}
use Rattle.raster_core.proofs.DrawnPixels.{drawn_pixel, drawn_right}
use Rattle.raster_core.proofs.TextRuns.{same_from}

-- The word of a pixel is one of the words of the rows.
pub pixel_word : (x y w h s n : ℕ) → x < w → y < h → w ≤ 64 * s → h * s ≤ n → y * s + x / 64 < n
pixel_word x y w h s n a b c d =
    let column : x / 64 < s = omega arith in
    let fits : y * s + s ≤ h * s = row_fits y s h s b (omega arith) in
    omega arith

-- A row with one more byte.
pub more_bytes : (black : ℕ → Bool) (k : ℕ) (old mid new : List ℕ) (byte : ℕ) → mid ≡ old ++ map (λ i. packed_byte black (8 * i)) (range_with_len 0 k)
    → new ≡ mid ++ byte ∷ [] → byte ≡ packed_byte black (8 * k) → new ≡ old ++ map (λ i. packed_byte black (8 * i)) (range_with_len 0 (k + 1))
more_bytes black k old mid new byte before pushed is =
    let front : List ℕ = map (λ i. packed_byte black (8 * i)) (range_with_len 0 k) in
    pushed
    ∙ (ap (λ (l : List ℕ). l ++ byte ∷ []) before
    ∙ (append_assoc old front (byte ∷ [])
    ∙ ap (λ (l : List ℕ). old ++ l) (ap (λ (b : ℕ). front ++ b ∷ []) is
    ∙ sym (map-range_with_len_more (λ i. packed_byte black (8 * i)) 0 k k (omega arith)))))

-- A pixel in a row of a drawn grid; after the last column none is black.
drawn_in_row : (w h : ℕ) (f : ℕ → ℕ → Bool) (y : ℕ) → y < h → (x : ℕ) → pixel w f y x ≡ is_black (grid_of w h f) x y
drawn_in_row w h f y below x =
    ⊎_elim (λ (within : x < w). ap (λ (b : Bool). b && f x y) (lt-ltb x w within) ∙ sym (drawn_pixel w h f x y within below))
    (λ (past : w ≤ x). ap (λ (b : Bool). b && f x y) (le-ltb x w past) ∙ sym (drawn_right w h f x y past))
    (cases_lt x w)

-- The bytes of a drawn grid.
packed_drawn : (w h : ℕ) (f : ℕ → ℕ → Bool) → packed_rows w h (λ x y. pixel w f y x) ≡ pixel_bytes (grid_of w h f)
unfolding packed_rows grid_of
packed_drawn w h f =
    same_from (λ y. packed_row w (pixel w f y)) (λ y. packed_row w (λ x. is_black (grid_of w h f) x y)) 0 h
    (λ y below. ap (packed_row w) (fun_ext (drawn_in_row w h f y (omega arith))))

pub packed_is : (w h : ℕ) (words mask seen : List ℕ) (stride : ℕ) (p : PixelGrid) → seen ≡ words → stride ≡ length mask
    → grid_of w h (in_rows words (length mask)) ≡ p → packed_rows w h (λ x y. pixel w (in_rows seen stride) y x) ≡ pixel_bytes p
packed_is w h words mask seen stride p a b c =
    ap (λ (l : List ℕ). packed_rows w h (λ x y. pixel w (in_rows l stride) y x)) a
    ∙ (ap (λ (n : ℕ). packed_rows w h (λ x y. pixel w (in_rows words n) y x)) b
    ∙ (packed_drawn w h (in_rows words (length mask)) ∙ ap pixel_bytes c))
