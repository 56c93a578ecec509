-- Grids by their pixels.
use Rattle.std.proofs.Common.{◌≡◌, ◌==◌, ℕ, ◌+◌, ◌*◌, ◌/◌, ◌%◌, ◌<◌, ◌≤◌, Bool, true, false, ◌||◌, List, [], length, get_or, map, replicate, sym, ap, ◌∙◌, arith, inl, inr, ◌⊎◌}
use Rattle.std.proofs.lemmas.Bool.{cases_lt}
use Rattle.std.proofs.lemmas.List.{get_or-replicate, length-replicate, get_or_past}
use Rattle.std.proofs.lemmas.Nat.Bits.{bit_at-zero}
use Rattle.std.specs.List.{range_with_len}
use Rattle.std.proofs.lemmas.List.FromFn.{fill_by_all, length-map-range_with_len, get_or-map-range_with_len}
use Rattle.raster_core.specs.Words.{AreFull, in_rows, is_set}
use Rattle.dvi_scan.specs.View.{mark_of}
use Rattle.dvi_scan.specs.declared.page.Mark.{Mark as PassMark}
use Rattle.raster_core.specs.Pixels.{Scale, is_covered}
use Rattle.raster_core.specs.PixelGrids.{PixelGrid, grid_of, is_black, painted_grid, white}

-- A row of a grid of pixels.
abbrev pub row_of : (width : ℕ) → (black : ℕ → ℕ → Bool) → ℕ → List Bool
row_of width black y = map (λ x. black x y) (range_with_len 0 width)

same_row : (w : ℕ) (f g : ℕ → ℕ → Bool) (y : ℕ) → ((x : ℕ) → x < w → f x y ≡ g x y) → row_of w f y ≡ row_of w g y
same_row w f g y same =
    fill_by_all (λ x. g x y) (row_of w f y) w false (length-map-range_with_len (λ x. f x y) 0 w)
    (λ k h. get_or-map-range_with_len (λ x. f x y) 0 w k k false h (omega arith) ∙ same k h)

same_rows : (w h : ℕ) (f g : ℕ → ℕ → Bool) → ((x y : ℕ) → x < w → y < h → f x y ≡ g x y) → map (row_of w f) (range_with_len 0 h) ≡ map (row_of w g) (range_with_len 0 h)
same_rows w h f g same =
    fill_by_all (row_of w g) (map (row_of w f) (range_with_len 0 h)) h [] (length-map-range_with_len (row_of w f) 0 h)
    (λ k l. get_or-map-range_with_len (row_of w f) 0 h k k [] l (omega arith) ∙ same_row w f g k (λ x j. same x k j l))

-- Grids with equal pixels are equal.
pub same_drawn : (w h : ℕ) (f g : ℕ → ℕ → Bool) → ((x y : ℕ) → x < w → y < h → f x y ≡ g x y) → grid_of w h f ≡ grid_of w h g
unfolding grid_of
same_drawn w h f g same =
    let P : List (List Bool) → PixelGrid = λ rows. record { width = w; height = h; rows = rows } in
    ap P (same_rows w h f g same)

pub drawn_pixel : (w h : ℕ) (f : ℕ → ℕ → Bool) (x y : ℕ) → x < w → y < h → is_black (grid_of w h f) x y ≡ f x y
unfolding grid_of is_black
drawn_pixel w h f x y within below =
    ap (λ row. get_or row x false) (get_or-map-range_with_len (row_of w f) 0 h y y [] below (omega arith))
    ∙ get_or-map-range_with_len (λ z. f z y) 0 w x x false within (omega arith)

pub painted_is : (w h : ℕ) (old new : List ℕ) (n : ℕ) (black : ℕ → ℕ → Bool) → ((x y : ℕ) → x < w → y < h → in_rows new n x y ≡ (in_rows old n x y || black x y))
    → grid_of w h (in_rows new n) ≡ painted_grid black (grid_of w h (in_rows old n))
unfolding grid_of
painted_is w h old new n black step =
    same_drawn w h (in_rows new n) (λ x y. is_black (grid_of w h (in_rows old n)) x y || black x y)
    (λ x y a b. step x y a b ∙ ap (λ p. p || black x y) (sym (drawn_pixel w h (in_rows old n) x y a b)))

-- The pixels of a bitmap after its marks were painted, where its lists of words are those of the code.
pub repainted : (w h : ℕ) (words mask old before new after new_words new_mask : List ℕ) (s t : Scale) (marks seen : List PassMark)
    → new_words ≡ new → new_mask ≡ after → length after ≡ length before → old ≡ words → before ≡ mask → s ≡ t → seen ≡ marks
    → ((x y : ℕ) → x < w → y < h → in_rows new (length before) x y ≡ (in_rows old (length before) x y || is_covered s (map mark_of seen) x y))
    → grid_of w h (in_rows new_words (length new_mask)) ≡ painted_grid (is_covered t (map mark_of marks)) (grid_of w h (in_rows words (length mask)))
repainted w h words mask old before new after new_words new_mask s t marks seen a b c d e f g step =
    ap (λ l. grid_of w h (in_rows l (length new_mask))) a
    ∙ (ap (λ n. grid_of w h (in_rows new n)) (ap length b ∙ c)
    ∙ (painted_is w h old new (length before) (is_covered s (map mark_of seen)) step
    ∙ (ap (λ l. painted_grid (is_covered s (map mark_of seen)) (grid_of w h (in_rows l (length before)))) d
    ∙ (ap (λ l. painted_grid (is_covered s (map mark_of seen)) (grid_of w h (in_rows words (length l)))) e
    ∙ (ap (λ u. painted_grid (is_covered u (map mark_of seen)) (grid_of w h (in_rows words (length mask)))) f
    ∙ ap (λ l. painted_grid (is_covered t (map mark_of l)) (grid_of w h (in_rows words (length mask)))) g)))))

abbrev zeros : ℕ → List ℕ
zeros n = replicate n 0

no_word : (n i : ℕ) → get_or (zeros n) i 0 ≡ 0
no_word n i = go (cases_lt i n)
  where
    go : (i < n) ⊎ (n ≤ i) → get_or (zeros n) i 0 ≡ 0
    go (inl h) = get_or-replicate n i 0 0 h
    go (inr h) = let l = length-replicate {A = ℕ} n 0 in get_or_past (zeros n) i 0 (omega (arith, l))

-- Where all bits are 0, no word is marked as black.
pub none_full : (n stride : ℕ) (full words : List ℕ) → full ≡ zeros n → AreFull full words stride
unfolding in_rows
none_full n stride full words cleared x y h is =
    let white : is_set (get_or full (y * 3 + x / 64 / 64) 0) (x / 64 % 64) ≡ false =
    ap (λ l. is_set (get_or l (y * 3 + x / 64 / 64) 0) (x / 64 % 64)) cleared
    ∙ (ap (λ k. is_set k (x / 64 % 64)) (no_word n (y * 3 + x / 64 / 64)) ∙ ap (λ bit. bit == 1) (bit_at-zero (x / 64 % 64))) in
    let both : true ≡ false = sym is ∙ white in absurd cc

-- Words that are 0 show a white grid.
pub white_is : (w h n stride : ℕ) (words : List ℕ) → words ≡ zeros n → grid_of w h (in_rows words stride) ≡ white w h
unfolding in_rows
white_is w h n stride words cleared =
    same_drawn w h (in_rows words stride) (λ x y. false)
    (λ x y a b.
    ap (λ l. is_set (get_or l (y * stride + x / 64) 0) (x % 64)) cleared
    ∙ (ap (λ k. is_set k (x % 64)) (no_word n (y * stride + x / 64)) ∙ ap (λ bit. bit == 1) (bit_at-zero (x % 64))))

pub drawn_right : (w h : ℕ) (f : ℕ → ℕ → Bool) (x y : ℕ) → w ≤ x → is_black (grid_of w h f) x y ≡ false
unfolding grid_of is_black
drawn_right w h f x y past = go (cases_lt y h)
  where
    go : (y < h) ⊎ (h ≤ y) → get_or (get_or (map (row_of w f) (range_with_len 0 h)) y []) x false ≡ false
    go (inl b) =
        let n = length-map-range_with_len (λ z. f z y) 0 w in
        ap (λ row. get_or row x false) (get_or-map-range_with_len (row_of w f) 0 h y y [] b (omega arith)) ∙ get_or_past (row_of w f y) x false (omega (arith, n))
    go (inr b) =
        let n = length-map-range_with_len (row_of w f) 0 h in
        ap (λ row. get_or row x false) (get_or_past (map (row_of w f) (range_with_len 0 h)) y [] (omega (arith, n)))

pub drawn_below : (w h : ℕ) (f : ℕ → ℕ → Bool) (x y : ℕ) → h ≤ y → is_black (grid_of w h f) x y ≡ false
unfolding grid_of is_black
drawn_below w h f x y b =
    let n = length-map-range_with_len (row_of w f) 0 h in
    ap (λ row. get_or row x false) (get_or_past (map (row_of w f) (range_with_len 0 h)) y [] (omega (arith, n)))
