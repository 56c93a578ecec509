-- The rest of a text that is given in pieces.
use Rattle.std.proofs.Common.{◌≡◌, ℕ, suc, ◌+◌, ◌-◌, ◌<◌, ◌≤◌, Bool, true, if◌then◌else◌, List, ◌++◌, [], sym, ap, ◌∙◌, arith}
use Rattle.std.specs.List.{flat_map, range_with_len}
use Rattle.std.proofs.lemmas.List.{append_assoc}
use Rattle.raster_core.specs.PlainText.{row_text, rows_text}
use Rattle.raster_core.specs.TextLeft.{rows_from}

-- The next row comes before those after it.
pub next_row : (w h : ℕ) (black : ℕ → ℕ → Bool) (row : ℕ) → row < h → rows_from w h black row ≡ row_text w (λ x. black x row) ++ rows_from w h black (row + 1)
next_row w h black row below =
    let e : h - row ≡ suc (h - (row + 1)) = omega (arith, below) in
    ap (λ n. flat_map (λ y. row_text w (λ x. black x y)) (range_with_len row n)) e

-- After the last row nothing is left.
pub no_rows : (w h : ℕ) (black : ℕ → ℕ → Bool) (row : ℕ) → h ≤ row → rows_from w h black row ≡ []
no_rows w h black row all =
    let e : h - row ≡ 0 = omega (arith, all) in
    ap (λ n. flat_map (λ y. row_text w (λ x. black x y)) (range_with_len row n)) e

-- A row that was appended is no longer in the rest.
pub row_moved : (w h : ℕ) (black : ℕ → ℕ → Bool) (row : ℕ) (old new whole : List ℕ) → row < h → new ≡ old ++ row_text w (λ x. black x row)
    → old ++ rows_from w h black row ≡ whole → new ++ rows_from w h black (row + 1) ≡ whole
row_moved w h black row old new whole below is same =
    ap (λ l. l ++ rows_from w h black (row + 1)) is
    ∙ (append_assoc old (row_text w (λ x. black x row)) (rows_from w h black (row + 1)) ∙ (ap (λ l. old ++ l) (sym (next_row w h black row below)) ∙ same))

-- At first the rest has all rows.
pub all_rows : (w h : ℕ) (black : ℕ → ℕ → Bool) → rows_from w h black 0 ≡ rows_text w h black
unfolding rows_text
all_rows w h black =
    let e : h - 0 ≡ h = omega arith in
    ap (λ n. flat_map (λ y. row_text w (λ x. black x y)) (range_with_len 0 n)) e

-- The rest has no header where it was given.
pub after_header : (begun : Bool) (header rest : List ℕ) → begun ≡ true → (if begun then [] else header) ++ rest ≡ rest
after_header begun header rest e = ap (λ (b : Bool). (if b then [] else header) ++ rest) e
