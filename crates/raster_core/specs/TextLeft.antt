-- The rest of a text that is given in pieces (own).
use Rattle.std.specs.Prelude.{◌-◌, ◌++◌, ℕ, Bool, if◌then◌else◌, List, []}
use Rattle.std.specs.List.{flat_map, range_with_len}
use Rattle.raster_core.specs.Words.{in_rows}
use Rattle.raster_core.specs.PlainText.{header_text, row_text}
use Rattle.raster_core.specs.declared.text.PbmText.{PbmText}

-- The digits of the rows from one on, from the top (own).
abbrev pub rows_from : (width height : ℕ) → (black : ℕ → ℕ → Bool) → (row : ℕ) → List ℕ
rows_from width height black row = flat_map (λ y. row_text width (λ x. black x y)) (range_with_len row (height - row))

-- The rest of the text of a bitmap: its header, if it was not given, and the digits of the rows that were not given (own).
abbrev pub pbm_text_left : PbmText → List ℕ
pbm_text_left t =
    (if t.begun then [] else header_text t.rows.width t.rows.height) ++ rows_from t.rows.width t.rows.height
    (in_rows t.rows.words.now t.rows.stride) t.done
