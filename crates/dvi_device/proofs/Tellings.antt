-- The bytes that a device reports, piece by piece.
use Rattle.std.proofs.Common.{◌≡◌, ℕ, ◌+◌, List, ◌++◌, take, drop, refl, ap, sym, ◌∙◌, append_assoc}
use Rattle.std.specs.Prelude.{Option, Some, None}
use Rattle.std.proofs.Math.Seq.{take-add}
use Rattle.dvi_device.specs.Written.{written_then}

pub grown-grown : (bytes_written : Option (List ℕ)) (a b : List ℕ) → written_then (written_then bytes_written a) b ≡ written_then bytes_written (a ++ b)
grown-grown None a b = refl
grown-grown (Some bytes_written) a b = ap Some (append_assoc bytes_written a b)

-- Another n bytes, from place s on.
pub grown_more : (bytes_written : Option (List ℕ)) (xs : List ℕ) (s n : ℕ) → written_then (written_then bytes_written (take s xs)) (take n (drop s xs)) ≡ written_then bytes_written (take (s + n) xs)
grown_more bytes_written xs s n = grown-grown bytes_written (take s xs) (take n (drop s xs)) ∙ ap (written_then bytes_written) (sym (take-add s n xs))
