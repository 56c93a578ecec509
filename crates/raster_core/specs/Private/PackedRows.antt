-- The pixels of words, up to the last column (own).
use Rattle.std.specs.Prelude.{◌&&◌, ℕ, Bool, nat_lt}

-- Whether the pixel of column x and row y is black, where no column from the width on is (own).
abbrev pub pixel : (width : ℕ) → (black : ℕ → ℕ → Bool) → (y x : ℕ) → Bool
pixel width black y x = nat_lt x width && black x y
