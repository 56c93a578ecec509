-- The space that is taken by what is appended (own).
use Rattle.std.specs.Prelude.{◌≤◌, ◌<◌, ◌+◌, ℕ, Result, OnOk, OnErr, Vec, vec_len, vec_capacity}

-- At most so many items were appended, and the space has not shrunk. Memory was refused only where there was no space for so many.
pub record TakesSpace {X Z A E : Type 0} (most : ℕ) (old new : Vec X Z) (result : Result A E) : Type 0 where
  pub grown : vec_capacity old ≤ vec_capacity new
  pub short : OnOk result (vec_len new ≤ vec_len old + most)
  pub full : OnErr result (vec_capacity old < vec_len old + most)
