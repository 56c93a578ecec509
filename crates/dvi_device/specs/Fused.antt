-- The state of a device that fails at a chosen call (own).
use Rattle.std.specs.Prelude.{ℕ, List}

-- The bytes that it took, in order; its capacity; the most bytes that it takes at each call; the call at which it fails, where 1 is the next one and
-- 0 is none; and the number of writes that failed.
pub record FuseState : Type 0 where
  pub bytes : List ℕ
  pub capacity : ℕ
  pub most : ℕ
  pub left : ℕ
  pub failures : ℕ
