-- The state of a device in memory (own).
use Rattle.std.specs.Prelude.{[], ℕ, List}

-- The bytes that it took, in order; its capacity; and the number of writes that failed.
pub record MemoryState : Type 0 where
  pub bytes : List ℕ
  pub capacity : ℕ
  pub failures : ℕ

-- A device in memory that is new.
abbrev pub new_memory : MemoryState
new_memory = record { bytes = []; capacity = 0; failures = 0 }
