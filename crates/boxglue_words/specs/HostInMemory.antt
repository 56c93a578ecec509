-- The value of a host in memory (own).
use Rattle.std.specs.Prelude.{ℕ, Bool, List, Option, find, option_map}
use Rattle.std.specs.Str.{bytes_eq}

-- A file: its path and its bytes.
pub record HeldBytes : Type 0 where
  pub path : List ℕ
  pub bytes : List ℕ

-- The files that can be read; whether a file was created, its path and what it took; the paths of all files that were created, the last one first;
-- and how many creations and writes have failed.
pub record FilesInMemory : Type 0 where
  pub files : List HeldBytes
  pub is_created : Bool
  pub created : List ℕ
  pub written : List ℕ
  pub paths : List (List ℕ)
  pub failures : ℕ

-- Standard input, and the files.
pub record InMemory : Type 0 where
  pub input : List ℕ
  pub files : FilesInMemory

-- The bytes of the first file at a path.
abbrev pub held_at : List HeldBytes → List ℕ → Option (List ℕ)
held_at files path = option_map (λ file. file.bytes) (find (λ file. bytes_eq file.path path) files)
