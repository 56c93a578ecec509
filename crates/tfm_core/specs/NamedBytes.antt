-- Font files: their names and their bytes (own).
use Rattle.std.specs.Prelude.{ℕ, ◌<◌, List, length, Option, find}
use Rattle.std.specs.Str.{bytes_eq}

-- A font file: its name and its bytes (own).
pub record NamedBytes : Type 0 where
  pub name : List ℕ
  pub bytes : List ℕ

-- The name of a font has 1 to 255 bytes (own).
pub record IsFontName (name : List ℕ) : Type 0 where
  pub some : 0 < length name
  pub few : length name < 256

-- The first file with this name (own).
abbrev pub file_named : List ℕ → List NamedBytes → Option NamedBytes
file_named name files = find (λ file. bytes_eq file.name name) files
