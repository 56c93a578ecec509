-- The bytes that a device reports (own).
use Rattle.std.specs.Prelude.{◌≡◌, ◌++◌, ◌<◌, ℕ, List, length, take, Option, Some, None}

-- The reported bytes, and more bytes after them. A device that reports nothing never does.
abbrev pub written_then : Option (List ℕ) → List ℕ → Option (List ℕ)
written_then None bytes = None
written_then (Some bytes_written) bytes = Some (bytes_written ++ bytes)

-- The reported bytes have grown by a beginning of `bytes` that is not all of them.
abbrev pub GrowsByFront : Option (List ℕ) → Option (List ℕ) → List ℕ → Type 0
GrowsByFront old new bytes = (n : ℕ) × (n < length bytes) × (new ≡ written_then old (take n bytes))

-- The bytes are a beginning of others.
abbrev pub IsFrontOf : List ℕ → List ℕ → Type 0
IsFrontOf front whole = (n : ℕ) × (front ≡ take n whole)
