-- Readings of a host: each is whole, and ends at a limit (own).
use Rattle.std.specs.Prelude.{◌≡◌, ◌≤◌, ◌<◌, ◌++◌, ℕ, List, length, Option, Some, IfSome}
use Rattle.std.specs.Io.KnownBytes.{Consumes}
use Rattle.boxglue_words.specs.declared.host.TheConstants.{READ_LIMIT}

-- The files of a host by their paths. Where a file is known, there is none at the path, or it has these bytes.
abbrev pub Files : Type 0
Files = List ℕ → Option (Option (List ℕ))

-- All bytes were read, if they are known, and they are not too many.
pub record IsReading (contents : Option (List ℕ)) (bytes : List ℕ) : Type 0 where
  pub all : IfSome contents (λ known. bytes ≡ known)
  pub within : length bytes ≤ READ_LIMIT

-- These are the first of the bytes, if they are known.
abbrev pub IsBeginning : Option (List ℕ) → (bytes : List ℕ) → Type 0
IsBeginning contents bytes = IfSome contents (λ known. (rest : List ℕ) × (known ≡ bytes ++ rest))

-- Nothing can be read: the bytes, if they are known, are too many.
abbrev pub IsUnreadable : Option (List ℕ) → Type 0
IsUnreadable contents = IfSome contents (λ known. READ_LIMIT < length known)

-- All can be read: the bytes, if they are known, are not too many.
abbrev pub IsReadable : Option (List ℕ) → Type 0
IsReadable contents = IfSome contents (λ known. length known ≤ READ_LIMIT)

-- A file was read: all its bytes, which are not too many. If the file is known, it exists.
pub record IsFileReading (contents : Option (Option (List ℕ))) (bytes : List ℕ) : Type 0 where
  pub all : IfSome contents (λ file. file ≡ Some bytes)
  pub within : length bytes ≤ READ_LIMIT

-- A file cannot be read: if it is known, it is missing or has too many bytes.
abbrev pub IsUnreadableFile : Option (Option (List ℕ)) → Type 0
IsUnreadableFile contents = IfSome contents IsUnreadable

-- A file can be read: if it is known, it exists and does not have too many bytes.
abbrev pub IsReadableFile : Option (Option (List ℕ)) → Type 0
IsReadableFile contents = IfSome contents (λ file. (bytes : List ℕ) × (file ≡ Some bytes) × (length bytes ≤ READ_LIMIT))

-- A reader lost at least so many bytes and at most so many, all from the front of those that it had, where these are known.
abbrev pub LosesFront : (least most : ℕ) → (old new : Option (List ℕ)) → Type 0
LosesFront least most old new = (lost : List ℕ) × Consumes old new lost × (least ≤ length lost) × (length lost ≤ most)

-- The greatest number of bytes that one call of a reader brings.
abbrev pub one_call : ℕ
one_call = 16384
