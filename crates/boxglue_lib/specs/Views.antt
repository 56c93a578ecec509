-- What contracts know of a host, and of the two streams of a program (own).
use Rattle.std.specs.Prelude.{◌≡◌, ℕ, List, Option}
use Rattle.boxglue_words.specs.Readings.{Files}

-- A host as contracts see it: the host of its files itself; its files by their paths, and its standard input, if they are known; the paths of the
-- files that it has created, the last one first; the bytes that the last one took, if they are known; and how many creations and writes have failed.
pub record HostView (H : Type 0) : Type 0 where
  pub itself : H
  pub files : Files
  pub input : Option (List ℕ)
  pub created : List (List ℕ)
  pub written : Option (List ℕ)
  pub failures : ℕ

-- All bytes that the output and the errors of a program took, if they are known.
pub record Streams : Type 0 where
  pub output : Option (List ℕ)
  pub errors : Option (List ℕ)

-- The host was returned as it was.
abbrev pub IsSame : {H : Type 0} → (old new : HostView H) → Type 0
IsSame old new = new.itself ≡ old.itself

-- A host as contracts see it, by what they know of each host of files of its kind, and what they know of its standard input.
abbrev pub view_of : {H : Type 0} → (files : H → Files) → (created : H → List (List ℕ)) → (written : H → Option (List ℕ)) → (failures : H → ℕ)
    → (input : Option (List ℕ)) → H → HostView H
view_of files created written failures input host = record {
  itself = host;
  files = files host;
  input = input;
  created = created host;
  written = written host;
  failures = failures host;
}

-- What the output and the errors took, by what is known of writers of their kinds.
abbrev pub streams_of : {W E : Type 0} → (taken : W → Option (List ℕ)) → (reported : E → Option (List ℕ)) → W → E → Streams
streams_of taken reported output errors = record { output = taken output; errors = reported errors }
