-- A file whose fonts are printed.
use Rattle.std.proofs.Common.{List, ℕ, Option, Some, None}
use Rattle.boxglue_words.specs.Readings.{IsFileReading, IsReadableFile}

-- A file that was read can be read.
pub was_readable_file : (contents : Option (Option (List ℕ))) (bytes : List ℕ) → IsFileReading contents bytes → IsReadableFile contents
was_readable_file None bytes read = tt
was_readable_file (Some file) bytes read = (bytes, read.all, read.within)
