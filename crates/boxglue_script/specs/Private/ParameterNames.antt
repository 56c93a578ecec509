-- The rest of `ParameterNames`, which no public contract reaches (own).
use Rattle.std.specs.Prelude.{ℕ, Bool, List}
use Rattle.std.specs.Str.{bytes_eq}
use Rattle.boxglue_script.specs.ParameterNames.{first_lines_text}

-- Whether a word names the parameter that is a number of first lines.
unfoldable pub names_first_lines : List ℕ → Bool
names_first_lines word = bytes_eq word first_lines_text
