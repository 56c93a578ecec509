-- What is shaped at the beginning of a text (own).
use Rattle.std.specs.Prelude.{ℕ, Bool, List, take, if◌then◌else◌}
use Rattle.std.specs.List.{prefix_len}
use Rattle.shape_core.specs.Texts.{TextPart, is_other}
use Rattle.shape_core.specs.Private.Texts.{part_length, part_of}

-- The characters of a text before its first space, or the whole text.
unfoldable pub front_of : (until_space : Bool) → List ℕ → List ℕ
front_of until_space text = if until_space then take (prefix_len is_other text) text else text

-- The first part of a text: its first run of spaces or its first word.
abbrev pub first_part : List ℕ → TextPart
first_part text = part_of (take (part_length text) text)
