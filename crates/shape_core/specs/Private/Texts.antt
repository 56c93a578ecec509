-- The rest of `Texts`, which no public contract reaches (own).
use Rattle.std.specs.Prelude.{ℕ, List, [], ◌∷◌, if◌then◌else◌}
use Rattle.std.specs.List.{prefix_len}
use Rattle.shape_core.specs.Texts.{spaces, word, TextPart, is_space, is_other}

-- The part that consists of a whole text: spaces or a word, by its first character (own).
abbrev pub part_of : List ℕ → TextPart
part_of [] = spaces
part_of (c ∷ text) = if is_space c then spaces else word (c ∷ text)

-- The length of the first part of a text (own).
abbrev pub part_length : List ℕ → ℕ
part_length [] = 0
part_length (c ∷ text) = if is_space c then prefix_len is_space (c ∷ text) else prefix_len is_other (c ∷ text)
