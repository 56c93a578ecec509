-- Texts: words with runs of spaces between them (own).
use Rattle.std.specs.Prelude.{◌≡◌, ◌==◌, ◌<◌, ◌++◌, ℕ, Bool, true, false, not, List, [], ◌∷◌, Option, length, sum_by, take}
use Rattle.std.specs.List.{flat_map, list_all}
use Rattle.node_core.specs.declared.tree.Glue.{Glue}
use Rattle.node_core.specs.declared.tree.Node.{Node}
use Rattle.node_core.specs.declared.tree.Node.TheVariants as node
use Rattle.shape_core.specs.Shaping.{shaped_items, shaped_missing}
use Rattle.scaled_core.specs.declared.sizes.Sizes.{Sizes}
use Rattle.tfm_core.specs.declared.font.Step.{Step}

-- A part of a text: a run of spaces of any length, or a word (own).
pub data TextPart : Type 0 where
  spaces : TextPart
  word : List ℕ → TextPart

-- A space is the character 32 (own).
abbrev pub is_space : ℕ → Bool
is_space c = c == 32

-- Any other character is part of a word (own).
abbrev pub is_other : ℕ → Bool
is_other c = not (is_space c)

-- A text is cut into its parts: each is a run of one or more spaces or a word of one or more characters, as long as possible (own).
pub data HasParts : List ℕ → List TextPart → Type 0 where
  nothing : HasParts [] []
  spaces_first : (run rest : List ℕ) {text : List ℕ} {parts : List TextPart} → 0 < length run
      → list_all is_space run ≡ true → list_all is_other (take 1 rest) ≡ true → text ≡ run ++ rest
      → HasParts rest parts → HasParts text (spaces ∷ parts)
  word_first : (w rest : List ℕ) {text : List ℕ} {parts : List TextPart} → 0 < length w
      → list_all is_other w ≡ true → list_all is_space (take 1 rest) ≡ true → text ≡ w ++ rest
      → HasParts rest parts → HasParts text (word w ∷ parts)

-- The parts after a character is put before them: a space joins a run of spaces, and another character joins a word (own).
abbrev pub parts_with : ℕ → Bool → List TextPart → List TextPart
parts_with c true [] = spaces ∷ []
parts_with c true (spaces ∷ parts) = spaces ∷ parts
parts_with c true ((word w) ∷ parts) = spaces ∷ word w ∷ parts
parts_with c false [] = word (c ∷ []) ∷ []
parts_with c false (spaces ∷ parts) = word (c ∷ []) ∷ spaces ∷ parts
parts_with c false ((word w) ∷ parts) = word (c ∷ w) ∷ parts

-- The parts of a text (own).
abbrev pub parts_of : List ℕ → List TextPart
parts_of [] = []
parts_of (c ∷ text) = parts_with c (is_space c) (parts_of text)

-- The items of a part: a run of spaces becomes one glue (own).
abbrev pub part_items : ℕ → (ℕ → Option Sizes) → (ℕ → ℕ → Option Step) → Glue → TextPart → List Node
part_items slot sizes steps blank spaces = node.Glue blank ∷ []
part_items slot sizes steps blank (word w) = shaped_items slot sizes steps w

-- The number of missing characters of a part (own).
abbrev pub part_missing : (ℕ → Option Sizes) → (ℕ → ℕ → Option Step) → TextPart → ℕ
part_missing sizes steps spaces = 0
part_missing sizes steps (word w) = shaped_missing sizes steps w

-- The items of a text (own).
unfoldable pub text_items : ℕ → (ℕ → Option Sizes) → (ℕ → ℕ → Option Step) → Glue → List ℕ → List Node
text_items slot sizes steps blank text = flat_map (part_items slot sizes steps blank) (parts_of text)

-- The number of missing characters of a text (own).
unfoldable pub text_missing : (ℕ → Option Sizes) → (ℕ → ℕ → Option Step) → List ℕ → ℕ
text_missing sizes steps text = sum_by (part_missing sizes steps) (parts_of text)
