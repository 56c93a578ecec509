-- Shaping of a word: its characters become glyphs, font kerns and ligatures (TeX: The Program, part 46, §1029 to §1045; TFtoPL, 13).
use Rattle.std.specs.Prelude.{◌≡◌, ◌+◌, ◌++◌, ℕ, ℤ, List, [], ◌∷◌, Option, Some, None, if◌then◌else◌, is_some, slice_get}
use Rattle.node_core.specs.declared.tree.Node.{Node}
use Rattle.node_core.specs.declared.tree.Node.TheVariants.{Glyph, FontKern}
use Rattle.node_core.specs.declared.tree.Node.TheVariants as nodes
use Rattle.shape_core.specs.declared.word.Outcome.{Outcome}
use Rattle.shape_core.specs.declared.word.Outcome.TheVariants.{Dropped, Alone, Kerned, Joined}
use Rattle.scaled_core.specs.declared.sizes.Sizes.{Sizes}
use Rattle.tfm_core.specs.declared.font.Step.{Step}
use Rattle.tfm_core.specs.declared.font.Step.TheVariants.{Kern, Ligature}

-- The glyph of a character (own).
abbrev pub glyph_node : ℕ → ℕ → Sizes → Node
glyph_node slot code size = Glyph (record {
  slot = slot;
  code = code;
  width = size.width;
  height = size.height;
  depth = size.depth;
})

-- The kern or ligature between a character and the one that follows it; nothing if no character follows, or if the font does not have the following
-- one (own).
abbrev pub step_to : (ℕ → Option Sizes) → (ℕ → ℕ → Option Step) → ℕ → Option ℕ → Option Step
step_to sizes steps c None = None
step_to sizes steps c (Some d) = if is_some (sizes d) then steps c d else None

-- The items of a word and the number n of its missing characters, by cases: the word is empty; the font does not have its first character, which is
-- dropped and counted (own); there is nothing between the first character and the next one; there is a kern between them; a ligature's character
-- takes the place of both (TeX: The Program, part 46, §1029 to §1045; TFtoPL, 13).
pub data Shaping (slot : ℕ) (sizes : ℕ → Option Sizes) (steps : ℕ → ℕ → Option Step) : List ℕ → List Node → ℕ → Type 0 where
  empty : Shaping slot sizes steps [] [] 0
  missing : {c : ℕ} {word : List ℕ} {items : List Node} {n : ℕ} → sizes c ≡ None
      → Shaping slot sizes steps word items n → Shaping slot sizes steps (c ∷ word) items (n + 1)
  alone : {c : ℕ} {word : List ℕ} {items : List Node} {n : ℕ} {size : Sizes} → sizes c ≡ Some size
      → step_to sizes steps c (slice_get word 0) ≡ None
      → Shaping slot sizes steps word items n → Shaping slot sizes steps (c ∷ word) (glyph_node slot c size ∷ items) n
  kern : {c : ℕ} {word : List ℕ} {items : List Node} {n : ℕ} {size : Sizes} {width : ℤ} → sizes c ≡ Some size
      → step_to sizes steps c (slice_get word 0) ≡ Some (Kern width)
      → Shaping slot sizes steps word items n → Shaping slot sizes steps (c ∷ word) (glyph_node slot c size ∷ FontKern width ∷ items) n
  ligature : {c d e : ℕ} {word : List ℕ} {items : List Node} {n : ℕ} {size : Sizes} → sizes c ≡ Some size
      → step_to sizes steps c (Some d) ≡ Some (Ligature e)
      → Shaping slot sizes steps (e ∷ word) items n → Shaping slot sizes steps (c ∷ d ∷ word) items n

-- What a character becomes, by its sizes and the step after it. The functions from here on compute the items of a word (own).
abbrev pub outcome_of : Option Sizes → Option Step → Outcome
outcome_of None step = Dropped
outcome_of (Some size) None = Alone size
outcome_of (Some size) (Some (Kern width)) = Kerned size width
outcome_of (Some size) (Some (Ligature e)) = Joined e

-- What a character becomes before the one that follows it, if one follows (own).
unfoldable pub outcome_at : (ℕ → Option Sizes) → (ℕ → ℕ → Option Step) → ℕ → Option ℕ → Outcome
outcome_at sizes steps c following = outcome_of (sizes c) (step_to sizes steps c following)

-- The items of a character, by what it becomes (own).
abbrev pub outcome_items : ℕ → ℕ → Outcome → List Node
outcome_items slot c Dropped = []
outcome_items slot c (Alone size) = glyph_node slot c size ∷ []
outcome_items slot c (Kerned size width) = glyph_node slot c size ∷ FontKern width ∷ []
outcome_items slot c (Joined e) = []

-- The number of missing characters, by what a character becomes (own).
abbrev pub outcome_missing : Outcome → ℕ
outcome_missing Dropped = 1
outcome_missing (Alone size) = 0
outcome_missing (Kerned size width) = 0
outcome_missing (Joined e) = 0

-- The character with which shaping goes on, if d follows (own).
abbrev pub outcome_next : ℕ → Outcome → ℕ
outcome_next d Dropped = d
outcome_next d (Alone size) = d
outcome_next d (Kerned size width) = d
outcome_next d (Joined e) = e

-- The items of a character and of the word after it (own).
abbrev pub items_from : ℕ → (ℕ → Option Sizes) → (ℕ → ℕ → Option Step) → ℕ → List ℕ → List Node
items_from slot sizes steps c [] = outcome_items slot c (outcome_at sizes steps c None)
items_from slot sizes steps c (d ∷ word) =
    outcome_items slot c (outcome_at sizes steps c (Some d)) ++ items_from slot sizes steps (outcome_next d (outcome_at sizes steps c (Some d))) word

-- The number of missing characters among a character and the word after it (own).
abbrev pub missing_from : (ℕ → Option Sizes) → (ℕ → ℕ → Option Step) → ℕ → List ℕ → ℕ
missing_from sizes steps c [] = outcome_missing (outcome_at sizes steps c None)
missing_from sizes steps c (d ∷ word) =
    outcome_missing (outcome_at sizes steps c (Some d)) + missing_from sizes steps (outcome_next d (outcome_at sizes steps c (Some d))) word

-- The items of a word (own).
abbrev pub shaped_items : ℕ → (ℕ → Option Sizes) → (ℕ → ℕ → Option Step) → List ℕ → List Node
shaped_items slot sizes steps [] = []
shaped_items slot sizes steps (c ∷ word) = items_from slot sizes steps c word

-- The number of missing characters of a word (own).
abbrev pub shaped_missing : (ℕ → Option Sizes) → (ℕ → ℕ → Option Step) → List ℕ → ℕ
shaped_missing sizes steps [] = 0
shaped_missing sizes steps (c ∷ word) = missing_from sizes steps c word

-- A node that comes from characters: a glyph with this slot and the sizes of its character, a font kern, or the glue of spaces (own).
abbrev pub IsGlyphOf : ℕ → (ℕ → Option Sizes) → Node → Type 0
IsGlyphOf slot sizes (Glyph g) = (g.slot ≡ slot) × (sizes g.code ≡ Some (record { width = g.width; height = g.height; depth = g.depth }))
IsGlyphOf slot sizes (FontKern width) = Unit {0}
IsGlyphOf slot sizes (nodes.Kern width) = ⊥
IsGlyphOf slot sizes (nodes.Glue g) = Unit {0}
IsGlyphOf slot sizes (nodes.Penalty penalty) = ⊥
IsGlyphOf slot sizes (nodes.Rule rule) = ⊥
IsGlyphOf slot sizes (nodes.Special text) = ⊥
IsGlyphOf slot sizes (nodes.Box shift b) = ⊥
