-- The words NAME=TFM of a command line (own).
use Rattle.std.specs.Prelude.{◌≡◌, ◌==◌, ◌++◌, ◌∷◌, List, ℕ, Bool, true, map}
use Rattle.std.specs.List.{All, IsDistinct, after_first, before_first, list_any}
use Rattle.std.specs.Str.{bytes_eq}
use Rattle.clap.specs.Walk.{Text}
use Rattle.tfm_core.specs.NamedBytes.{IsFontName}
use Rattle.boxglue_words.specs.declared.fonts.NamedPath.{NamedPath}
use Rattle.boxglue_words.specs.declared.fonts.WordFault.{WordFault}
use Rattle.boxglue_words.specs.declared.fonts.WordFault.TheVariants.{Memory as WantsMemory, NotPair, NameTwice}

-- The byte of `=`.
abbrev pub is_equals : ℕ → Bool
is_equals byte = byte == 61

-- The bytes of a word before its first `=`.
abbrev pub name_of : Text → Text
name_of = before_first is_equals

-- The bytes of a word after its first `=`.
abbrev pub path_part : Text → Text
path_part = after_first is_equals

-- A word NAME=TFM whose name has 1 to 255 bytes.
pub record IsPair (word : Text) : Type 0 where
  pub cut : list_any is_equals word ≡ true
  pub named : IsFontName (name_of word)

-- Words that are pairs with different names.
pub record ArePairs (words : List Text) : Type 0 where
  pub pairs : All IsPair words
  pub distinct : IsDistinct bytes_eq (map name_of words)

-- The fonts are those of the words.
pub record AreFonts (words : List Text) (fonts : List NamedPath) : Type 0 where
  pub pairs : ArePairs words
  pub names : map (λ font. font.name) fonts ≡ map name_of words
  pub paths : map (λ font. font.path.now) fonts ≡ map path_part words

-- The fault of a word after others: it is no pair, or its name is that of one of them.
abbrev pub IsFaultOf : List Text → Text → WordFault → Type 0
IsFaultOf before word (NotPair named) = (named.now ≡ word) × (IsPair word → ⊥)
IsFaultOf before word (NameTwice name) =
    IsPair word × (name.now ≡ name_of word) × (list_any (λ other. bytes_eq (name_of other) (name_of word)) before ≡ true)
IsFaultOf before word _ = ⊥

-- The first faulty word from the left: those before it are pairs with different names.
pub record IsFirstFault (words : List Text) (fault : WordFault) : Type 0 where
  pub before : List Text
  pub word : Text
  pub after : List Text
  pub split : words ≡ before ++ (word ∷ after)
  pub pairs : ArePairs before
  pub faulty : IsFaultOf before word fault

-- Memory was refused for a word that has a `=`: those before it are pairs with different names.
pub record LacksMemoryFor (words : List Text) : Type 0 where
  pub before : List Text
  pub word : Text
  pub after : List Text
  pub split : words ≡ before ++ (word ∷ after)
  pub pairs : ArePairs before
  pub cut : list_any is_equals word ≡ true

-- Why words NAME=TFM are refused: for the first faulty one, or because memory was refused before it was met.
abbrev pub IsFaulty : List Text → WordFault → Type 0
IsFaulty words WantsMemory = LacksMemoryFor words
IsFaulty words fault = IsFirstFault words fault
