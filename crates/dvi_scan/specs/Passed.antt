-- The instructions of a file, as a reader finds them that knows its end and the chain of its pages (own; laws connect this with the file).
use Rattle.std.specs.Prelude.{◌≡◌, ◌≤◌, ◌+◌, ◌-◌, ◌++◌, min, [], ◌∷◌, List, drop, reverse, take, ℕ, Some}
use Rattle.std.specs.List.{AllByRecursion}
use Rattle.dvi_ops.specs.Instruction.{Postamble, Instruction, Pre, Post}
use Rattle.dvi_ops.specs.Table.{Spells}
use Rattle.dvi_ops.specs.Body.{Acts, instruction_acts, bounded_acts}
use Rattle.dvi_ops.specs.Tokens.{Token, IsSpelled, token_instructions, token_bytes, places}
use Rattle.dvi_ops.specs.Fonts.{WidthsByName, FontsAreRight, definitions, selections, widths_of}
use Rattle.dvi_ops.specs.File.{MarkedPage, IsIdle, AreUnits, max_pushes}
use Rattle.dvi_scan.specs.Ends.{HasPostamble}
use Rattle.dvi_scan.specs.Chain.{Links}
use Rattle.dvi_scan.specs.Pass.{Between, passes}
use Rattle.dvi_scan.specs.Reached.{HasWidths, IsDefined}

-- What is found at the end of a file before its pages are read: the place of post, the place after it, and that of the version in post_post; the
-- postamble; and the places of the pages, the last one first.
pub record Framing : Type 0 where
  pub post : ℕ
  pub after : ℕ
  pub last : ℕ
  pub postamble : Postamble
  pub chain : List ℕ

abbrev pub file_framing : (post after last : ℕ) → Postamble → (chain : List ℕ) → Framing
file_framing post after last postamble chain = record { post = post; after = after; last = last; postamble = postamble; chain = chain }

-- The places of the parts that a file names at its end, and its pages from the last one back, as found before the pass.
pub record IsFramed (bytes : List ℕ) (post after last : ℕ) (postamble : Postamble) (chain : List ℕ) : Type 0 where
  pub ends : HasPostamble bytes post last postamble
  pub spelled : Spells (Post postamble) (take (after - post) (drop post bytes))
  pub low : post ≤ after
  pub high : after + 5 ≤ last
  pub links : Links bytes post postamble.last_bop chain

-- The effects of the instructions of a body, with these metric files and the fonts that these instructions define, each by its first definition.
abbrev pub drawing_by : WidthsByName → List Token → Acts
drawing_by metrics tokens = bounded_acts (instruction_acts (widths_of metrics (definitions (token_instructions tokens))))

-- The pass over a file: its preamble, the instructions before post, and those between post and post_post.
pub record IsPassed (metrics : WidthsByName) (bytes : List ℕ) (parts : Framing) (pages : List MarkedPage) : Type 0 where
  pub front : List Token
  pub tail : List Token
  pub front_spelled : AllByRecursion IsSpelled front
  pub tail_spelled : AllByRecursion IsSpelled tail
  pub front_whole : token_bytes front ≡ take parts.post bytes
  pub tail_whole : token_bytes tail ≡ take (parts.last - 5 - parts.after) (drop parts.after bytes)
  -- A preamble of version 2 with the units of the postamble, which are positive; then the instructions of the pass.
  pub comment : List ℕ
  pub body : List Instruction
  pub front_is : token_instructions front ≡ Pre 2 parts.postamble.units comment ∷ body
  pub units : AreUnits parts.postamble.units
  pub passed : passes (drawing_by metrics front) (min max_pushes parts.postamble.stack_depth) body (Between []) ≡ Some (Between pages)
  -- The places of the bops are those of the chain.
  pub bops : places 0 front ≡ reverse parts.chain
  -- After post there are only nops and font definitions, and all definitions are right. Each selected font has widths, and its number is defined
  -- after post too.
  pub tail_is : AllByRecursion IsIdle (token_instructions tail)
  pub fonts : FontsAreRight [] (token_instructions front ++ token_instructions tail)
  pub closing : AllByRecursion (HasWidths metrics (definitions (token_instructions front))) (selections (token_instructions front))
  pub named : AllByRecursion (IsDefined (definitions (token_instructions tail))) (selections (token_instructions front))
