-- The numbers of fonts that are defined after post, found before the pages are read (own). The other fields of these definitions are tested only when
-- the reader gets there.
use Rattle.std.specs.Prelude.{◌≡◌, ◌≤◌, ◌<◌, ◌-◌, List, drop, take, None, ℕ, ℤ}
use Rattle.std.specs.List.{AllByRecursion}
use Rattle.dvi_ops.specs.File.{IsIdle}
use Rattle.dvi_ops.specs.Fonts.{first_definition_of, definitions}
use Rattle.dvi_ops.specs.Instruction.{Definition, FontDef, Instruction, Do}
use Rattle.dvi_ops.specs.Tokens.{Token, IsSpelled, token_instructions, token_bytes}
use Rattle.dvi_scan.specs.Ends.{IsSpelledAt}
use Rattle.dvi_scan.specs.Reached.{AreNumbersOf}

-- Only nops and definitions of fonts are between two places.
pub record AreIdle (bytes : List ℕ) (from to : ℕ) (tokens : List Token) : Type 0 where
  pub spelled : AllByRecursion IsSpelled tokens
  pub whole : token_bytes tokens ≡ take (to - from) (drop from bytes)
  pub idle : AllByRecursion IsIdle (token_instructions tokens)

-- No nop and no definition is at a place and ends at or before `to`.
abbrev pub NothingIdle : List ℕ → (place to : ℕ) → Type 0
NothingIdle bytes place to = (i : Instruction) → IsSpelledAt bytes place to i → IsIdle i → ⊥

-- The numbers that are found: those of the definitions among the nops and definitions from a place on, up to the first place without such an
-- instruction.
pub record AreAfterPost (bytes : List ℕ) (from to : ℕ) (after_post : List ℤ) : Type 0 where
  pub place : ℕ
  pub low : from ≤ place
  pub high : place ≤ to
  pub tokens : List Token
  pub there : AreIdle bytes from place tokens
  pub nothing_idle : NothingIdle bytes place to
  pub numbers : AreNumbersOf after_post (definitions (token_instructions tokens))

-- Memory is refused at some place for a definition of a new number, where only nops and definitions are before it.
pub record LacksNumber (bytes : List ℕ) (from to : ℕ) : Type 0 where
  pub place : ℕ
  pub low : from ≤ place
  pub high : place < to
  pub tokens : List Token
  pub there : AreIdle bytes from place tokens
  pub here : Definition
  pub spelled_at : IsSpelledAt bytes place to (Do (FontDef here))
  pub new : first_definition_of here.number (definitions (token_instructions tokens)) ≡ None
