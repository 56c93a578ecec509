-- How far the pass over a file has come, and what is known there (own).
use Rattle.std.specs.Prelude.{◌≡◌, ◌≤◌, ◌<◌, ◌-◌, ◌++◌, ◌⊎◌, min, [], ◌∷◌, Bool, false, if◌then◌else◌, List, drop, nat_eq, option_and_then, reverse}
use Rattle.std.specs.Prelude.{take, true, ℕ, ℤ, Option, Some, None, IsSome}
use Rattle.std.specs.List.{AllByRecursion, list_any}
use Rattle.std.specs.Option.{is_some}
use Rattle.std.specs.Ordering.{int_eq}
use Rattle.dvi_ops.specs.Instruction.{Definition, Postamble, Instruction, Pre}
use Rattle.dvi_ops.specs.File.{IsIdle, max_pushes}
use Rattle.dvi_ops.specs.Table.{Spells}
use Rattle.dvi_ops.specs.Body.{instruction_acts, bounded_acts}
use Rattle.dvi_ops.specs.Tokens.{Token, IsSpelled, token_instructions, token_bytes, bop_place, places}
use Rattle.dvi_ops.specs.Fonts.{WidthsByName, FontsAreRight, IsRightAfter, first_definition_of, definitions_in, definitions, selection_of, selections}
use Rattle.dvi_ops.specs.Fonts.{font}
use Rattle.dvi_ops.specs.Fonts.{widths_of}
use Rattle.dvi_scan.specs.Pass.{PassStateView, Between, passes, execute}

-- The font of a number is among these definitions and has widths.
abbrev pub HasWidths : WidthsByName → (table : List Definition) → ℤ → Type 0
HasWidths metrics table f = IsSome (font metrics table f)

-- A number is among these definitions.
abbrev pub IsDefined : List Definition → ℤ → Type 0
IsDefined table f = IsSome (first_definition_of f table)

-- Whether a number is among these.
abbrev pub has_number : List ℤ → ℤ → Bool
has_number numbers f = list_any (int_eq f) numbers

-- These are the numbers of these definitions, in any order.
abbrev pub AreNumbersOf : List ℤ → List Definition → Type 0
AreNumbersOf numbers table = (f : ℤ) → has_number numbers f ≡ is_some (first_definition_of f table)

-- The places of a chain that are still to come, in rising order, and whether one before them was missed, because no bop was there.
pub record PlacesLeft : Type 0 where
  pub missed : Bool
  pub places : List ℕ

-- A place is among these.
abbrev pub IsIn : ℕ → List ℕ → Type 0
IsIn at [] = ⊥
IsIn at (place ∷ places) = (at ≡ place) ⊎ IsIn at places

-- All places of a chain, which has the last one first.
abbrev pub all_left : List ℕ → PlacesLeft
all_left chain = record { missed = false; places = reverse chain }

-- The places left after a bop, where its own place is among them; those before it are missed.
abbrev pub after_bop : ℕ → (missed : Bool) → List ℕ → Option PlacesLeft
after_bop at missed [] = None
after_bop at missed (place ∷ places) = if nat_eq place at then Some (record { missed = missed; places = places }) else after_bop at true places

-- The places left after several bops.
abbrev pub after_bops : List ℕ → PlacesLeft → Option PlacesLeft
after_bops [] left = Some left
after_bops (at ∷ more) left = option_and_then (after_bops more) (after_bop at left.missed left.places)

-- What was read of a file up to a place (own): the state of the pass, the definitions and the selections of fonts so far in the order of the file,
-- and what is left of the chain of pages.
pub record ReadSoFar : Type 0 where
  pub pass : PassStateView
  pub known : List Definition
  pub selected : List ℤ
  pub left : PlacesLeft

-- The state directly after the preamble: no page, no font, and all places of the chain still to come.
abbrev pub before_pages : List ℕ → ReadSoFar
before_pages chain = record { pass = Between []; known = []; selected = []; left = all_left chain }

-- The instructions before a place are right. The pass takes the width of a character from the first definition of its font; each selected font is
-- defined before it, so a later definition changes no width. Each bop is in the chain. Each selected font has widths, and its number is among
-- `after_post`, the numbers that are defined after post.
pub record IsReached (metrics : WidthsByName) (after_post : List ℤ) (bytes : List ℕ) (postamble : Postamble) (chain : List ℕ) (at : ℕ)
    (s : ReadSoFar) : Type 0 where
  pub before : List Token
  pub spelled : AllByRecursion IsSpelled before
  pub whole : token_bytes before ≡ take at bytes
  pub comment : List ℕ
  pub body : List Instruction
  pub front_is : token_instructions before ≡ Pre 2 postamble.units comment ∷ body
  pub known_is : definitions (token_instructions before) ≡ s.known
  pub selected_is : selections (token_instructions before) ≡ s.selected
  pub passed : passes (bounded_acts (instruction_acts (widths_of metrics s.known))) (min max_pushes postamble.stack_depth) body
      (Between []) ≡ Some s.pass
  pub bops : after_bops (places 0 before) (all_left chain) ≡ Some s.left
  pub fonts : FontsAreRight [] (token_instructions before)
  pub closing : AllByRecursion (HasWidths metrics s.known) s.selected
  pub named : AllByRecursion (λ f. has_number after_post f ≡ true) s.selected

-- An instruction is right at a place, and `new` is the state after it: the pass goes on; a bop is among the places left of the chain; the fonts are
-- right; a selected font has widths, and its number is defined after post.
pub record IsRightAt (metrics : WidthsByName) (after_post : List ℤ) (postamble : Postamble) (at : ℕ) (old : ReadSoFar) (i : Instruction)
    (new : ReadSoFar) : Type 0 where
  pub goes_on : execute (bounded_acts (instruction_acts (widths_of metrics old.known))) (min max_pushes postamble.stack_depth) i old.pass
      ≡ Some new.pass
  pub bop : after_bops (bop_place at i) old.left ≡ Some new.left
  pub fonts : IsRightAfter old.known i
  pub known_is : new.known ≡ old.known ++ definitions_in i
  pub selected_is : new.selected ≡ old.selected ++ selection_of i
  pub closing : AllByRecursion (HasWidths metrics old.known) (selection_of i)
  pub named : AllByRecursion (λ f. has_number after_post f ≡ true) (selection_of i)

-- A right instruction is at a place and ends at or before `bound`.
pub record HasRight (metrics : WidthsByName) (after_post : List ℤ) (bytes : List ℕ) (postamble : Postamble) (at bound : ℕ)
    (old : ReadSoFar) : Type 0 where
  pub next : ℕ
  pub forward : at < next
  pub within : next ≤ bound
  pub here : Instruction
  pub spelled : Spells here (take (next - at) (drop at bytes))
  pub new : ReadSoFar
  pub right : IsRightAt metrics after_post postamble at old here new

-- The instructions between post and post_post: nops and font definitions that are right after the known definitions.
pub record IsTail (bytes : List ℕ) (after last : ℕ) (known : List Definition) (tail : List Token) : Type 0 where
  pub spelled : AllByRecursion IsSpelled tail
  pub whole : token_bytes tail ≡ take (last - 5 - after) (drop after bytes)
  pub idle : AllByRecursion IsIdle (token_instructions tail)
  pub fonts : FontsAreRight known (token_instructions tail)
