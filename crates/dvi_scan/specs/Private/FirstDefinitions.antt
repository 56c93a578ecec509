-- The known definitions, and the first one of each number (own). They are the invariant of `KnownFonts`, and what a private call adds.
use Rattle.std.specs.Prelude.{◌≡◌, ℤ, List, Option, [], ◌∷◌, option_map}
use Rattle.std.specs.BTreeMap.{BTreeMap, get}
use Rattle.std.specs.List.{AllByRecursion}
use Rattle.std.specs.Option.{option_or}
use Rattle.std.specs.Ordering.{int_cmp}
use Rattle.dvi_ops.specs.Fonts.{AgreesWith, first_definition_of}
use Rattle.dvi_ops.specs.Instruction.{Definition}
use Rattle.dvi_ops.specs.View.{definition}
use Rattle.dvi_ops.specs.declared.op.FontDefinition.{FontDefinition}

-- The definition of a number in a table.
abbrev pub first_definition : BTreeMap ℤ FontDefinition → ℤ → Option Definition
first_definition first f = option_map definition (get int_cmp first f)

-- A table has the first definition of each number, and all definitions of a number are the same.
pub record HasFirstDefinitions (first : BTreeMap ℤ FontDefinition) (all : List Definition) : Type 0 where
  pub firsts : (f : ℤ) → first_definition first f ≡ first_definition_of f all
  pub agree : AllByRecursion (λ d. AllByRecursion (AgreesWith d) all) all

-- A table has a definition at its number, where it had none there. The rest is unchanged.
abbrev pub AddsFirst : (old new : BTreeMap ℤ FontDefinition) → FontDefinition → Type 0
AddsFirst old new font = (f : ℤ) → first_definition new f ≡ option_or (first_definition old f) (first_definition_of f (definition font ∷ []))
