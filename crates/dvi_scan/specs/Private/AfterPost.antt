-- The rest of `AfterPost`, which no public contract reaches (own).
use Rattle.std.specs.Prelude.{◌≡◌, ◌≤◌, ◌<◌, ◌-◌, ◌||◌, false, List, drop, take, ℕ, ℤ}
use Rattle.std.specs.Option.{is_some}
use Rattle.dvi_ops.specs.File.{IsIdle}
use Rattle.dvi_ops.specs.Fonts.{first_definition_of, definitions_in}
use Rattle.dvi_ops.specs.Instruction.{Definition, FontDef, Instruction, Do}
use Rattle.dvi_ops.specs.Table.{Spells}
use Rattle.dvi_scan.specs.Ends.{IsSpelledAt}
use Rattle.dvi_scan.specs.Reached.{has_number}

-- One nop or definition, whose number was kept.
pub record LooksOne (bytes : List ℕ) (at to : ℕ) (old new : List ℤ) (next : ℕ) : Type 0 where
  pub forward : at < next
  pub within : next ≤ to
  pub here : Instruction
  pub spelled : Spells here (take (next - at) (drop at bytes))
  pub idle : IsIdle here
  pub numbers : (f : ℤ) → has_number new f ≡ (has_number old f || is_some (first_definition_of f (definitions_in here)))

-- A definition is there, whose number was not kept before.
abbrev pub MeetsNumber : List ℕ → (at to : ℕ) → List ℤ → Type 0
MeetsNumber bytes at to old = (d : Definition) × IsSpelledAt bytes at to (Do (FontDef d)) × (has_number old d.number ≡ false)
