-- Why a line gives no command (own).
use Rattle.std.specs.Prelude.{◌≡◌, ◌⊎◌, ℕ, ℤ, true, false, List, [], ◌∷◌, ◌++◌, codes}
use Rattle.std.specs.List.{Contains, list_all}
use Rattle.node_core.specs.declared.tree.RuleSize.{RuleSize}
use Rattle.job_machine.specs.declared.command.Command.{Command}
use Rattle.boxglue_script.specs.declared.cause.Cause.{Cause}
use Rattle.boxglue_script.specs.declared.cause.Cause.TheVariants as causes
use Rattle.boxglue_script.specs.declared.cause.Cause.TheVariants.{Byte, Word, Missing, Extra, Number, Dimension}
use Rattle.boxglue_script.specs.ScriptLines.{is_printable, fields_of, HasText}
use Rattle.boxglue_script.specs.ParameterNames.{parameter_names}
use Rattle.boxglue_script.specs.Grammar.{IsRegister, IsSlot, IsCharacterCode, IsDimension, IsRuleSizeField, IsName, IsSizeOfFont, SaysCommand}

-- The fields give some command.
abbrev pub SaysSome : List (List ℕ) → Type 0
SaysSome fields = (command : Command) × SaysCommand fields command

-- The fields are the beginning of fields that give a command.
abbrev pub Begins : List (List ℕ) → Type 0
Begins fields = (more : List (List ℕ)) × SaysSome (fields ++ more)

-- The words that come after others: keywords and the names of parameters.
abbrev pub inner_words : List (List ℕ)
inner_words =
    codes "at" ∷ codes "to" ∷ codes "spread" ∷ codes "into" ∷ codes "plus" ∷ codes "minus" ∷ codes "shift" ∷ parameter_names

-- A word that comes after others.
abbrev pub IsInnerWord : List ℕ → Type 0
IsInnerWord field = Contains inner_words field

-- One of the words of the grammar of fields, which has no `text` and `special`: it begins a command, or comes after others.
abbrev pub IsWord : List ℕ → Type 0
IsWord field = Begins (field ∷ []) ⊎ IsInnerWord field

-- A field that writes the number of some register, of some slot or of some character.
abbrev pub GivesNumber : List ℕ → Type 0
GivesNumber field = (n : ℕ) × (IsRegister field n ⊎ (IsSlot field n ⊎ IsCharacterCode field n))

-- A field that writes some dimension that fits.
abbrev pub GivesDimension : List ℕ → Type 0
GivesDimension field = (z : ℤ) × IsDimension field z

-- A field that writes some size of a font.
abbrev pub GivesSizeOfFont : List ℕ → Type 0
GivesSizeOfFont field = (z : ℤ) × IsSizeOfFont field z

-- A field that gives some size of a rule.
abbrev pub GivesSize : List ℕ → Type 0
GivesSize field = (size : RuleSize) × IsRuleSizeField field size

-- A field is bad where one of a kind belongs: with a right one in its place the fields up to it begin a command, and with this one they do not.
pub record HasBad (IsRight : List ℕ → Type 0) (fields : List (List ℕ)) : Type 0 where
  pub front : List (List ℕ)
  pub field : List ℕ
  pub rest : List (List ℕ)
  pub split : fields ≡ front ++ field ∷ rest
  pub right : List ℕ
  pub is_right : IsRight right
  pub wanted : Begins (front ++ right ∷ [])
  pub bad : Begins (front ++ field ∷ []) → ⊥

-- A field is missing: the fields begin a command and do not give one.
pub record LacksField (fields : List (List ℕ)) : Type 0 where
  pub begins : Begins fields
  pub incomplete : SaysSome fields → ⊥

-- A field is too many: those before it give a command that is complete, since no field at all continues it.
pub record HasExtra (fields : List (List ℕ)) : Type 0 where
  pub front : List (List ℕ)
  pub field : List ℕ
  pub rest : List (List ℕ)
  pub split : fields ≡ front ++ field ∷ rest
  pub whole : SaysSome front
  pub last : (other : List ℕ) → Begins (front ++ other ∷ []) → ⊥

-- After these fields there may be any name of a font.
abbrev pub TakesNames : List (List ℕ) → Type 0
TakesNames front = (name : List ℕ) → IsName name → Begins (front ++ name ∷ [])

-- A field is bad where one of a kind belongs, except where any name of a font may be: many words, numbers and dimensions are such names.
pub record HasBadElsewhere (IsRight : List ℕ → Type 0) (fields : List (List ℕ)) : Type 0 where
  pub found : HasBad IsRight fields
  pub elsewhere : TakesNames found.front → ⊥

-- The cause holds of the fields. Name: the bad field is where any name of a font may be, and has no other cause. Dimension: it is not a dimension
-- that fits. Number: it is where the number of a register, a slot, a character, a count, a penalty or a parameter, or the value of a count belongs,
-- and is not such a number; or it is where the size of a font belongs, and is a dimension that is no such size.
abbrev pub IsFieldCause : Cause → List (List ℕ) → Type 0
IsFieldCause Byte fields = ⊥
IsFieldCause Word fields = HasBadElsewhere IsWord fields
IsFieldCause Missing fields = LacksField fields
IsFieldCause Extra fields = HasExtra fields
IsFieldCause Number fields = HasBadElsewhere GivesNumber fields ⊎ ((bad : HasBadElsewhere GivesSizeOfFont fields) × GivesDimension bad.found.field)
IsFieldCause Dimension fields = (bad : HasBadElsewhere GivesSize fields) × (GivesDimension bad.found.field → ⊥)
IsFieldCause causes.Name fields = (bad : HasBad IsName fields) × TakesNames bad.front

-- Each byte of the line is printable, 32 to 126.
abbrev pub IsPrintable : List ℕ → Type 0
IsPrintable line = list_all is_printable line ≡ true

-- The cause holds of the line: a byte is not printable; or all are, and it is not a line of `text` or of `special`, and the cause holds of the
-- fields.
abbrev pub IsCause : Cause → List ℕ → Type 0
IsCause cause line =
    ((cause ≡ Byte) × (list_all is_printable line ≡ false))
    ⊎ (IsPrintable line × ((text : List ℕ) → HasText line text → ⊥) × IsFieldCause cause (fields_of line))
