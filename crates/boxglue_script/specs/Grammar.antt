-- The grammar of the commands of a script (own).
use Rattle.std.specs.Prelude.{◌≡◌, ◌⊎◌, FitsSigned, ◌<◌, ◌&&◌, ◌||◌, ◌==◌, ℕ, ℤ, pos, Bool, true, nat_le, List, [], ◌∷◌, ◌++◌, codes, length, Option}
use Rattle.std.specs.Prelude.{None, Some}
use Rattle.std.specs.Int.{w32}
use Rattle.std.specs.List.{list_all}
use Rattle.std.specs.Str.Parse.{IsNumeral, without_leading_sign, signed_digits_value}
use Rattle.scaled_core.specs.Dimensions.{Fits, Within}
use Rattle.scaled_core.specs.DimensionTexts.{IsDimensionText}
use Rattle.tfm_core.specs.Scaling.{IsFontSize}
use Rattle.scaled_core.specs.declared.counts.TheConstants.{COUNTS}
use Rattle.node_core.specs.declared.limits.TheConstants.{REGISTERS}
use Rattle.tfm_core.specs.declared.slots.TheConstants.{FONT_SLOTS}
use Rattle.node_core.specs.declared.tree.Kind.{Kind}
use Rattle.node_core.specs.declared.tree.Kind.TheVariants.{Horizontal, Vertical}
use Rattle.node_core.specs.declared.tree.Glue as glues
use Rattle.node_core.specs.declared.tree.Order.{Order}
use Rattle.node_core.specs.declared.tree.Order.TheVariants.{Normal, Fil, Fill, Filll}
use Rattle.node_core.specs.declared.tree.RuleSize.{RuleSize}
use Rattle.node_core.specs.declared.tree.RuleSize.TheVariants.{Running, Fixed}
use Rattle.pack_core.specs.declared.pack.Target.{Target}
use Rattle.pack_core.specs.declared.pack.Target.TheVariants.{Natural, To, Spread}
use Rattle.job_machine.specs.declared.command.BoxForm.{BoxForm}
use Rattle.job_machine.specs.declared.command.BoxForm.TheVariants.{Hbox, Vbox, Vtop}
use Rattle.job_machine.specs.declared.command.Transfer.{Transfer}
use Rattle.job_machine.specs.declared.command.Transfer.TheVariants.{Move, Copy}
use Rattle.job_machine.specs.declared.parameter.Parameter.{Parameter}
use Rattle.job_machine.specs.declared.parameter.Parameter.TheVariants as parameters
use Rattle.job_machine.specs.declared.command.Command.{Command}
use Rattle.job_machine.specs.declared.command.Command.TheVariants.{LoadFont, UseFont, Open, Paragraph, End, Text, Character, Rule, Kern, Glue}
use Rattle.job_machine.specs.declared.command.Command.TheVariants.{Penalty, Append, Unbox, LastBox, Split, Measure, Void, Set, Count, Special, Ship}
use Rattle.boxglue_script.specs.ParameterNames.{first_lines_text, size_name, skip_name, number_name}

-- A field that writes this whole number with an optional sign and digits.
pub record IsInteger (field : List ℕ) (z : ℤ) : Type 0 where
  pub digits : IsNumeral 10 (without_leading_sign field)
  pub value : signed_digits_value 10 field ≡ z

-- The number of box registers, which are counted from 0 (own).
abbrev pub register_count : ℕ
register_count = REGISTERS

-- The number of slots for fonts, which are counted from 0 (own).
abbrev pub slot_count : ℕ
slot_count = FONT_SLOTS

-- The number of characters that a font may have, by their codes from 0 (TFtoPL, 8).
abbrev pub character_count : ℕ
character_count = 256

-- The number of counts of a page, which are counted from 0 (DVItype, 15).
abbrev pub counter_count : ℕ
counter_count = COUNTS

-- A field that writes this whole number, which is below the count.
pub record IsNumberAmong (count : ℕ) (field : List ℕ) (n : ℕ) : Type 0 where
  pub written : IsInteger field (pos n)
  pub small : n < count

-- A field that writes the number of this box register.
abbrev pub IsRegister : List ℕ → ℕ → Type 0
IsRegister field n = IsNumberAmong register_count field n

-- A field that writes the number of this slot for a font.
abbrev pub IsSlot : List ℕ → ℕ → Type 0
IsSlot field n = IsNumberAmong slot_count field n

-- A field that writes the code of this character.
abbrev pub IsCharacterCode : List ℕ → ℕ → Type 0
IsCharacterCode field n = IsNumberAmong character_count field n

-- A field that writes the number of this count of a page.
abbrev pub IsCountNumber : List ℕ → ℕ → Type 0
IsCountNumber field n = IsNumberAmong counter_count field n

-- How many numbers of first lines there are: 0 to 32 (own).
abbrev pub first_lines_count : ℕ
first_lines_count = 33

-- A field that writes this number of first lines.
abbrev pub IsFirstLines : List ℕ → ℕ → Type 0
IsFirstLines field n = IsNumberAmong first_lines_count field n

-- A field that writes this count of a page: a whole number of signed 32 bits.
pub record IsCount (field : List ℕ) (z : ℤ) : Type 0 where
  pub written : IsInteger field z
  pub small : FitsSigned w32 z

-- A field that writes this whole number of absolute value at most 500,000,000, as penalties and parameters have it.
pub record IsPenalty (field : List ℕ) (z : ℤ) : Type 0 where
  pub written : IsInteger field z
  pub small : Within 500000000 z

-- A field that writes this dimension, which fits.
pub record IsDimension (field : List ℕ) (z : ℤ) : Type 0 where
  pub text : IsDimensionText field z
  pub fits : Fits z

-- A field that gives this size of a rule, `*` for a running one.
abbrev pub IsRuleSizeField : List ℕ → RuleSize → Type 0
IsRuleSizeField field Running = field ≡ codes "*"
IsRuleSizeField field (Fixed z) = IsDimension field z

-- A letter or a digit.
abbrev pub is_alphanumeric : ℕ → Bool
is_alphanumeric byte = (nat_le 48 byte && nat_le byte 57) || ((nat_le 65 byte && nat_le byte 90) || (nat_le 97 byte && nat_le byte 122))

-- A byte of the name of a font: a letter, a digit, `-`, `_` or `.`.
abbrev pub is_name_byte : ℕ → Bool
is_name_byte byte = is_alphanumeric byte || ((byte == 45) || ((byte == 95) || (byte == 46)))

-- A field that is the name of a font: 1 to 255 letters, digits, `-`, `_` and `.`.
pub record IsName (field : List ℕ) : Type 0 where
  pub bytes : list_all is_name_byte field ≡ true
  pub some : 0 < length field
  pub few : length field < 256

-- A field that writes the size of a font: a dimension from 1 sp to 2^27 - 1 sp.
pub record IsSizeOfFont (field : List ℕ) (z : ℤ) : Type 0 where
  pub dimension : IsDimension field z
  pub size : IsFontSize z

-- What follows the name of a font: nothing for its design size, or `at` and a size.
abbrev pub IsChosenSize : List (List ℕ) → Option ℤ → Type 0
IsChosenSize fields None = fields ≡ []
IsChosenSize fields (Some z) = (d : List ℕ) × (fields ≡ codes "at" ∷ d ∷ []) × IsSizeOfFont d z

-- The name of the command that opens a list of this form.
abbrev pub form_text : BoxForm → List ℕ
form_text Hbox = codes "hbox"
form_text Vbox = codes "vbox"
form_text Vtop = codes "vtop"

-- The size of a box: nothing for its natural size, or `to` or `spread` and a dimension.
abbrev pub IsTarget : List (List ℕ) → Target → Type 0
IsTarget fields Natural = fields ≡ []
IsTarget fields (To z) = (d : List ℕ) × (fields ≡ codes "to" ∷ d ∷ []) × IsDimension d z
IsTarget fields (Spread z) = (d : List ℕ) × (fields ≡ codes "spread" ∷ d ∷ []) × IsDimension d z

-- The destination of the box of a list: nothing for the enclosing list, or `into` and a register.
abbrev pub IsDestination : List (List ℕ) → Option ℕ → Type 0
IsDestination fields None = fields ≡ []
IsDestination fields (Some n) = (r : List ℕ) × (fields ≡ codes "into" ∷ r ∷ []) × IsRegister r n

-- The name of the command that appends the box of a register, moved or copied.
abbrev pub taking_text : Transfer → List ℕ
taking_text Move = codes "box"
taking_text Copy = codes "copy"

-- How far a box is shifted: nothing for 0, or `shift` and a dimension.
abbrev pub IsShift : List (List ℕ) → ℤ → Type 0
IsShift fields z = ((fields ≡ []) × (z ≡ pos 0)) ⊎ ((d : List ℕ) × (fields ≡ codes "shift" ∷ d ∷ []) × IsDimension d z)

-- The name of the command that appends the items of a box of that kind, moved or copied.
abbrev pub unboxing_text : Kind → Transfer → List ℕ
unboxing_text Horizontal Move = codes "unhbox"
unboxing_text Horizontal Copy = codes "unhcopy"
unboxing_text Vertical Move = codes "unvbox"
unboxing_text Vertical Copy = codes "unvcopy"

-- A field that writes a number with this unit: its value is that of the same number in points, and fits.
abbrev pub IsNumberOf : List ℕ → List ℕ → ℤ → Type 0
IsNumberOf unit field z = (number : List ℕ) × (field ≡ number ++ unit) × IsDimension (number ++ codes "pt") z

-- A field that writes this stretch or shrink of this order: a dimension for order normal, otherwise a number with a unit of its own
-- (TeX: The Program, part 26, scan_glue).
abbrev pub IsAmount : List ℕ → Order → ℤ → Type 0
IsAmount field Normal z = IsDimension field z
IsAmount field Fil z = IsNumberOf (codes "fil") field z
IsAmount field Fill z = IsNumberOf (codes "fill") field z
IsAmount field Filll z = IsNumberOf (codes "filll") field z

-- The stretch or shrink of glue after its word: nothing for 0 of order normal, or the word and an amount.
abbrev pub IsGluePart : List ℕ → List (List ℕ) → Order → ℤ → Type 0
IsGluePart word fields order z =
    ((fields ≡ []) × (order ≡ Normal) × (z ≡ pos 0))
    ⊎ ((x : List ℕ) × (fields ≡ word ∷ x ∷ []) × IsAmount x order z)

-- Fields that write this glue: its width, and its stretch, its shrink or both.
abbrev pub IsGlue : List (List ℕ) → glues.Glue → Type 0
IsGlue fields glue =
    (d : List ℕ) × (plus : List (List ℕ)) × (minus : List (List ℕ)) × (fields ≡ d ∷ (plus ++ minus))
    × IsDimension d glue.width × IsGluePart (codes "plus") plus glue.stretch_order glue.stretch
    × IsGluePart (codes "minus") minus glue.shrink_order glue.shrink

-- A word and the fields after it give this parameter.
abbrev pub SaysParameter : (word : List ℕ) → List (List ℕ) → Parameter → Type 0
SaysParameter word fields (parameters.Size name z) = (d : List ℕ) × (size_name word ≡ Some name) × (fields ≡ d ∷ []) × IsDimension d z
SaysParameter word fields (parameters.Skip name glue) = (skip_name word ≡ Some name) × IsGlue fields glue
SaysParameter word fields (parameters.Number name z) = (p : List ℕ) × (number_name word ≡ Some name) × (fields ≡ p ∷ []) × IsPenalty p z
SaysParameter word fields (parameters.FirstLines n) = (l : List ℕ) × (word ≡ first_lines_text) × (fields ≡ l ∷ []) × IsFirstLines l n

-- The fields of a line give this command. The text of a line of `text` or of `special` is not cut into fields.
abbrev pub SaysCommand : List (List ℕ) → Command → Type 0
SaysCommand fields (LoadFont load) =
    (s : List ℕ) × (more : List (List ℕ)) × (fields ≡ codes "font" ∷ s ∷ load.name ∷ more)
    × IsSlot s load.slot × IsName load.name × IsChosenSize more load.size
SaysCommand fields (UseFont n) = (s : List ℕ) × (fields ≡ codes "use" ∷ s ∷ []) × IsSlot s n
SaysCommand fields (Open opening) =
    (size : List (List ℕ)) × (into : List (List ℕ)) × (fields ≡ form_text opening.form ∷ (size ++ into))
    × IsTarget size opening.target × IsDestination into opening.into
SaysCommand fields Paragraph = fields ≡ codes "par" ∷ []
SaysCommand fields End = fields ≡ codes "end" ∷ []
SaysCommand fields (Text text) = ⊥
SaysCommand fields (Character n) = (c : List ℕ) × (fields ≡ codes "char" ∷ c ∷ []) × IsCharacterCode c n
SaysCommand fields (Rule sizes) =
    (w : List ℕ) × (h : List ℕ) × (d : List ℕ) × (fields ≡ codes "rule" ∷ w ∷ h ∷ d ∷ [])
    × IsRuleSizeField w sizes.width × IsRuleSizeField h sizes.height × IsRuleSizeField d sizes.depth
SaysCommand fields (Kern z) = (d : List ℕ) × (fields ≡ codes "kern" ∷ d ∷ []) × IsDimension d z
SaysCommand fields (Glue glue) = (more : List (List ℕ)) × (fields ≡ codes "glue" ∷ more) × IsGlue more glue
SaysCommand fields (Penalty z) = (p : List ℕ) × (fields ≡ codes "penalty" ∷ p ∷ []) × IsPenalty p z
SaysCommand fields (Append box_use) =
    (r : List ℕ) × (shift : List (List ℕ)) × (fields ≡ taking_text box_use.taking ∷ r ∷ shift) × IsRegister r box_use.register
    × IsShift shift box_use.shift
SaysCommand fields (Unbox unboxing) = (r : List ℕ) × (fields ≡ unboxing_text unboxing.kind unboxing.taking ∷ r ∷ []) × IsRegister r unboxing.register
SaysCommand fields (LastBox n) = (r : List ℕ) × (fields ≡ codes "lastbox" ∷ r ∷ []) × IsRegister r n
SaysCommand fields (Split splitting) =
    (r : List ℕ) × (d : List ℕ) × (q : List ℕ) × (fields ≡ codes "vsplit" ∷ r ∷ codes "to" ∷ d ∷ codes "into" ∷ q ∷ [])
    × IsRegister r splitting.register × IsDimension d splitting.height × IsRegister q splitting.into
SaysCommand fields (Measure n) = (r : List ℕ) × (fields ≡ codes "measure" ∷ r ∷ []) × IsRegister r n
SaysCommand fields (Void n) = (r : List ℕ) × (fields ≡ codes "void" ∷ r ∷ []) × IsRegister r n
SaysCommand fields (Set parameter) =
    (word : List ℕ) × (more : List (List ℕ)) × (fields ≡ codes "set" ∷ word ∷ more) × SaysParameter word more parameter
SaysCommand fields (Count counting) =
    (i : List ℕ) × (n : List ℕ) × (fields ≡ codes "count" ∷ i ∷ n ∷ []) × IsCountNumber i counting.count × IsCount n counting.value
SaysCommand fields (Special text) = ⊥
SaysCommand fields (Ship n) = (r : List ℕ) × (fields ≡ codes "ship" ∷ r ∷ []) × IsRegister r n
