-- What is written for a page: its body, and the definitions of the fonts that it selects and that are not defined yet (own; DVItype, 15 and 18).
use Rattle.std.specs.Prelude.{◌++◌, ◌==◌, ◌&&◌, not, [], ◌∷◌, ℕ, zero, suc, pos, Bool, false, List, Option, Some, None, is_some, filter}
use Rattle.std.specs.Ordering.{int_eq}
use Rattle.std.specs.List.{flat_map, list_any}
use Rattle.dvi_ops.specs.Instruction.{Definition, FontNum, Instruction, Do}
use Rattle.dvi_ops.specs.Forest.{Forest, flat}
use Rattle.dvi_ops.specs.Layout.{FilePage}
use Rattle.page_core.specs.Marks.{ShippedPage}
use Rattle.ship_core.specs.Drawing.{body_of}
use Rattle.move_core.specs.Reused.{reused_body}
use Rattle.tfm_core.specs.declared.slots.LoadedFont.{LoadedFont}
use Rattle.tfm_core.specs.declared.slots.TheConstants.{FONT_SLOTS}
use Rattle.tfm_core.specs.Slots.{Slots, font_in}

-- The body of a page as it is written: without empty groups, and with movements by w, x, y and z where their amounts come again. Only this body is
-- written; the plan of the page stays `body_of`.
abbrev pub written_body : ShippedPage → Forest
written_body page = reused_body (body_of page)

-- The definition of a font: its number is its slot, and its name has no area (DVItype, 18).
abbrev pub definition_of : ℕ → LoadedFont → Definition
definition_of slot loaded =
    record {
      number = pos slot;
      check_sum = loaded.font.check_sum;
      size = loaded.font.size;
      design_size = loaded.font.design_size;
      area = [];
      name = loaded.name;
    }

-- The definition of the font in a slot, if it has one.
abbrev pub definition_by : ℕ → Option LoadedFont → List Definition
definition_by slot None = []
definition_by slot (Some loaded) = definition_of slot loaded ∷ []

-- The definitions of the fonts in these slots, in order.
abbrev pub definitions_of : Slots → List ℕ → List Definition
definitions_of fonts slots = flat_map (λ slot. definition_by slot (font_in fonts slot)) slots

-- The numbers below n, in rising order.
abbrev pub numbers_below : ℕ → List ℕ
numbers_below zero = []
numbers_below (suc n) = numbers_below n ++ n ∷ []

-- Whether an instruction selects the font of a slot.
abbrev pub selects : ℕ → Instruction → Bool
selects slot (Do (FontNum font)) = int_eq font (pos slot)
selects slot i = false

-- Whether a slot is among others.
abbrev pub is_among : ℕ → List ℕ → Bool
is_among slot slots = list_any (λ other. other == slot) slots

-- The font of a slot is selected by these instructions, and is not defined yet.
unfoldable pub is_fresh : Slots → (defined : List ℕ) → List Instruction → ℕ → Bool
is_fresh fonts defined is slot = is_some (font_in fonts slot) && (not (is_among slot defined) && list_any (selects slot) is)

-- The slots of the fonts that these instructions select and that are not defined yet, in rising order.
unfoldable pub fresh_slots : Slots → (defined : List ℕ) → List Instruction → List ℕ
fresh_slots fonts defined is = filter (is_fresh fonts defined is) (numbers_below FONT_SLOTS)

-- The slots of the fonts that are defined, in rising order.
unfoldable pub in_rising_order : (defined : List ℕ) → List ℕ
in_rising_order defined = filter (λ slot. is_among slot defined) (numbers_below FONT_SLOTS)

-- The input to the layout for a page, where the fonts of these slots are defined before it.
abbrev pub file_page_of : Slots → (defined : List ℕ) → ShippedPage → FilePage
file_page_of fonts defined page =
    record { counts = page.counts; fresh = definitions_of fonts (fresh_slots fonts defined (flat (written_body page))); body = written_body page }

-- The defined slots after a page, where these are defined before it.
abbrev pub slots_after : Slots → (defined : List ℕ) → ShippedPage → List ℕ
slots_after fonts defined page = defined ++ fresh_slots fonts defined (flat (written_body page))
