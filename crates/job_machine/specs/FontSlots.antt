-- The fonts of a job by their slots, and the items that characters become in one of them (own; after TeX: The Program, parts 30 and 46).
use Rattle.std.specs.Prelude.{[], ◌∷◌, ℕ, ℤ, List, Option, Some, None, Result, Ok, Err, if◌then◌else◌, slice_set}
use Rattle.tfm_core.specs.declared.fault.TfmCause.{TfmCause}
use Rattle.tfm_core.specs.NamedBytes.{NamedBytes}
use Rattle.tfm_core.specs.MetricFile.{MetricFile}
use Rattle.tfm_core.specs.Rules.{metric_file}
use Rattle.tfm_core.specs.Fonts.{SizedFont, chosen_size, fits_at, font_at, glyph_of, step_of}
use Rattle.shape_core.specs.Shaping.{shaped_items, shaped_missing}
use Rattle.shape_core.specs.Texts.{text_items, text_missing}
use Rattle.shape_core.specs.Spaces.{space_glue}
use Rattle.node_core.specs.declared.tree.Node.{Node}
use Rattle.tfm_core.specs.declared.slots.LoadedFont.{LoadedFont}
use Rattle.tfm_core.specs.Slots.{Slots, font_in}
use Rattle.job_machine.specs.declared.replies.Refusal.{Refusal}
use Rattle.job_machine.specs.declared.replies.Refusal.TheVariants.{NoFont, BadTfm, DimensionTooLarge}

-- The current font: none before a `use`.
abbrev pub current_font : Slots → Option ℕ → Option LoadedFont
current_font fonts None = None
current_font fonts (Some slot) = font_in fonts slot

-- The font that a metric file gives at a size, or at its design size where none is given; or why it gives none.
abbrev pub sized_font : Result MetricFile TfmCause → Option ℤ → Result SizedFont Refusal
sized_font (Err cause) size = Err (BadTfm cause)
sized_font (Ok file) size = if fits_at file (chosen_size file size) then Ok (font_at file (chosen_size file size)) else Err DimensionTooLarge

-- The font that a font file gives, or why there is none.
abbrev pub font_of_slot : Option NamedBytes → Option ℤ → Result SizedFont Refusal
font_of_slot None size = Err NoFont
font_of_slot (Some file) size = sized_font (metric_file file.bytes) size

-- The slots with a font of that name in one of them. They are unchanged where the font was refused.
abbrev pub with_font : Slots → ℕ → List ℕ → Result SizedFont Refusal → Slots
with_font fonts slot name (Err refusal) = fonts
with_font fonts slot name (Ok font) = slice_set fonts slot (Some (record { name = name; font = font }))

-- What characters become: the items that they add, and how many of them the font lacks.
pub record CharacterItems : Type 0 where
  pub items : List Node
  pub missing : ℕ

-- What characters become without a font: nothing. They are refused then.
abbrev pub no_characters : CharacterItems
no_characters = record { items = []; missing = 0 }

-- What a text becomes in the font of a slot.
abbrev pub text_items_in : Option LoadedFont → ℕ → List ℕ → CharacterItems
text_items_in None slot text = no_characters
text_items_in (Some loaded) slot text =
    record {
      items = text_items slot (glyph_of loaded.font) (step_of loaded.font) (space_glue loaded.font.space) text;
      missing = text_missing (glyph_of loaded.font) (step_of loaded.font) text;
    }

-- What one character becomes in the font of a slot: it is shaped as a word of its own, without kerns or ligatures to its neighbours.
abbrev pub character_in : Option LoadedFont → ℕ → ℕ → CharacterItems
character_in None slot code = no_characters
character_in (Some loaded) slot code =
    record {
      items = shaped_items slot (glyph_of loaded.font) (step_of loaded.font) (code ∷ []);
      missing = shaped_missing (glyph_of loaded.font) (step_of loaded.font) (code ∷ []);
    }

-- What a text becomes in the current font.
abbrev pub text_shaped : Slots → Option ℕ → List ℕ → CharacterItems
text_shaped fonts None text = no_characters
text_shaped fonts (Some slot) text = text_items_in (font_in fonts slot) slot text

-- What one character becomes in the current font.
abbrev pub character_shaped : Slots → Option ℕ → ℕ → CharacterItems
character_shaped fonts None code = no_characters
character_shaped fonts (Some slot) code = character_in (font_in fonts slot) slot code
