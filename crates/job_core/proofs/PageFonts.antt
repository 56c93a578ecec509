-- The glyphs of a box that a job ships have the widths of their fonts.
use Rattle.std.proofs.Common.{◌≡◌, ℕ, ◌<◌, List, refl, ap}
use Rattle.std.specs.Prelude.{pos, Option, Some, None}
use Rattle.std.specs.Option.{option_map}
use Rattle.scaled_core.specs.declared.sizes.Sizes.{Sizes}
use Rattle.tfm_core.specs.NamedBytes.{NamedBytes}
use Rattle.node_core.specs.declared.tree.BoxNode.{BoxNode}
use Rattle.node_core.specs.Items.{Leaf, glyph, font_kern, kern, glue, penalty, rule, special}
use Rattle.ship_core.specs.Shown.{HasWidth}
use Rattle.tfm_core.specs.declared.slots.LoadedFont.{LoadedFont}
use Rattle.tfm_core.specs.Slots.{Slots, font_in}
use Rattle.dvi_write.specs.Shippable.{slot_widths, IsShippable}
use Rattle.node_core.proofs.Leaves.{each_leaf}
use Rattle.job_machine.specs.Private.FontSlots.{glyph_by}
use Rattle.job_state.specs.Private.Loaded.{AreLoaded}
use Rattle.job_state.specs.Private.Sized.{IsSizedLeaf, IsSoundBox}
use Rattle.job_state.proofs.LoadedFonts.{loaded_in, code_small}

module _ (files : List NamedBytes) (fonts : Slots) (loaded : AreLoaded files fonts) where
  glyph_width : (s code : ℕ) (size : Sizes) (x : Option LoadedFont) → font_in fonts s ≡ x → glyph_by x code ≡ Some size
      → (slot_widths fonts (pos s) (pos code) ≡ Some size.width) × ((s < 256) × (code < 256))
  glyph_width s code size None is sized = cc
  glyph_width s code size (Some l) is sized =
      let of = loaded_in files fonts s l loaded is in
      (rw is (ap (option_map (λ (g : Sizes). g.width)) sized), (of.1, code_small files l code size of.0 sized))

  has_width : (x : Leaf) → IsSizedLeaf fonts x → HasWidth (slot_widths fonts) x
  has_width (glyph g) sized = glyph_width g.slot g.code _ (font_in fonts g.slot) refl sized
  has_width (font_kern width) sized = tt
  has_width (kern width) sized = tt
  has_width (glue g) sized = tt
  has_width (penalty p) sized = tt
  has_width (rule sizes) sized = tt
  has_width (special text) sized = tt

  -- A sound box may be shipped.
  pub shippable : (b : BoxNode) → IsSoundBox fonts b → IsShippable fonts b
  shippable b sound =
      record { glyphs = each_leaf (IsSizedLeaf fonts) (HasWidth (slot_widths fonts)) has_width b.list sound.glyphs; depth = sound.depth }
