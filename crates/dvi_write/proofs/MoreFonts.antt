-- The layout of pages is the same with more fonts.
use Rattle.std.proofs.Common.{◌≡◌, ℕ, List, [], ◌∷◌, ◌++◌, refl, ap, ap₂, ◌∙◌}
use Rattle.std.specs.Prelude.{◌+◌, ℤ, pos, Option, Some, None}
use Rattle.std.specs.Int.{int_max}
use Rattle.std.specs.List.{AllByRecursion}
use Rattle.node_core.specs.declared.tree.BoxNode.{BoxNode}
use Rattle.node_core.specs.Loads.{load_with_box}
use Rattle.node_core.specs.Items.{Leaf, glyph, font_kern, kern, glue, penalty, rule, special}
use Rattle.dvi_ops.specs.Forest.{flat}
use Rattle.dvi_ops.specs.Instruction.{Definition}
use Rattle.dvi_ops.specs.Layout.{FilePage, knowledge_after, front_of}
use Rattle.dvi_ops.specs.Fonts.{width_in}
use Rattle.scaled_core.proofs.EachOf.{all_weaker}
use Rattle.page_core.specs.Marks.{ShippedPage}
use Rattle.page_core.specs.Pages.{reach_down, reach_right}
use Rattle.ship_core.specs.Shown.{HasWidth}
use Rattle.tfm_core.specs.declared.slots.LoadedFont.{LoadedFont}
use Rattle.tfm_core.specs.Slots.{Slots, font_in}
use Rattle.dvi_write.specs.MoreFonts.{Extends}
use Rattle.dvi_write.specs.FilePages.{written_body, definitions_of, fresh_slots, file_page_of, slots_after}
use Rattle.dvi_write.specs.Layout.{file_pages_of, unfinished_file}
use Rattle.dvi_write.specs.Shippable.{slot_font_widths, slot_widths, IsShippable, IsRightPage}
use Rattle.dvi_write.specs.SoFar.{ProgressView, nothing_so_far, so_far_from, so_far_of, with_next}
use Rattle.dvi_write.proofs.DefinedFonts.{fresh_parts, among_fresh, fresh_same, definitions_same}
use Rattle.dvi_write.proofs.Files.{has_selected}
use Rattle.node_core.proofs.Leaves.{each_leaf}

module _ (fonts more : Slots) (extends : Extends fonts more) where
  width_kept : (slot : ℕ) (c w : ℤ) (held : Option LoadedFont) → font_in fonts slot ≡ held → width_in (slot_font_widths held) c ≡ Some w → slot_widths more (pos slot) c ≡ Some w
  width_kept slot c w None at is = cc
  width_kept slot c w (Some l) at is = ap (λ (held : Option LoadedFont). width_in (slot_font_widths held) c) (extends slot l at) ∙ is

  leaf_kept : (x : Leaf) → HasWidth (slot_widths fonts) x → HasWidth (slot_widths more) x
  leaf_kept (glyph g) has = (width_kept g.slot (pos g.code) g.width (font_in fonts g.slot) refl has.0, has.1)
  leaf_kept (font_kern width) has = tt
  leaf_kept (kern width) has = tt
  leaf_kept (glue g) has = tt
  leaf_kept (penalty p) has = tt
  leaf_kept (special text) has = tt
  leaf_kept (rule sizes) has = tt

  -- A box that may be shipped may be shipped with more fonts.
  pub shippable_more : (b : BoxNode) → IsShippable fonts b → IsShippable more b
  shippable_more b sound =
      record { glyphs = each_leaf (HasWidth (slot_widths fonts)) (HasWidth (slot_widths more)) leaf_kept b.list sound.glyphs; depth = sound.depth }

  right_more : (page : ShippedPage) → IsRightPage fonts page → IsRightPage more page
  right_more page right = record { ten = right.ten; counts_fit = right.counts_fit; small = right.small; text = right.text; sound = shippable_more page.box_node right.sound }

  pub pages_more : (pages : List ShippedPage) → AllByRecursion (IsRightPage fonts) pages → AllByRecursion (IsRightPage more) pages
  pages_more pages all = all_weaker (IsRightPage fonts) (IsRightPage more) pages right_more all

  fresh_more : (slots : List ℕ) (page : ShippedPage) → IsRightPage fonts page → fresh_slots fonts slots (flat (written_body page)) ≡ fresh_slots more slots (flat (written_body page))
  fresh_more slots page right = fresh_same fonts more slots (flat (written_body page)) extends (has_selected fonts page right.sound.glyphs)

  -- What is written for a page is the same, and so are the slots after it.
  after_more : (slots : List ℕ) (page : ShippedPage) → IsRightPage fonts page → slots_after fonts slots page ≡ slots_after more slots page
  after_more slots page right = ap (λ fresh. slots ++ fresh) (fresh_more slots page right)

  file_page_more : (slots : List ℕ) (page : ShippedPage) → IsRightPage fonts page → file_page_of fonts slots page ≡ file_page_of more slots page
  file_page_more slots page right =
      let is = flat (written_body page) in
      ap (λ (ds : List Definition). record { counts = page.counts; fresh = ds; body = written_body page })
      (definitions_same fonts more (fresh_slots fonts slots is) extends (λ s among. (fresh_parts fonts slots is s (among_fresh fonts slots is s among).0).0)
      ∙ ap (definitions_of more) (fresh_more slots page right))

  file_pages_more : (slots : List ℕ) (pages : List ShippedPage) → AllByRecursion (IsRightPage fonts) pages → file_pages_of fonts slots pages ≡ file_pages_of more slots pages
  file_pages_more slots [] all = refl
  file_pages_more slots (page ∷ pages) (here, all) =
      ap₂ (λ (file_page : FilePage) (file_pages : List FilePage). file_page ∷ file_pages) (file_page_more slots page here)
      (file_pages_more (slots_after fonts slots page) pages all ∙ ap (λ slots. file_pages_of more slots pages) (after_more slots page here))

  -- The bytes up to the last eop are the same, and so are the kept numbers.
  pub front_more : (pages : List ShippedPage) → AllByRecursion (IsRightPage fonts) pages → unfinished_file fonts pages ≡ unfinished_file more pages
  unfolding unfinished_file
  front_more [] all = refl
  front_more (page ∷ pages) all = ap front_of (file_pages_more [] (page ∷ pages) all)

  next_more : (s : ProgressView) (page : ShippedPage) → IsRightPage fonts page → with_next fonts s page ≡ with_next more s page
  unfolding with_next
  next_more s page right =
      let made : FilePage → List ℕ → ProgressView =
      λ file_page slots. record {
        layout = knowledge_after s.layout file_page;
        defined = slots;
        tall = int_max s.tall (reach_down page);
        wide = int_max s.wide (reach_right page);
        pages = s.pages + 1;
        load = load_with_box s.load page.box_node;
      } in
      ap₂ made (file_page_more s.defined page right) (after_more s.defined page right)

  kept_more : (s : ProgressView) (pages : List ShippedPage) → AllByRecursion (IsRightPage fonts) pages → so_far_from fonts s pages ≡ so_far_from more s pages
  kept_more s [] all = refl
  kept_more s (page ∷ pages) (here, all) = kept_more (with_next fonts s page) pages all ∙ ap (λ (t : ProgressView). so_far_from more t pages) (next_more s page here)

  pub so_far_more : (pages : List ShippedPage) → AllByRecursion (IsRightPage fonts) pages → so_far_of fonts pages ≡ so_far_of more pages
  so_far_more pages all = kept_more nothing_so_far pages all
