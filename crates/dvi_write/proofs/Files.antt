-- The bytes that the writer writes for pages are a DVI file of them.
use Rattle.std.proofs.Common.{◌≡◌, ℕ, ◌+◌, ◌<◌, ◌≤◌, ◌^◌, List, [], ◌∷◌, length, map, refl, ap, sym, ◌∙◌, subst, arith}
use Rattle.std.specs.Prelude.{ℤ, pos, negsuc, ◌+ℤ◌, ◌<ℤ◌, true, Option, Some, None, is_some, IsSome}
use Rattle.std.specs.List.{AllByRecursion, list_any}
use Rattle.std.specs.Option.{option_map}
use Rattle.std.proofs.lemmas.Int.{ints, clamps}
use Rattle.scaled_core.specs.Dimensions.{Within}
use Rattle.scaled_core.proofs.Fitting.{fits_within}
use Rattle.tfm_core.specs.FileWidths.{width_at}
use Rattle.node_core.specs.Items.{Leaf, Items, glyph, font_kern, kern, glue, penalty, rule, special, EachLeaf}
use Rattle.dvi_ops.specs.Forest.{flat}
use Rattle.dvi_ops.specs.Instruction.{Definition}
use Rattle.dvi_ops.specs.Fonts.{WidthsByName, selections, first_definition_of, known_after, widths_in as font_by, width_in}
use Rattle.dvi_ops.specs.File.{IsFile, IsFileOfPages}
use Rattle.dvi_ops.specs.Spelling.{NumberFits}
use Rattle.dvi_ops.specs.Layout.{Table, WriterKnowledge, after_preamble, after_all, bytes_of, define, known_in, padding_after, table_widths, IsTabled, IsGood, AreGood, IsClosing}
use Rattle.dvi_ops.proofs.WholeFile.{whole_file, padding_low}
use Rattle.page_core.specs.Marks.{ShippedPage, marks_of_page, read_page}
use Rattle.ship_core.specs.Shown.{HasWidth}
use Rattle.ship_core.proofs.DrawnMarks.{number_within}
use Rattle.ship_core.proofs.DrawnPages.{HasFont, fits_down, fits_right}
use Rattle.tfm_core.specs.declared.slots.LoadedFont.{LoadedFont}
use Rattle.tfm_core.specs.Slots.{Slots, font_in, AreDefinable}
use Rattle.dvi_write.specs.FilePages.{written_body, definition_of, definitions_of, fresh_slots, in_rising_order, selects, file_page_of, slots_after}
use Rattle.dvi_write.specs.SoFar.{ProgressView, nothing_so_far, so_far_from, so_far_of, with_next, closing_so_far}
use Rattle.dvi_write.specs.Layout.{file_pages_of, whole}
use Rattle.dvi_write.specs.Shippable.{slot_font_widths, slot_widths, IsRightPage, GivesFonts}
use Rattle.dvi_write.proofs.DefinedFonts.{AreKnown, HasSelected, none_known, known_next, selected_known, each_selected, each_of, rising_among, listed_at, defined_among, holds_selected}
use Rattle.node_core.proofs.Leaves.{each_leaf}
use Rattle.dvi_write.proofs.NextPages.{layout-is, whole-laid_out}
use Rattle.dvi_write.proofs.Spaces.{definable_in}
use Rattle.dvi_write.proofs.WrittenBodies.{selections_written, shown_written, writable_written, definitions-written, nests_written}

-- The definitions of the fonts in slots by their numbers.
abbrev pub table_of : Slots → Table
table_of fonts (pos slot) = option_map (definition_of slot) (font_in fonts slot)
table_of fonts (negsuc n) = None

-- The definition of a font in a slot is that of the table.
pub tabled : (fonts : Slots) → AreDefinable fonts → (s : ℕ) (l : LoadedFont) → font_in fonts s ≡ Some l → IsTabled (table_of fonts) (definition_of s l)
tabled fonts definable s l has =
    let of = definable_in fonts s l definable has in
    let numbers = of.0.numbers in
    record {
      listed = ap (option_map (definition_of s)) has;
      size = (numbers.size.positive, numbers.size.below);
      writable = (
        (omega arith, of.0.name.few),
        (record { sfits = omega (arith, ints, of.1) }, numbers.check_sum, size_fits _ numbers.size.positive numbers.size.below, size_fits _ numbers.design_size.positive numbers.design_size.below),
      );
    }
  where
    size_fits : (z : ℤ) → pos 0 <ℤ z → z <ℤ pos (2 ^ 27) → NumberFits z
    size_fits (pos n) positive below = record { sfits = omega (arith, ints, below) }
    size_fits (negsuc n) positive below = record { sfits = omega (arith, ints, positive) }

-- A number is that of a slot with a font.
pub record IsSlot (fonts : Slots) (f : ℤ) : Type 0 where
  pub slot : ℕ
  pub loaded : LoadedFont
  pub is : f ≡ pos slot
  pub small : slot < 256
  pub has : font_in fonts slot ≡ Some loaded

slot_of : (fonts : Slots) (s : ℕ) (c w : ℤ) (x : Option LoadedFont) → font_in fonts s ≡ x → width_in (slot_font_widths x) c ≡ Some w → s < 256 → IsSlot fonts (pos s)
slot_of fonts s c w None is sized small = cc
slot_of fonts s c w (Some l) is sized small = record { slot = s; loaded = l; is = refl; small = small; has = is }

has_font : (fonts : Slots) (x : Leaf) → HasWidth (slot_widths fonts) x → HasFont (IsSlot fonts) x
has_font fonts (glyph g) sized = slot_of fonts g.slot (pos g.code) g.width (font_in fonts g.slot) refl sized.0 sized.1.0
has_font fonts (font_kern width) sized = tt
has_font fonts (kern width) sized = tt
has_font fonts (glue g) sized = tt
has_font fonts (penalty p) sized = tt
has_font fonts (special text) sized = tt
has_font fonts (rule sizes) sized = tt

-- Each font that a page selects is in its slot.
selected_slots : (fonts : Slots) (page : ShippedPage) → EachLeaf (HasWidth (slot_widths fonts)) page.box_node.list → AllByRecursion (IsSlot fonts) (selections (flat (written_body page)))
selected_slots fonts page sized =
    selections_written (IsSlot fonts) page (each_leaf (HasWidth (slot_widths fonts)) (HasFont (IsSlot fonts)) (has_font fonts) page.box_node.list sized)

pub has_selected : (fonts : Slots) (page : ShippedPage) → EachLeaf (HasWidth (slot_widths fonts)) page.box_node.list → HasSelected fonts (flat (written_body page))
has_selected fonts page sized s selected =
    let of = holds_selected (IsSlot fonts) (flat (written_body page)) (selected_slots fonts page sized) s selected in
    let same : s ≡ of.slot = cc (of.is) in
    ap is_some (ap (font_in fonts) same ∙ of.has)

module _ (metrics : WidthsByName) (fonts : Slots) (gives : GivesFonts metrics fonts) where
  -- The metrics give the widths of a font.
  font_measured : (s : ℕ) (l : LoadedFont) → font_in fonts s ≡ Some l → font_by metrics (table_of fonts (pos s)) ≡ Some (width_at l.font)
  font_measured s l has = ap (λ x. font_by metrics (option_map (definition_of s) x)) has ∙ gives s l has

  glyph_width : (s : ℕ) (c w : ℤ) (x : Option LoadedFont) → font_in fonts s ≡ x → width_in (slot_font_widths x) c ≡ Some w → table_widths metrics (table_of fonts) (pos s) c ≡ Some w
  glyph_width s c w None is sized = cc
  glyph_width s c w (Some l) is sized = ap (λ widths. width_in widths c) (font_measured s l is) ∙ sized

  has_width : (x : Leaf) → HasWidth (slot_widths fonts) x → HasWidth (table_widths metrics (table_of fonts)) x
  has_width (glyph g) sized = (glyph_width g.slot (pos g.code) g.width (font_in fonts g.slot) refl sized.0, sized.1)
  has_width (font_kern width) sized = tt
  has_width (kern width) sized = tt
  has_width (glue g) sized = tt
  has_width (penalty p) sized = tt
  has_width (special text) sized = tt
  has_width (rule sizes) sized = tt

  have_widths : (items : Items) → EachLeaf (HasWidth (slot_widths fonts)) items → EachLeaf (HasWidth (table_widths metrics (table_of fonts))) items
  have_widths items sized = each_leaf (HasWidth (slot_widths fonts)) (HasWidth (table_widths metrics (table_of fonts))) has_width items sized

  module _ (definable : AreDefinable fonts) where
    -- A page can be written after the known definitions, and shows its marks.
    page_good : (slots : List ℕ) (known : List Definition) (page : ShippedPage) → AreKnown fonts slots known → IsRightPage fonts page
        → IsGood metrics (table_of fonts) known (file_page_of fonts slots page) (marks_of_page page)
    page_good slots known page knows right =
        let widths = have_widths page.box_node.list right.sound.glyphs in
        let is = flat (written_body page) in
        let shown = shown_written (table_widths metrics (table_of fonts)) page right.small widths in
        record {
          ten = right.ten;
          counts_fit = right.counts_fit;
          fresh = each_of (IsTabled (table_of fonts)) fonts (fresh_slots fonts slots is) (λ s l among has. tabled fonts definable s l has);
          writable = writable_written (table_widths metrics (table_of fonts)) page right.small widths (omega (arith, right.text));
          plain = definitions-written page;
          chosen =
              each_selected (IsSlot fonts) (λ f. IsSome (first_definition_of f (known_after known (define (definitions_of fonts (fresh_slots fonts slots is)))))) is
              (λ s. list_any (selects s) is) (λ s e. e)
              (λ f of. (
                of.slot,
                of.is,
                λ e. subst (λ z. IsSome (first_definition_of z (known_after known (define (definitions_of fonts (fresh_slots fonts slots is)))))) (sym of.is)
                    (selected_known fonts slots is known knows of.slot of.loaded e of.small of.has),
              ))
              (selected_slots fonts page right.sound.glyphs);
          measured =
              each_selected (IsSlot fonts) (λ f. IsSome (font_by metrics (table_of fonts f))) is (λ s. true) (λ s e. refl)
              (λ f of. (of.slot, of.is, λ e. ap (λ z. is_some (font_by metrics (table_of fonts z))) of.is ∙ ap is_some (font_measured of.slot of.loaded of.has)))
              (selected_slots fonts page right.sound.glyphs);
          shallow = omega (arith, nests_written page, right.sound.depth);
          last = shown.0;
          shows = shown.1;
        }

    pages_good : (slots : List ℕ) (known : List Definition) (pages : List ShippedPage) → AreKnown fonts slots known → AllByRecursion (IsRightPage fonts) pages
        → AreGood metrics (table_of fonts) known (file_pages_of fonts slots pages) (map read_page pages)
    pages_good slots known [] knows all = tt
    pages_good slots known (page ∷ pages) knows (here, all) = (
      refl,
      page_good slots known page knows here,
      pages_good (slots_after fonts slots page) (known_after known (define (file_page_of fonts slots page).fresh)) pages (known_next fonts slots (flat (written_body page)) known knows) all,
    )

-- The known definitions after pages.
known_after_pages : (fonts : Slots) (s : ProgressView) (known : List Definition) (pages : List ShippedPage) → AreKnown fonts s.defined known
    → AreKnown fonts (so_far_from fonts s pages).defined (known_in known (file_pages_of fonts s.defined pages))
unfolding with_next
known_after_pages fonts s known [] knows = knows
known_after_pages fonts s known (page ∷ pages) knows =
    known_after_pages fonts (with_next fonts s page) (known_after known (define (file_page_of fonts s.defined page).fresh)) pages (known_next fonts s.defined (flat (written_body page)) known knows)

-- The definitions of the postamble are right, and include all known ones.
all_closing : (fonts : Slots) (slots : List ℕ) (known : List Definition) → AreDefinable fonts → AreKnown fonts slots known
    → IsClosing (table_of fonts) known (definitions_of fonts (in_rising_order slots))
all_closing fonts slots known definable knows = record {
  tabled = each_of (IsTabled (table_of fonts)) fonts (in_rising_order slots) (λ s l among has. tabled fonts definable s l has);
  each = λ f some.
      let at = listed_at fonts slots known f knows.back some in
      let listed = at.2 in
      subst (λ z. IsSome (first_definition_of z (definitions_of fonts (in_rising_order slots)))) (sym (at.1 ∙ ap (λ (d : Definition). d.number) listed.is))
      (defined_among fonts listed.slot listed.loaded (in_rising_order slots) listed.has (rising_among slots listed.slot listed.among listed.small));
}

-- The greatest sizes are within the range of a dimension.
abbrev AreWithin : ℤ → ℤ → Type 0
AreWithin tall wide = Within 1073741823 tall × Within 1073741823 wide

reach_within : (fonts : Slots) (s : ProgressView) (pages : List ShippedPage) → AllByRecursion (IsRightPage fonts) pages → AreWithin s.tall s.wide
    → AreWithin (so_far_from fonts s pages).tall (so_far_from fonts s pages).wide
unfolding with_next
reach_within fonts s [] all both = both
reach_within fonts s (page ∷ pages) (here, all) (tall, wide) =
    let down = fits_within (page.v +ℤ page.box_node.depth) (fits_down page here.small) in
    let right = fits_within (page.h +ℤ page.box_node.width) (fits_right page here.small) in
    reach_within fonts (with_next fonts s page) pages all (
      record { low = omega (arith, ints, clamps, tall.low, down.low); high = omega (arith, ints, clamps, tall.high, down.high) },
      record { low = omega (arith, ints, clamps, wide.low, right.low); high = omega (arith, ints, clamps, wide.high, right.high) },
    )

first_within : AreWithin (pos 0) (pos 0)
first_within = (record { low = omega (arith, ints); high = omega (arith, ints) }, record { low = omega (arith, ints); high = omega (arith, ints) })

pub tall_fits : (fonts : Slots) (pages : List ShippedPage) → AllByRecursion (IsRightPage fonts) pages → NumberFits (so_far_of fonts pages).tall
tall_fits fonts pages all = number_within _ (reach_within fonts nothing_so_far pages all first_within).0

pub wide_fits : (fonts : Slots) (pages : List ShippedPage) → AllByRecursion (IsRightPage fonts) pages → NumberFits (so_far_of fonts pages).wide
wide_fits fonts pages all = number_within _ (reach_within fonts nothing_so_far pages all first_within).1

-- The size of the layout is that of its file pages.
pub small_layout : (fonts : Slots) (pages : List ShippedPage) → (so_far_of fonts pages).layout.size < 2 ^ 31 → (after_all after_preamble (file_pages_of fonts [] pages)).size < 2 ^ 31
small_layout fonts pages small = subst (λ (w : WriterKnowledge). w.size < 2 ^ 31) (layout-is fonts nothing_so_far pages) small

-- The file of pages is a DVI file of them.
pub file_shows : (metrics : WidthsByName) (fonts : Slots) (pages : List ShippedPage) → GivesFonts metrics fonts → AreDefinable fonts → AllByRecursion (IsRightPage fonts) pages
    → (so_far_of fonts pages).layout.size < 2 ^ 31 → IsFileOfPages metrics (whole fonts pages) (map read_page pages)
unfolding whole
file_shows metrics fonts [] gives definable all small = refl
file_shows metrics fonts (page ∷ pages) gives definable all small =
    let shipped = page ∷ pages in
    let s = so_far_of fonts shipped in
    let padding = padding_after (s.layout.size + length (bytes_of (closing_so_far fonts s))) in
    subst (λ (bytes : List ℕ). IsFile metrics bytes (map read_page shipped)) (sym (whole-laid_out fonts shipped (λ is. cc)))
    (whole_file metrics (table_of fonts) (file_pages_of fonts [] shipped) (map read_page shipped) s.tall s.wide (definitions_of fonts (in_rising_order s.defined)) padding
    (pages_good metrics fonts gives definable [] [] shipped (none_known fonts) all)
    (all_closing fonts s.defined (known_in [] (file_pages_of fonts [] shipped)) definable (known_after_pages fonts nothing_so_far [] shipped (none_known fonts)))
    (tall_fits fonts shipped all) (wide_fits fonts shipped all) (small_layout fonts shipped small) (padding_low (s.layout.size + length (bytes_of (closing_so_far fonts s)))))
