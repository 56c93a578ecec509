-- The writer's numbers are within the limits, so that every place in the file is below 2^31.
use Rattle.std.proofs.Common.{◌≡◌, ℕ, ◌+◌, ◌≤◌, ◌<◌, ◌^◌, List, [], ◌∷◌, ◌++◌, length, refl, ap, ap₂, sym, ◌∙◌, subst, arith, length-append}
use Rattle.dvi_ops.specs.Forest.{flat}
use Rattle.dvi_ops.specs.Instruction.{Instruction, Bop, Eop}
use Rattle.dvi_ops.specs.Layout.{bytes_of, define}
use Rattle.std.specs.Prelude.{Bool, true, false, Some, None, nat_le, nat_lt, if◌then◌else◌, IfSome, Result, Ok, Err, OnOk, OnErr}
use Rattle.std.proofs.lemmas.Bool.{leb-false, ltb-false}
use Rattle.node_core.specs.Items.{items_text}
use Rattle.node_core.specs.Nodes.{box_count, box_text}
use Rattle.page_core.specs.Marks.{ShippedPage, is_huge}
use Rattle.dvi_write.specs.declared.fault.WriteFault.TheVariants.{TooManyPages, TooMuchShipped, TooMuchSpecial, HugePage}
use Rattle.node_core.specs.declared.limits.TheConstants.{MAX_PAGES, MAX_SHIPPED_NODES, MAX_SHIPPED_TEXT}
use Rattle.tfm_core.specs.declared.slots.LoadedFont.{LoadedFont}
use Rattle.tfm_core.specs.Slots.{Slots, font_in, IsDefinable, AreDefinable}
use Rattle.dvi_write.specs.Shippable.{IsShippable, slot_widths}
use Rattle.dvi_write.specs.FilePages.{written_body, definitions_of, fresh_slots}
use Rattle.dvi_write.specs.SoFar.{ProgressView, nothing_so_far, opening_instructions, next_bytes, with_next}
use Rattle.dvi_write.specs.Limits.{IsWithinLimits, limit_of}
use Rattle.dvi_write.proofs.DefinedFonts.{few_defined, none_rising, defined_once}
use Rattle.scaled_core.proofs.EachOf.{each_held, held_within}
use Rattle.dvi_write.proofs.PageBytes.{HasShortNames, file_page_bytes}
use Rattle.dvi_write.proofs.WrittenBodies.{nests_written}

pub small : (s : ProgressView) → IsWithinLimits s → s.layout.size < 2 ^ 31
small s space = omega (arith, space.nodes, space.text, space.pages, space.size, few_defined s.defined space.defined)

pub first_space : IsWithinLimits nothing_so_far
first_space = record { nodes = omega arith; text = omega arith; pages = omega arith; deep = omega arith; defined = none_rising; size = omega arith }

-- The bytes of the next page.
pub next-is : (fonts : Slots) (s : ProgressView) (page : ShippedPage) (bytes slots : List ℕ) (is : List Instruction)
    → slots ≡ fresh_slots fonts s.defined (flat (written_body page)) → is ≡ flat (written_body page)
    → bytes ≡ bytes_of (opening_instructions s.pages ++ (define (definitions_of fonts slots) ++ (Bop page.counts s.layout.last ∷ (is ++ Eop ∷ [])))) → bytes ≡ next_bytes fonts s page
unfolding next_bytes
next-is fonts s page bytes slots is fresh body same =
    same
    ∙ ap₂ (λ (slots : List ℕ) (is : List Instruction). bytes_of (opening_instructions s.pages ++ (define (definitions_of fonts slots) ++ (Bop page.counts s.layout.last ∷ (is ++ Eop ∷ []))))) fresh body

-- They end before the limit.
pub next_small : (fonts : Slots) (s : ProgressView) (page : ShippedPage) (size : ℕ) (slots : List ℕ) (is : List Instruction)
    → IsWithinLimits (with_next fonts s page) → slots ≡ fresh_slots fonts s.defined (flat (written_body page)) → is ≡ flat (written_body page)
    → size ≡ length (bytes_of (define (definitions_of fonts slots) ++ (Bop page.counts s.layout.last ∷ (is ++ Eop ∷ [])))) → s.layout.size + size < 2 ^ 31
unfolding with_next
next_small fonts s page size slots is space fresh body same =
    let all = same ∙ ap₂ (λ (slots : List ℕ) (is : List Instruction). length (bytes_of (define (definitions_of fonts slots) ++ (Bop page.counts s.layout.last ∷ (is ++ Eop ∷ []))))) fresh body in
    omega (arith, small (with_next fonts s page) space, all)

-- The texts of the specials of the page can be spelled.
pub next_short : (fonts : Slots) (s : ProgressView) (page : ShippedPage) → IsWithinLimits (with_next fonts s page) → items_text page.box_node.list < 2 ^ 32
unfolding with_next
next_short fonts s page space = omega (arith, space.text)

pub next_few : (fonts : Slots) (s : ProgressView) (page : ShippedPage) (slots : List ℕ) → IsWithinLimits (with_next fonts s page) → slots ≡ fresh_slots fonts s.defined (flat (written_body page))
    → length s.defined + length slots ≤ 256
unfolding with_next
next_few fonts s page slots space fresh =
    omega (
      arith,
      few_defined (with_next fonts s page).defined space.defined,
      length-append s.defined (fresh_slots fonts s.defined (flat (written_body page))),
      ap length fresh,
    )

-- A font in a slot can be defined, and its slot is below 256.
pub definable_in : (fonts : Slots) (slot : ℕ) (loaded : LoadedFont) → AreDefinable fonts → font_in fonts slot ≡ Some loaded → IsDefinable loaded × (slot < 256)
definable_in fonts slot loaded all is =
    (each_held (λ held. IfSome held IsDefinable) fonts slot loaded all.each is, omega (arith, held_within fonts slot loaded is, all.slots))

pub short_names : (fonts : Slots) → AreDefinable fonts → HasShortNames fonts
short_names fonts all s l has = let of = definable_in fonts s l all has in (of.1, of.0.name.few)

-- The facts where no limit is exceeded, whether the page is huge or not.
pub record Admits (s : ProgressView) (page : ShippedPage) : Type 0 where
  pub pages : nat_le MAX_PAGES s.pages ≡ false
  pub nodes : nat_lt MAX_SHIPPED_NODES (s.load.nodes + box_count page.box_node) ≡ false
  pub text : nat_lt MAX_SHIPPED_TEXT (s.load.text + box_text page.box_node) ≡ false

pub admitted : (s : ProgressView) (page : ShippedPage) → limit_of s page ≡ (if is_huge page then Some HugePage else None) → Admits s page
admitted s page none =
    by_tests (nat_le MAX_PAGES s.pages) (nat_lt MAX_SHIPPED_NODES (s.load.nodes + box_count page.box_node)) (nat_lt MAX_SHIPPED_TEXT (s.load.text + box_text page.box_node)) (is_huge page) refl refl refl none
  where
    by_tests : (a b t c : Bool) → nat_le MAX_PAGES s.pages ≡ a → nat_lt MAX_SHIPPED_NODES (s.load.nodes + box_count page.box_node) ≡ b
        → nat_lt MAX_SHIPPED_TEXT (s.load.text + box_text page.box_node) ≡ t
        → (if a then Some TooManyPages else if b then Some TooMuchShipped else if t then Some TooMuchSpecial else if c then Some HugePage else None)
        ≡ (if c then Some HugePage else None) → Admits s page
    by_tests true b t true first second third none = cc
    by_tests true b t false first second third none = cc
    by_tests false true t true first second third none = cc
    by_tests false true t false first second third none = cc
    by_tests false false true true first second third none = cc
    by_tests false false true false first second third none = cc
    by_tests false false false c first second third none = record { pages = first; nodes = second; text = third }

-- The texts of the specials of the page are within the limit of a job.
pub few_text : (s : ProgressView) (page : ShippedPage) → limit_of s page ≡ (if is_huge page then Some HugePage else None) → box_text page.box_node ≤ MAX_SHIPPED_TEXT
few_text s page none = omega (arith, ltb-false MAX_SHIPPED_TEXT (s.load.text + box_text page.box_node) (admitted s page none).text)

-- The limits hold with one more page.
pub space_next : (fonts : Slots) (s : ProgressView) (page : ShippedPage) → AreDefinable fonts → IsShippable fonts page.box_node
    → length page.counts ≡ 10
    → limit_of s page ≡ (if is_huge page then Some HugePage else None)
    → IsWithinLimits s → IsWithinLimits (with_next fonts s page)
unfolding with_next
space_next fonts s page definable sound ten none space =
    let admits = admitted s page none in
    let nodes = ltb-false MAX_SHIPPED_NODES (s.load.nodes + box_count page.box_node) admits.nodes in
    let text = ltb-false MAX_SHIPPED_TEXT (s.load.text + box_text page.box_node) admits.text in
    let pages = leb-false MAX_PAGES s.pages admits.pages in
    let fresh = fresh_slots fonts s.defined (flat (written_body page)) in
    record {
      nodes = omega (arith, nodes);
      text = omega (arith, text);
      pages = omega (arith, pages);
      deep = omega (arith, space.deep, nests_written page, sound.depth);
      defined = defined_once fonts s.defined (flat (written_body page)) space.defined;
      size =
          omega (
            arith,
            space.size,
            length-append s.defined fresh,
            file_page_bytes (slot_widths fonts) fonts s.defined page s.layout.last (short_names fonts definable) ten sound.glyphs,
          );
    }

-- The limits hold after a page, whether its bytes were made or not.
pub kept_space : {A E : Type 0} (result : Result A E) (old next new : ProgressView) → OnOk result (new ≡ next) → OnErr result (new ≡ old)
    → IsWithinLimits next → IsWithinLimits old → IsWithinLimits new
kept_space (Ok x) old next new ok err there space = subst IsWithinLimits (sym ok) there
kept_space (Err e) old next new ok err there space = subst IsWithinLimits (sym err) space
