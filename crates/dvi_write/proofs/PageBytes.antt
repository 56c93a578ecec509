-- The greatest number of bytes of a page, with the definitions before it.
use Rattle.std.proofs.Common.{◌≡◌, ℕ, ◌+◌, ◌*◌, ◌≤◌, ◌<◌, List, [], ◌∷◌, ◌++◌, length, refl, ap, sym, ◌∙◌, arith, append_assoc, length-append}
use Rattle.std.specs.Prelude.{ℤ, pos, nat_lt, if◌then◌else◌, Option, Some, None}
use Rattle.std.proofs.lemmas.Bool.{lt-ltb}
use Rattle.std.proofs.lemmas.List.{map-append}
use Rattle.std.specs.List.{flat_map}
use Rattle.node_core.specs.declared.tree.BoxNode.{BoxNode}
use Rattle.node_core.specs.Items.{EachLeaf}
use Rattle.node_core.specs.Nodes.{box_count, box_text}
use Rattle.dvi_ops.specs.Instruction.{Definition, FontDef, Instruction, Do, Bop, Eop}
use Rattle.dvi_ops.specs.Body.{Widths}
use Rattle.dvi_ops.specs.Forest.{flat}
use Rattle.dvi_ops.specs.Spelling.{operand, code_size, spelling, leaf_spelling}
use Rattle.dvi_ops.specs.Layout.{bytes_of, define, file_page_from}
use Rattle.dvi_ops.proofs.Layouts.{bytes_of-append, length-bytes_of-append}
use Rattle.dvi_ops.proofs.Spelled.{operand_length}
use Rattle.tfm_core.specs.declared.slots.LoadedFont.{LoadedFont}
use Rattle.tfm_core.specs.Slots.{Slots, font_in}
use Rattle.page_core.specs.Marks.{ShippedPage}
use Rattle.dvi_write.specs.FilePages.{written_body, definition_of, definition_by, definitions_of, fresh_slots, file_page_of}
use Rattle.ship_core.specs.Shown.{HasWidth}
use Rattle.dvi_write.proofs.WrittenBodies.{written_bytes}

length-counts : (counts : List ℤ) → length (flat_map (operand 4) counts) ≡ 4 * length counts
length-counts [] = refl
length-counts (z ∷ counts) =
    omega (arith, length-append (operand 4 z) (flat_map (operand 4) counts), operand_length 4 z, length-counts counts)

length-bop : (counts : List ℤ) (last : ℤ) → length counts ≡ 10 → length (spelling (Bop counts last)) ≡ 45
unfolding spelling
length-bop counts last ten =
    omega (arith, length-append (flat_map (operand 4) counts) (operand 4 last), length-counts counts, ten, operand_length 4 last)

length-eop : length (spelling Eop) ≡ 1
unfolding spelling
length-eop = refl

-- The number of a slot takes one byte.
one_byte : (s : ℕ) → s < 256 → code_size (pos s) ≡ 1
unfolding code_size
one_byte s small = ap (λ b. if b then 1 else if nat_lt s 65536 then 2 else if nat_lt s 16777216 then 3 else 4) (lt-ltb s 256 small)

-- The fonts of a job have slots below 256 and names of at most 255 bytes.
abbrev pub HasShortNames : Slots → Type 0
HasShortNames fonts = (s : ℕ) (l : LoadedFont) → font_in fonts s ≡ Some l → (s < 256) × (length l.name < 256)

-- A definition takes at most 271 bytes.
length-definition : (s : ℕ) (l : LoadedFont) → s < 256 → length l.name < 256 → length (spelling (Do (FontDef (definition_of s l)))) ≤ 271
unfolding spelling leaf_spelling
length-definition s l small short =
    let d = definition_of s l in
    omega (
      arith,
      length-append (operand (code_size (pos s)) (pos s)) (operand 4 d.check_sum ++ (operand 4 d.size ++ (operand 4 d.design_size ++ (0 ∷ length l.name ∷ l.name)))),
      operand_length (code_size (pos s)) (pos s),
      one_byte s small,
      length-append (operand 4 d.check_sum) (operand 4 d.size ++ (operand 4 d.design_size ++ (0 ∷ length l.name ∷ l.name))),
      operand_length 4 d.check_sum,
      length-append (operand 4 d.size) (operand 4 d.design_size ++ (0 ∷ length l.name ∷ l.name)),
      operand_length 4 d.size,
      length-append (operand 4 d.design_size) (0 ∷ length l.name ∷ l.name),
      operand_length 4 d.design_size,
      short,
    )

define-append : (ds es : List Definition) → define (ds ++ es) ≡ define ds ++ define es
define-append ds es = map-append (λ d. Do (FontDef d)) ds es

-- The definitions of the fonts in some slots.
pub definition_bytes : (fonts : Slots) (slots : List ℕ) → HasShortNames fonts → length (bytes_of (define (definitions_of fonts slots))) ≤ 271 * length slots
definition_bytes fonts [] short = omega arith
definition_bytes fonts (s ∷ slots) short =
    omega (
      arith,
      ap (λ (is : List Instruction). length (bytes_of is)) (define-append (definition_by s (font_in fonts s)) (definitions_of fonts slots)),
      length-bytes_of-append (define (definition_by s (font_in fonts s))) (define (definitions_of fonts slots)),
      definition_bytes fonts slots short,
      one (font_in fonts s) refl,
    )
  where
    one : (x : Option LoadedFont) → font_in fonts s ≡ x → length (bytes_of (define (definition_by s x))) ≤ 271
    one None is = omega arith
    one (Some l) is =
        let fine = short s l is in omega (arith, length-append (spelling (Do (FontDef (definition_of s l)))) [], length-definition s l fine.0 fine.1)

-- A page takes at most 46 bytes, 19 for each node of its box, and 271 for each font that it defines.
pub file_page_bytes : (widths : Widths) (fonts : Slots) (slots : List ℕ) (page : ShippedPage) (last : ℤ) → HasShortNames fonts → length page.counts ≡ 10
    → EachLeaf (HasWidth widths) page.box_node.list
    → length (bytes_of (file_page_from last (file_page_of fonts slots page)))
    ≤ 46 + 19 * box_count page.box_node + box_text page.box_node + 271 * length (fresh_slots fonts slots (flat (written_body page)))
file_page_bytes widths fonts slots page last short ten sized =
    let bop = Bop page.counts last in
    let fresh = fresh_slots fonts slots (flat (written_body page)) in
    let inner = flat (written_body page) in
    omega (
      arith,
      length-bytes_of-append (define (definitions_of fonts fresh)) (bop ∷ (inner ++ Eop ∷ [])),
      definition_bytes fonts fresh short,
      length-append (spelling bop) (bytes_of (inner ++ Eop ∷ [])),
      length-bop page.counts last ten,
      length-bytes_of-append inner (Eop ∷ []),
      length-append (spelling Eop) [],
      length-eop,
      written_bytes widths page sized,
    )

-- The bytes of a page after the opening and its definitions.
pub laid_out : (opening fonts page ops : List Instruction) (first all : List ℕ) → ops ≡ opening ++ fonts → first ≡ bytes_of ops → all ≡ first ++ bytes_of page
    → all ≡ bytes_of (opening ++ (fonts ++ page))
laid_out opening fonts page ops first all says before after =
    after
    ∙ (ap (λ (bytes : List ℕ). bytes ++ bytes_of page) (before ∙ ap bytes_of says)
    ∙ (sym (bytes_of-append (opening ++ fonts) page) ∙ ap bytes_of (append_assoc opening fonts page)))
