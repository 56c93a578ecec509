-- Facts about the drawn body of a page hold for its written body.
use Rattle.std.proofs.Common.{◌≡◌, ◌≤◌, ◌<◌, ◌+◌, ◌^◌, ◌*◌, [], ◌∷◌, List, Some, length, refl, sym, ◌∙◌, subst, arith}
use Rattle.std.specs.Prelude.{ℤ, false}
use Rattle.std.specs.List.{AllByRecursion}
use Rattle.std.proofs.lemmas.Grind.{flat_map-append}
use Rattle.node_core.specs.Items.{EachLeaf, items_count, items_depth, items_text}
use Rattle.dvi_ops.specs.Instruction.{BodyLeaf, Move, Instruction, Do, Pop}
use Rattle.dvi_ops.specs.Body.{DviState, Widths, instruction_acts, bounded_acts, start}
use Rattle.dvi_ops.specs.Forest.{Forest, Empty, Then, Group, flat, meaning, nests}
use Rattle.dvi_ops.specs.Fonts.{definitions, selections}
use Rattle.dvi_ops.specs.Spelling.{HasSpelling}
use Rattle.dvi_ops.specs.Layout.{IsWritable, bytes_of}
use Rattle.dvi_ops.specs.Plain.{NamesNoRegister}
use Rattle.scaled_core.proofs.EachOf.{all_append, all_front, all_back}
use Rattle.move_core.specs.Reused.{reused_body}
use Rattle.move_core.specs.SamePage.{IsPlainBody, still_of, leaves_in_order}
use Rattle.move_core.proofs.SameBody.{reused_length, reused_nests, reused_order, reused_fits}
use Rattle.move_core.proofs.FilePages.{reused_selections, reused_definitions, reused_kept}
use Rattle.page_core.specs.Marks.{ShippedPage, marks_of_page, is_huge}
use Rattle.ship_core.specs.Drawing.{body_of}
use Rattle.ship_core.specs.Shown.{HasWidth}
use Rattle.ship_core.proofs.DrawnBytes.{body_bytes}
use Rattle.ship_core.proofs.DrawnPages.{HasFont, drawn_page, no_register_page, writable_page, definitions-page, nests_page, selections_page, spelled_page}
use Rattle.dvi_write.specs.FilePages.{written_body}

-- A drawn body uses no register.
pub plain_drawn : (is : List Instruction) (page : ShippedPage) → is ≡ flat (body_of page) → IsPlainBody is
plain_drawn is page same = (body_of page, same, subst (AllByRecursion NamesNoRegister) (sym same) (no_register_page page))

-- The groups nest less deep than the box.
pub nests_written : (page : ShippedPage) → nests (written_body page) ≤ items_depth page.box_node.list
nests_written page = omega (arith, reused_nests (body_of page), nests_page page)

-- The body takes no more bytes than the drawn one.
pub written_bytes : (widths : Widths) (page : ShippedPage) → EachLeaf (HasWidth widths) page.box_node.list
    → length (bytes_of (flat (written_body page))) ≤ 19 * items_count page.box_node.list + items_text page.box_node.list
written_bytes widths page sized = omega (arith, reused_length (body_of page), body_bytes widths page sized)

-- The body can be written.
pub writable_written : (widths : Widths) (page : ShippedPage) → is_huge page ≡ false → EachLeaf (HasWidth widths) page.box_node.list → items_text page.box_node.list < 2 ^ 32
    → AllByRecursion IsWritable (flat (written_body page))
writable_written widths page small sized few = reused_fits (body_of page) (writable_page widths page small sized few)

-- The body defines no font, and selects the fonts of the drawn body.
pub definitions-written : (page : ShippedPage) → definitions (flat (written_body page)) ≡ []
definitions-written page = reused_definitions (body_of page) ∙ definitions-page page

pub selections_written : (P : ℤ → Type 0) (page : ShippedPage) → EachLeaf (HasFont P) page.box_node.list → AllByRecursion P (selections (flat (written_body page)))
selections_written P page all = subst (AllByRecursion P) (sym (reused_selections (body_of page))) (selections_page P page all)

-- The body shows the marks of the page.
pub shown_written : (widths : Widths) (page : ShippedPage) → is_huge page ≡ false → EachLeaf (HasWidth widths) page.box_node.list
    → (last : DviState) × (meaning (bounded_acts (instruction_acts widths)) (written_body page) start ≡ Some (marks_of_page page, last))
shown_written widths page small sized =
    let drawn = drawn_page widths start.place.held page small sized in
    reused_kept widths (body_of page) start (marks_of_page page) drawn.0 (no_register_page page) (refl, refl) drawn.1

-- Movements, pushes and pops can always be spelled, so the other instructions decide whether a body can.
abbrev IsSpelled : BodyLeaf → Type 0
IsSpelled leaf = HasSpelling (Do leaf)

still_spelled : (is : List Instruction) → AllByRecursion HasSpelling is → AllByRecursion IsSpelled (leaves_in_order is)
still_spelled [] all = tt
still_spelled (Do (Move axis step) ∷ is) (here, all) = still_spelled is all
still_spelled (Do leaf ∷ is) (here, all) = (here, still_spelled is all)
still_spelled (i ∷ is) (here, all) = still_spelled is all

spelled_still : (f : Forest) → AllByRecursion IsSpelled (leaves_in_order (flat f)) → AllByRecursion HasSpelling (flat f)
spelled_still Empty all = tt
spelled_still (Then (Move axis step) rest) all = (tt, spelled_still rest all)
spelled_still (Then leaf rest) (here, all) = (here, spelled_still rest all)
spelled_still (Group inner rest) all =
    let both = subst (AllByRecursion IsSpelled) (flat_map-append still_of (flat inner) (Pop ∷ flat rest)) all in (
      tt,
      all_append HasSpelling (flat inner) (Pop ∷ flat rest)
          (spelled_still inner (all_front IsSpelled (leaves_in_order (flat inner)) (leaves_in_order (flat rest)) both))
          (tt, spelled_still rest (all_back IsSpelled (leaves_in_order (flat inner)) (leaves_in_order (flat rest)) both)),
    )

-- Each instruction can be spelled, whether the page is huge or not.
pub spelled_written : (page : ShippedPage) → items_text page.box_node.list < 2 ^ 32 → AllByRecursion HasSpelling (flat (written_body page))
spelled_written page few =
    spelled_still (reused_body (body_of page))
    (subst (AllByRecursion IsSpelled) (sym (reused_order (body_of page))) (still_spelled (flat (body_of page)) (spelled_page page few)))
