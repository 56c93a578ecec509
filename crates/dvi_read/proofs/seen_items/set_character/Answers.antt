-- The pass goes on, so there are a font, a width and a place; the mark is the character's.
use Rattle.std.proofs.Common.{rules, ◌≡◌, ◌++◌, [], ◌∷◌, Some, map, reverse, ap, sym, ◌∙◌, to_z, of_z, w32}
use Rattle.std.proofs.lemmas.Int.{ints}
use Rattle.scaled_core.specs.Mark.{Mark}
use Rattle.dvi_ops.specs.Body.{place_after}
use Rattle.dvi_ops.specs.Instruction.{Across, By}
use Rattle.dvi_scan.specs.Drawing.{reached_position}
use Rattle.dvi_scan.specs.Pass.{Inside}
use Rattle.dvi_scan.specs.View.{spot_position, dvi_state}
use Rattle.dvi_read.specs.PageMarks.{read_width}
use Rattle.dvi_read.specs.ReadFonts.{asked_width, with_current}
use Rattle.dvi_read.proofs.CharacterLemmas.{same_mark, set_turn, some_after}
use Rattle.dvi_read.proofs.SeenItemLemmas.{asked_here}
use Rattle.dvi_read.proofs.seen_items.set_character.Goals as goal

pub returns-clause-draws : goal.returns-clause-draws
returns-clause-draws c = λ most pages marks after e.
    let fonts = with_current c.args.fonts.now c.args.current in
    let page = c.args.page.now in
    let code = c.args.code in
    let f = c.in-Some.font in
    let w = c.in-Some-width_at.width in
    let next = c.in-Some-right.next in
    let stack = reverse (map spot_position page.stack.items) in
    let chosen : page.state.font ≡ Some f = search (rules, ints) in
    let asked : asked_width fonts (Some code) ≡ Some w = search (rules, ints) in
    let there : Some (spot_position next) ≡ reached_position (place_after Across (By w) (spot_position page.state.place)) = search (rules, ints) in
    let f_is : f ≡ to_z w32 (of_z w32 f) = search (rules, ints) in
    let code_is : code ≡ to_z w32 (of_z w32 code) = search (rules, ints) in
    let h_is : page.state.place.h ≡ to_z w32 (of_z w32 page.state.place.h) = search (rules, ints) in
    let v_is : page.state.place.v ≡ to_z w32 (of_z w32 page.state.place.v) = search (rules, ints) in
    let width : read_width fonts f code ≡ Some w = sym (asked_here fonts code f (c.requires.current f chosen)) ∙ asked in
    some_after after _ (sym e
    ∙ set_turn (read_width fonts) most code pages page.counts marks stack (dvi_state page.state) f w next chosen width there)
    ∙ ap (λ (m : Mark). Inside pages page.counts (marks ++ m ∷ []) stack (record { place = spot_position next; font = page.state.font })) (same_mark f_is code_is h_is v_is)
