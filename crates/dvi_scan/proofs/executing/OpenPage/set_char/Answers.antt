use Rattle.std.proofs.Common.{rules, ◌≡◌, ℤ, Option, Some, subst}
use Rattle.std.specs.Option.{option_map}
use Rattle.dvi_ops.specs.Body.{glyph, place_after, set_glyph}
use Rattle.scaled_core.specs.Mark.{Mark}
use Rattle.dvi_ops.specs.Instruction.{Across, By}
use Rattle.dvi_scan.specs.Drawing.{constant_width, reached_position}
use Rattle.dvi_scan.specs.Private.Drawing.{Draws}
use Rattle.dvi_scan.specs.View.{mark_of, spot_position, dvi_state}
use Rattle.dvi_scan.proofs.executing.OpenPage.set_char.Goals as goal

pub returns-clause-turns : goal.returns-clause-turns
returns-clause-turns c = λ pages.
    let page = c.args.self.now in
    let found : Some (mark_of c.in_ok-mark.mark, c.in_ok-mark.width) ≡ glyph (constant_width c.args.width) c.args.code (spot_position page.state.place) page.state.font = search rules in
    let to = place_after Across (By c.in_ok-mark.width) (spot_position page.state.place) in
    let there : option_map spot_position c.right.result ≡ reached_position to = search rules in
    subst (λ (g : Option (Mark × ℤ)). Draws (set_glyph g (dvi_state page.state)) pages page c.mark_and_go.new.self c.mark_and_go.result) found
    (c.mark_and_go.ensures.turns pages to there)
