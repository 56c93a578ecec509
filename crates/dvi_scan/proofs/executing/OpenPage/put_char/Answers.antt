use Rattle.std.proofs.Common.{rules, ◌≡◌, ℤ, Option, Some, subst}
use Rattle.dvi_ops.specs.Body.{glyph, put_glyph}
use Rattle.scaled_core.specs.Mark.{Mark}
use Rattle.dvi_scan.specs.Drawing.{constant_width}
use Rattle.dvi_scan.specs.Private.Drawing.{Draws}
use Rattle.dvi_scan.specs.View.{mark_of, spot_position, dvi_state}
use Rattle.dvi_scan.proofs.executing.OpenPage.put_char.Goals as goal

pub returns-clause-turns : goal.returns-clause-turns
returns-clause-turns c = λ pages.
    let page = c.args.self.now in
    let found : Some (mark_of c.in_ok-mark.mark, c.in_ok-mark.field-0-1) ≡ glyph (constant_width c.args.width) c.args.code (spot_position page.state.place) page.state.font = search rules in
    subst (λ (g : Option (Mark × ℤ)). Draws (put_glyph g (dvi_state page.state)) pages page c.mark_and_go.new.self c.mark_and_go.result) found
    (c.mark_and_go.ensures.turns pages (spot_position page.state.place) c.here.ensures)
