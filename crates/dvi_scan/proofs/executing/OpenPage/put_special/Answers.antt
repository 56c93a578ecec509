use Rattle.std.proofs.Common.{[], ◌∷◌, Some, subst}
use Rattle.scaled_core.specs.Mark.{Mark}
use Rattle.dvi_scan.specs.Private.Drawing.{Draws}
use Rattle.dvi_scan.specs.View.{spot_position, dvi_state}
use Rattle.dvi_scan.proofs.executing.OpenPage.put_special.Goals as goal

pub returns-clause-turns : goal.returns-clause-turns
returns-clause-turns c = λ widths pages.
    let page = c.args.self.now in
    subst (λ (mark : Mark). Draws (Some (mark ∷ [], dvi_state page.state)) pages page c.mark_and_go.new.self c.mark_and_go.result) c.special.ensures
    (c.mark_and_go.ensures.turns pages (spot_position page.state.place) c.here.ensures)
