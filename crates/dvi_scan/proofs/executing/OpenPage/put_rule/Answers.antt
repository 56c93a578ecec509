use Rattle.std.proofs.Common.{List, Some, subst}
use Rattle.scaled_core.specs.Mark.{Mark}
use Rattle.dvi_scan.specs.Private.Drawing.{Draws}
use Rattle.dvi_scan.specs.View.{spot_position, dvi_state}
use Rattle.dvi_scan.proofs.executing.OpenPage.put_rule.Goals as goal

pub returns-clause-turns : goal.returns-clause-turns
returns-clause-turns c = λ widths pages.
    let page = c.args.self.now in
    subst (λ (marks : List Mark). Draws (Some (marks, dvi_state page.state)) pages page c.mark_and_go.new.self c.mark_and_go.result) c.rule.ensures
    (c.mark_and_go.ensures.turns pages (spot_position page.state.place) c.here.ensures)
