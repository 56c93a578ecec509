use Rattle.std.proofs.Common.{rules, ◌≡◌, List, subst}
use Rattle.std.specs.Option.{option_map}
use Rattle.dvi_ops.specs.Body.{place_after}
use Rattle.scaled_core.specs.Mark.{Mark}
use Rattle.dvi_ops.specs.Instruction.{Across, By}
use Rattle.dvi_scan.specs.Drawing.{reached_position}
use Rattle.dvi_scan.specs.Private.Drawing.{Draws, meaning_towards}
use Rattle.dvi_scan.specs.View.{spot_position}
use Rattle.dvi_scan.proofs.executing.OpenPage.set_rule.Goals as goal

pub returns-clause-turns : goal.returns-clause-turns
returns-clause-turns c = λ widths pages.
    let page = c.args.self.now in
    let to = place_after Across (By c.args.size.width) (spot_position page.state.place) in
    let there : option_map spot_position c.right.result ≡ reached_position to = search rules in
    subst (λ (marks : List Mark). Draws (meaning_towards marks to page) pages page c.mark_and_go.new.self c.mark_and_go.result) c.rule.ensures (c.mark_and_go.ensures.turns pages to there)
