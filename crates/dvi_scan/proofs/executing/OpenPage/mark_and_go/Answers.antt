use Rattle.std.proofs.Common.{rules, ◌≡◌, List, Some, map, reverse, ap}
use Rattle.std.proofs.lemmas.Result.{err_from_is_err_and}
use Rattle.dvi_scan.specs.Pass.{Inside}
use Rattle.dvi_scan.specs.View.{mark_of, spot_position, dvi_state}
use Rattle.dvi_scan.specs.declared.page.Mark.{Mark}
use Rattle.dvi_scan.proofs.TurnLemmas.{no_space}
use Rattle.dvi_scan.proofs.executing.OpenPage.mark_and_go.Goals as goal

pub returns-in_err-push-clause-turns : goal.returns-in_err-push-clause-turns
returns-in_err-push-clause-turns c = λ pages to e.
    let page = c.args.self.now in
    let same : c.push.new.self.items ≡ page.marks.items = search rules in
    let there : c.args.place ≡ Some c.in_ok-place.place = search rules in
    let p = err_from_is_err_and c.from_residual-in_err-push.result c.from_residual-in_err-push.ensures.1 in
    rw (p.1, p.2)
    (no_space c.args.place c.in_ok-place.place c.args.mark c.in-Some.mark to pages page (record page { marks = c.push.new.self }) there c.in-Some.is e
    (ap (λ (marks : List Mark). Inside pages page.counts (map mark_of marks) (reverse (map spot_position page.stack.items))
    (dvi_state page.state)) same))
