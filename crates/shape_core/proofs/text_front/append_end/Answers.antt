use Rattle.std.proofs.Common.{◌≡◌, ◌+◌, length, rules}
use Rattle.shape_core.proofs.TextFrontLemmas.{last-items, last-missing}
use Rattle.shape_core.proofs.text_front.append_end.Goals as goal

pub returns-then-append_last-clause-items : goal.returns-then-append_last-clause-items
returns-then-append_last-clause-items g c =
    let last : c.args.index + 1 ≡ length c.args.text.now = search rules in
    last-items c.args.slot (g.M.Metrics.sizes c.args.metrics.now) (g.M.Metrics.steps c.args.metrics.now) (g.M.Metrics.blank c.args.metrics.now) c.args.text.now c.args.index _ _ c.requires last (c.append_last.ensures.items c.if-append_last.true)

pub returns-then-append_last-clause-number : goal.returns-then-append_last-clause-number
returns-then-append_last-clause-number g c =
    let last : c.args.index + 1 ≡ length c.args.text.now = search rules in
    last-missing c.args.slot (g.M.Metrics.sizes c.args.metrics.now) (g.M.Metrics.steps c.args.metrics.now) (g.M.Metrics.blank c.args.metrics.now) c.args.text.now c.args.index c.requires last (c.append_last.ensures.number c.if-append_last.true)
