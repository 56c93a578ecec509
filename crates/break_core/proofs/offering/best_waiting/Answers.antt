use Rattle.std.proofs.Common.{◌≡◌, ◌<◌, ◌∙◌, ◌+◌, length, sym, subst, rules, arith}
use Rattle.std.proofs.lemmas.Option.{same_Some, slice_get-get_or}
use Rattle.break_core.specs.Private.Active.{IsLeastOf}
use Rattle.break_core.proofs.Suffix.{least_first, least_more}
use Rattle.break_core.proofs.offering.best_waiting.Goals as goal

pub loop-index-init : goal.loop-index-init
loop-index-init c =
    record { least = λ o is. least_first c.args.lives.now c.args.slot _ o (slice_get-get_or c.args.lives.now 0 _ c.requires.some) is }

pub loop-index-preserved : goal.loop-index-preserved
loop-index-preserved c =
    let lives = c.args.lives.now in
    let index = c.loop-index.index in
    let found = c.later_or_better-better.ensures in
    let within : index < length lives = search rules in
    record {
      least = λ o is. subst (IsLeastOf lives (c.loop-index.index + 1) c.args.slot) (same_Some found.best o (sym found.is ∙ is))
          (least_more lives index c.args.slot _ found.before found.after found.best (c.loop-index.invariant.least found.before found.held_best)
          (slice_get-get_or lives index _ within) found.next_best found.better);
    }

pub returns : goal.returns
returns c =
    let lives = c.args.lives.now in
    let end : c.loop-index.index ≡ length lives = omega (arith, c.loop-index-test.false, c.requires.some, c.loop-index.auto) in
    subst (λ n. IsLeastOf lives n c.args.slot c.best_at.result) end (c.loop-index.invariant.least c.best_at.result c.best_at.ensures)
