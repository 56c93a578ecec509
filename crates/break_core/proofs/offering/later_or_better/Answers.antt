use Rattle.std.proofs.Common.{refl}
use Rattle.std.proofs.Math.Logic.{inl, inr}
use Rattle.break_core.proofs.offering.later_or_better.Goals as goal

pub returns : goal.returns
returns c =
    record {
      before = c.best_at.result;
      after = c.best_at-2.result;
      best = c.best_at.result;
      held_best = c.best_at.ensures;
      next_best = c.best_at-2.ensures;
      is = c.best_at.ensures;
      better = inr (refl, c.replaces.ensures.no c.if-replaces.false);
    }

pub returns-then-replaces : goal.returns-then-replaces
returns-then-replaces c =
    record {
      before = c.best_at.result;
      after = c.best_at-2.result;
      best = c.best_at-2.result;
      held_best = c.best_at.ensures;
      next_best = c.best_at-2.ensures;
      is = c.best_at-2.ensures;
      better = inl (refl, c.replaces.ensures.yes c.if-replaces.true);
    }
