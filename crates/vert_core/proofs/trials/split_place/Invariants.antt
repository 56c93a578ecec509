use Rattle.std.proofs.Common.{◌≡◌, ◌++◌, take}
use Rattle.std.specs.Option.{IfSome}
use Rattle.vert_core.specs.Split.{trials, up_to_last, last_cheapest}
use Rattle.vert_core.specs.Private.Steps.{trial_list, trials_from, IsOpen}
use Rattle.node_core.specs.declared.tree.Kind.TheVariants.{Vertical}
use Rattle.pack_core.specs.ListTotals.{totals_of}
use Rattle.vert_core.proofs.trials.split_place.Given as goal

abbrev pub invariant-loop-place : goal.invariant-loop-place
invariant-loop-place l = record {
  passed : l.totals ≡ totals_of Vertical (take l.place l.nodes);
  chosen : last_cheapest (trial_list l.best ++ up_to_last (trials_from l.params l.height l.nodes l.place)) ≡ last_cheapest (up_to_last (trials l.params l.height l.nodes));
  kept : IfSome l.best (λ b. IsOpen l.nodes b.place);
}
