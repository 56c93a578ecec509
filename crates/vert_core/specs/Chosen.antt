-- The place of a split by its properties (TeX: The Program, part 44, §970 to §976; a law says that `split_place` is this place).
use Rattle.std.specs.Prelude.{◌≡◌, ◌<◌, ◌≤◌, ◌+◌, ◌≤ℤ◌, ◌<ℤ◌, ℕ, ℤ, false, List, length, Option, Some}
use Rattle.node_core.specs.declared.params.SplitParams.{SplitParams}
use Rattle.node_core.specs.declared.tree.Node.{Node}
use Rattle.vert_core.specs.declared.trials.Trial.{Trial}
use Rattle.vert_core.specs.Costs.{cost, is_last}
use Rattle.vert_core.specs.Split.{trial_at}

-- The trial of a place from `first` on and below `end` where a split is allowed.
pub record IsAllowedTrial (trials : ℕ → Option Trial) (first end : ℕ) (t : Trial) : Type 0 where
  pub after : first ≤ t.place
  pub below : t.place < end
  pub allowed : trials t.place ≡ Some t

-- The trial is made: no place before it is the last one.
pub record IsTried (trials : ℕ → Option Trial) (first end : ℕ) (t : Trial) : Type 0 where
  pub allowed : IsAllowedTrial trials first end t
  pub reached : (other : Trial) → IsAllowedTrial trials first end other → other.place < t.place → is_last other ≡ false

-- The trial is chosen: no place that is tried costs less, and each that is tried after it costs more.
pub record IsChosenTrial (trials : ℕ → Option Trial) (first end : ℕ) (t : Trial) : Type 0 where
  pub tried : IsTried trials first end t
  pub least : (other : Trial) → IsTried trials first end other → cost t ≤ℤ cost other
  pub latest : (other : Trial) → IsTried trials first end other → t.place < other.place → cost t <ℤ cost other

-- The place of a split of a list: that of the chosen trial among those of the list.
pub record IsSplitPlace (params : SplitParams) (goal : ℤ) (items : List Node) (place : ℕ) : Type 0 where
  pub trial : Trial
  pub here : trial.place ≡ place
  pub chosen : IsChosenTrial (trial_at params goal items) 0 (length items + 1) trial
