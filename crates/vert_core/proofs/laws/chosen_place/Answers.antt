use Rattle.std.proofs.Common.{ℕ, ◌≡◌, subst}
use Rattle.vert_core.specs.Split.{split_place}
use Rattle.vert_core.specs.Chosen.{IsSplitPlace}
use Rattle.vert_core.proofs.Choices.{split-place-chosen, split-place-only}
use Rattle.vert_core.proofs.laws.chosen_place.Goals as goal

pub returns : goal.returns
returns c = λ params goal items place. (
  λ (e : split_place params goal items ≡ place). subst (λ (i : ℕ). IsSplitPlace params goal items i) e (split-place-chosen params goal items),
  split-place-only params goal items place,
)
