use Rattle.std.proofs.Common.{◌≡◌, ◌++◌}
use Rattle.std.specs.List.{flat_map, range_with_len}
use Rattle.boxglue_calls.specs.Metrics.{pair_steps}
use Rattle.boxglue_calls.proofs.font_rows.push_character.Given as goal

abbrev pub invariant-loop-following : goal.invariant-loop-following
invariant-loop-following l = l.steps.items ≡ l.fn.steps.items ++ flat_map (pair_steps l.font l.character) (range_with_len 0 l.following)
