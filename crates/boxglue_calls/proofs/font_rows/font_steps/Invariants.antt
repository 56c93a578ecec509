use Rattle.std.proofs.Common.{◌≡◌}
use Rattle.std.specs.List.{flat_map, range_with_len}
use Rattle.boxglue_calls.specs.Metrics.{character_steps}
use Rattle.boxglue_calls.proofs.font_rows.font_steps.Given as goal

abbrev pub invariant-loop-character : goal.invariant-loop-character
invariant-loop-character l = l.steps.items ≡ flat_map (character_steps l.font) (range_with_len 0 l.character)
