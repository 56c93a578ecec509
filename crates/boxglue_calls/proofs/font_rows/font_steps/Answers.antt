-- The rows of one more character, or of all.
use Rattle.std.proofs.Common.{◌≡◌, ◌∙◌, ℕ, [], ap, arith}
use Rattle.std.specs.List.{flat_map, range_with_len}
use Rattle.boxglue_calls.specs.Metrics.{character_steps}
use Rattle.boxglue_calls.proofs.MetricLaws.{more_parts}
use Rattle.boxglue_calls.proofs.font_rows.font_steps.Goals as goal

pub loop-character-preserved : goal.loop-character-preserved
loop-character-preserved c =
    more_parts (character_steps c.args.font.now) c.loop-character.character [] c.loop-character.steps.items _ c.loop-character.invariant c.in_ok-push_character.ensures

pub returns : goal.returns
returns c =
    let end : c.loop-character.character ≡ 256 = omega arith in
    c.loop-character.invariant ∙ ap (λ (n : ℕ). flat_map (character_steps c.args.font.now) (range_with_len 0 n)) end
