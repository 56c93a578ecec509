-- The row of one more pair, or of all.
use Rattle.std.proofs.Common.{◌≡◌, ◌∙◌, ◌++◌, ℕ, ap, sym, arith}
use Rattle.std.specs.List.{flat_map, range_with_len}
use Rattle.std.proofs.lemmas.List.{append-nil}
use Rattle.boxglue_calls.specs.Metrics.{pair_steps}
use Rattle.boxglue_calls.proofs.MetricLaws.{more_parts}
use Rattle.boxglue_calls.proofs.font_rows.push_character.Goals as goal

pub loop-following-init : goal.loop-following-init
loop-following-init c = sym (append-nil c.args.steps.now.items)

pub loop-following-preserved : goal.loop-following-preserved
loop-following-preserved c =
    more_parts (pair_steps c.args.font.now c.args.character) c.loop-following.following c.args.steps.now.items _ _ c.loop-following.invariant c.in_ok-push_pair.ensures

pub returns : goal.returns
returns c =
    let end : c.loop-following.following ≡ 256 = omega arith in
    c.loop-following.invariant ∙ ap (λ (n : ℕ). c.args.steps.now.items ++ flat_map (pair_steps c.args.font.now c.args.character) (range_with_len 0 n)) end
