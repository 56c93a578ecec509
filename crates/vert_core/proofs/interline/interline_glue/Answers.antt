use Rattle.std.proofs.Common.{◌≡◌, ◌∙◌, false, ap, rules, to_z, of_z, w64, arith}
use Rattle.std.specs.Prelude.{int_le, int_lt}
use Rattle.std.proofs.lemmas.Int.{ints}
use Rattle.vert_core.specs.Interline.{ignored_depth, distance, baseline_glue, interline}
use Rattle.vert_core.proofs.interline.interline_glue.Goals as goal

pub returns : goal.returns
unfolding interline
returns c =
    let free : int_le c.args.previous_depth ignored_depth ≡ false = search rules in
    let far : int_lt (distance c.args.params.now c.args.previous_depth c.args.height) c.args.params.now.line_skip_limit ≡ false = search rules in
    let exact : to_z w64 (of_z w64 c.distance-apart.result) ≡ c.distance-apart.result = omega (arith, ints) in
    rw (free, far)
    (c.baseline_glue.ensures ∙ ap (baseline_glue c.args.params.now) (exact ∙ c.distance-apart.ensures))
