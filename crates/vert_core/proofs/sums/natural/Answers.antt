use Rattle.std.proofs.Common.{◌≡◌, ◌∙◌, ℤ, ap, arith, rules, to_z, of_z, w64}
use Rattle.std.specs.Prelude.{◌-ℤ◌}
use Rattle.std.specs.Int.{int_min, w128}
use Rattle.std.proofs.lemmas.Int.{ints}
use Rattle.vert_core.specs.Private.Walks.{natural_at}
use Rattle.vert_core.proofs.sums.natural.Goals as goal

pub returns-clause-value : goal.returns-clause-value
unfolding natural_at
returns-clause-value c =
    let least : c.min-hanging.result ≡ int_min c.pending_depth.result c.args.limit = search rules in
    let deep : c.min-hanging.result ≡ int_min c.args.totals.now.pending_depth c.args.limit =
    least ∙ ap (λ (d : ℤ). int_min d c.args.limit) c.pending_depth.ensures in
    let cast : to_z w64 (of_z w64 (to_z w64 (of_z w64 (to_z w128 (of_z w128 c.advance.result))) -ℤ to_z w64 (of_z w64 c.from.result)))
    ≡ c.args.totals.now.advance -ℤ int_min c.args.totals.now.pending_depth c.args.limit =
    omega (arith, ints, deep) in
    cast
