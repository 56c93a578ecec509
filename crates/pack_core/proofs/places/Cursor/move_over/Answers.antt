use Rattle.std.proofs.Common.{◌≡◌, ◌+◌, ◌≤◌, ap, to_z, of_z, w64, arith}
use Rattle.std.proofs.lemmas.Int.{ints}
use Rattle.std.specs.Prelude.{◌+ℤ◌}
use Rattle.node_core.specs.Nodes.{max_nodes}
use Rattle.pack_core.specs.Cursors.{WalkSums}
use Rattle.pack_core.proofs.places.Cursor.move_over.Goals as goal

pub invariant_of-self : goal.invariant_of-self
invariant_of-self c =
    let was = c.self.inside in
    let reached = c.self.invariant in
    let few : was.passed + c.args.items ≤ max_nodes = omega (arith, ap (λ (r : WalkSums). r.passed) c.self.view_is, c.requires.items_bounded) in
    let by : to_z w64 (of_z w64 c.args.distance) ≡ c.args.distance = omega (arith, ints, c.requires.distance_bounded.low, c.requires.distance_bounded.high) in
    let sum : to_z w64 (of_z w64 (to_z w64 (of_z w64 was.natural) +ℤ to_z w64 (of_z w64 c.args.distance))) ≡ was.natural +ℤ c.args.distance =
    omega (arith, ints, reached.advances.low, reached.advances.high, few, c.requires.distance_bounded.low, c.requires.distance_bounded.high) in
    record {
      advances = record {
        low = omega (arith, ints, sum, reached.advances.low, c.requires.distance_bounded.low, c.requires.some);
        high = omega (arith, ints, sum, reached.advances.high, c.requires.distance_bounded.high, c.requires.some);
      };
      parts = record { low = omega (arith, ints, reached.parts.low); high = omega (arith, ints, reached.parts.high) };
      few = few;
    }
