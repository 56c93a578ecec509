use Rattle.std.proofs.Common.{◌≡◌, ◌∙◌, ◌+ℤ◌, ap, arith, refl, to_z, of_z, w64}
use Rattle.std.proofs.lemmas.Int.{ints}
use Rattle.pack_core.specs.Cursors.{WalkSums, moved_on}
use Rattle.pack_core.proofs.Walks.{moved_on-reached}
use Rattle.pack_core.proofs.places.Cursor.move_on.Goals as goal

pub invariant_of-self : goal.invariant_of-self
invariant_of-self c = record {
  advances = record { low = omega (arith, ints); high = omega (arith, ints) };
  parts = record { low = omega (arith, ints); high = omega (arith, ints) };
  few = omega (arith, ap (λ (r : WalkSums). r.passed) c.self.view_is);
}

pub returns : goal.returns
returns c =
    let far : to_z w64 (of_z w64 (to_z w64 (of_z w64 c.self.inside.natural) +ℤ to_z w64 (of_z w64 c.args.distance))) ≡ c.self.inside.natural +ℤ c.args.distance = omega (arith, ints) in
    let e = rw far refl ∙ ap (λ (r : WalkSums). moved_on r c.args.distance) c.self.view_is in
    record {
      value = e;
      reached = λ kind setting before node moves none at. e ∙ ap (λ (r : WalkSums). moved_on r c.args.distance) at ∙ moved_on-reached kind setting before node c.args.distance moves none;
    }
