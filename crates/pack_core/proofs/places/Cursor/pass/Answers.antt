use Rattle.std.proofs.Common.{◌≡◌, ◌∙◌, ◌+ℤ◌, ap, arith, refl, to_z, of_z, w64}
use Rattle.std.proofs.lemmas.Int.{ints}
use Rattle.pack_core.specs.Items.{advance}
use Rattle.pack_core.specs.Places.{share}
use Rattle.pack_core.specs.Cursors.{WalkSums, one_more}
use Rattle.pack_core.proofs.Walks.{one_more-reached}
use Rattle.pack_core.proofs.places.Cursor.pass.Goals as goal

pub invariant_of-self : goal.invariant_of-self
invariant_of-self c = record {
  advances = record { low = omega (arith, ints); high = omega (arith, ints) };
  parts = record { low = omega (arith, ints); high = omega (arith, ints) };
  few = omega (arith, ap (λ (r : WalkSums). r.passed) c.self.view_is);
}

pub returns : goal.returns
returns c =
    let far : to_z w64 (of_z w64 (to_z w64 (of_z w64 c.self.inside.natural) +ℤ to_z w64 (of_z w64 c.advance_of.result))) ≡ c.self.inside.natural +ℤ advance c.args.kind c.args.node.now =
    omega (arith, ints) in
    let part : to_z w64 (of_z w64 (to_z w64 (of_z w64 c.self.inside.shares) +ℤ to_z w64 (of_z w64 c.share_of.result))) ≡ c.self.inside.shares +ℤ share c.args.setting.now c.args.node.now =
    omega (arith, ints) in
    let e = rw (far, part) refl ∙ ap (λ (r : WalkSums). one_more c.args.kind c.args.setting.now r c.args.node.now) c.self.view_is in
    record {
      value = e;
      reached = λ before at. e ∙ ap (λ (r : WalkSums). one_more c.args.kind c.args.setting.now r c.args.node.now) at ∙ one_more-reached c.args.kind c.args.setting.now before c.args.node.now;
    }
