use Rattle.std.proofs.Common.{◌≡◌, ◌∙◌, length, take, ap, arith, to_z, of_z}
use Rattle.std.specs.Int.{w128}
use Rattle.std.proofs.lemmas.Int.{ints}
use Rattle.std.proofs.lemmas.List.{length-take, take_all}
use Rattle.pack_core.specs.Cursors.{WalkSums, one_more}
use Rattle.pack_core.specs.Places.{place}
use Rattle.pack_core.proofs.Walks.{reached-more, reached-passed}
use Rattle.pack_core.proofs.places.offset.Goals as goal

pub loop-node-init : goal.loop-node-init
loop-node-init c = record {
  items = ap (take c.args.i) c.as_slice.ensures.nodes;
  at = c.new-cursor.ensures.reached c.args.b.now.kind c.args.b.now.setting;
}

pub pass-requires : goal.pass-requires
pass-requires c =
    let passed = ap (λ (r : WalkSums). r.passed) c.loop-node.invariant.at ∙ reached-passed c.args.b.now.kind c.args.b.now.setting (take c.loop-node.node-index (take c.args.i c.as_slice.result.now)) in
    let same = ap length c.as_slice.ensures.nodes in
    omega (arith, length-take c.loop-node.node-index (take c.args.i c.as_slice.result.now), length-take c.args.i c.as_slice.result.now)

pub loop-node-preserved : goal.loop-node-preserved
loop-node-preserved c = record {
  items = c.loop-node.invariant.items;
  at =
      c.pass.ensures.value
      ∙ ap (λ (r : WalkSums). one_more c.args.b.now.kind c.args.b.now.setting r c.node-item.result) c.loop-node.invariant.at
      ∙ reached-more c.args.b.now.kind c.args.b.now.setting (take c.args.i c.as_slice.result.now) c.loop-node.node-index c.node-item.result c.loop-node-test.true c.node-item.is;
}

pub returns : goal.returns
returns c =
    let cast : to_z w128 (of_z w128 c.place.result) ≡ c.place.result = omega (arith, ints) in
    cast
    ∙ c.place.ensures.reached c.args.b.now.kind (take c.loop-node.node-index (take c.args.i c.as_slice.result.now)) c.loop-node.invariant.at
    ∙ ap (place c.args.b.now.kind c.args.b.now.setting)
    (take_all c.loop-node.node-index (take c.args.i c.as_slice.result.now) c.loop-node-test.false ∙ c.loop-node.invariant.items)
