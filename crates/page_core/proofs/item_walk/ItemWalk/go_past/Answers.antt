use Rattle.std.proofs.Common.{◌≡◌, ◌∙◌, sym, ap, to_z, of_z, w64, arith}
use Rattle.std.proofs.lemmas.Int.{ints}
use Rattle.pack_core.specs.Items.{advance}
use Rattle.page_core.specs.Marks.{right_at, down_at}
use Rattle.page_core.specs.Placing.{fitting_point}
use Rattle.page_core.proofs.Walked.{rigid_after, rigid_more}
use Rattle.page_core.proofs.item_walk.ItemWalk.go_past.Goals as goal

pub returns-then-is_rigid-clause-cursor : goal.returns-then-is_rigid-clause-cursor
returns-then-is_rigid-clause-cursor c =
    let b = c.args.box_node.now in
    let same : to_z w64 (of_z w64 c.advance_of-distance.result) ≡ advance b.kind c.args.node.now = omega (arith, ints, c.advance_of-distance.ensures.value, c.advance_of-distance.ensures.value_bounded) in
    c.move_on.ensures.value ∙ rigid_more b.kind b.setting c.args.self.now.cursor c.args.node.now _ (sym c.is_rigid.ensures ∙ c.if-is_rigid.true) same

pub returns-then-is_rigid-clause-here : goal.returns-then-is_rigid-clause-here
returns-then-is_rigid-clause-here c =
    let b = c.args.box_node.now in
    let same : to_z w64 (of_z w64 c.advance_of-distance.result) ≡ advance b.kind c.args.node.now = omega (arith, ints, c.advance_of-distance.ensures.value, c.advance_of-distance.ensures.value_bounded) in
    c.position_after-self.ensures ∙ (ap (λ n. fitting_point (right_at b.kind c.args.at.now.h n) (down_at b.kind c.args.at.now.v n)) same
    ∙ rigid_after b c.args.begin.now.h c.args.begin.now.v c.args.self.now.cursor c.args.at.now c.args.node.now (sym c.is_rigid.ensures ∙ c.if-is_rigid.true)
    c.requires.at)
