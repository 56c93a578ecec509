use Rattle.std.proofs.Common.{◌≡◌, ◌∙◌, sym, ap, to_z, of_z, w64, arith}
use Rattle.std.proofs.lemmas.Int.{ints}
use Rattle.std.specs.Prelude.{ℤ}
use Rattle.node_core.specs.declared.tree.Kind.{Kind}
use Rattle.pack_core.specs.Items.{advance}
use Rattle.pack_core.specs.Cursors.{WalkSums, one_more}
use Rattle.page_core.proofs.Walked.{rigid_more}
use Rattle.page_core.proofs.list_drawing.pass_rigid.Goals as goal

pub returns-in_default-clause-cursor : goal.returns-in_default-clause-cursor
returns-in_default-clause-cursor c =
    let b = c.args.box_node.now in
    let x = c.args.node.now in
    let moved : to_z w64 (of_z w64 c.advance_of-distance.result) ≡ c.advance_of-distance.result =
    omega (arith, ints, c.advance_of-distance.ensures.value_bounded) in
    let same = moved ∙ (c.advance_of-distance.ensures.value ∙ sym (ap (λ (kind : Kind). advance kind x) c.requires.kind)) in
    c.move_on.ensures.value ∙ rigid_more b.kind b.setting c.args.place.now.cursor x _ c.requires.rigid same

pub returns-clause-cursor : goal.returns-clause-cursor
returns-clause-cursor c =
    let b = c.args.box_node.now in
    let x = c.args.node.now in
    let moved : to_z w64 (of_z w64 c.advance_of-distance.result) ≡ c.advance_of-distance.result =
    omega (arith, ints, c.advance_of-distance.ensures.value_bounded) in
    let same = moved ∙ (c.advance_of-distance.ensures.value ∙ sym (ap (λ (kind : Kind). advance kind x) c.requires.kind)) in
    c.move_on.ensures.value ∙ rigid_more b.kind b.setting c.args.place.now.cursor x _ c.requires.rigid same
