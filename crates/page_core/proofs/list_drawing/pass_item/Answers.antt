use Rattle.std.proofs.Common.{◌≡◌, ◌∙◌, sym, ap}
use Rattle.std.specs.Prelude.{ℤ, Some}
use Rattle.std.specs.Option.{option_map}
use Rattle.pack_core.specs.Cursors.{WalkSums, place_at}
use Rattle.page_core.specs.Private.Placing.{level_with, point_in}
use Rattle.page_core.proofs.Walked.{rigid-next, level-next}
use Rattle.page_core.proofs.list_drawing.pass_item.Goals as goal

pub returns-then-is_rigid-clause-at : goal.returns-then-is_rigid-clause-at
returns-then-is_rigid-clause-at c fit =
    let b = c.args.box_node.now in
    let h = c.args.begin.now.h in
    let v = c.args.begin.now.v in
    let at = level_with c.args.place.now.v c.args.place.now.h in
    ap (λ (r : WalkSums). point_in b h v (place_at b.setting r)) c.pass_rigid.ensures.cursor
    ∙ (rigid-next b h v c.args.place.now.cursor at c.args.node.now c.requires.kind (sym c.is_rigid.ensures ∙ c.if-is_rigid.true) c.requires.at
    ∙ (ap (option_map (level_with at.v)) (c.pass_rigid.ensures.end fit)
    ∙ ap (λ (z : ℤ). Some (level_with z c.pass_rigid.new.place.h)) (sym c.pass_rigid.ensures.v)))

pub returns-then-is_rigid-clause-over : goal.returns-then-is_rigid-clause-over
returns-then-is_rigid-clause-over c over =
    let b = c.args.box_node.now in
    let h = c.args.begin.now.h in
    let v = c.args.begin.now.v in
    let at = level_with c.args.place.now.v c.args.place.now.h in
    ap (λ (r : WalkSums). point_in b h v (place_at b.setting r)) c.pass_rigid.ensures.cursor
    ∙ (rigid-next b h v c.args.place.now.cursor at c.args.node.now c.requires.kind (sym c.is_rigid.ensures ∙ c.if-is_rigid.true) c.requires.at
    ∙ ap (option_map (level_with at.v)) (c.pass_rigid.ensures.over over))

pub returns-clause-at : goal.returns-clause-at
returns-clause-at c fit =
    let b = c.args.box_node.now in
    let h = c.args.begin.now.h in
    let v = c.args.begin.now.v in
    let at = level_with c.args.place.now.v c.args.place.now.h in
    level-next b h v c.args.place.now.cursor c.pass_glue.new.place.cursor at c.requires.kind c.requires.at
    ∙ (ap (option_map (level_with at.v)) (c.pass_glue.ensures.end fit)
    ∙ ap (λ (z : ℤ). Some (level_with z c.pass_glue.new.place.h)) (sym c.pass_glue.ensures.v))

pub returns-clause-over : goal.returns-clause-over
returns-clause-over c over =
    let b = c.args.box_node.now in
    let h = c.args.begin.now.h in
    let v = c.args.begin.now.v in
    let at = level_with c.args.place.now.v c.args.place.now.h in
    level-next b h v c.args.place.now.cursor c.pass_glue.new.place.cursor at c.requires.kind c.requires.at
    ∙ ap (option_map (level_with at.v)) (c.pass_glue.ensures.over over)
