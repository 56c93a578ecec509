use Rattle.std.proofs.Common.{◌≡◌, ◌∙◌, sym, ap}
use Rattle.node_core.specs.declared.tree.Kind.{Kind}
use Rattle.pack_core.specs.Cursors.{one_more}
use Rattle.page_core.proofs.list_drawing.pass_glue.Goals as goal

pub returns-in_default-clause-cursor : goal.returns-in_default-clause-cursor
returns-in_default-clause-cursor c =
    let b = c.args.box_node.now in
    c.pass.ensures.value ∙ sym (ap (λ (kind : Kind). one_more kind b.setting c.args.place.now.cursor c.args.node.now) c.requires.kind)

pub returns-clause-cursor : goal.returns-clause-cursor
returns-clause-cursor c =
    let b = c.args.box_node.now in
    c.pass.ensures.value ∙ sym (ap (λ (kind : Kind). one_more kind b.setting c.args.place.now.cursor c.args.node.now) c.requires.kind)
