use Rattle.std.proofs.Common.{◌≡◌, ◌∙◌, List, subst}
use Rattle.node_core.specs.declared.tree.Node.{Node}
use Rattle.vert_core.specs.Appended.{IsUnappended}
use Rattle.vert_core.specs.Finished.{finished_list}
use Rattle.vert_core.specs.Paragraphs.{IsUnsetList}
use Rattle.vert_core.specs.Setting.{list_setting}
use Rattle.vert_core.proofs.appending.append_items.Goals as goal

pub returns-in_default-clause-refused : goal.returns-in_default-clause-refused
returns-in_default-clause-refused c =
    let is : c.deref.result.now ≡ c.args.nodes.now.items = c.deref.ensures.value ∙ c.in_default.ensures.err in
    subst (λ (l : List Node). IsUnsetList (finished_list l c.args.params.now.par_fill_skip) c.args.params.now c.args.previous_depth c.unfinished_fault.result) is
    (c.unfinished_fault.ensures c.args.previous_depth)

pub returns-in-Err-clause-refused : goal.returns-in-Err-clause-refused
returns-in-Err-clause-refused c =
    subst (λ (l : List Node). IsUnappended (list_setting l c.args.params.now c.args.previous_depth) (IsUnsetList l c.args.params.now c.args.previous_depth) c.args.around.now.items c.in-Err.fault)
    c.in-Ok.ensures.ok c.in-Err.ensures.refused
