use Rattle.std.proofs.Common.{◌∙◌, ap, sym}
use Rattle.std.specs.Prelude.{take}
use Rattle.node_core.specs.Items.{Items}
use Rattle.node_core.specs.Nodes.{items_of, nodes_of}
use Rattle.vert_core.proofs.Shortened.{shortened}
use Rattle.vert_core.proofs.append.append_with_glue.Goals as goal

pub returns-in-Err-clause-err : goal.returns-in-Err-clause-err
returns-in-Err-clause-err c =
    shortened c.push.result c.args.list.now c.push.new.self c.truncate.new.self _ c.len-count.result (sym c.if-is_err.ensures.value) c.push.ensures.ok c.len-count.ensures.count
    (c.truncate.ensures ∙ ap (λ (items : Items). items_of (take c.len-count.result (nodes_of items))) c.in-Err.ensures.err)
