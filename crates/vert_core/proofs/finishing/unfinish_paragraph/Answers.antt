use Rattle.std.proofs.Common.{◌≡◌, ◌∙◌, ◌-◌, length, take, sym, rules}
use Rattle.std.specs.Prelude.{slice_set}
use Rattle.node_core.specs.declared.tree.Node.TheVariants as nodes
use Rattle.vert_core.proofs.Endings.{unfinished_glue}
use Rattle.vert_core.proofs.finishing.unfinish_paragraph.Goals as goal

pub returns-in-Some : goal.returns-in-Some
returns-in-Some c = λ list skip was is.
    let old = c.args.nodes.now.items in
    let count : c.len-count.result ≡ length old = search rules in
    let new : c.put_at.new.nodes.items ≡ slice_set (take (c.len-count.result - 1) old) (c.len-count.result - 2) (nodes.Glue c.in-Some.glue) =
    cc (c.put_at.ensures, c.truncate-in-Some.ensures.items, c.saturating_sub-in-Some.ensures) in
    unfinished_glue list old c.put_at.new.nodes.items skip c.in-Some.glue c.len-count.result was (sym is ∙ c.in-Some.is) count new
