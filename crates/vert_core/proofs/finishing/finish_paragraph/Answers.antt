use Rattle.std.proofs.Common.{◌≡◌, ◌∙◌, ◌+◌, ◌-◌, length, rules, arith, Some}
use Rattle.vert_core.specs.Finished.{final_glue}
use Rattle.vert_core.proofs.Endings.{finished_glue, glue_within}
use Rattle.vert_core.proofs.finishing.finish_paragraph.Goals as goal

pub returns-clause-ok : goal.returns-clause-ok
returns-clause-ok c =
    let list = c.args.nodes.now.items in
    let is : final_glue list ≡ Some c.in-Some.glue = cc (c.in-Some.is, c.final_glue.ensures, c.deref.ensures.value) in
    let count : c.len-count.result ≡ length list = search rules in
    let last : c.len-count.result - 1 + 1 ≡ length list = omega (arith, count, glue_within list c.in-Some.glue is) in
    c.put_at.ensures
    ∙ finished_glue list c.push_one.new.nodes.items c.args.par_fill_skip c.in-Some.glue (c.len-count.result - 1) is (search rules) last
