use Rattle.std.proofs.Common.{◌≡◌, ◌≤◌, ◌+◌, ◌-◌, List, length, Option, Some, ap, arith}
use Rattle.node_core.specs.declared.limits.TheConstants.{MAX_ITEMS}
use Rattle.node_core.specs.Nodes.{nodes_of}
use Rattle.job_machine.specs.declared.OpenList.{OpenList}
use Rattle.job_machine.specs.State.{innermost, items_in}
use Rattle.job_lists.proofs.BoundedLists.{one_changed, more_fit}
use Rattle.job_lists.proofs.nest.Nest.append_list.Goals as goal

pub invariant_of-self-2 : goal.invariant_of-self-2
invariant_of-self-2 c =
    let nest : List OpenList = c.self.inside.lists.items in
    let l : OpenList = c.in-Some.innermost.now in
    let found : innermost nest ≡ Some l = c.in-Some.ensures.list_lent in
    let space : length (nodes_of l.list) + length (nodes_of c.args.list.now) ≤ MAX_ITEMS =
    omega (arith, c.requires, ap (λ (lists : List OpenList). length (nodes_of (items_in (innermost lists)))) c.self.view_is, ap (λ (o : Option OpenList). length (nodes_of (items_in o))) found) in
    let lists =
    one_changed nest (length nest - 1) (record l { list = c.append.new.self }) c.self.invariant.0 c.self.invariant.1
    (more_fit c.append.result l.list c.append.new.self (nodes_of c.args.list.now) space c.append.ensures.ok c.append.ensures.err) in
    (lists.0, lists.1, c.self.invariant.2)
