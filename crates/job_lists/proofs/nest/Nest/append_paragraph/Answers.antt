use Rattle.std.proofs.Common.{◌≡◌, ◌∙◌, ◌-◌, ◌≤◌, List, length, get_or, set, Some, ap, sym, arith}
use Rattle.std.specs.Prelude.{slice_get}
use Rattle.node_core.specs.Nodes.{items_of, nodes_of}
use Rattle.node_core.proofs.NodeLemmas.{items_of-nodes_of}
use Rattle.job_machine.specs.declared.OpenList.{OpenList}
use Rattle.job_machine.specs.State.{innermost, items_in}
use Rattle.job_machine.proofs.ListElements.{get_some, set_same}
use Rattle.job_lists.specs.EmptiedNest.{emptied_nest}
use Rattle.job_lists.proofs.Nests.{as_many, ended_nest, refused_nest, put_back}
use Rattle.job_lists.proofs.nest.Nest.append_paragraph.Goals as goal

pub returns-in-Ok-clause-ok : goal.returns-in-Ok-clause-ok
returns-in-Ok-clause-ok c =
    let nest : List OpenList = c.args.self.now in
    let bare : List OpenList = c.self-2.inside.lists.items in
    let l : OpenList = c.in-Some.around.now in
    let count = c.len-count.result in
    let many : count ≡ length nest = c.len-count.ensures.value ∙ ap length c.self.view_is in
    let enough : 2 ≤ length nest = omega (arith, c.if-count-lt2.false, many) in
    let inner : OpenList = get_or nest (length nest - 1) l in
    let is : innermost nest ≡ Some inner = get_some nest (length nest - 1) l (omega (arith, enough)) in
    let taken : bare ≡ emptied_nest nest (innermost nest) = c.self-2.view_is ∙ c.take_items.ensures.emptied in
    let own : nodes_of c.from_vec-items.result ≡ nodes_of (items_in (innermost nest)) = c.from_vec-items.ensures.nodes ∙ c.take_items.ensures.items in
    ended_nest c.args.params.now nest bare inner l count c.from_vec-items.result is taken many enough c.in-Some.ensures.value own
    c.append_lines.new.open_list c.pop.new.self.items c.in-Ok.appended c.in-Ok.ensures.ok c.in-Ok.ensures.changed c.pop.ensures.rest

pub returns-in-Err-clause-refused : goal.returns-in-Err-clause-refused
returns-in-Err-clause-refused c =
    let nest : List OpenList = c.args.self.now in
    let bare : List OpenList = c.self-2.inside.lists.items in
    let l : OpenList = c.in-Some.around.now in
    let count = c.len-count.result in
    let many : count ≡ length nest = c.len-count.ensures.value ∙ ap length c.self.view_is in
    let enough : 2 ≤ length nest = omega (arith, c.if-count-lt2.false, many) in
    let inner : OpenList = get_or nest (length nest - 1) l in
    let is : innermost nest ≡ Some inner = get_some nest (length nest - 1) l (omega (arith, enough)) in
    let taken : bare ≡ emptied_nest nest (innermost nest) = c.self-2.view_is ∙ c.take_items.ensures.emptied in
    let own : nodes_of c.from_vec-items.result ≡ nodes_of (items_in (innermost nest)) = c.from_vec-items.ensures.nodes ∙ c.take_items.ensures.items in
    refused_nest c.args.params.now nest bare inner l count c.from_vec-items.result is taken many enough c.in-Some.ensures.value own c.in-Err.unappended c.in-Err.ensures.refused

pub returns-in-Err-clause-err : goal.returns-in-Err-clause-err
returns-in-Err-clause-err c =
    let nest : List OpenList = c.args.self.now in
    let bare : List OpenList = c.self-2.inside.lists.items in
    let l : OpenList = c.in-Some.around.now in
    let count = c.len-count.result in
    let many : count ≡ length nest = c.len-count.ensures.value ∙ ap length c.self.view_is in
    let enough : 2 ≤ length nest = omega (arith, c.if-count-lt2.false, many) in
    let inner : OpenList = get_or nest (length nest - 1) l in
    let is : innermost nest ≡ Some inner = get_some nest (length nest - 1) l (omega (arith, enough)) in
    let taken : bare ≡ emptied_nest nest (innermost nest) = c.self-2.view_is ∙ c.take_items.ensures.emptied in
    let same : c.append_lines.new.items ≡ items_in (innermost nest) =
    c.in-Err.ensures.same ∙ (c.from_vec-items.ensures.items ∙ (ap items_of c.take_items.ensures.items ∙ items_of-nodes_of (items_in (innermost nest)))) in
    let own : nodes_of c.from_vec-items.result ≡ nodes_of (items_in (innermost nest)) = c.from_vec-items.ensures.nodes ∙ c.take_items.ensures.items in
    let whole : length bare ≡ length nest = as_many c.args.params.now nest bare inner l count c.from_vec-items.result is taken many enough c.in-Some.ensures.value own in
    let there : slice_get bare (count - 2) ≡ Some l = get_some bare (count - 2) l (omega (arith, whole, many, enough)) ∙ ap Some (sym c.in-Some.ensures.value) in
    let put : set bare (count - 2) c.append_lines.new.open_list ≡ bare =
    ap (λ (x : OpenList). set bare (count - 2) x) c.in-Err.ensures.err ∙ set_same bare (count - 2) l there in
    c.refill.ensures ∙ put_back nest (set bare (count - 2) c.append_lines.new.open_list) c.append_lines.new.items inner is (put ∙ taken) same
