use Rattle.std.proofs.Common.{◌≡◌, ◌∙◌, ◌<◌, List, append-nil, length, ap, sym, subst, rules, arith, refl}
use Rattle.std.proofs.lemmas.List.{nil_from_length}
use Rattle.node_core.specs.declared.limits.TheConstants.{MAX_DEPTH}
use Rattle.node_core.specs.declared.tree.Node.{Node}
use Rattle.node_core.specs.Nodes.{items_of, nodes_of}
use Rattle.node_core.proofs.NodeLemmas.{items_of-nodes_of}
use Rattle.vert_core.specs.Finished.{finished_list}
use Rattle.vert_core.specs.Paragraphs.{set_empty, IsUnset, IsUnsetList}
use Rattle.vert_core.specs.Setting.{list_setting, setting}
use Rattle.vert_core.proofs.AppendedLines.{some_setting, empty_setting, appended_so, unappended_so, err_so}
use Rattle.vert_core.proofs.Settings.{unset_some}
use Rattle.vert_core.proofs.appending.append_paragraph.Goals as goal

pub returns-then-is_empty-clause-ok : goal.returns-then-is_empty-clause-ok
returns-then-is_empty-clause-ok c =
    let none_left : length (nodes_of c.args.list.now) ≡ 0 = search rules in
    let most : MAX_DEPTH ≡ 200 = refl in
    record {
      set = set_empty c.args.previous_depth;
      is_set = empty_setting (nodes_of c.args.list.now) c.args.params.now c.args.previous_depth none_left;
      shallow = omega (arith, most);
      short = omega (arith, c.requires.around_bounded);
      items = sym (append-nil (nodes_of c.args.around.now));
      depth = search rules;
      lines = search rules;
      pass = search rules;
      overhang = search rules;
      demerits = search rules;
    }

pub returns-then-is_empty-clause-emptied : goal.returns-then-is_empty-clause-emptied
returns-then-is_empty-clause-emptied c =
    let none_left : length (nodes_of c.args.list.now) ≡ 0 = search rules in
    sym (items_of-nodes_of c.args.list.now) ∙ ap items_of (nil_from_length (nodes_of c.args.list.now) none_left)

pub returns-clause-ok : goal.returns-clause-ok
returns-clause-ok c =
    let list = nodes_of c.args.list.now in
    let params = c.args.params.now in
    let previous = c.args.previous_depth in
    let some : 0 < length list = search rules in
    let nodes : c.into_vec-nodes.result.items ≡ list = c.into_vec-nodes.ensures ∙ ap nodes_of c.replace.ensures.value in
    let items : c.into_vec-items.result.items ≡ nodes_of c.args.around.now = c.into_vec-items.ensures ∙ ap nodes_of c.replace-2.ensures.value in
    appended_so c.append_items-figures.result
    (list_setting (finished_list c.into_vec-nodes.result.items params.par_fill_skip) params previous) (setting list params previous)
    c.into_vec-items.result.items (nodes_of c.args.around.now) c.append_items-figures.new.around.items (nodes_of c.from_vec-2.result)
    (ap (λ (l : List Node). list_setting (finished_list l params.par_fill_skip) params previous) nodes ∙ some_setting list params previous some)
    items (sym c.from_vec-2.ensures.nodes) c.append_items-figures.ensures.ok

pub returns-clause-refused : goal.returns-clause-refused
returns-clause-refused c =
    let list = nodes_of c.args.list.now in
    let params = c.args.params.now in
    let previous = c.args.previous_depth in
    let some : 0 < length list = search rules in
    let nodes : c.into_vec-nodes.result.items ≡ list = c.into_vec-nodes.ensures ∙ ap nodes_of c.replace.ensures.value in
    let items : c.into_vec-items.result.items ≡ nodes_of c.args.around.now = c.into_vec-items.ensures ∙ ap nodes_of c.replace-2.ensures.value in
    unappended_so c.append_items-figures.result
    (list_setting (finished_list c.into_vec-nodes.result.items params.par_fill_skip) params previous) (setting list params previous)
    (IsUnsetList (finished_list c.into_vec-nodes.result.items params.par_fill_skip) params previous) (IsUnset list params previous)
    c.into_vec-items.result.items (nodes_of c.args.around.now)
    (ap (λ (l : List Node). list_setting (finished_list l params.par_fill_skip) params previous) nodes ∙ some_setting list params previous some)
    items
    (λ fault is. unset_some list params previous fault some
    (subst (λ (l : List Node). IsUnsetList (finished_list l params.par_fill_skip) params previous fault) nodes is))
    c.append_items-figures.ensures.refused

pub returns-clause-err : goal.returns-clause-err
returns-clause-err c =
    let nodes : c.into_vec-nodes.result.items ≡ nodes_of c.args.list.now = c.into_vec-nodes.ensures ∙ ap nodes_of c.replace.ensures.value in
    err_so c.append_items-figures.result (λ same. c.from_vec.ensures.items ∙ (ap items_of (same ∙ nodes) ∙ items_of-nodes_of c.args.list.now))
    c.append_items-figures.ensures.err

pub returns-clause-same : goal.returns-clause-same
returns-clause-same c =
    let items : c.into_vec-items.result.items ≡ nodes_of c.args.around.now = c.into_vec-items.ensures ∙ ap nodes_of c.replace-2.ensures.value in
    err_so c.append_items-figures.result (λ same. c.from_vec-2.ensures.items ∙ (ap items_of (same ∙ items) ∙ items_of-nodes_of c.args.around.now))
    c.append_items-figures.ensures.same
