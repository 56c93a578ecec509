-- The innermost open list, and the one around it, while the code empties, fills, changes and closes them.
use Rattle.std.proofs.Common.{◌≡◌, ◌≢◌, ◌∙◌, ℕ, ◌-◌, ◌==◌, ◌≤◌, List, [], ◌∷◌, ◌++◌, length, take, set, get_or, false, true, Option, Some, None, Result, Ok, Err, OnErr, refl, ap, sym, subst, arith}
use Rattle.std.specs.Prelude.{pos, IsSome, slice_get}
use Rattle.std.proofs.Math.Seq.{take-set-lt}
use Rattle.std.proofs.lemmas.Bool.{eqb-true}
use Rattle.std.proofs.lemmas.List.{take-set-le, length-take-le, length-set}
use Rattle.node_core.specs.declared.tree.BoxNode.{BoxNode}
use Rattle.node_core.specs.declared.tree.Node.{Node}
use Rattle.node_core.specs.declared.params.Params.{Params}
use Rattle.node_core.specs.Items.{Items, none}
use Rattle.node_core.specs.Nodes.{items_of, nodes_of}
use Rattle.pack_core.specs.declared.pack.PackedBox as packs
use Rattle.job_machine.specs.declared.command.Command.TheVariants.{End}
use Rattle.job_machine.specs.declared.command.Opening.{Opening}
use Rattle.job_machine.specs.declared.replies.Refusal.{Refusal}
use Rattle.node_core.proofs.NodeLemmas.{items_of-nodes_of}
use Rattle.vert_core.specs.declared.appending.AppendedParagraph.{AppendedParagraph}
use Rattle.vert_core.specs.declared.appending.UnappendedLines.{UnappendedLines}
use Rattle.vert_core.specs.Appended.{IsAppended, IsUnappended}
use Rattle.vert_core.specs.Paragraphs.{IsUnset}
use Rattle.vert_core.specs.Setting.{setting}
use Rattle.job_machine.specs.declared.OpenList.{OpenList}
use Rattle.job_machine.specs.declared.ListPurpose.TheVariants.{Box}
use Rattle.job_machine.specs.State.{State, innermost, outer, with_innermost, items_in}
use Rattle.job_machine.specs.OpenLists.{packed_list}
use Rattle.job_machine.specs.Paragraphs.{depth_in, with_lines}
use Rattle.job_machine.specs.Checks.{checks, place_checks, packed_checks, purpose_checks, close_checks, first_refusal}
use Rattle.job_machine.specs.Effects.{list_with_box, with_box}
use Rattle.job_machine.proofs.ListElements.{set_back, get_set, get_take, get_some}
use Rattle.job_lists.specs.EmptiedNest.{refilled_nest, emptied_nest}
use Rattle.job_lists.specs.Private.EndedParagraphs.{IsEnded, IsRefused}

-- The innermost list is emptied, and gets its own items back.
pub refilled-emptied : (nest : List OpenList) (l : OpenList) → innermost nest ≡ Some l
    → refilled_nest (emptied_nest nest (Some l)) l.list (innermost (emptied_nest nest (Some l))) ≡ nest
refilled-emptied nest l is =
    let bare : OpenList = record l { list = none } in
    let last = length nest - 1 in
    let count : length (set nest last bare) ≡ length nest = length-set nest last bare in
    let found : innermost (emptied_nest nest (Some l)) ≡ Some bare = ap (λ n. slice_get (set nest last bare) (n - 1)) count ∙ get_set nest last l bare is in
    ap (refilled_nest (emptied_nest nest (Some l)) l.list) found
    ∙ (ap (λ n. set (set nest last bare) (n - 1) l) count ∙ set_back nest last l bare is)

-- Emptying the innermost list leaves the lists around it unchanged.
pub outer-emptied : (nest : List OpenList) (l : OpenList) → outer (emptied_nest nest (Some l)) ≡ outer nest
outer-emptied nest l =
    let bare : OpenList = record l { list = none } in
    let last = length nest - 1 in
    ap (λ n. take (n - 1) (set nest last bare)) (length-set nest last bare) ∙ take-set-le last nest last bare (omega arith)

-- The list around the innermost one is the last but one.
around_is : (nest : List OpenList) (l : OpenList) → 2 ≤ length nest → slice_get nest (length nest - 2) ≡ Some l → innermost (outer nest) ≡ Some l
around_is nest l enough is =
    let n = length nest - 1 in
    let count : length (outer nest) ≡ n = length-take-le n nest (omega (arith, enough)) in
    let place : length (outer nest) - 1 ≡ length nest - 2 = omega (arith, count, enough) in
    ap (λ i. slice_get (outer nest) i) place ∙ (get_take nest n (length nest - 2) (omega (arith, enough)) ∙ is)

-- The list around is changed, and the innermost one is dropped.
around_changed : (nest : List OpenList) (changed : OpenList) → 2 ≤ length nest
    → take (length nest - 1) (set nest (length nest - 2) changed) ≡ with_innermost (outer nest) changed
around_changed nest changed enough =
    let n = length nest - 1 in
    let count : length (outer nest) ≡ n = length-take-le n nest (omega (arith, enough)) in
    let place : length (outer nest) - 1 ≡ length nest - 2 = omega (arith, count, enough) in
    take-set-lt n nest (length nest - 2) changed (omega (arith, enough)) ∙ sym (ap (λ i. set (outer nest) i changed) place)

-- The same two facts in the form that the code has them: with its count of lists, and with what it read there.
pub around_found : (nest : List OpenList) (l : OpenList) (count : ℕ) → count ≡ length nest → 2 ≤ length nest → l ≡ get_or nest (count - 2) l
    → innermost (outer nest) ≡ Some l
around_found nest l count many enough is =
    around_is nest l enough (ap (λ n. slice_get nest (n - 2)) (sym many) ∙ (get_some nest (count - 2) l (omega (arith, many, enough)) ∙ ap Some (sym is)))

around_left : (nest : List OpenList) (changed : OpenList) (count : ℕ) (after : List OpenList) → count ≡ length nest → 2 ≤ length nest
    → after ≡ take (length (set nest (count - 2) changed) - 1) (set nest (count - 2) changed) → after ≡ with_innermost (outer nest) changed
around_left nest changed count after many enough left =
    let same = length-set nest (length nest - 2) changed in
    let closed = around_changed nest changed enough in
    cc (many, left, closed, same)

-- A box is appended to the list around the innermost one, which is then dropped.
pub closing_into : (params : Params) (nest : List OpenList) (b : BoxNode) (l changed : OpenList) (count : ℕ) (after : List OpenList)
    → count ≡ length nest → 2 ≤ length nest → l ≡ get_or nest (count - 2) l → changed ≡ list_with_box params (pos 0) b l
    → after ≡ take (length (set nest (count - 2) changed) - 1) (set nest (count - 2) changed)
    → after ≡ with_box params (outer nest) (pos 0) b (innermost (outer nest))
closing_into params nest b l changed count after many enough is turned left =
    let at = around_found nest l count many enough is in
    around_left nest changed count after many enough left
    ∙ (ap (with_innermost (outer nest)) turned ∙ sym (ap (with_box params (outer nest) (pos 0) b) at))

-- The lines of a paragraph are appended to the list around the innermost one, whose items were taken. `bare` is the nest while they are.
module _
    (params : Params) (nest bare : List OpenList) (inner l : OpenList) (count : ℕ) (items : Items) (is : innermost nest ≡ Some inner)
    (taken : bare ≡ emptied_nest nest (innermost nest)) (many : count ≡ length nest) (enough : 2 ≤ length nest) (read : l ≡ get_or bare (count - 2) l)
    (own : nodes_of items ≡ nodes_of (items_in (innermost nest)))
  where
    bare_is : bare ≡ emptied_nest nest (Some inner)
    bare_is = taken ∙ ap (emptied_nest nest) is

    pub as_many : length bare ≡ length nest
    as_many = ap length bare_is ∙ length-set nest (length nest - 1) (record inner { list = none })

    outer_is : outer bare ≡ outer nest
    outer_is = ap outer bare_is ∙ outer-emptied nest inner

    -- The list around the innermost one, also where its items are not taken.
    pub found_around : innermost (outer nest) ≡ Some l
    found_around = ap innermost (sym outer_is) ∙ around_found bare l count (many ∙ sym as_many) (omega (arith, enough, as_many)) read

    pub ended_nest :
        (changed : OpenList) (after : List OpenList) (figures : AppendedParagraph)
        → IsAppended (setting (nodes_of items) params l.previous_depth) (nodes_of l.list) (nodes_of changed.list) figures
        → changed ≡ record l { list = changed.list; previous_depth = figures.depth }
        → after ≡ take (length (set bare (count - 2) changed) - 1) (set bare (count - 2) changed)
        → IsEnded params (outer nest) (items_in (innermost nest)) after figures
    ended_nest changed after figures appended turned left =
        let lines = appended.set in
        let list_is : changed.list ≡ items_of (nodes_of l.list ++ nodes_of lines.items) = sym (items_of-nodes_of changed.list) ∙ ap items_of appended.items in
        let changed_is : changed ≡ record l { list = items_of (nodes_of l.list ++ nodes_of lines.items); previous_depth = lines.depth } =
        turned
        ∙ (ap (λ (more : Items). record l { list = more; previous_depth = figures.depth }) list_is
        ∙ ap (λ depth. record l { list = items_of (nodes_of l.list ++ nodes_of lines.items); previous_depth = depth }) appended.depth) in
        record {
          set = lines;
          is_set =
              ap (λ (o : Option OpenList). setting (nodes_of (items_in (innermost nest))) params (depth_in o)) found_around
              ∙ (ap (λ (xs : List Node). setting xs params l.previous_depth) (sym own) ∙ appended.is_set);
          shallow = appended.shallow;
          short = omega (arith, appended.short, ap (λ (o : Option OpenList). length (nodes_of (items_in o))) found_around);
          nest =
              around_left bare changed count after (many ∙ sym as_many) (omega (arith, enough, as_many)) left
              ∙ (ap (λ (lists : List OpenList). with_innermost lists changed) outer_is
              ∙ (ap (with_innermost (outer nest)) changed_is ∙ sym (ap (λ (o : Option OpenList). with_lines (outer nest) o (Ok lines)) found_around)));
          lines = appended.lines;
          pass = appended.pass;
          overhang = appended.overhang;
          demerits = appended.demerits;
        }

    pub refused_nest :
        (unappended : UnappendedLines)
        → IsUnappended (setting (nodes_of items) params l.previous_depth) (IsUnset (nodes_of items) params l.previous_depth) (nodes_of l.list) unappended
        → IsRefused params (outer nest) (items_in (innermost nest)) unappended
    refused_nest unappended refused =
        subst (λ (o : Option OpenList). IsUnappended (setting (nodes_of (items_in (innermost nest))) params (depth_in o)) (IsUnset (nodes_of (items_in (innermost nest))) params (depth_in o)) (nodes_of (items_in o)) unappended)
        (sym found_around)
        (subst (λ (xs : List Node). IsUnappended (setting xs params l.previous_depth) (IsUnset xs params l.previous_depth) (nodes_of l.list) unappended) own refused)

-- Where a closed list is refused, it gets the items of its box back.
pub put_back : (nest now : List OpenList) (items : Items) (l : OpenList) → innermost nest ≡ Some l → now ≡ emptied_nest nest (innermost nest) → items ≡ items_in (innermost nest)
    → refilled_nest now items (innermost now) ≡ nest
put_back nest now items l is taken same =
    let bare = taken ∙ ap (emptied_nest nest) is in
    let own = same ∙ ap items_in is in
    ap (λ n. refilled_nest n items (innermost n)) bare ∙ (ap (λ more. refilled_nest (emptied_nest nest (Some l)) more (innermost (emptied_nest nest (Some l)))) own ∙ refilled-emptied nest l is)

-- The end of a list is refused where its box is, although the code asks with the innermost list emptied.
pub end_refused : (s : State) (l : OpenList) (opening : Opening) (p : packs.PackedBox) (now : List OpenList) (found : Option Refusal) → s.over ≡ false
    → innermost s.nest ≡ Some l
    → l.purpose ≡ Box opening → packed_list s.params (innermost s.nest) ≡ Some p → now ≡ emptied_nest s.nest (innermost s.nest)
    → found ≡ first_refusal (place_checks s.params (outer now) opening.into p.box_node) → first_refusal (checks s End) ≡ found
end_refused s l opening p now found running is opened packed taken asked =
    let around = ap outer (taken ∙ ap (emptied_nest s.nest) is) ∙ outer-emptied s.nest l in
    let own = sym (ap (packed_list s.params) is) ∙ packed in
    let closed : close_checks s.params (outer s.nest) (innermost s.nest) ≡ packed_checks s.params (outer s.nest) opening.into (packed_list s.params (Some l)) =
    ap (close_checks s.params (outer s.nest)) is ∙ ap (purpose_checks s.params (outer s.nest) l) opened in
    rw (running, closed, own) (sym (asked ∙ ap (λ nest. first_refusal (place_checks s.params nest opening.into p.box_node)) around))

pub on_err : {A E : Type 0} {P : Type 0} (r : Result A E) → P → OnErr r P
on_err (Ok x) p = tt
on_err (Err e) p = p

pub no_list : (l : Option OpenList) → IsSome l → l ≡ None → ⊥
no_list None some is = cc
no_list (Some l) some is = cc

pub some_nodes : (nodes : List Node) → (length nodes == 0) ≡ false → nodes ≢ []
some_nodes [] is = λ none. cc
some_nodes (n ∷ nodes) is = λ none. cc

pub no_nodes : (nodes : List Node) → (length nodes == 0) ≡ true → nodes ≡ []
no_nodes [] empty = refl
no_nodes (n ∷ nodes) empty = absurd (omega (arith, eqb-true (length (n ∷ nodes)) 0 empty))
