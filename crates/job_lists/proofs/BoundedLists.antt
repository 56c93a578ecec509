-- Each change of the open lists keeps the invariant of `Nest`: few lists, each of at most `MAX_ITEMS` items.
use Rattle.std.proofs.Common.{◌≡◌, ◌≤◌, ◌+◌, ◌-◌, ◌++◌, ◌∷◌, [], ℕ, ℤ, Bool, true, false, List, length, take, set, Option, Some, None, Result, Ok, Err, OnOk, OnErr, refl, ap, sym, subst, arith, length-append}
use Rattle.std.specs.Prelude.{pos, not, is_ok, nat_lt}
use Rattle.std.proofs.Math.ListN.{length-set}
use Rattle.std.proofs.lemmas.Bool.{ltb-false}
use Rattle.std.proofs.lemmas.List.{length-take}
use Rattle.job_machine.specs.declared.replies.Refusal.{Refusal}
use Rattle.job_machine.specs.declared.replies.Refusal.TheVariants.{DimensionTooLarge, ListTooLong}
use Rattle.node_core.specs.declared.limits.TheConstants.{MAX_ITEMS, MAX_OPEN_LISTS}
use Rattle.scaled_core.proofs.EachOf.{each_at, each_set, each_taken}
use Rattle.node_core.proofs.NodeLemmas.{nodes_of-items_of}
use Rattle.node_core.specs.Items.{Items}
use Rattle.node_core.specs.Nodes.{items_of, nodes_of}
use Rattle.node_core.specs.declared.params.Params.{Params}
use Rattle.node_core.specs.declared.tree.BoxNode.{BoxNode}
use Rattle.node_core.specs.declared.tree.Glue as glues
use Rattle.node_core.specs.declared.tree.Node.{Node}
use Rattle.vert_core.specs.Interline.{glue_of, appended_nodes}
use Rattle.job_machine.specs.declared.OpenList.{OpenList}
use Rattle.job_machine.specs.Checks.{box_checks, first_refusal}
use Rattle.job_machine.specs.Effects.{list_with_box}
use Rattle.job_machine.specs.OpenLists.{glue_in, box_items}
use Rattle.job_lists.specs.Private.BoundedLists.{IsBounded, AreBounded}
use Rattle.job_machine.specs.State.{innermost, items_in}

-- The innermost of short lists is short.
pub innermost_bounded : (nest : List OpenList) → AreBounded nest → length (nodes_of (items_in (innermost nest))) ≤ MAX_ITEMS
innermost_bounded nest short = found (innermost nest) refl
  where
    found : (l : Option OpenList) → innermost nest ≡ l → length (nodes_of (items_in l)) ≤ MAX_ITEMS
    found None is = omega arith
    found (Some l) is = each_at IsBounded nest (length nest - 1) l short is

-- One of the lists is replaced by a short one.
pub one_changed : (nest : List OpenList) (i : ℕ) (l : OpenList) → length nest ≤ MAX_OPEN_LISTS → AreBounded nest → IsBounded l
    → (length (set nest i l) ≤ MAX_OPEN_LISTS) × AreBounded (set nest i l)
one_changed nest i l few short own = (omega (arith, few, length-set nest i l), each_set IsBounded nest i l short own)

-- The last lists are dropped.
pub innermost_taken : (nest : List OpenList) (n : ℕ) → length nest ≤ MAX_OPEN_LISTS → AreBounded nest → (length (take n nest) ≤ MAX_OPEN_LISTS) × AreBounded (take n nest)
innermost_taken nest n few short = (omega (arith, few, length-take n nest), each_taken IsBounded n nest short)

-- One of the lists is replaced by a short one, and the innermost one is then dropped.
pub changed_and_taken : (nest : List OpenList) (i n : ℕ) (l : OpenList) (after : List OpenList) → length nest ≤ MAX_OPEN_LISTS → AreBounded nest → IsBounded l
    → after ≡ take n (set nest i l) → (length after ≤ MAX_OPEN_LISTS) × AreBounded after
changed_and_taken nest i n l after few short own left =
    let changed = one_changed nest i l few short own in
    subst (λ (lists : List OpenList). (length lists ≤ MAX_OPEN_LISTS) × AreBounded lists) (sym left) (innermost_taken (set nest i l) n changed.0 changed.1)

-- A list gets nodes for which it has space.
pub bounded_with_nodes : (nodes more : List Node) → length nodes + length more ≤ MAX_ITEMS → length (nodes_of (items_of (nodes ++ more))) ≤ MAX_ITEMS
bounded_with_nodes nodes more space = omega (arith, space, length-append nodes more, ap length (nodes_of-items_of (nodes ++ more)))

pub more_fit : {E : Type 0} (result : Result (Unit {0}) E) (old new : Items) (more : List Node) → length (nodes_of old) + length more ≤ MAX_ITEMS
    → OnOk result (new ≡ items_of (nodes_of old ++ more)) → OnErr result (new ≡ old) → length (nodes_of new) ≤ MAX_ITEMS
more_fit (Ok u) old new more space ok err =
    subst (λ (items : Items). length (nodes_of items) ≤ MAX_ITEMS) (sym ok) (bounded_with_nodes (nodes_of old) more space)
more_fit (Err e) old new more space ok err = subst (λ (items : Items). length (nodes_of items) ≤ MAX_ITEMS) (sym err) (omega (arith, space))

second_fails : (a b : Bool) (p q : Refusal) → first_refusal ((a, p) ∷ (b, q) ∷ []) ≡ None → b ≡ false
second_fails true b p q none = cc
second_fails false true p q none = cc
second_fails false false p q none = refl

same_count : (glue : Option glues.Glue) (shift : ℤ) (b : BoxNode) → length (appended_nodes glue shift b) ≡ length (appended_nodes glue (pos 0) b)
same_count None shift b = refl
same_count (Some glue) shift b = refl

-- A list gets a box that the checks admit.
pub bounded_with_box : (params : Params) (shift : ℤ) (b : BoxNode) (l : OpenList) → first_refusal (box_checks params (Some l) b) ≡ None → IsBounded (list_with_box params shift b l)
bounded_with_box params shift b l none =
    let count = length (nodes_of l.list) + length (box_items params l (pos 0) b) in
    let space = ltb-false MAX_ITEMS count
    (second_fails (not (is_ok (glue_in params l b.height))) (nat_lt MAX_ITEMS count) DimensionTooLarge ListTooLong none) in
    bounded_with_nodes (nodes_of l.list) (box_items params l shift b)
    (omega (arith, space, same_count (glue_of (glue_in params l b.height)) shift b))

pub box_fits : {E : Type 0} (result : Result (Unit {0}) E) (params : Params) (shift : ℤ) (b : BoxNode) (old new : OpenList)
    → first_refusal (box_checks params (Some old) b) ≡ None → IsBounded old → OnOk result (new ≡ list_with_box params shift b old) → OnErr result (new ≡ old) → IsBounded new
box_fits (Ok u) params shift b old new none short ok err = subst IsBounded (sym ok) (bounded_with_box params shift b old none)
box_fits (Err e) params shift b old new none short ok err = subst IsBounded (sym err) short
