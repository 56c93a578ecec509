-- The items that characters become are kept at the end of a list, or cut off again.
use Rattle.std.proofs.Common.{◌≡◌, ◌∙◌, ◌+◌, ◌-◌, ◌==◌, ◌≤◌, ◌++◌, ◌∷◌, ℕ, true, List, [], length, set, Option, Some, None, Ok, refl, ap, sym, arith, append-nil}
use Rattle.std.specs.Prelude.{slice_get}
use Rattle.std.proofs.lemmas.Bool.{eqb-true, le-ltb}
use Rattle.std.proofs.lemmas.List.{length-set}
use Rattle.node_core.specs.declared.limits.TheConstants.{MAX_ITEMS}
use Rattle.node_core.specs.declared.tree.Node.{Node}
use Rattle.node_core.specs.Items.{Items, none}
use Rattle.node_core.specs.Nodes.{items_of, nodes_of}
use Rattle.node_core.proofs.NodeLemmas.{items_of-nodes_of}
use Rattle.job_machine.specs.declared.replies.Refusal.{Refusal}
use Rattle.job_machine.specs.declared.replies.Refusal.TheVariants.{ListTooLong}
use Rattle.job_machine.specs.declared.replies.Answer.TheVariants.{Shaped}
use Rattle.shape_core.specs.Texts.{text_items, text_missing}
use Rattle.tfm_core.specs.declared.slots.LoadedFont.{LoadedFont}
use Rattle.job_machine.specs.FontSlots.{CharacterItems, no_characters, text_items_in}
use Rattle.job_machine.specs.Answers.{shaped_answer}
use Rattle.job_machine.specs.declared.OpenList.{OpenList}
use Rattle.job_machine.specs.State.{innermost, with_innermost, items_in}
use Rattle.job_machine.specs.Checks.{count_checks, first_refusal}
use Rattle.job_machine.specs.Effects.{with_nodes}
use Rattle.job_lists.specs.EmptiedNest.{emptied_nest, refilled_nest}
use Rattle.job_machine.specs.Machine.{reply_by, state_by}
use Rattle.job_machine.proofs.ListElements.{get_set, set_again}
use Rattle.job_machine.proofs.States.{same_innermost}

-- An empty text becomes no items, for which there is always space.
no_text : (loaded : LoadedFont) (slot : ℕ) (text : List ℕ) → (length text == 0) ≡ true → text_items_in (Some loaded) slot text ≡ no_characters
unfolding text_items text_missing
no_text loaded slot [] empty = refl
no_text loaded slot (c ∷ text) empty = absurd (omega (arith, eqb-true (length (c ∷ text)) 0 empty))

space_for_none : (count : ℕ) → count ≤ MAX_ITEMS → first_refusal (count_checks count []) ≡ None
space_for_none count short = rw (le-ltb MAX_ITEMS (count + 0) (omega (arith, short))) refl

module _ (loaded : LoadedFont) (slot : ℕ) (text : List ℕ) (items : List Node) (empty : (length text == 0) ≡ true) (short : length items ≤ MAX_ITEMS) where
  none_reply : reply_by (first_refusal (count_checks (length items) [])) (shaped_answer no_characters) ≡ Ok (Shaped 0 0)
  none_reply = ap (λ (o : Option Refusal). reply_by o (shaped_answer no_characters)) (space_for_none (length items) short)

  pub reply_to_none : Ok (Shaped 0 0) ≡ reply_by (first_refusal (count_checks (length items) (text_items_in (Some loaded) slot text).items))
      (shaped_answer (text_items_in (Some loaded) slot text))
  reply_to_none =
      sym (ap (λ (x : CharacterItems). reply_by (first_refusal (count_checks (length items) x.items)) (shaped_answer x))
      (no_text loaded slot text empty) ∙ none_reply)

  none_kept : state_by (first_refusal (count_checks (length items) [])) items (items ++ []) ≡ items
  none_kept = ap (λ (o : Option Refusal). state_by o items (items ++ [])) (space_for_none (length items) short) ∙ append-nil items

  pub items_with_none : items ≡ state_by (first_refusal (count_checks (length items) (text_items_in (Some loaded) slot text).items)) items
      (items ++ (text_items_in (Some loaded) slot text).items)
  items_with_none =
      sym (ap (λ (x : CharacterItems). state_by (first_refusal (count_checks (length items) x.items)) items (items ++ x.items))
      (no_text loaded slot text empty) ∙ none_kept)

-- Items go into the innermost list after its own were taken out.
refilled_again : (nest : List OpenList) (items : Items)
    → refilled_nest (emptied_nest nest (innermost nest)) items (innermost (emptied_nest nest (innermost nest))) ≡ refilled_nest nest items (innermost nest)
refilled_again nest items = by (innermost nest) refl
  where
    by : (l : Option OpenList) → innermost nest ≡ l → refilled_nest (emptied_nest nest l) items (innermost (emptied_nest nest l)) ≡ refilled_nest nest items l
    by None is = ap (refilled_nest nest items) is
    by (Some l) is =
        let bare : OpenList = record l { list = none } in
        let full : OpenList = record l { list = items } in
        let last = length nest - 1 in
        let count : length (set nest last bare) ≡ length nest = length-set nest last bare in
        let found : innermost (emptied_nest nest (Some l)) ≡ Some bare = ap (λ n. slice_get (set nest last bare) (n - 1)) count ∙ get_set nest last l bare is in
        ap (refilled_nest (emptied_nest nest (Some l)) items) found
        ∙ (ap (λ n. set (set nest last bare) (n - 1) full) count ∙ set_again nest last bare full)

-- Refilled with its own items and more, the innermost list is as the machine has it after an accepted command; with its own alone, as after a refused one.
kept_or_added : (nest : List OpenList) (more : List Node) (refused : Option Refusal)
    → refilled_nest nest (items_of (state_by refused (nodes_of (items_in (innermost nest))) (nodes_of (items_in (innermost nest)) ++ more))) (innermost nest)
    ≡ state_by refused nest (with_nodes nest more (innermost nest))
kept_or_added nest more None = added (innermost nest)
  where
    added : (l : Option OpenList) → refilled_nest nest (items_of (nodes_of (items_in l) ++ more)) l ≡ with_nodes nest more l
    added None = refl
    added (Some l) = refl
kept_or_added nest more (Some refusal) = same (innermost nest) refl
  where
    same : (l : Option OpenList) → innermost nest ≡ l → refilled_nest nest (items_of (nodes_of (items_in l))) l ≡ nest
    same None is = refl
    same (Some l) is = ap (λ (items : Items). with_innermost nest (record l { list = items })) (items_of-nodes_of l.list) ∙ same_innermost nest l is

-- The items of the innermost list are taken out, get more at their end unless the command is refused, and are put back.
pub put_more : (nest bare after : List OpenList) (taken items more : List Node) (refused : Option Refusal) → bare ≡ emptied_nest nest (innermost nest)
    → taken ≡ nodes_of (items_in (innermost nest)) → items ≡ state_by refused taken (taken ++ more) → after ≡ refilled_nest bare (items_of items) (innermost bare)
    → after ≡ state_by refused nest (with_nodes nest more (innermost nest))
put_more nest bare after taken items more refused emptied were are put =
    let same : items ≡ state_by refused (nodes_of (items_in (innermost nest))) (nodes_of (items_in (innermost nest)) ++ more) =
    are ∙ ap (λ (own : List Node). state_by refused own (own ++ more)) were in
    put ∙ (ap (λ (n : List OpenList). refilled_nest n (items_of items) (innermost n)) emptied
    ∙ (refilled_again nest (items_of items) ∙ (ap (λ (list : List Node). refilled_nest nest (items_of list) (innermost nest)) same ∙ kept_or_added nest more refused)))

-- Where memory was refused, the innermost list gets its own items back.
pub put_back_all : (nest bare after : List OpenList) (taken items : List Node) → bare ≡ emptied_nest nest (innermost nest)
    → taken ≡ nodes_of (items_in (innermost nest)) → items ≡ taken → after ≡ refilled_nest bare (items_of items) (innermost bare) → after ≡ nest
put_back_all nest bare after taken items emptied were are put = put_more nest bare after taken items [] (Some ListTooLong) emptied were are put
