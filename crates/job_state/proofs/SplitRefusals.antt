-- The refusals of a split, and its effect on the registers.
use Rattle.std.proofs.Common.{◌≡◌, ◌∙◌, ℤ, Bool, true, false, List, [], ◌∷◌, Option, Some, None, refl, ap, sym}
use Rattle.std.specs.Prelude.{not, IsSome, is_some, slice_set}
use Rattle.std.specs.Option.{option_map}
use Rattle.std.specs.List.{list_all, list_any}
use Rattle.scaled_core.specs.Dimensions.{fits}
use Rattle.node_core.specs.declared.params.SplitParams.{SplitParams}
use Rattle.node_core.specs.declared.tree.Node.{Node}
use Rattle.node_core.specs.declared.tree.Kind.TheVariants.{Vertical}
use Rattle.node_core.specs.declared.tree.BoxNode.{BoxNode}
use Rattle.node_core.specs.Nodes.{nodes_of}
use Rattle.pack_core.specs.declared.pack.PackedBox as packs
use Rattle.vert_core.specs.declared.parts.SplitFault.{SplitFault}
use Rattle.vert_core.specs.declared.parts.SplitFault.TheVariants as faults
use Rattle.node_core.specs.Classes.{shrinks_infinitely}
use Rattle.vert_core.specs.Split.{split_numbers, refusal, fault_of, front_of, rest_of}
use Rattle.job_machine.specs.declared.replies.Refusal.{Refusal}
use Rattle.job_machine.specs.declared.replies.Refusal.TheVariants.{InfiniteShrink, DimensionTooLarge}
use Rattle.job_machine.specs.declared.command.Splitting.{Splitting}
use Rattle.job_machine.specs.State.{held_in}
use Rattle.job_machine.specs.Checks.{is_other, split_checks, first_refusal}
use Rattle.job_machine.specs.Effects.{with_parts, with_split}
use Rattle.job_machine.specs.Machine.{state_by}
use Rattle.job_state.specs.Private.SplitFaults.{split_refusal}
use Rattle.job_machine.proofs.ListElements.{set_again}
use Rattle.job_machine.proofs.States.{held_back, void_again}

-- The fault of a split is the first refusal of the items of a vbox.
pub fault_refused : (params : SplitParams) (height : ℤ) (items : List Node)
    → split_refusal (fault_of (refusal params height items))
    ≡ first_refusal ((list_any shrinks_infinitely items, InfiniteShrink) ∷ (not (list_all fits (split_numbers params height items)), DimensionTooLarge) ∷ [])
unfolding refusal
fault_refused params height items = by (list_any shrinks_infinitely items) (list_all fits (split_numbers params height items)) refl refl
  where
    by : (shrinks large : Bool) → list_any shrinks_infinitely items ≡ shrinks → list_all fits (split_numbers params height items) ≡ large
        → split_refusal (fault_of (refusal params height items))
        ≡ first_refusal ((list_any shrinks_infinitely items, InfiniteShrink) ∷ (not (list_all fits (split_numbers params height items)), DimensionTooLarge) ∷ [])
    by true large e f = rw e refl
    by false true e f = rw (e, f) refl
    by false false e f = rw (e, f) refl

-- If only memory was refused, no check refuses the split.
none_against : (params : SplitParams) (height : ℤ) (items : List Node) → split_refusal (fault_of (refusal params height items)) ≡ None → refusal params height items ≡ None
unfolding refusal
none_against params height items none = by (list_any shrinks_infinitely items) (list_all fits (split_numbers params height items)) refl refl
  where
    told : (found : Option SplitFault) → refusal params height items ≡ found → split_refusal (fault_of found) ≡ None
    told found is = ap (λ o. split_refusal (fault_of o)) (sym is) ∙ none

    by : (shrinks large : Bool) → list_any shrinks_infinitely items ≡ shrinks → list_all fits (split_numbers params height items) ≡ large
        → refusal params height items ≡ None
    by true large e f = let shrunk : Some InfiniteShrink ≡ None = told (Some faults.InfiniteShrink) (rw e refl) in cc
    by false false e f = let huge : Some DimensionTooLarge ≡ None = told (Some faults.DimensionTooLarge) (rw (e, f) refl) in cc
    by false true e f = rw (e, f) refl

-- Only a split that leaves a rest runs out of memory.
pub left_by : (params : SplitParams) (height : ℤ) (items : List Node) (fault : SplitFault)
    → fault ≡ fault_of (refusal params height items) → (refusal params height items ≡ None → is_some (rest_of params height items) ≡ true)
    → split_refusal fault ≡ None → IsSome (rest_of params height items)
left_by params height items fault is growth none = growth (none_against params height items (sym (ap split_refusal is) ∙ none))

-- A vbox that can be split is not refused.
pub vbox_free : (params : SplitParams) (height : ℤ) (b : BoxNode) → is_other Vertical b.kind ≡ false → refusal params height (nodes_of b.list) ≡ None
    → first_refusal (split_checks params height (Some b)) ≡ None
vbox_free params height b vertical free = rw vertical (sym (fault_refused params height (nodes_of b.list)) ∙ ap (λ o. split_refusal (fault_of o)) free)

module _ (params : SplitParams) (splitting : Splitting) (registers taken : List (Option BoxNode)) (is_taken : taken ≡ slice_set registers splitting.register None) where
  -- The registers after a split, by what the split register held.
  abbrev pub after_split : Option BoxNode → List (Option BoxNode)
  after_split held = state_by (first_refusal (split_checks params splitting.height held)) registers (with_split params registers splitting held)

  pub void_split : (now : List (Option BoxNode)) → held_in registers splitting.register ≡ None → now ≡ slice_set taken splitting.into None
      → now ≡ after_split (held_in registers splitting.register)
  void_split now void put =
      rw void (put ∙ ap (λ (xs : List (Option BoxNode)). slice_set xs splitting.into None) (is_taken ∙ void_again registers splitting.register void))

  module _ (b : BoxNode) (held : held_in registers splitting.register ≡ Some b) where
    pub parts_split : (now : List (Option BoxNode)) (front : packs.PackedBox) (rest : Option packs.PackedBox)
        → front ≡ front_of params splitting.height (nodes_of b.list)
        → rest ≡ rest_of params splitting.height (nodes_of b.list) → first_refusal (split_checks params splitting.height (Some b)) ≡ None
        → now ≡ with_parts taken splitting front rest → now ≡ after_split (held_in registers splitting.register)
    parts_split now front rest front_is rest_is free put =
        let again : with_parts taken splitting front rest ≡ with_parts registers splitting front rest =
        ap (λ (xs : List (Option BoxNode)). with_parts xs splitting front rest) is_taken
        ∙ ap (λ (xs : List (Option BoxNode)). slice_set xs splitting.into (Some front.box_node))
        (set_again registers splitting.register None (option_map (λ (p : packs.PackedBox). p.box_node) rest)) in
        let right : with_parts registers splitting front rest ≡ with_split params registers splitting (Some b) = rw (front_is, rest_is) refl in
        let accepted : after_split (Some b) ≡ with_split params registers splitting (Some b) = ap (λ o. state_by o registers (with_split params registers splitting (Some b))) free in
        put ∙ again ∙ right ∙ sym accepted ∙ sym (ap after_split held)

    pub box_back : (now : List (Option BoxNode)) (same : BoxNode) → same ≡ b → now ≡ slice_set taken splitting.register (Some same) → now ≡ registers
    box_back now same is put =
        put ∙ ap (λ (xs : List (Option BoxNode)). slice_set xs splitting.register (Some same)) is_taken
        ∙ ap (λ (x : BoxNode). slice_set (slice_set registers splitting.register None) splitting.register (Some x)) is ∙ held_back registers splitting.register b held

    pub refused_split : (now : List (Option BoxNode)) (same : BoxNode) (refused : Refusal) → same ≡ b → now ≡ slice_set taken splitting.register (Some same)
        → first_refusal (split_checks params splitting.height (Some b)) ≡ Some refused → now ≡ after_split (held_in registers splitting.register)
    refused_split now same refused is put found =
        let kept : after_split (Some b) ≡ registers = ap (λ o. state_by o registers (with_split params registers splitting (Some b))) found in
        box_back now same is put ∙ sym kept ∙ sym (ap after_split held)
