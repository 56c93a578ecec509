-- A box that is taken out of a register, and put back.
use Rattle.std.proofs.Common.{◌≡◌, ◌==◌, ◌∙◌, ℕ, true, List, length, Option, Some, None, ap, sym}
use Rattle.std.specs.Prelude.{slice_set}
use Rattle.node_core.specs.declared.tree.BoxNode.{BoxNode}
use Rattle.node_core.specs.Nodes.{nodes_of}
use Rattle.job_machine.specs.declared.command.Transfer.TheVariants.{Copy}
use Rattle.job_machine.specs.declared.OpenList.{OpenList}
use Rattle.job_machine.specs.State.{State, held_in}
use Rattle.job_machine.specs.Effects.{with_unboxed}
use Rattle.job_machine.proofs.States.{held_back, void_again, none_added}

module _ (registers now : List (Option BoxNode)) (r : ℕ) (taken : Option BoxNode) where
  -- If the register was void, the registers are as before.
  pub none_taken : taken ≡ held_in registers r → now ≡ slice_set registers r None → taken ≡ None → now ≡ registers
  none_taken value void is = void ∙ void_again registers r (sym value ∙ is)

  -- When the box is put back, the registers are as before.
  pub box_back : (b : BoxNode) → taken ≡ held_in registers r → now ≡ slice_set registers r None → taken ≡ Some b → slice_set now r (Some b) ≡ registers
  box_back b value void is = rw void (held_back registers r b (sym value ∙ is))

-- If a box has no items, unboxing a copy of it changes nothing.
pub none_unboxed : (s : State) (r : ℕ) (b : BoxNode) → held_in s.registers r ≡ Some b → (length (nodes_of b.list) == 0) ≡ true
    → s ≡ with_unboxed s Copy r (held_in s.registers r)
none_unboxed s r b held empty =
    ap (λ (lists : List OpenList). record s { nest = lists }) (none_added s.nest (nodes_of b.list) empty) ∙ sym (ap (with_unboxed s Copy r) held)
