-- The registers and the open lists of a state, and the refusals of its commands.
use Rattle.std.proofs.Common.{◌≡◌, ◌∙◌, ℕ, zero, suc, ◌-◌, ◌==◌, ◌<◌, List, [], ◌∷◌, ◌++◌, length, set, Bool, true, false, Option, Some, None, refl, ap, sym, arith}
use Rattle.std.proofs.lemmas.Bool.{eqb-true}
use Rattle.std.proofs.lemmas.List.{append-nil}
use Rattle.node_core.specs.declared.tree.BoxNode.{BoxNode}
use Rattle.node_core.specs.declared.tree.Node.{Node}
use Rattle.node_core.specs.declared.params.Params.{Params}
use Rattle.node_core.specs.Items.{Items}
use Rattle.node_core.specs.Nodes.{items_of, nodes_of}
use Rattle.node_core.proofs.NodeLemmas.{items_of-nodes_of}
use Rattle.job_machine.specs.declared.replies.Refusal.{Refusal}
use Rattle.job_machine.specs.declared.OpenList.{OpenList}
use Rattle.job_machine.specs.State.{innermost, outer, with_innermost, held_in}
use Rattle.job_machine.specs.Checks.{box_checks, first_refusal}
use Rattle.job_machine.specs.Effects.{with_nodes}
use Rattle.job_machine.proofs.ListElements.{set_same}

-- A box goes back into the register that it was taken from.
pub held_back : (registers : List (Option BoxNode)) (r : ℕ) (b : BoxNode) → held_in registers r ≡ Some b → set (set registers r None) r (Some b) ≡ registers
held_back [] r b is = refl
held_back (held ∷ registers) zero b is = ap (λ first. first ∷ registers) (sym is)
held_back (held ∷ registers) (suc r) b is = ap (λ rest. held ∷ rest) (held_back registers r b is)

-- A void register that is made void leaves the registers as they were.
pub void_again : (registers : List (Option BoxNode)) (r : ℕ) → held_in registers r ≡ None → set registers r None ≡ registers
void_again [] r is = refl
void_again (held ∷ registers) zero is = ap (λ first. first ∷ registers) (sym is)
void_again (held ∷ registers) (suc r) is = ap (λ rest. held ∷ rest) (void_again registers r is)

-- The innermost list in its own place leaves the nest as it is.
pub same_innermost : (nest : List OpenList) (l : OpenList) → innermost nest ≡ Some l → with_innermost nest l ≡ nest
same_innermost nest l is = set_same nest (length nest - 1) l is

-- Where fewer than two lists are open, there is none around the innermost one.
pub none_around : (nest : List OpenList) (count : ℕ) → count ≡ length nest → count < 2 → innermost (outer nest) ≡ None
none_around [] count is few = refl
none_around (x ∷ []) count is few = refl
none_around (x ∷ (y ∷ zs)) count is few = absurd (omega (arith, is, few))

-- Without more nodes the nest is as it was.
pub none_added : (nest : List OpenList) (more : List Node) → (length more == 0) ≡ true → nest ≡ with_nodes nest more (innermost nest)
none_added nest (n ∷ more) empty = absurd (omega (arith, eqb-true (length (n ∷ more)) 0 empty))
none_added nest [] empty = by (innermost nest) refl
  where
    same : (l : OpenList) → record l { list = items_of (nodes_of l.list ++ []) } ≡ l
    same l = ap (λ (items : Items). record l { list = items }) (ap items_of (append-nil (nodes_of l.list)) ∙ items_of-nodes_of l.list)

    by : (l : Option OpenList) → innermost nest ≡ l → nest ≡ with_nodes nest [] l
    by None is = refl
    by (Some l) is = sym (ap (with_innermost nest) (same l) ∙ same_innermost nest l is)

-- A box that is not refused has an open list to go into.
pub no_box : (params : Params) (l : Option OpenList) (b : BoxNode) → first_refusal (box_checks params l b) ≡ None → l ≡ None → ⊥
no_box params None b free is = cc
no_box params (Some l) b free is = cc

-- The first refusal of a job that is not over is also the first where more checks follow.
pub first_refused : (over : Bool) (own more : List (Bool × Refusal)) (job refusal : Refusal) → over ≡ false → first_refusal own ≡ Some refusal
    → first_refusal ((over, job) ∷ (own ++ more)) ≡ Some refusal
first_refused over own more job refusal running is = rw running (others own is)
  where
    others : (own : List (Bool × Refusal)) → first_refusal own ≡ Some refusal → first_refusal (own ++ more) ≡ Some refusal
    others [] is = cc
    others ((true, r) ∷ own) is = is
    others ((false, r) ∷ own) is = others own is
