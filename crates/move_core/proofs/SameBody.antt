-- The reused body and the given body: all clauses of `reuse`.
use Rattle.std.proofs.Common.{◌≡◌, ◌≤◌, [], ◌∷◌, List, ℤ, Result, Ok, Err, length, sym, ◌∙◌, ap, subst, arith, Contains}
use Rattle.std.specs.Result.{IfOk}
use Rattle.std.specs.List.{AllByRecursion}
use Rattle.dvi_ops.specs.Instruction.{Axis, Across, Downward, Instruction, Pop}
use Rattle.dvi_ops.specs.Body.{instruction_acts}
use Rattle.dvi_ops.specs.Forest.{Forest, Empty, Then, Group, flat, meaning}
use Rattle.dvi_ops.specs.Layout.{bytes_of, IsWritable}
use Rattle.dvi_ops.specs.Plain.{NamesNoRegister}
use Rattle.scaled_core.proofs.EachOf.{all_front, all_back}
use Rattle.move_core.specs.Registers.{nothing_known}
use Rattle.move_core.specs.Reused.{reused_from, pruned_body, reused_body}
use Rattle.move_core.specs.SamePage.{IsPlainBody, AreBodies, shown_meaning, MeansTheSame, PassesThroughNoOther, NestsNoDeeper, HasNoHollow}
use Rattle.move_core.specs.SamePage.{unset_registers, UsesStored, SetsBeforeUse, leaves_in_order}
use Rattle.move_core.specs.Private.Passes.{trimmed_instructions, rewritten_instructions, outside_groups}
use Rattle.move_core.proofs.Choices.{nothing_agrees}
use Rattle.move_core.proofs.Meanings.{IsPlain, shown_follows, reused_follows, reused_points}
use Rattle.move_core.proofs.Pruned.{meaning-pruned, points-pruned, nests-pruned, plain-pruned, no_hollow-pruned}
use Rattle.move_core.proofs.Tidy.{uses_stored, sets_before, no_hollow-reused, nests-reused}
use Rattle.move_core.proofs.Passing.{passes_body}
use Rattle.move_core.proofs.ShorterBodies.{reused_shorter, pruned_shorter, reused_still, pruned_still, reused_writable, pruned_writable}

-- A body whose instructions use no register.
pub plain_forest : (f : Forest) → AllByRecursion NamesNoRegister (flat f) → IsPlain f
plain_forest Empty all = tt
plain_forest (Then leaf rest) (here, all) = (here, plain_forest rest all)
plain_forest (Group inner rest) (push, all) = (
  plain_forest inner (all_front NamesNoRegister (flat inner) (Pop ∷ flat rest) all),
  plain_forest rest (all_back NamesNoRegister (flat inner) (Pop ∷ flat rest) all).1,
)

pub reused_meaning : (f : Forest) → IsPlain f → MeansTheSame f (reused_body f)
unfolding reused_body
reused_meaning f plain widths s =
    shown_follows (meaning (instruction_acts widths) (pruned_body f) s) (meaning (instruction_acts widths) (reused_from nothing_known (pruned_body f)) s)
    (reused_follows widths nothing_known (pruned_body f) s.place.held s (plain-pruned f plain) (nothing_agrees s.place.held))
    ∙ ap shown_meaning (meaning-pruned (instruction_acts widths) f s)

pub reused_places : (f : Forest) → IsPlain f → PassesThroughNoOther f (reused_body f)
unfolding reused_body
reused_places f plain widths s p there =
    points-pruned (instruction_acts widths) f s p
    (subst (λ (ps : List (ℤ × ℤ)). Contains ps p)
    (reused_points widths nothing_known (pruned_body f) s.place.held s (plain-pruned f plain) (nothing_agrees s.place.held)) there)

pub reused_nests : (f : Forest) → NestsNoDeeper f (reused_body f)
unfolding reused_body
reused_nests f = omega (arith, nests-reused nothing_known (pruned_body f), nests-pruned f)

pub reused_full : (f : Forest) → HasNoHollow (reused_body f)
unfolding reused_body
reused_full f = no_hollow-reused nothing_known (pruned_body f) (no_hollow-pruned f)

pub reused_uses : (axis : Axis) (f : Forest) → IsPlain f → UsesStored axis unset_registers (reused_body f)
unfolding reused_body
reused_uses Across f plain = uses_stored Across nothing_known (pruned_body f) (plain-pruned f plain)
reused_uses Downward f plain = uses_stored Downward nothing_known (pruned_body f) (plain-pruned f plain)

pub reused_before : (axis : Axis) (f : Forest) → IsPlain f → SetsBeforeUse axis unset_registers (reused_body f)
unfolding reused_body
reused_before Across f plain = sets_before Across nothing_known (pruned_body f) (plain-pruned f plain)
reused_before Downward f plain = sets_before Downward nothing_known (pruned_body f) (plain-pruned f plain)

pub reused_length : (f : Forest) → length (bytes_of (flat (reused_body f))) ≤ length (bytes_of (flat f))
unfolding reused_body
reused_length f = omega (arith, reused_shorter nothing_known (pruned_body f), pruned_shorter f)

pub reused_order : (f : Forest) → leaves_in_order (flat (reused_body f)) ≡ leaves_in_order (flat f)
unfolding reused_body
reused_order f = reused_still nothing_known (pruned_body f) ∙ pruned_still f

pub reused_fits : (f : Forest) → AllByRecursion IsWritable (flat f) → AllByRecursion IsWritable (flat (reused_body f))
unfolding reused_body
reused_fits f all = reused_writable nothing_known (pruned_body f) (pruned_writable f all)

-- A fact about a result gives a weaker one.
pub if_ok : {T E : Type 0} (P Q : T → Type 0) (result : Result T E) → ((x : T) → P x → Q x) → IfOk result P → IfOk result Q
if_ok P Q (Ok x) next p = next x p
if_ok P Q (Err e) next p = tt

-- The passes give the reused body.
pub gives_reused : (is middle js : List Instruction) (f : Forest) → middle ≡ trimmed_instructions is [] → js ≡ rewritten_instructions middle outside_groups → is ≡ flat f → js ≡ flat (reused_body f)
gives_reused is middle js f trims writes body =
    writes ∙ (ap (λ (is : List Instruction). rewritten_instructions is outside_groups) (trims ∙ ap (λ (is : List Instruction). trimmed_instructions is []) body) ∙ passes_body f)

-- A relation between each body without registers and its reused body holds between the input and the output of the passes.
pub are_bodies : (Related : Forest → Forest → Type 0) (is middle js : List Instruction) → ((f : Forest) → IsPlain f → Related f (reused_body f)) →
    IsPlainBody is → middle ≡ trimmed_instructions is [] → js ≡ rewritten_instructions middle outside_groups → AreBodies Related is js
are_bodies Related is middle js holds (body, same, plain) trims writes f e =
    (reused_body f, gives_reused is middle js f trims writes e, holds f (plain_forest f (subst (AllByRecursion NamesNoRegister) e plain)))

-- The same for relations between the two lists.
pub are_lists : (Related : List Instruction → List Instruction → Type 0) (is middle js : List Instruction) → ((f : Forest) → Related (flat f) (flat (reused_body f))) →
    IsPlainBody is → middle ≡ trimmed_instructions is [] → js ≡ rewritten_instructions middle outside_groups → Related is js
are_lists Related is middle js holds (body, same, plain) trims writes =
    subst (λ (js : List Instruction). Related is js) (sym (gives_reused is middle js body trims writes same))
    (subst (λ (is : List Instruction). Related is (flat (reused_body body))) (sym same) (holds body))
