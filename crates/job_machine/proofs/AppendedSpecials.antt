-- A special that is accepted is the last item of the innermost list.
use Rattle.std.proofs.Common.{◌≡◌, ◌∙◌, ◌-◌, ℕ, List, [], ◌∷◌, ◌++◌, length, set, Option, Some, None, Ok, ap}
use Rattle.std.specs.Prelude.{slice_get}
use Rattle.std.proofs.lemmas.List.{length-set}
use Rattle.node_core.specs.declared.tree.Node.TheVariants as nodes
use Rattle.node_core.specs.Nodes.{items_of, nodes_of}
use Rattle.job_machine.specs.declared.replies.Answer.TheVariants.{Done}
use Rattle.job_machine.specs.declared.command.Command.TheVariants.{Special}
use Rattle.job_machine.specs.declared.OpenList.{OpenList}
use Rattle.job_machine.specs.State.{State, innermost}
use Rattle.job_machine.specs.Checks.{checks, first_refusal}
use Rattle.job_machine.specs.Effects.{with_nodes, state_after_command}
use Rattle.job_machine.specs.Machine.{reply_by, reply_to, state_by, state_after}
use Rattle.job_machine.proofs.ListElements.{get_set}

pub special_answer : (s : State) (text : List ℕ) → first_refusal (checks s (Special text)) ≡ None → reply_to s (Special text) ≡ Ok Done
special_answer s text free = ap (λ refused. reply_by refused Done) free

pub special_last : (s : State) (l : OpenList) (text : List ℕ) → first_refusal (checks s (Special text)) ≡ None → innermost s.nest ≡ Some l
    → innermost (state_after s (Special text)).nest ≡ Some (record l { list = items_of (nodes_of l.list ++ nodes.Special text ∷ []) })
special_last s l text free is =
    let longer : OpenList = record l { list = items_of (nodes_of l.list ++ nodes.Special text ∷ []) } in
    let last = length s.nest - 1 in
    ap (λ refused. innermost (state_by refused s (state_after_command s (Special text))).nest) free
    ∙ (ap (λ (o : Option OpenList). innermost (with_nodes s.nest (nodes.Special text ∷ []) o)) is
    ∙ (ap (λ n. slice_get (set s.nest last longer) (n - 1)) (length-set s.nest last longer) ∙ get_set s.nest last l longer is))
