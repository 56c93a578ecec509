use Rattle.std.proofs.Common.{◌≡◌, ◌==◌, ◌++◌, ◌∷◌, [], ℕ, Bool, true, false, Option, Some, None, List, length, ◌∙◌, ap, sym, refl, arith}
use Rattle.std.specs.Prelude.{◌&&◌, not, is_none, is_some, nat_le}
use Rattle.std.proofs.lemmas.Bool.{ne_eqb, lt-leb}
use Rattle.node_core.specs.declared.limits.TheConstants.{MAX_OPEN_LISTS}
use Rattle.job_machine.specs.declared.command.Opening.{Opening}
use Rattle.job_machine.specs.declared.command.Command.TheVariants as commands
use Rattle.job_machine.specs.declared.OpenList.{OpenList}
use Rattle.job_machine.specs.declared.ListPurpose.TheVariants.{Box}
use Rattle.job_machine.specs.State.{State}
use Rattle.job_machine.specs.OpenLists.{opened_list}
use Rattle.job_machine.specs.Checks.{open_checks, first_refusal}
use Rattle.job_machine.specs.Machine.{state_after}
use Rattle.job_state.specs.JobStateView.{JobStateView, before_shipping}
use Rattle.job_state.proofs.job_state.JobState.open_list.Goals as goal
use Rattle.job_state.proofs.job_state.JobState.open_list.Goals.{else-is_none-via-then-is_none+else-count-eq0, else-is_none-via-else-is_none}

-- No check refuses a list that is opened.
opened_free : (nest : List OpenList) (into : Option ℕ) (count : ℕ) → count ≡ length nest → (is_none into && (count == 0)) ≡ false → nat_le MAX_OPEN_LISTS count ≡ false
    → first_refusal (open_checks nest into) ≡ None
opened_free nest into count is here few = rw (sym is, here, few) refl

none_and_some : (into : Option ℕ) (count : ℕ) → (count == 0) ≡ false → (is_none into && (count == 0)) ≡ false
none_and_some None count is = is
none_and_some (Some r) count is = refl

some_into : (into : Option ℕ) (count : ℕ) (none : Bool) → is_some into ≡ not none → none ≡ false → (is_none into && (count == 0)) ≡ false
some_into None count none tells is = absurd (let e : false ≡ not none = tells in let f : false ≡ true = e ∙ ap not is in cc)
some_into (Some r) count none tells is = refl

-- A list that no check refuses is opened after the others.
opened : (s : State) (opening : Opening) (now : List OpenList) → s.over ≡ false → first_refusal (open_checks s.nest opening.into) ≡ None
    → now ≡ s.nest ++ opened_list (Box opening) ∷ [] → record s { nest = now } ≡ state_after s (commands.Open opening)
opened s opening now running none is = rw (running, none, is) refl

pub returns-clause-state : goal.returns-clause-state
returns-clause-state c =
    let s = before_shipping c.args.self.now in
    let nest : c.self.inside.nest ≡ s.nest = ap (λ (t : JobStateView). t.nest) c.self.view_is in
    let none : first_refusal (open_checks s.nest c.args.opening.into) ≡ None =
    opened_free s.nest c.args.opening.into c.len-count.result (c.len-count.ensures.value ∙ ap length nest)
    (elim c.else-is_none.branch [ else-is_none-via-then-is_none+else-count-eq0 w ↦ none_and_some c.args.opening.into c.len-count.result (ne_eqb c.len-count.result 0 w.if-count-eq0.false) | else-is_none-via-else-is_none w ↦ some_into c.args.opening.into c.len-count.result c.is_none.result c.is_none.ensures w.if-is_none.false ])
    (lt-leb MAX_OPEN_LISTS c.len-count.result (omega (arith, c.if-count-ge-MAX_OPEN_LISTS.false))) in
    ap (λ (t : JobStateView). record (before_shipping t) { nest = c.begin.new.self }) c.self.view_is
    ∙ opened s c.args.opening c.begin.new.self refl none
    (c.in_ok-begin.ensures.ok ∙ ap (λ (lists : List OpenList). lists ++ opened_list (Box c.args.opening) ∷ []) nest)
