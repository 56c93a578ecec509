-- The end of a paragraph changes the open lists, and all else stays.
use Rattle.std.proofs.Common.{◌≡◌, ◌∙◌, false, List, Option, Some, None, Result, Ok, Err, refl, ap, sym}
use Rattle.std.specs.Prelude.{◌++◌, ◌∷◌, [], IfOk, OnOk, OnErr}
use Rattle.job_machine.specs.declared.replies.Answer.{Answer}
use Rattle.job_machine.specs.declared.command.Command.TheVariants as commands
use Rattle.job_machine.specs.declared.command.Command.TheVariants.{End}
use Rattle.job_machine.specs.declared.replies.Refusal.{Refusal}
use Rattle.job_machine.specs.Reply.{Reply}
use Rattle.job_machine.specs.declared.OpenList.{OpenList}
use Rattle.job_machine.specs.declared.ListPurpose.TheVariants.{Paragraph}
use Rattle.job_machine.specs.OpenLists.{opened_list}
use Rattle.job_machine.specs.State.{State, innermost, outer, items_in}
use Rattle.job_machine.specs.Checks.{par_checks, checks, first_refusal}
use Rattle.job_machine.specs.Answers.{answer_of}
use Rattle.job_machine.specs.Effects.{state_after_command}
use Rattle.job_machine.specs.Machine.{reply_by, reply_to, state_by, state_after}
use Rattle.job_machine.specs.Paragraphs.{set_after, paragraph_checks, early_paragraph_checks, paragraph_answer, with_paragraph}
use Rattle.job_machine.specs.Runs.{early_checks}

-- Why a paragraph does not end; then the answer and the open lists after its end.
abbrev pub refused : State → Option Refusal
refused s = first_refusal (paragraph_checks s.params (outer s.nest) (items_in (innermost s.nest)))

abbrev pub given : State → Answer
given s = paragraph_answer (set_after s.params (outer s.nest) (items_in (innermost s.nest)))

abbrev pub lists_left : State → List OpenList
lists_left s = with_paragraph s.params (outer s.nest) (items_in (innermost s.nest))

by_refusal : (s : State) (o : Option Refusal) (lists : List OpenList) → record s { nest = state_by o s.nest lists } ≡ state_by o s (record s { nest = lists })
by_refusal s None lists = refl
by_refusal s (Some refusal) lists = refl

module _ (s : State) (l : OpenList) (running : s.over ≡ false) (is : innermost s.nest ≡ Some l) (opened : l.purpose ≡ Paragraph) where
  refused_so : refused s ≡ first_refusal (checks s End)
  refused_so = rw (running, is, opened) refl

  given_so : given s ≡ answer_of s End
  given_so = rw (is, opened) refl

  left_so : record s { nest = lists_left s } ≡ state_after_command s End
  left_so = rw (is, opened) refl

  reply_so : reply_by (refused s) (given s) ≡ reply_to s End
  reply_so = ap (λ o. reply_by o (given s)) refused_so ∙ ap (reply_by (first_refusal (checks s End))) given_so

  state_so : record s { nest = state_by (refused s) s.nest (lists_left s) } ≡ state_after s End
  state_so =
      by_refusal s (refused s) (lists_left s) ∙ ap (λ o. state_by o s (record s { nest = lists_left s })) refused_so
      ∙ ap (state_by (first_refusal (checks s End)) s) left_so

  early_so : first_refusal (early_paragraph_checks s.params (outer s.nest) (items_in (innermost s.nest))) ≡ first_refusal (early_checks s End)
  early_so = rw (running, is, opened) refl

-- The reply and the open lists of the nest are those of the command.
module _ (t s : State) (l : OpenList) (same : t ≡ s) (running : s.over ≡ false) (is : innermost t.nest ≡ Some l) (opened : l.purpose ≡ Paragraph) where
  runs : t.over ≡ false
  runs = ap (λ (x : State). x.over) same ∙ running

  pub end_reply : {E : Type 0} (result : Result Reply E) → IfOk result (λ reply. reply ≡ reply_by (refused t) (given t)) → IfOk result (λ reply. reply ≡ reply_to s End)
  end_reply (Ok reply) told = told ∙ reply_so t l runs is opened ∙ ap (λ (x : State). reply_to x End) same
  end_reply (Err e) told = told

  pub end_state : {E : Type 0} (result : Result Reply E) (now : List OpenList) → OnOk result (now ≡ state_by (refused t) t.nest (lists_left t))
      → OnOk result (record t { nest = now } ≡ state_after s End)
  end_state (Ok reply) now told =
      ap (λ (lists : List OpenList). record t { nest = lists }) told ∙ state_so t l runs is opened ∙ ap (λ (x : State). state_after x End) same
  end_state (Err e) now told = told

  pub end_early : {E : Type 0} (result : Result Reply E) → OnErr result (first_refusal (early_paragraph_checks t.params (outer t.nest) (items_in (innermost t.nest))) ≡ None)
      → OnErr result (first_refusal (early_checks s End) ≡ None)
  end_early (Ok reply) told = told
  end_early (Err e) told = ap (λ (x : State). first_refusal (early_checks x End)) (sym same) ∙ sym (early_so t l runs is opened) ∙ told

-- The checks of the nest for a new paragraph are those of the command.
par_so : (s : State) → s.over ≡ false → first_refusal (par_checks s.nest) ≡ first_refusal (checks s commands.Paragraph)
par_so s running = rw running refl

pub par_state : {E : Type 0} (t s : State) (result : Result Reply E) (now : List OpenList) → t ≡ s → s.over ≡ false
    → OnOk result (now ≡ state_by (first_refusal (par_checks t.nest)) t.nest (t.nest ++ opened_list Paragraph ∷ [])) → OnOk result (record t { nest = now } ≡ state_after s commands.Paragraph)
par_state t s (Ok reply) now same running told =
    let runs : t.over ≡ false = ap (λ (x : State). x.over) same ∙ running in
    ap (λ (lists : List OpenList). record t { nest = lists }) told ∙ by_refusal t (first_refusal (par_checks t.nest)) (t.nest ++ opened_list Paragraph ∷ [])
    ∙ ap (λ o. state_by o t (record t { nest = t.nest ++ opened_list Paragraph ∷ [] })) (par_so t runs) ∙ ap (λ (x : State). state_after x commands.Paragraph) same
par_state t s (Err e) now same running told = told
