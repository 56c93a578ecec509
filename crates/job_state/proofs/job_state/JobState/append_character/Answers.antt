use Rattle.std.proofs.Common.{◌≡◌, ◌∙◌, List, length, ap, sym, refl}
use Rattle.job_machine.specs.declared.command.Command.TheVariants.{Character}
use Rattle.job_machine.specs.declared.replies.Refusal.TheVariants.{JobOver}
use Rattle.node_core.specs.Items.{Items}
use Rattle.node_core.specs.Nodes.{nodes_of}
use Rattle.job_machine.specs.declared.OpenList.{OpenList}
use Rattle.job_machine.specs.FontSlots.{character_in, character_shaped}
use Rattle.job_machine.specs.State.{innermost, items_in}
use Rattle.job_machine.specs.Checks.{character_checks, length_checks, count_checks, first_refusal}
use Rattle.job_machine.specs.Answers.{answer_of}
use Rattle.job_machine.specs.Effects.{with_nodes, state_after_command}
use Rattle.job_lists.specs.EmptiedNest.{refilled_nest}
use Rattle.job_machine.specs.Machine.{reply_by, state_by}
use Rattle.job_machine.proofs.States.{first_refused}
use Rattle.job_lists.proofs.ShapedTexts.{put_more, put_back_all}
use Rattle.std.specs.Prelude.{Some, None}
use Rattle.job_state.specs.contracts.job_state.JobState as a_kept
use Rattle.job_state.specs.JobStateView.{JobStateView, before_shipping}
use Rattle.job_state.proofs.ShapedItems.{on_ok, on_err, refused_as, current_as, font_as, character_state}
use Rattle.job_state.proofs.job_state.JobState.append_character.Goals as goal

pub returns-in-Err-clause-reply : goal.returns-in-Err-clause-reply
returns-in-Err-clause-reply c =
    let s = before_shipping c.args.self.now in
    let refused = refused_as (a_kept.the_view c.self.inside) c.args.self.now c.self.view_is (Some c.in-Err.refusal) c.in-Err.ensures.err in
    sym (ap (λ found. reply_by found (answer_of s (Character c.args.code)))
    (first_refused s.over (character_checks s) (length_checks s (character_shaped s.fonts s.current c.args.code).items) JobOver c.in-Err.refusal refl
    refused))

pub returns-in-Err-clause-state : goal.returns-in-Err-clause-state
returns-in-Err-clause-state c =
    let s = before_shipping c.args.self.now in
    let refused = refused_as (a_kept.the_view c.self.inside) c.args.self.now c.self.view_is (Some c.in-Err.refusal) c.in-Err.ensures.err in
    sym (ap (λ found. state_by found s (state_after_command s (Character c.args.code)))
    (first_refused s.over (character_checks s) (length_checks s (character_shaped s.fonts s.current c.args.code).items) JobOver c.in-Err.refusal refl
    refused))

pub returns-clause-state : goal.returns-clause-state
returns-clause-state c =
    let s = before_shipping c.args.self.now in
    let slot = c.in-Ok.font.0 in
    let loaded = c.in-Ok.font.1.now in
    let nest : List OpenList = c.self.inside.nest in
    let bare : List OpenList = c.take_items-items.new.self in
    let taken = c.take_items-items.result.items in
    let found = character_in (Some loaded) slot c.args.code in
    let same : nest ≡ s.nest = ap (λ (t : JobStateView). t.nest) c.self.view_is in
    let view : JobStateView = a_kept.the_view c.self.inside in
    let current = current_as view c.args.self.now c.self.view_is slot c.in-Ok.ensures.slot in
    let font = font_as view c.args.self.now c.self.view_is slot loaded c.in-Ok.ensures.font in
    let free = refused_as view c.args.self.now c.self.view_is None c.in-Ok.ensures.ok in
    let count : length taken ≡ length (nodes_of (items_in (innermost s.nest))) =
    ap length c.take_items-items.ensures.items ∙ ap (λ (n : List OpenList). length (nodes_of (items_in (innermost n)))) same in
    on_ok c.append_character-reply.result
    (λ are.
    ap (λ (t : JobStateView). record (before_shipping t) { nest = c.refill.new.self }) c.self.view_is
    ∙ character_state s slot loaded refl current font free c.refill.new.self c.args.code (length taken) count
    (put_more nest bare c.refill.new.self taken c.append_character-reply.new.items.items found.items
    (first_refusal (count_checks (length taken) found.items)) c.take_items-items.ensures.emptied
    c.take_items-items.ensures.items are (c.refill.ensures ∙ ap (λ (i : Items). refilled_nest bare i (innermost bare)) c.from_vec.ensures.items)
    ∙ ap (λ (n : List OpenList). state_by (first_refusal (count_checks (length taken) found.items)) n (with_nodes n found.items (innermost n))) same))
    c.append_character-reply.ensures.items

pub returns-clause-err : goal.returns-clause-err
returns-clause-err c =
    let nest : List OpenList = c.self.inside.nest in
    let bare : List OpenList = c.take_items-items.new.self in
    on_err c.append_character-reply.result
    (λ are.
    ap (λ (lists : List OpenList). a_kept.the_view (record (c.self.inside) { nest = lists }))
    (put_back_all nest bare c.refill.new.self c.take_items-items.result.items c.append_character-reply.new.items.items
    c.take_items-items.ensures.emptied c.take_items-items.ensures.items are
    (c.refill.ensures ∙ ap (λ (i : Items). refilled_nest bare i (innermost bare)) c.from_vec.ensures.items))
    ∙ c.self.view_is)
    c.append_character-reply.ensures.err
