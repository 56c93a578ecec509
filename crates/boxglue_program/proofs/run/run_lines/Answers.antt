-- One more line was run and answered.
use Rattle.std.proofs.Common.{◌≡◌, ◌+◌, ◌++◌, ◌∷◌, [], ℕ, Bool, false, true, List, length, take, arith, ap, subst, sym, ◌∙◌}
use Rattle.std.proofs.lemmas.List.{take_all, take_more}
use Rattle.job_machine.specs.Reply.{Reply}
use Rattle.boxglue_program.specs.declared.outcome.Outcome.{Outcome}
use Rattle.boxglue_program.specs.Outcomes.{replies_outcome}
use Rattle.boxglue_program.specs.Runs.{commands_of, line_numbers}
use Rattle.boxglue_program.specs.Texts.{answer_line, answer_lines}
use Rattle.job_core.specs.Jobs.{JobView, RunsTo}
use Rattle.boxglue_script.specs.declared.script.Line.{Line}
use Rattle.boxglue_program.proofs.RunLaws.{ran_one_more, answers_one_more, begun_further, cut_back, length_more}
use Rattle.dvi_write.proofs.Writings.{goes_further}
use Rattle.boxglue_program.proofs.OutcomeLaws.{outcome_one_more}
use Rattle.boxglue_program.proofs.run.run_lines.Goals as goal

-- What is known of the lines that were run.
abbrev RanSoFar : (old new : JobView) (start now : List ℕ) → Bool → Outcome → List Line → Type 0
RanSoFar old new start now are_answers_kept outcome xs =
    (replies : List Reply) × RunsTo old (commands_of xs) replies new × (length replies ≡ length xs)
    × (are_answers_kept ≡ true → now ≡ start ++ answer_lines (line_numbers xs) replies) × (outcome ≡ replies_outcome replies)

not_kept : (new text : List ℕ) (are_answers_kept : Bool) → are_answers_kept ≡ false → are_answers_kept ≡ true → new ≡ text
not_kept new text are_answers_kept is given = absurd (cc)

not_lost : (new text : List ℕ) (are_answers_kept : Bool) → are_answers_kept ≡ true → are_answers_kept ≡ false → new ≡ text
not_lost new text are_answers_kept is given = absurd (cc)

pub loop-line-preserved : goal.loop-line-preserved
loop-line-preserved g c =
    let lines = c.args.lines.now in
    let i = c.loop-line.line-index in
    let line = c.line-item.result in
    let reply = c.step-reply.result in
    let before = c.loop-line.invariant.ran in
    let push = c.push_next_answer-are_answers_kept in
    let start = c.args.answers.now.items in
    let now = c.loop-line.answers.items in
    let new = push.new.answers.items in
    let taken : take (i + 1) lines ≡ take i lines ++ line ∷ [] =
    take_more lines i line c.loop-line-test.true ∙ ap (λ (x : Line). take i lines ++ x ∷ []) (sym c.line-item.is) in
    record {
      ran = (
        before.0 ++ reply ∷ [],
        ran_one_more c.args.job.now c.loop-line.job c.step-reply.new.self (take i lines) (take (i + 1) lines) line before.0 reply taken before.1 c.step-reply.ensures.keeps,
        length_more (take i lines) (take (i + 1) lines) line before.0 reply taken before.2,
        answers_one_more start now new (take i lines) (take (i + 1) lines) line before.0 reply c.loop-line.are_answers_kept push.result taken before.2 before.3 push.ensures.ok,
        outcome_one_more c.loop-line.outcome c.of.result c.worse-outcome.result before.0 reply before.4 c.of.ensures c.worse-outcome.ensures,
      );
      begun = begun_further start now new (answer_line line.number reply) push.result c.loop-line.invariant.begun (λ given. (push.ensures.ok given).1) push.ensures.cut;
      short = omega (arith, c.loop-line.invariant.short, push.ensures.short);
      grown = omega (arith, c.loop-line.invariant.grown, push.ensures.grown);
      space = λ fits. push.ensures.space (c.loop-line.invariant.space fits)
          (omega (arith, fits, c.loop-line.invariant.short, c.loop-line.invariant.grown, c.loop-line-test.true));
      idle = λ over.
          let same = c.loop-line.invariant.idle over in
          c.step-reply.ensures.idle (ap (λ (job : JobView). job.state.over) same ∙ over) ∙ same;
      numbered = push.ensures.holds;
      goes_on = goes_further _ _ _ c.loop-line.invariant.goes_on c.step-reply.ensures.goes_on;
    }

pub returns-then-not-are_answers_kept-clause-ran : goal.returns-then-not-are_answers_kept-clause-ran
returns-then-not-are_answers_kept-clause-ran g c =
    let lines = c.args.lines.now in
    let start = c.args.answers.now.items in
    let all : take c.loop-line.line-index lines ≡ lines = take_all c.loop-line.line-index lines c.loop-line-test.false in
    let ran = subst (λ (xs : List Line). RanSoFar c.args.job.now c.loop-line.job start c.loop-line.answers.items c.loop-line.are_answers_kept c.loop-line.outcome xs) all c.loop-line.invariant.ran in
    let size : c.len-before.result ≡ length start = omega (arith, c.len-before.ensures, c.args.answers.now.ok.0) in
    (ran.0, ran.1, ran.2, not_kept c.truncate.new.self.items _ c.loop-line.are_answers_kept c.if-not-are_answers_kept.true, λ is. cut_back start c.loop-line.answers.items c.truncate.new.self.items c.len-before.result size c.loop-line.invariant.begun c.truncate.ensures.items, ran.4)

pub returns-else-not-are_answers_kept-clause-ran : goal.returns-else-not-are_answers_kept-clause-ran
returns-else-not-are_answers_kept-clause-ran g c =
    let lines = c.args.lines.now in
    let start = c.args.answers.now.items in
    let all : take c.loop-line.line-index lines ≡ lines = take_all c.loop-line.line-index lines c.loop-line-test.false in
    let ran = subst (λ (xs : List Line). RanSoFar c.args.job.now c.loop-line.job start c.loop-line.answers.items c.loop-line.are_answers_kept c.loop-line.outcome xs) all c.loop-line.invariant.ran in
    (ran.0, ran.1, ran.2, ran.3, not_lost c.loop-line.answers.items start c.loop-line.are_answers_kept c.if-not-are_answers_kept.false, ran.4)
