-- One more block was run, and the last one.
use Rattle.std.proofs.Common.{◌≡◌, ◌++◌, [], List, Vec, ap, refl, rules, subst, sym, ◌∙◌, map-id}
use Rattle.std.specs.declared.alloc.Global.{Global}
use Rattle.std.proofs.lemmas.List.{append-nil}
use Rattle.std.proofs.lemmas.Iterator.Consumers.{YieldsList-end}
use Rattle.std.proofs.lemmas.Iterator.Adapters.{YieldsList-from_vec}
use Rattle.dvi_write.proofs.Writings.{goes_not, goes_further}
use Rattle.job_core.proofs.WholeRuns.{no_run}
use Rattle.boxglue_script.specs.declared.script.Line.{Line}
use Rattle.boxglue_script.specs.Blocks.{lines_in}
use Rattle.boxglue_script.proofs.BlockLemmas.{one_block_more}
use Rattle.boxglue_program.proofs.BlockRuns.{WereRun, run_further}
use Rattle.boxglue_program.proofs.run.run_blocks.Goals as goal

pub loop-block-init : goal.loop-block-init
loop-block-init g c = record {
  ran = ([], no_run c.args.job.now, refl, λ _. sym (append-nil c.args.answers.now.items), refl);
  goes_on = goes_not _;
}

pub loop-block-preserved : goal.loop-block-preserved
loop-block-preserved g c =
    let l = c.loop-block in
    let part = c.run_lines-part in
    let block = c.in-Some.block in
    let ran = part.ensures.ran in
    let answered : WereRun l.job part.new.job l.answers.items part.new.answers.items part.result.are_answers_kept part.result.outcome c.deref.result.now = (ran.0, ran.1, ran.2, ran.3, ran.5) in
    let more = subst (λ (xs : List Line). WereRun l.job part.new.job l.answers.items part.new.answers.items part.result.are_answers_kept part.result.outcome xs) c.deref.ensures.value answered in
    let both = run_further c.args.job.now l.job part.new.job c.args.answers.now.items l.answers.items part.new.answers.items l.run.are_answers_kept part.result.are_answers_kept c.then-run.result.are_answers_kept
    l.run.outcome part.result.outcome c.then-run.result.outcome (lines_in l.yielded) block.items l.invariant.ran more c.then-run.ensures.outcome c.then-run.ensures.kept in
    record {
      ran = subst (λ (xs : List Line). WereRun c.args.job.now part.new.job c.args.answers.now.items part.new.answers.items c.then-run.result.are_answers_kept c.then-run.result.outcome xs)
          (sym (one_block_more l.yielded block)) both;
      goes_on = goes_further _ _ _ l.invariant.goes_on part.ensures.goes_on;
    }

pub returns-clause-ran : goal.returns-clause-ran
returns-clause-ran g c =
    let l = c.loop-block in
    let full = c.args.lines.full in
    let last = c.args.lines.last in
    let part = c.run_lines-end in
    let drained = YieldsList-end (YieldsList-from_vec {s = c.into_iter-block-iterator.result} full.items (search rules) (search rules))
    l.yielded l.block-iterator l.yielded_by c.next.result c.next.new.self c.in-None.is c.next.ensures.steps in
    let all : lines_in l.yielded ≡ lines_in full.items = ap lines_in (sym (map-id l.yielded) ∙ drained.0) in
    let ran = part.ensures.ran in
    let answered : WereRun l.job part.new.job l.answers.items part.new.answers.items part.result.are_answers_kept part.result.outcome c.deref-2.result.now = (ran.0, ran.1, ran.2, ran.3, ran.5) in
    let more = subst (λ (xs : List Line). WereRun l.job part.new.job l.answers.items part.new.answers.items part.result.are_answers_kept part.result.outcome xs) c.deref-2.ensures.value answered in
    let before = subst (λ (xs : List Line). WereRun c.args.job.now l.job c.args.answers.now.items l.answers.items l.run.are_answers_kept l.run.outcome xs) all l.invariant.ran in
    let both = run_further c.args.job.now l.job part.new.job c.args.answers.now.items l.answers.items part.new.answers.items l.run.are_answers_kept part.result.are_answers_kept c.then.result.are_answers_kept
    l.run.outcome part.result.outcome c.then.result.outcome (lines_in full.items) last.items before more c.then.ensures.outcome c.then.ensures.kept in
    (both.0, both.1, both.3, both.4)

pub returns-clause-goes_on : goal.returns-clause-goes_on
returns-clause-goes_on g c = goes_further _ _ _ c.loop-block.invariant.goes_on c.run_lines-end.ensures.goes_on
