-- One more line was run, and its row is written.
use Rattle.std.proofs.Common.{◌≡◌, ◌+◌, ◌++◌, ◌∷◌, [], length, take, ap, sym, ◌∙◌, arith}
use Rattle.std.proofs.lemmas.List.{length-take-le, take_all, take_more}
use Rattle.job_core.specs.Jobs.{JobView}
use Rattle.boxglue_script.specs.declared.script.Line.{Line}
use Rattle.dvi_write.proofs.Writings.{goes_further}
use Rattle.boxglue_program.proofs.RunLaws.{ran_one_more, length_more}
use Rattle.boxglue_calls.proofs.StatusLaws.{status_one_more}
use Rattle.boxglue_calls.proofs.RowLaws.{all_replied, row_put}
use Rattle.boxglue_calls.proofs.jobs.replied.reply_to_each.Goals as goal

pub loop-at-preserved : goal.loop-at-preserved
loop-at-preserved g c =
    let lines = c.args.lines.now in
    let i = c.loop-at.at in
    let line = c.index-lines-at.result in
    let reply = c.step-reply.result in
    let before = c.loop-at.invariant.ran in
    let space = c.requires in
    let within = c.loop-at-test.true in
    let taken : take (i + 1) lines ≡ take i lines ++ line ∷ [] =
    take_more lines i line within ∙ ap (λ (x : Line). take i lines ++ x ∷ []) (sym c.index-lines-at.is) in
    let size : i ≡ length (take i lines) = sym (length-take-le i lines (omega (arith, within))) in
    record {
      ran = (
        before.0 ++ reply ∷ [],
        ran_one_more c.args.job.now c.loop-at.job c.step-reply.new.self (take i lines) (take (i + 1) lines) line before.0 reply taken before.1 c.step-reply.ensures.keeps,
        length_more (take i lines) (take (i + 1) lines) line before.0 reply taken before.2,
        row_put c.args.rows.now c.loop-at.rows (take i lines) (take (i + 1) lines) line before.0 reply i c.reply_row.result taken before.2 size
            (omega (arith, space, within)) c.reply_row.ensures before.3,
        status_one_more c.loop-at.status c.reply_status.result c.max-status.result before.0 reply before.4 c.reply_status.ensures c.max-status.ensures,
      );
      idle = λ over.
          let same = c.loop-at.invariant.idle over in
          c.step-reply.ensures.idle (ap (λ (job : JobView). job.state.over) same ∙ over) ∙ same;
      goes_on = goes_further _ _ _ c.loop-at.invariant.goes_on c.step-reply.ensures.goes_on;
    }

pub returns-clause-ran : goal.returns-clause-ran
returns-clause-ran g c =
    let lines = c.args.lines.now in
    let i = c.loop-at.at in
    let before = c.loop-at.invariant.ran in
    all_replied c.args.job.now c.loop-at.job lines (take i lines) before.0 c.args.rows.now c.loop-at.rows i c.loop-at.status (take_all i lines c.loop-at-test.false) (omega arith) c.requires
    before.1 before.2 before.3 before.4
