-- The end, and its answer.
use Rattle.std.proofs.Common.{refl, subst}
use Rattle.boxglue_program.specs.Texts.{end_line}
use Rattle.boxglue_calls.specs.Jobs.{KeptState}
use Rattle.boxglue_calls.specs.Pieces.{FinishesKept}
use Rattle.boxglue_calls.proofs.KeptMoves.{appended_answer, ended_job, finished_kept}
use Rattle.boxglue_calls.proofs.jobs.kept_job.KeptJob.finish.Goals as goal

pub returns : goal.returns
returns c =
    let end = c.finish-end in
    let inside = c.self.inside in
    let old : KeptState = record { job = inside.job; lines = inside.lines; answers = inside.answers.items; taken = inside.taken } in
    let push = c.push_end_line in
    let now : KeptState = record { job = end.new.self; lines = inside.lines; answers = push.new.out.items; taken = inside.taken } in
    subst (λ (o : KeptState). FinishesKept o now c.kept_status.result) c.self.view_is
    (finished_kept old now
    (ended_job old now end.new.self end.result end.ensures.finished end.ensures.same end.ensures.idle end.ensures.dvi end.ensures.end end.ensures.file end.ensures.size end.ensures.count
    end.ensures.small end.ensures.part end.ensures.goes_on refl refl refl)
    c.reply_status.result c.kept_status.result
    (appended_answer push.result old.answers now.answers (end_line end.result) c.is_ok-kept.result c.reply_status.result c.kept_status.result c.is_ok-kept.ensures.value push.ensures.ok push.ensures.cut c.kept_status.ensures)
    c.reply_status.ensures)
