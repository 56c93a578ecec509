-- The end, and its row.
use Rattle.std.proofs.Common.{refl, subst}
use Rattle.boxglue_calls.specs.Jobs.{KeptState}
use Rattle.boxglue_calls.specs.Replies.{RepliesToEnd}
use Rattle.boxglue_calls.proofs.KeptMoves.{ended_job}
use Rattle.boxglue_calls.proofs.jobs.kept_job.KeptJob.end.Goals as goal

pub returns : goal.returns
returns c =
    let end = c.finish-ended in
    let inside = c.self.inside in
    let old : KeptState = record { job = inside.job; lines = inside.lines; answers = inside.answers.items; taken = inside.taken } in
    let new : KeptState = record { job = end.new.self; lines = inside.lines; answers = inside.answers.items; taken = inside.taken } in
    subst (λ (o : KeptState). RepliesToEnd c.end_row.result o new c.reply_status.result) c.self.view_is
    (record {
      ended = ended_job old new end.new.self end.result end.ensures.finished end.ensures.same end.ensures.idle end.ensures.dvi end.ensures.end end.ensures.file end.ensures.size end.ensures.count
          end.ensures.small end.ensures.part end.ensures.goes_on refl refl refl;
      row_is = c.end_row.ensures;
      status_is = c.reply_status.ensures;
      answers = refl;
    })
