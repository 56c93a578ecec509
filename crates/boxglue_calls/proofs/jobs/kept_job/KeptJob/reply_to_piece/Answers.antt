-- The piece that was run, and its rows.
use Rattle.std.proofs.Common.{ℕ, length, refl, ap, ◌∙◌, subst}
use Rattle.boxglue_calls.specs.Jobs.{KeptState}
use Rattle.boxglue_calls.specs.Numbers.{number_after}
use Rattle.boxglue_calls.specs.Replies.{RepliesToPiece}
use Rattle.boxglue_calls.proofs.KeptMoves.{replied_piece}
use Rattle.boxglue_calls.proofs.jobs.kept_job.KeptJob.reply_to_piece.Goals as goal

pub returns : goal.returns
returns c =
    let inside = c.self.inside in
    let each = c.reply_to_each-status in
    let ran = each.ensures.ran in
    let old : KeptState = record { job = inside.job; lines = inside.lines; answers = inside.answers.items; taken = inside.taken } in
    let new : KeptState = record { job = each.new.job; lines = c.number_after-self-inside.result; answers = inside.answers.items; taken = inside.taken } in
    λ count. subst
    (λ (o : KeptState). RepliesToPiece c.args.script.now (record { rows = c.args.rows.now; count = count }) (record { rows = each.new.rows; count = length c.args.lines.now }) o new each.result) c.self.view_is
    (replied_piece old new each.new.job c.args.script.now c.args.lines.now c.number_on.new.lines ran.0 c.args.rows.now each.new.rows each.result c.number_on.ensures c.requires.piece ran.1
    each.ensures.idle each.ensures.goes_on ran.2 refl (c.number_after-self-inside.ensures ∙ ap (λ (n : ℕ). number_after old.lines n) c.line_count.ensures) refl ran.3 ran.4 refl count)
