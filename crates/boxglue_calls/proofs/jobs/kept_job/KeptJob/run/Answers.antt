-- The piece that was run, or refused, or for whose rows there is no space.
use Rattle.std.proofs.Common.{◌≡◌, ℕ, length, inl, rules, subst}
use Rattle.boxglue_calls.specs.Replies.{RepliesToPiece}
use Rattle.boxglue_calls.proofs.jobs.kept_job.KeptJob.run.Goals as goal

pub returns : goal.returns
returns c =
    let run = c.reply_to_piece in
    let count : length c.deref_mut.result.now ≡ c.len.result = search rules in
    inl (subst (λ (n : ℕ). RepliesToPiece c.args.script.now (record { rows = c.args.rows.now; count = c.args.count.now }) (record { rows = run.new.rows; count = n }) c.args.self.now run.new.self run.result)
    count (run.ensures c.args.count.now))
