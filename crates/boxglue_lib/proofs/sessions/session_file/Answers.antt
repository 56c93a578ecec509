-- How the session ended, and what is known of the device that was returned.
use Rattle.std.proofs.Common.{◌≡◌, ap, ◌∙◌}
use Rattle.boxglue_words.specs.Hosts.{written_to_file}
use Rattle.boxglue_lib.proofs.EndLemmas.{back_alike, placed_since}
use Rattle.boxglue_lib.proofs.SessionLemmas.{holds_of_file, session_ends}
use Rattle.boxglue_lib.specs.Typesets.{OutFile}
use Rattle.boxglue_lib.proofs.sessions.session_file.Goals as goal

pub returns-clause-session_ended : goal.returns-clause-session_ended
returns-clause-session_ended g c =
    let run = c.run_session-outcome.result in
    let does = c.run_session-outcome.ensures in
    let back = g.H.FileHost.written run.device.host in
    let file : OutFile = record { is_created = c.end_with.result.is_created; done = c.end_with.result.written; written = g.H.FileHost.written c.end_with.result.host } in
    let ran = rw c.new-device.ensures.fine at does.ran in
    let lacks = rw c.new-device.ensures.fine at does.memory in
    let loses = rw c.new-device.ensures.fine at does.unreadable in
    rw c.end_with.ensures.end (session_ends (g.R.Read.remaining c.args.reader.now) (g.R.Read.remaining c.run_session-outcome.new.reader) c.args.files.now
    run.outcome run.written c.end_of.result (g.W.Write.contents c.args.writer.now) (g.W.Write.contents c.run_session-outcome.new.writer) run.device.failures
    (written_to_file run.device.is_created back) file c.end_of.ensures ran lacks loses
    (λ Holds holds. holds_of_file Holds run.device.is_created run.device.failures back file c.end_with.ensures.created c.end_with.ensures.written
    (ap g.H.FileHost.written c.end_with.ensures.host) c.end_with.ensures.used holds))

pub returns-clause-placed : goal.returns-clause-placed
returns-clause-placed g c =
    let device = c.run_session-outcome.result.device in
    let alike = back_alike g.row.H.coded g.H.FileHost.written g.H.FileHost.failures device.path c.new-device.result.path c.args.out device.start.seen
    c.new-device.result.start.seen c.args.host c.run_session-outcome.ensures.made c.new-device.ensures.path c.new-device.ensures.start in
    placed_since device.path.now c.args.out.now (g.H.FileHost.created device.start.seen) (g.H.FileHost.created c.args.host)
    (g.H.FileHost.created c.end_with.result.host) c.end_with.result.is_created alike.0 (ap g.H.FileHost.created alike.1) c.end_with.ensures.placed

pub returns-clause-unchanged : goal.returns-clause-unchanged
returns-clause-unchanged g c =
    let device = c.run_session-outcome.result.device in
    let alike = back_alike g.row.H.coded g.H.FileHost.written g.H.FileHost.failures device.path c.new-device.result.path c.args.out device.start.seen
    c.new-device.result.start.seen c.args.host c.run_session-outcome.ensures.made c.new-device.ensures.path c.new-device.ensures.start in
    λ closed fine. c.end_with.ensures.unchanged closed fine ∙ alike.1
