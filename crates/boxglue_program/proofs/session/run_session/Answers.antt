-- How a session ended, by what it had done before.
use Rattle.std.proofs.Common.{◌∙◌, ap}
use Rattle.dvi_device.specs.Pasts.{Past}
use Rattle.boxglue_program.proofs.SessionCalls.{began_stays, err_at, finished_or_refused, ok_at, other_fault, returned_silent, run_ended}
use Rattle.boxglue_program.proofs.SessionCalls.{run_lacks_space, run_lost_input, run_not_begun, run_not_ended, run_unfinished, session_begins}
use Rattle.boxglue_program.proofs.SessionCalls.{session_goes_on}
use Rattle.boxglue_program.proofs.session.run_session.Goals as goal

pub returns-in-Err-clause-memory : goal.returns-in-Err-clause-memory
returns-in-Err-clause-memory g c =
    let same = c.in-Err.ensures.device_returned in
    λ _. run_not_begun c.args.files.now (g.D.Device.failed c.args.device) (g.D.Device.failed c.in-Err.device) c.args.limit (g.R.Read.remaining c.args.reader.now)
    (g.W.Write.contents c.args.writer.now)
    (g.D.Device.bytes_written c.in-Err.device) (ap g.D.Device.failed same) (returned_silent g.D.Device.bytes_written c.args.device c.in-Err.device same c.requires.fresh)

pub loop-init : goal.loop-init
loop-init g c = session_begins c.in-Ok.session (g.R.Read.remaining c.args.reader.now) (g.W.Write.contents c.args.writer.now) c.in-Ok.ensures.new.partial_line

pub loop-preserved : goal.loop-preserved
loop-preserved g c =
    session_goes_on c.in-Ok.session c.loop.session c.exchange.new.self (g.R.Read.remaining c.args.reader.now) (g.R.Read.remaining c.loop.reader) (g.R.Read.remaining c.exchange.new.reader)
    (g.W.Write.contents c.args.writer.now) (g.W.Write.contents c.loop.writer) (g.W.Write.contents c.exchange.new.writer) c.loop.invariant
    (c.exchange.ensures.more (ok_at c.in-Ok-More.is c.in-Ok-More.field-0-is))

pub returns-in-Ok-End-clause-ran : goal.returns-in-Ok-End-clause-ran
returns-in-Ok-End-clause-ran g c =
    run_ended c.args.files.now (g.D.Device.failed c.args.device) (g.D.Device.failed c.finish.result.device) c.args.limit c.in-Ok.session c.loop.session c.exchange.new.self
    (g.R.Read.remaining c.args.reader.now) (g.R.Read.remaining c.loop.reader) (g.R.Read.remaining c.exchange.new.reader)
    (g.W.Write.contents c.args.writer.now) (g.W.Write.contents c.loop.writer) (g.W.Write.contents c.exchange.new.writer) (g.W.Write.contents c.finish.new.writer)
    (g.D.Device.bytes_written c.finish.result.device) c.finish.result.outcome c.finish.result.written c.in-Ok.ensures.new c.in-Ok.ensures.limited c.loop.invariant
    (c.exchange.ensures.end (ok_at c.in-Ok-End.is c.in-Ok-End.field-0-is)) c.finish.ensures.ended

pub returns-in-Ok-End-clause-memory : goal.returns-in-Ok-End-clause-memory
returns-in-Ok-End-clause-memory g c =
    run_unfinished c.args.files.now (g.D.Device.failed c.args.device) (g.D.Device.failed c.finish.result.device) c.args.limit c.in-Ok.session c.loop.session c.exchange.new.self
    (g.R.Read.remaining c.args.reader.now) (g.R.Read.remaining c.loop.reader) (g.R.Read.remaining c.exchange.new.reader)
    (g.W.Write.contents c.args.writer.now) (g.W.Write.contents c.loop.writer) (g.W.Write.contents c.exchange.new.writer) (g.W.Write.contents c.finish.new.writer)
    (g.D.Device.bytes_written c.finish.result.device) c.finish.result.outcome c.finish.result.written c.in-Ok.ensures.new c.in-Ok.ensures.limited c.loop.invariant
    (c.exchange.ensures.end (ok_at c.in-Ok-End.is c.in-Ok-End.field-0-is)) c.finish.ensures.memory

pub returns-in-Ok-End-clause-unreadable : goal.returns-in-Ok-End-clause-unreadable
returns-in-Ok-End-clause-unreadable g c = λ is.
    absurd (finished_or_refused c.exchange.new.self (g.D.Device.failed c.finish.result.device) (g.W.Write.contents c.exchange.new.writer) (g.W.Write.contents c.finish.new.writer)
    (g.D.Device.bytes_written c.finish.result.device) c.finish.result.outcome c.finish.result.written c.finish.ensures.memory is)

pub returns-in-Err-exchange-clause-memory : goal.returns-in-Err-exchange-clause-memory
returns-in-Err-exchange-clause-memory g c =
    run_lacks_space c.args.files.now (g.D.Device.failed c.args.device) (g.D.Device.failed c.stop.result.device) c.args.limit c.in-Ok.session c.loop.session
    c.exchange.new.self
    (g.R.Read.remaining c.args.reader.now) (g.R.Read.remaining c.loop.reader) (g.R.Read.remaining c.exchange.new.reader)
    (g.W.Write.contents c.args.writer.now) (g.W.Write.contents c.loop.writer) (g.W.Write.contents c.exchange.new.writer)
    (g.D.Device.bytes_written c.stop.result.device) c.stop.result.outcome c.in-Err-exchange.fault c.stop.result.written c.in-Ok.ensures.new c.in-Ok.ensures.limited c.loop.invariant
    (λ same. c.exchange.ensures.memory (err_at c.in-Err-exchange.is same)) c.stop.ensures.outcome c.stop.ensures.written c.stop.ensures.device.failed c.stop.ensures.device.bytes_written

pub returns-in-Err-exchange-clause-unreadable : goal.returns-in-Err-exchange-clause-unreadable
returns-in-Err-exchange-clause-unreadable g c =
    run_lost_input c.args.files.now (g.D.Device.failed c.args.device) (g.D.Device.failed c.stop.result.device) c.args.limit c.in-Ok.session c.loop.session c.exchange.new.self
    (g.R.Read.remaining c.args.reader.now) (g.R.Read.remaining c.loop.reader) (g.R.Read.remaining c.exchange.new.reader)
    (g.W.Write.contents c.args.writer.now) (g.W.Write.contents c.loop.writer) (g.W.Write.contents c.exchange.new.writer)
    (g.D.Device.bytes_written c.stop.result.device) c.stop.result.outcome c.in-Err-exchange.fault c.stop.result.written c.in-Ok.ensures.new c.in-Ok.ensures.limited c.loop.invariant
    (λ same. c.exchange.ensures.unread (err_at c.in-Err-exchange.is same)) c.stop.ensures.outcome c.stop.ensures.written c.stop.ensures.device.failed c.stop.ensures.device.bytes_written

pub returns-clause-memory : goal.returns-clause-memory
returns-clause-memory g c = λ is. absurd (other_fault c.stop-2.result.outcome c.stop-2.ensures.outcome is)

pub returns-clause-unreadable : goal.returns-clause-unreadable
returns-clause-unreadable g c = λ _.
    run_not_ended c.args.files.now (g.D.Device.failed c.args.device) (g.D.Device.failed c.stop-2.result.device) c.args.limit c.in-Ok.session c.loop.session
    (g.R.Read.remaining c.args.reader.now) (g.R.Read.remaining c.loop.reader) (g.W.Write.contents c.args.writer.now) (g.W.Write.contents c.loop.writer)
    (g.D.Device.bytes_written c.stop-2.result.device) c.stop-2.result.outcome c.stop-2.result.written c.in-Ok.ensures.new c.in-Ok.ensures.limited c.loop.invariant
    c.stop-2.ensures.outcome c.stop-2.ensures.written c.stop-2.ensures.device.failed c.stop-2.ensures.device.bytes_written

pub returns-in-Err-exchange-clause-made : goal.returns-in-Err-exchange-clause-made
returns-in-Err-exchange-clause-made g c =
    let stays = began_stays c.in-Ok.session c.loop.session c.exchange.new.self (g.R.Read.remaining c.args.reader.now) (g.R.Read.remaining c.loop.reader) (g.R.Read.remaining c.exchange.new.reader)
    (g.W.Write.contents c.args.writer.now) (g.W.Write.contents c.loop.writer) (g.W.Write.contents c.exchange.new.writer) c.in-Err-exchange.fault c.loop.invariant
    (λ same. c.exchange.ensures.memory (err_at c.in-Err-exchange.is same)) (λ same. c.exchange.ensures.unread (err_at c.in-Err-exchange.is same)) in
    c.stop.ensures.device.made ∙ ap (λ (p : Past). p.made) (stays ∙ c.in-Ok.ensures.made.began)
