-- What one reading brought, and what was run of it.
use Rattle.std.proofs.Common.{◌-◌, [], Ok, take, ap, sym, ◌∙◌, vec_len}
use Rattle.boxglue_program.specs.Private.Dialogs.{session_of}
use Rattle.boxglue_program.proofs.PieceLaws.{nothing_exchanged, piece_comes, piece_exchanged, space_lacked}
use Rattle.boxglue_program.proofs.RunLaws.{on_err, on_ok}
use Rattle.boxglue_program.proofs.SessionCalls.{none_consumed}
use Rattle.boxglue_program.proofs.session.Session.exchange.Goals as goal

pub returns-in_default-clause-more : goal.returns-in_default-clause-more
returns-in_default-clause-more g c =
    let inside = c.self.inside in
    λ _. (
      [],
      none_consumed (g.R.Read.remaining c.args.reader.now) (g.R.Read.remaining c.read_once.new.reader) (c.in_ok-count.ensures.none (ap Ok c.in_default.is)),
      nothing_exchanged c.args.self.now (session_of inside.dialog inside.outbox.reads inside.partial_line.items inside.left)
          (g.W.Write.contents c.args.writer.now) c.self.view_is c.self.invariant.2,
    )

pub returns-clause-more : goal.returns-clause-more
returns-clause-more g c =
    let inside = c.self.inside in
    let now = c.take_piece-ran.new in
    let buffer = c.read_once.new.buffer in
    let came = piece_comes c.in_ok-count.field-0 c.in-Some.count (vec_len buffer) inside.left buffer.items c.deref.result.now (g.R.Read.remaining c.args.reader.now) (g.R.Read.remaining c.read_once.new.reader)
    c.in-Some.is c.in_ok-count.ensures.bytes c.deref.ensures.value buffer.ok.0 c.if-count-self.false in
    λ is. (
      take c.in-Some.count c.deref.result.now,
      came.consumed,
      piece_exchanged c.args.self.now (session_of inside.dialog inside.outbox.reads inside.partial_line.items inside.left)
          (session_of now.dialog now.outbox.reads now.partial_line.items (inside.left - c.in-Some.count)) (take c.in-Some.count c.deref.result.now)
          (g.W.Write.contents c.args.writer.now) (g.W.Write.contents now.writer) c.self.view_is
          (on_ok c.take_piece-ran.result (sym c.is_err.ensures.value ∙ c.if-is_err.false) c.take_piece-ran.ensures.ok) c.take_piece-ran.ensures.rest came.left_is,
    )

pub returns-then-is_err-clause-memory : goal.returns-then-is_err-clause-memory
returns-then-is_err-clause-memory g c =
    let inside = c.self.inside in
    let now = c.take_piece-ran.new in
    let buffer = c.read_once.new.buffer in
    let came = piece_comes c.in_ok-count.field-0 c.in-Some.count (vec_len buffer) inside.left buffer.items c.deref.result.now (g.R.Read.remaining c.args.reader.now) (g.R.Read.remaining c.read_once.new.reader)
    c.in-Some.is c.in_ok-count.ensures.bytes c.deref.ensures.value buffer.ok.0 c.if-count-self.false in
    λ is. (
      take c.in-Some.count c.deref.result.now,
      came.consumed,
      space_lacked c.args.self.now (session_of inside.dialog inside.outbox.reads inside.partial_line.items inside.left)
          (session_of now.dialog now.outbox.reads c.clear.new.self.items (inside.left - c.in-Some.count)) (take c.in-Some.count c.deref.result.now)
          (g.W.Write.contents c.args.writer.now) (g.W.Write.contents now.writer) c.self.view_is
          (on_err c.take_piece-ran.result (sym c.is_err.ensures.value ∙ c.if-is_err.true) c.take_piece-ran.ensures.stopped) c.clear.ensures.items came.left_is,
    )
