use Rattle.std.proofs.Common.{◌≢◌, ap, sym, ◌∙◌, length, arith}
use Rattle.dvi_write.specs.Writing.{Writing}
use Rattle.dvi_write.proofs.Files.{file_shows}
use Rattle.dvi_write.proofs.ClosedFiles.{file_closes}
use Rattle.dvi_write.proofs.Spaces.{small}
use Rattle.dvi_write.proofs.Writings.{ended_all, ended_count, ended_none, ended_size, none_ended, past_all, past_lost, past_none, written_small}
use Rattle.dvi_write.proofs.dvi_writer.DviWriter.finish.Goals as goal

pub returns-then-pages-eq0-clause-whole : goal.returns-then-pages-eq0-clause-whole
returns-then-pages-eq0-clause-whole g c =
    rw (← c.self.view_is)
    (λ before pages written. ended_none c.args.fonts.now before _ pages written (sym (sym c.if-pages-eq0.true ∙ c.pages-pages.ensures)))

pub returns-then-pages-eq0-clause-past : goal.returns-then-pages-eq0-clause-past
returns-then-pages-eq0-clause-past g c =
    rw (← c.self.view_is)
    (λ before pages written. past_none c.args.fonts.now before _ pages written (sym (sym c.if-pages-eq0.true ∙ c.pages-pages.ensures)))

pub returns-then-pages-eq0-clause-pages : goal.returns-then-pages-eq0-clause-pages
returns-then-pages-eq0-clause-pages g c =
    rw (← c.self.view_is)
    (λ before pages written. (sym c.if-pages-eq0.true ∙ c.pages-pages.ensures) ∙ ended_count c.args.fonts.now before _ pages written)

pub returns-clause-pages : goal.returns-clause-pages
returns-clause-pages g c = rw (← c.self.view_is) (λ before pages written. c.pages-pages.ensures ∙ ended_count c.args.fonts.now before _ pages written)

pub returns-then-pages-eq0-clause-size : goal.returns-then-pages-eq0-clause-size
returns-then-pages-eq0-clause-size g c =
    rw (← c.self.view_is)
    (λ before pages written. none_ended c.args.fonts.now before _ pages written (sym (sym c.if-pages-eq0.true ∙ c.pages-pages.ensures)))

pub last_bytes-requires-clause-space : goal.last_bytes-requires-clause-space
last_bytes-requires-clause-space g c = small c.self.inside.progress c.self.invariant.0

pub returns-in_err-send-clause-past_lost : goal.returns-in_err-send-clause-past_lost
returns-in_err-send-clause-past_lost g c is =
    let some : c.self.inside.progress.pages ≢ 0 = λ none. c.if-pages-eq0.false (c.pages-pages.ensures ∙ none) in
    let past = rw (c.deref.ensures.value, c.in_ok-bytes.ensures) at c.in_err-send.ensures.past in
    rw (← c.self.view_is)
    (λ before pages written. past_lost c.args.fonts.now before _ c.send.new.self.past pages written some (rw (← c.self.view_is) at past))

pub returns-clause-past : goal.returns-clause-past
returns-clause-past g c =
    let some : c.self.inside.progress.pages ≢ 0 = λ none. c.if-pages-eq0.false (c.pages-pages.ensures ∙ none) in
    let past = rw (c.deref.ensures.value, c.in_ok-bytes.ensures) at c.in_ok-send.ensures.past in
    rw (← c.self.view_is)
    (λ before pages written. past_all c.args.fonts.now before _ _ pages written some
    (ap (λ (w : Writing). w.past) c.self-2.view_is ∙ (rw (← c.self.view_is) at past)))

pub returns-in_err-send-clause-since : goal.returns-in_err-send-clause-since
returns-in_err-send-clause-since g c is =
    let front = rw (c.deref.ensures.value, c.in_ok-bytes.ensures) at c.in_err-send.ensures.front in
    rw (← c.self.view_is) (rw (← c.self.view_is) at front)

pub returns-clause-whole : goal.returns-clause-whole
returns-clause-whole g c =
    let some : c.self.inside.progress.pages ≢ 0 = λ none. c.if-pages-eq0.false (c.pages-pages.ensures ∙ none) in
    let bytes_written = rw (c.deref.ensures.value, c.in_ok-bytes.ensures) at c.in_ok-send.ensures.bytes_written in
    rw (← c.self.view_is)
    (λ before pages written. ended_all c.args.fonts.now before _ _ pages written some
    (ap (λ (w : Writing). w.bytes_written) c.self-2.view_is ∙ (rw (← c.self.view_is) at bytes_written)))

pub returns-clause-size : goal.returns-clause-size
returns-clause-size g c =
    let some : c.self.inside.progress.pages ≢ 0 = λ none. c.if-pages-eq0.false (c.pages-pages.ensures ∙ none) in
    rw (← c.self.view_is)
    (λ before pages written.
    omega (arith, ended_size c.args.fonts.now before _ pages written some, c.size.ensures, c.len.ensures, ap length c.in_ok-bytes.ensures))

pub returns-then-pages-eq0-clause-file : goal.returns-then-pages-eq0-clause-file
returns-then-pages-eq0-clause-file g c =
    rw (← c.self.view_is)
    (λ before pages metrics written gives. file_shows metrics c.args.fonts.now pages gives c.can_be_defined.ensures written.right
    (written_small c.args.fonts.now before _ pages written c.self.invariant.0))

pub returns-clause-file : goal.returns-clause-file
returns-clause-file g c =
    rw (← c.self.view_is)
    (λ before pages metrics written gives. file_shows metrics c.args.fonts.now pages gives c.can_be_defined.ensures written.right
    (written_small c.args.fonts.now before _ pages written c.self.invariant.0))

pub overflow_add-size : goal.overflow_add-size
overflow_add-size g c =
    record { fits = omega (arith, small c.self.inside.progress c.self.invariant.0, c.size.ensures, c.len.ensures, c.in_ok-bytes.bytes.small) }

pub returns-then-pages-eq0-clause-closed : goal.returns-then-pages-eq0-clause-closed
returns-then-pages-eq0-clause-closed g c =
    rw (← c.self.view_is)
    (λ before pages written some. file_closes c.args.fonts.now pages c.can_be_defined.ensures some written.right
    (written_small c.args.fonts.now before _ pages written c.self.invariant.0))

pub returns-clause-closed : goal.returns-clause-closed
returns-clause-closed g c =
    rw (← c.self.view_is)
    (λ before pages written some. file_closes c.args.fonts.now pages c.can_be_defined.ensures some written.right
    (written_small c.args.fonts.now before _ pages written c.self.invariant.0))
