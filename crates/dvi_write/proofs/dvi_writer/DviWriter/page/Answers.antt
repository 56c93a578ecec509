use Rattle.std.proofs.Common.{ap, ◌∙◌}
use Rattle.page_core.specs.Pages.{page_with}
use Rattle.dvi_write.specs.Writing.{Writing}
use Rattle.dvi_write.proofs.Writings.{written_more, past_part}
use Rattle.dvi_write.proofs.dvi_writer.DviWriter.page.Goals as goal

pub returns-in_err-send-clause-past : goal.returns-in_err-send-clause-past
returns-in_err-send-clause-past g c is =
    let page = page_with c.args.counts.now c.args.offsets c.args.box_node.now in
    let past = rw (c.deref.ensures.value, c.in_ok-next.ensures.bytes) at c.in_err-send.ensures.past in
    λ before pages written. past_part c.args.fonts.now before c.args.self.now c.send.new.self.past pages page written past

pub returns-in_err-send-clause-since : goal.returns-in_err-send-clause-since
returns-in_err-send-clause-since g c is = rw (c.deref.ensures.value, c.in_ok-next.ensures.bytes) at c.in_err-send.ensures.front

pub returns-clause-sent : goal.returns-clause-sent
returns-clause-sent g c =
    let bytes_written = rw (c.deref.ensures.value, c.in_ok-next.ensures.bytes) at c.in_ok-send.ensures.bytes_written in
    ap (λ (w : Writing). w.bytes_written) c.self.view_is ∙ bytes_written

pub returns-clause-written : goal.returns-clause-written
returns-clause-written g c before pages written =
    let page = page_with c.args.counts.now c.args.offsets c.args.box_node.now in
    let bytes_written = rw (c.deref.ensures.value, c.in_ok-next.ensures.bytes) at c.in_ok-send.ensures.bytes_written in
    let past = rw (c.deref.ensures.value, c.in_ok-next.ensures.bytes) at c.in_ok-send.ensures.past in
    written_more c.args.fonts.now before c.args.self.now _ pages page written c.in_ok-next.ensures.right c.in_ok-next.ensures.after
    (ap (λ (w : Writing). w.bytes_written) c.self.view_is ∙ bytes_written) (ap (λ (w : Writing). w.past) c.self.view_is ∙ past)
    (ap (λ (w : Writing). w.began) c.self.view_is ∙ c.send.ensures.goes_on.began) (ap (λ (w : Writing). w.over) c.self.view_is ∙ c.in_ok-send.ensures.running)
