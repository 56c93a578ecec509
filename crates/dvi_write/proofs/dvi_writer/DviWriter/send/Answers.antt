-- The device got all bytes, or a beginning of them.
use Rattle.std.proofs.Common.{refl, sym, ◌∙◌}
use Rattle.dvi_write.proofs.Writings.{goes_by_all, goes_by_front}
use Rattle.dvi_write.proofs.dvi_writer.DviWriter.send.Goals as goal

pub returns-then-is_err-clause-goes_on : goal.returns-then-is_err-clause-goes_on
returns-then-is_err-clause-goes_on g c =
    rw (← c.self.view_is) (goes_by_front c.write_all.result _ _ c.args.bytes.now (sym c.is_err.ensures.value ∙ c.if-is_err.true) c.write_all.ensures.front refl)

pub returns-clause-goes_on : goal.returns-clause-goes_on
returns-clause-goes_on g c =
    rw (← c.self.view_is) (goes_by_all c.write_all.result _ _ c.args.bytes.now (sym c.is_err.ensures.value ∙ c.if-is_err.false) c.write_all.ensures.taken refl)
