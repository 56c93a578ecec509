use Rattle.std.proofs.Common.{ap, sym, subst, refl}
use Rattle.dvi_write.specs.Limits.{IsWithinLimits}
use Rattle.dvi_write.proofs.Spaces.{first_space}
use Rattle.dvi_write.proofs.Writings.{written_none}
use Rattle.dvi_write.proofs.dvi_writer.DviWriter.new.Goals as goal

pub invariant_of-result : goal.invariant_of-result
invariant_of-result g c = (
  subst IsWithinLimits (sym c.new.ensures) first_space,
  λ running. c.requires,
  ap (λ (d : g.row.D.Denot). (g.D.Device.past d).made) (sym c.of.ensures),
)

pub returns-clause-written : goal.returns-clause-written
returns-clause-written g c fonts = written_none fonts _ c.new.ensures refl (ap g.D.Device.past (sym c.of.ensures))
