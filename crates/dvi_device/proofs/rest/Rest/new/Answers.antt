use Rattle.dvi_device.proofs.Resumptions.{fresh_rest}
use Rattle.dvi_device.proofs.rest.Rest.new.Goals as goal

pub returns-clause-fresh : goal.returns-clause-fresh
returns-clause-fresh g c = rw c.of.ensures (fresh_rest (g.D.Device.bytes_written c.args.device) c.args.sent.items)
