use Rattle.std.proofs.Common.{◌≡◌, ◌≤◌, ◌-◌, take, drop, length}
use Rattle.dvi_device.specs.Written.{written_then}
use Rattle.dvi_device.proofs.device.write_all.Given as goal

abbrev pub invariant-loop-sent : goal.invariant-loop-sent
invariant-loop-sent g l = record {
  within : l.sent ≤ length l.bytes;
  taken : g.D.Device.bytes_written l.device ≡ written_then (g.D.Device.bytes_written l.initial.device) (take l.sent l.bytes);
  past : g.D.Device.past l.device ≡ record (g.D.Device.past l.initial.device) { left = drop l.sent (g.D.Device.past l.initial.device).left };
  no_failure : g.D.Device.failed l.device ≡ g.D.Device.failed l.initial.device;
}

abbrev pub decreases-loop-sent : goal.decreases-loop-sent
decreases-loop-sent g l = length l.bytes - l.sent
