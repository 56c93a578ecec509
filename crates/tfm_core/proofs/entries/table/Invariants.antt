use Rattle.std.proofs.Common.{◌≡◌}
use Rattle.tfm_core.specs.Words.{table}
use Rattle.tfm_core.proofs.entries.table.Given as goal

abbrev pub invariant-loop-k : goal.invariant-loop-k
invariant-loop-k g l = l.entries.items ≡ table g.E.TableEntry.says l.bytes l.place l.k
