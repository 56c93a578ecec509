use Rattle.std.proofs.Common.{◌≡◌, ◌++◌, ◌-◌, length, None, replicate, vec_capacity}
use Rattle.job_state.proofs.table.put_above.Given as goal

abbrev pub invariant-loop : goal.invariant-loop
invariant-loop l = record {
  items : l.used.items ≡ l.initial.used.items ++ replicate (l.counter - length l.initial.used.items) None;
  capacity : vec_capacity l.used ≡ vec_capacity l.initial.used;
}
