use Rattle.std.proofs.Common.{◌≡◌, ℕ, ◌+◌, ◌*◌, ◌<◌, length}
use Rattle.std.specs.Prelude.{slice_get}
use Rattle.std.specs.Option.{IfSome}
use Rattle.pack_core.specs.Tails.{IsTail}
use Rattle.vert_core.specs.Tails.{last_items}
use Rattle.vert_core.proofs.tails.Tails.of.Given as goal

abbrev pub invariant-loop-span : goal.invariant-loop-span
invariant-loop-span l = record {
  tail : IsTail (last_items (32 * l.span) l.nodes) l.tail;
  count : length l.entries.items ≡ l.span;
  entries : (n : ℕ) → n < l.span → IfSome (slice_get l.entries.items n) (λ entry. IsTail (last_items (32 * (n + 1)) l.nodes) entry);
}
