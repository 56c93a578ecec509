use Rattle.std.proofs.Common.{◌≡◌, ◌<◌, ◌≤◌, ℕ, map, take, get_or}
use Rattle.std.specs.Prelude.{false}
use Rattle.std.specs.List.{list_any}
use Rattle.dvi_ops.specs.View.{body_view}
use Rattle.ship_core.proofs.PushDepth.{IsSeen}
use Rattle.dvi_write.specs.FilePages.{selects}
use Rattle.dvi_write.proofs.layout.pass_over.Given as goal

abbrev pub invariant-loop-op : goal.invariant-loop-op
invariant-loop-op l =
    ((slot : ℕ) → slot < 256 → get_or l.selected slot false ≡ list_any (selects slot) (map body_view (take l.op-index l.ops)))
    × ((slot : ℕ) → slot < 256 → l.limit ≤ slot → get_or l.selected slot false ≡ false)
    × ((slot : ℕ) → slot < 256 → slot < l.first → get_or l.selected slot false ≡ false)
    × l.limit ≤ 256
    × IsSeen l.ops l.op-index l.pushed l.deepest
