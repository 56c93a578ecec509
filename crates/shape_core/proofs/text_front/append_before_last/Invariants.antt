use Rattle.std.proofs.Common.{length, ◌-◌, ◌≡◌, ◌≤◌, ◌<◌, ◌++◌, drop, get_or, take, vec_capacity}
use Rattle.shape_core.specs.Texts.{text_items, text_missing}
use Rattle.shape_core.proofs.text_front.append_before_last.Given as goal

-- The appended items and those of the text from the character before the index on make up the items of the text, and no character was missing.
abbrev pub invariant-loop-index : goal.invariant-loop-index
invariant-loop-index g l = record {
  some : 0 < l.index;
  within : l.index ≤ length l.text;
  before : l.code ≡ get_or l.text (l.index - 1) 0;
  items : l.items.items
      ++ text_items l.slot (g.M.Metrics.sizes l.metrics) (g.M.Metrics.steps l.metrics) (g.M.Metrics.blank l.metrics) (drop (l.index - 1) l.text)
      ≡ l.initial.items.items ++ text_items l.slot (g.M.Metrics.sizes l.metrics) (g.M.Metrics.steps l.metrics) (g.M.Metrics.blank l.metrics) l.text;
  number : text_missing (g.M.Metrics.sizes l.metrics) (g.M.Metrics.steps l.metrics) (drop (l.index - 1) l.text)
      ≡ text_missing (g.M.Metrics.sizes l.metrics) (g.M.Metrics.steps l.metrics) l.text;
  front : take (length l.initial.items.items) l.items.items ≡ l.initial.items.items;
  capacity : vec_capacity l.items ≡ vec_capacity l.initial.items;
  last : l.last ≡ vec_capacity l.items - 1;
}

abbrev pub decreases-loop-index : goal.decreases-loop-index
decreases-loop-index g l = length l.text - l.index
