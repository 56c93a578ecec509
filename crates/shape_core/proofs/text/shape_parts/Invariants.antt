use Rattle.std.proofs.Common.{◌≡◌, ◌+◌, ◌++◌, ◌≤◌, length, take, vec_capacity}
use Rattle.shape_core.specs.Texts.{text_items, text_missing}
use Rattle.shape_core.proofs.text.shape_parts.Given as goal

-- The appended items and those of the rest of the text make up the items of the text; at most as many characters are missing as were passed; the
-- nodes from before the call come first; and the vector has at least the space that it had.
abbrev pub invariant-loop-text : goal.invariant-loop-text
invariant-loop-text g l =
    (l.initial.nodes.items ++ text_items l.slot (g.M.Metrics.sizes l.metrics) (g.M.Metrics.steps l.metrics) (g.M.Metrics.blank l.metrics) l.initial.text ≡ l.nodes.items ++ text_items l.slot (g.M.Metrics.sizes l.metrics) (g.M.Metrics.steps l.metrics) (g.M.Metrics.blank l.metrics) l.text)
    × (text_missing (g.M.Metrics.sizes l.metrics) (g.M.Metrics.steps l.metrics) l.initial.text ≡ l.characters + text_missing (g.M.Metrics.sizes l.metrics) (g.M.Metrics.steps l.metrics) l.text)
    × (take (length l.initial.nodes.items) l.nodes.items ≡ l.initial.nodes.items)
    × (l.characters + length l.text ≤ length l.initial.text)
    × (vec_capacity l.initial.nodes ≤ vec_capacity l.nodes)

-- The rest of the text gets shorter.
abbrev pub decreases-loop-text : goal.decreases-loop-text
decreases-loop-text g l = length l.text
