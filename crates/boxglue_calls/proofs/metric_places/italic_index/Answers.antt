-- The third byte of the word.
use Rattle.std.proofs.Common.{◌*◌, ◌/◌, ℕ, ap, sym, ◌∙◌}
use Rattle.std.proofs.lemmas.List.{get_or-drop}
use Rattle.boxglue_calls.proofs.metric_places.italic_index.Goals as goal

pub returns-clause-value : goal.returns-clause-value
returns-clause-value c = c.from.ensures ∙ ap (λ (byte : ℕ). byte / 4) (sym (get_or-drop (4 * c.args.k) c.args.bytes.now 2 0))
