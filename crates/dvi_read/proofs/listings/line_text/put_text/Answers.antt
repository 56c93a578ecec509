use Rattle.std.proofs.Common.{List, ℕ, ◌<◌, length, subst, sym}
use Rattle.dvi_read.proofs.NextLines.{shown_there}
use Rattle.dvi_read.proofs.listings.line_text.put_text.Goals as goal

pub returns-clause-filled : goal.returns-clause-filled
returns-clause-filled c = subst (λ (bytes : List ℕ). 0 < length bytes) (sym c.put_shown.ensures) (shown_there _)
