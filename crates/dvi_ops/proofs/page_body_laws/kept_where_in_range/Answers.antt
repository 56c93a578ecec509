use Rattle.dvi_ops.proofs.Ranges.{meaning-kept, kept-meaning}
use Rattle.dvi_ops.proofs.page_body_laws.kept_where_in_range.Goals as goal

pub returns : goal.returns
returns c = record { kept_is_meaning = meaning-kept; meaning_is_kept = kept-meaning }
