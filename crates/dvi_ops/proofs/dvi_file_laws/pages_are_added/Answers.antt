use Rattle.std.proofs.Common.{[], ◌∷◌}
use Rattle.dvi_ops.proofs.WholeFile.{front_more, after_all-append, size_of_front, good_more}
use Rattle.dvi_ops.proofs.dvi_file_laws.pages_are_added.Goals as goal

pub returns : goal.returns
returns c = record { bytes = front_more; state = λ s file_pages p. after_all-append s file_pages (p ∷ []); size = size_of_front; good = good_more }
