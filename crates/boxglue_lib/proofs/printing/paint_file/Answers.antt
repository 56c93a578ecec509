-- A bitmap that was made is of a page that is there; where memory is refused, nothing was written.
use Rattle.std.proofs.Common.{◌≡◌, ◌⊎◌, inl, inr, ap, Ok, Err}
use Rattle.std.specs.Prelude.{Result}
use Rattle.boxglue_lib.proofs.EndLemmas.{keeps_same, missing_page}
use Rattle.boxglue_lib.proofs.printing.paint_file.Goals as goal

neither : {A E : Type 0} (r : Result A E) (x : A) (d e : E) → r ≡ Ok x → (r ≡ Err d) ⊎ (r ≡ Err e) → ⊥
neither r x d e is (inl same) = cc
neither r x d e is (inr same) = cc

pub returns-in_err-rows-clause-silent : goal.returns-in_err-rows-clause-silent
returns-in_err-rows-clause-silent g c = λ _. keeps_same (g.W.Write.contents c.args.writer.now)

pub returns-clause-found : goal.returns-clause-found
returns-clause-found g c = λ lacks.
    absurd (neither c.page_bitmap.result _ _ _ c.in_ok-bitmap.was (c.page_bitmap.ensures.found lacks))

pub returns-in_err-bitmap-clause-missing : goal.returns-in_err-bitmap-clause-missing
returns-in_err-bitmap-clause-missing g c = λ is.
    c.in_err-bitmap.ensures.missing (ap Err (missing_page c.in_err-bitmap.field-0.0 c.from_residual.result c.from_residual.ensures.1 is))
