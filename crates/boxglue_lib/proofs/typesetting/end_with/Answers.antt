-- A device that has not failed and created no file returns its host as it was.
use Rattle.std.proofs.Common.{refl, sym, ◌∙◌}
use Rattle.boxglue_lib.proofs.EndLemmas.{none_failed}
use Rattle.boxglue_lib.proofs.typesetting.end_with.Goals as goal

pub returns-clause-unchanged : goal.returns-clause-unchanged
returns-clause-unchanged g c = λ closed fine.
    c.into_host.ensures.same (sym c.is_created-is_created.ensures ∙ closed) (sym c.failures-written.ensures ∙ none_failed c.failures-written.result _ refl fine)
