use Rattle.std.proofs.Common.{◌≡◌, Some}
use Rattle.std.specs.Prelude.{slice_get}
use Rattle.break_core.specs.declared.row.Offer.{Offer}
use Rattle.break_core.specs.Private.Active.{IsLeastOf}
use Rattle.break_core.proofs.offering.best_waiting.Given as goal

abbrev pub invariant-loop-index : goal.invariant-loop-index
invariant-loop-index l = record { least : (o : Offer) → slice_get l.best.best l.slot ≡ Some o → IsLeastOf l.lives l.index l.slot o }
