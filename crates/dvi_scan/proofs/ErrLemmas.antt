-- An error that `?` passes on.
use Rattle.std.proofs.Common.{◌≡◌, Result, Ok, Err, sym, subst}
use Rattle.std.specs.Result.{IfErr, IsErrAnd}

-- A property of an error holds of what is returned for it.
pub handed_on : {A E : Type 0} (P : E → Type 0) (r : Result A E) (e : E) → IsErrAnd r (λ y. y ≡ e) → P e → IfErr r P
handed_on P (Ok x) e given p = tt
handed_on P (Err y) e given p = subst P (sym given) p
