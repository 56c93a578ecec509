-- The places left of a chain of pages after some bops.
use Rattle.std.proofs.Common.{◌≡◌, ◌++◌, [], ◌∷◌, List, ℕ, Bool, true, false, Option, Some, None, if◌then◌else◌, refl, sym, ◌∙◌, ap, ap₂}
use Rattle.std.specs.Prelude.{nat_eq, option_and_then}
use Rattle.std.proofs.lemmas.Bool.{eq-eqb, eqb-true}
use Rattle.dvi_scan.specs.Reached.{PlacesLeft, after_bop, after_bops}

-- Several bops, and then others.
pub after_bops-append : (ats more : List ℕ) (left mid : PlacesLeft) → after_bops ats left ≡ Some mid → after_bops (ats ++ more) left ≡ after_bops more mid
after_bops-append [] more left mid e = let same : left ≡ mid = cc in ap (after_bops more) same
after_bops-append (at ∷ ats) more left mid e = go (after_bop at left.missed left.places) (λ next. after_bops-append ats more next mid) e
  where
    go : (o : Option PlacesLeft) → ((next : PlacesLeft) → after_bops ats next ≡ Some mid → after_bops (ats ++ more) next ≡ after_bops more mid) → option_and_then (after_bops ats) o ≡ Some mid → option_and_then (after_bops (ats ++ more)) o ≡ after_bops more mid
    go None rest e = absurd cc
    go (Some next) rest e = rest next e

-- Bops at the first places miss none.
pub bops_met : (ats places : List ℕ) → after_bops ats (record { missed = false; places = ats ++ places }) ≡ Some (record { missed = false; places = places })
bops_met [] places = refl
bops_met (at ∷ ats) places = ap (option_and_then (after_bops ats)) first ∙ bops_met ats places
  where
    first : after_bop at false (at ∷ (ats ++ places)) ≡ Some (record { missed = false; places = ats ++ places })
    first = rw (eq-eqb at at refl) refl

-- Where a place was missed, it stays missed.
stays_missed : (at : ℕ) (places : List ℕ) (next : PlacesLeft) → after_bop at true places ≡ Some next → next.missed ≡ true
stays_missed at [] next e = absurd cc
stays_missed at (place ∷ places) next e = go (nat_eq place at) (stays_missed at places next) e
  where
    go : (b : Bool) → (after_bop at true places ≡ Some next → next.missed ≡ true) → (if b then Some (record { missed = true; places = places }) else after_bop at true places) ≡ Some next → next.missed ≡ true
    go true rest e = let same : record { missed = true; places = places } ≡ next = cc in ap (λ (l : PlacesLeft). l.missed) (sym same)
    go false rest e = rest e

-- Where no place is missed, the bop is at the first place.
one_met : (at : ℕ) (missed : Bool) (places : List ℕ) (next : PlacesLeft) → after_bop at missed places ≡ Some next → next.missed ≡ false → (missed ≡ false) × (at ∷ next.places ≡ places)
one_met at missed [] next e none = absurd cc
one_met at missed (place ∷ places) next e none = go (nat_eq place at) refl e
  where
    go : (b : Bool) → nat_eq place at ≡ b → (if b then Some (record { missed = missed; places = places }) else after_bop at true places) ≡ Some next → (missed ≡ false) × (at ∷ next.places ≡ place ∷ places)
    go true is e =
        let same : record { missed = missed; places = places } ≡ next = cc in
        (ap (λ (l : PlacesLeft). l.missed) same ∙ none, ap₂ (λ (n : ℕ) (ns : List ℕ). n ∷ ns) (sym (eqb-true place at is)) (ap (λ (l : PlacesLeft). l.places) (sym same)))
    go false is e = let both : true ≡ false = sym (stays_missed at places next e) ∙ none in absurd cc

-- Where none was missed, the bops and the places left are all places.
pub none_missed : (ats : List ℕ) (left : PlacesLeft) (end : List ℕ) → after_bops ats left ≡ Some (record { missed = false; places = end }) → (left.missed ≡ false) × (ats ++ end ≡ left.places)
none_missed [] left end e =
    let same : left ≡ record { missed = false; places = end } = cc in (ap (λ (l : PlacesLeft). l.missed) same, ap (λ (l : PlacesLeft). l.places) (sym same))
none_missed (at ∷ ats) left end e = go (after_bop at left.missed left.places) refl (λ next. none_missed ats next end) e
  where
    go : (o : Option PlacesLeft) → after_bop at left.missed left.places ≡ o
        → ((next : PlacesLeft) → after_bops ats next ≡ Some (record { missed = false; places = end }) → (next.missed ≡ false) × (ats ++ end ≡ next.places))
        → option_and_then (after_bops ats) o ≡ Some (record { missed = false; places = end }) → (left.missed ≡ false) × (at ∷ (ats ++ end) ≡ left.places)
    go None is rest e = absurd cc
    go (Some next) is rest e =
        let (missed, others) = rest next e in
        let (first, whole) = one_met at left.missed left.places next is missed in
        (first, ap (λ (ns : List ℕ). at ∷ ns) others ∙ whole)
