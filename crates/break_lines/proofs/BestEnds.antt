-- The best entry of a place, as a loop passes over the table.
use Rattle.std.proofs.Common.{◌≡◌, ◌∙◌, ℕ, ◌+◌, ◌<◌, ◌≤◌, List, ap, sym, subst, arith, Option, Some, None, MatchOption}
use Rattle.std.specs.Prelude.{slice_get}
use Rattle.std.proofs.Math.Logic.{◌⊎◌, inl, inr}
use Rattle.std.proofs.lemmas.Bool.{cases_lt}
use Rattle.std.proofs.lemmas.Option.{same_Some}
use Rattle.break_lines.specs.Orders.{NotAfter}
use Rattle.break_lines.specs.Tables.{Entry, compared_numbers}
use Rattle.break_lines.specs.Private.Tables.{IsBestEnd, HasNoEnd}
use Rattle.break_lines.proofs.Dictionary.{not_after_refl, not_after_trans}

-- One more entry for another place changes nothing.
none_more :
    (table : List Entry) (place n : ℕ) (e : Entry)
    → slice_get table n ≡ Some e → (e.end.place ≡ place → ⊥) → HasNoEnd table place n → HasNoEnd table place (n + 1)
none_more table place n e present other none j f below at here = cases (cases_lt j n)
  where
    cases : (j < n) ⊎ (n ≤ j) → ⊥
    cases (inl before) = none j f before at here
    cases (inr after) =
        let same : j ≡ n = omega arith in
        let there : slice_get table n ≡ Some f = ap (slice_get table) (sym same) ∙ at in
        let one : f ≡ e = same_Some f e (sym there ∙ present) in
        other (sym (ap (λ x. x.end.place) one) ∙ here)

-- An entry is the best one of those passed, if it is as good as the best one before, and as good as the new entry if that is for this place.
abbrev IsNoWorse : (table : List Entry) (place n : ℕ) (e x : Entry) → Type 0
IsNoWorse table place n e x =
    ((j : ℕ) (f : Entry) → j < n → slice_get table j ≡ Some f → f.end.place ≡ place → NotAfter (compared_numbers x) (compared_numbers f))
    × (e.end.place ≡ place → NotAfter (compared_numbers x) (compared_numbers e))

best_of :
    (table : List Entry) (place n k : ℕ) (e x : Entry)
    → slice_get table n ≡ Some e → slice_get table k ≡ Some x → x.end.place ≡ place → IsNoWorse table place n e x → IsBestEnd table place (n + 1) k
best_of table place n k e x present at here no_worse =
    record { entry = x; present = at; at = here; best = λ j f below there of_place. cases j f below there of_place (cases_lt j n) }
  where
    cases : (j : ℕ) (f : Entry) → j < n + 1 → slice_get table j ≡ Some f → f.end.place ≡ place → (j < n) ⊎ (n ≤ j) → NotAfter (compared_numbers x) (compared_numbers f)
    cases j f below there of_place (inl before) = no_worse.0 j f before there of_place
    cases j f below there of_place (inr after) =
        let same : j ≡ n = omega arith in
        let last : slice_get table n ≡ Some f = ap (slice_get table) (sym same) ∙ there in
        let one : e ≡ f = same_Some e f (sym present ∙ last) in
        subst (λ y. NotAfter (compared_numbers x) (compared_numbers y)) one (no_worse.1 (ap (λ y. y.end.place) one ∙ of_place))

pub best_other :
    (table : List Entry) (place n : ℕ) (e : Entry) (best : Option ℕ)
    → slice_get table n ≡ Some e → (e.end.place ≡ place → ⊥) → MatchOption best (HasNoEnd table place n) (IsBestEnd table place n)
    → MatchOption best (HasNoEnd table place (n + 1)) (IsBestEnd table place (n + 1))
best_other table place n e None present other none = none_more table place n e present other none
best_other table place n e (Some k) present other best =
    best_of table place n k e best.entry present best.present best.at (best.best, λ here. absurd (other here))

pub best_first :
    (table : List Entry) (place n : ℕ) (e : Entry)
    → slice_get table n ≡ Some e → e.end.place ≡ place → HasNoEnd table place n → IsBestEnd table place (n + 1) n
best_first table place n e present here none =
    best_of table place n n e e present present here
    ((λ j f below at of_place. absurd (none j f below at of_place)), λ _. not_after_refl (compared_numbers e))

pub best_stays :
    (table : List Entry) (place n k : ℕ) (e : Entry) (best : IsBestEnd table place n k)
    → slice_get table n ≡ Some e → NotAfter (compared_numbers best.entry) (compared_numbers e) → IsBestEnd table place (n + 1) k
best_stays table place n k e best present h = best_of table place n k e best.entry present best.present best.at (best.best, λ _. h)

pub best_taken :
    (table : List Entry) (place n k : ℕ) (e : Entry) (best : IsBestEnd table place n k)
    → slice_get table n ≡ Some e → e.end.place ≡ place → NotAfter (compared_numbers e) (compared_numbers best.entry) → IsBestEnd table place (n + 1) n
best_taken table place n k e best present here h =
    best_of table place n n e e present present here (
      (λ j f below at of_place. not_after_trans (compared_numbers e) (compared_numbers best.entry) (compared_numbers f) h (best.best j f below at of_place)),
      λ _. not_after_refl (compared_numbers e),
    )
