-- Lists of breaks and ways are two forms of the same thing.
use Rattle.std.proofs.Common.{◌≡◌, ◌∙◌, ℕ, ◌<◌, ◌≤◌, true, List, [], ◌∷◌, refl, ap, sym, subst, arith, Option, Some, None}
use Rattle.std.specs.Prelude.{Contains}
use Rattle.std.proofs.Math.Logic.{◌⊎◌, inl, inr}
use Rattle.std.proofs.lemmas.Bool.{cases_lt}
use Rattle.std.proofs.lemmas.Option.{same_Some}
use Rattle.std.proofs.lemmas.List.Elements.{Contains-append_right, Contains-append_left, Contains-push, Contains-append_cases, Contains-push_cases}
use Rattle.break_lines.specs.declared.state.LineCost.{LineCost}
use Rattle.break_lines.specs.Problems.{Problem, Path, first_path, with_line, with_line_if, lengthened_path, path_of, ends_of, places_of}
use Rattle.break_lines.specs.Chosen.{top, IsFalling, IsBreakList}
use Rattle.break_lines.specs.Ways.{last_forced_below, Way, starts, goes}
use Rattle.break_lines.proofs.Since.{since_forced, forced_within}

contains_none : (x : ℕ) → Contains [] x → ⊥
contains_none x h = omega (arith, h.1)

-- What a list with one more place contains.
contains_rest : (b : ℕ) (rest : List ℕ) (x : ℕ) → Contains (b ∷ rest) x → x < b → Contains rest x
contains_rest b rest x h below = cases (Contains-append_cases (b ∷ []) rest x h)
  where
    head : Contains [] x ⊎ (b ≡ x) → Contains rest x
    head (inl none) = absurd (contains_none x none)
    head (inr same) = absurd (omega (arith, same))

    cases : Contains (b ∷ []) x ⊎ Contains rest x → Contains rest x
    cases (inl here) = head (Contains-push_cases [] b x here)
    cases (inr there) = there

-- No place of a falling list is later than the first.
contained_top : (places : List ℕ) (x : ℕ) → IsFalling places → Contains places x → x ≤ top places
contained_top [] x falls h = absurd (contains_none x h)
contained_top (b ∷ rest) x falls h = cases (λ there. contained_top rest x falls.1 there) (Contains-append_cases (b ∷ []) rest x h)
  where
    head : Contains [] x ⊎ (b ≡ x) → x ≤ b
    head (inl none) = absurd (contains_none x none)
    head (inr same) = omega (arith, same)

    cases : (Contains rest x → x ≤ top rest) → Contains (b ∷ []) x ⊎ Contains rest x → x ≤ b
    cases before (inl here) = head (Contains-push_cases [] b x here)
    cases before (inr there) = omega (arith, before there, falls.0)

-- The list contains each forced place up to x.
abbrev HasForced : Problem → ℕ → List ℕ → Type 0
HasForced p x places = (f : ℕ) → 0 < f → f ≤ x → p.forced f ≡ true → Contains places f

-- Lines that end at the places of a falling list with each forced place are a way.
pub way_of :
    (p : Problem) (places : List ℕ) (q : Path)
    → IsFalling places → HasForced p (top places) places → path_of p places ≡ Some q → Way p q × (q.last.place ≡ top places)
way_of p [] q falls forced is =
    let same : first_path ≡ q = same_Some first_path q is in
    (subst (λ r. Way p r) same starts, sym (ap (λ r. r.last.place) same))
way_of p (b ∷ rest) q falls forced is =
    cases (λ r has before. way_of p rest r falls.1 has before) (path_of p rest) refl is
  where
    fewer : HasForced p (top rest) rest
    fewer f some within here = contains_rest b rest f (forced f some (omega (arith, falls.0)) here) (omega (arith, falls.0))

    late : (x : ℕ) → x ≡ top rest → (0 < last_forced_below p b) ⊎ (last_forced_below p b ≤ 0) → last_forced_below p b ≤ x
    late x is_top (inr none) = omega arith
    late x is_top (inl above) =
        let at = since_forced p b above in
        let has = forced (last_forced_below p b) above (omega (arith, at.1)) at.0 in
        omega (arith, contained_top rest (last_forced_below p b) falls.1 (contains_rest b rest (last_forced_below p b) has at.1))

    lines :
        (r : Path) (l : Option LineCost) → Way p r × (r.last.place ≡ top rest) → p.line r.last b ≡ l → with_line_if p r b l ≡ Some q
        → Way p q × (q.last.place ≡ b)
    lines r None way at gives = absurd (cc)
    lines r (Some l) way at gives =
        let same : with_line p r b l ≡ q = same_Some (with_line p r b l) q gives in
        let goes_on = goes r b l way.0 (omega (arith, way.1, falls.0)) (late r.last.place way.1 (cases_lt 0 (last_forced_below p b))) at in
        (subst (λ s. Way p s) same goes_on, sym (ap (λ s. s.last.place) same))

    cases :
        ((r : Path) → HasForced p (top rest) rest → path_of p rest ≡ Some r → Way p r × (r.last.place ≡ top rest))
        → (r : Option Path) → path_of p rest ≡ r → lengthened_path p r b ≡ Some q → Way p q × (q.last.place ≡ b)
    cases shorter None before gives = absurd (cc)
    cases shorter (Some r) before gives = lines r (p.line r.last b) (shorter r fewer before) refl gives

pub way_of_break_list :
    (p : Problem) (places : List ℕ) (q : Path)
    → IsBreakList p places → path_of p places ≡ Some q → Way p q × (q.last.place ≡ p.places)
way_of_break_list p places q is admitted =
    let way = way_of p places q is.falls (λ f some within here. is.forced f some (omega (arith, is.ends)) here) admitted in
    (way.0, way.1 ∙ is.ends)

-- The list of a way: the places at which its lines end.
pub record IsListOf (p : Problem) (q : Path) : Type 0 where
  pub places : List ℕ
  pub falls : IsFalling places
  pub ends : top places ≡ q.last.place
  pub forced : HasForced p q.last.place places
  pub admitted : path_of p places ≡ Some q
  pub same : places ≡ places_of (ends_of q)

pub list_of : (p : Problem) (q : Path) → Way p q → IsListOf p q
list_of p _ starts =
    record { places = []; falls = tt; ends = refl; forced = λ f some within here. absurd (omega arith); admitted = refl; same = refl }
list_of p _ (goes q b l way later since_b is) = more (list_of p q way)
  where
    more : IsListOf p q → IsListOf p (with_line p q b l)
    more before =
        record {
          places = b ∷ before.places;
          falls = (omega (arith, before.ends), before.falls);
          ends = refl;
          forced = λ f some within here. at f some here (cases_lt f b) within;
          admitted = ap (λ r. lengthened_path p r b) before.admitted ∙ ap (with_line_if p q b) is;
          same = ap (λ xs. b ∷ xs) before.same;
        }
      where
        at : (f : ℕ) → 0 < f → p.forced f ≡ true → (f < b) ⊎ (b ≤ f) → f ≤ b → Contains (b ∷ before.places) f
        at f some here (inl below) within =
            Contains-append_right (b ∷ []) before.places f (before.forced f some (omega (arith, forced_within p f b below here)) here)
        at f some here (inr above) within =
            let same : b ≡ f = omega arith in
            Contains-append_left (b ∷ []) before.places f (subst (λ x. Contains (b ∷ []) x) same (Contains-push [] b))

pub break_list_of_way :
    (p : Problem) (q : Path) → Way p q → q.last.place ≡ p.places
    → IsBreakList p (places_of (ends_of q)) × (path_of p (places_of (ends_of q)) ≡ Some q)
break_list_of_way p q way at =
    let list = list_of p q way in
    subst (λ places. IsBreakList p places × (path_of p places ≡ Some q)) list.same (
      record { falls = list.falls; ends = list.ends ∙ at; forced = λ f some within here. list.forced f some (omega (arith, at)) here },
      list.admitted,
    )
