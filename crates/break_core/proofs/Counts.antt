-- The number of lines that are tried.
use Rattle.std.proofs.Common.{◌≡◌, ◌≢◌, ◌∙◌, ℕ, zero, suc, ◌+◌, ◌-◌, ◌<◌, ◌≤◌, Bool, true, List, [], ◌∷◌, Some, refl, ap, sym, subst, arith}
use Rattle.std.specs.Prelude.{slice_get}
use Rattle.std.proofs.lemmas.Option.{same_Some}
use Rattle.break_lines.specs.declared.group.ActiveGroup.{ActiveGroup}
use Rattle.std.proofs.Math.Logic.{◌⊎◌, inl, inr}
use Rattle.std.proofs.lemmas.Bool.{cases_lt, cases_eq}
use Rattle.break_core.specs.Private.Active.{HasNotStopped, IsSwept, IsCounted, TrialsOnlyGrow, WasTried}

-- A line was tried from one more place, which is after the others.
pub swept_more :
    (stop : ℕ → ℕ → Bool) (b low place : ℕ) (before now new : ℕ → ℕ)
    → IsSwept stop b before now → ((a : ℕ) → low ≤ a → now a ≤ before a)
    → low ≤ place → place < b → HasNotStopped stop place b
    → new place ≡ now place + 1 → ((other : ℕ) → other ≢ place → new other ≡ now other) → IsSwept stop b before new
swept_more stop b low place before now new swept fresh later earlier not_stopped counted others a = cases (cases_eq a place)
  where
    cases : (a ≡ place) ⊎ (a ≡ place → ⊥) → (new a ≤ before a) ⊎ ((new a ≤ before a + 1) × (a < b) × HasNotStopped stop a b)
    cases (inl same) =
        let old = fresh place later in
        subst (λ x. (new x ≤ before x) ⊎ ((new x ≤ before x + 1) × (x < b) × HasNotStopped stop x b)) (sym same)
        (inr (omega (arith, counted, old), earlier, not_stopped))
    cases (inr other) =
        subst (λ n. (n ≤ before a) ⊎ ((n ≤ before a + 1) × (a < b) × HasNotStopped stop a b)) (sym (others a other)) (swept a)

pub fresh_more :
    (low place : ℕ) (before now new : ℕ → ℕ)
    → ((a : ℕ) → low ≤ a → now a ≤ before a) → low ≤ place → ((other : ℕ) → other ≢ place → new other ≡ now other)
    → (a : ℕ) → place + 1 ≤ a → new a ≤ before a
fresh_more low place before now new fresh later others a after = omega (arith, others a (λ same. omega (arith, same)), fresh a (omega arith))

-- Lines to one more place were tried.
pub counted_more :
    (stop : ℕ → ℕ → Bool) (b : ℕ) (before middle now : ℕ → ℕ)
    → IsCounted stop b before middle → IsSwept stop (b + 1) middle now → IsCounted stop (b + 1) before now
counted_more stop b before middle now is swept =
    record { grown = λ a. grown a (swept a); stopped = λ a l earlier within stops. stopped a l earlier within stops (swept a) (cases_lt l (b + 1)) }
  where
    grown : (a : ℕ) → (now a ≤ middle a) ⊎ ((now a ≤ middle a + 1) × (a < b + 1) × HasNotStopped stop a (b + 1)) → now a ≤ before a + (b + 1 - a)
    grown a (inl none) = omega (arith, is.grown a)
    grown a (inr one) = omega (arith, is.grown a, one.0, one.1)

    stopped :
        (a l : ℕ) → a < l → l ≤ b + 1 → stop a l ≡ true
        → (now a ≤ middle a) ⊎ ((now a ≤ middle a + 1) × (a < b + 1) × HasNotStopped stop a (b + 1)) → (l < b + 1) ⊎ (b + 1 ≤ l) → now a ≤ before a + (l - a)
    stopped a l earlier within stops (inl none) (inl low) = omega (arith, is.stopped a l earlier (omega arith) stops)
    stopped a l earlier within stops (inr one) (inl low) =
        let goes = one.2 l earlier low in
        absurd (cc)
    stopped a l earlier within stops tried (inr last) =
        let all = grown a tried in
        omega (arith, all)

-- No line has been tried yet.
pub counted_none : (stop : ℕ → ℕ → Bool) (before : ℕ → ℕ) → IsCounted stop 0 before before
counted_none stop before = record { grown = λ a. omega arith; stopped = λ a l earlier within stops. absurd (omega arith) }

-- A bound up to a place holds up to a later place.
pub counted_longer : (stop : ℕ → ℕ → Bool) (b c : ℕ) (before now : ℕ → ℕ) → b ≤ c → IsCounted stop b before now → IsCounted stop c before now
counted_longer stop b c before now later is =
    record { grown = λ a. omega (arith, is.grown a); stopped = λ a l earlier within stops. stopped a l earlier stops (cases_lt b l) }
  where
    stopped : (a l : ℕ) → a < l → stop a l ≡ true → (b < l) ⊎ (l ≤ b) → now a ≤ before a + (l - a)
    stopped a l earlier stops (inl above) = omega (arith, is.grown a)
    stopped a l earlier stops (inr low) = is.stopped a l earlier low stops

-- One more trial does not decrease a count.
pub kept_more :
    (place : ℕ) (before now new : ℕ → ℕ) → TrialsOnlyGrow before now
    → new place ≡ now place + 1 → ((other : ℕ) → other ≢ place → new other ≡ now other) → TrialsOnlyGrow before new
kept_more place before now new kept counted others a = cases (cases_eq a place)
  where
    cases : (a ≡ place) ⊎ (a ≡ place → ⊥) → before a ≤ new a
    cases (inl same) = subst (λ x. before x ≤ new x) (sym same) (omega (arith, counted, kept place))
    cases (inr other) = omega (arith, others a other, kept a)

pub kept_on : (before middle now : ℕ → ℕ) → TrialsOnlyGrow before middle → TrialsOnlyGrow middle now → TrialsOnlyGrow before now
kept_on before middle now first second a = omega (arith, first a, second a)

pub kept_none : (before : ℕ → ℕ) → TrialsOnlyGrow before before
kept_none before a = omega arith

-- A line was tried from the first group.
pub tried_first :
    (live : List ActiveGroup) (i : ℕ) (group : ActiveGroup) (before now new : ℕ → ℕ)
    → (0 < i → WasTried live before now) → TrialsOnlyGrow before now
    → slice_get live i ≡ Some group → new group.place ≡ now group.place + 1 → ((other : ℕ) → other ≢ group.place → new other ≡ now other)
    → WasTried live before new
tried_first live zero group before now new tried kept at counted others g is =
    let one : group ≡ g = same_Some group g (sym at ∙ is) in
    subst (λ (x : ActiveGroup). before x.place < new x.place) one (omega (arith, counted, kept group.place))
tried_first live (suc i) group before now new tried kept at counted others g is =
    omega (arith, tried (omega arith) g is, kept_more group.place now now new (kept_none now) counted others g.place)

-- The group of the start.
abbrev pub start_group : ActiveGroup
start_group = record { place = 0; start = 0; end = 1 }

-- A line from the start to the first place was tried.
pub started_more :
    (b : ℕ) (live : List ActiveGroup) (before middle now : ℕ → ℕ)
    → (b ≡ 0 → live ≡ start_group ∷ []) → (0 < b → before 0 < middle 0) → TrialsOnlyGrow before middle → TrialsOnlyGrow middle now → WasTried live middle now
    → before 0 < now 0
started_more zero live before middle now begins started first second tried =
    omega (arith, first 0, tried start_group (ap (λ groups. slice_get groups 0) (begins refl)))
started_more (suc b) live before middle now begins started first second tried = omega (arith, started (omega arith), second 0)

-- If no group is left, lines were tried.
pub started_none :
    (b : ℕ) (live : List ActiveGroup) (before now : ℕ → ℕ)
    → live ≡ [] → (b ≡ 0 → live ≡ start_group ∷ []) → (0 < b → before 0 < now 0) → before 0 < now 0
started_none zero live before now none begins started =
    let some : start_group ∷ [] ≡ [] = sym (begins refl) ∙ none in
    absurd (cc)
started_none (suc b) live before now none begins started = started (omega arith)
