-- Forced places.
use Rattle.std.proofs.Common.{◌≡◌, ◌∙◌, ℕ, zero, suc, ◌+◌, ◌<◌, ◌≤◌, true, false, ap, sym, arith}
use Rattle.std.proofs.Math.Logic.{◌⊎◌, inl, inr}
use Rattle.std.proofs.lemmas.Bool.{cases_Bool, cases_eq, cases_lt, cond-true, cond-false}
use Rattle.break_lines.specs.Problems.{Problem}
use Rattle.break_lines.specs.Ways.{last_forced_below}

-- The last forced place below b is below b, and is forced.
pub since_forced : (p : Problem) (b : ℕ) → 0 < last_forced_below p b → (p.forced (last_forced_below p b) ≡ true) × (last_forced_below p b < b)
since_forced p zero some = absurd (omega arith)
since_forced p (suc b) some = cases (λ above. since_forced p b above) (cases_Bool (p.forced b))
  where
    cases :
        (0 < last_forced_below p b → (p.forced (last_forced_below p b) ≡ true) × (last_forced_below p b < b)) → (p.forced b ≡ true) ⊎ (p.forced b ≡ false)
        → (p.forced (last_forced_below p (suc b)) ≡ true) × (last_forced_below p (suc b) < suc b)
    cases lower (inl is) =
        let same : last_forced_below p (suc b) ≡ b = cond-true (p.forced b) b (last_forced_below p b) is in
        (ap p.forced same ∙ is, omega (arith, same))
    cases lower (inr is) =
        let same : last_forced_below p (suc b) ≡ last_forced_below p b = cond-false (p.forced b) b (last_forced_below p b) is in
        let before = lower (omega (arith, same)) in
        (ap p.forced same ∙ before.0, omega (arith, same, before.1))

-- Each forced place below b is at most the last one.
pub forced_within : (p : Problem) (f b : ℕ) → f < b → p.forced f ≡ true → f ≤ last_forced_below p b
forced_within p f zero below is = absurd (omega arith)
forced_within p f (suc b) below is = cases (λ under. forced_within p f b under is) (cases_Bool (p.forced b))
  where
    lower : (f < b → f ≤ last_forced_below p b) → p.forced b ≡ false → (f ≡ b) ⊎ (f ≡ b → ⊥) → f ≤ last_forced_below p b
    lower before not_b (inl same) = let here : p.forced b ≡ true = sym (ap p.forced same) ∙ is in absurd (cc)
    lower before not_b (inr other) = before (omega (arith, other))

    cases : (f < b → f ≤ last_forced_below p b) → (p.forced b ≡ true) ⊎ (p.forced b ≡ false) → f ≤ last_forced_below p (suc b)
    cases before (inl at_b) =
        let same : last_forced_below p (suc b) ≡ b = cond-true (p.forced b) b (last_forced_below p b) at_b in
        omega (arith, same)
    cases before (inr not_b) =
        let same : last_forced_below p (suc b) ≡ last_forced_below p b = cond-false (p.forced b) b (last_forced_below p b) not_b in
        omega (arith, same, lower before not_b (cases_eq f b))

pub since_below : (p : Problem) (b : ℕ) → 0 < b → last_forced_below p b < b
since_below p b some = cases (cases_lt 0 (last_forced_below p b))
  where
    cases : (0 < last_forced_below p b) ⊎ (last_forced_below p b ≤ 0) → last_forced_below p b < b
    cases (inl above) = (since_forced p b above).1
    cases (inr none) = omega arith

-- The last forced place before a later place is not earlier.
pub since_grows : (p : Problem) (b c : ℕ) → b ≤ c → last_forced_below p b ≤ last_forced_below p c
since_grows p b c before = cases (cases_lt 0 (last_forced_below p b))
  where
    cases : (0 < last_forced_below p b) ⊎ (last_forced_below p b ≤ 0) → last_forced_below p b ≤ last_forced_below p c
    cases (inl above) =
        let forced = since_forced p b above in
        forced_within p (last_forced_below p b) c (omega (arith, forced.1)) forced.0
    cases (inr none) = omega arith

-- A place that is not forced changes nothing for the next one.
pub since_free : (p : Problem) (b : ℕ) → p.forced b ≡ false → last_forced_below p (b + 1) ≡ last_forced_below p b
since_free p b free =
    let one : b + 1 ≡ suc b = omega arith in
    ap (last_forced_below p) one ∙ cond-false (p.forced b) b (last_forced_below p b) free
