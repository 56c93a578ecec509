-- TeX's loop prints the digits of the shortest decimal that reads back.
use Rattle.std.proofs.Common.{append_assoc, ◌≡◌, ℕ, ◌+◌, ◌-◌, ◌*◌, ◌/◌, ◌%◌, ◌<◌, ◌≤◌, zero, suc, cond, leb, List, [], ◌∷◌, ◌++◌, ⊎_elim, sym, ◌∙◌, ap, refl, arith}
use Rattle.std.proofs.lemmas.Bool.{cases_lt, le-leb, lt-leb}
use Rattle.scaled_core.specs.PrintedDimensions.{last_digits, print_scaled, shortest_fraction}
use Rattle.scaled_core.proofs.PrintingLemmas.{IsPrinting, begins, goes, goes-digits, left, spread, stops}

-- The digits that a turn and the turns after it print, from the remainder.
abbrev turn_of : ℕ → ℕ → ℕ → List ℕ
turn_of turns delta now = (48 + now / 65536) ∷ cond (leb (10 * (now % 65536)) (delta * 10)) [] (print_scaled turns (10 * (now % 65536)) (delta * 10))

print_scaled-turn : (turns s delta : ℕ) → print_scaled (suc turns) s delta ≡ turn_of turns delta (left s delta)
unfolding print_scaled
print_scaled-turn turns s delta =
    let rounding : s + 32768 - 50000 ≡ s - 17232 = omega arith in
    let unit : 10 * delta ≡ delta * 10 = omega arith in
    rw (rounding, unit) refl

turn_stops : (turns delta now : ℕ) → 10 * (now % 65536) ≤ delta * 10 → turn_of turns delta now ≡ (48 + now / 65536) ∷ []
turn_stops turns delta now h = rw (le-leb (10 * (now % 65536)) (delta * 10) h) refl

turn_goes : (turns delta now : ℕ) → delta * 10 < 10 * (now % 65536) → turn_of turns delta now ≡ (48 + now / 65536) ∷ print_scaled turns (10 * (now % 65536)) (delta * 10)
turn_goes turns delta now h = rw (lt-leb (10 * (now % 65536)) (delta * 10) h) refl

-- The last turn.
print_scaled-stops : (turns s delta : ℕ) → 10 * (left s delta % 65536) ≤ delta * 10 → print_scaled (suc turns) s delta ≡ (48 + left s delta / 65536) ∷ []
print_scaled-stops turns s delta h = print_scaled-turn turns s delta ∙ turn_stops turns delta (left s delta) h

-- Every other turn.
print_scaled-goes : (turns s delta : ℕ) → delta * 10 < 10 * (left s delta % 65536) → print_scaled (suc turns) s delta ≡ (48 + left s delta / 65536) ∷ print_scaled turns (10 * (left s delta % 65536)) (delta * 10)
print_scaled-goes turns s delta h = print_scaled-turn turns s delta ∙ turn_goes turns delta (left s delta) h

-- The rest of the digits, from any turn on.
print_scaled-rest : (turns f places s delta : ℕ) → f < 65536 → 5 ≤ turns + places → IsPrinting f places s delta → last_digits places (spread places f / 655360) ++ print_scaled turns s delta ≡ shortest_fraction f
print_scaled-rest zero f places s delta small e p = absurd (omega (arith, p.short))
print_scaled-rest (suc turns) f places s delta small e p = ⊎_elim
    (λ (go : delta * 10 < 10 * (left s delta % 65536)).
    ap (λ (xs : List ℕ). last_digits places (spread places f / 655360) ++ xs) (print_scaled-goes turns s delta go)
    ∙ sym (append_assoc (last_digits places (spread places f / 655360)) ((48 + left s delta / 65536) ∷ []) (print_scaled turns (10 * (left s delta % 65536)) (delta * 10)))
    ∙ ap (λ (xs : List ℕ). xs ++ print_scaled turns (10 * (left s delta % 65536)) (delta * 10)) (goes-digits f places s delta p go)
    ∙ print_scaled-rest turns f (places + 1) (10 * (left s delta % 65536)) (delta * 10) small (omega arith) (goes f places s delta p go))
    (λ (stop : 10 * (left s delta % 65536) ≤ delta * 10).
    ap (λ (xs : List ℕ). last_digits places (spread places f / 655360) ++ xs) (print_scaled-stops turns s delta stop) ∙ stops f places s delta small p stop)
    (cases_lt (delta * 10) (10 * (left s delta % 65536)))

-- TeX's digits are those of the shortest decimal that reads back.
pub print_scaled-shortest : (turns f : ℕ) → 5 ≤ turns → f < 65536 → print_scaled turns (10 * f + 5) 10 ≡ shortest_fraction f
print_scaled-shortest turns f enough small = print_scaled-rest turns f 0 (10 * f + 5) 10 small (omega arith) (begins f small)
