-- Bounds for the badness and the overhang of a line.
use Rattle.std.proofs.Common.{◌≡◌, ℕ, zero, suc, ◌*◌, ◌<◌, ◌≤◌, true, false, refl, sym, subst, arith}
use Rattle.std.specs.Prelude.{ℤ, pos, negsuc, ◌-ℤ◌, ◌<ℤ◌, ◌≤ℤ◌, int_lt}
use Rattle.std.proofs.Math.Logic.{◌⊎◌, inl, inr}
use Rattle.std.proofs.Math.Nat.{mul-le-mul}
use Rattle.std.proofs.lemmas.Int.{ints}
use Rattle.std.proofs.lemmas.Bool.{cases_Bool, cases_lt, cond-true, cond-false}
use Rattle.scaled_core.specs.Badness.{IsBadness, IsRatioBadness, badness_of, badness_ratio}
use Rattle.scaled_core.proofs.BadnessLaws.{badness_of-is}
use Rattle.break_lines.specs.declared.state.Fitness.{Fitness}
use Rattle.break_lines.specs.declared.state.Fitness.TheVariants.{Decent, Tight}
use Rattle.break_lines.specs.declared.sums.Sums.{Sums}
use Rattle.break_lines.specs.declared.cost.LineFit.{LineFit}
use Rattle.break_lines.specs.Costs.{stretches_forever, stretched_class, shrunk_class, fit_short, fit_long, fit_by, line_fit}

cube_small : (r : ℕ) → r ≤ 1290 → r * r * r ≤ 1290 * 1290 * 1290
cube_small r low = mul-le-mul (mul-le-mul low low) low

pub ratio_most : (r b : ℕ) → IsRatioBadness r b → b ≤ 10000
ratio_most r b is = cases (cases_lt 1290 r)
  where
    cases : (1290 < r) ⊎ (r ≤ 1290) → b ≤ 10000
    cases (inl large) = omega (arith, is.large large)
    cases (inr small) =
        let near = is.cube small in
        omega (arith, cube_small r small, near)

-- Badness is at most 10000.
pub badness_most : (t s : ℤ) → pos 0 ≤ℤ t → badness_of t s ≤ 10000
badness_most t s at_least = cases t s (badness_of-is t s at_least) at_least
  where
    cases : (t s : ℤ) → IsBadness t s (badness_of t s) → pos 0 ≤ℤ t → badness_of t s ≤ 10000
    cases (pos zero) s is h = omega (arith, is.none refl)
    cases (pos (suc m)) (pos zero) is h = omega (arith, is.rigid (omega (arith, ints)) (omega (arith, ints)))
    cases (pos (suc m)) (pos (suc n)) is h =
        ratio_most (badness_ratio (suc m) (suc n)) (badness_of (pos (suc m)) (pos (suc n))) (is.elastic (omega (arith, ints)) (omega (arith, ints)))
    cases (pos (suc m)) (negsuc n) is h = omega (arith, is.rigid (omega (arith, ints)) (omega (arith, ints)))
    cases (negsuc m) s is h = absurd (omega (arith, ints))

-- The badness of a line is bounded, and it has an overhang exactly when it is overfull.
record IsModest (line : LineFit) : Type 0 where
  badness : line.badness ≤ 10000
  over : line.overfull ≡ true → pos 0 <ℤ line.overhang
  within : line.overfull ≡ false → line.overhang ≡ pos 0

-- A line that is not overfull.
abbrev set_line : (badness : ℕ) → Fitness → LineFit
set_line badness class = record { overfull = false; badness = badness; class = class; overhang = pos 0 }

-- A line that is overfull.
abbrev overfull_line : (overhang : ℤ) → LineFit
overfull_line overhang = record { overfull = true; badness = 10000; class = Tight; overhang = overhang }

set_modest : (badness : ℕ) (class : Fitness) → badness ≤ 10000 → IsModest (set_line badness class)
set_modest badness class most = record { badness = most; over = λ is. absurd (cc); within = λ is. refl }

overfull_modest : (overhang : ℤ) → pos 0 <ℤ overhang → IsModest (overfull_line overhang)
overfull_modest overhang some = record { badness = omega arith; over = λ is. some; within = λ is. absurd (cc) }

short_modest : (sums : Sums) (amount : ℤ) → pos 0 ≤ℤ amount → IsModest (fit_short sums amount)
unfolding fit_short
short_modest sums amount some = cases (cases_Bool (stretches_forever sums))
  where
    b : ℕ
    b = badness_of amount sums.stretch

    cases : (stretches_forever sums ≡ true) ⊎ (stretches_forever sums ≡ false) → IsModest (fit_short sums amount)
    cases (inl is) =
        subst IsModest (sym (cond-true (stretches_forever sums) (set_line 0 Decent) (set_line b (stretched_class b)) is)) (set_modest 0 Decent (omega arith))
    cases (inr is) =
        subst IsModest (sym (cond-false (stretches_forever sums) (set_line 0 Decent) (set_line b (stretched_class b)) is))
        (set_modest b (stretched_class b) (badness_most amount sums.stretch some))

long_modest : (sums : Sums) (amount : ℤ) → pos 0 ≤ℤ amount → IsModest (fit_long sums amount)
unfolding fit_long
long_modest sums amount some = cases (cases_Bool (int_lt sums.shrink amount))
  where
    b : ℕ
    b = badness_of amount sums.shrink

    over : LineFit
    over = overfull_line (amount -ℤ sums.shrink)

    cases : (int_lt sums.shrink amount ≡ true) ⊎ (int_lt sums.shrink amount ≡ false) → IsModest (fit_long sums amount)
    cases (inl is) =
        let less : sums.shrink <ℤ amount = grind (arith, ints) in
        subst IsModest (sym (cond-true (int_lt sums.shrink amount) over (set_line b (shrunk_class b)) is))
        (overfull_modest (amount -ℤ sums.shrink) (omega (arith, ints, less)))
    cases (inr is) =
        subst IsModest (sym (cond-false (int_lt sums.shrink amount) over (set_line b (shrunk_class b)) is))
        (set_modest b (shrunk_class b) (badness_most amount sums.shrink some))

by_modest : (sums : Sums) (shortfall : ℤ) → IsModest (fit_by sums shortfall)
unfolding fit_by
by_modest sums (pos (suc n)) = short_modest sums (pos (suc n)) (omega (arith, ints))
by_modest sums (pos zero) = long_modest sums (pos 0) (omega (arith, ints))
by_modest sums (negsuc n) = long_modest sums (pos (suc n)) (omega (arith, ints))

modest : (sums : Sums) (size : ℤ) → IsModest (line_fit sums size)
unfolding line_fit
modest sums size = by_modest sums (size -ℤ sums.width)

pub fit_most : (sums : Sums) (size : ℤ) → (line_fit sums size).badness ≤ 10000
fit_most sums size = (modest sums size).badness

pub hangs_over : (sums : Sums) (size : ℤ) → (line_fit sums size).overfull ≡ true → pos 0 <ℤ (line_fit sums size).overhang
hangs_over sums size = (modest sums size).over

pub hangs_not : (sums : Sums) (size : ℤ) → (line_fit sums size).overfull ≡ false → (line_fit sums size).overhang ≡ pos 0
hangs_not sums size = (modest sums size).within
