-- The cost of a line.
use Rattle.std.proofs.Common.{◌≡◌, ◌∙◌, zero, suc, ◌*◌, ◌≤◌, refl, ap, sym, arith}
use Rattle.std.specs.Prelude.{ℤ, pos, negsuc, neg_ℤ, ◌-ℤ◌, ◌*ℤ◌, ◌<ℤ◌, ◌≤ℤ◌}
use Rattle.std.proofs.lemmas.Int.{ints}
use Rattle.std.proofs.Math.Nat.{mul-le-mul}
use Rattle.std.proofs.Math.IntN.{pos-*ℤ-pos, negsuc-*ℤ-negsuc}
use Rattle.scaled_core.specs.Dimensions.{Within}
use Rattle.break_lines.specs.declared.sums.Sums.{Sums}
use Rattle.break_lines.specs.declared.cost.LineFit.{LineFit}
use Rattle.break_lines.specs.Costs.{fit_short, fit_long, fit_by, line_fit}

pub by_short : (sums : Sums) (s : ℤ) → pos 0 <ℤ s → fit_by sums s ≡ fit_short sums s
unfolding fit_by
by_short sums (pos (suc n)) h = refl
by_short sums (pos zero) h = absurd (omega (arith, ints))
by_short sums (negsuc n) h = absurd (omega (arith, ints))

pub by_long : (sums : Sums) (s t : ℤ) → s ≤ℤ pos 0 → t ≡ neg_ℤ s → fit_by sums s ≡ fit_long sums t
unfolding fit_by
by_long sums (pos (suc n)) t h is = absurd (omega (arith, ints))
by_long sums (pos zero) t h is = ap (fit_long sums) (sym is)
by_long sums (negsuc n) t h is = ap (fit_long sums) (sym is)

pub square_small : (z : ℤ) → Within 10000 z → Within 100000000 (z *ℤ z)
square_small (pos n) h =
    let low : n ≤ 10000 = omega (arith, ints, h.high) in
    let most : n * n ≤ 10000 * 10000 = mul-le-mul low low in
    let same = pos-*ℤ-pos n n in
    record { low = omega (arith, ints, same, most); high = omega (arith, ints, same, most) }
square_small (negsuc n) h =
    let low : suc n ≤ 10000 = omega (arith, ints, h.low) in
    let most : suc n * suc n ≤ 10000 * 10000 = mul-le-mul low low in
    let same = negsuc-*ℤ-negsuc n n in
    record { low = omega (arith, ints, same, most); high = omega (arith, ints, same, most) }

pub short_is :
    (sums : Sums) (size x : ℤ) (r : LineFit) → r ≡ fit_short sums x → x ≡ (size -ℤ sums.width) → pos 0 <ℤ x → r ≡ line_fit sums size
unfolding line_fit
short_is sums size x r is same some =
    is ∙ sym (by_short sums x some) ∙ ap (fit_by sums) same

pub long_is :
    (sums : Sums) (size x : ℤ) (r : LineFit)
    → r ≡ fit_long sums x → x ≡ neg_ℤ (size -ℤ sums.width) → (size -ℤ sums.width) ≤ℤ pos 0 → r ≡ line_fit sums size
unfolding line_fit
long_is sums size x r is same none = is ∙ sym (by_long sums (size -ℤ sums.width) x none same)
