-- A run of whole numbers, cut to those from 0 on.
use Rattle.std.proofs.Common.{◌≡◌, ℕ, ◌^◌, ◌<◌, ◌≤◌, ◌+ℤ◌, ◌-ℤ◌, not, ◌&&◌, ltb, leb, ℤ, pos, negsuc, refl, sym, ap, ◌∙◌, arith, inl, inr, ◌⊎◌}
use Rattle.std.specs.Prelude.{int_le, int_lt}
use Rattle.std.specs.Int.{w128, cast_signed, cast_unsigned}
use Rattle.std.proofs.lemmas.Int.{ints}
use Rattle.scaled_core.specs.Dimensions.{Within}
use Rattle.std.proofs.lemmas.Bool.{cases_lt, lt-ltb, le-ltb, le-leb, lt-leb}
use Rattle.raster_core.specs.Words.{is_between}
use Rattle.raster_core.specs.Pixels.{spans}

not_below : (a x : ℕ) → leb a x ≡ not (ltb x a)
not_below a x = go (cases_lt x a)
  where
    go : (x < a) ⊎ (a ≤ x) → leb a x ≡ not (ltb x a)
    go (inl h) = lt-leb a x h ∙ sym (ap not (lt-ltb x a h))
    go (inr h) = le-leb a x h ∙ sym (ap not (le-ltb x a h))

not_below_z : (z : ℤ) (x : ℕ) → int_le z (pos x) ≡ not (int_lt (pos x) z)
not_below_z (pos n) x = not_below n x
not_below_z (negsuc n) x = refl

pub run_is : (start end x : ℕ) (first last : ℤ) → ltb x start ≡ int_lt (pos x) first → ltb x end ≡ int_le (pos x) last → is_between start end x ≡ spans first last x
run_is start end x first last p q =
    ap (λ b. b && ltb x end) (not_below start x ∙ (ap not p ∙ sym (not_below_z first x))) ∙ ap (λ b. int_le first (pos x) && b) q

-- A number of 128 bits with a sign, as the code keeps it.
abbrev kept : ℤ → ℤ
kept z = cast_signed w128 (cast_unsigned w128 z)

pub columns_are : (x : ℕ) (z q : ℤ) (n m : ℕ) → Within (2 ^ 126) z → n ≤ 2 ^ 107 → z ≡ q → n ≡ m
    → spans (kept z) (kept (kept (kept z +ℤ cast_signed w128 n) -ℤ pos 1)) x ≡ spans q (q +ℤ pos m -ℤ pos 1) x
columns_are x z q n m within few e f =
    let low : kept z ≡ q = omega (arith, ints) in
    let high : kept (kept (kept z +ℤ cast_signed w128 n) -ℤ pos 1) ≡ q +ℤ pos m -ℤ pos 1 = omega (arith, ints) in
    ap (λ u. spans u (kept (kept (kept z +ℤ cast_signed w128 n) -ℤ pos 1)) x) low ∙ ap (λ u. spans q u x) high

pub rows_are : (y : ℕ) (z q : ℤ) (n m : ℕ) → Within (2 ^ 126) z → n ≤ 2 ^ 107 → z ≡ q → n ≡ m
    → spans (kept (kept (kept z -ℤ cast_signed w128 n) +ℤ pos 1)) (kept z) y ≡ spans (q -ℤ pos m +ℤ pos 1) q y
rows_are y z q n m within few e f =
    let low : kept (kept (kept z -ℤ cast_signed w128 n) +ℤ pos 1) ≡ q -ℤ pos m +ℤ pos 1 = omega (arith, ints) in
    let high : kept z ≡ q = omega (arith, ints) in
    ap (λ u. spans u (kept z) y) low ∙ ap (λ u. spans (q -ℤ pos m +ℤ pos 1) u y) high
