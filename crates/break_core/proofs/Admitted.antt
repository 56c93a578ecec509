-- Lines that a pass admits, and lines after which places wait, by numbers.
use Rattle.std.proofs.Common.{◌≡◌, ◌∙◌, ℕ, ◌≤◌, Bool, true, false, not, cond, ◌&&◌, refl, ap, sym, arith, Option, Some, None}
use Rattle.std.specs.Prelude.{ℤ, pos, int_le, int_lt, ◌<ℤ◌, ◌+ℤ◌}
use Rattle.std.proofs.lemmas.Int.{ints}
use Rattle.node_core.specs.declared.params.Params.{Params}
use Rattle.break_lines.specs.declared.state.LineCost.{LineCost}
use Rattle.break_lines.specs.declared.cost.LineFit.{LineFit}
use Rattle.break_lines.specs.declared.cost.Bound.{Bound}
use Rattle.break_lines.specs.declared.cost.Bound.TheVariants.{Any, AtMost}
use Rattle.break_lines.specs.Costs.{admits, line_alone, base_demerits, penalty_demerits, is_loose, is_loosest, looseness_limit}
use Rattle.break_core.specs.Private.Active.{is_limit, most_admitted, wait_limit}

-- Whether an overfull line is admitted.
pub overfull_admitted : (bound : Bound) (line : LineFit) → line.overfull ≡ true → not (is_limit bound) ≡ admits bound line
unfolding admits
overfull_admitted Any line is = refl
overfull_admitted (AtMost most) line is = sym (ap (λ t. not t && int_le (pos line.badness) most) is)

-- Whether another line is admitted.
pub admitted_by :
    (bound : Bound) (line : LineFit) → line.badness ≤ 10000 → line.overfull ≡ false
    → int_le (pos line.badness) (most_admitted bound) ≡ admits bound line
unfolding admits
admitted_by Any line small is = at_most line.badness 10000 small
  where
    at_most : (n m : ℕ) → n ≤ m → int_le (pos n) (pos m) ≡ true
    at_most n m h = grind (arith, ints)
admitted_by (AtMost most) line small is = sym (ap (λ t. not t && int_le (pos line.badness) most) is)

abbrev alone : Params → (penalty : ℤ) → LineFit → LineCost
alone params penalty line =
    record { class = line.class; overhang = line.overhang; demerits = base_demerits params line.badness +ℤ penalty_demerits penalty }

-- A line that is admitted costs what it costs in a pass that admits every line.
pub alone_admitted :
    (params : Params) (bound : Bound) (penalty : ℤ) (line : LineFit) → admits bound line ≡ true
    → line_alone params Any penalty line ≡ line_alone params bound penalty line
unfolding line_alone admits
alone_admitted params bound penalty line is = sym (ap (λ t. cond {A = Option LineCost} t (Some (alone params penalty line)) None) is)

pub alone_refused :
    (params : Params) (bound : Bound) (penalty : ℤ) (line : LineFit) → admits bound line ≡ false → None ≡ line_alone params bound penalty line
unfolding line_alone
alone_refused params bound penalty line is = sym (ap (λ t. cond {A = Option LineCost} t (Some (alone params penalty line)) None) is)

-- A line with more badness than the limit is known only if places wait.
pub waits_above : (waits : Bool) (most : ℤ) (n : ℕ) → n ≤ 10000 → wait_limit waits most <ℤ pos n → waits ≡ true
waits_above true most n small above = refl
waits_above false most n small above = absurd (omega (arith, ints, small, above))

less : (x y : ℤ) → x <ℤ y → int_lt x y ≡ true
less x y h = grind (arith, ints)

limit_below :
    (waits : Bool) (bound : Bound) (n : ℕ) → n ≤ 10000 → wait_limit waits (most_admitted bound) <ℤ pos n
    → int_lt (looseness_limit bound) (pos n) ≡ true
unfolding looseness_limit
limit_below false bound n small above = absurd (omega (arith, ints, small, above))
limit_below true Any n small above = less (pos 9999) (pos n) above
limit_below true (AtMost most) n small above = less (wait_limit true most) (pos n) above

-- A stretched line with more badness than the limit is one of the loosest lines.
pub loosest_above :
    (waits : Bool) (bound : Bound) (line : LineFit) → line.badness ≤ 10000 → wait_limit waits (most_admitted bound) <ℤ pos line.badness
    → is_loose line.class ≡ true → is_loosest bound line ≡ true
unfolding is_loosest
loosest_above waits bound line small above loose =
    ap (λ t. t && int_lt (looseness_limit bound) (pos line.badness)) loose ∙ limit_below waits bound line.badness small above
