-- Sums over at most as many items as a list has are small.
use Rattle.std.proofs.Common.{◌≡◌, ℕ, ◌^◌, ◌≤◌, to_z, of_z, w64, arith}
use Rattle.std.specs.Prelude.{ℤ, ◌-ℤ◌}
use Rattle.std.proofs.lemmas.Int.{ints}
use Rattle.scaled_core.specs.Dimensions.{Within}
use Rattle.node_core.specs.Nodes.{max_nodes}
use Rattle.break_lines.specs.declared.sums.Sums.{Sums}
use Rattle.break_lines.specs.Private.Marks.{no_sums}
use Rattle.break_lines.specs.LineItems.{IsSmallSums}
use Rattle.break_lines.specs.Private.SmallMarks.{IsPrefix}

-- Sums over few items are small enough for sums over the greatest number of items.
pub wide : (n : ℕ) (s : Sums) → n ≤ max_nodes → IsPrefix n s → IsPrefix max_nodes s
wide n s few is = record {
  width = record { low = omega (arith, ints, few, is.width); high = omega (arith, ints, few, is.width) };
  stretch = record { low = omega (arith, ints, few, is.stretch); high = omega (arith, ints, few, is.stretch) };
  fil = record { low = omega (arith, ints, few, is.fil); high = omega (arith, ints, few, is.fil) };
  fill = record { low = omega (arith, ints, few, is.fill); high = omega (arith, ints, few, is.fill) };
  filll = record { low = omega (arith, ints, few, is.filll); high = omega (arith, ints, few, is.filll) };
  shrink = record { low = omega (arith, ints, few, is.shrink); high = omega (arith, ints, few, is.shrink) };
}

pub none : (n : ℕ) → IsPrefix n no_sums
none n = record {
  width = record { low = omega (arith, ints); high = omega (arith, ints) };
  stretch = record { low = omega (arith, ints); high = omega (arith, ints) };
  fil = record { low = omega (arith, ints); high = omega (arith, ints) };
  fill = record { low = omega (arith, ints); high = omega (arith, ints) };
  filll = record { low = omega (arith, ints); high = omega (arith, ints) };
  shrink = record { low = omega (arith, ints); high = omega (arith, ints) };
}

-- Sums over the items of a list are small.
pub small_prefix : (s : Sums) → IsPrefix max_nodes s → IsSmallSums s
small_prefix s is = record {
  width = record { low = omega (arith, ints, is.width); high = omega (arith, ints, is.width) };
  stretch = record { low = omega (arith, ints, is.stretch); high = omega (arith, ints, is.stretch) };
  shrink = record { low = omega (arith, ints, is.shrink); high = omega (arith, ints, is.shrink) };
}

-- A difference of small numbers fits.
pub cast_minus :
    (n : ℕ) (x y : ℤ) → n ≤ 2 ^ 48 → Within n x → Within n y
    → to_z w64 (of_z w64 (to_z w64 (of_z w64 x) -ℤ to_z w64 (of_z w64 y))) ≡ x -ℤ y
cast_minus n x y few a b = omega (arith, ints)
