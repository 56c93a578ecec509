-- The rest of `ListTotals`, which no public contract reaches (TeX: The Program, part 33, §649 to §656 and §669 to §671; own: of any size).
use Rattle.std.specs.Prelude.{◌*◌, ◌^◌, ◌<◌, ℕ, ℤ}
use Rattle.scaled_core.specs.Dimensions.{Within}
use Rattle.pack_core.specs.Orders.{AreWithin}
use Rattle.pack_core.specs.declared.orders.OrderAmounts.{OrderAmounts}

-- The sums of this number of items are small.
pub record AreSmall (passed : ℕ) (advance : ℤ) (stretch shrink : OrderAmounts) : Type 0 where
  pub moves : Within (2 ^ 31 * passed) advance
  pub stretches : AreWithin (2 ^ 31 * passed) stretch
  pub shrinks : AreWithin (2 ^ 31 * passed) shrink
  pub few : passed < 2 ^ 64
