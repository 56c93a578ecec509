-- The measures of a walk over a horizontal list (own; only private calls use it).
use Rattle.std.specs.Prelude.{◌*◌, ◌^◌, ◌≤ℤ◌, ℕ, pos}
use Rattle.scaled_core.specs.Dimensions.{Within}
use Rattle.pack_core.specs.declared.across.Across.{Across}
use Rattle.pack_core.specs.Orders.{AreWithin}

-- After n items of a horizontal list, the sums and the greatest sizes are small.
pub record HasPassed (n : ℕ) (across : Across) : Type 0 where
  pub width : Within (2 ^ 31 * n) across.width
  pub high : pos 0 ≤ℤ across.height
  pub height : Within (2 ^ 31) across.height
  pub deep : pos 0 ≤ℤ across.depth
  pub depth : Within (2 ^ 31) across.depth
  pub stretch : AreWithin (2 ^ 31 * n) across.stretch
  pub shrink : AreWithin (2 ^ 31 * n) across.shrink
