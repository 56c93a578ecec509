-- The totals of a way: its overhang, its demerits, and the class of its last or of its next line, without the lines (own).
use Rattle.std.specs.Prelude.{◌*◌, ◌+◌, ◌^◌, ◌+ℤ◌, ◌-ℤ◌, ℕ}
pub use Rattle.scaled_core.specs.Dimensions.{Within}
use Rattle.node_core.specs.declared.params.Params.{Params}
use Rattle.break_lines.specs.declared.state.Fitness.{Fitness}
use Rattle.break_lines.specs.declared.state.LineCost.{LineCost}
use Rattle.break_lines.specs.Costs.{adjacent_demerits}
use Rattle.break_lines.specs.Problems.{max_places}
use Rattle.break_lines.specs.Tables.{Entry, max_overhang}

-- The totals are at most those of the greatest number of small lines, and the greatest demerits for a class; those of one more line are below 2 ^ 63.
pub record AreSmallTotals (totals : LineCost) : Type 0 where
  pub overhang : Within (max_overhang * max_places) totals.overhang
  pub demerits : Within (2 ^ 30 * max_places + 500000000) totals.demerits

-- The totals of the way to an entry, with the demerits for its class before a line of this class.
abbrev pub totals_before : Params → Entry → Fitness → LineCost
totals_before params e class =
    record { class = class; overhang = e.overhang; demerits = e.demerits +ℤ adjacent_demerits params e.end.class class }

-- The line by which these totals exceed those of an entry.
abbrev pub line_of_totals : Entry → (totals : LineCost) → LineCost
line_of_totals e totals =
    record { class = totals.class; overhang = totals.overhang -ℤ e.overhang; demerits = totals.demerits -ℤ e.demerits }

-- The entry for a place with these totals, after entry number `index`, if no lines are counted.
abbrev pub entry_with_totals : Entry → (index place : ℕ) → (totals : LineCost) → Entry
entry_with_totals e index place totals =
    record {
      end = record { place = place; lines = 0; class = totals.class };
      overhang = totals.overhang;
      demerits = totals.demerits;
      from = e.end;
      index = index;
    }
