-- The facts about a paragraph that a breaker needs, those of a list, and why a list is refused (TeX: The Program, part 38, §825; own: at most 8,192
-- places).
use Rattle.std.specs.Prelude.{◌-◌, ℕ, zero, suc, ℤ, List, length, get_or, slice_get, nat_lt, Option, Some, None, if◌then◌else◌}
use Rattle.std.specs.List.{list_any}
use Rattle.node_core.specs.declared.tree.Node.{Node}
use Rattle.node_core.specs.Classes.{shrinks_infinitely}
use Rattle.break_lines.specs.Problems.{max_places}
use Rattle.break_lines.specs.declared.sums.Sums.{Sums}
use Rattle.break_lines.specs.declared.fault.BreakFault.{BreakFault}
use Rattle.break_lines.specs.declared.fault.BreakFault.TheVariants as faults
use Rattle.break_lines.specs.Legal.{legal_places, penalty_of}
use Rattle.break_lines.specs.LineItems.{kept_items, sums_of}

-- The facts about a paragraph: its legal places are numbered from 1, and 0 is its start.
pub record Facts : Type 0 where
  -- The number of legal places.
  pub places : ℕ
  -- The position of a place in the list.
  pub position : ℕ → ℕ
  -- The penalty of a break at a place.
  pub penalty : ℕ → ℤ
  -- The sums over the items of the line from a place to another one.
  pub sums : (from to : ℕ) → Sums

-- The position of a place in a list; for the start, which has no position, it is that of the first place.
unfoldable pub position_of : List Node → ℕ → ℕ
position_of list place = get_or (legal_places list) (place - 1) 0

-- The place at which a line begins, or none for the start of the list.
abbrev pub begins_at : List Node → ℕ → Option ℕ
begins_at list zero = None
begins_at list (suc n) = Some (position_of list (suc n))

-- The facts about a list.
abbrev pub facts_of : List Node → Facts
facts_of list =
    record {
      places = length (legal_places list);
      position = position_of list;
      penalty = λ place. penalty_of (slice_get list (position_of list place));
      sums = λ from to. sums_of (kept_items list (begins_at list from) (position_of list to));
    }

-- Why a list is refused: it has glue that shrinks in an infinite order, or otherwise too many legal places.
abbrev pub refusal : List Node → Option BreakFault
refusal list =
    if list_any shrinks_infinitely list then Some faults.InfiniteShrink
    else (if nat_lt max_places (length (legal_places list)) then Some faults.TooManyBreaks else None)
