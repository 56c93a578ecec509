-- The cost of a line: its badness, its class, its overhang and its demerits (TeX: The Program, part 38, §851 to §853 and §859).
use Rattle.std.specs.Prelude.{◌+◌, ◌+ℤ◌, ◌-ℤ◌, ◌*ℤ◌, neg_ℤ, ℕ, zero, suc, ℤ, pos, negsuc, Bool, true, false, not, ◌&&◌, ◌||◌, nat_lt, nat_le, int_lt}
use Rattle.std.specs.Prelude.{int_le, unsigned_abs, Option, Some, None, if◌then◌else◌}
use Rattle.scaled_core.specs.Badness.{badness_of}
use Rattle.pack_core.specs.Glue.{is_zero}
use Rattle.node_core.specs.declared.params.Params.{Params}
use Rattle.break_lines.specs.declared.state.Fitness.{Fitness}
use Rattle.break_lines.specs.declared.state.Fitness.TheVariants.{VeryLoose, Loose, Decent, Tight}
use Rattle.break_lines.specs.declared.state.LineCost.{LineCost}
use Rattle.break_lines.specs.Problems.{class_index}
use Rattle.break_lines.specs.declared.sums.Sums.{Sums}
use Rattle.break_lines.specs.declared.cost.LineFit.{LineFit}
use Rattle.break_lines.specs.declared.cost.Bound.{Bound}
use Rattle.break_lines.specs.declared.cost.Bound.TheVariants.{Any, AtMost}

-- The class of a stretched line, by its badness (TeX: The Program, part 38, §852).
unfoldable pub stretched_class : (badness : ℕ) → Fitness
stretched_class badness = if nat_lt 99 badness then VeryLoose else (if nat_lt 12 badness then Loose else Decent)

-- The class of a shrunk line, by its badness (TeX: The Program, part 38, §853).
unfoldable pub shrunk_class : (badness : ℕ) → Fitness
shrunk_class badness = if nat_lt 12 badness then Tight else Decent

-- Whether the total stretch of an infinite order is not 0.
unfoldable pub stretches_forever : Sums → Bool
stretches_forever sums = not (is_zero sums.fil) || (not (is_zero sums.fill) || not (is_zero sums.filll))

-- How a line is set that is too short by an amount above 0: stretch of an infinite order fills it.
unfoldable pub fit_short : Sums → (amount : ℤ) → LineFit
fit_short sums amount =
    if stretches_forever sums then record { overfull = false; badness = 0; class = Decent; overhang = pos 0 }
    else record {
      overfull = false;
      badness = badness_of amount sums.stretch;
      class = stretched_class (badness_of amount sums.stretch);
      overhang = pos 0;
    }

-- How a line is set that is too long by an amount, or fits: it is overfull if it cannot shrink by this amount, and is tight then; its overhang is the
-- rest (TeX: The Program, part 38, §853; own: the overhang, and the badness of an overfull line, which is 10001 in TeX).
unfoldable pub fit_long : Sums → (amount : ℤ) → LineFit
fit_long sums amount =
    if int_lt sums.shrink amount then record { overfull = true; badness = 10000; class = Tight; overhang = amount -ℤ sums.shrink }
    else record {
      overfull = false;
      badness = badness_of amount sums.shrink;
      class = shrunk_class (badness_of amount sums.shrink);
      overhang = pos 0;
    }

-- How a line is set whose items have these sums, by the amount that it is too short.
unfoldable pub fit_by : Sums → (shortfall : ℤ) → LineFit
fit_by sums (pos (suc n)) = fit_short sums (pos (suc n))
fit_by sums (pos zero) = fit_long sums (pos 0)
fit_by sums (negsuc n) = fit_long sums (pos (suc n))

-- How a line of this size is set whose items have these sums.
unfoldable pub line_fit : Sums → (size : ℤ) → LineFit
line_fit sums size = fit_by sums (size -ℤ sums.width)

-- The demerits of a line for its badness: the square of the sum of its badness and linepenalty, and 10 ^ 8 where this sum is 10000 or more
-- (TeX: The Program, part 38, §859).
unfoldable pub base_demerits : Params → (badness : ℕ) → ℤ
base_demerits params badness =
    if nat_le 10000 (unsigned_abs (params.line_penalty +ℤ pos badness)) then pos 100000000
    else (params.line_penalty +ℤ pos badness) *ℤ (params.line_penalty +ℤ pos badness)

-- The demerits of a break for its penalty: the square of the penalty, subtracted if the penalty is below 0, and none if the break is forced.
unfoldable pub penalty_demerits : (penalty : ℤ) → ℤ
penalty_demerits penalty =
    if int_lt (pos 0) penalty then penalty *ℤ penalty
    else (if int_lt (negsuc 9999) penalty then neg_ℤ (penalty *ℤ penalty) else pos 0)

-- Two classes that are visually incompatible: they differ by more than 1.
unfoldable pub is_apart : Fitness → Fitness → Bool
is_apart before class = nat_lt (class_index before + 1) (class_index class) || nat_lt (class_index class + 1) (class_index before)

-- The demerits for a line that is visually incompatible with the line before.
unfoldable pub adjacent_demerits : Params → (before class : Fitness) → ℤ
adjacent_demerits params before class = if is_apart before class then params.adj_demerits else pos 0

-- The demerits of a line after a line of some class, up to a break with some penalty.
unfoldable pub demerits_of : Params → (penalty : ℤ) → (before : Fitness) → LineFit → ℤ
demerits_of params penalty before line =
    (base_demerits params line.badness +ℤ penalty_demerits penalty) +ℤ adjacent_demerits params before line.class

-- Whether a bound admits a line: one that is not overfull and whose badness is at most a number, or every line (TeX: The Program, part 38, §851; own:
-- every line).
unfoldable pub admits : Bound → LineFit → Bool
admits Any line = true
admits (AtMost most) line = not line.overfull && int_le (pos line.badness) most

-- Whether lines of a class are stretched by more than a badness of 12 (own).
unfoldable pub is_loose : Fitness → Bool
is_loose VeryLoose = true
is_loose Loose = true
is_loose Decent = false
is_loose Tight = false

-- The badness above which all stretched lines cost the same for a bound: the bound, since none of them is admitted, and at most 9999, since all of
-- them have badness 10000 then (own).
unfoldable pub looseness_limit : Bound → ℤ
looseness_limit Any = pos 9999
looseness_limit (AtMost most) = if int_lt (pos 9999) most then pos 9999 else most

-- Whether a line is stretched, and its badness is above this limit (own: and above 12).
unfoldable pub is_loosest : Bound → LineFit → Bool
is_loosest bound line = is_loose line.class && int_lt (looseness_limit bound) (pos line.badness)

-- The line, if the bound admits it.
unfoldable pub admitted_line : Params → Bound → (penalty : ℤ) → (before : Fitness) → LineFit → Option LineCost
admitted_line params bound penalty before line =
    if admits bound line
    then Some (record { class = line.class; overhang = line.overhang; demerits = demerits_of params penalty before line })
    else None

-- The line without the demerits for the class of the line before it, if the bound admits it.
unfoldable pub line_alone : Params → Bound → (penalty : ℤ) → LineFit → Option LineCost
line_alone params bound penalty line =
    if admits bound line
    then Some (record { class = line.class; overhang = line.overhang; demerits = base_demerits params line.badness +ℤ penalty_demerits penalty })
    else None

-- The line after a line of some class, given the line without the demerits for that class.
abbrev pub line_after : Params → (before : Fitness) → LineCost → LineCost
line_after params before line =
    record { class = line.class; overhang = line.overhang; demerits = line.demerits +ℤ adjacent_demerits params before line.class }

-- The line after a line of some class, if it is admitted.
unfoldable pub after_class : Params → (before : Fitness) → Option LineCost → Option LineCost
after_class params before None = None
after_class params before (Some line) = Some (line_after params before line)
