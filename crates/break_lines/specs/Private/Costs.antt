-- The rest of `Costs`, which no public contract reaches (TeX: The Program, part 38, §851 to §853 and §859).
use Rattle.std.specs.Prelude.{pos, false}
use Rattle.break_lines.specs.declared.state.Fitness.TheVariants.{VeryLoose}
use Rattle.break_lines.specs.declared.cost.LineFit.{LineFit}

-- A line that is stretched as badly as can be (own).
abbrev pub loosest_line : LineFit
loosest_line = record { overfull = false; badness = 10000; class = VeryLoose; overhang = pos 0 }
