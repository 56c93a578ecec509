-- The units of dimension texts (TeX: The Program, part 26, §453 and §458, scan_dimen).
use Rattle.std.specs.Prelude.{ℕ, ◌+◌, ◌*◌, ◌/◌, List, codes}
use Rattle.scaled_core.specs.declared.units.LengthUnit.{LengthUnit}
use Rattle.scaled_core.specs.declared.units.LengthUnit.TheVariants.{Point, Inch, Pica, Centimeter, Millimeter, BigPoint, DidotPoint, Cicero}
use Rattle.scaled_core.specs.declared.units.LengthUnit.TheVariants.{ScaledPoint}

-- How a unit is written (TeX: The Program, part 26, §453 and §458).
abbrev pub unit_text : LengthUnit → List ℕ
unit_text Point = codes "pt"
unit_text Inch = codes "in"
unit_text Pica = codes "pc"
unit_text Centimeter = codes "cm"
unit_text Millimeter = codes "mm"
unit_text BigPoint = codes "bp"
unit_text DidotPoint = codes "dd"
unit_text Cicero = codes "cc"
unit_text ScaledPoint = codes "sp"

-- The size of n + f / 65536 units of num / den points each, in scaled points, rounded down (TeX: The Program, part 26, §458).
unfoldable pub of_points : ℕ → ℕ → ℕ → ℕ → ℕ
of_points n f num den = (65536 * n + f) * num / den

-- The size of n + f / 65536 units in scaled points, rounded down; for the unit sp the fraction is dropped (TeX: The Program, part 26, §453 and §458).
abbrev pub scaled_points : LengthUnit → ℕ → ℕ → ℕ
scaled_points Point n f = of_points n f 1 1
scaled_points Inch n f = of_points n f 7227 100
scaled_points Pica n f = of_points n f 12 1
scaled_points Centimeter n f = of_points n f 7227 254
scaled_points Millimeter n f = of_points n f 7227 2540
scaled_points BigPoint n f = of_points n f 7227 7200
scaled_points DidotPoint n f = of_points n f 1238 1157
scaled_points Cicero n f = of_points n f 14856 1157
scaled_points ScaledPoint n f = n
