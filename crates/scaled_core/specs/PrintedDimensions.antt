-- The printed texts of dimensions (TeX: The Program, part 7, §103, print_scaled).
use Rattle.std.specs.Prelude.{◌==◌, ℕ, ℤ, pos, negsuc, if◌then◌else◌, nat_lt, nat_le, ◌+◌, ◌-◌, ◌*◌, ◌/◌, ◌%◌, ◌^◌, zero, suc, Bool, List, [], ◌∷◌}
use Rattle.std.specs.Prelude.{◌++◌, codes, unwrap_or, decimal}
use Rattle.std.specs.List.{find}
use Rattle.scaled_core.specs.Rounding.{nearest}

-- The last `count` digits of n (own).
abbrev pub last_digits : ℕ → ℕ → List ℕ
last_digits zero n = []
last_digits (suc count) n = last_digits count (n / 10) ++ (48 + n % 10) ∷ []

-- The decimal with this number of places nearest to f / 65536, halves upward, as a number of units of its last place (own).
unfoldable pub nearest_decimal : ℕ → ℕ → ℕ
nearest_decimal f places = nearest (f * 10 ^ places) 65536

-- Whether the decimal with this number of places nearest to f / 65536 reads back as f (own).
unfoldable pub reads_back : ℕ → ℕ → Bool
reads_back f places = nearest (nearest_decimal f places * 65536) (10 ^ places) == f

-- The least number of places, from 1 on, with which f reads back; 5 places always do (TeX: The Program, part 7, §103, print_scaled).
unfoldable pub fraction_places : ℕ → ℕ
fraction_places f = unwrap_or (find (reads_back f) (1 ∷ 2 ∷ 3 ∷ 4 ∷ [])) 5

-- The digits after the point of f 65536ths: the nearest decimal with the fewest places that reads back (TeX: The Program, part 7, §103,
-- print_scaled).
unfoldable pub shortest_fraction : ℕ → List ℕ
shortest_fraction f = last_digits (fraction_places f) (nearest_decimal f (fraction_places f))

-- The text of n scaled points, in points and without the unit (TeX: The Program, part 7, §103, print_scaled).
unfoldable pub size_text : ℕ → List ℕ
size_text n = decimal (n / 65536) ++ (codes "." ++ shortest_fraction (n % 65536))

-- The printed text of a dimension, in points and without the unit (TeX: The Program, part 7, §103, print_scaled).
unfoldable pub dimension_text : ℤ → List ℕ
dimension_text (pos n) = size_text n
dimension_text (negsuc n) = codes "-" ++ size_text (suc n)

-- TeX's own loop for the digits after the point, cut off after a number of turns, from the remainder s and the unit delta. The law
-- `print_scaled_digits` says that five turns are enough, and that its digits are those of `shortest_fraction` (TeX: The Program, part 7, §103,
-- print_scaled).
unfoldable pub print_scaled : ℕ → ℕ → ℕ → List ℕ
print_scaled zero s delta = []
print_scaled (suc turns) s delta =
    let left = if nat_lt 65536 delta then s + 32768 - 50000 else s in
    let next = 10 * (left % 65536) in
    (48 + left / 65536) ∷ (if nat_le next (10 * delta) then [] else print_scaled turns next (10 * delta))
