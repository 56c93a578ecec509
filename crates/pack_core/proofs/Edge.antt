-- A list whose glue is set, and which is not overfull, fills its box exactly.
use Rattle.std.proofs.Common.{◌≡◌, ◌≢◌, ◌∙◌, ℕ, ℤ, pos, negsuc, zero, suc, neg_ℤ, ◌+◌, ◌*◌, ◌<◌, List, [], ◌∷◌, Bool, true, false, refl, sym, ap, arith}
use Rattle.std.specs.Prelude.{◌+ℤ◌, ◌*ℤ◌, Option, Some, None, if◌then◌else◌}
use Rattle.std.proofs.Math.IntN.{pos-*ℤ-pos, pos-*ℤ-negsuc, negsuc-*ℤ-pos, negsuc-*ℤ-negsuc, zero-*ℤ}
use Rattle.std.proofs.lemmas.Int.{ints}
use Rattle.node_core.specs.declared.tree.Kind.{Kind}
use Rattle.node_core.specs.declared.tree.Node.{Node}
use Rattle.node_core.specs.declared.tree.Order.{Order}
use Rattle.node_core.specs.declared.tree.Order.TheVariants.{Normal, Fil, Fill, Filll}
use Rattle.node_core.specs.declared.tree.Setting.TheVariants.{Natural, Shrink}
use Rattle.scaled_core.specs.Fractions.{Fraction, round_times}
use Rattle.scaled_core.specs.Rounding.{nearest, rounded}
use Rattle.scaled_core.proofs.RoundingLaws.{nearest-only}
use Rattle.pack_core.specs.Items.{advance, shrink_in}
use Rattle.pack_core.specs.Totals.{total}
use Rattle.pack_core.specs.Glue.{is_zero, highest, fraction, stretched_setting, is_short, shrunk_setting, stretch_totals, shrink_totals, setting_of, setting_badness, shrink_badness}
use Rattle.pack_core.specs.Places.{share, place}

-- The rounded quotient of a multiple is exact.
nearest-exact : (a d : ℕ) → 0 < d → nearest (a * d) d ≡ a
nearest-exact a d positive = sym (nearest-only (a * d) d a positive (record { low = omega arith; high = omega arith }))

rounded-neg : (k d : ℕ) → 0 < d → rounded (neg_ℤ (pos (suc k))) d ≡ neg_ℤ (pos (nearest (suc k) d))
unfolding rounded
rounded-neg k d positive = refl

rounded-exact : (a : ℤ) (d : ℕ) → rounded (a *ℤ pos (suc d)) (suc d) ≡ a
unfolding rounded
rounded-exact (pos m) d = ap (λ (z : ℤ). rounded z (suc d)) (pos-*ℤ-pos m (suc d)) ∙ ap pos (nearest-exact m (suc d) (omega arith))
rounded-exact (negsuc m) d =
    let positive : suc m * suc d ≡ suc (m * suc d + d) = omega arith in
    let e : rounded (neg_ℤ (pos (suc m * suc d))) (suc d) ≡ neg_ℤ (pos (nearest (suc m * suc d) (suc d))) =
    rw positive (rounded-neg (m * suc d + d) (suc d) (omega arith)) in
    ap (λ (z : ℤ). rounded z (suc d)) (negsuc-*ℤ-pos m (suc d)) ∙ e ∙ ap (λ (k : ℕ). neg_ℤ (pos k)) (nearest-exact (suc m) (suc d) (omega arith))

neg-times : (a : ℤ) (n : ℕ) → neg_ℤ a *ℤ negsuc n ≡ a *ℤ pos (suc n)
neg-times (pos zero) n = zero-*ℤ (negsuc n) ∙ sym (zero-*ℤ (pos (suc n)))
neg-times (pos (suc m)) n = negsuc-*ℤ-negsuc m n ∙ sym (pos-*ℤ-pos (suc m) (suc n))
neg-times (negsuc m) n = pos-*ℤ-negsuc (suc m) n ∙ sym (negsuc-*ℤ-pos m (suc n))

times-neg : (a : ℤ) (n : ℕ) → a *ℤ negsuc n ≡ neg_ℤ a *ℤ pos (suc n)
times-neg (pos zero) n = zero-*ℤ (negsuc n) ∙ sym (zero-*ℤ (pos (suc n)))
times-neg (pos (suc m)) n = pos-*ℤ-negsuc (suc m) n ∙ sym (negsuc-*ℤ-pos m (suc n))
times-neg (negsuc m) n = negsuc-*ℤ-negsuc m n ∙ sym (pos-*ℤ-pos (suc m) (suc n))

-- The whole total is set by the whole amount.
stretch-back : (amount whole : ℤ) → whole ≢ pos 0 → round_times (fraction amount whole) whole ≡ amount
unfolding round_times
stretch-back amount (pos zero) not_zero = absurd (not_zero refl)
stretch-back amount (pos (suc n)) not_zero = rounded-exact amount n
stretch-back amount (negsuc n) not_zero =
    ap (λ (z : ℤ). rounded z (suc n)) (neg-times amount n) ∙ rounded-exact amount n

shrink-back : (amount whole : ℤ) → whole ≢ pos 0 → round_times (fraction amount whole) (neg_ℤ whole) ≡ neg_ℤ amount
unfolding round_times
shrink-back amount (pos zero) not_zero = absurd (not_zero refl)
shrink-back amount (pos (suc n)) not_zero = ap (λ (z : ℤ). rounded z (suc n)) (times-neg amount n) ∙ rounded-exact (neg_ℤ amount) n
shrink-back amount (negsuc n) not_zero = rounded-exact (neg_ℤ amount) n

-- The share of glue that shrinks is negative.
share-shrink : (order : Order) (ratio : Fraction) (nodes : List Node) → total (share (Shrink order ratio)) nodes ≡ neg_ℤ (total (shrink_in order) nodes)
share-shrink order ratio [] = refl
share-shrink order ratio (x ∷ xs) = omega (arith, ints, share-shrink order ratio xs)

-- The highest order has a total that is not 0.
pub is_zero-false : (z : ℤ) → is_zero z ≡ false → z ≢ pos 0
is_zero-false (pos zero) e = λ _. absurd (cc)
is_zero-false (pos (suc n)) e = λ (h : pos (suc n) ≡ pos 0). absurd (omega (arith, ints))
is_zero-false (negsuc n) e = λ (h : negsuc n ≡ pos 0). absurd (omega (arith, ints))

pub is_zero-true : (z : ℤ) → is_zero z ≡ true → z ≡ pos 0
is_zero-true (pos zero) e = refl
is_zero-true (pos (suc n)) e = absurd (cc)
is_zero-true (negsuc n) e = absurd (cc)

highest-pick :
    (totals : Order → ℤ) (order : Order) (a b c d : Bool)
    → is_zero (totals Filll) ≡ a → is_zero (totals Fill) ≡ b → is_zero (totals Fil) ≡ c → is_zero (totals Normal) ≡ d
    → (if a then (if b then (if c then (if d then None else Some Normal) else Some Fil) else Some Fill) else Some Filll) ≡ Some order
    → totals order ≢ pos 0
highest-pick totals order false b c d filll fill fil normal e = let same : Filll ≡ order = cc in rw (← same) (is_zero-false (totals Filll) filll)
highest-pick totals order true false c d filll fill fil normal e = let same : Fill ≡ order = cc in rw (← same) (is_zero-false (totals Fill) fill)
highest-pick totals order true true false d filll fill fil normal e = let same : Fil ≡ order = cc in rw (← same) (is_zero-false (totals Fil) fil)
highest-pick totals order true true true false filll fill fil normal e = let same : Normal ≡ order = cc in rw (← same) (is_zero-false (totals Normal) normal)
highest-pick totals order true true true true filll fill fil normal e = absurd (cc)

pub highest-total : (totals : Order → ℤ) (order : Order) → highest totals ≡ Some order → totals order ≢ pos 0
unfolding highest
highest-total totals order e =
    highest-pick totals order (is_zero (totals Filll)) (is_zero (totals Fill)) (is_zero (totals Fil)) (is_zero (totals Normal)) refl refl refl refl e

stretch-fills :
    (kind : Kind) (nodes : List Node) (amount : ℤ) (found : Option Order)
    → highest (stretch_totals nodes) ≡ found
    → stretched_setting amount (stretch_totals nodes) found ≢ Natural
    → place kind (stretched_setting amount (stretch_totals nodes) found) nodes ≡ total (advance kind) nodes +ℤ amount
unfolding place
stretch-fills kind nodes amount None e set = absurd (set refl)
stretch-fills kind nodes amount (Some order) e set =
    ap (λ (z : ℤ). total (advance kind) nodes +ℤ z) (stretch-back amount (stretch_totals nodes order) (highest-total (stretch_totals nodes) order e))

shrink-fills-by :
    (kind : Kind) (nodes : List Node) (amount : ℤ) (order : Order)
    → highest (shrink_totals nodes) ≡ Some order
    → place kind (Shrink order (fraction amount (shrink_totals nodes order))) nodes ≡ total (advance kind) nodes +ℤ neg_ℤ amount
unfolding place
shrink-fills-by kind nodes amount order e =
    let ratio : Fraction = fraction amount (shrink_totals nodes order) in
    ap (λ (z : ℤ). total (advance kind) nodes +ℤ round_times ratio z) (share-shrink order ratio nodes)
    ∙ ap (λ (z : ℤ). total (advance kind) nodes +ℤ z) (shrink-back amount (shrink_totals nodes order) (highest-total (shrink_totals nodes) order e))

overfull-is : (amount : ℤ) (totals : Order → ℤ) → highest totals ≡ Some Normal → is_short amount totals ≡ true → shrink_badness amount totals ≡ 1000000
overfull-is amount totals e short = rw (e, short) refl

shrink-normal :
    (kind : Kind) (nodes : List Node) (amount : ℤ) (short : Bool)
    → highest (shrink_totals nodes) ≡ Some Normal
    → is_short amount (shrink_totals nodes) ≡ short
    → shrink_badness amount (shrink_totals nodes) ≢ 1000000
    → place kind (Shrink Normal (if short then record { num = pos 1; den = pos 1 } else fraction amount (shrink_totals nodes Normal))) nodes
    ≡ total (advance kind) nodes +ℤ neg_ℤ amount
shrink-normal kind nodes amount true e is good = absurd (good (overfull-is amount (shrink_totals nodes) e is))
shrink-normal kind nodes amount false e is good = shrink-fills-by kind nodes amount Normal e

shrink-fills :
    (kind : Kind) (nodes : List Node) (amount : ℤ) (found : Option Order)
    → highest (shrink_totals nodes) ≡ found
    → shrunk_setting amount (shrink_totals nodes) found ≢ Natural
    → shrink_badness amount (shrink_totals nodes) ≢ 1000000
    → place kind (shrunk_setting amount (shrink_totals nodes) found) nodes ≡ total (advance kind) nodes +ℤ neg_ℤ amount
shrink-fills kind nodes amount None e set good = absurd (set refl)
shrink-fills kind nodes amount (Some Normal) e set good = shrink-normal kind nodes amount (is_short amount (shrink_totals nodes)) e refl good
shrink-fills kind nodes amount (Some Fil) e set good = shrink-fills-by kind nodes amount Fil e
shrink-fills kind nodes amount (Some Fill) e set good = shrink-fills-by kind nodes amount Fill e
shrink-fills kind nodes amount (Some Filll) e set good = shrink-fills-by kind nodes amount Filll e

pub fills :
    (kind : Kind) (nodes : List Node) (excess : ℤ)
    → setting_of excess nodes ≢ Natural
    → setting_badness excess nodes ≢ 1000000
    → place kind (setting_of excess nodes) nodes ≡ total (advance kind) nodes +ℤ excess
unfolding setting_of setting_badness highest
fills kind nodes (pos zero) set good = absurd (set refl)
fills kind nodes (pos (suc n)) set good = stretch-fills kind nodes (pos (suc n)) (highest (stretch_totals nodes)) refl set
fills kind [] (negsuc n) set good = absurd (set refl)
fills kind (x ∷ xs) (negsuc n) set good = shrink-fills kind (x ∷ xs) (pos (suc n)) (highest (shrink_totals (x ∷ xs))) refl set good
