-- The digits that printing makes one by one are those of the shortest decimal that reads back.
use Rattle.std.proofs.Common.{append_assoc, ◌≡◌, ℕ, ◌+◌, ◌-◌, ◌*◌, ◌/◌, ◌%◌, ◌^◌, ◌<◌, ◌≤◌, zero, suc, true, false, cond, ltb, List, [], ◌∷◌, ◌++◌, ⊎_elim, subst, sym, ◌∙◌, ap, refl, arith}
use Rattle.std.proofs.Math.Numerals.{add-one}
use Rattle.std.proofs.lemmas.Bool.{cases_lt, eq-eqb, le-ltb, lt-ltb, ne_eqb}
use Rattle.std.proofs.Math.Nat.{pow-suc, pow-le-pow_right}
use Rattle.scaled_core.specs.Rounding.{nearest}
use Rattle.scaled_core.specs.PrintedDimensions.{last_digits, nearest_decimal, reads_back, fraction_places, shortest_fraction}

-- The number f 65536ths and a half, with `places` digits taken, in tenths of the last place times 65536.
abbrev pub spread : ℕ → ℕ → ℕ
spread places f = 10 ^ places * (10 * f + 5)

-- Five places always read back.
pub reads_back-5 : (f : ℕ) → reads_back f 5 ≡ true
unfolding reads_back nearest_decimal nearest
reads_back-5 f = eq-eqb _ f (omega arith)

stops-1 : (f : ℕ) → spread 1 f % 655360 ≤ 100 → nearest_decimal f 1 ≡ spread 1 f / 655360
unfolding nearest_decimal nearest
stops-1 f h = omega arith

reads-1 : (f : ℕ) → spread 1 f % 655360 ≤ 100 → reads_back f 1 ≡ true
unfolding reads_back nearest_decimal nearest
reads-1 f h = eq-eqb _ f (omega arith)

goes-1 : (f : ℕ) → 100 < spread 1 f % 655360 → reads_back f 1 ≡ false
unfolding reads_back nearest_decimal nearest
goes-1 f h = ne_eqb _ f (omega arith)

stops-2 : (f : ℕ) → spread 2 f % 655360 ≤ 1000 → nearest_decimal f 2 ≡ spread 2 f / 655360
unfolding nearest_decimal nearest
stops-2 f h = omega arith

reads-2 : (f : ℕ) → spread 2 f % 655360 ≤ 1000 → reads_back f 2 ≡ true
unfolding reads_back nearest_decimal nearest
reads-2 f h = eq-eqb _ f (omega arith)

goes-2 : (f : ℕ) → 1000 < spread 2 f % 655360 → reads_back f 2 ≡ false
unfolding reads_back nearest_decimal nearest
goes-2 f h = ne_eqb _ f (omega arith)

stops-3 : (f : ℕ) → spread 3 f % 655360 ≤ 10000 → nearest_decimal f 3 ≡ spread 3 f / 655360
unfolding nearest_decimal nearest
stops-3 f h = omega arith

reads-3 : (f : ℕ) → spread 3 f % 655360 ≤ 10000 → reads_back f 3 ≡ true
unfolding reads_back nearest_decimal nearest
reads-3 f h = eq-eqb _ f (omega arith)

goes-3 : (f : ℕ) → 10000 < spread 3 f % 655360 → reads_back f 3 ≡ false
unfolding reads_back nearest_decimal nearest
goes-3 f h = ne_eqb _ f (omega arith)

stops-4 : (f : ℕ) → spread 4 f % 655360 ≤ 100000 → nearest_decimal f 4 ≡ spread 4 f / 655360
unfolding nearest_decimal nearest
stops-4 f h = omega arith

reads-4 : (f : ℕ) → spread 4 f % 655360 ≤ 100000 → reads_back f 4 ≡ true
unfolding reads_back nearest_decimal nearest
reads-4 f h = eq-eqb _ f (omega arith)

goes-4 : (f : ℕ) → 100000 < spread 4 f % 655360 → reads_back f 4 ≡ false
unfolding reads_back nearest_decimal nearest
goes-4 f h = ne_eqb _ f (omega arith)

spread-suc : (places f : ℕ) → spread (suc places) f ≡ 10 * spread places f
spread-suc places f = rw (pow-suc 10 places) (omega arith)

-- Appending one digit.
grow : (places t : ℕ) → last_digits places (t / 655360) ++ (48 + t % 655360 / 65536) ∷ [] ≡ last_digits (suc places) (10 * t / 655360)
grow places t =
    let front : 10 * t / 655360 / 10 ≡ t / 655360 = omega arith in
    let last : 10 * t / 655360 % 10 ≡ t % 655360 / 65536 = omega arith in
    rw (front, last) refl

pub grow-spread : (places f rest : ℕ) → rest ≡ spread places f % 655360 → last_digits places (spread places f / 655360) ++ (48 + rest / 65536) ∷ [] ≡ last_digits (suc places) (spread (suc places) f / 655360)
grow-spread places f rest e = rw (e, spread-suc places f) (grow places (spread places f))

rest-spread : (places f rest : ℕ) → rest ≡ spread places f % 655360 → 10 * (rest % 65536) ≡ spread (suc places) f % 655360
rest-spread places f rest e = let s = spread-suc places f in omega arith

-- The number of places.

-- No number of places up to this one reads back.
abbrev pub NoneUpTo : ℕ → ℕ → Type 0
NoneUpTo places f = (fewer : ℕ) → 0 < fewer → fewer ≤ places → reads_back f fewer ≡ false

pub none_more : (places f : ℕ) → NoneUpTo places f → reads_back f (suc places) ≡ false → NoneUpTo (suc places) f
none_more places f none here fewer positive le = ⊎_elim
    (λ (low : fewer < suc places). none fewer positive (omega arith))
    (λ (high : suc places ≤ fewer). let e : fewer ≡ suc places = omega arith in rw e here)
    (cases_lt fewer (suc places))

pub places-1 : (f : ℕ) → reads_back f 1 ≡ true → fraction_places f ≡ 1
unfolding fraction_places
places-1 f here = rw here refl

pub places-2 : (f : ℕ) → NoneUpTo 1 f → reads_back f 2 ≡ true → fraction_places f ≡ 2
unfolding fraction_places
places-2 f none here = rw (none 1 (omega arith) (omega arith), here) refl

pub places-3 : (f : ℕ) → NoneUpTo 2 f → reads_back f 3 ≡ true → fraction_places f ≡ 3
unfolding fraction_places
places-3 f none here = rw (none 1 (omega arith) (omega arith), none 2 (omega arith) (omega arith), here) refl

pub places-4 : (f : ℕ) → NoneUpTo 3 f → reads_back f 4 ≡ true → fraction_places f ≡ 4
unfolding fraction_places
places-4 f none here = rw (none 1 (omega arith) (omega arith), none 2 (omega arith) (omega arith), none 3 (omega arith) (omega arith), here) refl

pub places-5 : (f : ℕ) → NoneUpTo 4 f → fraction_places f ≡ 5
unfolding fraction_places
places-5 f none = rw (none 1 (omega arith) (omega arith), none 2 (omega arith) (omega arith), none 3 (omega arith) (omega arith), none 4 (omega arith) (omega arith)) refl

shortest_by : (f places decimal : ℕ) → fraction_places f ≡ places → nearest_decimal f places ≡ decimal → shortest_fraction f ≡ last_digits places decimal
unfolding shortest_fraction
shortest_by f places decimal e n = rw (e, n) refl

-- If the remainder is small, the digits so far are those of the shortest decimal.
pub ends : (places f : ℕ) → places < 4 → NoneUpTo places f → spread (suc places) f % 655360 ≤ 10 ^ (suc (suc places)) → shortest_fraction f ≡ last_digits (suc places) (spread (suc places) f / 655360)
ends zero f lt none h = shortest_by f 1 (spread 1 f / 655360) (places-1 f (reads-1 f h)) (stops-1 f h)
ends (suc zero) f lt none h = shortest_by f 2 (spread 2 f / 655360) (places-2 f none (reads-2 f h)) (stops-2 f h)
ends (suc (suc zero)) f lt none h = shortest_by f 3 (spread 3 f / 655360) (places-3 f none (reads-3 f h)) (stops-3 f h)
ends (suc (suc (suc zero))) f lt none h = shortest_by f 4 (spread 4 f / 655360) (places-4 f none (reads-4 f h)) (stops-4 f h)
ends (suc (suc (suc (suc n)))) f lt none h = absurd (omega arith)

-- If the remainder is not small, this number of places does not read back.
pub passes : (places f : ℕ) → places < 4 → 10 ^ (suc (suc places)) < spread (suc places) f % 655360 → reads_back f (suc places) ≡ false
passes zero f lt h = goes-1 f h
passes (suc zero) f lt h = goes-2 f h
passes (suc (suc zero)) f lt h = goes-3 f h
passes (suc (suc (suc zero))) f lt h = goes-4 f h
passes (suc (suc (suc (suc n)))) f lt h = absurd (omega arith)

nearest-front : (f : ℕ) → 100000 < spread 4 f % 655360 → nearest_decimal f 5 / 10 ≡ spread 4 f / 655360
unfolding nearest_decimal nearest
nearest-front f above = omega arith

nearest-last : (f : ℕ) → 100000 < spread 4 f % 655360 → nearest_decimal f 5 % 10 ≡ (spread 4 f % 655360 - 17232) / 65536
unfolding nearest_decimal nearest
nearest-last f above = omega arith

-- The fifth digit is rounded.
fifth : (f : ℕ) → f < 65536 → 100000 < spread 4 f % 655360 → NoneUpTo 4 f → last_digits 4 (spread 4 f / 655360) ++ (48 + (spread 4 f % 655360 - 17232) / 65536) ∷ [] ≡ shortest_fraction f
fifth f small above none =
    let front : nearest_decimal f 5 / 10 ≡ spread 4 f / 655360 = nearest-front f above in
    let last : nearest_decimal f 5 % 10 ≡ (spread 4 f % 655360 - 17232) / 65536 = nearest-last f above in
    sym (shortest_by f 5 (nearest_decimal f 5) (places-5 f none) refl ∙ rw (front, last) refl)

-- The turns of the loop.

-- The remainder after `places` digits and the unit of the last place, while fewer digits do not read back.
pub record IsPrinting (f places rest unit : ℕ) : Type 0 where
  pub short : places < 5
  pub unit_is : unit ≡ 10 ^ (places + 1)
  pub rest_is : rest ≡ spread places f % 655360
  pub above : 0 < places → unit < rest
  pub none : NoneUpTo places f

-- The remainder from which the next digit is taken.
abbrev pub left : ℕ → ℕ → ℕ
left rest unit = cond (ltb 65536 unit) (rest - 17232) rest

pub begins : (f : ℕ) → f < 65536 → IsPrinting f 0 (10 * f + 5) 10
begins f small = record {
  short = omega arith;
  unit_is = refl;
  rest_is = omega arith;
  above = λ h. absurd (omega arith);
  none = λ fewer positive le. absurd (omega arith);
}

unit_early : (f places rest unit : ℕ) → IsPrinting f places rest unit → places < 4 → unit ≤ 10000
unit_early f places rest unit p early =
    let most : 10 ^ (places + 1) ≤ 10 ^ 4 = pow-le-pow_right {n = 10} (omega arith) {i = places + 1} {j = 4} (omega arith) in
    omega (arith, p.unit_is)

pub unit_most : (f places rest unit : ℕ) → IsPrinting f places rest unit → unit ≤ 100000
unit_most f places rest unit p =
    let most : 10 ^ (places + 1) ≤ 10 ^ 5 = pow-le-pow_right {n = 10} (omega arith) {i = places + 1} {j = 5} (omega (arith, p.short)) in
    omega (arith, p.unit_is)

left_early : (f places rest unit : ℕ) → IsPrinting f places rest unit → places < 4 → left rest unit ≡ rest
left_early f places rest unit p early = rw (le-ltb 65536 unit (omega (arith, unit_early f places rest unit p early))) refl

fifth_unit : (f places rest unit : ℕ) → IsPrinting f places rest unit → 4 ≤ places → (places ≡ 4) × (unit ≡ 100000)
fifth_unit f places rest unit p late =
    let four : places ≡ 4 = omega (arith, p.short) in
    (four, p.unit_is ∙ rw four refl)

left_fifth : (rest unit : ℕ) → unit ≡ 100000 → left rest unit ≡ rest - 17232
left_fifth rest unit e = rw (lt-ltb 65536 unit (omega arith)) refl

-- The remainder stays below ten units.
pub rest_most : (f places rest unit : ℕ) → IsPrinting f places rest unit → rest < 655360
rest_most f places rest unit p = omega (arith, p.rest_is)

pub left_most : (f places rest unit : ℕ) → IsPrinting f places rest unit → left rest unit < 655360
left_most f places rest unit p = ⊎_elim
    (λ (early : places < 4). omega (arith, left_early f places rest unit p early, rest_most f places rest unit p))
    (λ (late : 4 ≤ places). omega (arith, left_fifth rest unit (fifth_unit f places rest unit p late).1, rest_most f places rest unit p))
    (cases_lt places 4)

-- The rounding of the fifth digit does not go below 0.
pub space : (f places rest unit : ℕ) → IsPrinting f places rest unit → 65536 < unit → 17232 ≤ rest
space f places rest unit p above = ⊎_elim
    (λ (early : places < 4). absurd (omega (arith, unit_early f places rest unit p early)))
    (λ (late : 4 ≤ places). omega (arith, p.above (omega arith)))
    (cases_lt places 4)

unit_next : (f places rest unit : ℕ) → IsPrinting f places rest unit → unit * 10 ≡ 10 ^ suc (suc places)
unit_next f places rest unit p =
    let here : unit ≡ 10 ^ suc places = p.unit_is ∙ ap (λ (n : ℕ). 10 ^ n) (add-one places) in
    ap (λ (n : ℕ). n * 10) here ∙ sym (pow-suc 10 (suc places))

rest_next : (f places rest unit : ℕ) → IsPrinting f places rest unit → places < 4 → 10 * (left rest unit % 65536) ≡ spread (suc places) f % 655360
rest_next f places rest unit p early = rw (left_early f places rest unit p early) (rest-spread places f rest p.rest_is)

digits_next : (f places rest unit : ℕ) → IsPrinting f places rest unit → places < 4 → last_digits places (spread places f / 655360) ++ (48 + left rest unit / 65536) ∷ [] ≡ last_digits (suc places) (spread (suc places) f / 655360)
digits_next f places rest unit p early = rw (left_early f places rest unit p early) (grow-spread places f rest p.rest_is)

-- The loop stops at this digit.
stops_early : (f places rest unit : ℕ) → IsPrinting f places rest unit → places < 4 → 10 * (left rest unit % 65536) ≤ unit * 10 → last_digits places (spread places f / 655360) ++ (48 + left rest unit / 65536) ∷ [] ≡ shortest_fraction f
stops_early f places rest unit p early h =
    let small : spread (suc places) f % 655360 ≤ 10 ^ suc (suc places) = rw (← rest_next f places rest unit p early, ← unit_next f places rest unit p) h in
    digits_next f places rest unit p early ∙ sym (ends places f early p.none small)

stops_fifth : (f rest unit : ℕ) → f < 65536 → IsPrinting f 4 rest unit → last_digits 4 (spread 4 f / 655360) ++ (48 + left rest unit / 65536) ∷ [] ≡ shortest_fraction f
stops_fifth f rest unit small p =
    let above : 100000 < spread 4 f % 655360 = omega (arith, p.above (omega arith), p.unit_is, p.rest_is) in
    let last : left rest unit ≡ spread 4 f % 655360 - 17232 = left_fifth rest unit p.unit_is ∙ ap (λ (n : ℕ). n - 17232) p.rest_is in
    rw last (fifth f small above p.none)

stops_late : (f places rest unit : ℕ) → f < 65536 → IsPrinting f places rest unit → 4 ≤ places → last_digits places (spread places f / 655360) ++ (48 + left rest unit / 65536) ∷ [] ≡ shortest_fraction f
stops_late f places rest unit small p late =
    let four = (fifth_unit f places rest unit p late).0 in
    let P : ℕ → Type 0 = λ n. IsPrinting f n rest unit in
    let fifth_turn : IsPrinting f 4 rest unit = subst P four p in
    rw four (stops_fifth f rest unit small fifth_turn)

pub stops : (f places rest unit : ℕ) → f < 65536 → IsPrinting f places rest unit → 10 * (left rest unit % 65536) ≤ unit * 10 → last_digits places (spread places f / 655360) ++ (48 + left rest unit / 65536) ∷ [] ≡ shortest_fraction f
stops f places rest unit small p h = ⊎_elim
    (λ (early : places < 4). stops_early f places rest unit p early h)
    (λ (late : 4 ≤ places). stops_late f places rest unit small p late)
    (cases_lt places 4)

-- The loop goes on to another digit.
goes_early : (f places rest unit : ℕ) → IsPrinting f places rest unit → unit * 10 < 10 * (left rest unit % 65536) → places < 4
goes_early f places rest unit p h = ⊎_elim
    (λ (early : places < 4). early)
    (λ (late : 4 ≤ places). let u = (fifth_unit f places rest unit p late).1 in absurd (omega arith))
    (cases_lt places 4)

pub goes : (f places rest unit : ℕ) → IsPrinting f places rest unit → unit * 10 < 10 * (left rest unit % 65536) → IsPrinting f (places + 1) (10 * (left rest unit % 65536)) (unit * 10)
goes f places rest unit p h =
    let early = goes_early f places rest unit p h in
    let large : 10 ^ suc (suc places) < spread (suc places) f % 655360 = rw (← rest_next f places rest unit p early, ← unit_next f places rest unit p) h in
    record {
      short = omega arith;
      unit_is = unit_next f places rest unit p ∙ ap (λ (n : ℕ). 10 ^ n) (omega arith);
      rest_is = rest_next f places rest unit p early ∙ ap (λ (n : ℕ). spread n f % 655360) (sym (add-one places));
      above = λ positive. h;
      none = rw (add-one places) (none_more places f p.none (passes places f early large));
    }

pub goes-digits : (f places rest unit : ℕ) → IsPrinting f places rest unit → unit * 10 < 10 * (left rest unit % 65536) → last_digits places (spread places f / 655360) ++ (48 + left rest unit / 65536) ∷ [] ≡ last_digits (places + 1) (spread (places + 1) f / 655360)
goes-digits f places rest unit p h = rw (add-one places) (digits_next f places rest unit p (goes_early f places rest unit p h))

joined : (old items digits more all new : List ℕ) → items ≡ old ++ digits → new ≡ items ++ more → digits ++ more ≡ all → new ≡ old ++ all
joined old items digits more all new e n a = n ∙ ap (λ (xs : List ℕ). xs ++ more) e ∙ append_assoc old digits more ∙ ap (λ (xs : List ℕ). old ++ xs) a

-- The text after the last turn.
pub stops-items : (f places rest unit digit : ℕ) (old items new : List ℕ) → f < 65536 → IsPrinting f places rest unit → digit ≡ left rest unit → items ≡ old ++ last_digits places (spread places f / 655360) → new ≡ items ++ (48 + digit / 65536) ∷ [] → 10 * (digit % 65536) ≤ unit * 10 → new ≡ old ++ shortest_fraction f
stops-items f places rest unit digit old items new small p d e n h =
    let h' : 10 * (left rest unit % 65536) ≤ unit * 10 = rw (← d) h in
    let n' : new ≡ items ++ (48 + left rest unit / 65536) ∷ [] = n ∙ ap (λ (x : ℕ). items ++ (48 + x / 65536) ∷ []) d in
    joined old items (last_digits places (spread places f / 655360)) ((48 + left rest unit / 65536) ∷ []) (shortest_fraction f) new e n' (stops f places rest unit small p h')

-- The invariant after every other turn.
pub goes-on : (f places rest unit digit : ℕ) → IsPrinting f places rest unit → digit ≡ left rest unit → unit * 10 < 10 * (digit % 65536) → IsPrinting f (places + 1) (10 * (digit % 65536)) (unit * 10)
goes-on f places rest unit digit p d h =
    let h' : unit * 10 < 10 * (left rest unit % 65536) = rw (← d) h in
    let P : ℕ → Type 0 = λ x. IsPrinting f (places + 1) (10 * (x % 65536)) (unit * 10) in
    subst P (sym d) (goes f places rest unit p h')

pub goes-items : (f places rest unit digit : ℕ) (old items new : List ℕ) → IsPrinting f places rest unit → digit ≡ left rest unit → items ≡ old ++ last_digits places (spread places f / 655360) → new ≡ items ++ (48 + digit / 65536) ∷ [] → unit * 10 < 10 * (digit % 65536) → new ≡ old ++ last_digits (places + 1) (spread (places + 1) f / 655360)
goes-items f places rest unit digit old items new p d e n h =
    let h' : unit * 10 < 10 * (left rest unit % 65536) = rw (← d) h in
    let n' : new ≡ items ++ (48 + left rest unit / 65536) ∷ [] = n ∙ ap (λ (x : ℕ). items ++ (48 + x / 65536) ∷ []) d in
    joined old items (last_digits places (spread places f / 655360)) ((48 + left rest unit / 65536) ∷ []) (last_digits (places + 1) (spread (places + 1) f / 655360)) new e n' (goes-digits f places rest unit p h')
