-- A printed text reads back as the number that it was printed from, and no fraction with fewer digits does.
use Rattle.std.proofs.Common.{append_assoc, ◌≡◌, ℕ, ℤ, pos, negsuc, ◌+◌, ◌*◌, ◌/◌, ◌%◌, ◌^◌, ◌<◌, ◌≤◌, zero, suc, true, false, List, [], ◌∷◌, ◌++◌, Some, Ok, length, take, ⊎_elim, subst, sym, ◌∙◌, ap, refl, arith, decimal, codes, length-append}
use Rattle.std.specs.Char.{is_ascii_digit, digit_value}
use Rattle.std.specs.Str.{all_ascii_digits}
use Rattle.std.specs.Str.Parse.{AllDigits, digits_value}
use Rattle.std.proofs.lemmas.Bool.{cases_Bool, cases_lt, eq-eqb, eqb-true, le-leb, and_from, and_parts}
use Rattle.std.proofs.lemmas.Int.Digits.{digits_value_push}
use Rattle.std.proofs.lemmas.Str.{digit_value_digit}
use Rattle.std.proofs.lemmas.Str.Parse.{digit_from_value}
use Rattle.std.proofs.lemmas.Fmt.{decimal_is_IsNumeral}
use Rattle.std.proofs.lemmas.List.{take_all}
use Rattle.std.proofs.Math.Nat.{le-div_iff_mul-le, pow-suc}
use Rattle.scaled_core.specs.Dimensions.{Fits}
use Rattle.scaled_core.specs.DimensionTexts.{Sign, unsigned, minus, DimensionParts, with_sign, parts_text, parts_value, decimal_fraction}
use Rattle.scaled_core.specs.ParsedTexts.{dimension_value, parsed_value, read_dimension}
use Rattle.scaled_core.specs.PrintedDimensions.{last_digits, nearest_decimal, reads_back, fraction_places, shortest_fraction, size_text, dimension_text}
use Rattle.scaled_core.specs.Rounding.{nearest}
use Rattle.scaled_core.specs.Units.{of_points}
use Rattle.scaled_core.specs.declared.units.LengthUnit.TheVariants.{Point}
use Rattle.scaled_core.proofs.DigitLemmas.{ten_power}
use Rattle.scaled_core.proofs.PrintingLemmas.{NoneUpTo, none_more, places-1, places-2, places-3, places-4, places-5, reads_back-5}
use Rattle.scaled_core.proofs.ReadingCases.{parsed_value-fits}
use Rattle.std.proofs.lemmas.Int.{ints}
use Rattle.scaled_core.proofs.TextLaws.{dimension_value-parts}

-- Digits.

digit_test : (c : ℕ) → 48 ≤ c → c ≤ 57 → is_ascii_digit c ≡ true
digit_test c low high = and_from _ _ (le-leb 48 c low) (le-leb c 57 high)

digits-from_AllDigits : (ds : List ℕ) → AllDigits 10 ds → all_ascii_digits ds ≡ true
digits-from_AllDigits [] h = refl
digits-from_AllDigits (c ∷ cs) h =
    let r = digit_from_value c h.0 in
    and_from _ _ (digit_test c r.0 r.1) (digits-from_AllDigits cs h.1)

-- The decimal text of a number consists of digits.
pub decimal-digits : (n : ℕ) → n < 2 ^ 64 → all_ascii_digits (decimal n) ≡ true
decimal-digits n h = digits-from_AllDigits (decimal n) (decimal_is_IsNumeral n h).0.1

pub digits_value-decimal : (n : ℕ) → n < 2 ^ 64 → digits_value 10 (decimal n) ≡ n
digits_value-decimal n h = (decimal_is_IsNumeral n h).1

pub decimal-some : (n : ℕ) → n < 2 ^ 64 → 0 < length (decimal n)
decimal-some n h = (decimal_is_IsNumeral n h).0.0

digits_push : (ds : List ℕ) (c : ℕ) → all_ascii_digits ds ≡ true → is_ascii_digit c ≡ true → all_ascii_digits (ds ++ c ∷ []) ≡ true
digits_push [] c h e = and_from _ _ e refl
digits_push (d ∷ ds) c h e = let p = and_parts (is_ascii_digit d) (all_ascii_digits ds) h in and_from _ _ p.0 (digits_push ds c p.1 e)

-- The last digits of a number are digits, and their count is the one asked for.
pub last_digits-digits : (count n : ℕ) → all_ascii_digits (last_digits count n) ≡ true
last_digits-digits zero n = refl
last_digits-digits (suc count) n = digits_push (last_digits count (n / 10)) (48 + n % 10) (last_digits-digits count (n / 10)) (digit_test (48 + n % 10) (omega arith) (omega arith))

pub length-last_digits : (count n : ℕ) → length (last_digits count n) ≡ count
length-last_digits zero n = refl
length-last_digits (suc count) n = length-append (last_digits count (n / 10)) ((48 + n % 10) ∷ []) ∙ (let e = length-last_digits count (n / 10) in omega arith)

-- The number that they write is n, if n has no more digits.
pub digits_value-last_digits : (count n : ℕ) → n < 10 ^ count → digits_value 10 (last_digits count n) ≡ n
digits_value-last_digits zero n h = omega arith
digits_value-last_digits (suc count) n h =
    let p = pow-suc 10 count in
    let front = digits_value-last_digits count (n / 10) (omega arith) in
    let push = digits_value_push 10 (last_digits count (n / 10)) (48 + n % 10) in
    let digit : digit_value (48 + n % 10) + 48 ≡ 48 + n % 10 = digit_value_digit (48 + n % 10) (omega arith, omega arith) in
    push ∙ omega arith

-- The fraction.

-- The least number of places, from 1 to 5, with which f reads back.
pub record IsFewest (f places : ℕ) : Type 0 where
  pub positive : 0 < places
  pub most : places ≤ 5
  pub reads : reads_back f places ≡ true
  pub fewest : (fewer : ℕ) → 0 < fewer → fewer < places → reads_back f fewer ≡ false

none_yet : (f : ℕ) → NoneUpTo 0 f
none_yet f fewer positive le = absurd (omega arith)

found : (f places : ℕ) → fraction_places f ≡ suc places → places < 5 → reads_back f (suc places) ≡ true → NoneUpTo places f → IsFewest f (fraction_places f)
found f places e short reads none =
    let P : ℕ → Type 0 = λ n. IsFewest f n in
    subst P (sym e) (record { positive = omega arith; most = omega arith; reads = reads; fewest = λ fewer positive lt. none fewer positive (omega arith) })

pub fewest : (f : ℕ) → IsFewest f (fraction_places f)
fewest f =
    ⊎_elim (λ (yes : reads_back f 1 ≡ true). found f 0 (places-1 f yes) (omega arith) yes (none_yet f))
    (λ (no1 : reads_back f 1 ≡ false). let n1 = none_more 0 f (none_yet f) no1 in
    ⊎_elim (λ (yes : reads_back f 2 ≡ true). found f 1 (places-2 f n1 yes) (omega arith) yes n1)
    (λ (no2 : reads_back f 2 ≡ false). let n2 = none_more 1 f n1 no2 in
    ⊎_elim (λ (yes : reads_back f 3 ≡ true). found f 2 (places-3 f n2 yes) (omega arith) yes n2)
    (λ (no3 : reads_back f 3 ≡ false). let n3 = none_more 2 f n2 no3 in
    ⊎_elim (λ (yes : reads_back f 4 ≡ true). found f 3 (places-4 f n3 yes) (omega arith) yes n3)
    (λ (no4 : reads_back f 4 ≡ false). let n4 = none_more 3 f n3 no4 in found f 4 (places-5 f n4) (omega arith) (reads_back-5 f) n4)
    (cases_Bool (reads_back f 4)))
    (cases_Bool (reads_back f 3)))
    (cases_Bool (reads_back f 2)))
    (cases_Bool (reads_back f 1))

reads_back-nearest : (f places : ℕ) → reads_back f places ≡ true → nearest (nearest_decimal f places * 65536) (10 ^ places) ≡ f
unfolding reads_back
reads_back-nearest f places h = eqb-true _ f h

-- A fraction of 1 or more is at least 65536 of 65536ths.
nearest-large : (v d : ℕ) → 0 < d → d ≤ v → 65536 ≤ nearest (v * 65536) d
unfolding nearest
nearest-large v d positive h = (le-div_iff_mul-le {k = 2 * d} {x = 65536} {y = 2 * (v * 65536) + d} (omega arith)).1 (omega arith)

decimal-below : (v d f : ℕ) → 0 < d → f < 65536 → nearest (v * 65536) d ≡ f → v < d
decimal-below v d f positive small e = ⊎_elim
    (λ (low : v < d). low)
    (λ (high : d ≤ v). absurd (omega (arith, nearest-large v d positive high)))
    (cases_lt v d)

fraction_of_digits : (ds : List ℕ) (places v f : ℕ) → places ≤ 17 → length ds ≡ places → digits_value 10 ds ≡ v → nearest (v * 65536) (10 ^ places) ≡ f → decimal_fraction ds ≡ f
unfolding decimal_fraction
fraction_of_digits ds places v f short len value e =
    let whole : take 17 ds ≡ ds = take_all 17 ds (omega arith) in
    rw (whole, len, value) e

-- The printed fraction reads back.
pub decimal_fraction-shortest : (f : ℕ) → f < 65536 → decimal_fraction (shortest_fraction f) ≡ f
unfolding shortest_fraction
decimal_fraction-shortest f small =
    let w = fewest f in
    let k = fraction_places f in
    let v = nearest_decimal f k in
    let e = reads_back-nearest f k w.reads in
    let below = decimal-below v (10 ^ k) f (ten_power k) small e in
    fraction_of_digits (last_digits k v) k v f (omega (arith, w.most)) (length-last_digits k v) (digits_value-last_digits k v below) e

pub shortest_fraction-digits : (f : ℕ) → all_ascii_digits (shortest_fraction f) ≡ true
unfolding shortest_fraction
shortest_fraction-digits f = last_digits-digits (fraction_places f) (nearest_decimal f (fraction_places f))

-- The whole text.

abbrev printed_parts : Sign → ℕ → DimensionParts
printed_parts sign n = record { sign = sign; whole = decimal (n / 65536); fraction = Some (shortest_fraction (n % 65536)); unit = Point }

of_points-whole : (n : ℕ) → of_points (n / 65536) (n % 65536) 1 1 ≡ n
unfolding of_points
of_points-whole n = omega arith

size_by_parts : (n q f : ℕ) → q ≡ n / 65536 → f ≡ n % 65536 → of_points q f 1 1 ≡ n
size_by_parts n q f e g = rw (e, g) (of_points-whole n)

printed_value : (sign : Sign) (n : ℕ) → n < 2 ^ 64 → parts_value (printed_parts sign n) ≡ with_sign sign n
printed_value sign n small =
    let q = digits_value-decimal (n / 65536) (omega arith) in
    let f = decimal_fraction-shortest (n % 65536) (omega arith) in
    ap (with_sign sign) (size_by_parts n (digits_value 10 (decimal (n / 65536))) (decimal_fraction (shortest_fraction (n % 65536))) q f)

printed_reads : (sign : Sign) (n : ℕ) → n < 2 ^ 64 → dimension_value (parts_text (printed_parts sign n)) ≡ Some (with_sign sign n)
printed_reads sign n small =
    dimension_value-parts (printed_parts sign n) (decimal-digits (n / 65536) (omega arith)) (shortest_fraction-digits (n % 65536)) (omega (arith, decimal-some (n / 65536) (omega arith)))
    ∙ ap Some (printed_value sign n small)

size_text-parts : (n : ℕ) → size_text n ++ codes "pt" ≡ parts_text (printed_parts unsigned n)
unfolding size_text
size_text-parts n = append_assoc (decimal (n / 65536)) (46 ∷ shortest_fraction (n % 65536)) (codes "pt")

-- A printed dimension has its own value.
pub dimension_value-printed : (d : ℤ) → Fits d → dimension_value (dimension_text d ++ codes "pt") ≡ Some d
unfolding dimension_text
dimension_value-printed (pos n) fits = ap dimension_value (size_text-parts n) ∙ printed_reads unsigned n (omega (arith, ints, fits.high))
dimension_value-printed (negsuc n) fits = ap (λ (xs : List ℕ). dimension_value (45 ∷ xs)) (size_text-parts (suc n)) ∙ printed_reads minus (suc n) (omega (arith, ints, fits.low))

-- A printed dimension reads back as itself.
pub read_dimension-printed : (d : ℤ) → Fits d → read_dimension (dimension_text d ++ codes "pt") ≡ Ok d
unfolding read_dimension
read_dimension-printed d fits = ap parsed_value (dimension_value-printed d fits) ∙ parsed_value-fits d fits

-- No fraction with fewer digits reads back.

reads_any-1 : (f w : ℕ) → nearest (w * 65536) 10 ≡ f → reads_back f 1 ≡ true
unfolding reads_back nearest_decimal nearest
reads_any-1 f w h = eq-eqb _ f (omega arith)

reads_any-2 : (f w : ℕ) → nearest (w * 65536) 100 ≡ f → reads_back f 2 ≡ true
unfolding reads_back nearest_decimal nearest
reads_any-2 f w h = eq-eqb _ f (omega arith)

reads_any-3 : (f w : ℕ) → nearest (w * 65536) 1000 ≡ f → reads_back f 3 ≡ true
unfolding reads_back nearest_decimal nearest
reads_any-3 f w h = eq-eqb _ f (omega arith)

reads_any-4 : (f w : ℕ) → nearest (w * 65536) 10000 ≡ f → reads_back f 4 ≡ true
unfolding reads_back nearest_decimal nearest
reads_any-4 f w h = eq-eqb _ f (omega arith)

reads_any : (f places w : ℕ) → 0 < places → places < 5 → nearest (w * 65536) (10 ^ places) ≡ f → reads_back f places ≡ true
reads_any f zero w positive short h = absurd (omega arith)
reads_any f (suc zero) w positive short h = reads_any-1 f w h
reads_any f (suc (suc zero)) w positive short h = reads_any-2 f w h
reads_any f (suc (suc (suc zero))) w positive short h = reads_any-3 f w h
reads_any f (suc (suc (suc (suc zero)))) w positive short h = reads_any-4 f w h
reads_any f (suc (suc (suc (suc (suc n))))) w positive short h = absurd (omega arith)

decimal_fraction-short : (ds : List ℕ) → length ds ≤ 17 → decimal_fraction ds ≡ nearest (digits_value 10 ds * 65536) (10 ^ length ds)
unfolding decimal_fraction
decimal_fraction-short ds short = let whole : take 17 ds ≡ ds = take_all 17 ds short in rw whole refl

pub length-shortest : (f : ℕ) → length (shortest_fraction f) ≡ fraction_places f
unfolding shortest_fraction
length-shortest f = length-last_digits (fraction_places f) (nearest_decimal f (fraction_places f))

fewest_le : (f : ℕ) (ds : List ℕ) → 0 < length ds → length ds < fraction_places f → decimal_fraction ds ≡ f → ⊥
fewest_le f ds some fewer e =
    let w = fewest f in
    let short : length ds < 5 = omega (arith, w.most) in
    let reads = reads_any f (length ds) (digits_value 10 ds) some short (sym (decimal_fraction-short ds (omega arith)) ∙ e) in
    let not = w.fewest (length ds) some fewer in
    absurd (cc)

-- Digits that read as f are no fewer than the printed ones.
pub shortest-le : (f : ℕ) (ds : List ℕ) → 0 < length ds → decimal_fraction ds ≡ f → length (shortest_fraction f) ≤ length ds
shortest-le f ds some e = ⊎_elim
    (λ (fewer : length ds < fraction_places f). absurd (fewest_le f ds some fewer e))
    (λ (enough : fraction_places f ≤ length ds). omega (arith, length-shortest f))
    (cases_lt (length ds) (fraction_places f))
