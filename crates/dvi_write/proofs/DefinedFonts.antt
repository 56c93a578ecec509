-- The fonts that a file of pages defines: each is a font of the job, and each font that a page selects is among them.
use Rattle.std.proofs.Common.{◌≡◌, ℕ, zero, suc, ◌+◌, ◌<◌, ◌≤◌, List, [], ◌∷◌, ◌++◌, length, refl, ap, ap₂, sym, ◌∙◌, subst, arith, inl, inr, length-append}
use Rattle.std.specs.Prelude.{ℤ, pos, ◌==◌, ◌⊎◌, Bool, true, false, not, ◌&&◌, ◌||◌, if◌then◌else◌, filter, Option, Some, None, is_some, IsSome}
use Rattle.std.specs.Ordering.{int_eq}
use Rattle.std.specs.List.{AllByRecursion, list_any}
use Rattle.std.proofs.lemmas.Bool.{cases_lt, eqb-true, eq-eqb}
use Rattle.std.proofs.lemmas.Bool.Decides.{Decides-int_eq}
use Rattle.std.proofs.lemmas.List.Folds.{list_any-append}
use Rattle.std.proofs.lemmas.List.Elements.{filter-append}
use Rattle.dvi_ops.specs.Instruction.{Definition, FontNum, Instruction, Do}
use Rattle.dvi_ops.specs.Fonts.{selections, first_definition_of, known_after}
use Rattle.dvi_ops.specs.Layout.{define}
use Rattle.scaled_core.proofs.EachOf.{all_append, all_weaker}
use Rattle.tfm_core.specs.declared.slots.LoadedFont.{LoadedFont}
use Rattle.tfm_core.specs.Slots.{Slots, font_in}
use Rattle.dvi_write.specs.MoreFonts.{Extends}
use Rattle.dvi_write.specs.FilePages.{numbers_below, definition_of, definition_by, definitions_of, selects, is_among, is_fresh, fresh_slots, in_rising_order}

or_cases : {G : Type 0} (a b : Bool) → (a || b) ≡ true → (a ≡ true → G) → (b ≡ true → G) → G
or_cases true b is first second = first refl
or_cases false b is first second = second is

or_left : (a b : Bool) → a ≡ true → (a || b) ≡ true
or_left true b is = refl
or_left false b is = cc

or_right : (a b : Bool) → b ≡ true → (a || b) ≡ true
or_right true b is = refl
or_right false b is = is

or_false : (a : Bool) → (a || false) ≡ true → a ≡ true
or_false true is = refl
or_false false is = is

both_false : (a b c : Bool) → (a && (b && false)) ≡ (c && (b && false))
both_false true true true = refl
both_false true true false = refl
both_false true false true = refl
both_false true false false = refl
both_false false true true = refl
both_false false true false = refl
both_false false false true = refl
both_false false false false = refl

three_true : (a b c : Bool) → (a && (b && c)) ≡ true → (a ≡ true) × ((b ≡ true) × (c ≡ true))
three_true true true true is = (refl, (refl, refl))
three_true true true false is = cc
three_true true false c is = cc
three_true false b c is = cc

is_not : (b : Bool) → not b ≡ true → b ≡ false
is_not true is = cc
is_not false is = refl

-- Slots among others.
among_append : (s : ℕ) (xs ys : List ℕ) → is_among s (xs ++ ys) ≡ (is_among s xs || is_among s ys)
among_append s xs ys = list_any-append (λ other. other == s) xs ys

among_filter : (p : ℕ → Bool) (s n : ℕ) → is_among s (filter p (numbers_below n)) ≡ true → (p s ≡ true) × (s < n)
among_filter p s zero is = cc
among_filter p s (suc n) is =
    or_cases (is_among s (filter p (numbers_below n))) (is_among s (filter p (n ∷ [])))
    (sym (among_append s (filter p (numbers_below n)) (filter p (n ∷ []))) ∙ (ap (is_among s) (sym (filter-append p (numbers_below n) (n ∷ []))) ∙ is))
    (λ e. let r = among_filter p s n e in (r.0, omega (arith, r.1))) (by_last (p n) refl)
  where
    by_last : (b : Bool) → p n ≡ b → is_among s (if b then n ∷ [] else []) ≡ true → (p s ≡ true) × (s < suc n)
    by_last true passes e = let same : n ≡ s = eqb-true n s (or_false (n == s) e) in (ap p (sym same) ∙ passes, omega (arith, same))
    by_last false passes e = cc

below_last : (n s : ℕ) → s < suc n → (n == s) ≡ false → s < n
below_last n s less other = by_order (cases_lt s n)
  where
    by_order : (s < n) ⊎ (n ≤ s) → s < n
    by_order (inl l) = l
    by_order (inr r) = let same : n ≡ s = omega (arith, less, r) in let yes = eq-eqb n s same in cc

filter_among : (p : ℕ → Bool) (s n : ℕ) → p s ≡ true → s < n → is_among s (filter p (numbers_below n)) ≡ true
filter_among p s zero passes less = absurd (omega (arith, less))
filter_among p s (suc n) passes less =
    ap (is_among s) (filter-append p (numbers_below n) (n ∷ []))
    ∙ (among_append s (filter p (numbers_below n)) (filter p (n ∷ [])) ∙ by_test (n == s) refl (λ l. filter_among p s n passes l))
  where
    by_test : (b : Bool) → (n == s) ≡ b → (s < n → is_among s (filter p (numbers_below n)) ≡ true)
        → (is_among s (filter p (numbers_below n)) || is_among s (if p n then n ∷ [] else [])) ≡ true
    by_test true e before =
        let same : n ≡ s = eqb-true n s e in
        or_right (is_among s (filter p (numbers_below n))) _ (ap (λ b. is_among s (if b then n ∷ [] else [])) (ap p same ∙ passes) ∙ or_left (n == s) false e)
    by_test false e before = or_left (is_among s (filter p (numbers_below n))) _ (before (below_last n s less e))

filter_same : (p q : ℕ → Bool) (n : ℕ) → ((s : ℕ) → s < n → p s ≡ q s) → filter p (numbers_below n) ≡ filter q (numbers_below n)
filter_same p q zero same = refl
filter_same p q (suc n) same =
    filter-append p (numbers_below n) (n ∷ [])
    ∙ (ap₂ (λ (xs : List ℕ) (b : Bool). xs ++ (if b then n ∷ [] else [])) (filter_same p q n (λ s less. same s (omega (arith, less)))) (same n (omega arith))
    ∙ sym (filter-append q (numbers_below n) (n ∷ [])))

filter_short : (p : ℕ → Bool) (n : ℕ) → length (filter p (numbers_below n)) ≤ n
filter_short p zero = omega arith
filter_short p (suc n) =
    omega (arith, filter_short p n, ap length (filter-append p (numbers_below n) (n ∷ [])), length-append (filter p (numbers_below n)) (filter p (n ∷ [])), by_test (p n))
  where
    by_test : (b : Bool) → length (if b then n ∷ [] else []) ≤ 1
    by_test true = omega arith
    by_test false = omega arith

-- The numbers that pass one of two tests, where none passes both.
filter_either : (p q : ℕ → Bool) → ((s : ℕ) → p s ≡ true → q s ≡ true → ⊥) → (xs : List ℕ) → length (filter (λ s. p s || q s) xs) ≡ length (filter p xs) + length (filter q xs)
filter_either p q never [] = refl
filter_either p q never (x ∷ xs) = by_tests (p x) (q x) refl refl (filter_either p q never xs)
  where
    by_tests : (a b : Bool) → p x ≡ a → q x ≡ b → length (filter (λ s. p s || q s) xs) ≡ length (filter p xs) + length (filter q xs)
        → length (if (a || b) then x ∷ filter (λ s. p s || q s) xs else filter (λ s. p s || q s) xs)
        ≡ length (if a then x ∷ filter p xs else filter p xs) + length (if b then x ∷ filter q xs else filter q xs)
    by_tests true true first second later = absurd (never x first second)
    by_tests true false first second later = omega (arith, later)
    by_tests false true first second later = omega (arith, later)
    by_tests false false first second later = later

-- A fresh font is loaded, is not defined yet, and is selected.
pub fresh_parts : (fonts : Slots) (slots : List ℕ) (is : List Instruction) (s : ℕ) → is_fresh fonts slots is s ≡ true
    → (is_some (font_in fonts s) ≡ true) × ((not (is_among s slots) ≡ true) × (list_any (selects s) is ≡ true))
unfolding is_fresh
fresh_parts fonts slots is s fresh = three_true (is_some (font_in fonts s)) (not (is_among s slots)) (list_any (selects s) is) fresh

pub among_fresh : (fonts : Slots) (slots : List ℕ) (is : List Instruction) (s : ℕ) → is_among s (fresh_slots fonts slots is) ≡ true → (is_fresh fonts slots is s ≡ true) × (s < 256)
unfolding fresh_slots
among_fresh fonts slots is s among = among_filter (is_fresh fonts slots is) s 256 among

fresh_among : (fonts : Slots) (slots : List ℕ) (is : List Instruction) (s : ℕ) → is_fresh fonts slots is s ≡ true → s < 256 → is_among s (fresh_slots fonts slots is) ≡ true
unfolding fresh_slots
fresh_among fonts slots is s fresh small = filter_among (is_fresh fonts slots is) s 256 fresh small

among_fresh-is : (fonts : Slots) (slots : List ℕ) (is : List Instruction) (s : ℕ) → s < 256 → is_among s (fresh_slots fonts slots is) ≡ is_fresh fonts slots is s
among_fresh-is fonts slots is s small = by_tests (is_fresh fonts slots is s) (is_among s (fresh_slots fonts slots is)) refl refl
  where
    by_tests : (a b : Bool) → is_fresh fonts slots is s ≡ a → is_among s (fresh_slots fonts slots is) ≡ b → b ≡ a
    by_tests true true first second = refl
    by_tests true false first second = sym second ∙ fresh_among fonts slots is s first small
    by_tests false true first second = sym (among_fresh fonts slots is s second).0 ∙ first
    by_tests false false first second = refl

-- A slot is among these, or its font is fresh.
either : Slots → List ℕ → List Instruction → ℕ → Bool
either fonts slots is s = is_among s slots || is_fresh fonts slots is s

in_rising_order-more : (fonts : Slots) (slots : List ℕ) (is : List Instruction) → in_rising_order (slots ++ fresh_slots fonts slots is) ≡ filter (either fonts slots is) (numbers_below 256)
unfolding in_rising_order either
in_rising_order-more fonts slots is =
    filter_same (λ s. is_among s (slots ++ fresh_slots fonts slots is)) (λ s. is_among s slots || is_fresh fonts slots is s) 256
    (λ s small. among_append s slots (fresh_slots fonts slots is) ∙ ap (λ b. is_among s slots || b) (among_fresh-is fonts slots is s small))

never_both : (fonts : Slots) (slots : List ℕ) (is : List Instruction) (s : ℕ) → is_among s slots ≡ true → is_fresh fonts slots is s ≡ true → ⊥
never_both fonts slots is s among fresh = let out = is_not (is_among s slots) (fresh_parts fonts slots is s fresh).1.0 in cc

count_either : (fonts : Slots) (slots : List ℕ) (is : List Instruction) → length (filter (either fonts slots is) (numbers_below 256)) ≡ length (in_rising_order slots) + length (fresh_slots fonts slots is)
unfolding in_rising_order fresh_slots either
count_either fonts slots is = filter_either (λ s. is_among s slots) (is_fresh fonts slots is) (never_both fonts slots is) (numbers_below 256)

-- Each slot is defined once, so at most 256 fonts are defined.
pub defined_once : (fonts : Slots) (slots : List ℕ) (is : List Instruction) → length (in_rising_order slots) ≡ length slots
    → length (in_rising_order (slots ++ fresh_slots fonts slots is)) ≡ length (slots ++ fresh_slots fonts slots is)
defined_once fonts slots is once =
    ap length (in_rising_order-more fonts slots is) ∙ (count_either fonts slots is ∙ (ap (λ n. n + length (fresh_slots fonts slots is)) once ∙ sym (length-append slots (fresh_slots fonts slots is))))

pub few_defined : (slots : List ℕ) → length (in_rising_order slots) ≡ length slots → length slots ≤ 256
unfolding in_rising_order
few_defined slots once = omega (arith, once, filter_short (λ s. is_among s slots) 256)

none_pass : (n : ℕ) → length (filter (λ slot. is_among slot []) (numbers_below n)) ≡ 0
none_pass zero = refl
none_pass (suc n) =
    omega (
      arith,
      none_pass n,
      ap length (filter-append (λ slot. is_among slot []) (numbers_below n) (n ∷ [])),
      length-append (filter (λ slot. is_among slot []) (numbers_below n)) (filter (λ slot. is_among slot []) (n ∷ [])),
    )

pub none_rising : length (in_rising_order []) ≡ 0
unfolding in_rising_order
none_rising = none_pass 256

-- The definitions of the fonts in some slots.
same_is_true : (z : ℤ) → int_eq z z ≡ true
same_is_true z = (Decides-int_eq z z).1 refl

defined_after : (f : ℤ) (ds es : List Definition) → IsSome (first_definition_of f es) → IsSome (first_definition_of f (ds ++ es))
defined_after f [] es some = some
defined_after f (d ∷ ds) es some = by_test (int_eq f d.number) (defined_after f ds es some)
  where
    by_test : (same : Bool) → IsSome (first_definition_of f (ds ++ es)) → IsSome (if same then Some d else first_definition_of f (ds ++ es))
    by_test true later = refl
    by_test false later = later

pub defined_among : (fonts : Slots) (s : ℕ) (l : LoadedFont) (slots : List ℕ) → font_in fonts s ≡ Some l → is_among s slots ≡ true → IsSome (first_definition_of (pos s) (definitions_of fonts slots))
defined_among fonts s l [] is among = cc
defined_among fonts s l (t ∷ slots) is among =
    or_cases (t == s) (is_among s slots) among
    (λ e. let same : t ≡ s = eqb-true t s e in here t same (font_in fonts t) (ap (font_in fonts) same ∙ is))
    (λ e. defined_after (pos s) (definition_by t (font_in fonts t)) (definitions_of fonts slots) (defined_among fonts s l slots is e))
  where
    here : (t : ℕ) → t ≡ s → (x : Option LoadedFont) → x ≡ Some l → IsSome (first_definition_of (pos s) (definition_by t x ++ definitions_of fonts slots))
    here t same None is = cc
    here t same (Some m) is =
        ap (λ b. is_some (if b then Some (definition_of t m) else first_definition_of (pos s) (definitions_of fonts slots))) (ap (λ n. int_eq (pos s) (pos n)) same ∙ same_is_true (pos s))

pub each_of : (P : Definition → Type 0) (fonts : Slots) (slots : List ℕ) → ((s : ℕ) (l : LoadedFont) → is_among s slots ≡ true → font_in fonts s ≡ Some l → P (definition_of s l))
    → AllByRecursion P (definitions_of fonts slots)
each_of P fonts [] each = tt
each_of P fonts (t ∷ slots) each =
    all_append P (definition_by t (font_in fonts t)) (definitions_of fonts slots) (here (font_in fonts t) refl)
    (each_of P fonts slots (λ s l among is. each s l (or_right (t == s) (is_among s slots) among) is))
  where
    here : (x : Option LoadedFont) → font_in fonts t ≡ x → AllByRecursion P (definition_by t x)
    here None is = tt
    here (Some l) is = (each t l (or_left (t == t) (is_among t slots) (eq-eqb t t refl)) is, tt)

-- The known definitions after more definitions.
kept_known : (f : ℤ) (known ds : List Definition) → IsSome (first_definition_of f known) → IsSome (first_definition_of f (known_after known (define ds)))
kept_known f known [] some = some
kept_known f known (d ∷ ds) some = kept_known f (d ∷ known) ds (by_test (int_eq f d.number))
  where
    by_test : (same : Bool) → IsSome (if same then Some d else first_definition_of f known)
    by_test true = refl
    by_test false = some

known_new : (f : ℤ) (known ds : List Definition) → IsSome (first_definition_of f ds) → IsSome (first_definition_of f (known_after known (define ds)))
known_new f known [] some = cc
known_new f known (d ∷ ds) some = by_test (int_eq f d.number) refl some (λ later. known_new f (d ∷ known) ds later)
  where
    by_test : (same : Bool) → int_eq f d.number ≡ same → IsSome (if same then Some d else first_definition_of f ds)
        → (IsSome (first_definition_of f ds) → IsSome (first_definition_of f (known_after (d ∷ known) (define ds)))) → IsSome (first_definition_of f (known_after (d ∷ known) (define ds)))
    by_test true is some later = kept_known f (d ∷ known) ds (ap (λ b. is_some (if b then Some d else first_definition_of f known)) is)
    by_test false is some later = later some

all_known : (P : Definition → Type 0) (known ds : List Definition) → AllByRecursion P known → AllByRecursion P ds → AllByRecursion P (known_after known (define ds))
all_known P known [] all more = all
all_known P known (d ∷ ds) all (here, more) = all_known P (d ∷ known) ds (here, all) more

-- A definition is that of a font of the job whose slot is among these.
pub record IsListed (fonts : Slots) (slots : List ℕ) (d : Definition) : Type 0 where
  pub slot : ℕ
  pub loaded : LoadedFont
  pub is : d ≡ definition_of slot loaded
  pub among : is_among slot slots ≡ true
  pub small : slot < 256
  pub has : font_in fonts slot ≡ Some loaded

-- The known definitions are those of the fonts in these slots.
pub record AreKnown (fonts : Slots) (slots : List ℕ) (known : List Definition) : Type 0 where
  pub forth : (s : ℕ) → is_among s slots ≡ true → IsSome (first_definition_of (pos s) known)
  pub back : AllByRecursion (IsListed fonts slots) known

pub none_known : (fonts : Slots) → AreKnown fonts [] []
none_known fonts = record { forth = λ s among. cc; back = tt }

some_font : (x : Option LoadedFont) → is_some x ≡ true → (l : LoadedFont) × (x ≡ Some l)
some_font None some = cc
some_font (Some l) some = (l, refl)

module _ (fonts : Slots) (slots : List ℕ) (is : List Instruction) where
  fresh : List ℕ
  fresh = fresh_slots fonts slots is

  fresh_defined : (s : ℕ) → is_among s fresh ≡ true → IsSome (first_definition_of (pos s) (definitions_of fonts fresh))
  unfolding fresh
  fresh_defined s among =
      let parts = fresh_parts fonts slots is s (among_fresh fonts slots is s among).0 in
      let l = some_font (font_in fonts s) parts.0 in
      defined_among fonts s l.0 (fresh_slots fonts slots is) l.1 among

  pub known_next : (known : List Definition) → AreKnown fonts slots known
      → AreKnown fonts (slots ++ fresh_slots fonts slots is) (known_after known (define (definitions_of fonts (fresh_slots fonts slots is))))
  unfolding fresh
  known_next known knows = record {
    forth = λ s among.
        or_cases (is_among s slots) (is_among s (fresh_slots fonts slots is)) (sym (among_append s slots (fresh_slots fonts slots is)) ∙ among)
        (λ old. kept_known (pos s) known (definitions_of fonts (fresh_slots fonts slots is)) (knows.forth s old))
        (λ new. known_new (pos s) known (definitions_of fonts (fresh_slots fonts slots is)) (fresh_defined s new));
    back =
        all_known (IsListed fonts (slots ++ fresh_slots fonts slots is)) known (definitions_of fonts (fresh_slots fonts slots is))
        (all_weaker (IsListed fonts slots) (IsListed fonts (slots ++ fresh_slots fonts slots is)) known
        (λ d listed. record {
          slot = listed.slot;
          loaded = listed.loaded;
          is = listed.is;
          among = among_append listed.slot slots (fresh_slots fonts slots is) ∙ or_left (is_among listed.slot slots) _ listed.among;
          small = listed.small;
          has = listed.has;
        }) knows.back)
        (each_of (IsListed fonts (slots ++ fresh_slots fonts slots is)) fonts (fresh_slots fonts slots is)
        (λ s l among has. record {
          slot = s;
          loaded = l;
          is = refl;
          among = among_append s slots (fresh_slots fonts slots is) ∙ or_right (is_among s slots) _ among;
          small = (among_fresh fonts slots is s among).1;
          has = has;
        }));
  }

  -- A selected font is known afterwards.
  pub selected_known : (known : List Definition) → AreKnown fonts slots known → (s : ℕ) (l : LoadedFont) → list_any (selects s) is ≡ true → s < 256 → font_in fonts s ≡ Some l
      → IsSome (first_definition_of (pos s) (known_after known (define (definitions_of fonts (fresh_slots fonts slots is)))))
  unfolding fresh is_fresh
  selected_known known knows s l selected small has = by_test (is_among s slots) refl
    where
      by_test : (b : Bool) → is_among s slots ≡ b → IsSome (first_definition_of (pos s) (known_after known (define (definitions_of fonts (fresh_slots fonts slots is)))))
      by_test true old = kept_known (pos s) known (definitions_of fonts (fresh_slots fonts slots is)) (knows.forth s old)
      by_test false old =
          known_new (pos s) known (definitions_of fonts (fresh_slots fonts slots is))
          (fresh_defined s (fresh_among fonts slots is s (rw (has, old, selected) refl) small))

-- The defined slots in rising order.
pub rising_among : (slots : List ℕ) (s : ℕ) → is_among s slots ≡ true → s < 256 → is_among s (in_rising_order slots) ≡ true
unfolding in_rising_order
rising_among slots s among small = filter_among (λ t. is_among t slots) s 256 among small

-- A definition that is known by its number.
pub listed_at : (fonts : Slots) (slots : List ℕ) (known : List Definition) (f : ℤ) → AllByRecursion (IsListed fonts slots) known → IsSome (first_definition_of f known)
    → (d : Definition) × (f ≡ d.number) × IsListed fonts slots d
listed_at fonts slots [] f all some = cc
listed_at fonts slots (d ∷ known) f (here, all) some = by_test (int_eq f d.number) refl some (λ later. listed_at fonts slots known f all later)
  where
    by_test : (same : Bool) → int_eq f d.number ≡ same → IsSome (if same then Some d else first_definition_of f known)
        → (IsSome (first_definition_of f known) → (e : Definition) × (f ≡ e.number) × IsListed fonts slots e) → (e : Definition) × (f ≡ e.number) × IsListed fonts slots e
    by_test true is some later = (d, (Decides-int_eq f d.number).0 is, here)
    by_test false is some later = later some

-- Each selected font, with the fact that it is selected.
pub each_selected : (P Q : ℤ → Type 0) (is : List Instruction) (chosen : ℕ → Bool)
    → ((s : ℕ) → list_any (selects s) is ≡ true → chosen s ≡ true)
    → ((f : ℤ) → P f → (s : ℕ) × (f ≡ pos s) × (chosen s ≡ true → Q f))
    → AllByRecursion P (selections is) → AllByRecursion Q (selections is)
each_selected P Q [] chosen all each has = tt
each_selected P Q (Do (FontNum f) ∷ is) chosen all each (here, has) =
    let of = each f here in (
      of.2 (all of.0 (or_left (int_eq f (pos of.0)) (list_any (selects of.0) is) (ap (λ z. int_eq f z) (sym of.1) ∙ same_is_true f))),
      each_selected P Q is chosen (λ s e. all s (or_right (int_eq f (pos s)) (list_any (selects s) is) e)) each has,
    )
each_selected P Q (i ∷ is) chosen all each has = each_selected P Q is chosen (λ s e. all s (or_right (selects s i) (list_any (selects s) is) e)) each has

-- A property of each selected font is one of a font that is selected.
pub holds_selected : (P : ℤ → Type 0) (is : List Instruction) → AllByRecursion P (selections is) → (s : ℕ) → list_any (selects s) is ≡ true → P (pos s)
holds_selected P [] has s e = cc
holds_selected P (Do (FontNum f) ∷ is) (here, has) s e =
    or_cases (int_eq f (pos s)) (list_any (selects s) is) e (λ same. subst P ((Decides-int_eq f (pos s)).0 same) here) (λ later. holds_selected P is has s later)
holds_selected P (i ∷ is) has s e = holds_selected P is has s e

-- The selected fonts are loaded.
abbrev pub HasSelected : Slots → List Instruction → Type 0
HasSelected fonts is = (s : ℕ) → list_any (selects s) is ≡ true → is_some (font_in fonts s) ≡ true

more_there : (fonts more : Slots) → Extends fonts more → (s : ℕ) → is_some (font_in fonts s) ≡ true → is_some (font_in more s) ≡ true
more_there fonts more extends s there = let l = some_font (font_in fonts s) there in ap is_some (extends s l.0 l.1)

same_fresh : (fonts more : Slots) (slots : List ℕ) (is : List Instruction) → Extends fonts more → HasSelected fonts is → (s : ℕ) → is_fresh fonts slots is s ≡ is_fresh more slots is s
unfolding is_fresh
same_fresh fonts more slots is extends has s = by_test (list_any (selects s) is) refl
  where
    by_test : (b : Bool) → list_any (selects s) is ≡ b
        → (is_some (font_in fonts s) && (not (is_among s slots) && b)) ≡ (is_some (font_in more s) && (not (is_among s slots) && b))
    by_test true e = ap (λ a. a && (not (is_among s slots) && true)) (has s e ∙ sym (more_there fonts more extends s (has s e)))
    by_test false e = both_false (is_some (font_in fonts s)) (not (is_among s slots)) (is_some (font_in more s))

-- More fonts change neither the fresh fonts of a page nor their definitions.
pub fresh_same : (fonts more : Slots) (slots : List ℕ) (is : List Instruction) → Extends fonts more → HasSelected fonts is → fresh_slots fonts slots is ≡ fresh_slots more slots is
unfolding fresh_slots
fresh_same fonts more slots is extends has = filter_same (is_fresh fonts slots is) (is_fresh more slots is) 256 (λ s small. same_fresh fonts more slots is extends has s)

pub definitions_same : (fonts more : Slots) (slots : List ℕ) → Extends fonts more → ((s : ℕ) → is_among s slots ≡ true → is_some (font_in fonts s) ≡ true)
    → definitions_of fonts slots ≡ definitions_of more slots
definitions_same fonts more [] extends there = refl
definitions_same fonts more (t ∷ slots) extends there =
    ap₂ (λ (ds es : List Definition). ds ++ es) (ap (definition_by t) here)
    (definitions_same fonts more slots extends (λ s among. there s (or_right (t == s) (is_among s slots) among)))
  where
    here : font_in fonts t ≡ font_in more t
    here = let l = some_font (font_in fonts t) (there t (or_left (t == t) (is_among t slots) (eq-eqb t t refl))) in l.1 ∙ sym (extends t l.0 l.1)
