-- The best of all lists of breaks is the chosen one.
use Rattle.std.proofs.Common.{◌≡◌, ◌∙◌, ℕ, zero, suc, ◌<◌, ◌≤◌, Bool, true, false, if◌then◌else◌, List, [], ◌∷◌, ◌++◌, map, refl, ap, sym, subst, arith, Option, Some, None}
use Rattle.std.specs.Prelude.{ℤ, Contains, int_lt, ◌<ℤ◌}
use Rattle.std.proofs.Math.Logic.{◌⊎◌, inl, inr}
use Rattle.std.proofs.lemmas.Int.{ints}
use Rattle.std.proofs.lemmas.Bool.{cases_lt}
use Rattle.std.proofs.lemmas.List.Elements.{Contains-append_right, Contains-append_cases, Contains-push_cases}
use Rattle.break_lines.specs.Orders.{NotAfter}
use Rattle.break_lines.specs.Problems.{Problem, Path, path_of, ends_of, places_of, key}
use Rattle.break_lines.specs.Chosen.{top, IsFalling, IsBreakList, AdmitsNone, IsChosen}
use Rattle.break_lines.proofs.Lists.{way_of_break_list, break_list_of_way}
use Rattle.break_lines.proofs.Dictionary.{not_after_refl, not_after_trans, not_after_antisym, key_apart}
use Rattle.vert_core.specs.LeastLists.{is_not_after, lists_up_to, lists_to, lesser_path, least_of, least_path}

-- The test decides the order.
lt_is : (x y : ℤ) → int_lt x y ≡ true → x <ℤ y
lt_is x y is = grind (arith, ints)

neither_less : (x y : ℤ) → int_lt x y ≡ false → int_lt y x ≡ false → x ≡ y
neither_less x y is isnt = grind (arith, ints)

after_by : (xs ys : List ℤ) → is_not_after xs ys ≡ true → NotAfter xs ys
after_by [] ys is = tt
after_by (x ∷ xs) [] is = cc
after_by (x ∷ xs) (y ∷ ys) is = cases (int_lt x y) (int_lt y x) refl refl (λ rest. after_by xs ys rest) is
  where
    cases : (b c : Bool) → int_lt x y ≡ b → int_lt y x ≡ c → (is_not_after xs ys ≡ true → NotAfter xs ys) → (if b then true else (if c then false else is_not_after xs ys)) ≡ true → NotAfter (x ∷ xs) (y ∷ ys)
    cases true c less more rest is = inl (lt_is x y less)
    cases false true less more rest is = cc
    cases false false less more rest is = inr (neither_less x y less more, rest is)

after_not : (xs ys : List ℤ) → is_not_after xs ys ≡ false → NotAfter ys xs
after_not [] ys is = cc
after_not (x ∷ xs) [] is = tt
after_not (x ∷ xs) (y ∷ ys) is = cases (int_lt x y) (int_lt y x) refl refl (λ rest. after_not xs ys rest) is
  where
    cases : (b c : Bool) → int_lt x y ≡ b → int_lt y x ≡ c → (is_not_after xs ys ≡ false → NotAfter ys xs) → (if b then true else (if c then false else is_not_after xs ys)) ≡ false → NotAfter (y ∷ ys) (x ∷ xs)
    cases true c less more rest is = cc
    cases false true less more rest is = inl (lt_is y x more)
    cases false false less more rest is = inr (sym (neither_less x y less more), rest is)

-- An element of a list.
module _ {A : Type 0} where
  abbrev pub IsIn : List A → A → Type 0
  IsIn [] x = ⊥
  IsIn (y ∷ ys) x = (y ≡ x) ⊎ IsIn ys x

  in_front : (xs ys : List A) (x : A) → IsIn xs x → IsIn (xs ++ ys) x
  in_front [] ys x h = absurd h
  in_front (y ∷ xs) ys x (inl h) = inl h
  in_front (y ∷ xs) ys x (inr h) = inr (in_front xs ys x h)

  in_after : (xs ys : List A) (x : A) → IsIn ys x → IsIn (xs ++ ys) x
  in_after [] ys x h = h
  in_after (y ∷ xs) ys x h = inr (in_after xs ys x h)

  in_either : (xs ys : List A) (x : A) → IsIn (xs ++ ys) x → IsIn xs x ⊎ IsIn ys x
  in_either [] ys x h = inr h
  in_either (y ∷ xs) ys x (inl h) = inl (inl h)
  in_either (y ∷ xs) ys x (inr h) = elim (in_either xs ys x h) [ inl here ↦ inl (inr here) | inr there ↦ inr there ]

in_map : {A B : Type 0} (f : A → B) (xs : List A) (x : A) → IsIn xs x → IsIn (map f xs) (f x)
in_map f [] x h = absurd h
in_map f (y ∷ xs) x (inl h) = inl (ap f h)
in_map f (y ∷ xs) x (inr h) = inr (in_map f xs x h)

in_mapped : {A B : Type 0} (f : A → B) (xs : List A) (y : B) → IsIn (map f xs) y → (x : A) × IsIn xs x × (f x ≡ y)
in_mapped f [] y h = absurd h
in_mapped f (x ∷ xs) y (inl h) = (x, inl refl, h)
in_mapped f (x ∷ xs) y (inr h) = let found = in_mapped f xs y h in (found.0, inr found.1, found.2)

-- The lists that are tried are the falling lists that contain each forced place.
pub record IsTried (p : Problem) (n : ℕ) (places : List ℕ) : Type 0 where
  pub falls : IsFalling places
  pub within : top places ≤ n
  pub forced : (f : ℕ) → 0 < f → f ≤ n → p.forced f ≡ true → Contains places f

contains_none : (x : ℕ) → Contains [] x → ⊥
contains_none x h = omega (arith, h.1)

first_in : (b : ℕ) (rest : List ℕ) → Contains (b ∷ rest) b
first_in b rest = (0, omega arith, refl)

contains_cases : (b : ℕ) (rest : List ℕ) (x : ℕ) → Contains (b ∷ rest) x → (b ≡ x) ⊎ Contains rest x
contains_cases b rest x h = cases (Contains-append_cases (b ∷ []) rest x h)
  where
    head : Contains [] x ⊎ (b ≡ x) → b ≡ x
    head (inl none) = absurd (contains_none x none)
    head (inr same) = same

    cases : Contains (b ∷ []) x ⊎ Contains rest x → (b ≡ x) ⊎ Contains rest x
    cases (inl here) = inl (head (Contains-push_cases [] b x here))
    cases (inr there) = inr there

contained_top : (places : List ℕ) (x : ℕ) → IsFalling places → Contains places x → x ≤ top places
contained_top [] x falls h = absurd (contains_none x h)
contained_top (b ∷ rest) x falls h = cases (λ there. contained_top rest x falls.1 there) (contains_cases b rest x h)
  where
    cases : (Contains rest x → x ≤ top rest) → (b ≡ x) ⊎ Contains rest x → x ≤ b
    cases before (inl same) = omega (arith, same)
    cases before (inr there) = omega (arith, before there, falls.0)

-- A falling list that contains each forced place is tried.
tried_below : (p : Problem) (n : ℕ) (places : List ℕ) → IsTried p n places → IsIn (lists_up_to p n) places
unfolding lists_up_to
tried_below p zero [] is = inl refl
tried_below p zero (b ∷ rest) is = absurd (omega (arith, is.within, is.falls.0))
tried_below p (suc n) [] is =
    without (p.forced (suc n)) refl (λ few. tried_below p n [] few)
  where
    without : (b : Bool) → p.forced (suc n) ≡ b → (IsTried p n [] → IsIn (lists_up_to p n) [])
        → IsIn ((if b then [] else lists_up_to p n) ++ map (λ (places : List ℕ). suc n ∷ places) (lists_up_to p n)) []
    without true must below = absurd (contains_none (suc n) (is.forced (suc n) (omega arith) (omega arith) must))
    without false must below =
        in_front (lists_up_to p n) _ []
        (below (record { falls = tt; within = omega arith; forced = λ f some most here. is.forced f some (omega (arith, most)) here }))
tried_below p (suc n) (b ∷ rest) is =
    by_last (cases_lt n b) (λ few. tried_below p n rest few) (λ few. tried_below p n (b ∷ rest) few)
  where
    has_rest : n < b → IsTried p n rest
    has_rest last =
        record {
          falls = is.falls.1;
          within = omega (arith, is.falls.0, is.within);
          forced = λ f some most here. elim (contains_cases b rest f (is.forced f some (omega (arith, most)) here)) [ inl same ↦ absurd (omega (arith, same, most, last)) | inr there ↦ there ];
        }

    has_all : b ≤ n → IsTried p n (b ∷ rest)
    has_all most = record { falls = is.falls; within = most; forced = λ f some below here. is.forced f some (omega (arith, below)) here }

    without : (c : Bool) → p.forced (suc n) ≡ c → b ≤ n → IsIn (lists_up_to p n) (b ∷ rest)
        → IsIn ((if c then [] else lists_up_to p n) ++ map (λ (places : List ℕ). suc n ∷ places) (lists_up_to p n)) (b ∷ rest)
    without true must most below =
        let late : suc n ≤ b = contained_top (b ∷ rest) (suc n) is.falls (is.forced (suc n) (omega arith) (omega arith) must) in
        absurd (omega (arith, late, most))
    without false must most below = in_front (lists_up_to p n) _ (b ∷ rest) below

    with_last : n < b → IsIn (lists_up_to p n) rest → IsIn (map (λ (places : List ℕ). suc n ∷ places) (lists_up_to p n)) (b ∷ rest)
    with_last last below =
        let same : suc n ≡ b = omega (arith, is.within, last) in
        subst (λ (x : ℕ). IsIn (map (λ (places : List ℕ). suc n ∷ places) (lists_up_to p n)) (x ∷ rest)) same
        (in_map (λ (places : List ℕ). suc n ∷ places) (lists_up_to p n) rest below)

    by_last : (n < b) ⊎ (b ≤ n) → (IsTried p n rest → IsIn (lists_up_to p n) rest) → (IsTried p n (b ∷ rest) → IsIn (lists_up_to p n) (b ∷ rest))
        → IsIn ((if p.forced (suc n) then [] else lists_up_to p n) ++ map (λ (places : List ℕ). suc n ∷ places) (lists_up_to p n)) (b ∷ rest)
    by_last (inl last) shorter same =
        in_after (if p.forced (suc n) then [] else lists_up_to p n) _ (b ∷ rest) (with_last last (shorter (has_rest last)))
    by_last (inr most) shorter same = without (p.forced (suc n)) refl most (same (has_all most))

-- Each list that is tried is falling and contains each forced place.
tried_is : (p : Problem) (n : ℕ) (places : List ℕ) → IsIn (lists_up_to p n) places → IsTried p n places
unfolding lists_up_to
tried_is p zero places (inl same) =
    subst (λ (xs : List ℕ). IsTried p zero xs) same (record { falls = tt; within = omega arith; forced = λ f some most here. absurd (omega (arith, some, most)) })
tried_is p zero places (inr none) = absurd none
tried_is p (suc n) places h = by_part (p.forced (suc n)) refl (λ (xs : List ℕ) there. tried_is p n xs there) (in_either (if p.forced (suc n) then [] else lists_up_to p n) _ places h)
  where
    longer : (rest : List ℕ) → IsTried p n rest → IsTried p (suc n) (suc n ∷ rest)
    longer rest is =
        record {
          falls = (omega (arith, is.within), is.falls);
          within = omega arith;
          forced = λ f some most here. elim (cases_lt n f) [ inl last ↦ (let same : suc n ≡ f = omega (arith, last, most) in subst (λ (x : ℕ). Contains (suc n ∷ rest) x) same (first_in (suc n) rest)) | inr below ↦ Contains-append_right (suc n ∷ []) rest f (is.forced f some below here) ];
        }

    by_part : (c : Bool) → p.forced (suc n) ≡ c → ((xs : List ℕ) → IsIn (lists_up_to p n) xs → IsTried p n xs)
        → IsIn (if c then [] else lists_up_to p n) places ⊎ IsIn (map (λ (places : List ℕ). suc n ∷ places) (lists_up_to p n)) places → IsTried p (suc n) places
    by_part true must before (inl none) = absurd none
    by_part false must before (inl there) =
        let is = before places there in
        record {
          falls = is.falls;
          within = omega (arith, is.within);
          forced = λ f some most here. elim (cases_lt n f) [ inl last ↦ (let same : suc n ≡ f = omega (arith, last, most) in let no : false ≡ true = sym must ∙ (ap p.forced same ∙ here) in absurd (cc)) | inr below ↦ is.forced f some below here ];
        }
    by_part c must before (inr there) =
        let found = in_mapped (λ (places : List ℕ). suc n ∷ places) (lists_up_to p n) places there in
        subst (λ (xs : List ℕ). IsTried p (suc n) xs) found.2 (longer found.0 (before found.0 found.1))

-- The lists that end at the end of the paragraph are the lists of breaks.
tried_list : (p : Problem) (n : ℕ) (places : List ℕ) → p.places ≡ n → IsBreakList p places → IsIn (lists_to p n) places
tried_list p zero [] all is = inl refl
tried_list p zero (b ∷ rest) all is = absurd (omega (arith, all, is.ends, is.falls.0))
tried_list p (suc n) [] all is = absurd (omega (arith, all, is.ends))
tried_list p (suc n) (b ∷ rest) all is =
    let last : suc n ≡ b = omega (arith, all, is.ends) in
    subst (λ (x : ℕ). IsIn (map (λ (places : List ℕ). suc n ∷ places) (lists_up_to p n)) (x ∷ rest)) last
    (in_map (λ (places : List ℕ). suc n ∷ places) (lists_up_to p n) rest (tried_below p n rest
    (record {
      falls = is.falls.1;
      within = omega (arith, is.falls.0, last);
      forced = λ f some most here. elim (contains_cases b rest f (is.forced f some (omega (arith, most, all)) here)) [ inl same ↦ absurd (omega (arith, same, most, last)) | inr there ↦ there ];
    })))

is_list : (p : Problem) (n : ℕ) (places : List ℕ) → p.places ≡ n → IsIn (lists_to p n) places → IsBreakList p places
is_list p zero places all (inl same) =
    subst (λ (xs : List ℕ). IsBreakList p xs) same
    (record { falls = tt; ends = sym all; forced = λ f some most here. absurd (omega (arith, some, most, all)) })
is_list p zero places all (inr none) = absurd none
is_list p (suc n) places all h =
    let found = in_mapped (λ (places : List ℕ). suc n ∷ places) (lists_up_to p n) places h in
    let is = tried_is p n found.0 found.1 in
    subst (λ (xs : List ℕ). IsBreakList p xs) found.2
    (record {
      falls = (omega (arith, is.within), is.falls);
      ends = sym all;
      forced = λ f some most here. elim (cases_lt n f) [ inl last ↦ (let same : suc n ≡ f = omega (arith, last, most, all) in subst (λ (x : ℕ). Contains (suc n ∷ found.0) x) same (first_in (suc n) found.0)) | inr below ↦ Contains-append_right (suc n ∷ []) found.0 f (is.forced f some below here) ];
    })

-- The best of some paths is one of them, and none of them is better.
pub record IsLeastOf (paths : List (Option Path)) (q : Path) : Type 0 where
  pub one : IsIn paths (Some q)
  pub least : (r : Path) → IsIn paths (Some r) → NotAfter (key q) (key r)

none_of : (paths : List (Option Path)) → least_of paths ≡ None → (r : Path) → IsIn paths (Some r) → ⊥
none_of [] is r h = h
none_of (None ∷ paths) is r (inl same) = cc
none_of (None ∷ paths) is r (inr there) = none_of paths is r there
none_of (Some q ∷ paths) is r h = cc

some_same : (q r : Path) → Some q ≡ Some r → q ≡ r
some_same q r e = cc

least_is : (paths : List (Option Path)) (q : Path) → least_of paths ≡ Some q → IsLeastOf paths q
least_is [] q is = cc
least_is (None ∷ paths) q is =
    let rest = least_is paths q is in
    record { one = inr rest.one; least = λ r h. elim h [ inl same ↦ absurd (cc) | inr there ↦ rest.least r there ] }
least_is (Some o ∷ paths) q is = by_rest (least_of paths) refl (some_same _ q is) (λ r found. least_is paths r found)
  where
    alone : least_of paths ≡ None → o ≡ q → IsLeastOf (Some o ∷ paths) q
    alone none same =
        record {
          one = inl (ap Some same);
          least = λ r h. elim h [ inl here ↦ (let e : q ≡ r = sym same ∙ some_same o r here in subst (λ (x : Path). NotAfter (key q) (key x)) e (not_after_refl (key q))) | inr there ↦ absurd (none_of paths none r there) ];
        }

    first : (r : Path) → IsLeastOf paths r → is_not_after (key o) (key r) ≡ true → o ≡ q → IsLeastOf (Some o ∷ paths) q
    first r rest before same =
        record {
          one = inl (ap Some same);
          least = λ t h. elim h [
            | inl here ↦ (let e : q ≡ t = sym same ∙ some_same o t here in subst (λ (x : Path). NotAfter (key q) (key x)) e (not_after_refl (key q)))
            | inr there ↦ subst (λ (x : Path). NotAfter (key x) (key t)) same (not_after_trans (key o) (key r) (key t) (after_by (key o) (key r) before) (rest.least t there))
          ];
        }

    later : (r : Path) → IsLeastOf paths r → is_not_after (key o) (key r) ≡ false → r ≡ q → IsLeastOf (Some o ∷ paths) q
    later r rest after same =
        record {
          one = inr (subst (λ (x : Path). IsIn paths (Some x)) same rest.one);
          least = λ t h. subst (λ (x : Path). NotAfter (key x) (key t)) same
              (elim h [ inl here ↦ subst (λ (x : Path). NotAfter (key r) (key x)) (some_same o t here) (after_not (key o) (key r) after) | inr there ↦ rest.least t there ]);
        }

    by_test : (r : Path) (b : Bool) → is_not_after (key o) (key r) ≡ b → IsLeastOf paths r → (if b then o else r) ≡ q → IsLeastOf (Some o ∷ paths) q
    by_test r true test rest same = first r rest test same
    by_test r false test rest same = later r rest test same

    by_rest : (found : Option Path) → least_of paths ≡ found → lesser_path o found ≡ q → ((r : Path) → least_of paths ≡ Some r → IsLeastOf paths r) → IsLeastOf (Some o ∷ paths) q
    by_rest None found same rest = alone found same
    by_rest (Some r) found same rest = by_test r (is_not_after (key o) (key r)) refl (rest r found) same

-- If no list is admitted, there is no best path.
pub no_least : (p : Problem) → AdmitsNone p → least_path p ≡ None
unfolding least_path
no_least p none = by_least (least_of (map (path_of p) (lists_to p p.places))) refl
  where
    by_least : (found : Option Path) → least_of (map (path_of p) (lists_to p p.places)) ≡ found → found ≡ None
    by_least None is = refl
    by_least (Some q) is =
        let least = least_is (map (path_of p) (lists_to p p.places)) q is in
        let from = in_mapped (path_of p) (lists_to p p.places) (Some q) least.one in
        absurd (none from.0 q (is_list p p.places from.0 refl from.1) from.2)

-- A list of breaks is among those that are compared.
compared : (p : Problem) (places : List ℕ) (q : Path) → IsBreakList p places → path_of p places ≡ Some q → IsIn (map (path_of p) (lists_to p p.places)) (Some q)
compared p places q is admitted =
    subst (λ (x : Option Path). IsIn (map (path_of p) (lists_to p p.places)) x) admitted
    (in_map (path_of p) (lists_to p p.places) places (tried_list p p.places places refl is))

-- The chosen list is the best path.
pub chosen_least : (p : Problem) (places : List ℕ) (q : Path) → IsChosen p places q → least_path p ≡ Some q
unfolding least_path
chosen_least p places q is = by_least (least_of (map (path_of p) (lists_to p p.places))) refl
  where
    tried : IsIn (map (path_of p) (lists_to p p.places)) (Some q)
    tried = compared p places q is.is_list is.admitted

    by_least : (found : Option Path) → least_of (map (path_of p) (lists_to p p.places)) ≡ found → found ≡ Some q
    by_least None none = absurd (none_of (map (path_of p) (lists_to p p.places)) none q tried)
    by_least (Some r) found =
        let least = least_is (map (path_of p) (lists_to p p.places)) r found in
        let from = in_mapped (path_of p) (lists_to p p.places) (Some r) least.one in
        ap Some (key_apart r q (not_after_antisym (key r) (key q) (least.least q tried) (is.least from.0 r (is_list p p.places from.0 refl from.1) from.2)))

-- If there is no best path, no list is admitted.
pub none_least : (p : Problem) → least_path p ≡ None → AdmitsNone p
unfolding least_path
none_least p none places q is admitted = none_of (map (path_of p) (lists_to p p.places)) none q (compared p places q is admitted)

-- The best path is the chosen list.
pub least_chosen : (p : Problem) (q : Path) → least_path p ≡ Some q → IsChosen p (places_of (ends_of q)) q
unfolding least_path
least_chosen p q found =
    let least = least_is (map (path_of p) (lists_to p p.places)) q found in
    let from = in_mapped (path_of p) (lists_to p p.places) (Some q) least.one in
    let way = way_of_break_list p from.0 q (is_list p p.places from.0 refl from.1) from.2 in
    let list = break_list_of_way p q way.0 way.1 in
    record { is_list = list.0; admitted = list.1; least = λ others r is admitted. least.least r (compared p others r is admitted) }
