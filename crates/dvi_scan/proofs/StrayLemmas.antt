-- The places of a chain that are left in the state of the pass.
use Rattle.std.proofs.Common.{◌≡◌, ◌≤◌, ◌<◌, ◌+◌, ◌++◌, [], ◌∷◌, List, ℕ, ℤ, zero, suc, Bool, true, false, Option, Some, None, length, reverse, if◌then◌else◌, refl, sym, ◌∙◌, ap, subst, inl, inr, append_assoc, append-nil, length-append, arith}
use Rattle.std.proofs.lemmas.Bool.{eq-eqb, eqb-true}
use Rattle.std.proofs.lemmas.List.{reverse-append, length-take-le}
use Rattle.std.specs.Prelude.{◌⊎◌, nat_eq, option_and_then}
use Rattle.std.specs.List.{AllByRecursion}
use Rattle.dvi_scan.specs.Chain.{Links}
use Rattle.dvi_scan.specs.Ends.{IsSpelledAt}
use Rattle.dvi_ops.specs.Fonts.{WidthsByName}
use Rattle.dvi_ops.specs.Instruction.{Instruction, Bop, Postamble}
use Rattle.dvi_ops.specs.Table.{Spells}
use Rattle.dvi_ops.specs.Tokens.{Token, IsSpelled, bop_place, places, token_bytes}
use Rattle.scaled_core.proofs.EachOf.{all_append}
use Rattle.dvi_ops.proofs.Frames.{not_empty}
use Rattle.dvi_scan.specs.Reached.{IsIn, IsReached, PlacesLeft, ReadSoFar, all_left, after_bop, after_bops}
use Rattle.dvi_scan.proofs.LeftLemmas.{bops_met}

-- Each number is less than those after it.
abbrev Rises : List ℕ → Type 0
Rises [] = Unit {0}
Rises (x ∷ xs) = AllByRecursion (λ (y : ℕ). x < y) xs × Rises xs

all_less : (x bound : ℕ) (xs : List ℕ) → x < bound → AllByRecursion (λ (y : ℕ). bound ≤ y) xs → AllByRecursion (λ (y : ℕ). x < y) xs
all_less x bound [] low all = tt
all_less x bound (y ∷ ys) low (here, all) = (omega arith, all_less x bound ys low all)

all_from : (x bound : ℕ) (xs : List ℕ) → x < bound → AllByRecursion (λ (y : ℕ). bound ≤ y) xs → AllByRecursion (λ (y : ℕ). x ≤ y) xs
all_from x bound [] low all = tt
all_from x bound (y ∷ ys) low (here, all) = (omega arith, all_from x bound ys low all)

-- An instruction has at least one byte.
pub ends_after : (bytes : List ℕ) (place bound : ℕ) (i : Instruction) → IsSpelledAt bytes place bound i → place < bound
ends_after bytes place bound i (zero, within, spelled) = absurd (not_empty i spelled)
ends_after bytes place bound i (suc n, within, spelled) = omega arith

onto : (x : ℕ) (xs ys : List ℕ) → reverse (x ∷ xs) ++ ys ≡ reverse xs ++ (x ∷ ys)
onto x xs ys = ap (λ (zs : List ℕ). zs ++ ys) (reverse-append (x ∷ []) xs) ∙ append_assoc (reverse xs) (x ∷ []) ys

-- The places of a chain rise from the first to the last.
links_rise : (bytes : List ℕ) (bound : ℕ) (pointer : ℤ) (chain later : List ℕ) → Links bytes bound pointer chain → AllByRecursion (λ (y : ℕ). bound ≤ y) later → Rises later → Rises (reverse chain ++ later)
links_rise bytes bound pointer [] later links above rises = rises
links_rise bytes bound pointer (place ∷ earlier) later (named, counts, before, spelled_at, links) above rises =
    let low : place < bound = ends_after bytes place bound (Bop counts before) spelled_at in
    subst Rises (sym (onto place earlier later))
    (links_rise bytes place before earlier (place ∷ later) links (omega arith, all_from place bound later low above) (all_less place bound later low above, rises))

-- A bop that was found is among the places.
found_in : (at : ℕ) (missed : Bool) (ps : List ℕ) (next : PlacesLeft) → after_bop at missed ps ≡ Some next → IsIn at ps
found_in at missed [] next e = absurd cc
found_in at missed (p ∷ ps) next e = go (nat_eq p at) refl (found_in at true ps next) e
  where
    go : (b : Bool) → nat_eq p at ≡ b → (after_bop at true ps ≡ Some next → IsIn at ps) → (if b then Some (record { missed = missed; places = ps }) else after_bop at true ps) ≡ Some next → (at ≡ p) ⊎ IsIn at ps
    go true is rest e = inl (sym (eqb-true p at is))
    go false is rest e = inr (rest e)

-- A bop that was not found is not among the places.
pub lost_out : (at : ℕ) (missed : Bool) (ps : List ℕ) → after_bop at missed ps ≡ None → IsIn at ps → ⊥
lost_out at missed [] e there = there
lost_out at missed (p ∷ ps) e there = go (nat_eq p at) refl (lost_out at true ps) e there
  where
    go : (b : Bool) → nat_eq p at ≡ b → (after_bop at true ps ≡ None → IsIn at ps → ⊥) → (if b then Some (record { missed = missed; places = ps }) else after_bop at true ps) ≡ None → (at ≡ p) ⊎ IsIn at ps → ⊥
    go true is rest e there = absurd cc
    go false is rest e (inl same) = let both : false ≡ true = sym is ∙ eq-eqb p at (sym same) in absurd cc
    go false is rest e (inr there) = rest e there

pub stray : (at : ℕ) (left : PlacesLeft) → after_bops (at ∷ []) left ≡ None → IsIn at left.places → ⊥
stray at left e there = go (after_bop at left.missed left.places) refl e
  where
    go : (o : Option PlacesLeft) → after_bop at left.missed left.places ≡ o → option_and_then (after_bops []) o ≡ None → ⊥
    go None is e = lost_out at left.missed left.places is there
    go (Some next) is e = cc

in_all : (P : ℕ → Type 0) (x : ℕ) (xs : List ℕ) → AllByRecursion P xs → IsIn x xs → P x
in_all P x [] all there = absurd there
in_all P x (y ∷ ys) (here, all) (inl same) = subst P (sym same) here
in_all P x (y ∷ ys) (here, all) (inr there) = in_all P x ys all there

-- After a bop the places after its own are left.
left_one : (c at : ℕ) (missed : Bool) (ps : List ℕ) (next : PlacesLeft) → Rises ps → at < c → after_bop at missed ps ≡ Some next → IsIn c ps → IsIn c next.places × Rises next.places
left_one c at missed [] next rises low e there = absurd there
left_one c at missed (p ∷ ps) next (above, rises) low e there = go (nat_eq p at) refl (left_one c at true ps next rises low) (found_in at true ps next) e there
  where
    go : (b : Bool) → nat_eq p at ≡ b → (after_bop at true ps ≡ Some next → IsIn c ps → IsIn c next.places × Rises next.places) → (after_bop at true ps ≡ Some next → IsIn at ps)
        → (if b then Some (record { missed = missed; places = ps }) else after_bop at true ps) ≡ Some next → (c ≡ p) ⊎ IsIn c ps → IsIn c next.places × Rises next.places
    go true is rest found e (inl same) = let here = eqb-true p at is in absurd (omega arith)
    go true is rest found e (inr there) = let now : ps ≡ next.places = cc in (subst (IsIn c) now there, subst Rises now rises)
    go false is rest found e (inl same) = let below : p < at = in_all (λ (y : ℕ). p < y) at ps above (found e) in absurd (omega arith)
    go false is rest found e (inr there) = rest e there

left_all : (c at : ℕ) (bops : List ℕ) (start left : PlacesLeft) → Rises start.places → at ≤ c → AllByRecursion (λ (p : ℕ). p < at) bops → after_bops bops start ≡ Some left → IsIn c start.places → IsIn c left.places
left_all c at [] start left rises low all e there = let same : start ≡ left = cc in subst (λ (l : PlacesLeft). IsIn c l.places) same there
left_all c at (bop ∷ bops) start left rises low (here, all) e there = go (after_bop bop start.missed start.places) refl (λ next. left_all c at bops next left) e
  where
    go : (o : Option PlacesLeft) → after_bop bop start.missed start.places ≡ o
        → ((next : PlacesLeft) → Rises next.places → at ≤ c → AllByRecursion (λ (p : ℕ). p < at) bops → after_bops bops next ≡ Some left → IsIn c next.places → IsIn c left.places)
        → option_and_then (after_bops bops) o ≡ Some left → IsIn c left.places
    go None is rest e = absurd cc
    go (Some next) is rest e =
        let (there_now, rises_now) = left_one c bop start.missed start.places next rises (omega arith) is there in rest next rises_now low all e there_now

-- The bops before a place.
place_below : (n most : ℕ) (i : Instruction) → n < most → AllByRecursion (λ (p : ℕ). p < most) (bop_place n i)
place_below n most (Bop counts pointer) low = (low, tt)
place_below n most i low = tt

bops_below : (n most : ℕ) (ts : List Token) → AllByRecursion IsSpelled ts → n + length (token_bytes ts) ≤ most → AllByRecursion (λ (p : ℕ). p < most) (places n ts)
bops_below n most [] spelled high = tt
bops_below n most (t ∷ ts) (here, spelled) high =
    let size : length (token_bytes (t ∷ ts)) ≡ length t.bytes + length (token_bytes ts) = length-append t.bytes (token_bytes ts) in
    let some : 0 < length t.bytes = some_bytes t.bytes here in
    all_append (λ (p : ℕ). p < most) (bop_place n t.says) (places (n + length t.bytes) ts) (place_below n most t.says (omega arith)) (bops_below (n + length t.bytes) most ts spelled (omega arith))
  where
    some_bytes : (b : List ℕ) → Spells t.says b → 0 < length b
    some_bytes [] here = absurd (not_empty t.says here)
    some_bytes (x ∷ b) here = omega arith

module _ (metrics : WidthsByName) (after_post : List ℤ) (bytes : List ℕ) (postamble : Postamble) (chain : List ℕ) (at : ℕ) (s : ReadSoFar)
    (r : IsReached metrics after_post bytes postamble chain at s) where
  -- A place of the chain that is not before the place of the pass is left.
  pub later_left : (bound : ℕ) (pointer : ℤ) (c : ℕ) → at ≤ length bytes → Links bytes bound pointer chain → IsIn c (reverse chain) → at ≤ c → IsIn c s.left.places
  later_left bound pointer c high links there low =
      let rises : Rises (reverse chain) = subst Rises (append-nil (reverse chain)) (links_rise bytes bound pointer chain [] links tt tt) in
      let size : length (token_bytes r.before) ≡ at = ap (λ (x : List ℕ). length x) r.whole ∙ length-take-le at bytes (omega arith) in
      left_all c at (places 0 r.before) (all_left chain) s.left rises low (bops_below 0 at r.before r.spelled (omega arith)) r.bops there

  -- Where the bops are the places of the chain, none was missed and none is left.
  pub all_met : places 0 r.before ≡ reverse chain → s.left ≡ all_left []
  all_met same =
      let whole : reverse chain ≡ places 0 r.before ++ [] = sym same ∙ sym (append-nil (places 0 r.before)) in
      let met : after_bops (places 0 r.before) (all_left chain) ≡ Some (record { missed = false; places = [] }) =
      ap (λ (ns : List ℕ). after_bops (places 0 r.before) (record { missed = false; places = ns })) whole ∙ bops_met (places 0 r.before) [] in
      let both : Some s.left ≡ Some (record { missed = false; places = [] }) = sym r.bops ∙ met in
      cc
