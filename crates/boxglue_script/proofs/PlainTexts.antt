-- The lines of a text whose bytes are all printable or line feeds.
use Rattle.std.proofs.Common.{◌≡◌, ◌==◌, ◌-◌, ◌&&◌, ◌||◌, ℕ, zero, suc, Bool, true, false, if◌then◌else◌, List, [], ◌∷◌, length, take, slice_index, refl, sym, subst}
use Rattle.std.specs.List.{AllByRecursion, list_all, onto_first, slice_split}
use Rattle.std.specs.Str.Lines.{lines, lines_of_parts, strip_carriage_return}
use Rattle.std.proofs.lemmas.List.Splits.{slice_split-cons_yes, slice_split-cons_no}
use Rattle.boxglue_script.specs.ScriptLines.{is_printable}
use Rattle.boxglue_script.specs.Causes.{IsPrintable}
use Rattle.boxglue_script.specs.Private.Reading.{is_plain}
use Rattle.boxglue_script.proofs.LineLemmas.{is_feed}

-- Each line is printable.
abbrev pub ArePrintable : List (List ℕ) → Type 0
ArePrintable = AllByRecursion IsPrintable

first_true : (a b : Bool) → (a && b) ≡ true → a ≡ true
first_true true b h = refl
first_true false b h = absurd (cc)

second_true : (a b : Bool) → (a && b) ≡ true → b ≡ true
second_true true b h = h
second_true false b h = absurd (cc)

both_true : (a b : Bool) → a ≡ true → b ≡ true → (a && b) ≡ true
both_true true b e f = f
both_true false b e f = absurd (cc)

left_true : (a b : Bool) → b ≡ false → (a || b) ≡ true → a ≡ true
left_true true b e h = refl
left_true false b e h = absurd (cc)

module _ (p : ℕ → Bool) where
  front_passes : (n : ℕ) (xs : List ℕ) → list_all p xs ≡ true → list_all p (take n xs) ≡ true
  front_passes zero xs h = refl
  front_passes (suc n) [] h = refl
  front_passes (suc n) (x ∷ xs) h = both_true (p x) (list_all p (take n xs)) (first_true (p x) (list_all p xs) h) (front_passes n xs (second_true (p x) (list_all p xs) h))

  chosen_passes : (xs : List ℕ) (b : Bool) → list_all p xs ≡ true → list_all p (if b then take (length xs - 1) xs else xs) ≡ true
  chosen_passes xs true h = front_passes (length xs - 1) xs h
  chosen_passes xs false h = h

  stripped_passes : (xs : List ℕ) → list_all p xs ≡ true → list_all p (strip_carriage_return xs) ≡ true
  stripped_passes xs h = chosen_passes xs (slice_index xs (length xs - 1) == 13) h

  abbrev EachPasses : List (List ℕ) → Type 0
  EachPasses = AllByRecursion (λ (line : List ℕ). list_all p line ≡ true)

  last_passes : (x : List ℕ) (b : Bool) → EachPasses (x ∷ []) → EachPasses (if b then [] else (x ∷ []))
  last_passes x true all = tt
  last_passes x false all = all

  lines_pass : (parts : List (List ℕ)) → EachPasses parts → EachPasses (lines_of_parts parts)
  lines_pass [] all = tt
  lines_pass (x ∷ []) all = last_passes x (length x == 0) all
  lines_pass (x ∷ y ∷ more) all = (stripped_passes x all.0, lines_pass (y ∷ more) all.1)

  onto_passes : (x : ℕ) (parts : List (List ℕ)) → p x ≡ true → EachPasses parts → EachPasses (onto_first x parts)
  onto_passes x [] h all = (both_true (p x) true h refl, tt)
  onto_passes x (part ∷ parts) h all = (both_true (p x) (list_all p part) h all.0, all.1)

parts_by : (x : ℕ) (text : List ℕ) (b : Bool) → is_feed x ≡ b → is_plain x ≡ true → ArePrintable (slice_split is_feed text) → ArePrintable (slice_split is_feed (x ∷ text))
parts_by x text true e plain all = subst ArePrintable (sym (slice_split-cons_yes is_feed x text e)) (refl, all)
parts_by x text false e plain all =
    subst ArePrintable (sym (slice_split-cons_no is_feed x text e)) (onto_passes is_printable x (slice_split is_feed text) (left_true (is_printable x) (is_feed x) e plain) all)

plain_parts : (text : List ℕ) → list_all is_plain text ≡ true → ArePrintable (slice_split is_feed text)
plain_parts [] h = (refl, tt)
plain_parts (x ∷ text) h =
    parts_by x text (is_feed x) refl (first_true (is_plain x) (list_all is_plain text) h) (plain_parts text (second_true (is_plain x) (list_all is_plain text) h))

-- Each line of a plain text is printable.
pub plain_lines : (text : List ℕ) → list_all is_plain text ≡ true → ArePrintable (lines text)
plain_lines text h = lines_pass is_printable (slice_split is_feed text) (plain_parts text h)
