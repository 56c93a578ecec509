-- Stacking lines one by one.
use Rattle.std.proofs.Common.{◌≡◌, ◌∙◌, ◌⊎◌, inl, inr, ℕ, zero, suc, ◌+◌, ◌-◌, ◌<◌, ◌≤◌, ◌&&◌, Bool, true, false, List, [], ◌∷◌, ◌++◌, length, get_or, refl, ap, sym, arith, Some}
use Rattle.std.specs.Prelude.{ℤ, slice_get, flat_map}
use Rattle.std.specs.List.{list_all}
use Rattle.std.proofs.lemmas.List.Concat.{flat_map-append}
use Rattle.std.proofs.lemmas.List.Folds.{list_all-append}
use Rattle.break_lines.specs.Sizes.{line_size}
use Rattle.break_core.specs.declared.broken.LineEnd.{LineEnd}
use Rattle.break_lines.specs.Legal.{up_to}
use Rattle.node_core.specs.declared.tree.Node.{Node}
use Rattle.vert_core.specs.Lines.{BrokenParagraph, line_places, line_begin, line_items, boxed_line, line_box, line_brings, depth_before, brought_by, fits_after, line_fits}

-- The place where a line other than the first one begins.
pub begin_after : (ends : List LineEnd) (line : ℕ) (other : LineEnd) → 0 < line → line ≤ length ends → line_begin (line_places ends) line ≡ Some (get_or ends (line - 1) other).place
begin_after ends zero other some within = absurd (omega arith)
begin_after ends (suc line) other some within =
    let same : suc line - 1 ≡ line = omega arith in
    at ends line (omega arith) ∙ ap (λ i. Some (get_or ends i other).place) (sym same)
  where
    at : (ends : List LineEnd) (line : ℕ) → line < length ends → slice_get (line_places ends) line ≡ Some (get_or ends line other).place
    at [] line within = absurd (omega arith)
    at (end ∷ ends) zero within = refl
    at (end ∷ ends) (suc line) within = at ends line (omega arith)

joined_nil : {A : Type 0} (xs : List A) → xs ++ [] ≡ xs
joined_nil [] = refl
joined_nil (x ∷ xs) = ap (λ ys. x ∷ ys) (joined_nil xs)

-- The items that one more number adds.
pub brought_more : {A : Type 0} (f : ℕ → List A) (n : ℕ) → flat_map f (up_to (n + 1)) ≡ flat_map f (up_to n) ++ f n
brought_more f n =
    let one : n + 1 ≡ suc n = omega arith in
    ap (λ k. flat_map f (up_to k)) one ∙ flat_map-append f (up_to n) (n ∷ []) ∙ ap (λ ys. flat_map f (up_to n) ++ ys) (joined_nil (f n))

all_up : (test : ℕ → Bool) (n : ℕ) → list_all test (up_to (n + 1)) ≡ (list_all test (up_to n) && (test n && true))
all_up test n =
    let one : n + 1 ≡ suc n = omega arith in
    ap (λ k. list_all test (up_to k)) one ∙ list_all-append test (up_to n) (n ∷ [])

-- If one more number passes the test, all do.
pub all_more : (test : ℕ → Bool) (n : ℕ) → list_all test (up_to n) ≡ true → test n ≡ true → list_all test (up_to (n + 1)) ≡ true
all_more test n before here = all_up test n ∙ ap (λ b. b && (test n && true)) before ∙ ap (λ b. b && true) here

false_right : (b c : Bool) → c ≡ false → (b && (c && true)) ≡ false
false_right true c is = ap (λ b. b && true) is
false_right false c is = refl

-- If one number does not pass the test, not all do.
pub all_but : (test : ℕ → Bool) (n k : ℕ) → k < n → test k ≡ false → list_all test (up_to n) ≡ false
all_but test zero k below fails = absurd (omega arith)
all_but test (suc n) k below fails = cases (λ earlier. all_but test n k earlier fails) (search arith)
  where
    one : n + 1 ≡ suc n
    one = omega arith

    up : list_all test (up_to (suc n)) ≡ (list_all test (up_to n) && (test n && true))
    up = ap (λ m. list_all test (up_to m)) (sym one) ∙ all_up test n

    cases : (k < n → list_all test (up_to n) ≡ false) → (k < n) ⊎ (k ≡ n) → list_all test (up_to (suc n)) ≡ false
    cases before (inl earlier) = up ∙ ap (λ b. b && (test n && true)) (before earlier)
    cases before (inr same) = up ∙ false_right (list_all test (up_to n)) (test n) (ap test (sym same) ∙ fails)

-- One more line.
pub stacked_one :
    (p : BrokenParagraph) (line : ℕ) (old new : List Node) (depth : ℤ) → old ≡ flat_map (brought_by p) (up_to line) → depth ≡ depth_before p line
    → new ≡ old ++ line_brings p.params (length p.places) line depth (boxed_line (line_size p.params line) (line_items p line))
    → new ≡ flat_map (brought_by p) (up_to (line + 1))
unfolding brought_by line_box
stacked_one p line old new depth items is more =
    more
    ∙ ap (λ xs. xs ++ line_brings p.params (length p.places) line depth (boxed_line (line_size p.params line) (line_items p line))) items
    ∙ ap (λ d. flat_map (brought_by p) (up_to line) ++ line_brings p.params (length p.places) line d (boxed_line (line_size p.params line) (line_items p line))) is
    ∙ sym (brought_more (brought_by p) line)

pub depth_after_line : (p : BrokenParagraph) (line : ℕ) (depth : ℤ) → depth ≡ (boxed_line (line_size p.params line) (line_items p line)).depth → depth ≡ depth_before p (line + 1)
unfolding line_box
depth_after_line p line depth is =
    let one : line + 1 ≡ suc line = omega arith in
    is ∙ ap (depth_before p) (sym one)

pub fits_one :
    (p : BrokenParagraph) (line : ℕ) (depth : ℤ) (b : Bool) → depth ≡ depth_before p line → fits_after p.params (line_size p.params line) depth (line_items p line) ≡ b → line_fits p line ≡ b
unfolding line_fits
fits_one p line depth b is fits = ap (λ d. fits_after p.params (line_size p.params line) d (line_items p line)) (sym is) ∙ fits

-- There are as many lines as ends.
pub count_places : (ends : List LineEnd) → length (line_places ends) ≡ length ends
count_places [] = refl
count_places (end ∷ ends) = ap suc (count_places ends)
