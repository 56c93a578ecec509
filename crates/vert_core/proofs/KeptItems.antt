-- The items that a line keeps, one by one.
use Rattle.std.proofs.Common.{◌≡◌, ◌∙◌, ℕ, suc, ◌+◌, ◌<◌, ◌≤◌, true, false, List, [], ◌∷◌, ◌++◌, length, length-append, length-drop, take, drop, get_or, drop-cons, refl, ap, sym, arith, Option, Some, None}
use Rattle.std.specs.Prelude.{slice_get}
use Rattle.std.proofs.Math.Logic.{◌⊎◌, inl, inr}
use Rattle.std.proofs.lemmas.Bool.{cases_Bool, cond-true, cond-false}
use Rattle.std.proofs.lemmas.List.{length-take}
use Rattle.std.proofs.lemmas.Option.{slice_get_within}
use Rattle.node_core.specs.declared.tree.Node.{Node}
use Rattle.node_core.specs.declared.tree.Node.TheVariants as nodes
use Rattle.node_core.specs.Classes.{class_of, is_discardable}
use Rattle.break_lines.specs.Legal.{is_dropped}
use Rattle.break_lines.specs.LineItems.{at_break, without_first, kept_items}

-- The items that are dropped at the beginning of a line are those of three classes.
pub dropped_class : (x : Node) → is_dropped x ≡ is_discardable (class_of x)
unfolding is_dropped
dropped_class (nodes.Glyph g) = refl
dropped_class (nodes.FontKern width) = refl
dropped_class (nodes.Kern width) = refl
dropped_class (nodes.Glue g) = refl
dropped_class (nodes.Penalty p) = refl
dropped_class (nodes.Rule sizes) = refl
dropped_class (nodes.Special text) = refl
dropped_class (nodes.Box shift b) = refl

from_item : (list : List Node) (i : ℕ) (x : Node) → i < length list → x ≡ get_or list i x → drop i list ≡ x ∷ drop (i + 1) list
from_item list i x within is =
    let one : i + 1 ≡ suc i = omega arith in
    drop-cons list i x within ∙ ap (λ y. y ∷ drop (suc i) list) (sym is) ∙ ap (λ n. x ∷ drop n list) (sym one)

-- If the first item is dropped, the rest of the list decides.
pub without_dropped :
    (list : List Node) (i : ℕ) (x : Node) → i < length list → x ≡ get_or list i x → is_discardable (class_of x) ≡ true
    → without_first (drop i list) ≡ without_first (drop (i + 1) list)
without_dropped list i x within is dropped =
    ap without_first (from_item list i x within is)
    ∙ cond-true (is_dropped x) (without_first (drop (i + 1) list)) (x ∷ drop (i + 1) list) (dropped_class x ∙ dropped)

-- The first item that is not dropped.
pub without_kept :
    (list : List Node) (i : ℕ) (x : Node) → i < length list → x ≡ get_or list i x → is_discardable (class_of x) ≡ false
    → without_first (drop i list) ≡ drop i list
without_kept list i x within is kept_items =
    ap without_first (from_item list i x within is)
    ∙ cond-false (is_dropped x) (without_first (drop (i + 1) list)) (x ∷ drop (i + 1) list) (dropped_class x ∙ kept_items)
    ∙ sym (from_item list i x within is)

-- Dropping items does not make a list longer.
pub length-without_first : (list : List Node) → length (without_first list) ≤ length list
length-without_first [] = omega arith
length-without_first (x ∷ rest) = cases (length-without_first rest) (cases_Bool (is_dropped x))
  where
    cases : length (without_first rest) ≤ length rest → (is_dropped x ≡ true) ⊎ (is_dropped x ≡ false) → length (without_first (x ∷ rest)) ≤ length (x ∷ rest)
    cases shorter (inl dropped) = omega (arith, ap length (cond-true (is_dropped x) (without_first rest) (x ∷ rest) dropped))
    cases shorter (inr kept_items) = omega (arith, ap length (cond-false (is_dropped x) (without_first rest) (x ∷ rest) kept_items))

-- A line keeps at most one item in place of the item at its end.
at_break_one : (x : Node) → length (at_break (Some x)) ≤ 1
at_break_one (nodes.Glyph g) = omega arith
at_break_one (nodes.FontKern width) = omega arith
at_break_one (nodes.Kern width) = omega arith
at_break_one (nodes.Glue g) = omega arith
at_break_one (nodes.Penalty p) = omega arith
at_break_one (nodes.Rule sizes) = omega arith
at_break_one (nodes.Special text) = omega arith
at_break_one (nodes.Box shift b) = omega arith

-- A line keeps at most as many items as the list has.
pub length_kept : (list : List Node) (begin : Option ℕ) (end : ℕ) → length (kept_items list begin end) ≤ length list
length_kept list begin end = by_item begin (slice_get list end) refl
  where
    front : (begin : Option ℕ) → List Node
    front None = take end list
    front (Some a) = without_first (drop (a + 1) (take end list))

    is_front : (begin : Option ℕ) → kept_items list begin end ≡ front begin ++ at_break (slice_get list end)
    is_front None = refl
    is_front (Some a) = refl

    short : (begin : Option ℕ) → length (front begin) ≤ length (take end list)
    short None = omega arith
    short (Some a) = omega (arith, length-without_first (drop (a + 1) (take end list)), length-drop (a + 1) (take end list))

    by_item : (begin : Option ℕ) (at : Option Node) → slice_get list end ≡ at → length (kept_items list begin end) ≤ length list
    by_item begin None is =
        omega (arith, ap length (is_front begin), ap (λ at. length (front begin ++ at_break at)) is, length-append (front begin) [], short begin, length-take end list)
    by_item begin (Some x) is =
        omega (
          arith,
          ap length (is_front begin),
          ap (λ at. length (front begin ++ at_break at)) is,
          length-append (front begin) (at_break (Some x)),
          at_break_one x,
          short begin,
          length-take end list,
          slice_get_within list end x is,
        )
