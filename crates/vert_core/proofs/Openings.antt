-- The item after a place where a split is allowed is dropped.
use Rattle.std.proofs.Common.{◌≡◌, ◌∙◌, ℕ, ◌≤◌, List, [], ◌∷◌, length, take, drop, suc, zero, false, refl, ap, sym, arith}
use Rattle.std.specs.Prelude.{ℤ, Some}
use Rattle.std.specs.List.{slice_get}
use Rattle.std.proofs.lemmas.Option.{slice_get_past}
use Rattle.node_core.specs.declared.tree.Node.{Node}
use Rattle.node_core.specs.declared.tree.Node.TheVariants as nodes
use Rattle.vert_core.specs.Places.{is_some_before_break, place_penalty}
use Rattle.vert_core.specs.Private.Steps.{IsOpen}

first-dropped : (items : List Node) (i : ℕ) → slice_get (drop i items) 0 ≡ slice_get items i
first-dropped [] zero = refl
first-dropped [] (suc i) = refl
first-dropped (x ∷ xs) zero = refl
first-dropped (x ∷ xs) (suc i) = first-dropped xs i

open-after : (before after : List Node) (penalty : ℤ) → place_penalty before after ≡ Some penalty → is_some_before_break (slice_get after 0) ≡ false
unfolding place_penalty
open-after before [] penalty e = refl
open-after before ((nodes.Glyph g) ∷ rest) penalty e = refl
open-after before ((nodes.FontKern width) ∷ rest) penalty e = refl
open-after before ((nodes.Kern width) ∷ rest) penalty e = refl
open-after before ((nodes.Glue g) ∷ rest) penalty e = refl
open-after before ((nodes.Penalty p) ∷ rest) penalty e = refl
open-after before ((nodes.Special text) ∷ rest) penalty e = absurd (cc)
open-after before ((nodes.Rule sizes) ∷ rest) penalty e = absurd (cc)
open-after before ((nodes.Box shift b) ∷ rest) penalty e = absurd (cc)

pub open-at :
    (items : List Node) (i : ℕ) (penalty : ℤ) → i ≤ length items → place_penalty (take i items) (drop i items) ≡ Some penalty → IsOpen items i
open-at items i penalty within some = record {
  within = within;
  dropped = ap is_some_before_break (sym (first-dropped items i)) ∙ open-after (take i items) (drop i items) penalty some;
}

pub open-end : (items : List Node) → IsOpen items (length items)
open-end items = record { within = omega arith; dropped = ap is_some_before_break (slice_get_past items (length items) (omega arith)) }
