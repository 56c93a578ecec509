-- The measures of a walk over a vertical list, item by item.
use Rattle.std.proofs.Common.{◌≡◌, ◌∙◌, ℕ, ◌+◌, ◌<◌, ◌≤◌, List, [], ◌∷◌, ◌++◌, length, take, get_or, append_assoc, ap, arith, sym}
use Rattle.std.specs.Prelude.{ℤ, ◌+ℤ◌}
use Rattle.std.specs.Int.{int_max}
use Rattle.std.proofs.lemmas.Int.{ints, clamps}
use Rattle.std.proofs.lemmas.List.{take_more}
use Rattle.node_core.specs.declared.tree.Node.{Node}
use Rattle.pack_core.specs.declared.down.Down.{Down}
use Rattle.pack_core.specs.declared.orders.OrderAmounts.{OrderAmounts}
use Rattle.pack_core.specs.Items.{downward, breadth, stretch_in, shrink_in}
use Rattle.pack_core.specs.Orders.{plus}
use Rattle.pack_core.specs.ListTotals.{pending_after}
use Rattle.pack_core.specs.Tails.{AreMeasuresOf, HasGoneDown}
use Rattle.pack_core.proofs.Sums.{total-append, greatest-append, greatest_positive, pending-append}
use Rattle.pack_core.proofs.Passing.{plus-one, within-more}

-- What is small after m items is small after more items.
pub gone-more : (m n : ℕ) (down : Down) → m ≤ n → HasGoneDown m down → HasGoneDown n down
gone-more m n down less small = record {
  advance = record { low = omega (arith, ints, small.advance.low); high = omega (arith, ints, small.advance.high) };
  breadth = small.breadth;
  stretch = within-more _ _ down.stretch (omega arith) small.stretch;
  shrink = within-more _ _ down.shrink (omega arith) small.shrink;
}

-- The measures with one more item.
pub measures-more :
    (xs : List Node) (x : Node) (old new : Down) → AreMeasuresOf xs old
    → new.advance ≡ old.advance +ℤ downward x
    → new.breadth ≡ int_max old.breadth (breadth x)
    → new.pending_depth ≡ pending_after old.pending_depth x
    → new.stretch ≡ plus old.stretch (λ order. stretch_in order x)
    → new.shrink ≡ plus old.shrink (λ order. shrink_in order x)
    → AreMeasuresOf (xs ++ x ∷ []) new
measures-more xs x old new are moves widens pending stretches shrinks = record {
  advance = omega (arith, ints, moves, are.advance, total-append downward xs (x ∷ []));
  breadth = omega (arith, ints, clamps, widens, are.breadth, greatest-append breadth xs (x ∷ []), greatest_positive breadth xs);
  pending_depth = pending ∙ ap (λ (depth : ℤ). pending_after depth x) are.pending_depth ∙ sym (pending-append xs x);
  stretch = stretches ∙ ap (λ (amounts : OrderAmounts). plus amounts (λ order. stretch_in order x)) are.stretch ∙ plus-one stretch_in xs x;
  shrink = shrinks ∙ ap (λ (amounts : OrderAmounts). plus amounts (λ order. shrink_in order x)) are.shrink ∙ plus-one shrink_in xs x;
}

-- The next item of a list that a loop passes over, after other items.
pub next-item :
    (before nodes : List Node) (i : ℕ) (x : Node) → i < length nodes → x ≡ get_or nodes i x
    → (before ++ take i nodes) ++ x ∷ [] ≡ before ++ take (i + 1) nodes
next-item before nodes i x within is =
    append_assoc before (take i nodes) (x ∷ [])
    ∙ ap (λ (y : Node). before ++ (take i nodes ++ y ∷ [])) is
    ∙ sym (ap (λ (xs : List Node). before ++ xs) (take_more nodes i x within))
