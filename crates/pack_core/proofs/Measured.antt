-- The measures of a walk over a horizontal list, item by item.
use Rattle.std.proofs.Common.{◌≡◌, ℕ, ◌+◌, ◌<◌, ◌≤◌, List, length, take, get_or, refl, arith}
use Rattle.std.specs.Prelude.{ℤ}
use Rattle.std.proofs.lemmas.Int.{ints}
use Rattle.node_core.specs.declared.tree.Node.{Node}
use Rattle.node_core.specs.declared.tree.Order.{Order}
use Rattle.node_core.specs.declared.tree.Order.TheVariants.{Normal, Fil, Fill, Filll}
use Rattle.pack_core.specs.declared.across.Across.{Across}
use Rattle.pack_core.specs.Totals.{total}
use Rattle.pack_core.specs.Orders.{order_amounts, plus}
use Rattle.pack_core.specs.Private.Measures.{HasPassed}
use Rattle.pack_core.proofs.Sums.{total_more}
use Rattle.pack_core.proofs.Passing.{within-more}

-- What is small after m items is small after more items.
pub passed-more : (m n : ℕ) (across : Across) → m ≤ n → HasPassed m across → HasPassed n across
passed-more m n across less small = record {
  width = record { low = omega (arith, ints, small.width.low); high = omega (arith, ints, small.width.high) };
  high = small.high;
  height = small.height;
  deep = small.deep;
  depth = small.depth;
  stretch = within-more _ _ across.stretch (omega arith) small.stretch;
  shrink = within-more _ _ across.shrink (omega arith) small.shrink;
}

-- The amounts of the next item of a list that a loop passes over.
pub amounts_more :
    (amount : Order → Node → ℤ) (nodes : List Node) (i : ℕ) (x : Node) → i < length nodes → x ≡ get_or nodes i x
    → plus (order_amounts (λ order. total (amount order) (take i nodes))) (λ order. amount order x) ≡ order_amounts (λ order. total (amount order) (take (i + 1) nodes))
amounts_more amount nodes i x within is =
    rw (total_more (amount Normal) nodes i x within is, total_more (amount Fil) nodes i x within is, total_more (amount Fill) nodes i x within is, total_more (amount Filll) nodes i x within is) refl
