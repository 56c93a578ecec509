-- The measures of a vertical list from those of its two parts.
use Rattle.std.proofs.Common.{◌≡◌, ◌∙◌, ℕ, ◌+◌, ◌*◌, List, ◌++◌, true, false, sym, ap, arith}
use Rattle.std.specs.Prelude.{ℤ, ◌+ℤ◌, if◌then◌else◌}
use Rattle.std.specs.Int.{int_max}
use Rattle.std.specs.List.{list_all}
use Rattle.std.proofs.lemmas.Int.{ints, clamps}
use Rattle.std.proofs.lemmas.List.Folds.{list_all-append}
use Rattle.std.proofs.Math.Bool.{and-true, and-false}
use Rattle.node_core.specs.declared.tree.Node.{Node}
use Rattle.node_core.specs.declared.tree.Order.{Order}
use Rattle.node_core.specs.declared.tree.Order.TheVariants.{Normal, Fil, Fill, Filll}
use Rattle.pack_core.specs.declared.down.Down.{Down}
use Rattle.pack_core.specs.declared.tail.Tail.{Tail}
use Rattle.pack_core.specs.declared.orders.OrderAmounts.{OrderAmounts}
use Rattle.pack_core.specs.Items.{downward, breadth, is_sizeless, stretch_in, shrink_in}
use Rattle.pack_core.specs.Totals.{total}
use Rattle.pack_core.specs.Orders.{order_amounts, AreWithin}
use Rattle.pack_core.specs.Tails.{AreMeasuresOf, HasGoneDown, IsTail}
use Rattle.pack_core.proofs.Sums.{total-append, greatest-append, pending-joined}

-- Each amount is the sum of two others.
pub record IsSum (a b sum : OrderAmounts) : Type 0 where
  pub normal : sum.normal ≡ a.normal +ℤ b.normal
  pub fil : sum.fil ≡ a.fil +ℤ b.fil
  pub fill : sum.fill ≡ a.fill +ℤ b.fill
  pub filll : sum.filll ≡ a.filll +ℤ b.filll

-- The totals of two lists together.
pub totals-joined :
    (size : Order → Node → ℤ) (xs ys : List Node) (a b sum : OrderAmounts) → IsSum a b sum
    → a ≡ order_amounts (λ order. total (size order) xs) → b ≡ order_amounts (λ order. total (size order) ys)
    → sum ≡ order_amounts (λ order. total (size order) (xs ++ ys))
totals-joined size xs ys a b sum is first second =
    let each : (order : Order) → total (size order) (xs ++ ys) ≡ total (size order) xs +ℤ total (size order) ys = λ order. total-append (size order) xs ys in
    let normal : sum.normal ≡ total (size Normal) (xs ++ ys) =
    omega (arith, ints, is.normal, ap (λ (o : OrderAmounts). o.normal) first, ap (λ (o : OrderAmounts). o.normal) second, each Normal) in
    let fil : sum.fil ≡ total (size Fil) (xs ++ ys) =
    omega (arith, ints, is.fil, ap (λ (o : OrderAmounts). o.fil) first, ap (λ (o : OrderAmounts). o.fil) second, each Fil) in
    let fill : sum.fill ≡ total (size Fill) (xs ++ ys) =
    omega (arith, ints, is.fill, ap (λ (o : OrderAmounts). o.fill) first, ap (λ (o : OrderAmounts). o.fill) second, each Fill) in
    let filll : sum.filll ≡ total (size Filll) (xs ++ ys) =
    omega (arith, ints, is.filll, ap (λ (o : OrderAmounts). o.filll) first, ap (λ (o : OrderAmounts). o.filll) second, each Filll) in
    λ i. record { normal = normal i; fil = fil i; fill = fill i; filll = filll i }

-- The measures of two parts together.
pub measures-joined :
    (before after : List Node) (above : Down) (tail : Tail) (both : Down) → AreMeasuresOf before above → IsTail after tail
    → both.advance ≡ above.advance +ℤ tail.down.advance
    → both.breadth ≡ int_max above.breadth tail.down.breadth
    → both.pending_depth ≡ (if tail.is_sizeless then above.pending_depth else tail.down.pending_depth)
    → IsSum above.stretch tail.down.stretch both.stretch
    → IsSum above.shrink tail.down.shrink both.shrink
    → AreMeasuresOf (before ++ after) both
measures-joined before after above tail both are is moves widens pending stretches shrinks = record {
  advance = omega (arith, ints, moves, are.advance, is.measures.advance, total-append downward before after);
  breadth = widens ∙ rw (are.breadth, is.measures.breadth) (sym (greatest-append breadth before after));
  pending_depth = pending ∙ rw (is.sizeless, are.pending_depth, is.measures.pending_depth) (sym (pending-joined before after));
  stretch = totals-joined stretch_in before after above.stretch tail.down.stretch both.stretch stretches are.stretch is.measures.stretch;
  shrink = totals-joined shrink_in before after above.shrink tail.down.shrink both.shrink shrinks are.shrink is.measures.shrink;
}

-- The sums of two parts are small.
amounts-small : (m n : ℕ) (a b sum : OrderAmounts) → IsSum a b sum → AreWithin (2147483648 * m) a → AreWithin (2147483648 * n) b → AreWithin (2147483648 * (m + n)) sum
amounts-small m n a b sum is first second = record {
  normal = record { low = omega (arith, ints, is.normal, first.normal.low, second.normal.low); high = omega (arith, ints, is.normal, first.normal.high, second.normal.high) };
  fil = record { low = omega (arith, ints, is.fil, first.fil.low, second.fil.low); high = omega (arith, ints, is.fil, first.fil.high, second.fil.high) };
  fill = record { low = omega (arith, ints, is.fill, first.fill.low, second.fill.low); high = omega (arith, ints, is.fill, first.fill.high, second.fill.high) };
  filll = record { low = omega (arith, ints, is.filll, first.filll.low, second.filll.low); high = omega (arith, ints, is.filll, first.filll.high, second.filll.high) };
}

pub joined-small :
    (m n : ℕ) (above below both : Down) → HasGoneDown m above → HasGoneDown n below
    → both.advance ≡ above.advance +ℤ below.advance
    → both.breadth ≡ int_max above.breadth below.breadth
    → IsSum above.stretch below.stretch both.stretch
    → IsSum above.shrink below.shrink both.shrink
    → HasGoneDown (m + n) both
joined-small m n above below both first second moves widens stretches shrinks = record {
  advance = record {
    low = omega (arith, ints, moves, first.advance.low, second.advance.low);
    high = omega (arith, ints, moves, first.advance.high, second.advance.high);
  };
  breadth = omega (arith, ints, clamps, widens, first.breadth, second.breadth);
  stretch = amounts-small m n above.stretch below.stretch both.stretch stretches first.stretch second.stretch;
  shrink = amounts-small m n above.shrink below.shrink both.shrink shrinks first.shrink second.shrink;
}

-- Whether two lists together have only penalties and specials.
pub sizeless-then : (xs ys : List Node) → list_all is_sizeless ys ≡ true → list_all is_sizeless xs ≡ list_all is_sizeless (xs ++ ys)
sizeless-then xs ys all = sym (list_all-append is_sizeless xs ys ∙ rw all (and-true (list_all is_sizeless xs)))

pub sizeless-else : (xs ys : List Node) → list_all is_sizeless ys ≡ false → false ≡ list_all is_sizeless (xs ++ ys)
sizeless-else xs ys some = sym (list_all-append is_sizeless xs ys ∙ rw some (and-false (list_all is_sizeless xs)))
