use Rattle.std.proofs.Common.{◌+◌, ◌*◌, ◌≤◌, [], ◌∷◌, length, length-append, ap, arith, subst, List}
use Rattle.node_core.specs.declared.tree.Node.{Node}
use Rattle.pack_core.specs.declared.tail.Tail.{Tail}
use Rattle.pack_core.specs.Tails.{IsTail}
use Rattle.vert_core.specs.Tails.{last_items}
use Rattle.vert_core.proofs.Ends.{end-small, entries-more, one-more-span}
use Rattle.vert_core.proofs.tails.Tails.of.Goals as goal

pub preceded_by-tail-requires-clause-small : goal.preceded_by-tail-requires-clause-small
preceded_by-tail-requires-clause-small c = end-small (32 * c.loop-span.span) c.args.nodes.now c.loop-span.tail c.requires c.loop-span.invariant.tail

pub loop-span-preserved : goal.loop-span-preserved
loop-span-preserved c =
    let xs = c.args.nodes.now in
    let span = c.loop-span.span in
    let within : 32 * (span + 1) ≤ length xs = omega (arith, c.loop-span-test.true) in
    let tail = subst (λ (ys : List Node). IsTail ys c.preceded_by-tail.result) (one-more-span xs span within) (c.preceded_by-tail.ensures (last_items (32 * span) xs) c.loop-span.invariant.tail) in
    record {
      tail = tail;
      count = omega (arith, ap (λ (es : List Tail). length es) c.in_ok-push.ensures.items, length-append c.loop-span.entries.items (c.preceded_by-tail.result ∷ []), c.loop-span.invariant.count);
      entries =
          entries-more c.loop-span.entries.items c.push.new.self.items c.preceded_by-tail.result span xs c.in_ok-push.ensures.items c.loop-span.invariant.count
          c.loop-span.invariant.entries tail;
    }
