use Rattle.std.proofs.Common.{◌-◌, List, drop, ap, arith, subst, sym}
use Rattle.node_core.specs.declared.tree.Node.{Node}
use Rattle.node_core.specs.Items.{items_depth}
use Rattle.node_core.specs.Nodes.{IsPlain, items_of}
use Rattle.vert_core.proofs.Nesting.{levels_more}
use Rattle.vert_core.proofs.PlainItems.{plain_take, plain_drop}
use Rattle.vert_core.proofs.levels.levels_of_lines.Goals as goal

pub levels-own-requires : goal.levels-own-requires
levels-own-requires c = λ on.
    let list = c.args.nodes.now in
    let line = c.line-item.result in
    subst IsPlain (sym c.items_before_end.ensures)
    (plain_take (line.end - line.begin) (drop line.begin list) (plain_drop line.begin list (c.requires on)))

pub loop-line-preserved : goal.loop-line-preserved
loop-line-preserved c =
    omega (
      arith,
      levels_more c.args.nodes.now c.args.lines.now c.loop-line.line-index c.line-item.result c.loop-line-test.true c.line-item.is,
      ap (λ (xs : List Node). items_depth (items_of xs)) c.items_before_end.ensures,
      c.levels-own.ensures,
      c.saturating_add.ensures,
      c.max-deepest.ensures,
      c.loop-line.invariant,
    )
