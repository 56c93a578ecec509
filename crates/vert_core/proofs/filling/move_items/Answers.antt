use Rattle.std.proofs.Common.{◌≡◌, ◌∙◌, ◌++◌, ◌∷◌, [], List, take, drop, ap, sym, subst, arith}
use Rattle.node_core.specs.declared.tree.Node.{Node}
use Rattle.vert_core.specs.declared.planning.PlannedLine.{PlannedLine}
use Rattle.vert_core.specs.Private.Planned.{with_part}
use Rattle.vert_core.proofs.Filled.{IsMoving, begins_within, moving_more}
use Rattle.vert_core.proofs.filling.move_items.Goals as goal

pub split_off-requires : goal.split_off-requires
split_off-requires c =
    let left = c.loop-line.nodes in
    omega (
      arith,
      begins_within c.args.nodes.now.items c.args.lines.items left.items c.loop-line.lines.items c.loop-line.filled.items c.pop.new.self.items c.in-Some.line
          c.loop-line.invariant.moving c.in-Some.ensures.items,
      left.ok.0,
    )

pub loop-line-preserved : goal.loop-line-preserved
loop-line-preserved c =
    let list = c.args.nodes.now.items in
    let lines = c.args.lines.items in
    let line = c.in-Some.line in
    let left = c.loop-line.nodes.items in
    let filled = c.loop-line.filled.items in
    let after = c.pop.new.self.items in
    let given : PlannedLine = with_part (drop line.begin left) line in
    let given_is : c.with_part.result ≡ given = c.with_part.ensures ∙ ap (λ (xs : List Node). with_part xs line) c.in-Ok.ensures.tail in
    let filled_is : c.push_reserved.new.self.items ≡ filled ++ given ∷ [] = c.push_reserved.ensures.items ∙ ap (λ (x : PlannedLine). filled ++ x ∷ []) given_is in
    let moving = moving_more list lines left c.loop-line.lines.items filled after line c.loop-line.invariant.moving c.in-Some.ensures.items in
    record {
      moving = subst (λ (xs : List Node). IsMoving list lines xs after c.push_reserved.new.self.items) (sym c.in-Ok.ensures.items)
          (subst (λ (ys : List PlannedLine). IsMoving list lines (take line.begin left) after ys) (sym filled_is) moving);
      space = omega (arith, c.push_reserved.ensures.len, c.push_reserved.ensures.capacity, c.in-Some.ensures.len, c.loop-line.invariant.space);
      capacity = c.split_off.ensures.capacity ∙ c.loop-line.invariant.capacity;
    }
