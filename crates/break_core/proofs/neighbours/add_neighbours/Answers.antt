use Rattle.std.proofs.Common.{◌≡◌, ◌++◌, [], ◌∷◌, rules, sym, subst}
use Rattle.break_core.specs.declared.neighbours.Neighbours.{Neighbours}
use Rattle.break_core.specs.Private.Near.{HaveNeighbours}
use Rattle.break_core.proofs.Near.{near_more}
use Rattle.break_core.proofs.neighbours.add_neighbours.Goals as goal

pub loop-group-preserved : goal.loop-group-preserved
loop-group-preserved c =
    let found : Neighbours = record { group = c.args.group; meets = c.group_met.result; covered_by = c.group_covering.result } in
    let made : c.push.new.self.items ≡ c.loop-group.list.items ++ found ∷ [] = search rules in
    record {
      known = subst (HaveNeighbours c.args.table.now) (sym made)
          (near_more c.args.table.now c.loop-group.list.items found c.loop-group.invariant.known (c.group_met.ensures, c.group_covering.ensures));
    }
