use Rattle.std.proofs.Common.{◌∙◌, length, length-append, reverse, flat_map, ap, arith}
use Rattle.std.proofs.lemmas.List.Elements.{All-pop}
use Rattle.std.specs.Prelude.{Some}
use Rattle.vert_core.specs.Private.Planned.{HasPlainItems, stacked_nodes}
use Rattle.vert_core.proofs.Filled.{popped, popped_space}
use Rattle.vert_core.proofs.stacking.stack_lines.Goals as goal

pub stack_line-requires-clause-plain : goal.stack_line-requires-clause-plain
stack_line-requires-clause-plain c = λ on.
    (All-pop HasPlainItems c.loop-line.lines.items c.pop.new.self.items (Some c.in-Some.line) c.in-Some.ensures.items (c.loop-line.invariant.plain on)).1

pub stack_line-requires-clause-space : goal.stack_line-requires-clause-space
stack_line-requires-clause-space c =
    omega (
      arith,
      popped_space stacked_nodes c.loop-line.list.items c.loop-line.lines.items c.pop.new.self.items c.in-Some.line c.in-Some.ensures.items,
      ap length c.loop-line.invariant.whole,
      length-append c.args.list.now.items (flat_map stacked_nodes (reverse c.args.lines.items)),
      c.requires.space,
      c.loop-line.invariant.capacity,
      c.loop-line.list.ok.0,
      c.args.list.now.ok.0,
    )

pub loop-line-preserved : goal.loop-line-preserved
loop-line-preserved c = record {
  whole = popped stacked_nodes c.loop-line.list.items c.stack_line.new.list.items c.loop-line.lines.items c.pop.new.self.items c.in-Some.line c.in-Some.ensures.items c.stack_line.ensures.items
      ∙ c.loop-line.invariant.whole;
  capacity = c.stack_line.ensures.capacity ∙ c.loop-line.invariant.capacity;
  plain = λ on.
      (All-pop HasPlainItems c.loop-line.lines.items c.pop.new.self.items (Some c.in-Some.line) c.in-Some.ensures.items (c.loop-line.invariant.plain on)).0;
}
