-- The facts about what was read, by the lemmas about `read`.
use Rattle.std.proofs.Common.{◌≡◌, None, sym}
use Rattle.dvi_ops.specs.Private.Reading.{read}
use Rattle.dvi_ops.specs.View.{view}
use Rattle.dvi_ops.proofs.Fronts.{got}
use Rattle.dvi_ops.proofs.FrontLaws.{front_length, front_spells, none_spells, none_read}
use Rattle.dvi_ops.proofs.reading.next.Goals as goal

pub overflow_sub-result : goal.overflow_sub-result
overflow_sub-result c = front_length (view c.in-Some.op) c.args.bytes.now c.in-Some.rest.now (sym c.in-Some.ensures)

pub returns-in-Some-clause-found : goal.returns-in-Some-clause-found
returns-in-Some-clause-found c = front_spells (view c.in-Some.op) c.args.bytes.now c.in-Some.rest.now (sym c.in-Some.ensures)

pub returns-in-Some-clause-opcode : goal.returns-in-Some-clause-opcode
returns-in-Some-clause-opcode c = (
  λ e. absurd (cc),
  λ h.
      let none : read c.args.bytes.now ≡ None = none_read c.args.bytes.now h in
      let some : read c.args.bytes.now ≡ got (view c.in-Some.op) c.in-Some.rest.now = sym c.in-Some.ensures in
      absurd (cc),
)

pub returns-in-None-clause-none : goal.returns-in-None-clause-none
returns-in-None-clause-none c = none_spells c.args.bytes.now (sym c.in-None.ensures)
