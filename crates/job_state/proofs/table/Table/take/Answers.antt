use Rattle.std.proofs.Common.{◌∙◌, None, refl, arith}
use Rattle.node_core.specs.declared.limits.TheConstants.{REGISTERS}
use Rattle.job_state.proofs.Tables.{held_at, nothing_above, set_first, set_nothing}
use Rattle.job_state.proofs.table.Table.take.Goals as goal

pub returns-then-number-len-clause-value : goal.returns-then-number-len-clause-value
returns-then-number-len-clause-value c =
    c.take.ensures.value
    ∙ held_at REGISTERS c.self.inside.used.items c.args.self.now c.number-number.result c.args.register c.index_mut.result.now c.self.view_is c.number-number.ensures.value
    (omega (arith, c.self.inside.used.ok.0)) c.index_mut.ensures.value

pub returns-then-number-len-clause-void : goal.returns-then-number-len-clause-void
returns-then-number-len-clause-void c =
    set_first REGISTERS c.self.inside.used.items c.args.self.now c.number-number.result c.args.register c.take.new.self None c.self.view_is c.number-number.ensures.value c.take.ensures.after
    (omega (arith, c.self.inside.used.ok.0))

pub returns-else-number-len-clause-value : goal.returns-else-number-len-clause-value
returns-else-number-len-clause-value c =
    nothing_above REGISTERS c.self.inside.used.items c.args.self.now c.number-number.result c.args.register c.self.view_is c.number-number.ensures.value
    (omega (arith, c.self.inside.used.ok.0))

pub returns-else-number-len-clause-void : goal.returns-else-number-len-clause-void
returns-else-number-len-clause-void c =
    set_nothing REGISTERS c.self.inside.used.items c.args.self.now c.number-number.result c.args.register None c.self.view_is c.number-number.ensures.value refl
    (omega (arith, c.self.inside.used.ok.0))
