use Rattle.std.proofs.Common.{◌∙◌, arith}
use Rattle.node_core.specs.declared.limits.TheConstants.{REGISTERS}
use Rattle.job_state.proofs.Tables.{held_at, nothing_above}
use Rattle.job_state.proofs.table.Table.get.Goals as goal

pub returns-then-number-len : goal.returns-then-number-len
returns-then-number-len c =
    c.as_ref.ensures.value
    ∙ held_at REGISTERS c.self.inside.used.items c.args.self.now c.number-number.result c.args.register c.index.result.now c.self.view_is c.number-number.ensures.value
    (omega (arith, c.self.inside.used.ok.0)) c.index.ensures

pub returns-else-number-len : goal.returns-else-number-len
returns-else-number-len c =
    nothing_above REGISTERS c.self.inside.used.items c.args.self.now c.number-number.result c.args.register c.self.view_is c.number-number.ensures.value
    (omega (arith, c.self.inside.used.ok.0))
