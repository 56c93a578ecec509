use Rattle.std.proofs.Common.{◌∙◌, Some, refl, sym, arith}
use Rattle.node_core.specs.declared.limits.TheConstants.{REGISTERS}
use Rattle.job_state.proofs.Tables.{set_first, set_nothing, set_above}
use Rattle.job_state.proofs.table.Table.put.Goals.{in-Some-1, in-None-1}
use Rattle.job_state.proofs.table.Table.put.Goals as goal

pub returns-then-number-len-clause-table : goal.returns-then-number-len-clause-table
returns-then-number-len-clause-table c =
    let put = set_first REGISTERS c.self.inside.used.items c.args.self.now c.number-number.result c.args.register c.args.held c.args.held c.self.view_is c.number-number.ensures.value refl
    (omega (arith, c.self.inside.used.ok.0)) in
    elim c.match-index_mut-held.branch [ in-Some-1 w ↦ w.self-is ∙ put | in-None-1 w ↦ w.self-is ∙ put ]

pub returns-in-Some-clause-table : goal.returns-in-Some-clause-table
returns-in-Some-clause-table c =
    set_above REGISTERS c.self.inside.used.items c.put_above.new.used.items c.args.self.now c.number-number.result c.args.register (Some c.in-Some.box_node) c.args.held
    c.self.view_is c.number-number.ensures.value (sym c.in-Some.is) (omega (arith, c.self.inside.used.ok.0)) c.number-number.ensures.number_bounded c.put_above.ensures.items

pub returns-in_default-clause-table : goal.returns-in_default-clause-table
returns-in_default-clause-table c =
    set_nothing REGISTERS c.self.inside.used.items c.args.self.now c.number-number.result c.args.register c.args.held c.self.view_is c.number-number.ensures.value (sym c.in_default.is)
    (omega (arith, c.self.inside.used.ok.0))
