use Rattle.std.proofs.Common.{◌-◌}
use Rattle.dvi_ops.specs.Instruction.{Bop}
use Rattle.dvi_ops.specs.View.{view}
use Rattle.dvi_scan.proofs.OpLemmas.{no_bop}
use Rattle.dvi_scan.proofs.PlaceLemmas.{one_spelled}
use Rattle.dvi_scan.proofs.page_chain.is_page.Goals as goal

pub returns-in_default-clause-none : goal.returns-in_default-clause-none
returns-in_default-clause-none c = λ e counts before. c.in_default.ensures.none (Bop counts before)

pub returns-in_default-op : goal.returns-in_default-op
returns-in_default-op c =
    record {
      bop_found = λ e. absurd cc;
      low = λ e. absurd cc;
      none = λ e counts before spelled_at. no_bop c.in-Ok.op c.in_default-op.not-Bop counts before
          (one_spelled c.args.bytes.now c.args.place c.args.bound (view c.in-Ok.op) (Bop counts before) (c.in-Ok.field-0-1 - c.args.place)
          c.in-Ok.ensures.found spelled_at);
    }
