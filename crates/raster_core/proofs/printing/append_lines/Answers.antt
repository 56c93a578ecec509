use Rattle.std.proofs.Common.{◌*◌, min, arith}
use Rattle.raster_core.proofs.RowLines.{no_columns, more_lines, all_columns}
use Rattle.raster_core.proofs.printing.append_lines.Goals as goal

pub loop-line-init : goal.loop-line-init
loop-line-init c = record {
  written = λ black is. no_columns c.args.width black (min c.args.width (70 * 0)) c.args.out.now.items (omega arith);
  len = omega arith;
  capacity = omega arith;
}

pub append_line-requires-clause-space : goal.append_line-requires-clause-space
append_line-requires-clause-space c =
    omega (arith, c.requires.space, c.loop-line.invariant.len, c.loop-line.invariant.capacity, c.div_ceil-line-end.ensures, c.loop-line-test.true)

pub loop-line-preserved : goal.loop-line-preserved
loop-line-preserved c = record {
  written = λ black is.
      more_lines c.args.width black c.loop-line.line c.args.out.now.items c.loop-line.out.items c.append_line.new.out.items
      (omega (arith, c.div_ceil-line-end.ensures))
      (c.loop-line.invariant.written black is)
      (c.append_line.ensures.text black is);
  len = omega (arith, c.append_line.ensures.len, c.loop-line.invariant.len, c.div_ceil-line-end.ensures);
  capacity = omega (arith, c.append_line.ensures.capacity, c.loop-line.invariant.capacity);
}

pub returns-clause-text : goal.returns-clause-text
returns-clause-text c = λ black is.
    all_columns c.args.width black (min c.args.width (70 * c.loop-line.line)) c.args.out.now.items c.loop-line.out.items (omega (arith, c.div_ceil-line-end.ensures))
    (c.loop-line.invariant.written black is)

pub returns-clause-len : goal.returns-clause-len
returns-clause-len c = omega (arith, c.loop-line.invariant.len, c.div_ceil-line-end.ensures)
