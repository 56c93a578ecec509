-- A number up to 10,000 has at most five digits.
use Rattle.std.proofs.Common.{length, ap, arith}
use Rattle.std.proofs.lemmas.Fmt.{length-decimal-le}
use Rattle.raster_core.proofs.printing.append_number.Goals as goal

pub append_bytes-requires : goal.append_bytes-requires
append_bytes-requires c = record {
  space = omega (
    arith,
    c.requires.space,
    length-decimal-le 5 c.args.number (omega arith) (omega (arith, c.requires.number_bounded)) (omega (arith, c.requires.number_bounded)),
    c.as_bytes.ensures.len,
    ap length c.as_bytes.ensures.value,
    ap length c.format.ensures.text,
  );
}

pub returns-clause-len : goal.returns-clause-len
returns-clause-len c =
    omega (arith, c.append_bytes.ensures.len, length-decimal-le 5 c.args.number (omega arith) (omega (arith, c.requires.number_bounded)) (omega (arith, c.requires.number_bounded)), ap length c.as_bytes.ensures.value, ap length c.format.ensures.text)
