use Rattle.std.proofs.Common.{arith, length, length-append, length-drop, drop, decimal, ap}
use Rattle.std.proofs.lemmas.Fmt.{length-decimal-le}
use Rattle.dvi_read.proofs.PartLemmas.{after_digits, end_stays}
use Rattle.dvi_read.proofs.listings.part.ListingPart.put_digits.Goals as goal

pub write_digits-self-inside-requires : goal.write_digits-self-inside-requires
write_digits-self-inside-requires c =
    let inside = c.self.inside in
    let few = length-decimal-le 20 c.args.number (omega arith) (omega (arith, c.ranges.number.fits)) (omega (arith, c.ranges.number.fits)) in
    (omega (arith, few, c.requires, ap length c.self.view_is, length-drop inside.begin inside.bytes, c.self.invariant, c.self.ranges), omega (arith, c.self.invariant, c.self.ranges))

pub returns-clause-len : goal.returns-clause-len
returns-clause-len c =
    let inside = c.self.inside in
    let few = length-decimal-le 20 c.args.number (omega arith) (omega (arith, c.ranges.number.fits)) (omega (arith, c.ranges.number.fits)) in
    omega (arith, few, ap length c.self.view_is, length-drop inside.begin inside.bytes, ap length c.write_digits-self-inside.ensures.written, length-append (decimal c.args.number) (drop inside.begin inside.bytes))

pub invariant_of-self : goal.invariant_of-self
invariant_of-self c =
    let inside = c.self.inside in
    let write = c.write_digits-self-inside in
    record {
      within = omega (arith, write.ensures.start, c.self.invariant.within);
      kept = end_stays inside.bytes write.new.buf inside.begin write.result inside.ended (omega (arith, write.ensures.start))
          (after_digits write.new.buf (decimal c.args.number) (drop inside.begin inside.bytes) write.result inside.begin write.ensures.start write.ensures.written)
          c.self.invariant.kept;
    }
