use Rattle.std.proofs.Common.{◌-◌, arith, length}
use Rattle.std.proofs.lemmas.Slice.{drop-put_mid}
use Rattle.dvi_read.proofs.PartLemmas.{end_stays}
use Rattle.dvi_read.proofs.listings.part.ListingPart.put_bytes.Goals as goal

pub invariant_of-self : goal.invariant_of-self
invariant_of-self c =
    let inside = c.self.inside in
    let size = length c.args.bytes.now in
    record {
      within = omega (arith, c.self.invariant.within);
      kept = end_stays inside.bytes _ inside.begin _ inside.ended (omega arith)
          (drop-put_mid (inside.begin - size) (inside.begin - (inside.begin - size)) inside.bytes c.copy_from_slice.new.self inside.begin (omega arith)
          (omega (arith, c.self.invariant.within, c.self.ranges)) (omega (arith, c.copy_from_slice.ensures.len)))
          c.self.invariant.kept;
    }
