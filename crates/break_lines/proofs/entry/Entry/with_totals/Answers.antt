use Rattle.std.proofs.Common.{◌≡◌, ap, arith}
use Rattle.std.proofs.lemmas.Int.{ints}
use Rattle.break_lines.proofs.entry.Entry.with_totals.Goals as goal

pub invariant_of-result : goal.invariant_of-result
invariant_of-result c =
    let before : c.self.inside.end.place ≡ c.args.self.end.place = ap (λ e. e.end.place) c.self.view_is in
    let overhang : c.self.inside.overhang ≡ c.args.self.overhang = ap (λ e. e.overhang) c.self.view_is in
    let demerits : c.self.inside.demerits ≡ c.args.self.demerits = ap (λ e. e.demerits) c.self.view_is in
    let line = c.requires.line_bounded in
    record {
      places = omega (arith, c.requires.places);
      overhang = record { low = omega (arith, ints, line.overhang.low); high = omega (arith, ints, line.overhang.high) };
      demerits = record { low = omega (arith, ints, line.demerits.low); high = omega (arith, ints, line.demerits.high) };
    }
