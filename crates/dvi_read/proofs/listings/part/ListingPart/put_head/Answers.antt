use Rattle.std.proofs.Common.{◌≡◌, ◌++◌, ◌+◌, ◌-◌, ◌≤◌, List, ℕ, length, length-drop, drop, ap, ap₂, sym, ◌∙◌, arith}
use Rattle.std.proofs.lemmas.Slice.{drop-put_mid}
use Rattle.dvi_read.proofs.PartLemmas.{end_stays, last_written}
use Rattle.dvi_read.proofs.listings.part.ListingPart.put_head.Goals as goal

pub invariant_of-self : goal.invariant_of-self
invariant_of-self c =
    let inside = c.self.inside in
    record {
      within = omega (arith, c.self.invariant.within);
      kept = end_stays inside.bytes _ inside.begin _ inside.ended (omega arith)
          (drop-put_mid (inside.begin - 56) (inside.begin - (inside.begin - 56)) inside.bytes c.copy_from_slice.new.self inside.begin
          (omega (arith, c.self.invariant.within, c.self.ranges)) (omega (arith, c.self.invariant.within, c.self.ranges))
          (omega (arith, c.copy_from_slice.ensures.len)))
          c.self.invariant.kept;
    }

pub returns : goal.returns
returns c =
    let inside = c.self.inside in
    let ys = c.copy_from_slice.new.self in
    let head = c.args.head.now in
    let free : length c.args.self.now + 56 ≤ 256 = c.requires in
    let size : length c.args.self.now ≡ 256 - inside.begin =
    sym (ap length c.self.view_is) ∙ (length-drop inside.begin inside.bytes ∙ ap (λ (n : ℕ). n - inside.begin) c.self.told) in
    let space : 56 ≤ inside.begin = omega (arith, free, size, c.self.invariant.within) in
    last_written inside.bytes ys inside.begin 56 head.size space (omega (arith, c.self.invariant.within, c.self.told))
    (omega (arith, space, c.self.invariant.within, c.self.told, c.copy_from_slice.ensures.len)) head.short
    ∙ ap₂ (λ (u v : List ℕ). u ++ v) (ap (drop (56 - head.size)) c.copy_from_slice.ensures.after ∙ head.text) c.self.view_is
