use Rattle.std.proofs.Common.{◌∙◌, ◌<◌, sym, arith, length}
use Rattle.std.proofs.lemmas.List.Edits.{length-swap}
use Rattle.vert_core.proofs.Specials.{swapped-front, swapped-back, same-item, same-below, gathered-special, gathered-other}
use Rattle.vert_core.proofs.rest.gather_specials.Goals.{then-is_special, else-is_special}
use Rattle.vert_core.proofs.rest.gather_specials.Goals as goal

pub loop-index-preserved : goal.loop-index-preserved
loop-index-preserved c =
    let old = c.args.nodes.now.items in
    let now = c.loop-index.nodes.items in
    let i = c.loop-index.index in
    let x = c.index.result.now in
    let h = c.loop-index.invariant in
    let within : i < length old = omega (arith, c.requires.count_bounded) in
    let some : 0 < i = omega (arith, c.loop-index.auto.index) in
    let is = same-item old now i x h.below c.index.ensures in
    let below = same-below old now i x within (omega (arith, h.length, within)) h.below in
    elim c.if-is_special.branch [
      | then-is_special w ↦
          rw (w.nodes-is, w.specials-is, w.swap.ensures.items)
          (record {
            specials =
                swapped-front now c.loop-index.specials i x h.few (omega (arith, h.length, within)) c.index.ensures
                ∙ rw h.specials (sym (gathered-special old i x some within is (sym c.is_special.ensures ∙ w.if-is_special.true)));
            below = swapped-back now c.loop-index.specials i x h.few (omega (arith, h.length, within)) ∙ below;
            few = omega (arith, h.few);
            length = length-swap now c.loop-index.specials i ∙ h.length;
          })
      | else-is_special w ↦
          rw (w.nodes-is, w.specials-is)
          (record {
            specials = h.specials ∙ sym (gathered-other old i x some within is (sym c.is_special.ensures ∙ w.if-is_special.false));
            below = below;
            few = omega (arith, h.few);
            length = h.length;
          })
    ]
