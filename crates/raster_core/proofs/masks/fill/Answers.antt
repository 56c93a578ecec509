use Rattle.std.proofs.Common.{◌≡◌, ℕ, ◌-◌, ◌*◌, ◌<◌, ltb, ap, ◌∙◌, arith}
use Rattle.raster_core.specs.Words.{is_set}
use Rattle.raster_core.proofs.MaskBits.{fill_more, filled_word, stays}
use Rattle.raster_core.proofs.masks.fill.Goals as goal

pub loop-k-preserved : goal.loop-k-preserved
loop-k-preserved c =
    let low : (j : ℕ) → j < 64 → is_set c.low_bits.result j ≡ ltb j (c.args.last - 64 * c.loop-k.k) = λ j h. c.low_bits.ensures j h ∙ ap (ltb j) c.saturating_sub.ensures in
    let high : (j : ℕ) → j < 64 → is_set c.low_bits-in-loop-k.result j ≡ ltb j (c.args.first - 64 * c.loop-k.k) = λ j h. c.low_bits-in-loop-k.ensures j h ∙ ap (ltb j) c.saturating_sub-in-loop-k.ensures in
    let word = filled_word c.low_bits.result c.low_bits-in-loop-k.result c.loop-k.k c.args.first c.args.last c.low_bits-in-loop-k.type_inv low high in
    record {
      run = fill_more c.loop-k.mask c.loop-k.k _ c.args.first c.args.last c.args.from (omega arith) word c.loop-k.invariant.run;
      before = λ j h. stays c.loop-k.mask c.args.mask.now c.loop-k.k _ j (λ e. omega arith) (c.loop-k.invariant.before j h);
      after = λ j h. stays c.loop-k.mask c.args.mask.now c.loop-k.k _ j (λ e. omega arith) (c.loop-k.invariant.after j h);
    }
