use Rattle.std.proofs.Common.{◌≡◌, ◌∙◌, ◌+◌, ◌-◌, ◌*◌, ℕ, List, length, take, ap, refl, sym, arith}
use Rattle.std.proofs.lemmas.List.{take_all}
use Rattle.std.proofs.lemmas.Slice.{take-put_mid}
use Rattle.raster_core.specs.Words.{in_rows}
use Rattle.raster_core.specs.Private.RowPieces.{digits}
use Rattle.raster_core.proofs.RowLines.{length-digits, more_words}
use Rattle.raster_core.proofs.printing.put_row.Goals as goal

pub loop-k-init : goal.loop-k-init
unfolding digits
loop-k-init c = refl

pub loop-k-preserved : goal.loop-k-preserved
loop-k-preserved c =
    let k = c.loop-k.k in
    let part = c.put_word.new.part in
    let long : length part ≡ 64 = ap (λ (l : List ℕ). length l) c.put_word.ensures ∙ length-digits _ 0 64 in
    take-put_mid (64 * k) (64 * k + 64 - 64 * k) c.loop-k.row part (64 * (k + 1)) (omega (arith, long))
    (omega (arith, c.loop-k.auto.row, c.requires.space, c.loop-k-test.true))
    ∙ more_words c.args.words.now c.args.stride c.args.y k (take (64 * k) c.loop-k.row) part c.loop-k.invariant c.put_word.ensures

pub returns : goal.returns
returns c =
    let end : c.loop-k.k ≡ c.args.stride = omega arith in
    sym (take_all (64 * c.loop-k.k) c.loop-k.row (omega (arith, end, c.loop-k.auto.row, c.requires.space)))
    ∙ c.loop-k.invariant
    ∙ ap (λ (n : ℕ). digits (λ x. in_rows c.args.words.now c.args.stride x c.args.y) 0 (64 * n)) end
