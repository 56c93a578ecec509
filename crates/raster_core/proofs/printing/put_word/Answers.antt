use Rattle.std.proofs.Common.{◌∙◌, ◌==◌, ℕ, Bool, false, take, replicate, refl, ap, sym, arith}
use Rattle.std.proofs.lemmas.List.{length-set, take_more_set}
use Rattle.std.proofs.lemmas.Nat.Bits.{bit_at-zero}
use Rattle.raster_core.specs.Words.{is_set}
use Rattle.raster_core.specs.Private.RowPieces.{digit_of, digits}
use Rattle.raster_core.proofs.RowLines.{one_digit, even_digits, full_word}
use Rattle.raster_core.proofs.printing.put_word.Goals as goal

pub loop-i-init : goal.loop-i-init
unfolding digits
loop-i-init c = record { done = refl; length = c.requires }

pub loop-i-preserved : goal.loop-i-preserved
loop-i-preserved c = record {
  done =
      take_more_set c.loop-i.part c.loop-i.i c.digit.result (omega (arith, c.loop-i.invariant.length, c.loop-i-test.true))
      ∙ one_digit (is_set c.args.word) c.loop-i.i c.digit.result (take c.loop-i.i c.loop-i.part) c.loop-i.invariant.done
      (c.digit.ensures ∙ ap (λ (b : Bool). digit_of b) c.is_set.ensures);
  length = length-set c.loop-i.part c.loop-i.i c.digit.result ∙ c.loop-i.invariant.length;
}

pub returns-then-word-eq0 : goal.returns-then-word-eq0
returns-then-word-eq0 c =
    c.fill.ensures.after (λ y e. e)
    ∙ ap (λ (n : ℕ). replicate n 48) c.requires
    ∙ even_digits (is_set 0) false 0 64 (λ i. ap (λ (b : ℕ). b == 1) (bit_at-zero i))
    ∙ ap (λ (w : ℕ). digits (is_set w) 0 64) (sym c.if-word-eq0.true)

pub returns-then-word-eq18446744073709551615 : goal.returns-then-word-eq18446744073709551615
returns-then-word-eq18446744073709551615 c =
    c.fill-then-word-eq18446744073709551615.ensures.after (λ y e. e)
    ∙ ap (λ (n : ℕ). replicate n 49) c.requires
    ∙ full_word
    ∙ ap (λ (w : ℕ). digits (is_set w) 0 64) (sym c.if-word-eq18446744073709551615.true)
