-- The line of the refusal is short, since a place is a number of 64 bits.
use Rattle.std.proofs.Common.{◌≤◌, ◌<◌, ◌^◌, ◌∙◌, List, ℕ, ap, arith, length, subst, sym}
use Rattle.boxglue_calls.specs.Private.MarkFiles.{place_of}
use Rattle.boxglue_calls.proofs.FaultLines.{line_short}
use Rattle.boxglue_calls.proofs.mark_table.short_refusal.Goals as goal

pub returns : goal.returns
returns c =
    let wide = c.place_of.type_inv in
    let bound : c.place_of.result < 2 ^ 64 = omega (arith, wide) in
    let refusal = c.in_ok-line.ensures in
    record {
      other = refusal.other;
      line_is = refusal.text;
      short = subst (λ (x : List ℕ). length x ≤ 64) (sym refusal.text)
          (line_short c.args.fault (λ bad is. subst (λ (n : ℕ). n < 2 ^ 64) (c.place_of.ensures ∙ ap place_of is) bound));
    }
