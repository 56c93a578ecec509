use Rattle.std.proofs.Common.{◌≡◌, ◌∙◌, ◌≤◌, ◌<◌, ◌+◌, ℕ, Some, length, refl, ap, sym, subst, arith}
use Rattle.std.specs.Prelude.{slice_get}
use Rattle.std.proofs.Math.Logic.{◌⊎◌, inl, inr}
use Rattle.std.proofs.lemmas.Bool.{cases_lt}
use Rattle.std.proofs.lemmas.Option.{same_Some, slice_get_read}
use Rattle.break_lines.specs.declared.state.BreakState.{BreakState}
use Rattle.break_lines.specs.Tables.{Entry}
use Rattle.break_core.specs.Private.Near.{HasCover}
use Rattle.break_core.proofs.neighbours.is_covered.Goals as goal

pub loop-index-init : goal.loop-index-init
loop-index-init c = record { low = omega arith; met = λ k e from to there. absurd (omega (arith, from, to)) }

pub loop-index-preserved : goal.loop-index-preserved
loop-index-preserved c =
    record {
      low = omega (arith, c.loop-index.invariant.low, c.number_of_state-by.ensures.low);
      met = λ k e from to there. cases k e from to there (cases_lt k c.loop-index.index);
    }
  where
    found : HasCover c.args.table.now c.args.earlier c.index-table-index.result
    found =
        let table = c.args.table.now in
        let f = c.index-table-by.result in
        let below = c.if-by-earlier.false in
        let present = slice_get_read table (length table) c.number_of_state-by.result f refl (omega (arith, below, c.if-earlier-table.false)) c.index-table-by.is in
        let both = c.number_of_state-by.ensures.found below f present in
        record {
          index = c.number_of_state-by.result;
          low = omega (arith, c.loop-index.invariant.low, c.number_of_state-by.ensures.low);
          high = below;
          entry = f;
          present = present;
          lines = both.0 ∙ ap (λ (s : BreakState). s.lines) c.end.ensures.end;
          class = both.1 ∙ ap (λ (s : BreakState). s.class) c.end.ensures.end;
          at_most = c.is_at_most.ensures c.if-not-is_at_most.false;
        }

    cases :
        (k : ℕ) (e : Entry) → c.args.later.start ≤ k → k < c.loop-index.index + 1 → slice_get c.args.table.now k ≡ Some e
        → (k < c.loop-index.index) ⊎ (c.loop-index.index ≤ k) → HasCover c.args.table.now c.args.earlier e
    cases k e from to there (inl before) = c.loop-index.invariant.met k e from before there
    cases k e from to there (inr after) =
        let table = c.args.table.now in
        let same : k ≡ c.loop-index.index = omega (arith, after, to) in
        let here = slice_get_read table (length table) c.loop-index.index c.index-table-index.result refl (omega (arith, c.loop-index-test.true, c.requires.later_bounded)) c.index-table-index.is in
        let one : c.index-table-index.result ≡ e = same_Some c.index-table-index.result e (sym here ∙ ap (slice_get table) (sym same) ∙ there) in
        subst (HasCover table c.args.earlier) one found

pub returns : goal.returns
returns c = λ _. record {
  within = c.requires.later_bounded;
  each = λ k e from to there. c.loop-index.invariant.met k e from (omega (arith, to, c.loop-index-test.false)) there;
}
