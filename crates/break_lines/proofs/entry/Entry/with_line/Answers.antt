use Rattle.std.proofs.Common.{◌≡◌, ◌∙◌, ℕ, ℤ, ◌+ℤ◌, to_z, of_z, w64, ap, arith}
use Rattle.std.proofs.lemmas.Int.{ints}
use Rattle.break_lines.specs.declared.state.BreakState.{BreakState}
use Rattle.break_lines.specs.Problems.{end_after}
use Rattle.break_lines.specs.Tables.{Entry}
use Rattle.break_lines.proofs.entry.Entry.with_line.Goals as goal

abbrev entry : BreakState → ℤ → ℤ → BreakState → ℕ → Entry
entry end overhang demerits from index = record { end = end; overhang = overhang; demerits = demerits; from = from; index = index }

pub invariant_of-result : goal.invariant_of-result
invariant_of-result c =
    let place : c.after.result.place ≡ c.args.place = ap (λ s. s.place) c.after.ensures in
    let before : c.self.inside.end.place ≡ c.args.self.end.place = ap (λ e. e.end.place) c.self.view_is in
    record {
      places = omega (arith, c.requires.places);
      overhang = record { low = omega (arith, ints); high = omega (arith, ints) };
      demerits = record { low = omega (arith, ints); high = omega (arith, ints) };
    }

pub returns : goal.returns
returns c =
    let from : c.self.inside.end ≡ c.args.self.end = ap (λ e. e.end) c.self.view_is in
    let before : c.self.inside.end.place ≡ c.args.self.end.place = ap (λ e. e.end.place) c.self.view_is in
    let overhang : c.self.inside.overhang ≡ c.args.self.overhang = ap (λ e. e.overhang) c.self.view_is in
    let demerits : c.self.inside.demerits ≡ c.args.self.demerits = ap (λ e. e.demerits) c.self.view_is in
    let end : c.after.result ≡ end_after c.args.cut c.args.self.end c.args.place c.args.line =
    c.after.ensures ∙ ap (λ s. end_after c.args.cut s c.args.place c.args.line) from in
    let o : to_z w64 (of_z w64 (to_z w64 (of_z w64 c.self.inside.overhang) +ℤ to_z w64 (of_z w64 c.args.line.overhang))) ≡ c.args.self.overhang +ℤ c.args.line.overhang =
    omega (arith, ints) in
    let d : to_z w64 (of_z w64 (to_z w64 (of_z w64 c.self.inside.demerits) +ℤ to_z w64 (of_z w64 c.args.line.demerits))) ≡ c.args.self.demerits +ℤ c.args.line.demerits =
    omega (arith, ints) in
    ap (λ x. entry x (to_z w64 (of_z w64 (to_z w64 (of_z w64 c.self.inside.overhang) +ℤ to_z w64 (of_z w64 c.args.line.overhang))))
    (to_z w64 (of_z w64 (to_z w64 (of_z w64 c.self.inside.demerits) +ℤ to_z w64 (of_z w64 c.args.line.demerits)))) c.self.inside.end c.args.index) end
    ∙ ap (λ x. entry (end_after c.args.cut c.args.self.end c.args.place c.args.line) x
    (to_z w64 (of_z w64 (to_z w64 (of_z w64 c.self.inside.demerits) +ℤ to_z w64 (of_z w64 c.args.line.demerits)))) c.self.inside.end c.args.index) o
    ∙ ap (λ x. entry (end_after c.args.cut c.args.self.end c.args.place c.args.line) (c.args.self.overhang +ℤ c.args.line.overhang) x c.self.inside.end c.args.index) d
    ∙ ap (λ x. entry (end_after c.args.cut c.args.self.end c.args.place c.args.line) (c.args.self.overhang +ℤ c.args.line.overhang)
    (c.args.self.demerits +ℤ c.args.line.demerits) x c.args.index) from
