use Rattle.std.proofs.Common.{◌≡◌, ◌∙◌, ◌++◌, ◌+◌, ◌-◌, ◌*◌, ℕ, List, take, drop, min, ap, arith}
use Rattle.raster_core.proofs.RowLines.{ended_line, part_digits}
use Rattle.raster_core.proofs.printing.append_line.Goals as goal

pub returns-clause-text : goal.returns-clause-text
returns-clause-text c =
    let from = 70 * c.args.line in
    let n : ℕ = min (c.args.width - from) 70 in
    let many : from + c.min.result - from ≡ n = omega (arith, c.min.ensures) in
    let line = c.requires.line in
    λ black is.
    ended_line c.args.width black c.args.line n c.args.out.now.items c.append_bytes.new.out.items c.append_bytes-2.new.out.items c.requires.line (omega arith)
    (c.append_bytes.ensures.text
    ∙ ap (λ (l : List ℕ). c.args.out.now.items ++ l) (ap (λ (k : ℕ). take k (drop from c.args.row.now)) many ∙ part_digits black c.args.row.now from n is (omega (arith, c.requires.columns, line))))
    c.append_bytes-2.ensures.text
