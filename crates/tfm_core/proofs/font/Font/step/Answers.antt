-- If the set has the following character, there is a program.
use Rattle.std.proofs.Common.{sym}
use Rattle.tfm_core.proofs.RowLemmas.{IsRow-at, has_start}
use Rattle.tfm_core.proofs.font.Font.step.Goals as goal

pub returns-in_err-row-clause-value : goal.returns-in_err-row-clause-value
returns-in_err-row-clause-value c =
    let is = IsRow-at c.self.inside.file c.self.inside.rows.items c.args.code c.index-row.result.now c.self.invariant c.ranges.code.fits (rw c.from.ensures at c.index-row.ensures) in
    absurd (has_start c.self.inside.file c.args.code c.args.following c.index-row.result.now is c.ranges.following.fits (sym c.if-not-contains.ensures) c.in_err-row.was)

pub returns-in_err-row-clause-found : goal.returns-in_err-row-clause-found
returns-in_err-row-clause-found c =
    let is = IsRow-at c.self.inside.file c.self.inside.rows.items c.args.code c.index-row.result.now c.self.invariant c.ranges.code.fits (rw c.from.ensures at c.index-row.ensures) in
    absurd (has_start c.self.inside.file c.args.code c.args.following c.index-row.result.now is c.ranges.following.fits (sym c.if-not-contains.ensures) c.in_err-row.was)
