-- The set does not have the following character.
use Rattle.std.proofs.Common.{sym}
use Rattle.tfm_core.proofs.RowLemmas.{IsRow-at, stands_alone}
use Rattle.tfm_core.proofs.font.Font.alone.Goals as goal

pub returns-clause-alone : goal.returns-clause-alone
returns-clause-alone c =
    let is = IsRow-at c.self.inside.file c.self.inside.rows.items c.args.code c.index-row.result.now c.self.invariant c.ranges.code.fits (rw c.from.ensures at c.index-row.ensures) in
    rw (← c.self.view_is) (stands_alone c.self.inside.file c.args.code c.args.following c.index-row.result.now is c.ranges.following.fits (sym c.if-contains.ensures))
