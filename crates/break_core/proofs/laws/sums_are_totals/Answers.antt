use Rattle.std.proofs.Common.{refl}
use Rattle.pack_core.specs.ListTotals.{totals_of}
use Rattle.break_lines.specs.LineItems.{sums_of}
use Rattle.break_core.proofs.laws.sums_are_totals.Goals as goal

pub returns-clause-width : goal.returns-clause-width
unfolding sums_of totals_of
returns-clause-width c = λ items. refl

pub returns-clause-stretch : goal.returns-clause-stretch
unfolding sums_of totals_of
returns-clause-stretch c = λ items. refl

pub returns-clause-fil : goal.returns-clause-fil
unfolding sums_of totals_of
returns-clause-fil c = λ items. refl

pub returns-clause-fill : goal.returns-clause-fill
unfolding sums_of totals_of
returns-clause-fill c = λ items. refl

pub returns-clause-filll : goal.returns-clause-filll
unfolding sums_of totals_of
returns-clause-filll c = λ items. refl

pub returns-clause-shrink : goal.returns-clause-shrink
unfolding sums_of totals_of
returns-clause-shrink c = λ items. refl
