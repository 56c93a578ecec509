use Rattle.std.proofs.Common.{◌≡◌, Err, sym, ◌∙◌}
use Rattle.tfm_core.specs.Rules.{metric_file}
use Rattle.tfm_core.proofs.ReadingLemmas.{held_tables, KeepsRules-from_none, metric_file-front, IsMetricFile-from_read, IsFirstBroken-from_read}
use Rattle.tfm_core.proofs.ReadingLemmas.{no_record}
use Rattle.tfm_core.proofs.tfm.Tfm.read.Goals as goal

pub returns-in-Some-clause-bad : goal.returns-in-Some-clause-bad
returns-in-Some-clause-bad c cause e =
    let front = metric_file-front _ _ (sym c.broken_in_front.ensures.value ∙ c.in-Some.is) in
    let is : metric_file c.args.bytes.now ≡ Err cause = cc (e, front) in
    IsFirstBroken-from_read c.args.bytes.now cause is

pub returns-in-Some-clause-none : goal.returns-in-Some-clause-none
returns-in-Some-clause-none c cause file e h =
    let front = metric_file-front _ _ (sym c.broken_in_front.ensures.value ∙ c.in-Some.is) in
    let is : metric_file c.args.bytes.now ≡ Err cause = cc (e, front) in
    no_record c.args.bytes.now cause file is h

pub returns-in-Some-broken_in_tables-clause-refused : goal.returns-in-Some-broken_in_tables-clause-refused
returns-in-Some-broken_in_tables-clause-refused c cause e =
    let tables : Err c.in-Some-broken_in_tables.cause ≡ metric_file c.args.bytes.now =
    held_tables _ _ _ _ c.counts.ensures c.in_ok-entries.ensures (sym c.in_default.is ∙ c.broken_in_front.ensures.value)
    (sym c.in-Some-broken_in_tables.is ∙ c.broken_in_tables.ensures) in
    cc (e, tables)

pub returns-in-Some-broken_in_tables-clause-bad : goal.returns-in-Some-broken_in_tables-clause-bad
returns-in-Some-broken_in_tables-clause-bad c cause e =
    IsFirstBroken-from_read c.args.bytes.now cause (returns-in-Some-broken_in_tables-clause-refused c cause e)

pub returns-in-Some-broken_in_tables-clause-none : goal.returns-in-Some-broken_in_tables-clause-none
returns-in-Some-broken_in_tables-clause-none c cause file e h =
    no_record c.args.bytes.now cause file (returns-in-Some-broken_in_tables-clause-refused c cause e) h

pub invariant_of-result : goal.invariant_of-result
invariant_of-result c =
    KeepsRules-from_none _ _ _ c.counts.ensures c.in_ok-entries.ensures (sym c.in_default.is ∙ c.broken_in_front.ensures.value)
    (sym c.in_default-broken_in_tables.is ∙ c.broken_in_tables.ensures)

pub returns-clause-value : goal.returns-clause-value
returns-clause-value c =
    sym (held_tables _ _ _ _ c.counts.ensures c.in_ok-entries.ensures (sym c.in_default.is ∙ c.broken_in_front.ensures.value)
    (sym c.in_default-broken_in_tables.is ∙ c.broken_in_tables.ensures))

pub returns-clause-ok : goal.returns-clause-ok
returns-clause-ok c = IsMetricFile-from_read c.args.bytes.now c.in_ok-entries.entries (returns-clause-value c)
