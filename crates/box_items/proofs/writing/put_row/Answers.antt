use Rattle.std.proofs.Common.{ap, set}
use Rattle.box_items.proofs.Wrapped.{passed_on}
use Rattle.box_items.proofs.writing.put_row.Goals as goal

pub returns-clause-items : goal.returns-clause-items
returns-clause-items c exact distance is far = ap (set c.args.items.now c.args.written.now.items) (c.write_row.ensures exact distance is (passed_on _ distance far))
