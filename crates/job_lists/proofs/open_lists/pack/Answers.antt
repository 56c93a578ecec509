use Rattle.std.proofs.Common.{◌∙◌, sym}
use Rattle.job_machine.proofs.PackedItems.{packed_items}
use Rattle.job_machine.specs.declared.ListPurpose.TheVariants.{Box}
use Rattle.job_lists.proofs.open_lists.pack.Goals as goal

pub returns-in-Ok-clause-list : goal.returns-in-Ok-clause-list
returns-in-Ok-clause-list c =
    sym (packed_items (Box c.in-Box.opening) c.args.params.now c.replace-list.result c.in-Ok.packed (sym c.pack_as.ensures.value ∙ c.in-Ok.is))
    ∙ c.replace-list.ensures.value
