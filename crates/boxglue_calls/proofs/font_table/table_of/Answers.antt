-- A turn of the loop: a row more, and its name.
use Rattle.boxglue_calls.proofs.FontTableLaws.{table_step}
use Rattle.boxglue_calls.proofs.font_table.table_of.Goals as goal

pub loop-font-preserved : goal.loop-font-preserved
loop-font-preserved c =
    table_step c.args.definitions.now c.loop-font.font-index _ c.loop-font-test.true _ _ _ _ c.loop-font.invariant c.in_ok-push_row.ensures.fonts c.in_ok-push_row.ensures.text
