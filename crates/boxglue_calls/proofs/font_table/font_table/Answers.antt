-- The table of the fonts that are defined, or the line of the refusal of these bytes.
use Rattle.std.proofs.Common.{map}
use Rattle.dvi_ops.specs.View.{definition, units as units_of}
use Rattle.boxglue_print.specs.Fonts.{DefinesFonts}
use Rattle.boxglue_calls.proofs.FontTableLaws.{accepts, then_of, then_of_three}
use Rattle.boxglue_calls.proofs.font_table.font_table.Goals as goal

pub returns-in-Ok : goal.returns-in-Ok
returns-in-Ok c =
    let units = units_of c.in-Ok.defined.units in
    let defined : DefinesFonts c.args.dvi.now units (map definition c.deref.result.now) = rw c.deref.ensures.value c.in-Ok.ensures.ok in
    then_of_three c.table_of.result _ _ _ _
    (λ table rows text accepted. accepts c.args.dvi.now units (map definition c.deref.result.now) table.fonts.items table.text.items table.accepted defined rows text accepted)
    c.table_of.ensures.fonts c.table_of.ensures.text c.table_of.ensures.accepted

pub returns-in-Err : goal.returns-in-Err
returns-in-Err c = then_of c.refused_table.result _ _ (λ table each. each c.args.dvi.now c.in-Err.ensures.bad) c.refused_table.ensures
