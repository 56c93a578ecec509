-- The written bytes spell the instruction, since the numbers of an op of a body fit their fields.
use Rattle.std.proofs.Common.{rules}
use Rattle.dvi_ops.specs.Spelling.{NumberFits}
use Rattle.dvi_ops.specs.View.{body_view}
use Rattle.dvi_ops.proofs.Spelled.{written_is_spelled}
use Rattle.dvi_ops.proofs.body_spelling.spell_body.Goals as goal

pub returns-in-SetChar-clause-spelled : goal.returns-in-SetChar-clause-spelled
returns-in-SetChar-clause-spelled c =
    let fits_character : NumberFits c.in-SetChar.character = search rules in
    written_is_spelled (body_view c.args.op.now) c.requires (rw (c.in-SetChar.is) fits_character)

pub returns-in-PutChar-clause-spelled : goal.returns-in-PutChar-clause-spelled
returns-in-PutChar-clause-spelled c =
    let fits_character : NumberFits c.in-PutChar.character = search rules in
    written_is_spelled (body_view c.args.op.now) c.requires (rw (c.in-PutChar.is) fits_character)

pub returns-in-SetRule-clause-spelled : goal.returns-in-SetRule-clause-spelled
returns-in-SetRule-clause-spelled c =
    let fits_height : NumberFits c.in-SetRule.height = search rules in
    let fits_width : NumberFits c.in-SetRule.width = search rules in
    written_is_spelled (body_view c.args.op.now) c.requires (rw (c.in-SetRule.is) (fits_height, fits_width))

pub returns-in-PutRule-clause-spelled : goal.returns-in-PutRule-clause-spelled
returns-in-PutRule-clause-spelled c =
    let fits_height : NumberFits c.in-PutRule.height = search rules in
    let fits_width : NumberFits c.in-PutRule.width = search rules in
    written_is_spelled (body_view c.args.op.now) c.requires (rw (c.in-PutRule.is) (fits_height, fits_width))

pub returns-in-Right-clause-spelled : goal.returns-in-Right-clause-spelled
returns-in-Right-clause-spelled c =
    let fits_amount : NumberFits c.in-Right.amount = search rules in
    written_is_spelled (body_view c.args.op.now) c.requires (rw (c.in-Right.is) fits_amount)

pub returns-in-W-clause-spelled : goal.returns-in-W-clause-spelled
returns-in-W-clause-spelled c =
    let fits_amount : NumberFits c.in-W.amount = search rules in
    written_is_spelled (body_view c.args.op.now) c.requires (rw (c.in-W.is) fits_amount)

pub returns-in-X-clause-spelled : goal.returns-in-X-clause-spelled
returns-in-X-clause-spelled c =
    let fits_amount : NumberFits c.in-X.amount = search rules in
    written_is_spelled (body_view c.args.op.now) c.requires (rw (c.in-X.is) fits_amount)

pub returns-in-Down-clause-spelled : goal.returns-in-Down-clause-spelled
returns-in-Down-clause-spelled c =
    let fits_amount : NumberFits c.in-Down.amount = search rules in
    written_is_spelled (body_view c.args.op.now) c.requires (rw (c.in-Down.is) fits_amount)

pub returns-in-Y-clause-spelled : goal.returns-in-Y-clause-spelled
returns-in-Y-clause-spelled c =
    let fits_amount : NumberFits c.in-Y.amount = search rules in
    written_is_spelled (body_view c.args.op.now) c.requires (rw (c.in-Y.is) fits_amount)

pub returns-in-Z-clause-spelled : goal.returns-in-Z-clause-spelled
returns-in-Z-clause-spelled c =
    let fits_amount : NumberFits c.in-Z.amount = search rules in
    written_is_spelled (body_view c.args.op.now) c.requires (rw (c.in-Z.is) fits_amount)

pub returns-in-FontNum-clause-spelled : goal.returns-in-FontNum-clause-spelled
returns-in-FontNum-clause-spelled c =
    let fits_font : NumberFits c.in-FontNum.font = search rules in
    written_is_spelled (body_view c.args.op.now) c.requires (rw (c.in-FontNum.is) fits_font)

pub returns-in-Xxx-clause-spelled : goal.returns-in-Xxx-clause-spelled
returns-in-Xxx-clause-spelled c = written_is_spelled (body_view c.args.op.now) c.requires (rw (c.in-Xxx.is) tt)
