-- The written bytes spell the instruction, since the numbers of an op fit their fields.
use Rattle.std.proofs.Common.{rules}
use Rattle.dvi_ops.specs.Spelling.{NumberFits}
use Rattle.dvi_ops.specs.View.{view}
use Rattle.dvi_ops.proofs.Spelled.{written_is_spelled}
use Rattle.dvi_ops.proofs.spelling.spell.Goals as goal

pub returns-in-PostPost-clause-spelled : goal.returns-in-PostPost-clause-spelled
returns-in-PostPost-clause-spelled c =
    let fits_place : NumberFits c.in-PostPost.place = search rules in
    written_is_spelled (view c.args.op.now) c.requires (rw (c.in-PostPost.is) fits_place)

pub returns-in-Bop-clause-spelled : goal.returns-in-Bop-clause-spelled
returns-in-Bop-clause-spelled c =
    let fits_pointer : NumberFits c.in-Bop.pointer = search rules in
    written_is_spelled (view c.args.op.now) c.requires (rw (c.in-Bop.is) (c.append_bop.ensures.ten, c.append_bop.ensures.fits, fits_pointer))

pub returns-in-FontDef-clause-spelled : goal.returns-in-FontDef-clause-spelled
returns-in-FontDef-clause-spelled c = written_is_spelled (view c.args.op.now) c.requires (rw (c.in-FontDef.is) c.append_definition.ensures.fits)

pub returns-in-Pre-clause-spelled : goal.returns-in-Pre-clause-spelled
returns-in-Pre-clause-spelled c = written_is_spelled (view c.args.op.now) c.requires (rw (c.in-Pre.is) c.append_pre.ensures.fits)

pub returns-in-Post-clause-spelled : goal.returns-in-Post-clause-spelled
returns-in-Post-clause-spelled c = written_is_spelled (view c.args.op.now) c.requires (rw (c.in-Post.is) c.append_post.ensures.fits)
