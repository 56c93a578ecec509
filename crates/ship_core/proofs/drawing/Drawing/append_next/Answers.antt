use Rattle.std.proofs.Common.{ap}
use Rattle.std.specs.Prelude.{pos}
use Rattle.std.specs.Option.{option_map}
use Rattle.dvi_ops.specs.Runs.{instructions_of}
use Rattle.ship_core.proofs.Drawings.{drawn_next}
use Rattle.ship_core.proofs.drawing.Drawing.append_next.Goals as goal

pub returns-clause-ops : goal.returns-clause-ops
returns-clause-ops c was rest =
    let self = c.args.self.now in
    let at = c.args.at in
    let glyph = c.args.glyph in
    let font = ap (option_map pos) c.requires.font in
    drawn_next (instructions_of self.ops) (instructions_of c.push_in_space.new.self) self.h self.v (option_map pos self.font)
    (option_map pos self.font) at.h at.v
    glyph.width c.args.end self.v glyph.slot glyph.code rest (c.push_in_space.ensures.pushed c.if-not-push_in_space.false) c.requires.end
    c.requires.h c.requires.v
    font font c.requires.v
