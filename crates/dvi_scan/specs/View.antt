-- What the values of the code represent (own).
use Rattle.std.specs.Prelude.{map}
use Rattle.dvi_ops.specs.Body.{Position, DviState}
use Rattle.scaled_core.specs.Mark.{Mark, Glyph, Rule, Special}
use Rattle.dvi_ops.specs.File.{MarkedPage}
use Rattle.dvi_scan.specs.declared.page.Mark.{Mark as PassMark}
use Rattle.dvi_scan.specs.declared.page.Mark.TheVariants as marks
use Rattle.dvi_scan.specs.declared.page.Page.{Page}
use Rattle.dvi_scan.specs.declared.page.Position.{Position as Spot}
use Rattle.dvi_scan.specs.declared.page.DviState.{DviState as CodeState}

-- The mark that a value of the code represents.
abbrev pub mark_of : PassMark → Mark
mark_of (marks.Glyph font code h v) = Glyph font code h v
mark_of (marks.Rule h v height width) = Rule h v height width
mark_of (marks.Special h v text) = Special h v text.now

-- The page that a value of the code represents.
abbrev pub marked_page : Page → MarkedPage
marked_page p = record { counts = p.counts; marks = map mark_of p.marks.items }

-- The place that a value of the code represents: w and x across, y and z downward.
abbrev pub spot_position : Spot → Position
spot_position p =
    record { h = p.h; v = p.v; held = record { across = record { first = p.w; second = p.x }; down = record { first = p.y; second = p.z } } }

-- The state that a value of the code represents.
abbrev pub dvi_state : CodeState → DviState
dvi_state s = record { place = spot_position s.place; font = s.font }
