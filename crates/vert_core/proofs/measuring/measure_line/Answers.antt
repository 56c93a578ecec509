use Rattle.std.proofs.Common.{◌≡◌, ◌∙◌, sym, ap, true, false}
use Rattle.std.specs.Option.{is_some}
use Rattle.std.specs.Result.{is_ok}
use Rattle.break_lines.specs.Sizes.{line_size}
use Rattle.vert_core.specs.Private.Measuring.{items_at, box_fits_at}
use Rattle.vert_core.proofs.Measured.{fits_by, unfits_by}
use Rattle.vert_core.proofs.measuring.measure_line.Goals as goal

pub returns-in-None-clause-fits : goal.returns-in-None-clause-fits
returns-in-None-clause-fits c =
    let broken = c.args.broken.now in
    let unfit : box_fits_at broken c.args.line ≡ false = sym c.size_line.ensures.fits ∙ ap is_some c.in-None.is in
    sym (unfits_by broken.params.now (line_size broken.params.now c.args.line) c.args.previous_depth (items_at broken c.args.line) unfit)

pub returns-in_default-clause-fits : goal.returns-in_default-clause-fits
returns-in_default-clause-fits c =
    let broken = c.args.broken.now in
    let fit : box_fits_at broken c.args.line ≡ true = sym c.size_line.ensures.fits ∙ ap is_some c.in-Some.is in
    sym (fits_by broken.params.now (line_size broken.params.now c.args.line) c.args.previous_depth (items_at broken c.args.line) c.in-Some.sized.shell fit c.in-Some.ensures.packed
    ∙ ap is_ok (sym c.interline_glue.ensures ∙ c.in_default.is))

pub returns-clause-fits : goal.returns-clause-fits
returns-clause-fits c =
    let broken = c.args.broken.now in
    let fit : box_fits_at broken c.args.line ≡ true = sym c.size_line.ensures.fits ∙ ap is_some c.in-Some.is in
    sym (fits_by broken.params.now (line_size broken.params.now c.args.line) c.args.previous_depth (items_at broken c.args.line) c.in-Some.sized.shell fit c.in-Some.ensures.packed
    ∙ ap is_ok (sym c.interline_glue.ensures ∙ c.in-Ok.is))
