use Rattle.std.proofs.Common.{rules, ◌≡◌, ◌∙◌, ◌++◌, length, length-append, get_or, sym, ap, arith}
use Rattle.std.specs.Prelude.{slice_get}
use Rattle.pack_core.proofs.Steps.{some_if-some, some_if-none}
use Rattle.break_lines.specs.LineItems.{at_break, kept_items}
use Rattle.vert_core.specs.Lines.{line_places, line_begin, boxed_line, items_fit}
use Rattle.vert_core.proofs.KeptItems.{length_kept}
use Rattle.vert_core.proofs.PlannedLines.{front_within}
use Rattle.vert_core.proofs.Measured.{measured_fits, measured_box}
use Rattle.vert_core.proofs.measuring.size_items.Goals as goal

pub returns-in-None-clause-fits : goal.returns-in-None-clause-fits
returns-in-None-clause-fits c =
    let list = c.args.broken.now.nodes.now in
    let begin = line_begin (line_places c.args.broken.now.ends.now) c.args.line in
    let end = get_or (line_places c.args.broken.now.ends.now) c.args.line 0 in
    let front = c.front_of-front.result.now in
    let is : front ++ at_break (slice_get list end) ≡ kept_items list begin end = cc (c.front_of-front.ensures.items, c.line_begin-begin.ensures, c.line_end-end.ensures) in
    let unfit = some_if-none _ _ (sym c.hbox_shell.ensures ∙ c.in-None.is) in
    sym (measured_fits c.line_size-size.result list begin end front is ∙ unfit)
    ∙ ap (λ size. items_fit size (kept_items list begin end)) c.line_size-size.ensures

pub returns-clause-fits : goal.returns-clause-fits
returns-clause-fits c =
    let list = c.args.broken.now.nodes.now in
    let begin = line_begin (line_places c.args.broken.now.ends.now) c.args.line in
    let end = get_or (line_places c.args.broken.now.ends.now) c.args.line 0 in
    let front = c.front_of-front.result.now in
    let is : front ++ at_break (slice_get list end) ≡ kept_items list begin end = cc (c.front_of-front.ensures.items, c.line_begin-begin.ensures, c.line_end-end.ensures) in
    let fit = some_if-some _ _ c.in-Some.shell (sym c.hbox_shell.ensures ∙ c.in-Some.is) in
    sym (measured_fits c.line_size-size.result list begin end front is ∙ fit.0)
    ∙ ap (λ size. items_fit size (kept_items list begin end)) c.line_size-size.ensures

pub returns-clause-packed : goal.returns-clause-packed
returns-clause-packed c =
    let list = c.args.broken.now.nodes.now in
    let begin = line_begin (line_places c.args.broken.now.ends.now) c.args.line in
    let end = get_or (line_places c.args.broken.now.ends.now) c.args.line 0 in
    let front = c.front_of-front.result.now in
    let is : front ++ at_break (slice_get list end) ≡ kept_items list begin end = cc (c.front_of-front.ensures.items, c.line_begin-begin.ensures, c.line_end-end.ensures) in
    let fit = some_if-some _ _ c.in-Some.shell (sym c.hbox_shell.ensures ∙ c.in-Some.is) in
    measured_box c.line_size-size.result list begin end front c.in-Some.shell is (sym fit.1)
    ∙ ap (λ size. boxed_line size (kept_items list begin end)) c.line_size-size.ensures

pub hbox_shell-requires : goal.hbox_shell-requires
hbox_shell-requires c =
    let list = c.args.broken.now.nodes.now in
    let end = c.line_end-end.result in
    let front = c.front_of-front.result.now in
    omega (
      arith,
      c.requires.list_bounded,
      length_kept list c.line_begin-begin.result end,
      ap length c.front_of-front.ensures.items,
      length-append front (at_break (slice_get list end)),
    )

pub overflow_sub-begin : goal.overflow_sub-begin
overflow_sub-begin c =
    front_within c.args.broken.now.nodes.now c.line_begin-begin.result c.line_end-end.result c.front_of-front.result.now c.min.result c.front_of-front.ensures.front (search rules)
