use Rattle.std.proofs.Common.{◌≡◌, ◌∙◌, ◌++◌, ◌+◌, ◌<◌, ◌≤◌, length, get_or, sym, ap, subst, arith}
use Rattle.std.specs.Prelude.{slice_get, nat_le}
use Rattle.std.proofs.lemmas.List.{length-reverse}
use Rattle.pack_core.proofs.Steps.{some_if-some, some_if-none}
use Rattle.pack_core.specs.Items.{height_above_baseline, depth_below_baseline}
use Rattle.pack_core.specs.Totals.{greatest_of}
use Rattle.pack_core.specs.ListTotals.{IsAcross}
use Rattle.break_lines.specs.declared.sums.Sums.{Sums}
use Rattle.break_lines.specs.Facts.{Facts, facts_of, begins_at, position_of}
use Rattle.break_lines.specs.Legal.{legal_places}
use Rattle.break_lines.specs.LineItems.{at_break, kept_items, sums_of}
use Rattle.break_lines.specs.Spans.{front_items, first_index, IsSpan}
use Rattle.break_lines.proofs.Tallest.{count_sizes, place_legal}
use Rattle.vert_core.specs.Lines.{line_places, line_begin, boxed_line, items_fit}
use Rattle.vert_core.specs.Private.Measuring.{amounts_of_stretch, amounts_of_shrink, IsAt}
use Rattle.vert_core.proofs.PlannedLines.{kept_front}
use Rattle.vert_core.proofs.Measured.{measured_fits, measured_box}
use Rattle.vert_core.proofs.SpanLines.{across_front, follow_here, next_at, no_front}
use Rattle.vert_core.proofs.Stacks.{count_places}
use Rattle.vert_core.proofs.measuring.size_span.Goals as goal

pub line_between-span-requires : goal.line_between-span-requires
line_between-span-requires c =
    let list = c.args.broken.now.nodes.now in
    let places = line_places c.args.broken.now.ends.now in
    let line = c.args.line in
    let from = c.args.from in
    let begin = line_begin places line in
    let end = get_or places line 0 in
    let within : line < length places = omega (arith, c.requires.line_bounded, count_places c.args.broken.now.ends.now) in
    let here = follow_here list places line from (length (legal_places list)) within c.requires.at.follow in
    let sizes = c.requires.measured.sizes in
    omega (arith, here.1, here.2, ap length sizes.places, length-reverse c.args.measured.now.sizes.places.items, count_sizes list)

pub across_span-across-requires-clause-later : goal.across_span-across-requires-clause-later
across_span-across-requires-clause-later c =
    let list = c.args.broken.now.nodes.now in
    let places = line_places c.args.broken.now.ends.now in
    let line = c.args.line in
    let from = c.args.from in
    let begin = line_begin places line in
    let end = get_or places line 0 in
    let within : line < length places = omega (arith, c.requires.line_bounded, count_places c.args.broken.now.ends.now) in
    let here = follow_here list places line from (length (legal_places list)) within c.requires.at.follow in
    let span : IsSpan list from here.0 c.line_between-span.result =
    c.line_between-span.ensures list c.requires.measured.sizes here.0 here.1 here.2 (c.line_end-end.ensures ∙ here.3) in
    omega (arith, span.to, here.1)

pub across_span-across-requires-clause-last : goal.across_span-across-requires-clause-last
across_span-across-requires-clause-last c =
    let list = c.args.broken.now.nodes.now in
    let places = line_places c.args.broken.now.ends.now in
    let line = c.args.line in
    let from = c.args.from in
    let begin = line_begin places line in
    let end = get_or places line 0 in
    let within : line < length places = omega (arith, c.requires.line_bounded, count_places c.args.broken.now.ends.now) in
    let here = follow_here list places line from (length (legal_places list)) within c.requires.at.follow in
    let span : IsSpan list from here.0 c.line_between-span.result =
    c.line_between-span.ensures list c.requires.measured.sizes here.0 here.1 here.2 (c.line_end-end.ensures ∙ here.3) in
    omega (arith, span.to, here.2, ap (λ (f : Facts). f.places) c.requires.measured.facts)

pub returns-in-None-clause-fits : goal.returns-in-None-clause-fits
returns-in-None-clause-fits c =
    let list = c.args.broken.now.nodes.now in
    let places = line_places c.args.broken.now.ends.now in
    let line = c.args.line in
    let from = c.args.from in
    let begin = line_begin places line in
    let end = get_or places line 0 in
    let within : line < length places = omega (arith, c.requires.line_bounded, count_places c.args.broken.now.ends.now) in
    let here = follow_here list places line from (length (legal_places list)) within c.requires.at.follow in
    let span : IsSpan list from here.0 c.line_between-span.result =
    c.line_between-span.ensures list c.requires.measured.sizes here.0 here.1 here.2 (c.line_end-end.ensures ∙ here.3) in
    let front = front_items list begin end in
    let kept : front ++ at_break (slice_get list end) ≡ kept_items list begin end = kept_front list begin end in
    let same : (facts_of c.args.measured.now.meter.nodes.now).sums from c.line_between-span.result.to ≡ sums_of (kept_items list begin end) =
    ap (λ (f : Facts). f.sums from c.line_between-span.result.to) c.requires.measured.facts ∙ ap ((facts_of list).sums from) span.to
    ∙ ap (λ b. sums_of (kept_items list b (position_of list here.0))) c.requires.at.begin ∙ ap (λ p. sums_of (kept_items list begin p)) (sym here.3) in
    let part : front_items list (begins_at list from) (position_of list here.0) ≡ front =
    ap (λ b. front_items list b (position_of list here.0)) c.requires.at.begin ∙ ap (front_items list begin) (sym here.3) in
    let sums = c.across_span-across.ensures.sums in
    let across : IsAcross front c.across_span-across.result = across_front list begin end front c.across_span-across.result kept c.requires.measured.finite
    (sums.0 ∙ ap (λ (s : Sums). s.width) same) (sums.1 ∙ ap amounts_of_stretch same) (sums.2 ∙ ap amounts_of_shrink same)
    (c.across_span-across.ensures.height ∙ span.height ∙ ap (greatest_of height_above_baseline) part)
    (c.across_span-across.ensures.depth ∙ span.depth ∙ ap (greatest_of depth_below_baseline) part) in
    let first : c.line_between-span.result.begin ≡ first_index list begin end =
    span.begin ∙ ap (λ b. first_index list b (position_of list here.0)) c.requires.at.begin ∙ ap (first_index list begin) (sym here.3) in
    let low : end ≤ length list = omega (arith, here.3, (place_legal list here.0 (omega (arith, here.1)) here.2).0) in
    let empty = ap (λ e. nat_le e c.line_between-span.result.begin) c.line_end-end.ensures
    ∙ no_front list begin end c.line_between-span.result.begin low first in
    let shell = c.measured_shell.ensures front across empty in
    let unfit = some_if-none _ _ (sym shell ∙ c.in-None.is) in
    sym (measured_fits c.line_size.result list begin end front kept ∙ unfit)
    ∙ ap (λ size. items_fit size (kept_items list begin end)) c.line_size.ensures

pub returns-clause-fits : goal.returns-clause-fits
returns-clause-fits c =
    let list = c.args.broken.now.nodes.now in
    let places = line_places c.args.broken.now.ends.now in
    let line = c.args.line in
    let from = c.args.from in
    let begin = line_begin places line in
    let end = get_or places line 0 in
    let within : line < length places = omega (arith, c.requires.line_bounded, count_places c.args.broken.now.ends.now) in
    let here = follow_here list places line from (length (legal_places list)) within c.requires.at.follow in
    let span : IsSpan list from here.0 c.line_between-span.result =
    c.line_between-span.ensures list c.requires.measured.sizes here.0 here.1 here.2 (c.line_end-end.ensures ∙ here.3) in
    let front = front_items list begin end in
    let kept : front ++ at_break (slice_get list end) ≡ kept_items list begin end = kept_front list begin end in
    let same : (facts_of c.args.measured.now.meter.nodes.now).sums from c.line_between-span.result.to ≡ sums_of (kept_items list begin end) =
    ap (λ (f : Facts). f.sums from c.line_between-span.result.to) c.requires.measured.facts ∙ ap ((facts_of list).sums from) span.to
    ∙ ap (λ b. sums_of (kept_items list b (position_of list here.0))) c.requires.at.begin ∙ ap (λ p. sums_of (kept_items list begin p)) (sym here.3) in
    let part : front_items list (begins_at list from) (position_of list here.0) ≡ front =
    ap (λ b. front_items list b (position_of list here.0)) c.requires.at.begin ∙ ap (front_items list begin) (sym here.3) in
    let sums = c.across_span-across.ensures.sums in
    let across : IsAcross front c.across_span-across.result = across_front list begin end front c.across_span-across.result kept c.requires.measured.finite
    (sums.0 ∙ ap (λ (s : Sums). s.width) same) (sums.1 ∙ ap amounts_of_stretch same) (sums.2 ∙ ap amounts_of_shrink same)
    (c.across_span-across.ensures.height ∙ span.height ∙ ap (greatest_of height_above_baseline) part)
    (c.across_span-across.ensures.depth ∙ span.depth ∙ ap (greatest_of depth_below_baseline) part) in
    let first : c.line_between-span.result.begin ≡ first_index list begin end =
    span.begin ∙ ap (λ b. first_index list b (position_of list here.0)) c.requires.at.begin ∙ ap (first_index list begin) (sym here.3) in
    let low : end ≤ length list = omega (arith, here.3, (place_legal list here.0 (omega (arith, here.1)) here.2).0) in
    let empty = ap (λ e. nat_le e c.line_between-span.result.begin) c.line_end-end.ensures
    ∙ no_front list begin end c.line_between-span.result.begin low first in
    let shell = c.measured_shell.ensures front across empty in
    let fit = some_if-some _ _ c.in-Some.shell (sym shell ∙ c.in-Some.is) in
    sym (measured_fits c.line_size.result list begin end front kept ∙ fit.0)
    ∙ ap (λ size. items_fit size (kept_items list begin end)) c.line_size.ensures

pub returns-clause-packed : goal.returns-clause-packed
returns-clause-packed c =
    let list = c.args.broken.now.nodes.now in
    let places = line_places c.args.broken.now.ends.now in
    let line = c.args.line in
    let from = c.args.from in
    let begin = line_begin places line in
    let end = get_or places line 0 in
    let within : line < length places = omega (arith, c.requires.line_bounded, count_places c.args.broken.now.ends.now) in
    let here = follow_here list places line from (length (legal_places list)) within c.requires.at.follow in
    let span : IsSpan list from here.0 c.line_between-span.result =
    c.line_between-span.ensures list c.requires.measured.sizes here.0 here.1 here.2 (c.line_end-end.ensures ∙ here.3) in
    let front = front_items list begin end in
    let kept : front ++ at_break (slice_get list end) ≡ kept_items list begin end = kept_front list begin end in
    let same : (facts_of c.args.measured.now.meter.nodes.now).sums from c.line_between-span.result.to ≡ sums_of (kept_items list begin end) =
    ap (λ (f : Facts). f.sums from c.line_between-span.result.to) c.requires.measured.facts ∙ ap ((facts_of list).sums from) span.to
    ∙ ap (λ b. sums_of (kept_items list b (position_of list here.0))) c.requires.at.begin ∙ ap (λ p. sums_of (kept_items list begin p)) (sym here.3) in
    let part : front_items list (begins_at list from) (position_of list here.0) ≡ front =
    ap (λ b. front_items list b (position_of list here.0)) c.requires.at.begin ∙ ap (front_items list begin) (sym here.3) in
    let sums = c.across_span-across.ensures.sums in
    let across : IsAcross front c.across_span-across.result = across_front list begin end front c.across_span-across.result kept c.requires.measured.finite
    (sums.0 ∙ ap (λ (s : Sums). s.width) same) (sums.1 ∙ ap amounts_of_stretch same) (sums.2 ∙ ap amounts_of_shrink same)
    (c.across_span-across.ensures.height ∙ span.height ∙ ap (greatest_of height_above_baseline) part)
    (c.across_span-across.ensures.depth ∙ span.depth ∙ ap (greatest_of depth_below_baseline) part) in
    let first : c.line_between-span.result.begin ≡ first_index list begin end =
    span.begin ∙ ap (λ b. first_index list b (position_of list here.0)) c.requires.at.begin ∙ ap (first_index list begin) (sym here.3) in
    let low : end ≤ length list = omega (arith, here.3, (place_legal list here.0 (omega (arith, here.1)) here.2).0) in
    let empty = ap (λ e. nat_le e c.line_between-span.result.begin) c.line_end-end.ensures
    ∙ no_front list begin end c.line_between-span.result.begin low first in
    let shell = c.measured_shell.ensures front across empty in
    let fit = some_if-some _ _ c.in-Some.shell (sym shell ∙ c.in-Some.is) in
    measured_box c.line_size.result list begin end front c.in-Some.shell kept (sym fit.1)
    ∙ ap (λ size. boxed_line size (kept_items list begin end)) c.line_size.ensures

pub returns-clause-begin : goal.returns-clause-begin
returns-clause-begin c =
    let list = c.args.broken.now.nodes.now in
    let places = line_places c.args.broken.now.ends.now in
    let line = c.args.line in
    let from = c.args.from in
    let begin = line_begin places line in
    let end = get_or places line 0 in
    let within : line < length places = omega (arith, c.requires.line_bounded, count_places c.args.broken.now.ends.now) in
    let here = follow_here list places line from (length (legal_places list)) within c.requires.at.follow in
    let span : IsSpan list from here.0 c.line_between-span.result =
    c.line_between-span.ensures list c.requires.measured.sizes here.0 here.1 here.2 (c.line_end-end.ensures ∙ here.3) in
    span.begin ∙ ap (λ b. first_index list b (position_of list here.0)) c.requires.at.begin ∙ ap (first_index list begin) (sym here.3)

pub returns-clause-next : goal.returns-clause-next
returns-clause-next c =
    let list = c.args.broken.now.nodes.now in
    let places = line_places c.args.broken.now.ends.now in
    let line = c.args.line in
    let from = c.args.from in
    let begin = line_begin places line in
    let end = get_or places line 0 in
    let within : line < length places = omega (arith, c.requires.line_bounded, count_places c.args.broken.now.ends.now) in
    let here = follow_here list places line from (length (legal_places list)) within c.requires.at.follow in
    let span : IsSpan list from here.0 c.line_between-span.result =
    c.line_between-span.ensures list c.requires.measured.sizes here.0 here.1 here.2 (c.line_end-end.ensures ∙ here.3) in
    subst (IsAt list places (line + 1)) (sym span.to) (next_at list places line here.0 within (omega (arith, here.1)) here.3 here.4)
