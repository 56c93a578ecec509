use Rattle.std.proofs.Common.{◌+◌}
use Rattle.vert_core.specs.Lines.{line_places}
use Rattle.vert_core.specs.Private.Measuring.{IsAt, IsMeasuredBy}
use Rattle.vert_core.proofs.SpanLines.{at_some, next_known, next_unknown}
use Rattle.vert_core.proofs.measuring.size_line.Goals as goal

pub size_span-requires-clause-measured : goal.size_span-requires-clause-measured
size_span-requires-clause-measured c =
    let list = c.args.broken.now.nodes.now in
    let places = line_places c.args.broken.now.ends.now in
    (at_some c.args.broken.now.measured _ (Unit {0}) (λ m. IsMeasuredBy list m.now × IsAt list places c.args.line c.args.from) c.in-Some.is c.requires.known).0

pub size_span-requires-clause-at : goal.size_span-requires-clause-at
size_span-requires-clause-at c =
    let list = c.args.broken.now.nodes.now in
    let places = line_places c.args.broken.now.ends.now in
    (at_some c.args.broken.now.measured _ (Unit {0}) (λ m. IsMeasuredBy list m.now × IsAt list places c.args.line c.args.from) c.in-Some.is c.requires.known).1

pub returns-in-None-clause-next : goal.returns-in-None-clause-next
returns-in-None-clause-next c =
    let list = c.args.broken.now.nodes.now in
    let places = line_places c.args.broken.now.ends.now in
    next_unknown c.args.broken.now.measured c.size_items.result (λ m sized. IsMeasuredBy list m.now × IsAt list places (c.args.line + 1) sized.to) c.in-None.is

pub returns-in-Some-clause-next : goal.returns-in-Some-clause-next
returns-in-Some-clause-next c =
    let list = c.args.broken.now.nodes.now in
    let places = line_places c.args.broken.now.ends.now in
    let known =
    (at_some c.args.broken.now.measured _ (Unit {0}) (λ m. IsMeasuredBy list m.now × IsAt list places c.args.line c.args.from) c.in-Some.is c.requires.known).0 in
    next_known c.args.broken.now.measured _ c.size_span.result (λ m. IsMeasuredBy list m.now) (λ sized. IsAt list places (c.args.line + 1) sized.to) c.in-Some.is known
    c.size_span.ensures.next
