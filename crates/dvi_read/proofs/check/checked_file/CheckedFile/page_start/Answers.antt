-- The bop at the place begins the page.
use Rattle.std.proofs.Common.{◌≡◌, ap, rules, vec_len}
use Rattle.dvi_ops.specs.View.{view}
use Rattle.dvi_scan.proofs.OpLemmas.{no_bop}
use Rattle.dvi_read.proofs.OnePageLemmas.{bop_is, bop_there, page_begins}
use Rattle.dvi_read.proofs.ShownLemmas.{begins_here}
use Rattle.dvi_read.proofs.check.checked_file.CheckedFile.page_start.Goals as goal

pub read_at-requires-clause-low : goal.read_at-requires-clause-low
read_at-requires-clause-low c =
    let (pages, shows) = c.requires.shown in
    let size : c.len.result ≡ vec_len c.args.self.now.places = search rules in
    (begins_here c.args.self.now pages c.args.index c.index-place.result.now c.len.result shows c.requires.below size c.index-place.ensures).rest.low

pub unreachable-requires : goal.unreachable-requires
unreachable-requires c =
    let (pages, shows) = c.requires.shown in
    let size : c.len.result ≡ vec_len c.args.self.now.places = search rules in
    let bop = begins_here c.args.self.now pages c.args.index c.index-place.result.now c.len.result shows c.requires.below size c.index-place.ensures in
    bop_there c.args.self.now pages c.args.index c.index-place.result.now bop c.in_default.ensures.none

pub unreachable-requires-in_default-op : goal.unreachable-requires-in_default-op
unreachable-requires-in_default-op c =
    let (pages, shows) = c.requires.shown in
    let size : c.len.result ≡ vec_len c.args.self.now.places = search rules in
    let found = c.in-Ok.ensures in
    let bop = begins_here c.args.self.now pages c.args.index c.index-place.result.now c.len.result shows c.requires.below size c.index-place.ensures in
    let is = bop_is c.args.self.now pages c.args.index c.index-place.result.now bop (view c.in-Ok.op) c.in-Ok.at found.after found.end_bounded found.found in
    no_bop c.in-Ok.op c.in_default-op.not-Bop bop.counts bop.pointer is

pub returns : goal.returns
returns c = λ pages shows.
    let size : c.len.result ≡ vec_len c.args.self.now.places = search rules in
    let found = c.in-Ok.ensures in
    let bop = begins_here c.args.self.now pages c.args.index c.index-place.result.now c.len.result shows c.requires.below size c.index-place.ensures in
    page_begins c.args.self.now pages c.args.index c.index-place.result.now bop (view c.in-Ok.op) c.in-Ok.at found.after found.end_bounded found.found c.in-Bop.counts _ (ap view c.in-Bop.is)
