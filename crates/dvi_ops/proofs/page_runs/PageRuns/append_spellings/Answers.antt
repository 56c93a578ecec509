use Rattle.std.proofs.Common.{◌<◌, length, arith}
use Rattle.dvi_ops.proofs.Kept.{kept_in_front}
use Rattle.dvi_ops.proofs.Runs.{woven_split, bytes_further, spelled_further}
use Rattle.dvi_ops.proofs.page_runs.PageRuns.append_spellings.Goals as goal

pub spell_body-requires : goal.spell_body-requires
spell_body-requires c =
    let runs = c.args.self.now in
    let i = c.loop-index.index in
    let inside : i < length runs.ops.items = omega (arith, c.loop-index-test.true, c.len-index-end.ensures) in
    let is = woven_split c.loop-index.from c.loop-index.rest.now runs.places.items runs.ops.items i c.index-place.result.now c.index.result.now c.saturating_sub.result
    c.split_codes.result.0.now c.split_codes.result.1.now inside runs.paired c.index-place.ensures c.index.ensures c.saturating_sub.ensures c.split_codes.ensures.run
    c.split_codes.ensures.rest in
    (spelled_further _ _ _ _ c.loop-index.invariant.spelled is).0

pub loop-index-preserved : goal.loop-index-preserved
loop-index-preserved c =
    let runs = c.args.self.now in
    let i = c.loop-index.index in
    let inside : i < length runs.ops.items = omega (arith, c.loop-index-test.true, c.len-index-end.ensures) in
    let is = woven_split c.loop-index.from c.loop-index.rest.now runs.places.items runs.ops.items i c.index-place.result.now c.index.result.now c.saturating_sub.result
    c.split_codes.result.0.now c.split_codes.result.1.now inside runs.paired c.index-place.ensures c.index.ensures c.saturating_sub.ensures c.split_codes.ensures.run
    c.split_codes.ensures.rest in
    record {
      bytes = bytes_further _ _ _ _ _ _ _ _ c.in_ok-append_characters.ensures.ok c.in_ok-spell_body.ensures.ok c.loop-index.invariant.bytes is;
      spelled = (spelled_further _ _ _ _ c.loop-index.invariant.spelled is).1;
      kept =
          kept_in_front _ _ _ _ (kept_in_front _ _ _ _ c.loop-index.invariant.kept c.in_ok-append_characters.ensures.ok) c.in_ok-spell_body.ensures.ok;
    }
