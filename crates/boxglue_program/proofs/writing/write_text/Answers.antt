use Rattle.std.proofs.Common.{arith, length-drop}
use Rattle.std.proofs.lemmas.List.{take_rest}
use Rattle.boxglue_program.proofs.WritingLemmas.{appends_more}
use Rattle.boxglue_program.proofs.writing.write_text.Goals as goal

pub loop-preserved : goal.loop-preserved
loop-preserved g c =
    let xs = c.args.text.now in
    let s = c.loop.written in
    let n = c.in_ok-written.field-0 in
    let taken = rw take_rest at c.in_ok-written.ensures.taken in
    let within = rw take_rest at c.in_ok-written.ensures.count_bounded in
    record {
      within = omega (arith, within, length-drop s xs);
      begun = appends_more _ _ _ xs s n c.loop.invariant.begun taken;
    }
