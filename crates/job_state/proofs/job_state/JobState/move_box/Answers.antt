use Rattle.std.proofs.Common.{◌∙◌, sym, refl}
use Rattle.job_state.proofs.TakenBoxes.{none_taken, box_back}
use Rattle.job_state.proofs.job_state.JobState.move_box.Goals as goal

pub returns-in_default-clause-ok : goal.returns-in_default-clause-ok
returns-in_default-clause-ok c =
    rw (sym c.self.view_is, sym c.take.ensures.value ∙ c.in_default.is, none_taken c.self.inside.registers c.take.new.self c.args.register c.take.result c.take.ensures.value c.take.ensures.void c.in_default.is) refl

pub returns-in-Err-clause-err : goal.returns-in-Err-clause-err
returns-in-Err-clause-err c =
    let back = box_back c.self.inside.registers c.take.new.self c.args.register c.take.result c.in-Some.box_node c.take.ensures.value c.take.ensures.void c.in-Some.is in
    rw (sym c.self.view_is, c.put.ensures, c.in-Err.ensures.err, c.in-Err.ensures.box_returned, back) refl
