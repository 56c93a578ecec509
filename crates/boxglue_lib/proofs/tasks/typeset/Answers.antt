-- The script was typeset, and its end was reported.
use Rattle.std.proofs.Common.{refl}
use Rattle.boxglue_lib.proofs.EndLemmas.{not_typeset, typeset_ended}
use Rattle.boxglue_lib.proofs.tasks.typeset.Goals as goal

pub returns : goal.returns
returns g c =
    let run = c.typeset_file-written.result in
    let does = c.typeset_file-written.ensures in
    typeset_ended c.args.fonts.now c.args.out.now _ _ (record { is_created = run.is_created; done = run.written; written = g.H.FileHost.written run.host }) c.in-Ok.inputs.bytes.items
    c.in-Ok.inputs.files.items run.end _ _ _ _ _ c.in-Ok.ensures.script c.in-Ok.ensures.files does.task_ended does.left
    (record { written = refl; placed = does.placed; untouched = does.untouched; unchanged = does.unchanged; blamed = does.blamed }) c.tell_unwritten.ensures
    c.report_end-2.ensures.output c.report_end-2.ensures.errors c.report_end-2.ensures.status

pub returns-in-Err : goal.returns-in-Err
returns-in-Err g c =
    let output = rw c.from.ensures at c.report_end.ensures.output in
    let errors = rw c.from.ensures at c.report_end.ensures.errors in
    let status = rw c.from.ensures at c.report_end.ensures.status in
    not_typeset g.H.FileHost.file g.H.FileHost.created g.H.FileHost.written g.H.FileHost.failures _ _ _ c.args.fonts.now c.args.out.now c.in-Err.fault _ _ _
    c.in-Err.ensures.err output errors status
