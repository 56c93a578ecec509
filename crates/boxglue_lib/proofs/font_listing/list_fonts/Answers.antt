-- The fonts of a file that was read, or a beginning of their lines.
use Rattle.std.proofs.Common.{Ok, refl, subst, sym}
use Rattle.boxglue_lib.specs.Ends.{EndsTask, TaskEnd}
use Rattle.boxglue_lib.specs.FontListings.{font_rules}
use Rattle.boxglue_lib.specs.declared.task_fault.TaskFault.TheVariants.{Unwritten}
use Rattle.boxglue_lib.proofs.EndLemmas.{handed_end, mapped_ok}
use Rattle.boxglue_lib.proofs.font_listing.list_fonts.Goals as goal

pub returns-in_err-write_text-clause-ended : goal.returns-in_err-write_text-clause-ended
returns-in_err-write_text-clause-ended g c =
    let read = mapped_ok _ c.read_file.result (Ok c.in_ok-bytes.bytes) c.in_ok-bytes.bytes refl c.read_file.ensures.ok c.in_ok-bytes.ensures.cases in
    subst (λ (it : TaskEnd). EndsTask (font_rules (g.H.FileHost.file c.args.host.now) c.args.dvi.now) it (g.W.Write.contents c.args.output.now)
    (g.W.Write.contents c.write_text.new.writer))
    (sym (handed_end c.from_residual-in_err-write_text.result Unwritten c.from_residual-in_err-write_text.ensures.1)) (
      c.deref-2.result.now,
      c.in_ok-text.field-0.accepted,
      (c.deref.result.now, rw c.deref.ensures.value read, rw c.deref-2.ensures.value c.in_ok-text.ensures),
      c.in_err-write_text.ensures.front,
    )

pub returns-clause-ended : goal.returns-clause-ended
returns-clause-ended g c =
    let read = mapped_ok _ c.read_file.result (Ok c.in_ok-bytes.bytes) c.in_ok-bytes.bytes refl c.read_file.ensures.ok c.in_ok-bytes.ensures.cases in (
      c.deref-2.result.now,
      (c.deref.result.now, rw c.deref.ensures.value read, rw c.deref-2.ensures.value c.in_ok-text.ensures),
      c.in_ok-write_text.ensures.all,
    )
