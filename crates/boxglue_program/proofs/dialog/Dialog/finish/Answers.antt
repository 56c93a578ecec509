-- The end of the run, and its line.
use Rattle.std.proofs.Common.{◌++◌, ◌&&◌, ℕ, Bool, List, ap, ◌∙◌}
use Rattle.boxglue_program.specs.Texts.{end_line}
use Rattle.job_core.proofs.WholeRuns.{was_run, was_sent}
use Rattle.boxglue_program.proofs.dialog.Dialog.finish.Goals as goal

pub returns-clause-ended : goal.returns-clause-ended
returns-clause-ended g c = rw (← c.self.view_is) (
  c.finish-end.result,
  λ files first commands replies holds runs.
      let end = c.finish-end.ensures in (
        was_run files commands replies c.finish-end.result first c.self.inside.job c.finish-end.new.self holds runs end.finished end.dvi end.size,
        was_sent files commands replies c.finish-end.result first c.self.inside.job c.finish-end.new.self holds runs end.finished end.file end.end
            end.count end.part,
      ),
  c.in-Ok.ensures.ok ∙ ap (λ (text : List ℕ). text ++ end_line c.finish-end.result) c.in_ok-reserve.ensures.items,
  ap (λ (b : Bool). c.self.inside.accepted && b) c.is_ok.ensures.value,
)
