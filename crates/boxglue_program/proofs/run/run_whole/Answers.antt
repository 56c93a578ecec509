-- The run and its end.
use Rattle.std.proofs.Common.{◌++◌, ℕ, List, ap, sym, ◌∙◌}
use Rattle.boxglue_script.specs.Blocks.{lines_of}
use Rattle.job_core.proofs.WholeRuns.{job_run}
use Rattle.boxglue_program.proofs.OutcomeLaws.{outcome_at_end}
use Rattle.boxglue_program.specs.Runs.{commands_of, line_numbers}
use Rattle.boxglue_program.specs.Texts.{answer_lines, answers_text}
use Rattle.boxglue_program.proofs.run.run_whole.Goals as goal

pub returns-clause-ran : goal.returns-clause-ran
unfolding answers_text
returns-clause-ran g c =
    let ran = c.run_blocks-run.ensures.ran in
    let end = c.finish-end.ensures in
    let all = job_run c.args.files.now (commands_of (lines_of c.args.lines)) ran.0 c.finish-end.result c.in_ok-job.job c.run_blocks-run.new.job c.finish-end.new.self
    (g.D.Device.failed c.args.device) (g.D.Device.failed c.into_device.result) (g.D.Device.bytes_written c.into_device.result)
    (g.D.Device.past c.args.device) (g.D.Device.past c.into_device.result) c.in_ok-job.ensures.ok ran.1 end.finished end.file end.dvi end.end end.size end.count end.part
    (end.goes_on.began ∙ c.run_blocks-run.ensures.goes_on.began) (sym c.in_ok-job.ensures.made.failed) c.into_device.ensures.failed c.into_device.ensures.bytes_written
    c.in_ok-job.ensures.made.began c.into_device.ensures.past in (
      ran.0,
      c.finish-end.result,
      all.0,
      all.1.0,
      all.1.1,
      c.with_end.ensures (answer_lines (line_numbers (lines_of c.args.lines)) ran.0)
          (λ are_answers_kept. ran.2 are_answers_kept ∙ ap (λ (text : List ℕ). text ++ answer_lines (line_numbers (lines_of c.args.lines)) ran.0) c.new-answers.ensures.items),
      outcome_at_end c.run_blocks-run.result.outcome c.of.result c.worse.result ran.0 c.finish-end.result ran.3 c.of.ensures c.worse.ensures,
    )
