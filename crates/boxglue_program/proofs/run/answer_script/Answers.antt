-- The run of the script, and the past of its device.
use Rattle.std.proofs.Common.{◌≡◌, inl, inr, Some, ap, refl, ◌∙◌}
use Rattle.boxglue_script.specs.Blocks.{lines_of}
use Rattle.boxglue_program.specs.Outcomes.{is_accepting}
use Rattle.boxglue_program.specs.Runs.{is_accepted, line_numbers}
use Rattle.boxglue_program.specs.Texts.{answers_text}
use Rattle.boxglue_program.proofs.RunLaws.{if_some}
use Rattle.boxglue_program.proofs.OutcomeLaws.{accepting_run}
use Rattle.boxglue_program.proofs.run.answer_script.Goals as goal

pub returns-in-Some-clause-sent : goal.returns-in-Some-clause-sent
returns-in-Some-clause-sent g c =
    let ran = c.in_ok-answers.ensures.ran in
    let is : c.in_ok-answers.field-0.answers ≡ Some c.in-Some.text = cc in
    inl (record {
      ran = record {
        lines = lines_of c.in-Ok.lines;
        replies = ran.0;
        end = ran.1;
        script = c.in-Ok.ensures.lines;
        run = ran.2;
        sent = ran.3;
        answer_is = if_some c.in_ok-answers.field-0.answers c.in-Some.text _ is ran.5;
        fine_is = c.is_accepting.ensures ∙ (ap is_accepting ran.6 ∙ accepting_run ran.0 ran.1);
      };
      past = ran.4;
    })

pub returns-in-Some-clause-answers : goal.returns-in-Some-clause-answers
returns-in-Some-clause-answers g c =
    let ran = c.in_ok-answers.ensures.ran in
    let is : c.in_ok-answers.field-0.answers ≡ Some c.in-Some.text = cc in
    inl (record {
      ran = record {
        lines = lines_of c.in-Ok.lines;
        replies = ran.0;
        end = ran.1;
        script = c.in-Ok.ensures.lines;
        run = ran.2;
        sent = tt;
        answer_is = if_some c.in_ok-answers.field-0.answers c.in-Some.text _ is ran.5;
        fine_is = c.is_accepting.ensures ∙ (ap is_accepting ran.6 ∙ accepting_run ran.0 ran.1);
      };
      past = tt;
    })

pub returns-in-None-clause-left_sent : goal.returns-in-None-clause-left_sent
returns-in-None-clause-left_sent g c =
    let lines = lines_of c.in-Ok.lines in
    let ran = c.in_ok-answers.ensures.ran in
    inr (
      answers_text (line_numbers lines) ran.0 ran.1,
      is_accepted ran.0 ran.1,
      record {
        ran = record { lines = lines; replies = ran.0; end = ran.1; script = c.in-Ok.ensures.lines; run = ran.2; sent = ran.3; answer_is = refl; fine_is = refl };
        past = ran.4;
      },
    )

pub returns-in-None-clause-left : goal.returns-in-None-clause-left
returns-in-None-clause-left g c =
    let lines = lines_of c.in-Ok.lines in
    let ran = c.in_ok-answers.ensures.ran in
    inr (
      answers_text (line_numbers lines) ran.0 ran.1,
      is_accepted ran.0 ran.1,
      record {
        ran = record { lines = lines; replies = ran.0; end = ran.1; script = c.in-Ok.ensures.lines; run = ran.2; sent = tt; answer_is = refl; fine_is = refl };
        past = tt;
      },
    )
