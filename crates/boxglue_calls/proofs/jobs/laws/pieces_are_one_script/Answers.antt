-- Two pieces are one script.
use Rattle.std.proofs.Common.{ℕ, ◌++◌, ap, sym, ◌∙◌}
use Rattle.boxglue_calls.specs.Numbers.{line_count, numbered_lines}
use Rattle.boxglue_calls.proofs.LineCounts.{count_joined, numbers_joined, script_joined}
use Rattle.boxglue_calls.proofs.jobs.laws.pieces_are_one_script.Goals as goal

pub returns : goal.returns
returns c = record {
  script = λ old middle new script more first second whole fits. script_joined script more first.lines second.lines whole fits first.piece second.piece;
  numbers = λ old middle new script more first second.
      ap (λ (n : ℕ). numbered_lines old.lines first.lines ++ numbered_lines n second.lines) first.counted ∙ sym (numbers_joined old.lines (line_count script) first.lines second.lines);
  count = λ old middle new script more first second whole. count_joined old.lines middle.lines new.lines script more whole first.counted second.counted;
}
