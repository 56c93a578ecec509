-- Replies as rows of numbers (own).
use Rattle.std.specs.Prelude.{◌-◌, ◌^◌, ℕ, pos, min, List, Option, Some, None, Result, Ok, Err, map}
use Rattle.std.specs.List.{zip}
use Rattle.node_core.specs.declared.tree.Kind.{Kind}
use Rattle.node_core.specs.declared.tree.Kind.TheVariants.{Horizontal, Vertical}
use Rattle.scaled_core.specs.declared.sizes.Sizes.{Sizes}
use Rattle.job_machine.specs.declared.replies.Answer.{Answer}
use Rattle.job_machine.specs.declared.replies.Answer.TheVariants.{
  Done,
  Packed,
  Measured,
  MeasuredVoid,
  Shaped,
  Added,
  Paragraph,
  Split,
  SplitVoid,
  Shipped,
}
use Rattle.job_machine.specs.declared.replies.Refusal.{Refusal}
use Rattle.job_machine.specs.declared.replies.Refusal.TheVariants.{BadTfm}
use Rattle.page_core.specs.declared.summary.Summary.{Summary}
use Rattle.job_machine.specs.Reply.{Reply}
use Rattle.tfm_core.specs.declared.fault.TfmCause.{TfmCause}
use Rattle.tfm_core.specs.declared.fault.TfmCause.TheVariants.{TooShort, Counts, DesignSize, CharInfo, FixWord, LigKern}
use Rattle.boxglue_script.specs.declared.cause.Cause.{Cause}
use Rattle.boxglue_script.specs.declared.cause.Cause.TheVariants as causes
use Rattle.boxglue_program.specs.Texts.{refusal_row}
use Rattle.boxglue_calls.specs.declared.jobs.rows.BoxSizes.{BoxSizes}
use Rattle.boxglue_calls.specs.declared.jobs.rows.ReplyRow.{ReplyRow}

-- No sizes.
abbrev pub no_sizes : BoxSizes
no_sizes = record { width = pos 0; height = pos 0; depth = pos 0 }

-- A row of this kind in which every other number is 0.
abbrev pub row_of_kind : ℕ → ReplyRow
row_of_kind kind = record {
  line = 0;
  kind = kind;
  refusal = 0;
  cause = 0;
  box_kind = 0;
  box_sizes = no_sizes;
  rest = no_sizes;
  has_rest = 0;
  badness = 0;
  pass = 0;
  missing = 0;
  count = 0;
  bytes = 0;
  overhang = pos 0;
  demerits = pos 0;
}

-- The sizes of a box, in scaled points.
abbrev pub size_numbers : Sizes → BoxSizes
size_numbers sizes = record { width = sizes.width; height = sizes.height; depth = sizes.depth }

-- The number of a kind of box.
abbrev pub kind_number : Kind → ℕ
kind_number Horizontal = 0
kind_number Vertical = 1

-- The row of a split.
abbrev pub split_row : (front : Sizes) → (badness : ℕ) → (rest : Option Sizes) → ReplyRow
split_row front badness None = record (row_of_kind 9) { box_sizes = size_numbers front; badness = badness }
split_row front badness (Some rest) =
    record (row_of_kind 9) { box_sizes = size_numbers front; badness = badness; has_rest = 1; rest = size_numbers rest }

-- The row of an answer, without the number of its line. Missing characters are counted up to 2^32 - 1.
abbrev pub answer_row : Answer → ReplyRow
answer_row Done = row_of_kind 0
answer_row (Packed sizes badness) = record (row_of_kind 3) { box_sizes = size_numbers sizes; badness = badness }
answer_row (Measured kind sizes) = record (row_of_kind 4) { box_kind = kind_number kind; box_sizes = size_numbers sizes }
answer_row MeasuredVoid = row_of_kind 5
answer_row (Shaped items missing) = record (row_of_kind 6) { count = items; missing = min missing (2 ^ 32 - 1) }
answer_row (Added items) = record (row_of_kind 7) { count = items }
answer_row (Paragraph lines pass overhang demerits) = record (row_of_kind 8) { count = lines; pass = pass; overhang = overhang; demerits = demerits }
answer_row (Split front badness rest) = split_row front badness rest
answer_row SplitVoid = row_of_kind 10
answer_row (Shipped pages) = record (row_of_kind 11) { count = pages }

-- The number of the cause for which a metric file is refused.
abbrev pub metric_cause : TfmCause → ℕ
metric_cause TooShort = 1
metric_cause Counts = 2
metric_cause DesignSize = 3
metric_cause CharInfo = 4
metric_cause FixWord = 5
metric_cause LigKern = 6

-- The number of the cause of a refusal; 0 where it names none.
abbrev pub refusal_cause : Refusal → ℕ
refusal_cause (BadTfm cause) = metric_cause cause
refusal_cause refusal = 0

-- The row of a refusal, without the number of its line.
abbrev pub refused_row : Refusal → ReplyRow
refused_row refusal = record (row_of_kind 1) { refusal = (refusal_row refusal).0; cause = refusal_cause refusal }

-- The row of an answer or a refusal, without the number of its line.
abbrev pub unnumbered_row : Reply → ReplyRow
unnumbered_row (Ok answer) = answer_row answer
unnumbered_row (Err refusal) = refused_row refusal

-- The row of the reply to the line with this number.
abbrev pub reply_row : ℕ → Reply → ReplyRow
reply_row line reply = record (unnumbered_row reply) { line = line }

-- The rows of the replies to the lines with these numbers.
abbrev pub reply_rows : List ℕ → List Reply → List ReplyRow
reply_rows numbers replies = map (λ p. reply_row p.0 p.1) (zip numbers replies)

-- The row of the end of a job.
abbrev pub end_row : Result Summary Refusal → ReplyRow
end_row (Ok summary) = record (row_of_kind 12) { count = summary.pages; bytes = summary.bytes }
end_row (Err refusal) = refused_row refusal

-- The number of the cause for which a line is bad.
abbrev pub cause_number : Cause → ℕ
cause_number causes.Byte = 1
cause_number causes.Word = 2
cause_number causes.Missing = 3
cause_number causes.Extra = 4
cause_number causes.Number = 5
cause_number causes.Dimension = 6
cause_number causes.Name = 7

-- The row of a piece or a script that is refused for the line with this number.
abbrev pub bad_row : ℕ → Cause → ReplyRow
bad_row line cause = record (row_of_kind 2) { line = line; refusal = 2; cause = cause_number cause }
