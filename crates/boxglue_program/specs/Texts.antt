-- The texts of answers (own).
use Rattle.std.specs.Prelude.{◌==◌, ℕ, ℤ, ◌+◌, ◌/◌, ◌%◌, Bool, ◌||◌, if◌then◌else◌, List, [], ◌∷◌, ◌++◌, Result, Ok, Err, codes, decimal, length}
use Rattle.std.specs.Prelude.{Option, Some, None}
use Rattle.std.specs.List.{flat_map, zip, enumerate_from}
use Rattle.std.specs.Fmt.{signed_decimal}
use Rattle.scaled_core.specs.PrintedDimensions.{dimension_text}
use Rattle.node_core.specs.declared.tree.Kind.{Kind}
use Rattle.node_core.specs.declared.tree.Kind.TheVariants.{Horizontal, Vertical}
use Rattle.scaled_core.specs.declared.sizes.Sizes.{Sizes}
use Rattle.job_machine.specs.declared.replies.Answer.{Answer}
use Rattle.job_machine.specs.declared.replies.Answer.TheVariants.{Done, Packed, Measured, MeasuredVoid, Shaped, Added, Paragraph, Split, SplitVoid}
use Rattle.job_machine.specs.declared.replies.Answer.TheVariants.{Shipped}
use Rattle.job_machine.specs.declared.replies.Refusal.{Refusal}
use Rattle.job_machine.specs.declared.replies.Refusal.TheVariants.{OutOfMemory, DimensionTooLarge, NoFont, BadTfm, SlotTaken, NoOpenList, WrongMode}
use Rattle.job_machine.specs.declared.replies.Refusal.TheVariants.{WrongKind, ListTooLong, TooDeep, InfiniteShrink, TooManyBreaks, HugePage}
use Rattle.job_machine.specs.declared.replies.Refusal.TheVariants.{TooManyPages, TooMuchShipped, TooMuchSpecial, ListsOpen, Device, JobOver, VoidBox}
use Rattle.page_core.specs.declared.summary.Summary.{Summary}
use Rattle.tfm_core.specs.declared.fault.TfmCause.{TfmCause}
use Rattle.tfm_core.specs.declared.fault.TfmCause.TheVariants.{TooShort, Counts, DesignSize, CharInfo, FixWord, LigKern}
use Rattle.dvi_read.specs.Listing.{hexadecimal_digit}
use Rattle.boxglue_script.specs.declared.cause.Cause.{Cause}
use Rattle.boxglue_script.specs.declared.cause.Cause.TheVariants as causes
use Rattle.boxglue_script.specs.declared.cause.Cause.TheVariants.{Byte, Word, Missing, Extra, Number, Dimension}

-- The name of the refusal of a metric file, with its cause.
abbrev pub metric_refusal_name : TfmCause → List ℕ
metric_refusal_name TooShort = codes "BadTfm TooShort"
metric_refusal_name Counts = codes "BadTfm Counts"
metric_refusal_name DesignSize = codes "BadTfm DesignSize"
metric_refusal_name CharInfo = codes "BadTfm CharInfo"
metric_refusal_name FixWord = codes "BadTfm FixWord"
metric_refusal_name LigKern = codes "BadTfm LigKern"

-- The number and the name of a refusal.
abbrev pub refusal_row : Refusal → ℕ × List ℕ
refusal_row OutOfMemory = (1, codes "OutOfMemory")
refusal_row DimensionTooLarge = (3, codes "DimensionTooLarge")
refusal_row NoFont = (4, codes "NoFont")
refusal_row (BadTfm cause) = (5, metric_refusal_name cause)
refusal_row SlotTaken = (6, codes "SlotTaken")
refusal_row NoOpenList = (7, codes "NoOpenList")
refusal_row WrongMode = (8, codes "WrongMode")
refusal_row WrongKind = (9, codes "WrongKind")
refusal_row ListTooLong = (10, codes "ListTooLong")
refusal_row TooDeep = (11, codes "TooDeep")
refusal_row InfiniteShrink = (12, codes "InfiniteShrink")
refusal_row TooManyBreaks = (13, codes "TooManyBreaks")
refusal_row HugePage = (14, codes "HugePage")
refusal_row TooManyPages = (15, codes "TooManyPages")
refusal_row TooMuchShipped = (16, codes "TooMuchShipped")
refusal_row ListsOpen = (17, codes "ListsOpen")
refusal_row Device = (18, codes "Device")
refusal_row JobOver = (19, codes "JobOver")
refusal_row VoidBox = (21, codes "VoidBox")
refusal_row TooMuchSpecial = (22, codes "TooMuchSpecial")

-- The name of the cause that makes a script bad.
abbrev pub cause_name : Cause → List ℕ
cause_name Byte = codes "Byte"
cause_name Word = codes "Word"
cause_name Missing = codes "Missing"
cause_name Extra = codes "Extra"
cause_name Number = codes "Number"
cause_name Dimension = codes "Dimension"
cause_name causes.Name = codes "Name"

-- The word for a kind of box.
abbrev pub kind_name : Kind → List ℕ
kind_name Horizontal = codes "hbox"
kind_name Vertical = codes "vbox"

-- The byte that ends a line.
abbrev pub line_feed : List ℕ
line_feed = 10 ∷ []

-- A dimension in points.
unfoldable pub points_text : ℤ → List ℕ
points_text dimension = dimension_text dimension ++ codes "pt"

-- Width, height and depth, with a space between them.
unfoldable pub sizes_text : Sizes → List ℕ
sizes_text sizes = points_text sizes.width ++ (codes " " ++ (points_text sizes.height ++ (codes " " ++ points_text sizes.depth)))

-- The sizes of the rest of a split, or `void` if there is none.
unfoldable pub rest_text : Option Sizes → List ℕ
rest_text None = codes "void"
rest_text (Some sizes) = sizes_text sizes

-- The number of lines of a paragraph.
unfoldable pub lines_text : ℕ → List ℕ
lines_text lines = codes "paragraph lines " ++ decimal lines

-- The overhang and the demerits of a paragraph.
unfoldable pub costs_text : ℤ → ℤ → List ℕ
costs_text overhang demerits = codes " overhang " ++ (signed_decimal overhang ++ (codes " demerits " ++ signed_decimal demerits))

-- A refusal with its number and its name.
unfoldable pub refusal_text : Refusal → List ℕ
refusal_text refusal = codes "refused " ++ (decimal (refusal_row refusal).0 ++ (codes " " ++ (refusal_row refusal).1))

-- The line of a refusal.
unfoldable pub refusal_line : Refusal → List ℕ
refusal_line refusal = refusal_text refusal ++ line_feed

-- An answer to a command.
unfoldable pub answer_text : Answer → List ℕ
answer_text Done = codes "ok"
answer_text (Packed sizes badness) = codes "packed " ++ (sizes_text sizes ++ (codes " badness " ++ decimal badness))
answer_text (Measured kind sizes) = codes "measured " ++ (kind_name kind ++ (codes " " ++ sizes_text sizes))
answer_text MeasuredVoid = codes "measured void"
answer_text (Shaped items missing) = codes "added " ++ (decimal items ++ (codes " missing " ++ decimal missing))
answer_text (Added items) = codes "added " ++ decimal items
answer_text (Paragraph lines pass overhang demerits) =
    lines_text lines ++ (codes " pass " ++ (decimal pass ++ costs_text overhang demerits))
answer_text (Split front badness rest) =
    codes "split " ++ (sizes_text front ++ (codes " badness " ++ (decimal badness ++ (codes " rest " ++ rest_text rest))))
answer_text SplitVoid = codes "split void"
answer_text (Shipped pages) = codes "shipped " ++ decimal pages

-- An answer or a refusal.
abbrev pub reply_text : Result Answer Refusal → List ℕ
reply_text (Ok answer) = answer_text answer
reply_text (Err refusal) = refusal_text refusal

-- The line that answers the line of a script with this number.
unfoldable pub answer_line : ℕ → Result Answer Refusal → List ℕ
answer_line number reply = decimal number ++ (codes ": " ++ (reply_text reply ++ line_feed))

-- The result of the end of a job: its pages and its bytes, or a refusal.
abbrev pub summary_text : Result Summary Refusal → List ℕ
summary_text (Ok summary) = codes "pages " ++ (decimal summary.pages ++ (codes " bytes " ++ decimal summary.bytes))
summary_text (Err refusal) = refusal_text refusal

-- The last line: the result of the end of the job.
unfoldable pub end_line : Result Summary Refusal → List ℕ
end_line end = codes "end: " ++ (summary_text end ++ line_feed)

-- The lines that answer the lines of a script with these numbers.
abbrev pub answer_lines : List ℕ → List (Result Answer Refusal) → List ℕ
answer_lines numbers replies = flat_map (λ p. answer_line p.0 p.1) (zip numbers replies)

-- All texts of a script that was run: an answer for each line with a command, under its number, and the end.
unfoldable pub answers_text : List ℕ → List (Result Answer Refusal) → Result Summary Refusal → List ℕ
answers_text numbers replies end = answer_lines numbers replies ++ end_line end

-- The text for a bad script.
unfoldable pub script_refusal_text : ℕ → Cause → List ℕ
script_refusal_text number cause = codes "refused 2 BadScript " ++ (decimal number ++ (codes " " ++ (cause_name cause ++ line_feed)))

-- Whether a line feed comes after the byte at an index: after each sixteenth byte and after the last of `count`.
abbrev pub ends_line : ℕ → ℕ → Bool
ends_line count index = (index % 16 == 15) || (index + 1 == count)

-- The two hexadecimal digits of the byte at an index, and a line feed if it ends a line.
unfoldable pub byte_text : ℕ → ℕ → ℕ → List ℕ
byte_text count index byte =
    hexadecimal_digit (byte / 16) ∷ hexadecimal_digit (byte % 16) ∷ (if ends_line count index then line_feed else [])

-- The text of consecutive bytes out of `count`, the first of them at this index.
abbrev pub bytes_text : ℕ → ℕ → List ℕ → List ℕ
bytes_text count index bytes = flat_map (λ p. byte_text count p.0 p.1) (enumerate_from index bytes)

-- Bytes in lines of sixteen, two digits each.
unfoldable pub hexadecimal_text : List ℕ → List ℕ
hexadecimal_text bytes = bytes_text (length bytes) 0 bytes
