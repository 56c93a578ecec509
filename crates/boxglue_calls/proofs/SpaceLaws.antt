-- How many rows a piece needs (own).
use Rattle.std.proofs.Common.{◌+◌, ◌≤◌, ◌==◌, ◌∷◌, ℕ, Bool, true, false, cond, List, [], length, inl, inr, ap, arith}
use Rattle.std.specs.List.{slice_split}
use Rattle.std.specs.Str.Lines.{lines, lines_of_parts}
use Rattle.std.proofs.lemmas.List.Splits.{length-slice_split}
use Rattle.std.proofs.lemmas.List.Sums.{length-filter}
use Rattle.boxglue_script.specs.declared.script.Line.{Line}
use Rattle.boxglue_script.specs.Script.{SayFrom}
use Rattle.boxglue_calls.specs.Numbers.{line_feeds}
use Rattle.boxglue_calls.specs.Replies.{NeedsRows}

at_most_one : (empty : Bool) (line : List ℕ) → length (cond empty [] (line ∷ [])) ≤ 1
at_most_one true line = omega arith
at_most_one false line = omega arith

-- A text has no more lines than parts between line feeds.
lines_and_parts : (parts : List (List ℕ)) → length (lines_of_parts parts) ≤ length parts
lines_and_parts [] = omega arith
lines_and_parts (part ∷ []) = at_most_one (length part == 0) part
lines_and_parts (part ∷ next ∷ more) = let rest = lines_and_parts (next ∷ more) in omega (arith, rest)

-- A script has no more commands than lines.
commands_and_lines : (number : ℕ) (ls : List (List ℕ)) (found : List Line) → SayFrom number ls found → length found ≤ length ls
commands_and_lines number [] found none = let is = ap length none in omega (arith, is)
commands_and_lines number (line ∷ rest) found (inl (passed, more)) = let others = commands_and_lines (number + 1) rest found more in omega (arith, others)
commands_and_lines number (line ∷ rest) found (inr (command, later, is, says, more)) =
    let others = commands_and_lines (number + 1) rest later more in
    let size = ap length is in
    omega (arith, others, size)

lines_and_feeds : (text : List ℕ) → length (lines text) ≤ line_feeds text + 1
lines_and_feeds text =
    let parts = lines_and_parts (slice_split (λ byte. byte == 10) text) in
    let count = length-slice_split (λ byte. byte == 10) text in
    let feeds = length-filter (λ byte. byte == 10) text in
    omega (arith, parts, count, feeds)

pub enough_rows : (script : List ℕ) (count : ℕ) → NeedsRows script count → count ≤ line_feeds script + 1
enough_rows script count (inl (found, says, is)) =
    let commands = commands_and_lines 1 (lines script) found says in
    let feeds = lines_and_feeds script in
    omega (arith, commands, feeds, is)
enough_rows script count (inr (number, cause, bad, is)) = omega (arith, is)
