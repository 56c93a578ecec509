-- How many lines a text has, and two pieces that are one script (own).
use Rattle.std.proofs.Common.{◌≡◌, ◌+◌, ◌-◌, ◌<◌, ◌≤◌, ◌==◌, ◌∷◌, ◌++◌, ℕ, suc, min, Bool, true, false, cond, List, [], length, inl, inr, refl, ap, sym, subst, ◌∙◌, arith}
use Rattle.std.specs.Prelude.{◌^◌}
use Rattle.std.specs.List.{slice_split, onto_first}
use Rattle.std.specs.Str.Lines.{lines, lines_of_parts}
use Rattle.std.proofs.Math.Dec.{eqb-suc-zero}
use Rattle.std.proofs.Math.Nat.{min-eq_left}
use Rattle.std.proofs.lemmas.List.{length-append}
use Rattle.std.proofs.lemmas.List.Splits.{length-slice_split, slice_split-cons_yes, slice_split-cons_no}
use Rattle.std.proofs.lemmas.List.Sums.{length-filter}
use Rattle.boxglue_script.specs.declared.script.Line.{Line}
use Rattle.boxglue_script.specs.Script.{SayFrom, IsScript}
use Rattle.boxglue_script.specs.LineContents.{IsWhole}
use Rattle.boxglue_script.proofs.LineLemmas.{is_feed, lines_joined}
use Rattle.boxglue_calls.specs.Numbers.{line_count, line_feeds, is_whole, number_after, numbered_lines}

-- Whether the last of some parts is empty.
abbrev ends_empty : List ℕ → List (List ℕ) → Bool
ends_empty part [] = length part == 0
ends_empty part (next ∷ more) = ends_empty next more

last_line : (empty : Bool) (line : List ℕ) → length (cond empty [] (line ∷ [])) ≡ cond empty 0 1
last_line true line = refl
last_line false line = refl

-- Each part is a line, but for an empty one at the end.
lines_in_parts : (part : List ℕ) (parts : List (List ℕ)) → length (lines_of_parts (part ∷ parts)) ≡ length parts + cond (ends_empty part parts) 0 1
lines_in_parts part [] = let last = last_line (length part == 0) part in omega (arith, last)
lines_in_parts part (next ∷ more) = let rest = lines_in_parts next more in omega (arith, rest)

whole_more : (byte next : ℕ) (text : List ℕ) → is_whole (byte ∷ next ∷ text) ≡ is_whole (next ∷ text)
whole_more byte next text =
    let outer : suc (suc (length text)) - 1 ≡ suc (length text) = omega arith in
    let inner : suc (length text) - 1 ≡ length text = omega arith in
    rw (eqb-suc-zero (suc (length text)), eqb-suc-zero (length text), outer, inner) refl

whole_after_feed : (byte : ℕ) (text : List ℕ) → is_feed byte ≡ true → is_whole (byte ∷ text) ≡ is_whole text
whole_after_feed byte [] e = e
whole_after_feed byte (next ∷ text) e = whole_more byte next text

whole_after : (byte : ℕ) (text : List ℕ) → 0 < length text → is_whole (byte ∷ text) ≡ is_whole text
whole_after byte [] some = absurd (omega arith)
whole_after byte (next ∷ text) some = whole_more byte next text

-- A text that is one part is not whole, whatever other byte comes before it.
not_whole : (byte : ℕ) (text part : List ℕ) → is_feed byte ≡ false → part ≡ text → (length part == 0) ≡ is_whole text → is_whole (byte ∷ text) ≡ false
not_whole byte [] part e is ends = e
not_whole byte (next ∷ text) part e is ends = whole_more byte next text ∙ (sym ends ∙ (ap (λ (xs : List ℕ). length xs == 0) is ∙ eqb-suc-zero (length text)))

-- The parts of a text between its line feeds: the last is empty exactly where the text is whole, and one part alone is the text.
record Parts (text : List ℕ) : Type 0 where
  pub part : List ℕ
  pub parts : List (List ℕ)
  pub split : slice_split is_feed text ≡ part ∷ parts
  pub ends : ends_empty part parts ≡ is_whole text
  pub alone : length parts ≡ 0 → part ≡ text

text_present : (text part next : List ℕ) (more : List (List ℕ)) → slice_split is_feed text ≡ part ∷ next ∷ more → 0 < length text
text_present [] part next more split = let size = ap length split in absurd (omega (arith, size))
text_present (byte ∷ text) part next more split = omega arith

parts_onto : (byte : ℕ) (text part : List ℕ) (parts : List (List ℕ)) → is_feed byte ≡ false → slice_split is_feed text ≡ part ∷ parts
    → ends_empty part parts ≡ is_whole text → (length parts ≡ 0 → part ≡ text) → Parts (byte ∷ text)
parts_onto byte text part [] e split ends alone = record {
  part = byte ∷ part;
  parts = [];
  split = slice_split-cons_no is_feed byte text e ∙ ap (onto_first byte) split;
  ends = eqb-suc-zero (length part) ∙ sym (not_whole byte text part e (alone refl) ends);
  alone = λ none. ap (λ (xs : List ℕ). byte ∷ xs) (alone refl);
}
parts_onto byte text part (next ∷ more) e split ends alone = record {
  part = byte ∷ part;
  parts = next ∷ more;
  split = slice_split-cons_no is_feed byte text e ∙ ap (onto_first byte) split;
  ends = ends ∙ sym (whole_after byte text (text_present text part next more split));
  alone = λ none. absurd (omega (arith, none));
}

parts_before : (byte : ℕ) (text : List ℕ) (feed : Bool) → is_feed byte ≡ feed → Parts text → Parts (byte ∷ text)
parts_before byte text true e rest = record {
  part = [];
  parts = rest.part ∷ rest.parts;
  split = slice_split-cons_yes is_feed byte text e ∙ ap (λ (ps : List (List ℕ)). [] ∷ ps) rest.split;
  ends = rest.ends ∙ sym (whole_after_feed byte text e);
  alone = λ none. absurd (omega (arith, none));
}
parts_before byte text false e rest = parts_onto byte text rest.part rest.parts e rest.split rest.ends rest.alone

parts_of : (text : List ℕ) → Parts text
parts_of [] = record { part = []; parts = []; split = refl; ends = refl; alone = λ none. refl }
parts_of (byte ∷ text) = parts_before byte text (is_feed byte) refl (parts_of text)

-- A text has a line for each line feed, and one more where it does not end in one.
lines_counted : (text : List ℕ) → length (lines text) ≡ line_feeds text + cond (is_whole text) 0 1
lines_counted text =
    let p = parts_of text in
    let size = ap length p.split in
    let count = length-slice_split is_feed text in
    let feeds = length-filter is_feed text in
    let parts : length p.parts ≡ line_feeds text = omega (arith, size, count, feeds) in
    ap (λ (ps : List (List ℕ)). length (lines_of_parts ps)) p.split
    ∙ (lines_in_parts p.part p.parts
    ∙ (ap (λ (n : ℕ). n + cond (ends_empty p.part p.parts) 0 1) parts ∙ ap (λ (b : Bool). line_feeds text + cond b 0 1) p.ends))

pub count_is : (text : List ℕ) → line_count text ≡ min (length (lines text)) (2 ^ 64 - 1)
count_is text = ap (λ (n : ℕ). min n (2 ^ 64 - 1)) (sym (lines_counted text))

lines_of_both : (text more : List ℕ) → IsWhole text → length (lines (text ++ more)) ≡ length (lines text) + length (lines more)
lines_of_both text more whole = ap length (lines_joined text more whole) ∙ length-append (lines text) (lines more)

-- The numbers of three counts, one after the other.
added_twice : (before count number : ℕ) → number_after before (number_after count number) ≡ number_after (number_after before count) number
added_twice before count number = omega arith

capped : (a b : ℕ) → min (a + b) (2 ^ 64 - 1) ≡ number_after (min a (2 ^ 64 - 1)) (min b (2 ^ 64 - 1))
capped a b = omega arith

count_of_both : (text more : List ℕ) → IsWhole text → line_count (text ++ more) ≡ number_after (line_count text) (line_count more)
count_of_both text more whole =
    count_is (text ++ more)
    ∙ (ap (λ (n : ℕ). min n (2 ^ 64 - 1)) (lines_of_both text more whole)
    ∙ (capped (length (lines text)) (length (lines more))
    ∙ (ap (λ (n : ℕ). number_after n (min (length (lines more)) (2 ^ 64 - 1))) (sym (count_is text))
    ∙ ap (λ (n : ℕ). number_after (line_count text) n) (sym (count_is more)))))

-- The lines that a job has after two pieces are those that it has after both as one.
pub count_joined : (before middle after : ℕ) (text more : List ℕ) → IsWhole text → middle ≡ number_after before (line_count text)
    → after ≡ number_after middle (line_count more) → after ≡ number_after before (line_count (text ++ more))
count_joined before middle after text more whole first second =
    second
    ∙ (ap (λ (n : ℕ). number_after n (line_count more)) first
    ∙ (sym (added_twice before (line_count text) (line_count more)) ∙ ap (λ (n : ℕ). number_after before n) (sym (count_of_both text more whole))))

numbered_twice : (before count : ℕ) (found : List Line) → numbered_lines before (numbered_lines count found) ≡ numbered_lines (number_after before count) found
numbered_twice before count [] = refl
numbered_twice before count (line ∷ found) =
    let put : ℕ → List Line → List Line = λ n rest. record { number = n; command = line.command } ∷ rest in
    ap (λ (n : ℕ). put n (numbered_lines before (numbered_lines count found))) (added_twice before count line.number)
    ∙ ap (λ (rest : List Line). put (number_after (number_after before count) line.number) rest) (numbered_twice before count found)

-- Lines with numbers that count on from those before them.
pub numbers_joined : (before count : ℕ) (front rest : List Line) → numbered_lines before (front ++ numbered_lines count rest) ≡ numbered_lines before front ++ numbered_lines (number_after before count) rest
numbers_joined before count [] rest = numbered_twice before count rest
numbers_joined before count (line ∷ front) rest =
    let put : List Line → List Line = λ found. record { number = number_after before line.number; command = line.command } ∷ found in
    ap put (numbers_joined before count front rest)

numbered_first : (before : ℕ) (line : Line) (found later : List Line) → before + line.number < 2 ^ 64 → found ≡ line ∷ later
    → numbered_lines before found ≡ record { number = before + line.number; command = line.command } ∷ numbered_lines before later
numbered_first before line found later fits is =
    let one : number_after before line.number ≡ before + line.number = min-eq_left (omega (arith, fits)) in
    let put : ℕ → List Line = λ n. record { number = n; command = line.command } ∷ numbered_lines before later in
    ap (λ (all : List Line). numbered_lines before all) is ∙ ap put one

-- Lines that are numbered on say what they said.
numbered_say : (before number : ℕ) (all : List (List ℕ)) (found : List Line) → before + number + length all ≤ 2 ^ 64 → SayFrom number all found
    → SayFrom (before + number) all (numbered_lines before found)
numbered_say before number [] found fits none = ap (λ (all : List Line). numbered_lines before all) none
numbered_say before number (line ∷ all) found fits (inl (passed, more)) =
    let next : before + (number + 1) ≡ before + number + 1 = omega arith in
    inl (passed, subst (λ (n : ℕ). SayFrom n all (numbered_lines before found)) next (numbered_say before (number + 1) all found (omega (arith, fits)) more))
numbered_say before number (line ∷ all) found fits (inr (command, later, is, says, more)) =
    let next : before + (number + 1) ≡ before + number + 1 = omega arith in
    let rest = numbered_say before (number + 1) all later (omega (arith, fits)) more in
    let first = numbered_first before (record { number = number; command = command }) found later (omega (arith, fits)) is in
    inr (command, numbered_lines before later, first, says, subst (λ (n : ℕ). SayFrom n all (numbered_lines before later)) next rest)

say_joined : (number : ℕ) (all rest : List (List ℕ)) (front later : List Line) → SayFrom number all front → SayFrom (number + length all) rest later
    → SayFrom number (all ++ rest) (front ++ later)
say_joined number [] rest front later none more =
    let same : number + 0 ≡ number = omega arith in
    subst (λ (found : List Line). SayFrom number rest (found ++ later)) (sym none) (subst (λ (n : ℕ). SayFrom n rest later) same more)
say_joined number (line ∷ all) rest front later (inl (passed, h)) more =
    let next : number + suc (length all) ≡ number + 1 + length all = omega arith in
    inl (passed, say_joined (number + 1) all rest front later h (subst (λ (n : ℕ). SayFrom n rest later) next more))
say_joined number (line ∷ all) rest front later (inr (command, others, is, says, h)) more =
    let next : number + suc (length all) ≡ number + 1 + length all = omega arith in
    inr (
      command,
      others ++ later,
      ap (λ (found : List Line). found ++ later) is,
      says,
      say_joined (number + 1) all rest others later h (subst (λ (n : ℕ). SayFrom n rest later) next more),
    )

-- Two pieces are one script, whose lines are numbered on.
pub script_joined : (text more : List ℕ) (front later : List Line) → IsWhole text → length (lines (text ++ more)) < 2 ^ 64 → IsScript text front → IsScript more later
    → IsScript (text ++ more) (front ++ numbered_lines (line_count text) later)
script_joined text more front later whole fits h k =
    let size = lines_of_both text more whole in
    let count : line_count text ≡ length (lines text) = count_is text ∙ min-eq_left (omega (arith, size, fits)) in
    let one : length (lines text) + 1 ≡ 1 + length (lines text) = omega arith in
    let numbered_on = numbered_say (length (lines text)) 1 (lines more) later (omega (arith, size, fits)) k in
    let both = say_joined 1 (lines text) (lines more) front (numbered_lines (length (lines text)) later) h
    (subst (λ (n : ℕ). SayFrom n (lines more) (numbered_lines (length (lines text)) later)) one numbered_on) in
    subst (λ (all : List (List ℕ)). SayFrom 1 all (front ++ numbered_lines (line_count text) later)) (sym (lines_joined text more whole))
    (subst (λ (n : ℕ). SayFrom 1 (lines text ++ lines more) (front ++ numbered_lines n later)) (sym count) both)
