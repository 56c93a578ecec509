-- The line of an answer, of whose number only the last digit is written anew.
use Rattle.std.proofs.Common.{◌≡◌, ℕ, zero, suc, List, [], ◌∷◌, ◌++◌, ◌+◌, ◌-◌, ◌/◌, ◌%◌, ◌^◌, ◌<◌, ◌≤◌, length, take, drop, set, decimal, refl, ap, sym, ◌∙◌, arith}
use Rattle.std.proofs.lemmas.Fmt.{decimal_digit, decimal_step}
use Rattle.std.proofs.lemmas.List.{set_split, drop-append-le, drop-take, drop-drop, drop-set-lt, take-take, length-take-le, length-drop}
use Rattle.std.proofs.Math.Seq.{take-append_seam, take-append-add, drop-append-add}
use Rattle.boxglue_program.specs.declared.numbered_line.NumberedLine.{NumberedLine}
use Rattle.boxglue_program.specs.Private.NumberedLines.{HoldsTens, digits_before_last, line_end}

by_tens : (n t : ℕ) → n / 10 ≡ t → n < 2 ^ 64 → decimal n ≡ digits_before_last t ++ (48 + n % 10) ∷ []
by_tens n zero e h =
    let small : n < 10 = omega (arith, e) in
    let same : n ≡ n % 10 = omega (arith, e) in
    decimal_digit n small ∙ ap (λ (d : ℕ). (48 + d) ∷ []) same
by_tens n (suc t) e h = decimal_step n (omega (arith, e)) h ∙ ap (λ (m : ℕ). decimal m ++ (48 + n % 10) ∷ []) e

-- A number has the digits before its last one, and this one.
pub last_digit : (n : ℕ) → n < 2 ^ 64 → decimal n ≡ digits_before_last (n / 10) ++ (48 + n % 10) ∷ []
last_digit n h = by_tens n (n / 10) refl h

-- After other tens were written.
pub tens_written : (text old : List ℕ) (start tens : ℕ) → start + length (digits_before_last tens) ≡ 19
    → drop start text ≡ digits_before_last tens ++ drop 19 old → drop 20 old ≡ line_end → HoldsTens (record { text = text; start = start; tens = tens })
tens_written text old start tens s w b =
    let front = digits_before_last tens in
    let at : start + (length front + 1) ≡ 20 = omega (arith, s) in
    record {
      start = s;
      tens = ap (take (length front)) w ∙ take-append_seam front (drop 19 old);
      behind = sym (ap (λ (i : ℕ). drop i text) at) ∙ sym (drop-drop (length front + 1) start text) ∙ ap (drop (length front + 1)) w
          ∙ drop-append-add front (drop 19 old) 1 ∙ drop-drop 1 19 old ∙ b;
    }

long : (line : NumberedLine) → HoldsTens line → 19 < length line.text
long line h = omega (arith, length-drop 20 line.text, ap length h.behind)

-- After the last digit was written.
pub digit_written : (line : NumberedLine) (digit : ℕ) → HoldsTens line → drop line.start (set line.text 19 digit) ≡ digits_before_last line.tens ++ digit ∷ line_end
digit_written line digit h =
    let text = line.text in
    let front = digits_before_last line.tens in
    let many : 19 < length text = long line h in
    let short : line.start ≤ length (take 19 text) = omega (arith, h.start, length-take-le 19 text (omega (arith, many))) in
    ap (drop line.start) (set_split text 19 digit many) ∙ drop-append-le line.start (take 19 text) (digit ∷ drop 20 text) short
    ∙ ap (λ (xs : List ℕ). xs ++ digit ∷ drop 20 text)
    (ap (λ (i : ℕ). drop line.start (take i text)) (sym h.start) ∙ drop-take line.start (length front) text ∙ h.tens)
    ∙ ap (λ (xs : List ℕ). front ++ digit ∷ xs) h.behind

pub tens_kept : (line : NumberedLine) (digit : ℕ) → HoldsTens line → HoldsTens (record { text = set line.text 19 digit; start = line.start; tens = line.tens })
tens_kept line digit h = record {
  start = h.start;
  tens = ap (take (length (digits_before_last line.tens))) (digit_written line digit h) ∙ take-append_seam (digits_before_last line.tens) (digit ∷ line_end);
  behind = drop-set-lt 20 line.text 19 digit (omega arith) ∙ h.behind;
}

-- The first bytes of a piece that was appended.
pub piece_cut : (old new text digits : List ℕ) (start most end : ℕ) → start + length digits ≡ 20 → drop start text ≡ digits ++ line_end
    → new ≡ old ++ take (start + (20 + most) - start) (drop start text) → end ≡ length old + (20 + most - start) → most ≤ 20 → start ≤ 20
    → take end new ≡ old ++ (digits ++ take most line_end)
piece_cut old new text digits start most end s w n e m b =
    let size : 20 + most - start ≡ length digits + most = omega (arith, s) in
    let whole : start + (20 + most) - start ≡ 20 + most = omega arith in
    let few : length digits + most ≤ 20 + most = omega (arith, s) in
    ap (λ (i : ℕ). take i new) (e ∙ ap (λ (i : ℕ). length old + i) size) ∙ ap (take (length old + (length digits + most))) (n ∙ ap (λ (i : ℕ). old ++ take i (drop start text)) whole)
    ∙ take-append-add old (take (20 + most) (drop start text)) (length digits + most)
    ∙ ap (λ (xs : List ℕ). old ++ xs) (take-take (length digits + most) (20 + most) (drop start text) few ∙ ap (take (length digits + most)) w
    ∙ take-append-add digits line_end most)
