-- The tens stay or are written anew, and then the last digit is written.
use Rattle.std.proofs.Common.{arith, ◌≡◌, ◌+◌, ◌∷◌, [], ◌++◌, ◌/◌, ◌%◌, ◌∙◌, sym, ap, refl, length, decimal, List, ℕ, append_assoc}
use Rattle.std.proofs.lemmas.List.{length-append}
use Rattle.boxglue_program.specs.Private.NumberedLines.{HoldsTens, digits_before_last, line_end}
use Rattle.boxglue_program.proofs.NumberedLines.{last_digit, tens_written, digit_written, tens_kept}
use Rattle.boxglue_program.proofs.numbered_line.NumberedLine.set.Goals as goal
use Rattle.boxglue_program.proofs.numbered_line.NumberedLine.set.Goals.{then-tens-self, else-tens-self}

holds : (c : goal.After-way_told-1) → HoldsTens c.if-tens-self.self
holds c = elim c.if-tens-self.branch [
  | then-tens-self w ↦ rw w.self-is (tens_written w.write_tens-self.new.text c.args.self.now.text w.write_tens-self.result (c.args.number / 10) w.write_tens-self.ensures.start w.write_tens-self.ensures.written c.requires.behind)
  | else-tens-self w ↦ rw w.self-is c.requires
]

tens : (c : goal.After-way_told-1) → c.if-tens-self.self.tens ≡ c.args.number / 10
tens c = elim c.if-tens-self.branch [
  | then-tens-self w ↦ rw w.self-is refl
  | else-tens-self w ↦ rw w.self-is (sym w.if-tens-self.false)
]

digits : (c : goal.After-way_told-1) → decimal c.args.number ≡ digits_before_last c.if-tens-self.self.tens ++ (48 + c.args.number % 10) ∷ []
digits c = last_digit c.args.number (omega (arith, c.ranges.number.fits)) ∙ ap (λ (t : ℕ). digits_before_last t ++ (48 + c.args.number % 10) ∷ []) (sym (tens c))

pub returns-clause-holds : goal.returns-clause-holds
returns-clause-holds c = tens_kept c.if-tens-self.self (48 + c.args.number % 10) (holds c)

pub returns-clause-start : goal.returns-clause-start
returns-clause-start c =
    let h = holds c in
    omega (arith, h.start, ap length (digits c), length-append (digits_before_last c.if-tens-self.self.tens) ((48 + c.args.number % 10) ∷ []))

pub returns-clause-written : goal.returns-clause-written
returns-clause-written c = digit_written c.if-tens-self.self (48 + c.args.number % 10) (holds c)
    ∙ sym (append_assoc (digits_before_last c.if-tens-self.self.tens) ((48 + c.args.number % 10) ∷ []) line_end) ∙ ap (λ (xs : List ℕ). xs ++ line_end) (sym (digits c))
