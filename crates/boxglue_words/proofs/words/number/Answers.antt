-- A number is that of the option's digits.
use Rattle.std.proofs.Common.{arith}
use Rattle.clap.specs.Matches.{found_of}
use Rattle.boxglue_words.proofs.TaskLemmas.{no_number, number_read, same_number}
use Rattle.boxglue_words.proofs.words.number.Goals as goal
use Rattle.boxglue_words.proofs.words.number.Goals.{then-number-lt1-via-then-number-lt1, then-number-lt1-via-else-number-lt1+then-number-most}

pub returns-in_err-number-clause-none : goal.returns-in_err-number-clause-none
returns-in_err-number-clause-none c = λ e.
    let reads = rw c.in_err-number.was at c.get_one.ensures.value in
    no_number (found_of c.args.matches.now) c.args.id.now c.args.most (λ t h. (reads t h).1.0) c.ranges.most.fits

pub returns-then-number-lt1-clause-none : goal.returns-then-number-lt1-clause-none
returns-then-number-lt1-clause-none c = λ e number h.
    let reads = rw c.in_ok-number.was at c.get_one.ensures.value in
    let same = same_number (found_of c.args.matches.now) c.args.id.now c.args.most c.in_ok-number.number (λ t h. (reads t h).0) number h in
    elim c.then-number-lt1.branch [
      | then-number-lt1-via-then-number-lt1 w ↦ let below = w.if-number-lt1.true in let least = h.least in absurd (omega arith)
      | then-number-lt1-via-else-number-lt1+then-number-most w ↦ let above = w.if-number-most.true in let greatest = h.most_is in absurd (omega arith)
    ]

pub returns-clause-number_in_range : goal.returns-clause-number_in_range
returns-clause-number_in_range c =
    let reads = rw c.in_ok-number.was at c.get_one.ensures.value in
    let none = rw c.in_ok-number.was at c.get_one.ensures.none in
    let not_below = c.if-number-lt1.false in
    let not_above = c.if-number-most.false in
    number_read (found_of c.args.matches.now) c.args.id.now c.args.most c.in_ok-number.number none (λ t h. (reads t h).0) (omega arith) (omega arith)
