-- One more piece is counted, or none is left.
use Rattle.std.proofs.Common.{◌≡◌, ◌+◌, [], false, List, ℕ, ap, arith, length, length-append, rules, ◌∙◌}
use Rattle.boxglue_calls.proofs.listings.listing_size.Goals as goal

pub loop-piece-init : goal.loop-piece-init
loop-piece-init c = record
    { space = c.requires.space; some = c.requires.remaining; begun = λ text first. (text, omega arith, first); all = λ text all. all }

pub loop-piece-preserved : goal.loop-piece-preserved
loop-piece-preserved c =
    let held = c.loop-piece.invariant in
    let next = c.next_piece.ensures in
    let (all, lines) = held.some in
    let (left, split, remaining) = next.all all lines in
    record {
      space = omega (arith, held.space, next.capacity);
      some = (left, remaining);
      begun = λ text first.
          (let (rest, counted, now) = held.begun text first in
          let (later, split, after) = next.all rest now in
          let size : length rest ≡ length c.next_piece.new.piece.items + length later = ap (λ (bs : List ℕ). length bs) split ∙ length-append c.next_piece.new.piece.items later in
          (later, omega (arith, counted, size, c.in_ok-size.ensures), after));
      all = λ text all. next.all_lines text (held.all text all);
    }

pub returns-clause-size : goal.returns-clause-size
returns-clause-size c = λ text first.
    let (rest, counted, now) = c.loop-piece.invariant.begun text first in
    let fact : c.next_piece.result ≡ false = search rules in
    let none : rest ≡ [] = c.next_piece.ensures.none fact rest now in
    let size : length rest ≡ 0 = ap (λ (bs : List ℕ). length bs) none in omega (arith, counted, size)

pub returns-clause-all_lines : goal.returns-clause-all_lines
returns-clause-all_lines c = λ text all. c.next_piece.ensures.all_lines text (c.loop-piece.invariant.all text all)

pub returns-in_err-size-clause-remaining : goal.returns-in_err-size-clause-remaining
returns-in_err-size-clause-remaining c =
    let (all, lines) = c.loop-piece.invariant.some in
    let (left, split, remaining) = c.next_piece.ensures.all all lines in (left, remaining)

pub returns-clause-remaining : goal.returns-clause-remaining
returns-clause-remaining c =
    let (all, lines) = c.loop-piece.invariant.some in
    let (left, split, remaining) = c.next_piece.ensures.all all lines in (left, remaining)
