-- One more piece is written, or none is left.
use Rattle.std.proofs.Common.{◌≡◌, ◌≤◌, ◌+◌, ◌++◌, [], false, List, drop, take, ℕ, ap, append-nil, append_assoc, arith, length, length-append, refl, rules, subst, sym, ◌∙◌}
use Rattle.boxglue_calls.specs.Buffers.{Holds}
use Rattle.boxglue_calls.proofs.WrittenParts.{holds_more, holds_none, same_length}
use Rattle.boxglue_calls.proofs.listings.write_listing.Goals as goal

-- The piece fits where all do.
piece_fits : (old mid done rest piece later whole : List ℕ) (count : ℕ) → Holds old mid done → done ++ rest ≡ whole → rest ≡ piece ++ later → count ≡ length done → length whole ≤ length old
    → count + length piece ≤ length mid
piece_fits old mid done rest piece later whole count holds same split count_is fits =
    let size : length done + length rest ≡ length whole = sym (length-append done rest) ∙ ap (λ (bs : List ℕ). length bs) same in
    let parts : length rest ≡ length piece + length later = ap (λ (bs : List ℕ). length bs) split ∙ length-append piece later in
    let long = same_length old mid done holds in omega arith

pub loop-piece-init : goal.loop-piece-init
loop-piece-init c = record { space = c.requires.space; begun = λ whole first fits. ([], whole, holds_none c.args.text.now, refl, refl, first) }

pub next_piece-requires-clause-remaining : goal.next_piece-requires-clause-remaining
next_piece-requires-clause-remaining c =
    let (whole, first, fits) = c.requires.remaining in
    let (done, rest, holds, same, count_is, now) = c.loop-piece.invariant.begun whole first fits in (rest, now)

pub put_after-requires : goal.put_after-requires
put_after-requires c =
    let (whole, first, fits) = c.requires.remaining in
    let (done, rest, holds, same, count_is, now) = c.loop-piece.invariant.begun whole first fits in
    let (later, split, after) = c.next_piece.ensures.all rest now in
    rw c.deref.ensures.value (piece_fits c.args.text.now c.loop-piece.text done rest c.next_piece.new.piece.items later whole c.loop-piece.count holds same split count_is fits)

pub overflow_add-count : goal.overflow_add-count
overflow_add-count c =
    let (whole, first, fits) = c.requires.remaining in
    let (done, rest, holds, same, count_is, now) = c.loop-piece.invariant.begun whole first fits in
    let (later, split, after) = c.next_piece.ensures.all rest now in
    let fit = piece_fits c.args.text.now c.loop-piece.text done rest c.next_piece.new.piece.items later whole c.loop-piece.count holds same split count_is fits in
    let long = same_length c.args.text.now c.loop-piece.text done holds in omega (arith, fit, long)

pub loop-piece-preserved : goal.loop-piece-preserved
loop-piece-preserved c =
    let held = c.loop-piece.invariant in
    let next = c.next_piece.ensures in
    let piece = c.next_piece.new.piece.items in
    let written = rw c.deref.ensures.value at c.put_after.ensures in
    record {
      space = omega (arith, held.space, next.capacity);
      begun = λ whole first fits.
          (let (done, rest, holds, same, count_is, now) = held.begun whole first fits in
          let (later, split, after) = next.all rest now in
          let fit = piece_fits c.args.text.now c.loop-piece.text done rest piece later whole c.loop-piece.count holds same split count_is fits in
          let long = same_length c.args.text.now c.loop-piece.text done holds in
          let is : c.put_after.new.buffer ≡ take (length done) c.loop-piece.text ++ (piece ++ drop (length done + length piece) c.loop-piece.text) =
          subst (λ (n : ℕ). c.put_after.new.buffer ≡ take n c.loop-piece.text ++ (piece ++ drop (n + length piece) c.loop-piece.text)) count_is written in
          let size = length-append done piece in (
            done ++ piece,
            later,
            holds_more c.args.text.now c.loop-piece.text c.put_after.new.buffer done piece holds (omega (arith, fit, long, count_is)) is,
            append_assoc done piece later ∙ (ap (λ (bs : List ℕ). done ++ bs) (sym split) ∙ same),
            omega (arith, count_is, size),
            after,
          ));
    }

pub returns : goal.returns
returns c = λ whole first fits.
    let (done, rest, holds, same, count_is, now) = c.loop-piece.invariant.begun whole first fits in
    let fact : c.next_piece.result ≡ false = search rules in
    let none : rest ≡ [] = c.next_piece.ensures.none fact rest now in
    let all : done ≡ whole = sym (append-nil done) ∙ (ap (λ (bs : List ℕ). done ++ bs) (sym none) ∙ same) in
    subst (λ (bs : List ℕ). Holds c.args.text.now c.loop-piece.text bs) all holds
