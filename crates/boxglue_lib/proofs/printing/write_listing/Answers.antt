-- One more piece of the listing, or a beginning of it.
use Rattle.std.proofs.Common.{rules, ◌≡◌, false, List, ℕ, [], ◌++◌, append-nil, append_assoc, arith, ap, refl, sym, subst, ◌∙◌}
use Rattle.std.specs.Io.KnownBytes.{Appends}
use Rattle.boxglue_program.proofs.WritingLemmas.{appends_both}
use Rattle.boxglue_lib.proofs.EndLemmas.{front_of_pieces, said_of_err}
use Rattle.boxglue_lib.proofs.printing.write_listing.Goals as goal

pub loop-writer-preserved : goal.loop-writer-preserved
loop-writer-preserved g c =
    let written = rw c.deref.ensures.value at c.in_ok-write_text.ensures.all in
    let piece = c.next_piece.new.piece.items in
    let (all, lines) = c.loop-writer.invariant.some in
    let (left, split, remaining) = c.next_piece.ensures.all all lines in
    record {
      space = omega (arith, c.loop-writer.invariant.space, c.next_piece.ensures.capacity);
      some = (left, remaining);
      begun = λ text first.
          (let (taken, rest, before, same, now) = c.loop-writer.invariant.begun text first in
          let (later, split, next) = c.next_piece.ensures.all rest now in (
            taken ++ piece,
            later,
            appends_both _ _ _ taken piece before written,
            append_assoc taken piece later ∙ (ap (λ (t : List ℕ). taken ++ t) (sym split) ∙ same),
            next,
          ));
    }

pub returns-clause-all : goal.returns-clause-all
returns-clause-all g c = λ text first.
    let (taken, rest, before, same, now) = c.loop-writer.invariant.begun text first in
    let fact : c.next_piece.result ≡ false = search rules in
    let none : rest ≡ [] = c.next_piece.ensures.none fact rest now in
    let whole : taken ≡ text = sym (append-nil taken) ∙ (ap (λ (t : List ℕ). taken ++ t) (sym none) ∙ same) in
    subst (λ (t : List ℕ). Appends (g.W.Write.contents c.args.writer.now) (g.W.Write.contents c.loop-writer.writer) t) whole before

pub returns-in_err-write_text-clause-front : goal.returns-in_err-write_text-clause-front
returns-in_err-write_text-clause-front g c = λ text first.
    let front = rw c.deref.ensures.value at c.in_err-write_text.ensures.front in
    let (taken, rest, before, same, now) = c.loop-writer.invariant.begun text first in
    let (later, split, next) = c.next_piece.ensures.all rest now in
    said_of_err c.from_residual.result
    (front_of_pieces _ _ _ taken c.next_piece.new.piece.items later text (ap (λ (t : List ℕ). taken ++ t) (sym split) ∙ same) before front)
