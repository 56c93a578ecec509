-- One more line is appended, or none is left.
use Rattle.std.proofs.Common.{rules, ◌≡◌, ◌≤◌, ◌++◌, false, true, List, ℕ, ap, append-nil, arith, length, refl, sym, take, ◌∙◌}
use Rattle.std.proofs.Math.Nat.{min-le_right}
use Rattle.std.proofs.lemmas.List.{length-take, take-append-le, take_all}
use Rattle.dvi_read.specs.Listing.{listing}
use Rattle.dvi_read.proofs.LineLemmas.{whole_next}
use Rattle.dvi_read.proofs.check.dvi.Dvi.push_lines.Goals as goal

pub loop-part-init : goal.loop-part-init
loop-part-init c =
    let text = c.args.text.now.items in
    record { whole = (listing c.args.self.now.pages, refl, c.in_ok-lines.ensures.remaining); front = take_all (length text) text (omega arith) }

pub next-requires : goal.next-requires
next-requires c = let (rest, same, remaining) = c.loop-part.invariant.whole in (rest, remaining)

pub loop-part-preserved : goal.loop-part-preserved
loop-part-preserved c =
    let (rest, same, remaining) = c.loop-part.invariant.whole in
    let text = c.loop-part.text.items in
    let part = c.next.new.part in
    let more : c.next.result ≡ true = search rules in
    let (later, split, now) = c.next.ensures.next rest remaining more in
    let appended : c.extend_from_slice.new.self.items ≡ text ++ part =
    c.in_ok-extend_from_slice.ensures.items ∙ ap (λ (bs : List ℕ). text ++ bs) c.as_bytes.ensures.value in
    let old = c.args.text.now.items in
    let front = c.loop-part.invariant.front in
    let long : length old ≤ length text = omega (arith, ap length front, length-take (length old) text, min-le_right (length old) (length text)) in
    let kept : take (length old) c.extend_from_slice.new.self.items ≡ old =
    ap (λ (bs : List ℕ). take (length old) bs) appended ∙ (take-append-le (length old) text part long ∙ front) in
    record {
      whole = (later, whole_next c.args.text.now.items text c.extend_from_slice.new.self.items part rest later (listing c.args.self.now.pages) appended split same, now);
      front = kept;
    }

pub returns-clause-ok : goal.returns-clause-ok
returns-clause-ok c =
    let (rest, same, remaining) = c.loop-part.invariant.whole in
    let text = c.loop-part.text.items in
    let fact : c.next.result ≡ false = search rules in
    let (none, now) = c.next.ensures.none rest remaining fact in sym (append-nil text) ∙ (ap (λ (bs : List ℕ). text ++ bs) (sym none) ∙ same)
