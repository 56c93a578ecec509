-- A part, into which bytes are written before those that it has.
use Rattle.std.proofs.Common.{◌≡◌, ℕ, ◌+◌, ◌-◌, ◌≤◌, ◌++◌, List, Option, None, Some, length, drop, take, ap, sym, ◌∙◌, arith}
use borrow.Rule.Slice.PartMut.{put_mid}
use Rattle.std.proofs.Math.Seq.{drop-append_seam}
use Rattle.std.proofs.lemmas.List.{drop-append-le, drop-drop, drop_at, length-take-le}
use Rattle.dvi_read.specs.declared.listings.part.NumberEnd.{NumberEnd}
use Rattle.dvi_read.specs.Private.ListingParts.{IsEnded}

-- The end of the last line is kept.
pub end_stays : (old new : List ℕ) (begin begin' : ℕ) (ended : Option NumberEnd) → begin' ≤ begin → drop begin new ≡ drop begin old → IsEnded old begin ended
    → IsEnded new begin' ended
end_stays old new begin begin' None low same kept = tt
end_stays old new begin begin' (Some e) low same kept =
    let rest : e.begin ≡ begin + (e.begin - begin) = omega (arith, kept.after) in
    record {
      after = omega (arith, low, kept.after);
      within = kept.within;
      short = kept.short;
      text = ap (λ (n : ℕ). drop n new) rest
          ∙ (sym (drop-drop (e.begin - begin) begin new)
          ∙ (ap (drop (e.begin - begin)) same
          ∙ (drop-drop (e.begin - begin) begin old
          ∙ (ap (λ (n : ℕ). drop n old) (sym rest) ∙ kept.text))));
    }

-- The bytes after the digits that were written before them.
pub after_digits : (new digits rest : List ℕ) (at begin : ℕ) → at + length digits ≡ begin → drop at new ≡ digits ++ rest → drop begin new ≡ rest
after_digits new digits rest at begin is written =
    ap (λ (n : ℕ). drop n new) (sym is) ∙ (sym (drop-drop (length digits) at new) ∙ (ap (drop (length digits)) written ∙ drop-append_seam digits rest))

-- Of the bytes that were written into the space before a part, the last ones are now before its own.
pub last_written : (xs ys : List ℕ) (begin space size : ℕ) → space ≤ begin → begin ≤ length xs → length ys ≡ space → size ≤ space
    → drop (begin - size) (put_mid (begin - space) (begin - (begin - space)) xs ys) ≡ drop (space - size) ys ++ drop begin xs
last_written xs ys begin space size below within long short =
    let at : ℕ = begin - space in
    let k : ℕ = begin - at in
    let rest : List ℕ = drop k (drop at xs) in
    let whole : List ℕ = put_mid at k xs ys in
    let steps : begin - size ≡ at + (space - size) = omega arith in
    let sum : at + k ≡ begin = omega arith in
    let written : drop at whole ≡ ys ++ rest = drop_at (take at xs) (ys ++ rest) at (length-take-le at xs (omega arith)) in
    ap (λ (n : ℕ). drop n whole) steps
    ∙ (sym (drop-drop (space - size) at whole)
    ∙ (ap (drop (space - size)) written
    ∙ (drop-append-le (space - size) ys rest (omega arith)
    ∙ ap (λ (l : List ℕ). drop (space - size) ys ++ l) (drop-drop k at xs ∙ ap (λ (n : ℕ). drop n xs) sum))))
