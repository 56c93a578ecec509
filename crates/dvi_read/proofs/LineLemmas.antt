-- The lines of a checked file, one after the other.
use Rattle.std.proofs.lemmas.Bool.{lt-ltb, ltb-true}
use Rattle.std.proofs.Common.{◌≡◌, if◌then◌else◌, nat_lt, Bool, true, false, not, inl, inr, ◌≤◌, ◌<◌, ◌+◌, ◌-◌, ◌*◌, ◌^◌, ◌++◌, [], ◌∷◌, List, codes, decimal, length, ℕ, ℤ, Option, Some, None, append_assoc, append-nil, arith, refl, sym, ◌∙◌, ap, subst}
use Rattle.std.specs.Prelude.{◌⊎◌, IfSome}
use Rattle.std.specs.Borrow.{Bor}
use Rattle.std.proofs.lemmas.List.{append_cancel_left}
use Rattle.dvi_scan.specs.View.{mark_of}
use Rattle.dvi_scan.specs.declared.page.Mark.{Mark as PassMark}
use Rattle.dvi_read.specs.Listing.{line, mark_line, rest_of_line, text_line}
use Rattle.dvi_read.specs.Seen.{SeenItemView, seen_lines}
use Rattle.dvi_read.specs.ItemsLeft.{AreLinesLeft, GivesFirst, ShowsNext, lines_left, text_left}
use Rattle.dvi_read.specs.declared.check.checked_file.CheckedFile.{CheckedFile}
use Rattle.dvi_read.specs.declared.listings.lines.Lines.{Lines}
use Rattle.dvi_read.specs.declared.seen_items.SeenItem.{SeenItem}
use Rattle.dvi_read.specs.declared.seen_items.SeenItem.TheVariants as seen_items
use Rattle.dvi_read.specs.declared.seen_items.SeenItems.{SeenItems}

-- The next byte of a special, or the end of its line.
pub text_next : (l : Lines) (text : Bor (List ℕ)) (part lines : List ℕ) (left : Option (Bor (List ℕ))) → l.text ≡ Some text
    → text_line text.now ≡ part ++ rest_of_line left → AreLinesLeft l lines
    → GivesFirst lines part (record l { text = left })
text_next l text part lines left is whole a =
    let rest = seen_lines (l.before + 1) a.seen in (
      rest_of_line left ++ rest,
      a.text_is ∙ (ap (λ (t : Option (Bor (List ℕ))). rest_of_line t ++ rest) is
          ∙ (ap (λ (bs : List ℕ). bs ++ rest) whole ∙ append_assoc part (rest_of_line left) rest)),
      record { seen = a.seen; remaining = a.remaining; text_is = refl; counted = a.counted },
    )

module _ (l : Lines) (lines : List ℕ) (new : SeenItems) (none : l.text ≡ None) (a : AreLinesLeft l lines) where
  seen_alone : lines ≡ seen_lines (l.before + 1) a.seen
  seen_alone = a.text_is ∙ ap (λ (t : Option (Bor (List ℕ))). rest_of_line t ++ seen_lines (l.before + 1) a.seen) none

  -- A page.
  pub page_next : (counts : List ℤ) (part : List ℕ) (found : SeenItem) → found ≡ seen_items.Page counts → ShowsNext a.seen new (Some found)
      → l.seen_items.at < new.at
      → part ≡ line (codes "page " ++ (decimal (l.before + 1) ++ codes " counts")) counts
      → GivesFirst lines part (record l { seen_items = new; before = l.before + 1 })
  page_next counts part found is shows forward part_is = by_page (subst (λ (s : SeenItem). ShowsNext a.seen new (Some s)) is shows)
    where
      by_page : ShowsNext a.seen new (Some (seen_items.Page counts)) → GivesFirst lines part (record l { seen_items = new; before = l.before + 1 })
      by_page (rest, seen_is, remaining) =
          let counted = a.counted in
          let later = seen_lines (l.before + 1 + 1) rest in (
            later,
            seen_alone ∙ (ap (λ (ss : List SeenItemView). seen_lines (l.before + 1) ss) seen_is ∙ ap (λ (bs : List ℕ). bs ++ later) (sym part_is)),
            record {
              seen = rest;
              remaining = remaining;
              text_is = sym (ap (λ (t : Option (Bor (List ℕ))). rest_of_line t ++ later) none);
              counted =
                  omega arith;
            },
          )

  -- A mark.
  pub mark_next : (mark : PassMark) (part : List ℕ) (left : Option (Bor (List ℕ))) (found : SeenItem) → found ≡ seen_items.Mark mark
      → ShowsNext a.seen new (Some found) → l.seen_items.at < new.at
      → mark_line (mark_of mark) ≡ part ++ rest_of_line left → GivesFirst lines part (record l { seen_items = new; text = left })
  mark_next mark part left found is shows forward whole = by_mark (subst (λ (s : SeenItem). ShowsNext a.seen new (Some s)) is shows)
    where
      by_mark : ShowsNext a.seen new (Some (seen_items.Mark mark)) → GivesFirst lines part (record l { seen_items = new; text = left })
      by_mark (rest, seen_is, remaining) =
          let counted = a.counted in
          let later = seen_lines (l.before + 1) rest in (
            rest_of_line left ++ later,
            seen_alone ∙ (ap (λ (ss : List SeenItemView). seen_lines (l.before + 1) ss) seen_is
                ∙ (ap (λ (bs : List ℕ). bs ++ later) whole ∙ append_assoc part (rest_of_line left) later)),
            record { seen = rest; remaining = remaining; text_is = refl; counted = omega arith },
          )

  -- Nothing is left.
  pub none_next : ShowsNext a.seen new None → l.seen_items.at ≤ new.at → (lines ≡ []) × AreLinesLeft (record l { seen_items = new }) []
  none_next (nothing, remaining) forward =
      let counted = a.counted in
      let empty : rest_of_line l.text ≡ [] = ap rest_of_line none in (
        seen_alone ∙ ap (λ (ss : List SeenItemView). seen_lines (l.before + 1) ss) nothing,
        record { seen = []; remaining = remaining; text_is = sym (append-nil (rest_of_line l.text) ∙ empty); counted = omega arith },
      )

-- Each line makes the number smaller.
some_left : (n : ℕ) → n < 2 ^ 64 → (if nat_lt n (2 ^ 64) then 1 + n else 0) ≡ 1 + n
some_left n below = ap (λ (b : Bool). if b then 1 + n else 0) (lt-ltb n (2 ^ 64) below)

few_left : (n : ℕ) (b : Bool) → nat_lt n (2 ^ 64) ≡ b → (if b then 1 + n else 0) ≤ 2 ^ 64
few_left n true e = let below = ltb-true n (2 ^ 64) e in omega arith
few_left n false e = omega arith

pub shorter_left : (text : Bor (List ℕ)) (left : Option (Bor (List ℕ))) → length text.now < 2 ^ 64 → IfSome left (λ rest. length rest.now < length text.now) → text_left left < text_left (Some text)
shorter_left text None short shorter = let here = some_left (length text.now) short in omega arith
shorter_left text (Some rest) short shorter =
    let here = some_left (length text.now) short in let there = some_left (length rest.now) (omega arith) in omega arith

pub short_left : (left : Option (Bor (List ℕ))) → text_left left ≤ 2 ^ 64
short_left None = omega arith
short_left (Some text) = few_left (length text.now) (nat_lt (length text.now) (2 ^ 64)) refl

-- The number is smaller at a later place.
pub fewer_left : (post old new more : ℕ) → old < new → new ≤ post → more ≤ 2 ^ 64 → (post - new) * 2 ^ 65 + more < (post - old) * 2 ^ 65
fewer_left post old new more forward within few = omega arith

-- Where no line of a special was begun.
pub none_text : (text : Option (Bor (List ℕ))) → ((bytes : Bor (List ℕ)) → text ≡ Some bytes → ⊥) → text ≡ None
none_text None not = refl
none_text (Some text) not = absurd (not text refl)

-- The number after a page and after a mark.
pub page_fewer : (l : Lines) (new : SeenItems) → new.file ≡ l.seen_items.file → l.seen_items.at < new.at → new.at ≤ new.file.now.post
    → lines_left (record l { seen_items = new; before = l.before + 1 }) < lines_left l
page_fewer l new file forward within =
    same_more l.seen_items.file.now.post l.seen_items.at new.file.now.post new.at (text_left l.text) (ap (λ (f : Bor CheckedFile). f.now.post) file)
    forward within
  where
    same_more : (post old later at more : ℕ) → later ≡ post → old < at → at ≤ later → (later - at) * 2 ^ 65 + more < (post - old) * 2 ^ 65 + more
    same_more post old later at more same forward within = omega arith

pub mark_fewer : (l : Lines) (new : SeenItems) (left : Option (Bor (List ℕ))) → new.file ≡ l.seen_items.file → l.seen_items.at < new.at
    → new.at ≤ new.file.now.post
    → lines_left (record l { seen_items = new; text = left }) < lines_left l
mark_fewer l new left file forward within =
    by_numbers l.seen_items.file.now.post l.seen_items.at new.file.now.post new.at (text_left l.text) (text_left left)
    (ap (λ (f : Bor CheckedFile). f.now.post) file) forward within (short_left left)
  where
    by_numbers : (post old later at held more : ℕ) → later ≡ post → old < at → at ≤ later → more ≤ 2 ^ 64 → (later - at) * 2 ^ 65 + more < (post - old) * 2 ^ 65 + held
    by_numbers post old later at held more same forward within few = omega arith

-- A part that was appended, and the rest after it.
pub whole_next : (old text new part rest later lines : List ℕ) → new ≡ text ++ part → rest ≡ part ++ later → text ++ rest ≡ old ++ lines → new ++ later ≡ old ++ lines
whole_next old text new part rest later lines more split same =
    ap (λ (bs : List ℕ). bs ++ later) more ∙ (append_assoc text part later ∙ (ap (λ (bs : List ℕ). text ++ bs) (sym split) ∙ same))

-- Some line was appended, where there is one and it has space.
pub nothing_filled : (old lines : List ℕ) → old ++ [] ≡ old ++ lines → 0 < length lines → ⊥
nothing_filled old lines same some =
    let none : [] ≡ lines = append_cancel_left old [] lines same in let size : 0 ≡ length lines = ap (λ (bs : List ℕ). length bs) none in omega arith

-- The place after what is shown is before post.
pub shown_within : (seen : List SeenItemView) (new : SeenItems) (found : SeenItem) → ShowsNext seen new (Some found) → new.at ≤ new.file.now.post
shown_within seen new found (rest, seen_is, remaining) = remaining.rest.low

-- Numbers, facts and lists in short.
pub below : (a b c : ℕ) → a < b → b ≤ c → a < c
below a b c less most = omega arith

pub not_above : (a b : ℕ) → a < b → a ≤ b
not_above a b less = omega arith

pub the_other : {P Q : Type 0} → P ⊎ Q → (P → ⊥) → Q
the_other (inl p) not = absurd (not p)
the_other (inr q) not = q

pub no_items : (text : List ℕ) → (0 < length text → ⊥) → text ≡ []
no_items [] some = refl
no_items (byte ∷ text) some = absurd (some (omega arith))

pub is_true : (b : Bool) → not b ≡ false → b ≡ true
is_true true e = refl
is_true false e = absurd cc
