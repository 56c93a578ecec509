-- Where the texts of specials begin: those that an instruction passes, and those that are left.
use Rattle.std.proofs.Common.{◌≡◌, ◌≤◌, ◌+◌, ◌-◌, ◌++◌, [], ◌∷◌, Bool, false, List, drop, length, map, take, ℕ, Option, Some, None, append-nil, arith, refl, sym, ◌∙◌, ap, subst}
use Rattle.std.specs.Borrow.{Bor}
use Rattle.std.specs.Option.{option_map}
use Rattle.std.proofs.lemmas.List.{drop-drop, length-drop, length-take-le}
use Rattle.dvi_ops.specs.Body.{Acts, instruction_acts, bounded_acts}
use Rattle.dvi_ops.specs.File.{Frame, MarkedPage}
use Rattle.dvi_ops.specs.Instruction.{Do, Instruction, Postamble, Pre, Xxx}
use Rattle.dvi_ops.specs.Table.{Spells}
use Rattle.dvi_ops.specs.Tokens.{Token, token_bytes}
use Rattle.dvi_ops.proofs.Frames.{begins, one_list}
use Rattle.dvi_scan.proofs.PassedLemmas.{frame_parts}
use Rattle.dvi_scan.proofs.ReachedLemmas.{take_next, token}
use Rattle.dvi_scan.specs.Pass.{PassStateView, Between, execute}
use Rattle.dvi_scan.specs.View.{mark_of}
use Rattle.dvi_scan.specs.Private.View.{marks_in}
use Rattle.dvi_scan.specs.declared.page.Mark.{Mark as PassMark}
use Rattle.dvi_read.specs.Opening.{StartsAt}
use Rattle.dvi_read.specs.PageMarks.{read_width, text_in, text_place, text_places}
use Rattle.dvi_read.specs.Private.PageMarks.{text_put, texts_in}
use Rattle.dvi_read.specs.Seen.{SeenItemView}
use Rattle.dvi_read.specs.ItemsLeft.{AreTextsLeft, HasCheckedTexts, HasTexts, IsSeenAfter, PassesText, pass_with, text_seen}
use Rattle.dvi_read.specs.declared.check.checked_file.CheckedFile.{CheckedFile}
use Rattle.dvi_read.specs.declared.seen_items.SeenItem.{SeenItem}
use Rattle.dvi_read.specs.declared.seen_items.SeenItem.TheVariants as seen_items
use Rattle.dvi_read.specs.declared.seen_items.SeenItems.{SeenItems}
use Rattle.dvi_read.proofs.SeenItemLemmas.{here, turned}

-- The place by the text that an instruction puts.
place_put : (end : ℕ) (i : Instruction) (texts : List (List ℕ)) → texts ≡ text_put i → map (λ text. end - length text) texts ≡ text_place end i
place_put end (Do (Xxx text)) texts e = ap (λ (ts : List (List ℕ)). map (λ text. end - length text) ts) e
place_put end i texts e = ap (λ (ts : List (List ℕ)). map (λ text. end - length text) ts) e

pub place_shown : (end : ℕ) (i : Instruction) (found shown : Option PassMark) → texts_in (marks_in found) ≡ text_put i → found ≡ shown
    → text_seen end (option_map (λ mark. seen_items.Mark mark) shown) ≡ text_place end i
place_shown end i found shown e is = by_mark shown (subst (λ (o : Option PassMark). texts_in (marks_in o) ≡ text_put i) is e)
  where
    by_mark : (o : Option PassMark) → texts_in (marks_in o) ≡ text_put i
        → text_seen end (option_map (λ mark. seen_items.Mark mark) o) ≡ text_place end i
    by_mark None e = place_put end i [] e
    by_mark (Some mark) e = place_put end i (text_in (mark_of mark)) (sym (append-nil (text_in (mark_of mark))) ∙ e)

-- No special is put between pages.
pub none_between : (end : ℕ) (does : Acts) (most : ℕ) (i : Instruction) (pages : List MarkedPage) (q : PassStateView) → execute does most i (Between pages) ≡ Some q → [] ≡ text_place end i
none_between end does most (Do (Xxx text)) pages q e = absurd cc
none_between end does most i pages q e = refl

pub none_outside : (end : ℕ) (i : Instruction) (s : SeenItems) (seen : List SeenItemView) → IsSeenAfter (i ∷ []) s seen → s.inside ≡ false
    → [] ≡ text_place end i
none_outside end i s seen a outside =
    let turn = turned i s seen a in
    let closed : here i s seen a ≡ Between a.pages = ap (λ (b : Bool). pass_with b a.pages a.marks s.page) outside in
    let acts = bounded_acts (instruction_acts (read_width s.file.now.fonts)) in
    none_between end acts s.file.now.most i a.pages turn.after (subst (λ (p : PassStateView). execute acts s.file.now.most i p ≡ Some turn.after) closed turn.turns)

-- After an instruction the texts that are left are those behind it.
pub texts_next : (bytes : List ℕ) (at next post : ℕ) (i : Instruction) (places : List ℕ) → at ≤ next → next ≤ post → post ≤ length bytes → Spells i (take (next - at) (drop at bytes)) → HasTexts bytes at post places
    → (rest : List ℕ) × (places ≡ text_place next i ++ rest) × HasTexts bytes next post rest
texts_next bytes at next post i places forward within high spelled has =
    let front : List ℕ = take (next - at) (drop at bytes) in
    let left : List ℕ = take (post - next) (drop next bytes) in
    let one = token i front in
    let behind = length-drop at bytes in
    let parts : take (post - at) (drop at bytes) ≡ front ++ take (post - at - (next - at)) (drop (next - at) (drop at bytes)) =
    take_next (drop at bytes) (next - at) (post - at) (omega arith) (omega arith) in
    let amount : post - at - (next - at) ≡ post - next = omega arith in
    let place : at + (next - at) ≡ next = omega arith in
    let later : take (post - at - (next - at)) (drop (next - at) (drop at bytes)) ≡ left =
    ap (λ (x : List ℕ). take (post - at - (next - at)) x) (drop-drop (next - at) at bytes ∙ ap (λ (n : ℕ). drop n bytes) place) ∙ ap (λ (n : ℕ). take n (drop next bytes)) amount in
    let whole : token_bytes (one ∷ []) ++ left ≡ token_bytes has.tokens =
    ap (λ (x : List ℕ). x ++ left) (append-nil front) ∙ (ap (λ (x : List ℕ). front ++ x) (sym later) ∙ (sym parts ∙ sym has.whole)) in
    let (more, same, more_spelled, more_whole) = begins (one ∷ []) has.tokens left (spelled, tt) has.spelled whole in
    let size : length front ≡ next - at = length-take-le (next - at) (drop at bytes) (omega arith) in
    let ends : at + length front ≡ next = omega arith in (
      text_places next more,
      has.places_are ∙ (ap (λ (ts : List Token). text_places at ts) same ∙ ap (λ (n : ℕ). text_place n i ++ text_places n more) ends),
      record { tokens = more; spelled = more_spelled; whole = more_whole; places_are = refl },
    )

-- The texts that are left after the preamble are all texts of a file.
pub starts_texts : (bytes : List ℕ) (post after last : ℕ) (postamble : Postamble) (chain : List ℕ) (from : ℕ)
    → StartsAt bytes post after last postamble chain from → post ≤ length bytes → (f : Frame bytes)
    → HasTexts bytes from post (text_places 0 f.front)
starts_texts bytes post after last postamble chain from starts high f =
    let parts = frame_parts bytes post after last postamble chain starts.chained.framed f in
    let preamble = starts.preamble in
    let pre : Instruction = Pre 2 postamble.units preamble.comment in
    let to_post : post ≡ post - 0 = omega arith in
    let to_from : from ≡ from - 0 = omega arith in
    let whole : token_bytes f.front ≡ take (post - 0) bytes = parts.0 ∙ ap (λ (n : ℕ). take n bytes) to_post in
    let spelled = subst (λ (n : ℕ). Spells pre (take n bytes)) to_from preamble.spelled in
    let (rest, is, has) = texts_next bytes 0 from post pre (text_places 0 f.front) (omega arith) preamble.within high spelled
    (record { tokens = f.front; spelled = f.front_spelled; whole = whole; places_are = refl }) in
    subst (λ (places : List ℕ). HasTexts bytes from post places) (sym is) has

-- The instruction that was read is taken, where the walk stays in the same file.
pub texts_passed : (s new : SeenItems) (next : ℕ) (i : Instruction) (result : Option SeenItem) (places : List ℕ) → s.at ≤ next
    → next ≤ s.file.now.post → s.file.now.post ≤ length s.file.now.bytes.now
    → Spells i (take (next - s.at) (drop s.at s.file.now.bytes.now)) → new.at ≡ next → new.file ≡ s.file → text_seen next result ≡ text_place next i
    → AreTextsLeft s places → PassesText places new result
texts_passed s new next i result places forward within high spelled at file seen has =
    let (rest, is, remaining) = texts_next s.file.now.bytes.now s.at next s.file.now.post i places forward within high spelled has in (
      rest,
      is ∙ (ap (λ (ps : List ℕ). ps ++ rest) (sym seen) ∙ ap (λ (n : ℕ). text_seen n result ++ rest) (sym at)),
      subst (λ (b : Bor CheckedFile). HasTexts b.now.bytes.now new.at b.now.post rest) (sym file)
          (subst (λ (n : ℕ). HasTexts s.file.now.bytes.now n s.file.now.post rest) (sym at) remaining),
    )

-- Where nothing is seen, the same texts are left.
pub none_passed : (new : SeenItems) (places : List ℕ) → PassesText places new None → AreTextsLeft new places
none_passed new places (rest, is, remaining) = subst (λ (ps : List ℕ). AreTextsLeft new ps) (sym is) remaining

-- At the place of post no text is left.
pub none_remaining : (bytes : List ℕ) (at post : ℕ) (places : List ℕ) → post ≤ at → HasTexts bytes at post places → places ≡ []
none_remaining bytes at post places past has =
    let none : post - at ≡ 0 = omega arith in
    let empty : token_bytes has.tokens ≡ [] = has.whole ∙ ap (λ (n : ℕ). take n (drop at bytes)) none in
    let no_tokens : has.tokens ≡ [] = one_list has.tokens [] has.spelled tt empty in
    has.places_are ∙ ap (λ (ts : List Token). text_places at ts) no_tokens

-- Before the first page all texts are left.
pub all_remaining : (s : SeenItems) (places : List ℕ) → s.at ≡ s.file.now.from → HasCheckedTexts s.file.now places → AreTextsLeft s places
all_remaining s places at has = subst (λ (n : ℕ). HasTexts s.file.now.bytes.now n s.file.now.post places) (sym at) has
