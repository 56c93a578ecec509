-- The marks that a pass makes: each glyph has a width in a font that was selected, and each special has its text in the file.
use Rattle.std.proofs.Common.{◌≡◌, ◌≤◌, ◌<◌, ◌+◌, ◌*◌, ◌-◌, ◌^◌, ◌++◌, if◌then◌else◌, [], ◌∷◌, Bool, true, false, List, drop, length, nat_lt, slice_index, take, zero, suc, ℕ, ℤ, Option, Some, None, append-nil, append_assoc, length-append, arith, refl, sym, ◌∙◌, ap, subst, inl, inr}
use Rattle.std.specs.Prelude.{◌⊎◌, IsSome}
use Rattle.std.specs.List.{AllByRecursion}
use Rattle.std.proofs.lemmas.Grind.{flat_map-append}
use Rattle.std.proofs.lemmas.List.{drop-drop, drop-take, drop_at, get_or-drop, length-drop, length-take-le, take-append-drop}
use Rattle.byteorder.specs.Endian.{big_number}
use Rattle.byteorder.specs.Numbers.{big_from-lt}
use Rattle.dvi_ops.specs.Body.{Position, DviState, Meaning, Widths, Acts, instruction_acts, glyph, glyph_of, bounded_acts, kept_in, place_after, put_glyph, right, rule_at, set_glyph, start}
use Rattle.dvi_ops.specs.File.{MarkedPage}
use Rattle.dvi_ops.specs.Fonts.{WidthsByName, font, selection_of, selections, width_in as width_of_font}
use Rattle.dvi_ops.specs.Instruction.{Definition, BodyLeaf, SetChar, PutChar, SetRule, PutRule, Nop, Move, FontNum, FontDef, Xxx, Instruction, Do, Push, Pop, Bop, Eop}
use Rattle.dvi_ops.specs.Table.{Spells}
use Rattle.dvi_ops.specs.Tokens.{Token, IsSpelled, token_instructions, token_bytes}
use Rattle.dvi_ops.proofs.Frames.{not_empty}
use Rattle.dvi_ops.proofs.Fronts.{words_read}
use Rattle.dvi_ops.proofs.Numbers.{short_below}
use Rattle.scaled_core.specs.Mark.{Mark, Glyph, Rule, Special}
use Rattle.scaled_core.proofs.EachOf.{all_append, all_back, all_front, all_weaker}
use Rattle.dvi_scan.proofs.FontLemmas.{current_of, has_definition, same_more_widths, turn_font}
use Rattle.dvi_scan.specs.Pass.{PassStateView, Between, Inside, execute, passes, then_pass, with_marks}
use Rattle.dvi_read.specs.PageMarks.{HasGlyphWidths, IsGlyphWidth, OfGlyph, TextIsAt, marks_of, text_in}
use Rattle.dvi_read.specs.Private.PageMarks.{marks_so_far, text_put, texts_in}
use Rattle.dvi_read.specs.declared.fonts.ReadFonts.{ReadFonts}

-- The marks of a meaning.
abbrev drawn : Meaning → List Mark
drawn None = []
drawn (Some (marks, s)) = marks

-- A meaning that is kept has its own marks.
abbrev ranged : Bool → Meaning → Meaning
ranged b m = if b then m else None

ranged_marks : (b : Bool) (marks more : List Mark) (s t : DviState) → ranged b (Some (marks, s)) ≡ Some (more, t) → marks ≡ more
ranged_marks true marks more s t e =
    let pair : ◌≡◌ {A = List Mark × DviState} (marks, s) (more, t) = cc in ap (λ (p : List Mark × DviState). p.0) pair
ranged_marks false marks more s t e = absurd cc

-- A glyph of the selected font, which has a width.
pub record IsGlyphMade (widths : Widths) (c : ℤ) (s : DviState) (marks : List Mark) : Type 0 where
  pub number : ℤ
  pub width : ℤ
  pub selected : s.font ≡ Some number
  pub has : widths number c ≡ Some width
  pub made : marks ≡ Glyph number c s.place.h s.place.v ∷ []

-- The marks that an instruction of a body makes.
abbrev pub AreMade : Widths → BodyLeaf → DviState → List Mark → Type 0
AreMade widths (SetChar c) s marks = IsGlyphMade widths c s marks
AreMade widths (PutChar c) s marks = IsGlyphMade widths c s marks
AreMade widths (SetRule height width) s marks = marks ≡ rule_at height width s.place
AreMade widths (PutRule height width) s marks = marks ≡ rule_at height width s.place
AreMade widths (Xxx text) s marks = marks ≡ Special s.place.h s.place.v text ∷ []
AreMade widths leaf s marks = marks ≡ []

set_made : (widths : Widths) (c : ℤ) (s t : DviState) (marks : List Mark) (font : Option ℤ) → s.font ≡ font → kept_in (set_glyph (glyph widths c s.place font) s) ≡ Some (marks, t) → IsGlyphMade widths c s marks
set_made widths c s t marks None selected e = absurd cc
set_made widths c s t marks (Some f) selected e = by_width (widths f c) refl e
  where
    by_width : (width : Option ℤ) → widths f c ≡ width → kept_in (set_glyph (glyph_of f c s.place width) s) ≡ Some (marks, t) → IsGlyphMade widths c s marks
    by_width None has e = absurd cc
    by_width (Some width) has e =
        record { number = f; width = width; selected = selected; has = has; made = sym (ranged_marks _ (Glyph f c s.place.h s.place.v ∷ []) marks (right s width) t e) }

put_made : (widths : Widths) (c : ℤ) (s t : DviState) (marks : List Mark) (font : Option ℤ) → s.font ≡ font → kept_in (put_glyph (glyph widths c s.place font) s) ≡ Some (marks, t) → IsGlyphMade widths c s marks
put_made widths c s t marks None selected e = absurd cc
put_made widths c s t marks (Some f) selected e = by_width (widths f c) refl e
  where
    by_width : (width : Option ℤ) → widths f c ≡ width → kept_in (put_glyph (glyph_of f c s.place width) s) ≡ Some (marks, t) → IsGlyphMade widths c s marks
    by_width None has e = absurd cc
    by_width (Some width) has e =
        record { number = f; width = width; selected = selected; has = has; made = sym (ranged_marks _ (Glyph f c s.place.h s.place.v ∷ []) marks s t e) }

leaf_made : (widths : Widths) (leaf : BodyLeaf) (s t : DviState) (marks : List Mark) → kept_in (instruction_acts widths leaf s) ≡ Some (marks, t) → AreMade widths leaf s marks
leaf_made widths (SetChar c) s t marks e = set_made widths c s t marks s.font refl e
leaf_made widths (PutChar c) s t marks e = put_made widths c s t marks s.font refl e
leaf_made widths (SetRule height width) s t marks e = sym (ranged_marks _ (rule_at height width s.place) marks (right s width) t e)
leaf_made widths (PutRule height width) s t marks e = sym (ranged_marks _ (rule_at height width s.place) marks s t e)
leaf_made widths Nop s t marks e = sym (ranged_marks _ [] marks s t e)
leaf_made widths (Move axis step) s t marks e = sym (ranged_marks _ [] marks (record s { place = place_after axis step s.place }) t e)
leaf_made widths (FontNum f) s t marks e = sym (ranged_marks _ [] marks (record s { font = Some f }) t e)
leaf_made widths (FontDef d) s t marks e = sym (ranged_marks _ [] marks s t e)
leaf_made widths (Xxx text) s t marks e = sym (ranged_marks _ (Special s.place.h s.place.v text ∷ []) marks s t e)

-- A rule has no text, is no glyph, and is one mark at most.
rule_texts : (b : Bool) (mark : Mark) → text_in mark ≡ [] → texts_in (if b then mark ∷ [] else []) ≡ []
rule_texts true mark none = append-nil (text_in mark) ∙ none
rule_texts false mark none = refl

rule_glyphs : (P : ℤ → ℤ → Type 0) (b : Bool) (h v height width : ℤ) → AllByRecursion (OfGlyph P) (if b then Rule h v height width ∷ [] else [])
rule_glyphs P true h v height width = (tt, tt)
rule_glyphs P false h v height width = tt

rule_few : (b : Bool) (mark : Mark) → length (if b then mark ∷ [] else []) ≤ 1
rule_few true mark = omega arith
rule_few false mark = omega arith

-- The texts among the marks of an instruction.
leaf_texts : (widths : Widths) (leaf : BodyLeaf) (s : DviState) (marks : List Mark) → AreMade widths leaf s marks → texts_in marks ≡ text_put (Do leaf)
leaf_texts widths (SetChar c) s marks made = ap texts_in made.made
leaf_texts widths (PutChar c) s marks made = ap texts_in made.made
leaf_texts widths (SetRule height width) s marks made = ap texts_in made ∙ rule_texts _ (Rule s.place.h s.place.v height width) refl
leaf_texts widths (PutRule height width) s marks made = ap texts_in made ∙ rule_texts _ (Rule s.place.h s.place.v height width) refl
leaf_texts widths Nop s marks made = ap texts_in made
leaf_texts widths (Move axis step) s marks made = ap texts_in made
leaf_texts widths (FontNum f) s marks made = ap texts_in made
leaf_texts widths (FontDef d) s marks made = ap texts_in made
leaf_texts widths (Xxx text) s marks made = ap texts_in made

-- The glyphs among them.
made_glyph : (P : ℤ → ℤ → Type 0) (widths : Widths) (c : ℤ) (s : DviState) (marks : List Mark) → ((f : ℤ) → s.font ≡ Some f → (c : ℤ) → IsSome (widths f c) → P f c) → IsGlyphMade widths c s marks
    → AllByRecursion (OfGlyph P) marks
made_glyph P widths c s marks has made =
    let some : IsSome (widths made.number c) = subst (λ (o : Option ℤ). IsSome o) (sym made.has) refl in
    subst (λ (ms : List Mark). AllByRecursion (OfGlyph P) ms) (sym made.made) (has made.number made.selected c some, tt)

leaf_glyphs : (P : ℤ → ℤ → Type 0) (widths : Widths) (leaf : BodyLeaf) (s : DviState) (marks : List Mark) → ((f : ℤ) → s.font ≡ Some f → (c : ℤ) → IsSome (widths f c) → P f c) → AreMade widths leaf s marks
    → AllByRecursion (OfGlyph P) marks
leaf_glyphs P widths (SetChar c) s marks has made = made_glyph P widths c s marks has made
leaf_glyphs P widths (PutChar c) s marks has made = made_glyph P widths c s marks has made
leaf_glyphs P widths (SetRule height width) s marks has made =
    subst (λ (ms : List Mark). AllByRecursion (OfGlyph P) ms) (sym made) (rule_glyphs P _ s.place.h s.place.v height width)
leaf_glyphs P widths (PutRule height width) s marks has made =
    subst (λ (ms : List Mark). AllByRecursion (OfGlyph P) ms) (sym made) (rule_glyphs P _ s.place.h s.place.v height width)
leaf_glyphs P widths Nop s marks has made = subst (λ (ms : List Mark). AllByRecursion (OfGlyph P) ms) (sym made) tt
leaf_glyphs P widths (Move axis step) s marks has made = subst (λ (ms : List Mark). AllByRecursion (OfGlyph P) ms) (sym made) tt
leaf_glyphs P widths (FontNum f) s marks has made = subst (λ (ms : List Mark). AllByRecursion (OfGlyph P) ms) (sym made) tt
leaf_glyphs P widths (FontDef d) s marks has made = subst (λ (ms : List Mark). AllByRecursion (OfGlyph P) ms) (sym made) tt
leaf_glyphs P widths (Xxx text) s marks has made = subst (λ (ms : List Mark). AllByRecursion (OfGlyph P) ms) (sym made) (tt, tt)

-- Their number.
leaf_few : (widths : Widths) (leaf : BodyLeaf) (s : DviState) (marks : List Mark) → AreMade widths leaf s marks → length marks ≤ 1
leaf_few widths (SetChar c) s marks made = let size = ap (λ (ms : List Mark). length ms) made.made in omega arith
leaf_few widths (PutChar c) s marks made = let size = ap (λ (ms : List Mark). length ms) made.made in omega arith
leaf_few widths (SetRule height width) s marks made = subst (λ (ms : List Mark). length ms ≤ 1) (sym made) (rule_few _ (Rule s.place.h s.place.v height width))
leaf_few widths (PutRule height width) s marks made = subst (λ (ms : List Mark). length ms ≤ 1) (sym made) (rule_few _ (Rule s.place.h s.place.v height width))
leaf_few widths Nop s marks made = let size = ap (λ (ms : List Mark). length ms) made in omega arith
leaf_few widths (Move axis step) s marks made = let size = ap (λ (ms : List Mark). length ms) made in omega arith
leaf_few widths (FontNum f) s marks made = let size = ap (λ (ms : List Mark). length ms) made in omega arith
leaf_few widths (FontDef d) s marks made = let size = ap (λ (ms : List Mark). length ms) made in omega arith
leaf_few widths (Xxx text) s marks made = let size = ap (λ (ms : List Mark). length ms) made in omega arith

-- The marks that one instruction of the pass adds.
pub record Adds (widths : Widths) (i : Instruction) (p q : PassStateView) : Type 1 where
  pub marks : List Mark
  pub after : marks_so_far q ≡ marks_so_far p ++ marks
  pub texts : texts_in marks ≡ text_put i
  pub few : length marks ≤ 1
  pub glyphs : (P : ℤ → ℤ → Type 0) → ((f : ℤ) → current_of p ≡ Some f → (c : ℤ) → IsSome (widths f c) → P f c) → AllByRecursion (OfGlyph P) marks

adds_none : (widths : Widths) (i : Instruction) (p q : PassStateView) → text_put i ≡ [] → marks_so_far q ≡ marks_so_far p → Adds widths i p q
adds_none widths i p q none same =
    record { marks = []; after = same ∙ sym (append-nil (marks_so_far p)); texts = sym none; few = omega arith; glyphs = λ P has. tt }

drawn_adds : (widths : Widths) (leaf : BodyLeaf) (pages : List MarkedPage) (counts : List ℤ) (marks : List Mark) (stack : List Position) (s : DviState) (m : Meaning) (q : PassStateView)
    → kept_in (instruction_acts widths leaf s) ≡ m → with_marks pages counts marks stack m ≡ Some q → Adds widths (Do leaf) (Inside pages counts marks stack s) q
drawn_adds widths leaf pages counts marks stack s None q is e = absurd cc
drawn_adds widths leaf pages counts marks stack s (Some (more, t)) q is e =
    let same : Inside pages counts (marks ++ more) stack t ≡ q = cc in
    let made = leaf_made widths leaf s t more is in
    record {
      marks = more;
      after = sym (ap marks_so_far same) ∙ sym (append_assoc (marks_of pages) marks more);
      texts = leaf_texts widths leaf s more made;
      few = leaf_few widths leaf s more made;
      glyphs = λ P has. leaf_glyphs P widths leaf s more has made;
    }

push_marks : (b : Bool) (p q : PassStateView) → (if b then Some p else None) ≡ Some q → marks_so_far q ≡ marks_so_far p
push_marks true p q e = let same : p ≡ q = cc in sym (ap marks_so_far same)
push_marks false p q e = absurd cc

pub turn_adds : (widths : Widths) (most : ℕ) (i : Instruction) (p q : PassStateView) → execute (bounded_acts (instruction_acts widths)) most i p ≡ Some q → Adds widths i p q
turn_adds widths most (Do Nop) (Between pages) q e = let same : Between pages ≡ q = cc in adds_none widths (Do Nop) (Between pages) q refl (sym (ap marks_so_far same))
turn_adds widths most (Do (FontDef d)) (Between pages) q e = let same : Between pages ≡ q = cc in adds_none widths (Do (FontDef d)) (Between pages) q refl (sym (ap marks_so_far same))
turn_adds widths most (Bop counts pointer) (Between pages) q e =
    let same : Inside pages counts [] [] start ≡ q = cc in adds_none widths (Bop counts pointer) (Between pages) q refl (sym (ap marks_so_far same) ∙ append-nil (marks_of pages))
turn_adds widths most i (Between pages) q e = absurd cc
turn_adds widths most (Do leaf) (Inside pages counts marks stack s) q e = drawn_adds widths leaf pages counts marks stack s (kept_in (instruction_acts widths leaf s)) q refl e
turn_adds widths most Push (Inside pages counts marks stack s) q e =
    adds_none widths Push (Inside pages counts marks stack s) q refl (push_marks (nat_lt (length stack) most) (Inside pages counts marks (s.place ∷ stack) s) q e)
turn_adds widths most Pop (Inside pages counts marks [] s) q e = absurd cc
turn_adds widths most Pop (Inside pages counts marks (p ∷ stack) s) q e =
    let same : Inside pages counts marks stack (record { place = p; font = s.font }) ≡ q = cc in
    adds_none widths Pop (Inside pages counts marks (p ∷ stack) s) q refl (sym (ap marks_so_far same))
turn_adds widths most Eop (Inside pages counts marks [] s) q e =
    let page : MarkedPage = record { counts = counts; marks = marks } in
    let same : Between (pages ++ page ∷ []) ≡ q = cc in
    let ends : marks_of (pages ++ page ∷ []) ≡ marks_of pages ++ marks =
    flat_map-append (λ (p : MarkedPage). p.marks) pages (page ∷ []) ∙ ap (λ (ms : List Mark). marks_of pages ++ ms) (append-nil marks) in
    adds_none widths Eop (Inside pages counts marks [] s) q refl (sym (ap marks_so_far same) ∙ ends)
turn_adds widths most Eop (Inside pages counts marks (p ∷ stack) s) q e = absurd cc
turn_adds widths most i (Inside pages counts marks stack s) q e = absurd cc

-- The glyphs of a pass have what glyphs of selected fonts with widths have.
pub pass_glyphs : (P : ℤ → ℤ → Type 0) (Selected : ℤ → Type 0) (widths : Widths) (most : ℕ) (is : List Instruction) (p q : PassStateView)
    → ((f : ℤ) → Selected f → (c : ℤ) → IsSome (widths f c) → P f c) → ((f : ℤ) → current_of p ≡ Some f → Selected f) → AllByRecursion Selected (selections is)
    → AllByRecursion (OfGlyph P) (marks_so_far p) → passes (bounded_acts (instruction_acts widths)) most is p ≡ Some q → AllByRecursion (OfGlyph P) (marks_so_far q)
pass_glyphs P Selected widths most [] p q has current selected all e = let same : p ≡ q = cc in subst (λ (p : PassStateView). AllByRecursion (OfGlyph P) (marks_so_far p)) same all
pass_glyphs P Selected widths most (i ∷ is) p q has current selected all e =
    by_turn (execute (bounded_acts (instruction_acts widths)) most i p) refl
    (λ r turn.
    let adds = turn_adds widths most i p r turn in
    pass_glyphs P Selected widths most is r q has (λ f at. next f (turn_font widths most i p r f turn at)) (all_back Selected (selection_of i) (selections is) selected)
    (subst (λ (ms : List Mark). AllByRecursion (OfGlyph P) ms) (sym adds.after)
    (all_append (OfGlyph P) (marks_so_far p) adds.marks all (adds.glyphs P (λ f at. has f (current f at)))))) e
  where
    next : (f : ℤ) → (current_of p ≡ Some f) ⊎ (i ≡ Do (FontNum f)) → Selected f
    next f (inl before) = current f before
    next f (inr is_it) =
        let there : AllByRecursion Selected (f ∷ []) = subst (λ (i : Instruction). AllByRecursion Selected (selection_of i)) is_it (all_front Selected (selection_of i) (selections is) selected) in there.0

    by_turn : (o : Option PassStateView) → execute (bounded_acts (instruction_acts widths)) most i p ≡ o
        → ((r : PassStateView) → execute (bounded_acts (instruction_acts widths)) most i p ≡ Some r → passes (bounded_acts (instruction_acts widths)) most is r ≡ Some q → AllByRecursion (OfGlyph P) (marks_so_far q))
        → then_pass (passes (bounded_acts (instruction_acts widths)) most is) o ≡ Some q → AllByRecursion (OfGlyph P) (marks_so_far q)
    by_turn None turn later e = absurd cc
    by_turn (Some r) turn later e = later r turn e

-- More definitions change no width.
more_width : (metrics : WidthsByName) (xs ys : List Definition) (fonts : ReadFonts) (f c : ℤ) → IsGlyphWidth metrics xs fonts f c → IsGlyphWidth metrics (xs ++ ys) fonts f c
more_width metrics xs ys fonts f c (width, here, is) =
    let has : IsSome (font metrics xs f) = by_font (font metrics xs f) is in
    (width, here, sym (same_more_widths metrics xs ys f (has_definition metrics xs f has) c) ∙ is)
  where
    by_font : (o : Option (ℤ → Option ℤ)) → width_of_font o c ≡ Some width → IsSome o
    by_font None e = absurd cc
    by_font (Some widths) e = refl

of_glyph : (P Q : ℤ → ℤ → Type 0) → ((f c : ℤ) → P f c → Q f c) → (mark : Mark) → OfGlyph P mark → OfGlyph Q mark
of_glyph P Q from (Glyph f c h v) p = from f c p
of_glyph P Q from (Rule h v height width) p = tt
of_glyph P Q from (Special h v text) p = tt

pub more_widths : (metrics : WidthsByName) (xs ys : List Definition) (fonts : ReadFonts) (marks : List Mark) → HasGlyphWidths metrics xs fonts marks → HasGlyphWidths metrics (xs ++ ys) fonts marks
more_widths metrics xs ys fonts marks has =
    record {
      codes = has.codes;
      widths = all_weaker (OfGlyph (IsGlyphWidth metrics xs fonts)) (OfGlyph (IsGlyphWidth metrics (xs ++ ys) fonts)) marks
          (of_glyph (IsGlyphWidth metrics xs fonts) (IsGlyphWidth metrics (xs ++ ys) fonts) (more_width metrics xs ys fonts)) has.widths;
    }

-- The first of two lists.
front_small : (a b : List ℕ) (k : ℕ) → ((j : ℕ) → slice_index (a ++ b) j < 256) → slice_index a k < 256
front_small [] b k small = omega arith
front_small (x ∷ a) b zero small = small zero
front_small (x ∷ a) b (suc k) small = front_small a b k (λ j. small (suc j))

part_small : (bytes : List ℕ) (at size : ℕ) → ((j : ℕ) → slice_index bytes j < 256) → (k : ℕ) → slice_index (take size (drop at bytes)) k < 256
part_small bytes at size small k =
    front_small (take size (drop at bytes)) (drop size (drop at bytes)) k
    (λ j. subst (λ (x : List ℕ). slice_index x j < 256) (sym (take-append-drop size (drop at bytes))) (rw (get_or-drop at bytes j 0) (small (at + j))))

-- The number of four bytes or fewer.
count_below : (n : ℕ) (bytes : List ℕ) → n ≤ 4 → ((k : ℕ) → slice_index bytes k < 256) → big_number n bytes < 2 ^ 32
count_below (suc (suc (suc (suc zero)))) bytes high small = let h = big_from-lt 0 4 bytes small in omega arith
count_below (suc (suc (suc (suc (suc n))))) bytes high small = absurd (omega arith)
count_below n bytes high small = let h = short_below n bytes (omega arith) small in omega arith

-- The text of a special is the end of the instruction.
pub text_spelled : (bytes : List ℕ) (at next : ℕ) (text : List ℕ) → ((k : ℕ) → slice_index bytes k < 256) → at < next → next ≤ length bytes
    → Spells (Do (Xxx text)) (take (next - at) (drop at bytes)) → TextIsAt bytes (next - length text) text
text_spelled bytes at next text small forward within (n, count, low, high, is, len, big) =
    let front : List ℕ = (238 + n) ∷ count in
    let rest = length-drop at bytes in
    let taken = length-take-le (next - at) (drop at bytes) (omega arith) in
    let whole : length (take (next - at) (drop at bytes)) ≡ length front + length text = ap (λ (x : List ℕ). length x) is ∙ length-append front text in
    let parts : next - at ≡ length front + length text = omega arith in
    let place : at + length front ≡ next - length text = omega arith in
    let cut : take (length text) (drop (length front) (drop at bytes)) ≡ text =
    sym (drop-take (length front) (length text) (drop at bytes))
    ∙ (ap (λ (k : ℕ). drop (length front) (take k (drop at bytes))) (sym parts) ∙ (ap (λ (x : List ℕ). drop (length front) x) is ∙ drop_at front text (length front) refl)) in
    let each : (k : ℕ) → slice_index (front ++ text) k < 256 = λ k. subst (λ (x : List ℕ). slice_index x k < 256) is (part_small bytes at (next - at) small k) in
    let below : big_number n count < 2 ^ 32 = count_below n count high (λ k. front_small count text k (λ j. each (suc j))) in
    record {
      within = omega arith;
      short = subst (λ (m : ℕ). m < 2 ^ 32) big below;
      text_is = ap (λ (k : ℕ). take (length text) (drop k bytes)) (sym place) ∙ (ap (λ (x : List ℕ). take (length text) x) (sym (drop-drop (length front) at bytes)) ∙ cut);
    }

-- The least number of bytes of an instruction, as far as marks and pages are counted.
abbrev pub least : Instruction → ℕ
least (Bop counts pointer) = 45
least i = 1

abbrev pub least_of : List Instruction → ℕ
least_of [] = 0
least_of (i ∷ is) = least i + least_of is

some_bytes : (i : Instruction) (bytes : List ℕ) → Spells i bytes → 1 ≤ length bytes
some_bytes i [] spelled = absurd (not_empty i spelled)
some_bytes i (b ∷ bytes) spelled = omega arith

bop_bytes : (counts : List ℤ) (pointer : ℤ) (bytes : List ℕ) → Spells (Bop counts pointer) bytes → 45 ≤ length bytes
bop_bytes counts pointer bytes (a, b, is, ten, each, (four, value)) =
    let words = (words_read counts a 10 ten each).1 in
    let size : length bytes ≡ 1 + (length a + length b) = ap (λ (x : List ℕ). length x) is ∙ (let parts = length-append a b in omega arith) in omega arith

least_bytes : (i : Instruction) (bytes : List ℕ) → Spells i bytes → least i ≤ length bytes
least_bytes (Bop counts pointer) bytes spelled = bop_bytes counts pointer bytes spelled
least_bytes i bytes spelled = some_bytes i bytes spelled

pub least_written : (tokens : List Token) → AllByRecursion IsSpelled tokens → least_of (token_instructions tokens) ≤ length (token_bytes tokens)
least_written [] spelled = omega arith
least_written (t ∷ tokens) (here, spelled) =
    let first = least_bytes t.says t.bytes here in
    let rest = least_written tokens spelled in
    let both = length-append t.bytes (token_bytes tokens) in omega arith

-- The bytes that the pages so far take at least.
abbrev pub pages_bytes : PassStateView → ℕ
pages_bytes (Between pages) = 46 * length pages
pages_bytes (Inside pages counts marks stack s) = 46 * length pages + 45

push_bytes : (b : Bool) (p q : PassStateView) → (if b then Some p else None) ≡ Some q → pages_bytes q ≡ pages_bytes p
push_bytes true p q e = let same : p ≡ q = cc in sym (ap pages_bytes same)
push_bytes false p q e = absurd cc

drawn_bytes : (pages : List MarkedPage) (counts : List ℤ) (marks : List Mark) (stack : List Position) (s : DviState) (m : Meaning) (q : PassStateView) → with_marks pages counts marks stack m ≡ Some q
    → pages_bytes q ≡ 46 * length pages + 45
drawn_bytes pages counts marks stack s None q e = absurd cc
drawn_bytes pages counts marks stack s (Some (more, t)) q e = let same : Inside pages counts (marks ++ more) stack t ≡ q = cc in sym (ap pages_bytes same)

turn_bytes : (does : Acts) (most : ℕ) (i : Instruction) (p q : PassStateView) → execute does most i p ≡ Some q → pages_bytes q ≤ pages_bytes p + least i
turn_bytes does most (Do Nop) (Between pages) q e = let same : Between pages ≡ q = cc in let size = ap pages_bytes same in omega arith
turn_bytes does most (Do (FontDef d)) (Between pages) q e = let same : Between pages ≡ q = cc in let size = ap pages_bytes same in omega arith
turn_bytes does most (Bop counts pointer) (Between pages) q e = let same : Inside pages counts [] [] start ≡ q = cc in let size = ap pages_bytes same in omega arith
turn_bytes does most i (Between pages) q e = absurd cc
turn_bytes does most (Do leaf) (Inside pages counts marks stack s) q e = let size = drawn_bytes pages counts marks stack s (does leaf s) q e in omega arith
turn_bytes does most Push (Inside pages counts marks stack s) q e = let size = push_bytes (nat_lt (length stack) most) (Inside pages counts marks (s.place ∷ stack) s) q e in omega arith
turn_bytes does most Pop (Inside pages counts marks [] s) q e = absurd cc
turn_bytes does most Pop (Inside pages counts marks (p ∷ stack) s) q e =
    let same : Inside pages counts marks stack (record { place = p; font = s.font }) ≡ q = cc in let size = ap pages_bytes same in omega arith
turn_bytes does most Eop (Inside pages counts marks [] s) q e =
    let page : MarkedPage = record { counts = counts; marks = marks } in
    let same : Between (pages ++ page ∷ []) ≡ q = cc in
    let size = ap pages_bytes same in
    let more = length-append pages (page ∷ []) in omega arith
turn_bytes does most Eop (Inside pages counts marks (p ∷ stack) s) q e = absurd cc
turn_bytes does most i (Inside pages counts marks stack s) q e = absurd cc

least_some : (i : Instruction) → 1 ≤ least i
least_some (Bop counts pointer) = omega arith
least_some i = omega arith

-- The space that the marks and the pages of a pass take.
pub record TakesBytes (p : PassStateView) (bytes : ℕ) (q : PassStateView) : Type 0 where
  pub marks : length (marks_so_far q) ≤ length (marks_so_far p) + bytes
  pub pages : pages_bytes q ≤ pages_bytes p + bytes

pub pass_bytes : (widths : Widths) (most : ℕ) (is : List Instruction) (p q : PassStateView) → passes (bounded_acts (instruction_acts widths)) most is p ≡ Some q → TakesBytes p (least_of is) q
pass_bytes widths most [] p q e =
    let same : p ≡ q = cc in
    let marks = ap (λ (p : PassStateView). length (marks_so_far p)) same in
    let pages = ap pages_bytes same in record { marks = omega arith; pages = omega arith }
pass_bytes widths most (i ∷ is) p q e =
    by_turn (execute (bounded_acts (instruction_acts widths)) most i p) refl (λ r later. pass_bytes widths most is r q later) e
  where
    by_turn : (o : Option PassStateView) → execute (bounded_acts (instruction_acts widths)) most i p ≡ o → ((r : PassStateView) → passes (bounded_acts (instruction_acts widths)) most is r ≡ Some q → TakesBytes r (least_of is) q)
        → then_pass (passes (bounded_acts (instruction_acts widths)) most is) o ≡ Some q → TakesBytes p (least_of (i ∷ is)) q
    by_turn None turn later e = absurd cc
    by_turn (Some r) turn later e =
        let rest = later r e in
        let adds = turn_adds widths most i p r turn in
        let few = adds.few in
        let some = least_some i in
        let size = ap (λ (ms : List Mark). length ms) adds.after ∙ length-append (marks_so_far p) adds.marks in
        let pages = turn_bytes (bounded_acts (instruction_acts widths)) most i p r turn in
        let marks_rest = rest.marks in
        let pages_rest = rest.pages in record { marks = omega arith; pages = omega arith }
