-- A meaning depends only on the widths of the fonts that are selected.
use Rattle.std.proofs.Common.{◌≡◌, ◌++◌, ◌&&◌, if◌then◌else◌, [], ◌∷◌, List, ℤ, Bool, true, false, Option, Some, None, refl, ◌∙◌, ap, ap₂, subst}
use Rattle.std.specs.List.{flat_map, AllByRecursion}
use Rattle.dvi_ops.specs.Instruction.{SetChar, PutChar, FontNum, BodyLeaf, Do, Pop, Eop}
use Rattle.dvi_ops.specs.Body.{Position, DviState, Widths, Meaning, start, glyph, glyph_of, put_glyph, set_glyph, right, instruction_acts, in_range, kept_in, bounded_acts}
use Rattle.scaled_core.specs.Mark.{Mark}
use Rattle.dvi_ops.specs.Forest.{Forest, Empty, Then, Group, flat, marks_before, and_then, restored_meaning, meaning}
use Rattle.dvi_ops.specs.Fonts.{selection_of, selections}
use Rattle.dvi_ops.specs.File.{FilePart, Idle, Defines, Shows, instructions, page_then, pages_of}
use Rattle.scaled_core.proofs.EachOf.{all_front, all_back}
use Rattle.dvi_ops.proofs.Appends.{selections-append}

-- Two tables have the same widths of a font.
abbrev pub SameWidths : Widths → Widths → ℤ → Type 0
SameWidths v w f = (c : ℤ) → v f c ≡ w f c

-- Two tables have the same widths of the current font, if there is one.
SameNow : Widths → Widths → Option ℤ → Type 0
SameNow v w None = Unit {0}
SameNow v w (Some f) = SameWidths v w f

-- A fact about the state after a meaning.
Ends : (DviState → Type 0) → Meaning → Type 0
Ends P None = Unit {0}
Ends P (Some (marks, s)) = P s

-- The claim about two meanings: they are equal, and the current font after them has the same widths in both tables.
Alike : Widths → Widths → Meaning → Meaning → Type 0
Alike v w m n = (m ≡ n) × Ends (λ s. SameNow v w s.font) m

-- One step, and two continuations that are alike after it.
then_alike : (v w : Widths) (m : Meaning) (j k : DviState → Meaning) → Ends (λ s. SameNow v w s.font) m → ((s : DviState) → SameNow v w s.font → Alike v w (j s) (k s)) → Alike v w (and_then m j) (and_then m k)
unfolding Alike Ends
then_alike v w None j k p next = (refl, tt)
then_alike v w (Some (marks, s)) j k p next = before_alike (j s) (k s) (next s p)
  where
    before_alike : (m n : Meaning) → Alike v w m n → Alike v w (marks_before marks m) (marks_before marks n)
    before_alike None n (e, q) = (ap (marks_before marks) e, tt)
    before_alike (Some (more, t)) n (e, q) = (ap (marks_before marks) e, q)

-- Two steps that are alike, and two continuations that are alike after them.
alike_then : (v w : Widths) (m n : Meaning) (j k : DviState → Meaning) → Alike v w m n → ((s : DviState) → SameNow v w s.font → Alike v w (j s) (k s)) → Alike v w (and_then m j) (and_then n k)
unfolding Alike Ends
alike_then v w m n j k (e, p) next = let first = then_alike v w m j k p next in (first.0 ∙ ap (λ (o : Meaning). and_then o k) e, first.1)

alike_restored : (v w : Widths) (p : Position) (m n : Meaning) → Alike v w m n → Alike v w (restored_meaning p m) (restored_meaning p n)
unfolding Alike Ends
alike_restored v w p None n (e, q) = (ap (restored_meaning p) e, tt)
alike_restored v w p (Some (marks, s)) n (e, q) = (ap (restored_meaning p) e, q)

alike_kept : (v w : Widths) (m n : Meaning) → Alike v w m n → Alike v w (kept_in m) (kept_in n)
unfolding Alike Ends
alike_kept v w None n (e, q) = (ap kept_in e, tt)
alike_kept v w (Some (marks, s)) n (e, q) = (ap kept_in e, by_test (in_range s.place.h && in_range s.place.v))
  where
    by_test : (within : Bool) → Ends (λ s. SameNow v w s.font) (if within then Some (marks, s) else None)
    by_test true = q
    by_test false = tt

same_glyph : (v w : Widths) (c : ℤ) (p : Position) (font : Option ℤ) → SameNow v w font → glyph v c p font ≡ glyph w c p font
unfolding SameNow
same_glyph v w c p None same = refl
same_glyph v w c p (Some f) same = ap (glyph_of f c p) (same c)

ends_set : (P : DviState → Type 0) (g : Option (Mark × ℤ)) (s : DviState) → ((z : ℤ) → P (right s z)) → Ends P (set_glyph g s)
unfolding Ends
ends_set P None s p = tt
ends_set P (Some (mark, width)) s p = p width

ends_put : (P : DviState → Type 0) (g : Option (Mark × ℤ)) (s : DviState) → P s → Ends P (put_glyph g s)
unfolding Ends
ends_put P None s p = tt
ends_put P (Some (mark, width)) s p = p

alike_act : (v w : Widths) (i : BodyLeaf) (s : DviState) → AllByRecursion (SameWidths v w) (selection_of (Do i)) → SameNow v w s.font → Alike v w (instruction_acts v i s) (instruction_acts w i s)
unfolding Alike Ends SameNow
alike_act v w (SetChar c) s sel p = (ap (λ (g : Option (Mark × ℤ)). set_glyph g s) (same_glyph v w c s.place s.font p), ends_set (λ s. SameNow v w s.font) (glyph v c s.place s.font) s (λ z. p))
alike_act v w (PutChar c) s sel p = (ap (λ (g : Option (Mark × ℤ)). put_glyph g s) (same_glyph v w c s.place s.font p), ends_put (λ s. SameNow v w s.font) (glyph v c s.place s.font) s p)
alike_act v w (FontNum f) s sel p = (refl, sel.0)
alike_act v w i s sel p = (refl, p)

alike_meaning : (v w : Widths) (f : Forest) (s : DviState) → AllByRecursion (SameWidths v w) (selections (flat f)) → SameNow v w s.font → Alike v w (meaning (bounded_acts (instruction_acts v)) f s) (meaning (bounded_acts (instruction_acts w)) f s)
unfolding Alike Ends
alike_meaning v w Empty s sel p = (refl, p)
alike_meaning v w (Then i f) s sel p =
    alike_then v w (bounded_acts (instruction_acts v) i s) (bounded_acts (instruction_acts w) i s) (λ t. meaning (bounded_acts (instruction_acts v)) f t) (λ t. meaning (bounded_acts (instruction_acts w)) f t)
    (alike_kept v w (instruction_acts v i s) (instruction_acts w i s) (alike_act v w i s (all_front (SameWidths v w) (selection_of (Do i)) (selections (flat f)) sel) p))
    (λ t q. alike_meaning v w f t (all_back (SameWidths v w) (selection_of (Do i)) (selections (flat f)) sel) q)
alike_meaning v w (Group inner f) s sel p =
    let parted = subst (AllByRecursion (SameWidths v w)) (selections-append (flat inner) (Pop ∷ flat f)) sel in
    alike_then v w (restored_meaning s.place (meaning (bounded_acts (instruction_acts v)) inner s)) (restored_meaning s.place (meaning (bounded_acts (instruction_acts w)) inner s)) (λ t. meaning (bounded_acts (instruction_acts v)) f t) (λ t. meaning (bounded_acts (instruction_acts w)) f t)
    (alike_restored v w s.place (meaning (bounded_acts (instruction_acts v)) inner s) (meaning (bounded_acts (instruction_acts w)) inner s) (alike_meaning v w inner s (all_front (SameWidths v w) (selections (flat inner)) (selections (flat f)) parted) p))
    (λ t q. alike_meaning v w f t (all_back (SameWidths v w) (selections (flat inner)) (selections (flat f)) parted) q)

-- The meaning of a page's body is the same for two tables that have the same widths of all fonts that it selects.
pub same_meaning : (v w : Widths) (f : Forest) → AllByRecursion (SameWidths v w) (selections (flat f)) → meaning (bounded_acts (instruction_acts v)) f start ≡ meaning (bounded_acts (instruction_acts w)) f start
unfolding Alike Ends SameNow
same_meaning v w f sel = (alike_meaning v w f start sel tt).0

-- The pages of parts are the same for two tables that have the same widths of all fonts that the parts select.
pub same_pages : (v w : Widths) (parts : List FilePart) → AllByRecursion (SameWidths v w) (selections (flat_map instructions parts)) → pages_of (bounded_acts (instruction_acts v)) parts ≡ pages_of (bounded_acts (instruction_acts w)) parts
same_pages v w [] sel = refl
same_pages v w (Idle ∷ parts) sel = same_pages v w parts sel
same_pages v w (Defines d ∷ parts) sel = same_pages v w parts sel
same_pages v w (Shows counts pointer body ∷ parts) sel =
    let P = AllByRecursion (SameWidths v w) in
    let page = flat body ++ Eop ∷ [] in
    let parted = subst P (selections-append page (flat_map instructions parts)) sel in
    let both = all_front (SameWidths v w) (selections page) (selections (flat_map instructions parts)) parted in
    let here = all_front (SameWidths v w) (selections (flat body)) (selections (Eop ∷ [])) (subst P (selections-append (flat body) (Eop ∷ [])) both) in
    let after = all_back (SameWidths v w) (selections page) (selections (flat_map instructions parts)) parted in
    ap₂ (page_then counts) (same_meaning v w body here) (same_pages v w parts after)
