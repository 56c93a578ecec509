-- The font that is selected in the state of a pass, and its widths: the pass needs only the widths of fonts that were selected.
use Rattle.std.proofs.Common.{◌≡◌, ◌++◌, [], ◌∷◌, List, ℕ, ℤ, Bool, true, false, Option, Some, None, nat_lt, length, if◌then◌else◌, refl, sym, ◌∙◌, ap, subst, inl, inr}
use Rattle.std.specs.Prelude.{◌⊎◌, IsSome}
use Rattle.std.specs.List.{AllByRecursion}
use Rattle.std.specs.Ordering.{int_eq}
use Rattle.std.proofs.lemmas.Bool.Decides.{Decides-int_eq}
use Rattle.dvi_ops.specs.Body.{Position, DviState, Meaning, Widths, instruction_acts, glyph, glyph_of, bounded_acts, kept_in, place_after, put_glyph, right, rule_at, set_glyph, start}
use Rattle.scaled_core.specs.Mark.{Mark, Special}
use Rattle.dvi_ops.specs.File.{MarkedPage}
use Rattle.dvi_ops.specs.Fonts.{WidthsByName, AgreesWith, FontsAreRight, IsRightAfter, first_definition_of, definitions_in, definitions, widths_in, known_after, selection_of, selections, width_in, widths_of}
use Rattle.dvi_ops.specs.Instruction.{Definition, BodyLeaf, SetChar, PutChar, SetRule, PutRule, Nop, Move, FontNum, FontDef, Xxx, Instruction, Do, Push, Pop, Bop, Eop, Pre, Post, PostPost}
use Rattle.scaled_core.proofs.EachOf.{all_append, all_back, all_front, all_weaker}
use Rattle.dvi_ops.proofs.Appends.{fonts_back}
use Rattle.dvi_ops.proofs.SameMeaning.{SameWidths}
use Rattle.dvi_scan.specs.Known.{IsAmong}
use Rattle.dvi_scan.specs.Pass.{PassStateView, Between, Inside, with_marks, then_pass, passes, execute}
use Rattle.dvi_scan.specs.Reached.{HasWidths, IsDefined}
use Rattle.dvi_scan.proofs.KnownLemmas.{all_each, among_back, among_cut, among_defined, defined_among, same_after, same_self}

-- The font that is selected in the state of a pass.
abbrev pub current_of : PassStateView → Option ℤ
current_of (Between pages) = None
current_of (Inside pages counts marks stack s) = s.font

-- After an instruction of a body the font is as before, or it was selected.
abbrev ranged : Bool → Meaning → Meaning
ranged b m = if b then m else None

by_range : (b : Bool) (marks more : List Mark) (s t : DviState) → ranged b (Some (marks, s)) ≡ Some (more, t) → s ≡ t
by_range true marks more s t e =
    let pair : ◌≡◌ {A = List Mark × DviState} (marks, s) (more, t) = cc in ap (λ (p : List Mark × DviState). p.1) pair
by_range false marks more s t e = absurd cc

set_font : (g : Option (Mark × ℤ)) (s t : DviState) (marks : List Mark) → kept_in (set_glyph g s) ≡ Some (marks, t) → s.font ≡ t.font
set_font None s t marks e = absurd cc
set_font (Some (mark, width)) s t marks e = ap (λ (s : DviState). s.font) (by_range _ (mark ∷ []) marks (right s width) t e)

put_font : (g : Option (Mark × ℤ)) (s t : DviState) (marks : List Mark) → kept_in (put_glyph g s) ≡ Some (marks, t) → s.font ≡ t.font
put_font None s t marks e = absurd cc
put_font (Some (mark, width)) s t marks e = ap (λ (s : DviState). s.font) (by_range _ (mark ∷ []) marks s t e)

same_font : (b : Bool) (marks more : List Mark) (s u t : DviState) → s.font ≡ u.font → ranged b (Some (marks, u)) ≡ Some (more, t) → s.font ≡ t.font
same_font b marks more s u t same e = same ∙ ap (λ (s : DviState). s.font) (by_range b marks more u t e)

act_font : (widths : Widths) (leaf : BodyLeaf) (s t : DviState) (marks : List Mark) → kept_in (instruction_acts widths leaf s) ≡ Some (marks, t) → (s.font ≡ t.font) ⊎ ((f : ℤ) × (leaf ≡ FontNum f) × (t.font ≡ Some f))
act_font widths (SetChar c) s t marks e = inl (set_font (glyph widths c s.place s.font) s t marks e)
act_font widths (PutChar c) s t marks e = inl (put_font (glyph widths c s.place s.font) s t marks e)
act_font widths (SetRule height width) s t marks e = inl (same_font _ (rule_at height width s.place) marks s (right s width) t refl e)
act_font widths (PutRule height width) s t marks e = inl (same_font _ (rule_at height width s.place) marks s s t refl e)
act_font widths Nop s t marks e = inl (same_font _ [] marks s s t refl e)
act_font widths (Move axis step) s t marks e = inl (same_font _ [] marks s (record s { place = place_after axis step s.place }) t refl e)
act_font widths (FontNum f) s t marks e = inr (f, refl, ap (λ (s : DviState). s.font) (sym (by_range _ [] marks (record s { font = Some f }) t e)))
act_font widths (FontDef d) s t marks e = inl (same_font _ [] marks s s t refl e)
act_font widths (Xxx text) s t marks e = inl (same_font _ (Special s.place.h s.place.v text ∷ []) marks s s t refl e)

drawn_font : (widths : Widths) (leaf : BodyLeaf) (pages : List MarkedPage) (counts : List ℤ) (marks : List Mark) (stack : List Position) (s : DviState) (m : Meaning) (q : PassStateView) (f : ℤ) → kept_in (instruction_acts widths leaf s) ≡ m
    → with_marks pages counts marks stack m ≡ Some q → current_of q ≡ Some f → (s.font ≡ Some f) ⊎ (Do leaf ≡ Do (FontNum f))
drawn_font widths leaf pages counts marks stack s None q f is e at = absurd cc
drawn_font widths leaf pages counts marks stack s (Some (more, t)) q f is e at =
    let same : Inside pages counts (marks ++ more) stack t ≡ q = cc in
    by_font (act_font widths leaf s t more is) (ap current_of same ∙ at)
  where
    by_font : (s.font ≡ t.font) ⊎ ((g : ℤ) × (leaf ≡ FontNum g) × (t.font ≡ Some g)) → t.font ≡ Some f → (s.font ≡ Some f) ⊎ (Do leaf ≡ Do (FontNum f))
    by_font (inl bounded_acts) font = inl (bounded_acts ∙ font)
    by_font (inr (g, leaf_is, font_is)) font =
        let same : Some g ≡ Some f = sym font_is ∙ font in let equal : g ≡ f = cc in inr (ap (λ (l : BodyLeaf). Do l) leaf_is ∙ ap (λ (n : ℤ). Do (FontNum n)) equal)

push_font : (b : Bool) (p q : PassStateView) (f : ℤ) → (if b then Some p else None) ≡ Some q → current_of q ≡ Some f → current_of p ≡ Some f
push_font true p q f e at = let same : p ≡ q = cc in ap current_of same ∙ at
push_font false p q f e at = absurd cc

pub turn_font : (widths : Widths) (most : ℕ) (i : Instruction) (p q : PassStateView) (f : ℤ) → execute (bounded_acts (instruction_acts widths)) most i p ≡ Some q → current_of q ≡ Some f → (current_of p ≡ Some f) ⊎ (i ≡ Do (FontNum f))
turn_font widths most (Do Nop) (Between pages) q f e at = let same : Between pages ≡ q = cc in let none : None ≡ Some f = ap current_of same ∙ at in absurd cc
turn_font widths most (Do (FontDef d)) (Between pages) q f e at = let same : Between pages ≡ q = cc in let none : None ≡ Some f = ap current_of same ∙ at in absurd cc
turn_font widths most (Bop counts pointer) (Between pages) q f e at = let same : Inside pages counts [] [] start ≡ q = cc in let none : None ≡ Some f = ap current_of same ∙ at in absurd cc
turn_font widths most i (Between pages) q f e at = absurd cc
turn_font widths most (Do leaf) (Inside pages counts marks stack s) q f e at = drawn_font widths leaf pages counts marks stack s (kept_in (instruction_acts widths leaf s)) q f refl e at
turn_font widths most Push (Inside pages counts marks stack s) q f e at = inl (push_font (nat_lt (length stack) most) (Inside pages counts marks (s.place ∷ stack) s) q f e at)
turn_font widths most Pop (Inside pages counts marks [] s) q f e at = absurd cc
turn_font widths most Pop (Inside pages counts marks (p ∷ stack) s) q f e at =
    let same : Inside pages counts marks stack (record { place = p; font = s.font }) ≡ q = cc in inl (ap current_of same ∙ at)
turn_font widths most Eop (Inside pages counts marks [] s) q f e at =
    let same : Between (pages ++ record { counts = counts; marks = marks } ∷ []) ≡ q = cc in let none : None ≡ Some f = ap current_of same ∙ at in absurd cc
turn_font widths most Eop (Inside pages counts marks (p ∷ stack) s) q f e at = absurd cc
turn_font widths most i (Inside pages counts marks stack s) q f e at = absurd cc

-- Two tables have the same widths of the font that is selected in the state of a pass.
abbrev pub SameNow : Widths → Widths → PassStateView → Type 0
SameNow v w p = (f : ℤ) → current_of p ≡ Some f → SameWidths v w f

same_glyph : (v w : Widths) (c : ℤ) (p : Position) (font : Option ℤ) → ((f : ℤ) → font ≡ Some f → SameWidths v w f) → glyph v c p font ≡ glyph w c p font
same_glyph v w c p None same = refl
same_glyph v w c p (Some f) same = ap (λ (o : Option ℤ). glyph_of f c p o) (same f refl c)

pub same_act : (v w : Widths) (leaf : BodyLeaf) (s : DviState) → ((f : ℤ) → s.font ≡ Some f → SameWidths v w f) → instruction_acts v leaf s ≡ instruction_acts w leaf s
same_act v w (SetChar c) s same = ap (λ (g : Option (Mark × ℤ)). set_glyph g s) (same_glyph v w c s.place s.font same)
same_act v w (PutChar c) s same = ap (λ (g : Option (Mark × ℤ)). put_glyph g s) (same_glyph v w c s.place s.font same)
same_act v w leaf s same = refl

-- The pass goes on in the same way with both.
pub same_turn : (v w : Widths) (most : ℕ) (i : Instruction) (p : PassStateView) → SameNow v w p → execute (bounded_acts (instruction_acts v)) most i p ≡ execute (bounded_acts (instruction_acts w)) most i p
same_turn v w most (Do leaf) (Inside pages counts marks stack s) same = ap (λ (m : Meaning). with_marks pages counts marks stack (kept_in m)) (same_act v w leaf s same)
same_turn v w most Push (Inside pages counts marks stack s) same = refl
same_turn v w most Pop (Inside pages counts marks stack s) same = refl
same_turn v w most Eop (Inside pages counts marks stack s) same = refl
same_turn v w most (Bop a b) (Inside pages counts marks stack s) same = refl
same_turn v w most (Pre a b c) (Inside pages counts marks stack s) same = refl
same_turn v w most (Post a) (Inside pages counts marks stack s) same = refl
same_turn v w most (PostPost a b) (Inside pages counts marks stack s) same = refl
same_turn v w most (Do Nop) (Between pages) same = refl
same_turn v w most (Do (FontDef d)) (Between pages) same = refl
same_turn v w most (Bop a b) (Between pages) same = refl
same_turn v w most i (Between pages) same = refl

next_same : (v w : Widths) (most : ℕ) (i : Instruction) (p q : PassStateView) → SameNow v w p → AllByRecursion (SameWidths v w) (selection_of i) → execute (bounded_acts (instruction_acts v)) most i p ≡ Some q → SameNow v w q
next_same v w most i p q same all e = λ f at. by_font f (turn_font v most i p q f e at)
  where
    by_font : (f : ℤ) → (current_of p ≡ Some f) ⊎ (i ≡ Do (FontNum f)) → SameWidths v w f
    by_font f (inl before) = same f before
    by_font f (inr is) = let there : AllByRecursion (SameWidths v w) (f ∷ []) = subst (λ (i : Instruction). AllByRecursion (SameWidths v w) (selection_of i)) is all in there.0

-- The pass over instructions is the same with two tables that have the same widths of all fonts that these select.
pub same_passes : (v w : Widths) (most : ℕ) (is : List Instruction) (p q : PassStateView) → SameNow v w p → AllByRecursion (SameWidths v w) (selections is) → passes (bounded_acts (instruction_acts v)) most is p ≡ Some q
    → (passes (bounded_acts (instruction_acts w)) most is p ≡ Some q) × SameNow v w q
same_passes v w most [] p q same all e = let is : p ≡ q = cc in (e, subst (SameNow v w) is same)
same_passes v w most (i ∷ is) p q same all e =
    go (execute (bounded_acts (instruction_acts v)) most i p) refl
    (λ r first. same_passes v w most is r q (next_same v w most i p r same (all_front (SameWidths v w) (selection_of i) (selections is) all) first) (all_back (SameWidths v w) (selection_of i) (selections is) all)) e
  where
    go : (o : Option PassStateView) → execute (bounded_acts (instruction_acts v)) most i p ≡ o
        → ((r : PassStateView) → execute (bounded_acts (instruction_acts v)) most i p ≡ Some r → passes (bounded_acts (instruction_acts v)) most is r ≡ Some q → (passes (bounded_acts (instruction_acts w)) most is r ≡ Some q) × SameNow v w q)
        → then_pass (passes (bounded_acts (instruction_acts v)) most is) o ≡ Some q → (passes (bounded_acts (instruction_acts w)) most (i ∷ is) p ≡ Some q) × SameNow v w q
    go None first later e = absurd cc
    go (Some r) first later e =
        let rest = later r first e in (ap (then_pass (passes (bounded_acts (instruction_acts w)) most is)) (sym (same_turn v w most i p same) ∙ first) ∙ rest.0, rest.1)

-- A number that is defined has the same definition among more of them.
more_test : (b : Bool) (x d : Definition) (rest more : Option Definition) → (rest ≡ Some d → more ≡ Some d) → (if b then Some x else rest) ≡ Some d → (if b then Some x else more) ≡ Some d
more_test true x d rest more later e = e
more_test false x d rest more later e = later e

pub defined_more : (f : ℤ) (xs ys : List Definition) (d : Definition) → first_definition_of f xs ≡ Some d → first_definition_of f (xs ++ ys) ≡ Some d
defined_more f [] ys d e = absurd cc
defined_more f (x ∷ xs) ys d e = more_test (int_eq f x.number) x d (first_definition_of f xs) (first_definition_of f (xs ++ ys)) (defined_more f xs ys d) e

pub some_definition : (o : Option Definition) → IsSome o → (d : Definition) × (o ≡ Some d)
some_definition None some = absurd cc
some_definition (Some d) some = (d, refl)

-- A font that has widths is defined.
pub has_definition : (metrics : WidthsByName) (table : List Definition) (f : ℤ) → HasWidths metrics table f → IsDefined table f
has_definition metrics table f = go (first_definition_of f table)
  where
    go : (o : Option Definition) → IsSome (widths_in metrics o) → IsSome o
    go None some = absurd cc
    go (Some d) some = refl

-- A defined font has the same widths among more definitions.
pub same_more_widths : (metrics : WidthsByName) (xs ys : List Definition) (f : ℤ) → IsDefined xs f → SameWidths (widths_of metrics xs) (widths_of metrics (xs ++ ys)) f
same_more_widths metrics xs ys f some c =
    let (d, e) = some_definition (first_definition_of f xs) some in
    ap (λ (o : Option Definition). width_in (widths_in metrics o) c) (e ∙ sym (defined_more f xs ys d e))

pub has_more_widths : (metrics : WidthsByName) (xs ys : List Definition) (f : ℤ) → HasWidths metrics xs f → HasWidths metrics (xs ++ ys) f
has_more_widths metrics xs ys f some =
    let (d, e) = some_definition (first_definition_of f xs) (has_definition metrics xs f some) in
    subst (λ (o : Option Definition). IsSome (widths_in metrics o)) (e ∙ sym (defined_more f xs ys d e)) some

pub all_more_widths : (metrics : WidthsByName) (xs ys : List Definition) (fs : List ℤ) → AllByRecursion (HasWidths metrics xs) fs → AllByRecursion (HasWidths metrics (xs ++ ys)) fs
all_more_widths metrics xs ys fs all = all_weaker (HasWidths metrics xs) (HasWidths metrics (xs ++ ys)) fs (has_more_widths metrics xs ys) all

pub all_same_widths : (metrics : WidthsByName) (xs ys : List Definition) (fs : List ℤ) → AllByRecursion (HasWidths metrics xs) fs → AllByRecursion (SameWidths (widths_of metrics xs) (widths_of metrics (xs ++ ys))) fs
all_same_widths metrics xs ys fs all =
    all_weaker (HasWidths metrics xs) (SameWidths (widths_of metrics xs) (widths_of metrics (xs ++ ys))) fs
    (λ f some. same_more_widths metrics xs ys f (has_definition metrics xs f some)) all

-- The first definition of a number has that number.
first_test : (f : ℤ) (b : Bool) (x d : Definition) (xs : List Definition) → int_eq f x.number ≡ b → (first_definition_of f xs ≡ Some d → (f ≡ d.number) × IsAmong d xs) → (if b then Some x else first_definition_of f xs) ≡ Some d
    → (f ≡ d.number) × IsAmong d (x ∷ xs)
first_test f true x d xs is later e =
    let same : x ≡ d = cc in ((Decides-int_eq f x.number).0 is ∙ ap (λ (d : Definition). d.number) same, inl (sym same))
first_test f false x d xs is later e = let rest = later e in (rest.0, inr rest.1)

pub defined_first : (f : ℤ) (xs : List Definition) (d : Definition) → first_definition_of f xs ≡ Some d → (f ≡ d.number) × IsAmong d xs
defined_first f [] d e = absurd cc
defined_first f (x ∷ xs) d e = first_test f (int_eq f x.number) x d xs refl (defined_first f xs d) e

-- Each definition among right instructions agrees with those before all of them.
one_agrees : (known : List Definition) (i : Instruction) (d e : Definition) → IsRightAfter known i → IsAmong d known → IsAmong e (definitions_in i) → AgreesWith e d
one_agrees known (Do (FontDef x)) d e (size, all) there (inl same) = subst (λ (x : Definition). AgreesWith x d) (sym same) (all_each (AgreesWith x) known all d there)
one_agrees known (Do (FontDef x)) d e (size, all) there (inr none) = absurd none
one_agrees known i d e right there none = absurd none

pub later_agrees : (known : List Definition) (is : List Instruction) (d e : Definition) → FontsAreRight known is → IsAmong d known → IsAmong e (definitions is) → AgreesWith e d
later_agrees known [] d e right there none = absurd none
later_agrees known (i ∷ is) d e (here, right) there later =
    elim (among_cut e (definitions_in i) (definitions is) later) [
      | inl one ↦ one_agrees known i d e here there one
      | inr rest ↦ later_agrees (definitions_in i ++ known) is d e right (among_back d (definitions_in i) known there) rest
    ]

-- Where a number is defined among right instructions and among right ones after them, both first definitions are the same.
pub same_definition : (front tail : List Instruction) (f : ℤ) → FontsAreRight [] (front ++ tail) → IsDefined (definitions front) f → IsDefined (definitions tail) f
    → first_definition_of f (definitions front) ≡ first_definition_of f (definitions tail)
same_definition front tail f right before after =
    let (d, d_is) = some_definition (first_definition_of f (definitions front)) before in
    let (e, e_is) = some_definition (first_definition_of f (definitions tail)) after in
    let (d_number, d_there) = defined_first f (definitions front) d d_is in
    let (e_number, e_there) = defined_first f (definitions tail) e e_is in
    let known = (same_after [] [] front (same_self [])).there d d_there in
    let same : e ≡ d = later_agrees (known_after [] front) tail d e (fonts_back [] front tail right) known e_there (sym e_number ∙ d_number) in
    d_is ∙ (ap (λ (x : Definition). Some x) (sym same) ∙ sym e_is)

-- A font that right instructions select is defined among them.
selected_one : (known : List Definition) (i : Instruction) → IsRightAfter known i → AllByRecursion (IsDefined known) (selection_of i)
selected_one known (Do (FontNum f)) right = (right, tt)
selected_one known i right = tt

pub defined_later : (known : List Definition) (is : List Instruction) (f : ℤ) → IsDefined known f → IsDefined (known_after known is) f
defined_later known [] f some = some
defined_later known (i ∷ is) f some =
    let (d, number, there) = defined_among f known some in
    defined_later (definitions_in i ++ known) is f (among_defined f (definitions_in i ++ known) d number (among_back d (definitions_in i) known there))

selected_after : (known : List Definition) (is : List Instruction) → FontsAreRight known is → AllByRecursion (IsDefined (known_after known is)) (selections is)
selected_after known [] right = tt
selected_after known (i ∷ is) (here, right) =
    all_append (IsDefined (known_after known (i ∷ is))) (selection_of i) (selections is)
    (all_weaker (IsDefined known) (IsDefined (known_after known (i ∷ is))) (selection_of i) (defined_later known (i ∷ is)) (selected_one known i here))
    (selected_after (definitions_in i ++ known) is right)

-- The same definitions, in order or the last one first.
pub order_defined : (is : List Instruction) (f : ℤ) → IsDefined (known_after [] is) f → IsDefined (definitions is) f
order_defined is f some =
    let (d, number, there) = defined_among f (known_after [] is) some in
    among_defined f (definitions is) d number ((same_after [] [] is (same_self [])).back d there)

pub selected_defined : (is : List Instruction) → FontsAreRight [] is → AllByRecursion (IsDefined (definitions is)) (selections is)
selected_defined is right = all_weaker (IsDefined (known_after [] is)) (IsDefined (definitions is)) (selections is) (order_defined is) (selected_after [] is right)
