-- The writer's drawing, as lists of instructions.
use Rattle.std.proofs.Common.{◌≡◌, ℕ, zero, suc, List, [], ◌∷◌, ◌++◌, refl, append_assoc, ◌∙◌, ap, ap₂, sym, arith}
use Rattle.std.specs.Prelude.{ℤ, pos, negsuc, ◌+ℤ◌, ◌-ℤ◌, Bool, true, false, if◌then◌else◌, Option, Some, None}
use Rattle.std.specs.Option.{option_map}
use Rattle.std.specs.Ordering.{int_eq}
use Rattle.std.proofs.lemmas.Bool.Decides.{Decides-int_eq}
use Rattle.std.proofs.lemmas.Int.{ints}
use Rattle.std.proofs.lemmas.List.{append-nil}
use Rattle.dvi_ops.specs.Instruction.{Axis, Across, Downward, SetChar, FontNum, Xxx, Instruction, Do, Push, Pop}
use Rattle.dvi_ops.specs.Runs.{instructions_of}
use Rattle.node_core.specs.declared.tree.Kind.{Kind}
use Rattle.node_core.specs.declared.tree.Kind.TheVariants.{Horizontal}
use Rattle.scaled_core.specs.Mark as body
use Rattle.dvi_ops.specs.Forest.{Forest, Then, flat}
use Rattle.ship_core.specs.Drawing.{moved_by, selection_before, rule_leaf, font_after, body_of_drawn}
use Rattle.page_core.specs.DrawnPages.{DrawnPage, marked, group, after_rule}
use Rattle.page_core.specs.declared.placing.MarkKind.{MarkKind}
use Rattle.page_core.specs.declared.placing.MarkKind.TheVariants as mark_kind
use Rattle.ship_core.specs.declared.drawing.Drawing.{Drawing}
use Rattle.page_core.specs.Placing.{mark_with, h_after_mark}
use Rattle.ship_core.specs.Private.MarkInstructions.{movement, selection, mark_instructions, instructions_made, font_left}

pub flat-moved_by : (axis : Axis) (z : ℤ) (rest : Forest) → flat (moved_by axis z rest) ≡ movement axis z ++ flat rest
flat-moved_by axis (pos zero) rest = refl
flat-moved_by axis (pos (suc n)) rest = refl
flat-moved_by axis (negsuc n) rest = refl

pub flat-selected : (current : Option ℤ) (font : ℤ) (rest : Forest) → flat (selection_before current font rest) ≡ selection current font ++ flat rest
flat-selected None font rest = refl
flat-selected (Some current) font rest = by_test (int_eq font current)
  where
    by_test : (same : Bool) → flat (if same then rest else Then (FontNum font) rest) ≡ (if same then [] else Do (FontNum font) ∷ []) ++ flat rest
    by_test true = refl
    by_test false = refl

-- A rule is drawn by a movement right, one down, and the rule.
pub flat-drawn_rule :
    (kind : Kind) (h v : ℤ) (current : Option ℤ) (x y height width by : ℤ) (rest : DrawnPage)
    → flat (body_of_drawn kind h v current (marked (body.Rule x y height width) by rest))
    ≡ movement Across (x -ℤ h)
    ++ (movement Downward (y -ℤ v) ++ (Do (rule_leaf kind height width) ∷ flat (body_of_drawn kind (after_rule kind x width) y current rest)))
flat-drawn_rule kind h v current x y height width by rest =
    flat-moved_by Across (x -ℤ h) _ ∙ ap (λ is. movement Across (x -ℤ h) ++ is) (flat-moved_by Downward (y -ℤ v) _)

-- A glyph is drawn by a movement right, one down, the selection of its font, and the character.
pub flat-drawn_glyph :
    (kind : Kind) (h v : ℤ) (current : Option ℤ) (font code x y by : ℤ) (rest : DrawnPage)
    → flat (body_of_drawn kind h v current (marked (body.Glyph font code x y) by rest))
    ≡ movement Across (x -ℤ h)
    ++ (movement Downward (y -ℤ v) ++ (selection current font ++ (Do (SetChar code) ∷ flat (body_of_drawn kind (x +ℤ by) y (Some font) rest))))
flat-drawn_glyph kind h v current font code x y by rest =
    flat-moved_by Across (x -ℤ h) _
    ∙ ap (λ is. movement Across (x -ℤ h) ++ is) (flat-moved_by Downward (y -ℤ v) _ ∙ ap (λ is. movement Downward (y -ℤ v) ++ is) (flat-selected current font _))

-- A special is drawn by a movement right, one down, and the special.
pub flat-drawn_special :
    (kind : Kind) (h v : ℤ) (current : Option ℤ) (x y : ℤ) (text : List ℕ) (by : ℤ) (rest : DrawnPage)
    → flat (body_of_drawn kind h v current (marked (body.Special x y text) by rest))
    ≡ movement Across (x -ℤ h) ++ (movement Downward (y -ℤ v) ++ (Do (Xxx text) ∷ flat (body_of_drawn kind x y current rest)))
flat-drawn_special kind h v current x y text by rest =
    flat-moved_by Across (x -ℤ h) _ ∙ ap (λ is. movement Across (x -ℤ h) ++ is) (flat-moved_by Downward (y -ℤ v) _)

pub ruleset movements = (flat-drawn_rule, flat-drawn_glyph, flat-drawn_special, append_assoc)

-- The drawing after a special makes the same as the one before it, for the drawn marks that follow.
pub noted_mark :
    (kind : Kind) (before after : List Instruction) (h v : ℤ) (current left : Option ℤ) (x y : ℤ) (text : List ℕ) (end down : ℤ) (rest : DrawnPage)
    → after ≡ ((before ++ movement Across (x -ℤ h)) ++ movement Downward (y -ℤ v)) ++ Do (Xxx text) ∷ [] → end ≡ x → down ≡ y → left ≡ current
    → before ++ flat (body_of_drawn kind h v current (marked (body.Special x y text) (pos 0) rest)) ≡ after ++ flat
    (body_of_drawn kind end down left rest)
noted_mark kind before after h v current left x y text end down rest is edge below font =
    rw (is, edge, below, font) (rw (flat-drawn_special kind h v current x y text (pos 0) rest) (simp append_assoc))

-- The selection that a mark needs, and the font after the mark.
abbrev pub chosen : Option ℤ → MarkKind → List Instruction
chosen current (mark_kind.Rule height) = []
chosen current (mark_kind.Glyph slot code) = selection current (pos slot)

abbrev pub left_by : Option ℤ → MarkKind → Option ℤ
left_by current (mark_kind.Rule height) = current
left_by current (mark_kind.Glyph slot code) = Some (pos slot)

drawn_kind :
    (kind : Kind) (before : List Instruction) (h v : ℤ) (current : Option ℤ) (x y width : ℤ) (i : MarkKind) (rest : DrawnPage)
    → before ++ flat (body_of_drawn kind h v current (marked (mark_with x y width i) width rest))
    ≡ ((((before ++ movement Across (x -ℤ h)) ++ movement Downward (y -ℤ v)) ++ chosen current i) ++ mark_instructions kind width i)
    ++ flat (body_of_drawn kind (h_after_mark kind x width i) y (left_by current i) rest)
drawn_kind kind before h v current x y width (mark_kind.Rule height) rest =
    rw (flat-drawn_rule kind h v current x y height width width rest) (simp append_assoc)
drawn_kind kind before h v current x y width (mark_kind.Glyph slot code) rest =
    rw (flat-drawn_glyph kind h v current (pos slot) (pos code) x y width rest) (simp append_assoc)

-- The drawing after a mark makes the same as the one before it, for the drawn marks that follow.
pub drawn_mark :
    (kind : Kind) (before after : List Instruction) (h v : ℤ) (current left : Option ℤ) (x y width end down : ℤ) (i : MarkKind) (rest : DrawnPage)
    → after ≡ (((before ++ movement Across (x -ℤ h)) ++ movement Downward (y -ℤ v)) ++ chosen current i) ++ mark_instructions kind width i
    → end ≡ h_after_mark kind x width i
    → left ≡ left_by current i
    → down ≡ y
    → before ++ flat (body_of_drawn kind h v current (marked (mark_with x y width i) width rest)) ≡ after ++ flat
    (body_of_drawn kind end down left rest)
drawn_mark kind before after h v current left x y width end down i rest is edge font below =
    rw (is, edge, font, below) (drawn_kind kind before h v current x y width i rest)

-- Where a mark is at the place, nothing moves, and a font that is selected is not selected again.
nothing_moved : (axis : Axis) (z : ℤ) → movement axis (z -ℤ z) ≡ []
nothing_moved axis z = let none : z -ℤ z ≡ pos 0 = omega (arith, ints) in ap (movement axis) none

same_font : (font : ℤ) → selection (Some font) font ≡ []
same_font font = let same : int_eq font font ≡ true = (Decides-int_eq font font).1 refl in rw same refl

unmoved : (before : List Instruction) (h v : ℤ) → (before ++ movement Across (h -ℤ h)) ++ movement Downward (v -ℤ v) ≡ before
unmoved before h v =
    ap (λ is. (before ++ is) ++ movement Downward (v -ℤ v)) (nothing_moved Across h)
    ∙ (ap (λ is. (before ++ []) ++ is) (nothing_moved Downward v) ∙ (append-nil (before ++ []) ∙ append-nil before))

drawn_here :
    (before after : List Instruction) (h v : ℤ) (current left : Option ℤ) (width end down : ℤ) (slot code : ℕ) (rest : DrawnPage)
    → after ≡ before ++ Do (SetChar (pos code)) ∷ [] → end ≡ h +ℤ width → current ≡ Some (pos slot) → left ≡ Some (pos slot) → down ≡ v
    → before ++ flat (body_of_drawn Horizontal h v current (marked (body.Glyph (pos slot) (pos code) h v) width rest))
    ≡ after ++ flat (body_of_drawn Horizontal end down left rest)
drawn_here before after h v current left width end down slot code rest is edge font same below =
    let none : selection current (pos slot) ≡ [] = ap (λ (c : Option ℤ). selection c (pos slot)) font ∙ same_font (pos slot) in
    let moved = (before ++ movement Across (h -ℤ h)) ++ movement Downward (v -ℤ v) in
    let chose : moved ++ selection current (pos slot) ≡ before = ap (λ is. moved ++ is) none ∙ (append-nil moved ∙ unmoved before h v) in
    drawn_mark Horizontal before after h v current left h v width end down (mark_kind.Glyph slot code) rest
    (is ∙ sym (ap (λ is. is ++ Do (SetChar (pos code)) ∷ []) chose)) edge same below

-- The drawing after a glyph that stands at its place, of its font, makes the same as the one before it.
pub drawn_next :
    (before after : List Instruction) (h v : ℤ) (current left : Option ℤ) (x y width end down : ℤ) (slot code : ℕ) (rest : DrawnPage)
    → after ≡ before ++ Do (SetChar (pos code)) ∷ [] → end ≡ x +ℤ width → h ≡ x → v ≡ y → current ≡ Some (pos slot) → left ≡ Some (pos slot) → down ≡ y
    → before ++ flat (body_of_drawn Horizontal h v current (marked (body.Glyph (pos slot) (pos code) x y) width rest))
    ≡ after ++ flat (body_of_drawn Horizontal end down left rest)
drawn_next before after h v current left x y width end down slot code rest is edge right below font same under =
    ap₂ (λ (m n : ℤ). before ++ flat (body_of_drawn Horizontal m n current (marked (body.Glyph (pos slot) (pos code) x y) width rest))) right below
    ∙ drawn_here before after x y current left width end down slot code rest is edge font same under

-- The font after the drawn marks that follow is the same too.
pub left_font :
    (current left : Option ℤ) (x y width : ℤ) (i : MarkKind) (rest : DrawnPage) → left ≡ left_by current i
    → font_after current (marked (mark_with x y width i) width rest) ≡ font_after left rest
left_font current left x y width (mark_kind.Rule height) rest font = rw font refl
left_font current left x y width (mark_kind.Glyph slot code) rest font = rw font refl

-- The instructions after a selection, and where none is needed.
pub selected_ops :
    (after between moved : List Instruction) (here current : Option ℤ) (slot code : ℕ) (i : MarkKind) → i ≡ mark_kind.Glyph slot code
    → here ≡ current → between ≡ moved → after ≡ between ++ selection here (pos slot) → after ≡ moved ++ chosen current i
selected_ops after between moved here current slot code i glyph same left is = rw (glyph, is, same, left) refl

pub unselected_ops :
    (after moved : List Instruction) (current : Option ℤ) (height : ℤ) (i : MarkKind) → i ≡ mark_kind.Rule height → after ≡ moved
    → after ≡ moved ++ chosen current i
unselected_ops after moved current height i rule is = rw (rule, is, append-nil moved) refl

-- What the drawing comes to as a sink: the instructions with those for what is drawn after, and the font after it.
abbrev pub Draws : Kind → Drawing → DrawnPage → Drawing → DrawnPage → Type 0
Draws kind from to_draw to rest = (instructions_made kind from to_draw ≡ instructions_made kind to rest)
    × (font_left from to_draw ≡ font_left to rest)

-- The drawing after a box in a group makes the same as the one before it, for what is drawn after, and leaves the same font.
pub drawn_group :
    (kind own : Kind) (before opened inside after : Drawing) (inner rest : DrawnPage)
    → instructions_of opened.ops ≡ instructions_of before.ops ++ Push ∷ []
    → opened.h ≡ before.h → opened.v ≡ before.v → opened.font ≡ before.font
    → instructions_of inside.ops ≡ instructions_made own opened inner
    → option_map pos inside.font ≡ font_left opened inner
    → instructions_of after.ops ≡ instructions_of inside.ops ++ Pop ∷ []
    → after.h ≡ before.h → after.v ≡ before.v → after.font ≡ inside.font
    → Draws kind before (group own inner rest) after rest
drawn_group kind own before opened inside after inner rest push h v font drawn left pop right down same =
    let current : font_left opened inner ≡ font_left before inner = ap (λ (f : Option ℕ). font_after (option_map pos f) inner) font in
    let h_after_mark : option_map pos after.font ≡ font_left before inner = ap (option_map pos) same ∙ (left ∙ current) in (
      rw (h_after_mark, right, down, pop, drawn, h, v, font, push) (simp append_assoc),
      ap (λ (f : Option ℤ). font_after f rest) (sym h_after_mark),
    )
