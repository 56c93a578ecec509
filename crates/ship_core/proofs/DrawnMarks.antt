-- The body drawn for a drawn page has the marks of the drawn page, by the meaning of instructions, and can be spelled.
use Rattle.std.proofs.Common.{◌≡◌, ℕ, zero, suc, ◌+◌, ◌<◌, max, ◌^◌, List, [], ◌∷◌, ◌++◌, length, refl, ap, sym, ◌∙◌, arith}
use Rattle.std.specs.Prelude.{ℤ, pos, negsuc, ◌+ℤ◌, ◌-ℤ◌, ◌≤ℤ◌, neg_ℤ, Bool, true, false, ◌&&◌, if◌then◌else◌, int_lt, Option, Some, None}
use Rattle.std.specs.List.{list_all, AllByRecursion}
use Rattle.std.specs.Ordering.{int_eq}
use Rattle.std.proofs.lemmas.Int.{ints}
use Rattle.std.proofs.lemmas.Bool.{lt-ltb}
use Rattle.std.proofs.lemmas.Bool.Decides.{Decides-int_eq}
use Rattle.scaled_core.specs.Dimensions.{Within, fits}
use Rattle.node_core.specs.declared.tree.Kind.{Kind}
use Rattle.node_core.specs.declared.tree.Kind.TheVariants.{Horizontal, Vertical}
use Rattle.dvi_ops.specs.Instruction.{Axis, Across, Downward, By, Move, SetChar, SetRule, PutRule, FontNum, Xxx, Instruction, Do, Push, Pop}
use Rattle.scaled_core.specs.Mark as body
use Rattle.dvi_ops.specs.Body.{Position, DviState, MoveRegisters, Meaning, Widths, instruction_acts, bounded_acts, in_range}
use Rattle.scaled_core.specs.Mark.{Mark}
use Rattle.dvi_ops.specs.Forest.{Forest, Then, flat, meaning, nests, marks_before, and_then, restored_meaning}
use Rattle.dvi_ops.specs.Spelling.{NumberFits}
use Rattle.dvi_ops.specs.Layout.{IsWritable}
use Rattle.scaled_core.proofs.EachOf.{all_append}
use Rattle.ship_core.specs.Drawing.{moved_by, selection_before, rule_leaf, font_after, body_of_drawn}
use Rattle.page_core.specs.DrawnPages.{DrawnPage, blank, marked, group, after_rule}
use Rattle.ship_core.specs.Shown.{state_at}
use Rattle.scaled_core.proofs.Fitting.{fits_within}

-- The marks of a drawn page.
abbrev pub marks_in : DrawnPage → List Mark
marks_in blank = []
marks_in (marked mark by rest) = mark ∷ marks_in rest
marks_in (group kind inner rest) = marks_in inner ++ marks_in rest

-- A property of each drawn mark of a drawn page, by the kind of its list, its mark and its width.
abbrev pub EachMark : (Kind → Mark → (by : ℤ) → Type 0) → Kind → DrawnPage → Type 0
EachMark P kind blank = Unit {0}
EachMark P kind (marked mark by rest) = P kind mark by × EachMark P kind rest
EachMark P kind (group own inner rest) = EachMark P own inner × EachMark P kind rest

pub every_marked : (P : Kind → Mark → (by : ℤ) → Type 0) → ((kind : Kind) (mark : Mark) (by : ℤ) → P kind mark by) → (kind : Kind) (p : DrawnPage)
    → EachMark P kind p
every_marked P holds kind blank = tt
every_marked P holds kind (marked mark by rest) = (holds kind mark by, every_marked P holds kind rest)
every_marked P holds kind (group own inner rest) = (every_marked P holds own inner, every_marked P holds kind rest)

pub marked_map :
    (P Q : Kind → Mark → (by : ℤ) → Type 0) → ((kind : Kind) (mark : Mark) (by : ℤ) → P kind mark by → Q kind mark by) → (kind : Kind) (p : DrawnPage)
    → EachMark P kind p → EachMark Q kind p
marked_map P Q goes kind blank all = tt
marked_map P Q goes kind (marked mark by rest) (here, all) = (goes kind mark by here, marked_map P Q goes kind rest all)
marked_map P Q goes kind (group own inner rest) (within, all) = (marked_map P Q goes own inner within, marked_map P Q goes kind rest all)

-- The text of a special can be spelled.
abbrev pub IsShort : Kind → Mark → (by : ℤ) → Type 0
IsShort kind (body.Rule x y height width) by = Unit {0}
IsShort kind (body.Glyph font code x y) by = Unit {0}
IsShort kind (body.Special x y text) by = length text < 2 ^ 32

-- A meaning has these marks, and ends with that font.
pub record Shows (m : Meaning) (marks : List Mark) (font : Option ℤ) : Type 0 where
  pub last : DviState
  pub left : last.font ≡ font
  pub shows : m ≡ Some (marks, last)

-- Numbers that all fit.
pub all_within : (numbers : List ℤ) → list_all fits numbers ≡ true → AllByRecursion (Within 1073741823) numbers
all_within [] all = tt
all_within (z ∷ rest) all = by_test (fits z) refl all (all_within rest)
  where
    by_test : (b : Bool) → fits z ≡ b → (b && list_all fits rest) ≡ true → (list_all fits rest ≡ true → AllByRecursion (Within 1073741823) rest)
        → Within 1073741823 z × AllByRecursion (Within 1073741823) rest
    by_test true is others all = (fits_within z is, all others)
    by_test false is others all = absurd (cc)

pub number_within : (z : ℤ) → Within 1073741823 z → NumberFits z
number_within (pos n) within = record { sfits = omega (arith, ints, within.high) }
number_within (negsuc n) within = record { sfits = omega (arith, ints, within.low) }

point_within : (z : ℤ) → Within 1073741823 z → in_range z ≡ true
point_within (pos n) within = lt-ltb n (2 ^ 31) (omega (arith, ints, within.high))
point_within (negsuc n) within = lt-ltb n (2 ^ 31) (omega (arith, ints, within.low))

-- The difference of two dimensions fits into 32 bits.
difference_fits : (a b : ℤ) → Within 1073741823 a → Within 1073741823 b → NumberFits (a -ℤ b)
difference_fits a b first second = of_bounds (a -ℤ b) (omega (arith, ints, first.high, second.low)) (omega (arith, ints, first.low, second.high))
  where
    of_bounds : (z : ℤ) → z ≤ℤ pos 2147483646 → neg_ℤ (pos 2147483646) ≤ℤ z → NumberFits z
    of_bounds (pos n) high low = record { sfits = omega (arith, ints, high) }
    of_bounds (negsuc n) high low = record { sfits = omega (arith, ints, low) }

-- The number of a font or of a character is a byte.
abbrev pub IsByte : ℤ → Type 0
IsByte (pos n) = n < 256
IsByte (negsuc n) = ⊥

byte_fits : (z : ℤ) → IsByte z → NumberFits z
byte_fits (pos n) small = record { sfits = omega arith }
byte_fits (negsuc n) small = absurd small

-- A rule that can be drawn: its place, the place after it and its sizes fit, and the sizes are positive.
pub record IsSeen (kind : Kind) (x y height width : ℤ) : Type 0 where
  pub h : Within 1073741823 x
  pub v : Within 1073741823 y
  pub end : Within 1073741823 (after_rule kind x width)
  pub tall : Within 1073741823 height
  pub wide : Within 1073741823 width
  pub positive : (int_lt (pos 0) height && int_lt (pos 0) width) ≡ true

-- A glyph that can be drawn: its place and the place after it fit, and its width is that of its font.
pub record IsLettered (widths : Widths) (font code x y by : ℤ) : Type 0 where
  pub h : Within 1073741823 x
  pub v : Within 1073741823 y
  pub end : Within 1073741823 (x +ℤ by)
  pub wide : widths font code ≡ Some by
  pub font_byte : IsByte font
  pub code_byte : IsByte code

-- A special that can be drawn: its place fits.
pub record IsNoted (x y : ℤ) : Type 0 where
  pub h : Within 1073741823 x
  pub v : Within 1073741823 y

abbrev pub IsDrawn : Widths → Kind → Mark → (by : ℤ) → Type 0
IsDrawn widths kind (body.Rule x y height width) by = IsSeen kind x y height width
IsDrawn widths kind (body.Glyph font code x y) by = IsLettered widths font code x y by
IsDrawn widths kind (body.Special x y text) by = IsNoted x y

before_none : (m : Meaning) → marks_before [] m ≡ m
before_none None = refl
before_none (Some (marks, s)) = refl

module _ (widths : Widths) (held : MoveRegisters) where
  shown : Forest → ℤ → ℤ → Option ℤ → Meaning
  shown f h v font = meaning (bounded_acts (instruction_acts widths)) f (state_at h v held font)

  moved_across :
      (h v z : ℤ) (font : Option ℤ) (rest : Forest) → in_range (h +ℤ z) ≡ true → in_range v ≡ true
      → shown (moved_by Across z rest) h v font ≡ shown rest (h +ℤ z) v font
  unfolding shown
  moved_across h v (pos zero) font rest here there = ap (λ x. shown rest x v font) (omega (arith, ints))
  moved_across h v (pos (suc n)) font rest here there = rw (here, there) (before_none (shown rest (h +ℤ pos (suc n)) v font))
  moved_across h v (negsuc n) font rest here there = rw (here, there) (before_none (shown rest (h +ℤ negsuc n) v font))

  moved_downward :
      (h v z : ℤ) (font : Option ℤ) (rest : Forest) → in_range h ≡ true → in_range (v +ℤ z) ≡ true
      → shown (moved_by Downward z rest) h v font ≡ shown rest h (v +ℤ z) font
  unfolding shown
  moved_downward h v (pos zero) font rest here there = ap (λ y. shown rest h y font) (omega (arith, ints))
  moved_downward h v (pos (suc n)) font rest here there = rw (here, there) (before_none (shown rest h (v +ℤ pos (suc n)) font))
  moved_downward h v (negsuc n) font rest here there = rw (here, there) (before_none (shown rest h (v +ℤ negsuc n) font))

  -- A movement to a place, right and then down.
  moved_to :
      (h v x y : ℤ) (font : Option ℤ) (rest : Forest) → in_range v ≡ true → in_range x ≡ true → in_range y ≡ true
      → shown (moved_by Across (x -ℤ h) (moved_by Downward (y -ℤ v) rest)) h v font ≡ shown rest x y font
  moved_to h v x y font rest start right below =
      let there : h +ℤ (x -ℤ h) ≡ x = omega (arith, ints) in
      let down : v +ℤ (y -ℤ v) ≡ y = omega (arith, ints) in
      moved_across h v (x -ℤ h) font (moved_by Downward (y -ℤ v) rest) (ap in_range there ∙ right) start
      ∙ (ap (λ z. shown (moved_by Downward (y -ℤ v) rest) z v font) there
      ∙ (moved_downward x v (y -ℤ v) font rest right (ap in_range down ∙ below) ∙ ap (λ z. shown rest x z font) down))

  selected_font :
      (h v : ℤ) (current : Option ℤ) (font : ℤ) (rest : Forest) → in_range h ≡ true → in_range v ≡ true
      → shown (selection_before current font rest) h v current ≡ shown rest h v (Some font)
  unfolding shown
  selected_font h v None font rest here there = rw (here, there) (before_none (shown rest h v (Some font)))
  selected_font h v (Some current) font rest here there = by_test (int_eq font current) refl
    where
      by_test : (same : Bool) → int_eq font current ≡ same
          → shown (if same then rest else Then (FontNum font) rest) h v (Some current) ≡ shown rest h v (Some font)
      by_test true is = ap (λ f. shown rest h v (Some f)) (sym ((Decides-int_eq font current).0 is))
      by_test false is = rw (here, there) (before_none (shown rest h v (Some font)))

  marked_rule :
      (kind : Kind) (h v height width : ℤ) (font : Option ℤ) (rest : Forest) → IsSeen kind h v height width
      → shown (Then (rule_leaf kind height width) rest) h v font ≡ marks_before (body.Rule h v height width ∷ [])
      (shown rest (after_rule kind h width) v font)
  unfolding shown
  marked_rule Horizontal h v height width font rest seen = rw (point_within (h +ℤ width) seen.end, point_within v seen.v, seen.positive) refl
  marked_rule Vertical h v height width font rest seen = rw (point_within h seen.h, point_within v seen.v, seen.positive) refl

  lettered :
      (font code h v by : ℤ) (rest : Forest) → IsLettered widths font code h v by
      → shown (Then (SetChar code) rest) h v (Some font) ≡ marks_before (body.Glyph font code h v ∷ []) (shown rest (h +ℤ by) v (Some font))
  unfolding shown
  lettered font code h v by rest can = rw (can.wide, point_within (h +ℤ by) can.end, point_within v can.v) refl

  noted :
      (h v : ℤ) (text : List ℕ) (font : Option ℤ) (rest : Forest) → IsNoted h v
      → shown (Then (Xxx text) rest) h v font ≡ marks_before (body.Special h v text ∷ []) (shown rest h v font)
  unfolding shown
  noted h v text font rest can = rw (point_within h can.h, point_within v can.v) refl

  -- After a group, the rest begins at the place before the group, with the font from its end.
  group_left :
      (m : Meaning) (p : Position) (marks : List Mark) (last : DviState) (font : Option ℤ) (next : DviState → Meaning) → m ≡ Some (marks, last) → last.font ≡ font
      → and_then (restored_meaning p m) next ≡ marks_before marks (next (record { place = p; font = font }))
  group_left m p marks last font next is left = rw (is, left) refl

  -- The body drawn for a drawn page has its marks, and ends with its font.
  pub drawn_marks :
      (kind : Kind) (h v : ℤ) (current : Option ℤ) (p : DrawnPage) → in_range v ≡ true → EachMark (IsDrawn widths) kind p
      → Shows (meaning (bounded_acts (instruction_acts widths)) (body_of_drawn kind h v current p) (state_at h v held current)) (marks_in p)
      (font_after current p)
  unfolding shown
  drawn_marks kind h v current blank below all = record { last = state_at h v held current; left = refl; shows = refl }
  drawn_marks kind h v current (marked (body.Rule x y height width) by rest) below (seen, all) =
      let later = drawn_marks kind (after_rule kind x width) y current rest (point_within y seen.v) all in
      let others = body_of_drawn kind (after_rule kind x width) y current rest in
      record {
        last = later.last;
        left = later.left;
        shows = moved_to h v x y current (Then (rule_leaf kind height width) others) below (point_within x seen.h) (point_within y seen.v)
            ∙ (marked_rule kind x y height width current others seen ∙ ap (marks_before (body.Rule x y height width ∷ [])) later.shows);
      }
  drawn_marks kind h v current (marked (body.Glyph font code x y) by rest) below (can, all) =
      let later = drawn_marks kind (x +ℤ by) y (Some font) rest (point_within y can.v) all in
      let others = body_of_drawn kind (x +ℤ by) y (Some font) rest in
      record {
        last = later.last;
        left = later.left;
        shows = moved_to h v x y current (selection_before current font (Then (SetChar code) others)) below (point_within x can.h) (point_within y can.v)
            ∙ (selected_font x y current font (Then (SetChar code) others) (point_within x can.h) (point_within y can.v)
            ∙ (lettered font code x y by others can ∙ ap (marks_before (body.Glyph font code x y ∷ [])) later.shows));
      }
  drawn_marks kind h v current (marked (body.Special x y text) by rest) below (can, all) =
      let later = drawn_marks kind x y current rest (point_within y can.v) all in
      let others = body_of_drawn kind x y current rest in
      record {
        last = later.last;
        left = later.left;
        shows = moved_to h v x y current (Then (Xxx text) others) below (point_within x can.h) (point_within y can.v)
            ∙ (noted x y text current others can ∙ ap (marks_before (body.Special x y text ∷ [])) later.shows);
      }
  drawn_marks kind h v current (group own inner rest) below (within, all) =
      let first = drawn_marks own h v current inner below within in
      let later = drawn_marks kind h v (font_after current inner) rest below all in
      record {
        last = later.last;
        left = later.left;
        shows = group_left (shown (body_of_drawn own h v current inner) h v current) (state_at h v held current).place (marks_in inner) first.last
            (font_after current inner)
            (λ t. meaning (bounded_acts (instruction_acts widths)) (body_of_drawn kind h v (font_after current inner) rest) t) first.shows first.left
            ∙ ap (marks_before (marks_in inner)) later.shows;
      }

-- The body can be spelled, and its numbers fit their fields.
writable_movement : (axis : Axis) (z : ℤ) (rest : Forest) → NumberFits z → AllByRecursion IsWritable (flat rest) → AllByRecursion IsWritable (flat (moved_by axis z rest))
writable_movement axis (pos zero) rest fit all = all
writable_movement axis (pos (suc n)) rest fit all = ((tt, fit), all)
writable_movement axis (negsuc n) rest fit all = ((tt, fit), all)

writable_selection :
    (current : Option ℤ) (font : ℤ) (rest : Forest) → NumberFits font → AllByRecursion IsWritable (flat rest)
    → AllByRecursion IsWritable (flat (selection_before current font rest))
writable_selection None font rest fit all = ((tt, fit), all)
writable_selection (Some current) font rest fit all = by_test (int_eq font current)
  where
    by_test : (same : Bool) → AllByRecursion IsWritable (flat (if same then rest else Then (FontNum font) rest))
    by_test true = all
    by_test false = ((tt, fit), all)

writable_rule : (kind : Kind) (height width : ℤ) → NumberFits height → NumberFits width → IsWritable (Do (rule_leaf kind height width))
writable_rule Horizontal height width tall wide = (tt, (tall, wide))
writable_rule Vertical height width tall wide = (tt, (tall, wide))

pub drawn_writable :
    (widths : Widths) (kind : Kind) (h v : ℤ) (current : Option ℤ) (p : DrawnPage) → Within 1073741823 h → Within 1073741823 v
    → EachMark (IsDrawn widths) kind p → EachMark IsShort kind p → AllByRecursion IsWritable (flat (body_of_drawn kind h v current p))
drawn_writable widths kind h v current blank right low all short = tt
drawn_writable widths kind h v current (marked (body.Rule x y height width) by rest) right low (seen, all) (own, short) =
    writable_movement Across (x -ℤ h) _ (difference_fits x h seen.h right)
    (writable_movement Downward (y -ℤ v) _ (difference_fits y v seen.v low) (
      writable_rule kind height width (number_within height seen.tall) (number_within width seen.wide),
      drawn_writable widths kind (after_rule kind x width) y current rest seen.end seen.v all short,
    ))
drawn_writable widths kind h v current (marked (body.Glyph font code x y) by rest) right low (can, all) (own, short) =
    writable_movement Across (x -ℤ h) _ (difference_fits x h can.h right)
    (writable_movement Downward (y -ℤ v) _ (difference_fits y v can.v low)
    (writable_selection current font _ (byte_fits font can.font_byte)
    ((tt, byte_fits code can.code_byte), drawn_writable widths kind (x +ℤ by) y (Some font) rest can.end can.v all short)))
drawn_writable widths kind h v current (marked (body.Special x y text) by rest) right low (can, all) (own, short) =
    writable_movement Across (x -ℤ h) _ (difference_fits x h can.h right)
    (writable_movement Downward (y -ℤ v) _ (difference_fits y v can.v low) ((own, tt), drawn_writable widths kind x y current rest can.h can.v all short))
drawn_writable widths kind h v current (group own inner rest) right low (within, all) (inside, short) = (
  (tt, tt),
  all_append IsWritable (flat (body_of_drawn own h v current inner)) (Pop ∷ flat (body_of_drawn kind h v (font_after current inner) rest))
      (drawn_writable widths own h v current inner right low within inside)
      ((tt, tt), drawn_writable widths kind h v (font_after current inner) rest right low all short),
)

-- A property of movements, pushes and pops, and of what is made for each drawn mark, is one of each instruction that draws a drawn page.
module _ (P : Instruction → Type 0) where
  -- The instructions made for a mark: a rule, or the selection of a font and a character.
  abbrev pub IsDrawnMark : Kind → Mark → (by : ℤ) → Type 0
  IsDrawnMark kind (body.Rule x y height width) by = P (Do (rule_leaf kind height width))
  IsDrawnMark kind (body.Glyph font code x y) by = P (Do (FontNum font)) × P (Do (SetChar code))
  IsDrawnMark kind (body.Special x y text) by = P (Do (Xxx text))

  pub record HoldsBetween : Type 0 where
    pub moves : (axis : Axis) (z : ℤ) → P (Do (Move axis (By z)))
    pub push : P Push
    pub pop : P Pop

  each_movement :
      (axis : Axis) (z : ℤ) (rest : Forest) → P (Do (Move axis (By z))) → AllByRecursion P (flat rest) → AllByRecursion P (flat (moved_by axis z rest))
  each_movement axis (pos zero) rest here all = all
  each_movement axis (pos (suc n)) rest here all = (here, all)
  each_movement axis (negsuc n) rest here all = (here, all)

  each_selection :
      (current : Option ℤ) (font : ℤ) (rest : Forest) → P (Do (FontNum font)) → AllByRecursion P (flat rest) → AllByRecursion P (flat (selection_before current font rest))
  each_selection None font rest here all = (here, all)
  each_selection (Some current) font rest here all = by_test (int_eq font current)
    where
      by_test : (same : Bool) → AllByRecursion P (flat (if same then rest else Then (FontNum font) rest))
      by_test true = all
      by_test false = (here, all)

  pub each_drawn :
      HoldsBetween → (kind : Kind) (h v : ℤ) (current : Option ℤ) (p : DrawnPage) → EachMark IsDrawnMark kind p
      → AllByRecursion P (flat (body_of_drawn kind h v current p))
  each_drawn holds kind h v current blank all = tt
  each_drawn holds kind h v current (marked (body.Rule x y height width) by rest) (here, all) =
      each_movement Across (x -ℤ h) _ (holds.moves Across (x -ℤ h))
      (each_movement Downward (y -ℤ v) _ (holds.moves Downward (y -ℤ v)) (here, each_drawn holds kind (after_rule kind x width) y current rest all))
  each_drawn holds kind h v current (marked (body.Glyph font code x y) by rest) (here, all) =
      each_movement Across (x -ℤ h) _ (holds.moves Across (x -ℤ h))
      (each_movement Downward (y -ℤ v) _ (holds.moves Downward (y -ℤ v))
      (each_selection current font _ here.0 (here.1, each_drawn holds kind (x +ℤ by) y (Some font) rest all)))
  each_drawn holds kind h v current (marked (body.Special x y text) by rest) (here, all) =
      each_movement Across (x -ℤ h) _ (holds.moves Across (x -ℤ h))
      (each_movement Downward (y -ℤ v) _ (holds.moves Downward (y -ℤ v)) (here, each_drawn holds kind x y current rest all))
  each_drawn holds kind h v current (group own inner rest) (within, all) = (
    holds.push,
    all_append P (flat (body_of_drawn own h v current inner)) (Pop ∷ flat (body_of_drawn kind h v (font_after current inner) rest))
        (each_drawn holds own h v current inner within)
        (holds.pop, each_drawn holds kind h v (font_after current inner) rest all),
  )

  -- A property of all that is made is one of each instruction.
  pub record HoldsOfAll : Type 0 where
    pub between : HoldsBetween
    pub fonts : (font : ℤ) → P (Do (FontNum font))
    pub chars : (code : ℤ) → P (Do (SetChar code))
    pub set_rules : (height width : ℤ) → P (Do (SetRule height width))
    pub put_rules : (height width : ℤ) → P (Do (PutRule height width))
    pub specials : (text : List ℕ) → length text < 2 ^ 32 → P (Do (Xxx text))

  all_marked : HoldsOfAll → (kind : Kind) (mark : Mark) (by : ℤ) → IsShort kind mark by → IsDrawnMark kind mark by
  all_marked holds Horizontal (body.Rule x y height width) by short = holds.set_rules height width
  all_marked holds Vertical (body.Rule x y height width) by short = holds.put_rules height width
  all_marked holds kind (body.Glyph font code x y) by short = (holds.fonts font, holds.chars code)
  all_marked holds kind (body.Special x y text) by short = holds.specials text short

  pub all_drawn :
      HoldsOfAll → (kind : Kind) (h v : ℤ) (current : Option ℤ) (p : DrawnPage) → EachMark IsShort kind p
      → AllByRecursion P (flat (body_of_drawn kind h v current p))
  all_drawn holds kind h v current p short =
      each_drawn holds.between kind h v current p (marked_map IsShort IsDrawnMark (all_marked holds) kind p short)

-- The depth of the groups of a drawn page; the body drawn for it opens as many groups.
abbrev pub groups : DrawnPage → ℕ
groups blank = 0
groups (marked mark by rest) = groups rest
groups (group kind inner rest) = max (groups inner + 1) (groups rest)

nests_moved : (axis : Axis) (z : ℤ) (rest : Forest) → nests (moved_by axis z rest) ≡ nests rest
nests_moved axis (pos zero) rest = refl
nests_moved axis (pos (suc n)) rest = refl
nests_moved axis (negsuc n) rest = refl

nests_selected : (current : Option ℤ) (font : ℤ) (rest : Forest) → nests (selection_before current font rest) ≡ nests rest
nests_selected None font rest = refl
nests_selected (Some current) font rest = by_test (int_eq font current)
  where
    by_test : (same : Bool) → nests (if same then rest else Then (FontNum font) rest) ≡ nests rest
    by_test true = refl
    by_test false = refl

pub nests-body_of_drawn : (kind : Kind) (h v : ℤ) (current : Option ℤ) (p : DrawnPage) → nests (body_of_drawn kind h v current p) ≡ groups p
nests-body_of_drawn kind h v current blank = refl
nests-body_of_drawn kind h v current (marked (body.Rule x y height width) by rest) =
    nests_moved Across (x -ℤ h) _ ∙ (nests_moved Downward (y -ℤ v) _ ∙ nests-body_of_drawn kind (after_rule kind x width) y current rest)
nests-body_of_drawn kind h v current (marked (body.Glyph font code x y) by rest) =
    nests_moved Across (x -ℤ h) _
    ∙ (nests_moved Downward (y -ℤ v) _ ∙ (nests_selected current font _ ∙ nests-body_of_drawn kind (x +ℤ by) y (Some font) rest))
nests-body_of_drawn kind h v current (marked (body.Special x y text) by rest) =
    nests_moved Across (x -ℤ h) _ ∙ (nests_moved Downward (y -ℤ v) _ ∙ nests-body_of_drawn kind x y current rest)
nests-body_of_drawn kind h v current (group own inner rest) =
    omega (arith, nests-body_of_drawn own h v current inner, nests-body_of_drawn kind h v (font_after current inner) rest)
