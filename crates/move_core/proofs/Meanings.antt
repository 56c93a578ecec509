-- A body and what is written for it mean the same from every state, and pass through the same places.
use Rattle.std.proofs.Common.{◌≡◌, ◌++◌, ◌∷◌, List, ℤ, Option, Some, None, Bool, refl, ap, ap₂, ◌+ℤ◌}
use Rattle.dvi_ops.specs.Instruction.{Across, Downward, By, Set, Again, BodyLeaf, SetChar, PutChar, Move, Do}
use Rattle.dvi_ops.specs.Body.{MoveRegisters, Position, DviState, Widths, Meaning, instruction_acts, state_without_mark, glyph, glyph_of, set_glyph, put_glyph, held_after}
use Rattle.scaled_core.specs.Mark.{Mark}
use Rattle.dvi_ops.specs.Forest.{Forest, Empty, Then, Group, marks_before, and_then, restored_meaning, meaning, points, points_then}
use Rattle.dvi_ops.specs.Plain.{NamesNoRegister}
use Rattle.move_core.specs.Registers.{KnownRegisters, written_leaf, choose, is_amount}
use Rattle.move_core.specs.Reused.{has_move, comes_again, reused_from}
use Rattle.move_core.specs.SamePage.{shown_meaning}
use Rattle.move_core.proofs.Choices.{AgreeAll, goes_as_far, knows_on}

-- A state with other registers.
abbrev pub with_held : MoveRegisters → DviState → DviState
with_held r s = record { place = record { h = s.place.h; v = s.place.v; held = r }; font = s.font }

-- No instruction of a body uses a register.
abbrev pub IsPlain : Forest → Type 0
IsPlain Empty = Unit {0}
IsPlain (Then leaf rest) = NamesNoRegister (Do leaf) × IsPlain rest
IsPlain (Group inner rest) = IsPlain inner × IsPlain rest

-- A meaning, and the meaning of what is written for an instruction: the same but for the registers, whose known values are k.
pub Turned : KnownRegisters → Meaning → Meaning → Type 0
Turned k None m = m ≡ None
Turned k (Some (marks, t)) m = (r : MoveRegisters) × AgreeAll k r × (m ≡ Some (marks, with_held r t))

-- The same for a body, without a claim about the registers after it.
pub Follows : Meaning → Meaning → Type 0
Follows None m = m ≡ None
Follows (Some (marks, t)) m = (r : MoveRegisters) × (m ≡ Some (marks, with_held r t))

glyph_stays : (widths : Widths) (c : ℤ) (r : MoveRegisters) (p : Position) (font : Option ℤ) →
    glyph widths c (record { h = p.h; v = p.v; held = r }) font ≡ glyph widths c p font
glyph_stays widths c r p None = refl
glyph_stays widths c r p (Some f) = by_width (widths f c)
  where
    by_width : (w : Option ℤ) → glyph_of f c (record { h = p.h; v = p.v; held = r }) w ≡ glyph_of f c p w
    by_width None = refl
    by_width (Some w) = refl

set_turned : (k : KnownRegisters) (g g' : Option (Mark × ℤ)) (r : MoveRegisters) (s : DviState) → g' ≡ g → AgreeAll k r →
    Turned k (set_glyph g s) (set_glyph g' (with_held r s))
unfolding Turned
set_turned k None g' r s e h = ap (λ (g : Option (Mark × ℤ)). set_glyph g (with_held r s)) e
set_turned k (Some (mark, width)) g' r s e h = (r, h, ap (λ (g : Option (Mark × ℤ)). set_glyph g (with_held r s)) e)

put_turned : (k : KnownRegisters) (g g' : Option (Mark × ℤ)) (r : MoveRegisters) (s : DviState) → g' ≡ g → AgreeAll k r →
    Turned k (put_glyph g s) (put_glyph g' (with_held r s))
unfolding Turned
put_turned k None g' r s e h = ap (λ (g : Option (Mark × ℤ)). put_glyph g (with_held r s)) e
put_turned k (Some (mark, width)) g' r s e h = (r, h, ap (λ (g : Option (Mark × ℤ)). put_glyph g (with_held r s)) e)

-- One instruction and what is written for it.
act_turned : (widths : Widths) (k : KnownRegisters) (leaf : BodyLeaf) (again : Bool) (r : MoveRegisters) (s : DviState) → NamesNoRegister (Do leaf) → AgreeAll k r →
    Turned (written_leaf k leaf again).known (instruction_acts widths leaf s) (instruction_acts widths (written_leaf k leaf again).leaf (with_held r s))
unfolding Turned
act_turned widths k (SetChar c) again r s plain h = set_turned k _ _ r s (glyph_stays widths c r s.place s.font) h
act_turned widths k (PutChar c) again r s plain h = put_turned k _ _ r s (glyph_stays widths c r s.place s.font) h
act_turned widths k (Move Across (By n)) again r s plain h = (
  record { across = held_after r.across (choose k.across n again).step; down = r.down },
  (knows_on (is_amount k.across.first n) (is_amount k.across.second n) again k.across n r.across h.0, h.1),
  ap (λ (z : ℤ). state_without_mark (record { place = record { h = s.place.h +ℤ z; v = s.place.v; held = record { across = held_after r.across (choose k.across n again).step; down = r.down } }; font = s.font }))
      (goes_as_far (is_amount k.across.first n) (is_amount k.across.second n) again k.across n r.across refl refl h.0),
)
act_turned widths k (Move Downward (By n)) again r s plain h = (
  record { across = r.across; down = held_after r.down (choose k.down n again).step },
  (h.0, knows_on (is_amount k.down.first n) (is_amount k.down.second n) again k.down n r.down h.1),
  ap (λ (z : ℤ). state_without_mark (record { place = record { h = s.place.h; v = s.place.v +ℤ z; held = record { across = r.across; down = held_after r.down (choose k.down n again).step } }; font = s.font }))
      (goes_as_far (is_amount k.down.first n) (is_amount k.down.second n) again k.down n r.down refl refl h.1),
)
act_turned widths k (Move Across (Set register n)) again r s plain h = absurd plain
act_turned widths k (Move Across (Again register)) again r s plain h = absurd plain
act_turned widths k (Move Downward (Set register n)) again r s plain h = absurd plain
act_turned widths k (Move Downward (Again register)) again r s plain h = absurd plain
act_turned widths k leaf again r s plain h = (r, h, refl)

follows_before : (marks : List Mark) (m m' : Meaning) → Follows m m' → Follows (marks_before marks m) (marks_before marks m')
unfolding Follows
follows_before marks None m' e = ap (marks_before marks) e
follows_before marks (Some (more, t)) m' (r, e) = (r, ap (marks_before marks) e)

-- The continuation starts from the known values.
follows_then : (k : KnownRegisters) (m m' : Meaning) (j j' : DviState → Meaning) → Turned k m m' →
    ((t : DviState) (r : MoveRegisters) → AgreeAll k r → Follows (j t) (j' (with_held r t))) → Follows (and_then m j) (and_then m' j')
unfolding Turned Follows
follows_then k None m' j j' e next = ap (λ (m : Meaning). and_then m j') e
follows_then k (Some (marks, t)) m' j j' (r, h, e) next =
    rw e (follows_before marks (j t) (j' (with_held r t)) (next t r h))

restored_turned : (k : KnownRegisters) (r : MoveRegisters) (p : Position) (m m' : Meaning) → Follows m m' → AgreeAll k r →
    Turned k (restored_meaning p m) (restored_meaning (record { h = p.h; v = p.v; held = r }) m')
unfolding Turned Follows
restored_turned k r p None m' e h = ap (restored_meaning (record { h = p.h; v = p.v; held = r })) e
restored_turned k r p (Some (marks, t)) m' (q, e) h = (r, h, ap (restored_meaning (record { h = p.h; v = p.v; held = r })) e)

-- A body and what is written for it, where k are the known register values.
pub reused_follows : (widths : Widths) (k : KnownRegisters) (f : Forest) (r : MoveRegisters) (s : DviState) → IsPlain f → AgreeAll k r →
    Follows (meaning (instruction_acts widths) f s) (meaning (instruction_acts widths) (reused_from k f) (with_held r s))
unfolding Follows
reused_follows widths k Empty r s plain h = (r, refl)
reused_follows widths k (Then leaf rest) r s (here, plain) h =
    let again = comes_again leaf (has_move rest) in
    let k' = (written_leaf k leaf again).known in
    follows_then k' (instruction_acts widths leaf s) (instruction_acts widths (written_leaf k leaf again).leaf (with_held r s))
    (λ t. meaning (instruction_acts widths) rest t) (λ t. meaning (instruction_acts widths) (reused_from k' rest) t)
    (act_turned widths k leaf again r s here h) (λ t q agree. reused_follows widths k' rest q t plain agree)
reused_follows widths k (Group inner rest) r s (within, plain) h =
    follows_then k (restored_meaning s.place (meaning (instruction_acts widths) inner s)) (restored_meaning (with_held r s).place (meaning (instruction_acts widths) (reused_from k inner) (with_held r s)))
    (λ t. meaning (instruction_acts widths) rest t) (λ t. meaning (instruction_acts widths) (reused_from k rest) t)
    (restored_turned k r s.place (meaning (instruction_acts widths) inner s) (meaning (instruction_acts widths) (reused_from k inner) (with_held r s)) (reused_follows widths k inner r s within h) h)
    (λ t q agree. reused_follows widths k rest q t plain agree)

-- Both meanings show the same.
pub shown_follows : (m m' : Meaning) → Follows m m' → shown_meaning m' ≡ shown_meaning m
unfolding Follows
shown_follows None m' e = ap shown_meaning e
shown_follows (Some (marks, s)) m' (r, e) = ap shown_meaning e

-- Both pass through the same places.
points_turned : (k : KnownRegisters) (m m' : Meaning) (j j' : DviState → List (ℤ × ℤ)) → Turned k m m' →
    ((t : DviState) (r : MoveRegisters) → AgreeAll k r → j' (with_held r t) ≡ j t) → points_then m' j' ≡ points_then m j
unfolding Turned
points_turned k None m' j j' e next = ap (λ (m : Meaning). points_then m j') e
points_turned k (Some (marks, t)) m' j j' (r, h, e) next = rw e (ap (λ (ps : List (ℤ × ℤ)). (t.place.h, t.place.v) ∷ ps) (next t r h))

pub reused_points : (widths : Widths) (k : KnownRegisters) (f : Forest) (r : MoveRegisters) (s : DviState) → IsPlain f → AgreeAll k r →
    points (instruction_acts widths) (reused_from k f) (with_held r s) ≡ points (instruction_acts widths) f s
reused_points widths k Empty r s plain h = refl
reused_points widths k (Then leaf rest) r s (here, plain) h =
    let again = comes_again leaf (has_move rest) in
    let k' = (written_leaf k leaf again).known in
    points_turned k' (instruction_acts widths leaf s) (instruction_acts widths (written_leaf k leaf again).leaf (with_held r s))
    (λ t. points (instruction_acts widths) rest t) (λ t. points (instruction_acts widths) (reused_from k' rest) t)
    (act_turned widths k leaf again r s here h) (λ t q agree. reused_points widths k' rest q t plain agree)
reused_points widths k (Group inner rest) r s (within, plain) h =
    ap₂ ◌++◌ (reused_points widths k inner r s within h)
    (points_turned k (restored_meaning s.place (meaning (instruction_acts widths) inner s)) (restored_meaning (with_held r s).place (meaning (instruction_acts widths) (reused_from k inner) (with_held r s)))
    (λ t. points (instruction_acts widths) rest t) (λ t. points (instruction_acts widths) (reused_from k rest) t)
    (restored_turned k r s.place (meaning (instruction_acts widths) inner s) (meaning (instruction_acts widths) (reused_from k inner) (with_held r s)) (reused_follows widths k inner r s within h) h)
    (λ t q agree. reused_points widths k rest q t plain agree))
