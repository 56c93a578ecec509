-- What the result of `reuse` has in common with the given body, and what it does not contain (own, over the meaning of DVI instructions: DVItype, 14
-- and 15).
use Rattle.std.specs.Prelude.{◌≡◌, ◌≤◌, [], ◌∷◌, List, Option, Some, None, Bool, true, false, ◌&&◌, ◌||◌, ℤ, Contains}
use Rattle.std.specs.List.{flat_map, AllByRecursion}
use Rattle.dvi_ops.specs.Instruction.{Axis, First, Second, Movement, By, Set, Again, BodyLeaf, Move, Instruction, Do}
use Rattle.dvi_ops.specs.Body.{DviState, Widths, Meaning, instruction_acts}
use Rattle.scaled_core.specs.Mark.{Mark}
use Rattle.dvi_ops.specs.Forest.{Forest, Empty, Then, Group, flat, meaning, nests, points}
use Rattle.dvi_ops.specs.Plain.{NamesNoRegister}
use Rattle.move_core.specs.Registers.{is_amount}
use Rattle.move_core.specs.Reused.{movement_along}

-- Instructions are the body of a page, and none sets or reads w, x, y or z.
abbrev pub IsPlainBody : List Instruction → Type 0
IsPlainBody is = (body : Forest) × (is ≡ flat body) × AllByRecursion NamesNoRegister is

-- Where the given instructions are a body, the returned ones are a body too, and the two bodies are related.
abbrev pub AreBodies : (Forest → Forest → Type 0) → (given answered : List Instruction) → Type 0
AreBodies Related given answered = (f : Forest) → given ≡ flat f → (g : Forest) × (answered ≡ flat g) × Related f g

-- What a page shows, and where it ends: all of a meaning except w, x, y and z at the end.
pub record ShownPage : Type 0 where
  pub marks : List Mark
  pub h : ℤ
  pub v : ℤ
  pub font : Option ℤ

-- What a meaning shows; None where there is no meaning.
abbrev pub shown_meaning : Meaning → Option ShownPage
shown_meaning None = None
shown_meaning (Some (marks, s)) = Some (record { marks = marks; h = s.place.h; v = s.place.v; font = s.font })

-- From every h, v, w, x, y, z and font: the same marks, and the same h, v and font at the end; and no meaning where there was none.
abbrev pub MeansTheSame : (given answered : Forest) → Type 0
MeansTheSame f g = (widths : Widths) (s : DviState)
    → shown_meaning (meaning (instruction_acts widths) g s) ≡ shown_meaning (meaning (instruction_acts widths) f s)

-- From every state, each place (h, v) after an instruction or a group of the result is such a place of the given body.
abbrev pub PassesThroughNoOther : (given answered : Forest) → Type 0
PassesThroughNoOther f g =
    (widths : Widths) (s : DviState) (p : ℤ × ℤ) → Contains (points (instruction_acts widths) g s) p
    → Contains (points (instruction_acts widths) f s) p

-- No more pushes are open at once than before.
abbrev pub NestsNoDeeper : (given answered : Forest) → Type 0
NestsNoDeeper f g = nests g ≤ nests f

-- Whether a body is hollow: it is empty or consists of hollow groups alone.
abbrev pub is_hollow : Forest → Bool
is_hollow Empty = true
is_hollow (Then leaf rest) = false
is_hollow (Group inner rest) = is_hollow inner && is_hollow rest

-- No group of a body is hollow.
abbrev pub HasNoHollow : Forest → Type 0
HasNoHollow Empty = Unit {0}
HasNoHollow (Then leaf rest) = HasNoHollow rest
HasNoHollow (Group inner rest) = (is_hollow inner ≡ false) × HasNoHollow inner × HasNoHollow rest

-- The values that w and x, or y and z, were set to by w1..4 and x1..4, or y1..4 and z1..4.
pub record StoredValues : Type 0 where
  pub first : Option ℤ
  pub second : Option ℤ

-- Neither register was set.
abbrev pub unset_registers : StoredValues
unset_registers = record { first = None; second = None }

-- The values after an instruction with this movement in their direction, or with none.
abbrev pub stored_after : StoredValues → Option Movement → StoredValues
stored_after k (Some (Set First n)) = record k { first = Some n }
stored_after k (Some (Set Second n)) = record k { second = Some n }
stored_after k step = k

-- Neither register holds the amount.
abbrev pub IsNotStored : StoredValues → ℤ → Type 0
IsNotStored k n = (is_amount k.first n ≡ false) × (is_amount k.second n ≡ false)

-- The operand of a movement is no amount that was set and is still held.
abbrev pub NamesNoStored : StoredValues → Option Movement → Type 0
NamesNoStored k (Some (By n)) = IsNotStored k n
NamesNoStored k (Some (Set register n)) = IsNotStored k n
NamesNoStored k step = Unit {0}

-- No right, w1..4 or x1..4 (down, y1..4 or z1..4) has an amount that w or x (y or z) was set to and still holds. A pop restores what was held at the
-- push.
abbrev pub UsesStored : Axis → StoredValues → Forest → Type 0
UsesStored axis k Empty = Unit {0}
UsesStored axis k (Then leaf rest) = NamesNoStored k (movement_along axis leaf) × UsesStored axis (stored_after k (movement_along axis leaf)) rest
UsesStored axis k (Group inner rest) = UsesStored axis k inner × UsesStored axis k rest

-- The distance of a movement, where it is known from the values that were set.
abbrev pub then_meaning : StoredValues → Option Movement → Option ℤ
then_meaning k (Some (By n)) = Some n
then_meaning k (Some (Set register n)) = Some n
then_meaning k (Some (Again First)) = k.first
then_meaning k (Some (Again Second)) = k.second
then_meaning k None = None

-- Whether a movement in that direction has that distance, in a body outside of its groups.
abbrev pub goes_later : Axis → StoredValues → ℤ → Forest → Bool
goes_later axis k n Empty = false
goes_later axis k n (Then leaf rest) = is_amount (then_meaning k (movement_along axis leaf)) n || goes_later axis
    (stored_after k (movement_along axis leaf)) n rest
goes_later axis k n (Group inner rest) = goes_later axis k n rest

-- A right (a down) does not have the distance of a later horizontal (vertical) movement of the same group.
abbrev pub GoesNoLater : Axis → StoredValues → Option Movement → (rest : Forest) → Type 0
GoesNoLater axis k (Some (By n)) rest = goes_later axis k n rest ≡ false
GoesNoLater axis k step rest = Unit {0}

-- No right (down) of a body has the distance of a later horizontal (vertical) movement of the same group.
abbrev pub SetsBeforeUse : Axis → StoredValues → Forest → Type 0
SetsBeforeUse axis k Empty = Unit {0}
SetsBeforeUse axis k (Then leaf rest) = GoesNoLater axis k (movement_along axis leaf) rest
    × SetsBeforeUse axis (stored_after k (movement_along axis leaf)) rest
SetsBeforeUse axis k (Group inner rest) = SetsBeforeUse axis k inner × SetsBeforeUse axis k rest

-- An instruction other than a movement, a push or a pop, as a list of one or none.
abbrev pub still_of : Instruction → List BodyLeaf
still_of (Do (Move axis step)) = []
still_of (Do leaf) = leaf ∷ []
still_of i = []

-- The characters, rules, selections and definitions of fonts, specials and nops among instructions, in order.
abbrev pub leaves_in_order : List Instruction → List BodyLeaf
leaves_in_order is = flat_map still_of is
