-- What the written body does not contain: an amount that a register holds, a plain movement that comes again, a hollow group.
use Rattle.std.proofs.Common.{◌≡◌, ℤ, ℕ, max, ◌+◌, Option, Some, None, Bool, true, false, ◌||◌, ◌&&◌, refl, sym, ◌∙◌, ap, ap₂, subst}
use Rattle.std.proofs.lemmas.Bool.Decides.{Decides-int_eq}
use Rattle.dvi_ops.specs.Instruction.{Axis, Across, Downward, MoveRegister, First, Second, Movement, By, Set, Again, BodyLeaf, Move, Do}
use Rattle.dvi_ops.specs.Forest.{Forest, Empty, Then, Group, nests}
use Rattle.dvi_ops.specs.Plain.{NamesNoRegister}
use Rattle.move_core.specs.Registers.{RegisterPair, KnownRegisters, WrittenOp, written_leaf, other_register, set_in, choice, is_amount}
use Rattle.move_core.specs.Reused.{movement_along, plain_amount, has_move, comes_again, reused_from}
use Rattle.move_core.specs.SamePage.{is_hollow, HasNoHollow, StoredValues, stored_after, NamesNoStored, UsesStored, then_meaning, goes_later}
use Rattle.move_core.specs.SamePage.{GoesNoLater, SetsBeforeUse}
use Rattle.move_core.proofs.Meanings.{IsPlain}

-- The known values of a direction are the values that its registers were set to.
abbrev pub stored_of : RegisterPair → StoredValues
stored_of k = record { first = k.first; second = k.second }

abbrev pub known_in : Axis → KnownRegisters → RegisterPair
known_in Across k = k.across
known_in Downward k = k.down

choice_keeps : (first second again : Bool) (k : RegisterPair) (n : ℤ) →
    stored_of (choice first second again k n).held ≡ stored_after (stored_of k) (Some (choice first second again k n).step)
choice_keeps true second again k n = refl
choice_keeps false true again k n = refl
choice_keeps false false true k n = by_register (other_register k.last)
  where
    by_register : (register : MoveRegister) → stored_of (set_in register k n).held ≡ stored_after (stored_of k) (Some (set_in register k n).step)
    by_register First = refl
    by_register Second = refl
choice_keeps false false false k n = refl

choice_uses : (first second again : Bool) (k : RegisterPair) (n : ℤ) → is_amount k.first n ≡ first → is_amount k.second n ≡ second →
    NamesNoStored (stored_of k) (Some (choice first second again k n).step)
choice_uses true second again k n a b = tt
choice_uses false true again k n a b = tt
choice_uses false false true k n a b = by_register (other_register k.last)
  where
    by_register : (register : MoveRegister) → NamesNoStored (stored_of k) (Some (set_in register k n).step)
    by_register First = (a, b)
    by_register Second = (a, b)
choice_uses false false false k n a b = (a, b)

known_amount : (known : Option ℤ) (n : ℤ) → is_amount known n ≡ true → known ≡ Some n
known_amount None n e = cc
known_amount (Some m) n e = ap (λ (z : ℤ). Some z) ((Decides-int_eq m n).0 e)

choice_goes : (first second again : Bool) (k : RegisterPair) (n : ℤ) → is_amount k.first n ≡ first → is_amount k.second n ≡ second →
    then_meaning (stored_of k) (Some (choice first second again k n).step) ≡ Some n
choice_goes true second again k n a b = known_amount k.first n a
choice_goes false true again k n a b = known_amount k.second n b
choice_goes false false true k n a b = by_register (other_register k.last)
  where
    by_register : (register : MoveRegister) → then_meaning (stored_of k) (Some (set_in register k n).step) ≡ Some n
    by_register First = refl
    by_register Second = refl
choice_goes false false false k n a b = refl

-- The amount of a plain movement does not come again.
IsLast : (ℤ → Bool) → Option Movement → Type 0
IsLast later (Some (By n)) = later n ≡ false
IsLast later step = Unit {0}

choice_last : (first second again : Bool) (k : RegisterPair) (n : ℤ) (later : ℤ → Bool) → later n ≡ again →
    IsLast later (Some (choice first second again k n).step)
unfolding IsLast
choice_last true second again k n later e = tt
choice_last false true again k n later e = tt
choice_last false false true k n later e = by_register (other_register k.last)
  where
    by_register : (register : MoveRegister) → IsLast later (Some (set_in register k n).step)
    by_register First = tt
    by_register Second = tt
choice_last false false false k n later e = e

-- What is written for an instruction, seen in one direction.
record Fits (axis : Axis) (k : KnownRegisters) (leaf : BodyLeaf) (later : Axis → ℤ → Bool) (out : WrittenOp) : Type 0 where
  pub keeps : stored_of (known_in axis out.known) ≡ stored_after (stored_of (known_in axis k)) (movement_along axis out.leaf)
  pub uses : NamesNoStored (stored_of (known_in axis k)) (movement_along axis out.leaf)
  pub far : then_meaning (stored_of (known_in axis k)) (movement_along axis out.leaf) ≡ plain_amount (movement_along axis leaf)
  pub last : IsLast (later axis) (movement_along axis out.leaf)

fits : (axis : Axis) (k : KnownRegisters) (leaf : BodyLeaf) (later : Axis → ℤ → Bool) → NamesNoRegister (Do leaf) →
    Fits axis k leaf later (written_leaf k leaf (comes_again leaf later))
unfolding IsLast
fits Across k (Move Across (By n)) later plain =
    let a = is_amount k.across.first n in let b = is_amount k.across.second n in let again = later Across n in
    record {
      keeps = choice_keeps a b again k.across n;
      uses = choice_uses a b again k.across n refl refl;
      far = choice_goes a b again k.across n refl refl;
      last = choice_last a b again k.across n (later Across) refl;
    }
fits Across k (Move Across (Set register n)) later plain = absurd plain
fits Across k (Move Across (Again register)) later plain = absurd plain
fits Across k (Move Downward (By n)) later plain = record { keeps = refl; uses = tt; far = refl; last = tt }
fits Across k (Move Downward (Set register n)) later plain = absurd plain
fits Across k (Move Downward (Again register)) later plain = absurd plain
fits Across k leaf later plain = record { keeps = refl; uses = tt; far = refl; last = tt }
fits Downward k (Move Downward (By n)) later plain =
    let a = is_amount k.down.first n in let b = is_amount k.down.second n in let again = later Downward n in
    record {
      keeps = choice_keeps a b again k.down n;
      uses = choice_uses a b again k.down n refl refl;
      far = choice_goes a b again k.down n refl refl;
      last = choice_last a b again k.down n (later Downward) refl;
    }
fits Downward k (Move Downward (Set register n)) later plain = absurd plain
fits Downward k (Move Downward (Again register)) later plain = absurd plain
fits Downward k (Move Across (By n)) later plain = record { keeps = refl; uses = tt; far = refl; last = tt }
fits Downward k (Move Across (Set register n)) later plain = absurd plain
fits Downward k (Move Across (Again register)) later plain = absurd plain
fits Downward k leaf later plain = record { keeps = refl; uses = tt; far = refl; last = tt }

-- A movement by that distance comes later in the written body exactly where it does in the given one.
later_same : (axis : Axis) (k : KnownRegisters) (f : Forest) (n : ℤ) → IsPlain f →
    goes_later axis (stored_of (known_in axis k)) n (reused_from k f) ≡ has_move f axis n
later_same axis k Empty n plain = refl
later_same axis k (Then leaf rest) n (here, plain) =
    let out = written_leaf k leaf (comes_again leaf (has_move rest)) in
    let fit = fits axis k leaf (has_move rest) here in
    ap₂ (λ (far : Option ℤ) (later : Bool). is_amount far n || later) fit.far
    (ap (λ (s : StoredValues). goes_later axis s n (reused_from out.known rest)) (sym fit.keeps) ∙ later_same axis out.known rest n plain)
later_same axis k (Group inner rest) n (within, plain) = later_same axis k rest n plain

-- No operand is an amount that was set and is still held.
pub uses_stored : (axis : Axis) (k : KnownRegisters) (f : Forest) → IsPlain f → UsesStored axis (stored_of (known_in axis k)) (reused_from k f)
uses_stored axis k Empty plain = tt
uses_stored axis k (Then leaf rest) (here, plain) =
    let out = written_leaf k leaf (comes_again leaf (has_move rest)) in
    let fit = fits axis k leaf (has_move rest) here in
    (fit.uses, subst (λ (s : StoredValues). UsesStored axis s (reused_from out.known rest)) fit.keeps (uses_stored axis out.known rest plain))
uses_stored axis k (Group inner rest) (within, plain) = (uses_stored axis k inner within, uses_stored axis k rest plain)

no_later : (axis : Axis) (s : StoredValues) (step : Option Movement) (later : ℤ → Bool) (rest : Forest) → IsLast later step →
    ((n : ℤ) → goes_later axis s n rest ≡ later n) → GoesNoLater axis s step rest
unfolding IsLast
no_later axis s None later rest last same = tt
no_later axis s (Some (By n)) later rest last same = same n ∙ last
no_later axis s (Some (Set register n)) later rest last same = tt
no_later axis s (Some (Again register)) later rest last same = tt

no_later_from : (axis : Axis) (s : StoredValues) (step : Option Movement) (rest : Forest) → GoesNoLater axis (stored_after s step) step rest → GoesNoLater axis s step rest
no_later_from axis s None rest h = tt
no_later_from axis s (Some (By n)) rest h = h
no_later_from axis s (Some (Set register n)) rest h = tt
no_later_from axis s (Some (Again register)) rest h = tt

-- No plain movement has an amount that comes again.
pub sets_before : (axis : Axis) (k : KnownRegisters) (f : Forest) → IsPlain f → SetsBeforeUse axis (stored_of (known_in axis k)) (reused_from k f)
sets_before axis k Empty plain = tt
sets_before axis k (Then leaf rest) (here, plain) =
    let out = written_leaf k leaf (comes_again leaf (has_move rest)) in
    let fit = fits axis k leaf (has_move rest) here in
    let after = reused_from out.known rest in (
      no_later_from axis (stored_of (known_in axis k)) (movement_along axis out.leaf) after
          (subst (λ (s : StoredValues). GoesNoLater axis s (movement_along axis out.leaf) after) fit.keeps
          (no_later axis (stored_of (known_in axis out.known)) (movement_along axis out.leaf) (has_move rest axis) after fit.last (λ n. later_same axis out.known rest n plain))),
      subst (λ (s : StoredValues). SetsBeforeUse axis s after) fit.keeps (sets_before axis out.known rest plain),
    )
sets_before axis k (Group inner rest) (within, plain) = (sets_before axis k inner within, sets_before axis k rest plain)

hollow_same : (k : KnownRegisters) (f : Forest) → is_hollow (reused_from k f) ≡ is_hollow f
hollow_same k Empty = refl
hollow_same k (Then leaf rest) = refl
hollow_same k (Group inner rest) = ap₂ ◌&&◌ (hollow_same k inner) (hollow_same k rest)

-- The written body has no hollow group, where the given one has none.
pub no_hollow-reused : (k : KnownRegisters) (f : Forest) → HasNoHollow f → HasNoHollow (reused_from k f)
no_hollow-reused k Empty h = tt
no_hollow-reused k (Then leaf rest) h = no_hollow-reused (written_leaf k leaf (comes_again leaf (has_move rest))).known rest h
no_hollow-reused k (Group inner rest) (full, within, h) = (hollow_same k inner ∙ full, no_hollow-reused k inner within, no_hollow-reused k rest h)

-- The written body nests as deep as the given one.
pub nests-reused : (k : KnownRegisters) (f : Forest) → nests (reused_from k f) ≡ nests f
nests-reused k Empty = refl
nests-reused k (Then leaf rest) = nests-reused (written_leaf k leaf (comes_again leaf (has_move rest))).known rest
nests-reused k (Group inner rest) = ap₂ (λ (a b : ℕ). max (a + 1) b) (nests-reused k inner) (nests-reused k rest)
