-- What the rule for one movement preserves: its distance, and that the known values are those of the registers.
use Rattle.std.proofs.Common.{◌≡◌, ℤ, Option, Some, None, Bool, true, false, refl}
use Rattle.std.proofs.lemmas.Bool.Decides.{Decides-int_eq}
use Rattle.dvi_ops.specs.Instruction.{MoveRegister, First, Second}
use Rattle.dvi_ops.specs.Body.{Pair, MoveRegisters, movement_amount, held_after}
use Rattle.move_core.specs.Registers.{RegisterPair, KnownRegisters, nothing_known, is_amount, other_register, set_in, choice}

-- A known value is the value of the register.
abbrev pub Holds : Option ℤ → ℤ → Type 0
Holds None x = Unit {0}
Holds (Some n) x = x ≡ n

-- The same for both registers of a direction.
abbrev pub Agree : RegisterPair → Pair → Type 0
Agree k p = Holds k.first p.first × Holds k.second p.second

-- The same for all four registers.
abbrev pub AgreeAll : KnownRegisters → MoveRegisters → Type 0
AgreeAll k r = Agree k.across r.across × Agree k.down r.down

-- Where nothing is known, the known values agree with any registers.
pub nothing_agrees : (r : MoveRegisters) → AgreeAll nothing_known r
nothing_agrees r = ((tt, tt), (tt, tt))

held_amount : (known : Option ℤ) (n x : ℤ) → Holds known x → is_amount known n ≡ true → x ≡ n
held_amount None n x h e = cc
held_amount (Some m) n x h e = let same = (Decides-int_eq m n).0 e in cc

-- The chosen form moves by the amount.
pub goes_as_far : (first second again : Bool) (k : RegisterPair) (n : ℤ) (p : Pair) → is_amount k.first n ≡ first → is_amount k.second n ≡ second →
    Agree k p → movement_amount p (choice first second again k n).step ≡ n
goes_as_far true second again k n p a b h = held_amount k.first n p.first h.0 a
goes_as_far false true again k n p a b h = held_amount k.second n p.second h.1 b
goes_as_far false false true k n p a b h = by_register (other_register k.last)
  where
    by_register : (register : MoveRegister) → movement_amount p (set_in register k n).step ≡ n
    by_register First = refl
    by_register Second = refl
goes_as_far false false false k n p a b h = refl

-- The known values after it agree with the registers after it.
pub knows_on : (first second again : Bool) (k : RegisterPair) (n : ℤ) (p : Pair) → Agree k p →
    Agree (choice first second again k n).held (held_after p (choice first second again k n).step)
knows_on true second again k n p h = h
knows_on false true again k n p h = h
knows_on false false true k n p h = by_register (other_register k.last)
  where
    by_register : (register : MoveRegister) → Agree (set_in register k n).held (held_after p (set_in register k n).step)
    by_register First = (refl, h.1)
    by_register Second = (h.0, refl)
knows_on false false false k n p h = h
