-- The rule by which movements are written with registers (own; the registers and their movements: DVItype, 14 and 15). TeX chooses otherwise, so the
-- bytes of a file differ from TeX's.
use Rattle.std.specs.Prelude.{Option, Some, None, Bool, true, false, ℤ}
use Rattle.std.specs.Ordering.{int_eq}
use Rattle.dvi_ops.specs.Instruction.{Across, Downward, MoveRegister, First, Second, Movement, By, Set, Again, BodyLeaf, Move}

-- The known values of the two registers of a direction, w and x or y and z, and which one was used last.
pub record RegisterPair : Type 0 where
  pub first : Option ℤ
  pub second : Option ℤ
  pub last : MoveRegister

-- The known values of w and x, and of y and z.
pub record KnownRegisters : Type 0 where
  pub across : RegisterPair
  pub down : RegisterPair

-- No value is known, and x or z counts as the register that was used last.
abbrev pub no_known_pair : RegisterPair
no_known_pair = record { first = None; second = None; last = Second }

-- No value of w, x, y or z is known.
abbrev pub nothing_known : KnownRegisters
nothing_known = record { across = no_known_pair; down = no_known_pair }

-- Whether the value is known and is this amount.
abbrev pub is_amount : Option ℤ → ℤ → Bool
is_amount None n = false
is_amount (Some m) n = int_eq m n

-- The form of a movement, and the known values after it.
pub record Choice : Type 0 where
  pub step : Movement
  pub held : RegisterPair

-- The other register of the direction.
abbrev pub other_register : MoveRegister → MoveRegister
other_register First = Second
other_register Second = First

-- The choice to set a register.
abbrev pub set_in : MoveRegister → RegisterPair → ℤ → Choice
set_in First k n = record { step = Set First n; held = record k { first = Some n; last = First } }
set_in Second k n = record { step = Set Second n; held = record k { second = Some n; last = Second } }

-- The form of a movement by an amount: the first register, if it holds the amount; else the second, if it does; else, where the amount comes again,
-- the register that was not used last is set to it; else no register is used.
abbrev pub choice : (in_first in_second again : Bool) → RegisterPair → ℤ → Choice
choice true in_second again k n = record { step = Again First; held = record k { last = First } }
choice false true again k n = record { step = Again Second; held = record k { last = Second } }
choice false false true k n = set_in (other_register k.last) k n
choice false false false k n = record { step = By n; held = k }

-- The same choice, from the known values.
abbrev pub choose : RegisterPair → ℤ → (again : Bool) → Choice
choose k n again = choice (is_amount k.first n) (is_amount k.second n) again k n

-- What is written for an instruction, and the known values after it.
pub record WrittenOp : Type 0 where
  pub leaf : BodyLeaf
  pub known : KnownRegisters

-- A movement to the right or down is written by the known values of its direction. Any other instruction is unchanged.
abbrev pub written_leaf : KnownRegisters → BodyLeaf → (again : Bool) → WrittenOp
written_leaf k (Move Across (By n)) again =
    record { leaf = Move Across (choose k.across n again).step; known = record k { across = (choose k.across n again).held } }
written_leaf k (Move Downward (By n)) again =
    record { leaf = Move Downward (choose k.down n again).step; known = record k { down = (choose k.down n again).held } }
written_leaf k leaf again = record { leaf = leaf; known = k }
