-- The results of the passes over a list of instructions (own; the clause `reused` of `reuse` connects them with `reused_body`).
use Rattle.std.specs.Prelude.{◌≡◌, ◌+◌, ◌++◌, [], ◌∷◌, List, length, map, reverse, take, drop, if◌then◌else◌, ℕ, ℤ, zero, suc, Bool, true, false}
use Rattle.std.specs.Prelude.{Option, Some, None, ◌||◌}
use Rattle.std.specs.List.{list_any}
use Rattle.std.specs.Ordering.{int_cmp, int_eq}
use Rattle.std.specs.BTreeSet.{contains}
use Rattle.dvi_ops.specs.Instruction.{Axis, Across, Downward, Movement, By, Set, Again, BodyLeaf, Move, Instruction, Do, Push, Pop}
use Rattle.dvi_ops.specs.Instruction as instructions
use Rattle.dvi_ops.specs.View.{body_view}
use Rattle.dvi_ops.specs.declared.body_op.BodyOp.{BodyOp}
use Rattle.move_core.specs.declared.registers.MoveRegister.{MoveRegister}
use Rattle.move_core.specs.declared.registers.MoveRegister.TheVariants as registers
use Rattle.move_core.specs.declared.registers.Movement.{Movement as WrittenStep}
use Rattle.move_core.specs.declared.registers.Movement.TheVariants as steps
use Rattle.move_core.specs.declared.registers.RegisterPair.{RegisterPair as HeldNow}
use Rattle.move_core.specs.declared.registers.KnownRegisters.{KnownRegisters as KnownNow}
use Rattle.move_core.specs.declared.amount_set.AmountSet.{AmountSet}
use Rattle.move_core.specs.declared.later.Amounts.{Amounts}
use Rattle.move_core.specs.declared.later.Later.{Later}
use Rattle.move_core.specs.declared.passes.RegisterPass.{RegisterPass}
use Rattle.move_core.specs.Registers.{RegisterPair, KnownRegisters, nothing_known, is_amount, written_leaf}
use Rattle.move_core.specs.Reused.{movement_along, plain_amount, comes_again}

-- The values of the code as values of the definitions.
abbrev pub register_view : MoveRegister → instructions.MoveRegister
register_view registers.First = instructions.First
register_view registers.Second = instructions.Second

abbrev pub step_view : WrittenStep → Movement
step_view (steps.By n) = By n
step_view (steps.Set register n) = Set (register_view register) n
step_view (steps.Again register) = Again (register_view register)

abbrev pub held_view : HeldNow → RegisterPair
held_view k = record { first = k.first; second = k.second; last = register_view k.last }

abbrev pub known_view : KnownNow → KnownRegisters
known_view k = record { across = held_view k.across; down = held_view k.down }

-- The number of open groups after an instruction of a body; None where it pops without an open group, uses a register, or is in no body.
abbrev pub depth_after : (depth : ℕ) → Instruction → Option ℕ
depth_after depth Push = Some (suc depth)
depth_after zero Pop = None
depth_after (suc depth) Pop = Some depth
depth_after depth (Do (Move axis (Set register n))) = None
depth_after depth (Do (Move axis (Again register))) = None
depth_after depth (Do leaf) = Some depth
depth_after depth i = None

-- Whether instructions may be in a body and close all groups, including those that are open before them.
abbrev pub closes_all : List Instruction → (depth : Option ℕ) → Bool
closes_all [] (Some zero) = true
closes_all [] depth = false
closes_all (i ∷ rest) None = false
closes_all (i ∷ rest) (Some depth) = closes_all rest (depth_after depth i)

-- What is left when each push with a pop directly after it is removed, repeatedly. `out` has what was kept so far, the last first.
abbrev pub trimmed_instructions : List Instruction → (out : List Instruction) → List Instruction
trimmed_instructions [] out = reverse out
trimmed_instructions (Pop ∷ rest) (Push ∷ out) = trimmed_instructions rest out
trimmed_instructions (i ∷ rest) out = trimmed_instructions rest (i ∷ out)

-- Whether an instruction is a push; and whether it ends an empty group, where `pushed` is whether the instruction before it is a push.
abbrev pub is_push : Instruction → Bool
is_push Push = true
is_push i = false

abbrev pub ends_empty_group : (pushed : Bool) → Instruction → Bool
ends_empty_group true Pop = true
ends_empty_group pushed i = false

-- Whether some pop comes directly after a push, where `pushed` is whether the instruction before the list is a push.
abbrev pub has_empty_group : (pushed : Bool) → List Instruction → Bool
has_empty_group pushed [] = false
has_empty_group pushed (i ∷ rest) = ends_empty_group pushed i || has_empty_group (is_push i) rest

-- Whether a plain movement by that amount comes in the group that is open after that many more pops, before this group ends, and not in an inner
-- group.
abbrev pub amount_comes : List Instruction → (pops : ℕ) → Axis → ℤ → Bool
amount_comes [] pops axis n = false
amount_comes (Push ∷ rest) pops axis n = amount_comes rest (suc pops) axis n
amount_comes (Pop ∷ rest) zero axis n = false
amount_comes (Pop ∷ rest) (suc pops) axis n = amount_comes rest pops axis n
amount_comes (Do leaf ∷ rest) zero axis n = is_amount (plain_amount (movement_along axis leaf)) n || amount_comes rest zero axis n
amount_comes (Do leaf ∷ rest) (suc pops) axis n = amount_comes rest (suc pops) axis n
amount_comes (i ∷ rest) pops axis n = amount_comes rest pops axis n

-- Whether an instruction is a plain movement whose amount comes again.
abbrev pub again_in : Instruction → (rest : List Instruction) → Bool
again_in (Do leaf) rest = comes_again leaf (amount_comes rest 0)
again_in i rest = false

-- Whether an instruction is a plain movement.
abbrev pub is_move : Instruction → Bool
is_move (Do (Move axis (By n))) = true
is_move i = false

-- For each plain movement, whether its amount comes again.
abbrev pub flags_of : List Instruction → List Bool
flags_of [] = []
flags_of (i ∷ rest) = if is_move i then again_in i rest ∷ flags_of rest else flags_of rest

-- The known register values, and those before each open group, the innermost first.
pub record Groups : Type 0 where
  pub known : KnownRegisters
  pub outer : List KnownRegisters

-- Outside of all groups, with nothing known.
abbrev pub outside_groups : Groups
outside_groups = record { known = nothing_known; outer = [] }

-- After the innermost open group; nothing is known where none is open.
abbrev pub groups_left : (outer : List KnownRegisters) → Groups
groups_left [] = outside_groups
groups_left (known ∷ outer) = record { known = known; outer = outer }

-- A push saves what is known, and a pop restores it.
abbrev pub groups_entered : Instruction → Groups → Groups
groups_entered Push g = record { known = g.known; outer = g.known ∷ g.outer }
groups_entered Pop g = groups_left g.outer
groups_entered i g = g

-- An instruction as it is written.
abbrev pub op_written : KnownRegisters → Instruction → (again : Bool) → Instruction
op_written k (Do leaf) again = Do (written_leaf k leaf again).leaf
op_written k i again = i

-- The known values after an instruction.
abbrev pub amounts_after : KnownRegisters → Instruction → (again : Bool) → KnownRegisters
amounts_after k (Do leaf) again = (written_leaf k leaf again).known
amounts_after k i again = k

-- Instructions written with registers.
abbrev pub rewritten_instructions : List Instruction → Groups → List Instruction
rewritten_instructions [] g = []
rewritten_instructions (i ∷ rest) g =
    op_written (groups_entered i g).known i (again_in i rest)
    ∷ rewritten_instructions rest (record
    { known = amounts_after (groups_entered i g).known i (again_in i rest); outer = (groups_entered i g).outer })

-- Whether a set of amounts contains this one.
unfoldable pub has_amount : AmountSet → ℤ → Bool
has_amount s n = list_any (λ (m : ℤ). int_eq m n) (take s.count s.first) || contains int_cmp s.others n

-- Whether the set for a direction contains an amount.
abbrev pub contains_amount : Amounts → Axis → ℤ → Bool
contains_amount amounts Across n = has_amount amounts.across n
contains_amount amounts Downward n = has_amount amounts.down n

-- Whether the amounts of the group that is open after that many more pops contain this one.
abbrev pub held_at : List Amounts → (pops : ℕ) → Axis → ℤ → Bool
held_at [] pops axis n = false
held_at (amounts ∷ outer) zero axis n = contains_amount amounts axis n
held_at (amounts ∷ outer) (suc pops) axis n = held_at outer pops axis n

-- The collected amounts are those that come in these instructions.
abbrev pub Knows : Later → (rest : List Instruction) → Type 0
Knows m rest = (pops : ℕ) → (axis : Axis) → (n : ℤ) → held_at (m.here ∷ reverse m.outer.items) pops axis n ≡ amount_comes rest pops axis n

-- The known values in a pass.
abbrev pub known_groups : RegisterPass → Groups
known_groups p = record { known = known_view p.known; outer = reverse (map known_view p.outer.items) }

-- The instructions before instruction i, and what a pass will write from there on.
abbrev pub pass_output : RegisterPass → List BodyOp → ℕ → List Instruction
pass_output p ops i = map body_view (take i ops) ++ rewritten_instructions (map body_view (drop i ops)) (known_groups p)

-- The remaining flags of a pass are those of the movements from instruction i on.
abbrev pub HasFlags : RegisterPass → List BodyOp → ℕ → Type 0
HasFlags p ops i = reverse p.flags.items ≡ flags_of (map body_view (drop i ops))

-- A pass makes the same in total after it has processed instruction i.
abbrev pub RewritesOp : RegisterPass → List BodyOp → ℕ → RegisterPass → List BodyOp → Type 0
RewritesOp before ops i after written_leaf =
    (length written_leaf ≡ length ops) × (HasFlags before ops i
    → HasFlags after written_leaf (i + 1) × (pass_output after written_leaf (i + 1) ≡ pass_output before ops i))
