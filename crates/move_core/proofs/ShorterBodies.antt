-- The written body is no longer, can be written where the given one can, and keeps the other instructions in order.
use Rattle.std.proofs.Common.{◌≡◌, ◌≤◌, ◌+◌, ◌++◌, ◌∷◌, List, length, ℕ, ℤ, Bool, true, false, refl, sym, ◌∙◌, ap, ap₂, arith, length-append}
use Rattle.std.specs.List.{AllByRecursion}
use Rattle.std.proofs.lemmas.Grind.{flat_map-append}
use Rattle.dvi_ops.specs.Instruction.{Axis, Across, Downward, MoveRegister, First, Second, By, BodyLeaf, Move, Instruction, Do, Push, Pop}
use Rattle.dvi_ops.specs.Spelling.{spelling, leaf_spelling}
use Rattle.dvi_ops.specs.Layout.{bytes_of, IsWritable}
use Rattle.dvi_ops.specs.Forest.{Forest, Empty, Then, Group, flat}
use Rattle.scaled_core.proofs.EachOf.{all_append, all_front, all_back}
use Rattle.move_core.specs.Registers.{RegisterPair, KnownRegisters, written_leaf, other_register, set_in, choice, is_amount}
use Rattle.move_core.specs.Reused.{has_move, comes_again, reused_from, grouped_body, pruned_body}
use Rattle.move_core.specs.SamePage.{still_of, leaves_in_order}

step_shorter : (axis : Axis) (first second again : Bool) (k : RegisterPair) (n : ℤ) →
    length (spelling (Do (Move axis (choice first second again k n).step))) ≤ length (spelling (Do (Move axis (By n))))
unfolding spelling leaf_spelling
step_shorter axis true second again k n = omega arith
step_shorter axis false true again k n = omega arith
step_shorter axis false false true k n = by_register (other_register k.last)
  where
    by_register : (register : MoveRegister) → length (spelling (Do (Move axis (set_in register k n).step))) ≤ length (spelling (Do (Move axis (By n))))
    by_register First = omega arith
    by_register Second = omega arith
step_shorter axis false false false k n = omega arith

leaf_shorter : (k : KnownRegisters) (leaf : BodyLeaf) (again : Bool) → length (spelling (Do (written_leaf k leaf again).leaf)) ≤ length (spelling (Do leaf))
leaf_shorter k (Move Across (By n)) again = step_shorter Across (is_amount k.across.first n) (is_amount k.across.second n) again k.across n
leaf_shorter k (Move Downward (By n)) again = step_shorter Downward (is_amount k.down.first n) (is_amount k.down.second n) again k.down n
leaf_shorter k leaf again = omega arith

-- The number of bytes of a group.
group_length : (inner rest : Forest) → length (bytes_of (flat (Group inner rest)))
    ≡ length (spelling Push) + (length (bytes_of (flat inner)) + (length (spelling Pop) + length (bytes_of (flat rest))))
group_length inner rest =
    length-append (spelling Push) (bytes_of (flat inner ++ Pop ∷ flat rest))
    ∙ ap (λ (n : ℕ). length (spelling Push) + n)
    (ap length (flat_map-append spelling (flat inner) (Pop ∷ flat rest))
    ∙ (length-append (bytes_of (flat inner)) (bytes_of (Pop ∷ flat rest))
    ∙ ap (λ (n : ℕ). length (bytes_of (flat inner)) + n) (length-append (spelling Pop) (bytes_of (flat rest)))))

-- The written body is no longer.
pub reused_shorter : (k : KnownRegisters) (f : Forest) → length (bytes_of (flat (reused_from k f))) ≤ length (bytes_of (flat f))
reused_shorter k Empty = omega arith
reused_shorter k (Then leaf rest) =
    let out = written_leaf k leaf (comes_again leaf (has_move rest)) in
    let a = length-append (spelling (Do out.leaf)) (bytes_of (flat (reused_from out.known rest))) in
    let b = length-append (spelling (Do leaf)) (bytes_of (flat rest)) in
    omega (arith, a, b, leaf_shorter k leaf (comes_again leaf (has_move rest)), reused_shorter out.known rest)
reused_shorter k (Group inner rest) =
    omega (arith, group_length (reused_from k inner) (reused_from k rest), group_length inner rest, reused_shorter k inner, reused_shorter k rest)

grouped_shorter : (inner rest : Forest) → length (bytes_of (flat (grouped_body inner rest))) ≤ length (bytes_of (flat (Group inner rest)))
grouped_shorter Empty rest = omega (arith, group_length Empty rest)
grouped_shorter (Then leaf inner) rest = omega arith
grouped_shorter (Group first inner) rest = omega arith

pub pruned_shorter : (f : Forest) → length (bytes_of (flat (pruned_body f))) ≤ length (bytes_of (flat f))
pruned_shorter Empty = omega arith
pruned_shorter (Then leaf rest) =
    omega (arith, length-append (spelling (Do leaf)) (bytes_of (flat (pruned_body rest))), length-append (spelling (Do leaf)) (bytes_of (flat rest)), pruned_shorter rest)
pruned_shorter (Group inner rest) =
    omega (arith, grouped_shorter (pruned_body inner) (pruned_body rest), group_length (pruned_body inner) (pruned_body rest), group_length inner rest, pruned_shorter inner, pruned_shorter rest)

-- The other instructions of a group and of the rest after it.
group_still : (inner rest : Forest) → leaves_in_order (flat (Group inner rest)) ≡ leaves_in_order (flat inner) ++ leaves_in_order (flat rest)
group_still inner rest = flat_map-append still_of (flat inner) (Pop ∷ flat rest)

leaf_still : (k : KnownRegisters) (leaf : BodyLeaf) (again : Bool) → still_of (Do (written_leaf k leaf again).leaf) ≡ still_of (Do leaf)
leaf_still k (Move Across (By n)) again = refl
leaf_still k (Move Downward (By n)) again = refl
leaf_still k leaf again = refl

pub reused_still : (k : KnownRegisters) (f : Forest) → leaves_in_order (flat (reused_from k f)) ≡ leaves_in_order (flat f)
reused_still k Empty = refl
reused_still k (Then leaf rest) =
    let again = comes_again leaf (has_move rest) in ap₂ ◌++◌ (leaf_still k leaf again) (reused_still (written_leaf k leaf again).known rest)
reused_still k (Group inner rest) =
    group_still (reused_from k inner) (reused_from k rest) ∙ (ap₂ ◌++◌ (reused_still k inner) (reused_still k rest) ∙ sym (group_still inner rest))

grouped_still : (inner rest : Forest) → leaves_in_order (flat (grouped_body inner rest)) ≡ leaves_in_order (flat (Group inner rest))
grouped_still Empty rest = refl
grouped_still (Then leaf inner) rest = refl
grouped_still (Group first inner) rest = refl

pub pruned_still : (f : Forest) → leaves_in_order (flat (pruned_body f)) ≡ leaves_in_order (flat f)
pruned_still Empty = refl
pruned_still (Then leaf rest) = ap (λ (is : List BodyLeaf). still_of (Do leaf) ++ is) (pruned_still rest)
pruned_still (Group inner rest) =
    grouped_still (pruned_body inner) (pruned_body rest)
    ∙ (group_still (pruned_body inner) (pruned_body rest) ∙ (ap₂ ◌++◌ (pruned_still inner) (pruned_still rest) ∙ sym (group_still inner rest)))

leaf_writable : (k : KnownRegisters) (leaf : BodyLeaf) (again : Bool) → IsWritable (Do leaf) → IsWritable (Do (written_leaf k leaf again).leaf)
leaf_writable k (Move Across (By n)) again (spelled, fit) = step_writable (is_amount k.across.first n) (is_amount k.across.second n) again k.across
  where
    step_writable : (first second again : Bool) (k : RegisterPair) → IsWritable (Do (Move Across (choice first second again k n).step))
    step_writable true second again k = (tt, tt)
    step_writable false true again k = (tt, tt)
    step_writable false false true k = by_register (other_register k.last)
      where
        by_register : (register : MoveRegister) → IsWritable (Do (Move Across (set_in register k n).step))
        by_register First = (tt, fit)
        by_register Second = (tt, fit)
    step_writable false false false k = (tt, fit)
leaf_writable k (Move Downward (By n)) again (spelled, fit) = step_writable (is_amount k.down.first n) (is_amount k.down.second n) again k.down
  where
    step_writable : (first second again : Bool) (k : RegisterPair) → IsWritable (Do (Move Downward (choice first second again k n).step))
    step_writable true second again k = (tt, tt)
    step_writable false true again k = (tt, tt)
    step_writable false false true k = by_register (other_register k.last)
      where
        by_register : (register : MoveRegister) → IsWritable (Do (Move Downward (set_in register k n).step))
        by_register First = (tt, fit)
        by_register Second = (tt, fit)
    step_writable false false false k = (tt, fit)
leaf_writable k leaf again h = h

-- A property of all instructions of a group, inside it and after it.
group_front : (P : Instruction → Type 0) (inner rest : Forest) → AllByRecursion P (flat (Group inner rest)) → AllByRecursion P (flat inner)
group_front P inner rest (here, all) = all_front P (flat inner) (Pop ∷ flat rest) all

group_back : (P : Instruction → Type 0) (inner rest : Forest) → AllByRecursion P (flat (Group inner rest)) → AllByRecursion P (Pop ∷ flat rest)
group_back P inner rest (here, all) = all_back P (flat inner) (Pop ∷ flat rest) all

pub reused_writable : (k : KnownRegisters) (f : Forest) → AllByRecursion IsWritable (flat f) → AllByRecursion IsWritable (flat (reused_from k f))
reused_writable k Empty all = tt
reused_writable k (Then leaf rest) (here, all) =
    let again = comes_again leaf (has_move rest) in (leaf_writable k leaf again here, reused_writable (written_leaf k leaf again).known rest all)
reused_writable k (Group inner rest) (push, all) =
    let after = group_back IsWritable inner rest (push, all) in
    (push, all_append IsWritable (flat (reused_from k inner)) (Pop ∷ flat (reused_from k rest)) (reused_writable k inner (group_front IsWritable inner rest (push, all))) (after.0, reused_writable k rest after.1))

grouped_writable : (inner rest : Forest) → AllByRecursion IsWritable (flat (Group inner rest)) → AllByRecursion IsWritable (flat (grouped_body inner rest))
grouped_writable Empty rest (push, (pop, all)) = all
grouped_writable (Then leaf inner) rest all = all
grouped_writable (Group first inner) rest all = all

pub pruned_writable : (f : Forest) → AllByRecursion IsWritable (flat f) → AllByRecursion IsWritable (flat (pruned_body f))
pruned_writable Empty all = tt
pruned_writable (Then leaf rest) (here, all) = (here, pruned_writable rest all)
pruned_writable (Group inner rest) (push, all) =
    let after = group_back IsWritable inner rest (push, all) in
    grouped_writable (pruned_body inner) (pruned_body rest)
    (push, all_append IsWritable (flat (pruned_body inner)) (Pop ∷ flat (pruned_body rest)) (pruned_writable inner (group_front IsWritable inner rest (push, all))) (after.0, pruned_writable rest after.1))
