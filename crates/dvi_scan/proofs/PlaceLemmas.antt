-- The instruction at a place, and what is read from the bytes between a place and a bound.
use Rattle.std.proofs.Common.{◌≡◌, ◌≤◌, ◌<◌, ◌+◌, ◌-◌, List, [], ◌∷◌, get_or, length, take, drop, slice_index, ℕ, zero, suc, sym, ◌∙◌, ap, subst, arith}
use Rattle.std.proofs.lemmas.List.{drop_more, get_or-drop, get_or-take, length-take, take-take, take-append-drop, length-drop, length-take-le}
use Rattle.dvi_ops.specs.Instruction.{Instruction}
use Rattle.dvi_ops.specs.Table.{Spells}
use Rattle.dvi_ops.proofs.FrontLaws.{one_reading}
use Rattle.dvi_ops.proofs.Frames.{not_empty}
use Rattle.dvi_scan.specs.Ends.{IsSpelledAt}

-- The bytes from a place up to a bound.
abbrev pub between : List ℕ → (place bound : ℕ) → List ℕ
between bytes place bound = take (bound - place) (drop place bytes)

-- The bytes begin with the byte at the place.
pub first_between : (bytes : List ℕ) (place bound : ℕ) → place < bound → slice_index (between bytes place bound) 0 ≡ slice_index bytes place
first_between bytes place bound below =
    let same : place + 0 ≡ place = omega arith in
    get_or-take (bound - place) (drop place bytes) 0 0 (omega arith) ∙ (get_or-drop place bytes 0 0 ∙ ap (λ (n : ℕ). slice_index bytes n) same)

-- A byte from 250 is before the bound.
some_first : (n : ℕ) (bytes : List ℕ) → 250 ≤ slice_index (take n bytes) 0 → 0 < n
some_first zero bytes code = absurd (omega arith)
some_first (suc n) bytes code = omega arith

pub some_between : (bytes : List ℕ) (place bound : ℕ) → 250 ≤ slice_index (between bytes place bound) 0 → place < bound
some_between bytes place bound code = let some = some_first (bound - place) (drop place bytes) code in omega arith

-- Two spellings at the start of the same bytes are one.
pub same_front : (i j : Instruction) (n m : ℕ) (bytes : List ℕ) → Spells i (take n bytes) → Spells j (take m bytes) → (i ≡ j) × (take n bytes ≡ take m bytes)
same_front i j n m bytes one other =
    one_reading i j (take n bytes) (take m bytes) (drop n bytes) (drop m bytes) one other (take-append-drop n bytes ∙ sym (take-append-drop m bytes))

-- The instruction at a place is spelled at the start of the bytes from there on.
pub spelled_front : (bytes : List ℕ) (place bound : ℕ) (i : Instruction) → IsSpelledAt bytes place bound i → (size : ℕ)
    × Spells i (take size (between bytes place bound))
spelled_front bytes place bound i (size, space, spelled) =
    (size, subst (λ (x : List ℕ). Spells i x) (sym (take-take size (bound - place) (drop place bytes) (omega arith))) spelled)

-- What is spelled at the start of the bytes from a place on is at the place.
pub front_spelled : (bytes : List ℕ) (place bound : ℕ) (i : Instruction) (size : ℕ) → place ≤ bound → bound ≤ length bytes
    → size ≤ length (between bytes place bound)
    → Spells i (take size (between bytes place bound)) → (place + size ≤ bound) × Spells i (take size (drop place bytes))
front_spelled bytes place bound i size low high fits spelled =
    let whole : length (between bytes place bound) ≡ bound - place = length-take-le (bound - place) (drop place bytes) (omega (arith, length-drop place bytes)) in
    (omega arith, subst (λ (x : List ℕ). Spells i x) (take-take size (bound - place) (drop place bytes) (omega arith)) spelled)

-- One instruction of one size is at a place.
pub one_spelled_at : (bytes : List ℕ) (place bound bound' : ℕ) (i j : Instruction) → IsSpelledAt bytes place bound i
    → IsSpelledAt bytes place bound' j → i ≡ j
one_spelled_at bytes place bound bound' i j (n, space, one) (m, space', other) = (same_front i j n m (drop place bytes) one other).0

-- No instruction is there where none is read.
pub nothing_spelled : (bytes : List ℕ) (place bound : ℕ) → ((i : Instruction) (size : ℕ) → Spells i (take size (between bytes place bound)) → ⊥)
    → (i : Instruction) → IsSpelledAt bytes place bound i → ⊥
nothing_spelled bytes place bound none i spelled_at = let front = spelled_front bytes place bound i spelled_at in none i front.0 front.1

-- Only the instruction that was read is there.
pub read_spelled : (bytes : List ℕ) (place bound : ℕ) (i j : Instruction) (size : ℕ) → Spells i (take size (between bytes place bound))
    → IsSpelledAt bytes place bound j → i ≡ j
read_spelled bytes place bound i j size read spelled_at = let front = spelled_front bytes place bound j spelled_at in
    (same_front i j size front.0 (between bytes place bound) read front.1).0

-- What was read is not empty.
pub some_size : (i : Instruction) (size : ℕ) (bytes : List ℕ) → Spells i (take size bytes) → 0 < size
some_size i zero bytes spelled = absurd (not_empty i spelled)
some_size i (suc size) bytes spelled = omega arith

-- Only the instruction that is spelled at a place is there.
pub one_spelled : (bytes : List ℕ) (place bound : ℕ) (i j : Instruction) (size : ℕ) → Spells i (take size (drop place bytes))
    → IsSpelledAt bytes place bound j → i ≡ j
one_spelled bytes place bound i j size read (n, space, spelled) = (same_front i j size n (drop place bytes) read spelled).0

-- An instruction that ends before a bound ends before a larger one.
pub spelled_wider : (bytes : List ℕ) (place bound wider : ℕ) (i : Instruction) → bound ≤ wider → IsSpelledAt bytes place bound i
    → IsSpelledAt bytes place wider i
spelled_wider bytes place bound wider i more (size, space, spelled) = (size, omega arith, spelled)

-- The first byte from a place on.
pub one_byte : (bytes : List ℕ) (place : ℕ) → place < length bytes → take (place + 1 - place) (drop place bytes) ≡ get_or bytes place 0 ∷ []
one_byte bytes place below =
    let one : place + 1 - place ≡ 1 = omega arith in
    ap (λ (n : ℕ). take n (drop place bytes)) one ∙ ap (take 1) (drop_more bytes place 0 below)

-- What the bytes between a place and a bound begin with is what the bytes from the place on begin with.
pub spelled_between : (bytes : List ℕ) (place bound size : ℕ) (i : Instruction) → size ≤ length (between bytes place bound) → Spells i (take size (between bytes place bound))
    → Spells i (take (place + size - place) (drop place bytes))
spelled_between bytes place bound size i within spelled =
    let same : place + size - place ≡ size = omega arith in
    let few : size ≤ bound - place = omega (arith, within, length-take (bound - place) (drop place bytes)) in
    subst (λ (n : ℕ). Spells i (take n (drop place bytes))) (sym same) (subst (λ (x : List ℕ). Spells i x) (take-take size (bound - place) (drop place bytes) few) spelled)
