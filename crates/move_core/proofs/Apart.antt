-- A body whose characters stand apart: movements are written in it as among its other instructions alone.
use Rattle.std.proofs.Common.{◌≡◌, ◌-◌, ◌++◌, ◌∷◌, [], List, ℕ, ℤ, zero, suc, Bool, true, false, ◌||◌, length, take, drop, refl, sym, ◌∙◌, ap, append-nil, arith}
use Rattle.std.specs.Prelude.{pos}
use Rattle.dvi_ops.specs.Instruction.{Axis, Across, Downward, By, Set, Again, Move, SetChar, Instruction, Do, Push, Pop}
use Rattle.dvi_ops.specs.Forest.{Forest, flat}
use Rattle.dvi_ops.specs.Runs.{characters, woven_instructions}
use Rattle.move_core.specs.Registers.{is_amount}
use Rattle.move_core.specs.Reused.{movement_along, plain_amount, reused_body}
use Rattle.move_core.specs.Private.Passes.{Groups, amount_comes, again_in, groups_entered, op_written, amounts_after, rewritten_instructions, outside_groups, ends_empty_group, is_push, has_empty_group}
use Rattle.move_core.proofs.FullGroups.{trimmed_whole}
use Rattle.move_core.proofs.SameBody.{gives_reused}

-- No movement is among characters.
comes-characters : (codes : List ℕ) (rest : List Instruction) (pops : ℕ) (axis : Axis) (n : ℤ) → amount_comes (characters codes ++ rest) pops axis n ≡ amount_comes rest pops axis n
comes-characters [] rest pops axis n = refl
comes-characters (c ∷ codes) rest zero Across n = comes-characters codes rest zero Across n
comes-characters (c ∷ codes) rest zero Downward n = comes-characters codes rest zero Downward n
comes-characters (c ∷ codes) rest (suc pops) axis n = comes-characters codes rest (suc pops) axis n

-- The same movements come.
abbrev ComeAlike : List Instruction → List Instruction → Type 0
ComeAlike is js = (pops : ℕ) (axis : Axis) (n : ℤ) → amount_comes is pops axis n ≡ amount_comes js pops axis n

comes-cons : (i : Instruction) (is js : List Instruction) → ComeAlike is js → ComeAlike (i ∷ is) (i ∷ js)
comes-cons Push is js alike pops axis n = alike (suc pops) axis n
comes-cons Pop is js alike zero axis n = refl
comes-cons Pop is js alike (suc pops) axis n = alike pops axis n
comes-cons (Do leaf) is js alike zero axis n = ap (λ (b : Bool). is_amount (plain_amount (movement_along axis leaf)) n || b) (alike zero axis n)
comes-cons (Do leaf) is js alike (suc pops) axis n = alike (suc pops) axis n
comes-cons i is js alike pops axis n = alike pops axis n

comes-woven : (from : ℕ) (codes places : List ℕ) (is : List Instruction) → length places ≡ length is → ComeAlike (woven_instructions from codes places is) is
comes-woven from codes [] [] paired pops axis n =
    ap (λ (is : List Instruction). amount_comes is pops axis n) (sym (append-nil (characters codes))) ∙ comes-characters codes [] pops axis n
comes-woven from codes [] (i ∷ is) paired pops axis n = absurd (omega (arith, paired))
comes-woven from codes (place ∷ places) [] paired pops axis n = absurd (omega (arith, paired))
comes-woven from codes (place ∷ places) (i ∷ is) paired pops axis n =
    let rest = woven_instructions place (drop (place - from) codes) places is in
    comes-characters (take (place - from) codes) (i ∷ rest) pops axis n
    ∙ comes-cons i rest is (comes-woven place (drop (place - from) codes) places is (omega (arith, paired))) pops axis n

-- So the same amounts come again.
again-alike : (i : Instruction) (is js : List Instruction) → ComeAlike is js → again_in i is ≡ again_in i js
again-alike (Do (Move axis (By n))) is js alike = alike zero axis n
again-alike (Do (Move axis (Set register n))) is js alike = refl
again-alike (Do (Move axis (Again register))) is js alike = refl
again-alike (Do leaf) is js alike = refl
again-alike i is js alike = refl

-- Characters are written as they are, and change no known value.
rewritten-characters : (codes : List ℕ) (rest : List Instruction) (g : Groups) → rewritten_instructions (characters codes ++ rest) g ≡ characters codes ++ rewritten_instructions rest g
rewritten-characters [] rest g = refl
rewritten-characters (c ∷ codes) rest g = ap (λ (is : List Instruction). Do (SetChar (pos c)) ∷ is) (rewritten-characters codes rest g)

rewritten-woven :
    (from : ℕ) (codes places : List ℕ) (is : List Instruction) (g : Groups) → length places ≡ length is
    → rewritten_instructions (woven_instructions from codes places is) g ≡ woven_instructions from codes places (rewritten_instructions is g)
rewritten-woven from codes [] [] g paired =
    ap (λ (is : List Instruction). rewritten_instructions is g) (sym (append-nil (characters codes))) ∙ (rewritten-characters codes [] g ∙ append-nil (characters codes))
rewritten-woven from codes [] (i ∷ is) g paired = absurd (omega (arith, paired))
rewritten-woven from codes (place ∷ places) [] g paired = absurd (omega (arith, paired))
rewritten-woven from codes (place ∷ places) (i ∷ is) g paired =
    let rest = woven_instructions place (drop (place - from) codes) places is in
    let run = characters (take (place - from) codes) in
    let inside = groups_entered i g in
    let fewer : length places ≡ length is = omega (arith, paired) in
    let after : Bool → Groups = λ again. record { known = amounts_after inside.known i again; outer = inside.outer } in
    rewritten-characters (take (place - from) codes) (i ∷ rest) g
    ∙ ap (λ (js : List Instruction). run ++ js)
    (ap (λ (again : Bool). op_written inside.known i again ∷ rewritten_instructions rest (after again))
    (again-alike i rest is (comes-woven place (drop (place - from) codes) places is fewer))
    ∙ ap (λ (js : List Instruction). op_written inside.known i (again_in i is) ∷ js)
    (rewritten-woven place (drop (place - from) codes) places is (after (again_in i is)) fewer))

neither_first : (a b : Bool) → (a || b) ≡ false → a ≡ false
neither_first false b none = refl
neither_first true b none = none

neither_second : (a b : Bool) → (a || b) ≡ false → b ≡ false
neither_second false b none = none
neither_second true b none = absurd (cc)

both_false : (a b : Bool) → a ≡ false → b ≡ false → (a || b) ≡ false
both_false false b first second = second
both_false true b first second = absurd (cc)

-- Where a group that a push opened just before is not empty, no group is after another instruction.
none-later : (is : List Instruction) → has_empty_group true is ≡ false → has_empty_group false is ≡ false
none-later [] none = refl
none-later (i ∷ is) none = neither_second (ends_empty_group true i) (has_empty_group (is_push i) is) none

none-characters :
    (pushed : Bool) (codes : List ℕ) (rest : List Instruction) → has_empty_group pushed rest ≡ false → has_empty_group pushed (characters codes ++ rest) ≡ false
none-characters pushed [] rest none = none
none-characters true (c ∷ codes) rest none = none-characters false codes rest (none-later rest none)
none-characters false (c ∷ codes) rest none = none-characters false codes rest none

none-woven :
    (pushed : Bool) (from : ℕ) (codes places : List ℕ) (is : List Instruction) → length places ≡ length is
    → has_empty_group pushed is ≡ false → has_empty_group pushed (woven_instructions from codes places is) ≡ false
none-woven pushed from codes [] [] paired none =
    ap (has_empty_group pushed) (sym (append-nil (characters codes))) ∙ none-characters pushed codes [] none
none-woven pushed from codes [] (i ∷ is) paired none = absurd (omega (arith, paired))
none-woven pushed from codes (place ∷ places) [] paired none = absurd (omega (arith, paired))
none-woven pushed from codes (place ∷ places) (i ∷ is) paired none =
    let rest = woven_instructions place (drop (place - from) codes) places is in
    let later = neither_second (ends_empty_group pushed i) (has_empty_group (is_push i) is) none in
    none-characters pushed (take (place - from) codes) (i ∷ rest)
    (both_false (ends_empty_group pushed i) (has_empty_group (is_push i) rest)
    (neither_first (ends_empty_group pushed i) (has_empty_group (is_push i) is) none)
    (none-woven (is_push i) place (drop (place - from) codes) places is (omega (arith, paired)) later))

pub length-rewritten : (is : List Instruction) (g : Groups) → length (rewritten_instructions is g) ≡ length is
length-rewritten [] g = refl
length-rewritten (i ∷ is) g =
    omega (arith, length-rewritten is (record { known = amounts_after (groups_entered i g).known i (again_in i is); outer = (groups_entered i g).outer }))

-- Where no pop comes directly after a push among the other instructions, these alone, written with registers, give the reused body.
pub reused-woven :
    (codes places : List ℕ) (is js : List Instruction) (body : Forest) → length places ≡ length is → has_empty_group false is ≡ false
    → js ≡ rewritten_instructions is outside_groups → woven_instructions 0 codes places is ≡ flat body → woven_instructions 0 codes places js ≡ flat (reused_body body)
reused-woven codes places is js body paired none writes same =
    let all = woven_instructions 0 codes places is in
    gives_reused all all (woven_instructions 0 codes places js) body (sym (trimmed_whole all (none-woven false 0 codes places is paired none)))
    (ap (woven_instructions 0 codes places) writes ∙ sym (rewritten-woven 0 codes places is outside_groups paired)) same
