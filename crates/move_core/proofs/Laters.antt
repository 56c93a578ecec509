-- The amounts that come later, before a pop and before a push.
use Rattle.std.proofs.Common.{◌≡◌, ◌+◌, ◌∷◌, [], ◌++◌, List, ℕ, ℤ, zero, suc, false, Option, Some, None, sym, ◌∙◌, ap, reverse, length, unwrap_or}
use Rattle.std.specs.Prelude.{option_to_list, MatchOption}
use Rattle.std.proofs.lemmas.List.{reverse-append, nil_from_length}
use Rattle.dvi_ops.specs.Instruction.{Axis, Instruction, Push, Pop}
use Rattle.move_core.specs.declared.later.Amounts.{Amounts}
use Rattle.move_core.specs.Private.Passes.{contains_amount, held_at, amount_comes}

-- The collected amounts are those that come.
abbrev pub KnowsAt : Amounts → List Amounts → List Instruction → Type 0
KnowsAt here outer rest = (pops : ℕ) → (axis : Axis) → (n : ℤ) → held_at (here ∷ reverse outer) pops axis n ≡ amount_comes rest pops axis n

abbrev pub HasNone : Amounts → Type 0
HasNone amounts = (axis : Axis) (n : ℤ) → contains_amount amounts axis n ≡ false

-- After all instructions.
pub knows_nothing : (here : Amounts) (outer : List Amounts) → HasNone here → outer ≡ [] → KnowsAt here outer []
knows_nothing here outer none e zero axis n = none axis n
knows_nothing here outer none e (suc pops) axis n = ap (λ (outer : List Amounts). held_at (reverse outer) pops axis n) e

-- The amounts before a pop.
pub knows_pop : (here fresh : Amounts) (outer outer' : List Amounts) (rest : List Instruction) → HasNone fresh → outer' ≡ outer ++ here ∷ [] →
    KnowsAt here outer rest → KnowsAt fresh outer' (Pop ∷ rest)
knows_pop here fresh outer outer' rest none e knows zero axis n = none axis n
knows_pop here fresh outer outer' rest none e knows (suc pops) axis n =
    ap (λ (outer : List Amounts). held_at outer pops axis n) (ap reverse e ∙ reverse-append outer (here ∷ [])) ∙ knows pops axis n

-- The amounts before a push.
pub knows_push : (here fresh : Amounts) (outer outer' : List Amounts) (popped : Option Amounts) (rest : List Instruction) (n n' : ℕ) → HasNone fresh →
    outer ≡ outer' ++ option_to_list popped → length outer ≡ n → length outer' ≡ n' → MatchOption popped ((n ≡ 0) × (n' ≡ 0)) (λ _. n' + 1 ≡ n) →
    KnowsAt here outer rest → KnowsAt (unwrap_or popped fresh) outer' (Push ∷ rest)
knows_push here fresh outer outer' None rest m m' none e l l' (all, left) knows zero axis n =
    none axis n ∙ (sym (ap (λ (outer : List Amounts). held_at (reverse outer) 0 axis n) (nil_from_length outer (l ∙ all))) ∙ knows 1 axis n)
knows_push here fresh outer outer' None rest m m' none e l l' (all, left) knows (suc pops) axis n =
    ap (λ (outer : List Amounts). held_at (reverse outer) pops axis n) (nil_from_length outer' (l' ∙ left))
    ∙ (sym (ap (λ (outer : List Amounts). held_at (reverse outer) (suc pops) axis n) (nil_from_length outer (l ∙ all))) ∙ knows (suc (suc pops)) axis n)
knows_push here fresh outer outer' (Some after) rest m m' none e l l' some knows pops axis n =
    sym (ap (λ (outer : List Amounts). held_at outer pops axis n) (ap reverse e ∙ reverse-append outer' (after ∷ []))) ∙ knows (suc pops) axis n
