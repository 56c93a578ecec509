-- The instructions that are a body without registers.
use Rattle.std.proofs.Common.{◌≡◌, ◌++◌, [], ◌∷◌, List, ℕ, zero, suc, Bool, true, false, Some, None, refl, sym, ◌∙◌, ap, append_assoc, append-nil, subst, IsTrue, ◌↔◌, arith, ◌<◌, ◌+◌, ◌≤◌, nat_eq, length, get_or, map, drop}
use Rattle.std.specs.List.{AllByRecursion}
use Rattle.std.proofs.lemmas.List.{drop_all}
use Rattle.std.proofs.lemmas.Bool.Decides.{nat_tests}
use Rattle.dvi_ops.specs.Instruction.{By, Set, Again, BodyLeaf, Move, Instruction, Do, Push, Pop}
use Rattle.dvi_ops.specs.View.{body_view}
use Rattle.dvi_ops.specs.declared.body_op.BodyOp.{BodyOp}
use Rattle.dvi_ops.specs.Forest.{Forest, Empty, Then, Group, flat}
use Rattle.dvi_ops.specs.Plain.{NamesNoRegister}
use Rattle.move_core.specs.SamePage.{IsPlainBody}
use Rattle.move_core.specs.Private.Passes.{depth_after, closes_all}
use Rattle.move_core.proofs.Meanings.{IsPlain}
use Rattle.move_core.proofs.SameBody.{plain_forest}
use Rattle.move_core.proofs.Flags.{from_here}

leaf_after : (depth : ℕ) (leaf : BodyLeaf) → NamesNoRegister (Do leaf) → depth_after depth (Do leaf) ≡ Some depth
leaf_after depth (Move axis (By n)) plain = refl
leaf_after depth (Move axis (Set register n)) plain = absurd plain
leaf_after depth (Move axis (Again register)) plain = absurd plain
leaf_after depth leaf plain = refl

-- A plain body leaves the number of open groups as it was.
body_after : (f : Forest) (rest : List Instruction) (depth : ℕ) → IsPlain f → closes_all (flat f ++ rest) (Some depth) ≡ closes_all rest (Some depth)
body_after Empty rest depth plain = refl
body_after (Then leaf f) rest depth (here, plain) = ap (closes_all (flat f ++ rest)) (leaf_after depth leaf here) ∙ body_after f rest depth plain
body_after (Group inner f) rest depth (within, plain) =
    ap (λ (is : List Instruction). closes_all is (Some (suc depth))) (append_assoc (flat inner) (Pop ∷ flat f) rest)
    ∙ (body_after inner (Pop ∷ (flat f ++ rest)) (suc depth) within ∙ body_after f rest depth plain)

-- Instructions that close that many groups and all groups that they open.
Closes : ℕ → List Instruction → Type 0
Closes zero is = (f : Forest) × (is ≡ flat f)
Closes (suc depth) is = (f : Forest) × (rest : List Instruction) × (is ≡ flat f ++ Pop ∷ rest) × Closes depth rest

then_closes : (depth : ℕ) (leaf : BodyLeaf) (is : List Instruction) → Closes depth is → Closes depth (Do leaf ∷ is)
unfolding Closes
then_closes zero leaf is (f, e) = (Then leaf f, ap (λ (is : List Instruction). Do leaf ∷ is) e)
then_closes (suc depth) leaf is (f, rest, e, more) = (Then leaf f, rest, ap (λ (is : List Instruction). Do leaf ∷ is) e, more)

group_closes : (depth : ℕ) (is : List Instruction) → Closes (suc depth) is → Closes depth (Push ∷ is)
unfolding Closes
group_closes zero is (inner, rest, e, (f, whole)) =
    (Group inner f, ap (λ (is : List Instruction). Push ∷ is) (e ∙ ap (λ (is : List Instruction). flat inner ++ (Pop ∷ is)) whole))
group_closes (suc depth) is (inner, rest, e, (f, rest', whole, more)) =
    (Group inner f, rest', ap (λ (is : List Instruction). Push ∷ is) (e ∙ (ap (λ (is : List Instruction). flat inner ++ (Pop ∷ is)) whole ∙ sym (append_assoc (flat inner) (Pop ∷ flat f) (Pop ∷ rest')))), more)

PlainAt : ℕ → List Instruction → Type 0
PlainAt depth is = Closes depth is × AllByRecursion NamesNoRegister is

none_closes : (is : List Instruction) → closes_all is None ≡ true → ⊥
none_closes [] e = cc
none_closes (i ∷ is) e = cc

leaf_plain : (depth : ℕ) (leaf : BodyLeaf) (is : List Instruction) → PlainAt depth is → NamesNoRegister (Do leaf) → PlainAt depth (Do leaf ∷ is)
unfolding PlainAt
leaf_plain depth leaf is (closes, all) here = (then_closes depth leaf is closes, (here, all))

-- Where the test holds, there is such a body.
found : (is : List Instruction) (depth : ℕ) → closes_all is (Some depth) ≡ true → PlainAt depth is
unfolding PlainAt Closes
found [] zero e = ((Empty, refl), tt)
found [] (suc depth) e = absurd cc
found (Push ∷ is) depth e = let next = found is (suc depth) e in (group_closes depth is next.0, (tt, next.1))
found (Pop ∷ is) zero e = absurd (none_closes is e)
found (Pop ∷ is) (suc depth) e = let next = found is depth e in ((Empty, is, refl, next.0), (tt, next.1))
found (Do (Move axis (By n)) ∷ is) depth e = leaf_plain depth (Move axis (By n)) is (found is depth e) tt
found (Do (Move axis (Set register n)) ∷ is) depth e = absurd (none_closes is e)
found (Do (Move axis (Again register)) ∷ is) depth e = absurd (none_closes is e)
found (Do leaf ∷ is) depth e = leaf_plain depth leaf is (found is depth e) tt
found (i ∷ is) depth e = absurd (none_closes is e)

pub plain_found : (is : List Instruction) → closes_all is (Some 0) ≡ true → IsPlainBody is
unfolding PlainAt Closes
plain_found is e = let at = found is 0 e in (at.0.0, at.0.1, at.1)

pub plain_tested : (is : List Instruction) → IsPlainBody is → closes_all is (Some 0) ≡ true
plain_tested is (f, same, plain) =
    ap (λ (is : List Instruction). closes_all is (Some 0)) (same ∙ sym (append-nil (flat f)))
    ∙ body_after f [] 0 (plain_forest f (subst (AllByRecursion NamesNoRegister) same plain))

pub plain_value : (b : Bool) (is : List Instruction) → b ≡ closes_all is (Some 0) → IsTrue b ↔ IsPlainBody is
plain_value true is e = (λ t. plain_found is (sym e), λ p. refl)
plain_value false is e = (λ t. absurd cc, λ p. let both : false ≡ true = e ∙ plain_tested is p in absurd cc)

nothing_closes : (is : List Instruction) → closes_all is None ≡ false
nothing_closes [] = refl
nothing_closes (i ∷ is) = refl

-- Where an instruction is in no plain body, the list is no plain body.
pub stops : (ops : List BodyOp) (i depth : ℕ) (d : BodyOp) → i < length ops → depth_after depth (body_view (get_or ops i d)) ≡ None →
    closes_all (map body_view (drop i ops)) (Some depth) ≡ false
stops ops i depth d within none =
    ap (λ (is : List Instruction). closes_all is (Some depth)) (from_here ops i d within)
    ∙ (ap (closes_all (map body_view (drop (i + 1) ops))) none ∙ nothing_closes (map body_view (drop (i + 1) ops)))

-- After all instructions, no group may be open.
pub ends : (ops : List BodyOp) (i depth : ℕ) → length ops ≤ i → nat_eq depth 0 ≡ closes_all (map body_view (drop i ops)) (Some depth)
ends ops i depth past = by_depth depth ∙ sym (ap (λ (ops : List BodyOp). closes_all (map body_view ops) (Some depth)) (drop_all i ops past))
  where
    by_depth : (depth : ℕ) → nat_eq depth 0 ≡ closes_all [] (Some depth)
    by_depth zero = refl
    by_depth (suc depth) = grind (arith, nat_tests)
