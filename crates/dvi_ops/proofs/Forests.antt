-- The pass with a stack gives the meaning of the forest, and a list is the list of at most one forest.
use Rattle.std.proofs.Common.{◌≡◌, ◌++◌, [], ◌∷◌, List, Some, None, refl, sym, ◌∙◌, ap, append_assoc, append-nil, subst, max, arith}
use Rattle.dvi_ops.specs.Instruction.{BodyLeaf, Instruction, Do, Push, Pop, Eop}
use Rattle.dvi_ops.specs.Body.{Position, DviState, Meaning, Acts, state_without_mark}
use Rattle.scaled_core.specs.Mark.{Mark}
use Rattle.dvi_ops.specs.Forest.{Forest, Empty, Then, Group, flat, marks_before, and_then, restored_meaning, meaning, nests, joined_bodies}
use Rattle.dvi_ops.specs.Walk.{walk}

-- A meaning with no marks added before it is the same.
before-nil : (m : Meaning) → marks_before [] m ≡ m
before-nil None = refl
before-nil (Some (marks, s)) = refl

before-before : (a b : List Mark) (m : Meaning) → marks_before a (marks_before b m) ≡ marks_before (a ++ b) m
before-before a b None = refl
before-before a b (Some (marks, s)) = ap (λ (marks : List Mark). Some (marks, s)) (sym (append_assoc a b marks))

before-and_then : (a : List Mark) (m : Meaning) (k : DviState → Meaning) → and_then (marks_before a m) k ≡ marks_before a (and_then m k)
before-and_then a None k = refl
before-and_then a (Some (marks, s)) k = sym (before-before a marks (k s))

-- Two steps one after the other, grouped either way.
pub and_then-and_then : (m : Meaning) (j k : DviState → Meaning) → and_then (and_then m j) k ≡ and_then m (λ t. and_then (j t) k)
and_then-and_then None j k = refl
and_then-and_then (Some (marks, s)) j k = before-and_then marks (j s) k

-- The continuation may be replaced by an equal one.
pub and_then-same : (m : Meaning) (j k : DviState → Meaning) → ((t : DviState) → j t ≡ k t) → and_then m j ≡ and_then m k
and_then-same None j k same = refl
and_then-same (Some (marks, s)) j k same = ap (marks_before marks) (same s)

and_then-only : (m : Meaning) → and_then m state_without_mark ≡ m
and_then-only None = refl
and_then-only (Some (marks, s)) = ap (λ (marks : List Mark). Some (marks, s)) (append-nil marks)

and_then-restored : (p : Position) (m : Meaning) (k : DviState → Meaning) →
    and_then (restored_meaning p m) k ≡ and_then m (λ t. k (record { place = p; font = t.font }))
and_then-restored p None k = refl
and_then-restored p (Some (marks, s)) k = refl

-- The pass over a forest's list and the rest is the meaning of the forest, and then the pass over the rest.
pub walk-flat : (does : Acts) (f : Forest) (rest : List Instruction) (stack : List Position) (s : DviState) →
    walk does (flat f ++ rest) stack s ≡ and_then (meaning does f s) (λ t. walk does rest stack t)
walk-flat does Empty rest stack s = sym (before-nil (walk does rest stack s))
walk-flat does (Then i f) rest stack s =
    and_then-same (does i s) (λ t. walk does (flat f ++ rest) stack t) (λ t. and_then (meaning does f t) (λ u. walk does rest stack u)) (λ t. walk-flat does f rest stack t)
    ∙ sym (and_then-and_then (does i s) (λ t. meaning does f t) (λ u. walk does rest stack u))
walk-flat does (Group inner f) rest stack s =
    ap (λ is. walk does is (s.place ∷ stack) s) (append_assoc (flat inner) (Pop ∷ flat f) rest)
    ∙ (walk-flat does inner (Pop ∷ (flat f ++ rest)) (s.place ∷ stack) s
    ∙ (and_then-same (meaning does inner s) (λ t. walk does (flat f ++ rest) stack (record { place = s.place; font = t.font })) (λ t. and_then (meaning does f (record { place = s.place; font = t.font })) (λ u. walk does rest stack u)) (λ t. walk-flat does f rest stack (record { place = s.place; font = t.font }))
    ∙ (sym (and_then-restored s.place (meaning does inner s) (λ t. and_then (meaning does f t) (λ u. walk does rest stack u)))
    ∙ sym (and_then-and_then (restored_meaning s.place (meaning does inner s)) (λ t. meaning does f t) (λ u. walk does rest stack u)))))

-- The pass gives the meaning of every forest.
pub walk-meaning : (does : Acts) (f : Forest) (s : DviState) → walk does (flat f) [] s ≡ meaning does f s
walk-meaning does f s =
    ap (λ is. walk does is [] s) (sym (append-nil (flat f))) ∙ (walk-flat does f [] [] s ∙ and_then-only (meaning does f s))

-- A list that closes groups which were opened before it, one for each place of the stack.
Opens : List Instruction → List Position → Type 0
Opens is [] = (f : Forest) × (is ≡ flat f)
Opens is (p ∷ stack) = (f : Forest) × (rest : List Instruction) × (is ≡ flat f ++ (Pop ∷ rest)) × Opens rest stack

then_opens : (i : BodyLeaf) (is : List Instruction) (stack : List Position) → Opens is stack → Opens (Do i ∷ is) stack
unfolding Opens
then_opens i is [] (f, e) = (Then i f, ap (λ (is : List Instruction). Do i ∷ is) e)
then_opens i is (p ∷ stack) (f, rest, e, more) = (Then i f, rest, ap (λ (is : List Instruction). Do i ∷ is) e, more)

group_opens : (p : Position) (is : List Instruction) (stack : List Position) → Opens is (p ∷ stack) → Opens (Push ∷ is) stack
unfolding Opens
group_opens p is [] (inner, rest, e, (f, whole)) =
    (Group inner f, ap (λ (is : List Instruction). Push ∷ is) (e ∙ ap (λ (is : List Instruction). flat inner ++ (Pop ∷ is)) whole))
group_opens p is (q ∷ stack) (inner, rest, e, (f, rest', whole, more)) =
    (Group inner f, rest', ap (λ (is : List Instruction). Push ∷ is) (e ∙ (ap (λ (is : List Instruction). flat inner ++ (Pop ∷ is)) whole ∙ sym (append_assoc (flat inner) (Pop ∷ flat f) (Pop ∷ rest')))), more)

-- Where a step and its continuation have a meaning together, each has one.
pub and_then-some : (m : Meaning) (k : DviState → Meaning) (out : List Mark × DviState) → and_then m k ≡ Some out →
    (t : DviState) × (last : List Mark × DviState) × (k t ≡ Some last)
and_then-some None k out e = absurd cc
and_then-some (Some (marks, s)) k out e = (s, (before_some marks (k s) out e).0, (before_some marks (k s) out e).1)
  where
    before_some : (marks : List Mark) (m : Meaning) (out : List Mark × DviState) → marks_before marks m ≡ Some out → (last : List Mark × DviState)
        × (m ≡ Some last)
    before_some marks None out e = cc
    before_some marks (Some last) out e = (last, refl)

walk_opens : (does : Acts) (is : List Instruction) (stack : List Position) (s : DviState) (out : List Mark × DviState) → walk does is stack s ≡ Some out → Opens is stack
unfolding Opens
walk_opens does [] [] s out e = (Empty, refl)
walk_opens does [] (p ∷ stack) s out e = absurd cc
walk_opens does (Push ∷ rest) stack s out e = group_opens s.place rest stack (walk_opens does rest (s.place ∷ stack) s out e)
walk_opens does (Pop ∷ rest) [] s out e = absurd cc
walk_opens does (Pop ∷ rest) (p ∷ stack) s out e = (Empty, rest, refl, walk_opens does rest stack (record { place = p; font = s.font }) out e)
walk_opens does (Do i ∷ rest) stack s out e =
    let next = and_then-some (does i s) (λ t. walk does rest stack t) out e in then_opens i rest stack (walk_opens does rest stack next.0 next.1 next.2)
walk_opens does (i ∷ rest) stack s out e = absurd cc

-- Where the pass gives a meaning, a forest has this list and this meaning.
pub walked_forest : (does : Acts) (is : List Instruction) (s : DviState) (out : List Mark × DviState) → walk does is [] s ≡ Some out →
    (f : Forest) × (is ≡ flat f) × (meaning does f s ≡ Some out)
unfolding Opens
walked_forest does is s out e =
    let found = walk_opens does is [] s out e in (found.0, found.1, sym (walk-meaning does found.0 s) ∙ (ap (λ is. walk does is [] s) (sym found.1) ∙ e))

-- A list that may follow a body: it begins with no leaf and no push.
pub Ends : List Instruction → Type 0
Ends [] = Unit {0}
Ends (Do i ∷ rest) = ⊥
Ends (Push ∷ rest) = ⊥
Ends (i ∷ rest) = Unit {0}

pub ends_eop : (rest : List Instruction) → Ends (Eop ∷ rest)
unfolding Ends
ends_eop rest = tt

-- Two forests are equal where their lists are equal after each was extended by a list that may follow a body. These two lists are equal too.
pub flat_cut : (f g : Forest) (x y : List Instruction) → Ends x → Ends y → flat f ++ x ≡ flat g ++ y → (f ≡ g) × (x ≡ y)
unfolding Ends
flat_cut Empty Empty x y ends ends' e = (refl, e)
flat_cut Empty (Then i g) x y ends ends' e = absurd (subst Ends e ends)
flat_cut Empty (Group inner g) x y ends ends' e = absurd (subst Ends e ends)
flat_cut (Then i f) Empty x y ends ends' e = absurd (subst Ends (sym e) ends')
flat_cut (Then i f) (Then j g) x y ends ends' e =
    let same : i ≡ j = cc in let rest : flat f ++ x ≡ flat g ++ y = cc in let cut = flat_cut f g x y ends ends' rest in let f_same : f ≡ g = cut.0 in (cc, cut.1)
flat_cut (Then i f) (Group inner g) x y ends ends' e = absurd cc
flat_cut (Group inner f) Empty x y ends ends' e = absurd (subst Ends (sym e) ends')
flat_cut (Group inner f) (Then j g) x y ends ends' e = absurd cc
flat_cut (Group inner f) (Group inner' g) x y ends ends' e =
    let tails : (flat inner ++ (Pop ∷ flat f)) ++ x ≡ (flat inner' ++ (Pop ∷ flat g)) ++ y = cc in
    let first = flat_cut inner inner' (Pop ∷ (flat f ++ x)) (Pop ∷ (flat g ++ y)) tt tt (sym (append_assoc (flat inner) (Pop ∷ flat f) x) ∙ (tails ∙ append_assoc (flat inner') (Pop ∷ flat g) y)) in
    let inner_same : inner ≡ inner' = first.0 in
    let after : Pop ∷ (flat f ++ x) ≡ Pop ∷ (flat g ++ y) = first.1 in
    let rest : flat f ++ x ≡ flat g ++ y = cc in
    let second = flat_cut f g x y ends ends' rest in
    let f_same : f ≡ g = second.0 in
    (cc, second.1)

-- A list is the list of at most one forest.
pub one_forest : (f g : Forest) → flat f ≡ flat g → f ≡ g
unfolding Ends
one_forest f g e = (flat_cut f g [] [] tt tt (append-nil (flat f) ∙ (e ∙ sym (append-nil (flat g))))).0

-- The concatenation of two bodies: its instructions, its meaning, and its open pushes.
pub flat-beside : (f g : Forest) → flat (joined_bodies f g) ≡ flat f ++ flat g
flat-beside Empty g = refl
flat-beside (Then i f) g = ap (λ (is : List Instruction). Do i ∷ is) (flat-beside f g)
flat-beside (Group inner f) g =
    ap (λ (is : List Instruction). Push ∷ (flat inner ++ Pop ∷ is)) (flat-beside f g) ∙ ap (λ (is : List Instruction). Push ∷ is) (sym (append_assoc (flat inner) (Pop ∷ flat f) (flat g)))

pub meaning-beside : (does : Acts) (f g : Forest) (s : DviState) → meaning does (joined_bodies f g) s ≡ and_then (meaning does f s) (λ t. meaning does g t)
meaning-beside does Empty g s = sym (before-nil (meaning does g s))
meaning-beside does (Then i f) g s =
    and_then-same (does i s) (λ t. meaning does (joined_bodies f g) t) (λ t. and_then (meaning does f t) (λ u. meaning does g u)) (λ t. meaning-beside does f g t)
    ∙ sym (and_then-and_then (does i s) (λ t. meaning does f t) (λ u. meaning does g u))
meaning-beside does (Group inner f) g s =
    and_then-same (restored_meaning s.place (meaning does inner s)) (λ t. meaning does (joined_bodies f g) t) (λ t. and_then (meaning does f t) (λ u. meaning does g u)) (λ t. meaning-beside does f g t)
    ∙ sym (and_then-and_then (restored_meaning s.place (meaning does inner s)) (λ t. meaning does f t) (λ u. meaning does g u))

pub nests-beside : (f g : Forest) → nests (joined_bodies f g) ≡ max (nests f) (nests g)
nests-beside Empty g = omega arith
nests-beside (Then i f) g = nests-beside f g
nests-beside (Group inner f) g = let later = nests-beside f g in omega arith
