-- What the removal of empty groups preserves.
use Rattle.std.proofs.Common.{◌≡◌, ◌≤◌, ◌+◌, ◌++◌, max, [], ◌∷◌, List, ℤ, Some, None, Bool, true, false, ◌&&◌, refl, sym, ◌∙◌, ap, subst, Contains, ◌⊎◌, inl, inr, arith}
use Rattle.std.proofs.lemmas.List.Elements.{Contains-append_left, Contains-append_right, Contains-append_cases}
use Rattle.dvi_ops.specs.Body.{DviState, Meaning, Acts}
use Rattle.dvi_ops.specs.Forest.{Forest, Empty, Then, Group, marks_before, and_then, restored_meaning, meaning, nests, points, points_then}
use Rattle.dvi_ops.proofs.Forests.{and_then-same}
use Rattle.move_core.specs.Reused.{grouped_body, pruned_body}
use Rattle.move_core.specs.SamePage.{is_hollow, HasNoHollow}
use Rattle.move_core.proofs.Meanings.{IsPlain}

set_before_use-nil : (m : Meaning) → marks_before [] m ≡ m
set_before_use-nil None = refl
set_before_use-nil (Some (marks, s)) = refl

meaning-grouped : (does : Acts) (inner rest : Forest) (s : DviState) → meaning does (grouped_body inner rest) s ≡ meaning does (Group inner rest) s
meaning-grouped does Empty rest s = sym (set_before_use-nil (meaning does rest s))
meaning-grouped does (Then leaf inner) rest s = refl
meaning-grouped does (Group first inner) rest s = refl

-- The meaning is the same, whatever the instructions do.
pub meaning-pruned : (does : Acts) (f : Forest) (s : DviState) → meaning does (pruned_body f) s ≡ meaning does f s
meaning-pruned does Empty s = refl
meaning-pruned does (Then leaf rest) s = and_then-same (does leaf s) (λ t. meaning does (pruned_body rest) t) (λ t. meaning does rest t) (λ t. meaning-pruned does rest t)
meaning-pruned does (Group inner rest) s =
    meaning-grouped does (pruned_body inner) (pruned_body rest) s
    ∙ (ap (λ m. and_then (restored_meaning s.place m) (λ t. meaning does (pruned_body rest) t)) (meaning-pruned does inner s)
    ∙ and_then-same (restored_meaning s.place (meaning does inner s)) (λ t. meaning does (pruned_body rest) t) (λ t. meaning does rest t) (λ t. meaning-pruned does rest t))

-- Each of these places is one of the others.
abbrev pub Within : List (ℤ × ℤ) → List (ℤ × ℤ) → Type 0
Within ps qs = (p : ℤ × ℤ) → Contains ps p → Contains qs p

within_append : (ps ps' qs qs' : List (ℤ × ℤ)) → Within ps ps' → Within qs qs' → Within (ps ++ qs) (ps' ++ qs')
within_append ps ps' qs qs' front back p c = by_part (Contains-append_cases ps qs p c)
  where
    by_part : Contains ps p ⊎ Contains qs p → Contains (ps' ++ qs') p
    by_part (inl a) = Contains-append_left ps' qs' p (front p a)
    by_part (inr b) = Contains-append_right ps' qs' p (back p b)

within_cons : (q : ℤ × ℤ) (ps qs : List (ℤ × ℤ)) → Within ps qs → Within (q ∷ ps) (q ∷ qs)
within_cons q ps qs back = within_append (q ∷ []) (q ∷ []) ps qs (λ p c. c) back

within_then : (m : Meaning) (j k : DviState → List (ℤ × ℤ)) → ((t : DviState) → Within (j t) (k t)) → Within (points_then m j) (points_then m k)
within_then None j k next p c = c
within_then (Some (marks, s)) j k next p c = within_cons (s.place.h, s.place.v) (j s) (k s) (next s) p c

points-grouped : (does : Acts) (inner rest : Forest) (s : DviState) → Within (points does (grouped_body inner rest) s) (points does (Group inner rest) s)
points-grouped does Empty rest s p c = Contains-append_right ((s.place.h, s.place.v) ∷ []) (points does rest s) p c
points-grouped does (Then leaf inner) rest s p c = c
points-grouped does (Group first inner) rest s p c = c

-- No other place is passed through.
pub points-pruned : (does : Acts) (f : Forest) (s : DviState) → Within (points does (pruned_body f) s) (points does f s)
points-pruned does Empty s p c = c
points-pruned does (Then leaf rest) s p c =
    within_then (does leaf s) (λ t. points does (pruned_body rest) t) (λ t. points does rest t) (λ t. points-pruned does rest t) p c
points-pruned does (Group inner rest) s p c =
    within_append (points does (pruned_body inner) s) (points does inner s)
    (points_then (restored_meaning s.place (meaning does (pruned_body inner) s)) (λ t. points does (pruned_body rest) t))
    (points_then (restored_meaning s.place (meaning does inner s)) (λ t. points does rest t))
    (points-pruned does inner s)
    (λ q d. within_then (restored_meaning s.place (meaning does inner s)) (λ t. points does (pruned_body rest) t) (λ t. points does rest t) (λ t. points-pruned does rest t) q
    (subst (λ (m : Meaning). Contains (points_then (restored_meaning s.place m) (λ t. points does (pruned_body rest) t)) q) (meaning-pruned does inner s) d))
    p (points-grouped does (pruned_body inner) (pruned_body rest) s p c)

nests-grouped : (inner rest : Forest) → nests (grouped_body inner rest) ≤ max (nests inner + 1) (nests rest)
nests-grouped Empty rest = omega arith
nests-grouped (Then leaf inner) rest = omega arith
nests-grouped (Group first inner) rest = omega arith

-- The groups nest no deeper.
pub nests-pruned : (f : Forest) → nests (pruned_body f) ≤ nests f
nests-pruned Empty = omega arith
nests-pruned (Then leaf rest) = nests-pruned rest
nests-pruned (Group inner rest) = omega (arith, nests-grouped (pruned_body inner) (pruned_body rest), nests-pruned inner, nests-pruned rest)

plain-grouped : (inner rest : Forest) → IsPlain inner → IsPlain rest → IsPlain (grouped_body inner rest)
plain-grouped Empty rest a b = b
plain-grouped (Then leaf inner) rest a b = (a, b)
plain-grouped (Group first inner) rest a b = (a, b)

-- No register is used.
pub plain-pruned : (f : Forest) → IsPlain f → IsPlain (pruned_body f)
plain-pruned Empty plain = tt
plain-pruned (Then leaf rest) (here, plain) = (here, plain-pruned rest plain)
plain-pruned (Group inner rest) (within, plain) = plain-grouped (pruned_body inner) (pruned_body rest) (plain-pruned inner within) (plain-pruned rest plain)

-- A body without hollow groups is empty, or not hollow itself.
Full : Forest → Type 0
Full f = HasNoHollow f × ((is_hollow f ≡ false) ⊎ (f ≡ Empty))

hollow_rest : (a b : Bool) → a ≡ false → (a && b) ≡ false
hollow_rest false b e = refl
hollow_rest true b e = cc

full-grouped : (inner rest : Forest) → Full inner → Full rest → Full (grouped_body inner rest)
unfolding Full
full-grouped Empty rest a b = b
full-grouped (Then leaf inner) rest a b = ((refl, a.0, b.0), inl refl)
full-grouped (Group first inner) rest (whole, inl e) b = ((e, whole, b.0), inl (hollow_rest (is_hollow (Group first inner)) (is_hollow rest) e))
full-grouped (Group first inner) rest (whole, inr e) b = absurd cc

full-pruned : (f : Forest) → Full (pruned_body f)
unfolding Full
full-pruned Empty = (tt, inr refl)
full-pruned (Then leaf rest) = ((full-pruned rest).0, inl refl)
full-pruned (Group inner rest) = full-grouped (pruned_body inner) (pruned_body rest) (full-pruned inner) (full-pruned rest)

-- No group is hollow.
pub no_hollow-pruned : (f : Forest) → HasNoHollow (pruned_body f)
unfolding Full
no_hollow-pruned f = (full-pruned f).0
