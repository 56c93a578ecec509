-- The lexicographic order is reflexive, transitive and antisymmetric, and is decided by the front of lists.
use Rattle.std.proofs.Common.{◌≡◌, ◌∙◌, ℕ, zero, suc, ◌<◌, List, [], ◌∷◌, ◌++◌, length, refl, ap, sym, subst, arith}
use Rattle.std.proofs.Math.Logic.{inl, inr}
use Rattle.std.specs.Prelude.{ℤ, pos, neg_ℤ, ◌+ℤ◌}
use Rattle.std.proofs.lemmas.Int.{ints}
use Rattle.break_lines.specs.declared.state.Fitness.{Fitness}
use Rattle.break_lines.specs.declared.state.Fitness.TheVariants.{VeryLoose, Loose, Decent, Tight}
use Rattle.break_lines.specs.declared.state.BreakState.{BreakState}
use Rattle.break_lines.specs.declared.state.LineCost.{LineCost}
use Rattle.break_lines.specs.Orders.{NotAfter}
use Rattle.break_lines.specs.Problems.{Problem, Path, class_index, end_after, with_line, tie_numbers, key}

pub not_after_refl : (xs : List ℤ) → NotAfter xs xs
not_after_refl [] = tt
not_after_refl (x ∷ xs) = inr (refl, not_after_refl xs)

pub not_after_trans : (xs ys zs : List ℤ) → NotAfter xs ys → NotAfter ys zs → NotAfter xs zs
not_after_trans [] ys zs h k = tt
not_after_trans (x ∷ xs) [] zs h k = absurd h
not_after_trans (x ∷ xs) (y ∷ ys) [] h k = absurd k
not_after_trans (x ∷ xs) (y ∷ ys) (z ∷ zs) (inl h) (inl k) = inl (omega (arith, ints))
not_after_trans (x ∷ xs) (y ∷ ys) (z ∷ zs) (inl h) (inr k) = inl (omega (arith, ints, k.0))
not_after_trans (x ∷ xs) (y ∷ ys) (z ∷ zs) (inr h) (inl k) = inl (omega (arith, ints, h.0))
not_after_trans (x ∷ xs) (y ∷ ys) (z ∷ zs) (inr h) (inr k) = inr (h.0 ∙ k.0, not_after_trans xs ys zs h.1 k.1)

pub not_after_antisym : (xs ys : List ℤ) → NotAfter xs ys → NotAfter ys xs → xs ≡ ys
not_after_antisym [] [] h k = refl
not_after_antisym [] (y ∷ ys) h k = absurd k
not_after_antisym (x ∷ xs) [] h k = absurd h
not_after_antisym (x ∷ xs) (y ∷ ys) (inl h) (inl k) = absurd (omega (arith, ints))
not_after_antisym (x ∷ xs) (y ∷ ys) (inl h) (inr k) = absurd (omega (arith, ints, k.0))
not_after_antisym (x ∷ xs) (y ∷ ys) (inr h) (inl k) = absurd (omega (arith, ints, h.0))
not_after_antisym (x ∷ xs) (y ∷ ys) (inr h) (inr k) =
    let first : x ≡ y = h.0 in let rest = not_after_antisym xs ys h.1 k.1 in cc

-- Fronts of the same length decide; if they are equal, the rest decides.
pub not_after_front :
    (xs ys zs ws : List ℤ) → length xs ≡ length ys → NotAfter xs ys → (xs ≡ ys → NotAfter zs ws) → NotAfter (xs ++ zs) (ys ++ ws)
not_after_front [] [] zs ws long h rest = rest refl
not_after_front [] (y ∷ ys) zs ws long h rest = absurd (omega arith)
not_after_front (x ∷ xs) [] zs ws long h rest = absurd h
not_after_front (x ∷ xs) (y ∷ ys) zs ws long (inl h) rest = inl h
not_after_front (x ∷ xs) (y ∷ ys) zs ws long (inr h) rest =
    let first : x ≡ y = h.0 in inr (first, not_after_front xs ys zs ws (omega arith) h.1 (λ same. rest (cc)))

-- With the same front, the order is that of the rest.
pub not_after_later : (front xs ys : List ℤ) → NotAfter xs ys → NotAfter (front ++ xs) (front ++ ys)
not_after_later [] xs ys h = h
not_after_later (z ∷ front) xs ys h = inr (refl, not_after_later front xs ys h)

-- Adding the same amounts to both numbers, and the same front before the rest, keeps the order.
longer :
    (a b c d x y : ℤ) (front xs ys : List ℤ) → NotAfter (a ∷ b ∷ xs) (c ∷ d ∷ ys)
    → NotAfter ((a +ℤ x) ∷ (b +ℤ y) ∷ (front ++ xs)) ((c +ℤ x) ∷ (d +ℤ y) ∷ (front ++ ys))
longer a b c d x y front xs ys (inl h) = inl (omega (arith, ints))
longer a b c d x y front xs ys (inr (e, inl h)) = inr (ap (λ z. z +ℤ x) e, inl (omega (arith, ints)))
longer a b c d x y front xs ys (inr (e, inr h)) =
    inr (ap (λ z. z +ℤ x) e, inr (ap (λ z. z +ℤ y) h.0, not_after_later front xs ys h.1))

-- The same line after the better of two paths to one state gives the better path.
pub longer_not_after :
    (p : Problem) (q r : Path) (b : ℕ) (l : LineCost)
    → q.last ≡ r.last → NotAfter (key q) (key r) → NotAfter (key (with_line p q b l)) (key (with_line p r b l))
longer_not_after p q r b l same h =
    let ends : tie_numbers (end_after p.cut q.last b l ∷ []) ≡ tie_numbers (end_after p.cut r.last b l ∷ []) =
    ap (λ s. tie_numbers (end_after p.cut s b l ∷ [])) same in
    subst
    (λ front. NotAfter (key (with_line p q b l))
    ((r.overhang +ℤ l.overhang) ∷ (r.demerits +ℤ l.demerits) ∷ (front ++ tie_numbers (r.last ∷ r.before))))
    ends
    (longer q.overhang q.demerits r.overhang r.demerits l.overhang l.demerits (tie_numbers (end_after p.cut q.last b l ∷ []))
    (tie_numbers (q.last ∷ q.before)) (tie_numbers (r.last ∷ r.before)) h)

-- The class with this number.
abbrev class_of : ℕ → Fitness
class_of zero = VeryLoose
class_of (suc zero) = Loose
class_of (suc (suc zero)) = Decent
class_of (suc (suc (suc n))) = Tight

class_of-rank : (c : Fitness) → class_of (class_index c) ≡ c
class_of-rank VeryLoose = refl
class_of-rank Loose = refl
class_of-rank Decent = refl
class_of-rank Tight = refl

pub rank_apart : (c d : Fitness) → class_index c ≡ class_index d → c ≡ d
rank_apart c d same = sym (class_of-rank c) ∙ ap class_of same ∙ class_of-rank d

pub rank_few : (c : Fitness) → class_index c < 4
rank_few VeryLoose = omega arith
rank_few Loose = omega arith
rank_few Decent = omega arith
rank_few Tight = omega arith

abbrev state : ℕ → ℕ → Fitness → BreakState
state place lines class = record { place = place; lines = lines; class = class }

pub state_same : (s t : BreakState) → s.place ≡ t.place → s.lines ≡ t.lines → s.class ≡ t.class → s ≡ t
state_same s t place lines class =
    ap (λ x. state x s.lines s.class) place ∙ ap (λ x. state t.place x s.class) lines ∙ ap (λ x. state t.place t.lines x) class

-- The numbers of states determine the states.
pub state_apart :
    (s t : BreakState) (ss ts : List BreakState) → tie_numbers (s ∷ ss) ≡ tie_numbers (t ∷ ts) → (s ≡ t) × (tie_numbers ss ≡ tie_numbers ts)
state_apart s t ss ts same =
    let place : neg_ℤ (pos s.place) ≡ neg_ℤ (pos t.place) = cc in
    let lines : pos s.lines ≡ pos t.lines = cc in
    let class : pos (class_index s.class) ≡ pos (class_index t.class) = cc in
    let rest : tie_numbers ss ≡ tie_numbers ts = cc in
    (state_same s t (omega (arith, ints)) (omega (arith, ints)) (rank_apart s.class t.class (omega (arith, ints))), rest)

pub states_apart : (ss ts : List BreakState) → tie_numbers ss ≡ tie_numbers ts → ss ≡ ts
states_apart [] [] same = refl
states_apart [] (t ∷ ts) same = absurd (cc)
states_apart (s ∷ ss) [] same = absurd (cc)
states_apart (s ∷ ss) (t ∷ ts) same =
    let parts = state_apart s t ss ts same in
    ap (λ x. x ∷ ss) parts.0 ∙ ap (λ xs. t ∷ xs) (states_apart ss ts parts.1)

abbrev path : ℤ → ℤ → BreakState → List BreakState → Path
path overhang demerits last before = record { overhang = overhang; demerits = demerits; last = last; before = before }

-- The numbers of a path determine the path.
pub key_apart : (q r : Path) → key q ≡ key r → q ≡ r
key_apart q r same =
    let overhang : q.overhang ≡ r.overhang = cc in
    let demerits : q.demerits ≡ r.demerits = cc in
    let rest : tie_numbers (q.last ∷ q.before) ≡ tie_numbers (r.last ∷ r.before) = cc in
    let parts = state_apart q.last r.last q.before r.before rest in
    ap (λ x. path x q.demerits q.last q.before) overhang ∙ ap (λ x. path r.overhang x q.last q.before) demerits
    ∙ ap (λ x. path r.overhang r.demerits x q.before) parts.0
    ∙ ap (λ x. path r.overhang r.demerits r.last x) (states_apart q.before r.before parts.1)
