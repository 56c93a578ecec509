-- The meaning with h and v in signed 32 bits, compared with the meaning without a range.
use Rattle.std.proofs.Common.{◌≡◌, ◌++◌, ◌&&◌, if◌then◌else◌, List, ℤ, Bool, true, false, Some, None, refl, sym, ◌∙◌, ap, subst}
use Rattle.std.specs.List.{AllByRecursion}
use Rattle.dvi_ops.specs.Body.{DviState, Meaning, Acts, in_range, kept_in, bounded_acts}
use Rattle.scaled_core.specs.Mark.{Mark}
use Rattle.dvi_ops.specs.Forest.{Forest, Empty, Then, Group, marks_before, and_then, restored_meaning, meaning, points_then, points, IsPoint}
use Rattle.scaled_core.proofs.EachOf.{all_append, all_front, all_back}

kept_at_point : (marks : List Mark) (s : DviState) → IsPoint (s.place.h, s.place.v) → kept_in (Some (marks, s)) ≡ Some (marks, s)
kept_at_point marks s (h, v) = rw (h, v) refl

then_same : (m : Meaning) (j k : DviState → Meaning) (next : DviState → List (ℤ × ℤ)) → AllByRecursion IsPoint (points_then m next) → ((t : DviState) → AllByRecursion IsPoint (next t) → j t ≡ k t) → and_then m j ≡ and_then m k
then_same None j k next all same = refl
then_same (Some (marks, t)) j k next (here, all) same = ap (marks_before marks) (same t all)

kept_same : (m : Meaning) (next : DviState → List (ℤ × ℤ)) → AllByRecursion IsPoint (points_then m next) → kept_in m ≡ m
kept_same None next all = refl
kept_same (Some (marks, t)) next (here, all) = kept_at_point marks t here

-- Where all places are in signed 32 bits, both meanings are equal.
pub meaning-kept : (does : Acts) (f : Forest) (s : DviState) → AllByRecursion IsPoint (points does f s) → meaning (bounded_acts does) f s ≡ meaning does f s
meaning-kept does Empty s all = refl
meaning-kept does (Then i f) s all =
    ap (λ (m : Meaning). and_then m (λ t. meaning (bounded_acts does) f t)) (kept_same (does i s) (λ t. points does f t) all)
    ∙ then_same (does i s) (λ t. meaning (bounded_acts does) f t) (λ t. meaning does f t) (λ t. points does f t) all (λ t later. meaning-kept does f t later)
meaning-kept does (Group inner f) s all =
    let next : DviState → List (ℤ × ℤ) = λ t. points does f t in
    let m = restored_meaning s.place (meaning does inner s) in
    ap (λ (m : Meaning). and_then (restored_meaning s.place m) (λ t. meaning (bounded_acts does) f t)) (meaning-kept does inner s (all_front IsPoint (points does inner s) (points_then m next) all))
    ∙ then_same m (λ t. meaning (bounded_acts does) f t) (λ t. meaning does f t) next (all_back IsPoint (points does inner s) (points_then m next) all) (λ t later. meaning-kept does f t later)

-- A meaning with marks added before it comes from a meaning.
from_before : (marks : List Mark) (m : Meaning) (out : List Mark × DviState) → marks_before marks m ≡ Some out → (last : List Mark × DviState)
    × (m ≡ Some last)
from_before marks None out e = absurd cc
from_before marks (Some last) out e = (last, refl)

-- The facts that a meaning within the range gives: without the range it is the same, and all its places are in the range.
Follows : (m : Meaning) (k : DviState → Meaning) (next : DviState → List (ℤ × ℤ)) (out : List Mark × DviState) → Type 0
Follows m k next out = (and_then m k ≡ Some out) × AllByRecursion IsPoint (points_then m next)

then_follows : (marks : List Mark) (t : DviState) (j k : DviState → Meaning) (next : DviState → List (ℤ × ℤ)) (out : List Mark × DviState)
    → IsPoint (t.place.h, t.place.v) → marks_before marks (j t) ≡ Some out →
    ((last : List Mark × DviState) → j t ≡ Some last → (k t ≡ Some last) × AllByRecursion IsPoint (next t)) → Follows (Some (marks, t)) k next out
unfolding Follows
then_follows marks t j k next out here e later =
    let found = from_before marks (j t) out e in let more = later found.0 found.1 in
    (ap (marks_before marks) (more.0 ∙ sym found.1) ∙ e, (here, more.1))

kept_follows : (m : Meaning) (j k : DviState → Meaning) (next : DviState → List (ℤ × ℤ)) (out : List Mark × DviState) → and_then (kept_in m) j ≡ Some out →
    ((t : DviState) (last : List Mark × DviState) → IsPoint (t.place.h, t.place.v) → j t ≡ Some last → (k t ≡ Some last) × AllByRecursion IsPoint (next t)) → Follows m k next out
unfolding Follows
kept_follows None j k next out e later = absurd cc
kept_follows (Some (marks, t)) j k next out e later = by_tests (in_range t.place.h) (in_range t.place.v) refl refl e
  where
    by_tests : (h v : Bool) → in_range t.place.h ≡ h → in_range t.place.v ≡ v → and_then (if h && v then Some (marks, t) else None) j ≡ Some out → Follows (Some (marks, t)) k next out
    by_tests true true h v e = then_follows marks t j k next out (h, v) e (λ last f. later t last (h, v) f)
    by_tests true false h v e = absurd cc
    by_tests false true h v e = absurd cc
    by_tests false false h v e = absurd cc

-- Where there is a meaning within the range, it equals the one without, and all places are in the range.
pub kept-meaning : (does : Acts) (f : Forest) (s : DviState) (out : List Mark × DviState) → IsPoint (s.place.h, s.place.v) → meaning (bounded_acts does) f s ≡ Some out →
    (meaning does f s ≡ Some out) × AllByRecursion IsPoint (points does f s)
unfolding Follows
kept-meaning does Empty s out here e = (e, tt)
kept-meaning does (Then i f) s out here e =
    kept_follows (does i s) (λ t. meaning (bounded_acts does) f t) (λ t. meaning does f t) (λ t. points does f t) out e (λ t last there later. kept-meaning does f t last there later)
kept-meaning does (Group inner f) s out here e =
    inside (meaning (bounded_acts does) inner s) refl e (λ last f. kept-meaning does inner s last here f) (λ t last there later. kept-meaning does f t last there later)
  where
    inside : (m : Meaning) → meaning (bounded_acts does) inner s ≡ m → and_then (restored_meaning s.place m) (λ t. meaning (bounded_acts does) f t) ≡ Some out →
        ((last : List Mark × DviState) → meaning (bounded_acts does) inner s ≡ Some last → (meaning does inner s ≡ Some last) × AllByRecursion IsPoint (points does inner s)) →
        ((t : DviState) (last : List Mark × DviState) → IsPoint (t.place.h, t.place.v) → meaning (bounded_acts does) f t ≡ Some last → (meaning does f t ≡ Some last) × AllByRecursion IsPoint (points does f t)) →
        (and_then (restored_meaning s.place (meaning does inner s)) (λ t. meaning does f t) ≡ Some out) × AllByRecursion IsPoint (points does inner s ++ points_then (restored_meaning s.place (meaning does inner s)) (λ t. points does f t))
    inside None is e first later = absurd cc
    inside (Some (marks, t)) is e first later =
        let found = first (marks, t) is in
        let after : DviState = record { place = s.place; font = t.font } in
        let following = then_follows marks after (λ t. meaning (bounded_acts does) f t) (λ t. meaning does f t) (λ t. points does f t) out here e (λ last g. later after last here g) in (
          ap (λ (m : Meaning). and_then (restored_meaning s.place m) (λ t. meaning does f t)) found.0 ∙ following.0,
          all_append IsPoint (points does inner s) (points_then (restored_meaning s.place (meaning does inner s)) (λ t. points does f t)) found.1
              (subst (λ (m : Meaning). AllByRecursion IsPoint (points_then (restored_meaning s.place m) (λ t. points does f t))) (sym found.0) following.1),
        )
