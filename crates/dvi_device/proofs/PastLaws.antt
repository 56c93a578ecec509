-- The past of a device, call by call.
use Rattle.std.proofs.Common.{◌≡◌, ◌⊎◌, ℕ, ◌+◌, ◌<◌, List, [], ◌∷◌, ◌++◌, inl, inr, length, drop, ap, sym, subst, ◌∙◌, arith, length-append, length-drop, length-take}
use Rattle.std.specs.Prelude.{get_or, Ok, Err}
use Rattle.std.proofs.lemmas.List.{drop-drop, drop_all, get_or-drop, get_or-take}
use Rattle.std.proofs.Math.Seq.{drop-append_seam}
use Rattle.dvi_device.specs.Written.{IsFrontOf}
use Rattle.dvi_device.specs.Pasts.{Past, past_after, Differs, Compares, KeepsPast}

-- Texts whose ends differ after n bytes differ.
pub differs_after : (one other : List ℕ) (n : ℕ) → Differs (drop n one) (drop n other) → Differs one other
differs_after one other n (k, in_one, in_other, apart) = (
  n + k,
  omega (arith, in_one, length-drop n one),
  omega (arith, in_other, length-drop n other),
  λ same. apart (get_or-drop n one k 0 ∙ (same ∙ sym (get_or-drop n other k 0))),
)

-- Two beginnings of one file do not differ.
pub no_difference : (one other file : List ℕ) → IsFrontOf one file → IsFrontOf other file → Differs one other → ⊥
no_difference one other file (a, one_is) (b, other_is) (k, in_one, in_other, apart) =
    let within_a : k < a = omega (arith, in_one, ap length one_is, length-take a file) in
    let within_b : k < b = omega (arith, in_other, ap length other_is, length-take b file) in
    apart (ap (λ (xs : List ℕ). get_or xs k 0) one_is
    ∙ (get_or-take a file k 0 within_a ∙ (sym (get_or-take b file k 0 within_b) ∙ sym (ap (λ (xs : List ℕ). get_or xs k 0) other_is))))

-- A call that took n bytes has met as many of those that were left.
pub met_by : (E : Type 0) (left piece : List ℕ) (n : ℕ) (old new : Past) → left ≡ old.left → Compares {E = E} left piece (Ok n) old new → new ≡ record old { left = drop n old.left }
met_by E [] piece n old new is goes =
    goes ∙ ap (λ (l : List ℕ). record old { left = l }) (sym is ∙ (sym (drop_all n [] (omega arith)) ∙ ap (drop n) is))
met_by E (byte ∷ left) piece n old new is (fits, same, goes) = goes ∙ ap (λ (l : List ℕ). record old { left = drop n l }) is

-- A call that failed.
pub failed_by : {E : Type 0} (fault : E) (left piece : List ℕ) (old new : Past) → left ≡ old.left → 0 < length piece → Compares left piece (Err fault) old new → KeepsPast old piece new
failed_by fault [] piece old new is some goes = record { made = ap (λ (p : Past). p.made) goes; own = inl (ap (λ (p : Past). p.differing) goes) }
failed_by fault (byte ∷ left) piece old new is some (apart, goes) = record {
  made = ap (λ (p : Past). p.made) goes;
  own = inr (
    ap (λ (p : Past). p.differing) goes,
    subst (λ (l : List ℕ). Differs l piece) is (0, omega arith, some, λ same. apart (sym same)),
  );
}

-- Bytes that are met after others.
pub met_again : (old middle new : Past) (s n : ℕ) → middle ≡ record old { left = drop s old.left } → new ≡ record middle { left = drop n middle.left } → new ≡ record old { left = drop (s + n) old.left }
met_again old middle new s n is goes =
    goes ∙ (ap (λ (p : Past). record p { left = drop n p.left }) is ∙ ap (λ (l : List ℕ). record old { left = l }) (drop-drop n s old.left))

-- A failure after n bytes.
pub keeps_after : (old middle new : Past) (bytes : List ℕ) (n : ℕ) → middle ≡ record old { left = drop n old.left } → KeepsPast middle (drop n bytes) new → KeepsPast old bytes new
keeps_after old middle new bytes n is keeps = record { made = keeps.made ∙ ap (λ (p : Past). p.made) is; own = by_case keeps.own }
  where
    by_case : (new.differing ≡ middle.differing) ⊎ ((new.differing ≡ middle.differing + 1) × Differs middle.left (drop n bytes))
        → (new.differing ≡ old.differing) ⊎ ((new.differing ≡ old.differing + 1) × Differs old.left bytes)
    by_case (inl same) = inl (same ∙ ap (λ (p : Past). p.differing) is)
    by_case (inr (more, apart)) = inr (
      more ∙ ap (λ (p : Past). p.differing + 1) is,
      differs_after old.left bytes n (subst (λ (l : List ℕ). Differs l (drop n bytes)) (ap (λ (p : Past). p.left) is) apart),
    )

-- The past after two texts.
pub past_after_both : (old middle new : Past) (a b : List ℕ) → middle ≡ past_after old a → new ≡ past_after middle b → new ≡ past_after old (a ++ b)
past_after_both old middle new a b is goes =
    met_again old middle new (length a) (length b) is goes ∙ ap (λ (n : ℕ). record old { left = drop n old.left }) (sym (length-append a b))

-- A failure in the second of two texts.
pub keeps_both : (old middle new : Past) (a b : List ℕ) → middle ≡ past_after old a → KeepsPast middle b new → KeepsPast old (a ++ b) new
keeps_both old middle new a b is keeps =
    keeps_after old middle new (a ++ b) (length a) is (subst (λ (bytes : List ℕ). KeepsPast middle bytes new) (sym (drop-append_seam a b)) keeps)

-- Bytes that were taken leave no own failure.
pub keeps_taken : (old new : Past) (bytes all : List ℕ) → new ≡ past_after old bytes → KeepsPast old all new
keeps_taken old new bytes all is = record { made = ap (λ (p : Past). p.made) is; own = inl (ap (λ (p : Past). p.differing) is) }
