-- Entries are compared number by number.
use Rattle.std.proofs.Common.{◌≡◌, [], ◌∷◌, subst}
use Rattle.std.proofs.Math.Logic.{inl, inr}
use Rattle.std.specs.Prelude.{◌<ℤ◌}
use Rattle.break_lines.specs.declared.state.BreakState.{BreakState}
use Rattle.break_lines.specs.Orders.{NotAfter}
use Rattle.break_lines.specs.Problems.{tie_numbers}
use Rattle.break_lines.specs.Tables.{Entry, compared_numbers, IsFirst}
use Rattle.break_lines.proofs.Dictionary.{not_after_refl, not_after_later}

pub first_demerits : (a b : Entry) → a.overhang ≡ b.overhang → a.demerits <ℤ b.demerits → NotAfter (compared_numbers a) (compared_numbers b)
first_demerits a b overhang demerits = inr (overhang, inl demerits)

pub first_end :
    (a b : Entry) (s t : BreakState) → a.overhang ≡ b.overhang → a.demerits ≡ b.demerits → s ≡ a.end → t ≡ b.end → IsFirst s t → NotAfter (compared_numbers a) (compared_numbers b)
first_end a b s t overhang demerits is_s is_t h =
    inr (
      overhang,
      inr (
        demerits,
        subst (λ x. NotAfter (tie_numbers (x ∷ a.from ∷ [])) (tie_numbers (b.end ∷ b.from ∷ []))) is_s
            (subst (λ y. NotAfter (tie_numbers (s ∷ a.from ∷ [])) (tie_numbers (y ∷ b.from ∷ []))) is_t
            (h (tie_numbers (a.from ∷ [])) (tie_numbers (b.from ∷ [])))),
      ),
    )

pub first_from :
    (a b : Entry) (s t : BreakState)
    → a.overhang ≡ b.overhang → a.demerits ≡ b.demerits → a.end ≡ b.end → s ≡ a.from → t ≡ b.from → IsFirst s t → NotAfter (compared_numbers a) (compared_numbers b)
first_from a b s t overhang demerits end is_s is_t h =
    inr (
      overhang,
      inr (
        demerits,
        subst (λ x. NotAfter (tie_numbers (a.end ∷ a.from ∷ [])) (tie_numbers (x ∷ b.from ∷ []))) end
            (not_after_later (tie_numbers (a.end ∷ [])) (tie_numbers (a.from ∷ [])) (tie_numbers (b.from ∷ []))
            (subst (λ x. NotAfter (tie_numbers (x ∷ [])) (tie_numbers (b.from ∷ []))) is_s
            (subst (λ y. NotAfter (tie_numbers (s ∷ [])) (tie_numbers (y ∷ []))) is_t (h [] [])))),
      ),
    )

pub first_same :
    (a b : Entry) → a.overhang ≡ b.overhang → a.demerits ≡ b.demerits → a.end ≡ b.end → a.from ≡ b.from → NotAfter (compared_numbers a) (compared_numbers b)
first_same a b overhang demerits end from =
    inr (
      overhang,
      inr (
        demerits,
        subst (λ s. NotAfter (tie_numbers (a.end ∷ a.from ∷ [])) (tie_numbers (s ∷ b.from ∷ []))) end
            (subst (λ s. NotAfter (tie_numbers (a.end ∷ a.from ∷ [])) (tie_numbers (a.end ∷ s ∷ []))) from
            (not_after_refl (tie_numbers (a.end ∷ a.from ∷ [])))),
      ),
    )
