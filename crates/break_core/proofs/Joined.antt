-- Only one list of breaks is chosen for a paragraph, in one pass; and bounds on trials at known places.
use Rattle.std.proofs.Common.{◌≡◌, ◌∙◌, ℕ, ◌<◌, ◌≤◌, true, false, cond, List, reverse, map, refl, ap, sym, subst}
use Rattle.std.proofs.Math.Logic.{◌⊎◌, inl, inr}
use Rattle.std.specs.Prelude.{if◌then◌else◌}
use Rattle.std.proofs.lemmas.Bool.{cases_Bool}
use Rattle.node_core.specs.declared.params.Params.{Params}
use Rattle.break_lines.specs.Problems.{Problem, Path, key, ends_of, places_of}
use Rattle.break_lines.specs.Chosen.{IsChosen}
use Rattle.break_lines.proofs.Dictionary.{not_after_antisym, key_apart}
use Rattle.break_core.specs.declared.broken.Pass.{Pass}
use Rattle.break_core.specs.declared.broken.Pass.TheVariants.{First, Second, Third}
use Rattle.break_core.specs.declared.broken.Breaks.{Breaks}
use Rattle.break_lines.specs.Legal.{is_forced}
use Rattle.break_lines.specs.Facts.{Facts}
use Rattle.break_core.specs.Passes.{problem_of, bound_of, line_end_at, IsBefore, IsBroken}
use Rattle.break_lines.specs.Steady.{IsSteady}
use Rattle.break_core.specs.Trials.{is_overfull, is_bounded, IsStop, places_up_to, AreBounded, AreSame}

-- Only one path is chosen.
one_path : (p : Problem) (q r : Path) → IsChosen p (places_of (ends_of q)) q → IsChosen p (places_of (ends_of r)) r → q ≡ r
one_path p q r left right =
    key_apart q r
    (not_after_antisym (key q) (key r) (left.least (places_of (ends_of r)) r right.is_list right.admitted)
    (right.least (places_of (ends_of q)) q left.is_list left.admitted))

-- One of two passes comes first, or they are the same.
order_of : (a b : Pass) → IsBefore a b ⊎ (IsBefore b a ⊎ (a ≡ b))
order_of First First = inr (inr refl)
order_of First Second = inl tt
order_of First Third = inl tt
order_of Second First = inr (inl tt)
order_of Second Second = inr (inr refl)
order_of Second Third = inl tt
order_of Third First = inr (inl tt)
order_of Third Second = inr (inl tt)
order_of Third Third = inr (inr refl)

-- The pass of a result is not before that of another one.
not_before : (facts : Facts) (params : Params) (a b : Breaks) → IsBroken facts params a → IsBroken facts params b → IsBefore a.pass b.pass → ⊥
not_before facts params a b left right before =
    right.earlier a.pass before (places_of (ends_of left.path)) left.path left.chosen.is_list left.chosen.admitted

pub one_answer : (facts : Facts) (params : Params) (a b : Breaks) → IsBroken facts params a → IsBroken facts params b → AreSame a b
one_answer facts params a b left right = cases (order_of a.pass b.pass)
  where
    same : a.pass ≡ b.pass → AreSame a b
    same pass =
        let chosen = subst (λ x. IsChosen (problem_of facts params (bound_of params x)) (places_of (ends_of left.path)) left.path) pass left.chosen in
        let one = one_path (problem_of facts params (bound_of params b.pass)) left.path right.path chosen right.chosen in
        record {
          lines = left.lines ∙ ap (λ q. map (line_end_at facts) (reverse (ends_of q))) one ∙ sym right.lines;
          pass = pass;
          overhang = left.overhang ∙ ap (λ q. q.overhang) one ∙ sym right.overhang;
          demerits = left.demerits ∙ ap (λ q. q.demerits) one ∙ sym right.demerits;
        }

    cases : IsBefore a.pass b.pass ⊎ (IsBefore b.pass a.pass ⊎ (a.pass ≡ b.pass)) → AreSame a b
    cases (inl before) = absurd (not_before facts params a b left right before)
    cases (inr (inl after)) = absurd (not_before facts params b a right left after)
    cases (inr (inr pass)) = same pass

pub up_to_forced :
    (facts : Facts) (params : Params) (passes : List Pass) (trials : ℕ → ℕ) → AreBounded facts params passes trials
    → (a l : ℕ) → a < l → l ≤ facts.places → is_forced (facts.penalty l) ≡ true → trials a ≤ places_up_to a (λ pass. l) passes
up_to_forced facts params passes trials bounded a l earlier within forced =
    bounded a (λ pass. l) (λ pass. inr (earlier, within, inl forced))

pub up_to_overfull :
    (facts : Facts) (params : Params) (passes : List Pass) (trials : ℕ → ℕ) → AreBounded facts params passes trials → IsSteady facts
    → (a b l : ℕ) → a < b → b ≤ facts.places → is_overfull facts params a b ≡ true
    → a < l → l ≤ facts.places → is_forced (facts.penalty l) ≡ true → trials a ≤ places_up_to a (λ pass. if is_bounded pass then b else l) passes
up_to_overfull facts params passes trials bounded steady a b l before short over earlier within forced =
    bounded a (λ pass. if is_bounded pass then b else l) (λ pass. stop pass (cases_Bool (is_bounded pass)))
  where
    stop : (pass : Pass) → (is_bounded pass ≡ true) ⊎ (is_bounded pass ≡ false) → IsStop facts params pass a (if is_bounded pass then b else l)
    stop pass (inl is) =
        let same : b ≡ cond (is_bounded pass) b l = ap (λ t. cond t b l) (sym is) in
        subst (λ n. IsStop facts params pass a n) same (inr (before, short, inr (steady, is, over)))
    stop pass (inr is) =
        let same : l ≡ cond (is_bounded pass) b l = ap (λ t. cond t b l) (sym is) in
        subst (λ n. IsStop facts params pass a n) same (inr (earlier, within, inl forced))
