-- What is shaped at the beginning of a text.
use Rattle.std.proofs.Common.{◌≡◌, ℕ, zero, suc, ◌<◌, ◌≤◌, Bool, true, false, not, List, [], ◌∷◌, Option, Some, None, length, take, drop, get_or, refl, ap, sym, ◌∙◌, arith}
use Rattle.std.specs.Prelude.{slice_get}
use Rattle.std.specs.List.{prefix_len}
use Rattle.std.proofs.lemmas.Bool.{eq-eqb, ne_eqb}
use Rattle.std.proofs.lemmas.List.{get_or-take, length-take}
use Rattle.std.proofs.lemmas.Option.{same_Some}
use Rattle.scaled_core.specs.declared.sizes.Sizes.{Sizes}
use Rattle.tfm_core.specs.declared.font.Step.{Step}
use Rattle.shape_core.specs.Private.Fronts.{first_part, front_of}
use Rattle.shape_core.specs.Shaping.{items_from, missing_from, shaped_items, shaped_missing}
use Rattle.shape_core.specs.Texts.{spaces, word, is_other}
use Rattle.shape_core.specs.Private.Texts.{part_length}
use Rattle.shape_core.proofs.TextLemmas.{passes, stops, take_next, prefix_len-le-length, part_length-some, part_length-within, part_length-of_space, part_length-of_word, part_of-spaces, part_of-word}

before-other : (d : ℕ) (text : List ℕ) → is_other d ≡ true → take (prefix_len is_other (d ∷ text)) (d ∷ text) ≡ d ∷ take (prefix_len is_other text) text
before-other d text e = ap (λ n. take n (d ∷ text)) (passes is_other d text e) ∙ take_next (prefix_len is_other text) d text

before-space : (d : ℕ) (text : List ℕ) → is_other d ≡ false → take (prefix_len is_other (d ∷ text)) (d ∷ text) ≡ []
before-space d text e = ap (λ n. take n (d ∷ text)) (stops is_other d text e)

-- An index past the end.
taken-none : (n : ℕ) (text : List ℕ) (i : ℕ) → slice_get text i ≡ None → slice_get (take n text) i ≡ None
taken-none zero text i h = refl
taken-none (suc n) [] i h = refl
taken-none (suc n) (d ∷ text) zero h = absurd (cc)
taken-none (suc n) (d ∷ text) (suc i) h = taken-none n text i h

pub front-none : (until_space : Bool) (text : List ℕ) (i : ℕ) → slice_get text i ≡ None → slice_get (front_of until_space text) i ≡ None
unfolding front_of
front-none true text i h = taken-none (prefix_len is_other text) text i h
front-none false text i h = h

pub ended : (xs : List ℕ) (i : ℕ) → slice_get xs i ≡ None → length xs ≤ i
ended [] i h = omega arith
ended (x ∷ xs) zero h = absurd (cc)
ended (x ∷ xs) (suc i) h = omega (arith, ended xs i h)

-- A space ends the front.
space-by : (d : ℕ) (text : List ℕ) (i : ℕ) (b : Bool) → is_other d ≡ b → slice_get (take (prefix_len is_other text) text) i ≡ None → slice_get (take (prefix_len is_other (d ∷ text)) (d ∷ text)) (suc i) ≡ None
space-by d text i true o later = ap (λ xs. slice_get xs (suc i)) (before-other d text o) ∙ later
space-by d text i false o later = ap (λ xs. slice_get xs (suc i)) (before-space d text o)

space-ends : (text : List ℕ) (i c : ℕ) → slice_get text i ≡ Some c → is_other c ≡ false → slice_get (take (prefix_len is_other text) text) i ≡ None
space-ends [] i c h e = refl
space-ends (d ∷ text) zero c h e =
    ap (λ xs. slice_get xs zero) (before-space d text (ap is_other (same_Some d c h) ∙ e))
space-ends (d ∷ text) (suc i) c h e = space-by d text i (is_other d) refl (space-ends text i c h e)

pub front-space : (until_space : Bool) (text : List ℕ) (i c : ℕ) → until_space ≡ true → slice_get text i ≡ Some c → c ≡ 32 → slice_get (front_of until_space text) i ≡ None
unfolding front_of
front-space true text i c on h e = space-ends text i c h (ap not (eq-eqb c 32 e))
front-space false text i c on h e = absurd (cc)

-- Another character goes on.
other-by :
    (d : ℕ) (text : List ℕ) (i c : ℕ) (b : Bool) → is_other d ≡ b → suc i ≤ length (take (prefix_len is_other (d ∷ text)) (d ∷ text))
    → (i ≤ length (take (prefix_len is_other text) text) → slice_get (take (prefix_len is_other text) text) i ≡ Some c)
    → slice_get (take (prefix_len is_other (d ∷ text)) (d ∷ text)) (suc i) ≡ Some c
other-by d text i c true o within later =
    let long : length (take (prefix_len is_other (d ∷ text)) (d ∷ text)) ≡ suc (length (take (prefix_len is_other text) text)) = ap length (before-other d text o) in
    ap (λ xs. slice_get xs (suc i)) (before-other d text o) ∙ later (omega (arith, within, long))
other-by d text i c false o within later =
    let none : length (take (prefix_len is_other (d ∷ text)) (d ∷ text)) ≡ 0 = ap length (before-space d text o) in
    absurd (omega (arith, within, none))

other-stays : (text : List ℕ) (i c : ℕ) → i ≤ length (take (prefix_len is_other text) text) → slice_get text i ≡ Some c → is_other c ≡ true → slice_get (take (prefix_len is_other text) text) i ≡ Some c
other-stays [] i c within h e = absurd (cc)
other-stays (d ∷ text) zero c within h e =
    ap (λ xs. slice_get xs zero) (before-other d text (ap is_other (same_Some d c h) ∙ e)) ∙ h
other-stays (d ∷ text) (suc i) c within h e = other-by d text i c (is_other d) refl within (λ w. other-stays text i c w h e)

pub front-other : (until_space : Bool) (text : List ℕ) (i c : ℕ) → i ≤ length (front_of until_space text) → slice_get text i ≡ Some c → (until_space ≡ true → c ≡ 32 → ⊥) → slice_get (front_of until_space text) i ≡ Some c
unfolding front_of
front-other true text i c within h other = other-stays text i c within h (ap not (ne_eqb c 32 (other refl)))
front-other false text i c within h other = h

pub front-whole : (text : List ℕ) → front_of false text ≡ text
unfolding front_of
front-whole text = refl

-- The first character.
taken-head : (n : ℕ) (text : List ℕ) → 0 < length (take n text) → get_or text 0 0 ≡ get_or (take n text) 0 0
taken-head zero text some = absurd (omega arith)
taken-head (suc n) [] some = refl
taken-head (suc n) (d ∷ text) some = refl

front-head : (until_space : Bool) (text : List ℕ) → 0 < length (front_of until_space text) → get_or text 0 0 ≡ get_or (front_of until_space text) 0 0
unfolding front_of
front-head true text some = taken-head (prefix_len is_other text) text some
front-head false text some = refl

items-start : (slot : ℕ) (sizes : ℕ → Option Sizes) (steps : ℕ → ℕ → Option Step) (front : List ℕ) → 0 < length front
    → shaped_items slot sizes steps front ≡ items_from slot sizes steps (get_or front 0 0) (drop 1 front)
items-start slot sizes steps [] some = absurd (omega arith)
items-start slot sizes steps (c ∷ front) some = refl

missing-start : (sizes : ℕ → Option Sizes) (steps : ℕ → ℕ → Option Step) (front : List ℕ) → 0 < length front
    → shaped_missing sizes steps front ≡ missing_from sizes steps (get_or front 0 0) (drop 1 front)
missing-start sizes steps [] some = absurd (omega arith)
missing-start sizes steps (c ∷ front) some = refl

pub front-items : (slot : ℕ) (sizes : ℕ → Option Sizes) (steps : ℕ → ℕ → Option Step) (until_space : Bool) (text : List ℕ)
    → 0 < length (front_of until_space text)
    → shaped_items slot sizes steps (front_of until_space text) ≡ items_from slot sizes steps (get_or text 0 0)
    (drop 1 (front_of until_space text))
front-items slot sizes steps until_space text some =
    items-start slot sizes steps (front_of until_space text) some
    ∙ ap (λ c. items_from slot sizes steps c (drop 1 (front_of until_space text))) (sym (front-head until_space text some))

pub front-missing : (sizes : ℕ → Option Sizes) (steps : ℕ → ℕ → Option Step) (until_space : Bool) (text : List ℕ)
    → 0 < length (front_of until_space text)
    → shaped_missing sizes steps (front_of until_space text) ≡ missing_from sizes steps (get_or text 0 0) (drop 1 (front_of until_space text))
front-missing sizes steps until_space text some =
    missing-start sizes steps (front_of until_space text) some
    ∙ ap (λ c. missing_from sizes steps c (drop 1 (front_of until_space text))) (sym (front-head until_space text some))

pub front-within : (until_space : Bool) (text : List ℕ) → length (front_of until_space text) ≤ length text
unfolding front_of
front-within true text = omega (arith, length-take (prefix_len is_other text) text)
front-within false text = omega arith

pub front-some : (until_space : Bool) (text : List ℕ) → 0 < length (front_of until_space text) → 0 < length text
front-some until_space text some = omega (arith, some, front-within until_space text)

-- The first part of a text.
pub first_part-spaces : (text : List ℕ) → 0 < length text → get_or text 0 0 ≡ 32 → first_part text ≡ spaces
first_part-spaces text some e =
    let n : ℕ = part_length text in
    let long : 0 < length (take n text) = omega (arith, part_length-some text some, part_length-within text, length-take n text) in
    part_of-spaces (take n text) long (get_or-take n text 0 0 (part_length-some text some) ∙ e)

front-word : (text : List ℕ) → 0 < length text → (get_or text 0 0 ≡ 32 → ⊥) → take (part_length text) text ≡ front_of true text
unfolding front_of
front-word text some other = ap (λ n. take n text) (part_length-of_word text some other)

pub first_part-word : (text : List ℕ) → 0 < length text → (get_or text 0 0 ≡ 32 → ⊥) → first_part text ≡ word (front_of true text)
first_part-word text some other =
    let n : ℕ = part_length text in
    let long : 0 < length (take n text) = omega (arith, part_length-some text some, part_length-within text, length-take n text) in
    part_of-word (take n text) long (λ e. other (sym (get_or-take n text 0 0 (part_length-some text some)) ∙ e))
    ∙ ap word (front-word text some other)

pub word_length : (text : List ℕ) → 0 < length text → (get_or text 0 0 ≡ 32 → ⊥) → length (front_of true text) ≡ part_length text
word_length text some other =
    let same : length (take (part_length text) text) ≡ length (front_of true text) = ap length (front-word text some other) in
    omega (arith, same, part_length-within text, length-take (part_length text) text)

pub word_some : (text : List ℕ) → 0 < length text → (get_or text 0 0 ≡ 32 → ⊥) → 0 < length (front_of true text)
word_some text some other = omega (arith, word_length text some other, part_length-some text some)

pub ruleset starts = (front-some, front-within)

pub ruleset wholes = (front-whole)

pub ruleset parts = (first_part-spaces, first_part-word, word_length, word_some, part_length-some, part_length-within, part_length-of_space)
