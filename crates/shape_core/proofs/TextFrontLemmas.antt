-- A character before the rest of a text.
use Rattle.std.proofs.Common.{◌≡◌, ◌≢◌, ℕ, ◌+◌, ◌-◌, ◌++◌, ◌<◌, Bool, true, false, List, [], ◌∷◌, Option, Some, None, length, take, drop, get_or, refl, ap, sym, ◌∙◌, take-append-drop, arith, append_assoc, append-nil}
use Rattle.std.specs.List.{flat_map, prefix_len, sum_by}
use Rattle.std.proofs.lemmas.Bool.{eq-eqb, ne_eqb}
use Rattle.std.proofs.Math.ListN.{drop_of_length-le}
use Rattle.std.proofs.lemmas.List.{drop_more}
use Rattle.std.proofs.lemmas.List.Sums.{sum_by-cons}
use Rattle.scaled_core.proofs.Appending.{front_kept}
use Rattle.node_core.specs.declared.tree.Glue.{Glue}
use Rattle.node_core.specs.declared.tree.Node.{Node}
use Rattle.node_core.specs.declared.tree.Node.TheVariants as node
use Rattle.scaled_core.specs.declared.sizes.Sizes.{Sizes}
use Rattle.tfm_core.specs.declared.font.Step.{Step}
use Rattle.shape_core.specs.declared.word.Outcome.{Outcome}
use Rattle.shape_core.specs.Shaping.{items_from, missing_from, outcome_at, outcome_items, outcome_missing, outcome_next}
use Rattle.shape_core.specs.Texts.{TextPart, spaces, word, is_other, is_space, parts_with, part_items, part_missing, parts_of, text_items, text_missing}
use Rattle.shape_core.proofs.TextLemmas.{before_spaces, before_word, parts_of-word, text_items-none, text_missing-none}

join_spaces : (c d : ℕ) (parts : List TextPart) → parts_with c true (parts_with d true parts) ≡ parts_with d true parts
join_spaces c d [] = refl
join_spaces c d (spaces ∷ parts) = refl
join_spaces c d ((word w) ∷ parts) = refl

-- The parts of a text after its first two characters, by what these are.
with_both : (c d : ℕ) (text : List ℕ) (a b : Bool) → is_space c ≡ a → is_space d ≡ b → parts_of (c ∷ d ∷ text) ≡ parts_with c a (parts_with d b (parts_of text))
with_both c d text a b h g =
    ap (λ x. parts_with c x (parts_of (d ∷ text))) h ∙ ap (λ x. parts_with c a (parts_with d x (parts_of text))) g

with_one : (d : ℕ) (text : List ℕ) (b : Bool) → is_space d ≡ b → parts_of (d ∷ text) ≡ parts_with d b (parts_of text)
with_one d text b g = ap (λ x. parts_with d x (parts_of text)) g

parts-spaces : (c d : ℕ) (text : List ℕ) → c ≡ 32 → d ≡ 32 → parts_of (c ∷ d ∷ text) ≡ parts_of (d ∷ text)
parts-spaces c d text e f =
    with_both c d text true true (eq-eqb c 32 e) (eq-eqb d 32 f) ∙ join_spaces c d (parts_of text) ∙ sym (with_one d text true (eq-eqb d 32 f))

parts-glue : (c d : ℕ) (text : List ℕ) → c ≡ 32 → d ≢ 32 → parts_of (c ∷ d ∷ text) ≡ spaces ∷ parts_of (d ∷ text)
parts-glue c d text e f =
    with_both c d text true false (eq-eqb c 32 e) (ne_eqb d 32 f) ∙ before_word c d (parts_of text)
    ∙ ap (λ parts. spaces ∷ parts) (sym (with_one d text false (ne_eqb d 32 f)))

parts-last : (c d : ℕ) (text : List ℕ) → c ≢ 32 → d ≡ 32 → parts_of (c ∷ d ∷ text) ≡ word (c ∷ []) ∷ parts_of (d ∷ text)
parts-last c d text e f =
    with_both c d text false true (ne_eqb c 32 e) (eq-eqb d 32 f) ∙ before_spaces c d (parts_of text)
    ∙ ap (λ parts. word (c ∷ []) ∷ parts) (sym (with_one d text true (eq-eqb d 32 f)))

-- The rest of the word that begins a text, and the text after it.
abbrev rest_of_word : List ℕ → List ℕ
rest_of_word text = take (prefix_len is_other text) text

abbrev after_word : List ℕ → List ℕ
after_word text = drop (prefix_len is_other text) text

parts-next : (c d : ℕ) (text : List ℕ) → c ≢ 32 → d ≢ 32 → parts_of (c ∷ d ∷ text) ≡ word (c ∷ d ∷ rest_of_word text) ∷ parts_of (after_word text)
parts-next c d text e f =
    ap (λ x. parts_with c x (parts_of (d ∷ text))) (ne_eqb c 32 e)
    ∙ ap (parts_with c false) (parts_of-word d text (ne_eqb d 32 f))

-- The items of a text after its first character, by what the first two are.
module _ (slot : ℕ) (sizes : ℕ → Option Sizes) (steps : ℕ → ℕ → Option Step) (blank : Glue) (c d : ℕ) (text : List ℕ) where
  pub items-spaces : c ≡ 32 → d ≡ 32 → text_items slot sizes steps blank (c ∷ d ∷ text) ≡ text_items slot sizes steps blank (d ∷ text)
  unfolding text_items
  items-spaces e f = ap (flat_map (part_items slot sizes steps blank)) (parts-spaces c d text e f)

  pub items-glue : c ≡ 32 → d ≢ 32 → text_items slot sizes steps blank (c ∷ d ∷ text) ≡ node.Glue blank ∷ text_items slot sizes steps blank (d ∷ text)
  unfolding text_items
  items-glue e f = ap (flat_map (part_items slot sizes steps blank)) (parts-glue c d text e f)

  pub items-last : c ≢ 32 → d ≡ 32 → text_items slot sizes steps blank (c ∷ d ∷ text)
      ≡ outcome_items slot c (outcome_at sizes steps c None) ++ text_items slot sizes steps blank (d ∷ text)
  unfolding text_items
  items-last e f = ap (flat_map (part_items slot sizes steps blank)) (parts-last c d text e f)

  pub items-next : (o : Outcome) → c ≢ 32 → d ≢ 32 → o ≡ outcome_at sizes steps c (Some d) → outcome_next d o ≡ d
      → text_items slot sizes steps blank (c ∷ d ∷ text) ≡ outcome_items slot c o ++ text_items slot sizes steps blank (d ∷ text)
  unfolding text_items
  items-next o e f at next =
      let later : List Node = flat_map (part_items slot sizes steps blank) (parts_of (after_word text)) in
      ap (flat_map (part_items slot sizes steps blank)) (parts-next c d text e f)
      ∙ ap (λ o. (outcome_items slot c o ++ items_from slot sizes steps (outcome_next d o) (rest_of_word text)) ++ later) (sym at)
      ∙ ap (λ n. (outcome_items slot c o ++ items_from slot sizes steps n (rest_of_word text)) ++ later) next
      ∙ append_assoc (outcome_items slot c o) (items_from slot sizes steps d (rest_of_word text)) later
      ∙ ap (λ parts. outcome_items slot c o ++ flat_map (part_items slot sizes steps blank) parts) (sym (parts_of-word d text (ne_eqb d 32 f)))

-- The number of missing characters likewise.
module _ (sizes : ℕ → Option Sizes) (steps : ℕ → ℕ → Option Step) (c d : ℕ) (text : List ℕ) where
  pub missing-spaces : c ≡ 32 → d ≡ 32 → text_missing sizes steps (c ∷ d ∷ text) ≡ text_missing sizes steps (d ∷ text)
  unfolding text_missing
  missing-spaces e f = ap (sum_by (part_missing sizes steps)) (parts-spaces c d text e f)

  pub missing-glue : c ≡ 32 → d ≢ 32 → text_missing sizes steps (c ∷ d ∷ text) ≡ text_missing sizes steps (d ∷ text)
  unfolding text_missing
  missing-glue e f =
      ap (sum_by (part_missing sizes steps)) (parts-glue c d text e f) ∙ sum_by-cons (part_missing sizes steps) spaces (parts_of (d ∷ text)) ∙ omega arith

  pub missing-last : c ≢ 32 → d ≡ 32 → text_missing sizes steps (c ∷ d ∷ text)
      ≡ outcome_missing (outcome_at sizes steps c None) + text_missing sizes steps (d ∷ text)
  unfolding text_missing
  missing-last e f =
      ap (sum_by (part_missing sizes steps)) (parts-last c d text e f) ∙ sum_by-cons (part_missing sizes steps) (word (c ∷ [])) (parts_of (d ∷ text))

  pub missing-next : (o : Outcome) → c ≢ 32 → d ≢ 32 → o ≡ outcome_at sizes steps c (Some d) → outcome_next d o ≡ d
      → text_missing sizes steps (c ∷ d ∷ text) ≡ outcome_missing o + text_missing sizes steps (d ∷ text)
  unfolding text_missing
  missing-next o e f at next =
      let later : ℕ = sum_by (part_missing sizes steps) (parts_of (after_word text)) in
      let whole : sum_by (part_missing sizes steps) (parts_of (c ∷ d ∷ text))
      ≡ (outcome_missing o + missing_from sizes steps d (rest_of_word text)) + later =
      ap (sum_by (part_missing sizes steps)) (parts-next c d text e f)
      ∙ sum_by-cons (part_missing sizes steps) (word (c ∷ d ∷ rest_of_word text)) (parts_of (after_word text))
      ∙ ap (λ o. (outcome_missing o + missing_from sizes steps (outcome_next d o) (rest_of_word text)) + later) (sym at)
      ∙ ap (λ n. (outcome_missing o + missing_from sizes steps n (rest_of_word text)) + later) next in
      let rest : sum_by (part_missing sizes steps) (parts_of (d ∷ text)) ≡ missing_from sizes steps d (rest_of_word text) + later =
      ap (sum_by (part_missing sizes steps)) (parts_of-word d text (ne_eqb d 32 f))
      ∙ sum_by-cons (part_missing sizes steps) (word (d ∷ rest_of_word text)) (parts_of (after_word text)) in
      omega (arith, whole, rest)

-- A text of one character.
module _ (slot : ℕ) (sizes : ℕ → Option Sizes) (steps : ℕ → ℕ → Option Step) (blank : Glue) (c : ℕ) where
  pub items-glue_alone : c ≡ 32 → text_items slot sizes steps blank (c ∷ []) ≡ node.Glue blank ∷ []
  unfolding text_items
  items-glue_alone e = ap (λ b. flat_map (part_items slot sizes steps blank) (parts_with c b [])) (eq-eqb c 32 e)

  pub items-alone : c ≢ 32 → text_items slot sizes steps blank (c ∷ []) ≡ outcome_items slot c (outcome_at sizes steps c None)
  unfolding text_items
  items-alone e =
      ap (λ b. flat_map (part_items slot sizes steps blank) (parts_with c b [])) (ne_eqb c 32 e)
      ∙ append-nil (outcome_items slot c (outcome_at sizes steps c None))

  pub missing-glue_alone : c ≡ 32 → text_missing sizes steps (c ∷ []) ≡ 0
  unfolding text_missing
  missing-glue_alone e = ap (λ b. sum_by (part_missing sizes steps) (parts_with c b [])) (eq-eqb c 32 e)

  pub missing-alone : c ≢ 32 → text_missing sizes steps (c ∷ []) ≡ outcome_missing (outcome_at sizes steps c None)
  unfolding text_missing
  missing-alone e = ap (λ b. sum_by (part_missing sizes steps) (parts_with c b [])) (ne_eqb c 32 e) ∙ omega arith

-- Items were appended that the rest of a text is after.
pub appended : (old new items rest whole : List Node) → new ≡ old ++ items → whole ≡ items ++ rest → new ++ rest ≡ old ++ whole
appended old new items rest whole n w = ap (λ xs. xs ++ rest) n ∙ append_assoc old items rest ∙ ap (λ xs. old ++ xs) (sym w)

-- The text from the character before index i on, and from that one on.
pub from_before : (text : List ℕ) (i c : ℕ) → 0 < i → i < length text → c ≡ get_or text (i - 1) 0
    → drop (i - 1) text ≡ c ∷ get_or text i 0 ∷ drop (i + 1) text
from_before text i c some within is =
    let next : i - 1 + 1 ≡ i = omega (arith, some) in
    drop_more text (i - 1) 0 (omega (arith, some, within)) ∙ ap (λ n. get_or text (i - 1) 0 ∷ drop n text) next
    ∙ ap (λ xs. get_or text (i - 1) 0 ∷ xs) (drop_more text i 0 within)
    ∙ ap (λ x. x ∷ get_or text i 0 ∷ drop (i + 1) text) (sym is)

pub from_next : (text : List ℕ) (i : ℕ) → i < length text → drop (i + 1 - 1) text ≡ get_or text i 0 ∷ drop (i + 1) text
from_next text i within =
    let next : i + 1 - 1 ≡ i = omega arith in
    ap (λ n. drop n text) next ∙ drop_more text i 0 within

-- What comes first in a list stays there while items are appended.
pub kept_before : (old now new : List Node) → take (length old) now ≡ old → take (length now) new ≡ now → take (length old) new ≡ old
kept_before old now new held kept =
    let rest : List Node = drop (length now) new in
    front_kept old now rest new held (sym (take-append-drop (length now) new) ∙ ap (λ xs. xs ++ rest) kept)

-- The last character of a text, and what is after it.
pub from_last : (text : List ℕ) (i : ℕ) → i < length text → i + 1 ≡ length text → drop i text ≡ get_or text i 0 ∷ []
from_last text i within last = drop_more text i 0 within ∙ ap (λ xs. get_or text i 0 ∷ xs) (drop_of_length-le text (omega (arith, last)))

pub after_last : (text : List ℕ) (i : ℕ) → i + 1 ≡ length text → drop (i + 1) text ≡ []
after_last text i last = drop_of_length-le text (omega (arith, last))

module _ (slot : ℕ) (sizes : ℕ → Option Sizes) (steps : ℕ → ℕ → Option Step) (blank : Glue) where
  pub last-items : (text : List ℕ) (i : ℕ) (old new : List Node) → i < length text → i + 1 ≡ length text
      → new ≡ old ++ text_items slot sizes steps blank (get_or text i 0 ∷ [])
      → new ++ text_items slot sizes steps blank (drop (i + 1) text) ≡ old ++ text_items slot sizes steps blank (drop i text)
  last-items text i old new within last e =
      ap (λ xs. new ++ xs) (ap (text_items slot sizes steps blank) (after_last text i last) ∙ text_items-none slot sizes steps blank [] refl)
      ∙ append-nil new ∙ e ∙ ap (λ t. old ++ text_items slot sizes steps blank t) (sym (from_last text i within last))

  pub last-missing : (text : List ℕ) (i : ℕ) → i < length text → i + 1 ≡ length text → text_missing sizes steps (get_or text i 0 ∷ []) ≡ 0
      → text_missing sizes steps (drop (i + 1) text) ≡ text_missing sizes steps (drop i text)
  last-missing text i within last e =
      ap (text_missing sizes steps) (after_last text i last) ∙ text_missing-none sizes steps [] refl ∙ sym e
      ∙ ap (text_missing sizes steps) (sym (from_last text i within last))
