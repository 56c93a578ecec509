-- The relation `Shaping` and the functions that compute it.
use Rattle.std.proofs.Common.{◌≡◌, ◌≢◌, ◌↔◌, ℕ, ℤ, Bool, true, false, cond, ◌+◌, ◌++◌, ◌<◌, ◌≤◌, List, [], ◌∷◌, Option, Some, None, Result, Ok, Err, length, take, drop, get_or, refl, ap, sym, ◌∙◌, subst, arith, append-nil, append_assoc, length-append}
use Rattle.std.specs.List.{slice_get}
use Rattle.std.specs.Option.{is_some}
use Rattle.std.specs.Result.{OnErr}
use Rattle.std.proofs.Math.Nat.{min-le_right}
use Rattle.std.proofs.lemmas.List.{drop_more, length-take}
use Rattle.std.proofs.Math.ListN.{drop_of_length-le}
use Rattle.node_core.specs.declared.tree.Node.{Node}
use Rattle.node_core.specs.declared.tree.Node.TheVariants.{FontKern}
use Rattle.shape_core.specs.declared.word.Outcome.{Outcome}
use Rattle.shape_core.specs.declared.word.Outcome.TheVariants.{Alone, Kerned}
use Rattle.scaled_core.specs.declared.sizes.Sizes.{Sizes}
use Rattle.tfm_core.specs.declared.font.Step.{Step}
use Rattle.tfm_core.specs.declared.font.Step.TheVariants.{Kern, Ligature}
use Rattle.shape_core.specs.Shaping.{Shaping, empty, missing, alone, kern, ligature, glyph_node, items_from, missing_from, outcome_at, outcome_items, outcome_missing, outcome_next, outcome_of, shaped_items, shaped_missing, step_to}

-- One step of the loop.
items_from-drop : (slot : ℕ) (sizes : ℕ → Option Sizes) (steps : ℕ → ℕ → Option Step) (c : ℕ) (rest word : List ℕ) (d : ℕ) → rest ≡ d ∷ word
    → items_from slot sizes steps c rest ≡ outcome_items slot c (outcome_at sizes steps c (Some d)) ++ items_from slot sizes steps
    (outcome_next d (outcome_at sizes steps c (Some d))) word
items_from-drop slot sizes steps c rest word d e = ap (items_from slot sizes steps c) e

pub items_from-turn : (slot : ℕ) (sizes : ℕ → Option Sizes) (steps : ℕ → ℕ → Option Step) (c : ℕ) (word : List ℕ) (i : ℕ) → i < length word
    → items_from slot sizes steps c (drop i word) ≡ outcome_items slot c (outcome_at sizes steps c (Some (get_or word i 0))) ++ items_from slot sizes
    steps (outcome_next (get_or word i 0) (outcome_at sizes steps c (Some (get_or word i 0)))) (drop (i + 1) word)
items_from-turn slot sizes steps c word i h =
    items_from-drop slot sizes steps c (drop i word) (drop (i + 1) word) (get_or word i 0) (drop_more word i 0 h)

pub missing_from-turn : (sizes : ℕ → Option Sizes) (steps : ℕ → ℕ → Option Step) (c : ℕ) (word : List ℕ) (i : ℕ) → i < length word
    → missing_from sizes steps c (drop i word) ≡ outcome_missing (outcome_at sizes steps c (Some (get_or word i 0))) + missing_from sizes steps
    (outcome_next (get_or word i 0) (outcome_at sizes steps c (Some (get_or word i 0)))) (drop (i + 1) word)
missing_from-turn sizes steps c word i h = ap (missing_from sizes steps c) (drop_more word i 0 h)

pub turn-items : (slot : ℕ) (sizes : ℕ → Option Sizes) (steps : ℕ → ℕ → Option Step) (c : ℕ) (word : List ℕ) (i : ℕ) (all held new : List Node)
    (o : Outcome) (n : ℕ) → i < length word → all ≡ held ++ items_from slot sizes steps c (drop i word)
    → o ≡ outcome_at sizes steps c (Some (get_or word i 0)) → new ≡ held ++ outcome_items slot c o → n ≡ outcome_next (get_or word i 0) o
    → all ≡ new ++ items_from slot sizes steps n (drop (i + 1) word)
turn-items slot sizes steps c word i all held new o n h e eo en em =
    rw (en, em, eo) (e ∙ ap (λ xs. held ++ xs) (items_from-turn slot sizes steps c word i h) ∙ sym (append_assoc held _ _))

pub turn-missing : (sizes : ℕ → Option Sizes) (steps : ℕ → ℕ → Option Step) (c : ℕ) (word : List ℕ) (i all held m n : ℕ) (o : Outcome)
    → i < length word → all ≡ held + missing_from sizes steps c (drop i word) → o ≡ outcome_at sizes steps c (Some (get_or word i 0))
    → m ≡ outcome_missing o → n ≡ outcome_next (get_or word i 0) o → all ≡ held + m + missing_from sizes steps n (drop (i + 1) word)
turn-missing sizes steps c word i all held m n o h e eo em en = rw (em, en, eo) (omega (arith, e, missing_from-turn sizes steps c word i h))

-- A character that stands alone before the next one becomes its glyph.
pub outcome-alone : (sizes : ℕ → Option Sizes) (steps : ℕ → ℕ → Option Step) (c d : ℕ) (size : Sizes) → sizes c ≡ Some size → steps c d ≡ None
    → Alone size ≡ outcome_at sizes steps c (Some d)
unfolding outcome_at
outcome-alone sizes steps c d size at after = here (is_some (sizes d)) refl
  where
    here : (b : Bool) → is_some (sizes d) ≡ b → Alone size ≡ outcome_of (sizes c) (cond (is_some (sizes d)) (steps c d) None)
    here true e = rw (e, at, after) refl
    here false e = rw (e, at) refl

-- A character before which there is a kern to the next one becomes its glyph and the kern.
pub outcome-kerned : (sizes : ℕ → Option Sizes) (steps : ℕ → ℕ → Option Step) (c d : ℕ) (size : Sizes) (width : ℤ) → sizes c ≡ Some size
    → step_to sizes steps c (Some d) ≡ Some (Kern width) → Kerned size width ≡ outcome_at sizes steps c (Some d)
unfolding outcome_at
outcome-kerned sizes steps c d size width at after = rw (at, after) refl

-- The end of the word.
pub end-items : (slot : ℕ) (sizes : ℕ → Option Sizes) (steps : ℕ → ℕ → Option Step) (c : ℕ) (word : List ℕ) (i : ℕ) (all held new : List Node)
    (o : Outcome) → length word ≤ i → all ≡ held ++ items_from slot sizes steps c (drop i word) → o ≡ outcome_at sizes steps c None
    → new ≡ held ++ outcome_items slot c o → new ≡ all
end-items slot sizes steps c word i all held new o past e eo en =
    en ∙ (ap (λ o. held ++ outcome_items slot c o) eo ∙ (sym (ap (λ xs. held ++ items_from slot sizes steps c xs) (drop_of_length-le word past)) ∙ sym e))

pub end-missing : (sizes : ℕ → Option Sizes) (steps : ℕ → ℕ → Option Step) (c : ℕ) (word : List ℕ) (i all held m : ℕ) (o : Outcome) → length word ≤ i
    → all ≡ held + missing_from sizes steps c (drop i word) → o ≡ outcome_at sizes steps c None → m ≡ outcome_missing o → held + m ≡ all
end-missing sizes steps c word i all held m o past e eo em =
    ap (λ n. held + n) (em ∙ ap outcome_missing eo) ∙ (sym (ap (λ xs. held + missing_from sizes steps c xs) (drop_of_length-le word past)) ∙ sym e)

-- What holds of each error.
pub on_refused : {T E P : Type 0} (r : Result T E) → P → OnErr r P
on_refused (Ok x) p = tt
on_refused (Err e) p = p

-- Of all items fewer were appended than there are: so there are some.
pub some_where_fewer : {A : Type 0} (old now all whole : List A) → whole ≡ all → take (length old) now ≡ old → length now < length old + length whole → all ≢ []
some_where_fewer old now all whole same front fewer = λ none.
    omega (arith, fewer, ap length same, ap length none, ap length front, length-take (length old) now, min-le_right (length old) (length now))

-- Fewer items were appended than some, so fewer than those and the rest.
pub fewer_added : {A : Type 0} (old now new items rest all : List A) → old ++ all ≡ now ++ (items ++ rest) → length new < length now + length items
    → length new < length old + length all
fewer_added old now new items rest all e fewer =
    let sizes : length old + length all ≡ length now + (length items + length rest) =
    sym (length-append old all) ∙ ap length e ∙ length-append now (items ++ rest) ∙ ap (λ n. length now + n) (length-append items rest) in
    omega (arith, sizes, fewer)

-- An item of a character is refused.
pub turn-fewer : (slot : ℕ) (sizes : ℕ → Option Sizes) (steps : ℕ → ℕ → Option Step) (c : ℕ) (word : List ℕ) (i : ℕ) (old now new all : List Node)
    (o : Outcome) → i < length word → old ++ all ≡ now ++ items_from slot sizes steps c (drop i word)
    → o ≡ outcome_at sizes steps c (Some (get_or word i 0)) → length new < length now + length (outcome_items slot c o)
    → length new < length old + length all
turn-fewer slot sizes steps c word i old now new all o h e eo fewer =
    fewer_added old now new (outcome_items slot c o) (items_from slot sizes steps (outcome_next (get_or word i 0) o) (drop (i + 1) word)) all
    (rw eo (e ∙ ap (λ xs. now ++ xs) (items_from-turn slot sizes steps c word i h))) fewer

pub end-fewer : (slot : ℕ) (sizes : ℕ → Option Sizes) (steps : ℕ → ℕ → Option Step) (c : ℕ) (word : List ℕ) (i : ℕ) (old now new all : List Node)
    (o : Outcome) → length word ≤ i → old ++ all ≡ now ++ items_from slot sizes steps c (drop i word) → o ≡ outcome_at sizes steps c None
    → length new < length now + length (outcome_items slot c o) → length new < length old + length all
end-fewer slot sizes steps c word i old now new all o past e eo fewer =
    fewer_added old now new (outcome_items slot c o) [] all
    (e ∙ ap (λ xs. now ++ items_from slot sizes steps c xs) (drop_of_length-le word past) ∙ ap (λ o. now ++ outcome_items slot c o) (sym eo) ∙ ap (λ xs. now ++ xs) (sym (append-nil (outcome_items slot c o)))) fewer

-- What a character becomes, by the cases of its shaping.
Shaping-case : (slot : ℕ) (sizes : ℕ → Option Sizes) (steps : ℕ → ℕ → Option Step) (c d : ℕ) (word : List ℕ) (size : Option Sizes)
    (step : Option Step) → sizes c ≡ size → step_to sizes steps c (Some d) ≡ step
    → ((e : ℕ) → Shaping slot sizes steps (e ∷ word) (items_from slot sizes steps e word) (missing_from sizes steps e word))
    → Shaping slot sizes steps (c ∷ d ∷ word)
    (outcome_items slot c (outcome_of size step) ++ items_from slot sizes steps (outcome_next d (outcome_of size step)) word)
    (outcome_missing (outcome_of size step) + missing_from sizes steps (outcome_next d (outcome_of size step)) word)
Shaping-case slot sizes steps c d word None step at after later =
    subst (λ n. Shaping slot sizes steps (c ∷ d ∷ word) (items_from slot sizes steps d word) n) (omega arith) (missing at (later d))
Shaping-case slot sizes steps c d word (Some size) None at after later =
    subst (λ n. Shaping slot sizes steps (c ∷ d ∷ word) (glyph_node slot c size ∷ items_from slot sizes steps d word) n) (omega arith) (alone at after (later d))
Shaping-case slot sizes steps c d word (Some size) (Some (Kern width)) at after later =
    subst (λ n. Shaping slot sizes steps (c ∷ d ∷ word) (glyph_node slot c size ∷ FontKern width ∷ items_from slot sizes steps d word) n) (omega arith) (kern at after (later d))
Shaping-case slot sizes steps c d word (Some size) (Some (Ligature e)) at after later =
    subst (λ n. Shaping slot sizes steps (c ∷ d ∷ word) (items_from slot sizes steps e word) n) (omega arith) (ligature at after (later e))

Shaping-last : (slot : ℕ) (sizes : ℕ → Option Sizes) (steps : ℕ → ℕ → Option Step) (c : ℕ) (size : Option Sizes) → sizes c ≡ size
    → Shaping slot sizes steps (c ∷ []) (outcome_items slot c (outcome_of size None)) (outcome_missing (outcome_of size None))
Shaping-last slot sizes steps c None at = missing at empty
Shaping-last slot sizes steps c (Some size) at = alone at refl empty

Shaping-from : (slot : ℕ) (sizes : ℕ → Option Sizes) (steps : ℕ → ℕ → Option Step) (c : ℕ) (word : List ℕ)
    → Shaping slot sizes steps (c ∷ word) (items_from slot sizes steps c word) (missing_from sizes steps c word)
unfolding outcome_at
Shaping-from slot sizes steps c [] = Shaping-last slot sizes steps c (sizes c) refl
Shaping-from slot sizes steps c (d ∷ word) =
    Shaping-case slot sizes steps c d word (sizes c) (step_to sizes steps c (Some d)) refl refl (λ e. Shaping-from slot sizes steps e word)

-- The functions give a shaping.
pub Shaping-shaped : (slot : ℕ) (sizes : ℕ → Option Sizes) (steps : ℕ → ℕ → Option Step) (word : List ℕ)
    → Shaping slot sizes steps word (shaped_items slot sizes steps word) (shaped_missing sizes steps word)
Shaping-shaped slot sizes steps [] = empty
Shaping-shaped slot sizes steps (c ∷ word) = Shaping-from slot sizes steps c word

-- The first character of a word that is shaped.
shaped-missing : (slot : ℕ) (sizes : ℕ → Option Sizes) (steps : ℕ → ℕ → Option Step) (c : ℕ) (word : List ℕ) → sizes c ≡ None
    → (shaped_items slot sizes steps (c ∷ word) ≡ shaped_items slot sizes steps word)
    × (shaped_missing sizes steps (c ∷ word) ≡ shaped_missing sizes steps word + 1)
unfolding outcome_at
shaped-missing slot sizes steps c [] at = (rw at refl, rw at refl)
shaped-missing slot sizes steps c (d ∷ word) at = (rw at refl, rw at (omega arith))

shaped-alone : (slot : ℕ) (sizes : ℕ → Option Sizes) (steps : ℕ → ℕ → Option Step) (c : ℕ) (size : Sizes) (word : List ℕ) → sizes c ≡ Some size
    → step_to sizes steps c (slice_get word 0) ≡ None
    → (shaped_items slot sizes steps (c ∷ word) ≡ glyph_node slot c size ∷ shaped_items slot sizes steps word)
    × (shaped_missing sizes steps (c ∷ word) ≡ shaped_missing sizes steps word)
unfolding outcome_at
shaped-alone slot sizes steps c size [] at after = (rw at refl, rw at refl)
shaped-alone slot sizes steps c size (d ∷ word) at after = (rw (at, after) refl, rw (at, after) (omega arith))

shaped-kern : (slot : ℕ) (sizes : ℕ → Option Sizes) (steps : ℕ → ℕ → Option Step) (c : ℕ) (size : Sizes) (width : ℤ) (word : List ℕ)
    → sizes c ≡ Some size → step_to sizes steps c (slice_get word 0) ≡ Some (Kern width)
    → (shaped_items slot sizes steps (c ∷ word) ≡ glyph_node slot c size ∷ FontKern width ∷ shaped_items slot sizes steps word)
    × (shaped_missing sizes steps (c ∷ word) ≡ shaped_missing sizes steps word)
unfolding outcome_at
shaped-kern slot sizes steps c size width [] at after = absurd (cc)
shaped-kern slot sizes steps c size width (d ∷ word) at after = (rw (at, after) refl, rw (at, after) (omega arith))

shaped-ligature : (slot : ℕ) (sizes : ℕ → Option Sizes) (steps : ℕ → ℕ → Option Step) (c d e : ℕ) (size : Sizes) (word : List ℕ) → sizes c ≡ Some size
    → step_to sizes steps c (Some d) ≡ Some (Ligature e) → (shaped_items slot sizes steps (c ∷ d ∷ word) ≡ shaped_items slot sizes steps (e ∷ word))
    × (shaped_missing sizes steps (c ∷ d ∷ word) ≡ shaped_missing sizes steps (e ∷ word))
unfolding outcome_at
shaped-ligature slot sizes steps c d e size word at after = (rw (at, after) refl, rw (at, after) (omega arith))

-- A word has no other shaping.
pub shaped-unique : (slot : ℕ) (sizes : ℕ → Option Sizes) (steps : ℕ → ℕ → Option Step) {word : List ℕ} {items : List Node} {n : ℕ}
    → Shaping slot sizes steps word items n → (items ≡ shaped_items slot sizes steps word) × (n ≡ shaped_missing sizes steps word)
shaped-unique slot sizes steps empty = (refl, refl)
shaped-unique slot sizes steps (missing {c = c} {word = word} at rest) =
    let same = shaped-missing slot sizes steps c word at in
    let later = shaped-unique slot sizes steps rest in
    (later.0 ∙ sym same.0, omega (arith, later.1, same.1))
shaped-unique slot sizes steps (alone {c = c} {word = word} {size = size} at after rest) =
    let same = shaped-alone slot sizes steps c size word at after in
    let later = shaped-unique slot sizes steps rest in
    (ap (λ items. glyph_node slot c size ∷ items) later.0 ∙ sym same.0, later.1 ∙ sym same.1)
shaped-unique slot sizes steps (kern {c = c} {word = word} {size = size} {width = width} at after rest) =
    let same = shaped-kern slot sizes steps c size width word at after in
    let later = shaped-unique slot sizes steps rest in
    (ap (λ items. glyph_node slot c size ∷ FontKern width ∷ items) later.0 ∙ sym same.0, later.1 ∙ sym same.1)
shaped-unique slot sizes steps (ligature {c = c} {d = d} {e = e} {word = word} {size = size} at after rest) =
    let same = shaped-ligature slot sizes steps c d e size word at after in
    let later = shaped-unique slot sizes steps rest in
    (later.0 ∙ sym same.0, later.1 ∙ sym same.1)

Shaping-at : (slot : ℕ) (sizes : ℕ → Option Sizes) (steps : ℕ → ℕ → Option Step) (word : List ℕ) (items : List Node) (n : ℕ)
    → items ≡ shaped_items slot sizes steps word → n ≡ shaped_missing sizes steps word → Shaping slot sizes steps word items n
Shaping-at slot sizes steps word items n e f =
    subst (λ xs. Shaping slot sizes steps word xs n) (sym e) (subst (λ m. Shaping slot sizes steps word (shaped_items slot sizes steps word) m) (sym f) (Shaping-shaped slot sizes steps word))

pub Shaping-is : (slot : ℕ) (sizes : ℕ → Option Sizes) (steps : ℕ → ℕ → Option Step) (word : List ℕ) (items : List Node) (n : ℕ)
    → (Shaping slot sizes steps word items n ↔ ((items ≡ shaped_items slot sizes steps word) × (n ≡ shaped_missing sizes steps word)))
Shaping-is slot sizes steps word items n =
    (λ s. shaped-unique slot sizes steps s, λ same. Shaping-at slot sizes steps word items n same.0 same.1)

-- The appended items are a shaping.
pub Shaping-grown : (slot : ℕ) (sizes : ℕ → Option Sizes) (steps : ℕ → ℕ → Option Step) (word : List ℕ) (old new : List Node) (n : ℕ)
    → new ≡ old ++ shaped_items slot sizes steps word → n ≡ shaped_missing sizes steps word → (items : List Node) × (new ≡ old ++ items)
    × Shaping slot sizes steps word items n
Shaping-grown slot sizes steps word old new n e f =
    (shaped_items slot sizes steps word, e, Shaping-at slot sizes steps word (shaped_items slot sizes steps word) n refl f)

-- No items are a shaping of the empty word.
pub Shaping-nothing : (slot : ℕ) (sizes : ℕ → Option Sizes) (steps : ℕ → ℕ → Option Step) (word : List ℕ) (old : List Node) → length word ≡ 0
    → (items : List Node) × (old ≡ old ++ items) × Shaping slot sizes steps word items 0
Shaping-nothing slot sizes steps [] old e = ([], sym (append-nil old), empty)
Shaping-nothing slot sizes steps (c ∷ word) old e = absurd (omega arith)

pub ruleset outcomes = (outcome-alone)
