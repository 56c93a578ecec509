-- Parts of a text.
use Rattle.std.proofs.Common.{◌≡◌, ℕ, suc, ◌+◌, ◌++◌, ◌<◌, ◌≤◌, Bool, true, false, not, cond, List, [], ◌∷◌, Option, length, take, drop, get_or, refl, ap, sym, ◌∙◌, arith, append_assoc, append-nil}
use Rattle.std.specs.List.{flat_map, prefix_len, sum_by}
use Rattle.std.proofs.lemmas.List.Sums.{sum_by-cons}
pub use Rattle.std.proofs.lemmas.List.Sums.{prefix_len-le-length}
use Rattle.std.proofs.lemmas.Bool.{eq-eqb, ne_eqb}
use Rattle.node_core.specs.declared.tree.Glue.{Glue}
use Rattle.node_core.specs.declared.tree.Node.{Node}
use Rattle.scaled_core.specs.declared.sizes.Sizes.{Sizes}
use Rattle.tfm_core.specs.declared.font.Step.{Step}
use Rattle.shape_core.proofs.ShapingLemmas.{fewer_added}
use Rattle.shape_core.specs.Texts.{TextPart, spaces, word, is_other, is_space, parts_with, part_items, part_missing, parts_of, text_items, text_missing}
use Rattle.shape_core.specs.Private.Texts.{part_length, part_of}

pub drop_next : {X : Type 0} (n : ℕ) (x : X) (xs : List X) → drop (1 + n) (x ∷ xs) ≡ drop n xs
drop_next n x xs = let e : 1 + n ≡ suc n = omega arith in rw e refl

pub take_next : {X : Type 0} (n : ℕ) (x : X) (xs : List X) → take (1 + n) (x ∷ xs) ≡ x ∷ take n xs
take_next n x xs = let e : 1 + n ≡ suc n = omega arith in rw e refl

pub passes : (p : ℕ → Bool) (c : ℕ) (text : List ℕ) → p c ≡ true → prefix_len p (c ∷ text) ≡ 1 + prefix_len p text
passes p c text e = ap (λ b. cond b (1 + prefix_len p text) 0) e

pub stops : (p : ℕ → Bool) (c : ℕ) (text : List ℕ) → p c ≡ false → prefix_len p (c ∷ text) ≡ 0
stops p c text e = ap (λ b. cond b (1 + prefix_len p text) 0) e

-- A space before a word.
pub before_word : (c d : ℕ) (parts : List TextPart) → parts_with c true (parts_with d false parts) ≡ spaces ∷ parts_with d false parts
before_word c d [] = refl
before_word c d (spaces ∷ parts) = refl
before_word c d ((word w) ∷ parts) = refl

-- A character before spaces.
pub before_spaces : (c d : ℕ) (parts : List TextPart) → parts_with c false (parts_with d true parts) ≡ word (c ∷ []) ∷ parts_with d true parts
before_spaces c d [] = refl
before_spaces c d (spaces ∷ parts) = refl
before_spaces c d ((word w) ∷ parts) = refl

next_space : (c d : ℕ) (text : List ℕ) (b : Bool) → is_space d ≡ b → (is_space d ≡ true → parts_of (d ∷ text) ≡ spaces ∷ parts_of (drop (prefix_len is_space text) text)) → parts_with c true (parts_of (d ∷ text)) ≡ spaces ∷ parts_of (drop (prefix_len is_space (d ∷ text)) (d ∷ text))
next_space c d text true h later =
    let front : drop (prefix_len is_space (d ∷ text)) (d ∷ text) ≡ drop (prefix_len is_space text) text =
    ap (λ n. drop n (d ∷ text)) (passes is_space d text h) ∙ drop_next (prefix_len is_space text) d text in
    ap (parts_with c true) (later h) ∙ ap (λ t. spaces ∷ parts_of t) (sym front)
next_space c d text false h later =
    let front : drop (prefix_len is_space (d ∷ text)) (d ∷ text) ≡ d ∷ text = ap (λ n. drop n (d ∷ text)) (stops is_space d text h) in
    let parts : parts_of (d ∷ text) ≡ parts_with d false (parts_of text) = ap (λ b. parts_with d b (parts_of text)) h in
    ap (parts_with c true) parts ∙ before_word c d (parts_of text) ∙ ap (λ p. spaces ∷ p) (sym parts) ∙ ap (λ t. spaces ∷ parts_of t) (sym front)

-- A space begins a run of spaces.
pub parts_of-space : (c : ℕ) (text : List ℕ) → is_space c ≡ true → parts_of (c ∷ text) ≡ spaces ∷ parts_of (drop (prefix_len is_space text) text)
parts_of-space c [] e = ap (λ b. parts_with c b []) e
parts_of-space c (d ∷ text) e =
    ap (λ b. parts_with c b (parts_of (d ∷ text))) e ∙ next_space c d text (is_space d) refl (parts_of-space d text)

next_other : (c d : ℕ) (text : List ℕ) (b : Bool) → is_space d ≡ b → (is_space d ≡ false → parts_of (d ∷ text) ≡ word (d ∷ take (prefix_len is_other text) text) ∷ parts_of (drop (prefix_len is_other text) text)) → parts_with c false (parts_of (d ∷ text)) ≡ word (c ∷ take (prefix_len is_other (d ∷ text)) (d ∷ text)) ∷ parts_of (drop (prefix_len is_other (d ∷ text)) (d ∷ text))
next_other c d text true h later =
    let length_is : prefix_len is_other (d ∷ text) ≡ 0 = stops is_other d text (ap not h) in
    let parts : parts_of (d ∷ text) ≡ parts_with d true (parts_of text) = ap (λ b. parts_with d b (parts_of text)) h in
    ap (parts_with c false) parts ∙ before_spaces c d (parts_of text) ∙ ap (λ p. word (c ∷ []) ∷ p) (sym parts)
    ∙ ap (λ n. word (c ∷ take n (d ∷ text)) ∷ parts_of (drop n (d ∷ text))) (sym length_is)
next_other c d text false h later =
    let n : ℕ = prefix_len is_other text in
    let length_is : prefix_len is_other (d ∷ text) ≡ 1 + n = passes is_other d text (ap not h) in
    ap (parts_with c false) (later h)
    ∙ ap (λ w. word (c ∷ w) ∷ parts_of (drop n text)) (sym (take_next n d text))
    ∙ ap (λ t. word (c ∷ take (1 + n) (d ∷ text)) ∷ parts_of t) (sym (drop_next n d text))
    ∙ ap (λ n. word (c ∷ take n (d ∷ text)) ∷ parts_of (drop n (d ∷ text))) (sym length_is)

-- Another character begins a word.
pub parts_of-word : (c : ℕ) (text : List ℕ) → is_space c ≡ false → parts_of (c ∷ text) ≡ word (c ∷ take (prefix_len is_other text) text) ∷ parts_of (drop (prefix_len is_other text) text)
parts_of-word c [] e = ap (λ b. parts_with c b []) e
parts_of-word c (d ∷ text) e =
    ap (λ b. parts_with c b (parts_of (d ∷ text))) e ∙ next_other c d text (is_space d) refl (parts_of-word d text)

length-by : (c : ℕ) (text : List ℕ) (b : Bool) → is_space c ≡ b → part_length (c ∷ text) ≡ cond b (1 + prefix_len is_space text) (1 + prefix_len is_other text)
length-by c text true e = ap (λ b. cond b (prefix_len is_space (c ∷ text)) (prefix_len is_other (c ∷ text))) e ∙ passes is_space c text e
length-by c text false e = ap (λ b. cond b (prefix_len is_space (c ∷ text)) (prefix_len is_other (c ∷ text))) e ∙ passes is_other c text (ap not e)

front-by : (c : ℕ) (text : List ℕ) (b : Bool) → is_space c ≡ b → parts_of (c ∷ text) ≡ part_of (take (part_length (c ∷ text)) (c ∷ text)) ∷ parts_of (drop (part_length (c ∷ text)) (c ∷ text))
front-by c text true e =
    let n : ℕ = prefix_len is_space text in
    let part : part_of (c ∷ take n text) ≡ spaces = ap (λ b. cond b spaces (word (c ∷ take n text))) e in
    parts_of-space c text e
    ∙ ap (λ p. p ∷ parts_of (drop n text)) (sym part)
    ∙ ap (λ t. part_of t ∷ parts_of (drop n text)) (sym (take_next n c text))
    ∙ ap (λ t. part_of (take (1 + n) (c ∷ text)) ∷ parts_of t) (sym (drop_next n c text))
    ∙ ap (λ n. part_of (take n (c ∷ text)) ∷ parts_of (drop n (c ∷ text))) (sym (length-by c text true e))
front-by c text false e =
    let n : ℕ = prefix_len is_other text in
    let part : part_of (c ∷ take n text) ≡ word (c ∷ take n text) = ap (λ b. cond b spaces (word (c ∷ take n text))) e in
    parts_of-word c text e
    ∙ ap (λ p. p ∷ parts_of (drop n text)) (sym part)
    ∙ ap (λ t. part_of t ∷ parts_of (drop n text)) (sym (take_next n c text))
    ∙ ap (λ t. part_of (take (1 + n) (c ∷ text)) ∷ parts_of t) (sym (drop_next n c text))
    ∙ ap (λ n. part_of (take n (c ∷ text)) ∷ parts_of (drop n (c ∷ text))) (sym (length-by c text false e))

-- The first part and the rest.
parts_of-front : (text : List ℕ) → 0 < length text → parts_of text ≡ part_of (take (part_length text) text) ∷ parts_of (drop (part_length text) text)
parts_of-front [] h = absurd (omega arith)
parts_of-front (c ∷ text) h = front-by c text (is_space c) refl

some-by : (c : ℕ) (text : List ℕ) (b : Bool) → is_space c ≡ b → 0 < part_length (c ∷ text)
some-by c text true e = omega (arith, length-by c text true e)
some-by c text false e = omega (arith, length-by c text false e)

pub part_length-some : (text : List ℕ) → 0 < length text → 0 < part_length text
part_length-some [] h = absurd (omega arith)
part_length-some (c ∷ text) h = some-by c text (is_space c) refl

within-by : (c : ℕ) (text : List ℕ) (b : Bool) → is_space c ≡ b → part_length (c ∷ text) ≤ length (c ∷ text)
within-by c text true e = omega (arith, length-by c text true e, prefix_len-le-length is_space text)
within-by c text false e = omega (arith, length-by c text false e, prefix_len-le-length is_other text)

pub part_length-within : (text : List ℕ) → part_length text ≤ length text
part_length-within [] = omega arith
part_length-within (c ∷ text) = within-by c text (is_space c) refl

pub part_length-of_space : (text : List ℕ) → 0 < length text → get_or text 0 0 ≡ 32 → part_length text ≡ prefix_len is_space text
part_length-of_space [] h e = absurd (omega arith)
part_length-of_space (c ∷ text) h e =
    ap (λ b. cond b (prefix_len is_space (c ∷ text)) (prefix_len is_other (c ∷ text))) (eq-eqb c 32 e)

pub part_length-of_word : (text : List ℕ) → 0 < length text → (get_or text 0 0 ≡ 32 → ⊥) → part_length text ≡ prefix_len is_other text
part_length-of_word [] h e = absurd (omega arith)
part_length-of_word (c ∷ text) h e =
    ap (λ b. cond b (prefix_len is_space (c ∷ text)) (prefix_len is_other (c ∷ text))) (ne_eqb c 32 e)

pub ruleset prefixes = (prefix_len-le-length)

pub part_of-spaces : (part : List ℕ) → 0 < length part → get_or part 0 0 ≡ 32 → part_of part ≡ spaces
part_of-spaces [] h e = absurd (omega arith)
part_of-spaces (c ∷ text) h e = ap (λ b. cond b spaces (word (c ∷ text))) (eq-eqb c 32 e)

pub part_of-word : (part : List ℕ) → 0 < length part → (get_or part 0 0 ≡ 32 → ⊥) → part_of part ≡ word part
part_of-word [] h e = absurd (omega arith)
part_of-word (c ∷ text) h e = ap (λ b. cond b spaces (word (c ∷ text))) (ne_eqb c 32 e)

pub text_items-turn : (slot : ℕ) (sizes : ℕ → Option Sizes) (steps : ℕ → ℕ → Option Step) (blank : Glue) (text : List ℕ) → 0 < length text
    → text_items slot sizes steps blank text ≡ part_items slot sizes steps blank (part_of (take (part_length text) text)) ++ text_items slot sizes
    steps blank (drop (part_length text) text)
unfolding text_items
text_items-turn slot sizes steps blank text h = ap (flat_map (part_items slot sizes steps blank)) (parts_of-front text h)

pub text_items-none : (slot : ℕ) (sizes : ℕ → Option Sizes) (steps : ℕ → ℕ → Option Step) (blank : Glue) (text : List ℕ) → length text ≡ 0
    → text_items slot sizes steps blank text ≡ []
unfolding text_items
text_items-none slot sizes steps blank [] h = refl
text_items-none slot sizes steps blank (c ∷ text) h = absurd (omega arith)

pub text_missing-turn : (sizes : ℕ → Option Sizes) (steps : ℕ → ℕ → Option Step) (text : List ℕ) → 0 < length text
    → text_missing sizes steps text ≡ part_missing sizes steps (part_of (take (part_length text) text)) + text_missing sizes steps
    (drop (part_length text) text)
unfolding text_missing
text_missing-turn sizes steps text h =
    ap (sum_by (part_missing sizes steps)) (parts_of-front text h) ∙ sum_by-cons (part_missing sizes steps) (part_of (take (part_length text) text)) (parts_of (drop (part_length text) text))

pub text_missing-none : (sizes : ℕ → Option Sizes) (steps : ℕ → ℕ → Option Step) (text : List ℕ) → length text ≡ 0 → text_missing sizes steps text ≡ 0
unfolding text_missing
text_missing-none sizes steps [] h = refl
text_missing-none sizes steps (c ∷ text) h = absurd (omega arith)

pub ruleset turns = (text_items-turn, text_items-none, text_missing-turn, text_missing-none)

-- One step of the loop.
pub text_items-part : (slot : ℕ) (sizes : ℕ → Option Sizes) (steps : ℕ → ℕ → Option Step) (blank : Glue) (text part rest : List ℕ) (k : ℕ)
    (all nodes new : List Node) → 0 < length text → k ≡ part_length text → part ≡ take k text → rest ≡ drop k text
    → new ≡ nodes ++ part_items slot sizes steps blank (part_of part) → all ≡ nodes ++ text_items slot sizes steps blank text
    → all ≡ new ++ text_items slot sizes steps blank rest
text_items-part slot sizes steps blank text part rest k all nodes new h l p r e f =
    let turned : text_items slot sizes steps blank text ≡ part_items slot sizes steps blank (part_of part) ++ text_items slot sizes steps blank rest =
    rw (p, r, l) (text_items-turn slot sizes steps blank text h) in
    f ∙ ap (λ later. nodes ++ later) turned ∙ sym (append_assoc nodes (part_items slot sizes steps blank (part_of part)) (text_items slot sizes steps blank rest))
    ∙ ap (λ front. front ++ text_items slot sizes steps blank rest) (sym e)

pub text_missing-part : (sizes : ℕ → Option Sizes) (steps : ℕ → ℕ → Option Step) (text part rest : List ℕ) (k all n m : ℕ) → 0 < length text
    → k ≡ part_length text → part ≡ take k text → rest ≡ drop k text → m ≡ part_missing sizes steps (part_of part)
    → all ≡ n + text_missing sizes steps text → all ≡ (n + m) + text_missing sizes steps rest
text_missing-part sizes steps text part rest k all n m h l p r e f =
    let turned : text_missing sizes steps text ≡ part_missing sizes steps (part_of part) + text_missing sizes steps rest =
    rw (p, r, l) (text_missing-turn sizes steps text h) in
    omega (arith, turned, e, f)

-- An item of a part is refused.
pub text_items-fewer : (slot : ℕ) (sizes : ℕ → Option Sizes) (steps : ℕ → ℕ → Option Step) (blank : Glue) (text part : List ℕ) (k : ℕ)
    (old now new all : List Node) → 0 < length text → k ≡ part_length text → part ≡ take k text
    → old ++ all ≡ now ++ text_items slot sizes steps blank text → length new < length now + length (part_items slot sizes steps blank (part_of part))
    → length new < length old + length all
text_items-fewer slot sizes steps blank text part k old now new all h l p e fewer =
    fewer_added old now new (part_items slot sizes steps blank (part_of part)) (text_items slot sizes steps blank (drop k text)) all
    (rw (p, l) (e ∙ ap (λ xs. now ++ xs) (text_items-turn slot sizes steps blank text h))) fewer

-- The end of the loop.
pub text_items-end : (slot : ℕ) (sizes : ℕ → Option Sizes) (steps : ℕ → ℕ → Option Step) (blank : Glue) (text : List ℕ) (nodes all : List Node)
    → length text ≡ 0 → all ≡ nodes ++ text_items slot sizes steps blank text → nodes ≡ all
text_items-end slot sizes steps blank text nodes all h e =
    sym (e ∙ ap (λ later. nodes ++ later) (text_items-none slot sizes steps blank text h) ∙ append-nil nodes)
