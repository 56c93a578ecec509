-- There is only one way to cut a text into its parts.
use Rattle.std.proofs.Common.{◌≡◌, ◌↔◌, ℕ, zero, suc, ◌+◌, ◌++◌, ◌<◌, ◌≤◌, ◌&&◌, Bool, true, false, not, List, [], ◌∷◌, length, take, drop, refl, ap, sym, ◌∙◌, subst, arith, length-drop}
use Rattle.std.specs.List.{list_all, prefix_len}
use Rattle.std.proofs.Math.Seq.{take-append_seam}
use Rattle.std.proofs.lemmas.List.{take-append-drop}
use Rattle.shape_core.specs.Texts.{HasParts, nothing, spaces_first, word_first, TextPart, spaces, word, is_other, is_space, parts_of}
use Rattle.shape_core.proofs.TextLemmas.{drop_next, parts_of-space, parts_of-word, passes, stops, take_next}

both : (a b : Bool) → (a && b) ≡ true → (a ≡ true) × (b ≡ true)
both true b h = (refl, h)
both false b h = absurd (cc)

together : (a b : Bool) → a ≡ true → b ≡ true → (a && b) ≡ true
together true b h g = g
together false b h g = absurd (cc)

flipped : (b : Bool) → not b ≡ true → b ≡ false
flipped true h = absurd (cc)
flipped false h = refl

unflipped : (b : Bool) → b ≡ true → not b ≡ false
unflipped true h = refl
unflipped false h = absurd (cc)

one_more : (n : ℕ) → 1 + n ≡ suc n
one_more n = omega arith

drop_all_of : (xs ys : List ℕ) → drop (length xs) (xs ++ ys) ≡ ys
drop_all_of [] ys = refl
drop_all_of (x ∷ xs) ys = drop_all_of xs ys

-- A run ends where the rest begins with another character.
run_length : (p q : ℕ → Bool) → ((d : ℕ) → q d ≡ true → p d ≡ false) → (xs rest : List ℕ) → list_all p xs ≡ true → list_all q (take 1 rest) ≡ true → prefix_len p (xs ++ rest) ≡ length xs
run_length p q other [] [] h e = refl
run_length p q other [] (d ∷ rest) h e = stops p d rest (other d (both _ _ e).0)
run_length p q other (x ∷ xs) rest h e =
    passes p x (xs ++ rest) (both (p x) (list_all p xs) h).0 ∙ ap (λ n. 1 + n) (run_length p q other xs rest (both (p x) (list_all p xs) h).1 e) ∙ one_more (length xs)

other_of_space : (d : ℕ) → is_space d ≡ true → is_other d ≡ false
other_of_space d h = unflipped (is_space d) h

space_of_other : (d : ℕ) → is_other d ≡ true → is_space d ≡ false
space_of_other d h = flipped (is_space d) h

parts_of-run : (run rest : List ℕ) → 0 < length run → list_all is_space run ≡ true → list_all is_other (take 1 rest) ≡ true → parts_of (run ++ rest) ≡ spaces ∷ parts_of rest
parts_of-run [] rest some h e = absurd (omega arith)
parts_of-run (c ∷ run) rest some h e =
    let all = both _ _ h in
    parts_of-space c (run ++ rest) all.0
    ∙ ap (λ n. spaces ∷ parts_of (drop n (run ++ rest))) (run_length is_space is_other space_of_other run rest all.1 e)
    ∙ ap (λ t. spaces ∷ parts_of t) (drop_all_of run rest)

parts_of-whole : (w rest : List ℕ) → 0 < length w → list_all is_other w ≡ true → list_all is_space (take 1 rest) ≡ true → parts_of (w ++ rest) ≡ word w ∷ parts_of rest
parts_of-whole [] rest some h e = absurd (omega arith)
parts_of-whole (c ∷ w) rest some h e =
    let all = both _ _ h in
    parts_of-word c (w ++ rest) (space_of_other c all.0)
    ∙ ap (λ n. word (c ∷ take n (w ++ rest)) ∷ parts_of (drop n (w ++ rest))) (run_length is_other is_space other_of_space w rest all.1 e)
    ∙ ap (λ t. word (c ∷ take (length w) (w ++ rest)) ∷ parts_of t) (drop_all_of w rest)
    ∙ ap (λ v. word (c ∷ v) ∷ parts_of rest) (take-append_seam w rest)

cut_is_parts : {text : List ℕ} {parts : List TextPart} → HasParts text parts → parts ≡ parts_of text
cut_is_parts nothing = refl
cut_is_parts (spaces_first run rest some h e t later) =
    ap (λ p. spaces ∷ p) (cut_is_parts later) ∙ sym (parts_of-run run rest some h e) ∙ ap parts_of (sym t)
cut_is_parts (word_first w rest some h e t later) =
    ap (λ p. word w ∷ p) (cut_is_parts later) ∙ sym (parts_of-whole w rest some h e) ∙ ap parts_of (sym t)

-- The characters of the run at the front pass the test, and the rest does not begin with one that passes.
front_by : (p : ℕ → Bool) (c : ℕ) (text : List ℕ) (b : Bool) → p c ≡ b → list_all p (take (prefix_len p text) text) ≡ true → list_all p (take (prefix_len p (c ∷ text)) (c ∷ text)) ≡ true
front_by p c text true e later =
    ap (λ n. list_all p (take n (c ∷ text))) (passes p c text e) ∙ ap (list_all p) (take_next (prefix_len p text) c text) ∙ together _ _ e later
front_by p c text false e later = ap (λ n. list_all p (take n (c ∷ text))) (stops p c text e)

front_passes : (p : ℕ → Bool) (text : List ℕ) → list_all p (take (prefix_len p text) text) ≡ true
front_passes p [] = refl
front_passes p (c ∷ text) = front_by p c text (p c) refl (front_passes p text)

rest_by : (p q : ℕ → Bool) → ((d : ℕ) → p d ≡ false → q d ≡ true) → (c : ℕ) (text : List ℕ) (b : Bool) → p c ≡ b → list_all q (take 1 (drop (prefix_len p text) text)) ≡ true → list_all q (take 1 (drop (prefix_len p (c ∷ text)) (c ∷ text))) ≡ true
rest_by p q other c text true e later =
    ap (λ n. list_all q (take 1 (drop n (c ∷ text)))) (passes p c text e) ∙ ap (λ t. list_all q (take 1 t)) (drop_next (prefix_len p text) c text) ∙ later
rest_by p q other c text false e later =
    ap (λ n. list_all q (take 1 (drop n (c ∷ text)))) (stops p c text e) ∙ together _ _ (other c e) refl

rest_stops : (p q : ℕ → Bool) → ((d : ℕ) → p d ≡ false → q d ≡ true) → (text : List ℕ) → list_all q (take 1 (drop (prefix_len p text) text)) ≡ true
rest_stops p q other [] = refl
rest_stops p q other (c ∷ text) = rest_by p q other c text (p c) refl (rest_stops p q other text)

other_where_no_space : (d : ℕ) → is_space d ≡ false → is_other d ≡ true
other_where_no_space d h = ap not h

not_false : (b : Bool) → not b ≡ false → b ≡ true
not_false true h = refl
not_false false h = absurd (cc)

space_where_no_other : (d : ℕ) → is_other d ≡ false → is_space d ≡ true
space_where_no_other d h = not_false (is_space d) h

cut_by : (c : ℕ) (text : List ℕ) (b : Bool) → is_space c ≡ b → ((n : ℕ) → HasParts (drop n text) (parts_of (drop n text))) → HasParts (c ∷ text) (parts_of (c ∷ text))
cut_by c text true e later =
    let n : ℕ = prefix_len is_space text in
    subst (λ parts. HasParts (c ∷ text) parts) (sym (parts_of-space c text e))
    (spaces_first (c ∷ take n text) (drop n text) (omega arith) (together _ _ e (front_passes is_space text)) (rest_stops is_space is_other other_where_no_space text) (ap (λ t. c ∷ t) (sym (take-append-drop n text))) (later n))
cut_by c text false e later =
    let n : ℕ = prefix_len is_other text in
    subst (λ parts. HasParts (c ∷ text) parts) (sym (parts_of-word c text e))
    (word_first (c ∷ take n text) (drop n text) (omega arith) (together _ _ (ap not e) (front_passes is_other text)) (rest_stops is_other is_space space_where_no_other text) (ap (λ t. c ∷ t) (sym (take-append-drop n text))) (later n))

cut_within : (fuel : ℕ) (text : List ℕ) → length text ≤ fuel → HasParts text (parts_of text)
cut_within fuel [] h = nothing
cut_within zero (c ∷ text) h = absurd (omega arith)
cut_within (suc fuel) (c ∷ text) h =
    cut_by c text (is_space c) refl (λ n. cut_within fuel (drop n text) (omega (arith, length-drop n text)))

-- The parts of a text are the only list into which it is cut.
pub HasParts-is : (text : List ℕ) (parts : List TextPart) → (HasParts text parts ↔ (parts ≡ parts_of text))
HasParts-is text parts =
    (λ cut. cut_is_parts cut, λ e. subst (λ ps. HasParts text ps) (sym e) (cut_within (length text) text (omega arith)))
