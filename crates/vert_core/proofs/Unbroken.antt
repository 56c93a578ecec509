-- Which finished lists can be broken: finishing adds no legal place.
use Rattle.std.proofs.Common.{◌≡◌, ◌∙◌, ◌⊎◌, inl, inr, ℕ, zero, suc, ◌+◌, ◌<◌, ◌||◌, Bool, true, false, cond, List, [], ◌∷◌, ◌++◌, length, length-append, refl, ap, sym, arith, Option, Some, None}
use Rattle.std.specs.Prelude.{pos, slice_get, nat_lt}
use Rattle.std.specs.List.{filter, list_any}
use Rattle.std.specs.Option.{unwrap_or}
use Rattle.std.proofs.lemmas.Option.{slice_get_past}
use Rattle.std.proofs.lemmas.List.Folds.{list_any-append}
use Rattle.node_core.specs.declared.tree.Glue.{Glue}
use Rattle.node_core.specs.declared.tree.Node.{Node}
use Rattle.node_core.specs.declared.tree.Node.TheVariants as nodes
use Rattle.break_lines.specs.Problems.{max_places}
use Rattle.break_lines.specs.declared.fault.BreakFault.{BreakFault}
use Rattle.break_lines.specs.declared.fault.BreakFault.TheVariants.{InfiniteShrink, TooManyBreaks, OutOfMemory}
use Rattle.node_core.specs.Classes.{shrinks_infinitely}
use Rattle.break_lines.specs.Legal.{is_glue, is_break, node_before, is_legal, up_to, legal_places}
use Rattle.break_lines.specs.Facts.{refusal}
use Rattle.break_lines.proofs.Places.{filter_up, count_passed, count_refused}
use Rattle.vert_core.specs.Finished.{final_glue, without_glue, finished_list}
use Rattle.vert_core.specs.Paragraphs.{break_fault}

slice_get_left : {A : Type 0} (xs ys : List A) (i : ℕ) → i < length xs → slice_get (xs ++ ys) i ≡ slice_get xs i
slice_get_left [] ys i within = absurd (omega arith)
slice_get_left (x ∷ xs) ys zero within = refl
slice_get_left (x ∷ xs) ys (suc i) within = slice_get_left xs ys i (omega arith)

slice_get_right : {A : Type 0} (xs ys : List A) (i k : ℕ) → i ≡ length xs + k → slice_get (xs ++ ys) i ≡ slice_get ys k
slice_get_right [] ys i k is = let same : i ≡ k = omega arith in ap (slice_get ys) same
slice_get_right (x ∷ xs) ys zero k is = absurd (omega arith)
slice_get_right (x ∷ xs) ys (suc i) k is = slice_get_right xs ys i k (omega arith)

-- Two tests that agree on the numbers below n.
filter_alike : (f g : ℕ → Bool) (n : ℕ) → ((i : ℕ) → i < n → f i ≡ g i) → filter f (up_to n) ≡ filter g (up_to n)
filter_alike f g zero same = refl
filter_alike f g (suc n) same =
    let one : suc n ≡ n + 1 = omega arith in
    ap (λ k. filter f (up_to k)) one ∙ filter_up f n
    ∙ ap (λ xs. xs ++ cond (f n) (n ∷ []) []) (filter_alike f g n (λ i below. same i (omega arith)))
    ∙ ap (λ b. filter g (up_to n) ++ cond b (n ∷ []) []) (same n (omega arith))
    ∙ sym (ap (λ k. filter g (up_to k)) one ∙ filter_up g n)

-- About the item after a place it matters only whether it is glue.
break_by_glue : (before here a b : Option Node) → is_glue a ≡ is_glue b → is_break before here a ≡ is_break before here b
unfolding is_break
break_by_glue before None a b same = refl
break_by_glue before (Some (nodes.Glyph glyph)) a b same = refl
break_by_glue before (Some (nodes.FontKern width)) a b same = refl
break_by_glue before (Some (nodes.Kern width)) a b same = same
break_by_glue before (Some (nodes.Glue glue)) a b same = refl
break_by_glue before (Some (nodes.Penalty penalty)) a b same = refl
break_by_glue before (Some (nodes.Rule rule)) a b same = refl
break_by_glue before (Some (nodes.Special text)) a b same = refl
break_by_glue before (Some (nodes.Box shift b)) x y same = refl

before_left : (front rest : List Node) (i : ℕ) → i < length front → node_before (front ++ rest) i ≡ node_before front i
before_left front rest zero within = refl
before_left front rest (suc i) within = slice_get_left front rest i (omega arith)

-- The legal places of a list stay the same if more items follow that do not begin with glue.
legal_left : (front rest : List Node) (i : ℕ) → i < length front → is_glue (slice_get rest 0) ≡ false → is_legal (front ++ rest) i ≡ is_legal front i
unfolding is_legal is_glue
legal_left front rest i within bare =
    ap (λ before. is_break before (slice_get (front ++ rest) i) (slice_get (front ++ rest) (i + 1))) (before_left front rest i within)
    ∙ ap (λ here. is_break (node_before front i) here (slice_get (front ++ rest) (i + 1))) (slice_get_left front rest i within)
    ∙ break_by_glue (node_before front i) (slice_get front i) (slice_get (front ++ rest) (i + 1)) (slice_get front (i + 1)) (after (search arith))
  where
    after : (i + 1 < length front) ⊎ (i + 1 ≡ length front) → is_glue (slice_get (front ++ rest) (i + 1)) ≡ is_glue (slice_get front (i + 1))
    after (inl inner) = ap is_glue (slice_get_left front rest (i + 1) inner)
    after (inr last) =
        ap is_glue (slice_get_right front rest (i + 1) 0 (omega arith)) ∙ bare
        ∙ sym (ap is_glue (slice_get_past front (i + 1) (omega arith)))

-- The end of a list is legal.
legal_end : (list : List Node) (n : ℕ) → n ≡ length list → is_legal list n ≡ true
unfolding is_legal is_break
legal_end list n is = ap (λ node. is_break (node_before list n) node (slice_get list (n + 1))) (slice_get_past list n (omega arith))

-- A penalty of 10000 is no legal place, and neither is glue after a penalty.
not_at_penalty : (list : List Node) (i : ℕ) → slice_get list i ≡ Some (nodes.Penalty (pos 10000)) → is_legal list i ≡ false
unfolding is_legal is_break
not_at_penalty list i here = ap (λ node. is_break (node_before list i) node (slice_get list (i + 1))) here

not_after_penalty :
    (list : List Node) (i : ℕ) (g : Glue) → slice_get list i ≡ Some (nodes.Penalty (pos 10000)) → slice_get list (suc i) ≡ Some (nodes.Glue g) → is_legal list (suc i) ≡ false
unfolding is_legal is_break
not_after_penalty list i g before here =
    ap (λ node. is_break (slice_get list i) node (slice_get list (suc i + 1))) here
    ∙ ap (λ node. is_break node (Some (nodes.Glue g)) (slice_get list (suc i + 1))) before

-- The items that finishing appends.
abbrev ending : Glue → List Node
ending skip = nodes.Penalty (pos 10000) ∷ nodes.Glue skip ∷ []

as_many_places : (front : List Node) (skip : Glue) → length (legal_places (front ++ ending skip)) ≡ length (legal_places front)
unfolding is_glue
as_many_places front skip =
    let n : ℕ = length front in
    let all : List Node = front ++ ending skip in
    let count : length all ≡ n + 1 + 1 = omega (arith, length-append front (ending skip)) in
    let penalty : slice_get all n ≡ Some (nodes.Penalty (pos 10000)) = slice_get_right front (ending skip) n 0 (omega arith) in
    let glue : slice_get all (suc n) ≡ Some (nodes.Glue skip) = slice_get_right front (ending skip) (suc n) 1 (omega arith) in
    let next : n + 1 ≡ suc n = omega arith in
    let at_glue : is_legal all (n + 1) ≡ false = ap (is_legal all) next ∙ not_after_penalty all n skip penalty glue in
    let old = ap length (filter_alike (is_legal all) (is_legal front) n (λ i below. legal_left front (ending skip) i below refl)) in
    ap (λ k. length (filter (is_legal all) (up_to (k + 1)))) count
    ∙ count_passed (is_legal all) (n + 1 + 1) (legal_end all (n + 1 + 1) (sym count))
    ∙ ap (λ k. k + 1) (count_refused (is_legal all) (n + 1) at_glue)
    ∙ ap (λ k. k + 1) (count_refused (is_legal all) n (not_at_penalty all n penalty))
    ∙ ap (λ k. k + 1) old
    ∙ sym (count_passed (is_legal front) n (legal_end front n refl))

-- The refusal of a list, by its glue and the number of its places.
abbrev refused_for : (endless : Bool) (places : ℕ) → Option BreakFault
refused_for endless places = cond endless (Some InfiniteShrink) (cond (nat_lt max_places places) (Some TooManyBreaks) None)

glue_at_end : (front : List Node) (skip : Glue) (b : Bool) → shrinks_infinitely (nodes.Glue skip) ≡ b → list_any shrinks_infinitely (front ++ ending skip) ≡ (list_any shrinks_infinitely front || (b || false))
glue_at_end front skip b is = list_any-append shrinks_infinitely front (ending skip) ∙ ap (λ t. list_any shrinks_infinitely front || (t || false)) is

or_true : (a : Bool) → (a || (true || false)) ≡ true
or_true true = refl
or_true false = refl

or_false : (a : Bool) → (a || (false || false)) ≡ a
or_false true = refl
or_false false = refl

-- If parfillskip shrinks in an infinite order, the list is refused for that.
pub refused_by_glue : (list : List Node) (skip : Glue) → shrinks_infinitely (nodes.Glue skip) ≡ true → refusal (finished_list list skip) ≡ Some InfiniteShrink
refused_by_glue list skip is =
    let front : List Node = without_glue (final_glue list) list in
    ap (λ b. refused_for b (length (legal_places (front ++ ending skip)))) (glue_at_end front skip true is ∙ or_true (list_any shrinks_infinitely front))

-- Otherwise it is refused as the list without its final glue is.
pub refused_by_text : (list : List Node) (skip : Glue) → shrinks_infinitely (nodes.Glue skip) ≡ false → refusal (finished_list list skip) ≡ refusal (without_glue (final_glue list) list)
refused_by_text list skip is =
    let front : List Node = without_glue (final_glue list) list in
    ap (λ b. refused_for b (length (legal_places (front ++ ending skip)))) (glue_at_end front skip false is ∙ or_false (list_any shrinks_infinitely front))
    ∙ ap (refused_for (list_any shrinks_infinitely front)) (as_many_places front skip)

-- Lack of memory is no reason why a list cannot be broken.
abbrev refused_by_tests : (endless many : Bool) → Option BreakFault
refused_by_tests endless many = cond endless (Some InfiniteShrink) (cond many (Some TooManyBreaks) None)

never_memory : (endless many : Bool) → cond endless (Some InfiniteShrink) (cond many (Some TooManyBreaks) None) ≡ Some OutOfMemory → ⊥
never_memory true many is = cc
never_memory false true is = cc
never_memory false false is = cc

pub not_for_memory : (list : List Node) → refusal list ≡ Some OutOfMemory → ⊥
not_for_memory list is = never_memory (list_any shrinks_infinitely list) (nat_lt max_places (length (legal_places list))) is

-- If lack of memory is the fault, the list can be broken.
by_refusal : (endless many : Bool) → OutOfMemory ≡ unwrap_or (refused_by_tests endless many) OutOfMemory → refused_by_tests endless many ≡ None
by_refusal true many is = absurd (cc)
by_refusal false true is = absurd (cc)
by_refusal false false is = refl

pub free_at_memory : (list : List Node) → OutOfMemory ≡ unwrap_or (refusal list) OutOfMemory → refusal list ≡ None
free_at_memory list is = by_refusal (list_any shrinks_infinitely list) (nat_lt max_places (length (legal_places list))) is

-- A paragraph with items cannot be broken exactly when its finished list cannot.
pub some_unbroken : (list : List Node) (skip : Glue) → 0 < length list → break_fault list skip ≡ refusal (finished_list list skip)
some_unbroken [] skip some = absurd (omega arith)
some_unbroken (x ∷ rest) skip some = refl
