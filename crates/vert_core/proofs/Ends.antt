-- The ends of a list whose measures are known.
use Rattle.std.proofs.Common.{◌≡◌, ◌≢◌, ◌∙◌, ◌⊎◌, inl, inr, ℕ, zero, suc, ◌+◌, ◌-◌, ◌*◌, ◌/◌, ◌<◌, ◌≤◌, ◌||◌, List, [], ◌∷◌, ◌++◌, length, take, drop, get_or, Bool, true, false, refl, ap, sym, subst, arith, take-append-drop}
use Rattle.std.specs.Prelude.{min, Option, Some, Result, Ok, Err, IfOk, OnErr, slice_get}
use Rattle.std.specs.List.{list_any}
use Rattle.std.specs.Option.{IfSome}
use Rattle.std.proofs.Math.Nat.{min-le_left, min-le_right}
use Rattle.std.proofs.lemmas.Bool.{cases_eq}
use Rattle.std.proofs.lemmas.List.{drop-drop, drop_all, length-drop}
use Rattle.std.proofs.lemmas.Option.{slice_get-get_or}
use Rattle.node_core.specs.declared.tree.Glue.{Glue}
use Rattle.node_core.specs.declared.tree.Node.{Node}
use Rattle.node_core.specs.declared.tree.Node.TheVariants as nodes
use Rattle.node_core.specs.Classes.{shrinks_infinitely}
use Rattle.node_core.specs.Items.{Items}
use Rattle.node_core.specs.Nodes.{max_nodes, items_of, nodes_of}
use Rattle.node_core.proofs.NodeLemmas.{nodes_of-items_of}
use Rattle.pack_core.specs.declared.tail.Tail.{Tail}
use Rattle.pack_core.specs.declared.pack.PackedBox.{PackedBox}
use Rattle.pack_core.specs.declared.pack.Shell.{Shell}
use Rattle.pack_core.specs.Boxes.{packed_of}
use Rattle.pack_core.specs.Tails.{HasGoneDown, IsTail}
use Rattle.pack_core.proofs.Downward.{gone-more}
use Rattle.vert_core.specs.declared.tails.Tails.{Tails}
use Rattle.vert_core.specs.Tails.{last_items, AreTails, AreTailsOfRest, MeasureEnds}

-- The last items of a list are those of what is left of it.
last-drop : (m n : ℕ) (xs : List Node) → n + m ≤ length xs → last_items n (drop m xs) ≡ last_items n xs
last-drop m n xs within =
    let at : m + (length (drop m xs) - n) ≡ length xs - n = omega (arith, length-drop m xs, within) in
    drop-drop (length (drop m xs) - n) m xs ∙ ap (λ (i : ℕ). drop i xs) at

ends-drop : (entries : List Tail) (m : ℕ) (xs : List Node) → MeasureEnds entries xs → MeasureEnds entries (drop m xs)
ends-drop entries m xs measures = λ n within.
    let less : 32 * (n + 1) + m ≤ length xs = omega (arith, length-drop m xs, within) in
    subst (λ (ys : List Node). IfSome (slice_get entries n) (λ entry. IsTail ys entry)) (sym (last-drop m (32 * (n + 1)) xs less)) (measures n (omega (arith, less)))

pub ends-from : (entries : List Tail) (start : ℕ) (items : List Node) → 0 < start → MeasureEnds entries (drop 1 items) → MeasureEnds entries (drop start items)
ends-from entries start items after measures =
    let at : 1 + (start - 1) ≡ start = omega (arith, after) in
    let same : drop (start - 1) (drop 1 items) ≡ drop start items = drop-drop (start - 1) 1 items ∙ ap (λ (i : ℕ). drop i items) at in
    subst (MeasureEnds entries) same (ends-drop entries (start - 1) (drop 1 items) measures)

-- Without entries nothing is said.
pub no-ends : (items : List Node) → MeasureEnds [] items
no-ends items = λ n within. tt

-- The end of one more span.
pub one-more-span :
    (xs : List Node) (span : ℕ) → 32 * (span + 1) ≤ length xs
    → take (length xs - span * 32 - (length xs - span * 32 - 32)) (drop (length xs - span * 32 - 32) xs) ++ last_items (32 * span) xs ≡ last_items (32 * (span + 1)) xs
one-more-span xs span within =
    let from : length xs - span * 32 - 32 ≡ length xs - 32 * (span + 1) = omega (arith, within) in
    let many : length xs - span * 32 - (length xs - span * 32 - 32) ≡ 32 = omega (arith, within) in
    let on : (length xs - span * 32 - 32) + 32 ≡ length xs - 32 * span = omega (arith, within) in
    let below : drop 32 (drop (length xs - span * 32 - 32) xs) ≡ last_items (32 * span) xs = drop-drop 32 (length xs - span * 32 - 32) xs ∙ ap (λ (i : ℕ). drop i xs) on in
    ap (λ (n : ℕ). take n (drop (length xs - span * 32 - 32) xs) ++ last_items (32 * span) xs) many
    ∙ ap (λ (ys : List Node). take 32 (drop (length xs - span * 32 - 32) xs) ++ ys) (sym below)
    ∙ take-append-drop 32 (drop (length xs - span * 32 - 32) xs)
    ∙ ap (λ (i : ℕ). drop i xs) from

-- No items are an end.
pub no-items : (xs : List Node) → last_items 0 xs ≡ []
no-items xs = drop_all (length xs - 0) xs (omega arith)

-- The measures of an end are small.
pub end-small : (n : ℕ) (xs : List Node) (tail : Tail) → length xs ≤ max_nodes → IsTail (last_items n xs) tail → HasGoneDown max_nodes tail.down
end-small n xs tail few is = gone-more (length (last_items n xs)) max_nodes tail.down (omega (arith, length-drop (length xs - n) xs, few)) is.small

-- The lesser of two numbers is at most each.
pub least : (n a b : ℕ) → n ≡ min a b → (n ≤ a) × (n ≤ b)
least n a b is = (rw is (min-le_left a b), rw is (min-le_right a b))

-- An entry that is read.
pub end-read :
    (entries : List Tail) (xs : List Node) (n : ℕ) (entry : Tail) → MeasureEnds entries xs → 32 * (n + 1) ≤ length xs → n < length entries → entry ≡ get_or entries n entry
    → IsTail (last_items (32 * (n + 1)) xs) entry
end-read entries xs n entry measures within there is =
    let at : slice_get entries n ≡ Some entry = slice_get-get_or entries n entry there ∙ ap Some (sym is) in
    subst (λ (found : Option Tail). IfSome found (λ e. IsTail (last_items (32 * (n + 1)) xs) e)) at (measures n within)

-- One more entry.
get-before : (old : List Tail) (entry : Tail) (n : ℕ) → n < length old → slice_get (old ++ entry ∷ []) n ≡ slice_get old n
get-before [] entry n less = absurd (omega (arith, less))
get-before (x ∷ old) entry zero less = refl
get-before (x ∷ old) entry (suc n) less = get-before old entry n (omega (arith, less))

get-last : (old : List Tail) (entry : Tail) → slice_get (old ++ entry ∷ []) (length old) ≡ Some entry
get-last [] entry = refl
get-last (x ∷ old) entry = get-last old entry

pub entries-more :
    (old new : List Tail) (entry : Tail) (span : ℕ) (xs : List Node) → new ≡ old ++ entry ∷ [] → length old ≡ span
    → ((n : ℕ) → n < span → IfSome (slice_get old n) (λ e. IsTail (last_items (32 * (n + 1)) xs) e)) → IsTail (last_items (32 * (span + 1)) xs) entry
    → (n : ℕ) → n < span + 1 → IfSome (slice_get new n) (λ e. IsTail (last_items (32 * (n + 1)) xs) e)
entries-more old new entry span xs is count before last = λ n less. here n less (cases_eq n span)
  where
    here : (n : ℕ) → n < span + 1 → (n ≡ span) ⊎ (n ≢ span) → IfSome (slice_get new n) (λ e. IsTail (last_items (32 * (n + 1)) xs) e)
    here n less (inl same) =
        let at : slice_get new n ≡ Some entry = rw (is, same, ← count) (get-last old entry) in
        let end : IsTail (last_items (32 * (n + 1)) xs) entry = rw same last in
        subst (λ (found : Option Tail). IfSome found (λ e. IsTail (last_items (32 * (n + 1)) xs) e)) (sym at) end
    here n less (inr apart) =
        let lower : n < span = omega (arith, less, apart) in
        let at : slice_get new n ≡ slice_get old n = rw is (get-before old entry n (omega (arith, lower, count))) in
        subst (λ (found : Option Tail). IfSome found (λ e. IsTail (last_items (32 * (n + 1)) xs) e)) (sym at) (before n lower)

-- The items above an end and those of the end.
pub end-joined : (n : ℕ) (xs : List Node) → take (length xs - n) xs ++ last_items n xs ≡ xs
end-joined n xs = take-append-drop (length xs - n) xs

-- Whether some item of a list shrinks in an infinite order, if none below the first does.
pub first-alone : (x : Node) (xs : List Node) → list_any shrinks_infinitely xs ≡ false → shrinks_infinitely x ≡ list_any shrinks_infinitely (x ∷ xs)
first-alone x xs none = here (shrinks_infinitely x) refl
  where
    here : (b : Bool) → shrinks_infinitely x ≡ b → shrinks_infinitely x ≡ list_any shrinks_infinitely (x ∷ xs)
    here true e = rw e refl
    here false e = rw (e, none) refl

finite-drop : (m : ℕ) (xs : List Node) → list_any shrinks_infinitely xs ≡ false → list_any shrinks_infinitely (drop m xs) ≡ false
finite-drop zero xs none = none
finite-drop (suc m) [] none = refl
finite-drop (suc m) (x ∷ xs) none = finite-drop m xs (here (shrinks_infinitely x) refl none)
  where
    here : (b : Bool) → shrinks_infinitely x ≡ b → list_any shrinks_infinitely (x ∷ xs) ≡ false → list_any shrinks_infinitely xs ≡ false
    here true e none = absurd (cc (rw e at none))
    here false e none = rw e at none

-- The list of a box that was packed.
list-packed : (items : Items) (shell : Shell) → (packed_of items shell).box_node.list ≡ items
unfolding packed_of
list-packed items shell = refl

-- The tails of a rest below its glue.
pub rest-tails :
    (items : List Node) (start : ℕ) (glue : Glue) (shell : Shell) (tails : Tails) (rest : PackedBox)
    → rest ≡ packed_of (items_of (nodes.Glue glue ∷ drop start items)) shell
    → MeasureEnds tails.entries.items (drop start items) → list_any shrinks_infinitely items ≡ false
    → AreTailsOfRest (Some tails) (Some rest)
rest-tails items start glue shell tails rest is measures finite =
    let left : List Node = nodes.Glue glue ∷ drop start items in
    let same : nodes_of rest.box_node.list ≡ left =
    ap (λ (packed : PackedBox). nodes_of packed.box_node.list) is ∙ ap nodes_of (list-packed (items_of left) shell) ∙ nodes_of-items_of left in
    subst (AreTails tails) (sym same) (record { measures = measures; finite = finite-drop start items finite })

-- The tails of the list are those of the rest.
pub kept-tails :
    (items : List Node) (start : ℕ) (glue : Glue) (shell : Shell) (tails : Tails) (rest : PackedBox)
    → rest ≡ packed_of (items_of (nodes.Glue glue ∷ drop start items)) shell → 0 < start → AreTails tails items
    → AreTailsOfRest (Some tails) (Some rest)
kept-tails items start glue shell tails rest is after known =
    let left : List Node = nodes.Glue glue ∷ drop start items in
    let same : nodes_of rest.box_node.list ≡ left =
    ap (λ (packed : PackedBox). nodes_of packed.box_node.list) is ∙ ap nodes_of (list-packed (items_of left) shell) ∙ nodes_of-items_of left in
    let at : 1 + (start - 1) ≡ start = omega (arith, after) in
    let drops : drop (start - 1) (drop 1 items) ≡ drop start items = drop-drop (start - 1) 1 items ∙ ap (λ (i : ℕ). drop i items) at in
    subst (AreTails tails) (sym same) (record {
      measures = ends-from tails.entries.items start items after known.measures;
      finite = subst (λ (xs : List Node). list_any shrinks_infinitely xs ≡ false) drops (finite-drop (start - 1) (drop 1 items) known.finite);
    })

-- A fact about a result, for what it has.
pub ok-of : {A E : Type 0} (P : A → Type 0) (r : Result A E) (x : A) → r ≡ Ok x → IfOk r P → P x
ok-of P r x is h = subst (λ r. IfOk r P) is h

pub ok-by : {A E : Type 0} (P Q : A → Type 0) (r : Result A E) → ((x : A) → P x → Q x) → IfOk r P → IfOk r Q
ok-by P Q (Ok x) more h = more x h
ok-by P Q (Err e) more h = tt

pub err-by : {A E : Type 0} (P Q : Type 0) (r : Result A E) → (P → Q) → OnErr r P → OnErr r Q
err-by P Q (Ok x) more h = tt
err-by P Q (Err e) more h = more h
