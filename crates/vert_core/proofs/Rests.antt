-- The parts of a list that is split, and why a list is not split.
use Rattle.std.proofs.Common.{◌≡◌, ◌≢◌, ◌∙◌, ◌⊎◌, ℕ, ◌+◌, ◌-◌, ◌<◌, ◌≤◌, ◌&&◌, List, [], ◌∷◌, ◌++◌, length, take, drop, get_or, Bool, true, false, inl, inr, refl, ap, sym, subst, arith}
use Rattle.std.specs.Prelude.{ℤ, pos, Option, Some, None, is_some, is_err, is_ok, IfErr, IsErrAnd, Result, Ok, Err, if◌then◌else◌}
use Rattle.std.specs.List.{filter, list_all, list_any, slice_get}
use Rattle.std.specs.Option.{IfSome}
use Rattle.std.proofs.lemmas.Bool.{cases_eq}
use Rattle.std.proofs.lemmas.List.{drop-drop, drop_all, drop_more, length-append, length-drop, length-take}
use Rattle.std.proofs.lemmas.Option.{slice_get-get_or}
use Rattle.std.proofs.lemmas.List.Folds.{list_all-append}
use Rattle.node_core.specs.declared.params.SplitParams.{SplitParams}
use Rattle.node_core.specs.declared.tree.Glue.{Glue}
use Rattle.node_core.specs.declared.tree.Node.{Node}
use Rattle.node_core.specs.declared.tree.Node.TheVariants as nodes
use Rattle.node_core.specs.Classes.{shrinks_infinitely}
use Rattle.scaled_core.specs.Dimensions.{fits}
use Rattle.node_core.specs.Nodes.{box_of, items_of}
use Rattle.node_core.proofs.NodeLemmas.{nodes_of-items_of}
use Rattle.pack_core.specs.declared.pack.PackedBox.{PackedBox}
use Rattle.pack_core.specs.declared.pack.Shell.{Shell}
use Rattle.pack_core.specs.declared.pack.Target.{Target}
use Rattle.pack_core.specs.declared.pack.Target.TheVariants.{Natural, To}
use Rattle.pack_core.specs.Boxes.{packed_of, vbox, vbox_badness, vbox_frame, vbox_numbers, vbox_shell}
use Rattle.pack_core.proofs.Front.{numbers-front, shell-natural}
use Rattle.vert_core.specs.declared.plan.SplitRest.{SplitRest}
use Rattle.vert_core.specs.declared.parts.SplitFault.TheVariants.{InfiniteShrink, DimensionTooLarge}
use Rattle.vert_core.specs.Places.{is_box_or_rule, is_some_before_break, precedes_break}
use Rattle.vert_core.specs.Split.{from_box_or_rule, specials_above, split_place, front_items, items_after, from_first_box, left_of, is_special, top_widths, rest_numbers, split_numbers, refusal, no_limit, packed_vbox, packed_rest, front_of, rest_of}
use Rattle.vert_core.specs.Private.Steps.{glued_items, rest_list, left_items, packed_left, IsInside}
use Rattle.vert_core.proofs.Specials.{above-filtered, above-sizeless}

-- Nothing is dropped from a box or a rule on.
pub rest-here :
    (items : List Node) (i : ℕ) (x : Node) → i < length items → x ≡ get_or items i x → is_box_or_rule x ≡ true
    → from_box_or_rule (drop i items) ≡ drop i items
rest-here items i x within is solid = rw (drop_more items i x within, ← is, solid) refl

-- Any other item is dropped.
pub rest-more :
    (items : List Node) (i : ℕ) (x : Node) → i < length items → x ≡ get_or items i x → is_box_or_rule x ≡ false
    → from_box_or_rule (drop i items) ≡ from_box_or_rule (drop (i + 1) items)
rest-more items i x within is weak = rw (drop_more items i x within, ← is, weak) refl

-- The item after the place is dropped, so the first item that stays is after it.
pub first-after :
    (items : List Node) (place first : ℕ) → is_some_before_break (slice_get items place) ≡ false → is_some_before_break (slice_get items first) ≡ true
    → place ≤ first → place < first
first-after items place first dropped kept after = here (cases_eq place first)
  where
    here : (place ≡ first) ⊎ (place ≢ first) → place < first
    here (inl same) = absurd (cc (ap (λ (i : ℕ). is_some_before_break (slice_get items i)) same))
    here (inr apart) = omega (arith, apart, after)

-- If an item stays, something is left.
kept-left : (params : SplitParams) (x : Node) (xs : List Node) → precedes_break x ≡ true → 0 < length (left_of params (x ∷ xs))
kept-left params (nodes.Special text) xs kept = omega arith
kept-left params (nodes.Rule sizes) xs kept = omega arith
kept-left params (nodes.Box shift b) xs kept = omega arith
kept-left params (nodes.Glyph g) xs kept = absurd (cc)
kept-left params (nodes.FontKern width) xs kept = absurd (cc)
kept-left params (nodes.Kern width) xs kept = absurd (cc)
kept-left params (nodes.Glue g) xs kept = absurd (cc)
kept-left params (nodes.Penalty p) xs kept = absurd (cc)

-- What is left after a place, if the first item that stays is known.
same-left :
    (params : SplitParams) (items : List Node) (place first : ℕ) → specials_above (drop first items) ≡ specials_above (drop place items)
    → from_box_or_rule (drop first items) ≡ from_box_or_rule (drop place items) → left_of params (drop first items) ≡ left_of params (drop place items)
same-left params items place first specials solid = rw (specials, solid) refl

pub some-left :
    (params : SplitParams) (items : List Node) (place first : ℕ) → specials_above (drop first items) ≡ specials_above (drop place items)
    → from_box_or_rule (drop first items) ≡ from_box_or_rule (drop place items) → first < length items → is_some_before_break (slice_get items first) ≡ true
    → 0 < length (left_of params (drop place items))
some-left params items place first specials solid within kept =
    let d : Node = nodes.Penalty (pos 0) in
    let x : Node = get_or items first d in
    let stays : precedes_break x ≡ true = sym (ap is_some_before_break (slice_get-get_or items first d within)) ∙ kept in
    let here = kept-left params x (drop (first + 1) items) stays in
    omega (arith, here, ap (λ (xs : List Node). length (left_of params xs)) (drop_more items first d within), ap length (same-left params items place first specials solid))

pub none-left :
    (params : SplitParams) (items : List Node) (place first : ℕ) → specials_above (drop first items) ≡ specials_above (drop place items)
    → from_box_or_rule (drop first items) ≡ from_box_or_rule (drop place items) → first ≡ length items → [] ≡ left_of params (drop place items)
none-left params items place first specials solid end =
    sym (ap (left_of params) (drop_all first items (omega (arith, end)))) ∙ same-left params items place first specials solid

pub none-fits :
    (params : SplitParams) (items : List Node) (place first : ℕ) → specials_above (drop first items) ≡ specials_above (drop place items)
    → from_box_or_rule (drop first items) ≡ from_box_or_rule (drop place items) → first ≡ length items
    → true ≡ list_all fits (rest_numbers params (drop place items))
none-fits params items place first specials solid end =
    let none : drop first items ≡ [] = drop_all first items (omega (arith, end)) in
    let weak : from_box_or_rule (drop place items) ≡ [] = sym solid ∙ ap from_box_or_rule none in
    let high : specials_above (drop place items) ≡ [] = sym specials ∙ ap specials_above none in
    rw (weak, high) refl

pub planned-left :
    (params : SplitParams) (items : List Node) (place first start : ℕ) (glue : Option Glue) (shell : Shell) → first ≤ start → start ≤ length items
    → specials_above (drop first items) ≡ specials_above (drop place items) → from_box_or_rule (drop first items) ≡ from_box_or_rule (drop place items)
    → drop start items ≡ from_box_or_rule (drop first items) → glued_items glue (drop start items) ≡ from_first_box params (drop start items)
    → rest_list (record { first = first; start = start; glue = glue; shell = shell }) items ≡ left_of params (drop place items)
planned-left params items place first start glue shell ordered within specials solid at glue-is =
    let on : first + (start - first) ≡ start = omega (arith, ordered) in
    let there : drop (start - first) (drop first items) ≡ from_box_or_rule (drop first items) =
    drop-drop (start - first) first items ∙ ap (λ (i : ℕ). drop i items) on ∙ at in
    let above = above-filtered (drop first items) (start - first) (omega (arith, within, length-drop first items)) there in
    ap (λ (xs : List Node). xs ++ glued_items glue (drop start items)) above
    ∙ ap (λ (xs : List Node). specials_above (drop first items) ++ xs) (glue-is ∙ ap (from_first_box params) at)
    ∙ same-left params items place first specials solid

-- The numbers of the rest fit.
pub rest-fits :
    (params : SplitParams) (after left : List Node) → left ≡ from_box_or_rule after
    → list_all fits (top_widths params left ++ vbox_numbers Natural no_limit (from_first_box params left)) ≡ list_all fits (rest_numbers params after)
rest-fits params after left is =
    ap (λ (xs : List Node). list_all fits (top_widths params xs ++ vbox_numbers Natural no_limit (from_first_box params xs))) is
    ∙ ap (λ (ns : List ℤ). list_all fits (top_widths params (from_box_or_rule after) ++ ns)) (sym (numbers-front Natural no_limit (specials_above after) (from_first_box params (from_box_or_rule after)) (above-sizeless after)))

-- The box of the rest is the box of the items below the specials.
pub left-shell :
    (params : SplitParams) (after left : List Node) → left ≡ from_box_or_rule after
    → vbox_shell Natural no_limit (from_first_box params left) ≡ vbox_shell Natural no_limit (left_of params after)
left-shell params after left is =
    ap (λ (xs : List Node). vbox_shell Natural no_limit (from_first_box params xs)) is
    ∙ sym (shell-natural no_limit (specials_above after) (from_first_box params (from_box_or_rule after)) (above-sizeless after))

-- Why a list is not split.
pub refusal-infinite : (params : SplitParams) (goal : ℤ) (items : List Node) → list_any shrinks_infinitely items ≡ true → refusal params goal items ≡ Some InfiniteShrink
unfolding refusal
refusal-infinite params goal items infinite = rw infinite refl

pub refusal-fits :
    (params : SplitParams) (goal : ℤ) (items : List Node) (front rest : Bool) → list_any shrinks_infinitely items ≡ false
    → list_all fits (vbox_numbers (To goal) params.split_max_depth (front_items params goal items)) ≡ front
    → list_all fits (rest_numbers params (items_after params goal items)) ≡ rest
    → refusal params goal items ≡ (if (front && rest) then None else Some DimensionTooLarge)
unfolding refusal split_numbers
refusal-fits params goal items front rest infinite f r =
    let all = list_all-append fits (vbox_numbers (To goal) params.split_max_depth (front_items params goal items)) (rest_numbers params (items_after params goal items)) in
    let both : list_all fits (split_numbers params goal items) ≡ (front && rest) = all ∙ ap (λ (b : Bool). b && list_all fits (rest_numbers params (items_after params goal items))) f ∙ ap (λ (b : Bool). front && b) r in
    ap (λ (b : Bool). if b then Some InfiniteShrink else (if list_all fits (split_numbers params goal items) then None else Some DimensionTooLarge)) infinite
    ∙ ap (λ (b : Bool). if b then None else Some DimensionTooLarge) both

pub refusal-planned :
    (params : SplitParams) (goal : ℤ) (items : List Node) (place : ℕ) (front rest : Bool) → list_any shrinks_infinitely items ≡ false
    → place ≡ split_place params goal items → list_all fits (vbox_numbers (To goal) params.split_max_depth (take place items)) ≡ front
    → list_all fits (rest_numbers params (drop place items)) ≡ rest
    → refusal params goal items ≡ (if (front && rest) then None else Some DimensionTooLarge)
refusal-planned params goal items place front rest infinite is f r =
    let f' : list_all fits (vbox_numbers (To goal) params.split_max_depth (front_items params goal items)) ≡ front =
    ap (λ (i : ℕ). list_all fits (vbox_numbers (To goal) params.split_max_depth (take i items))) (sym is) ∙ f in
    refusal-fits params goal items front rest infinite f' (ap (λ (i : ℕ). list_all fits (rest_numbers params (drop i items))) (sym is) ∙ r)

-- A list in the box that was found for it is packed.
packed-by : (target : Target) (limit : ℤ) (xs : List Node) (shell : Shell) → shell ≡ vbox_shell target limit xs → packed_of (items_of xs) shell ≡ packed_vbox target limit xs
unfolding packed_of vbox_shell vbox
packed-by target limit xs shell is =
    ap (packed_of (items_of xs)) is
    ∙ sym (ap (λ (ys : List Node). record { box_node = box_of (vbox_frame target limit ys) (items_of xs); badness = vbox_badness target limit xs }) (nodes_of-items_of xs))

-- The parts of the plan are those of the split.
pub front-planned :
    (params : SplitParams) (goal : ℤ) (items : List Node) (place : ℕ) (shell : Shell) → place ≡ split_place params goal items
    → shell ≡ vbox_shell (To goal) params.split_max_depth (take place items) → packed_of (items_of (take place items)) shell ≡ front_of params goal items
unfolding front_of
front-planned params goal items place shell is packed =
    packed-by (To goal) params.split_max_depth (take place items) shell packed ∙ ap (λ (i : ℕ). packed_vbox (To goal) params.split_max_depth (take i items)) is

-- A list with an item is packed.
packed-some : (xs : List Node) → 0 < length xs → packed_rest xs ≡ Some (packed_vbox Natural no_limit xs)
packed-some [] some = absurd (omega (arith, some))
packed-some (x ∷ xs) some = refl

pub rest-planned :
    (params : SplitParams) (goal : ℤ) (items : List Node) (rest : Option SplitRest) → left_items rest items ≡ left_of params (items_after params goal items)
    → IfSome rest (λ r. IsInside r items) → IfSome rest (λ r. r.shell ≡ vbox_shell Natural no_limit (rest_list r items)) → packed_left rest items ≡ rest_of params goal items
unfolding rest_of
rest-planned params goal items None is inside shell = ap packed_rest is
rest-planned params goal items (Some rest) is inside shell =
    ap (λ (p : PackedBox). Some p) (packed-by Natural no_limit (rest_list rest items) rest.shell shell)
    ∙ sym (packed-some (rest_list rest items) inside.some)
    ∙ ap packed_rest is

-- If the plan has a rest, the split has one.
pub rest-some : (items : List Node) (rest : Option SplitRest) (split : Option PackedBox) → packed_left rest items ≡ split → is_some rest ≡ true
    → is_some split ≡ true
rest-some items None split same some = absurd (cc)
rest-some items (Some rest) split same some = sym (ap is_some same)

-- A rest has no more items than the list.
filter-shorter : (xs : List Node) → length (filter is_special xs) ≤ length xs
filter-shorter [] = omega arith
filter-shorter (x ∷ xs) = here (is_special x) refl (filter-shorter xs)
  where
    here : (special : Bool) → is_special x ≡ special → length (filter is_special xs) ≤ length xs → length (filter is_special (x ∷ xs)) ≤ length (x ∷ xs)
    here true e less = rw e (omega arith)
    here false e less = rw e (omega arith)

glued-shorter : (glue : Option Glue) (xs : List Node) → length (glued_items glue xs) ≤ length xs + 1
glued-shorter None xs = omega arith
glued-shorter (Some glue) xs = omega arith

pub rest-shorter : (rest : SplitRest) (items : List Node) → IsInside rest items → length (rest_list rest items) ≤ length items
rest-shorter rest items inside =
    let above : List Node = take (rest.start - rest.first) (drop rest.first items) in
    omega (
      arith,
      inside.free,
      inside.ordered,
      inside.within,
      length-append (filter is_special above) (glued_items rest.glue (drop rest.start items)),
      filter-shorter above,
      length-take (rest.start - rest.first) (drop rest.first items),
      glued-shorter rest.glue (drop rest.start items),
      length-drop rest.start items,
    )

-- The rest that is split off one item earlier.
pub taken :
    (items left : List Node) (rest : SplitRest) → left ≡ drop (rest.first - 1) items → IsInside rest items
    → filter is_special (take (rest.start - (rest.first - 1) - 1) (drop 1 left)) ++ glued_items rest.glue (drop (rest.start - (rest.first - 1)) left) ≡ rest_list rest items
taken items left rest is inside =
    let from : rest.first - 1 + 1 ≡ rest.first = omega (arith, inside.free) in
    let to : rest.first - 1 + (rest.start - (rest.first - 1)) ≡ rest.start = omega (arith, inside.free, inside.ordered) in
    let many : rest.start - (rest.first - 1) - 1 ≡ rest.start - rest.first = omega (arith, inside.free) in
    let above : drop 1 left ≡ drop rest.first items = ap (drop 1) is ∙ drop-drop 1 (rest.first - 1) items ∙ ap (λ (i : ℕ). drop i items) from in
    let below : drop (rest.start - (rest.first - 1)) left ≡ drop rest.start items =
    ap (drop (rest.start - (rest.first - 1))) is ∙ drop-drop (rest.start - (rest.first - 1)) (rest.first - 1) items ∙ ap (λ (i : ℕ). drop i items) to in
    ap (λ (xs : List Node). filter is_special (take (rest.start - (rest.first - 1) - 1) xs) ++ glued_items rest.glue (drop (rest.start - (rest.first - 1)) left)) above
    ∙ ap (λ (n : ℕ). filter is_special (take n (drop rest.first items)) ++ glued_items rest.glue (drop (rest.start - (rest.first - 1)) left)) many
    ∙ ap (λ (xs : List Node). filter is_special (take (rest.start - rest.first) (drop rest.first items)) ++ glued_items rest.glue xs) below

-- A fact about an error that is passed on.
pub handed_on : {A E : Type 0} (P : E → Type 0) (r : Result A E) (e : E) → IsErrAnd r (λ y. y ≡ e) → P e → IfErr r P
handed_on P (Ok x) e given p = tt
handed_on P (Err y) e given p = subst P (sym given) p

pub not_ok : {A E : Type 0} (r : Result A E) → is_err r ≡ true → is_ok r ≡ false
not_ok (Ok x) e = absurd (cc)
not_ok (Err y) e = refl
