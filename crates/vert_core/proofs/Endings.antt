-- Lists of paragraphs that are finished, and turned back.
use Rattle.std.proofs.Common.{◌≡◌, ◌∙◌, ℕ, zero, suc, ◌+◌, ◌-◌, ◌<◌, List, [], ◌∷◌, ◌++◌, length, length-append, take, refl, ap, sym, arith, Option, Some, None}
use Rattle.std.specs.Prelude.{pos, slice_get, slice_set}
use Rattle.std.proofs.lemmas.Option.{same_Some, slice_get_within}
use Rattle.std.proofs.lemmas.List.{length-take}
use Rattle.std.proofs.Math.Seq.{take-append_seam}
use Rattle.node_core.specs.declared.tree.Glue.{Glue}
use Rattle.node_core.specs.declared.tree.Node.{Node}
use Rattle.node_core.specs.declared.tree.Node.TheVariants as nodes
use Rattle.vert_core.specs.Finished.{glue_at, final_glue, without_glue, finished_list}

-- The last item of a list, and the items before it.
last_item : (list : List Node) (k : ℕ) (x : Node) → slice_get list k ≡ Some x → k + 1 ≡ length list → list ≡ take k list ++ x ∷ []
last_item [] k x at end = absurd (omega arith)
last_item (y ∷ []) zero x at end = ap (λ z. z ∷ []) (same_Some y x at)
last_item (y ∷ z ∷ rest) zero x at end = absurd (omega arith)
last_item (y ∷ rest) (suc k) x at end = ap (λ l. y ∷ l) (last_item rest k x at (omega arith))

is_glue : (at : Option Node) (g : Glue) → glue_at at ≡ Some g → at ≡ Some (nodes.Glue g)
is_glue None g is = absurd (cc)
is_glue (Some (nodes.Glyph x)) g is = absurd (cc)
is_glue (Some (nodes.FontKern x)) g is = absurd (cc)
is_glue (Some (nodes.Kern x)) g is = absurd (cc)
is_glue (Some (nodes.Glue x)) g is = ap (λ y. Some (nodes.Glue y)) (same_Some x g is)
is_glue (Some (nodes.Penalty x)) g is = absurd (cc)
is_glue (Some (nodes.Rule x)) g is = absurd (cc)
is_glue (Some (nodes.Special text)) g is = absurd (cc)
is_glue (Some (nodes.Box s x)) g is = absurd (cc)

-- A list that ends with glue, and its length.
pub ends_in_glue : (list : List Node) (g : Glue) → final_glue list ≡ Some g → (list ≡ take (length list - 1) list ++ nodes.Glue g ∷ []) × (length (take (length list - 1) list) + 1 ≡ length list)
ends_in_glue list g is =
    let at = is_glue (slice_get list (length list - 1)) g is in
    let within = slice_get_within list (length list - 1) (nodes.Glue g) at in
    let last : length list - 1 + 1 ≡ length list = omega arith in
    (last_item list (length list - 1) (nodes.Glue g) at last, omega (arith, length-take (length list - 1) list))

-- Replacing a node in the middle of a list.
set_after : (front after : List Node) (x y : Node) → slice_set (front ++ x ∷ after) (length front) y ≡ front ++ y ∷ after
set_after [] after x y = refl
set_after (z ∷ front) after x y = ap (λ l. z ∷ l) (set_after front after x y)

set_at : (list front after : List Node) (x y : Node) (k : ℕ) → list ≡ front ++ x ∷ after → k ≡ length front → slice_set list k y ≡ front ++ y ∷ after
set_at list front after x y k is at = ap (λ l. slice_set l k y) is ∙ ap (λ i. slice_set (front ++ x ∷ after) i y) at ∙ set_after front after x y

joined_more : (front : List Node) (x y : Node) → (front ++ x ∷ []) ++ y ∷ [] ≡ front ++ x ∷ y ∷ []
joined_more [] x y = refl
joined_more (z ∷ front) x y = ap (λ l. z ∷ l) (joined_more front x y)

-- The glue at the end is replaced.
pub finished_glue :
    (list longer : List Node) (skip g : Glue) (k : ℕ) → final_glue list ≡ Some g → longer ≡ list ++ nodes.Glue skip ∷ [] → k + 1 ≡ length list
    → slice_set longer k (nodes.Penalty (pos 10000)) ≡ finished_list list skip
finished_glue list longer skip g k is more last =
    let parts = ends_in_glue list g is in
    let front : List Node = take (length list - 1) list in
    let whole : longer ≡ front ++ nodes.Glue g ∷ nodes.Glue skip ∷ [] = more ∙ ap (λ l. l ++ nodes.Glue skip ∷ []) parts.0 ∙ joined_more front (nodes.Glue g) (nodes.Glue skip) in
    set_at longer front (nodes.Glue skip ∷ []) (nodes.Glue g) (nodes.Penalty (pos 10000)) k whole (omega (arith, parts.1))
    ∙ ap (λ glue. without_glue glue list ++ nodes.Penalty (pos 10000) ∷ nodes.Glue skip ∷ []) (sym is)

-- The glue is put back.
pub unfinished_glue :
    (list old new : List Node) (skip g : Glue) (count : ℕ) → old ≡ finished_list list skip → final_glue list ≡ Some g → count ≡ length old
    → new ≡ slice_set (take (count - 1) old) (count - 2) (nodes.Glue g) → new ≡ list
unfinished_glue list old new skip g count was is count_is now =
    let parts = ends_in_glue list g is in
    let front : List Node = take (length list - 1) list in
    let penalty : Node = nodes.Penalty (pos 10000) in
    let whole : old ≡ front ++ penalty ∷ nodes.Glue skip ∷ [] = was ∙ ap (λ glue. without_glue glue list ++ penalty ∷ nodes.Glue skip ∷ []) is in
    let cut : old ≡ (front ++ penalty ∷ []) ++ nodes.Glue skip ∷ [] = whole ∙ sym (joined_more front penalty (nodes.Glue skip)) in
    let shorter : count - 1 ≡ length (front ++ penalty ∷ []) =
    omega (arith, ap length cut, length-append (front ++ penalty ∷ []) (nodes.Glue skip ∷ [])) in
    let popped : take (count - 1) old ≡ front ++ penalty ∷ [] =
    ap (λ n. take n old) shorter ∙ ap (take (length (front ++ penalty ∷ []))) cut ∙ take-append_seam (front ++ penalty ∷ []) (nodes.Glue skip ∷ []) in
    now
    ∙ set_at (take (count - 1) old) front [] penalty (nodes.Glue g) (count - 2) popped (omega (arith, shorter, length-append front (penalty ∷ [])))
    ∙ sym parts.0

-- A list that ends with glue is not empty.
pub glue_within : (list : List Node) (g : Glue) → final_glue list ≡ Some g → 0 < length list
glue_within list g is = omega (arith, slice_get_within list (length list - 1) (nodes.Glue g) (is_glue (slice_get list (length list - 1)) g is))
