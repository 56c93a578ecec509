-- Free slots: what a loop over slots does at each of them, and the list behind them.
use Rattle.std.proofs.Common.{◌≡◌, ◌∙◌, ℕ, zero, suc, ◌+◌, ◌-◌, Bool, true, false, ◌||◌, ◌<◌, ◌≤◌, List, [], ◌∷◌, ◌++◌, length, take, drop, set, get_or, refl, ap, sym, arith, pos}
use Rattle.std.specs.List.{list_any}
use Rattle.std.proofs.lemmas.List.{drop-drop, drop-set-lt, get_or-drop, length-drop, take_more, take_more_set}
use Rattle.std.proofs.lemmas.List.Folds.{list_any-append}
use Rattle.node_core.specs.declared.tree.Node.{Node}
use Rattle.node_core.specs.declared.tree.Node.TheVariants.{Penalty}
use Rattle.node_core.specs.Classes.{has_content}
use Rattle.node_core.specs.Items.{Items}
use Rattle.node_core.specs.Nodes.{IsPlain, items_of, nodes_of}
use Rattle.node_core.proofs.NodeLemmas.{nodes_of-items_of}

-- One more slot is free.
pub free_more : (nodes : List Node) (i : ℕ) → i < length nodes → IsPlain (take i nodes) → IsPlain (take (i + 1) (set nodes i (Penalty (pos 0))))
free_more nodes i below free =
    ap (list_any has_content) (take_more_set nodes i (Penalty (pos 0)) below) ∙ list_any-append has_content (take i nodes) (Penalty (pos 0) ∷ [])
    ∙ rw free refl

-- The slots after it are as they were.
pub others_more : (old now : List Node) (i : ℕ) (x : Node) → drop i now ≡ drop i old → drop (i + 1) (set now i x) ≡ drop (i + 1) old
others_more old now i x same =
    drop-set-lt (i + 1) now i x (omega arith) ∙ sym (drop-drop 1 i now) ∙ ap (λ (nodes : List Node). drop 1 nodes) same ∙ drop-drop 1 i old

-- The node that leaves it is the next one of the nodes before the loop.
pub taken_more :
    (old now : List Node) (first i : ℕ) (x : Node) → first ≤ i → i < length old → drop i now ≡ drop i old → x ≡ get_or now i x
    → take (i + 1 - first) (drop first old) ≡ take (i - first) (drop first old) ++ x ∷ []
taken_more old now first i x above below same is =
    let none : i + 0 ≡ i = omega arith in
    let more : i + 1 - first ≡ (i - first) + 1 = omega arith in
    let back : first + (i - first) ≡ i = omega arith in
    let item : x ≡ get_or old i x =
    is ∙ sym (ap (λ (n : ℕ). get_or now n x) none) ∙ sym (get_or-drop i now 0 x) ∙ ap (λ (nodes : List Node). get_or nodes 0 x) same
    ∙ get_or-drop i old 0 x ∙ ap (λ (n : ℕ). get_or old n x) none in
    let at : get_or (drop first old) (i - first) x ≡ x = get_or-drop first old (i - first) x ∙ ap (λ (n : ℕ). get_or old n x) back ∙ sym item in
    ap (λ (n : ℕ). take n (drop first old)) more ∙ take_more (drop first old) (i - first) x (omega (arith, length-drop first old, below))
    ∙ ap (λ (y : Node). take (i - first) (drop first old) ++ y ∷ []) at

or_right : (b c : Bool) → (b || c) ≡ false → c ≡ false
or_right true c e = absurd (cc)
or_right false c e = e

-- The last of some plain nodes are plain.
pub plain_drop : (n : ℕ) (nodes : List Node) → IsPlain nodes → IsPlain (drop n nodes)
plain_drop zero nodes is = is
plain_drop (suc n) [] is = refl
plain_drop (suc n) (x ∷ rest) is = plain_drop n rest (or_right (has_content x) (list_any has_content rest) is)

-- The nodes of a list that begins after free slots, and their number.
pub nodes_after_slots : (first : ℕ) (nodes : List Node) (items : Items) → items_of (drop first nodes) ≡ items → nodes_of items ≡ drop first nodes
nodes_after_slots first nodes items is = sym (ap nodes_of is) ∙ nodes_of-items_of (drop first nodes)

pub count_after_slots :
    (first : ℕ) (nodes : List Node) (items : Items) → items_of (drop first nodes) ≡ items → first ≤ length nodes → first + length (nodes_of items) ≡ length nodes
count_after_slots first nodes items is within = omega (arith, ap length (nodes_after_slots first nodes items is), length-drop first nodes, within)

-- The nodes that stay behind the first ones.
pub nodes_behind :
    (first count : ℕ) (old new : List Node) (items : Items) → items_of (drop first old) ≡ items → drop (first + count) new ≡ drop (first + count) old
    → drop (first + count) new ≡ drop count (nodes_of items)
nodes_behind first count old new items is same =
    same ∙ sym (drop-drop count first old) ∙ ap (drop count) (sym (nodes_after_slots first old items is))
