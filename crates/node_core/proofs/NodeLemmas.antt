-- Lists of nodes and items are two forms of the same thing.
use Rattle.std.proofs.Common.{◌≡◌, ◌≢◌, ◌∙◌, ℕ, ℤ, zero, suc, ◌+◌, ◌<◌, ◌≤◌, max, List, [], ◌∷◌, ◌++◌, length, take, get_or, refl, ap, sym, arith, Result, Ok, Err, length-append}
use Rattle.std.specs.Prelude.{OnOk, OnErr}
use Rattle.std.proofs.lemmas.List.{take_all, take_more}
use Rattle.node_core.specs.declared.tree.Node.{Node}
use Rattle.node_core.specs.declared.tree.Node.TheVariants.{Glyph, FontKern, Kern, Glue, Penalty, Rule, Special, Box}
use Rattle.node_core.specs.declared.tree.BoxNode.{BoxNode}
use Rattle.node_core.specs.Items.{Leaf, glyph, font_kern, kern, glue, penalty, rule, special, Items, none, leaf, box, items_count, items_depth, items_text}
use Rattle.node_core.specs.declared.tree.HeapBox.TheDeep.{deep-Node}
use Rattle.node_core.specs.Private.Nodes.{list_size}
use Rattle.node_core.specs.Nodes.{max_nodes, IsPlain, items_of, node_of, nodes_of}

-- The nodes of the items of a list are its nodes.
pub nodes_of-items_of : (nodes : List Node) → nodes_of (items_of nodes) ≡ nodes
nodes_of-items_of [] = refl
nodes_of-items_of ((Glyph g) ∷ rest) = ap (λ nodes. Glyph g ∷ nodes) (nodes_of-items_of rest)
nodes_of-items_of ((FontKern width) ∷ rest) = ap (λ nodes. FontKern width ∷ nodes) (nodes_of-items_of rest)
nodes_of-items_of ((Kern width) ∷ rest) = ap (λ nodes. Kern width ∷ nodes) (nodes_of-items_of rest)
nodes_of-items_of ((Glue g) ∷ rest) = ap (λ nodes. Glue g ∷ nodes) (nodes_of-items_of rest)
nodes_of-items_of ((Penalty p) ∷ rest) = ap (λ nodes. Penalty p ∷ nodes) (nodes_of-items_of rest)
nodes_of-items_of ((Rule sizes) ∷ rest) = ap (λ nodes. Rule sizes ∷ nodes) (nodes_of-items_of rest)
nodes_of-items_of ((Special text) ∷ rest) = ap (λ nodes. Special text ∷ nodes) (nodes_of-items_of rest)
nodes_of-items_of ((Box shift b) ∷ rest) = ap (λ nodes. Box shift b ∷ nodes) (nodes_of-items_of rest)

-- A node before others is its leaf before their items.
pub items_of-node_of : (x : Leaf) → (rest : List Node) → items_of (node_of x ∷ rest) ≡ leaf x (items_of rest)
items_of-node_of (glyph g) rest = refl
items_of-node_of (font_kern width) rest = refl
items_of-node_of (kern width) rest = refl
items_of-node_of (glue g) rest = refl
items_of-node_of (penalty p) rest = refl
items_of-node_of (rule sizes) rest = refl
items_of-node_of (special text) rest = refl

-- Items are the items of their nodes.
pub items_of-nodes_of : (items : Items) → items_of (nodes_of items) ≡ items
items_of-nodes_of none = refl
items_of-nodes_of (leaf x rest) = items_of-node_of x (nodes_of rest) ∙ ap (leaf x) (items_of-nodes_of rest)
items_of-nodes_of (box shift frame inner rest) = ap (box shift frame inner) (items_of-nodes_of rest)

-- The facts that the methods of a list and of a box need.
pub ruleset nodes = (nodes_of-items_of, items_of-nodes_of)

-- A list that had fewer nodes than the limit is within the limit after at most one node is appended.
pub one_more_fits :
    {E : Type 0} (result : Result (Unit {0}) E) (old new : List Node) (items : Items) (x : Node) → items_of old ≡ items → length (nodes_of items) < max_nodes
    → OnOk result (new ≡ old ++ x ∷ []) → OnErr result (new ≡ old) → length new ≤ max_nodes
one_more_fits (Ok u) old new items x is few ok err =
    omega (arith, few, ap (λ l. length (nodes_of l)) is, ap length (nodes_of-items_of old), ap length ok, length-append old (x ∷ []))
one_more_fits (Err e) old new items x is few ok err = omega (arith, few, ap (λ l. length (nodes_of l)) is, ap length (nodes_of-items_of old), ap length err)

-- With one more node, the count of a list grows by the count of the node.
abbrev pub node_count : Node → ℕ
node_count x = items_count (items_of (x ∷ []))

abbrev pub node_depth : Node → ℕ
node_depth x = items_depth (items_of (x ∷ []))

pub items_count-append : (front : List Node) → (x : Node) → items_count (items_of (front ++ x ∷ [])) ≡ items_count (items_of front) + node_count x
items_count-append [] x = omega arith
items_count-append ((Glyph g) ∷ rest) x = omega (arith, items_count-append rest x)
items_count-append ((FontKern width) ∷ rest) x = omega (arith, items_count-append rest x)
items_count-append ((Kern width) ∷ rest) x = omega (arith, items_count-append rest x)
items_count-append ((Glue g) ∷ rest) x = omega (arith, items_count-append rest x)
items_count-append ((Penalty p) ∷ rest) x = omega (arith, items_count-append rest x)
items_count-append ((Rule sizes) ∷ rest) x = omega (arith, items_count-append rest x)
items_count-append ((Special text) ∷ rest) x = omega (arith, items_count-append rest x)
items_count-append ((Box shift b) ∷ rest) x = omega (arith, items_count-append rest x)

abbrev pub node_text : Node → ℕ
node_text x = items_text (items_of (x ∷ []))

pub items_text-append : (front : List Node) → (x : Node) → items_text (items_of (front ++ x ∷ [])) ≡ items_text (items_of front) + node_text x
items_text-append [] x = omega arith
items_text-append ((Glyph g) ∷ rest) x = omega (arith, items_text-append rest x)
items_text-append ((FontKern width) ∷ rest) x = omega (arith, items_text-append rest x)
items_text-append ((Kern width) ∷ rest) x = omega (arith, items_text-append rest x)
items_text-append ((Glue g) ∷ rest) x = omega (arith, items_text-append rest x)
items_text-append ((Penalty p) ∷ rest) x = omega (arith, items_text-append rest x)
items_text-append ((Rule sizes) ∷ rest) x = omega (arith, items_text-append rest x)
items_text-append ((Special text) ∷ rest) x = omega (arith, items_text-append rest x)
items_text-append ((Box shift b) ∷ rest) x = omega (arith, items_text-append rest x)

pub items_depth-append : (front : List Node) → (x : Node) → items_depth (items_of (front ++ x ∷ [])) ≡ max (items_depth (items_of front)) (node_depth x)
items_depth-append [] x = omega arith
items_depth-append ((Glyph g) ∷ rest) x = omega (arith, items_depth-append rest x)
items_depth-append ((FontKern width) ∷ rest) x = omega (arith, items_depth-append rest x)
items_depth-append ((Kern width) ∷ rest) x = omega (arith, items_depth-append rest x)
items_depth-append ((Glue g) ∷ rest) x = omega (arith, items_depth-append rest x)
items_depth-append ((Penalty p) ∷ rest) x = omega (arith, items_depth-append rest x)
items_depth-append ((Rule sizes) ∷ rest) x = omega (arith, items_depth-append rest x)
items_depth-append ((Special text) ∷ rest) x = omega (arith, items_depth-append rest x)
items_depth-append ((Box shift b) ∷ rest) x = omega (arith, items_depth-append rest x)

-- The same for the next node of a list that a loop passes over.
pub items_count_more : (nodes : List Node) → (i : ℕ) → (x : Node) → i < length nodes → x ≡ get_or nodes i x →
    items_count (items_of (take (i + 1) nodes)) ≡ items_count (items_of (take i nodes)) + node_count x
items_count_more nodes i x below is =
    ap (λ front. items_count (items_of front)) (take_more nodes i x below) ∙ items_count-append (take i nodes) (get_or nodes i x)
    ∙ ap (λ y. items_count (items_of (take i nodes)) + node_count y) (sym is)

pub items_depth_more : (nodes : List Node) → (i : ℕ) → (x : Node) → i < length nodes → x ≡ get_or nodes i x →
    items_depth (items_of (take (i + 1) nodes)) ≡ max (items_depth (items_of (take i nodes))) (node_depth x)
items_depth_more nodes i x below is =
    ap (λ front. items_depth (items_of front)) (take_more nodes i x below) ∙ items_depth-append (take i nodes) (get_or nodes i x)
    ∙ ap (λ y. max (items_depth (items_of (take i nodes))) (node_depth y)) (sym is)

-- A node that is no box holds no other items.
pub leaf_count : (x : Node) → ((shift : ℤ) (b : BoxNode) → x ≢ Box shift b) → node_count x ≡ 1
leaf_count (Glyph g) other = refl
leaf_count (FontKern width) other = refl
leaf_count (Kern width) other = refl
leaf_count (Glue g) other = refl
leaf_count (Penalty p) other = refl
leaf_count (Rule sizes) other = refl
leaf_count (Special text) other = refl
leaf_count (Box shift b) other = absurd (other shift b refl)

pub leaf_depth : (x : Node) → ((shift : ℤ) (b : BoxNode) → x ≢ Box shift b) → node_depth x ≡ 0
leaf_depth (Glyph g) other = refl
leaf_depth (FontKern width) other = refl
leaf_depth (Kern width) other = refl
leaf_depth (Glue g) other = refl
leaf_depth (Penalty p) other = refl
leaf_depth (Rule sizes) other = refl
leaf_depth (Special text) other = refl
leaf_depth (Box shift b) other = absurd (other shift b refl)

pub items_text_more : (nodes : List Node) → (i : ℕ) → (x : Node) → i < length nodes → x ≡ get_or nodes i x →
    items_text (items_of (take (i + 1) nodes)) ≡ items_text (items_of (take i nodes)) + node_text x
items_text_more nodes i x below is =
    ap (λ front. items_text (items_of front)) (take_more nodes i x below) ∙ items_text-append (take i nodes) (get_or nodes i x)
    ∙ ap (λ y. items_text (items_of (take i nodes)) + node_text y) (sym is)

-- A node that is neither a box nor a special has no text.
pub leaf_text : (x : Node) → ((shift : ℤ) (b : BoxNode) → x ≢ Box shift b) → ((text : List ℕ) → x ≢ Special text) → node_text x ≡ 0
leaf_text (Glyph g) no_box other = refl
leaf_text (FontKern width) no_box other = refl
leaf_text (Kern width) no_box other = refl
leaf_text (Glue g) no_box other = refl
leaf_text (Penalty p) no_box other = refl
leaf_text (Rule sizes) no_box other = refl
leaf_text (Special text) no_box other = absurd (other text refl)
leaf_text (Box shift b) no_box other = absurd (no_box shift b refl)

-- The measures of a list of which no item is a box or a special.
pub plain_depth : (nodes : List Node) → IsPlain nodes → items_depth (items_of nodes) ≡ 0
plain_depth [] is = refl
plain_depth ((Glyph g) ∷ rest) is = plain_depth rest is
plain_depth ((FontKern width) ∷ rest) is = plain_depth rest is
plain_depth ((Kern width) ∷ rest) is = plain_depth rest is
plain_depth ((Glue g) ∷ rest) is = plain_depth rest is
plain_depth ((Penalty p) ∷ rest) is = plain_depth rest is
plain_depth ((Rule sizes) ∷ rest) is = plain_depth rest is
plain_depth ((Special text) ∷ rest) is = absurd (cc)
plain_depth ((Box shift b) ∷ rest) is = absurd (cc)

pub plain_count : (nodes : List Node) → IsPlain nodes → items_count (items_of nodes) ≡ length nodes
plain_count [] is = refl
plain_count ((Glyph g) ∷ rest) is = omega (arith, plain_count rest is)
plain_count ((FontKern width) ∷ rest) is = omega (arith, plain_count rest is)
plain_count ((Kern width) ∷ rest) is = omega (arith, plain_count rest is)
plain_count ((Glue g) ∷ rest) is = omega (arith, plain_count rest is)
plain_count ((Penalty p) ∷ rest) is = omega (arith, plain_count rest is)
plain_count ((Rule sizes) ∷ rest) is = omega (arith, plain_count rest is)
plain_count ((Special text) ∷ rest) is = absurd (cc)
plain_count ((Box shift b) ∷ rest) is = absurd (cc)

pub plain_text : (nodes : List Node) → IsPlain nodes → items_text (items_of nodes) ≡ 0
plain_text [] is = refl
plain_text ((Glyph g) ∷ rest) is = omega (arith, plain_text rest is)
plain_text ((FontKern width) ∷ rest) is = omega (arith, plain_text rest is)
plain_text ((Kern width) ∷ rest) is = omega (arith, plain_text rest is)
plain_text ((Glue g) ∷ rest) is = omega (arith, plain_text rest is)
plain_text ((Penalty p) ∷ rest) is = omega (arith, plain_text rest is)
plain_text ((Rule sizes) ∷ rest) is = omega (arith, plain_text rest is)
plain_text ((Special text) ∷ rest) is = absurd (cc)
plain_text ((Box shift b) ∷ rest) is = absurd (cc)

-- A list nests at least as deep as the list after its first node, and deeper than each of its boxes.
deeper : (x : Node) (rest : List Node) → items_depth (items_of rest) ≤ items_depth (items_of (x ∷ rest))
deeper (Glyph g) rest = omega arith
deeper (FontKern width) rest = omega arith
deeper (Kern width) rest = omega arith
deeper (Glue g) rest = omega arith
deeper (Penalty p) rest = omega arith
deeper (Rule sizes) rest = omega arith
deeper (Special text) rest = omega arith
deeper (Box shift b) rest = omega arith

inner_shallower : (nodes : List Node) (i : ℕ) (x : Node) (shift : ℤ) (b : BoxNode) → i < length nodes → x ≡ get_or nodes i x → x ≡ Box shift b
    → items_depth b.list < items_depth (items_of nodes)
inner_shallower [] i x shift b below at is = absurd (omega arith)
inner_shallower (y ∷ rest) zero x shift b below at is = let e : y ≡ Box shift b = sym at ∙ is in rw e (omega arith)
inner_shallower (y ∷ rest) (suc i) x shift b below at is = omega (arith, deeper y rest, inner_shallower rest i x shift b (omega arith) at is)

pub box_shallower : (items : Items) (nodes : List Node) (i : ℕ) (x : Node) (shift : ℤ) (b : BoxNode) → nodes ≡ nodes_of items → i < length nodes
    → x ≡ get_or nodes i x → x ≡ Box shift b → items_depth b.list < items_depth items
box_shallower items nodes i x shift b are below at is =
    omega (arith, ap (λ l. items_depth (items_of l)) are, ap items_depth (items_of-nodes_of items), inner_shallower nodes i x shift b below at is)

-- At the end of a loop over the nodes of a list, the nodes passed are the list.
pub all_passed : (items : Items) (nodes : List Node) (i : ℕ) → nodes ≡ nodes_of items → length nodes ≤ i → items_of (take i nodes) ≡ items
all_passed items nodes i are all = ap items_of (take_all i nodes all) ∙ ap items_of are ∙ items_of-nodes_of items

-- A list is at least as large as each of its nodes, by the sizes that the models of a list and a box give them.
node_smaller : (nodes : List Node) (i : ℕ) (x : Node) → i < length nodes → x ≡ get_or nodes i x → deep-Node x ≤ list_size (items_of nodes)
node_smaller [] i x below at = absurd (omega arith)
node_smaller (y ∷ rest) zero x below at = rw at (single y rest)
  where
    single : (y : Node) (rest : List Node) → deep-Node y ≤ list_size (items_of (y ∷ rest))
    single (Glyph g) rest = omega arith
    single (FontKern width) rest = omega arith
    single (Kern width) rest = omega arith
    single (Glue g) rest = omega arith
    single (Penalty p) rest = omega arith
    single (Rule sizes) rest = omega arith
    single (Special text) rest = omega arith
    single (Box shift b) rest = omega arith
node_smaller (y ∷ rest) (suc i) x below at = omega (arith, deeper y rest, node_smaller rest i x (omega arith) at)

pub node_of_list : (items : Items) (nodes : List Node) (i : ℕ) (x : Node) → nodes ≡ nodes_of items → i < length nodes → x ≡ get_or nodes i x
    → deep-Node x ≤ list_size items
node_of_list items nodes i x are below at =
    omega (arith, ap (λ l. list_size (items_of l)) are, ap list_size (items_of-nodes_of items), node_smaller nodes i x below at)
