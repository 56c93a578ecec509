-- The totals of a list, item by item.
use Rattle.std.proofs.Common.{◌≡◌, ◌≢◌, ◌∙◌, ℕ, ◌+◌, ◌<◌, ◌≤◌, List, [], ◌∷◌, ◌++◌, length, take, get_or, length-append, refl, ap, arith, sym}
use Rattle.std.specs.Prelude.{ℤ, pos, ◌+ℤ◌}
use Rattle.std.proofs.lemmas.Int.{ints}
use Rattle.std.proofs.lemmas.List.{take_more}
use Rattle.node_core.specs.declared.tree.Kind.{Kind}
use Rattle.node_core.specs.declared.tree.Kind.TheVariants as kinds
use Rattle.node_core.specs.declared.tree.Glue.{Glue}
use Rattle.node_core.specs.declared.tree.Node.{Node}
use Rattle.node_core.specs.declared.tree.Node.TheVariants as nodes
use Rattle.node_core.specs.declared.tree.Order.{Order}
use Rattle.node_core.specs.declared.tree.Order.TheVariants.{Normal, Fil, Fill, Filll}
use Rattle.pack_core.specs.Items.{advance, stretch_in, shrink_in}
use Rattle.pack_core.specs.Totals.{total, pending_depth}
use Rattle.pack_core.specs.Glue.{stretch_totals, shrink_totals}
use Rattle.pack_core.specs.Orders.{order_amounts, plus, AreWithin}
use Rattle.pack_core.specs.declared.orders.OrderAmounts.{OrderAmounts}
use Rattle.pack_core.specs.ListTotals.{ListTotals, totals_of, with_item, pending_after}
use Rattle.pack_core.proofs.Sums.{total-append, pending-append}

total-one : (size : Node → ℤ) (xs : List Node) (x : Node) → total size xs +ℤ size x ≡ total size (xs ++ x ∷ [])
total-one size xs x = omega (arith, ints, total-append size xs (x ∷ []))

-- The amounts of one more item.
pub plus-one :
    (amount : Order → Node → ℤ) (xs : List Node) (x : Node)
    → plus (order_amounts (λ order. total (amount order) xs)) (λ order. amount order x) ≡ order_amounts (λ order. total (amount order) (xs ++ x ∷ []))
plus-one amount xs x = rw (total-one (amount Normal) xs x, total-one (amount Fil) xs x, total-one (amount Fill) xs x, total-one (amount Filll) xs x) refl

-- One more item after those that were passed.
pub with_item-totals :
    (kind : Kind) (before : List Node) (node : Node) → with_item (totals_of kind before) node ≡ totals_of kind (before ++ node ∷ [])
unfolding totals_of
with_item-totals kind before node =
    let n : length before + 1 ≡ length (before ++ node ∷ []) = omega (arith, length-append before (node ∷ [])) in
    rw (total-one (advance kind) before node, plus-one stretch_in before node, plus-one shrink_in before node, pending-append before node, n) refl

pub totals-more :
    (kind : Kind) (nodes : List Node) (i : ℕ) (node : Node) → i < length nodes → node ≡ get_or nodes i node
    → with_item (totals_of kind (take i nodes)) node ≡ totals_of kind (take (i + 1) nodes)
totals-more kind nodes i node within is =
    with_item-totals kind (take i nodes) node
    ∙ ap (λ (x : Node). totals_of kind (take i nodes ++ x ∷ [])) is
    ∙ sym (ap (totals_of kind) (take_more nodes i node within))

-- Amounts within a bound are within a greater bound.
pub within-more : (m n : ℕ) (amounts : OrderAmounts) → m ≤ n → AreWithin m amounts → AreWithin n amounts
within-more m n amounts less small = record {
  normal = record { low = omega (arith, ints, small.normal.low); high = omega (arith, ints, small.normal.high) };
  fil = record { low = omega (arith, ints, small.fil.low); high = omega (arith, ints, small.fil.high) };
  fill = record { low = omega (arith, ints, small.fill.low); high = omega (arith, ints, small.fill.high) };
  filll = record { low = omega (arith, ints, small.filll.low); high = omega (arith, ints, small.filll.high) };
}

-- A node that is not glue stretches and shrinks in no order.
abbrev pub IsNoGlue : Node → Type 0
IsNoGlue node = (glue : Glue) → node ≢ nodes.Glue glue

pub no_stretch : (node : Node) → IsNoGlue node → (order : Order) → stretch_in order node ≡ pos 0
no_stretch (nodes.Glue glue) other order = absurd (other glue refl)
no_stretch (nodes.Glyph glyph) other order = refl
no_stretch (nodes.FontKern width) other order = refl
no_stretch (nodes.Kern width) other order = refl
no_stretch (nodes.Penalty penalty) other order = refl
no_stretch (nodes.Special text) other order = refl
no_stretch (nodes.Rule rule) other order = refl
no_stretch (nodes.Box shift b) other order = refl

pub no_shrink : (node : Node) → IsNoGlue node → (order : Order) → shrink_in order node ≡ pos 0
no_shrink (nodes.Glue glue) other order = absurd (other glue refl)
no_shrink (nodes.Glyph glyph) other order = refl
no_shrink (nodes.FontKern width) other order = refl
no_shrink (nodes.Kern width) other order = refl
no_shrink (nodes.Penalty penalty) other order = refl
no_shrink (nodes.Special text) other order = refl
no_shrink (nodes.Rule rule) other order = refl
no_shrink (nodes.Box shift b) other order = refl

-- Adding 0 to each amount changes nothing.
pub plus-nothing : (amounts : OrderAmounts) (more : Order → ℤ) → ((order : Order) → more order ≡ pos 0) → amounts ≡ plus amounts more
plus-nothing amounts more none =
    let normal : amounts.normal ≡ amounts.normal +ℤ more Normal = omega (arith, ints, none Normal) in
    let fil : amounts.fil ≡ amounts.fil +ℤ more Fil = omega (arith, ints, none Fil) in
    let fill : amounts.fill ≡ amounts.fill +ℤ more Fill = omega (arith, ints, none Fill) in
    let filll : amounts.filll ≡ amounts.filll +ℤ more Filll = omega (arith, ints, none Filll) in
    rw (← normal, ← fil, ← fill, ← filll) refl

-- A node that is not glue leaves the amounts as they are.
pub with_item-no_glue :
    (totals : ListTotals) (node : Node) → IsNoGlue node
    → record totals { advance = totals.advance +ℤ advance totals.kind node; pending_depth = pending_after totals.pending_depth node; passed = totals.passed + 1 }
    ≡ with_item totals node
with_item-no_glue totals node other =
    let stretch = plus-nothing totals.stretch (λ order. stretch_in order node) (no_stretch node other) in
    let shrink = plus-nothing totals.shrink (λ order. shrink_in order node) (no_shrink node other) in
    λ i. record {
      kind = totals.kind;
      advance = totals.advance +ℤ advance totals.kind node;
      stretch = stretch i;
      shrink = shrink i;
      pending_depth = pending_after totals.pending_depth node;
      passed = totals.passed + 1;
    }

-- Glue moves what follows it by its width, in a list of either kind.
pub advance-glue : (kind : Kind) (glue : Glue) → advance kind (nodes.Glue glue) ≡ glue.width
advance-glue kinds.Horizontal glue = refl
advance-glue kinds.Vertical glue = refl

-- The totals with one more item, part by part.
pub with_item-parts :
    (totals : ListTotals) (node : Node) (move : ℤ) (stretch shrink : OrderAmounts) (depth : ℤ)
    → move ≡ totals.advance +ℤ advance totals.kind node
    → stretch ≡ plus totals.stretch (λ order. stretch_in order node)
    → shrink ≡ plus totals.shrink (λ order. shrink_in order node)
    → depth ≡ pending_after totals.pending_depth node
    → record { kind = totals.kind; advance = move; stretch = stretch; shrink = shrink; pending_depth = depth; passed = totals.passed + 1 } ≡ with_item totals node
with_item-parts totals node move stretch shrink depth moves stretches shrinks pending = λ i. record {
  kind = totals.kind;
  advance = moves i;
  stretch = stretches i;
  shrink = shrinks i;
  pending_depth = pending i;
  passed = totals.passed + 1;
}

-- Each total of a list.
pub totals-kind : (kind : Kind) (nodes : List Node) → (totals_of kind nodes).kind ≡ kind
unfolding totals_of
totals-kind kind nodes = refl

pub totals-advance : (kind : Kind) (nodes : List Node) → (totals_of kind nodes).advance ≡ total (advance kind) nodes
unfolding totals_of
totals-advance kind nodes = refl

pub totals-stretch : (kind : Kind) (nodes : List Node) → (totals_of kind nodes).stretch ≡ order_amounts (stretch_totals nodes)
unfolding totals_of
totals-stretch kind nodes = refl

pub totals-shrink : (kind : Kind) (nodes : List Node) → (totals_of kind nodes).shrink ≡ order_amounts (shrink_totals nodes)
unfolding totals_of
totals-shrink kind nodes = refl

pub totals-pending : (kind : Kind) (nodes : List Node) → (totals_of kind nodes).pending_depth ≡ pending_depth nodes
unfolding totals_of
totals-pending kind nodes = refl

pub totals-passed : (kind : Kind) (nodes : List Node) → (totals_of kind nodes).passed ≡ length nodes
unfolding totals_of
totals-passed kind nodes = refl

pub ruleset passing = (with_item-totals, totals-kind, totals-advance, totals-stretch, totals-shrink, totals-pending, totals-passed)
