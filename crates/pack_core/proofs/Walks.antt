-- A walk over the items of a box, one by one.
use Rattle.std.proofs.Common.{◌≡◌, ◌∙◌, ℕ, ◌+◌, ◌<◌, List, [], ◌∷◌, ◌++◌, length, take, get_or, length-append, refl, ap, arith, sym}
use Rattle.std.specs.Prelude.{ℤ, pos, neg_ℤ, ◌+ℤ◌}
use Rattle.std.proofs.lemmas.Int.{ints}
use Rattle.std.proofs.lemmas.List.{take_more}
use Rattle.node_core.specs.declared.tree.Kind.{Kind}
use Rattle.node_core.specs.declared.tree.Node.{Node}
use Rattle.node_core.specs.declared.tree.Setting.{Setting}
use Rattle.node_core.specs.declared.tree.Setting.TheVariants.{Natural, Stretch, Shrink}
use Rattle.pack_core.specs.Items.{advance}
use Rattle.pack_core.specs.Totals.{total}
use Rattle.pack_core.specs.Places.{share, place}
use Rattle.pack_core.specs.Cursors.{sums_after, one_more, moved_on, place_at}
use Rattle.pack_core.proofs.Sums.{total-append}
use Rattle.pack_core.proofs.Passing.{IsNoGlue, no_stretch, no_shrink}

total-one : (size : Node → ℤ) (xs : List Node) (x : Node) → total size xs +ℤ size x ≡ total size (xs ++ x ∷ [])
total-one size xs x = omega (arith, ints, total-append size xs (x ∷ []))

-- One more item after those that were passed.
pub one_more-reached :
    (kind : Kind) (setting : Setting) (before : List Node) (node : Node)
    → one_more kind setting (sums_after kind setting before) node ≡ sums_after kind setting (before ++ node ∷ [])
unfolding sums_after
one_more-reached kind setting before node =
    let n : length before + 1 ≡ length (before ++ node ∷ []) = omega (arith, length-append before (node ∷ [])) in
    rw (total-one (advance kind) before node, total-one (share setting) before node, n) refl

-- An item without a share in the setting moves a walk by its advance.
pub moved_on-reached :
    (kind : Kind) (setting : Setting) (before : List Node) (node : Node) (distance : ℤ)
    → distance ≡ advance kind node → share setting node ≡ pos 0
    → moved_on (sums_after kind setting before) distance ≡ sums_after kind setting (before ++ node ∷ [])
moved_on-reached kind setting before node distance moves none =
    let from = sums_after kind setting before in
    let shares : from.shares ≡ from.shares +ℤ share setting node = omega (arith, ints, none) in
    rw (moves, ← shares) refl ∙ one_more-reached kind setting before node

-- A node that is not glue has no share in a setting.
pub no_share : (node : Node) → IsNoGlue node → (setting : Setting) → share setting node ≡ pos 0
no_share node other Natural = refl
no_share node other (Stretch order ratio) = no_stretch node other order
no_share node other (Shrink order ratio) = ap neg_ℤ (no_shrink node other order)

pub reached-more :
    (kind : Kind) (setting : Setting) (nodes : List Node) (i : ℕ) (node : Node) → i < length nodes → node ≡ get_or nodes i node
    → one_more kind setting (sums_after kind setting (take i nodes)) node ≡ sums_after kind setting (take (i + 1) nodes)
reached-more kind setting nodes i node within is =
    one_more-reached kind setting (take i nodes) node
    ∙ ap (λ (x : Node). sums_after kind setting (take i nodes ++ x ∷ [])) is
    ∙ sym (ap (sums_after kind setting) (take_more nodes i node within))

pub reached-passed : (kind : Kind) (setting : Setting) (before : List Node) → (sums_after kind setting before).passed ≡ length before
unfolding sums_after
reached-passed kind setting before = refl

pub place-reached : (kind : Kind) (setting : Setting) (before : List Node) → place_at setting (sums_after kind setting before) ≡ place kind setting before
unfolding sums_after place
place-reached kind setting before = refl

pub ruleset walks = (one_more-reached, reached-passed, place-reached)
