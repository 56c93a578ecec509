-- What the totals of the items that were passed say about them.
use Rattle.std.proofs.Common.{◌≡◌, List, refl}
use Rattle.std.specs.Prelude.{ℤ, pos}
use Rattle.node_core.specs.declared.params.SplitParams.{SplitParams}
use Rattle.node_core.specs.declared.tree.Kind.TheVariants.{Vertical}
use Rattle.node_core.specs.declared.tree.Node.{Node}
use Rattle.scaled_core.specs.Badness.{badness_of}
use Rattle.pack_core.specs.declared.orders.OrderAmounts.{OrderAmounts}
use Rattle.pack_core.specs.ListTotals.{ListTotals, totals_of}
use Rattle.vert_core.specs.Costs.{stretching_badness, shrinking_badness, badness_to, front_badness}
use Rattle.vert_core.specs.Private.Walks.{amounts_by, natural_at}

-- No glue of an infinite order can stretch.
pub stretching-finite :
    (amount : ℤ) (stretch : OrderAmounts) → stretch.fil ≡ pos 0 → stretch.fill ≡ pos 0 → stretch.filll ≡ pos 0
    → badness_of amount stretch.normal ≡ stretching_badness amount (amounts_by stretch)
unfolding stretching_badness
stretching-finite amount stretch fil fill filll = rw (fil, fill, filll) refl

-- The badness of the items that were passed is that of the front.
pub badness-front :
    (params : SplitParams) (goal : ℤ) (totals : ListTotals) (natural : ℤ) (stretch : OrderAmounts) (shrink : ℤ) (front : List Node)
    → natural ≡ natural_at params.split_max_depth totals → stretch ≡ totals.stretch → shrink ≡ totals.shrink.normal → totals ≡ totals_of Vertical front
    → badness_to goal natural (amounts_by stretch) shrink ≡ front_badness params goal front
unfolding front_badness badness_to stretching_badness shrinking_badness natural_at totals_of
badness-front params goal totals natural stretch shrink front high s t is = rw (high, s, t, is) refl
