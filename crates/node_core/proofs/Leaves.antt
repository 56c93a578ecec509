-- Properties of each leaf of a list.
use Rattle.node_core.specs.Items.{Leaf, Items, none, leaf, box, EachLeaf}

-- Where each leaf has the property P, and P implies Q, each leaf has Q.
pub each_leaf : (P Q : Leaf → Type 0) → ((x : Leaf) → P x → Q x) → (items : Items) → EachLeaf P items → EachLeaf Q items
each_leaf P Q turns none all = tt
each_leaf P Q turns (leaf x rest) all = (turns x all.0, each_leaf P Q turns rest all.1)
each_leaf P Q turns (box shift frame inner rest) all = (each_leaf P Q turns inner all.0, each_leaf P Q turns rest all.1)
