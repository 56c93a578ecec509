-- Lists for the laws about known boxes (own).
use Rattle.std.specs.Prelude.{ℤ, pos}
use Rattle.node_core.specs.declared.tree.Glue.{Glue}
use Rattle.node_core.specs.declared.tree.Order.{Order}
use Rattle.node_core.specs.declared.tree.Order.TheVariants.{Normal, Fil}
use Rattle.node_core.specs.Items.{Items, none, leaf, glue, kern}

-- Glue of width 0 with this stretch in this order, and without shrink.
abbrev pub stretching_glue : ℤ → Order → Glue
stretching_glue stretch order = record { width = pos 0; stretch = stretch; stretch_order = order; shrink = pos 0; shrink_order = Normal }

-- Glue of width 0 with this shrink in the normal order, and without stretch.
abbrev pub shrinking_glue : ℤ → Glue
shrinking_glue shrink = record { width = pos 0; stretch = pos 0; stretch_order = Normal; shrink = shrink; shrink_order = Normal }

-- Three glues that stretch by 1sp each.
abbrev pub three_stretching : Items
three_stretching = leaf (glue (stretching_glue (pos 1) Normal))
    (leaf (glue (stretching_glue (pos 1) Normal)) (leaf (glue (stretching_glue (pos 1) Normal)) none))

-- Two glues that shrink by 1sp each.
abbrev pub two_shrinking : Items
two_shrinking = leaf (glue (shrinking_glue (pos 1))) (leaf (glue (shrinking_glue (pos 1))) none)

-- A kern of 5pt, glue that stretches by 5pt, and glue that stretches by 1fil.
abbrev pub kern_and_fil : Items
kern_and_fil = leaf (kern (pos 327680)) (leaf (glue (stretching_glue (pos 327680) Normal)) (leaf (glue (stretching_glue (pos 65536) Fil)) none))
