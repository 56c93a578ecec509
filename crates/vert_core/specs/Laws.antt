-- Lists for the laws about known splits (own).
use Rattle.std.specs.Prelude.{◌*◌, ℕ, ℤ, pos, negsuc, List, [], ◌∷◌, map, Option}
use Rattle.std.specs.Option.{option_map}
use Rattle.node_core.specs.declared.params.SplitParams.{SplitParams}
use Rattle.node_core.specs.declared.tree.Node.{Node}
use Rattle.node_core.specs.declared.tree.Node.TheVariants as nodes
use Rattle.node_core.specs.declared.tree.Order.TheVariants.{Normal, Fil}
use Rattle.node_core.specs.declared.tree.RuleSize.TheVariants.{Fixed}
use Rattle.node_core.specs.Nodes.{nodes_of}
use Rattle.node_core.specs.Parameters.{rigid, first_split_params}
use Rattle.pack_core.specs.declared.pack.PackedBox.{PackedBox}
use Rattle.vert_core.specs.Split.{trials, front_of, rest_of}
use Rattle.vert_core.specs.declared.trials.Trial.{Trial}

-- A number of points, in scaled points.
abbrev pub points : ℕ → ℤ
points n = pos (65536 * n)

-- A rule of this height, 10pt wide and without depth.
abbrev pub rule : (height : ℤ) → Node
rule height = nodes.Rule (record { width = Fixed (points 10); height = Fixed height; depth = Fixed (pos 0) })

-- Glue of this width, which neither stretches nor shrinks.
abbrev pub space : (width : ℤ) → Node
space width = nodes.Glue (rigid width)

-- Glue of width 0 with this shrink in order fil.
abbrev pub shrinking_glue : ℤ → Node
shrinking_glue shrink = nodes.Glue (record { width = pos 0; stretch = pos 0; stretch_order = Normal; shrink = shrink; shrink_order = Fil })

-- The height of the front of a split.
abbrev pub front_height : SplitParams → (goal : ℤ) → List Node → ℤ
front_height params goal items = (front_of params goal items).box_node.height

-- The badness of the front of a split.
abbrev pub badness_of_front : SplitParams → (goal : ℤ) → List Node → ℕ
badness_of_front params goal items = (front_of params goal items).badness

-- The height of the rest of a split, if there is a rest.
abbrev pub rest_height : SplitParams → (goal : ℤ) → List Node → Option ℤ
rest_height params goal items = option_map (λ (p : PackedBox). p.box_node.height) (rest_of params goal items)

-- Three rules, 5pt high: glue of 2pt between the first two, and a penalty that forces a split between the last two.
abbrev pub forced_split : List Node
forced_split = rule (points 5) ∷ space (points 2) ∷ rule (points 5) ∷ nodes.Penalty (negsuc 9999) ∷ rule (points 5) ∷ []

-- Three rules, 5pt high, with glue of 1pt between them.
abbrev pub spaced_rules : List Node
spaced_rules = rule (points 5) ∷ space (points 1) ∷ rule (points 5) ∷ space (points 1) ∷ rule (points 5) ∷ []

-- Two rules, 30pt high, with glue of 1pt between them.
abbrev pub high : List Node
high = rule (points 30) ∷ space (points 1) ∷ rule (points 30) ∷ []

-- A rule, 5pt high, and one whose height is nearly the least dimension, with a penalty that forces a split between them.
abbrev pub sunken_rules : List Node
sunken_rules = rule (points 5) ∷ nodes.Penalty (negsuc 9999) ∷ rule (negsuc 1073741821) ∷ []

-- A rule of this depth, 10pt wide and 5pt high.
abbrev pub deep : (depth : ℤ) → Node
deep depth = nodes.Rule (record { width = Fixed (points 10); height = Fixed (points 5); depth = Fixed depth })

-- Two rules, 5pt high, of which the first is 3pt deep, with glue of width 0 between them.
abbrev pub hanging_rules : List Node
hanging_rules = deep (points 3) ∷ space (pos 0) ∷ rule (points 5) ∷ []

-- Glue and kerns before, between and after rules, and penalties.
abbrev pub mixed_items : List Node
mixed_items =
    space (pos 0) ∷ rule (points 5) ∷ nodes.Kern (pos 0) ∷ rule (points 5) ∷ nodes.Kern (pos 0) ∷ space (pos 0) ∷ space (pos 0)
    ∷ nodes.Penalty (pos 10000) ∷ nodes.Penalty (pos 9999) ∷ rule (points 5) ∷ space (pos 0) ∷ []

-- The places of a list where a split is allowed.
abbrev pub places : List Node → List ℕ
places items = map (λ (t : Trial). t.place) (trials first_split_params (pos 0) items)

-- Splittopskip of this width, which stretches by 1fil.
abbrev pub stretching_top : (width : ℤ) → SplitParams
stretching_top width =
    record first_split_params {
      split_top_skip = record { width = width; stretch = points 1; stretch_order = Fil; shrink = pos 0; shrink_order = Normal };
    }

-- The items of the rest of a split, if there is a rest.
abbrev pub rest_nodes : SplitParams → (goal : ℤ) → List Node → Option (List Node)
rest_nodes params goal items = option_map (λ (p : PackedBox). nodes_of p.box_node.list) (rest_of params goal items)

-- A special whose text is this byte.
abbrev pub special : (byte : ℕ) → Node
special byte = nodes.Special (byte ∷ [])

-- Two rules, 5pt high, a penalty that forces a split between them, and specials and glue after it.
abbrev pub marked_rules : List Node
marked_rules =
    rule (points 5) ∷ nodes.Penalty (negsuc 9999) ∷ special 97 ∷ space (points 2) ∷ special 98 ∷ nodes.Penalty (pos 0) ∷ rule (points 5) ∷ special 99
    ∷ []

-- A rule, 5pt high, a penalty that forces a split, and a special between glue.
abbrev pub marked_end : List Node
marked_end = rule (points 5) ∷ nodes.Penalty (negsuc 9999) ∷ space (points 2) ∷ special 97 ∷ space (points 2) ∷ []

-- The width, height and depth of the rest of a split, if there is a rest.
abbrev pub rest_sizes : SplitParams → (goal : ℤ) → List Node → Option (List ℤ)
rest_sizes params goal items =
    option_map (λ (p : PackedBox). p.box_node.width ∷ p.box_node.height ∷ p.box_node.depth ∷ []) (rest_of params goal items)
