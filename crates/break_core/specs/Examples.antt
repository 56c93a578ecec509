-- Lists for the laws about known lines (own).
use Rattle.std.specs.Prelude.{ℕ, pos, negsuc, List, [], ◌∷◌}
use Rattle.node_core.specs.declared.tree.Node.{Node}
use Rattle.node_core.specs.declared.tree.Node.TheVariants as nodes
use Rattle.node_core.specs.declared.tree.Order.TheVariants.{Normal}
use Rattle.node_core.specs.declared.tree.RuleSize.TheVariants.{Fixed}
use Rattle.node_core.specs.Parameters.{first_params}
use Rattle.break_lines.specs.Examples.{points}

-- A rule of this width in points and 1pt high.
abbrev pub rule : (width : ℕ) → Node
rule width = nodes.Rule (record { width = Fixed (points width); height = Fixed (points 1); depth = Fixed (pos 0) })

-- Glue of 5pt that stretches by 15pt.
abbrev pub space : Node
space = nodes.Glue (record { width = points 5; stretch = points 15; stretch_order = Normal; shrink = pos 0; shrink_order = Normal })

-- The end of a paragraph in a new job.
abbrev pub paragraph_end : List Node
paragraph_end = nodes.Penalty (pos 10000) ∷ nodes.Glue first_params.par_fill_skip ∷ []

-- Five rules with glue between them.
abbrev pub five_rules : List Node
five_rules = rule 10 ∷ space ∷ rule 10 ∷ space ∷ rule 10 ∷ space ∷ rule 25 ∷ space ∷ rule 30 ∷ paragraph_end

-- Two rules with a kern and glue between them.
abbrev pub kern_and_glue : List Node
kern_and_glue = rule 40 ∷ nodes.Kern (points 5) ∷ space ∷ rule 40 ∷ paragraph_end

-- Two rules, and between them glue with a penalty before and after it that forces a break.
abbrev pub glue_among_penalties : List Node
glue_among_penalties = rule 40 ∷ nodes.Penalty (negsuc 9999) ∷ space ∷ nodes.Penalty (negsuc 9999) ∷ rule 10 ∷ paragraph_end

-- A special whose text is one byte.
abbrev pub special : Node
special = nodes.Special (0x61 ∷ [])

-- Two rules with a special between them, and glue before and after it.
abbrev pub special_between_glue : List Node
special_between_glue = rule 40 ∷ space ∷ special ∷ space ∷ rule 40 ∷ paragraph_end

-- A special and the end of a paragraph.
abbrev pub special_alone : List Node
special_alone = special ∷ paragraph_end
