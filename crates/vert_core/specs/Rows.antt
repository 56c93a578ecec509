-- Paragraphs for the laws about known values (own).
use Rattle.std.specs.Prelude.{ℕ, ℤ, pos, negsuc, List, [], ◌∷◌, flat_map}
use Rattle.node_core.specs.declared.params.Params.{Params}
use Rattle.node_core.specs.declared.tree.Node.{Node}
use Rattle.node_core.specs.declared.tree.Node.TheVariants as nodes
use Rattle.node_core.specs.declared.tree.RuleSize.TheVariants.{Fixed}
use Rattle.node_core.specs.Parameters.{rigid, first_params}
use Rattle.break_lines.specs.Legal.{up_to}
use Rattle.vert_core.specs.Interline.{ignored_depth}
use Rattle.vert_core.specs.Lines.{BrokenParagraph, after_line}
use Rattle.vert_core.specs.Finished.{finished_list}

-- The number of a penalty.
abbrev pub penalty_in : Node → List ℤ
penalty_in (nodes.Penalty penalty) = penalty ∷ []
penalty_in other = []

-- The penalties of `count` lines, in order.
abbrev pub penalties_of : Params → (count : ℕ) → List ℤ
penalties_of params count = flat_map penalty_in (flat_map (after_line params count) (up_to count))

-- Interlinepenalty 1, clubpenalty 10 and widowpenalty 100.
abbrev pub with_penalties : Params
with_penalties = record first_params { interline_penalty = pos 1; club_penalty = pos 10; widow_penalty = pos 100 }

-- The greatest penalties.
abbrev pub greatest_penalties : Params
greatest_penalties = record first_params { interline_penalty = pos 500000000; club_penalty = pos 500000000; widow_penalty = pos 500000000 }

-- A list broken into two lines.
abbrev pub in_two : List Node → (first last : ℕ) → Params → (previous : ℤ) → BrokenParagraph
in_two list first last params previous = record { nodes = list; places = first ∷ last ∷ []; params = params; previous_depth = previous }

-- A rule of this width that is 1pt high.
abbrev pub rule : (width : ℤ) → Node
rule width = nodes.Rule (record { width = Fixed width; height = Fixed (pos 65536); depth = Fixed (pos 0) })

-- Rules that are 50pt, 5pt and 10pt wide: after the first one there are glue of 0pt and a kern of -15pt, and after the second one glue of 0pt.
abbrev pub negative_kern : List Node
negative_kern =
    rule (pos 3276800) ∷ nodes.Glue (rigid (pos 0)) ∷ nodes.Kern (negsuc 983039) ∷ rule (pos 327680) ∷ nodes.Glue (rigid (pos 0)) ∷ rule (pos 655360)
    ∷ []

-- The parameters of a new job with hsize 40pt.
abbrev pub narrow : Params
narrow = record first_params { hsize = pos 2621440 }

-- These rules in two lines, of which the first one ends at the second glue.
abbrev pub two_short_lines : BrokenParagraph
two_short_lines =
    record { nodes = finished_list negative_kern narrow.par_fill_skip; places = 4 ∷ 8 ∷ []; params = narrow; previous_depth = ignored_depth }

-- A special whose text is one byte.
abbrev pub special : Node
special = nodes.Special (0x61 ∷ [])

-- A paragraph that consists of a special, in one line.
abbrev pub special_line : BrokenParagraph
special_line =
    record { nodes = finished_list (special ∷ []) narrow.par_fill_skip; places = 3 ∷ []; params = narrow; previous_depth = ignored_depth }

-- The sizes of a box, the width of glue, and the number of a penalty.
abbrev pub numbers_in : Node → List ℤ
numbers_in (nodes.Box shift b) = b.width ∷ b.height ∷ b.depth ∷ []
numbers_in (nodes.Glue glue) = glue.width ∷ []
numbers_in (nodes.Penalty penalty) = penalty ∷ []
numbers_in other = []
