-- The legal places of a finished horizontal list (TeX: The Program, part 38, §816; part 39, §866 to §869).
use Rattle.std.specs.Prelude.{◌+◌, ◌++◌, ℕ, zero, suc, ℤ, pos, negsuc, Bool, true, false, int_lt, int_le, List, [], ◌∷◌, length, slice_get, Option}
use Rattle.std.specs.Prelude.{Some, None, filter}
use Rattle.node_core.specs.declared.tree.Node.{Node}
use Rattle.node_core.specs.declared.tree.Node.TheVariants as nodes
use Rattle.node_core.specs.declared.tree.Kind.TheVariants.{Horizontal}
use Rattle.node_core.specs.Classes.{class_of, is_discardable, precedes_break}

-- Glue, explicit kerns and penalties are dropped at the beginning of a line (TeX: The Program, part 10, §148).
unfoldable pub is_dropped : Node → Bool
is_dropped node = is_discardable (class_of node)

-- There is an item, and glue after it is a legal place.
abbrev pub is_kept : Option Node → Bool
is_kept None = false
is_kept (Some node) = precedes_break Horizontal (class_of node)

-- There is an item, and it is glue.
unfoldable pub is_glue : Option Node → Bool
is_glue None = false
is_glue (Some (nodes.Glue glue)) = true
is_glue (Some node) = false

-- Whether a line can end at an item, by the items before and after it: at glue after an item that is not discardable, at a kern before glue, at a
-- penalty below 10000, and at the end of the list.
unfoldable pub is_break : (before here after : Option Node) → Bool
is_break before None after = true
is_break before (Some (nodes.Glue glue)) after = is_kept before
is_break before (Some (nodes.Kern width)) after = is_glue after
is_break before (Some (nodes.Penalty penalty)) after = int_lt penalty (pos 10000)
is_break before (Some (nodes.Glyph glyph)) after = false
is_break before (Some (nodes.FontKern width)) after = false
is_break before (Some (nodes.Rule rule)) after = false
is_break before (Some (nodes.Special text)) after = false
is_break before (Some (nodes.Box shift b)) after = false

-- The item before a place.
abbrev pub node_before : List Node → ℕ → Option Node
node_before list zero = None
node_before list (suc i) = slice_get list i

-- Whether a place of a list is legal; the places are the indices of its items and its length, which is its end.
unfoldable pub is_legal : List Node → ℕ → Bool
is_legal list i = is_break (node_before list i) (slice_get list i) (slice_get list (i + 1))

-- The numbers below n, in order (own).
abbrev pub up_to : ℕ → List ℕ
up_to zero = []
up_to (suc n) = up_to n ++ n ∷ []

-- The legal places of a list, in order.
abbrev pub legal_places : List Node → List ℕ
legal_places list = filter (is_legal list) (up_to (length list + 1))

-- The penalty of a break: that of a penalty, -10000 at the end, and 0 at glue and kerns.
unfoldable pub penalty_of : Option Node → ℤ
penalty_of None = negsuc 9999
penalty_of (Some (nodes.Penalty penalty)) = penalty
penalty_of (Some node) = pos 0

-- A break is forced by a penalty of -10000 or less.
abbrev pub is_forced : (penalty : ℤ) → Bool
is_forced penalty = int_le penalty (negsuc 9999)
