-- Lists without boxes and specials.
use Rattle.std.proofs.Common.{◌≡◌, ◌∙◌, ◌||◌, ℕ, zero, suc, ◌+◌, ◌-◌, Bool, true, false, not, List, All, [], ◌∷◌, ◌++◌, Option, Some, None, take, drop, map, reverse, refl, ap, sym, subst}
use Rattle.std.specs.Prelude.{slice_get}
use Rattle.std.specs.List.{list_any}
use Rattle.std.proofs.lemmas.List.{reverse-append, reverse-reverse}
use Rattle.std.proofs.lemmas.List.Elements.{All-nil, All-cons, All-head, All-tail, All-push}
use Rattle.std.proofs.lemmas.List.Folds.{list_any-append}
use Rattle.node_core.specs.declared.tree.Node.{Node}
use Rattle.node_core.specs.declared.tree.Node.TheVariants as nodes
use Rattle.node_core.specs.Classes.{has_content}
use Rattle.node_core.specs.Nodes.{IsPlain}
use Rattle.node_core.proofs.NodeLemmas.{nodes_of-items_of}
use Rattle.break_lines.specs.LineItems.{at_break}
use Rattle.vert_core.specs.declared.planning.PlannedLine.{PlannedLine}
use Rattle.vert_core.specs.Private.Planned.{HasPlainItems, copied_line, items_with_break, moved_lines, next_begin, part_of, with_part}

neither_left : (a b : Bool) → (a || b) ≡ false → a ≡ false
neither_left true b is = absurd (cc)
neither_left false b is = refl

neither_right : (a b : Bool) → (a || b) ≡ false → b ≡ false
neither_right true b is = absurd (cc)
neither_right false b is = is

-- What is found of a list.
pub known_plain : (b : Bool) (list : List Node) → b ≡ list_any has_content list → not b ≡ true → IsPlain list
known_plain true list is on = absurd (cc)
known_plain false list is on = sym is

-- Parts of a list.
pub plain_take : (n : ℕ) (list : List Node) → IsPlain list → IsPlain (take n list)
plain_take zero list is = refl
plain_take (suc n) [] is = refl
plain_take (suc n) (node ∷ rest) is =
    ap (λ b. b || list_any has_content (take n rest)) (neither_left (has_content node) (list_any has_content rest) is)
    ∙ plain_take n rest (neither_right (has_content node) (list_any has_content rest) is)

pub plain_drop : (n : ℕ) (list : List Node) → IsPlain list → IsPlain (drop n list)
plain_drop zero list is = is
plain_drop (suc n) [] is = refl
plain_drop (suc n) (node ∷ rest) is = plain_drop n rest (neither_right (has_content node) (list_any has_content rest) is)

plain_joined : (front back : List Node) → IsPlain front → IsPlain back → IsPlain (front ++ back)
plain_joined front back one other =
    list_any-append has_content front back ∙ (ap (λ b. b || list_any has_content back) one ∙ other)

plain_end : (node : Option Node) → IsPlain (at_break node)
plain_end None = refl
plain_end (Some (nodes.Glyph g)) = refl
plain_end (Some (nodes.FontKern width)) = refl
plain_end (Some (nodes.Kern width)) = refl
plain_end (Some (nodes.Glue g)) = refl
plain_end (Some (nodes.Penalty p)) = refl
plain_end (Some (nodes.Rule sizes)) = refl
plain_end (Some (nodes.Special text)) = refl
plain_end (Some (nodes.Box shift b)) = refl

-- What a line keeps of plain items is plain.
pub plain_line : (count : ℕ) (part : List Node) → IsPlain part → IsPlain (items_with_break count part)
plain_line count part is = plain_joined (take count part) (at_break (slice_get part count)) (plain_take count part is) (plain_end (slice_get part count))

-- A line with plain items.
plain_given : (part : List Node) (line : PlannedLine) → IsPlain part → HasPlainItems (with_part part line)
plain_given part line is = subst IsPlain (sym (nodes_of-items_of part)) is

-- The lines of a plain list.
pub plain_moved : (list : List Node) (end : ℕ) (lines : List PlannedLine) → IsPlain list → All HasPlainItems (moved_lines list end lines)
plain_moved list end [] is = All-nil HasPlainItems
plain_moved list end (line ∷ rest) is =
    let front = take (next_begin rest end) list in
    let part = drop line.begin front in
    All-cons HasPlainItems (with_part part line) (moved_lines list end rest)
    (plain_given part line (plain_drop line.begin front (plain_take (next_begin rest end) list is)))
    (plain_moved list end rest is)

pub plain_copied : (list : List Node) (lines : List PlannedLine) → IsPlain list → All HasPlainItems (map (copied_line list) lines)
plain_copied list [] is = All-nil HasPlainItems
plain_copied list (line ∷ rest) is =
    All-cons HasPlainItems (copied_line list line) (map (copied_line list) rest)
    (plain_given (part_of list line) line (plain_take (line.end - line.begin + 1) (drop line.begin list) (plain_drop line.begin list is)))
    (plain_copied list rest is)

all_reversed : (lines : List PlannedLine) → All HasPlainItems lines → All HasPlainItems (reverse lines)
all_reversed [] all = All-nil HasPlainItems
all_reversed (line ∷ rest) all =
    subst (All HasPlainItems) (sym (reverse-append (line ∷ []) rest))
    (All-push HasPlainItems (reverse rest) line (all_reversed rest (All-tail HasPlainItems line rest all)) (All-head HasPlainItems line rest all))

-- The order of the lines does not count.
pub plain_filled : (filled lines : List PlannedLine) → reverse filled ≡ lines → All HasPlainItems lines → All HasPlainItems filled
plain_filled filled lines is all =
    subst (All HasPlainItems) (reverse-reverse filled) (all_reversed (reverse filled) (subst (All HasPlainItems) (sym is) all))
