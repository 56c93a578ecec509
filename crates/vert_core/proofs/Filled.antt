-- Lines that get their items, one by one from the last one on.
use Rattle.std.proofs.Common.{◌≡◌, ◌∙◌, ℕ, ◌+◌, ◌-◌, ◌<◌, ◌≤◌, Result, Ok, Err, IsOk, is_ok, if◌then◌else◌, List, [], ◌∷◌, ◌++◌, append_assoc, append-nil, length, length-append, length-take, take, drop, map, reverse, flat_map, refl, ap, sym, subst, arith}
use Rattle.std.proofs.lemmas.List.{reverse-append, map-append, take_at, take-append-drop}
use Rattle.node_core.specs.declared.tree.Node.{Node}
use Rattle.node_core.proofs.NodeLemmas.{nodes_of-items_of}
use Rattle.vert_core.specs.declared.planning.PlannedLine.{PlannedLine}
use Rattle.vert_core.specs.Private.Planned.{with_part, next_begin, moved_lines, items_in, AreInOrder}

-- What the last of some lines gives goes to the end of a list.
pub popped :
    (f : PlannedLine → List Node) (old new : List Node) (before after : List PlannedLine) (line : PlannedLine) → before ≡ after ++ line ∷ [] → new ≡ old ++ f line
    → new ++ flat_map f (reverse after) ≡ old ++ flat_map f (reverse before)
popped f old new before after line split more =
    let back : reverse before ≡ line ∷ reverse after = ap reverse split ∙ reverse-append after (line ∷ []) in
    ap (λ xs. xs ++ flat_map f (reverse after)) more
    ∙ (append_assoc old (f line) (flat_map f (reverse after)) ∙ ap (λ lines. old ++ flat_map f lines) (sym back))

-- There is space for it.
pub popped_space :
    (f : PlannedLine → List Node) (old : List Node) (before after : List PlannedLine) (line : PlannedLine) → before ≡ after ++ line ∷ []
    → length old + length (f line) ≤ length (old ++ flat_map f (reverse before))
popped_space f old before after line split =
    let back : reverse before ≡ line ∷ reverse after = ap reverse split ∙ reverse-append after (line ∷ []) in
    omega (
      arith,
      length-append old (flat_map f (reverse before)),
      ap (λ lines. length (flat_map f lines)) back,
      length-append (f line) (flat_map f (reverse after)),
    )

next_more : (lines : List PlannedLine) (line : PlannedLine) (end : ℕ) → next_begin (lines ++ line ∷ []) end ≡ next_begin lines line.begin
next_more [] line end = refl
next_more (first ∷ rest) line end = refl

-- The order of lines, by the last of them.
pub order_last :
    (bound : ℕ) (lines : List PlannedLine) (line : PlannedLine) → AreInOrder bound (lines ++ line ∷ [])
    → (line.begin ≤ line.end) × (line.end < bound) × AreInOrder line.begin lines
order_last bound [] line order = (order.0, order.1, tt)
order_last bound (first ∷ rest) line order =
    let later = order_last bound rest line order.2 in
    (later.0, later.1, (order.0, subst (λ n. first.end < n) (next_more rest line bound) order.1, later.2))

pub order_more :
    (bound : ℕ) (lines : List PlannedLine) (line : PlannedLine) → line.begin ≤ line.end → line.end < bound → AreInOrder line.begin lines
    → AreInOrder bound (lines ++ line ∷ [])
order_more bound [] line within last order = (within, last, tt)
order_more bound (first ∷ rest) line within last order =
    (order.0, subst (λ n. first.end < n) (sym (next_more rest line bound)) order.1, order_more bound rest line within last order.2)

-- A later bound serves too.
pub order_weak : (bound later : ℕ) (lines : List PlannedLine) → bound ≤ later → AreInOrder bound lines → AreInOrder later lines
order_weak bound later [] at order = tt
order_weak bound later (line ∷ []) at order = (order.0, omega (arith, order.1), tt)
order_weak bound later (line ∷ next ∷ rest) at order = (order.0, order.1, order_weak bound later (next ∷ rest) at order.2)

-- The last of some lines gets the items from where it begins on.
pub moved_last :
    (list : List Node) (end : ℕ) (lines : List PlannedLine) (line : PlannedLine)
    → moved_lines list end (lines ++ line ∷ []) ≡ moved_lines list line.begin lines ++ with_part (drop line.begin (take end list)) line ∷ []
moved_last list end [] line = refl
moved_last list end (first ∷ rest) line =
    ap (λ n. with_part (drop first.begin (take n list)) first ∷ moved_lines list end (rest ++ line ∷ [])) (next_more rest line end)
    ∙ ap (λ lines. with_part (drop first.begin (take (next_begin rest line.begin) list)) first ∷ lines) (moved_last list end rest line)

-- A line more that is filled goes before those that are.
pub filled_more : (front filled : List PlannedLine) (line : PlannedLine) → (front ++ line ∷ []) ++ reverse filled ≡ front ++ reverse (filled ++ line ∷ [])
filled_more front filled line =
    append_assoc front (line ∷ []) (reverse filled) ∙ ap (λ lines. front ++ lines) (sym (reverse-append filled (line ∷ [])))

-- While lines are filled from a list: what is left of it, the lines without items, and those with items, the last one first.
pub record IsMoving (list : List Node) (lines : List PlannedLine) (left : List Node) (before filled : List PlannedLine) : Type 0 where
  pub whole : left ++ flat_map items_in (reverse filled) ≡ list
  pub moved : moved_lines list (length left) before ++ reverse filled ≡ moved_lines list (length list) lines
  pub order : AreInOrder (length left + 1) before

pub moving_first : (list : List Node) (lines : List PlannedLine) → AreInOrder (length list + 1) lines → IsMoving list lines list lines []
moving_first list lines order = record { whole = append-nil list; moved = append-nil (moved_lines list (length list) lines); order = order }

-- The last line begins within what is left.
pub begins_within :
    (list : List Node) (lines : List PlannedLine) (left : List Node) (before filled after : List PlannedLine) (line : PlannedLine)
    → IsMoving list lines left before filled → before ≡ after ++ line ∷ [] → line.begin ≤ length left
begins_within list lines left before filled after line moving split =
    let last = order_last (length left + 1) after line (subst (AreInOrder (length left + 1)) split moving.order) in
    omega (arith, last.0, last.1)

-- The last line takes what is there from where it begins on.
pub moving_more :
    (list : List Node) (lines : List PlannedLine) (left : List Node) (before filled after : List PlannedLine) (line : PlannedLine)
    → IsMoving list lines left before filled → before ≡ after ++ line ∷ []
    → IsMoving list lines (take line.begin left) after (filled ++ with_part (drop line.begin left) line ∷ [])
moving_more list lines left before filled after line moving split =
    let b = line.begin in
    let part = drop b left in
    let given = with_part part line in
    let within : b ≤ length left = begins_within list lines left before filled after line moving split in
    let last = order_last (length left + 1) after line (subst (AreInOrder (length left + 1)) split moving.order) in
    let count : length (take b left) ≡ b = omega (arith, length-take b left, within) in
    let front : take (length left) list ≡ left =
    ap (take (length left)) (sym moving.whole) ∙ take_at left (flat_map items_in (reverse filled)) (length left) refl in
    let back : reverse (filled ++ given ∷ []) ≡ given ∷ reverse filled = reverse-append filled (given ∷ []) in
    let whole : take b left ++ flat_map items_in (reverse (filled ++ given ∷ [])) ≡ list =
    ap (λ xs. take b left ++ flat_map items_in xs) back
    ∙ (ap (λ xs. take b left ++ (xs ++ flat_map items_in (reverse filled))) (nodes_of-items_of part)
    ∙ (sym (append_assoc (take b left) part (flat_map items_in (reverse filled)))
    ∙ (ap (λ xs. xs ++ flat_map items_in (reverse filled)) (take-append-drop b left) ∙ moving.whole))) in
    let given_is : with_part (drop b (take (length left) list)) line ≡ given = ap (λ xs. with_part (drop b xs) line) front in
    let all : moved_lines list (length (take b left)) after ++ reverse (filled ++ given ∷ []) ≡ moved_lines list (length list) lines =
    ap (λ n. moved_lines list n after ++ reverse (filled ++ given ∷ [])) count
    ∙ (sym (filled_more (moved_lines list b after) filled given)
    ∙ (ap (λ x. (moved_lines list b after ++ x ∷ []) ++ reverse filled) (sym given_is)
    ∙ (ap (λ xs. xs ++ reverse filled) (sym (moved_last list (length left) after line))
    ∙ (ap (λ xs. moved_lines list (length left) xs ++ reverse filled) (sym split) ∙ moving.moved)))) in
    record {
      whole = whole;
      moved = all;
      order = order_weak b (length (take b left) + 1) after (omega (arith, count)) last.2;
    }

-- Lines that are given copies, from the last one on.
pub copying_more :
    (f : PlannedLine → PlannedLine) (lines before filled after : List PlannedLine) (line : PlannedLine) → before ≡ after ++ line ∷ []
    → map f before ++ reverse filled ≡ map f lines → map f after ++ reverse (filled ++ f line ∷ []) ≡ map f lines
copying_more f lines before filled after line split is =
    sym (filled_more (map f after) filled (f line))
    ∙ (ap (λ xs. xs ++ reverse filled) (sym (map-append f after (line ∷ [])))
    ∙ (ap (λ xs. map f xs ++ reverse filled) (sym split) ∙ is))

pub appended_ok : {A E : Type 0} (r : Result A E) (old more new : List Node) → IsOk r → new ≡ (if is_ok r then old ++ more else old) → new ≡ old ++ more
appended_ok (Ok u) old more new ok is = is
appended_ok (Err e) old more new ok is = absurd (cc)
