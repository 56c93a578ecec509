-- Even lists: the places next to one another decide for all.
use Rattle.std.proofs.Common.{◌≡◌, ◌∙◌, ℕ, zero, suc, ◌+◌, ◌-◌, ◌<◌, ◌≤◌, min, Bool, true, false, List, [], ◌∷◌, length, take, drop, refl, ap, sym, subst, arith, Some}
use Rattle.std.specs.Prelude.{ℤ, pos, negsuc, int_lt, ◌≤ℤ◌, ◌||◌, slice_get, if◌then◌else◌}
use Rattle.std.specs.List.{list_any}
use Rattle.std.proofs.Math.Logic.{◌⊎◌, inl, inr}
use Rattle.std.proofs.lemmas.Int.{ints}
use Rattle.std.proofs.lemmas.Bool.{cases_lt}
use Rattle.node_core.specs.declared.tree.Node.{Node}
use Rattle.node_core.specs.declared.tree.Node.TheVariants as nodes
use Rattle.node_core.specs.declared.tree.Order.{Order}
use Rattle.node_core.specs.declared.tree.Order.TheVariants.{Normal, Fil, Fill, Filll}
use Rattle.pack_core.specs.Items.{is_order, stretch_in}
use Rattle.pack_core.specs.Totals.{total}
use Rattle.break_lines.specs.declared.sums.Sums.{Sums}
use Rattle.break_lines.specs.declared.mark.MeasuredBreak.{MeasuredBreak}
use Rattle.break_lines.specs.Legal.{legal_places}
use Rattle.break_lines.specs.LineItems.{sums_of, first_item_kept, minus}
use Rattle.break_lines.specs.Facts.{facts_of, position_of, begins_at}
use Rattle.break_lines.specs.Private.Marks.{measured_break, marks_of, no_sums, has_negative_stretch, GoesOnEvenly, GoesOnInWidth}
use Rattle.break_lines.specs.Even.{Covers, IsEven}
use Rattle.break_lines.proofs.KeptSums.{kept_sums, kept_nothing, kept_some}
use Rattle.break_lines.proofs.Places.{rising_places, begins_some, begins_before}
use Rattle.break_lines.proofs.Marked.{start_is, place_is, begin_is, count_is, turned}
use Rattle.break_lines.proofs.Rising.{first_same}

-- The sums over the items before a position.
abbrev front_sums : List Node → ℕ → Sums
front_sums list k = sums_of (take k list)

-- Where the line from a place begins.
abbrev begin_of : List Node → ℕ → ℕ
begin_of list a = first_item_kept list (begins_at list a)

-- Sums over fewer items at the end are sums over more items before them.
front_covers : (list : List Node) (a b : ℕ) → Covers (sums_of (drop a list)) (sums_of (drop b list)) → Covers (front_sums list b) (front_sums list a)
front_covers list a b is =
    let e = turned list a b in
    record {
      width = omega (arith, ints, ap (λ s. s.width) e, is.width);
      stretch = omega (arith, ints, ap (λ s. s.stretch) e, is.stretch);
      fil = omega (arith, ints, ap (λ s. s.fil) e, is.fil);
      fill = omega (arith, ints, ap (λ s. s.fill) e, is.fill);
      filll = omega (arith, ints, ap (λ s. s.filll) e, is.filll);
    }

covers_same : (s : Sums) → Covers s s
covers_same s =
    record { width = omega (arith, ints); stretch = omega (arith, ints); fil = omega (arith, ints); fill = omega (arith, ints); filll = omega (arith, ints) }

covers_both : (s t u : Sums) → Covers s t → Covers t u → Covers s u
covers_both s t u is more =
    record {
      width = omega (arith, ints, is.width, more.width);
      stretch = omega (arith, ints, is.stretch, more.stretch);
      fil = omega (arith, ints, is.fil, more.fil);
      fill = omega (arith, ints, is.fill, more.fill);
      filll = omega (arith, ints, is.filll, more.filll);
    }

-- A difference is not negative if more is taken from than is taken away, and grows when less is taken away.
covers_none : (s t : Sums) → Covers s t → Covers (minus s t) no_sums
covers_none s t is =
    record {
      width = omega (arith, ints, is.width);
      stretch = omega (arith, ints, is.stretch);
      fil = omega (arith, ints, is.fil);
      fill = omega (arith, ints, is.fill);
      filll = omega (arith, ints, is.filll);
    }

none_covers : (s t : Sums) → Covers (minus s t) no_sums → Covers s t
none_covers s t is =
    record {
      width = omega (arith, ints, is.width);
      stretch = omega (arith, ints, is.stretch);
      fil = omega (arith, ints, is.fil);
      fill = omega (arith, ints, is.fill);
      filll = omega (arith, ints, is.filll);
    }

covers_less : (all s t : Sums) → Covers t s → Covers (minus all s) (minus all t)
covers_less all s t is =
    record {
      width = omega (arith, ints, is.width);
      stretch = omega (arith, ints, is.stretch);
      fil = omega (arith, ints, is.fil);
      fill = omega (arith, ints, is.fill);
      filll = omega (arith, ints, is.filll);
    }

-- What a turn of the walk finds, in terms of the list: the items that are dropped after a place, and those of the line from there to the next place,
-- are not negative together; nor are the items from the place to the next one, if that is among those that are dropped.
pub record GoesOn (list : List Node) (a : ℕ) : Type 0 where
  pub dropped : 0 < a → Covers (front_sums list (begin_of list a)) (front_sums list (position_of list a))
  pub line : begin_of list a ≤ position_of list (a + 1) → Covers (front_sums list (position_of list (a + 1))) (front_sums list (begin_of list a))
  pub passed :
      0 < a → position_of list (a + 1) < begin_of list a
      → Covers (front_sums list (position_of list (a + 1))) (front_sums list (position_of list a))

goes_on :
    (list : List Node) (marks : List MeasuredBreak) (a : ℕ) (x y : MeasuredBreak) → marks ≡ marks_of list → a + 1 < length marks
    → slice_get marks a ≡ Some x → slice_get marks (a + 1) ≡ Some y → GoesOnEvenly x y → GoesOn list a
goes_on list marks a x y is within here there evenly =
    record {
      dropped = λ some.
          front_covers list (position_of list a) (begin_of list a)
          (subst (λ s. Covers s (sums_of (drop (begin_of list a) list))) (from some) (subst (Covers x.from_position) begin.1 evenly.dropped));
      line = λ begun.
          front_covers list (begin_of list a) (position_of list (a + 1))
          (subst (λ s. Covers s (sums_of (drop (position_of list (a + 1)) list))) begin.1
          (subst (Covers x.from_begin) to (evenly.line (omega (arith, begun, begin.0, at)))));
      passed = λ some early.
          front_covers list (position_of list a) (position_of list (a + 1))
          (subst (λ s. Covers s (sums_of (drop (position_of list (a + 1)) list))) (from some)
          (subst (Covers x.from_position) to (evenly.passed (omega (arith, early, begin.0, at)))));
    }
  where
    mark : y ≡ measured_break list (position_of list (a + 1))
    mark = place_is list marks (a + 1) y is (omega arith) within there

    to : y.from_position ≡ sums_of (drop (position_of list (a + 1)) list)
    to = ap (λ m. m.from_position) mark

    at : y.position ≡ position_of list (a + 1)
    at = ap (λ m. m.position) mark

    from : 0 < a → x.from_position ≡ sums_of (drop (position_of list a) list)
    from some = ap (λ m. m.from_position) (place_is list marks a x is some (omega (arith, within)) here)

    begin : (x.begin ≡ begin_of list a) × (x.from_begin ≡ sums_of (drop (begin_of list a) list))
    begin = begin_is list marks a x is (omega (arith, within)) here

pub goes_on_next :
    (list : List Node) (marks : List MeasuredBreak) (a b : ℕ) (x y : MeasuredBreak) → marks ≡ marks_of list → b ≡ a + 1 → b < length marks
    → slice_get marks a ≡ Some x → slice_get marks b ≡ Some y → GoesOnEvenly x y → GoesOn list a
goes_on_next list marks a b x y is next within here there evenly =
    goes_on list marks a x y is (omega (arith, within, next)) here (ap (slice_get marks) (sym next) ∙ there) evenly

-- Where no glue has negative stretch, more items stretch at least as much, in each order.
stretch_one : (order : Order) (x : Node) → has_negative_stretch x ≡ false → pos 0 ≤ℤ stretch_in order x
stretch_one order (nodes.Glyph glyph) grows = omega (arith, ints)
stretch_one order (nodes.FontKern width) grows = omega (arith, ints)
stretch_one order (nodes.Kern width) grows = omega (arith, ints)
stretch_one order (nodes.Penalty penalty) grows = omega (arith, ints)
stretch_one order (nodes.Rule rule) grows = omega (arith, ints)
stretch_one order (nodes.Special text) grows = omega (arith, ints)
stretch_one order (nodes.Box shift b) grows = omega (arith, ints)
stretch_one order (nodes.Glue glue) grows = cases (is_order order glue.stretch_order) (not_below glue.stretch grows)
  where
    not_below : (z : ℤ) → int_lt z (pos 0) ≡ false → pos 0 ≤ℤ z
    not_below (pos n) is = omega (arith, ints)
    not_below (negsuc n) is = absurd (cc)

    cases : (b : Bool) → pos 0 ≤ℤ glue.stretch → pos 0 ≤ℤ (if b then glue.stretch else pos 0)
    cases true grown = grown
    cases false grown = omega (arith, ints)

none_left : (a b : Bool) → (a || b) ≡ false → a ≡ false
none_left true b is = is
none_left false b is = refl

none_right : (a b : Bool) → (a || b) ≡ false → b ≡ false
none_right true b is = absurd (cc)
none_right false b is = is

grown_all : (order : Order) (list : List Node) → list_any has_negative_stretch list ≡ false → pos 0 ≤ℤ total (stretch_in order) list
grown_all order [] grows = omega (arith, ints)
grown_all order (x ∷ rest) grows =
    omega (
      arith,
      ints,
      stretch_one order x (none_left (has_negative_stretch x) (list_any has_negative_stretch rest) grows),
      grown_all order rest (none_right (has_negative_stretch x) (list_any has_negative_stretch rest) grows),
    )

grown_rest :
    (order : Order) (n : ℕ) (list : List Node) → list_any has_negative_stretch list ≡ false
    → total (stretch_in order) (drop n list) ≤ℤ total (stretch_in order) list
grown_rest order zero list grows = omega (arith, ints)
grown_rest order (suc n) [] grows = omega (arith, ints)
grown_rest order (suc n) (x ∷ rest) grows =
    omega (
      arith,
      ints,
      stretch_one order x (none_left (has_negative_stretch x) (list_any has_negative_stretch rest) grows),
      grown_rest order n rest (none_right (has_negative_stretch x) (list_any has_negative_stretch rest) grows),
    )

grown_from :
    (order : Order) (a b : ℕ) (list : List Node) → a ≤ b → list_any has_negative_stretch list ≡ false
    → total (stretch_in order) (drop b list) ≤ℤ total (stretch_in order) (drop a list)
grown_from order zero b list later grows = grown_rest order b list grows
grown_from order (suc a) zero list later grows = absurd (omega (arith, later))
grown_from order (suc a) (suc b) [] later grows = omega (arith, ints)
grown_from order (suc a) (suc b) (x ∷ rest) later grows =
    grown_from order a b rest (omega (arith, later)) (none_right (has_negative_stretch x) (list_any has_negative_stretch rest) grows)

grown_covers :
    (list : List Node) (a b : ℕ) → a ≤ b → list_any has_negative_stretch list ≡ false
    → (sums_of (drop b list)).width ≤ℤ (sums_of (drop a list)).width → Covers (sums_of (drop a list)) (sums_of (drop b list))
unfolding sums_of
grown_covers list a b later grows wider =
    record {
      width = wider;
      stretch = grown_from Normal a b list later grows;
      fil = grown_from Fil a b list later grows;
      fill = grown_from Fill a b list later grows;
      filll = grown_from Filll a b list later grows;
    }

-- Then the widths of two marks decide.
grown_evenly :
    (list : List Node) (p q begin : ℕ) (x y : MeasuredBreak) → list_any has_negative_stretch list ≡ false → p ≤ q → p ≤ begin
    → x.from_position ≡ sums_of (drop p list) → x.from_begin ≡ sums_of (drop begin list) → x.begin ≡ begin
    → y.from_position ≡ sums_of (drop q list) → y.position ≡ q → GoesOnInWidth x y → GoesOnEvenly x y
grown_evenly list p q begin x y grows later begins from_position from_begin begin_is next next_is wide =
    record {
      dropped = both x.from_position x.from_begin p begin from_position from_begin begins wide.dropped;
      line = λ begun. both x.from_begin y.from_position begin q from_begin next (omega (arith, begun, begin_is, next_is)) (wide.line begun);
      passed = λ early. both x.from_position y.from_position p q from_position next later (wide.passed early);
    }
  where
    both :
        (s t : Sums) (a b : ℕ) → s ≡ sums_of (drop a list) → t ≡ sums_of (drop b list) → a ≤ b → t.width ≤ℤ s.width → Covers s t
    both s t a b is other after wider =
        subst (λ z. Covers z t) (sym is)
        (subst (Covers (sums_of (drop a list))) (sym other)
        (grown_covers list a b after grows (subst (λ z. z.width ≤ℤ (sums_of (drop a list)).width) other (subst (λ z. t.width ≤ℤ z.width) is wider))))

pub goes_on_grown :
    (list : List Node) (marks : List MeasuredBreak) (a b : ℕ) (x y : MeasuredBreak) → marks ≡ marks_of list → b ≡ a + 1 → b < length marks
    → slice_get marks a ≡ Some x → slice_get marks b ≡ Some y → list_any has_negative_stretch list ≡ false → GoesOnInWidth x y → GoesOnEvenly x y
goes_on_grown list marks zero b x y is next within here there grows wide =
    let mark = start_is list marks x is here in
    let to = place_is list marks b y is (omega (arith, next)) within there in
    grown_evenly list 0 y.position 0 x y grows (omega arith) (omega arith) (ap (λ m. m.from_position) mark) (ap (λ m. m.from_begin) mark)
    (ap (λ m. m.begin) mark) (ap (λ m. m.from_position) to ∙ ap (λ k. sums_of (drop k list)) (sym (ap (λ m. m.position) to))) refl wide
goes_on_grown list marks (suc n) b x y is next within here there grows wide =
    let mark = place_is list marks (suc n) x is (omega arith) (omega (arith, within, next)) here in
    let to = place_is list marks b y is (omega (arith, next)) within there in
    let few = count_is list marks is in
    let rises = rising_places list (suc n) b (omega arith) (omega (arith, next)) (omega (arith, within, few)) in
    grown_evenly list (position_of list (suc n)) y.position x.begin x y grows
    (omega (arith, rises.0, ap (λ m. m.position) to)) (omega (arith, ap (λ m. m.begin) mark))
    (ap (λ m. m.from_position) mark) (ap (λ m. m.from_begin) mark ∙ ap (λ k. sums_of (drop k list)) (sym (ap (λ m. m.begin) mark))) refl
    (ap (λ m. m.from_position) to ∙ ap (λ k. sums_of (drop k list)) (sym (ap (λ m. m.position) to))) refl wide

-- The sums over the items of a line, by where it begins.
line_sums :
    (list : List Node) (a l : ℕ) → a < l → l ≤ length (legal_places list)
    → (facts_of list).sums a l ≡ minus (front_sums list (position_of list l)) (front_sums list (min (position_of list l) (begin_of list a)))
line_sums list a l earlier last = kept_sums list (begins_at list a) (position_of list l) (begins_before list a l earlier last)

begun_sums :
    (list : List Node) (a l : ℕ) → a < l → l ≤ length (legal_places list) → begin_of list a ≤ position_of list l
    → (facts_of list).sums a l ≡ minus (front_sums list (position_of list l)) (front_sums list (begin_of list a))
begun_sums list a l earlier last begun = kept_some list (begins_at list a) (position_of list l) (begins_before list a l earlier last) begun

empty_sums :
    (list : List Node) (a l : ℕ) → a < l → l ≤ length (legal_places list) → position_of list l ≤ begin_of list a → (facts_of list).sums a l ≡ no_sums
empty_sums list a l earlier last early = kept_nothing list (begins_at list a) (position_of list l) (begins_before list a l earlier last) early

-- A line from a place among the items that are dropped after an earlier place begins where the line from the earlier one does.
same_begin :
    (list : List Node) (a m : ℕ) → a < m → m ≤ length (legal_places list) → position_of list m < begin_of list a → begin_of list m ≡ begin_of list a
same_begin list zero m later last early = absurd (omega (arith, early))
same_begin list (suc n) m later last early =
    let from_m : begins_at list m ≡ Some (position_of list m) = begins_some list m (omega arith) in
    let places = rising_places list (suc n) m (omega arith) later last in
    ap (first_item_kept list) from_m ∙ first_same list (position_of list (suc n)) (position_of list m) (omega (arith, places.0)) early

-- A line begins after its place.
begins_after : (list : List Node) (m : ℕ) → 0 < m → position_of list m < begin_of list m
begins_after list m some =
    let from_m : begins_at list m ≡ Some (position_of list m) = begins_some list m some in
    omega (arith, ap (first_item_kept list) from_m)

-- The line from a later place begins no earlier.
later_begin : (list : List Node) (a m : ℕ) → a < m → m ≤ length (legal_places list) → begin_of list a ≤ begin_of list m
later_begin list a m later last = cases (cases_lt (position_of list m) (begin_of list a))
  where
    cases : (position_of list m < begin_of list a) ⊎ (begin_of list a ≤ position_of list m) → begin_of list a ≤ begin_of list m
    cases (inl early) = omega (arith, same_begin list a m later last early)
    cases (inr begun) = omega (arith, begun, begins_after list m (omega (arith, later)))

-- The items from a place to the next one are not negative together, and neither are those between the beginnings of the lines from them.
next_position :
    (list : List Node) (a : ℕ) → 0 < a → GoesOn list a → Covers (front_sums list (position_of list (a + 1))) (front_sums list (position_of list a))
next_position list a some on = cases (cases_lt (position_of list (a + 1)) (begin_of list a))
  where
    cases :
        (position_of list (a + 1) < begin_of list a) ⊎ (begin_of list a ≤ position_of list (a + 1))
        → Covers (front_sums list (position_of list (a + 1))) (front_sums list (position_of list a))
    cases (inl early) = on.passed some early
    cases (inr begun) =
        covers_both (front_sums list (position_of list (a + 1))) (front_sums list (begin_of list a)) (front_sums list (position_of list a)) (on.line begun)
        (on.dropped some)

next_begin :
    (list : List Node) (a : ℕ) → a < length (legal_places list) → GoesOn list a → GoesOn list (a + 1)
    → Covers (front_sums list (begin_of list (a + 1))) (front_sums list (begin_of list a))
next_begin list a within on more = cases (cases_lt (position_of list (a + 1)) (begin_of list a))
  where
    cases :
        (position_of list (a + 1) < begin_of list a) ⊎ (begin_of list a ≤ position_of list (a + 1))
        → Covers (front_sums list (begin_of list (a + 1))) (front_sums list (begin_of list a))
    cases (inl early) =
        let same : begin_of list (a + 1) ≡ begin_of list a = same_begin list a (a + 1) (omega arith) (omega (arith, within)) early in
        subst (λ k. Covers (front_sums list k) (front_sums list (begin_of list a))) (sym same) (covers_same (front_sums list (begin_of list a)))
    cases (inr begun) =
        covers_both (front_sums list (begin_of list (a + 1))) (front_sums list (position_of list (a + 1))) (front_sums list (begin_of list a))
        (more.dropped (omega arith)) (on.line begun)

begins_covers :
    (list : List Node) (a n : ℕ) → ((k : ℕ) → k < length (legal_places list) → GoesOn list k) → a + n < length (legal_places list)
    → Covers (front_sums list (begin_of list (a + n))) (front_sums list (begin_of list a))
begins_covers list a zero on last =
    let same : a ≡ a + 0 = omega arith in
    subst (λ k. Covers (front_sums list (begin_of list k)) (front_sums list (begin_of list a))) same (covers_same (front_sums list (begin_of list a)))
begins_covers list a (suc n) on last =
    let before = begins_covers list a n on (omega (arith, last)) in
    let next = next_begin list (a + n) (omega (arith, last)) (on (a + n) (omega (arith, last))) (on (a + n + 1) (omega (arith, last))) in
    let same : a + n + 1 ≡ a + suc n = omega arith in
    subst (λ k. Covers (front_sums list (begin_of list k)) (front_sums list (begin_of list a))) same
    (covers_both (front_sums list (begin_of list (a + n + 1))) (front_sums list (begin_of list (a + n))) (front_sums list (begin_of list a)) next before)

-- The items of a line are not negative together: first those of a line to the next place.
next_covers :
    (list : List Node) (a : ℕ) → GoesOn list a → a < length (legal_places list) → Covers ((facts_of list).sums a (a + 1)) no_sums
next_covers list a on within = cases (cases_lt (position_of list (a + 1)) (begin_of list a))
  where
    cases :
        (position_of list (a + 1) < begin_of list a) ⊎ (begin_of list a ≤ position_of list (a + 1)) → Covers ((facts_of list).sums a (a + 1)) no_sums
    cases (inl early) =
        subst (λ s. Covers s no_sums) (sym (empty_sums list a (a + 1) (omega arith) (omega (arith, within)) (omega (arith, early)))) (covers_same no_sums)
    cases (inr begun) =
        subst (λ s. Covers s no_sums) (sym (begun_sums list a (a + 1) (omega arith) (omega (arith, within)) begun))
        (covers_none (front_sums list (position_of list (a + 1))) (front_sums list (begin_of list a)) (on.line begun))

-- Then those of a line to a place, if it holds for the place before.
more_covers :
    (list : List Node) (a l : ℕ) → GoesOn list l → a < l → l < length (legal_places list)
    → Covers ((facts_of list).sums a l) no_sums → Covers ((facts_of list).sums a (l + 1)) no_sums
more_covers list a l on earlier within before = cases (cases_lt (position_of list l) (begin_of list a))
  where
    cases : (position_of list l < begin_of list a) ⊎ (begin_of list a ≤ position_of list l) → Covers ((facts_of list).sums a (l + 1)) no_sums
    cases (inl early) =
        let begin = same_begin list a l earlier (omega (arith, within)) early in
        let same : (facts_of list).sums l (l + 1) ≡ (facts_of list).sums a (l + 1) =
        line_sums list l (l + 1) (omega arith) (omega (arith, within))
        ∙ ap (λ k. minus (front_sums list (position_of list (l + 1))) (front_sums list (min (position_of list (l + 1)) k))) begin
        ∙ sym (line_sums list a (l + 1) (omega (arith, earlier)) (omega (arith, within))) in
        subst (λ s. Covers s no_sums) same (next_covers list l on within)
    cases (inr begun) =
        let rises = rising_places list l (l + 1) (omega (arith, earlier)) (omega arith) (omega (arith, within)) in
        let front = none_covers (front_sums list (position_of list l)) (front_sums list (begin_of list a))
        (subst (λ s. Covers s no_sums) (begun_sums list a l earlier (omega (arith, within)) begun) before) in
        let all = covers_both (front_sums list (position_of list (l + 1))) (front_sums list (position_of list l)) (front_sums list (begin_of list a))
        (next_position list l (omega (arith, earlier)) on) front in
        subst (λ s. Covers s no_sums)
        (sym (begun_sums list a (l + 1) (omega (arith, earlier)) (omega (arith, within)) (omega (arith, begun, rises.0))))
        (covers_none (front_sums list (position_of list (l + 1))) (front_sums list (begin_of list a)) all)

line_covers :
    (list : List Node) (a n : ℕ) → ((k : ℕ) → k < length (legal_places list) → GoesOn list k) → a + 1 + n ≤ length (legal_places list)
    → Covers ((facts_of list).sums a (a + 1 + n)) no_sums
line_covers list a zero on last =
    let same : a + 1 ≡ a + 1 + 0 = omega arith in
    subst (λ l. Covers ((facts_of list).sums a l) no_sums) same (next_covers list a (on a (omega (arith, last))) (omega (arith, last)))
line_covers list a (suc n) on last =
    let same : a + 1 + n + 1 ≡ a + 1 + suc n = omega arith in
    subst (λ l. Covers ((facts_of list).sums a l) no_sums) same
    (more_covers list a (a + 1 + n) (on (a + 1 + n) (omega (arith, last))) (omega arith) (omega (arith, last))
    (line_covers list a n on (omega (arith, last))))

pub even_by : (list : List Node) → ((k : ℕ) → k < length (legal_places list) → GoesOn list k) → IsEven (facts_of list)
even_by list on =
    record {
      covers = covers;
      fils = λ a l earlier last.
          let all = line a l earlier last in
          record { fil = all.fil; fill = all.fill; filll = all.filll };
    }
  where
    line : (a l : ℕ) → a < l → l ≤ length (legal_places list) → Covers ((facts_of list).sums a l) no_sums
    line a l earlier last =
        let same : a + 1 + (l - (a + 1)) ≡ l = omega (arith, earlier) in
        subst (λ k. Covers ((facts_of list).sums a k) no_sums) same (line_covers list a (l - (a + 1)) on (omega (arith, earlier, last)))

    covers :
        (a m l : ℕ) → a < m → m < l → l ≤ length (legal_places list) → Covers ((facts_of list).sums a l) ((facts_of list).sums m l)
    covers a m l later before last = cases (cases_lt (begin_of list m) (position_of list l))
      where
        cases :
            (begin_of list m < position_of list l) ⊎ (position_of list l ≤ begin_of list m) → Covers ((facts_of list).sums a l) ((facts_of list).sums m l)
        cases (inr early) =
            subst (Covers ((facts_of list).sums a l)) (sym (empty_sums list m l before last early)) (line a l (omega (arith, later, before)) last)
        cases (inl begun) =
            let first = later_begin list a m later (omega (arith, before, last)) in
            let same : a + (m - a) ≡ m = omega (arith, later) in
            let items = subst (λ k. Covers (front_sums list (begin_of list k)) (front_sums list (begin_of list a))) same
            (begins_covers list a (m - a) on (omega (arith, later, before, last))) in
            subst (λ s. Covers s ((facts_of list).sums m l))
            (sym (begun_sums list a l (omega (arith, later, before)) last (omega (arith, first, begun))))
            (subst (Covers (minus (front_sums list (position_of list l)) (front_sums list (begin_of list a))))
            (sym (begun_sums list m l before last (omega (arith, begun))))
            (covers_less (front_sums list (position_of list l)) (front_sums list (begin_of list a)) (front_sums list (begin_of list m)) items))
