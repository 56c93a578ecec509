-- What the marks of a list say about its lines.
use Rattle.std.proofs.Common.{◌≡◌, ◌∙◌, ℕ, zero, suc, ◌+◌, ◌<◌, ◌≤◌, true, false, List, [], ◌∷◌, length, take, drop, map, get_or, refl, ap, sym, arith, Some}
use Rattle.std.specs.Prelude.{ℤ, ◌+ℤ◌, ◌-ℤ◌, slice_get, nat_lt}
use Rattle.std.proofs.Math.Logic.{◌⊎◌, inl, inr}
use Rattle.std.proofs.lemmas.Int.{ints}
use Rattle.std.proofs.lemmas.Bool.{cases_lt, cond-true, cond-false}
use Rattle.std.proofs.lemmas.Bool.Decides.{nat_tests}
use Rattle.std.proofs.lemmas.Option.{same_Some}
use Rattle.node_core.specs.declared.tree.Node.{Node}
use Rattle.node_core.specs.declared.tree.Order.TheVariants.{Normal, Fil, Fill, Filll}
use Rattle.pack_core.specs.Items.{item_width, stretch_in, shrink_in}
use Rattle.pack_core.specs.Totals.{total}
use Rattle.break_lines.proofs.Entries.{get_at}
use Rattle.break_lines.specs.declared.mark.MeasuredBreak.{MeasuredBreak}
use Rattle.break_lines.specs.Legal.{legal_places}
use Rattle.break_lines.specs.LineItems.{sums_of, first_item_kept, minus}
use Rattle.break_lines.specs.Facts.{facts_of, position_of, begins_at}
use Rattle.break_lines.specs.Private.Marks.{measured_break, start_mark, marks_of, no_sums, line_between}
use Rattle.break_lines.proofs.KeptSums.{kept_nothing, kept_some}
use Rattle.break_lines.proofs.Places.{place_at, begins_before}

length-map : {A B : Type 0} (f : A → B) (xs : List A) → length (map f xs) ≡ length xs
length-map f [] = refl
length-map f (x ∷ xs) = ap suc (length-map f xs)

pub count_is : (list : List Node) (marks : List MeasuredBreak) → marks ≡ marks_of list → length marks ≡ length (legal_places list) + 1
count_is list marks is = omega (arith, ap length is, length-map (measured_break list) (legal_places list))

mapped : {A B : Type 0} (f : A → B) (xs : List A) (k : ℕ) (x : A) → slice_get xs k ≡ Some x → slice_get (map f xs) k ≡ Some (f x)
mapped f [] k x at = absurd (cc)
mapped f (y ∷ xs) zero x at = ap (λ z. Some (f z)) (same_Some y x at)
mapped f (y ∷ xs) (suc k) x at = mapped f xs k x at

-- Reading below the length gives the element at the index.
pub got : (marks : List MeasuredBreak) (k : ℕ) (d : MeasuredBreak) → k < length marks → slice_get marks k ≡ Some (get_or marks k d)
got [] k d within = absurd (omega arith)
got (mark ∷ marks) zero d within = refl
got (mark ∷ marks) (suc k) d within = got marks k d (omega arith)

-- The mark that is read is that of the start or of a place.
pub start_is : (list : List Node) (marks : List MeasuredBreak) (x : MeasuredBreak) → marks ≡ marks_of list → slice_get marks 0 ≡ Some x → x ≡ start_mark list
start_is list marks x is at = sym (same_Some (start_mark list) x (ap (λ ms. slice_get ms 0) (sym is) ∙ at))

pub place_is :
    (list : List Node) (marks : List MeasuredBreak) (n : ℕ) (x : MeasuredBreak) → marks ≡ marks_of list → 0 < n → n < length marks → slice_get marks n ≡ Some x
    → x ≡ measured_break list (position_of list n)
place_is list marks zero x is some within at = absurd (omega arith)
place_is list marks (suc n) x is some within at =
    let all = legal_places list in
    let p = get_at all n (omega (arith, count_is list marks is)) in
    let there : slice_get marks (suc n) ≡ Some (measured_break list p.0) = ap (λ ms. slice_get ms (suc n)) is ∙ mapped (measured_break list) all n p.0 p.1 in
    let one : n + 1 ≡ suc n = omega arith in
    same_Some x (measured_break list p.0) (sym at ∙ there) ∙ ap (measured_break list) (sym (place_at list n p.0 p.1).0 ∙ ap (position_of list) one)

pub begin_is :
    (list : List Node) (marks : List MeasuredBreak) (a : ℕ) (x : MeasuredBreak) → marks ≡ marks_of list → a < length marks → slice_get marks a ≡ Some x
    → (x.begin ≡ first_item_kept list (begins_at list a)) × (x.from_begin ≡ sums_of (drop (first_item_kept list (begins_at list a)) list))
begin_is list marks zero x is within at =
    let mark = start_is list marks x is at in (ap (λ m. m.begin) mark, ap (λ m. m.from_begin) mark)
begin_is list marks (suc n) x is within at =
    let mark = place_is list marks (suc n) x is (omega arith) within at in (ap (λ m. m.begin) mark, ap (λ m. m.from_begin) mark)

-- The sum before a place minus the sum before an earlier one equals the sum from the earlier one on minus the sum from the place on.
parts : (f : Node → ℤ) (list : List Node) (n : ℕ) → total f (take n list) +ℤ total f (drop n list) ≡ total f list
parts f list zero = omega (arith, ints)
parts f [] (suc n) = omega (arith, ints)
parts f (x ∷ list) (suc n) = omega (arith, ints, parts f list n)

pub turned : (list : List Node) (a b : ℕ) → minus (sums_of (take b list)) (sums_of (take a list)) ≡ minus (sums_of (drop a list)) (sums_of (drop b list))
unfolding sums_of
turned list a b =
    let of = λ (f : Node → ℤ). one f in
    let width = one item_width in
    let stretch = one (stretch_in Normal) in
    let fil = one (stretch_in Fil) in
    let fill = one (stretch_in Fill) in
    let filll = one (stretch_in Filll) in
    let shrink = one (shrink_in Normal) in
    cc (width, stretch, fil, fill, filll, shrink)
  where
    one : (f : Node → ℤ) → total f (take b list) -ℤ total f (take a list) ≡ total f (drop a list) -ℤ total f (drop b list)
    one f = omega (arith, ints, parts f list a, parts f list b)

-- The line between two marks.
pub line_at :
    (list : List Node) (marks : List MeasuredBreak) (a b : ℕ) (x y : MeasuredBreak) → marks ≡ marks_of list → a < b → b < length marks
    → slice_get marks a ≡ Some x → slice_get marks b ≡ Some y → line_between x y ≡ (facts_of list).sums a b
line_at list marks a b x y is later within here there = cases (cases_lt x.begin y.position)
  where
    last : b ≤ length (legal_places list)
    last = omega (arith, count_is list marks is)

    begin : (x.begin ≡ first_item_kept list (begins_at list a)) × (x.from_begin ≡ sums_of (drop (first_item_kept list (begins_at list a)) list))
    begin = begin_is list marks a x is (omega arith) here

    end : y ≡ measured_break list (position_of list b)
    end = place_is list marks b y is (omega arith) within there

    position : y.position ≡ position_of list b
    position = ap (λ m. m.position) end

    rest : y.from_position ≡ sums_of (drop (position_of list b) list)
    rest = ap (λ m. m.from_position) end

    cases : (x.begin < y.position) ⊎ (y.position ≤ x.begin) → line_between x y ≡ (facts_of list).sums a b
    cases (inl begun) =
        let test : nat_lt x.begin y.position ≡ true = grind (arith, nat_tests) in
        cond-true (nat_lt x.begin y.position) (minus x.from_begin y.from_position) no_sums test
        ∙ ap (λ s. minus s y.from_position) begin.1 ∙ ap (minus (sums_of (drop (first_item_kept list (begins_at list a)) list))) rest
        ∙ sym (turned list (first_item_kept list (begins_at list a)) (position_of list b))
        ∙ sym (kept_some list (begins_at list a) (position_of list b) (begins_before list a b later last) (omega (arith, begun, begin.0, position)))
    cases (inr dropped) =
        let test : nat_lt x.begin y.position ≡ false = grind (arith, nat_tests) in
        cond-false (nat_lt x.begin y.position) (minus x.from_begin y.from_position) no_sums test
        ∙ sym (kept_nothing list (begins_at list a) (position_of list b) (begins_before list a b later last) (omega (arith, dropped, begin.0, position)))
