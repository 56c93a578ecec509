-- One step of the walk that measures a list.
use Rattle.std.proofs.Common.{◌≡◌, ◌≢◌, ◌∙◌, ℕ, zero, suc, ◌+◌, ◌<◌, ◌≤◌, Bool, true, false, List, [], ◌∷◌, ◌++◌, ◌-◌, length, length-append, append_assoc, drop, drop_of_length-le, map, reverse, get_or, drop-cons, refl, ap, sym, subst, arith, Option, Some, None}
use Rattle.std.specs.Prelude.{ℤ, pos, negsuc, ◌+ℤ◌, slice_get, IsSome, nat_lt, ◌||◌}
use Rattle.std.specs.List.{filter, list_any}
use Rattle.std.proofs.Math.Logic.{◌⊎◌, inl, inr}
use Rattle.std.proofs.lemmas.Int.{ints}
use Rattle.std.proofs.lemmas.Bool.{cases_eq, cases_lt}
use Rattle.std.proofs.lemmas.Bool.Decides.{nat_tests}
use Rattle.std.proofs.lemmas.List.{reverse-append, length-reverse}
use Rattle.std.proofs.lemmas.Option.{same_Some, slice_get_past}
use Rattle.node_core.specs.declared.tree.Node.{Node}
use Rattle.node_core.specs.declared.tree.Node.TheVariants as nodes
use Rattle.node_core.specs.declared.tree.Order.TheVariants.{Normal, Fil, Fill, Filll}
use Rattle.node_core.specs.Classes.{shrinks_infinitely, has_content}
use Rattle.pack_core.specs.Items.{item_width, height_above_baseline, depth_below_baseline, stretch_in, shrink_in}
use Rattle.pack_core.specs.Totals.{total}
use Rattle.break_lines.specs.Problems.{max_places}
use Rattle.node_core.specs.Nodes.{max_nodes, IsPlain}
use Rattle.break_lines.specs.declared.sums.Sums.{Sums}
use Rattle.break_lines.specs.declared.item_sums.RunSizes.{RunSizes}
use Rattle.break_lines.specs.declared.mark.MeasuredBreak.{MeasuredBreak}
use Rattle.break_lines.specs.declared.walk.BreakWalk.{BreakWalk}
use Rattle.break_lines.specs.Legal.{is_dropped, up_to, is_legal, is_break, node_before, legal_places, penalty_of}
use Rattle.break_lines.specs.LineItems.{sums_of, next_kept}
use Rattle.break_lines.specs.Facts.{refusal}
use Rattle.break_lines.specs.Private.Marks.{amounts_of, plus, no_sums, measured_break, sizes_in_run, has_negative_stretch, HasMeasuredFrom}
use Rattle.break_lines.specs.Private.SmallMarks.{IsPrefix, IsSmallMark, AreSmallMarks}
use Rattle.break_lines.proofs.Amounts.{wider}
use Rattle.break_lines.proofs.Places.{filter_passed, filter_refused, count_passed, lead_dropped, lead_kept, lead_end}

-- The items from an index on are the item there and the items after it.
pub rest_is : (list : List Node) (i : ℕ) (x : Node) → i < length list → x ≡ get_or list i x → drop i list ≡ x ∷ drop (i + 1) list
rest_is list i x within is =
    let one : i + 1 ≡ suc i = omega arith in
    drop-cons list i x within ∙ ap (λ y. y ∷ drop (suc i) list) (sym is) ∙ ap (λ n. x ∷ drop n list) (sym one)

pub sums_back :
    (list : List Node) (i : ℕ) (x : Node) → i < length list → x ≡ get_or list i x
    → sums_of (drop i list) ≡ plus (sums_of (drop (i + 1) list)) (amounts_of x)
unfolding sums_of
sums_back list i x within is =
    let same = rest_is list i x within is in
    let of = λ (f : Node → ℤ). ap (total f) same in
    let width : total item_width (drop i list) ≡ total item_width (drop (i + 1) list) +ℤ item_width x = omega (arith, ints, of item_width) in
    let stretch : total (stretch_in Normal) (drop i list) ≡ total (stretch_in Normal) (drop (i + 1) list) +ℤ stretch_in Normal x = omega (arith, ints, of (stretch_in Normal)) in
    let fil : total (stretch_in Fil) (drop i list) ≡ total (stretch_in Fil) (drop (i + 1) list) +ℤ stretch_in Fil x = omega (arith, ints, of (stretch_in Fil)) in
    let fill : total (stretch_in Fill) (drop i list) ≡ total (stretch_in Fill) (drop (i + 1) list) +ℤ stretch_in Fill x = omega (arith, ints, of (stretch_in Fill)) in
    let filll : total (stretch_in Filll) (drop i list) ≡ total (stretch_in Filll) (drop (i + 1) list) +ℤ stretch_in Filll x = omega (arith, ints, of (stretch_in Filll)) in
    let shrink : total (shrink_in Normal) (drop i list) ≡ total (shrink_in Normal) (drop (i + 1) list) +ℤ shrink_in Normal x = omega (arith, ints, of (shrink_in Normal)) in
    cc (width, stretch, fil, fill, filll, shrink)

-- The index of the first item that is not dropped.
pub next_dropped :
    (list : List Node) (i : ℕ) (x : Node) → i < length list → x ≡ get_or list i x → is_dropped x ≡ true → next_kept list i ≡ next_kept list (i + 1)
next_dropped list i x within is dropped = omega (arith, lead_dropped list i x within is dropped)

pub next_here : (list : List Node) (i : ℕ) (x : Node) → i < length list → x ≡ get_or list i x → is_dropped x ≡ false → next_kept list i ≡ i
next_here list i x within is kept = omega (arith, lead_kept list i x within is kept)

-- An item that is not dropped is not a legal place, and not glue.
no_break : (before after : Option Node) (x : Node) → is_dropped x ≡ false → is_break before (Some x) after ≡ false
unfolding is_dropped is_break
no_break before after (nodes.Glyph glyph) kept = refl
no_break before after (nodes.FontKern width) kept = refl
no_break before after (nodes.Kern width) kept = absurd (cc)
no_break before after (nodes.Glue glue) kept = absurd (cc)
no_break before after (nodes.Penalty penalty) kept = absurd (cc)
no_break before after (nodes.Rule rule) kept = refl
no_break before after (nodes.Special text) kept = refl
no_break before after (nodes.Box shift b) kept = refl

pub kept_finite : (x : Node) → is_dropped x ≡ false → shrinks_infinitely x ≡ false
unfolding is_dropped
kept_finite (nodes.Glyph glyph) kept = refl
kept_finite (nodes.FontKern width) kept = refl
kept_finite (nodes.Kern width) kept = absurd (cc)
kept_finite (nodes.Glue glue) kept = absurd (cc)
kept_finite (nodes.Penalty penalty) kept = absurd (cc)
kept_finite (nodes.Rule rule) kept = refl
kept_finite (nodes.Special text) kept = refl
kept_finite (nodes.Box shift b) kept = refl

get_some : (list : List Node) (i : ℕ) (x : Node) → i < length list → x ≡ get_or list i x → slice_get list i ≡ Some x
get_some [] i x within is = absurd (omega arith)
get_some (y ∷ list) zero x within is = ap Some (sym is)
get_some (y ∷ list) (suc i) x within is = get_some list i x (omega arith) is

pub kept_is_no_place :
    (list : List Node) (i : ℕ) (x : Node) → i < length list → x ≡ get_or list i x → is_dropped x ≡ false → is_legal list i ≡ false
unfolding is_legal
kept_is_no_place list i x within is kept =
    ap (λ here. is_break (node_before list i) here (slice_get list (i + 1))) (get_some list i x within is)
    ∙ no_break (node_before list i) (slice_get list (i + 1)) x kept

-- A glyph or a font kern adds only its width.
pub run_kept : (x : Node) (w : RunSizes) → sizes_in_run x ≡ Some w → is_dropped x ≡ false
unfolding is_dropped sizes_in_run
run_kept (nodes.Glyph glyph) w is = refl
run_kept (nodes.FontKern width) w is = refl
run_kept (nodes.Kern width) w is = absurd (cc)
run_kept (nodes.Glue glue) w is = absurd (cc)
run_kept (nodes.Penalty penalty) w is = absurd (cc)
run_kept (nodes.Rule rule) w is = absurd (cc)
run_kept (nodes.Special text) w is = absurd (cc)
run_kept (nodes.Box shift b) w is = absurd (cc)

run_amounts : (x : Node) (w : RunSizes) → sizes_in_run x ≡ Some w → amounts_of x ≡ record no_sums { width = w.width }
unfolding sizes_in_run
run_amounts (nodes.Glyph glyph) w is =
    ap (λ (z : RunSizes). record no_sums { width = z.width }) (same_Some (record { width = glyph.width; height = glyph.height; depth = glyph.depth }) w is)
run_amounts (nodes.FontKern width) w is =
    ap (λ (z : RunSizes). record no_sums { width = z.width }) (same_Some (record { width = width; height = pos 0; depth = pos 0 }) w is)
run_amounts (nodes.Kern width) w is = absurd (cc)
run_amounts (nodes.Glue glue) w is = absurd (cc)
run_amounts (nodes.Penalty penalty) w is = absurd (cc)
run_amounts (nodes.Rule rule) w is = absurd (cc)
run_amounts (nodes.Special text) w is = absurd (cc)
run_amounts (nodes.Box shift b) w is = absurd (cc)

pub run_sums : (x : Node) (w : RunSizes) (s : Sums) → sizes_in_run x ≡ Some w → record s { width = s.width +ℤ w.width } ≡ plus s (amounts_of x)
run_sums x w s is = wider s w.width ∙ ap (plus s) (sym (run_amounts x w is))

pub kept_grows : (x : Node) → is_dropped x ≡ false → has_negative_stretch x ≡ false
unfolding is_dropped
kept_grows (nodes.Glyph glyph) kept = refl
kept_grows (nodes.FontKern width) kept = refl
kept_grows (nodes.Kern width) kept = absurd (cc)
kept_grows (nodes.Glue glue) kept = absurd (cc)
kept_grows (nodes.Penalty penalty) kept = absurd (cc)
kept_grows (nodes.Rule rule) kept = refl
kept_grows (nodes.Special text) kept = refl
kept_grows (nodes.Box shift b) kept = refl

-- With one more item there is still no glue with negative stretch.
pub grows_more :
    (list : List Node) (i : ℕ) (x : Node) → i < length list → x ≡ get_or list i x → has_negative_stretch x ≡ false
    → list_any has_negative_stretch (drop (i + 1) list) ≡ false → list_any has_negative_stretch (drop i list) ≡ false
grows_more list i x within is grows rest =
    let same = ap (list_any has_negative_stretch) (rest_is list i x within is) in
    cc

-- With one more item there is still no box and no special.
pub plain_more :
    (list : List Node) (i : ℕ) (x : Node) → i < length list → x ≡ get_or list i x → has_content x ≡ false → IsPlain (drop (i + 1) list) → IsPlain (drop i list)
plain_more list i x within is none rest =
    let same = ap (list_any has_content) (rest_is list i x within is) in
    cc

pub run_plain : (x : Node) (w : RunSizes) → sizes_in_run x ≡ Some w → has_content x ≡ false
unfolding sizes_in_run
run_plain (nodes.Glyph glyph) w is = refl
run_plain (nodes.FontKern width) w is = refl
run_plain (nodes.Kern width) w is = absurd (cc)
run_plain (nodes.Glue glue) w is = absurd (cc)
run_plain (nodes.Penalty penalty) w is = absurd (cc)
run_plain (nodes.Rule rule) w is = absurd (cc)
run_plain (nodes.Special text) w is = absurd (cc)
run_plain (nodes.Box shift b) w is = absurd (cc)

pub dropped_plain : (x : Node) → is_dropped x ≡ true → has_content x ≡ false
unfolding is_dropped
dropped_plain (nodes.Glyph glyph) is = absurd (cc)
dropped_plain (nodes.FontKern width) is = absurd (cc)
dropped_plain (nodes.Kern width) is = refl
dropped_plain (nodes.Glue glue) is = refl
dropped_plain (nodes.Penalty penalty) is = refl
dropped_plain (nodes.Rule rule) is = absurd (cc)
dropped_plain (nodes.Special text) is = absurd (cc)
dropped_plain (nodes.Box shift b) is = absurd (cc)

-- The height and the depth of a glyph or a font kern.
pub run_height : (x : Node) (w : RunSizes) → sizes_in_run x ≡ Some w → w.height ≡ height_above_baseline x
unfolding sizes_in_run
run_height (nodes.Glyph glyph) w is =
    sym (ap (λ (z : RunSizes). z.height) (same_Some (record { width = glyph.width; height = glyph.height; depth = glyph.depth }) w is))
run_height (nodes.FontKern width) w is =
    sym (ap (λ (z : RunSizes). z.height) (same_Some (record { width = width; height = pos 0; depth = pos 0 }) w is))
run_height (nodes.Kern width) w is = absurd (cc)
run_height (nodes.Glue glue) w is = absurd (cc)
run_height (nodes.Penalty penalty) w is = absurd (cc)
run_height (nodes.Rule rule) w is = absurd (cc)
run_height (nodes.Special text) w is = absurd (cc)
run_height (nodes.Box shift b) w is = absurd (cc)

pub run_depth : (x : Node) (w : RunSizes) → sizes_in_run x ≡ Some w → w.depth ≡ depth_below_baseline x
unfolding sizes_in_run
run_depth (nodes.Glyph glyph) w is =
    sym (ap (λ (z : RunSizes). z.depth) (same_Some (record { width = glyph.width; height = glyph.height; depth = glyph.depth }) w is))
run_depth (nodes.FontKern width) w is =
    sym (ap (λ (z : RunSizes). z.depth) (same_Some (record { width = width; height = pos 0; depth = pos 0 }) w is))
run_depth (nodes.Kern width) w is = absurd (cc)
run_depth (nodes.Glue glue) w is = absurd (cc)
run_depth (nodes.Penalty penalty) w is = absurd (cc)
run_depth (nodes.Rule rule) w is = absurd (cc)
run_depth (nodes.Special text) w is = absurd (cc)
run_depth (nodes.Box shift b) w is = absurd (cc)

-- With one more item there is still no glue that shrinks in an infinite order.
pub finite_more :
    (list : List Node) (i : ℕ) (x : Node) → i < length list → x ≡ get_or list i x → shrinks_infinitely x ≡ false
    → list_any shrinks_infinitely (drop (i + 1) list) ≡ false → list_any shrinks_infinitely (drop i list) ≡ false
finite_more list i x within is finite rest =
    let same = ap (list_any shrinks_infinitely) (rest_is list i x within is) in
    cc

-- The marks of the places from an index on, after one more item is passed.
pub places_stay :
    {A : Type 0} (f : ℕ → A) (list : List Node) (i : ℕ) (later all : List A) → is_legal list i ≡ false
    → map f (filter (is_legal list) (up_to (i + 1))) ++ later ≡ all → map f (filter (is_legal list) (up_to i)) ++ later ≡ all
places_stay f list i later all other is = ap (λ ps. map f ps ++ later) (sym (filter_refused (is_legal list) i other)) ∙ is

pub marks_stay :
    (list : List Node) (i : ℕ) (later all : List MeasuredBreak) → is_legal list i ≡ false
    → map (measured_break list) (filter (is_legal list) (up_to (i + 1))) ++ later ≡ all
    → map (measured_break list) (filter (is_legal list) (up_to i)) ++ later ≡ all
marks_stay list i later all other is = places_stay (measured_break list) list i later all other is

map-append : {A B : Type 0} (f : A → B) (xs ys : List A) → map f (xs ++ ys) ≡ map f xs ++ map f ys
map-append f [] ys = refl
map-append f (x ∷ xs) ys = ap (λ zs. f x ∷ zs) (map-append f xs ys)

pub places_more :
    {A : Type 0} (f : ℕ → A) (list : List Node) (i : ℕ) (later now : List A) (mark : A) (all : List A) → is_legal list i ≡ true → mark ≡ f i
    → now ≡ later ++ mark ∷ [] → map f (filter (is_legal list) (up_to (i + 1))) ++ reverse later ≡ all
    → map f (filter (is_legal list) (up_to i)) ++ reverse now ≡ all
places_more f list i later now mark all legal here items is =
    let earlier = filter (is_legal list) (up_to i) in
    let both : map f (filter (is_legal list) (up_to (i + 1))) ≡ map f earlier ++ f i ∷ [] =
    ap (map f) (filter_passed (is_legal list) i legal) ∙ map-append f earlier (i ∷ []) in
    let one : reverse now ≡ f i ∷ reverse later =
    ap reverse items ∙ reverse-append later (mark ∷ []) ∙ ap (λ m. m ∷ reverse later) here in
    ap (λ ms. map f earlier ++ ms) one ∙ sym (append_assoc (map f earlier) (f i ∷ []) (reverse later))
    ∙ ap (λ ms. ms ++ reverse later) (sym both) ∙ is

pub marks_more :
    (list : List Node) (i : ℕ) (later now : List MeasuredBreak) (mark : MeasuredBreak) (all : List MeasuredBreak) → is_legal list i ≡ true → mark ≡ measured_break list i
    → now ≡ later ++ mark ∷ [] → map (measured_break list) (filter (is_legal list) (up_to (i + 1))) ++ reverse later ≡ all
    → map (measured_break list) (filter (is_legal list) (up_to i)) ++ reverse now ≡ all
marks_more list i later now mark all legal here items is = places_more (measured_break list) list i later now mark all legal here items is

-- The sums from the first item on that is not dropped.
pub start_known :
    (list : List Node) (i begin : ℕ) (sums before found : Sums) → (begin ≡ i → found ≡ sums) → (begin ≢ i → found ≡ before)
    → sums ≡ sums_of (drop i list) → (begin ≢ i → before ≡ sums_of (drop begin list)) → found ≡ sums_of (drop begin list)
start_known list i begin sums before found here later known old = cases (cases_eq begin i)
  where
    cases : (begin ≡ i) ⊎ (begin ≢ i) → found ≡ sums_of (drop begin list)
    cases (inl same) = here same ∙ known ∙ ap (λ k. sums_of (drop k list)) (sym same)
    cases (inr other) = later other ∙ old other

pub start_small :
    (i begin : ℕ) (sums before found : Sums) → (begin ≡ i → found ≡ sums) → (begin ≢ i → found ≡ before)
    → IsPrefix max_nodes sums → IsPrefix max_nodes before → IsPrefix max_nodes found
start_small i begin sums before found here later now old = cases (cases_eq begin i)
  where
    cases : (begin ≡ i) ⊎ (begin ≢ i) → IsPrefix max_nodes found
    cases (inl same) = subst (IsPrefix max_nodes) (sym (here same)) now
    cases (inr other) = subst (IsPrefix max_nodes) (sym (later other)) old

pub small_more : (marks : List MeasuredBreak) (mark : MeasuredBreak) → IsSmallMark mark → AreSmallMarks (reverse marks) → AreSmallMarks (reverse (marks ++ mark ∷ []))
small_more marks mark small are = subst AreSmallMarks (sym (reverse-append marks (mark ∷ []))) front
  where
    front : AreSmallMarks (mark ∷ reverse marks)
    front zero m at = subst IsSmallMark (same_Some mark m at) small
    front (suc k) m at = are k m at

-- After the end there are no items.
pub none_left : (list : List Node) → no_sums ≡ sums_of (drop (length list) list)
unfolding sums_of
none_left list = ap sums_of (sym (drop_of_length-le list (omega arith)))

pub none_dropped : (list : List Node) → list_any shrinks_infinitely (drop (length list) list) ≡ false
none_dropped list = ap (list_any shrinks_infinitely) (drop_of_length-le list (omega arith))

pub none_content : (list : List Node) → IsPlain (drop (length list) list)
none_content list = ap (list_any has_content) (drop_of_length-le list (omega arith))

pub none_negative : (list : List Node) → list_any has_negative_stretch (drop (length list) list) ≡ false
none_negative list = ap (list_any has_negative_stretch) (drop_of_length-le list (omega arith))

-- The mark of the end.
pub end_mark :
    (list : List Node)
    → record { position = length list; begin = length list + 1; penalty = negsuc 9999; from_position = no_sums; from_begin = no_sums }
    ≡ measured_break list (length list)
unfolding penalty_of sums_of
end_mark list =
    let n = length list in
    let begin : n + 1 ≡ next_kept list (n + 1) = omega (arith, lead_end list (n + 1) (omega arith)) in
    let penalty : negsuc 9999 ≡ penalty_of (slice_get list n) = ap penalty_of (sym (slice_get_past list n (omega arith))) in
    let position : no_sums ≡ sums_of (drop n list) = ap sums_of (sym (drop_of_length-le list (omega arith))) in
    let first : no_sums ≡ sums_of (drop (next_kept list (n + 1)) list) = ap sums_of (sym (drop_of_length-le list (omega (arith, begin)))) in
    cc (begin, penalty, position, first)

-- Lists that are refused.
length-map : {A B : Type 0} (f : A → B) (xs : List A) → length (map f xs) ≡ length xs
length-map f [] = refl
length-map f (x ∷ xs) = ap suc (length-map f xs)

refused : (glue many : Bool) (list : List Node) → list_any shrinks_infinitely list ≡ glue → nat_lt max_places (length (legal_places list)) ≡ many
    → (glue ≡ true) ⊎ (many ≡ true) → IsSome (refusal list)
refused true many list a b is = rw a refl
refused false true list a b is = rw (a, b) refl
refused false false list a b (inl is) = absurd (cc)
refused false false list a b (inr is) = absurd (cc)

pub too_many :
    (list : List Node) (i : ℕ) (later : List MeasuredBreak) → is_legal list i ≡ true → max_places ≤ length later
    → map (measured_break list) (filter (is_legal list) (up_to (i + 1))) ++ reverse later ≡ map (measured_break list) (legal_places list)
    → IsSome (refusal list)
too_many list i later legal many is =
    let f = measured_break list in
    let earlier = filter (is_legal list) (up_to (i + 1)) in
    let front : length earlier ≡ length (filter (is_legal list) (up_to i)) + 1 = count_passed (is_legal list) i legal in
    let all : length (map f earlier ++ reverse later) ≡ length (map f (legal_places list)) = ap length is in
    let count : max_places < length (legal_places list) =
    omega (arith, front, all, length-append (map f earlier) (reverse later), length-map f earlier, length-map f (legal_places list), length-reverse later, many) in
    let test : nat_lt max_places (length (legal_places list)) ≡ true = grind (arith, nat_tests) in
    refused _ true list refl test (inr refl)

or_true : (a : Bool) → (a || true) ≡ true
or_true true = refl
or_true false = refl

any_at :
    (list : List Node) (i : ℕ) (x : Node) → i < length list → x ≡ get_or list i x → shrinks_infinitely x ≡ true → list_any shrinks_infinitely list ≡ true
any_at [] i x within is on = absurd (omega arith)
any_at (y ∷ list) zero x within is on = ap (λ b. b || list_any shrinks_infinitely list) (ap shrinks_infinitely (sym is) ∙ on)
any_at (y ∷ list) (suc i) x within is on =
    ap (λ b. shrinks_infinitely y || b) (any_at list i x (omega arith) is on) ∙ or_true (shrinks_infinitely y)

pub infinite_refused :
    (list : List Node) (i : ℕ) (x : Node) → i < length list → x ≡ get_or list i x → shrinks_infinitely x ≡ true → IsSome (refusal list)
infinite_refused list i x within is on = refused true _ list (any_at list i x within is on) refl (inl refl)

pub not_refused :
    (list : List Node) (marks : List MeasuredBreak) → list_any shrinks_infinitely list ≡ false → length marks ≤ max_places
    → reverse marks ≡ map (measured_break list) (legal_places list) → refusal list ≡ None
not_refused list marks finite few is =
    let count : length (legal_places list) ≤ max_places =
    omega (arith, ap length is, length-map (measured_break list) (legal_places list), length-reverse marks, few) in
    let test : nat_lt max_places (length (legal_places list)) ≡ false = grind (arith, nat_tests) in
    rw (finite, test) refl

-- A list that is not refused has at most 8,192 legal places.
pub few_places : (list : List Node) → refusal list ≡ None → length (legal_places list) ≤ max_places
few_places list fits = cases (cases_lt max_places (length (legal_places list)))
  where
    cases : (max_places < length (legal_places list)) ⊎ (length (legal_places list) ≤ max_places) → length (legal_places list) ≤ max_places
    cases (inr few) = few
    cases (inl many) =
        let test : nat_lt max_places (length (legal_places list)) ≡ true = grind (arith, nat_tests) in
        let some : IsSome (refusal list) = refused _ true list refl test (inr refl) in
        absurd (cc)
