-- The box of a line has the badness of the line.
use Rattle.std.proofs.Common.{◌≡◌, ◌≢◌, ◌∙◌, ℕ, zero, suc, ◌+◌, ◌||◌, Bool, true, false, not, cond, List, [], ◌∷◌, ◌++◌, take, drop, refl, ap, sym, Option, Some, None, Ok, Err}
use Rattle.std.specs.Prelude.{ℤ, pos, negsuc, ◌+ℤ◌, ◌-ℤ◌, int_lt, slice_get}
use Rattle.std.specs.List.{list_any, list_all}
use Rattle.std.proofs.lemmas.List.{take-append-drop}
use Rattle.std.proofs.lemmas.List.Folds.{list_any-append}
use Rattle.std.proofs.lemmas.Bool.{cases_Bool, cond-true, cond-false}
use Rattle.std.proofs.Math.Logic.{◌⊎◌, inl, inr}
use Rattle.scaled_core.specs.Badness.{badness_of}
use Rattle.scaled_core.specs.Dimensions.{fits}
use Rattle.node_core.specs.declared.params.Params.{Params}
use Rattle.node_core.specs.declared.tree.Glue.{Glue}
use Rattle.node_core.specs.declared.tree.Node.{Node}
use Rattle.node_core.specs.declared.tree.Node.TheVariants as nodes
use Rattle.node_core.specs.declared.tree.Order.{Order}
use Rattle.node_core.specs.declared.tree.Order.TheVariants.{Normal, Fil, Fill, Filll}
use Rattle.node_core.specs.Nodes.{items_of, nodes_of}
use Rattle.node_core.proofs.NodeLemmas.{nodes_of-items_of}
use Rattle.pack_core.specs.declared.pack.PackedBox.{PackedBox}
use Rattle.pack_core.specs.declared.pack.Target.TheVariants.{To}
use Rattle.pack_core.specs.Boxes.{hbox_packing, hbox_badness, hpack_result}
use Rattle.pack_core.specs.Glue.{is_zero, highest, is_finite, overfull, stretch_totals, shrink_totals, stretch_badness, shrink_badness, setting_badness}
use Rattle.pack_core.specs.Items.{item_width, shrink_in}
use Rattle.pack_core.specs.Totals.{total}
use Rattle.break_lines.specs.declared.cost.LineFit.{LineFit}
use Rattle.break_lines.specs.Costs.{stretches_forever, fit_short, fit_long, fit_by, line_fit}
use Rattle.break_lines.specs.Sizes.{line_size}
use Rattle.node_core.specs.Classes.{shrinks_infinitely}
use Rattle.break_lines.specs.Legal.{is_dropped}
use Rattle.break_lines.specs.LineItems.{at_break, without_first, kept_items, sums_of}
use Rattle.break_lines.specs.Facts.{position_of, begins_at, facts_of, refusal}
use Rattle.break_lines.proofs.Refusals.{no_infinite_shrink}

or_left : (a b : Bool) → (a || b) ≡ false → a ≡ false
or_left true b is = is
or_left false b is = refl

or_right : (a b : Bool) → (a || b) ≡ false → b ≡ false
or_right true b is = absurd (cc)
or_right false b is = is

-- If no glue of a list shrinks in an infinite order, none in a part of it does.
none_left : (xs ys : List Node) → list_any shrinks_infinitely (xs ++ ys) ≡ false → list_any shrinks_infinitely xs ≡ false
none_left xs ys is = or_left (list_any shrinks_infinitely xs) (list_any shrinks_infinitely ys) (sym (list_any-append shrinks_infinitely xs ys) ∙ is)

none_right : (xs ys : List Node) → list_any shrinks_infinitely (xs ++ ys) ≡ false → list_any shrinks_infinitely ys ≡ false
none_right xs ys is = or_right (list_any shrinks_infinitely xs) (list_any shrinks_infinitely ys) (sym (list_any-append shrinks_infinitely xs ys) ∙ is)

none_joined : (xs ys : List Node) → list_any shrinks_infinitely xs ≡ false → list_any shrinks_infinitely ys ≡ false → list_any shrinks_infinitely (xs ++ ys) ≡ false
none_joined xs ys left right = list_any-append shrinks_infinitely xs ys ∙ ap (λ b. b || list_any shrinks_infinitely ys) left ∙ right

none_taken : (list : List Node) (n : ℕ) → list_any shrinks_infinitely list ≡ false → list_any shrinks_infinitely (take n list) ≡ false
none_taken list n is = none_left (take n list) (drop n list) (ap (list_any shrinks_infinitely) (take-append-drop n list) ∙ is)

none_after : (list : List Node) (n : ℕ) → list_any shrinks_infinitely list ≡ false → list_any shrinks_infinitely (drop n list) ≡ false
none_after list n is = none_right (take n list) (drop n list) (ap (list_any shrinks_infinitely) (take-append-drop n list) ∙ is)

none_after_first : (list : List Node) → list_any shrinks_infinitely list ≡ false → list_any shrinks_infinitely (without_first list) ≡ false
none_after_first [] is = is
none_after_first (x ∷ rest) is = cases (cases_Bool (is_dropped x)) (none_after_first rest (or_right (shrinks_infinitely x) (list_any shrinks_infinitely rest) is))
  where
    cases : (is_dropped x ≡ true) ⊎ (is_dropped x ≡ false) → list_any shrinks_infinitely (without_first rest) ≡ false → list_any shrinks_infinitely (without_first (x ∷ rest)) ≡ false
    cases (inl dropped) later = ap (list_any shrinks_infinitely) (cond-true (is_dropped x) (without_first rest) (x ∷ rest) dropped) ∙ later
    cases (inr stays) later = ap (list_any shrinks_infinitely) (cond-false (is_dropped x) (without_first rest) (x ∷ rest) stays) ∙ is

none_at_break : (at : Option Node) → list_any shrinks_infinitely (at_break at) ≡ false
none_at_break None = refl
none_at_break (Some (nodes.Glyph g)) = refl
none_at_break (Some (nodes.FontKern width)) = refl
none_at_break (Some (nodes.Kern width)) = refl
none_at_break (Some (nodes.Glue g)) = refl
none_at_break (Some (nodes.Penalty p)) = refl
none_at_break (Some (nodes.Rule sizes)) = refl
none_at_break (Some (nodes.Special text)) = refl
none_at_break (Some (nodes.Box shift b)) = refl

pub none_kept : (list : List Node) (begin : Option ℕ) (end : ℕ) → list_any shrinks_infinitely list ≡ false → list_any shrinks_infinitely (kept_items list begin end) ≡ false
none_kept list None end is = none_joined (take end list) (at_break (slice_get list end)) (none_taken list end is) (none_at_break (slice_get list end))
none_kept list (Some a) end is =
    none_joined (without_first (drop (a + 1) (take end list))) (at_break (slice_get list end))
    (none_after_first (drop (a + 1) (take end list)) (none_after (take end list) (a + 1) (none_taken list end is)))
    (none_at_break (slice_get list end))

-- Then the totals of shrink in infinite orders are 0.
zero_is : (s : ℤ) → not (is_zero s) ≡ false → s ≡ pos 0
zero_is (pos zero) is = refl
zero_is (pos (suc n)) is = absurd (cc)
zero_is (negsuc n) is = absurd (cc)

-- An order is infinite.
abbrev pub IsInfinite : Order → Type 0
IsInfinite Normal = ⊥
IsInfinite Fil = Unit {0}
IsInfinite Fill = Unit {0}
IsInfinite Filll = Unit {0}

abbrev a_glue : (width stretch : ℤ) (stretch_order : Order) (shrink : ℤ) (shrink_order : Order) → Glue
a_glue width stretch stretch_order shrink shrink_order =
    record { width = width; stretch = stretch; stretch_order = stretch_order; shrink = shrink; shrink_order = shrink_order }

no_shrink :
    (order : Order) (width stretch : ℤ) (stretch_order : Order) (shrink : ℤ) (own : Order) → IsInfinite order
    → shrinks_infinitely (nodes.Glue (a_glue width stretch stretch_order shrink own)) ≡ false
    → shrink_in order (nodes.Glue (a_glue width stretch stretch_order shrink own)) ≡ pos 0
no_shrink Normal width stretch o shrink own far is = absurd far
no_shrink Fil width stretch o shrink Normal far is = refl
no_shrink Fil width stretch o shrink Fil far is = zero_is shrink is
no_shrink Fil width stretch o shrink Fill far is = refl
no_shrink Fil width stretch o shrink Filll far is = refl
no_shrink Fill width stretch o shrink Normal far is = refl
no_shrink Fill width stretch o shrink Fil far is = refl
no_shrink Fill width stretch o shrink Fill far is = zero_is shrink is
no_shrink Fill width stretch o shrink Filll far is = refl
no_shrink Filll width stretch o shrink Normal far is = refl
no_shrink Filll width stretch o shrink Fil far is = refl
no_shrink Filll width stretch o shrink Fill far is = refl
no_shrink Filll width stretch o shrink Filll far is = zero_is shrink is

item_shrinks_not : (order : Order) (x : Node) → IsInfinite order → shrinks_infinitely x ≡ false → shrink_in order x ≡ pos 0
item_shrinks_not order (nodes.Glyph g) far is = refl
item_shrinks_not order (nodes.FontKern width) far is = refl
item_shrinks_not order (nodes.Kern width) far is = refl
item_shrinks_not order (nodes.Glue g) far is = no_shrink order g.width g.stretch g.stretch_order g.shrink g.shrink_order far is
item_shrinks_not order (nodes.Penalty p) far is = refl
item_shrinks_not order (nodes.Rule sizes) far is = refl
item_shrinks_not order (nodes.Special text) far is = refl
item_shrinks_not order (nodes.Box shift b) far is = refl

pub shrinks_not : (order : Order) (items : List Node) → IsInfinite order → list_any shrinks_infinitely items ≡ false → total (shrink_in order) items ≡ pos 0
shrinks_not order [] far is = refl
shrinks_not order (x ∷ items) far is =
    ap (λ s. s +ℤ total (shrink_in order) items) (item_shrinks_not order x far (or_left (shrinks_infinitely x) (list_any shrinks_infinitely items) is))
    ∙ ap (λ s. pos 0 +ℤ s) (shrinks_not order items far (or_right (shrinks_infinitely x) (list_any shrinks_infinitely items) is))

-- The order that is set, by the totals that are 0.
abbrev highest_by : (normal fil fill filll : Bool) → Option Order
highest_by normal fil fill filll = cond filll (cond fill (cond fil (cond normal None (Some Normal)) (Some Fil)) (Some Fill)) (Some Filll)

finite_by : (normal fil fill filll : Bool) → is_finite (highest_by normal fil fill filll) ≡ not (not fil || (not fill || not filll))
finite_by true true true true = refl
finite_by false true true true = refl
finite_by normal false true true = refl
finite_by normal true false true = refl
finite_by normal false false true = refl
finite_by normal true true false = refl
finite_by normal false true false = refl
finite_by normal true false false = refl
finite_by normal false false false = refl

stretch_finite : (items : List Node) → is_finite (highest (stretch_totals items)) ≡ not (stretches_forever (sums_of items))
unfolding highest stretches_forever sums_of
stretch_finite items =
    finite_by (is_zero (stretch_totals items Normal)) (is_zero (stretch_totals items Fil)) (is_zero (stretch_totals items Fill)) (is_zero (stretch_totals items Filll))

shrink_finite : (items : List Node) → list_any shrinks_infinitely items ≡ false → is_finite (highest (shrink_totals items)) ≡ true
unfolding highest
shrink_finite items is =
    finite_by (is_zero (shrink_totals items Normal)) (is_zero (shrink_totals items Fil)) (is_zero (shrink_totals items Fill)) (is_zero (shrink_totals items Filll))
    ∙ ap (λ s. not (not (is_zero s) || (not (is_zero (shrink_totals items Fill)) || not (is_zero (shrink_totals items Filll))))) (shrinks_not Fil items tt is)
    ∙ ap (λ s. not (not (is_zero s) || not (is_zero (shrink_totals items Filll)))) (shrinks_not Fill items tt is)
    ∙ ap (λ s. not (not (is_zero s))) (shrinks_not Filll items tt is)

-- The badness of a line that is too short.
short_by : (endless : Bool) (short filled : LineFit) (n m : ℕ) → filled.badness ≡ m → short.badness ≡ n → cond (not endless) n m ≡ (cond endless filled short).badness
short_by true short filled n m full is = sym full
short_by false short filled n m full is = sym is

-- A line that is too long but not overfull.
not_over : (over : Bool) (x y : LineFit) → x.overfull ≡ true → (cond over x y).overfull ≡ false → over ≡ false
not_over true x y is figures = absurd (cc)
not_over false x y is figures = refl

stretched_bad : (items : List Node) (n : ℕ) → stretch_badness (pos (suc n)) (stretch_totals items) ≡ (fit_short (sums_of items) (pos (suc n))).badness
unfolding fit_short sums_of
stretched_bad items n =
    ap (λ b. cond b (badness_of (pos (suc n)) (stretch_totals items Normal)) 0) (stretch_finite items)
    ∙ short_by (stretches_forever (sums_of items)) _ _ (badness_of (pos (suc n)) (stretch_totals items Normal)) 0 refl refl

shrunk_bad :
    (items : List Node) (n : ℕ) → list_any shrinks_infinitely items ≡ false → (fit_long (sums_of items) (pos (suc n))).overfull ≡ false
    → shrink_badness (pos (suc n)) (shrink_totals items) ≡ (fit_long (sums_of items) (pos (suc n))).badness
unfolding fit_long sums_of
shrunk_bad items n free fits =
    let over : int_lt (shrink_totals items Normal) (pos (suc n)) ≡ false = not_over (int_lt (shrink_totals items Normal) (pos (suc n))) _ _ refl fits in
    ap (λ b. cond b (cond (int_lt (shrink_totals items Normal) (pos (suc n))) overfull (badness_of (pos (suc n)) (shrink_totals items Normal))) 0) (shrink_finite items free)
    ∙ ap (λ b. cond b overfull (badness_of (pos (suc n)) (shrink_totals items Normal))) over
    ∙ rw over refl

exact_bad : (items : List Node) → (fit_long (sums_of items) (pos 0)).overfull ≡ false → 0 ≡ (fit_long (sums_of items) (pos 0)).badness
unfolding fit_long sums_of badness_of
exact_bad items fits =
    let over : int_lt (shrink_totals items Normal) (pos 0) ≡ false = not_over (int_lt (shrink_totals items Normal) (pos 0)) _ _ refl fits in
    rw over refl

as_bad :
    (items : List Node) (excess : ℤ) → items ≢ [] → list_any shrinks_infinitely items ≡ false → (fit_by (sums_of items) excess).overfull ≡ false
    → setting_badness excess items ≡ (fit_by (sums_of items) excess).badness
unfolding fit_by setting_badness
as_bad [] excess some free fits = absurd (some refl)
as_bad (x ∷ xs) (pos zero) some free fits = exact_bad (x ∷ xs) fits
as_bad (x ∷ xs) (pos (suc n)) some free fits = stretched_bad (x ∷ xs) n
as_bad (x ∷ xs) (negsuc n) some free fits = shrunk_bad (x ∷ xs) n free fits

line_as_bad :
    (items : List Node) (size : ℤ) → items ≢ [] → list_any shrinks_infinitely items ≡ false → (line_fit (sums_of items) size).overfull ≡ false
    → hbox_badness (To size) items ≡ (line_fit (sums_of items) size).badness
unfolding line_fit sums_of
line_as_bad items size some free fits = as_bad items (size -ℤ total item_width items) some free fits

-- A box has the badness of its packing.
packed_bad : (fit : Bool) (p packed : PackedBox) {E : Type 0} (e : E) → cond fit (Ok p) (Err e) ≡ Ok packed → packed.badness ≡ p.badness
packed_bad true p packed e is = cc
packed_bad false p packed e is = absurd (cc)

box_bad : (size : ℤ) (items : List Node) (packed : PackedBox) → hpack_result (To size) (items_of items) ≡ Ok packed
    → packed.badness ≡ hbox_badness (To size) items
unfolding hpack_result
box_bad size items packed is =
    packed_bad (list_all fits (hbox_packing (To size) (nodes_of (items_of items))).numbers) _ packed _ is
    ∙ ap (hbox_badness (To size)) (nodes_of-items_of items)

pub boxed_as_bad :
    (list : List Node) (params : Params) (a b lines : ℕ) (packed : PackedBox) → refusal list ≡ None
    → kept_items list (begins_at list a) (position_of list b) ≢ []
    → (line_fit ((facts_of list).sums a b) (line_size params lines)).overfull ≡ false
    → hpack_result (To (line_size params lines)) (items_of (kept_items list (begins_at list a) (position_of list b))) ≡ Ok packed
    → packed.badness ≡ (line_fit ((facts_of list).sums a b) (line_size params lines)).badness
boxed_as_bad list params a b lines packed free some fits is =
    box_bad (line_size params lines) (kept_items list (begins_at list a) (position_of list b)) packed is
    ∙ line_as_bad (kept_items list (begins_at list a) (position_of list b)) (line_size params lines) some
    (none_kept list (begins_at list a) (position_of list b) (no_infinite_shrink list free)) fits
