-- The box of a line by the measures of the places that it passes over.
use Rattle.std.proofs.Common.{◌≡◌, ◌∙◌, ℕ, ◌+◌, ◌<◌, ◌≤◌, List, [], ◌∷◌, ◌++◌, ◌==◌, length, length-take, take, drop, drop-cons, get_or, suc, refl, ap, sym, subst, arith, Option, Some, None}
use Rattle.std.specs.Prelude.{ℤ, pos, false, nat_le, slice_get, IfSome, MatchOption}
use Rattle.std.proofs.lemmas.Bool.Decides.{nat_tests}
use Rattle.std.specs.List.{list_any}
use Rattle.node_core.specs.Classes.{shrinks_infinitely}
use Rattle.node_core.specs.declared.tree.Node.{Node}
use Rattle.node_core.specs.declared.tree.Order.TheVariants.{Normal, Fil, Fill, Filll}
use Rattle.pack_core.specs.declared.across.Across.{Across}
use Rattle.pack_core.specs.Items.{item_width, height_above_baseline, depth_below_baseline}
use Rattle.pack_core.specs.Totals.{total, greatest_of}
use Rattle.pack_core.specs.Glue.{stretch_totals, shrink_totals}
use Rattle.pack_core.specs.Orders.{order_amounts}
use Rattle.pack_core.specs.ListTotals.{IsAcross}
use Rattle.break_lines.specs.LineItems.{at_break, kept_items, sums_of}
use Rattle.break_lines.specs.Facts.{begins_at, position_of}
use Rattle.break_lines.specs.Legal.{legal_places}
use Rattle.break_lines.specs.Spans.{front_items, first_index}
use Rattle.vert_core.proofs.PlannedLines.{short_front}
use Rattle.vert_core.specs.Lines.{line_begin}
use Rattle.vert_core.specs.Private.Measuring.{amounts_of_stretch, amounts_of_shrink, Follow, IsAt}
use Rattle.vert_core.proofs.BadLines.{none_kept, shrinks_not}
use Rattle.vert_core.proofs.Measured.{width-end, stretch-end, shrink-end}
use Rattle.break_lines.proofs.Places.{begins_some}
use Rattle.std.proofs.lemmas.Option.{slice_get-get_or}

-- The sums over what a line keeps are the measures of the items before its end.
pub across_front :
    (list : List Node) (begin : Option ℕ) (end : ℕ) (front : List Node) (across : Across)
    → front ++ at_break (slice_get list end) ≡ kept_items list begin end → list_any shrinks_infinitely list ≡ false
    → across.width ≡ (sums_of (kept_items list begin end)).width
    → across.stretch ≡ amounts_of_stretch (sums_of (kept_items list begin end))
    → across.shrink ≡ amounts_of_shrink (sums_of (kept_items list begin end))
    → across.height ≡ greatest_of height_above_baseline front → across.depth ≡ greatest_of depth_below_baseline front → IsAcross front across
unfolding sums_of
across_front list begin end front across is finite width stretch shrink height depth =
    let kept = kept_items list begin end in
    let none = none_kept list begin end finite in
    let all : amounts_of_shrink (sums_of kept) ≡ order_amounts (shrink_totals kept) =
    cc (shrinks_not Fil kept tt none, shrinks_not Fill kept tt none, shrinks_not Filll kept tt none) in
    record {
      width = width ∙ ap (total item_width) (sym is) ∙ width-end front (slice_get list end);
      height = height;
      depth = depth;
      stretch = stretch ∙ ap (λ xs. order_amounts (stretch_totals xs)) (sym is) ∙ ap order_amounts (stretch-end front (slice_get list end));
      shrink = shrink ∙ all ∙ ap (λ xs. order_amounts (shrink_totals xs)) (sym is) ∙ ap order_amounts (shrink-end front (slice_get list end));
    }

-- The place where a line ends comes after the place where it begins.
pub follow_here :
    (list : List Node) (places : List ℕ) (line from last : ℕ) → line < length places → Follow list (drop line places) from last
    → (to : ℕ) × (from < to) × (to ≤ length (legal_places list)) × (get_or places line 0 ≡ position_of list to) × Follow list (drop (line + 1) places) to last
follow_here list places line from last within is =
    let one : line + 1 ≡ suc line = omega arith in
    let same : drop line places ≡ get_or places line 0 ∷ drop (line + 1) places =
    drop-cons places line 0 within ∙ ap (λ n. get_or places line 0 ∷ drop n places) (sym one) in
    subst (λ xs. Follow list xs from last) same is

-- The next line begins there.
pub next_at :
    (list : List Node) (places : List ℕ) (line to : ℕ) → line < length places → 0 < to → get_or places line 0 ≡ position_of list to
    → Follow list (drop (line + 1) places) to (length (legal_places list)) → IsAt list places (line + 1) to
next_at list places line to within some is more =
    let one : line + 1 ≡ suc line = omega arith in
    record {
      begin = begins_some list to some ∙ ap Some (sym is) ∙ sym (slice_get-get_or places line 0 within) ∙ ap (line_begin places) (sym one);
      follow = more;
    }

-- It has no items before its end exactly if it begins there.
pub no_front :
    (list : List Node) (begin : Option ℕ) (end first : ℕ) → end ≤ length list → first ≡ first_index list begin end
    → nat_le end first ≡ (length (front_items list begin end) == 0)
no_front list begin end first within is =
    let count : length (take end list) ≡ end = omega (arith, length-take end list, within) in
    let part = short_front list begin end in
    grind (arith, nat_tests)

-- What is known of a list that was measured, and of one that was not.
pub at_some : {A : Type 0} (o : Option A) (a : A) (P : Type 0) (Q : A → Type 0) → o ≡ Some a → MatchOption o P Q → Q a
at_some o a P Q is holds = subst (λ x. MatchOption x P Q) is holds

pub next_known :
    {A B : Type 0} (o : Option A) (a : A) (r : Option B) (Q : A → Type 0) (P : B → Type 0)
    → o ≡ Some a → Q a → IfSome r P → IfSome r (λ b. MatchOption o (Unit {0}) (λ x. Q x × P b))
next_known o a None Q P is known holds = tt
next_known o a (Some b) Q P is known holds = subst (λ z. MatchOption z (Unit {0}) (λ x. Q x × P b)) (sym is) (known, holds)

pub next_unknown :
    {A B : Type 0} (o : Option A) (r : Option B) (P : A → B → Type 0) → o ≡ None → IfSome r (λ b. MatchOption o (Unit {0}) (λ x. P x b))
next_unknown o None P is = tt
next_unknown o (Some b) P is = subst (λ z. MatchOption z (Unit {0}) (λ x. P x b)) (sym is) tt
