-- The walk after one more item that is not dropped at the beginning of a line.
use Rattle.std.proofs.Common.{◌≡◌, ◌∙◌, ℕ, ◌+◌, ◌-◌, ◌<◌, Bool, true, false, List, length, reverse, get_or, refl, ap, sym}
use Rattle.std.specs.Prelude.{ℤ}
use Rattle.std.specs.Int.{int_max}
use Rattle.node_core.specs.declared.tree.Node.{Node}
use Rattle.node_core.specs.Classes.{has_content}
use Rattle.pack_core.specs.Items.{height_above_baseline, depth_below_baseline}
use Rattle.break_lines.specs.declared.sums.Sums.{Sums}
use Rattle.break_lines.specs.declared.walk.BreakWalk.{BreakWalk}
use Rattle.break_lines.specs.Legal.{is_dropped, is_legal}
use Rattle.break_lines.specs.Spans.{sizes_at}
use Rattle.break_lines.specs.Private.Marks.{amounts_of, plus, HasMeasuredFrom}
use Rattle.break_lines.specs.Private.SmallMarks.{IsPrefix}
use Rattle.break_lines.proofs.Walks.{sums_back, next_here, kept_is_no_place, kept_finite, kept_grows, finite_more, grows_more, plain_more, marks_stay, places_stay}
use Rattle.break_lines.proofs.Tallest.{higher}

-- What such an item changes.
pub record IsWithItem (x : Node) (before now : BreakWalk) : Type 0 where
  pub sums : now.sums ≡ plus before.sums (amounts_of x)
  pub height : now.height ≡ int_max before.height (height_above_baseline x)
  pub depth : now.depth ≡ int_max before.depth (depth_below_baseline x)
  pub plain : now.plain ≡ true → before.plain ≡ true
  pub here : now.plain ≡ true → has_content x ≡ false

pub one_kept :
    (list : List Node) (i : ℕ) (x : Node) (walk : BreakWalk) (sums : Sums) (height depth : ℤ) (plain : Bool) → i < length list → x ≡ get_or list i x
    → is_dropped x ≡ false → IsWithItem x walk (record walk { sums = sums; begin = i; height = height; depth = depth; plain = plain })
    → IsPrefix (length list - i) sums → HasMeasuredFrom list (i + 1) walk
    → HasMeasuredFrom list i (record walk { sums = sums; begin = i; height = height; depth = depth; plain = plain })
one_kept list i x walk sums height depth plain within is kept more small old = record {
  marks = marks_stay list i (reverse walk.marks.items) _ (kept_is_no_place list i x within is kept) old.marks;
  few = old.few;
  small_marks = old.small_marks;
  sums = more.sums ∙ ap (λ s. plus s (amounts_of x)) old.sums ∙ sym (sums_back list i x within is);
  small_sums = small;
  begin = sym (next_here list i x within is kept);
  from_begin = λ other. absurd (other refl);
  small_begin = old.small_begin;
  finite = finite_more list i x within is (kept_finite x kept) old.finite;
  grows = λ on. grows_more list i x within is (kept_grows x kept) (old.grows on);
  plain = λ on. plain_more list i x within is (more.here on) (old.plain (more.plain on));
  sizes = places_stay (sizes_at list) list i (reverse walk.sizes.items) _ (kept_is_no_place list i x within is kept) old.sizes;
  height = higher height_above_baseline list i x walk.height height within is (kept_is_no_place list i x within is kept) old.height more.height;
  depth = higher depth_below_baseline list i x walk.depth depth within is (kept_is_no_place list i x within is kept) old.depth more.depth;
}
