use Rattle.std.proofs.Common.{◌≡◌, ◌∙◌, ◌-◌, [], ◌∷◌, ◌++◌, length, reverse, to_z, of_z, w32, SFits, ap, sym, subst, arith, rules}
use Rattle.std.proofs.lemmas.Int.{to_z-of_z}
use Rattle.std.specs.Prelude.{pos}
use Rattle.std.proofs.lemmas.List.{reverse-append}
use Rattle.break_lines.specs.declared.mark.MeasuredBreak.{MeasuredBreak}
use Rattle.break_lines.specs.declared.line_sizes.PlaceSizes.{PlaceSizes}
use Rattle.break_lines.specs.Spans.{start_sizes}
use Rattle.break_lines.specs.Private.Marks.{start_mark}
use Rattle.break_lines.specs.Private.SmallMarks.{AreSmallMarks}
use Rattle.break_lines.proofs.Smalls.{wide}
use Rattle.break_lines.proofs.Walks.{small_more, not_refused}
use Rattle.break_lines.proofs.walk.BreakWalk.into_marks.Goals as goal

pub returns-clause-marks : goal.returns-clause-marks
returns-clause-marks c =
    let list = c.args.nodes.now in
    let w = c.args.self in
    let old = c.requires.walked in
    let mark : MeasuredBreak = record { position = 0; begin = 0; penalty = pos 0; from_position = w.sums; from_begin = w.sums } in
    let items : c.reverse.new.self.items ≡ reverse (w.marks.items ++ mark ∷ []) = c.reverse.ensures.items ∙ ap reverse c.in_ok-push.ensures.items in
    let here : mark ≡ start_mark list = cc (old.sums) in
    let small = wide (length list - 0) w.sums (omega (arith, c.requires.list_bounded)) old.small_sums in
    record {
      fits = not_refused list w.marks.items old.finite old.few old.marks;
      marks = items ∙ reverse-append w.marks.items (mark ∷ []) ∙ ap (λ m. m ∷ reverse w.marks.items) here ∙ ap (λ ms. start_mark list ∷ ms) old.marks;
      small = subst AreSmallMarks (sym items) (small_more w.marks.items mark (record { from_position = small; from_begin = small }) old.small_marks);
    }

pub returns-clause-grows : goal.returns-clause-grows
returns-clause-grows c = λ on. c.requires.walked.grows on

pub returns-clause-plain : goal.returns-clause-plain
returns-clause-plain c = λ on. c.requires.walked.plain on

pub returns-clause-sizes : goal.returns-clause-sizes
returns-clause-sizes c =
    let list = c.args.nodes.now in
    let w = c.args.self in
    let old = c.requires.walked in
    let fits_high : SFits w32 w.height = search rules in
    let fits_deep : SFits w32 w.depth = search rules in
    let high = to_z-of_z w32 w.height fits_high ∙ old.height in
    let deep = to_z-of_z w32 w.depth fits_deep ∙ old.depth in
    let sizes : PlaceSizes = record { position = 0; begin = 0; height = to_z w32 (of_z w32 w.height); depth = to_z w32 (of_z w32 w.depth) } in
    let here : sizes ≡ start_sizes list = cc (high, deep) in
    ap reverse c.in_ok-push-2.ensures.items ∙ reverse-append w.sizes.items (sizes ∷ []) ∙ ap (λ s. s ∷ reverse w.sizes.items) here
    ∙ ap (λ xs. start_sizes list ∷ xs) old.sizes
