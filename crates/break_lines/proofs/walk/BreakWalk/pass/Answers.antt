use Rattle.std.proofs.Common.{◌≡◌, ◌∙◌, ◌+◌, ◌-◌, true, false, [], ◌∷◌, ◌++◌, length, length-append, reverse, drop, to_z, of_z, w32, SFits, ap, sym, subst, arith, rules}
use Rattle.std.proofs.lemmas.Int.{to_z-of_z, ints, clamps}
use Rattle.node_core.specs.Nodes.{max_nodes}
use Rattle.pack_core.specs.Items.{height_above_baseline, depth_below_baseline}
use Rattle.break_lines.specs.declared.mark.MeasuredBreak.{MeasuredBreak}
use Rattle.break_lines.specs.declared.line_sizes.PlaceSizes.{PlaceSizes}
use Rattle.break_lines.specs.Legal.{is_dropped, is_legal}
use Rattle.break_lines.specs.LineItems.{sums_of}
use Rattle.break_lines.specs.Spans.{sizes_at}
use Rattle.break_lines.specs.Private.Marks.{plus, amounts_of, measured_break}
use Rattle.break_lines.specs.Private.SmallMarks.{IsPrefix, AreSmallMarks}
use Rattle.break_lines.proofs.Smalls.{wide}
use Rattle.break_lines.proofs.Walks.{sums_back, next_dropped, finite_more, grows_more, plain_more, dropped_plain, marks_stay, marks_more, places_stay, places_more, start_known, start_small, small_more, too_many, infinite_refused}
use Rattle.break_lines.proofs.KeptSteps.{one_kept}
use Rattle.break_lines.proofs.Tallest.{as_high, none_higher, no_height, no_depth}
use Rattle.break_lines.proofs.walk.BreakWalk.pass.Goals as goal

pub returns-then-not-is_dropped-clause-goes_on : goal.returns-then-not-is_dropped-clause-goes_on
returns-then-not-is_dropped-clause-goes_on c goes =
    let list = c.args.nodes.now in
    let i = c.args.index in
    let x = c.index-nodes-index.result in
    let is = c.index-nodes-index.is in
    let within = c.requires.index_bounded in
    let old = c.requires.walked in
    let kept : is_dropped x ≡ false = sym c.is_dropped.ensures ∙ c.if-not-is_dropped.true in
    let one : length list - (i + 1) + 1 ≡ length list - i = omega arith in
    one_kept list i x c.args.self.now c.add_item.new.sums _ _ c.still_plain-self.result within is kept
    (record {
      sums = c.add_item.ensures.value;
      height = omega (arith, ints, clamps, c.max-self.ensures, c.height_of.ensures);
      depth = omega (arith, ints, clamps, c.max-self-then-not-is_dropped.ensures, c.depth_of.ensures);
      plain = c.still_plain-self.ensures.before;
      here = c.still_plain-self.ensures.here;
    })
    (subst (λ n. IsPrefix n c.add_item.new.sums) one (c.add_item.ensures.sums_bounded (length list - (i + 1)) old.small_sums)) old

pub returns-then-not-is_legal-clause-goes_on : goal.returns-then-not-is_legal-clause-goes_on
returns-then-not-is_legal-clause-goes_on c goes =
    let list = c.args.nodes.now in
    let i = c.args.index in
    let x = c.index-nodes-index.result in
    let is = c.index-nodes-index.is in
    let within = c.requires.index_bounded in
    let old = c.requires.walked in
    let w = c.args.self.now in
    let dropped : is_dropped x ≡ true = sym c.is_dropped.ensures ∙ c.if-not-is_dropped.false in
    let other : is_legal list i ≡ false = sym c.is_legal.ensures ∙ c.if-not-is_legal.true in
    let one : length list - (i + 1) + 1 ≡ length list - i = omega arith in
    let now : IsPrefix max_nodes w.sums = wide (length list - (i + 1)) w.sums (omega (arith, c.requires.list_bounded)) old.small_sums in
    record {
      marks = marks_stay list i (reverse w.marks.items) _ other old.marks;
      few = old.few;
      small_marks = old.small_marks;
      sums = c.add_item-2.ensures.value ∙ ap (λ s. plus s (amounts_of x)) old.sums ∙ sym (sums_back list i x within is);
      small_sums = subst (λ n. IsPrefix n c.add_item-2.new.sums) one (c.add_item-2.ensures.sums_bounded (length list - (i + 1)) old.small_sums);
      begin = old.begin ∙ sym (next_dropped list i x within is dropped);
      from_begin = λ _. start_known list (i + 1) w.begin w.sums w.from_begin c.line_start.result.now c.line_start.ensures.here c.line_start.ensures.later old.sums old.from_begin;
      small_begin = start_small (i + 1) w.begin w.sums w.from_begin c.line_start.result.now c.line_start.ensures.here c.line_start.ensures.later now old.small_begin;
      finite = finite_more list i x within is (sym c.shrinks_infinitely.ensures ∙ c.if-shrinks_infinitely.false) old.finite;
      grows = λ on. grows_more list i x within is (c.still_grows-self.ensures.here on) (old.grows (c.still_grows-self.ensures.before on));
      plain = λ on. plain_more list i x within is (dropped_plain x dropped) (old.plain on);
      sizes = places_stay (sizes_at list) list i (reverse w.sizes.items) _ other old.sizes;
      height = as_high height_above_baseline list i x w.height within is other (no_height x dropped) old.height;
      depth = as_high depth_below_baseline list i x w.depth within is other (no_depth x dropped) old.depth;
    }

pub returns-then-shrinks_infinitely-clause-stops : goal.returns-then-shrinks_infinitely-clause-stops
returns-then-shrinks_infinitely-clause-stops c stop =
    infinite_refused c.args.nodes.now c.args.index c.index-nodes-index.result c.requires.index_bounded c.index-nodes-index.is
    (sym c.shrinks_infinitely.ensures ∙ c.if-shrinks_infinitely.true)

pub returns-then-len-ge-MAX_PLACES-clause-stops : goal.returns-then-len-ge-MAX_PLACES-clause-stops
returns-then-len-ge-MAX_PLACES-clause-stops c stop =
    let legal : is_legal c.args.nodes.now c.args.index ≡ true = sym c.is_legal.ensures ∙ c.if-not-is_legal.false in
    let long : c.len.result ≡ length c.args.self.now.marks.items = search rules in
    too_many c.args.nodes.now c.args.index c.args.self.now.marks.items legal (omega (arith, long, c.if-len-ge-MAX_PLACES.true)) c.requires.walked.marks

pub returns-clause-goes_on : goal.returns-clause-goes_on
returns-clause-goes_on c goes =
    let list = c.args.nodes.now in
    let i = c.args.index in
    let x = c.index-nodes-index.result in
    let is = c.index-nodes-index.is in
    let within = c.requires.index_bounded in
    let old = c.requires.walked in
    let w = c.args.self.now in
    let dropped : is_dropped x ≡ true = sym c.is_dropped.ensures ∙ c.if-not-is_dropped.false in
    let legal : is_legal list i ≡ true = sym c.is_legal.ensures ∙ c.if-not-is_legal.false in
    let one : length list - (i + 1) + 1 ≡ length list - i = omega arith in
    let now : IsPrefix max_nodes w.sums = wide (length list - (i + 1)) w.sums (omega (arith, c.requires.list_bounded)) old.small_sums in
    let sums = c.add_item-2.ensures.value ∙ ap (λ s. plus s (amounts_of x)) old.sums ∙ sym (sums_back list i x within is) in
    let small_sums = subst (λ n. IsPrefix n c.add_item-2.new.sums) one (c.add_item-2.ensures.sums_bounded (length list - (i + 1)) old.small_sums) in
    let start = start_known list (i + 1) w.begin w.sums w.from_begin c.line_start.result.now c.line_start.ensures.here c.line_start.ensures.later old.sums old.from_begin in
    let small_start = start_small (i + 1) w.begin w.sums w.from_begin c.line_start.result.now c.line_start.ensures.here c.line_start.ensures.later now old.small_begin in
    let first = start ∙ ap (λ k. sums_of (drop k list)) old.begin in
    let fits : SFits w32 c.penalty_at.result = search rules in
    let penalty = to_z-of_z w32 c.penalty_at.result fits ∙ c.penalty_at.ensures in
    let mark : MeasuredBreak = record { position = i; begin = w.begin; penalty = to_z w32 (of_z w32 c.penalty_at.result); from_position = c.add_item-2.new.sums; from_begin = c.line_start.result.now } in
    let here : mark ≡ measured_break list i = cc (old.begin, penalty, sums, first) in
    let items : c.push_reserved.new.self.items ≡ w.marks.items ++ mark ∷ [] = c.push_reserved.ensures.items
    ∙ ap (λ ms. ms ++ mark ∷ []) c.in_ok-make_space.ensures.items in
    let long : c.len.result ≡ length w.marks.items = search rules in
    let fits_high : SFits w32 w.height = search rules in
    let fits_deep : SFits w32 w.depth = search rules in
    let high = to_z-of_z w32 w.height fits_high ∙ old.height in
    let deep = to_z-of_z w32 w.depth fits_deep ∙ old.depth in
    let sizes : PlaceSizes = record { position = i; begin = w.begin; height = to_z w32 (of_z w32 w.height); depth = to_z w32 (of_z w32 w.depth) } in
    let sized : sizes ≡ sizes_at list i = cc (old.begin, high, deep) in
    let added : c.push.new.self.items ≡ w.sizes.items ++ sizes ∷ [] = c.in_ok-push.ensures.items in
    record {
      marks = marks_more list i w.marks.items c.push_reserved.new.self.items mark _ legal here items old.marks;
      few = omega (arith, ap length items, length-append w.marks.items (mark ∷ []), long, c.if-len-ge-MAX_PLACES.false);
      small_marks = subst (λ ms. AreSmallMarks (reverse ms)) (sym items) (small_more w.marks.items mark
          (record { from_position = wide (length list - i) c.add_item-2.new.sums (omega (arith, c.requires.list_bounded)) small_sums; from_begin = small_start }) old.small_marks);
      sums = sums;
      small_sums = small_sums;
      begin = old.begin ∙ sym (next_dropped list i x within is dropped);
      from_begin = λ _. start;
      small_begin = small_start;
      finite = finite_more list i x within is (sym c.shrinks_infinitely.ensures ∙ c.if-shrinks_infinitely.false) old.finite;
      grows = λ on. grows_more list i x within is (c.still_grows-self.ensures.here on) (old.grows (c.still_grows-self.ensures.before on));
      plain = λ on. plain_more list i x within is (dropped_plain x dropped) (old.plain on);
      sizes = places_more (sizes_at list) list i w.sizes.items c.push.new.self.items sizes _ legal sized added old.sizes;
      height = none_higher height_above_baseline list i legal;
      depth = none_higher depth_below_baseline list i legal;
    }
