use Rattle.std.proofs.Common.{◌≡◌, ◌∙◌, ◌≢◌, ℕ, ◌+◌, ◌-◌, ◌<◌, ◌≤◌, List, length, reverse, refl, ap, sym, subst, arith, rules, Some}
use Rattle.std.specs.Prelude.{slice_get}
use Rattle.std.proofs.Math.Logic.{◌⊎◌, inl, inr}
use Rattle.std.proofs.lemmas.Int.{ints, clamps}
use Rattle.std.proofs.lemmas.Bool.{cases_lt, cases_eq}
use Rattle.std.proofs.lemmas.List.{length-reverse}
use Rattle.node_core.specs.declared.tree.Node.{Node}
use Rattle.pack_core.specs.Items.{height_above_baseline, depth_below_baseline}
use Rattle.break_lines.specs.declared.line_sizes.PlaceSizes.{PlaceSizes}
use Rattle.break_lines.specs.Legal.{legal_places}
use Rattle.break_lines.specs.Facts.{begins_at, position_of}
use Rattle.break_lines.specs.Spans.{AreSizesOf, greatest_between}
use Rattle.break_lines.proofs.Entries.{get_at}
use Rattle.break_lines.proofs.Places.{rising_places, begins_some}
use Rattle.break_lines.proofs.Tallest.{after, after_low, place_legal, sized, sized_place, count_sizes, joined, no_height, no_depth, front_greatest, begin_index, IsSized}
use Rattle.break_lines.proofs.line_sizes.LineSizes.line_between.Goals as goal

pub loop-place-init : goal.loop-place-init
loop-place-init c =
    record {
      later = omega arith;
      within = omega (arith, c.requires);
      height = λ list is. omega (arith, ints, (known list is).height);
      depth = λ list is. omega (arith, ints, (known list is).depth);
      passed = λ list is to low last at. omega (arith, low);
    }
  where
    known : (list : List Node) → AreSizesOf list c.args.self.now → IsSized list c.args.from c.place-first.result.now
    known list is =
        sized list c.args.from c.place-first.result.now
        (omega (arith, c.requires, ap length is.places, length-reverse c.args.self.now.places.items, count_sizes list))
        (ap (λ xs. slice_get xs c.args.from) (sym is.places) ∙ c.place-first.ensures)

pub loop-place-preserved : goal.loop-place-preserved
loop-place-preserved c =
    record {
      later = omega (arith, later);
      within = omega (arith, on);
      height = λ list is.
          let rises = rising_places list n (n + 1) (omega (arith, later)) (omega arith) (more list is) in
          let next = (known list is).height
          ∙ ap (λ b. greatest_between height_above_baseline list (after b) (position_of list (n + 1))) (begins_some list n (omega (arith, later))) in
          joined height_above_baseline no_height list (after (begins_at list c.args.from)) (position_of list n) (position_of list (n + 1)) _ c.place-place.result.now.height _
          (after_low list c.args.from n later (omega (arith, more list is))) rises.0 (omega (arith, rises))
          (place_legal list n (omega (arith, later)) (omega (arith, more list is))).1
          (c.loop-place.invariant.height list is) next (omega (arith, ints, clamps, c.max-height.ensures));
      depth = λ list is.
          let rises = rising_places list n (n + 1) (omega (arith, later)) (omega arith) (more list is) in
          let next = (known list is).depth
          ∙ ap (λ b. greatest_between depth_below_baseline list (after b) (position_of list (n + 1))) (begins_some list n (omega (arith, later))) in
          joined depth_below_baseline no_depth list (after (begins_at list c.args.from)) (position_of list n) (position_of list (n + 1)) _ c.place-place.result.now.depth _
          (after_low list c.args.from n later (omega (arith, more list is))) rises.0 (omega (arith, rises))
          (place_legal list n (omega (arith, later)) (omega (arith, more list is))).1
          (c.loop-place.invariant.depth list is) next (omega (arith, ints, clamps, c.max-depth.ensures));
      passed = λ list is to low last at. past list is to low last at (cases_eq n to);
    }
  where
    n : ℕ
    n = c.loop-place.number

    on : n + 1 < length c.args.self.now.places.items
    on = c.is_before.ensures.last c.loop-place-test.true

    later : c.args.from < n
    later = c.loop-place.invariant.later

    more : (list : List Node) → AreSizesOf list c.args.self.now → n + 1 ≤ length (legal_places list)
    more list is = omega (arith, on, ap length is.places, length-reverse c.args.self.now.places.items, count_sizes list)

    there : (list : List Node) → AreSizesOf list c.args.self.now → slice_get (reverse c.args.self.now.places.items) n ≡ Some c.place-place.result.now
    there list is = c.place-place.ensures

    known : (list : List Node) → AreSizesOf list c.args.self.now → IsSized list n c.place-place.result.now
    known list is = sized list n c.place-place.result.now (more list is) (ap (λ xs. slice_get xs n) (sym is.places) ∙ there list is)

    past :
        (list : List Node) → AreSizesOf list c.args.self.now → (to : ℕ) → c.args.from < to → to ≤ length (legal_places list)
        → c.args.position ≡ position_of list to → (n ≡ to) ⊎ (n ≢ to) → n + 1 ≤ to
    past list is to low last at (inl here) =
        let sizes = ap (λ (s : PlaceSizes). s.position)
        (sized_place list n c.place-place.result.now (omega (arith, later)) (omega (arith, here, last)) (ap (λ xs. slice_get xs n) (sym is.places) ∙ there list is)) in
        let before = c.is_before.ensures.before c.loop-place-test.true c.place-place.result.now (there list is) in
        absurd (omega (arith, before, sizes, at, ap (position_of list) here))
    past list is to low last at (inr other) = omega (arith, other, c.loop-place.invariant.passed list is to low last at)

pub returns : goal.returns
returns c list is to low last at =
    record {
      to = here;
      begin = omega (
        arith,
        known.begin,
        end,
        begin_index list (begins_at list c.args.from) (position_of list to) low_enough (place_legal list to (omega (arith, low)) last).0,
      );
      height = c.loop-place.invariant.height list is
          ∙ ap (λ k. greatest_between height_above_baseline list (after (begins_at list c.args.from)) (position_of list k)) here
          ∙ front_greatest height_above_baseline no_height list (begins_at list c.args.from) (position_of list to) low_enough;
      depth = c.loop-place.invariant.depth list is
          ∙ ap (λ k. greatest_between depth_below_baseline list (after (begins_at list c.args.from)) (position_of list k)) here
          ∙ front_greatest depth_below_baseline no_depth list (begins_at list c.args.from) (position_of list to) low_enough;
    }
  where
    count : length c.args.self.now.places.items ≡ length (legal_places list) + 1
    count = omega (arith, ap length is.places, length-reverse c.args.self.now.places.items, count_sizes list)

    low_enough : after (begins_at list c.args.from) ≤ position_of list to
    low_enough = after_low list c.args.from to low last

    known : IsSized list c.args.from c.place-first.result.now
    known =
        sized list c.args.from c.place-first.result.now (omega (arith, low, last)) (ap (λ xs. slice_get xs c.args.from) (sym is.places) ∙ c.place-first.ensures)

    cases : (c.loop-place.number < to) ⊎ (to ≤ c.loop-place.number) → c.loop-place.number ≡ to
    cases (inr reached) = omega (arith, reached, c.loop-place.invariant.passed list is to low last at)
    cases (inl before) =
        let n = c.loop-place.number in
        let p = get_at (reverse c.args.self.now.places.items) n (omega (arith, length-reverse c.args.self.now.places.items, before, last, count)) in
        let sizes = ap (λ (s : PlaceSizes). s.position)
        (sized_place list n p.0 (omega (arith, c.loop-place.invariant.later)) (omega (arith, before, last)) (ap (λ xs. slice_get xs n) (sym is.places) ∙ p.1)) in
        let late = c.is_before.ensures.after c.loop-place-test.false (omega (arith, before, last, count)) p.0 p.1 in
        let rises = rising_places list n to (omega (arith, c.loop-place.invariant.later)) before last in
        absurd (omega (arith, late, sizes, at, rises.0))

    here : c.loop-place.number ≡ to
    here = cases (cases_lt c.loop-place.number to)

    end : c.place.result.now.position ≡ position_of list to
    end =
        let n = c.loop-place.number in
        ap (λ (s : PlaceSizes). s.position)
        (sized_place list n c.place.result.now (omega (arith, c.loop-place.invariant.later)) (omega (arith, here, last))
        (ap (λ xs. slice_get xs n) (sym is.places) ∙ c.place.ensures))
        ∙ ap (position_of list) here
