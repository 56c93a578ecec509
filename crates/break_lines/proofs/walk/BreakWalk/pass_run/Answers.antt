use Rattle.std.proofs.Common.{◌≡◌, ◌∙◌, ◌+◌, ◌-◌, ◌<◌, ◌+ℤ◌, length, to_z, of_z, w32, w64, sym, subst, arith, rules, Some}
use Rattle.std.specs.Int.{int_max}
use Rattle.std.proofs.lemmas.Int.{ints, clamps}
use Rattle.pack_core.specs.Items.{height_above_baseline, depth_below_baseline}
use Rattle.break_lines.specs.Private.Marks.{HasMeasuredFrom, sizes_in_run}
use Rattle.break_lines.specs.Private.SmallMarks.{IsPrefix}
use Rattle.break_lines.proofs.Amounts.{prefix_wider}
use Rattle.break_lines.proofs.Smalls.{wide}
use Rattle.break_lines.proofs.KeptSteps.{one_kept}
use Rattle.break_lines.proofs.Walks.{run_kept, run_sums, run_plain, run_height, run_depth}
use Rattle.break_lines.proofs.walk.BreakWalk.pass_run.Goals as goal

pub loop-index-preserved : goal.loop-index-preserved
loop-index-preserved c =
    let list = c.args.nodes.now in
    let i = c.loop-index.index - 1 in
    let x = c.index-nodes-index.result in
    let w = c.in-Some.more in
    let before = c.args.self.now in
    let high = to_z w32 c.loop-index.height-bits in
    let deep = to_z w32 c.loop-index.depth-bits in
    let walk = record before { sums = record before.sums { width = to_z w64 c.loop-index.width-bits }; begin = c.loop-index.begin; height = high; depth = deep } in
    let here : i + 1 ≡ c.loop-index.index = omega arith in
    let within : i < length list = omega (arith, c.requires.end_bounded, c.loop-index.invariant.within) in
    let old = subst (λ k. HasMeasuredFrom list k walk) (sym here) c.loop-index.invariant.walked in
    let all = wide (length list - (i + 1)) walk.sums (omega (arith, c.requires.list_bounded)) old.small_sums in
    let is : sizes_in_run x ≡ Some w = sym c.in-Some.ensures.value in
    let fits : to_z w64 (of_z w64 (walk.sums.width +ℤ to_z w64 (of_z w64 w.width))) ≡ walk.sums.width +ℤ w.width = omega (arith, ints, all.width, c.in-Some.ensures.width_bounded) in
    let one : length list - (i + 1) + 1 ≡ length list - i = omega arith in
    let sums = record walk.sums { width = walk.sums.width +ℤ w.width } in
    let small : IsPrefix (length list - i) sums = subst (λ n. IsPrefix n sums) one (prefix_wider (length list - (i + 1)) walk.sums w.width old.small_sums c.in-Some.ensures.width_bounded) in
    let height : to_z w32 (of_z w32 c.max-height.result) ≡ int_max high (height_above_baseline x) = omega (arith, ints, clamps, c.max-height.ensures, run_height x w is) in
    let depth : to_z w32 (of_z w32 c.max-depth.result) ≡ int_max deep (depth_below_baseline x) = omega (arith, ints, clamps, c.max-depth.ensures, run_depth x w is) in
    record {
      within = omega (arith, c.loop-index.invariant.within);
      walked = subst (λ z. HasMeasuredFrom list i (record walk { sums = record walk.sums { width = z }; begin = i; height = to_z w32 (of_z w32 c.max-height.result); depth = to_z w32 (of_z w32 c.max-depth.result) })) (sym fits)
          (one_kept list i x walk sums (to_z w32 (of_z w32 c.max-height.result)) (to_z w32 (of_z w32 c.max-depth.result)) before.plain within c.index-nodes-index.is (run_kept x w is)
          (record { sums = run_sums x w walk.sums is; height = height; depth = depth; plain = λ on. on; here = λ on. run_plain x w is }) small old);
    }
