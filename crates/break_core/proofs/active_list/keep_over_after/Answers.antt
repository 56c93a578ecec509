use Rattle.std.proofs.Common.{◌≡◌, ◌∙◌, to_z, of_z, w64, Some, ap, set, sym, arith}
use Rattle.std.proofs.lemmas.Int.{ints}
use Rattle.std.specs.Prelude.{ℤ}
use Rattle.break_lines.proofs.Entries.{set-get_same}
use Rattle.break_lines.specs.Sizes.{least_width}
use Rattle.break_core.specs.declared.active_list.Live.{Live}
use Rattle.break_core.specs.Private.LeftOut.{kept_over}
use Rattle.break_core.proofs.Lives.{same_over}
use Rattle.break_core.proofs.active_list.keep_over_after.Goals as goal

pub returns-else-overfull : goal.returns-else-overfull
returns-else-overfull c = λ live at.
    let width = least_width c.args.sums.now in
    let kept : Live = record { group = live.group; over = kept_over live.over c.args.overfull width; best = live.best } in
    sym (set-get_same c.args.lives.now.items c.args.index kept
    (at ∙ ap (λ o. Some (record { group = live.group; over = o; best = live.best })) (sym (same_over live.over c.args.overfull width c.if-overfull.false))))

pub returns-then-overfull : goal.returns-then-overfull
returns-then-overfull c = λ live at.
    let width : to_z w64 (of_z w64 c.least_width.result) ≡ least_width c.args.sums.now = omega (arith, ints, c.least_width.ensures) in
    c.keep_over.ensures live at
    ∙ ap (λ (x : ℤ). set c.args.lives.now.items c.args.index
    (record { group = live.group; over = kept_over live.over c.args.overfull x; best = live.best })) width
