use Rattle.std.proofs.Common.{◌∙◌, Some, ap, sym}
use Rattle.break_lines.proofs.Entries.{set-get_same}
use Rattle.break_core.specs.declared.active_list.Live.{Live}
use Rattle.break_core.specs.Private.LeftOut.{kept_over}
use Rattle.break_core.proofs.Lives.{same_over}
use Rattle.break_core.proofs.active_list.keep_over.Goals as goal

pub returns-else-overfull : goal.returns-else-overfull
returns-else-overfull c = λ live at.
    let kept : Live = record { group = live.group; over = kept_over live.over c.args.overfull c.args.width; best = live.best } in
    sym (set-get_same c.args.lives.now.items c.args.index kept
    (at ∙ ap (λ o. Some (record { group = live.group; over = o; best = live.best })) (sym (same_over live.over c.args.overfull c.args.width c.if-overfull.false))))
