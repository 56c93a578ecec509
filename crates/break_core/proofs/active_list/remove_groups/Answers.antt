use Rattle.std.proofs.Common.{◌≡◌, ◌∙◌, ◌-◌, ◌++◌, length, take, drop, ap, sym, rules, arith}
use Rattle.std.specs.Prelude.{vec_len}
use Rattle.std.proofs.lemmas.List.{take-append-drop}
use Rattle.break_core.proofs.Lives.{copied_down}
use Rattle.break_core.proofs.active_list.remove_groups.Goals as goal

pub returns-then-kept-next : goal.returns-then-kept-next
returns-then-kept-next c =
    let old = c.args.lives.now.items in
    let same : c.args.kept ≡ c.args.next = omega arith in
    sym (take-append-drop c.args.kept old) ∙ ap (λ n. take c.args.kept old ++ drop n old) same

pub returns : goal.returns
returns c =
    let old = c.args.lives.now.items in
    let long : c.len.result ≡ length old = search rules in
    let size : vec_len c.args.lives.now ≡ length old = search rules in
    let n = vec_len c.args.lives.now - c.args.next in
    let remaining = c.len.result - (c.args.next - c.args.kept) in
    c.truncate.ensures.items
    ∙ ap (take remaining) c.copy_within.ensures.items
    ∙ copied_down old c.args.kept c.args.next n remaining (omega (arith, c.requires.kept_bounded)) (omega (arith, c.requires.next_bounded))
    (omega (arith, c.requires.next_bounded, size)) (omega (arith, c.requires.kept_bounded, c.requires.next_bounded, size, long))
