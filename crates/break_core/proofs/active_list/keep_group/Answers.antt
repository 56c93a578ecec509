use Rattle.std.proofs.Common.{◌≡◌, ◌∙◌, ◌+◌, ◌++◌, [], ◌∷◌, length, take, drop, set, refl, ap, sym, arith}
use Rattle.std.specs.Prelude.{slice_get}
use Rattle.std.proofs.lemmas.Bool.{cond-false}
use Rattle.std.proofs.lemmas.List.{take_more_set}
use Rattle.std.proofs.lemmas.Option.{same_Some, slice_get_read}
use Rattle.break_lines.proofs.Entries.{get_at, set-get_same, get-set_other}
use Rattle.break_core.proofs.Lives.{one_more}
use Rattle.break_core.proofs.active_list.keep_group.Goals.{then-kept-index, else-kept-index}
use Rattle.break_core.proofs.active_list.keep_group.Goals as goal

pub returns-clause-front : goal.returns-clause-front
returns-clause-front c = λ live at.
    let old = c.args.lives.now.list.items in
    let made : c.if-kept-index.lives.list.items ≡ set old c.args.kept live =
    elim c.if-kept-index.branch [
      | then-kept-index w ↦
          let read = slice_get_read old (length old) c.args.index w.index.result.now refl c.requires.index_bounded w.index.ensures in
          ap (λ v. v.list.items) w.lives-is ∙ ap (set old c.args.kept) (same_Some w.index.result.now live (sym read ∙ at))
      | else-kept-index w ↦
          let same : c.args.kept ≡ c.args.index = omega (arith, w.if-kept-index.false, c.requires.kept_bounded) in
          ap (λ v. v.list.items) w.lives-is ∙ sym (set-get_same old c.args.kept live (ap (slice_get old) same ∙ at))
    ] in
    let first = c.args.lives.now.first in
    let stays : c.if-kept-index.lives.first ≡ first =
    elim c.if-kept-index.branch [
      | then-kept-index w ↦ ap (λ v. v.first) w.lives-is
      | else-kept-index w ↦ ap (λ v. v.first) w.lives-is
    ] in
    let part = drop first (take c.args.kept old) in
    ap (λ n. drop n (take (c.args.kept + 1) c.if-kept-index.lives.list.items)) stays
    ∙ one_more first c.args.kept old (take (c.args.kept + 1) c.if-kept-index.lives.list.items) live c.requires.first_bounded
    (omega (arith, c.requires.kept_bounded, c.requires.index_bounded))
    (ap (take (c.args.kept + 1)) made ∙ take_more_set old c.args.kept live (omega (arith, c.requires.kept_bounded, c.requires.index_bounded)))
    ∙ sym (cond-false c.args.stopped part (part ++ live ∷ []) c.if-stopped.false)

pub returns-clause-rest : goal.returns-clause-rest
returns-clause-rest c = λ k after.
    let old = c.args.lives.now.list.items in
    let found = get_at old c.args.index c.requires.index_bounded in
    let live = found.0 in
    let at = found.1 in
    let made : c.if-kept-index.lives.list.items ≡ set old c.args.kept live =
    elim c.if-kept-index.branch [
      | then-kept-index w ↦
          let read = slice_get_read old (length old) c.args.index w.index.result.now refl c.requires.index_bounded w.index.ensures in
          ap (λ v. v.list.items) w.lives-is ∙ ap (set old c.args.kept) (same_Some w.index.result.now live (sym read ∙ at))
      | else-kept-index w ↦
          let same : c.args.kept ≡ c.args.index = omega (arith, w.if-kept-index.false, c.requires.kept_bounded) in
          ap (λ v. v.list.items) w.lives-is ∙ sym (set-get_same old c.args.kept live (ap (slice_get old) same ∙ at))
    ] in
    ap (λ xs. slice_get xs k) made ∙ get-set_other old c.args.kept k live (λ same. omega (arith, same))
