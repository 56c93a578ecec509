use Rattle.std.proofs.Common.{◌≡◌, ◌∙◌, ◌++◌, [], ◌∷◌, length, reverse, refl, ap, sym, subst, arith}
use Rattle.std.proofs.lemmas.Option.{slice_get_read}
use Rattle.std.proofs.lemmas.List.{reverse-reverse}
use Rattle.break_lines.specs.Private.Tables.{AreEndsUpTo, AreEndsOf}
use Rattle.break_lines.proofs.Bellman.{read_none, read_more, read_all}
use Rattle.break_lines.proofs.answer.read_back.Goals as goal

pub loop-index-init : goal.loop-index-init
loop-index-init c =
    record {
      within = c.requires.index_bounded;
      read = subst (λ xs. AreEndsUpTo c.args.table.now c.args.at c.args.at xs) (sym c.in_ok-ends.ensures.items) (read_none c.args.table.now c.args.at);
    }

pub loop-index-smaller : goal.loop-index-smaller
loop-index-smaller c =
    let table = c.args.table.now in
    let present = slice_get_read table (length table) c.loop-index.index c.index-table-index.result refl c.loop-index.invariant.within
    c.index-table-index.is in
    let best = c.requires.table.2.best c.loop-index.index c.index-table-index.result (omega (arith, c.loop-index-test.true)) present in
    omega (arith, best.earlier, c.index-index.ensures)

pub loop-index-preserved : goal.loop-index-preserved
loop-index-preserved c =
    let table = c.args.table.now in
    let e = c.index-table-index.result in
    let present = slice_get_read table (length table) c.loop-index.index e refl c.loop-index.invariant.within c.index-table-index.is in
    let best = c.requires.table.2.best c.loop-index.index e (omega (arith, c.loop-index-test.true)) present in
    let more = read_more table c.args.at c.loop-index.index e c.loop-index.ends.items (omega (arith, c.loop-index-test.true)) present
    c.loop-index.invariant.read in
    let items : c.push.new.self.items ≡ c.loop-index.ends.items ++ e.end ∷ [] =
    c.in_ok-push.ensures.items ∙ ap (λ s. c.loop-index.ends.items ++ s ∷ []) c.end.ensures.end in
    record {
      within = omega (arith, best.earlier, c.index-index.ensures, c.loop-index.invariant.within);
      read = subst (λ k. AreEndsUpTo table c.args.at k c.push.new.self.items) (sym c.index-index.ensures)
          (subst (λ xs. AreEndsUpTo table c.args.at e.index xs) (sym items) more);
    }

pub returns : goal.returns
returns c =
    let table = c.args.table.now in
    let none : c.loop-index.index ≡ 0 = omega (arith, c.loop-index-test.false) in
    let all = read_all table c.args.at c.loop-index.ends.items (subst (λ k. AreEndsUpTo table c.args.at k c.loop-index.ends.items) none c.loop-index.invariant.read) in
    let back : reverse c.reverse.new.self.items ≡ c.loop-index.ends.items = ap reverse c.reverse.ensures.items ∙ reverse-reverse c.loop-index.ends.items in
    subst (λ xs. AreEndsOf table c.args.at xs) (sym back) all
