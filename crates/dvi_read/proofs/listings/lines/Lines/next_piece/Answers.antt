-- The piece was empty before.
use Rattle.std.proofs.Common.{◌≡◌, ◌++◌, List, ℕ, vec_len, arith, ap, sym, ◌∙◌}
use Rattle.std.proofs.lemmas.Bool.{eqb-true}
use Rattle.dvi_read.proofs.LineLemmas.{is_true, no_items}
use Rattle.dvi_read.proofs.AgainLemmas.{same_lines}
use Rattle.dvi_read.proofs.listings.lines.Lines.next_piece.Goals as goal

pub returns-clause-all : goal.returns-clause-all
returns-clause-all c = λ text first.
    let (rest, same, remaining) = c.fill.ensures.all text first in
    (rest, sym (same ∙ ap (λ (bs : List ℕ). bs ++ text) c.clear.ensures.items), remaining)

pub returns-clause-none : goal.returns-clause-none
returns-clause-none c = λ empty text first.
    let size : vec_len c.fill.new.text ≡ 0 = eqb-true (vec_len c.fill.new.text) 0 (sym c.is_empty.ensures ∙ is_true c.is_empty.result empty) in
    no_items text
    (λ some.
    let longer = c.fill.ensures.filled text first (omega (arith, c.clear.ensures.len, c.clear.ensures.capacity, c.requires.space)) some in
    omega (arith, longer, size))

pub returns-clause-all_lines : goal.returns-clause-all_lines
returns-clause-all_lines c = λ text all. same_lines c.args.self.now c.fill.new.self text c.fill.ensures.same all
