-- The first line with its line feed, and the last one without.
use Rattle.std.proofs.Common.{◌≡◌, ◌<◌, ◌∷◌, ℕ, List, [], length, refl, ◌∙◌, arith}
use Rattle.std.proofs.lemmas.List.{take_rest, drop-drop}
use Rattle.boxglue_script.proofs.LineLemmas.{lines-first, lines-last, splits_first, splits_last}
use Rattle.boxglue_script.proofs.lines.first_line.Goals as goal

pub returns-in-empty-clause-lines : goal.returns-in-empty-clause-lines
returns-in-empty-clause-lines c =
    let n = c.line_size.result in
    rw (c.split_at.ensures.front, c.split_at.ensures.back) (lines-last c.args.text.now n (omega arith) c.line_size.ensures.size (omega arith))

pub returns-in-len1-up-clause-lines : goal.returns-in-len1-up-clause-lines
returns-in-len1-up-clause-lines c =
    let n = c.line_size.result in
    let text = c.args.text.now in
    lines-first text n c.line_size.ensures.size (omega arith)
    ∙ (rw (take_rest c.split_at.result.1.now 1, c.split_at.ensures.back, drop-drop 1 n text, c.without_return.ensures, c.split_at.ensures.front) refl)

none_left : (bytes : List ℕ) → length bytes < 1 → bytes ≡ []
none_left [] few = refl
none_left (byte ∷ bytes) few = absurd (omega (arith, few))

pub returns-in-empty-clause-split : goal.returns-in-empty-clause-split
returns-in-empty-clause-split c =
    splits_last c.args.text.now c.split_at.result.0.now c.split_at.result.1.now (none_left c.split_at.result.1.now c.in-empty.len_below) (returns-in-empty-clause-lines c)

pub returns-in-len1-up-clause-split : goal.returns-in-len1-up-clause-split
returns-in-len1-up-clause-split c =
    let n = c.line_size.result in
    let text = c.args.text.now in
    splits_first text c.without_return.result.now _ n c.line_size.ensures.size (omega arith) (rw (take_rest c.split_at.result.1.now 1, c.split_at.ensures.back, drop-drop 1 n text) refl)
    (returns-in-len1-up-clause-lines c)
