-- The words before a faulty one are pairs of names that differ.
use Rattle.std.proofs.Common.{map, take}
use Rattle.boxglue_words.specs.Pairs.{IsFaulty}
use Rattle.boxglue_words.proofs.PairLemmas.{first_fault, handed_on, map_split, no_fonts}
use Rattle.boxglue_words.proofs.pairs.read_pairs.Goals as goal

pub loop-word-init : goal.loop-word-init
loop-word-init c = rw c.new-fonts.ensures.items no_fonts

pub returns-in_err-push_pair-clause-err : goal.returns-in_err-push_pair-clause-err
returns-in_err-push_pair-clause-err c =
    let words = c.args.words.now in
    let i = c.loop-word.word-index in
    let before = map (λ word. word.now) (take i words) in
    handed_on (IsFaulty (map (λ word. word.now) words)) c.from_residual.result c.in_err-push_pair.field-0.0 c.from_residual.ensures.1
    (first_fault _ before _ _ _ (map_split (λ word. word.now) words i _ c.loop-word-test.true)
    c.loop-word.invariant.pairs (c.in_err-push_pair.ensures.err before c.loop-word.invariant))
