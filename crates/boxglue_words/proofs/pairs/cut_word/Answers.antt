-- A word without `=` is no pair.
use Rattle.std.proofs.Common.{◌≡◌, refl, length, true, arith}
use Rattle.std.specs.List.{list_any, position_or_len}
use Rattle.boxglue_words.specs.Pairs.{is_equals}
use Rattle.boxglue_words.proofs.PairLemmas.{lacks_equals}
use Rattle.boxglue_words.proofs.pairs.cut_word.Goals as goal

pub returns-in_default-clause-err : goal.returns-in_default-clause-err
returns-in_default-clause-err c =
    let whole : position_or_len is_equals c.args.word.now ≡ length c.args.word.now = c.in_default.ensures.byte (omega arith) (λ w o f. f) in
    let lacks = lacks_equals c.args.word.now whole in
    (refl, λ pair. let has : list_any is_equals c.args.word.now ≡ true = pair.cut in cc)
