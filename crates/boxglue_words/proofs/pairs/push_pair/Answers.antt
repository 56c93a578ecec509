-- The fonts with the one of this word; or the word whose name is there.
use Rattle.std.proofs.Common.{◌∙◌, sym}
use Rattle.boxglue_words.specs.Pairs.{name_of}
use Rattle.boxglue_words.proofs.PairLemmas.{fonts_push, same_names}
use Rattle.boxglue_words.proofs.pairs.push_pair.Goals as goal

pub returns-then-is_named-clause-err : goal.returns-then-is_named-clause-err
returns-then-is_named-clause-err c = λ before fonts.
    let ok = c.in_ok-parts.ensures.ok in
    let there = rw (ok.1, c.deref.ensures.value) at c.is_named.ensures in
    (ok.0, ok.1, sym (same_names before c.args.fonts.now.items (name_of c.args.word.now) fonts) ∙ (sym there ∙ c.if-is_named.true))

pub returns-clause-ok : goal.returns-clause-ok
returns-clause-ok c = λ before fonts.
    let ok = c.in_ok-parts.ensures.ok in
    let there = rw (ok.1, c.deref.ensures.value) at c.is_named.ensures in
    rw c.in_ok-push.ensures.items
    (fonts_push before c.args.fonts.now.items c.args.word.now c.in_ok-parts.parts.font fonts ok.0 ok.2 ok.3 (sym there ∙ c.if-is_named.false))
