-- A step of the loop: the word at the index fits, and its dimension is appended.
use Rattle.std.proofs.Common.{◌≡◌, ◌∙◌, pos, get_or, w32, ap, refl, rules, SFits}
use Rattle.std.proofs.lemmas.Int.{to_z-of_z}
use Rattle.std.proofs.lemmas.List.{map_more}
use Rattle.tfm_core.specs.Scaling.{scaled}
use Rattle.tfm_core.proofs.SizeLemmas.{dimen-at}
use Rattle.tfm_core.proofs.sized_file.dimensions.Goals as goal

pub dimension-requires : goal.dimension-requires
dimension-requires c =
    let x = get_or c.args.words.now c.loop-word.word-index (pos 0) in
    let fits : SFits w32 x = search rules in
    rw (to_z-of_z w32 x fits) (dimen-at c.args.size c.args.words.now c.loop-word.word-index (pos 0) c.requires c.loop-word-test.true)

pub loop-word-preserved : goal.loop-word-preserved
loop-word-preserved c =
    let x = get_or c.args.words.now c.loop-word.word-index (pos 0) in
    let fits : SFits w32 x = search rules in
    let here : c.dimension.result ≡ scaled c.args.size x = c.dimension.ensures ∙ ap (scaled c.args.size) (to_z-of_z w32 x fits) in
    rw (c.in_ok-push.ensures.items, here, c.loop-word.invariant, map_more (scaled c.args.size) c.args.words.now c.loop-word.word-index (pos 0) c.loop-word-test.true) refl
