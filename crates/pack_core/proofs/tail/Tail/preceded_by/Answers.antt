use Rattle.std.proofs.Common.{◌∙◌, ◌+◌, [], length, length-append, arith, sym}
use Rattle.pack_core.proofs.Downward.{gone-more}
use Rattle.pack_core.proofs.Composed.{sizeless-then, sizeless-else}
use Rattle.pack_core.proofs.tail.Tail.preceded_by.Goals as goal
use Rattle.pack_core.proofs.tail.Tail.preceded_by.Goals.{then-self, else-self}

pub followed_by-requires : goal.followed_by-requires
followed_by-requires c = gone-more 0 1 c.new.result (omega arith) c.new.ensures.bound

pub above-requires-clause-small : goal.above-requires-clause-small
above-requires-clause-small c =
    gone-more (0 + length c.args.nodes.now) _ c.followed_by.result (omega (arith, c.requires.list_bounded)) (c.followed_by.ensures.count_bounded 0 c.new.ensures.bound)

pub returns : goal.returns
returns c = λ after is. record {
  measures = c.above.ensures.value c.args.nodes.now after (c.followed_by.ensures.value [] c.new.ensures.value) is;
  sizeless =
      elim c.if-self.branch [
        | then-self w ↦ w.result-is ∙ w.are_sizeless.ensures ∙ sizeless-then c.args.nodes.now after (sym is.sizeless ∙ w.if-self.true)
        | else-self w ↦ w.result-is ∙ w.if-self.false ∙ sizeless-else c.args.nodes.now after (sym is.sizeless ∙ w.if-self.false)
      ];
  small =
      gone-more (0 + length c.args.nodes.now + length after) _ c.above.result (omega (arith, length-append c.args.nodes.now after))
      (c.above.ensures.bound (0 + length c.args.nodes.now) (length after) (c.followed_by.ensures.count_bounded 0 c.new.ensures.bound) is.small);
}
