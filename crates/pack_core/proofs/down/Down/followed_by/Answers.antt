use Rattle.std.proofs.Common.{◌+◌, ◌++◌, List, take, append-nil, arith, subst, sym}
use Rattle.std.proofs.lemmas.List.{take_all}
use Rattle.node_core.specs.declared.tree.Node.{Node}
use Rattle.pack_core.specs.Tails.{AreMeasuresOf}
use Rattle.pack_core.proofs.Downward.{gone-more, measures-more, next-item}
use Rattle.pack_core.proofs.down.Down.followed_by.Goals as goal

pub loop-node-init : goal.loop-node-init
loop-node-init c = record {
  value = λ before are. subst (λ (xs : List Node). AreMeasuresOf xs c.args.self) (sym (append-nil before)) are;
  bound = λ n small. gone-more n (n + 0) c.args.self (omega arith) small;
}

pub pass-requires : goal.pass-requires
pass-requires c = gone-more (1 + c.loop-node.node-index) _ c.loop-node.down (omega arith) (c.loop-node.invariant.bound 1 c.requires)

pub loop-node-preserved : goal.loop-node-preserved
loop-node-preserved c =
    let i = c.loop-node.node-index in
    let x = c.node-item.result in
    record {
      value = λ before are.
          subst (λ (xs : List Node). AreMeasuresOf xs c.pass.new.self) (next-item before c.args.nodes.now i x c.loop-node-test.true c.node-item.is)
          (measures-more (before ++ take i c.args.nodes.now) x c.loop-node.down c.pass.new.self (c.loop-node.invariant.value before are)
          c.pass.ensures.advance c.pass.ensures.breadth c.pass.ensures.pending_depth c.pass.ensures.stretch c.pass.ensures.shrink);
      bound = λ n small. gone-more (n + i + 1) (n + (i + 1)) c.pass.new.self (omega arith) (c.pass.ensures.bound (n + i) (c.loop-node.invariant.bound n small));
    }

pub returns-clause-value : goal.returns-clause-value
returns-clause-value c = λ before are.
    subst (λ (xs : List Node). AreMeasuresOf (before ++ xs) c.loop-node.down) (take_all c.loop-node.node-index c.args.nodes.now c.loop-node-test.false)
    (c.loop-node.invariant.value before are)

pub returns-clause-bound : goal.returns-clause-bound
returns-clause-bound c = gone-more (1 + c.loop-node.node-index) _ c.loop-node.down (omega arith) (c.loop-node.invariant.bound 1 c.requires)

pub returns-clause-count_bounded : goal.returns-clause-count_bounded
returns-clause-count_bounded c = λ n small.
    gone-more (n + c.loop-node.node-index) _ c.loop-node.down (omega arith) (c.loop-node.invariant.bound n small)
