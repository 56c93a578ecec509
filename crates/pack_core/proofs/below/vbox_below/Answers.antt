use Rattle.std.proofs.Common.{◌≡◌, ◌∙◌, ◌+◌, ◌==◌, List, [], ◌∷◌, ◌++◌, false, length, ap, arith}
use Rattle.std.specs.List.{list_all}
use Rattle.std.specs.Option.{is_some}
use Rattle.std.proofs.lemmas.Bool.Decides.{nat_tests}
use Rattle.scaled_core.specs.Dimensions.{fits}
use Rattle.node_core.specs.Nodes.{max_nodes}
use Rattle.node_core.specs.declared.tree.Node.{Node}
use Rattle.node_core.specs.declared.tree.Node.TheVariants as nodes
use Rattle.pack_core.specs.declared.pack.Target.TheVariants.{Natural}
use Rattle.pack_core.specs.Boxes.{some_if, vbox_numbers, vbox_shell}
use Rattle.pack_core.specs.Tails.{IsTail}
use Rattle.pack_core.proofs.Downward.{gone-more}
use Rattle.pack_core.proofs.Steps.{some_if-is_some, some_if-value}
use Rattle.pack_core.proofs.below.vbox_below.Goals as goal

pub above-down-requires-clause-small : goal.above-down-requires-clause-small
above-down-requires-clause-small c =
    gone-more (1 + length c.args.nodes.now) _ c.followed_by.result (omega (arith, c.requires.list_bounded)) (c.followed_by.ensures.count_bounded 1 c.of_glue.ensures.bound)

pub vertical_shell-requires : goal.vertical_shell-requires
vertical_shell-requires c =
    gone-more (1 + length c.args.nodes.now + max_nodes) _ c.above-down.result (omega (arith, c.requires.list_bounded))
    (c.above-down.ensures.bound (1 + length c.args.nodes.now) max_nodes (c.followed_by.ensures.count_bounded 1 c.of_glue.ensures.bound) c.requires.tail_small)

pub returns : goal.returns
returns c =
    let above : List Node = nodes.Glue c.args.glue.now ∷ [] in
    let e : (after : List Node) → IsTail after c.args.tail.now
    → c.vertical_shell.result ≡ some_if (list_all fits (vbox_numbers Natural c.args.depth_limit (nodes.Glue c.args.glue.now ∷ c.args.nodes.now ++ after)))
    (vbox_shell Natural c.args.depth_limit (nodes.Glue c.args.glue.now ∷ c.args.nodes.now ++ after)) = λ after is.
    let all : List Node = nodes.Glue c.args.glue.now ∷ c.args.nodes.now ++ after in
    let filled : false ≡ (length all == 0) = grind (arith, nat_tests) in
    c.vertical_shell.ensures all
    (c.above-down.ensures.value (nodes.Glue c.args.glue.now ∷ c.args.nodes.now) after (c.followed_by.ensures.value above c.of_glue.ensures.value) is) filled in
    record {
      value = e;
      fits = λ after is. ap is_some (e after is) ∙ some_if-is_some _ _;
      shell = λ after is. rw (e after is) (some_if-value _ _);
    }
