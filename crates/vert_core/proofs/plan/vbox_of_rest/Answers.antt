use Rattle.std.proofs.Common.{◌≡◌, ◌++◌, ◌∷◌, ◌-◌, List, length, take, ap, subst}
use Rattle.std.specs.List.{list_all}
use Rattle.std.specs.Option.{is_some, IfSome}
use Rattle.scaled_core.specs.Dimensions.{fits}
use Rattle.node_core.specs.declared.tree.Node.{Node}
use Rattle.node_core.specs.declared.tree.Node.TheVariants as nodes
use Rattle.pack_core.specs.declared.pack.Target.TheVariants.{Natural}
use Rattle.pack_core.specs.Boxes.{some_if, vbox_numbers, vbox_shell}
use Rattle.vert_core.specs.Split.{no_limit}
use Rattle.vert_core.specs.Tails.{last_items}
use Rattle.vert_core.proofs.Ends.{end-joined, end-small}
use Rattle.vert_core.proofs.plan.vbox_of_rest.Goals as goal

pub vbox_below-requires-clause-tail_small : goal.vbox_below-requires-clause-tail_small
vbox_below-requires-clause-tail_small c =
    end-small c.known_end-end.result.count c.args.left.now c.known_end-end.result.tail c.requires.list_bounded c.known_end-end.ensures.measures

pub returns : goal.returns
returns c =
    let n = c.known_end-end.result.count in
    let left = c.args.left.now in
    let whole : nodes.Glue c.args.glue.now ∷ take (length left - n) left ++ last_items n left ≡ nodes.Glue c.args.glue.now ∷ left =
    ap (λ (xs : List Node). nodes.Glue c.args.glue.now ∷ xs) (end-joined n left) in
    record {
      value =
          subst (λ (xs : List Node). c.vbox_below.result ≡ some_if (list_all fits (vbox_numbers Natural no_limit xs)) (vbox_shell Natural no_limit xs)) whole
          (c.vbox_below.ensures.value (last_items n left) c.known_end-end.ensures.measures);
      fits =
          subst (λ (xs : List Node). is_some c.vbox_below.result ≡ list_all fits (vbox_numbers Natural no_limit xs)) whole
          (c.vbox_below.ensures.fits (last_items n left) c.known_end-end.ensures.measures);
      shell =
          subst (λ (xs : List Node). IfSome c.vbox_below.result (λ shell. shell ≡ vbox_shell Natural no_limit xs)) whole
          (c.vbox_below.ensures.shell (last_items n left) c.known_end-end.ensures.measures);
    }
