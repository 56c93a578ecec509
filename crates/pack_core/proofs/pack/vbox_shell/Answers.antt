use Rattle.std.proofs.Common.{◌≡◌, ◌∙◌, [], ap}
use Rattle.std.specs.List.{list_all}
use Rattle.std.specs.Option.{is_some}
use Rattle.scaled_core.specs.Dimensions.{fits}
use Rattle.pack_core.specs.Boxes.{some_if, vbox_numbers, vbox_shell}
use Rattle.pack_core.proofs.Steps.{some_if-is_some, some_if-value}
use Rattle.pack_core.proofs.pack.vbox_shell.Goals as goal

pub returns : goal.returns
returns c =
    let e : c.vertical_shell.result ≡ some_if (list_all fits (vbox_numbers c.args.target c.args.depth_limit c.args.nodes.now)) (vbox_shell c.args.target c.args.depth_limit c.args.nodes.now) =
    c.vertical_shell.ensures c.args.nodes.now (c.followed_by-down.ensures.value [] c.new.ensures.value) c.is_empty.ensures in
    record {
      value = e;
      fits = ap is_some e ∙ some_if-is_some _ _;
      shell = rw e (some_if-value _ _);
    }
