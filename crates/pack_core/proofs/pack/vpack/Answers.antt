use Rattle.std.proofs.Common.{◌≡◌}
use Rattle.pack_core.specs.Boxes.{vpack_result}
use Rattle.pack_core.proofs.Packing.{boxed-vbox, vpacked-ok, vpacked-fits, vpacked-back, vpacked-edge}
use Rattle.pack_core.proofs.pack.vpack.Goals as goal

pub returns : goal.returns
returns c =
    let e : c.boxed_list.result ≡ vpack_result c.args.target c.args.depth_limit c.args.list = cc (c.boxed_list.ensures, boxed-vbox c.args.target c.args.depth_limit c.args.list, c.vbox_shell-shell.ensures.value, c.as_slice.ensures.nodes) in
    record {
      value = e;
      ok = rw e (vpacked-ok c.args.target c.args.depth_limit c.args.list);
      fits = rw e (vpacked-fits c.args.target c.args.depth_limit c.args.list);
      list_returned = rw e (vpacked-back c.args.target c.args.depth_limit c.args.list);
      edge = rw e (vpacked-edge c.args.target c.args.depth_limit c.args.list);
    }
