use Rattle.std.proofs.Common.{◌≡◌}
use Rattle.pack_core.specs.Boxes.{vtop_result}
use Rattle.pack_core.proofs.Packing.{boxed-vtop, vtopped-ok, vtopped-fits, vtopped-back, vtopped-edge}
use Rattle.pack_core.proofs.pack.vtop.Goals as goal

pub returns : goal.returns
returns c =
    let e : c.boxed_list.result ≡ vtop_result c.args.target c.args.depth_limit c.args.list = cc (c.boxed_list.ensures, boxed-vtop c.args.target c.args.depth_limit c.args.list, c.vtop_shell_of-shell.ensures, c.as_slice.ensures.nodes) in
    record {
      value = e;
      ok = rw e (vtopped-ok c.args.target c.args.depth_limit c.args.list);
      fits = rw e (vtopped-fits c.args.target c.args.depth_limit c.args.list);
      list_returned = rw e (vtopped-back c.args.target c.args.depth_limit c.args.list);
      edge = rw e (vtopped-edge c.args.target c.args.depth_limit c.args.list);
    }
