use Rattle.std.proofs.Common.{◌≡◌}
use Rattle.pack_core.specs.Boxes.{hpack_result}
use Rattle.pack_core.proofs.Packing.{boxed-hbox, hpacked-ok, hpacked-fits, hpacked-back, hpacked-edge}
use Rattle.pack_core.proofs.pack.hpack.Goals as goal

pub returns : goal.returns
returns c =
    let e : c.boxed_list.result ≡ hpack_result c.args.target c.args.list = cc (c.boxed_list.ensures, boxed-hbox c.args.target c.args.list, c.hbox_shell-shell.ensures, c.as_slice.ensures.nodes) in
    record {
      value = e;
      ok = rw e (hpacked-ok c.args.target c.args.list);
      fits = rw e (hpacked-fits c.args.target c.args.list);
      list_returned = rw e (hpacked-back c.args.target c.args.list);
      edge = rw e (hpacked-edge c.args.target c.args.list);
    }
