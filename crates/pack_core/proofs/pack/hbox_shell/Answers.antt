use Rattle.pack_core.proofs.pack.hbox_shell.Goals as goal

pub returns : goal.returns
returns c =
    let is = c.of-across.ensures in
    c.measured_shell.ensures c.args.nodes.now
    (record { width = is.width; height = is.height; depth = is.depth; stretch = is.stretch; shrink = is.shrink }) c.is_empty.ensures
