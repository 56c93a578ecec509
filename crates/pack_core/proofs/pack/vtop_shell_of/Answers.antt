use Rattle.pack_core.proofs.Steps.{vtop-of}
use Rattle.pack_core.proofs.pack.vtop_shell_of.Goals as goal

pub returns : goal.returns
returns c =
    vtop-of c.args.target c.args.limit c.args.nodes.now c.vbox_shell-shell.result c.first_height-height.result c.with_height.result
    c.vbox_shell-shell.ensures.value c.first_height-height.ensures c.with_height.ensures.height c.with_height.ensures.none c.with_height.ensures.value
