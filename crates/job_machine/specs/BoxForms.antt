-- The forms of boxes (TeX: The Program, part 47).
use Rattle.node_core.specs.declared.tree.Kind.{Kind}
use Rattle.node_core.specs.declared.tree.Kind.TheVariants.{Horizontal, Vertical}
use Rattle.job_machine.specs.declared.command.BoxForm.{BoxForm}
use Rattle.job_machine.specs.declared.command.BoxForm.TheVariants.{Hbox, Vbox, Vtop}

-- The direction of the list of a box.
abbrev pub kind_of : BoxForm → Kind
kind_of Hbox = Horizontal
kind_of Vbox = Vertical
kind_of Vtop = Vertical
