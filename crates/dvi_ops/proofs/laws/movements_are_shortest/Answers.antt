use Rattle.dvi_ops.specs.Instruction.{Do, Move}
use Rattle.dvi_ops.proofs.Shortest as lemmas
use Rattle.dvi_ops.proofs.laws.movements_are_shortest.Goals as goal

pub returns : goal.returns
returns c = λ axis step bytes small says. lemmas.written_is_shortest (Do (Move axis step)) bytes tt small says
