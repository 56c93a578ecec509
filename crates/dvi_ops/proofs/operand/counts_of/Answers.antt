use Rattle.dvi_ops.proofs.Numbers.{read_words}
use Rattle.dvi_ops.proofs.operand.counts_of.Goals as goal

pub returns : goal.returns
returns c =
    read_words 10 c.args.operand.now c.read_i32_into.new.dst c.read_i32_into.auto.dst (λ k. (c.type_inv.operand k).fits) c.read_i32_into.ensures
