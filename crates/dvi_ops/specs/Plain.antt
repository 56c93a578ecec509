-- Instructions that do not use the registers (own).
use Rattle.dvi_ops.specs.Instruction.{Set, Again, Move, Instruction, Do}

-- An instruction that neither sets nor reads w, x, y or z.
abbrev pub NamesNoRegister : Instruction → Type 0
NamesNoRegister (Do (Move axis (Set register z))) = ⊥
NamesNoRegister (Do (Move axis (Again register))) = ⊥
NamesNoRegister other = Unit {0}
