-- The rest of `PageMarks`, which no public contract reaches (own; the marks are DVItype's, 15 and 16).
use Rattle.std.specs.Prelude.{[], ◌∷◌, ◌++◌, ℕ, List}
use Rattle.std.specs.List.{flat_map}
use Rattle.dvi_ops.specs.Instruction.{Xxx, Instruction, Do}
use Rattle.dvi_scan.specs.Pass.{PassStateView, Between, Inside}
use Rattle.dvi_read.specs.PageMarks.{marks_of, text_in}
use Rattle.scaled_core.specs.Mark.{Mark}

-- The marks of the pages so far, in order.
abbrev pub marks_so_far : PassStateView → List Mark
marks_so_far (Between pages) = marks_of pages
marks_so_far (Inside pages counts marks stack s) = marks_of pages ++ marks

-- The texts of the specials among marks, in order.
abbrev pub texts_in : List Mark → List (List ℕ)
texts_in marks = flat_map text_in marks

-- The text of an instruction that puts a special, as a list of one or none.
abbrev pub text_put : Instruction → List (List ℕ)
text_put (Do (Xxx text)) = text ∷ []
text_put i = []
