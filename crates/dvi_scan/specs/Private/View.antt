-- The rest of `View`, which no public contract reaches (own).
use Rattle.std.specs.Prelude.{[], ◌∷◌, List, Option, Some, None}
use Rattle.scaled_core.specs.Mark.{Mark}
use Rattle.dvi_scan.specs.declared.page.Mark.{Mark as PassMark}
use Rattle.dvi_scan.specs.View.{mark_of}

-- The mark of a value that is a mark or none (own).
abbrev pub marks_in : Option PassMark → List Mark
marks_in None = []
marks_in (Some m) = mark_of m ∷ []
