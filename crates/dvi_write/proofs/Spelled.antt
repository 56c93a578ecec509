-- One of the instructions that can be spelled.
use Rattle.std.proofs.Common.{ℕ, zero, suc, ◌<◌, List, [], ◌∷◌, length, map, get_or, arith}
use Rattle.std.specs.List.{AllByRecursion}
use Rattle.dvi_ops.specs.declared.op.Op.{Op}
use Rattle.dvi_ops.specs.Spelling.{HasSpelling}
use Rattle.dvi_ops.specs.View.{view}

pub spelled_at : (xs : List Op) (i : ℕ) (d : Op) → AllByRecursion HasSpelling (map view xs) → i < length xs → HasSpelling (view (get_or xs i d))
spelled_at [] i d all within = absurd (omega arith)
spelled_at (x ∷ xs) zero d all within = all.0
spelled_at (x ∷ xs) (suc i) d all within = spelled_at xs i d all.1 (omega arith)
