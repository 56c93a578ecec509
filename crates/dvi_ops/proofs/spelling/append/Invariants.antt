use Rattle.std.proofs.Common.{◌≡◌, ◌++◌, take}
use Rattle.std.specs.List.{flat_map}
use Rattle.dvi_ops.proofs.spelling.append.Given as goal

-- The parts so far follow what was there before.
abbrev pub invariant-loop-part : goal.invariant-loop-part
invariant-loop-part l = l.out.items ≡ l.initial.out.items ++ flat_map (λ part. part.now) (take l.part-index l.parts)
