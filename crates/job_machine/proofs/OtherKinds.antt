-- Two kinds differ where they are not equal.
use Rattle.std.proofs.Common.{◌≡◌, refl}
use Rattle.std.specs.Prelude.{not}
use Rattle.node_core.specs.declared.tree.Kind.{Kind}
use Rattle.node_core.specs.declared.tree.Kind.TheVariants.{Horizontal, Vertical}
use Rattle.node_core.specs.contracts.tree.KindPartialEq.TheImpl as kind_eq
use Rattle.job_machine.specs.Checks.{is_other}

-- A kind is another one where the two are not equal.
pub other_kinds : (a b : Kind) → is_other a b ≡ not ((kind_eq.ghosts).eq a b)
other_kinds Horizontal Horizontal = refl
other_kinds Horizontal Vertical = refl
other_kinds Vertical Horizontal = refl
other_kinds Vertical Vertical = refl

-- The order of the two does not matter.
pub other_kinds_reversed : (a b : Kind) → is_other a b ≡ not ((kind_eq.ghosts).eq b a)
other_kinds_reversed Horizontal Horizontal = refl
other_kinds_reversed Horizontal Vertical = refl
other_kinds_reversed Vertical Horizontal = refl
other_kinds_reversed Vertical Vertical = refl
