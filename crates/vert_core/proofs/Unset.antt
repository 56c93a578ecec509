-- Why a finished list is not set, by the fault of its breaks or of its lines.
use Rattle.std.proofs.Common.{◌≡◌, Option, Some, None, List, ℤ, false, refl, ap, sym}
use Rattle.std.specs.Option.{unwrap_or}
use Rattle.node_core.specs.declared.params.Params.{Params}
use Rattle.node_core.specs.declared.tree.Node.{Node}
use Rattle.break_core.specs.declared.broken.Breaks.{Breaks}
use Rattle.break_core.specs.Passes.{IsBroken}
use Rattle.break_lines.specs.declared.fault.BreakFault.{BreakFault}
use Rattle.break_lines.specs.declared.fault.BreakFault.TheVariants as breaking
use Rattle.break_lines.specs.Facts.{facts_of, refusal}
use Rattle.scaled_core.specs.declared.fault.SizeFault.{SizeFault}
use Rattle.scaled_core.specs.declared.fault.SizeFault.TheVariants as stacking
use Rattle.vert_core.specs.Lines.{lines_fit}
use Rattle.vert_core.specs.Paragraphs.{with_breaks, unset_by, unstacked_by, IsUnsetList}
use Rattle.vert_core.proofs.Unbroken.{free_at_memory}

endless : (r : Option BreakFault) → breaking.InfiniteShrink ≡ unwrap_or r breaking.OutOfMemory → r ≡ Some breaking.InfiniteShrink
endless None is = absurd (cc)
endless (Some f) is = ap Some (sym is)

many : (r : Option BreakFault) → breaking.TooManyBreaks ≡ unwrap_or r breaking.OutOfMemory → r ≡ Some breaking.TooManyBreaks
many None is = absurd (cc)
many (Some f) is = ap Some (sym is)

pub unset_list : (list : List Node) (params : Params) (previous : ℤ) (fault : BreakFault) → fault ≡ unwrap_or (refusal list) breaking.OutOfMemory
    → IsUnsetList list params previous (unset_by fault)
unset_list list params previous breaking.InfiniteShrink is = endless (refusal list) is
unset_list list params previous breaking.TooManyBreaks is = many (refusal list) is
unset_list list params previous breaking.OutOfMemory is = free_at_memory list is

pub unplanned_list : (list : List Node) (params : Params) (previous : ℤ) (breaks : Breaks) (fault : SizeFault)
    → refusal list ≡ None → IsBroken (facts_of list) params breaks
    → (fault ≡ stacking.DimensionTooLarge → lines_fit (with_breaks list params previous breaks) ≡ false)
    → IsUnsetList list params previous (unstacked_by fault)
unplanned_list list params previous breaks stacking.DimensionTooLarge free broken large = (free, (breaks, broken, large refl))
unplanned_list list params previous breaks stacking.OutOfMemory free broken large = free
