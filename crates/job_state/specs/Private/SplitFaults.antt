-- Why a box was not split, as a refusal (own).
use Rattle.std.specs.Prelude.{Option, Some, None}
use Rattle.vert_core.specs.declared.parts.SplitFault.{SplitFault}
use Rattle.vert_core.specs.declared.parts.SplitFault.TheVariants as faults
use Rattle.job_machine.specs.declared.replies.Refusal.{Refusal}
use Rattle.job_machine.specs.declared.replies.Refusal.TheVariants.{InfiniteShrink, DimensionTooLarge}

-- The refusal for a fault; None if memory was refused.
abbrev pub split_refusal : SplitFault → Option Refusal
split_refusal faults.InfiniteShrink = Some InfiniteShrink
split_refusal faults.DimensionTooLarge = Some DimensionTooLarge
split_refusal faults.OutOfMemory = None
