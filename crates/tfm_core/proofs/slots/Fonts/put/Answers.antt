use Rattle.std.proofs.Common.{◌∙◌}
use Rattle.std.specs.Prelude.{IfSome}
use Rattle.std.proofs.Math.ListN.{length-set}
use Rattle.tfm_core.specs.Slots.{IsDefinable}
use Rattle.scaled_core.proofs.EachOf.{each_set}
use Rattle.tfm_core.proofs.slots.Fonts.put.Goals as goal

pub invariant_of-self : goal.invariant_of-self
invariant_of-self c =
    record {
      slots = length-set c.self.inside.slots.items c.from.result _ ∙ c.self.invariant.slots;
      each = each_set (λ slot. IfSome slot IsDefinable) c.self.inside.slots.items c.from.result _ c.self.invariant.each c.can_be_defined.ensures;
    }
