use Rattle.std.proofs.Common.{sym, ◌∙◌}
use Rattle.std.proofs.lemmas.List.{take_rest}
use Rattle.dvi_device.proofs.Resumptions.{all_met, some_left, met_more, passed, passed_written, still_countable}
use Rattle.dvi_device.proofs.rest.RestDevice.write.Goals as goal

pub invariant_of-self : goal.invariant_of-self
invariant_of-self g c =
    let failed = g.D.Device.failed c.self.inside.device in
    let sent = c.self.inside.sent.items in
    let met = c.self.inside.met in
    let none = rw (c.deref.ensures.value, take_rest) at (sym c.if-is_empty.true ∙ c.is_empty.ensures) in
    let all = all_met sent met c.self.invariant.0.within none in (
      passed c.write.result _ _ _ sent c.args.piece.now met c.write.ensures.taken c.write.ensures.none_taken c.self.invariant.0 all,
      still_countable c.write.result failed _ c.self.inside.failures c.write.ensures.no_failure c.write.ensures.counted
          (rw (← c.self.view_is) at c.requires.countable),
    )

pub returns-then-is_empty-clause-taken : goal.returns-then-is_empty-clause-taken
returns-then-is_empty-clause-taken g c =
    rw (← c.self.view_is)
    (passed_written c.write.result _ _ _ c.self.inside.sent.items c.args.piece.now c.self.inside.met c.write.ensures.taken c.self.invariant.0)

pub returns-clause-taken : goal.returns-clause-taken
returns-clause-taken g c =
    let sent = c.self.inside.sent.items in
    let met = c.self.inside.met in
    let left = rw (c.deref.ensures.value, take_rest) at (sym c.if-is_empty.false ∙ c.is_empty.ensures) in
    let same = rw (c.deref.ensures.value, take_rest) at c.common_front-same.ensures.same in
    let some = some_left sent met left in
    rw (← c.self.view_is) (met_more sent c.args.piece.now met c.common_front-same.result _ _ c.self.invariant.0 some same)
