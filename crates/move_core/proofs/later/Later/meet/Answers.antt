use Rattle.std.proofs.Common.{◌≡◌, ◌∷◌, [], ◌++◌, ◌∙◌, sym, ap, subst, arith}
use Rattle.dvi_ops.specs.Instruction.{Push}
use Rattle.dvi_ops.specs.View.{body_view}
use Rattle.dvi_ops.specs.declared.body_op.BodyOp.{BodyOp}
use Rattle.move_core.specs.declared.later.Amounts.{Amounts}
use Rattle.move_core.specs.Private.Passes.{contains_amount}
use Rattle.move_core.proofs.Laters.{HasNone, KnowsAt, knows_pop, knows_push}
use Rattle.move_core.proofs.later.Later.meet.Goals as goal

pub returns-in_ok-push-in-Pop-clause-knows : goal.returns-in_ok-push-in-Pop-clause-knows
returns-in_ok-push-in-Pop-clause-knows c rest knows =
    let self = c.args.self.now in
    let fresh = c.replace-after.new.dest in
    let outer = c.push.new.self.items in
    let none : HasNone fresh = λ axis n. ap (λ (a : Amounts). contains_amount a axis n) c.replace-after.ensures.after ∙ c.new.ensures axis n in
    let pushed : outer ≡ self.outer.items ++ (self.here ∷ []) = cc (c.in_ok-push-in-Pop.ensures.items, c.replace-after.ensures.value) in
    subst (λ (op : BodyOp). KnowsAt fresh outer (body_view op ∷ rest)) (sym c.in-Pop.is) (knows_pop self.here fresh self.outer.items outer rest none pushed knows)

pub returns-in-Push-clause-knows : goal.returns-in-Push-clause-knows
returns-in-Push-clause-knows c rest knows =
    let self = c.args.self.now in
    let outer = c.pop.new.self.items in
    subst (λ (op : BodyOp). KnowsAt c.unwrap_or.result outer (body_view op ∷ rest)) (sym c.in-Push.is)
    (subst (λ (here : Amounts). KnowsAt here outer (Push ∷ rest)) (sym c.unwrap_or.ensures)
    (knows_push self.here c.new-in-Push.result self.outer.items outer c.pop.result rest self.outer.len c.pop.new.self.len c.new-in-Push.ensures c.pop.ensures.items
    (omega (arith, self.outer.ok)) (omega (arith, c.pop.new.self.ok)) c.pop.ensures.cases knows))
