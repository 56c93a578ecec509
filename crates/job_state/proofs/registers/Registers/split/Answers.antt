-- The registers after a split, and the rest that it leaves.
use Rattle.std.proofs.Common.{◌∙◌, Option, subst, sym}
use Rattle.node_core.specs.declared.tree.BoxNode.{BoxNode}
use Rattle.job_machine.specs.Runs.{LeavesRest}
use Rattle.job_state.proofs.SplitRefusals.{void_split, parts_split, box_back, refused_split}
use Rattle.job_state.proofs.registers.Registers.split.Goals as goal

pub returns-in_default-clause-state : goal.returns-in_default-clause-state
returns-in_default-clause-state c =
    let value = rw c.take_tails-tails.ensures.state at c.take.ensures.value in
    let void = rw c.take_tails-tails.ensures.state at c.take.ensures.void in
    void_split c.args.params.now c.args.splitting.now c.args.self.now c.take.new.self void c.put.new.self (sym value ∙ c.in_default.is) c.put.ensures

pub returns-in-Ok-clause-state : goal.returns-in-Ok-clause-state
returns-in-Ok-clause-state c =
    let value = rw c.take_tails-tails.ensures.state at c.take.ensures.value in
    let void = rw c.take_tails-tails.ensures.state at c.take.ensures.void in
    parts_split c.args.params.now c.args.splitting.now c.args.self.now c.take.new.self void c.in-Some.box_node (sym value ∙ c.in-Some.is) c.put_parts.new.self
    c.in-Ok.parts.front c.in-Ok.parts.rest c.in-Ok.ensures.front c.in-Ok.ensures.rest_part c.in-Ok.ensures.ok c.put_parts.ensures.parts

pub returns-in-Some-refusal-clause-state : goal.returns-in-Some-refusal-clause-state
returns-in-Some-refusal-clause-state c =
    let value = rw c.take_tails-tails.ensures.state at c.take.ensures.value in
    let void = rw c.take_tails-tails.ensures.state at c.take.ensures.void in
    refused_split c.args.params.now c.args.splitting.now c.args.self.now c.take.new.self void c.in-Some.box_node (sym value ∙ c.in-Some.is) c.put_back.new.self
    c.in-Err.unsplit.box_node c.in-Some-refusal.refusal c.in-Err.ensures.box_returned c.put_back.ensures (sym c.in-Err.ensures.err ∙ c.in-Some-refusal.is)

pub returns-in-None-clause-err : goal.returns-in-None-clause-err
returns-in-None-clause-err c =
    let value = rw c.take_tails-tails.ensures.state at c.take.ensures.value in
    let void = rw c.take_tails-tails.ensures.state at c.take.ensures.void in
    box_back c.args.params.now c.args.splitting.now c.args.self.now c.take.new.self void c.in-Some.box_node (sym value ∙ c.in-Some.is) c.put_back.new.self
    c.in-Err.unsplit.box_node c.in-Err.ensures.box_returned c.put_back.ensures

pub returns-in-None-clause-takes : goal.returns-in-None-clause-takes
returns-in-None-clause-takes c =
    let value = rw c.take_tails-tails.ensures.state at c.take.ensures.value in
    subst (λ (held : Option BoxNode). LeavesRest c.args.params.now c.args.splitting.now.height held) (sym (sym value ∙ c.in-Some.is)) (c.in-Err.ensures.growth c.in-None.is)
