use Rattle.std.proofs.Common.{◌≡◌, ◌∙◌, take, true}
use Rattle.std.specs.Prelude.{None, is_some}
use Rattle.node_core.specs.Nodes.{items_of, nodes_of}
use Rattle.pack_core.specs.Boxes.{packed_of}
use Rattle.vert_core.specs.declared.parts.Split.{Split}
use Rattle.vert_core.specs.Split.{front_of, refusal, rest_of}
use Rattle.vert_core.specs.Private.Steps.{packed_left}
use Rattle.vert_core.proofs.Ends.{ok-by, err-by}
use Rattle.vert_core.proofs.Rests.{front-planned, rest-planned, rest-some}
use Rattle.vert_core.proofs.cut.split_list.Goals as goal

pub returns-in-Ok-clause-front : goal.returns-in-Ok-clause-front
returns-in-Ok-clause-front c =
    ok-by (λ (s : Split). s.front ≡ packed_of (items_of (take c.in-Ok.plan.place (nodes_of c.args.list))) c.in-Ok.plan.front)
    (λ (s : Split). s.front ≡ front_of c.args.params.now c.args.height (nodes_of c.args.list)) c.carry_out.result
    (λ s is. is ∙ front-planned c.args.params.now c.args.height (nodes_of c.args.list) c.in-Ok.plan.place c.in-Ok.plan.front
    (rw c.as_slice.ensures.nodes at c.in-Ok.ensures.place) (rw c.as_slice.ensures.nodes at c.in-Ok.ensures.front))
    c.carry_out.ensures.front

-- The rest of the plan is that of the split.
same-rest : (c : goal.After-carry_out) → packed_left c.in-Ok.plan.rest (nodes_of c.args.list) ≡ rest_of c.args.params.now c.args.height (nodes_of c.args.list)
same-rest c =
    rest-planned c.args.params.now c.args.height (nodes_of c.args.list) c.in-Ok.plan.rest (rw c.as_slice.ensures.nodes at c.in-Ok.ensures.rest_planned)
    (rw c.as_slice.ensures.nodes at c.in-Ok.ensures.sound.inside) (rw c.as_slice.ensures.nodes at c.in-Ok.ensures.shell)

pub returns-in-Ok-clause-rest_part : goal.returns-in-Ok-clause-rest_part
returns-in-Ok-clause-rest_part c =
    ok-by (λ (s : Split). s.rest ≡ packed_left c.in-Ok.plan.rest (nodes_of c.args.list))
    (λ (s : Split). s.rest ≡ rest_of c.args.params.now c.args.height (nodes_of c.args.list)) c.carry_out.result
    (λ s is. is ∙ same-rest c) c.carry_out.ensures.rest_part

pub returns-in-Ok-clause-growth : goal.returns-in-Ok-clause-growth
returns-in-Ok-clause-growth c =
    err-by (is_some c.in-Ok.plan.rest ≡ true)
    (refusal c.args.params.now c.args.height (nodes_of c.args.list) ≡ None → is_some (rest_of c.args.params.now c.args.height (nodes_of c.args.list)) ≡ true) c.carry_out.result
    (λ some none. rest-some (nodes_of c.args.list) c.in-Ok.plan.rest (rest_of c.args.params.now c.args.height (nodes_of c.args.list)) (same-rest c) some) c.carry_out.ensures.growth
