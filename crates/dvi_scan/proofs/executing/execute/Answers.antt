use Rattle.std.proofs.Common.{◌≡◌, rules, map, refl, subst, sym, Ok, Result}
use Rattle.dvi_ops.specs.Body.{instruction_acts}
use Rattle.dvi_ops.specs.Instruction.{Eop}
use Rattle.dvi_ops.specs.View.{view}
use Rattle.dvi_ops.specs.declared.op.Op.TheVariants as ops
use Rattle.dvi_scan.specs.Drawing.{constant_width}
use Rattle.dvi_scan.specs.Pass.{Between}
use Rattle.dvi_scan.specs.Execution.{Executes, inside_of}
use Rattle.dvi_scan.specs.View.{marked_page}
use Rattle.dvi_scan.specs.declared.executing.PassFault.{PassFault}
use Rattle.dvi_scan.specs.declared.executing.PassState.TheVariants as states
use Rattle.dvi_scan.proofs.TurnLemmas.{at_turn, page_stays, page_turns, refused_turn}
use Rattle.dvi_scan.proofs.executing.execute.Goals as goal

pub returns-in_err-end-in-Eop-clause-turns : goal.returns-in_err-end-in-Eop-clause-turns
returns-in_err-end-in-Eop-clause-turns c =
    let does = instruction_acts (constant_width c.args.width) in
    let pages = map marked_page c.args.done.now.items in
    let ended = map marked_page c.end.new.done.items in
    let now = inside_of ended c.end.new.self in
    let same : c.from_residual.result ≡ c.end.result = search rules in
    at_turn does c.args.most c.args.op.now ops.Eop c.args.pass_state.now (states.Inside c.in-Inside.page) pages now c.from_residual.result c.in-Eop.is
    c.in-Inside.is
    (subst (λ (r : Result Unit PassFault). Executes does c.args.most Eop (inside_of pages c.in-Inside.page) now r) (sym same)
    (refused_turn does c.args.most Eop (inside_of pages c.in-Inside.page) (Between ended) now c.end.result _ c.in_err-end-in-Eop.was (c.end.ensures.turns does c.args.most)))

pub returns-in_ok-end-in-Eop-clause-turns : goal.returns-in_ok-end-in-Eop-clause-turns
returns-in_ok-end-in-Eop-clause-turns c =
    let does = instruction_acts (constant_width c.args.width) in
    let pages = map marked_page c.args.done.now.items in
    at_turn does c.args.most c.args.op.now ops.Eop c.args.pass_state.now (states.Inside c.in-Inside.page) pages
    (Between (map marked_page c.end.new.done.items)) (Ok tt) c.in-Eop.is c.in-Inside.is
    (c.in_ok-end-in-Eop.ensures.turns does c.args.most)

pub returns-in-Between-clause-turns : goal.returns-in-Between-clause-turns
returns-in-Between-clause-turns c =
    let does = instruction_acts (constant_width c.args.width) in
    let pages = map marked_page c.args.done.now.items in
    at_turn does c.args.most c.args.op.now c.args.op.now c.args.pass_state.now states.Between pages _ c.begin.result refl c.in-Between.is
    (c.begin.ensures.turns does c.args.most pages)

pub returns-in_default : goal.returns-in_default
returns-in_default c =
    let does = instruction_acts (constant_width c.args.width) in
    let pages = map marked_page c.args.done.now.items in
    let i = view c.args.op.now in
    record {
      turns = at_turn does c.args.most c.args.op.now c.args.op.now c.args.pass_state.now (states.Inside c.in-Inside.page) pages _ c.take.result refl
          c.in-Inside.is
          (page_turns does c.args.most i pages c.in-Inside.page c.take.new.self c.take.result (c.take.ensures.turns pages));
      err = page_stays does c.args.most i c.args.done.now.items c.args.pass_state.now c.in-Inside.page c.take.new.self c.take.result c.in-Inside.is
          c.take.ensures.turns;
    }
