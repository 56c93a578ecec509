use Rattle.std.proofs.Common.{rules, inl, inr, ◌≡◌, List, ℤ, Ok, Some, map, reverse, append-nil, refl, ◌∙◌, ap, sym, subst, to_z, of_z, w32}
use Rattle.std.proofs.lemmas.Int.{ints}
use Rattle.std.specs.Option.{option_map}
use Rattle.dvi_ops.specs.Body.{instruction_acts, kept_in, state_without_mark, place_after}
use Rattle.scaled_core.specs.Mark.{Mark}
use Rattle.dvi_ops.specs.Instruction.{Instruction, SetChar, PutChar, SetRule, PutRule, FontNum, Move, Across, Downward, By, Set, Again, First, Second, Xxx}
use Rattle.dvi_ops.specs.View.{body_view, view}
use Rattle.dvi_ops.specs.declared.body_op.BodyOp.TheVariants as bodies
use Rattle.dvi_ops.specs.declared.op.Op.TheVariants as ops
use Rattle.dvi_scan.specs.Drawing.{constant_width, reached_position}
use Rattle.dvi_scan.specs.Private.Drawing.{Draws}
use Rattle.dvi_scan.specs.Pass.{Inside, with_marks}
use Rattle.dvi_scan.specs.Execution.{TurnsPage}
use Rattle.dvi_scan.specs.View.{mark_of, spot_position, dvi_state}
use Rattle.dvi_scan.proofs.TurnLemmas.{idle_turns, leaf_turns}
use Rattle.dvi_scan.proofs.executing.OpenPage.take.Goals as goal

pub returns-in-SetChar-clause-turns : goal.returns-in-SetChar-clause-turns
returns-in-SetChar-clause-turns c = λ pages.
    let page = c.args.self.now in
    let same : to_z w32 (of_z w32 c.in-SetChar.code) ≡ c.in-SetChar.code = search (rules, ints) in
    leaf_turns c.args.width c.args.most c.args.op.now (ops.Body (bodies.SetChar c.in-SetChar.code)) (SetChar c.in-SetChar.code) pages page c.set_char.new.self c.set_char.result (c.in-Body.is ∙ ap ops.Body c.in-SetChar.is) refl
    (subst (λ (code : ℤ). Draws (instruction_acts (constant_width c.args.width) (SetChar code) (dvi_state page.state)) pages page c.set_char.new.self
    c.set_char.result) same (c.set_char.ensures.turns pages))

pub returns-in-PutChar-clause-turns : goal.returns-in-PutChar-clause-turns
returns-in-PutChar-clause-turns c = λ pages.
    let page = c.args.self.now in
    let same : to_z w32 (of_z w32 c.in-PutChar.code) ≡ c.in-PutChar.code = search (rules, ints) in
    leaf_turns c.args.width c.args.most c.args.op.now (ops.Body (bodies.PutChar c.in-PutChar.code)) (PutChar c.in-PutChar.code) pages page c.put_char.new.self c.put_char.result (c.in-Body.is ∙ ap ops.Body c.in-PutChar.is) refl
    (subst (λ (code : ℤ). Draws (instruction_acts (constant_width c.args.width) (PutChar code) (dvi_state page.state)) pages page c.put_char.new.self
    c.put_char.result) same (c.put_char.ensures.turns pages))

pub returns-in-SetRule-clause-turns : goal.returns-in-SetRule-clause-turns
returns-in-SetRule-clause-turns c = λ pages.
    let page = c.args.self.now in
    let height : to_z w32 (of_z w32 c.in-SetRule.height) ≡ c.in-SetRule.height = search (rules, ints) in
    let width : to_z w32 (of_z w32 c.in-SetRule.width) ≡ c.in-SetRule.width = search (rules, ints) in
    leaf_turns c.args.width c.args.most c.args.op.now (ops.Body (bodies.SetRule c.in-SetRule.height c.in-SetRule.width)) (SetRule c.in-SetRule.height c.in-SetRule.width) pages page c.set_rule.new.self c.set_rule.result (c.in-Body.is ∙ ap ops.Body c.in-SetRule.is) refl
    (subst (λ (h : ℤ). Draws (instruction_acts (constant_width c.args.width) (SetRule h c.in-SetRule.width) (dvi_state page.state)) pages page
    c.set_rule.new.self c.set_rule.result) height
    (subst (λ (w : ℤ). Draws (instruction_acts (constant_width c.args.width) (SetRule (to_z w32 (of_z w32 c.in-SetRule.height)) w)
    (dvi_state page.state)) pages page c.set_rule.new.self c.set_rule.result) width
    (c.set_rule.ensures.turns (constant_width c.args.width) pages)))

pub returns-in-PutRule-clause-turns : goal.returns-in-PutRule-clause-turns
returns-in-PutRule-clause-turns c = λ pages.
    let page = c.args.self.now in
    let height : to_z w32 (of_z w32 c.in-PutRule.height) ≡ c.in-PutRule.height = search (rules, ints) in
    let width : to_z w32 (of_z w32 c.in-PutRule.width) ≡ c.in-PutRule.width = search (rules, ints) in
    leaf_turns c.args.width c.args.most c.args.op.now (ops.Body (bodies.PutRule c.in-PutRule.height c.in-PutRule.width)) (PutRule c.in-PutRule.height c.in-PutRule.width) pages page c.put_rule.new.self c.put_rule.result (c.in-Body.is ∙ ap ops.Body c.in-PutRule.is) refl
    (subst (λ (h : ℤ). Draws (instruction_acts (constant_width c.args.width) (PutRule h c.in-PutRule.width) (dvi_state page.state)) pages page
    c.put_rule.new.self c.put_rule.result) height
    (subst (λ (w : ℤ). Draws (instruction_acts (constant_width c.args.width) (PutRule (to_z w32 (of_z w32 c.in-PutRule.height)) w)
    (dvi_state page.state)) pages page c.put_rule.new.self c.put_rule.result) width
    (c.put_rule.ensures.turns (constant_width c.args.width) pages)))

pub returns-in-Push-clause-turns : goal.returns-in-Push-clause-turns
returns-in-Push-clause-turns c = λ pages.
    subst (λ (i : Instruction). TurnsPage (instruction_acts (constant_width c.args.width)) c.args.most i pages c.args.self.now c.push.new.self c.push.result) (sym (ap view c.in-Body.is ∙ ap body_view c.in-Push.is)) (c.push.ensures.turns (instruction_acts (constant_width c.args.width)) pages)

pub returns-in-Pop-clause-turns : goal.returns-in-Pop-clause-turns
returns-in-Pop-clause-turns c = λ pages.
    subst (λ (i : Instruction). TurnsPage (instruction_acts (constant_width c.args.width)) c.args.most i pages c.args.self.now c.pop.new.self c.pop.result) (sym (ap view c.in-Body.is ∙ ap body_view c.in-Pop.is)) (c.pop.ensures.turns (instruction_acts (constant_width c.args.width)) c.args.most pages)

pub returns-in-Right-clause-turns : goal.returns-in-Right-clause-turns
returns-in-Right-clause-turns c = λ pages.
    let to = place_after Across (By c.in-Right.by) (spot_position c.args.self.now.state.place) in
    let there : option_map spot_position c.right.result ≡ reached_position to = search rules in
    leaf_turns c.args.width c.args.most c.args.op.now (ops.Body (bodies.Right c.in-Right.by)) (Move Across (By c.in-Right.by)) pages c.args.self.now c.go.new.self c.go.result (c.in-Body.is ∙ ap ops.Body c.in-Right.is) refl (c.go.ensures.turns pages to there)

pub returns-in-W0-clause-turns : goal.returns-in-W0-clause-turns
returns-in-W0-clause-turns c = λ pages.
    let to = place_after Across (Again First) (spot_position c.args.self.now.state.place) in
    let there : option_map spot_position c.right-in-W0.result ≡ reached_position to = search rules in
    leaf_turns c.args.width c.args.most c.args.op.now (ops.Body bodies.W0) (Move Across (Again First)) pages c.args.self.now c.go-in-W0.new.self c.go-in-W0.result (c.in-Body.is ∙ ap ops.Body c.in-W0.is) refl (c.go-in-W0.ensures.turns pages to there)

pub returns-in-W-clause-turns : goal.returns-in-W-clause-turns
returns-in-W-clause-turns c = λ pages.
    let to = place_after Across (Set First c.in-W.w) (spot_position c.args.self.now.state.place) in
    let there : option_map spot_position c.right-in-W.result ≡ reached_position to = search rules in
    leaf_turns c.args.width c.args.most c.args.op.now (ops.Body (bodies.W c.in-W.w)) (Move Across (Set First c.in-W.w)) pages c.args.self.now c.go-in-W.new.self c.go-in-W.result (c.in-Body.is ∙ ap ops.Body c.in-W.is) refl (c.go-in-W.ensures.turns pages to there)

pub returns-in-X0-clause-turns : goal.returns-in-X0-clause-turns
returns-in-X0-clause-turns c = λ pages.
    let to = place_after Across (Again Second) (spot_position c.args.self.now.state.place) in
    let there : option_map spot_position c.right-in-X0.result ≡ reached_position to = search rules in
    leaf_turns c.args.width c.args.most c.args.op.now (ops.Body bodies.X0) (Move Across (Again Second)) pages c.args.self.now c.go-in-X0.new.self c.go-in-X0.result (c.in-Body.is ∙ ap ops.Body c.in-X0.is) refl (c.go-in-X0.ensures.turns pages to there)

pub returns-in-X-clause-turns : goal.returns-in-X-clause-turns
returns-in-X-clause-turns c = λ pages.
    let to = place_after Across (Set Second c.in-X.x) (spot_position c.args.self.now.state.place) in
    let there : option_map spot_position c.right-in-X.result ≡ reached_position to = search rules in
    leaf_turns c.args.width c.args.most c.args.op.now (ops.Body (bodies.X c.in-X.x)) (Move Across (Set Second c.in-X.x)) pages c.args.self.now c.go-in-X.new.self c.go-in-X.result (c.in-Body.is ∙ ap ops.Body c.in-X.is) refl (c.go-in-X.ensures.turns pages to there)

pub returns-in-Down-clause-turns : goal.returns-in-Down-clause-turns
returns-in-Down-clause-turns c = λ pages.
    let to = place_after Downward (By c.in-Down.by) (spot_position c.args.self.now.state.place) in
    let there : option_map spot_position c.down.result ≡ reached_position to = search rules in
    leaf_turns c.args.width c.args.most c.args.op.now (ops.Body (bodies.Down c.in-Down.by)) (Move Downward (By c.in-Down.by)) pages c.args.self.now c.go-in-Down.new.self c.go-in-Down.result (c.in-Body.is ∙ ap ops.Body c.in-Down.is) refl (c.go-in-Down.ensures.turns pages to there)

pub returns-in-Y0-clause-turns : goal.returns-in-Y0-clause-turns
returns-in-Y0-clause-turns c = λ pages.
    let to = place_after Downward (Again First) (spot_position c.args.self.now.state.place) in
    let there : option_map spot_position c.down-in-Y0.result ≡ reached_position to = search rules in
    leaf_turns c.args.width c.args.most c.args.op.now (ops.Body bodies.Y0) (Move Downward (Again First)) pages c.args.self.now c.go-in-Y0.new.self c.go-in-Y0.result (c.in-Body.is ∙ ap ops.Body c.in-Y0.is) refl (c.go-in-Y0.ensures.turns pages to there)

pub returns-in-Y-clause-turns : goal.returns-in-Y-clause-turns
returns-in-Y-clause-turns c = λ pages.
    let to = place_after Downward (Set First c.in-Y.y) (spot_position c.args.self.now.state.place) in
    let there : option_map spot_position c.down-in-Y.result ≡ reached_position to = search rules in
    leaf_turns c.args.width c.args.most c.args.op.now (ops.Body (bodies.Y c.in-Y.y)) (Move Downward (Set First c.in-Y.y)) pages c.args.self.now c.go-in-Y.new.self c.go-in-Y.result (c.in-Body.is ∙ ap ops.Body c.in-Y.is) refl (c.go-in-Y.ensures.turns pages to there)

pub returns-in-Z0-clause-turns : goal.returns-in-Z0-clause-turns
returns-in-Z0-clause-turns c = λ pages.
    let to = place_after Downward (Again Second) (spot_position c.args.self.now.state.place) in
    let there : option_map spot_position c.down-in-Z0.result ≡ reached_position to = search rules in
    leaf_turns c.args.width c.args.most c.args.op.now (ops.Body bodies.Z0) (Move Downward (Again Second)) pages c.args.self.now c.go-in-Z0.new.self c.go-in-Z0.result (c.in-Body.is ∙ ap ops.Body c.in-Z0.is) refl (c.go-in-Z0.ensures.turns pages to there)

pub returns-in-Z-clause-turns : goal.returns-in-Z-clause-turns
returns-in-Z-clause-turns c = λ pages.
    let to = place_after Downward (Set Second c.in-Z.z) (spot_position c.args.self.now.state.place) in
    let there : option_map spot_position c.down-in-Z.result ≡ reached_position to = search rules in
    leaf_turns c.args.width c.args.most c.args.op.now (ops.Body (bodies.Z c.in-Z.z)) (Move Downward (Set Second c.in-Z.z)) pages c.args.self.now c.go-in-Z.new.self c.go-in-Z.result (c.in-Body.is ∙ ap ops.Body c.in-Z.is) refl (c.go-in-Z.ensures.turns pages to there)

pub returns-in-FontNum-clause-turns : goal.returns-in-FontNum-clause-turns
returns-in-FontNum-clause-turns c = λ pages.
    let page = c.args.self.now in
    let marks = map mark_of page.marks.items in
    let stack = reverse (map spot_position page.stack.items) in
    let kept : kept_in (state_without_mark (record { place = spot_position page.state.place; font = Some c.in-FontNum.font })) ≡ state_without_mark
    (dvi_state c.with_font-self.result) = search (rules, ints) in
    leaf_turns c.args.width c.args.most c.args.op.now (ops.Body (bodies.FontNum c.in-FontNum.font)) (FontNum c.in-FontNum.font) pages page (record page { state = c.with_font-self.result }) (Ok tt) (c.in-Body.is ∙ ap ops.Body c.in-FontNum.is) refl
    (ap (with_marks pages page.counts marks stack) kept
    ∙ ap (λ (ms : List Mark). Some (Inside pages page.counts ms stack (dvi_state c.with_font-self.result))) (append-nil marks))

pub returns-in-Nop-clause-turns : goal.returns-in-Nop-clause-turns
returns-in-Nop-clause-turns c = λ pages.
    let page = c.args.self.now in
    idle_turns c.args.width c.args.most c.args.op.now pages page c.go-in-Nop.new.self c.go-in-Nop.result (inl (c.in-Body.is ∙ ap ops.Body c.in-Nop.is)) (c.go-in-Nop.ensures.turns pages (spot_position page.state.place) c.here.ensures)

pub returns-in-FontDef-clause-turns : goal.returns-in-FontDef-clause-turns
returns-in-FontDef-clause-turns c = λ pages.
    let page = c.args.self.now in
    idle_turns c.args.width c.args.most c.args.op.now pages page c.go-in-FontDef.new.self c.go-in-FontDef.result (inr (c.in-FontDef.field-0, c.in-FontDef.is)) (c.go-in-FontDef.ensures.turns pages (spot_position page.state.place) c.here-in-FontDef.ensures)

pub returns-in-Xxx-clause-turns : goal.returns-in-Xxx-clause-turns
returns-in-Xxx-clause-turns c = λ pages.
    let page = c.args.self.now in
    leaf_turns c.args.width c.args.most c.args.op.now (ops.Body (bodies.Xxx c.in-Xxx.text)) (Xxx c.in-Xxx.text.now) pages page c.put_special.new.self c.put_special.result (c.in-Body.is ∙ ap ops.Body c.in-Xxx.is) refl
    (c.put_special.ensures.turns (constant_width c.args.width) pages)

pub returns-in-SetChar-clause-space : goal.returns-in-SetChar-clause-space
returns-in-SetChar-clause-space c = c.set_char.ensures.space c.args.most

pub returns-in-PutChar-clause-space : goal.returns-in-PutChar-clause-space
returns-in-PutChar-clause-space c = c.put_char.ensures.space c.args.most

pub returns-in-SetRule-clause-space : goal.returns-in-SetRule-clause-space
returns-in-SetRule-clause-space c = c.set_rule.ensures.space c.args.most

pub returns-in-PutRule-clause-space : goal.returns-in-PutRule-clause-space
returns-in-PutRule-clause-space c = c.put_rule.ensures.space c.args.most

pub returns-in-Pop-clause-space : goal.returns-in-Pop-clause-space
returns-in-Pop-clause-space c = c.pop.ensures.space c.args.most

pub returns-in-Right-clause-space : goal.returns-in-Right-clause-space
returns-in-Right-clause-space c = c.go.ensures.space c.args.most

pub returns-in-W0-clause-space : goal.returns-in-W0-clause-space
returns-in-W0-clause-space c = c.go-in-W0.ensures.space c.args.most

pub returns-in-W-clause-space : goal.returns-in-W-clause-space
returns-in-W-clause-space c = c.go-in-W.ensures.space c.args.most

pub returns-in-X0-clause-space : goal.returns-in-X0-clause-space
returns-in-X0-clause-space c = c.go-in-X0.ensures.space c.args.most

pub returns-in-X-clause-space : goal.returns-in-X-clause-space
returns-in-X-clause-space c = c.go-in-X.ensures.space c.args.most

pub returns-in-Down-clause-space : goal.returns-in-Down-clause-space
returns-in-Down-clause-space c = c.go-in-Down.ensures.space c.args.most

pub returns-in-Y0-clause-space : goal.returns-in-Y0-clause-space
returns-in-Y0-clause-space c = c.go-in-Y0.ensures.space c.args.most

pub returns-in-Y-clause-space : goal.returns-in-Y-clause-space
returns-in-Y-clause-space c = c.go-in-Y.ensures.space c.args.most

pub returns-in-Z0-clause-space : goal.returns-in-Z0-clause-space
returns-in-Z0-clause-space c = c.go-in-Z0.ensures.space c.args.most

pub returns-in-Z-clause-space : goal.returns-in-Z-clause-space
returns-in-Z-clause-space c = c.go-in-Z.ensures.space c.args.most

pub returns-in-Nop-clause-space : goal.returns-in-Nop-clause-space
returns-in-Nop-clause-space c = c.go-in-Nop.ensures.space c.args.most

pub returns-in-FontDef-clause-space : goal.returns-in-FontDef-clause-space
returns-in-FontDef-clause-space c = c.go-in-FontDef.ensures.space c.args.most

pub returns-in-Xxx-clause-space : goal.returns-in-Xxx-clause-space
returns-in-Xxx-clause-space c = c.put_special.ensures.space c.args.most
