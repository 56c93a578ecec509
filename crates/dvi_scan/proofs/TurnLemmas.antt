-- One instruction, in the state of the pass.
use Rattle.std.proofs.Common.{◌≡◌, ◌≢◌, ◌≤◌, ◌<◌, ◌++◌, ◌⊎◌, inl, inr, [], ◌∷◌, List, length, map, reverse, ℕ, ℤ, Option, Some, None, Result, Ok, Err, true, nat_lt, refl, sym, ◌∙◌, ap, arith, subst, Bool, false, ◌&&◌, if◌then◌else◌, OnErr}
use Rattle.std.specs.Option.{option_map}
use Rattle.std.proofs.lemmas.Bool.{lt-ltb, le-ltb}
use Rattle.std.proofs.lemmas.List.{map-append, reverse-append, length-reverse, length-map}
use Rattle.dvi_ops.specs.Instruction.{BodyLeaf, Nop, FontDef, Instruction, Do, Push, Pop, Bop, Eop}
use Rattle.dvi_ops.specs.Body.{Position, DviState, Meaning, Acts, instruction_acts, in_range, bounded_acts, kept_in, state_without_mark}
use Rattle.scaled_core.specs.Mark.{Mark}
use Rattle.dvi_ops.specs.File.{MarkedPage}
use Rattle.dvi_ops.specs.View.{definition, view}
use Rattle.dvi_ops.specs.declared.body_op.BodyOp.TheVariants as bodies
use Rattle.dvi_ops.specs.declared.op.Op.{Op}
use Rattle.dvi_ops.specs.declared.op.Op.TheVariants as ops
use Rattle.dvi_scan.specs.declared.fault.DviCause.{DviCause}
use Rattle.dvi_scan.specs.declared.fault.DviCause.TheVariants.{Opcode, Stack, Glyph, Range}
use Rattle.dvi_scan.specs.Drawing.{constant_width, reached_position}
use Rattle.dvi_scan.specs.Private.Drawing.{Draws, meaning_towards}
use Rattle.dvi_scan.specs.Pass.{PassStateView, Between, Inside, execute, popped_state, with_page_ended}
use Rattle.dvi_scan.specs.Execution.{BreaksTurn, Executes, TurnsPage, inside_of, pass_at}
use Rattle.dvi_scan.specs.View.{mark_of, spot_position, dvi_state}
use Rattle.dvi_scan.specs.Private.View.{marks_in}
use Rattle.dvi_scan.specs.declared.executing.OpenPage.{OpenPage}
use Rattle.dvi_scan.specs.declared.executing.PassFault.{PassFault}
use Rattle.dvi_scan.specs.declared.executing.PassFault.TheVariants.{OutOfMemory, Broken}
use Rattle.dvi_scan.specs.declared.page.Mark.{Mark as PassMark}
use Rattle.dvi_scan.specs.declared.page.Position.{Position as Spot}
use Rattle.dvi_scan.specs.declared.executing.PassState.{PassState}
use Rattle.dvi_scan.specs.declared.executing.PassState.TheVariants as states

-- The place that was saved last comes first.
pub reverse_more : (xs : List Spot) (x : Spot) → reverse (map spot_position (xs ++ x ∷ [])) ≡ spot_position x ∷ reverse (map spot_position xs)
reverse_more xs x = ap (λ (ps : List Position). reverse ps) (map-append spot_position xs (x ∷ [])) ∙ reverse-append (map spot_position xs) (spot_position x ∷ [])

saved_size : (xs : List Spot) → length (reverse (map spot_position xs)) ≡ length xs
saved_size xs = length-reverse (map spot_position xs) ∙ length-map xs spot_position

pub push_turn : (does : Acts) (most : ℕ) (pages : List MarkedPage) (counts : List ℤ) (marks : List Mark) (s : DviState) (old new : List Spot) (place : Spot) → new ≡ old ++ place ∷ [] → spot_position place ≡ s.place
    → length old < most → execute does most Push (Inside pages counts marks (reverse (map spot_position old)) s) ≡ Some (Inside pages counts marks (reverse (map spot_position new)) s)
push_turn does most pages counts marks s old new place more same space =
    let size = saved_size old in
    let test : nat_lt (length (reverse (map spot_position old))) most ≡ true = lt-ltb (length (reverse (map spot_position old))) most (omega arith) in
    rw test (ap (λ (stack : List Position). Some (Inside pages counts marks stack s)) (sym (ap (λ (ps : List Spot). reverse (map spot_position ps)) more ∙ (reverse_more old place ∙ ap (λ (p : Position). p ∷ reverse (map spot_position old)) same))))

pub push_fault : (does : Acts) (most : ℕ) (pages : List MarkedPage) (counts : List ℤ) (marks : List Mark) (s : DviState) (old : List Spot) → most ≤ length old → most ≤ length (reverse (map spot_position old))
push_fault does most pages counts marks s old many = let size = saved_size old in omega arith

-- A push is allowed.
pub push_space : (most : ℕ) (old : List Spot) → length old < most → length (reverse (map spot_position old)) < most
push_space most old space = let size = saved_size old in omega arith

pub pop_turn : (does : Acts) (most : ℕ) (pages : List MarkedPage) (counts : List ℤ) (marks : List Mark) (s : DviState) (old new : List Spot) (place : Spot) → old ≡ new ++ place ∷ []
    → execute does most Pop (Inside pages counts marks (reverse (map spot_position old)) s) ≡ Some (Inside pages counts marks (reverse (map spot_position new)) (record { place = spot_position place; font = s.font }))
pop_turn does most pages counts marks s old new place more =
    ap (λ (stack : List Position). popped_state pages counts marks stack s) (ap (λ (ps : List Spot). reverse (map spot_position ps)) more ∙ reverse_more new place)

-- No place is saved.
pub none_saved : (old : List Spot) → length old ≡ 0 → reverse (map spot_position old) ≡ []
none_saved [] e = refl
none_saved (p ∷ old) e = absurd (omega arith)

pub some_saved : (old : List Spot) → 0 < length old → reverse (map spot_position old) ≢ []
some_saved old some e = let size = saved_size old in let none : length (reverse (map spot_position old)) ≡ 0 = ap (λ (ps : List Position). length ps) e in absurd (omega arith)

pub end_turn : (does : Acts) (most : ℕ) (pages : List MarkedPage) (counts : List ℤ) (marks : List Mark) (s : DviState) (stack : List Position) → stack ≡ []
    → execute does most Eop (Inside pages counts marks stack s) ≡ Some (Between (pages ++ record { counts = counts; marks = marks } ∷ []))
end_turn does most pages counts marks s stack e = ap (λ (stack : List Position). with_page_ended pages counts marks stack) e

-- A result for the meaning of a leaf is one for the leaf.
pub leaf_turns : (width : Option ℤ) (most : ℕ) (op known : Op) (leaf : BodyLeaf) (pages : List MarkedPage) (old new : OpenPage) (r : Result Unit PassFault) → op ≡ known → view known ≡ Do leaf
    → Draws (instruction_acts (constant_width width) leaf (dvi_state old.state)) pages old new r
    → TurnsPage (instruction_acts (constant_width width)) most (view op) pages old new r
leaf_turns width most op known leaf pages old new r is does d = subst (λ (i : Instruction). TurnsPage (instruction_acts (constant_width width)) most i pages old new r) (sym (ap view is ∙ does)) (turns r d)
  where
    turns : (r : Result Unit PassFault) → Draws (instruction_acts (constant_width width) leaf (dvi_state old.state)) pages old new r
        → TurnsPage (instruction_acts (constant_width width)) most (Do leaf) pages old new r
    turns (Ok done) d = d
    turns (Err OutOfMemory) d = d
    turns (Err (Broken Glyph)) d = d
    turns (Err (Broken Range)) d = d
    turns (Err (Broken cause)) d = absurd (d.0)

-- A nop and a font definition change nothing.
pub idle_turns : (width : Option ℤ) (most : ℕ) (op : Op) (pages : List MarkedPage) (old new : OpenPage) (r : Result Unit PassFault)
    → (op ≡ ops.Body bodies.Nop) ⊎ ((d : _) × (op ≡ ops.FontDef d))
    → Draws (state_without_mark (dvi_state old.state)) pages old new r
    → TurnsPage (instruction_acts (constant_width width)) most (view op) pages old new r
idle_turns width most op pages old new r (inl is) d = leaf_turns width most op (ops.Body bodies.Nop) Nop pages old new r is refl d
idle_turns width most op pages old new r (inr (font, is)) d = leaf_turns width most op (ops.FontDef font) (FontDef (definition font)) pages old new r is refl d

-- A fault is the same whatever state the pass is left in.
pub refused_turn : (does : Acts) (most : ℕ) (i : Instruction) (old new other : PassStateView) (r : Result Unit PassFault) (fault : PassFault) → r ≡ Err fault
    → Executes does most i old new r → Executes does most i old other r
refused_turn does most i old new other r fault is t =
    subst (λ (r : Result Unit PassFault). Executes does most i old other r) (sym is) (subst (λ (r : Result Unit PassFault). Executes does most i old new r) is t)

-- A result in an open page is one in the state of the pass.
pub page_turns : (does : Acts) (most : ℕ) (i : Instruction) (pages : List MarkedPage) (old new : OpenPage) (r : Result Unit PassFault) → TurnsPage does most i pages old new r
    → Executes does most i (inside_of pages old) (inside_of pages new) r
page_turns does most i pages old new (Ok done) t = t
page_turns does most i pages old new (Err fault) t = t.0

-- A refusal in an open page leaves the state of the pass as it was.
pub page_stays : {A : Type 0} (does : Acts) (most : ℕ) (i : Instruction) (done : A) (pass_state : PassState) (old new : OpenPage)
    (r : Result Unit PassFault) → pass_state ≡ states.Inside old
    → ((pages : List MarkedPage) → TurnsPage does most i pages old new r)
    → OnErr r ((done ≡ done) × ((pages : List MarkedPage) → inside_of pages new ≡ pass_at pages pass_state))
page_stays does most i done pass_state old new (Ok x) is t = tt
page_stays does most i done pass_state old new (Err fault) is t = (refl, λ pages. (t pages).1 ∙ sym (ap (λ (s : PassState). pass_at pages s) is))

-- A result for an equal instruction in an equal state.
pub at_turn : (does : Acts) (most : ℕ) (op known : Op) (pass_state here : PassState) (pages : List MarkedPage) (new : PassStateView)
    (r : Result Unit PassFault) → op ≡ known → pass_state ≡ here
    → Executes does most (view known) (pass_at pages here) new r → Executes does most (view op) (pass_at pages pass_state) new r
at_turn does most op known pass_state here pages new r is at t =
    subst (λ (s : PassState). Executes does most (view op) (pass_at pages s) new r) (sym at) (subst (λ (o : Op). Executes does most (view o) (pass_at pages here) new r) (sym is) t)

-- A place that was reached is in range, so a meaning that ends there is kept.
pub reached_kept : (place : Option Spot) (p : Spot) (marks : List Mark) (s : DviState) → place ≡ Some p → option_map spot_position place ≡ reached_position s.place
    → kept_in (Some (marks, s)) ≡ Some (marks, s)
reached_kept place p marks s is e = go (in_range s.place.h && in_range s.place.v) (sym (ap (λ (o : Option Spot). option_map spot_position o) is) ∙ e) (Some (marks, s))
  where
    go : (b : Bool) → Some (spot_position p) ≡ (if b then Some s.place else None) → (m : Meaning) → (if b then m else None) ≡ m
    go true e m = refl
    go false e m = absurd cc

-- Memory is refused for a mark at a place that was reached.
pub no_space : (place : Option Spot) (p : Spot) (mark : Option PassMark) (one : PassMark) (to : Position) (pages : List MarkedPage)
    (old new : OpenPage) → place ≡ Some p → mark ≡ Some one
    → option_map spot_position place ≡ reached_position to → inside_of pages new ≡ inside_of pages old → Draws {A = Unit {0}} (meaning_towards (marks_in mark) to old) pages old new (Err OutOfMemory)
no_space place p mark one to pages old new at is e same =
    let t : DviState = record { place = to; font = old.state.font } in
    subst (λ (m : Option PassMark). Draws {A = Unit {0}} (meaning_towards (marks_in m) to old) pages old new (Err OutOfMemory)) (sym is)
    ((mark_of one, t, reached_kept place p (mark_of one ∷ []) t at e), same)

-- Where a rule is broken, the pass stops.
pub broken_turn : (does : Acts) (most : ℕ) (i : Instruction) (p : PassStateView) (cause : DviCause) → BreaksTurn does most i p cause → execute (bounded_acts does) most i p ≡ None
broken_turn does most (Do Nop) (Between pages) Opcode b = absurd (b tt)
broken_turn does most (Do (FontDef d)) (Between pages) Opcode b = absurd (b tt)
broken_turn does most (Bop counts pointer) (Between pages) Opcode b = absurd (b tt)
broken_turn does most i (Between pages) Opcode b = refl
broken_turn does most (Do leaf) (Inside pages counts marks stack s) Opcode b = absurd (b tt)
broken_turn does most Push (Inside pages counts marks stack s) Opcode b = absurd (b tt)
broken_turn does most Pop (Inside pages counts marks stack s) Opcode b = absurd (b tt)
broken_turn does most Eop (Inside pages counts marks stack s) Opcode b = absurd (b tt)
broken_turn does most i (Inside pages counts marks stack s) Opcode b = refl
broken_turn does most Push (Inside pages counts marks stack s) Stack b = rw (le-ltb (length stack) most b) refl
broken_turn does most Pop (Inside pages counts marks stack s) Stack b = ap (λ (stack : List Position). popped_state pages counts marks stack s) b
broken_turn does most Eop (Inside pages counts marks [] s) Stack b = absurd (b refl)
broken_turn does most Eop (Inside pages counts marks (p ∷ stack) s) Stack b = refl
broken_turn does most (Do leaf) (Inside pages counts marks stack s) Glyph b = rw b refl
broken_turn does most (Do leaf) (Inside pages counts marks stack s) Range b = rw (b.1) refl
broken_turn does most i p cause b = absurd b
