-- No rule is broken, no memory is refused, and the mark that an instruction makes comes after those that were seen.
use Rattle.std.proofs.Common.{rules, ◌≡◌, [], ◌++◌, true, IfSome, List, Option, Some, Err, ℤ, ap, refl, sym, subst, ◌∙◌, to_z, of_z, w32}
use Rattle.std.proofs.lemmas.Int.{ints}
use Rattle.scaled_core.specs.Mark.{Mark}
use Rattle.dvi_ops.specs.Body.{instruction_acts, bounded_acts}
use Rattle.dvi_ops.specs.Instruction.{Do, Instruction, SetChar}
use Rattle.dvi_ops.specs.View.{view}
use Rattle.dvi_scan.specs.Drawing.{constant_width}
use Rattle.dvi_scan.specs.Execution.{TurnsPage, inside_of}
use Rattle.dvi_scan.specs.Pass.{execute}
use Rattle.dvi_read.specs.PageMarks.{read_width}
use Rattle.dvi_read.specs.ReadFonts.{with_current}
use Rattle.dvi_read.specs.ItemsLeft.{pass_with}
use Rattle.dvi_read.proofs.SeenItemLemmas.{after_is, counts_after, current_after, few_marks, never_broken, no_memory, none_held, popped, ready_again}
use Rattle.dvi_read.proofs.seen_items.draw.Goals as goal

pub unreachable-requires : goal.unreachable-requires
unreachable-requires c =
    let fonts = with_current c.args.fonts.now c.args.current.now in
    let page = c.args.page.now in
    let i = view c.args.op.now in
    let fault = c.in_default-take.field-0 in
    let ready = c.requires.ready in
    let (pages, marks, after, goes) = c.requires.goes_on in
    never_broken c.args.most fonts i page ready pages marks after fault c.take.new.self goes
    (no_memory fault (c.in_default-take.ensures.space.taken ready.space))
    (subst (λ (w : Option ℤ). TurnsPage {A = Unit {0}} (instruction_acts (constant_width w)) c.args.most i [] page c.take.new.self (Err fault)) c.width_asked-width.ensures (c.in_default-take.ensures.turns []))

pub returns-clause-draws : goal.returns-clause-draws
returns-clause-draws c = λ pages marks after e.
    let fonts = with_current c.args.fonts.now c.args.current.now in
    let page = c.args.page.now in
    let mid = c.take.new.self in
    let i = view c.args.op.now in
    let turn = subst (λ (w : Option ℤ). execute (bounded_acts (instruction_acts (constant_width w))) c.args.most i (inside_of [] page) ≡ Some (inside_of [] mid)) c.width_asked-width.ensures (c.in-Ok.ensures.turns []) in
    let few = few_marks c.args.most fonts i page c.requires.ready mid turn in
    let (made, none) =
    popped mid.marks.items c.pop.new.self.items c.pop.result c.pop.ensures.items few (λ e. sym mid.marks.ok.0 ∙ none_held c.pop.result mid.marks.len c.pop.ensures.variant.1 e) in
    after_is c.args.most fonts i page c.requires.ready mid turn pages marks after e
    ∙ ap (λ (ms : List Mark). pass_with true pages (marks ++ ms) mid) made

pub returns-clause-counts : goal.returns-clause-counts
returns-clause-counts c =
    let page = c.args.page.now in
    let mid = c.take.new.self in
    let i = view c.args.op.now in
    let turn = subst (λ (w : Option ℤ). execute (bounded_acts (instruction_acts (constant_width w))) c.args.most i (inside_of [] page) ≡ Some (inside_of [] mid)) c.width_asked-width.ensures (c.in-Ok.ensures.turns []) in
    counts_after c.args.most (with_current c.args.fonts.now c.args.current.now) i page c.requires.ready mid turn

pub returns-clause-ready : goal.returns-clause-ready
returns-clause-ready c =
    let fonts = with_current c.args.fonts.now c.args.current.now in
    let page = c.args.page.now in
    let mid = c.take.new.self in
    let i = view c.args.op.now in
    let ready = c.requires.ready in
    let chosen = with_current c.args.fonts.now c.choose_font.new.current in
    let space = c.in-Ok.ensures.space in
    let turn = subst (λ (w : Option ℤ). execute (bounded_acts (instruction_acts (constant_width w))) c.args.most i (inside_of [] page) ≡ Some (inside_of [] mid)) c.width_asked-width.ensures (c.in-Ok.ensures.turns []) in
    let few = few_marks c.args.most fonts i page ready mid turn in
    let (made, none) =
    popped mid.marks.items c.pop.new.self.items c.pop.result c.pop.ensures.items few (λ e. sym mid.marks.ok.0 ∙ none_held c.pop.result mid.marks.len c.pop.ensures.variant.1 e) in
    ready_again c.args.most chosen page mid (record mid { marks = c.pop.new.self }) ready.space space.marks space.places none
    c.pop.ensures.capacity refl refl
    (λ f e. current_after c.args.most fonts i page ready mid turn chosen c.choose_font.ensures f e)

pub returns-in-Some-clause-draws : goal.returns-in-Some-clause-draws
returns-in-Some-clause-draws c = λ pages marks after e.
    let fonts = c.args.fonts.now in
    let page = c.args.page.now in
    let i = view c.args.op.now in
    let set : i ≡ Do (SetChar c.in-Some.code) = subst (λ (o : Option ℤ). IfSome o (λ (code : ℤ). i ≡ Do (SetChar code))) c.in-Some.is c.character_set.ensures in
    let same : c.in-Some.code ≡ to_z w32 (of_z w32 c.in-Some.code) = search (rules, ints) in
    let is : i ≡ Do (SetChar (to_z w32 (of_z w32 c.in-Some.code))) = set ∙ ap (λ (z : ℤ). Do (SetChar z)) same in
    c.set_character.ensures.draws c.args.most pages marks after
    (subst (λ (i : Instruction). execute (bounded_acts (instruction_acts (read_width fonts))) c.args.most i (pass_with true pages marks page)
    ≡ Some after) is e)
