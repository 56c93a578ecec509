-- A page begins or ends, or the mark of an instruction comes next.
use Rattle.std.proofs.Common.{rules, ◌≡◌, false, true, ap, refl, sym}
use Rattle.dvi_ops.specs.Body.{instruction_acts, bounded_acts}
use Rattle.dvi_ops.specs.Instruction.{Instruction}
use Rattle.dvi_ops.specs.View.{view}
use Rattle.dvi_read.specs.PageMarks.{read_width}
use Rattle.dvi_read.specs.PageMarks.{text_place}
use Rattle.dvi_read.proofs.SeenItemLemmas.{began, drawn_texts, draws_on, drew, ended, no_eop, read_first, text_shown}
use Rattle.dvi_read.proofs.TextLemmas.{none_outside, place_shown}
use Rattle.dvi_read.proofs.seen_items.SeenItems.take.Goals as goal

pub returns-then-not-self-clause-next : goal.returns-then-not-self-clause-next
returns-then-not-self-clause-next c = λ seen a.
    let s = c.args.self.now in
    let outside : s.inside ≡ false = search rules in
    let fact : c.begin.result ≡ true = search rules in
    began (view c.args.op.now) s seen a c.begin.new.page outside (c.begin.ensures.yes fact (bounded_acts (instruction_acts (read_width s.file.now.fonts))) s.file.now.most a.pages) c.begin.ensures.none c.begin.ensures.places (c.begin.ensures.font fact)

pub returns-in-Eop-clause-next : goal.returns-in-Eop-clause-next
returns-in-Eop-clause-next c = λ seen a.
    let s = c.args.self.now in
    let within : s.inside ≡ true = search rules in
    ended (view c.args.op.now) s seen a within (ap view c.in-Eop.is)

pub draw-drawn-requires : goal.draw-drawn-requires
draw-drawn-requires c =
    let s = c.args.self.now in
    let i = view c.args.op.now in
    let (seen, a) = c.requires in
    let within : s.inside ≡ true = search rules in
    record { ready = a.ready; codes = a.rest.codes; read = read_first i s seen a; stays = no_eop c.args.op.now c.in_default.not-Eop; goes_on = draws_on i s seen within a }

pub returns-in-Some : goal.returns-in-Some
returns-in-Some c =
    let s = c.args.self.now in
    let within : s.inside ≡ true = search rules in
    let draw = c.draw-drawn.ensures in
    let (seen, a) = c.requires in
    let texts = drawn_texts (view c.args.op.now) s seen a c.draw-drawn.new.page c.draw-drawn.result within draw.draws in
    record {
      next = λ seen a. drew (view c.args.op.now) s seen a c.draw-drawn.new.current c.draw-drawn.new.page c.draw-drawn.result _ within draw.counts draw.ready draw.draws c.in-Some.is;
      place = refl;
      text = text_shown (view c.args.op.now) c.draw-drawn.result _ texts c.in-Some.is;
      begins = λ end. place_shown end (view c.args.op.now) c.draw-drawn.result _ texts c.in-Some.is;
      same = refl;
    }

pub returns-in-None : goal.returns-in-None
returns-in-None c =
    let s = c.args.self.now in
    let within : s.inside ≡ true = search rules in
    let draw = c.draw-drawn.ensures in
    let (seen, a) = c.requires in
    let texts = drawn_texts (view c.args.op.now) s seen a c.draw-drawn.new.page c.draw-drawn.result within draw.draws in
    record {
      next = λ seen a. drew (view c.args.op.now) s seen a c.draw-drawn.new.current c.draw-drawn.new.page c.draw-drawn.result _ within draw.counts draw.ready draw.draws c.in-None.is;
      place = refl;
      text = text_shown (view c.args.op.now) c.draw-drawn.result _ texts c.in-None.is;
      begins = λ end. place_shown end (view c.args.op.now) c.draw-drawn.result _ texts c.in-None.is;
      same = refl;
    }

pub returns-then-not-self-clause-begins : goal.returns-then-not-self-clause-begins
returns-then-not-self-clause-begins c = λ end.
    let s = c.args.self.now in
    let (seen, a) = c.requires in
    let outside : s.inside ≡ false = search rules in none_outside end (view c.args.op.now) s seen a outside

pub returns-then-not-begin-clause-begins : goal.returns-then-not-begin-clause-begins
returns-then-not-begin-clause-begins c = λ end.
    let s = c.args.self.now in
    let (seen, a) = c.requires in
    let outside : s.inside ≡ false = search rules in none_outside end (view c.args.op.now) s seen a outside

pub returns-in-Eop-clause-begins : goal.returns-in-Eop-clause-begins
returns-in-Eop-clause-begins c = λ end. sym (ap (λ (i : Instruction). text_place end i) (ap view c.in-Eop.is))
