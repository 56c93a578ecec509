-- The next instruction is there, and it is taken.
use Rattle.std.proofs.Common.{ℕ, arith, subst, sym}
use Rattle.dvi_ops.specs.View.{view}
use Rattle.dvi_read.specs.ItemsLeft.{EndsText}
use Rattle.dvi_read.proofs.SeenItemLemmas.{now_read, one_there, text_ends}
use Rattle.dvi_read.proofs.TextLemmas.{texts_passed}
use Rattle.dvi_read.proofs.seen_items.SeenItems.step.Goals as goal

pub unreachable-requires : goal.unreachable-requires
unreachable-requires c =
    let (seen, a) = c.requires.remaining in one_there c.args.self.now seen c.requires.more a c.in_default.ensures.none

pub take-requires : goal.take-requires
take-requires c =
    let (seen, a) = c.requires.remaining in
    let found = c.in-Ok.ensures in (seen, now_read c.args.self.now seen (view c.in-Ok.op) c.in-Ok.next found.after found.end_bounded found.found a)

pub returns-clause-next : goal.returns-clause-next
returns-clause-next c = λ seen a.
    let found = c.in-Ok.ensures in c.take.ensures.next seen (now_read c.args.self.now seen (view c.in-Ok.op) c.in-Ok.next found.after found.end_bounded found.found a)

pub returns-clause-text : goal.returns-clause-text
returns-clause-text c =
    let s = c.args.self.now in
    let (seen, a) = c.requires.remaining in
    let found = c.in-Ok.ensures in
    let high = a.rest.high in
    subst (λ (n : ℕ). EndsText s.file.now.bytes.now n c.take.result) (sym c.take.ensures.place)
    (text_ends s.file.now.bytes.now s.at c.in-Ok.next (view c.in-Ok.op) c.take.result a.rest.small found.after (omega (arith, found.end_bounded, high)) found.found c.take.ensures.text)

pub returns-clause-texts : goal.returns-clause-texts
returns-clause-texts c = λ places has.
    let s = c.args.self.now in
    let (seen, a) = c.requires.remaining in
    let found = c.in-Ok.ensures in
    texts_passed s c.take.new.self c.in-Ok.next (view c.in-Ok.op) c.take.result places (omega (arith, found.after)) found.end_bounded a.rest.high found.found c.take.ensures.place c.take.ensures.same
    (c.take.ensures.begins c.in-Ok.next) has
