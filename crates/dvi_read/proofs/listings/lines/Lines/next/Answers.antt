-- What is seen next gives the next line; without it no line is left.
use Rattle.std.proofs.Common.{List, ℕ, Option, ◌<◌, ◌≤◌, length, arith, refl, sym, subst}
use Rattle.dvi_read.specs.ItemsLeft.{GivesFirst, ShowsNext, lines_left}
use Rattle.dvi_read.specs.declared.listings.lines.Lines.{Lines}
use Rattle.dvi_read.specs.declared.seen_items.SeenItem.{SeenItem}
use Rattle.dvi_read.proofs.LineLemmas.{mark_fewer, mark_next, none_next, not_above, page_fewer, page_next, shown_within}
use Rattle.dvi_read.proofs.NextLines.{line_there}
use Rattle.dvi_read.proofs.listings.lines.Lines.next.Goals as goal

pub returns-in_default-next_item-clause-none : goal.returns-in_default-next_item-clause-none
returns-in_default-next_item-clause-none c = λ lines a fine.
    none_next c.args.self.now lines c.next_item.new.self c.in_default.is a
    (subst (λ (o : Option SeenItem). ShowsNext a.seen c.next_item.new.self o) c.in_default-next_item.is (c.next_item.ensures.next a.seen a.remaining))
    c.next_item.ensures.stays

pub overflow_add-self : goal.overflow_add-self
overflow_add-self c =
    let (lines, a) = c.requires in
    let counted = a.counted in
    let forward = c.in-Some-next_item.ensures.forward refl in
    let fits = c.next_item.ensures.fits in omega arith

pub returns-in-Page-clause-next : goal.returns-in-Page-clause-next
returns-in-Page-clause-next c = λ lines a fine.
    page_next c.args.self.now lines c.next_item.new.self c.in_default.is a c.in-Page.counts c.put_counts.new.part
    c.in-Some-next_item.item c.in-Page.is
    (subst (λ (o : Option SeenItem). ShowsNext a.seen c.next_item.new.self o) c.in-Some-next_item.is (c.next_item.ensures.next a.seen a.remaining))
    (c.in-Some-next_item.ensures.forward refl) c.put_counts.ensures

pub returns-in-Page-clause-filled : goal.returns-in-Page-clause-filled
returns-in-Page-clause-filled c = λ fine. subst (λ (bytes : List ℕ). 0 < length bytes) (sym c.put_counts.ensures) (line_there _ _)

pub returns-in-Page-clause-fewer : goal.returns-in-Page-clause-fewer
returns-in-Page-clause-fewer c = λ fine.
    let (lines, a) = c.requires in
    let shows = subst (λ (o : Option SeenItem). ShowsNext a.seen c.next_item.new.self o) c.in-Some-next_item.is
    (c.next_item.ensures.next a.seen a.remaining) in
    page_fewer c.args.self.now c.next_item.new.self c.next_item.ensures.same (c.in-Some-next_item.ensures.forward refl)
    (shown_within a.seen c.next_item.new.self c.in-Some-next_item.item shows)

pub returns-in-Mark-clause-next : goal.returns-in-Mark-clause-next
returns-in-Mark-clause-next c = λ lines a fine.
    subst (λ (l : Lines). GivesFirst lines c.put_mark.new.part l) (sym c.keep_text.ensures)
    (mark_next c.args.self.now lines c.next_item.new.self c.in_default.is a c.in-Mark.mark c.put_mark.new.part c.put_mark.result
    c.in-Some-next_item.item c.in-Mark.is
    (subst (λ (o : Option SeenItem). ShowsNext a.seen c.next_item.new.self o) c.in-Some-next_item.is (c.next_item.ensures.next a.seen a.remaining))
    (c.in-Some-next_item.ensures.forward refl) c.put_mark.ensures.all)

pub returns-in-Mark-clause-fewer : goal.returns-in-Mark-clause-fewer
returns-in-Mark-clause-fewer c = λ fine.
    let (lines, a) = c.requires in
    let shows = subst (λ (o : Option SeenItem). ShowsNext a.seen c.next_item.new.self o) c.in-Some-next_item.is
    (c.next_item.ensures.next a.seen a.remaining) in
    subst (λ (l : Lines). lines_left l < lines_left c.args.self.now) (sym c.keep_text.ensures)
    (mark_fewer c.args.self.now c.next_item.new.self c.put_mark.result c.next_item.ensures.same (c.in-Some-next_item.ensures.forward refl)
    (shown_within a.seen c.next_item.new.self c.in-Some-next_item.item shows))

pub returns-in-Mark-clause-no_more : goal.returns-in-Mark-clause-no_more
returns-in-Mark-clause-no_more c =
    let (lines, a) = c.requires in
    let shows = subst (λ (o : Option SeenItem). ShowsNext a.seen c.next_item.new.self o) c.in-Some-next_item.is
    (c.next_item.ensures.next a.seen a.remaining) in
    subst (λ (l : Lines). lines_left l ≤ lines_left c.args.self.now) (sym c.keep_text.ensures)
    (not_above _ _
    (mark_fewer c.args.self.now c.next_item.new.self c.put_mark.result c.next_item.ensures.same (c.in-Some-next_item.ensures.forward refl)
    (shown_within a.seen c.next_item.new.self c.in-Some-next_item.item shows)))
