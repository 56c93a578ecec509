use Rattle.std.proofs.Common.{◌≡◌, ◌∙◌, length, sym, subst, ap, arith, rules}
use Rattle.std.proofs.lemmas.List.{length-replicate}
use Rattle.break_lines.specs.Private.Marks.{IsMarked}
use Rattle.break_lines.specs.Private.SmallMarks.{AreSmallMarks}
use Rattle.break_lines.proofs.Ends.{some_place}
use Rattle.break_lines.proofs.Marked.{count_is}
use Rattle.break_lines.proofs.Walks.{few_places}
use Rattle.break_lines.proofs.list_meter.ListMeter.of.Goals as goal

pub is_steady-steady-requires : goal.is_steady-steady-requires
is_steady-steady-requires c =
    let marked : IsMarked c.args.nodes.now c.in-Some.marked.marks.items = rw c.in-Some.is at c.in_ok-marked.ensures.marks in
    record { marks_bounded = subst AreSmallMarks (sym c.deref.ensures.value) marked.small }

pub is_even-even-requires : goal.is_even-even-requires
is_even-even-requires c =
    let marked : IsMarked c.args.nodes.now c.in-Some.marked.marks.items = rw c.in-Some.is at c.in_ok-marked.ensures.marks in
    record { marks_bounded = subst AreSmallMarks (sym c.deref-2.ensures.value) marked.small }

pub invariant_of-meter : goal.invariant_of-meter
invariant_of-meter c =
    let list = c.args.nodes.now in
    let marks = c.in-Some.marked.marks.items in
    let marked : IsMarked list marks = rw c.in-Some.is at c.in_ok-marked.ensures.marks in
    let long : c.len.result ≡ length marks = search rules in
    record {
      nodes_bounded = c.requires.list_bounded;
      marked = marked.marks;
      has_legal_places = some_place list;
      marks_bounded = omega (arith, count_is list marks marked.marks, few_places list marked.fits);
      mark_sums_bounded = marked.small;
      rises = λ rising. c.is_steady-steady.ensures.yes list (c.deref.ensures.value ∙ marked.marks) rising;
      falls = λ steady. c.is_steady-steady.ensures.no list (c.deref.ensures.value ∙ marked.marks) steady;
      evens = λ even. c.is_even-even.ensures list (c.deref-2.ensures.value ∙ marked.marks) (rw c.in-Some.is at c.in_ok-marked.ensures.grows) even;
      counted = ap length c.in_ok-trials.ensures ∙ length-replicate c.len.result 0 ∙ long;
    }

pub returns-clause-sizes : goal.returns-clause-sizes
returns-clause-sizes c =
    record {
      places = rw c.in-Some.is at c.in_ok-marked.ensures.sizes;
      plain = rw c.in-Some.is at c.in_ok-marked.ensures.plain;
    }
