-- Offers that are held back until the next line is known.
use Rattle.std.proofs.Common.{◌≡◌, ◌∙◌, ℕ, zero, suc, ◌+◌, ◌<◌, ◌≤◌, Bool, true, false, cond, ◌&&◌, List, [], ◌∷◌, ◌++◌, min, refl, ap, sym, subst, arith, Option, Some, None}
use Rattle.std.specs.Prelude.{ℤ, pos, neg_ℤ, ◌+ℤ◌, ◌<ℤ◌, ◌≤ℤ◌, slice_get, nat_le, nat_lt, IfSome}
use Rattle.std.proofs.Math.Logic.{◌⊎◌, inl, inr}
use Rattle.std.proofs.lemmas.Bool.{cases_lt, cond-true, cond-false}
use Rattle.std.proofs.lemmas.Int.{ints}
use Rattle.std.proofs.lemmas.Option.{same_Some}
use Rattle.node_core.specs.declared.params.Params.{Params}
use Rattle.break_lines.specs.declared.cost.Bound.{Bound}
use Rattle.break_lines.specs.declared.group.ActiveGroup.{ActiveGroup}
use Rattle.break_lines.specs.declared.sizes.LineFits.{LineFits}
use Rattle.break_lines.specs.declared.state.BreakState.{BreakState}
use Rattle.break_lines.specs.declared.state.LineCost.{LineCost}
use Rattle.break_lines.specs.declared.state.Fitness.{Fitness}
use Rattle.break_lines.specs.Costs.{admitted_line, line_alone, after_class, adjacent_demerits}
use Rattle.break_lines.proofs.Parts.{parts}
use Rattle.break_core.specs.declared.neighbours.Neighbours.{Neighbours}
use Rattle.break_lines.specs.Orders.{NotAfter}
use Rattle.break_lines.specs.Problems.{Problem, max_places, tie_numbers, end_after}
use Rattle.break_lines.specs.Sizes.{fit_after, IsSmallLineFits}
use Rattle.break_lines.specs.Ways.{last_forced_below}
use Rattle.break_lines.specs.Tables.{Entry, slot, slots, compared_numbers, extended_entry, IsOffered, IsMet, IsRow}
use Rattle.break_lines.proofs.Dictionary.{not_after_refl, not_after_trans, not_after_later}
use Rattle.break_lines.proofs.Reached.{IsExtended, extended_is, offer_is}
use Rattle.break_core.specs.declared.counted.HeldLine.{HeldLine}
use Rattle.break_core.specs.Private.Active.{IsNext}
use Rattle.break_core.specs.Private.Near.{HasMeeting, IsMetBy, AreAtMost, HasCover, IsCoveredBy}
use Rattle.break_core.specs.Private.Filling.{IsOf, CanOffer}
use Rattle.break_core.specs.Private.Held.{IsSkipped, IsHeldOffered, IsCostBelow, AreBelow, IsDropped, IsHolding, held_beyond, IsMetWithin, AreEarlier, IsRowBut, IsHeldBack, IsRowUpTo}
use Rattle.break_core.proofs.Active.{row_silent}
use Rattle.break_core.proofs.Near.{covered_self}

-- An entry whose line another problem has too is offered by that one.
offered_again :
    (p q : Problem) (table : List Entry) (b k : ℕ) (o : Entry)
    → q.cut ≡ p.cut → last_forced_below q b ≡ last_forced_below p b → (of : IsOffered p table b k o)
    → ((l : LineCost) → p.line of.by.end b ≡ Some l → q.line of.by.end b ≡ Some l) → IsOffered q table b k o
offered_again p q table b k o cut since of line =
    let ext = extended_is p of.by k b o of.offers in
    let late : last_forced_below q b ≤ of.by.end.place = omega (arith, since, ext.since) in
    record {
      by = of.by;
      present = of.present;
      offers = offer_is q of.by k b (Some ext.line) late (line ext.line ext.admitted)
          ∙ ap Some (ap (λ n. extended_entry n of.by k b ext.line) cut ∙ sym ext.is);
    }

-- The places of the entries with offers, one group further.
pub earlier_next :
    (p : Problem) (stop : ℕ → ℕ → Bool) (table : List Entry) (b at low : ℕ) (g : ActiveGroup)
    → b ≤ p.places → IsNext p stop table b at low g → AreEarlier p table b at low → AreEarlier p table b g.end (g.place + 1)
earlier_next p stop table b at low g within next is k o below of = cases (cases_lt k at) (cases_lt k g.start)
  where
    cases : (k < at) ⊎ (at ≤ k) → (k < g.start) ⊎ (g.start ≤ k) → of.by.end.place < g.place + 1
    cases (inl before) _ = omega (arith, is k o before of, next.later)
    cases (inr after) (inl before) =
        let none = next.silent k of.by after before of.present b (omega arith) within in
        let some = of.offers in
        absurd (cc)
    cases (inr after) (inr here) = omega (arith, next.group.entries k of.by here below of.present)

-- Entries up to the next group that have offers are before it, and those of the group are at its place.
earlier_before :
    (p : Problem) (stop : ℕ → ℕ → Bool) (table : List Entry) (b at low : ℕ) (g : ActiveGroup)
    → b ≤ p.places → IsNext p stop table b at low g → AreEarlier p table b at low → AreEarlier p table b g.start g.place
earlier_before p stop table b at low g within next is k o below of = cases (cases_lt k at)
  where
    cases : (k < at) ⊎ (at ≤ k) → of.by.end.place < g.place
    cases (inl before) = omega (arith, is k o before of, next.later)
    cases (inr after) =
        let none = next.silent k of.by after below of.present b (omega arith) within in
        let some = of.offers in
        absurd (cc)

-- The next group is held back.
pub but_start :
    (p : Problem) (stop : ℕ → ℕ → Bool) (table : List Entry) (b at low : ℕ) (g : ActiveGroup) (row : List (Option Entry))
    → b ≤ p.places → IsNext p stop table b at low g → AreEarlier p table b at low → IsRow p table b at row → IsRowBut p table b g g.end row
but_start p stop table b at low g row within next early is =
    record {
      q = p;
      cut = refl;
      since = refl;
      same = λ s later. refl;
      fewer = λ s l here. here;
      front = row_silent p table b at g.start row next.gap within next.silent is;
      met = λ k o below of. met k o below of (cases_lt k g.start);
      earlier = earlier_before p stop table b at low g within next early;
      later = λ k o from to of. omega (arith, next.group.entries k of.by from to of.present);
      rises = next.group.rises;
      within = omega arith;
    }
  where
    met :
        (k : ℕ) (o : Entry) → k < g.end → IsOffered p table b k o → (k < g.start) ⊎ (g.start ≤ k)
        → ((k < g.start) × IsOffered p table b k o) ⊎ IsMetWithin p table b g.start g.end o
    met k o below of (inl before) = inl (before, of)
    met k o below of (inr here) =
        inr (record { index = k; low = here; high = below; other = o; offered = of; same = refl; before = not_after_refl (compared_numbers o) })

-- A problem without the lines from these places.
without : Problem → (low high : ℕ) → Problem
without q low high =
    record { places = q.places; forced = q.forced; cut = q.cut; line = λ s x. cond (nat_le low s.place && nat_lt s.place high) None (q.line s x) }

without_since : (q : Problem) (low high b : ℕ) → last_forced_below (without q low high) b ≡ last_forced_below q b
unfolding without
without_since q low high zero = refl
without_since q low high (suc b) = ap (cond (q.forced b) b) (without_since q low high b)

without_cut : (q : Problem) (low high : ℕ) → (without q low high).cut ≡ q.cut
unfolding without
without_cut q low high = refl

-- The lines that stay, and those that do not.
within_test : (low high n : ℕ) → low ≤ n → n < high → (nat_le low n && nat_lt n high) ≡ true
within_test low high n from to = grind arith

before_test : (low high n : ℕ) → n < low → (nat_le low n && nat_lt n high) ≡ false
before_test low high n less = grind arith

after_test : (low high n : ℕ) → high ≤ n → (nat_le low n && nat_lt n high) ≡ false
after_test low high n more = grind arith

line_before : (q : Problem) (low high b : ℕ) (s : BreakState) → s.place < low → (without q low high).line s b ≡ q.line s b
unfolding without
line_before q low high b s less =
    cond-false (nat_le low s.place && nat_lt s.place high) None (q.line s b) (before_test low high s.place less)

line_after : (q : Problem) (low high b : ℕ) (s : BreakState) → high ≤ s.place → (without q low high).line s b ≡ q.line s b
unfolding without
line_after q low high b s more =
    cond-false (nat_le low s.place && nat_lt s.place high) None (q.line s b) (after_test low high s.place more)

line_within : (q : Problem) (low high b : ℕ) (s : BreakState) → low ≤ s.place → s.place < high → (without q low high).line s b ≡ None
unfolding without
line_within q low high b s from to =
    cond-true (nat_le low s.place && nat_lt s.place high) None (q.line s b) (within_test low high s.place from to)

line_fewer : (q : Problem) (low high b : ℕ) (s : BreakState) (l : LineCost) → (without q low high).line s b ≡ Some l → q.line s b ≡ Some l
unfolding without
line_fewer q low high b s l is = cases (nat_le low s.place && nat_lt s.place high) (q.line s b) is
  where
    cases : (t : Bool) (x : Option LineCost) → cond t None x ≡ Some l → x ≡ Some l
    cases true x here = absurd (cc)
    cases false x here = here

-- The group that was held back is passed over, since the next one meets it, and that one is held back.
pub but_next :
    (p : Problem) (stop : ℕ → ℕ → Bool) (table : List Entry) (b n low : ℕ) (h g : ActiveGroup) (row : List (Option Entry))
    → b ≤ p.places → IsNext p stop table b n low g → AreEarlier p table b n low → h.place < g.place
    → ((k : ℕ) (o : Entry) → h.start ≤ k → k < h.end → IsOffered p table b k o → IsMetWithin p table b g.start g.end o)
    → IsRowBut p table b h n row → IsRowBut p table b g g.end row
unfolding offered_again
but_next p stop table b n low h g row within next early rising meets is =
    record {
      q = without is.q h.place g.place;
      cut = cut;
      since = since;
      same = λ s later. line_after is.q h.place g.place b s later ∙ is.same s (omega (arith, later, rising));
      fewer = λ s l here. is.fewer s l (line_fewer is.q h.place g.place b s l here);
      front = record {
        wide = is.front.wide ∙ ap slots (sym (without_cut is.q h.place g.place));
        held = λ s o at.
            let held = is.front.held s o at in
            record {
              k = held.k;
              below = omega (arith, held.below, is.rises, is.within, next.gap);
              offered = stays held.k o held.below held.offered;
              here = held.here;
            };
        met = λ k o below of. old k o below of (cases_lt k h.start) (cases_lt k n);
      };
      met = λ k o below of. met k o below of (cases_lt k g.start) (cases_lt k n);
      earlier = earlier_before p stop table b n low g within next early;
      later = λ k o from to of. omega (arith, next.group.entries k of.by from to of.present);
      rises = next.group.rises;
      within = omega arith;
    }
  where
    cut : (without is.q h.place g.place).cut ≡ p.cut
    cut = without_cut is.q h.place g.place ∙ is.cut

    since : last_forced_below (without is.q h.place g.place) b ≡ last_forced_below p b
    since = without_since is.q h.place g.place b ∙ is.since

    -- Offers of the problem that is left are offers of the one before, and of all.
    first : (k : ℕ) (o : Entry) → IsOffered (without is.q h.place g.place) table b k o → IsOffered is.q table b k o
    first k o of =
        offered_again (without is.q h.place g.place) is.q table b k o (sym (without_cut is.q h.place g.place)) (sym (without_since is.q h.place g.place b)) of
        (λ l here. line_fewer is.q h.place g.place b of.by.end l here)

    all : (k : ℕ) (o : Entry) → IsOffered is.q table b k o → IsOffered p table b k o
    all k o of = offered_again is.q p table b k o (sym is.cut) (sym is.since) of (λ l here. is.fewer of.by.end l here)

    -- An offer from before the group that is passed over stays.
    stays : (k : ℕ) (o : Entry) → k < h.start → IsOffered is.q table b k o → IsOffered (without is.q h.place g.place) table b k o
    stays k o below of =
        let less : of.by.end.place < h.place = is.earlier k o below (all k o of) in
        offered_again is.q (without is.q h.place g.place) table b k o (without_cut is.q h.place g.place) (without_since is.q h.place g.place b) of
        (λ l here. line_before is.q h.place g.place b of.by.end less ∙ here)

    old :
        (k : ℕ) (o : Entry) → k < g.start → IsOffered (without is.q h.place g.place) table b k o → (k < h.start) ⊎ (h.start ≤ k) → (k < n) ⊎ (n ≤ k)
        → IsMet row o
    old k o below of (inl before) _ = is.front.met k o before (first k o of)
    old k o below of (inr after) (inl before) =
        let whole = all k o (first k o of) in
        let from : h.place ≤ of.by.end.place = is.later k o after before whole in
        let to : of.by.end.place < g.place = omega (arith, early k o before whole, next.later) in
        let ext = extended_is (without is.q h.place g.place) of.by k b o of.offers in
        let none = line_within is.q h.place g.place b of.by.end from to in
        let some = ext.admitted in
        absurd (cc)
    old k o below of (inr after) (inr past) =
        let whole = all k o (first k o of) in
        let none = next.silent k of.by past below of.present b (omega arith) within in
        let some = whole.offers in
        absurd (cc)

    met :
        (k : ℕ) (o : Entry) → k < g.end → IsOffered p table b k o → (k < g.start) ⊎ (g.start ≤ k) → (k < n) ⊎ (n ≤ k)
        → ((k < g.start) × IsOffered (without is.q h.place g.place) table b k o) ⊎ IsMetWithin p table b g.start g.end o
    met k o below of (inr here) _ =
        inr (record { index = k; low = here; high = below; other = o; offered = of; same = refl; before = not_after_refl (compared_numbers o) })
    met k o below of (inl before) (inr past) =
        let none = next.silent k of.by past before of.present b (omega arith) within in
        let some = of.offers in
        absurd (cc)
    met k o below of (inl before) (inl there) = cases (is.met k o there of)
      where
        cases :
            ((k < h.start) × IsOffered is.q table b k o) ⊎ IsMetWithin p table b h.start h.end o
            → ((k < g.start) × IsOffered (without is.q h.place g.place) table b k o) ⊎ IsMetWithin p table b g.start g.end o
        cases (inl front) = inl (before, stays k o front.0 front.1)
        cases (inr m) =
            let by = meets m.index m.other m.low m.high m.offered in
            inr (record {
              index = by.index;
              low = by.low;
              high = by.high;
              other = by.other;
              offered = by.offered;
              same = by.same ∙ m.same;
              before = not_after_trans (compared_numbers by.other) (compared_numbers m.other) (compared_numbers o) by.before m.before;
            })

-- The offers that were held back were made: the row is that of all entries.
pub but_offered :
    (p : Problem) (table : List Entry) (b n : ℕ) (h : ActiveGroup) (old new : List (Option Entry))
    → (is : IsRowBut p table b h n old) → IsRow is.q table b h.end new → IsRow p table b n new
but_offered p table b n h old new is made =
    record {
      wide = made.wide ∙ ap slots is.cut;
      held = λ s o at.
          let held = made.held s o at in
          record { k = held.k; below = omega (arith, held.below, is.within); offered = all held.k o held.offered; here = held.here };
      met = λ k o below of. cases o (is.met k o below of);
    }
  where
    all : (k : ℕ) (o : Entry) → IsOffered is.q table b k o → IsOffered p table b k o
    all k o of = offered_again is.q p table b k o (sym is.cut) (sym is.since) of (λ l here. is.fewer of.by.end l here)

    cases : {k : ℕ} (o : Entry) → ((k < h.start) × IsOffered is.q table b k o) ⊎ IsMetWithin p table b h.start h.end o → IsMet new o
    cases {k} o (inl front) = made.met k o (omega (arith, front.0, is.rises)) front.1
    cases o (inr m) =
        let at : h.place ≤ m.offered.by.end.place = is.later m.index m.other m.low (omega (arith, m.high, is.within)) m.offered in
        let again = offered_again p is.q table b m.index m.other is.cut is.since m.offered (λ l here. is.same m.offered.by.end at ∙ here) in
        let found = made.met m.index m.other m.high again in
        record {
          held = found.held;
          present = subst (λ s. slice_get new (slot s) ≡ Some (Some found.held)) m.same found.present;
          same = found.same ∙ m.same;
          before = not_after_trans (compared_numbers found.held) (compared_numbers m.other) (compared_numbers o) found.before m.before;
        }

-- The same line after an entry that is as good, from a later place, makes the better offer for the same state.
better_numbers :
    (a b c d x y : ℤ) (ends : List ℤ) (e f : BreakState) (es fs : List ℤ) → e.place < f.place → NotAfter (a ∷ b ∷ fs) (c ∷ d ∷ es)
    → NotAfter ((a +ℤ x) ∷ (b +ℤ y) ∷ (ends ++ tie_numbers (f ∷ []))) ((c +ℤ x) ∷ (d +ℤ y) ∷ (ends ++ tie_numbers (e ∷ [])))
better_numbers a b c d x y ends e f es fs later (inl less) = inl (omega (arith, ints))
better_numbers a b c d x y ends e f es fs later (inr (same, inl less)) = inr (ap (λ z. z +ℤ x) same, inl (omega (arith, ints)))
better_numbers a b c d x y ends e f es fs later (inr (same, inr (equal, rest))) =
    let first : neg_ℤ (pos f.place) <ℤ neg_ℤ (pos e.place) = omega (arith, ints) in
    inr (ap (λ z. z +ℤ x) same, inr (ap (λ z. z +ℤ y) equal, not_after_later ends (tie_numbers (f ∷ [])) (tie_numbers (e ∷ [])) (inl first)))

better_offer :
    (cut k j b : ℕ) (e f : Entry) (l : LineCost)
    → f.end.lines ≡ e.end.lines → e.end.place < f.end.place → NotAfter (compared_numbers f) (compared_numbers e)
    → ((extended_entry cut f j b l).end ≡ (extended_entry cut e k b l).end)
    × NotAfter (compared_numbers (extended_entry cut f j b l)) (compared_numbers (extended_entry cut e k b l))
better_offer cut k j b e f l lines later good = (
  ends,
  subst (λ s. NotAfter (compared_numbers (extended_entry cut f j b l)) ((e.overhang +ℤ l.overhang) ∷ (e.demerits +ℤ l.demerits) ∷ (tie_numbers (s ∷ []) ++ tie_numbers (e.end ∷ [])))) ends
      (better_numbers f.overhang f.demerits e.overhang e.demerits l.overhang l.demerits (tie_numbers (end_after cut f.end b l ∷ [])) e.end f.end
      (tie_numbers (e.end ∷ e.from ∷ [])) (tie_numbers (f.end ∷ f.from ∷ [])) later good),
)
  where
    ends : end_after cut f.end b l ≡ end_after cut e.end b l
    ends = ap (λ n. record { place = b; lines = min (n + 1) cut; class = l.class }) lines

-- The offers by a line are met by those by the next line, if that is judged alike and its group meets the other one.
pub line_met :
    (p : Problem) (stop : ℕ → ℕ → Bool) (params : Params) (bound : Bound) (table : List Entry) (b n low : ℕ) (penalty : ℤ) (held next : HeldLine)
    → IsNext p stop table b n low next.group → held.group.place < next.group.place
    → IsMetBy table held.group next.group → next.left_out ≡ false → held.line ≡ next.line → IsOf params.first_lines table held.group
    → ((s : BreakState) → s.place ≡ held.group.place
    → p.line s b ≡ cond held.left_out None (admitted_line params bound penalty s.class (fit_after params.first_lines s.lines held.line)))
    → ((s : BreakState) → s.place ≡ next.group.place
    → p.line s b ≡ cond next.left_out None (admitted_line params bound penalty s.class (fit_after params.first_lines s.lines next.line)))
    → (k : ℕ) (o : Entry) → held.group.start ≤ k → k < held.group.end → IsOffered p table b k o
    → IsMetWithin p table b next.group.start next.group.end o
line_met p stop params bound table b n low penalty held next is rising met kept alike entries line line_next k o from to of =
    record {
      index = m.index;
      low = m.low;
      high = m.high;
      other = extended_entry p.cut m.entry m.index b ext.line;
      offered = record {
        by = m.entry;
        present = m.present;
        offers = offer_is p m.entry m.index b (Some ext.line) (omega (arith, is.group.since, at)) admitted;
      };
      same = better.0 ∙ ap (λ x. x.end) (sym ext.is);
      before = subst (λ x. NotAfter (compared_numbers (extended_entry p.cut m.entry m.index b ext.line)) (compared_numbers x)) (sym ext.is) better.1;
    }
  where
    ext : IsExtended p of.by k b o
    ext = extended_is p of.by k b o of.offers

    m : HasMeeting table next.group of.by
    m = met.each k of.by from to of.present

    was : of.by.end.place ≡ held.group.place
    was = (entries k of.by from to of.present).0

    at : m.entry.end.place ≡ next.group.place
    at = is.group.entries m.index m.entry m.low m.high m.present

    chosen : (t : Bool) (x : Option LineCost) (l : LineCost) → cond t None x ≡ Some l → x ≡ Some l
    chosen true x l here = absurd (cc)
    chosen false x l here = here

    fit : BreakState → LineFits → Option LineCost
    fit s line = admitted_line params bound penalty s.class (fit_after params.first_lines s.lines line)

    first : admitted_line params bound penalty of.by.end.class (fit_after params.first_lines of.by.end.lines held.line) ≡ Some ext.line
    first = chosen held.left_out _ ext.line (sym (line of.by.end was) ∙ ext.admitted)

    admitted : p.line m.entry.end b ≡ Some ext.line
    admitted =
        line_next m.entry.end at
        ∙ ap (λ t. cond t None (admitted_line params bound penalty m.entry.end.class (fit_after params.first_lines m.entry.end.lines next.line))) kept
        ∙ ap (λ class. admitted_line params bound penalty class (fit_after params.first_lines m.entry.end.lines next.line)) m.class
        ∙ ap (λ lines. admitted_line params bound penalty of.by.end.class (fit_after params.first_lines lines next.line)) m.lines
        ∙ ap (λ fits. admitted_line params bound penalty of.by.end.class (fit_after params.first_lines of.by.end.lines fits)) (sym alike) ∙ first

    better :
        ((extended_entry p.cut m.entry m.index b ext.line).end ≡ (extended_entry p.cut of.by k b ext.line).end)
        × NotAfter (compared_numbers (extended_entry p.cut m.entry m.index b ext.line)) (compared_numbers (extended_entry p.cut of.by k b ext.line))
    better = better_offer p.cut k m.index b of.by m.entry ext.line m.lines (omega (arith, was, at, rising)) m.as_good

-- The offers by the line that was held back were made.
pub held_offered :
    (p : Problem) (params : Params) (bound : Bound) (table : List Entry) (b n low : ℕ) (penalty : ℤ) (held : Option HeldLine) (old new : List (Option Entry))
    → p.cut ≡ params.first_lines → IsRowUpTo p params bound table b penalty held n low old → IsHeldOffered table params bound b penalty held old new
    → IsRow p table b n new
held_offered p params bound table b n low penalty None old new cut is made = subst (IsRow p table b n) (sym made) is
held_offered p params bound table b n low penalty (Some held) old new cut is made =
    but_offered p table b n held.group old new is.but
    (made is.but.q (is.but.cut ∙ cut) (omega (arith, is.but.since, is.since))
    (λ s at. is.but.same s (omega (arith, at)) ∙ is.line s at) is.but.front)

-- The offers of the next group are met by those that are held back.
pub but_more :
    (p : Problem) (stop : ℕ → ℕ → Bool) (table : List Entry) (b n low : ℕ) (h g : ActiveGroup) (row : List (Option Entry))
    → b ≤ p.places → IsNext p stop table b n low g → h.place < low
    → ((k : ℕ) (o : Entry) → g.start ≤ k → k < g.end → IsOffered p table b k o → IsMetWithin p table b h.start h.end o)
    → IsRowBut p table b h n row → IsRowBut p table b h g.end row
but_more p stop table b n low h g row within next before meets is =
    record {
      q = is.q;
      cut = is.cut;
      since = is.since;
      same = is.same;
      fewer = is.fewer;
      front = is.front;
      met = λ k o below of. met k o below of (cases_lt k n) (cases_lt k g.start);
      earlier = is.earlier;
      later = λ k o from to of. later k o from to of (cases_lt k n) (cases_lt k g.start);
      rises = is.rises;
      within = omega (arith, is.within, next.gap, next.group.rises);
    }
  where
    met :
        (k : ℕ) (o : Entry) → k < g.end → IsOffered p table b k o → (k < n) ⊎ (n ≤ k) → (k < g.start) ⊎ (g.start ≤ k)
        → ((k < h.start) × IsOffered is.q table b k o) ⊎ IsMetWithin p table b h.start h.end o
    met k o below of (inl there) _ = is.met k o there of
    met k o below of (inr past) (inl gap) =
        let none = next.silent k of.by past gap of.present b (omega arith) within in
        let some = of.offers in
        absurd (cc)
    met k o below of (inr past) (inr here) = inr (meets k o here below of)

    later :
        (k : ℕ) (o : Entry) → h.start ≤ k → k < g.end → (of : IsOffered p table b k o) → (k < n) ⊎ (n ≤ k) → (k < g.start) ⊎ (g.start ≤ k)
        → h.place ≤ of.by.end.place
    later k o from to of (inl there) _ = is.later k o from there of
    later k o from to of (inr past) (inl gap) =
        let none = next.silent k of.by past gap of.present b (omega arith) within in
        let some = of.offers in
        absurd (cc)
    later k o from to of (inr past) (inr here) = omega (arith, next.group.entries k of.by here to of.present, next.later, before)

-- What a group covers covers with it.
at_most_trans : (a b c : Entry) → AreAtMost a b → AreAtMost b c → AreAtMost a c
at_most_trans a b c (inl h) (inl k) = inl (omega (arith, ints))
at_most_trans a b c (inl h) (inr k) = inl (omega (arith, ints, k.0))
at_most_trans a b c (inr h) (inl k) = inl (omega (arith, ints, h.0))
at_most_trans a b c (inr h) (inr k) = inr (h.0 ∙ k.0, omega (arith, ints, h.1, k.1))

covered_trans : (table : List Entry) (g middle by : ActiveGroup) → IsCoveredBy table g middle → IsCoveredBy table middle by → IsCoveredBy table g by
covered_trans table g middle by first second =
    record {
      within = first.within;
      each = λ k e from to there.
          let m = first.each k e from to there in
          let l = second.each m.index m.entry m.low m.high m.present in
          record {
            index = l.index;
            low = l.low;
            high = l.high;
            entry = l.entry;
            present = l.present;
            lines = l.lines ∙ m.lines;
            class = l.class ∙ m.class;
            at_most = at_most_trans l.entry m.entry e l.at_most m.at_most;
          };
    }

-- Costs that are below others, with the demerits for the class of the line before.
after_below :
    (params : Params) (before : Fitness) (a b : Option LineCost) → IsCostBelow a b → IsCostBelow (after_class params before a) (after_class params before b)
unfolding after_class
after_below params before a None is = tt
after_below params before None (Some b) is = absurd is
after_below params before (Some a) (Some b) (class, inl less) = (class, inl less)
after_below params before (Some a) (Some b) (class, inr (same, less)) =
    let extra : adjacent_demerits params before a.class ≡ adjacent_demerits params before b.class = ap (adjacent_demerits params before) class in
    (class, inr (same, omega (arith, ints, extra, less)))

pub fits_below :
    (params : Params) (bound : Bound) (penalty : ℤ) (a b : LineFits)
    → IsCostBelow (line_alone params bound penalty a.first) (line_alone params bound penalty b.first)
    → IsCostBelow (line_alone params bound penalty a.rest) (line_alone params bound penalty b.rest) → AreBelow params bound penalty a b
fits_below params bound penalty a b below_first below_rest lines before =
    subst (λ x. IsCostBelow x (admitted_line params bound penalty before (fit_after params.first_lines lines b)))
    (parts params bound penalty before (fit_after params.first_lines lines a))
    (subst (IsCostBelow (after_class params before (line_alone params bound penalty (fit_after params.first_lines lines a))))
    (parts params bound penalty before (fit_after params.first_lines lines b))
    (after_below params before (line_alone params bound penalty (fit_after params.first_lines lines a))
    (line_alone params bound penalty (fit_after params.first_lines lines b)) (cases (nat_lt lines params.first_lines))))
  where
    cases : (t : Bool) → IsCostBelow (line_alone params bound penalty (cond t a.first a.rest)) (line_alone params bound penalty (cond t b.first b.rest))
    cases true = below_first
    cases false = below_rest

-- A line that costs less than one that is admitted.
record Below (a : Option LineCost) (m : LineCost) : Type 0 where
  pub line : LineCost
  pub is : a ≡ Some line
  pub class : line.class ≡ m.class
  pub less : (line.overhang <ℤ m.overhang) ⊎ ((line.overhang ≡ m.overhang) × (line.demerits <ℤ m.demerits))

below_some : (a b : Option LineCost) (m : LineCost) → IsCostBelow a b → b ≡ Some m → Below a m
below_some a None m is here = absurd (cc)
below_some None (Some b) m is here = absurd is
below_some (Some a) (Some b) m is here =
    subst (Below (Some a)) (same_Some b m here) (record { line = a; is = refl; class = is.0; less = is.1 })

less_numbers :
    (a b c d x y z w : ℤ) (xs ys : List ℤ)
    → (a <ℤ c) ⊎ ((a ≡ c) × (b ≤ℤ d)) → (x <ℤ z) ⊎ ((x ≡ z) × (y <ℤ w)) → NotAfter ((a +ℤ x) ∷ (b +ℤ y) ∷ xs) ((c +ℤ z) ∷ (d +ℤ w) ∷ ys)
less_numbers a b c d x y z w xs ys (inl h) (inl k) = inl (omega (arith, ints))
less_numbers a b c d x y z w xs ys (inl h) (inr k) = inl (omega (arith, ints, k.0))
less_numbers a b c d x y z w xs ys (inr h) (inl k) = inl (omega (arith, ints, h.0))
less_numbers a b c d x y z w xs ys (inr h) (inr k) =
    let first : (a +ℤ x) ≡ (c +ℤ z) = ap (λ n. n +ℤ x) h.0 ∙ ap (λ n. c +ℤ n) k.0 in
    inr (first, inl (omega (arith, ints, h.1, k.1)))

-- The offers by the next line are met by those by a line that costs less, if the group of that one covers the next one.
pub line_covered :
    (p : Problem) (stop : ℕ → ℕ → Bool) (params : Params) (bound : Bound) (table : List Entry) (b n low : ℕ) (penalty : ℤ) (held next : HeldLine)
    → IsNext p stop table b n low next.group → last_forced_below p b ≤ held.group.place → IsCoveredBy table next.group held.group
    → held.left_out ≡ false → AreBelow params bound penalty held.line next.line → IsOf params.first_lines table held.group
    → ((s : BreakState) → s.place ≡ held.group.place
    → p.line s b ≡ cond held.left_out None (admitted_line params bound penalty s.class (fit_after params.first_lines s.lines held.line)))
    → ((s : BreakState) → s.place ≡ next.group.place
    → p.line s b ≡ cond next.left_out None (admitted_line params bound penalty s.class (fit_after params.first_lines s.lines next.line)))
    → (k : ℕ) (o : Entry) → next.group.start ≤ k → k < next.group.end → IsOffered p table b k o
    → IsMetWithin p table b held.group.start held.group.end o
line_covered p stop params bound table b n low penalty held next is since covers kept below entries line line_next k o from to of =
    record {
      index = m.index;
      low = m.low;
      high = m.high;
      other = extended_entry p.cut m.entry m.index b less.line;
      offered = record {
        by = m.entry;
        present = m.present;
        offers = offer_is p m.entry m.index b (Some less.line) (omega (arith, since, at)) admitted;
      };
      same = ap (λ lines. record { place = b; lines = min (lines + 1) p.cut; class = less.line.class }) m.lines
          ∙ ap (λ class. record { place = b; lines = min (of.by.end.lines + 1) p.cut; class = class }) less.class ∙ ap (λ x. x.end) (sym ext.is);
      before = subst (λ x. NotAfter (compared_numbers (extended_entry p.cut m.entry m.index b less.line)) (compared_numbers x)) (sym ext.is)
          (less_numbers m.entry.overhang m.entry.demerits of.by.overhang of.by.demerits less.line.overhang less.line.demerits ext.line.overhang ext.line.demerits
          (tie_numbers (end_after p.cut m.entry.end b less.line ∷ m.entry.end ∷ [])) (tie_numbers (end_after p.cut of.by.end b ext.line ∷ of.by.end ∷ []))
          m.at_most less.less);
    }
  where
    ext : IsExtended p of.by k b o
    ext = extended_is p of.by k b o of.offers

    m : HasCover table held.group of.by
    m = covers.each k of.by from to of.present

    was : of.by.end.place ≡ next.group.place
    was = is.group.entries k of.by from to of.present

    at : m.entry.end.place ≡ held.group.place
    at = (entries m.index m.entry m.low m.high m.present).0

    chosen : (t : Bool) (x : Option LineCost) (l : LineCost) → cond t None x ≡ Some l → x ≡ Some l
    chosen true x l here = absurd (cc)
    chosen false x l here = here

    first : admitted_line params bound penalty of.by.end.class (fit_after params.first_lines of.by.end.lines next.line) ≡ Some ext.line
    first = chosen next.left_out _ ext.line (sym (line_next of.by.end was) ∙ ext.admitted)

    less : Below (admitted_line params bound penalty of.by.end.class (fit_after params.first_lines of.by.end.lines held.line)) ext.line
    less = below_some _ _ ext.line (below of.by.end.lines of.by.end.class) first

    admitted : p.line m.entry.end b ≡ Some less.line
    admitted =
        line m.entry.end at
        ∙ ap (λ t. cond t None (admitted_line params bound penalty m.entry.end.class (fit_after params.first_lines m.entry.end.lines held.line))) kept
        ∙ ap (λ class. admitted_line params bound penalty class (fit_after params.first_lines m.entry.end.lines held.line)) m.class
        ∙ ap (λ lines. admitted_line params bound penalty of.by.end.class (fit_after params.first_lines lines held.line)) m.lines ∙ less.is

-- The next line is held back, or dropped.
pub held_next :
    (p : Problem) (stop : ℕ → ℕ → Bool) (params : Params) (bound : Bound) (table : List Entry) (b n low : ℕ) (penalty : ℤ) (held now : Option HeldLine)
    (next : HeldLine) (near : Neighbours) (old new : List (Option Entry))
    → p.cut ≡ params.first_lines → b ≤ p.places → b ≤ max_places → penalty <ℤ pos 10000
    → IsNext p stop table b n low next.group → AreEarlier p table b n low
    → next.last ≡ next.group → near.group ≡ next.group → IsMetBy table near.meets near.group → IsCoveredBy table near.group near.covered_by
    → IsOf params.first_lines table next.group → IsSmallLineFits next.line
    → ((s : BreakState) → s.place ≡ next.group.place
    → p.line s b ≡ cond next.left_out None (admitted_line params bound penalty s.class (fit_after params.first_lines s.lines next.line)))
    → IsRowUpTo p params bound table b penalty held n low old
    → IsHolding table params bound b penalty near next held now old new
    → IsRowUpTo p params bound table b penalty now next.group.end (next.group.place + 1) new
held_next p stop params bound table b n low penalty held now next near old new cut within places penalty_bounded is early own_last own met covered entries fit_bounded line before made = cases held before made
  where
    back : IsRowBut p table b next.group next.group.end new → IsHeldBack p params bound table b penalty next next.group.end (next.group.place + 1) new
    back but =
        record {
          but = but;
          can = record {
            wide = but.front.wide ∙ ap slots (but.cut ∙ cut);
            rises = is.group.rises;
            within = is.group.within;
            earlier = is.group.earlier;
            places = places;
            entries = entries;
            penalty_bounded = penalty_bounded;
          };
          since = is.group.since;
          before = omega arith;
          line = line;
          fit_bounded = fit_bounded;
          covers = subst (λ g. IsCoveredBy table g next.group) (sym own_last) (covered_self table next.group is.group.within);
        }

    up_to : now ≡ Some next → IsRowBut p table b next.group next.group.end new → IsRowUpTo p params bound table b penalty now next.group.end (next.group.place + 1) new
    up_to same but =
        subst (λ x. IsRowUpTo p params bound table b penalty x next.group.end (next.group.place + 1) new) (sym same) (back but)

    skipped : (was : HeldLine) → IsHeldBack p params bound table b penalty was n low old → IsSkipped (Some was) next near.meets → IsRowBut p table b next.group next.group.end old
    skipped was held_back alike =
        but_next p stop table b n low was.group next.group old within is early (omega (arith, held_back.before, is.later))
        (line_met p stop params bound table b n low penalty was next is (omega (arith, held_back.before, is.later))
        (subst (λ g. IsMetBy table g next.group) alike.1 (subst (IsMetBy table near.meets) own met)) alike.0 alike.2 held_back.can.entries held_back.line line)
        held_back.but

    beyond :
        (was : HeldLine) → IsHeldBack p params bound table b penalty was n low old → IsDropped params bound penalty (Some was) next near.covered_by
        → IsRowUpTo p params bound table b penalty (held_beyond (Some was) next.group) next.group.end (next.group.place + 1) old
    beyond was held_back dropped =
        let covers : IsCoveredBy table next.group was.group =
        covered_trans table next.group was.last was.group
        (subst (IsCoveredBy table next.group) dropped.1 (subst (λ g. IsCoveredBy table g near.covered_by) own covered)) held_back.covers in
        record {
          but = but_more p stop table b n low was.group next.group old within is held_back.before
              (line_covered p stop params bound table b n low penalty was next is held_back.since covers dropped.0 dropped.2 held_back.can.entries held_back.line line)
              held_back.but;
          can = held_back.can;
          since = held_back.since;
          before = omega (arith, held_back.before, is.later);
          line = held_back.line;
          fit_bounded = held_back.fit_bounded;
          covers = covers;
        }

    cases :
        (was : Option HeldLine) → IsRowUpTo p params bound table b penalty was n low old → IsHolding table params bound b penalty near next was now old new
        → IsRowUpTo p params bound table b penalty now next.group.end (next.group.place + 1) new
    cases was at (inr (inr (same, offered))) =
        up_to same (but_start p stop table b n low next.group new within is early (held_offered p params bound table b n low penalty was old new cut at offered))
    cases None at (inl alike) = absurd alike.0
    cases None at (inr (inl dropped)) = absurd dropped.0
    cases (Some was) at (inl (alike, same, kept)) =
        up_to same (subst (IsRowBut p table b next.group next.group.end) (sym kept) (skipped was at alike))
    cases (Some was) at (inr (inl (dropped, same, kept))) =
        subst (λ x. IsRowUpTo p params bound table b penalty x next.group.end (next.group.place + 1) new) (sym same)
        (subst (IsRowUpTo p params bound table b penalty (held_beyond (Some was) next.group) next.group.end (next.group.place + 1)) (sym kept)
        (beyond was at dropped))

-- A line that is held back can be offered.
pub held_can :
    (p : Problem) (params : Params) (bound : Bound) (table : List Entry) (b n low : ℕ) (penalty : ℤ) (held : Option HeldLine) (row : List (Option Entry))
    → IsRowUpTo p params bound table b penalty held n low row → IfSome held (λ line. CanOffer params.first_lines row table line.group b penalty)
held_can p params bound table b n low penalty None row is = tt
held_can p params bound table b n low penalty (Some held) row is = is.can

pub held_fit :
    (p : Problem) (params : Params) (bound : Bound) (table : List Entry) (b n low : ℕ) (penalty : ℤ) (held : Option HeldLine) (row : List (Option Entry))
    → IsRowUpTo p params bound table b penalty held n low row → IfSome held (λ line. IsSmallLineFits line.line)
held_fit p params bound table b n low penalty None row is = tt
held_fit p params bound table b n low penalty (Some held) row is = is.fit_bounded
