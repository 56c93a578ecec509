-- The ways of entries, and which of two entries has the better way.
use Rattle.std.proofs.Common.{◌≡◌, ◌∙◌, ℕ, zero, suc, ◌<◌, ◌≤◌, true, false, List, [], ◌∷◌, ◌++◌, refl, ap, sym, subst, arith, Option, Some, None}
use Rattle.std.specs.Prelude.{◌+ℤ◌, nat_le, slice_get}
use Rattle.std.proofs.Math.Logic.{◌⊎◌, inl, inr}
use Rattle.std.proofs.lemmas.Bool.{cases_Bool, cond-true, cond-false, leb-true, le-leb}
use Rattle.std.proofs.lemmas.Option.{same_Some}
use Rattle.break_lines.specs.declared.state.BreakState.{BreakState}
use Rattle.break_lines.specs.declared.state.LineCost.{LineCost}
use Rattle.break_lines.specs.Orders.{NotAfter}
use Rattle.break_lines.specs.Problems.{Problem, Path, start, first_path, end_after, tie_numbers, key}
use Rattle.break_lines.specs.Ways.{last_forced_below, Way, starts, goes, IsLeast}
use Rattle.break_lines.specs.Tables.{Entry, first_entry, extended_entry, compared_numbers, ExtendsLeastWay, way_to, IsTable, offer_of, offer, IsOffered}
use Rattle.break_lines.proofs.Dictionary.{not_after_refl, not_after_trans, not_after_antisym, not_after_front, longer_not_after, state_apart, key_apart}

-- There is only one best way to a state.
pub least_once : (p : Problem) (s t : BreakState) (w v : Path) → s ≡ t → IsLeast p s w → IsLeast p t v → w ≡ v
least_once p s t w v same left right =
    key_apart w v
    (not_after_antisym (key w) (key v) (left.least v right.way (right.ends ∙ sym same)) (right.least w left.way (left.ends ∙ same)))

-- The best way to the start has no line.
from_start : (p : Problem) (u : Path) → Way p u → u.last ≡ start → NotAfter (key first_path) (key u)
from_start p _ starts at = not_after_refl (key first_path)
from_start p _ (goes q b l way later since_b is) at = let none : b ≡ 0 = ap (λ s. s.place) at in absurd (omega arith)

pub least_start : (p : Problem) → IsLeast p start first_path
least_start p = record { way = starts; ends = refl; least = from_start p }

-- The way of an entry ends at its state.
pub way_ends : (p : Problem) (e : Entry) (r : ExtendsLeastWay p e) → (way_to p e r).last ≡ e.end
way_ends p e r = ap (λ s. end_after p.cut s e.end.place r.line) r.least.ends ∙ sym r.end

-- The way of an entry is a way.
pub way_is : (p : Problem) (e : Entry) (r : ExtendsLeastWay p e) → Way p (way_to p e r)
way_is p e r =
    let from : r.before.last ≡ e.from = r.least.ends in
    let place : r.before.last.place ≡ e.from.place = ap (λ s. s.place) from in
    goes r.before e.end.place r.line r.least.way (omega (arith, place, r.later)) (omega (arith, place, r.since))
    (ap (λ s. p.line s e.end.place) from ∙ r.admitted)

-- The numbers of an entry are the first numbers of its way.
key_short : (p : Problem) (e : Entry) (r : ExtendsLeastWay p e) → key (way_to p e r) ≡ compared_numbers e ++ tie_numbers r.before.before
key_short p e r =
    let w = way_to p e r in
    ap (λ x. x ∷ w.demerits ∷ tie_numbers (w.last ∷ r.before.last ∷ r.before.before)) (sym r.overhang)
    ∙ ap (λ x. e.overhang ∷ x ∷ tie_numbers (w.last ∷ r.before.last ∷ r.before.before)) (sym r.demerits)
    ∙ ap (λ x. e.overhang ∷ e.demerits ∷ tie_numbers (x ∷ r.before.last ∷ r.before.before)) (way_ends p e r)
    ∙ ap (λ x. e.overhang ∷ e.demerits ∷ tie_numbers (e.end ∷ x ∷ r.before.before)) r.least.ends

-- The numbers of entries decide as those of their ways do.
pub short_decides :
    (p : Problem) (e f : Entry) (left : ExtendsLeastWay p e) (right : ExtendsLeastWay p f)
    → NotAfter (compared_numbers e) (compared_numbers f) → NotAfter (key (way_to p e left)) (key (way_to p f right))
short_decides p e f left right h =
    subst (λ xs. NotAfter xs (key (way_to p f right))) (sym (key_short p e left))
    (subst (λ ys. NotAfter (compared_numbers e ++ tie_numbers left.before.before) ys) (sym (key_short p f right))
    (not_after_front (compared_numbers e) (compared_numbers f) (tie_numbers left.before.before) (tie_numbers right.before.before) refl h after))
  where
    after : compared_numbers e ≡ compared_numbers f → NotAfter (tie_numbers left.before.before) (tie_numbers right.before.before)
    after same =
        let states : tie_numbers (e.end ∷ e.from ∷ []) ≡ tie_numbers (f.end ∷ f.from ∷ []) = cc in
        let ends = state_apart e.end f.end (e.from ∷ []) (f.from ∷ []) states in
        let froms = state_apart e.from f.from [] [] ends.1 in
        let one = least_once p e.from f.from left.before right.before froms.0 left.least right.least in
        subst (λ w. NotAfter (tie_numbers left.before.before) (tie_numbers w.before)) one (not_after_refl (tie_numbers left.before.before))

-- The facts about an offer.
pub record IsExtended (p : Problem) (e : Entry) (k b : ℕ) (o : Entry) : Type 0 where
  pub since : last_forced_below p b ≤ e.end.place
  pub line : LineCost
  pub admitted : p.line e.end b ≡ Some line
  pub is : o ≡ extended_entry p.cut e k b line

pub extended_is : (p : Problem) (e : Entry) (k b : ℕ) (o : Entry) → offer p e k b ≡ Some o → IsExtended p e k b o
extended_is p e k b o is = cases (cases_Bool (nat_le (last_forced_below p b) e.end.place))
  where
    lines : (l : Option LineCost) → last_forced_below p b ≤ e.end.place → p.line e.end b ≡ l → offer_of p.cut e k b l ≡ Some o → IsExtended p e k b o
    lines None late at gives = absurd (cc)
    lines (Some l) late at gives =
        record { since = late; line = l; admitted = at; is = sym (same_Some (extended_entry p.cut e k b l) o gives) }

    cases : (nat_le (last_forced_below p b) e.end.place ≡ true) ⊎ (nat_le (last_forced_below p b) e.end.place ≡ false) → IsExtended p e k b o
    cases (inl late) =
        lines (p.line e.end b) (leb-true (last_forced_below p b) e.end.place late) refl
        (sym (cond-true (nat_le (last_forced_below p b) e.end.place) (offer_of p.cut e k b (p.line e.end b)) None late) ∙ is)
    cases (inr early) =
        let none = sym (cond-false (nat_le (last_forced_below p b) e.end.place) (offer_of p.cut e k b (p.line e.end b)) None early) ∙ is in
        absurd (cc)

-- An admitted line that passes over no forced place is offered.
pub offer_is :
    (p : Problem) (e : Entry) (k b : ℕ) (l : Option LineCost) → last_forced_below p b ≤ e.end.place → p.line e.end b ≡ l → offer p e k b ≡ offer_of p.cut e k b l
offer_is p e k b l late is =
    cond-true (nat_le (last_forced_below p b) e.end.place) (offer_of p.cut e k b (p.line e.end b)) None (le-leb (last_forced_below p b) e.end.place late)
    ∙ ap (offer_of p.cut e k b) is

-- Each entry of a table has the costs of the best way to its state.
pub record IsRight (p : Problem) (e : Entry) : Type 0 where
  pub path : Path
  pub least : IsLeast p e.end path
  pub overhang : path.overhang ≡ e.overhang
  pub demerits : path.demerits ≡ e.demerits

pub right : (p : Problem) (b : ℕ) (table : List Entry) (k : ℕ) (e : Entry) → IsTable p b table → slice_get table k ≡ Some e → IsRight p e
right p b table zero e is at =
    let same : first_entry ≡ e = same_Some first_entry e (sym is.first ∙ at) in
    subst (λ f. IsRight p f) same (record { path = first_path; least = least_start p; overhang = refl; demerits = refl })
right p b table (suc k) e is at =
    let best = is.best (suc k) e (omega arith) at in
    record {
      path = way_to p e best.reached;
      least = best.least;
      overhang = sym best.reached.overhang;
      demerits = sym best.reached.demerits;
    }

-- An offer of an entry is reached.
pub reached_by :
    (p : Problem) (e : Entry) (k b : ℕ) (o : Entry) → IsRight p e → e.end.place < b → IsExtended p e k b o → ExtendsLeastWay p o
reached_by p e k b o is later ext =
    subst (λ x. ExtendsLeastWay p x) (sym ext.is)
    (record {
      before = is.path;
      line = ext.line;
      least = is.least;
      admitted = ext.admitted;
      later = later;
      since = ext.since;
      end = refl;
      overhang = ap (λ x. x +ℤ ext.line.overhang) (sym is.overhang);
      demerits = ap (λ x. x +ℤ ext.line.demerits) (sym is.demerits);
    })

pub offered_reached :
    (p : Problem) (b : ℕ) (table : List Entry) (k : ℕ) (o : Entry) → IsTable p b table → IsOffered p table b k o → ExtendsLeastWay p o
offered_reached p b table k o is offered =
    reached_by p offered.by k b o (right p b table k offered.by is offered.present) (is.below k offered.by offered.present).0
    (extended_is p offered.by k b o offered.offers)

-- Each way to a place has an offer with the same end that is as good or better.
pub record IsMatched (p : Problem) (table : List Entry) (b : ℕ) (u : Path) : Type 0 where
  pub k : ℕ
  pub o : Entry
  pub offered : IsOffered p table b k o
  pub reached : ExtendsLeastWay p o
  pub ends : o.end ≡ u.last
  pub before : NotAfter (key (way_to p o reached)) (key u)

pub matches : (p : Problem) (table : List Entry) (u : Path) → Way p u → IsTable p u.last.place table → 0 < u.last.place → IsMatched p table u.last.place u
matches p table _ starts is some = absurd (omega arith)
matches p table _ (goes q b l way later since_b at) is some =
    let found = is.whole q way later in
    let k = found.0 in
    let e = found.1 in
    let same : e.end ≡ q.last = found.3 in
    let r = right p b table k e is found.2 in
    let line : p.line e.end b ≡ Some l = ap (λ s. p.line s b) same ∙ at in
    let late : last_forced_below p b ≤ e.end.place = omega (arith, ap (λ s. s.place) same) in
    let ext : IsExtended p e k b (extended_entry p.cut e k b l) = record { since = late; line = l; admitted = line; is = refl } in
    record {
      k = k;
      o = extended_entry p.cut e k b l;
      offered = record { by = e; present = found.2; offers = offer_is p e k b (Some l) late line };
      reached = record {
        before = r.path;
        line = l;
        least = r.least;
        admitted = line;
        later = (is.below k e found.2).0;
        since = late;
        end = refl;
        overhang = ap (λ x. x +ℤ l.overhang) (sym r.overhang);
        demerits = ap (λ x. x +ℤ l.demerits) (sym r.demerits);
      };
      ends = ap (λ s. end_after p.cut s b l) same;
      before = longer_not_after p r.path q b l (r.least.ends ∙ same) (r.least.least q way (sym same));
    }

-- An offer that is as good as all others with its end is the best way to it.
pub best_is_least :
    (p : Problem) (b : ℕ) (table : List Entry) (o : Entry) (reached : ExtendsLeastWay p o)
    → IsTable p b table → 0 < b → o.end.place ≡ b
    → ((k : ℕ) (f : Entry) → IsOffered p table b k f → f.end ≡ o.end → NotAfter (compared_numbers o) (compared_numbers f))
    → IsLeast p o.end (way_to p o reached)
best_is_least p b table o reached is some at best =
    record { way = way_is p o reached; ends = way_ends p o reached; least = least }
  where
    least : (u : Path) → Way p u → u.last ≡ o.end → NotAfter (key (way_to p o reached)) (key u)
    least u way ends =
        let place : b ≡ u.last.place = sym at ∙ ap (λ s. s.place) (sym ends) in
        let m = matches p table u way (subst (λ x. IsTable p x table) place is) (omega (arith, place)) in
        let offered = subst (λ x. IsOffered p table x m.k m.o) (sym place) m.offered in
        let first = short_decides p o m.o reached m.reached (best m.k m.o offered (m.ends ∙ ends)) in
        not_after_trans (key (way_to p o reached)) (key (way_to p m.o m.reached)) (key u) first m.before
