-- The table grows by the row of a place, and the best entry for the end is the chosen list.
use Rattle.std.proofs.Common.{◌≡◌, ◌∙◌, ℕ, zero, suc, ◌+◌, ◌<◌, ◌≤◌, List, [], ◌∷◌, ◌++◌, length, append_assoc, reverse, refl, ap, sym, subst, arith, Option, Some}
use Rattle.std.specs.Prelude.{slice_get}
use Rattle.std.proofs.Math.Logic.{◌⊎◌, inl, inr}
use Rattle.std.proofs.lemmas.Bool.{cases_lt}
use Rattle.std.proofs.lemmas.Option.{same_Some, slice_get_within}
use Rattle.std.proofs.lemmas.List.{reverse-reverse}
use Rattle.break_lines.specs.declared.answer.ChosenBreaks.{ChosenBreaks}
use Rattle.break_lines.specs.declared.state.BreakState.{BreakState}
use Rattle.break_lines.specs.Orders.{NotAfter}
use Rattle.break_lines.specs.Problems.{Problem, Path, first_path, path_of, ends_of, places_of, key}
use Rattle.break_lines.specs.Chosen.{IsBreakList, IsChosen, AdmitsNone, IsAnswer}
use Rattle.break_lines.specs.Ways.{Way, starts, goes, IsLeast}
use Rattle.break_lines.specs.Tables.{Entry, first_entry, compared_numbers, slot, ExtendsLeastWay, way_to, IsLinked, IsBest, IsTable, IsOffered, IsHeld, IsRow, row_entries}
use Rattle.break_lines.specs.Private.Tables.{IsBestEnd, HasNoEnd, AreEndsOf, AreEndsUpTo}
use Rattle.break_lines.proofs.Entries.{get_left, get_right, get_cases}
use Rattle.break_lines.proofs.Dictionary.{not_after_trans}
use Rattle.break_lines.proofs.Lists.{way_of_break_list, break_list_of_way}
use Rattle.break_lines.proofs.Reached.{least_once, IsExtended, extended_is, right, offered_reached, matches, best_is_least, short_decides, way_ends, least_start}
use Rattle.break_lines.proofs.Rows.{offered_at, held_has, held_from}

-- The table before the first place holds the start.
pub first_table : (p : Problem) → IsTable p 1 (first_entry ∷ [])
first_table p =
    record {
      first = refl;
      best = λ k e some is. absurd (none k e some is);
      below = λ k e is. at k e is;
      whole = whole;
    }
  where
    none : (k : ℕ) (e : Entry) → 0 < k → slice_get (first_entry ∷ []) k ≡ Some e → ⊥
    none zero e some is = omega arith
    none (suc k) e some is = cc

    at : (k : ℕ) (e : Entry) → slice_get (first_entry ∷ []) k ≡ Some e → (e.end.place < 1) × (e.end.lines ≤ p.cut)
    at zero e is =
        let same : first_entry ≡ e = same_Some first_entry e is in
        (omega (arith, ap (λ x. x.end.place) same), omega (arith, ap (λ x. x.end.lines) same))
    at (suc k) e is = absurd (cc)

    whole : (w : Path) → Way p w → w.last.place < 1 → (k : ℕ) × (e : Entry) × (slice_get (first_entry ∷ []) k ≡ Some e) × (e.end ≡ w.last)
    whole _ starts below = (0, first_entry, refl, refl)
    whole _ (goes q b l way later since_b is) below = absurd (omega arith)

linked_left : (table more : List Entry) (e : Entry) → IsLinked table e → IsLinked (table ++ more) e
linked_left table more e is = record { before = is.before; present = get_left table more e.index is.before is.present; same = is.same }

best_left : (p : Problem) (table more : List Entry) (k : ℕ) (e : Entry) → IsBest p table k e → IsBest p (table ++ more) k e
best_left p table more k e is =
    record { reached = is.reached; least = is.least; linked = linked_left table more e is.linked; earlier = is.earlier }

-- The entries in the full row of a place are the best ways to it.
row_best :
    (p : Problem) (b : ℕ) (table : List Entry) (row : List (Option Entry)) (k s : ℕ) (e : Entry)
    → IsTable p b table → IsRow p table b (length table) row → 0 < b → slice_get row s ≡ Some (Some e) → length table ≤ k
    → IsBest p (table ++ row_entries row) k e
row_best p b table row k s e is full some at following =
    record {
      reached = reached;
      least = best_is_least p b table e reached is some (offered_at p table b h.k e h.offered).0 best;
      linked = record {
        before = h.offered.by;
        present = get_left table (row_entries row) e.index h.offered.by (ap (slice_get table) index ∙ h.offered.present);
        same = sym (ap (λ x. x.from) ext.is);
      };
      earlier = omega (arith, index, h.below);
    }
  where
    h : IsHeld p table b (length table) s e
    h = full.held s e at

    reached : ExtendsLeastWay p e
    reached = offered_reached p b table (full.held s e at).k e is (full.held s e at).offered

    ext : IsExtended p (full.held s e at).offered.by (full.held s e at).k b e
    ext = extended_is p (full.held s e at).offered.by (full.held s e at).k b e (full.held s e at).offered.offers

    index : e.index ≡ (full.held s e at).k
    index = ap (λ x. x.index) (extended_is p (full.held s e at).offered.by (full.held s e at).k b e (full.held s e at).offered.offers).is

    best : (j : ℕ) (f : Entry) → IsOffered p table b j f → f.end ≡ e.end → NotAfter (compared_numbers e) (compared_numbers f)
    best j f offered ends =
        let m = full.met j f (slice_get_within table j offered.by offered.present) offered in
        let here : slot f.end ≡ s = ap slot ends ∙ (full.held s e at).here in
        let there : slice_get row s ≡ Some (Some m.held) = ap (slice_get row) (sym here) ∙ m.present in
        let one : m.held ≡ e = cc (at, there) in
        subst (λ x. NotAfter (compared_numbers x) (compared_numbers f)) one m.before

-- A table followed by the full row of the next place is a table.
pub next_table :
    (p : Problem) (b : ℕ) (table : List Entry) (row : List (Option Entry))
    → 0 < b → IsTable p b table → IsRow p table b (length table) row → IsTable p (b + 1) (table ++ row_entries row)
next_table p b table row some is full =
    record {
      first = get_left table (row_entries row) 0 first_entry is.first;
      best = λ k e after at. best k e after (get_cases table (row_entries row) k e at);
      below = λ k e at. below k e (get_cases table (row_entries row) k e at);
      whole = λ w way before. whole w way (cases_lt w.last.place b) before;
    }
  where
    best :
        (k : ℕ) (e : Entry) → 0 < k → (slice_get table k ≡ Some e) ⊎ ((j : ℕ) × (k ≡ length table + j) × (slice_get (row_entries row) j ≡ Some e))
        → IsBest p (table ++ row_entries row) k e
    best k e after (inl here) = best_left p table (row_entries row) k e (is.best k e after here)
    best k e after (inr there) =
        let at = held_from row there.0 e there.2 in
        row_best p b table row k at.0 e is full some at.1 (omega (arith, there.1))

    below :
        (k : ℕ) (e : Entry) → (slice_get table k ≡ Some e) ⊎ ((j : ℕ) × (k ≡ length table + j) × (slice_get (row_entries row) j ≡ Some e))
        → (e.end.place < b + 1) × (e.end.lines ≤ p.cut)
    below k e (inl here) = let old = is.below k e here in (omega (arith, old.0), old.1)
    below k e (inr there) =
        let at = held_from row there.0 e there.2 in
        let h = full.held at.0 e at.1 in
        let new = offered_at p table b h.k e h.offered in
        (omega (arith, new.0), new.1)

    whole :
        (w : Path) → Way p w → (w.last.place < b) ⊎ (b ≤ w.last.place) → w.last.place < b + 1
        → (k : ℕ) × (e : Entry) × (slice_get (table ++ row_entries row) k ≡ Some e) × (e.end ≡ w.last)
    whole w way (inl lower) before =
        let found = is.whole w way lower in
        (found.0, found.1, get_left table (row_entries row) found.0 found.1 found.2, found.3)
    whole w way (inr not_lower) before =
        let same : b ≡ w.last.place = omega arith in
        let m = matches p table w way (subst (λ x. IsTable p x table) same is) (omega (arith, same)) in
        let offered = subst (λ x. IsOffered p table x m.k m.o) (sym same) m.offered in
        let met = full.met m.k m.o (slice_get_within table m.k offered.by offered.present) offered in
        let found = held_has row (slot m.o.end) met.held met.present in
        (length table + found.0, met.held, get_right table (row_entries row) found.0 met.held found.1, met.same ∙ m.ends)

-- The best entry for the last place is the chosen list.
pub chosen :
    (p : Problem) (places : ℕ) (table : List Entry) (k : ℕ)
    → p.places ≡ places → 0 < places → IsTable p (places + 1) table → (best : IsBestEnd table places (length table) k) → (w : Path)
    → IsLeast p best.entry.end w → IsChosen p (places_of (ends_of w)) w
chosen p places table zero same_places some is best w least =
    let same : first_entry ≡ best.entry = same_Some first_entry best.entry (sym is.first ∙ best.present) in
    absurd (omega (arith, ap (λ e. e.end.place) same, best.at))
chosen p places table (suc k) same_places some is best w least =
    let at : w.last.place ≡ p.places = ap (λ s. s.place) least.ends ∙ best.at ∙ sym same_places in
    let list = break_list_of_way p w least.way at in
    record { is_list = list.0; admitted = list.1; least = before }
  where
    before : (others : List ℕ) (r : Path) → IsBreakList p others → path_of p others ≡ Some r → NotAfter (key w) (key r)
    before others r is_list admitted =
        let way = way_of_break_list p others r is_list admitted in
        let found = is.whole r way.0 (omega (arith, way.1, same_places)) in
        at_entry r way.0 (way.1 ∙ same_places) found.0 found.1 found.2 found.3
      where
        at_entry : (u : Path) → Way p u → u.last.place ≡ places → (j : ℕ) (f : Entry) → slice_get table j ≡ Some f → f.end ≡ u.last → NotAfter (key w) (key u)
        at_entry u way place zero f present ends =
            let same : first_entry ≡ f = same_Some first_entry f (sym is.first ∙ present) in
            absurd (omega (arith, ap (λ e. e.end.place) same, ap (λ s. s.place) ends))
        at_entry u way place (suc j) f present ends =
            let mine = is.best (suc k) best.entry (omega arith) best.present in
            let other = is.best (suc j) f (omega arith) present in
            let h = best.best (suc j) f (slice_get_within table (suc j) f present) present (ap (λ s. s.place) ends ∙ place) in
            let one = least_once p best.entry.end best.entry.end w (way_to p best.entry mine.reached) refl least mine.least in
            let first = short_decides p best.entry f mine.reached other.reached h in
            let all = not_after_trans (key (way_to p best.entry mine.reached)) (key (way_to p f other.reached)) (key u) first
            (other.least.least u way (sym ends)) in
            subst (λ x. NotAfter (key x) (key u)) (sym one) all

-- The lines read from the best entry for the last place are the chosen list.
pub answered :
    (p : Problem) (places : ℕ) (table : List Entry) (k : ℕ) (e : Entry) (answer : ChosenBreaks)
    → p.places ≡ places → 0 < places → IsTable p (places + 1) table → IsBestEnd table places (length table) k → slice_get table k ≡ Some e
    → AreEndsOf table k (reverse answer.ends.items) → answer.overhang ≡ e.overhang → answer.demerits ≡ e.demerits → IsAnswer p answer
answered p places table k e answer same_places some is best present read overhang demerits =
    let one : e ≡ best.entry = same_Some e best.entry (sym present ∙ best.present) in
    let r = right p (places + 1) table k best.entry is best.present in
    let ends : reverse answer.ends.items ≡ ends_of r.path = read p (places + 1) is best.entry best.present r.path r.least in
    record {
      path = r.path;
      chosen = chosen p places table k same_places some is best r.path r.least;
      ends = sym (reverse-reverse answer.ends.items) ∙ ap reverse ends;
      overhang = overhang ∙ ap (λ x. x.overhang) one ∙ sym r.overhang;
      demerits = demerits ∙ ap (λ x. x.demerits) one ∙ sym r.demerits;
    }

-- If the last place has no entry, no list is admitted.
pub admits_none :
    (p : Problem) (table : List Entry) → IsTable p (p.places + 1) table → HasNoEnd table p.places (length table) → AdmitsNone p
admits_none p table is none others r is_list admitted =
    let way = way_of_break_list p others r is_list admitted in
    let found = is.whole r way.0 (omega (arith, way.1)) in
    none found.0 found.1 (slice_get_within table found.0 found.1 found.2) found.2 (ap (λ s. s.place) found.3 ∙ way.1)

-- Reading begins with no ends, and each step puts one more end before those that were read.
pub read_none : (table : List Entry) (whole : ℕ) → AreEndsUpTo table whole whole []
read_none table whole p b is e f at there w v least_w least_v =
    let same : e ≡ f = same_Some e f (sym at ∙ there) in
    ap ends_of (least_once p e.end f.end w v (ap (λ x. x.end) same) least_w least_v)

pub read_more :
    (table : List Entry) (whole k : ℕ) (e : Entry) (read : List BreakState)
    → 0 < k → slice_get table k ≡ Some e → AreEndsUpTo table whole k read → AreEndsUpTo table whole e.index (read ++ e.end ∷ [])
read_more table whole k e read after present is p b table_is top before at there w v least_w least_v =
    let best = table_is.best k e after present in
    let way = way_to p e best.reached in
    let one : before ≡ best.linked.before = same_Some before best.linked.before (sym there ∙ best.linked.present) in
    let from : before.end ≡ e.from = ap (λ x. x.end) one ∙ best.linked.same in
    let following : v ≡ best.reached.before = least_once p before.end e.from v best.reached.before from least_v best.reached.least in
    let so_far : ends_of w ≡ read ++ ends_of way = is p b table_is top e at present w way least_w best.least in
    let last : ends_of way ≡ e.end ∷ ends_of best.reached.before =
    ap (λ s. s ∷ ends_of best.reached.before) (way_ends p e best.reached) in
    let same : ends_of w ≡ read ++ (e.end ∷ ends_of v) =
    so_far ∙ ap (λ xs. read ++ xs) (last ∙ ap (λ u. e.end ∷ ends_of u) (sym following)) in
    same ∙ sym (append_assoc read (e.end ∷ []) (ends_of v))

pub read_all : (table : List Entry) (whole : ℕ) (read : List BreakState) → AreEndsUpTo table whole 0 read → AreEndsOf table whole read
read_all table whole read is p b table_is e at w least =
    let none : ends_of w ≡ read ++ [] = is p b table_is e first_entry at table_is.first w first_path least (least_start p) in
    sym (all read) ∙ sym none
  where
    all : (xs : List BreakState) → xs ++ [] ≡ xs
    all [] = refl
    all (x ∷ xs) = ap (λ ys. x ∷ ys) (all xs)
