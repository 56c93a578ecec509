-- Leaving out lines that have detours does not change the chosen list.
use Rattle.std.proofs.Common.{◌≡◌, ◌∙◌, ℕ, zero, suc, ◌+◌, ◌<◌, ◌≤◌, Bool, true, false, cond, List, refl, ap, sym, subst, arith, Some, None}
use Rattle.std.specs.Prelude.{◌+ℤ◌, ◌<ℤ◌, ◌≤ℤ◌}
use Rattle.std.proofs.Math.Logic.{◌⊎◌, inl, inr}
use Rattle.std.proofs.lemmas.Int.{ints}
use Rattle.std.proofs.lemmas.Bool.{cases_Bool, cond-true, cond-false}
use Rattle.std.proofs.lemmas.Option.{same_Some}
use Rattle.break_lines.specs.declared.answer.ChosenBreaks.{ChosenBreaks}
use Rattle.break_lines.specs.declared.state.BreakState.{BreakState}
use Rattle.break_lines.specs.declared.state.LineCost.{LineCost}
use Rattle.break_lines.specs.Orders.{NotAfter}
use Rattle.break_lines.specs.Problems.{Problem, Path, first_path, end_after, with_line, path_of, ends_of, places_of, key}
use Rattle.break_lines.specs.Chosen.{IsBreakList, AdmitsNone, IsAnswer}
use Rattle.break_lines.specs.Ways.{last_forced_below, Way, starts, goes}
use Rattle.break_lines.specs.Private.Parts.{problem_without, IsNoWorse, IsOrder, IsDetour, HasDetours}
use Rattle.break_lines.proofs.Since.{since_grows}
use Rattle.break_lines.proofs.Lists.{way_of_break_list, break_list_of_way}

since_part : (p : Problem) (left_out : BreakState → ℕ → Bool) (b : ℕ) → last_forced_below (problem_without p left_out) b ≡ last_forced_below p b
since_part p left_out zero = refl
since_part p left_out (suc b) = ap (λ n. cond (p.forced b) b n) (since_part p left_out b)

kept_line :
    (p : Problem) (left_out : BreakState → ℕ → Bool) (s : BreakState) (b : ℕ) (l : LineCost)
    → left_out s b ≡ false → p.line s b ≡ Some l → (problem_without p left_out).line s b ≡ Some l
kept_line p left_out s b l stays is = cond-false (left_out s b) None (p.line s b) stays ∙ is

line_kept : (p : Problem) (left_out : BreakState → ℕ → Bool) (s : BreakState) (b : ℕ) (l : LineCost) → (problem_without p left_out).line s b ≡ Some l → p.line s b ≡ Some l
line_kept p left_out s b l is = cases (cases_Bool (left_out s b))
  where
    cases : (left_out s b ≡ true) ⊎ (left_out s b ≡ false) → p.line s b ≡ Some l
    cases (inl is_out) = let none = cond-true (left_out s b) None (p.line s b) is_out in absurd (cc)
    cases (inr kept) = sym (cond-false (left_out s b) None (p.line s b) kept) ∙ is

-- A way of the smaller problem is a way.
way_in : (p : Problem) (left_out : BreakState → ℕ → Bool) (w : Path) → Way (problem_without p left_out) w → Way p w
way_in p left_out _ starts = starts
way_in p left_out _ (goes q b l way later since_b is) =
    goes q b l (way_in p left_out q way) later (subst (λ n. n ≤ q.last.place) (since_part p left_out b) since_b) (line_kept p left_out q.last b l is)

-- A way of the smaller problem that leads to a state that is as good, and is this path or has less overhang.
pub record IsShifted (p : Problem) (left_out : BreakState → ℕ → Bool) (IsAsGood : BreakState → BreakState → Type 0) (w : Path) : Type 0 where
  pub by : Path
  pub way : Way (problem_without p left_out) by
  pub as_good : IsAsGood by.last w.last
  pub better : (by ≡ w) ⊎ (by.overhang <ℤ w.overhang)

-- A line after a way of the smaller problem, or its detours.
line_shifted :
    (p : Problem) (left_out : BreakState → ℕ → Bool) (IsAsGood : BreakState → BreakState → Type 0) (n : ℕ) (q : Path) (b : ℕ) (l : LineCost)
    → IsOrder p IsAsGood → HasDetours p left_out IsAsGood → b ≤ q.last.place + n → Way (problem_without p left_out) q
    → q.last.place < b → last_forced_below p b ≤ q.last.place → b ≤ p.places → p.line q.last b ≡ Some l
    → IsShifted p left_out IsAsGood (with_line p q b l)
line_shifted p left_out IsAsGood zero q b l order detours near way later since_b within is = absurd (omega arith)
line_shifted p left_out IsAsGood (suc n) q b l order detours near way later since_b within is =
    cases (λ r m k. line_shifted p left_out IsAsGood n r m k order detours) (cases_Bool (left_out q.last b))
  where
    cases :
        ((r : Path) (m : ℕ) (k : LineCost) → m ≤ r.last.place + n → Way (problem_without p left_out) r → r.last.place < m → last_forced_below p m ≤ r.last.place → m ≤ p.places
        → p.line r.last m ≡ Some k → IsShifted p left_out IsAsGood (with_line p r m k))
        → (left_out q.last b ≡ true) ⊎ (left_out q.last b ≡ false) → IsShifted p left_out IsAsGood (with_line p q b l)
    cases shorter (inr kept) =
        record {
          by = with_line p q b l;
          way = goes q b l way later (subst (λ n. n ≤ q.last.place) (sym (since_part p left_out b)) since_b) (kept_line p left_out q.last b l kept is);
          as_good = order.same (end_after p.cut q.last b l);
          better = inl refl;
        }
    cases shorter (inl is_out) = round (detours q.last b l later since_b within is is_out)
      where
        round : IsDetour p left_out IsAsGood q.last b l → IsShifted p left_out IsAsGood (with_line p q b l)
        round d =
            let grows = since_grows p d.by b (omega (arith, d.before)) in
            let middle : Way (problem_without p left_out) (with_line p q d.by d.first) =
            goes q d.by d.first way d.later
            (subst (λ n. n ≤ q.last.place) (sym (since_part p left_out d.by)) (omega (arith, grows, since_b)))
            (kept_line p left_out q.last d.by d.first d.kept d.first_is) in
            let rest = shorter (with_line p q d.by d.first) b d.second (omega (arith, d.later, near)) middle d.before (omega (arith, d.later, since_b)) within d.second_is in
            record {
              by = rest.by;
              way = rest.way;
              as_good = order.joined rest.by.last (end_after p.cut (end_after p.cut q.last d.by d.first) b d.second) (end_after p.cut q.last b l)
                  rest.as_good d.as_good;
              better = inr (less d rest.by rest.better);
            }
          where
            less :
                (d : IsDetour p left_out IsAsGood q.last b l) (v : Path)
                → (v ≡ with_line p (with_line p q d.by d.first) b d.second) ⊎ (v.overhang <ℤ ((q.overhang +ℤ d.first.overhang) +ℤ d.second.overhang))
                → v.overhang <ℤ (q.overhang +ℤ l.overhang)
            less d v (inl same) =
                let e : v.overhang ≡ (q.overhang +ℤ d.first.overhang) +ℤ d.second.overhang = ap (λ x. x.overhang) same in
                omega (arith, ints, e, d.less)
            less d v (inr lower) = omega (arith, ints, lower, d.less)

-- For each way the smaller problem has one that is as good or better.
pub way_shifted :
    (p : Problem) (left_out : BreakState → ℕ → Bool) (IsAsGood : BreakState → BreakState → Type 0) (w : Path)
    → IsOrder p IsAsGood → HasDetours p left_out IsAsGood → Way p w → w.last.place ≤ p.places → IsShifted p left_out IsAsGood w
way_shifted p left_out IsAsGood _ order detours starts within = record { by = first_path; way = starts; as_good = order.same _; better = inl refl }
way_shifted p left_out IsAsGood _ order detours (goes q b l way later since_b is) within =
    more (way_shifted p left_out IsAsGood q order detours way (omega arith))
  where
    more : IsShifted p left_out IsAsGood q → IsShifted p left_out IsAsGood (with_line p q b l)
    more before = after before (order.line before.by.last q.last b l before.as_good is)
      where
        after : (before : IsShifted p left_out IsAsGood q) → IsNoWorse p IsAsGood before.by.last q.last b l
            → IsShifted p left_out IsAsGood (with_line p q b l)
        after before k =
            let place : before.by.last.place ≡ q.last.place = order.place before.by.last q.last before.as_good in
            let rest = line_shifted p left_out IsAsGood b before.by b k.line order detours (omega arith) before.way (omega (arith, place))
            (omega (arith, place)) within k.is in
            record {
              by = rest.by;
              way = rest.way;
              as_good = order.joined rest.by.last (end_after p.cut before.by.last b k.line) (end_after p.cut q.last b l) rest.as_good k.as_good;
              better = better before.by k.line k.is k.less rest.by before.better rest.better;
            }
          where
            better :
                (r : Path) (m : LineCost) → p.line r.last b ≡ Some m → m.overhang ≤ℤ l.overhang → (v : Path)
                → (r ≡ q) ⊎ (r.overhang <ℤ q.overhang) → (v ≡ with_line p r b m) ⊎ (v.overhang <ℤ (r.overhang +ℤ m.overhang))
                → (v ≡ with_line p q b l) ⊎ (v.overhang <ℤ (q.overhang +ℤ l.overhang))
            better r m is_m less v (inl same) (inl here) =
                let one : m ≡ l = same_Some m l (sym is_m ∙ ap (λ x. p.line x.last b) same ∙ is) in
                inl (here ∙ ap (λ x. with_line p x b m) same ∙ ap (λ x. with_line p q b x) one)
            better r m is_m less v (inl same) (inr lower) =
                let e : r.overhang ≡ q.overhang = ap (λ x. x.overhang) same in
                inr (omega (arith, ints, e, lower, less))
            better r m is_m less v (inr lower) (inl here) =
                let e : v.overhang ≡ r.overhang +ℤ m.overhang = ap (λ x. x.overhang) here in
                inr (omega (arith, ints, e, lower, less))
            better r m is_m less v (inr lower) (inr here) = inr (omega (arith, ints, lower, here, less))

-- A path with at most the key of another one is before each path with a greater overhang.
first_less : (q v r : Path) → NotAfter (key q) (key v) → v.overhang <ℤ r.overhang → NotAfter (key q) (key r)
first_less q v r (inl lower) less = inl (omega (arith, ints, lower, less))
first_less q v r (inr same) less = inl (omega (arith, ints, same.0, less))

-- The answer of the smaller problem is the answer.
pub answer_of_part :
    (p : Problem) (left_out : BreakState → ℕ → Bool) (IsAsGood : BreakState → BreakState → Type 0) (answer : ChosenBreaks)
    → IsOrder p IsAsGood → HasDetours p left_out IsAsGood → IsAnswer (problem_without p left_out) answer → IsAnswer p answer
answer_of_part p left_out IsAsGood answer order detours is =
    record {
      path = is.path;
      chosen = record { is_list = list.0; admitted = list.1; least = least };
      ends = is.ends;
      overhang = is.overhang;
      demerits = is.demerits;
    }
  where
    q : Path
    q = is.path

    way : Way (problem_without p left_out) q × (q.last.place ≡ p.places)
    way = way_of_break_list (problem_without p left_out) (places_of (ends_of q)) q is.chosen.is_list is.chosen.admitted

    list : IsBreakList p (places_of (ends_of q)) × (path_of p (places_of (ends_of q)) ≡ Some q)
    list = break_list_of_way p q (way_in p left_out q way.0) way.1

    least : (others : List ℕ) (r : Path) → IsBreakList p others → path_of p others ≡ Some r → NotAfter (key q) (key r)
    least others r is_list admitted =
        let other = way_of_break_list p others r is_list admitted in
        let shifted = way_shifted p left_out IsAsGood r order detours other.0 (omega (arith, other.1)) in
        let ends : shifted.by.last.place ≡ p.places = order.place shifted.by.last r.last shifted.as_good ∙ other.1 in
        let list = break_list_of_way (problem_without p left_out) shifted.by shifted.way ends in
        let first = is.chosen.least (places_of (ends_of shifted.by)) shifted.by list.0 list.1 in
        cases shifted.by first shifted.better
      where
        cases : (v : Path) → NotAfter (key q) (key v) → (v ≡ r) ⊎ (v.overhang <ℤ r.overhang) → NotAfter (key q) (key r)
        cases v first (inl same) = subst (λ x. NotAfter (key q) (key x)) same first
        cases v first (inr less) = first_less q v r first less

-- If the smaller problem has no list, there is none.
pub none_of_part :
    (p : Problem) (left_out : BreakState → ℕ → Bool) (IsAsGood : BreakState → BreakState → Type 0)
    → IsOrder p IsAsGood → HasDetours p left_out IsAsGood → AdmitsNone (problem_without p left_out) → AdmitsNone p
none_of_part p left_out IsAsGood order detours none places r is_list admitted =
    let other = way_of_break_list p places r is_list admitted in
    let shifted = way_shifted p left_out IsAsGood r order detours other.0 (omega (arith, other.1)) in
    let ends : shifted.by.last.place ≡ p.places = order.place shifted.by.last r.last shifted.as_good ∙ other.1 in
    let list = break_list_of_way (problem_without p left_out) shifted.by shifted.way ends in
    none (places_of (ends_of shifted.by)) shifted.by list.0 list.1
