-- Groups, and the values that are stored with them.
use Rattle.std.proofs.Common.{◌≡◌, ◌∙◌, ℕ, zero, suc, ◌+◌, ◌<◌, ◌≤◌, take, drop, set, get_or, Bool, true, false, cond, List, [], ◌∷◌, ◌++◌, length, length-append, refl, ap, sym, subst, arith, Option, Some, None}
use Rattle.std.specs.Prelude.{ℤ, slice_get, ◌==◌}
use Rattle.std.specs.Option.{option_map}
use Rattle.std.proofs.Math.Logic.{◌⊎◌, inl, inr}
use Rattle.std.proofs.lemmas.Bool.{cases_Bool, cond-true, cond-false}
use Rattle.std.proofs.lemmas.List.{map-append, length-take-le, length-drop, take_all, drop_all, drop-append-le}
use Rattle.std.proofs.Math.Seq.{get_or-append_seam, set-append_seam, take-append_seam}
use Rattle.std.proofs.lemmas.Option.{same_Some, slice_get-map}
use Rattle.node_core.specs.declared.params.Params.{Params}
use Rattle.break_lines.specs.Problems.{Problem}
use Rattle.break_lines.specs.Tables.{Entry, first_entry}
use Rattle.break_lines.proofs.Entries.{get_cases}
use Rattle.break_lines.specs.Facts.{Facts}
use Rattle.break_core.specs.declared.pass_rules.StopRule.{StopRule}
use Rattle.break_core.specs.declared.active_list.Live.{Live}
use Rattle.break_lines.specs.declared.cost.Bound.{Bound}
use Rattle.break_core.specs.Private.LeftOut.{over_before, kept_over}
use Rattle.break_core.specs.Private.Active.{stops_at, problem_leaving_out, groups_of, with_group, with_live, AreOver, HasBest, HaveBest, IsNext, IsActive, IsFilled}
use Rattle.break_core.proofs.Active.{next_active, filled_first}
use Rattle.break_core.proofs.Long.{over_start}

-- The group of an element.
pub group_at : (lives : List Live) (i : ℕ) (live : Live) → slice_get lives i ≡ Some live → slice_get (groups_of lives) i ≡ Some live.group
group_at lives i live at = slice_get-map (λ (x : Live). x.group) lives i ∙ ap (option_map (λ (x : Live). x.group)) at

pub no_groups : (lives : List Live) (n : ℕ) → (n == 0) ≡ true → n ≡ length lives → groups_of lives ≡ []
no_groups [] n is same = refl
no_groups (live ∷ lives) n is same =
    let none : n ≡ 0 = grind arith in
    absurd (omega (arith, none, same))

-- One more group, or the same groups.
pub groups_kept :
    (stopped : Bool) (lives new : List Live) (live : Live)
    → new ≡ cond stopped lives (lives ++ live ∷ []) → groups_of new ≡ cond stopped (groups_of lives) (groups_of lives ++ live.group ∷ [])
groups_kept true lives new live made = ap groups_of made
groups_kept false lives new live made = ap groups_of made ∙ map-append (λ (x : Live). x.group) lives (live ∷ [])

-- A group that was appended is the last one, and may be replaced.
pub last_pushed :
    (items new : List Live) (n : ℕ) (live found : Live) → new ≡ items ++ live ∷ [] → n ≡ length items → found ≡ get_or new n found → found ≡ live
last_pushed items new n live found made number is =
    is ∙ ap (λ xs. get_or xs n found) made ∙ ap (λ k. get_or (items ++ live ∷ []) k found) number ∙ get_or-append_seam items live [] found

pub last_replaced :
    (items new : List Live) (first n : ℕ) (old live : Live)
    → new ≡ items ++ old ∷ [] → n ≡ length items → first ≤ length items → drop first (set new n live) ≡ drop first items ++ live ∷ []
last_replaced items new first n old live made number within =
    ap (λ xs. drop first (set xs n live)) made
    ∙ ap (λ k. drop first (set (items ++ old ∷ []) k live)) number
    ∙ ap (drop first) (set-append_seam items old [] live)
    ∙ drop-append-le first items (live ∷ []) within

-- What holds of all groups of a list, and of one more.
all_kept :
    (P : Live → Type 0) (stopped : Bool) (lives new : List Live) (live : Live)
    → ((k : ℕ) (x : Live) → slice_get lives k ≡ Some x → P x) → P live → new ≡ cond stopped lives (lives ++ live ∷ [])
    → (k : ℕ) (x : Live) → slice_get new k ≡ Some x → P x
all_kept P true lives new live are is made k x at = are k x (ap (λ xs. slice_get xs k) (sym made) ∙ at)
all_kept P false lives new live are is made k x at = cases (get_cases lives (live ∷ []) k x (ap (λ xs. slice_get xs k) (sym made) ∙ at))
  where
    last : (j : ℕ) → slice_get (live ∷ []) j ≡ Some x → live ≡ x
    last zero here = same_Some live x here
    last (suc j) here = absurd (cc)

    cases : (slice_get lives k ≡ Some x) ⊎ ((j : ℕ) × (k ≡ length lives + j) × (slice_get (live ∷ []) j ≡ Some x)) → P x
    cases (inl front) = are k x front
    cases (inr end) = subst P (last end.0 end.2) is

pub over_kept :
    (facts : Facts) (params : Params) (b : ℕ) (stopped : Bool) (lives new : List Live) (live : Live)
    → AreOver facts params b lives → live.over ≡ over_before facts params live.group.place b → new ≡ cond stopped lives (lives ++ live ∷ [])
    → AreOver facts params b new
over_kept facts params b stopped lives new live are is made =
    all_kept (λ x. x.over ≡ over_before facts params x.group.place b) stopped lives new live are is made

pub best_kept :
    (table : List Entry) (params : Params) (stopped : Bool) (lives new : List Live) (live : Live)
    → HaveBest table params lives → HasBest table params live → new ≡ cond stopped lives (lives ++ live ∷ []) → HaveBest table params new
best_kept table params stopped lives new live are is made = all_kept (HasBest table params) stopped lives new live are is made

-- The group of a place is appended to those of earlier places.
pub groups_put :
    (forced : Bool) (lives new : List Live) (live : Live)
    → new ≡ with_live (cond forced [] lives) live → groups_of new ≡ with_group (cond forced [] (groups_of lives)) live.group
groups_put true lives new live made = groups_kept (live.group.start == live.group.end) [] new live made
groups_put false lives new live made = groups_kept (live.group.start == live.group.end) lives new live made

pub over_put :
    (facts : Facts) (params : Params) (place : ℕ) (forced : Bool) (lives new : List Live) (live : Live)
    → AreOver facts params (place + 1) lives → live.group.place ≡ place → live.over ≡ None → new ≡ with_live (cond forced [] lives) live
    → AreOver facts params (place + 1) new
over_put facts params place true lives new live are at none made =
    over_kept facts params (place + 1) (live.group.start == live.group.end) [] new live (λ k x there. absurd (cc))
    (none ∙ sym (ap (λ a. over_before facts params a (place + 1)) at ∙ over_start facts params place)) made
over_put facts params place false lives new live are at none made =
    over_kept facts params (place + 1) (live.group.start == live.group.end) lives new live are
    (none ∙ sym (ap (λ a. over_before facts params a (place + 1)) at ∙ over_start facts params place)) made

-- A group is appended only if it has entries.
some_put :
    (table : List Entry) (params : Params) (lives new : List Live) (live : Live)
    → HaveBest table params lives → live.group.start ≤ live.group.end → (live.group.start < live.group.end → HasBest table params live)
    → new ≡ with_live lives live → HaveBest table params new
some_put table params lives new live are rises is made = cases (cases_Bool (live.group.start == live.group.end))
  where
    cases : ((live.group.start == live.group.end) ≡ true) ⊎ ((live.group.start == live.group.end) ≡ false) → HaveBest table params new
    cases (inl empty) = subst (HaveBest table params) (sym (made ∙ cond-true (live.group.start == live.group.end) lives (lives ++ live ∷ []) empty)) are
    cases (inr some) =
        let less : live.group.start < live.group.end = apart live.group.start live.group.end rises some in
        best_kept table params false lives new live are (is less) (made ∙ cond-false (live.group.start == live.group.end) lives (lives ++ live ∷ []) some)
      where
        apart : (n m : ℕ) → n ≤ m → (n == m) ≡ false → n < m
        apart n m at_most other = grind arith

pub best_put :
    (table : List Entry) (params : Params) (forced : Bool) (lives new : List Live) (live : Live)
    → HaveBest table params lives → live.group.start ≤ live.group.end → (live.group.start < live.group.end → HasBest table params live)
    → new ≡ with_live (cond forced [] lives) live → HaveBest table params new
best_put table params true lives new live are rises is made = some_put table params [] new live (λ k x there. absurd (cc)) rises is made
best_put table params false lives new live are rises is made = some_put table params lives new live are rises is made

-- The group of the start.
pub over_first : (facts : Facts) (params : Params) (live : Live) → live.group.place ≡ 0 → live.over ≡ None → AreOver facts params 1 (live ∷ [])
over_first facts params live at none zero x here =
    let same : live ≡ x = same_Some live x here in
    subst (λ y. y.over ≡ over_before facts params y.group.place 1) same
    (none ∙ sym (ap (λ a. over_before facts params a 1) at ∙ over_start facts params 0))
over_first facts params live at none (suc k) x here = absurd (cc)

pub filled_start :
    (p : Problem) (stop : ℕ → ℕ → Bool) (table : List Entry) (lives : List Live) (live : Live)
    → table ≡ first_entry ∷ [] → lives ≡ live ∷ [] → live.group.place ≡ 0 → live.group.start ≡ 0 → live.group.end ≡ 1
    → IsFilled p stop 1 table (groups_of lives)
filled_start p stop table lives live is_table is_lives place start end =
    subst (λ t. IsFilled p stop 1 t (groups_of lives)) (sym is_table)
    (subst (λ xs. IsFilled p stop 1 (first_entry ∷ []) (groups_of xs)) (sym is_lives) (filled_first p stop live.group place start end))

-- The next group from which a line is tried, and those after it.
pub next_live :
    (f : Facts) (params : Params) (bound : Bound) (rule : StopRule) (table : List Entry) (b at low : ℕ) (lives : List Live) (i : ℕ) (live : Live)
    → slice_get lives i ≡ Some live → IsActive (problem_leaving_out f params bound rule) (stops_at f params rule) table b b at low (drop i (groups_of lives))
    → IsNext (problem_leaving_out f params bound rule) (stops_at f params rule) table b at low live.group
    × IsActive (problem_leaving_out f params bound rule) (stops_at f params rule) table b b live.group.end (live.group.place + 1) (drop (i + 1) (groups_of lives))
next_live f params bound rule table b at low lives i live here is =
    next_active (problem_leaving_out f params bound rule) (stops_at f params rule) table b b at low i (groups_of lives) live.group (group_at lives i live here) is

-- The stored value does not change after a line that is not overfull.
pub same_over : (over : Option ℤ) (overfull : Bool) (width : ℤ) → overfull ≡ false → kept_over over overfull width ≡ over
same_over None overfull width is = cond-false overfull (Some width) None is
same_over (Some over) overfull width is = refl

-- What remains of a list whose elements from number `from` on were copied down to number `to`.
pub copied_down :
    (xs : List Live) (to from n remaining : ℕ) → to ≤ from → from ≤ length xs → length xs ≡ from + n → remaining ≡ to + n
    → take remaining (take to xs ++ take n (drop from xs) ++ drop (to + n) xs) ≡ take to xs ++ drop from xs
copied_down xs to from n remaining rises within is_n is_remaining =
    let zs = drop from xs in
    let copied = take to xs ++ take n zs in
    let rest = drop (to + n) xs in
    let size : length zs ≡ n = omega (arith, length-drop from xs) in
    let all : take n zs ≡ zs = take_all n zs (omega (arith, size)) in
    let front : length (take to xs) ≡ to = length-take-le to xs (omega arith) in
    let is_length : remaining ≡ length copied = omega (arith, length-append (take to xs) (take n zs), front, size, ap length all, is_remaining) in
    ap (λ k. take k (copied ++ rest)) is_length ∙ take-append_seam copied rest ∙ ap (λ ys. take to xs ++ ys) all

-- Groups from a number on.
pub from_first :
    (xs : List Live) (first k index : ℕ) (x : Live) → index ≡ first + k → slice_get xs index ≡ Some x → slice_get (drop first xs) k ≡ Some x
from_first xs zero k index x same is =
    let at : index ≡ k = omega (arith, same) in
    subst (λ n. slice_get xs n ≡ Some x) at is
from_first [] (suc first) k index x same is = absurd (cc)
from_first (y ∷ xs) (suc first) k zero x same is = absurd (omega (arith, same))
from_first (y ∷ xs) (suc first) k (suc index) x same is = from_first xs first k index x (omega (arith, same)) is

pub none_between : (n : ℕ) (xs : List Live) → n ≤ length xs → drop n (take n xs) ≡ []
none_between n xs within = drop_all n (take n xs) (omega (arith, length-take-le n xs within))

pub one_more :
    (first kept : ℕ) (old new : List Live) (live : Live)
    → first ≤ kept → kept ≤ length old → new ≡ take kept old ++ live ∷ [] → drop first new ≡ drop first (take kept old) ++ live ∷ []
one_more first kept old new live low within made =
    ap (drop first) made ∙ drop-append-le first (take kept old) (live ∷ []) (omega (arith, low, length-take-le kept old within))

pub both_parts :
    (first kept end : ℕ) (now new : List Live)
    → first ≤ kept → kept ≤ length now → new ≡ take kept now ++ drop end now → drop first new ≡ drop first (take kept now) ++ drop end now
both_parts first kept end now new low within made =
    ap (drop first) made ∙ drop-append-le first (take kept now) (drop end now) (omega (arith, low, length-take-le kept now within))

pub parts_long :
    (first kept end : ℕ) (now new : List Live)
    → first ≤ kept → kept ≤ length now → new ≡ take kept now ++ drop end now → first ≤ length new
parts_long first kept end now new low within made =
    omega (arith, low, ap length made, length-append (take kept now) (drop end now), length-take-le kept now within)
