-- The active list as the table grows.
use Rattle.std.proofs.Common.{◌≡◌, ◌∙◌, ℕ, zero, suc, ◌+◌, ◌-◌, ◌<◌, ◌≤◌, Bool, true, false, cond, List, [], ◌∷◌, ◌++◌, length, length-append, drop, drop-cons, drop_of_length-le, get_or, replicate, refl, ap, sym, subst, arith, Option, Some, None}
use Rattle.std.specs.Prelude.{slice_get, if◌then◌else◌, ◌==◌}
use Rattle.std.proofs.Math.Logic.{◌⊎◌, inl, inr}
use Rattle.std.proofs.lemmas.Bool.{cases_Bool, cases_lt, cond-true, cond-false}
use Rattle.std.proofs.lemmas.Option.{slice_get_within, get_or_from_slice_get}
use Rattle.std.proofs.lemmas.List.{append-nil}
use Rattle.break_lines.specs.declared.group.ActiveGroup.{ActiveGroup}
use Rattle.break_lines.specs.Problems.{Problem}
use Rattle.break_lines.specs.Tables.{Entry, first_entry, slots, offer, IsTable, IsOffered, IsMet, IsRow, row_entries}
use Rattle.break_lines.specs.Private.Live.{IsGroup, IsLive}
use Rattle.break_lines.proofs.Entries.{get_cases}
use Rattle.break_lines.proofs.Rows.{row_empty}
use Rattle.break_lines.proofs.Since.{since_free}
use Rattle.break_lines.proofs.Bellman.{first_table, next_table}
use Rattle.break_lines.proofs.Live.{live_forced, new_group, first_live}
use Rattle.break_core.specs.Private.Active.{with_group, IsSilentWithin, IsNext, IsActive, IsFilled}

-- The next group, and those after it.
pub next_active :
    (p : Problem) (stop : ℕ → ℕ → Bool) (table : List Entry) (b high at low i : ℕ) (live : List ActiveGroup) (g : ActiveGroup)
    → slice_get live i ≡ Some g → IsActive p stop table b high at low (drop i live)
    → IsNext p stop table b at low g × IsActive p stop table b high g.end (g.place + 1) (drop (i + 1) live)
next_active p stop table b high at low i live g is here =
    let one : i + 1 ≡ suc i = omega arith in
    let rest : drop i live ≡ get_or live i g ∷ drop (suc i) live = drop-cons live i g (slice_get_within live i g is) in
    let same : drop i live ≡ g ∷ drop (i + 1) live =
    rest ∙ ap (λ x. x ∷ drop (suc i) live) (get_or_from_slice_get live i g g is) ∙ ap (λ n. g ∷ drop n live) (sym one) in
    subst (λ groups. IsActive p stop table b high at low groups) same here

-- Entries that offer nothing leave a row as it is.
pub row_same :
    (p : Problem) (table : List Entry) (b n m : ℕ) (row : List (Option Entry))
    → n ≤ m → ((k : ℕ) (e : Entry) → n ≤ k → k < m → slice_get table k ≡ Some e → offer p e k b ≡ None) → IsRow p table b n row → IsRow p table b m row
row_same p table b n m row more passed is =
    record {
      wide = is.wide;
      held = λ s o at.
          let h = is.held s o at in
          record { k = h.k; below = omega (arith, h.below); offered = h.offered; here = h.here };
      met = λ k o below offered. met k o below offered (cases_lt k n);
    }
  where
    met : (k : ℕ) (o : Entry) → k < m → IsOffered p table b k o → (k < n) ⊎ (n ≤ k) → IsMet row o
    met k o below offered (inl before) = is.met k o before offered
    met k o below offered (inr after) =
        let none = passed k offered.by after below offered.present in
        let some = offered.offers in
        absurd (cc)

-- Silent entries leave a row as it is.
pub row_silent :
    (p : Problem) (table : List Entry) (b n m : ℕ) (row : List (Option Entry))
    → n ≤ m → b ≤ p.places → IsSilentWithin p table b n m → IsRow p table b n row → IsRow p table b m row
row_silent p table b n m row more within silent is =
    row_same p table b n m row more (λ k e low high at. silent k e low high at b (omega arith) within) is

-- After all groups there are no more offers.
pub row_end :
    (p : Problem) (stop : ℕ → ℕ → Bool) (table : List Entry) (b high at low i : ℕ) (live : List ActiveGroup) (row : List (Option Entry))
    → length live ≤ i → b ≤ p.places → IsActive p stop table b high at low (drop i live) → IsRow p table b at row → IsRow p table b (length table) row
row_end p stop table b high at low i live row past within here is =
    let none : drop i live ≡ [] = drop_of_length-le live past in
    let last = subst (λ groups. IsActive p stop table b high at low groups) none here in
    row_silent p table b at (length table) row last.gap within last.silent is

-- Silent entries before the next group stay silent for the next place, and so do those of a group that is removed.
pub later_silent : (p : Problem) (table : List Entry) (b c from to : ℕ) → b ≤ c → IsSilentWithin p table b from to → IsSilentWithin p table c from to
later_silent p table b c from to later silent k e low high at l after within = silent k e low high at l (omega arith) within

joined_silent :
    (p : Problem) (table : List Entry) (b from middle to : ℕ)
    → IsSilentWithin p table b from middle → IsSilentWithin p table b middle to → IsSilentWithin p table b from to
joined_silent p table b from middle to front back k e low high at l after within = cases (cases_lt k middle)
  where
    cases : (k < middle) ⊎ (middle ≤ k) → offer p e k l ≡ None
    cases (inl before) = front k e low before at l after within
    cases (inr here) = back k e here high at l after within

earlier_active :
    (p : Problem) (stop : ℕ → ℕ → Bool) (table : List Entry) (b high from at low more : ℕ) (groups : List ActiveGroup)
    → from ≤ at → low ≤ more → IsSilentWithin p table b from at → IsActive p stop table b high at more groups → IsActive p stop table b high from low groups
earlier_active p stop table b high from at low more [] front less silent is =
    record { gap = omega (arith, is.gap); silent = joined_silent p table b from at (length table) silent is.silent; lower = omega (arith, is.lower) }
earlier_active p stop table b high from at low more (g ∷ groups) front less silent is =
    let next = is.0 in (
      record {
        gap = omega (arith, next.gap);
        silent = joined_silent p table b from at g.start silent next.silent;
        group = next.group;
        not_stopped = next.not_stopped;
        later = omega (arith, next.later);
      },
      is.1,
    )

-- A group goes on to the next place if trying does not stop.
pub kept_active :
    (p : Problem) (stop : ℕ → ℕ → Bool) (table : List Entry) (b high at low : ℕ) (g : ActiveGroup) (rest : List ActiveGroup)
    → p.forced b ≡ false → stop g.place b ≡ false → IsNext p stop table b at low g
    → IsActive p stop table (b + 1) high g.end (g.place + 1) rest → IsActive p stop table (b + 1) high at low (g ∷ rest)
kept_active p stop table b high at low g rest free goes next is = (
  record {
    gap = next.gap;
    silent = later_silent p table b (b + 1) at g.start (omega arith) next.silent;
    group = record {
      rises = next.group.rises;
      within = next.group.within;
      since = omega (arith, next.group.since, since_free p b free);
      earlier = omega (arith, next.group.earlier);
      entries = next.group.entries;
    };
    not_stopped = λ l after before. not_stopped l after (cases_lt l b) before;
    later = next.later;
  },
  is,
)
  where
    not_stopped : (l : ℕ) → g.place < l → (l < b) ⊎ (b ≤ l) → l < b + 1 → stop g.place l ≡ false
    not_stopped l after (inl before) within = next.not_stopped l after before
    not_stopped l after (inr here) within =
        let same : b ≡ l = omega arith in
        subst (λ k. stop g.place k ≡ false) same goes

-- The part of the table before the groups from which lines to the next place can be tried.
abbrev pub IsFront : (p : Problem) (stop : ℕ → ℕ → Bool) (table : List Entry) (b high at low : ℕ) → List ActiveGroup → Type 0
IsFront p stop table b high at low front =
    (rest : List ActiveGroup) → p.forced b ≡ false → IsActive p stop table (b + 1) high at low rest → IsActive p stop table (b + 1) high 0 0 (front ++ rest)

-- One more group stays or is removed.
pub front_more :
    (p : Problem) (stop : ℕ → ℕ → Bool) (table : List Entry) (b high at low : ℕ) (front new : List ActiveGroup) (g : ActiveGroup) (stopped : Bool)
    → IsFront p stop table b high at low front → IsNext p stop table b at low g
    → (p.forced b ≡ false → stopped ≡ false → stop g.place b ≡ false)
    → (stopped ≡ true → IsSilentWithin p table (b + 1) g.start g.end)
    → new ≡ (if stopped then front else (front ++ g ∷ []))
    → IsFront p stop table b high g.end (g.place + 1) new
front_more p stop table b high at low front new g stopped is next goes silent made rest free active = cases (cases_Bool stopped)
  where
    joined : (xs : List ActiveGroup) → (xs ++ g ∷ []) ++ rest ≡ xs ++ g ∷ rest
    joined [] = refl
    joined (x ∷ xs) = ap (λ ys. x ∷ ys) (joined xs)

    cases : (stopped ≡ true) ⊎ (stopped ≡ false) → IsActive p stop table (b + 1) high 0 0 (new ++ rest)
    cases (inl yes_stopped) =
        let same : new ≡ front = made ∙ ap (λ t. cond t front (front ++ g ∷ [])) yes_stopped in
        let gap : IsSilentWithin p table (b + 1) at g.end =
        joined_silent p table (b + 1) at g.start g.end (later_silent p table b (b + 1) at g.start (omega arith) next.silent) (silent yes_stopped) in
        subst (λ xs. IsActive p stop table (b + 1) high 0 0 (xs ++ rest)) (sym same)
        (is rest free
        (earlier_active p stop table (b + 1) high at g.end low (g.place + 1) rest (omega (arith, next.gap, next.group.rises)) (omega (arith, next.later)) gap active))
    cases (inr not_stopped) =
        let same : new ≡ front ++ g ∷ [] = made ∙ ap (λ t. cond t front (front ++ g ∷ [])) not_stopped in
        subst (λ xs. IsActive p stop table (b + 1) high 0 0 xs) (sym (ap (λ xs. xs ++ rest) same ∙ joined front))
        (is (g ∷ rest) free (kept_active p stop table b high at low g rest free (goes free not_stopped) next active))

pub front_end :
    (p : Problem) (stop : ℕ → ℕ → Bool) (table : List Entry) (b at low i : ℕ) (live front : List ActiveGroup)
    → length live ≤ i → IsActive p stop table b b at low (drop i live) → IsFront p stop table b b at low front
    → p.forced b ≡ false → IsActive p stop table (b + 1) b 0 0 front
front_end p stop table b at low i live front past here is free =
    let none : drop i live ≡ [] = drop_of_length-le live past in
    let last = subst (λ groups. IsActive p stop table b b at low groups) none here in
    let all : front ++ [] ≡ front = same front in
    subst (λ xs. IsActive p stop table (b + 1) b 0 0 xs) all
    (is [] free (record { gap = last.gap; silent = later_silent p table b (b + 1) at (length table) (omega arith) last.silent; lower = last.lower }))
  where
    same : (xs : List ActiveGroup) → xs ++ [] ≡ xs
    same [] = refl
    same (x ∷ xs) = ap (λ ys. x ∷ ys) (same xs)

-- An entry of a longer table with a number below the length of the shorter one is in the shorter one too.
pub shorter : (table more : List Entry) (k : ℕ) (e : Entry) → k < length table → slice_get (table ++ more) k ≡ Some e → slice_get table k ≡ Some e
shorter table more k e within at = cases (get_cases table more k e at)
  where
    cases : (slice_get table k ≡ Some e) ⊎ ((j : ℕ) × (k ≡ length table + j) × (slice_get more j ≡ Some e)) → slice_get table k ≡ Some e
    cases (inl here) = here
    cases (inr there) = absurd (omega (arith, there.1))

silent_longer : (p : Problem) (table more : List Entry) (b from to : ℕ) → to ≤ length table → IsSilentWithin p table b from to → IsSilentWithin p (table ++ more) b from to
silent_longer p table more b from to within silent k e low high at = silent k e low high (shorter table more k e (omega arith) at)

-- The group of the next place is appended to the others.
active_more :
    (p : Problem) (stop : ℕ → ℕ → Bool) (table more : List Entry) (b at low : ℕ) (groups : List ActiveGroup) (g : ActiveGroup)
    → IsActive p stop table (b + 1) b at low groups
    → g.place ≡ b → g.start ≡ length table → IsGroup p (table ++ more) (b + 1) g → g.end ≡ length (table ++ more)
    → IsActive p stop (table ++ more) (b + 1) (b + 1) at low (groups ++ g ∷ [])
active_more p stop table more b at low [] g is place start group end = (
  record {
    gap = omega (arith, is.gap, start);
    silent = subst (λ n. IsSilentWithin p (table ++ more) (b + 1) at n) (sym start) (silent_longer p table more (b + 1) at (length table) (omega arith) is.silent);
    group = group;
    not_stopped = λ l after before. absurd (omega (arith, place));
    later = omega (arith, is.lower, place);
  },
  record { gap = omega (arith, end); silent = λ k e low high there l after within. absurd (omega (arith, end)); lower = omega (arith, place) },
)
active_more p stop table more b at low (h ∷ groups) g is place start group end =
    let old = is.0 in (
      record {
        gap = old.gap;
        silent = silent_longer p table more (b + 1) at h.start (omega (arith, old.group.rises, old.group.within)) old.silent;
        group = record {
          rises = old.group.rises;
          within = omega (arith, old.group.within, length-append table more);
          since = old.group.since;
          earlier = old.group.earlier;
          entries = λ k e low high there. old.group.entries k e low high (shorter table more k e (omega (arith, old.group.within)) there);
        };
        not_stopped = old.not_stopped;
        later = old.later;
      },
      active_more p stop table more b h.end (h.place + 1) groups g is.1 place start group end,
    )

-- A single group.
active_one :
    (p : Problem) (stop : ℕ → ℕ → Bool) (table : List Entry) (b : ℕ) (g : ActiveGroup)
    → IsLive p table (b + 1) 0 (g ∷ []) → g.place ≡ b → IsActive p stop table (b + 1) (b + 1) 0 0 (g ∷ [])
active_one p stop table b g live place =
    let last = live.3 in (
      record {
        gap = live.0;
        silent = λ k e low high at l after within. live.1 k e low high at l after;
        group = live.2;
        not_stopped = λ l after before. absurd (omega (arith, place));
        later = omega arith;
      },
      record { gap = last.0; silent = λ k e low high at l after within. last.1 k e low high at l after; lower = omega (arith, place) },
    )

-- The groups stay if the next place has no entries.
active_higher :
    (p : Problem) (stop : ℕ → ℕ → Bool) (table : List Entry) (b high at low : ℕ) (groups : List ActiveGroup)
    → IsActive p stop table b high at low groups → IsActive p stop table b (high + 1) at low groups
active_higher p stop table b high at low [] is = record { gap = is.gap; silent = is.silent; lower = omega (arith, is.lower) }
active_higher p stop table b high at low (g ∷ groups) is = (is.0, active_higher p stop table b high g.end (g.place + 1) groups is.1)

-- If the next place has no entries and a break there is forced, all entries are silent.
active_none :
    (p : Problem) (stop : ℕ → ℕ → Bool) (table : List Entry) (b : ℕ) (g : ActiveGroup)
    → IsLive p table (b + 1) 0 (g ∷ []) → g.start ≡ length table → IsActive p stop table (b + 1) (b + 1) 0 0 []
active_none p stop table b g live start =
    record {
      gap = omega arith;
      silent = λ k e low high at l after within. live.1 k e low (omega (arith, high, start)) at l after;
      lower = omega arith;
    }

-- A list of length 0 is empty.
no_more : (table more : List Entry) → length (table ++ more) ≡ length table → table ++ more ≡ table
no_more table more same = cases more (omega (arith, same, length-append table more))
  where
    all : (xs : List Entry) → xs ++ [] ≡ xs
    all [] = refl
    all (x ∷ xs) = ap (λ ys. x ∷ ys) (all xs)

    cases : (more : List Entry) → length more ≡ 0 → table ++ more ≡ table
    cases [] none = all table
    cases (x ∷ xs) none = absurd (omega (arith, none))

no_entries : (n : ℕ) → row_entries (replicate n None) ≡ []
no_entries zero = refl
no_entries (suc n) = no_entries n

-- If all entries are silent, later places have no entries.
silent_table :
    (p : Problem) (n b : ℕ) (table : List Entry)
    → 0 < b → b + n ≡ p.places + 1 → IsTable p b table → IsSilentWithin p table b 0 (length table) → IsTable p (p.places + 1) table
silent_table p zero b table some at is silent =
    let same : b ≡ p.places + 1 = omega (arith, at) in
    subst (λ k. IsTable p k table) same is
silent_table p (suc n) b table some at is silent =
    let row : List (Option Entry) = replicate (slots p.cut) None in
    let full = row_silent p table b 0 (length table) row (omega arith) (omega (arith, at)) silent (row_empty p table b) in
    let none : table ++ row_entries row ≡ table = ap (λ entries. table ++ entries) (no_entries (slots p.cut)) ∙ append-nil table in
    silent_table p n (b + 1) table (omega arith) (omega (arith, at)) (subst (λ t. IsTable p (b + 1) t) none (next_table p b table row some is full))
    (later_silent p table b (b + 1) 0 (length table) (omega arith) silent)

-- If no group is left, the table is that of all places.
pub table_rest :
    (p : Problem) (stop : ℕ → ℕ → Bool) (b : ℕ) (table : List Entry) (live : List ActiveGroup)
    → 0 < b → b ≤ p.places → live ≡ [] → IsFilled p stop b table live → IsTable p (p.places + 1) table
table_rest p stop b table live some within none is =
    let last = subst (λ groups. IsActive p stop table b b 0 0 groups) none is.is_active in
    silent_table p (p.places + 1 - b) b table some (omega (arith, within)) is.is_table last.silent

-- With the row of the next place appended, the table and the groups are filled up to after that place.
pub filled_more :
    (p : Problem) (stop : ℕ → ℕ → Bool) (b : ℕ) (table : List Entry) (row : List (Option Entry)) (live next new : List ActiveGroup) (g : ActiveGroup)
    → 0 < b → IsFilled p stop b table live → IsRow p table b (length table) row
    → (p.forced b ≡ false → IsActive p stop table (b + 1) b 0 0 next)
    → g.place ≡ b → g.start ≡ length table → g.end ≡ length (table ++ row_entries row)
    → new ≡ with_group (if p.forced b then [] else next) g
    → IsFilled p stop (b + 1) (table ++ row_entries row) new
filled_more p stop b table row live next new g some is full active place start end made =
    record { is_table = next_table p b table row some is.is_table full; is_active = cases (cases_Bool (p.forced b)) (cases_Bool (g.start == g.end)) }
  where
    more : List Entry
    more = row_entries row

    group : IsGroup p (table ++ more) (b + 1) g
    group = new_group p table row b g full some place start end

    alone : p.forced b ≡ true → IsLive p (table ++ more) (b + 1) 0 (g ∷ [])
    alone forced = live_forced p table more b g forced is.is_table start group end

    front : (t : Bool) → p.forced b ≡ t → (if p.forced b then [] else next) ≡ cond t [] next
    front t same = ap (λ x. cond x [] next) same

    put : (t u : Bool) → p.forced b ≡ t → (g.start == g.end) ≡ u → new ≡ cond u (cond t [] next) (cond t [] next ++ g ∷ [])
    put t u forced empty =
        made ∙ ap (λ x. cond x (if p.forced b then [] else next) ((if p.forced b then [] else next) ++ g ∷ [])) empty
        ∙ ap (λ xs. cond u xs (xs ++ g ∷ [])) (front t forced)

    same_table : (g.start == g.end) ≡ true → table ++ more ≡ table
    same_table empty = no_more table more (sym end ∙ sym (by_eq empty) ∙ start)
      where
        by_eq : (g.start == g.end) ≡ true → g.start ≡ g.end
        by_eq is_same = grind arith

    cases : (p.forced b ≡ true) ⊎ (p.forced b ≡ false) → ((g.start == g.end) ≡ true) ⊎ ((g.start == g.end) ≡ false)
        → IsActive p stop (table ++ more) (b + 1) (b + 1) 0 0 new
    cases (inl forced) (inl empty) =
        subst (λ groups. IsActive p stop (table ++ more) (b + 1) (b + 1) 0 0 groups) (sym (put true true forced empty))
        (active_none p stop (table ++ more) b g (alone forced) (start ∙ ap length (sym (same_table empty))))
    cases (inl forced) (inr some_entries) =
        subst (λ groups. IsActive p stop (table ++ more) (b + 1) (b + 1) 0 0 groups) (sym (put true false forced some_entries))
        (active_one p stop (table ++ more) b g (alone forced) place)
    cases (inr free) (inl empty) =
        subst (λ groups. IsActive p stop (table ++ more) (b + 1) (b + 1) 0 0 groups) (sym (put false true free empty))
        (subst (λ t. IsActive p stop t (b + 1) (b + 1) 0 0 next) (sym (same_table empty)) (active_higher p stop table (b + 1) b 0 0 next (active free)))
    cases (inr free) (inr some_entries) =
        subst (λ groups. IsActive p stop (table ++ more) (b + 1) (b + 1) 0 0 groups) (sym (put false false free some_entries))
        (active_more p stop table more b 0 0 next g (active free) place start group end)

-- The table with only the start.
pub filled_first :
    (p : Problem) (stop : ℕ → ℕ → Bool) (g : ActiveGroup) → g.place ≡ 0 → g.start ≡ 0 → g.end ≡ 1 → IsFilled p stop 1 (first_entry ∷ []) (g ∷ [])
filled_first p stop g place start end =
    record { is_table = first_table p; is_active = active_one p stop (first_entry ∷ []) 0 g (first_live p g place start end) place }

-- A place without entries at which no break is forced leaves the table and the groups as they are.
pub filled_none :
    (p : Problem) (stop : ℕ → ℕ → Bool) (b n : ℕ) (table : List Entry) (row : List (Option Entry)) (live next : List ActiveGroup)
    → 0 < b → IsFilled p stop b table live → IsRow p table b (length table) row → row ≡ replicate n None → p.forced b ≡ false
    → IsActive p stop table (b + 1) b 0 0 next → IsFilled p stop (b + 1) table next
filled_none p stop b n table row live next some is full empty free active =
    subst (λ t. IsFilled p stop (b + 1) t next) same
    (filled_more p stop b table row live next next group some is full (λ _. active) refl refl refl (sym (put ∙ unforced)))
  where
    none : row_entries row ≡ []
    none = ap row_entries empty ∙ no_entries n

    long : length (table ++ row_entries row) ≡ length table
    long = omega (arith, length-append table (row_entries row), ap length none)

    same : table ++ row_entries row ≡ table
    same = no_more table (row_entries row) long

    group : ActiveGroup
    group = record { place = b; start = length table; end = length (table ++ row_entries row) }

    equal : (k j : ℕ) → k ≡ j → (j == k) ≡ true
    equal k j is_same = grind arith

    unforced : (if p.forced b then [] else next) ≡ next
    unforced = cond-false (p.forced b) [] next free

    put : with_group (if p.forced b then [] else next) group ≡ (if p.forced b then [] else next)
    put =
        cond-true (length table == length (table ++ row_entries row)) (if p.forced b then [] else next) ((if p.forced b then [] else next) ++ group ∷ [])
        (equal (length (table ++ row_entries row)) (length table) long)
