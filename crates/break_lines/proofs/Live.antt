-- The groups from which lines can still begin, as the table grows.
use Rattle.std.proofs.Common.{◌≡◌, ◌∙◌, ℕ, zero, suc, ◌+◌, ◌<◌, ◌≤◌, true, false, List, [], ◌∷◌, ◌++◌, length, length-append, ap, sym, subst, arith, Option, Some, None}
use Rattle.std.specs.Prelude.{nat_le, slice_get}
use Rattle.std.proofs.Math.Logic.{◌⊎◌, inl, inr}
use Rattle.std.proofs.lemmas.Bool.{cases_Bool, cond-false, leb-true}
use Rattle.std.proofs.lemmas.Option.{same_Some, slice_get_within}
use Rattle.break_lines.specs.declared.group.ActiveGroup.{ActiveGroup}
use Rattle.break_lines.specs.Problems.{Problem}
use Rattle.break_lines.specs.Ways.{last_forced_below}
use Rattle.break_lines.specs.Tables.{Entry, first_entry, IsTable, offer_of, offer, IsRow, row_entries}
use Rattle.break_lines.specs.Private.Live.{IsGroup, IsSilent, IsLive}
use Rattle.break_lines.proofs.Entries.{get_cases}
use Rattle.break_lines.proofs.Since.{since_grows, since_below, since_free, forced_within}
use Rattle.break_lines.proofs.Rows.{offered_at, held_from}

-- Entries before a forced place offer nothing after it.
early_silent : (p : Problem) (e : Entry) (k b l : ℕ) → e.end.place < last_forced_below p b → b ≤ l → offer p e k l ≡ None
early_silent p e k b l early after = cases (cases_Bool (nat_le (last_forced_below p l) e.end.place))
  where
    cases : (nat_le (last_forced_below p l) e.end.place ≡ true) ⊎ (nat_le (last_forced_below p l) e.end.place ≡ false) → offer p e k l ≡ None
    cases (inl late) = absurd (omega (arith, leb-true (last_forced_below p l) e.end.place late, since_grows p b l after))
    cases (inr is) = cond-false (nat_le (last_forced_below p l) e.end.place) (offer_of p.cut e k l (p.line e.end l)) None is

-- An entry of a longer table with a number below the length of the shorter one is in the shorter one too.
shorter : (table more : List Entry) (k : ℕ) (e : Entry) → k < length table → slice_get (table ++ more) k ≡ Some e → slice_get table k ≡ Some e
shorter table more k e within at = cases (get_cases table more k e at)
  where
    cases : (slice_get table k ≡ Some e) ⊎ ((j : ℕ) × (k ≡ length table + j) × (slice_get more j ≡ Some e)) → slice_get table k ≡ Some e
    cases (inl here) = here
    cases (inr there) = absurd (omega (arith, there.1))

silent_longer :
    (p : Problem) (table more : List Entry) (b c from to : ℕ) → b ≤ c → to ≤ length table → IsSilent p table b from to → IsSilent p (table ++ more) c from to
silent_longer p table more b c from to later within is k e low high at l after =
    is k e low high (shorter table more k e (omega arith) at) l (omega arith)

-- If the next place is not forced, the groups stay, and one more is appended.
pub live_more :
    (p : Problem) (table more : List Entry) (b at : ℕ) (groups : List ActiveGroup) (g : ActiveGroup)
    → p.forced b ≡ false → IsLive p table b at groups
    → g.start ≡ length table → IsGroup p (table ++ more) (b + 1) g → g.end ≡ length (table ++ more)
    → IsLive p (table ++ more) (b + 1) at (groups ++ g ∷ [])
live_more p table more b at [] g free is start group end = (
  omega (arith, is.0),
  subst (λ n. IsSilent p (table ++ more) (b + 1) at n) (sym start) (silent_longer p table more b (b + 1) at (length table) (omega arith) (omega arith) is.1),
  group,
  (omega (arith, end), λ k e low high there l after. absurd (omega (arith, end))),
)
live_more p table more b at (h ∷ groups) g free is start group end =
    let old = is.2 in (
      is.0,
      silent_longer p table more b (b + 1) at h.start (omega arith) (omega (arith, old.rises, old.within)) is.1,
      record {
        rises = old.rises;
        within = omega (arith, old.within, length-append table more);
        since = omega (arith, old.since, since_free p b free);
        earlier = omega (arith, old.earlier);
        entries = λ k e low high there. old.entries k e low high (shorter table more k e (omega (arith, old.within)) there);
      },
      live_more p table more b h.end groups g free is.3 start group end,
    )

-- If the next place is forced, no other group stays.
pub live_forced :
    (p : Problem) (table more : List Entry) (b : ℕ) (g : ActiveGroup)
    → p.forced b ≡ true → IsTable p b table
    → g.start ≡ length table → IsGroup p (table ++ more) (b + 1) g → g.end ≡ length (table ++ more)
    → IsLive p (table ++ more) (b + 1) 0 (g ∷ [])
live_forced p table more b g forced is start group end =
    (omega arith, silent, group, (omega (arith, end), λ k e low high there l after. absurd (omega (arith, end))))
  where
    silent : IsSilent p (table ++ more) (b + 1) 0 g.start
    silent k e low high there l after =
        let here = shorter table more k e (omega (arith, start)) there in
        let before = is.below k e here in
        early_silent p e k (b + 1) l (omega (arith, before.0, forced_within p b (b + 1) (omega arith) forced)) after

-- The entries of a new row are the group of its place.
pub new_group :
    (p : Problem) (table : List Entry) (row : List (Option Entry)) (b : ℕ) (g : ActiveGroup)
    → IsRow p table b (length table) row → 0 < b → g.place ≡ b → g.start ≡ length table → g.end ≡ length (table ++ row_entries row)
    → IsGroup p (table ++ row_entries row) (b + 1) g
new_group p table row b g full some place start end =
    record {
      rises = omega (arith, start, end, length-append table (row_entries row));
      within = omega (arith, end);
      since = omega (arith, place, since_below p (b + 1) (omega arith));
      earlier = omega (arith, place);
      entries = λ k e low high at. here k e low (get_cases table (row_entries row) k e at);
    }
  where
    here :
        (k : ℕ) (e : Entry) → g.start ≤ k → (slice_get table k ≡ Some e) ⊎ ((j : ℕ) × (k ≡ length table + j) × (slice_get (row_entries row) j ≡ Some e))
        → e.end.place ≡ g.place
    here k e low (inl before) = absurd (omega (arith, start, slice_get_within table k e before))
    here k e low (inr there) =
        let at = held_from row there.0 e there.2 in
        let h = full.held at.0 e at.1 in
        (offered_at p table b h.k e h.offered).0 ∙ sym place

-- Before the first place there is the group of the start.
pub first_live : (p : Problem) (g : ActiveGroup) → g.place ≡ 0 → g.start ≡ 0 → g.end ≡ 1 → IsLive p (first_entry ∷ []) 1 0 (g ∷ [])
first_live p g place start end = (
  omega arith,
  (λ k e low high at l after. absurd (omega (arith, start))),
  record {
    rises = omega (arith, start, end);
    within = omega (arith, end);
    since = omega (arith, since_below p 1 (omega arith));
    earlier = omega (arith, place);
    entries = λ k e low high at. entry k e (omega (arith, end)) at;
  },
  (omega (arith, end), λ k e low high at l after. absurd (omega (arith, end))),
)
  where
    entry : (k : ℕ) (e : Entry) → k < 1 → slice_get (first_entry ∷ []) k ≡ Some e → e.end.place ≡ g.place
    entry zero e low at = sym (ap (λ x. x.end.place) (same_Some first_entry e at)) ∙ sym place
    entry (suc k) e low at = absurd (omega arith)
