-- What is stored of neighbouring groups as the table grows.
use Rattle.std.proofs.Common.{◌≡◌, ℕ, zero, suc, ◌+◌, ◌≤◌, List, [], ◌∷◌, ◌++◌, length, length-append, refl, subst, arith, Some}
use Rattle.std.specs.Prelude.{◌≤ℤ◌, slice_get}
use Rattle.std.proofs.Math.Logic.{◌⊎◌, inl, inr}
use Rattle.std.proofs.lemmas.Int.{ints}
use Rattle.std.proofs.lemmas.Option.{same_Some}
use Rattle.break_lines.specs.declared.group.ActiveGroup.{ActiveGroup}
use Rattle.break_lines.specs.Tables.{Entry, compared_numbers}
use Rattle.break_lines.proofs.Dictionary.{not_after_refl}
use Rattle.break_lines.proofs.Entries.{get_left, get_cases}
use Rattle.break_core.specs.declared.neighbours.Neighbours.{Neighbours}
use Rattle.break_core.specs.Private.Near.{IsMetBy, IsCoveredBy, HasNeighbours, HaveNeighbours}
use Rattle.break_core.proofs.Active.{shorter}

-- A group is met by itself and covers itself.
pub met_self : (table : List Entry) (g : ActiveGroup) → g.end ≤ length table → IsMetBy table g g
met_self table g within =
    record {
      within = within;
      each = λ k e from to there.
          record { index = k; low = from; high = to; entry = e; present = there; lines = refl; class = refl; as_good = not_after_refl (compared_numbers e) };
    }

pub covered_self : (table : List Entry) (g : ActiveGroup) → g.end ≤ length table → IsCoveredBy table g g
covered_self table g within =
    record {
      within = within;
      each = λ k e from to there.
          let same : e.demerits ≤ℤ e.demerits = omega (arith, ints) in
          record { index = k; low = from; high = to; entry = e; present = there; lines = refl; class = refl; at_most = inr (refl, same) };
    }

-- What is stored stays so in a longer table.
pub near_longer : (table more : List Entry) (list : List Neighbours) → HaveNeighbours table list → HaveNeighbours (table ++ more) list
near_longer table more list are k near at = (met_longer (are k near at).0, covered_longer (are k near at).1)
  where
    met_longer : IsMetBy table near.meets near.group → IsMetBy (table ++ more) near.meets near.group
    met_longer is =
        record {
          within = omega (arith, is.within, length-append table more);
          each = λ k e low high there.
              let m = is.each k e low high (shorter table more k e (omega (arith, high, is.within)) there) in
              record {
                index = m.index;
                low = m.low;
                high = m.high;
                entry = m.entry;
                present = get_left table more m.index m.entry m.present;
                lines = m.lines;
                class = m.class;
                as_good = m.as_good;
              };
        }

    covered_longer : IsCoveredBy table near.group near.covered_by → IsCoveredBy (table ++ more) near.group near.covered_by
    covered_longer is =
        record {
          within = omega (arith, is.within, length-append table more);
          each = λ k e low high there.
              let m = is.each k e low high (shorter table more k e (omega (arith, high, is.within)) there) in
              record {
                index = m.index;
                low = m.low;
                high = m.high;
                entry = m.entry;
                present = get_left table more m.index m.entry m.present;
                lines = m.lines;
                class = m.class;
                at_most = m.at_most;
              };
        }

-- One more element is stored.
pub near_more :
    (table : List Entry) (list : List Neighbours) (found : Neighbours)
    → HaveNeighbours table list → HasNeighbours table found → HaveNeighbours table (list ++ found ∷ [])
near_more table list found are is k near at = cases (get_cases list (found ∷ []) k near at)
  where
    cases : (slice_get list k ≡ Some near) ⊎ ((j : ℕ) × (k ≡ length list + j) × (slice_get (found ∷ []) j ≡ Some near)) → HasNeighbours table near
    cases (inl here) = are k near here
    cases (inr (zero, at_end, there)) = subst (HasNeighbours table) (same_Some found near there) is
    cases (inr (suc j, at_end, there)) = absurd (cc)
