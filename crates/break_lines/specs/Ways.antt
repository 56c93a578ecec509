-- Lists of breaks as they grow, line by line (own).
use Rattle.std.specs.Prelude.{◌≡◌, ◌<◌, ◌≤◌, ℕ, zero, suc, if◌then◌else◌, Some}
use Rattle.break_lines.specs.declared.state.BreakState.{BreakState}
use Rattle.break_lines.specs.declared.state.LineCost.{LineCost}
use Rattle.break_lines.specs.Orders.{NotAfter}
use Rattle.break_lines.specs.Problems.{Problem, Path, first_path, with_line, key}

-- The last forced place below this one, or the start.
abbrev pub last_forced_below : Problem → ℕ → ℕ
last_forced_below p zero = 0
last_forced_below p (suc b) = if p.forced b then b else last_forced_below p b

-- A way: consecutive admitted lines from the start that pass over no forced place.
pub data Way (p : Problem) : Path → Type 0 where
  starts : Way p first_path
  goes :
      (q : Path) (b : ℕ) (l : LineCost)
      → Way p q → q.last.place < b → last_forced_below p b ≤ q.last.place → p.line q.last b ≡ Some l → Way p (with_line p q b l)

-- The best way to a state.
pub record IsLeast (p : Problem) (s : BreakState) (w : Path) : Type 0 where
  pub way : Way p w
  pub ends : w.last ≡ s
  pub least : (u : Path) → Way p u → u.last ≡ s → NotAfter (key w) (key u)
