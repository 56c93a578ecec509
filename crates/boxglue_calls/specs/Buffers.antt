-- What goes into the buffers of a caller (own).
use Rattle.std.specs.Prelude.{◌≡◌, ◌≤◌, ◌<◌, ◌⊎◌, ℕ, List, length, take, drop}

-- The buffer begins with these items, and after them it is as it was.
pub record Holds {A : Type 0} (old new items : List A) : Type 0 where
  pub space : length items ≤ length old
  pub front : take (length items) new ≡ items
  pub rest : drop (length items) new ≡ drop (length items) old

-- An output is handed over: the buffer holds it, and the status is that of the call; or the buffer is too small and as it was, and the status is 4.
abbrev pub HandsOver : (old new output : List ℕ) → (done status : ℕ) → Type 0
HandsOver old new output done status = (Holds old new output × (status ≡ done)) ⊎ ((length old < length output) × (new ≡ old) × (status ≡ 4))

-- A buffer before a call and after it, and the items that are for it.
pub record Filling (A : Type 0) : Type 0 where
  pub old : List A
  pub new : List A
  pub items : List A

-- Two outputs are handed over: both buffers hold them, and the status is that of the call; or one buffer is too small, both are as they were, and the
-- status is 4.
abbrev pub HandsOverBoth : {A : Type 0} → (one : Filling A) → (other : Filling ℕ) → (done status : ℕ) → Type 0
HandsOverBoth one other done status =
    (Holds one.old one.new one.items × Holds other.old other.new other.items × (status ≡ done))
    ⊎ (((length one.old < length one.items) ⊎ (length other.old < length other.items))
    × (one.new ≡ one.old) × (other.new ≡ other.old) × (status ≡ 4))
