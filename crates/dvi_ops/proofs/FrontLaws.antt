-- How `read` and the table agree.
use Rattle.std.proofs.Common.{ℕ, ◌≡◌, ◌≤◌, ◌-◌, List, [], ◌∷◌, ◌++◌, length, take, drop, slice_index, None, arith, refl, sym, ap, subst, ◌∙◌}
use Rattle.std.proofs.Math.Seq.{take-append_seam}
use Rattle.std.proofs.lemmas.Bool.{le-ltb}
use Rattle.std.proofs.lemmas.List.{append_cancel_right, length-append, take-append-drop}
use Rattle.dvi_ops.specs.Instruction.{Instruction}
use Rattle.dvi_ops.specs.Private.Reading.{frame_at, read}
use Rattle.dvi_ops.specs.Table.{Spells}
use Rattle.dvi_ops.proofs.Fronts.{got, same_first, same_rest}
use Rattle.dvi_ops.proofs.ReadSpells.{read_spells}
use Rattle.dvi_ops.proofs.SpellsRead.{spells_read}

-- The rest is no longer than the bytes.
pub front_length : (i : Instruction) (bytes rest : List ℕ) → read bytes ≡ got i rest → length rest ≤ length bytes
front_length i bytes rest e =
    let s = read_spells bytes rest i e in
    omega (arith, length-append s.front rest, ap (λ (x : List ℕ). length x) s.whole)

pub front_spells : (i : Instruction) (bytes rest : List ℕ) → read bytes ≡ got i rest → Spells i (take (length bytes - length rest) bytes)
front_spells i bytes rest e =
    let s = read_spells bytes rest i e in
    let size : length (s.front ++ rest) - length rest ≡ length s.front = omega (arith, length-append s.front rest) in
    let cut : take (length (s.front ++ rest) - length rest) (s.front ++ rest) ≡ s.front = rw size (take-append_seam s.front rest) in
    let same : take (length bytes - length rest) bytes ≡ s.front = ap (λ (x : List ℕ). take (length x - length rest) x) s.whole ∙ cut in
    subst (λ (x : List ℕ). Spells i x) (sym same) s.spells

-- Where nothing is read, no beginning of the bytes spells an instruction.
pub none_spells : (bytes : List ℕ) → read bytes ≡ None → (i : Instruction) (size : ℕ) → Spells i (take size bytes) → ⊥
none_spells bytes e i size says =
    let there : read bytes ≡ got i (drop size bytes) = ap read (sym (take-append-drop size bytes)) ∙ spells_read i (take size bytes) (drop size bytes) says in
    cc

-- No instruction begins with a code from 250.
pub none_read : (bytes : List ℕ) → 250 ≤ slice_index bytes 0 → read bytes ≡ None
unfolding read frame_at
none_read [] h = absurd (omega arith)
none_read (operation ∷ rest) h =
    rw (le-ltb operation 132 (omega arith), le-ltb operation 143 (omega arith), le-ltb operation 157 (omega arith), le-ltb operation 171 (omega arith), le-ltb operation 239 (omega arith), le-ltb operation 247 (omega arith), le-ltb operation 248 (omega arith), le-ltb operation 249 (omega arith), le-ltb operation 250 (omega arith)) refl

-- No spelling is the beginning of another.
pub one_reading : (i j : Instruction) (a b x y : List ℕ) → Spells i a → Spells j b → a ++ x ≡ b ++ y → (i ≡ j) × (a ≡ b)
one_reading i j a b x y first second same =
    let one = spells_read i a x first in
    let other = spells_read j b y second in
    let both : got i x ≡ got j y = sym one ∙ ap read same ∙ other in
    let rest : x ≡ y = same_rest i j x y both in
    (same_first i j x y both, append_cancel_right a b x (same ∙ ap (λ (r : List ℕ). b ++ r) (sym rest)))
