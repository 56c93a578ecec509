-- The end of a DVI file: post, and post_post with the bytes 223 after it (DVItype, 19 and 20); and how it may be broken (own).
use Rattle.std.specs.Prelude.{◌≡◌, ◌≢◌, ◌≤◌, ◌<◌, ◌+◌, ◌-◌, List, length, take, drop, slice_index, ℕ, pos}
use Rattle.dvi_ops.specs.Instruction.{Postamble, Instruction, Post}
use Rattle.dvi_ops.specs.Table.{Spells, signed}
use Rattle.dvi_scan.specs.declared.fault.BadDvi.{BadDvi}
use Rattle.dvi_scan.specs.declared.fault.DviCause.{DviCause}
use Rattle.dvi_scan.specs.declared.fault.DviCause.TheVariants.{Trailer, Version, Opcode, Pointer, Truncated}
use Rattle.dvi_ops.specs.declared.fault.OpFault.{OpFault}
use Rattle.dvi_ops.specs.declared.fault.OpFault.TheVariants as faults

-- An instruction is spelled from a place on, and ends at or before `bound`.
abbrev pub IsSpelledAt : List ℕ → (place bound : ℕ) → Instruction → Type 0
IsSpelledAt bytes place bound i = (size : ℕ) × (place + size ≤ bound) × Spells i (take size (drop place bytes))

-- After the place e there are only bytes 223, at least four. The byte at e is another one, and five or more bytes are before it (DVItype, 20).
pub record IsTrailed (bytes : List ℕ) (e : ℕ) : Type 0 where
  pub space : 5 ≤ e
  pub padded : e + 5 ≤ length bytes
  pub after : (k : ℕ) → e < k → k < length bytes → slice_index bytes k ≡ 223
  pub last : slice_index bytes e ≢ 223

-- The version is at e, and the code of post_post five bytes before it (DVItype, 20).
pub record IsClosed (bytes : List ℕ) (e : ℕ) : Type 0 where
  pub trailed : IsTrailed bytes e
  pub version : slice_index bytes e ≡ 2
  pub opcode : slice_index bytes (e - 5) ≡ 249

-- The instruction post_post, whose version is at e, names a post that ends at or before post_post (DVItype, 19 and 20).
pub record HasPostamble (bytes : List ℕ) (post e : ℕ) (postamble : Postamble) : Type 0 where
  pub closed : IsClosed bytes e
  pub named : signed 4 (drop (e - 4) bytes) ≡ pos post
  pub spelled_at : IsSpelledAt bytes post (e - 5) (Post postamble)

-- A rule of the end is broken at a place, and the earlier rules hold: trailer; version, then code; pointer.
abbrev pub BreaksEnd : List ℕ → (place : ℕ) → DviCause → Type 0
BreaksEnd bytes place Trailer = (place ≡ length bytes) × ((e : ℕ) → IsTrailed bytes e → ⊥)
BreaksEnd bytes place Version = IsTrailed bytes place × (slice_index bytes place ≢ 2)
BreaksEnd bytes place Opcode = IsTrailed bytes (place + 5) × (slice_index bytes (place + 5) ≡ 2) × (slice_index bytes place ≢ 249)
BreaksEnd bytes place Pointer =
    IsClosed bytes (place + 4)
    × ((post : ℕ) (postamble : Postamble) → signed 4 (drop place bytes) ≡ pos post → IsSpelledAt bytes post (place - 1) (Post postamble)
    → ⊥)
BreaksEnd bytes place cause = ⊥

-- The same for a fault.
abbrev pub IsEndFault : List ℕ → BadDvi → Type 0
IsEndFault bytes fault = BreaksEnd bytes fault.place fault.cause

-- The rule that is broken where no instruction is read for this reason (own).
abbrev pub cause_of : OpFault → DviCause
cause_of faults.Opcode = Opcode
cause_of faults.Truncated = Truncated
