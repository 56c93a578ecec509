-- What a handle owns (own).
use Rattle.std.specs.Prelude.{Option, Some, None}
use base.Fml.{Fml, ftrue, ffalse}
use denote.RattleType.{RattleType}
use denote.RawPtr.{Ptr, null_ptr, block_ptr}
use mir.Syntax.{Ty}
use Rattle.std.specs.contracts.impls.GlobalAllocator.TheImpl.{ghosts}
use Rattle.std_alloc.specs.Box.Ownership.{box_owns}

-- What gives memory of the heap back: that of every `Global`, since it has no bytes.
abbrev pub token : Ty → Ptr → Fml
token = ghosts.dealloc_token (record { memory = record { seal = tt } })

-- A handle that is null holds no value, and owns nothing. Every other one is the place of a box of the heap, and owns the box.
abbrev pub owned_by_handle : (R : RattleType) → Ptr → Option R.Denot → Fml
owned_by_handle R null_ptr None = ftrue
owned_by_handle R null_ptr (Some x) = ffalse
owned_by_handle R (block_ptr b o) None = ffalse
owned_by_handle R (block_ptr b o) (Some x) = box_owns token R (block_ptr b o) x
