-- A job holds plain data and blocks of the heap, so its handle may go to another thread.
use Rattle.std.specs.Prelude.{Option, Some, None}
use mir.Raw.{raw as bare}
use base.Fraction.{full_share}
use base.Shift.{Keyless}
use denote.Memory.{lone}
use denote.Builtin.{RawPtr}
use denote.RawPtr.{Ptr, block_ptr, null_ptr}
use denote.Param.Send.{IsSend, owning_send, part_keyless, sendable}
use Rattle.std.proofs.Crossing.{frees}
use Rattle.boxglue_calls.specs.Private.Owned.{owned_by_handle}
use Rattle.boxglue_calls.specs.contracts.jobs.kept_job.KeptJob.{the_row as K}
use Rattle.boxglue_calls.proofs.Crossing.{kept as job}
use Rattle.boxglue_calls.specs.contracts.jobs.handle.JobHandle.{the_row, the_type}

-- what a handle holds says the same to every thread
held_keyless : (p : Ptr) (x : Option K.Denot) → Keyless (owned_by_handle K p x)
held_keyless null_ptr None = tt
held_keyless null_ptr (Some x) = tt
held_keyless (block_ptr b o) None = tt
held_keyless (block_ptr b o) (Some x) = (part_keyless K job full_share x b o, frees.frees (record { memory = record { seal = tt } }) (bare (lone K.mir)) (block_ptr b o))

pointer : IsSend RawPtr
pointer = search sendable

pub send : IsSend the_row
send = owning_send the_type (pointer, tt) (λ d. held_keyless d.at d.value) (λ k x w. tt)
