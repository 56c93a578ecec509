-- What open lists become after a mutable reference to the innermost of them was lent (own; for the crates of the job alone).
use Rattle.std.specs.Prelude.{◌-◌, Option, length}
use Rattle.std.specs.Borrow.{LendsIf, MutBor, Fml}
use Rattle.std.specs.contracts.alloc.Global as global
use Rattle.std.specs.contracts.impls.GlobalAllocator.TheImpl.{ghosts}
use Rattle.smallvec.specs.SmallVec.{SmallVec, with_item}
use Rattle.smallvec.specs.contracts.small_vec.SmallVec as small_vec
use Rattle.job_machine.specs.declared.OpenList.{OpenList}
use Rattle.job_machine.specs.contracts.OpenList as open_list
use denote.Param.{number}

-- The innermost list becomes the last value of the reference. Where no list is open, the lists do not change.
abbrev pub LendsInnermost : MutBor (SmallVec OpenList) → Option (MutBor OpenList) → Fml
LendsInnermost lists lent =
    LendsIf (small_vec.the_row open_list.the_row (number 4) global.the_row ghosts) open_list.the_row lists lent
    (with_item lists.now (length lists.now.items - 1)) lists.now
