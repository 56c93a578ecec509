-- The greatest length of the open lists of a job: the invariant of `Nest` (own).
use Rattle.std.specs.Prelude.{◌≤◌, List, length}
use Rattle.std.specs.List.{AllByRecursion}
use Rattle.node_core.specs.Nodes.{nodes_of}
use Rattle.node_core.specs.declared.limits.TheConstants.{MAX_ITEMS}
use Rattle.job_machine.specs.declared.OpenList.{OpenList}

-- An open list has at most `MAX_ITEMS` items.
abbrev pub IsBounded : OpenList → Type 0
IsBounded open_list = length (nodes_of open_list.list) ≤ MAX_ITEMS

-- Each of these open lists has at most `MAX_ITEMS` items.
abbrev pub AreBounded : List OpenList → Type 0
AreBounded nest = AllByRecursion IsBounded nest
