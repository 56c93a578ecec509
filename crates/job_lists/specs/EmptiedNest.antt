-- The nest while the items of its innermost list are elsewhere, to be packed or to get more (own; for the crates of the job alone).
use Rattle.std.specs.Prelude.{List, Option, Some, None}
use Rattle.node_core.specs.Items.{Items, none}
use Rattle.job_machine.specs.declared.OpenList.{OpenList}
use Rattle.job_machine.specs.State.{with_innermost}

-- The nest with other items in its innermost list.
abbrev pub refilled_nest : List OpenList → Items → Option OpenList → List OpenList
refilled_nest nest items None = nest
refilled_nest nest items (Some open_list) = with_innermost nest (record open_list { list = items })

-- The nest without the items of its innermost list.
abbrev pub emptied_nest : List OpenList → Option OpenList → List OpenList
emptied_nest nest open_list = refilled_nest nest none open_list
