-- What a job keeps, and what the definitions read of it (own; after TeX: The Program, parts 16, 32 and 33).
use Rattle.std.specs.Prelude.{◌-◌, [], ℕ, ℤ, pos, Bool, false, List, length, take, replicate, slice_get, slice_set, Option, Some, None, unwrap_or}
use Rattle.std.specs.Prelude.{Result}
use Rattle.node_core.specs.declared.tree.Node.{Node}
use Rattle.node_core.specs.declared.tree.BoxNode.{BoxNode}
use Rattle.node_core.specs.declared.params.Params.{Params}
use Rattle.node_core.specs.Items.{Items, none}
use Rattle.node_core.specs.Nodes.{nodes_of}
use Rattle.node_core.specs.Loads.{Load, load_with_box}
use Rattle.node_core.specs.Parameters.{first_params}
use Rattle.job_machine.specs.declared.OpenList.{OpenList}
use Rattle.job_machine.specs.declared.command.FontLoad.{FontLoad}
use Rattle.scaled_core.specs.declared.counts.TheConstants.{COUNTS}
use Rattle.node_core.specs.declared.limits.TheConstants.{REGISTERS}
use Rattle.job_machine.specs.declared.replies.Refusal.{Refusal}
use Rattle.tfm_core.specs.NamedBytes.{NamedBytes, file_named}
use Rattle.tfm_core.specs.Fonts.{SizedFont}
use Rattle.tfm_core.specs.Slots.{Slots}
use Rattle.tfm_core.specs.declared.slots.TheConstants.{FONT_SLOTS}
use Rattle.job_machine.specs.FontSlots.{font_of_slot}

-- What commands read and change: the font files; the fonts by slot, and the slot of the current one; the parameters; the open lists, the
-- outermost first; the registers by number; the counts of the next pages; how many nodes, bytes of special texts and pages were shipped; and
-- whether the job is over.
-- The pages themselves are in `Machine`: no command reads them.
pub record State : Type 0 where
  pub files : List NamedBytes
  pub fonts : Slots
  pub current : Option ℕ
  pub params : Params
  pub nest : List OpenList
  pub registers : List (Option BoxNode)
  pub counts : List ℤ
  pub shipped : Load
  pub pages : ℕ
  pub over : Bool

-- The state of a new job with these font files.
abbrev pub first_state : List NamedBytes → State
first_state files =
    record {
      files = files;
      fonts = replicate FONT_SLOTS None;
      current = None;
      params = first_params;
      nest = [];
      registers = replicate REGISTERS None;
      counts = replicate COUNTS (pos 0);
      shipped = record { nodes = 0; text = 0 };
      pages = 0;
      over = false;
    }

-- The innermost open list: the last one.
abbrev pub innermost : List OpenList → Option OpenList
innermost nest = slice_get nest (length nest - 1)

-- The open lists around the innermost one.
abbrev pub outer : List OpenList → List OpenList
outer nest = take (length nest - 1) nest

-- The nest with another list in place of the innermost one. It is unchanged where no list is open.
abbrev pub with_innermost : List OpenList → OpenList → List OpenList
with_innermost nest open_list = slice_set nest (length nest - 1) open_list

-- The items of an open list, if there is one.
abbrev pub items_in : Option OpenList → Items
items_in None = none
items_in (Some open_list) = open_list.list

-- How many items the innermost list has: 0 where no list is open.
abbrev pub open_count : State → ℕ
open_count m = length (nodes_of (items_in (innermost m.nest)))

-- The box in a register; none where it is void.
abbrev pub held_in : List (Option BoxNode) → ℕ → Option BoxNode
held_in registers r = unwrap_or (slice_get registers r) None

-- The items of the box of a register: none where it is void.
abbrev pub nodes_in : Option BoxNode → List Node
nodes_in None = []
nodes_in (Some b) = nodes_of b.list

-- How much was shipped, counting also the box of a register.
abbrev pub shipped_with : Load → (held : Option BoxNode) → Load
shipped_with load None = load
shipped_with load (Some b) = load_with_box load b

-- The font that a `font` command loads, or why there is none.
abbrev pub font_for : State → FontLoad → Result SizedFont Refusal
font_for m load = font_of_slot (file_named load.name m.files) load.size
