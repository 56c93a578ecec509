-- The state of a job without the writer of its file, and the state of the machine that it gives (own).
use Rattle.std.specs.Prelude.{ℕ, ℤ, Bool, false, List, Option}
use Rattle.node_core.specs.Loads.{Load}
use Rattle.node_core.specs.declared.tree.BoxNode.{BoxNode}
use Rattle.node_core.specs.declared.params.Params.{Params}
use Rattle.job_machine.specs.declared.OpenList.{OpenList}
use Rattle.tfm_core.specs.NamedBytes.{NamedBytes}
use Rattle.tfm_core.specs.Slots.{Slots}
use Rattle.job_machine.specs.State.{State}

-- The font files; the fonts by slot, and the slot of the current one; the parameters; the open lists, the outermost first; the registers by number;
-- and the counts of the next page. The writer alone keeps how much was shipped and whether the job is over.
pub record JobStateView : Type 0 where
  pub files : List NamedBytes
  pub fonts : Slots
  pub current : Option ℕ
  pub params : Params
  pub nest : List OpenList
  pub registers : List (Option BoxNode)
  pub counts : List ℤ

-- The state of a job that keeps this, has shipped this load on that many pages, and is over or not.
abbrev pub state_of : JobStateView → (shipped : Load) → (pages : ℕ) → (over : Bool) → State
state_of kept shipped pages over =
    record {
      files = kept.files;
      fonts = kept.fonts;
      current = kept.current;
      params = kept.params;
      nest = kept.nest;
      registers = kept.registers;
      counts = kept.counts;
      shipped = shipped;
      pages = pages;
      over = over;
    }

-- The state of a job that keeps this and has shipped nothing yet.
abbrev pub before_shipping : JobStateView → State
before_shipping kept = state_of kept (record { nodes = 0; text = 0 }) 0 false
