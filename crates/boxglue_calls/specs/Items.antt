-- What the call for the items of a box hands over (own).
use Rattle.std.specs.Prelude.{◌≡◌, ◌≢◌, ◌≤◌, ◌⊎◌, ◌↔◌, ◌-◌, ◌^◌, ℕ, List, [], length, min, Option, Some, None}
use Rattle.node_core.specs.declared.limits.TheConstants.{REGISTERS}
use Rattle.node_core.specs.declared.tree.BoxNode.{BoxNode}
use Rattle.box_items.specs.Rows.{rows_of_box, texts_in}
use Rattle.box_items.specs.declared.row.BoxItem.{BoxItem}
use Rattle.box_items.specs.declared.writing.ItemSizes.{ItemSizes}
use Rattle.job_machine.specs.State.{held_in}
use Rattle.boxglue_calls.specs.Buffers.{HandsOverBoth}
use Rattle.boxglue_calls.specs.Jobs.{KeptState}

-- The rows of the box in a register, and the texts of its specials: none if it is void.
abbrev pub rows_held : Option BoxNode → List BoxItem
rows_held None = []
rows_held (Some b) = rows_of_box b

abbrev pub texts_held : Option BoxNode → List ℕ
texts_held None = []
texts_held (Some b) = texts_in b.list

-- The box in a register of a job, if there is one.
abbrev pub box_held : KeptState → (register : ℕ) → Option BoxNode
box_held kept register = held_in kept.job.state.registers register

-- What the call has in its buffers: rows, and texts.
pub record ItemOutputs : Type 0 where
  pub items : List BoxItem
  pub text : List ℕ

abbrev pub item_outputs : List BoxItem → (text : List ℕ) → ItemOutputs
item_outputs items text = record { items = items; text = text }

-- The rows of what a register holds are handed over, with the texts. The sizes are theirs; a number above 2^64 - 1 is shown as this.
pub record HandsRows (held : Option BoxNode) (old new : ItemOutputs) (sizes : ItemSizes) (status : ℕ) : Type 0 where
  pub handed : HandsOverBoth (record { old = old.items; new = new.items; items = rows_held held })
      (record { old = old.text; new = new.text; items = texts_held held }) 0 status
  pub items_size : sizes.items ≡ min (length (rows_held held)) (2 ^ 64 - 1)
  pub text_size : sizes.text ≡ min (length (texts_held held)) (2 ^ 64 - 1)

-- The number of the register is out of its range, and the status is 6; or the rows of its box are handed over. The job is as it was.
abbrev pub HandsItems : (register : ℕ) → (before after : ItemOutputs) → ItemSizes → (old new : KeptState) → (status : ℕ) → Type 0
HandsItems register before after sizes old new status =
    (new ≡ old) × (((REGISTERS ≤ register) × (status ≡ 6)) ⊎ HandsRows (box_held old register) before after sizes status)

-- The call says 6 exactly if there is a job and the number of the register is out of its range.
abbrev pub RefusesRegister : Option KeptState → (register status : ℕ) → Type 0
RefusesRegister old register status = status ≡ 6 ↔ ((old ≢ None) × (REGISTERS ≤ register))

-- Without a job, or for a number out of its range, the call leaves this as it was.
abbrev pub KeepsUnlisted : {A : Type 0} → (status : ℕ) → (old new : A) → Type 0
KeepsUnlisted status old new = (status ≡ 6) ⊎ (status ≡ 8) → new ≡ old
