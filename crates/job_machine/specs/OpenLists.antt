-- An open list: its kind, the items that a box adds to it, and the box that it becomes (own; after TeX: The Program, parts 33 and 47).
use Rattle.std.specs.Prelude.{◌≡◌, ℕ, ℤ, Bool, true, false, List, Option, Some, None, Result, Ok, Err}
use Rattle.node_core.specs.declared.tree.Node.{Node}
use Rattle.node_core.specs.declared.tree.Kind.{Kind}
use Rattle.node_core.specs.declared.tree.Kind.TheVariants.{Horizontal, Vertical}
use Rattle.node_core.specs.declared.tree.BoxNode.{BoxNode}
use Rattle.node_core.specs.declared.params.Params.{Params}
use Rattle.node_core.specs.declared.tree.Glue as glues
use Rattle.node_core.specs.Items.{Items, none}
use Rattle.vert_core.specs.declared.interline.DimensionTooLarge as distances
use Rattle.vert_core.specs.Interline.{ignored_depth, interline, glue_of, appended_nodes}
use Rattle.job_machine.specs.declared.OpenList.{OpenList}
use Rattle.job_machine.specs.declared.ListPurpose.{ListPurpose}
use Rattle.job_machine.specs.declared.ListPurpose.TheVariants.{Box, Paragraph}
use Rattle.job_machine.specs.BoxForms.{kind_of}
use Rattle.job_machine.specs.declared.command.BoxForm.{BoxForm}
use Rattle.job_machine.specs.declared.command.BoxForm.TheVariants.{Hbox, Vbox, Vtop}
use Rattle.pack_core.specs.declared.pack.Target.{Target}
use Rattle.pack_core.specs.declared.pack.PackedBox as packs
use Rattle.pack_core.specs.declared.pack.TooLarge.{TooLarge}
use Rattle.pack_core.specs.Boxes.{hpack_result, vpack_result, vtop_result}

-- A list that was just opened: it has no items, and its previous depth is the one that counts as none.
abbrev pub opened_list : ListPurpose → OpenList
opened_list purpose = record { purpose = purpose; list = none; previous_depth = ignored_depth }

-- The kind of a list, by what it was opened for: a paragraph is a horizontal list.
abbrev pub kind_by : ListPurpose → Kind
kind_by (Box opening) = kind_of opening.form
kind_by Paragraph = Horizontal

-- The kind of an open list. Where no list is open, each command is refused before it asks for this.
abbrev pub kind_in : Option OpenList → Kind
kind_in None = Horizontal
kind_in (Some open_list) = kind_by open_list.purpose

-- Whether a kind is the vertical one.
abbrev pub is_vertical : Kind → Bool
is_vertical Horizontal = false
is_vertical Vertical = true

-- The glue before a box of that height: interline glue in a vertical list, none in a horizontal one.
abbrev pub glue_by : Kind → Params → (previous height : ℤ) → Result (Option glues.Glue) distances.DimensionTooLarge
glue_by Horizontal params previous height = Ok None
glue_by Vertical params previous height = interline params previous height

-- The glue before a box of that height at the end of an open list.
abbrev pub glue_in : Params → OpenList → (height : ℤ) → Result (Option glues.Glue) distances.DimensionTooLarge
glue_in params open_list height = glue_by (kind_by open_list.purpose) params open_list.previous_depth height

-- The items that a box adds to an open list: the glue before it, if any, and the box with its shift.
abbrev pub box_items : Params → OpenList → (shift : ℤ) → BoxNode → List Node
box_items params open_list shift b = appended_nodes (glue_of (glue_in params open_list b.height)) shift b

-- The box that a list of items becomes, or the items where a size does not fit. A vbox is no deeper than boxmaxdepth
-- (TeX: The Program, part 47, §1086).
abbrev pub packed_as : BoxForm → Params → Target → Items → Result packs.PackedBox TooLarge
packed_as Hbox params target items = hpack_result target items
packed_as Vbox params target items = vpack_result target params.box_max_depth items
packed_as Vtop params target items = vtop_result target params.box_max_depth items

-- The box that a list with these items becomes, by what it was opened for. A paragraph becomes no box.
abbrev pub packed_by : ListPurpose → Params → Items → Result packs.PackedBox TooLarge
packed_by (Box opening) params items = packed_as opening.form params opening.target items
packed_by Paragraph params items = Err (record { list = items })

-- The packed box, if its sizes fit.
abbrev pub if_packed : Result packs.PackedBox TooLarge → Option packs.PackedBox
if_packed (Ok packed) = Some packed
if_packed (Err items) = None

-- The box of an open list, if there is one and its sizes fit.
abbrev pub packed_list : Params → Option OpenList → Option packs.PackedBox
packed_list params None = None
packed_list params (Some open_list) = if_packed (packed_by open_list.purpose params open_list.list)

-- The register that the box of a list goes into. None where it goes into the list around, as the lines of a paragraph do.
abbrev pub register_of : ListPurpose → Option ℕ
register_of (Box opening) = opening.into
register_of Paragraph = None

-- The box or the lines of an open list go into the list around it.
abbrev pub GoesIntoList : Option OpenList → Type 0
GoesIntoList None = ⊥
GoesIntoList (Some open_list) = register_of open_list.purpose ≡ None
