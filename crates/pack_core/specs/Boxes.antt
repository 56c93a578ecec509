-- The packed boxes (TeX: The Program, part 33, §649 to §678; a vtop: part 47, §1087). Which numbers have to fit is own: TeX tests none.
use Rattle.std.specs.Prelude.{◌+ℤ◌, ◌-ℤ◌, ◌++◌, ℕ, ℤ, if◌then◌else◌, Bool, true, false, List, [], ◌∷◌, Option, Some, None, Result, Ok, Err}
use Rattle.std.specs.List.{list_all}
use Rattle.std.specs.Int.{int_min}
use Rattle.node_core.specs.declared.tree.Kind.TheVariants.{Horizontal, Vertical}
use Rattle.node_core.specs.declared.tree.Order.TheVariants.{Normal, Fil, Fill, Filll}
use Rattle.node_core.specs.declared.tree.Node.{Node}
use Rattle.node_core.specs.declared.tree.BoxNode.{BoxNode}
use Rattle.node_core.specs.Items.{BoxFrame, Items}
use Rattle.node_core.specs.Nodes.{box_of, nodes_of}
use Rattle.pack_core.specs.declared.pack.Target.{Target}
use Rattle.pack_core.specs.declared.pack.Target.TheVariants.{Natural, To, Spread}
use Rattle.pack_core.specs.declared.pack.PackedBox.{PackedBox}
use Rattle.pack_core.specs.declared.pack.Shell.{Shell}
use Rattle.pack_core.specs.declared.pack.TooLarge.{TooLarge}
use Rattle.pack_core.specs.Items.{item_width, height_above_baseline, depth_below_baseline, downward, breadth}
use Rattle.scaled_core.specs.Dimensions.{fits}
use Rattle.pack_core.specs.Totals.{total, greatest_of, pending_depth, first_height}
use Rattle.pack_core.specs.Glue.{stretch_totals, shrink_totals, setting_of, setting_badness}

-- The target size of a list of this natural size: the natural size, a given size, or the natural size plus an amount (TeX: The Program, part 33, §657
-- and §672).
abbrev pub target_size : Target → (natural : ℤ) → ℤ
target_size Natural natural = natural
target_size (To size) natural = size
target_size (Spread more) natural = natural +ℤ more

-- The result of packing without the list: the frame of the box, its badness, and the numbers that have to fit (own).
pub record Packing : Type 0 where
  pub frame : BoxFrame
  pub badness : ℕ
  pub numbers : List ℤ

-- The list in its box with its badness, or the list itself if one of the numbers does not fit (own).
abbrev pub packed_by : Packing → Items → Result PackedBox TooLarge
packed_by packing items =
    if list_all fits packing.numbers then Ok (record { box_node = box_of packing.frame items; badness = packing.badness })
    else Err (record { list = items })

-- The totals of stretch and shrink of a list in each order, as numbers that have to fit (own).
abbrev pub glue_totals : List Node → List ℤ
glue_totals nodes =
    stretch_totals nodes Normal ∷ stretch_totals nodes Fil ∷ stretch_totals nodes Fill ∷ stretch_totals nodes Filll
    ∷ shrink_totals nodes Normal ∷ shrink_totals nodes Fil ∷ shrink_totals nodes Fill ∷ shrink_totals nodes Filll ∷ []

-- The width of an hbox: the target size for its natural width, which is the sum of the widths of its items (TeX: The Program, part 33, §657).
abbrev pub hbox_width : Target → List Node → ℤ
hbox_width target nodes = target_size target (total item_width nodes)

-- The width of an hbox minus its natural width: what its glue has to make up (TeX: The Program, part 33, §657).
abbrev pub hbox_excess : Target → List Node → ℤ
hbox_excess target nodes = hbox_width target nodes -ℤ total item_width nodes

-- The frame of an hbox: it has the target width, and the height and depth of its highest and its deepest item (TeX: The Program, part 33, §649).
abbrev pub hbox_frame : Target → List Node → BoxFrame
hbox_frame target nodes =
    record {
      kind = Horizontal;
      width = hbox_width target nodes;
      height = greatest_of height_above_baseline nodes;
      depth = greatest_of depth_below_baseline nodes;
      setting = setting_of (hbox_excess target nodes) nodes;
    }

-- A horizontal list as a box (TeX: The Program, part 33, §649).
unfoldable pub hbox : Target → Items → BoxNode
hbox target items = box_of (hbox_frame target (nodes_of items)) items

-- How badly the glue of an hbox is stretched or shrunk (TeX: The Program, part 33, §658 to §667).
abbrev pub hbox_badness : Target → List Node → ℕ
hbox_badness target nodes = setting_badness (hbox_excess target nodes) nodes

-- The numbers of a horizontal list that have to fit: its natural width, the totals of its glue, and the sizes of its box (own).
abbrev pub hbox_numbers : Target → List Node → List ℤ
hbox_numbers target nodes =
    total item_width nodes ∷ hbox_width target nodes ∷ greatest_of height_above_baseline nodes ∷ greatest_of depth_below_baseline nodes
    ∷ glue_totals nodes

-- The result of packing a horizontal list, without the list.
abbrev pub hbox_packing : Target → List Node → Packing
hbox_packing target nodes = record { frame = hbox_frame target nodes; badness = hbox_badness target nodes; numbers = hbox_numbers target nodes }

-- The result of packing a horizontal list: its box and its badness, or the list itself if one of its numbers does not fit (own).
unfoldable pub hpack_result : Target → Items → Result PackedBox TooLarge
hpack_result target items = packed_by (hbox_packing target (nodes_of items)) items

-- The depth of a vbox: that of its last rule or box, but at most the limit (TeX: The Program, part 33, §668).
abbrev pub vbox_depth : (limit : ℤ) → List Node → ℤ
vbox_depth limit nodes = int_min (pending_depth nodes) limit

-- The natural height of a vbox: everything that is not depth; depth above the limit counts as height (TeX: The Program, part 33, §668).
abbrev pub natural_height : (limit : ℤ) → List Node → ℤ
natural_height limit nodes = total downward nodes -ℤ vbox_depth limit nodes

-- The height of a vbox: the target size for its natural height (TeX: The Program, part 33, §672).
abbrev pub vbox_height : Target → (limit : ℤ) → List Node → ℤ
vbox_height target limit nodes = target_size target (natural_height limit nodes)

-- The height of a vbox minus its natural height: what its glue has to make up (TeX: The Program, part 33, §672).
abbrev pub vbox_excess : Target → (limit : ℤ) → List Node → ℤ
vbox_excess target limit nodes = vbox_height target limit nodes -ℤ natural_height limit nodes

-- The frame of a vbox: it is as wide as its widest item, and its baseline is that of its last rule or box, but at most the limit above its bottom
-- (TeX: The Program, part 33, §668).
abbrev pub vbox_frame : Target → (limit : ℤ) → List Node → BoxFrame
vbox_frame target limit nodes =
    record {
      kind = Vertical;
      width = greatest_of breadth nodes;
      height = vbox_height target limit nodes;
      depth = vbox_depth limit nodes;
      setting = setting_of (vbox_excess target limit nodes) nodes;
    }

-- A vertical list as a box (TeX: The Program, part 33, §668).
unfoldable pub vbox : Target → (limit : ℤ) → Items → BoxNode
vbox target limit items = box_of (vbox_frame target limit (nodes_of items)) items

-- How badly the glue of a vbox is stretched or shrunk (TeX: The Program, part 33, §673 to §678).
abbrev pub vbox_badness : Target → (limit : ℤ) → List Node → ℕ
vbox_badness target limit nodes = setting_badness (vbox_excess target limit nodes) nodes

-- The numbers of a vertical list that have to fit: its natural height, the totals of its glue, and the sizes of its box (own).
abbrev pub vbox_numbers : Target → (limit : ℤ) → List Node → List ℤ
vbox_numbers target limit nodes =
    natural_height limit nodes ∷ vbox_height target limit nodes ∷ vbox_depth limit nodes ∷ greatest_of breadth nodes ∷ glue_totals nodes

-- The result of packing a vertical list into a vbox, without the list.
abbrev pub vbox_packing : Target → (limit : ℤ) → List Node → Packing
vbox_packing target limit nodes =
    record { frame = vbox_frame target limit nodes; badness = vbox_badness target limit nodes; numbers = vbox_numbers target limit nodes }

-- The result of packing a vertical list into a vbox: its box and its badness, or the list itself if one of its numbers does not fit (own).
unfoldable pub vpack_result : Target → (limit : ℤ) → Items → Result PackedBox TooLarge
vpack_result target limit items = packed_by (vbox_packing target limit (nodes_of items)) items

-- A value if a test holds, and otherwise none (own).
unfoldable pub some_if : {A : Type 0} → Bool → A → Option A
some_if true x = Some x
some_if false x = None

-- A box without its list: its frame and its badness (own).
abbrev pub shell_of : BoxFrame → (badness : ℕ) → Shell
shell_of frame badness =
    record {
      kind = frame.kind;
      width = frame.width;
      height = frame.height;
      depth = frame.depth;
      setting = frame.setting;
      badness = badness;
    }

-- The result of packing a horizontal list, without the list (own).
unfoldable pub hbox_shell : Target → List Node → Shell
hbox_shell target nodes = shell_of (hbox_frame target nodes) (hbox_badness target nodes)

-- The result of packing a vertical list into a vbox, without the list (own).
unfoldable pub vbox_shell : Target → (limit : ℤ) → List Node → Shell
vbox_shell target limit nodes = shell_of (vbox_frame target limit nodes) (vbox_badness target limit nodes)

-- A list put into a box that was computed without it, with the badness of the box (own).
unfoldable pub packed_of : Items → Shell → PackedBox
packed_of items shell =
    record {
      box_node = record {
        kind = shell.kind;
        width = shell.width;
        height = shell.height;
        depth = shell.depth;
        setting = shell.setting;
        list = items;
      };
      badness = shell.badness;
    }

-- The depth of a vtop: its height and its depth together are those of the vbox (TeX: The Program, part 47, §1087).
abbrev pub vtop_depth : Target → (limit : ℤ) → List Node → ℤ
vtop_depth target limit nodes = (vbox_depth limit nodes +ℤ vbox_height target limit nodes) -ℤ first_height nodes

-- The frame of a vtop: that of the vbox, but with the baseline of its first item, which only moves the border between height and depth (TeX: The
-- Program, part 47, §1087).
abbrev pub vtop_frame : Target → (limit : ℤ) → List Node → BoxFrame
vtop_frame target limit nodes = record (vbox_frame target limit nodes) { height = first_height nodes; depth = vtop_depth target limit nodes }

-- A vertical list as a box whose baseline is that of its first item (TeX: The Program, part 47, §1087).
unfoldable pub vtop_box : Target → (limit : ℤ) → Items → BoxNode
vtop_box target limit items = box_of (vtop_frame target limit (nodes_of items)) items

-- The numbers of a vertical list that have to fit for its vtop: those of the vbox, and the two new sizes (own).
abbrev pub vtop_numbers : Target → (limit : ℤ) → List Node → List ℤ
vtop_numbers target limit nodes = vbox_numbers target limit nodes ++ first_height nodes ∷ vtop_depth target limit nodes ∷ []

-- The result of packing a vertical list into a vtop, without the list.
abbrev pub vtop_packing : Target → (limit : ℤ) → List Node → Packing
vtop_packing target limit nodes =
    record { frame = vtop_frame target limit nodes; badness = vbox_badness target limit nodes; numbers = vtop_numbers target limit nodes }

-- The result of packing a vertical list into a vtop: its box and its badness, or the list itself if one of its numbers does not fit (own).
unfoldable pub vtop_result : Target → (limit : ℤ) → Items → Result PackedBox TooLarge
vtop_result target limit items = packed_by (vtop_packing target limit (nodes_of items)) items
