-- The page that `ship` makes of a box (TeX: The Program, part 32, §617, §638 and §640).
use Rattle.std.specs.Prelude.{◌∷◌, [], List, Option, Some, None}
use Rattle.node_core.specs.declared.tree.BoxNode.{BoxNode}
use Rattle.node_core.specs.declared.params.Params.{Params}
use Rattle.page_core.specs.Marks.{ShippedPage}
use Rattle.page_core.specs.declared.offsets.Offsets.{Offsets}
use Rattle.page_core.specs.Pages.{page_with}
use Rattle.job_machine.specs.State.{State}

-- How far pages are moved: hoffset to the right and voffset down.
abbrev pub offsets_of : Params → Offsets
offsets_of params = record { h = params.hoffset; v = params.voffset }

-- The page of a box: with the ten counts of the state, and moved by the offsets.
abbrev pub page_in : State → BoxNode → ShippedPage
page_in m b = page_with m.counts (offsets_of m.params) b

-- The page of the box of a register: none where it is void.
abbrev pub shipped_pages : State → Option BoxNode → List ShippedPage
shipped_pages m None = []
shipped_pages m (Some b) = page_in m b ∷ []
