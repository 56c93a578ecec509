-- A packed box has the items of its list.
use Rattle.std.proofs.Common.{◌≡◌, Bool, true, false, Result, Ok, Err, ap}
use Rattle.std.specs.Prelude.{ℤ, if◌then◌else◌}
use Rattle.node_core.specs.declared.params.Params.{Params}
use Rattle.node_core.specs.Items.{Items}
use Rattle.pack_core.specs.declared.pack.Target.{Target}
use Rattle.pack_core.specs.declared.pack.PackedBox as packs
use Rattle.pack_core.specs.declared.pack.TooLarge.{TooLarge}
use Rattle.pack_core.specs.Boxes.{hbox, hpack_result, vbox, vpack_result, vtop_box, vtop_result}
use Rattle.job_machine.specs.declared.command.BoxForm.{BoxForm}
use Rattle.job_machine.specs.declared.ListPurpose.{ListPurpose}
use Rattle.job_machine.specs.declared.ListPurpose.TheVariants.{Box, Paragraph}
use Rattle.job_machine.specs.declared.command.BoxForm.TheVariants.{Hbox, Vbox, Vtop}
use Rattle.job_machine.specs.OpenLists.{packed_as, packed_by}

items_packed : (b : Bool) (p q : packs.PackedBox) (items : Items)
    → if◌then◌else◌ {A = Result packs.PackedBox TooLarge} b (Ok p) (Err (record { list = items })) ≡ Ok q → p ≡ q
items_packed true p q items is = cc
items_packed false p q items is = cc

hpacked_items : (target : Target) (items : Items) (q : packs.PackedBox) → hpack_result target items ≡ Ok q → items ≡ q.box_node.list
unfolding hpack_result hbox
hpacked_items target items q is = ap (λ (p : packs.PackedBox). p.box_node.list) (items_packed _ _ q items is)

vpacked_items : (target : Target) (limit : ℤ) (items : Items) (q : packs.PackedBox) → vpack_result target limit items ≡ Ok q → items ≡ q.box_node.list
unfolding vpack_result vbox
vpacked_items target limit items q is = ap (λ (p : packs.PackedBox). p.box_node.list) (items_packed _ _ q items is)

vtopped_items : (target : Target) (limit : ℤ) (items : Items) (q : packs.PackedBox) → vtop_result target limit items ≡ Ok q → items ≡ q.box_node.list
unfolding vtop_result vtop_box vbox
vtopped_items target limit items q is = ap (λ (p : packs.PackedBox). p.box_node.list) (items_packed _ _ q items is)

packed_as_items : (form : BoxForm) (params : Params) (target : Target) (items : Items) (q : packs.PackedBox)
    → packed_as form params target items ≡ Ok q → items ≡ q.box_node.list
packed_as_items Hbox params target items q is = hpacked_items target items q is
packed_as_items Vbox params target items q is = vpacked_items target params.box_max_depth items q is
packed_as_items Vtop params target items q is = vtopped_items target params.box_max_depth items q is

pub packed_items : (purpose : ListPurpose) (params : Params) (items : Items) (q : packs.PackedBox) → packed_by purpose params items ≡ Ok q
    → items ≡ q.box_node.list
packed_items (Box opening) params items q is = packed_as_items opening.form params opening.target items q is
packed_items Paragraph params items q is = cc
