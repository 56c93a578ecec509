-- The clauses of a packed list follow from the result of packing it.
use Rattle.std.proofs.Common.{◌≡◌, ◌≢◌, ℤ, length, take, Bool, true, false, refl, arith}
use Rattle.std.specs.Prelude.{◌+ℤ◌, Ok, Err, IfOk, IfErr, if◌then◌else◌}
use Rattle.std.specs.Result.{is_ok}
use Rattle.std.specs.List.{list_all}
use Rattle.std.proofs.lemmas.Int.{ints}
use Rattle.std.proofs.lemmas.List.{take_all}
use Rattle.node_core.specs.Items.{Items}
use Rattle.node_core.specs.Nodes.{nodes_of}
use Rattle.node_core.specs.declared.tree.Kind.{Kind}
use Rattle.node_core.specs.declared.tree.Kind.TheVariants.{Horizontal, Vertical}
use Rattle.node_core.specs.declared.tree.Setting.TheVariants.{Natural}
use Rattle.pack_core.specs.declared.pack.Target.{Target}
use Rattle.pack_core.specs.declared.pack.PackedBox.{PackedBox}
use Rattle.pack_core.specs.declared.pack.TooLarge.{TooLarge}
use Rattle.pack_core.specs.declared.pack.Shell.{Shell}
use Rattle.pack_core.specs.Items.{advance}
use Rattle.scaled_core.specs.Dimensions.{fits}
use Rattle.pack_core.specs.Totals.{total, first_height}
use Rattle.pack_core.specs.Glue.{setting_of, setting_badness}
use Rattle.pack_core.specs.Boxes.{hbox, hbox_excess, hbox_badness, hbox_numbers, hpack_result, vbox, vbox_excess, vbox_badness, vbox_numbers, vpack_result, vtop_box, vtop_numbers, vtop_result, some_if, hbox_shell, vbox_shell, packed_of}
use Rattle.pack_core.specs.Places.{place, place_in}
use Rattle.pack_core.specs.Private.Steps.{vtop_shell, boxed_list}
use Rattle.pack_core.proofs.Edge.{fills}

boxed-given : (fit : Bool) (items : Items) (shell : Shell) → boxed_list items (some_if fit shell) ≡ (if fit then Ok (packed_of items shell) else Err (record { list = items }))
unfolding boxed_list some_if
boxed-given true items shell = refl
boxed-given false items shell = refl

pub boxed-hbox : (target : Target) (items : Items) → boxed_list items (some_if (list_all fits (hbox_numbers target (nodes_of items))) (hbox_shell target (nodes_of items))) ≡ hpack_result target items
unfolding hpack_result hbox hbox_shell packed_of
boxed-hbox target items = boxed-given (list_all fits (hbox_numbers target (nodes_of items))) items (hbox_shell target (nodes_of items))

pub boxed-vbox :
    (target : Target) (limit : ℤ) (items : Items)
    → boxed_list items (some_if (list_all fits (vbox_numbers target limit (nodes_of items))) (vbox_shell target limit (nodes_of items))) ≡ vpack_result target limit items
unfolding vpack_result vbox vbox_shell packed_of
boxed-vbox target limit items = boxed-given (list_all fits (vbox_numbers target limit (nodes_of items))) items (vbox_shell target limit (nodes_of items))

pub boxed-vtop :
    (target : Target) (limit : ℤ) (items : Items)
    → boxed_list items (some_if (list_all fits (vtop_numbers target limit (nodes_of items))) (vtop_shell (vbox_shell target limit (nodes_of items)) (first_height (nodes_of items))))
    ≡ vtop_result target limit items
unfolding vtop_result vtop_box vbox vbox_shell vtop_shell packed_of
boxed-vtop target limit items =
    boxed-given (list_all fits (vtop_numbers target limit (nodes_of items))) items (vtop_shell (vbox_shell target limit (nodes_of items)) (first_height (nodes_of items)))

-- A list in the shell of its vbox is its vbox.
pub packed-vbox :
    (target : Target) (limit : ℤ) (items : Items)
    → packed_of items (vbox_shell target limit (nodes_of items)) ≡ record { box_node = vbox target limit items; badness = vbox_badness target limit (nodes_of items) }
unfolding vbox vbox_shell packed_of
packed-vbox target limit items = refl

-- A fact about the packed box holds whenever the list is packed, and the list is packed exactly when all its numbers fit.
packed-ok :
    (fit : Bool) (packed : PackedBox) (items : Items) (P : PackedBox → Type 0)
    → P packed → IfOk {E = TooLarge} (if fit then Ok packed else Err (record { list = items })) P
packed-ok true packed items P h = h
packed-ok false packed items P h = tt

packed-fits : (fit : Bool) (packed : PackedBox) (items : Items)
    → is_ok {E = TooLarge} (if fit then Ok packed else Err (record { list = items })) ≡ fit
packed-fits true packed items = refl
packed-fits false packed items = refl

packed-back : (fit : Bool) (packed : PackedBox) (items : Items)
    → IfErr {E = TooLarge} (if fit then Ok packed else Err (record { list = items })) (λ e. e.list ≡ items)
packed-back true packed items = tt
packed-back false packed items = refl

whole : (items : Items) → take (length (nodes_of items)) (nodes_of items) ≡ nodes_of items
whole items = take_all (length (nodes_of items)) (nodes_of items) (omega arith)

-- The place after the last item.
filled :
    (kind : Kind) (items : Items) (excess : ℤ)
    → setting_of excess (nodes_of items) ≢ Natural
    → setting_badness excess (nodes_of items) ≢ 1000000
    → place kind (setting_of excess (nodes_of items)) (take (length (nodes_of items)) (nodes_of items)) ≡ total (advance kind) (nodes_of items) +ℤ excess
filled kind items excess set good = rw (whole items) (fills kind (nodes_of items) excess set good)

-- An hbox.
pub hpacked-ok : (target : Target) (items : Items) → IfOk (hpack_result target items) (λ p. (p.box_node ≡ hbox target items) × (p.badness ≡ hbox_badness target (nodes_of items)))
unfolding hpack_result hbox
hpacked-ok target items = packed-ok _ _ items (λ p. (p.box_node ≡ hbox target items) × (p.badness ≡ hbox_badness target (nodes_of items))) (refl, refl)

pub hpacked-fits : (target : Target) (items : Items) → is_ok (hpack_result target items) ≡ list_all fits (hbox_numbers target (nodes_of items))
unfolding hpack_result
hpacked-fits target items = packed-fits _ _ items

pub hpacked-back : (target : Target) (items : Items) → IfErr (hpack_result target items) (λ e. e.list ≡ items)
unfolding hpack_result
hpacked-back target items = packed-back _ _ items

pub hpacked-edge :
    (target : Target) (items : Items)
    → IfOk (hpack_result target items) (λ p. p.box_node.setting ≢ Natural → p.badness ≢ 1000000 → place_in p.box_node (length (nodes_of p.box_node.list)) ≡ p.box_node.width)
unfolding hpack_result hbox
hpacked-edge target items =
    packed-ok _ _ items (λ p. p.box_node.setting ≢ Natural → p.badness ≢ 1000000 → place_in p.box_node (length (nodes_of p.box_node.list)) ≡ p.box_node.width)
    (λ set good. omega (arith, ints, filled Horizontal items (hbox_excess target (nodes_of items)) set good))

-- A vbox.
pub vpacked-ok :
    (target : Target) (limit : ℤ) (items : Items)
    → IfOk (vpack_result target limit items) (λ p. (p.box_node ≡ vbox target limit items) × (p.badness ≡ vbox_badness target limit (nodes_of items)))
unfolding vpack_result vbox
vpacked-ok target limit items = packed-ok _ _ items (λ p. (p.box_node ≡ vbox target limit items) × (p.badness ≡ vbox_badness target limit (nodes_of items))) (refl, refl)

pub vpacked-fits : (target : Target) (limit : ℤ) (items : Items) → is_ok (vpack_result target limit items) ≡ list_all fits (vbox_numbers target limit (nodes_of items))
unfolding vpack_result
vpacked-fits target limit items = packed-fits _ _ items

pub vpacked-back : (target : Target) (limit : ℤ) (items : Items) → IfErr (vpack_result target limit items) (λ e. e.list ≡ items)
unfolding vpack_result
vpacked-back target limit items = packed-back _ _ items

pub vpacked-edge :
    (target : Target) (limit : ℤ) (items : Items)
    → IfOk (vpack_result target limit items)
    (λ p. p.box_node.setting ≢ Natural → p.badness ≢ 1000000 → place_in p.box_node (length (nodes_of p.box_node.list)) ≡ p.box_node.height +ℤ p.box_node.depth)
unfolding vpack_result vbox
vpacked-edge target limit items =
    packed-ok _ _ items
    (λ p. p.box_node.setting ≢ Natural → p.badness ≢ 1000000 → place_in p.box_node (length (nodes_of p.box_node.list)) ≡ p.box_node.height +ℤ p.box_node.depth)
    (λ set good. omega (arith, ints, filled Vertical items (vbox_excess target limit (nodes_of items)) set good))

-- A vtop.
pub vtopped-ok :
    (target : Target) (limit : ℤ) (items : Items)
    → IfOk (vtop_result target limit items) (λ p. (p.box_node ≡ vtop_box target limit items) × (p.badness ≡ vbox_badness target limit (nodes_of items)))
unfolding vtop_result vtop_box
vtopped-ok target limit items = packed-ok _ _ items (λ p. (p.box_node ≡ vtop_box target limit items) × (p.badness ≡ vbox_badness target limit (nodes_of items))) (refl, refl)

pub vtopped-fits : (target : Target) (limit : ℤ) (items : Items) → is_ok (vtop_result target limit items) ≡ list_all fits (vtop_numbers target limit (nodes_of items))
unfolding vtop_result
vtopped-fits target limit items = packed-fits _ _ items

pub vtopped-back : (target : Target) (limit : ℤ) (items : Items) → IfErr (vtop_result target limit items) (λ e. e.list ≡ items)
unfolding vtop_result
vtopped-back target limit items = packed-back _ _ items

pub vtopped-edge :
    (target : Target) (limit : ℤ) (items : Items)
    → IfOk (vtop_result target limit items)
    (λ p. p.box_node.setting ≢ Natural → p.badness ≢ 1000000 → place_in p.box_node (length (nodes_of p.box_node.list)) ≡ p.box_node.height +ℤ p.box_node.depth)
unfolding vtop_result vtop_box vbox
vtopped-edge target limit items =
    packed-ok _ _ items
    (λ p. p.box_node.setting ≢ Natural → p.badness ≢ 1000000 → place_in p.box_node (length (nodes_of p.box_node.list)) ≡ p.box_node.height +ℤ p.box_node.depth)
    (λ set good. omega (arith, ints, filled Vertical items (vbox_excess target limit (nodes_of items)) set good))

pub ruleset packing = (boxed-hbox, boxed-vbox, boxed-vtop)
