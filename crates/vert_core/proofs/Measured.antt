-- What a line keeps of the item at its end has no size, so the items before it decide how the line is packed.
use Rattle.std.proofs.Common.{◌≡◌, ◌∙◌, ℕ, zero, suc, ◌&&◌, true, false, List, [], ◌∷◌, ◌++◌, length, length-append, refl, sym, ap, arith, Option, Some, None}
use Rattle.std.specs.Prelude.{ℤ, pos, negsuc, ◌+◌, slice_get, if◌then◌else◌}
use Rattle.std.specs.Option.{is_some}
use Rattle.std.specs.Int.{int_max}
use Rattle.std.specs.List.{list_all, cons_option}
use Rattle.std.specs.Result.{is_ok}
use Rattle.std.proofs.Math.Path.{fun_ext}
use Rattle.std.proofs.lemmas.Int.{ints, clamps}
use Rattle.scaled_core.specs.Dimensions.{fits}
use Rattle.node_core.specs.Items.{BoxFrame, Items}
use Rattle.node_core.specs.Nodes.{box_of, items_of, nodes_of}
use Rattle.node_core.proofs.NodeLemmas.{nodes_of-items_of}
use Rattle.node_core.specs.declared.params.Params.{Params}
use Rattle.node_core.specs.declared.tree.BoxNode.{BoxNode}
use Rattle.node_core.specs.declared.tree.Glue.{Glue}
use Rattle.node_core.specs.declared.tree.Node.{Node}
use Rattle.node_core.specs.declared.tree.Node.TheVariants as nodes
use Rattle.node_core.specs.declared.tree.Order.{Order}
use Rattle.node_core.specs.declared.tree.Order.TheVariants.{Normal, Fil, Fill, Filll}
use Rattle.pack_core.specs.declared.pack.Target.TheVariants.{To}
use Rattle.pack_core.specs.declared.pack.Shell.{Shell}
use Rattle.pack_core.specs.Items.{item_width, height_above_baseline, depth_below_baseline, stretch_in, shrink_in}
use Rattle.pack_core.specs.Totals.{total, greatest_of}
use Rattle.pack_core.specs.Glue.{highest, stretched_setting, shrunk_setting, setting_of, stretch_totals, shrink_totals}
use Rattle.pack_core.specs.Boxes.{glue_totals, hbox, hbox_frame, hbox_numbers, hbox_shell, packed_of}
use Rattle.pack_core.proofs.Sums.{total-append}
use Rattle.break_lines.specs.LineItems.{at_break, kept_items}
use Rattle.vert_core.specs.Interline.{interline, glue_of, appended_nodes}
use Rattle.vert_core.specs.Lines.{boxed_line, items_fit, fits_after, after_line, line_brings}

-- A size that neither a kern of width 0 nor a penalty has.
record IsOfOthers (size : Node → ℤ) : Type 0 where
  pub kern : size (nodes.Kern (pos 0)) ≡ pos 0
  pub penalty : (p : ℤ) → size (nodes.Penalty p) ≡ pos 0

total-of-end : (size : Node → ℤ) → IsOfOthers size → (at : Option Node) → total size (at_break at) ≡ pos 0
total-of-end size none None = refl
total-of-end size none (Some (nodes.Glyph g)) = refl
total-of-end size none (Some (nodes.FontKern width)) = refl
total-of-end size none (Some (nodes.Kern width)) = omega (arith, ints, none.kern)
total-of-end size none (Some (nodes.Glue g)) = refl
total-of-end size none (Some (nodes.Penalty p)) = omega (arith, ints, none.penalty p)
total-of-end size none (Some (nodes.Rule sizes)) = refl
total-of-end size none (Some (nodes.Special text)) = refl
total-of-end size none (Some (nodes.Box shift b)) = refl

greatest-of-end : (size : Node → ℤ) → IsOfOthers size → (at : Option Node) → greatest_of size (at_break at) ≡ pos 0
greatest-of-end size none None = refl
greatest-of-end size none (Some (nodes.Glyph g)) = refl
greatest-of-end size none (Some (nodes.FontKern width)) = refl
greatest-of-end size none (Some (nodes.Kern width)) = omega (arith, ints, clamps, none.kern)
greatest-of-end size none (Some (nodes.Glue g)) = refl
greatest-of-end size none (Some (nodes.Penalty p)) = omega (arith, ints, clamps, none.penalty p)
greatest-of-end size none (Some (nodes.Rule sizes)) = refl
greatest-of-end size none (Some (nodes.Special text)) = refl
greatest-of-end size none (Some (nodes.Box shift b)) = refl

total-end : (size : Node → ℤ) → IsOfOthers size → (front : List Node) (at : Option Node) → total size (front ++ at_break at) ≡ total size front
total-end size none front at = omega (arith, ints, total-append size front (at_break at), total-of-end size none at)

greatest-end : (size : Node → ℤ) → IsOfOthers size → (front : List Node) (at : Option Node) → greatest_of size (front ++ at_break at) ≡ greatest_of size front
greatest-end size none [] at = greatest-of-end size none at
greatest-end size none (x ∷ front) at = ap (int_max (size x)) (greatest-end size none front at)

pub width-end : (front : List Node) (at : Option Node) → total item_width (front ++ at_break at) ≡ total item_width front
width-end = total-end item_width (record { kern = refl; penalty = λ p. refl })

height-end : (front : List Node) (at : Option Node) → greatest_of height_above_baseline (front ++ at_break at) ≡ greatest_of height_above_baseline front
height-end = greatest-end height_above_baseline (record { kern = refl; penalty = λ p. refl })

depth-end : (front : List Node) (at : Option Node) → greatest_of depth_below_baseline (front ++ at_break at) ≡ greatest_of depth_below_baseline front
depth-end = greatest-end depth_below_baseline (record { kern = refl; penalty = λ p. refl })

pub stretch-end : (front : List Node) (at : Option Node) → stretch_totals (front ++ at_break at) ≡ stretch_totals front
stretch-end front at = fun_ext (λ order. total-end (stretch_in order) (record { kern = refl; penalty = λ p. refl }) front at)

pub shrink-end : (front : List Node) (at : Option Node) → shrink_totals (front ++ at_break at) ≡ shrink_totals front
shrink-end front at = fun_ext (λ order. total-end (shrink_in order) (record { kern = refl; penalty = λ p. refl }) front at)

glue-end : (front : List Node) (at : Option Node) → glue_totals (front ++ at_break at) ≡ glue_totals front
glue-end front at =
    let by : (Order → ℤ) → (Order → ℤ) → List ℤ = λ s t. s Normal ∷ s Fil ∷ s Fill ∷ s Filll ∷ t Normal ∷ t Fil ∷ t Fill ∷ t Filll ∷ [] in
    ap (λ (s : Order → ℤ). by s (shrink_totals (front ++ at_break at))) (stretch-end front at) ∙ ap (by (stretch_totals front)) (shrink-end front at)

numbers-end : (size : ℤ) (front : List Node) (at : Option Node) → hbox_numbers (To size) (front ++ at_break at) ≡ hbox_numbers (To size) front
numbers-end size front at = rw (width-end front at, height-end front at, depth-end front at, glue-end front at) refl

setting-end : (excess : ℤ) (front : List Node) (at : Option Node) → setting_of excess (front ++ at_break at) ≡ setting_of excess front
unfolding setting_of
setting-end (pos zero) front at = refl
setting-end (pos (suc n)) front at = ap (λ (totals : Order → ℤ). stretched_setting (pos (suc n)) totals (highest totals)) (stretch-end front at)
setting-end (negsuc n) front at = ap (λ (totals : Order → ℤ). shrunk_setting (pos (suc n)) totals (highest totals)) (shrink-end front at)

frame-end : (size : ℤ) (front : List Node) (at : Option Node) → hbox_frame (To size) (front ++ at_break at) ≡ hbox_frame (To size) front
frame-end size front at =
    rw (width-end front at, setting-end _ front at, height-end front at, depth-end front at) refl

-- The line fits exactly where its items before the end do.
pub measured_fits :
    (size : ℤ) (list : List Node) (begin : Option ℕ) (end : ℕ) (front : List Node) → front ++ at_break (slice_get list end) ≡ kept_items list begin end
    → items_fit size (kept_items list begin end) ≡ list_all fits (hbox_numbers (To size) front)
unfolding items_fit
measured_fits size list begin end front is =
    ap (λ items. list_all fits (hbox_numbers (To size) items)) (sym is) ∙ ap (list_all fits) (numbers-end size front (slice_get list end))

-- Its box is the one that is made of these items, with all items in it.
pub measured_box :
    (size : ℤ) (list : List Node) (begin : Option ℕ) (end : ℕ) (front : List Node) (shell : Shell) → front ++ at_break (slice_get list end) ≡ kept_items list begin end
    → shell ≡ hbox_shell (To size) front → (packed_of (items_of (kept_items list begin end)) shell).box_node ≡ boxed_line size (kept_items list begin end)
unfolding boxed_line hbox hbox_shell packed_of
measured_box size list begin end front shell is shell_is =
    let items : Items = items_of (kept_items list begin end) in
    let same : nodes_of (items_of (kept_items list begin end)) ≡ front ++ at_break (slice_get list end) = nodes_of-items_of (kept_items list begin end) ∙ sym is in
    ap (λ (s : Shell). (packed_of items s).box_node) shell_is
    ∙ ap (λ (frame : BoxFrame). box_of frame items) (sym (frame-end size front (slice_get list end)))
    ∙ ap (λ xs. box_of (hbox_frame (To size) xs) items) (sym same)

-- So its height and its depth are those of this box.
pub measured_height : (items : Items) (shell : Shell) → (packed_of items shell).box_node.height ≡ shell.height
unfolding packed_of
measured_height items shell = refl

pub measured_depth : (items : Items) (shell : Shell) → (packed_of items shell).box_node.depth ≡ shell.depth
unfolding packed_of
measured_depth items shell = refl

-- Whether the line fits after a previous depth, by the glue before it.
pub unfit_after :
    (params : Params) (size previous : ℤ) (list : List Node) (begin : Option ℕ) (end : ℕ) (front : List Node)
    → front ++ at_break (slice_get list end) ≡ kept_items list begin end → list_all fits (hbox_numbers (To size) front) ≡ false
    → fits_after params size previous (kept_items list begin end) ≡ false
unfit_after params size previous list begin end front is unfit =
    ap (λ b. b && is_ok (interline params previous (boxed_line size (kept_items list begin end)).height)) (measured_fits size list begin end front is ∙ unfit)

pub fit_after :
    (params : Params) (size previous : ℤ) (list : List Node) (begin : Option ℕ) (end : ℕ) (front : List Node) (shell : Shell)
    → front ++ at_break (slice_get list end) ≡ kept_items list begin end → list_all fits (hbox_numbers (To size) front) ≡ true → shell ≡ hbox_shell (To size) front
    → fits_after params size previous (kept_items list begin end) ≡ is_ok (interline params previous shell.height)
fit_after params size previous list begin end front shell is fit shell_is =
    let items = kept_items list begin end in
    let height : (boxed_line size items).height ≡ shell.height =
    ap (λ (b : BoxNode). b.height) (sym (measured_box size list begin end front shell is shell_is)) ∙ measured_height (items_of items) shell in
    ap (λ b. b && is_ok (interline params previous (boxed_line size items).height)) (measured_fits size list begin end front is ∙ fit)
    ∙ ap (λ h. is_ok (interline params previous h)) height

-- The same by its box alone.
pub fits_by :
    (params : Params) (size previous : ℤ) (items : List Node) (shell : Shell) → items_fit size items ≡ true
    → (packed_of (items_of items) shell).box_node ≡ boxed_line size items → fits_after params size previous items ≡ is_ok (interline params previous shell.height)
fits_by params size previous items shell fit packed =
    let height : (boxed_line size items).height ≡ shell.height = ap (λ (b : BoxNode). b.height) (sym packed) ∙ measured_height (items_of items) shell in
    ap (λ b. b && is_ok (interline params previous (boxed_line size items).height)) fit ∙ ap (λ h. is_ok (interline params previous h)) height

pub unfits_by :
    (params : Params) (size previous : ℤ) (items : List Node) → items_fit size items ≡ false → fits_after params size previous items ≡ false
unfits_by params size previous items unfit = ap (λ b. b && is_ok (interline params previous (boxed_line size items).height)) unfit

-- A line keeps the items before its end, and at most one more.
pub measured_count :
    (list : List Node) (begin : Option ℕ) (end : ℕ) (front : List Node) (last : Option Node)
    → front ++ at_break (slice_get list end) ≡ kept_items list begin end → cons_option last [] ≡ at_break (slice_get list end)
    → length front + (if is_some last then 1 else 0) ≡ length (kept_items list begin end)
measured_count list begin end front last is at =
    omega (arith, one last, length-append front (cons_option last []), ap (λ xs. length (front ++ xs)) at, ap length is)
  where
    one : (last : Option Node) → length (cons_option last []) ≡ (if is_some last then 1 else 0)
    one None = refl
    one (Some x) = refl

-- What a line adds to a vertical list, by its measures.
pub brings_measured :
    (params : Params) (count line : ℕ) (previous : ℤ) (items : Items) (shell : Shell) (x b : BoxNode) (glue : Option Glue)
    → (packed_of items shell).box_node ≡ b → x ≡ (packed_of items shell).box_node → glue ≡ glue_of (interline params previous shell.height)
    → appended_nodes glue (pos 0) x ++ after_line params count line ≡ line_brings params count line previous b
brings_measured params count line previous items shell x b glue is x_is glue_is =
    let height : shell.height ≡ b.height = sym (measured_height items shell) ∙ ap (λ (y : BoxNode). y.height) is in
    let same : glue ≡ glue_of (interline params previous b.height) = glue_is ∙ ap (λ h. glue_of (interline params previous h)) height in
    ap (λ g. appended_nodes g (pos 0) x ++ after_line params count line) same
    ∙ ap (λ y. appended_nodes (glue_of (interline params previous b.height)) (pos 0) y ++ after_line params count line) (x_is ∙ is)
