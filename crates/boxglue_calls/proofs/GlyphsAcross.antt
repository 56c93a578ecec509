-- Which lists have glyphs only across: what lists, packed boxes, splits and paragraphs keep of this.
use Rattle.std.proofs.Common.{◌≡◌, ℕ, zero, suc, ◌+◌, ◌-◌, Bool, true, false, List, All, [], ◌∷◌, ◌++◌, length, take, drop, get_or, Option, Some, None, Result, Ok, Err, sym, subst}
use Rattle.std.specs.Prelude.{ℤ, pos, slice_get, flat_map, if◌then◌else◌, nat_lt}
use Rattle.std.specs.Option.{option_map}
use Rattle.std.proofs.lemmas.List.Elements.{All-nil, All-cons, All-head, All-tail, All-append, All-take, All-drop}
use Rattle.node_core.specs.declared.params.Params.{Params}
use Rattle.node_core.specs.declared.params.SplitParams.{SplitParams}
use Rattle.node_core.specs.declared.tree.BoxNode.{BoxNode}
use Rattle.node_core.specs.declared.tree.Glue.{Glue}
use Rattle.node_core.specs.declared.tree.Kind.{Kind}
use Rattle.node_core.specs.declared.tree.Kind.TheVariants.{Horizontal, Vertical}
use Rattle.node_core.specs.declared.tree.Node.{Node}
use Rattle.node_core.specs.declared.tree.Node.TheVariants as nodes
use Rattle.node_core.specs.Items.{Leaf, glyph, font_kern, kern, glue, penalty, rule, special, Items, none, leaf, box}
use Rattle.node_core.specs.Nodes.{box_at, box_in, box_of, items_of, last_box, node_of, nodes_of, without_last_box}
use Rattle.node_core.proofs.NodeLemmas.{nodes_of-items_of}
use Rattle.pack_core.specs.declared.pack.Target.{Target}
use Rattle.pack_core.specs.declared.pack.Target.TheVariants.{Natural, To}
use Rattle.pack_core.specs.declared.pack.PackedBox as packs
use Rattle.pack_core.specs.declared.pack.TooLarge.{TooLarge}
use Rattle.pack_core.specs.Boxes.{hbox, hpack_result, vbox, vpack_result, vtop_box, vtop_result}
use Rattle.pack_core.specs.Glue.{is_zero}
use Rattle.scaled_core.specs.declared.sizes.Sizes.{Sizes}
use Rattle.tfm_core.specs.declared.font.Step.{Step}
use Rattle.shape_core.specs.declared.word.Outcome.{Outcome}
use Rattle.shape_core.specs.declared.word.Outcome.TheVariants.{Dropped, Alone, Kerned, Joined}
use Rattle.shape_core.specs.Shaping.{items_from, outcome_at, outcome_items, outcome_next, shaped_items}
use Rattle.shape_core.specs.Texts.{TextPart, part_items, parts_of, spaces, text_items, word}
use Rattle.break_lines.specs.declared.fault.BreakFault.{BreakFault}
use Rattle.break_lines.specs.declared.fault.BreakFault.TheVariants as breaking
use Rattle.break_lines.specs.Facts.{facts_of, refusal}
use Rattle.break_lines.specs.Legal.{is_dropped, up_to}
use Rattle.break_lines.specs.LineItems.{at_break, kept_items, without_first}
use Rattle.vert_core.specs.declared.paragraph.ParagraphFault.{ParagraphFault}
use Rattle.vert_core.specs.declared.paragraph.ParagraphFault.TheVariants as faults
use Rattle.vert_core.specs.Finished.{final_glue, finished_list, without_glue}
use Rattle.vert_core.specs.Interline.{appended_nodes}
use Rattle.vert_core.specs.Lines.{BrokenParagraph, after_line, boxed_line, brought_by, line_begin, line_box, line_items, lines_fit, penalty_after, penalty_nodes, vertical_items}
use Rattle.vert_core.specs.Paragraphs.{SetParagraph, set_empty}
use Rattle.vert_core.specs.Places.{is_box_or_rule}
use Rattle.vert_core.specs.Setting.{ChosenLines, chosen_lines, list_setting, paragraph_in_lines, set_by, set_if_fit, set_or, setting}
use Rattle.vert_core.specs.Split.{from_box_or_rule, from_first_box, front_items, front_of, is_special, items_after, left_of, no_limit, packed_rest, packed_vbox, rest_of, specials_above, split_place}
use Rattle.job_machine.specs.declared.command.BoxForm.{BoxForm}
use Rattle.job_machine.specs.declared.command.BoxForm.TheVariants.{Hbox, Vbox, Vtop}
use Rattle.job_machine.specs.declared.ListPurpose.{ListPurpose}
use Rattle.job_machine.specs.declared.ListPurpose.TheVariants as purposes
use Rattle.job_machine.specs.BoxForms.{kind_of}
use Rattle.job_machine.specs.OpenLists.{if_packed, kind_by, packed_as, packed_by}
use Rattle.box_items.specs.Shown.{HasGlyphsAcross, MayBeIn}

-- A node may be in a list of a kind: a glyph only in a horizontal one, and a box if its own list has glyphs only across.
abbrev pub MayStandIn : Kind → Node → Type 0
MayStandIn kind (nodes.Glyph g) = MayBeIn kind (glyph g)
MayStandIn kind (nodes.FontKern width) = Unit {0}
MayStandIn kind (nodes.Kern width) = Unit {0}
MayStandIn kind (nodes.Glue g) = Unit {0}
MayStandIn kind (nodes.Penalty p) = Unit {0}
MayStandIn kind (nodes.Rule sizes) = Unit {0}
MayStandIn kind (nodes.Special text) = Unit {0}
MayStandIn kind (nodes.Box shift b) = HasGlyphsAcross b.kind b.list

-- All nodes of a list may be in a list of a kind.
abbrev pub MayAllStandIn : Kind → List Node → Type 0
MayAllStandIn kind list = All (MayStandIn kind) list

-- The list of a box has glyphs only across, as a list of the kind of the box.
abbrev pub IsBoxAcross : BoxNode → Type 0
IsBoxAcross b = HasGlyphsAcross b.kind b.list

-- So has the list of a box, if there is one.
abbrev pub IsBoxAcrossIfHeld : Option BoxNode → Type 0
IsBoxAcrossIfHeld None = Unit {0}
IsBoxAcrossIfHeld (Some b) = IsBoxAcross b

node_stands : (kind : Kind) (x : Leaf) → MayBeIn kind x → MayStandIn kind (node_of x)
node_stands kind (glyph g) is = is
node_stands kind (font_kern width) is = tt
node_stands kind (kern width) is = tt
node_stands kind (glue g) is = tt
node_stands kind (penalty p) is = tt
node_stands kind (rule sizes) is = tt
node_stands kind (special text) is = tt

leaf_stands : (kind : Kind) (x : Leaf) → MayStandIn kind (node_of x) → MayBeIn kind x
leaf_stands Horizontal x is = tt
leaf_stands Vertical (glyph g) is = is
leaf_stands Vertical (font_kern width) is = tt
leaf_stands Vertical (kern width) is = tt
leaf_stands Vertical (glue g) is = tt
leaf_stands Vertical (penalty p) is = tt
leaf_stands Vertical (rule sizes) is = tt
leaf_stands Vertical (special text) is = tt

-- Items have glyphs only across exactly if each of their nodes may be in the list.
pub nodes_stand : (kind : Kind) (items : Items) → HasGlyphsAcross kind items → MayAllStandIn kind (nodes_of items)
nodes_stand kind none is = All-nil (MayStandIn kind)
nodes_stand kind (leaf x after) is = All-cons (MayStandIn kind) (node_of x) (nodes_of after) (node_stands kind x is.0) (nodes_stand kind after is.1)
nodes_stand kind (box shift frame inner after) is =
    All-cons (MayStandIn kind) (nodes.Box shift (box_of frame inner)) (nodes_of after) is.0 (nodes_stand kind after is.1)

pub items_across : (kind : Kind) (list : List Node) → MayAllStandIn kind list → HasGlyphsAcross kind (items_of list)
items_across kind [] all = tt
items_across kind (x ∷ rest) all = first x (All-head (MayStandIn kind) x rest all) (items_across kind rest (All-tail (MayStandIn kind) x rest all))
  where
    first : (x : Node) → MayStandIn kind x → HasGlyphsAcross kind (items_of rest) → HasGlyphsAcross kind (items_of (x ∷ rest))
    first (nodes.Glyph g) is after = (is, after)
    first (nodes.FontKern width) is after = (leaf_stands kind (font_kern width) tt, after)
    first (nodes.Kern width) is after = (leaf_stands kind (kern width) tt, after)
    first (nodes.Glue g) is after = (leaf_stands kind (glue g) tt, after)
    first (nodes.Penalty p) is after = (leaf_stands kind (penalty p) tt, after)
    first (nodes.Rule sizes) is after = (leaf_stands kind (rule sizes) tt, after)
    first (nodes.Special text) is after = (leaf_stands kind (special text) tt, after)
    first (nodes.Box shift b) is after = (is, after)

-- Items with more nodes at their end.
pub joined_across : (kind : Kind) (items : Items) (more : List Node) → HasGlyphsAcross kind items → MayAllStandIn kind more
    → HasGlyphsAcross kind (items_of (nodes_of items ++ more))
joined_across kind items more is new =
    items_across kind (nodes_of items ++ more) (All-append (MayStandIn kind) (nodes_of items) more (nodes_stand kind items is) new)

-- One of two lists, by a test.
one_of_two : {X : Type 0} (P : X → Type 0) (b : Bool) (xs ys : List X) → All P xs → All P ys → All P (if b then xs else ys)
one_of_two P true xs ys one other = one
one_of_two P false xs ys one other = other

all_flat : {X Y : Type 0} (P : Y → Type 0) (f : X → List Y) (xs : List X) → ((x : X) → All P (f x)) → All P (flat_map f xs)
all_flat P f [] each = All-nil P
all_flat P f (x ∷ xs) each = All-append P (f x) (flat_map f xs) (each x) (all_flat P f xs each)

-- The box at the end of a list, and the list without it.
box_in_across : (kind : Kind) (x : Node) → MayStandIn kind x → IsBoxAcrossIfHeld (box_in x)
box_in_across kind (nodes.Glyph g) is = tt
box_in_across kind (nodes.FontKern width) is = tt
box_in_across kind (nodes.Kern width) is = tt
box_in_across kind (nodes.Glue g) is = tt
box_in_across kind (nodes.Penalty p) is = tt
box_in_across kind (nodes.Rule sizes) is = tt
box_in_across kind (nodes.Special text) is = tt
box_in_across kind (nodes.Box shift b) is = is

box_at_across : (kind : Kind) (list : List Node) (i : ℕ) → MayAllStandIn kind list → IsBoxAcrossIfHeld (box_at (slice_get list i))
box_at_across kind [] i all = tt
box_at_across kind (x ∷ rest) zero all = box_in_across kind x (All-head (MayStandIn kind) x rest all)
box_at_across kind (x ∷ rest) (suc i) all = box_at_across kind rest i (All-tail (MayStandIn kind) x rest all)

pub last_box_across : (kind : Kind) (list : List Node) → MayAllStandIn kind list → IsBoxAcrossIfHeld (last_box list)
last_box_across kind list all = box_at_across kind list (length list - 1) all

pub shortened_stands : (kind : Kind) (list : List Node) (last : Option BoxNode) → MayAllStandIn kind list → MayAllStandIn kind (without_last_box last list)
shortened_stands kind list None all = all
shortened_stands kind list (Some b) all = All-take (MayStandIn kind) (length list - 1) list all

-- A box with the glue before it.
pub appended_stand : (kind : Kind) (before : Option Glue) (shift : ℤ) (b : BoxNode) → IsBoxAcross b → MayAllStandIn kind (appended_nodes before shift b)
appended_stand kind None shift b is = All-cons (MayStandIn kind) (nodes.Box shift b) [] is (All-nil (MayStandIn kind))
appended_stand kind (Some g) shift b is =
    All-cons (MayStandIn kind) (nodes.Glue g) (nodes.Box shift b ∷ []) tt (All-cons (MayStandIn kind) (nodes.Box shift b) [] is (All-nil (MayStandIn kind)))

-- The items of characters, for a horizontal list.
outcome_stands : (slot c : ℕ) (outcome : Outcome) → MayAllStandIn Horizontal (outcome_items slot c outcome)
outcome_stands slot c Dropped = All-nil (MayStandIn Horizontal)
outcome_stands slot c (Alone size) = All-cons (MayStandIn Horizontal) _ [] tt (All-nil (MayStandIn Horizontal))
outcome_stands slot c (Kerned size width) =
    All-cons (MayStandIn Horizontal) _ (nodes.FontKern width ∷ []) tt
    (All-cons (MayStandIn Horizontal) (nodes.FontKern width) [] tt (All-nil (MayStandIn Horizontal)))
outcome_stands slot c (Joined e) = All-nil (MayStandIn Horizontal)

from_stand : (slot : ℕ) (sizes : ℕ → Option Sizes) (steps : ℕ → ℕ → Option Step) (c : ℕ) (rest : List ℕ)
    → MayAllStandIn Horizontal (items_from slot sizes steps c rest)
from_stand slot sizes steps c [] = outcome_stands slot c (outcome_at sizes steps c None)
from_stand slot sizes steps c (d ∷ rest) =
    All-append (MayStandIn Horizontal) (outcome_items slot c (outcome_at sizes steps c (Some d))) _
    (outcome_stands slot c (outcome_at sizes steps c (Some d)))
    (from_stand slot sizes steps (outcome_next d (outcome_at sizes steps c (Some d))) rest)

pub shaped_stand : (slot : ℕ) (sizes : ℕ → Option Sizes) (steps : ℕ → ℕ → Option Step) (w : List ℕ)
    → MayAllStandIn Horizontal (shaped_items slot sizes steps w)
shaped_stand slot sizes steps [] = All-nil (MayStandIn Horizontal)
shaped_stand slot sizes steps (c ∷ rest) = from_stand slot sizes steps c rest

pub text_stands : (slot : ℕ) (sizes : ℕ → Option Sizes) (steps : ℕ → ℕ → Option Step) (blank : Glue) (text : List ℕ)
    → MayAllStandIn Horizontal (text_items slot sizes steps blank text)
unfolding text_items
text_stands slot sizes steps blank text = all_flat (MayStandIn Horizontal) (part_items slot sizes steps blank) (parts_of text) part
  where
    part : (x : TextPart) → MayAllStandIn Horizontal (part_items slot sizes steps blank x)
    part spaces = All-cons (MayStandIn Horizontal) (nodes.Glue blank) [] tt (All-nil (MayStandIn Horizontal))
    part (word w) = shaped_stand slot sizes steps w

-- A packed list has the kind of its box.
packed_is : (b : Bool) (p q : packs.PackedBox) (items : Items)
    → if◌then◌else◌ {A = Result packs.PackedBox TooLarge} b (Ok p) (Err (record { list = items })) ≡ Ok q → p ≡ q
packed_is true p q items is = cc
packed_is false p q items is = cc

hpack_across : (target : Target) (items : Items) (q : packs.PackedBox) → hpack_result target items ≡ Ok q → HasGlyphsAcross Horizontal items → IsBoxAcross q.box_node
unfolding hpack_result hbox
hpack_across target items q is all = subst (λ (p : packs.PackedBox). IsBoxAcross p.box_node) (packed_is _ _ q items is) all

vpack_across : (target : Target) (limit : ℤ) (items : Items) (q : packs.PackedBox) → vpack_result target limit items ≡ Ok q → HasGlyphsAcross Vertical items
    → IsBoxAcross q.box_node
unfolding vpack_result vbox
vpack_across target limit items q is all = subst (λ (p : packs.PackedBox). IsBoxAcross p.box_node) (packed_is _ _ q items is) all

vtop_across : (target : Target) (limit : ℤ) (items : Items) (q : packs.PackedBox) → vtop_result target limit items ≡ Ok q → HasGlyphsAcross Vertical items
    → IsBoxAcross q.box_node
unfolding vtop_result vtop_box vbox
vtop_across target limit items q is all = subst (λ (p : packs.PackedBox). IsBoxAcross p.box_node) (packed_is _ _ q items is) all

packed_across : (form : BoxForm) (params : Params) (target : Target) (items : Items) (q : packs.PackedBox)
    → packed_as form params target items ≡ Ok q → HasGlyphsAcross (kind_of form) items → IsBoxAcross q.box_node
packed_across Hbox params target items q is all = hpack_across target items q is all
packed_across Vbox params target items q is all = vpack_across target params.box_max_depth items q is all
packed_across Vtop params target items q is all = vtop_across target params.box_max_depth items q is all

-- The box of a list, if the list becomes a box whose sizes fit.
pub closed_across : (purpose : ListPurpose) (params : Params) (items : Items) (q : packs.PackedBox) → if_packed (packed_by purpose params items) ≡ Some q
    → HasGlyphsAcross (kind_by purpose) items → IsBoxAcross q.box_node
closed_across (purposes.Box opening) params items q is all =
    packed_across opening.form params opening.target items q (given (packed_as opening.form params opening.target items) is) all
  where
    given : (result : Result packs.PackedBox TooLarge) → if_packed result ≡ Some q → result ≡ Ok q
    given (Ok p) is = cc
    given (Err e) is = cc
closed_across purposes.Paragraph params items q is all = cc

-- The parts of a split.
vbox_across : (target : Target) (limit : ℤ) (list : List Node) → MayAllStandIn Vertical list → IsBoxAcross (packed_vbox target limit list).box_node
unfolding vbox
vbox_across target limit list all = items_across Vertical list all

pub front_across : (params : SplitParams) (goal : ℤ) (list : List Node) → MayAllStandIn Vertical list → IsBoxAcross (front_of params goal list).box_node
unfolding front_of
front_across params goal list all =
    vbox_across (To goal) params.split_max_depth (front_items params goal list) (All-take (MayStandIn Vertical) (split_place params goal list) list all)

specials_stand : (kind : Kind) (list : List Node) → MayAllStandIn kind list → MayAllStandIn kind (specials_above list)
specials_stand kind [] all = All-nil (MayStandIn kind)
specials_stand kind (x ∷ rest) all =
    let later = specials_stand kind rest (All-tail (MayStandIn kind) x rest all) in
    let kept = All-cons (MayStandIn kind) x (specials_above rest) (All-head (MayStandIn kind) x rest all) later in
    one_of_two (MayStandIn kind) (is_box_or_rule x) [] (if is_special x then x ∷ specials_above rest else specials_above rest) (All-nil (MayStandIn kind))
    (one_of_two (MayStandIn kind) (is_special x) (x ∷ specials_above rest) (specials_above rest) kept later)

boxes_stand : (kind : Kind) (list : List Node) → MayAllStandIn kind list → MayAllStandIn kind (from_box_or_rule list)
boxes_stand kind [] all = All-nil (MayStandIn kind)
boxes_stand kind (x ∷ rest) all =
    one_of_two (MayStandIn kind) (is_box_or_rule x) (x ∷ rest) (from_box_or_rule rest) all
    (boxes_stand kind rest (All-tail (MayStandIn kind) x rest all))

first_box_stands : (kind : Kind) (params : SplitParams) (list : List Node) → MayAllStandIn kind list → MayAllStandIn kind (from_first_box params list)
first_box_stands kind params [] all = All-nil (MayStandIn kind)
first_box_stands kind params (x ∷ rest) all = All-cons (MayStandIn kind) _ (x ∷ rest) tt all

rest_across_by : (list : List Node) → MayAllStandIn Vertical list → IsBoxAcrossIfHeld (option_map (λ (p : packs.PackedBox). p.box_node) (packed_rest list))
rest_across_by [] all = tt
rest_across_by (x ∷ rest) all = vbox_across Natural no_limit (x ∷ rest) all

pub rest_across : (params : SplitParams) (goal : ℤ) (list : List Node) → MayAllStandIn Vertical list
    → IsBoxAcrossIfHeld (option_map (λ (p : packs.PackedBox). p.box_node) (rest_of params goal list))
unfolding rest_of
rest_across params goal list all =
    let after = items_after params goal list in
    let below = All-drop (MayStandIn Vertical) (split_place params goal list) list all in
    rest_across_by (left_of params after)
    (All-append (MayStandIn Vertical) (specials_above after) (from_first_box params (from_box_or_rule after))
    (specials_stand Vertical after below) (first_box_stands Vertical params (from_box_or_rule after) (boxes_stand Vertical after below)))

-- The items that a line keeps.
end_stands : (kind : Kind) (list : List Node) (i : ℕ) → MayAllStandIn kind list → MayAllStandIn kind (at_break (slice_get list i))
end_stands kind [] i all = All-nil (MayStandIn kind)
end_stands kind (x ∷ rest) (suc i) all = end_stands kind rest i (All-tail (MayStandIn kind) x rest all)
end_stands kind (x ∷ rest) zero all = kept x
  where
    kept : (x : Node) → MayAllStandIn kind (at_break (Some x))
    kept (nodes.Glyph g) = All-nil (MayStandIn kind)
    kept (nodes.FontKern width) = All-nil (MayStandIn kind)
    kept (nodes.Kern width) = All-cons (MayStandIn kind) (nodes.Kern (pos 0)) [] tt (All-nil (MayStandIn kind))
    kept (nodes.Glue g) = All-nil (MayStandIn kind)
    kept (nodes.Penalty p) = All-cons (MayStandIn kind) (nodes.Penalty p) [] tt (All-nil (MayStandIn kind))
    kept (nodes.Rule sizes) = All-nil (MayStandIn kind)
    kept (nodes.Special text) = All-nil (MayStandIn kind)
    kept (nodes.Box shift b) = All-nil (MayStandIn kind)

first_stands : (kind : Kind) (list : List Node) → MayAllStandIn kind list → MayAllStandIn kind (without_first list)
first_stands kind [] all = All-nil (MayStandIn kind)
first_stands kind (x ∷ rest) all =
    one_of_two (MayStandIn kind) (is_dropped x) (without_first rest) (x ∷ rest) (first_stands kind rest (All-tail (MayStandIn kind) x rest all)) all

kept_stand : (kind : Kind) (list : List Node) (from : Option ℕ) (b : ℕ) → MayAllStandIn kind list → MayAllStandIn kind (kept_items list from b)
kept_stand kind list None b all =
    All-append (MayStandIn kind) (take b list) (at_break (slice_get list b)) (All-take (MayStandIn kind) b list all) (end_stands kind list b all)
kept_stand kind list (Some a) b all =
    let part = All-drop (MayStandIn kind) (a + 1) (take b list) (All-take (MayStandIn kind) b list all) in
    All-append (MayStandIn kind) (without_first (drop (a + 1) (take b list))) (at_break (slice_get list b))
    (first_stands kind (drop (a + 1) (take b list)) part) (end_stands kind list b all)

-- The lines of a paragraph, for a list of any kind.
line_across : (p : BrokenParagraph) (line : ℕ) → MayAllStandIn Horizontal p.nodes → IsBoxAcross (line_box p line)
unfolding line_box boxed_line hbox
line_across p line all =
    items_across Horizontal (line_items p line) (kept_stand Horizontal p.nodes (line_begin p.places line) (get_or p.places line 0) all)

after_stands : (kind : Kind) (params : Params) (count line : ℕ) → MayAllStandIn kind (after_line params count line)
after_stands kind params count line =
    let amount = penalty_after params count line in
    let one = All-cons (MayStandIn kind) (nodes.Penalty amount) [] tt (All-nil (MayStandIn kind)) in
    one_of_two (MayStandIn kind) (nat_lt (line + 1) count) (penalty_nodes amount) []
    (one_of_two (MayStandIn kind) (is_zero amount) [] (nodes.Penalty amount ∷ []) (All-nil (MayStandIn kind)) one) (All-nil (MayStandIn kind))

lines_stand : (kind : Kind) (p : BrokenParagraph) → MayAllStandIn Horizontal p.nodes → MayAllStandIn kind (vertical_items p)
unfolding vertical_items brought_by
lines_stand kind p all =
    all_flat (MayStandIn kind) (brought_by p) (up_to (length p.places))
    (λ (line : ℕ). All-append (MayStandIn kind) _ (after_line p.params (length p.places) line)
    (appended_stand kind _ (pos 0) (line_box p line) (line_across p line all)) (after_stands kind p.params (length p.places) line))

finished_stands : (kind : Kind) (list : List Node) (last : Glue) → MayAllStandIn kind list → MayAllStandIn kind (finished_list list last)
finished_stands kind list last all =
    All-append (MayStandIn kind) (without_glue (final_glue list) list) (nodes.Penalty (pos 10000) ∷ nodes.Glue last ∷ []) (without (final_glue list))
    (All-cons (MayStandIn kind) (nodes.Penalty (pos 10000)) (nodes.Glue last ∷ []) tt
    (All-cons (MayStandIn kind) (nodes.Glue last) [] tt (All-nil (MayStandIn kind))))
  where
    without : (end : Option Glue) → MayAllStandIn kind (without_glue end list)
    without None = all
    without (Some g) = All-take (MayStandIn kind) (length list - 1) list all

set_by_stands : (kind : Kind) (list : List Node) (params : Params) (depth : ℤ) (chosen : ChosenLines) → MayAllStandIn Horizontal list
    → MayAllStandIn kind (nodes_of (set_by list params depth chosen).items)
set_by_stands kind list params depth chosen all =
    let p = paragraph_in_lines list params depth chosen in
    subst (MayAllStandIn kind) (sym (nodes_of-items_of (vertical_items p))) (lines_stand kind p all)

list_stands : (kind : Kind) (list : List Node) (params : Params) (depth : ℤ) (set : SetParagraph) → list_setting list params depth ≡ Ok set
    → MayAllStandIn Horizontal list → MayAllStandIn kind (nodes_of set.items)
unfolding list_setting
list_stands kind list params depth set is all = by_fault (refusal list) is
  where
    fit : (chosen : ChosenLines) (b : Bool)
        → if◌then◌else◌ {A = Result SetParagraph ParagraphFault} b (Ok (set_by list params depth chosen)) (Err faults.DimensionTooLarge) ≡ Ok set
        → MayAllStandIn kind (nodes_of set.items)
    fit chosen true is =
        let same : set_by list params depth chosen ≡ set = cc in
        subst (λ (s : SetParagraph). MayAllStandIn kind (nodes_of s.items)) same (set_by_stands kind list params depth chosen all)
    fit chosen false is = cc

    by_lines : (chosen : Option ChosenLines) → set_if_fit list params depth chosen ≡ Ok set → MayAllStandIn kind (nodes_of set.items)
    by_lines None is = cc
    by_lines (Some chosen) is = fit chosen (lines_fit (paragraph_in_lines list params depth chosen)) is

    by_fault : (fault : Option BreakFault) → set_or fault (set_if_fit list params depth (chosen_lines (facts_of list) params)) ≡ Ok set
        → MayAllStandIn kind (nodes_of set.items)
    by_fault None is = by_lines (chosen_lines (facts_of list) params) is
    by_fault (Some breaking.InfiniteShrink) is = cc
    by_fault (Some breaking.TooManyBreaks) is = cc
    by_fault (Some breaking.OutOfMemory) is = cc

pub set_stands : (kind : Kind) (list : List Node) (params : Params) (depth : ℤ) (set : SetParagraph) → setting list params depth ≡ Ok set
    → MayAllStandIn Horizontal list → MayAllStandIn kind (nodes_of set.items)
unfolding setting
set_stands kind [] params depth set is all =
    let same : set_empty depth ≡ set = cc in
    subst (λ (s : SetParagraph). MayAllStandIn kind (nodes_of s.items)) same (All-nil (MayStandIn kind))
set_stands kind (x ∷ rest) params depth set is all =
    list_stands kind (finished_list (x ∷ rest) params.par_fill_skip) params depth set is
    (finished_stands Horizontal (x ∷ rest) params.par_fill_skip all)
