-- Glyphs have the sizes of their fonts, whatever a command does.
use Rattle.std.proofs.Common.{◌≡◌, ◌∙◌, ◌≤◌, ℕ, zero, suc, ◌-◌, List, [], ◌∷◌, ◌++◌, length, Bool, true, false, Option, Some, None, Result, Ok, Err, refl, ap, subst, arith}
use Rattle.std.specs.Prelude.{◌+◌, ℤ, pos, nat_lt, slice_get, slice_set, is_none, is_some}
use Rattle.std.proofs.lemmas.Bool.{ltb-false}
use Rattle.std.specs.List.{AllByRecursion}
use Rattle.node_core.specs.declared.tree.Node.{Node}
use Rattle.node_core.specs.declared.tree.Node.TheVariants as nodes
use Rattle.node_core.specs.declared.tree.BoxNode.{BoxNode}
use Rattle.node_core.specs.declared.tree.Glyph.{Glyph}
use Rattle.node_core.specs.declared.tree.Glue as glues
use Rattle.node_core.specs.declared.tree.Rule as rules
use Rattle.node_core.specs.declared.params.Params.{Params}
use Rattle.node_core.specs.Items as leaves
use Rattle.node_core.specs.Items.{Leaf, Items, EachLeaf, items_depth}
use Rattle.node_core.specs.Nodes.{items_of, node_of, nodes_of, box_depth, box_in, box_at, last_box, without_last_box}
use Rattle.vert_core.specs.Interline.{glue_of, appended_nodes}
use Rattle.node_core.proofs.NodeLemmas.{nodes_of-items_of}
use Rattle.tfm_core.specs.NamedBytes.{NamedBytes}
use Rattle.tfm_core.specs.Fonts.{SizedFont, glyph_of, step_of}
use Rattle.shape_core.specs.Shaping.{IsGlyphOf}
use Rattle.shape_core.specs.Spaces.{space_glue}
use Rattle.shape_core.proofs.GlyphLemmas.{shaped_items-glyphs, text_items-glyphs}
use Rattle.scaled_core.proofs.EachOf.{all_append, all_weaker, each_taken, each_set, each_at, each_copy, each_held}
use Rattle.pack_core.specs.declared.pack.PackedBox as packs
use Rattle.pack_core.specs.declared.pack.TooLarge.{TooLarge}
use Rattle.job_machine.specs.declared.OpenList.{OpenList}
use Rattle.tfm_core.specs.declared.slots.LoadedFont.{LoadedFont}
use Rattle.job_machine.specs.declared.command.Command.{Command}
use Rattle.job_machine.specs.declared.command.Command.TheVariants.{LoadFont, UseFont, Open, Paragraph, End, Text, Character, Rule, Kern, Glue, Penalty, Append, Unbox, LastBox, Split, Measure, Void, Set, Count, Special, Ship}
use Rattle.job_machine.specs.declared.command.FontLoad.{FontLoad}
use Rattle.job_machine.specs.declared.replies.Refusal.{Refusal}
use Rattle.job_machine.specs.declared.replies.Refusal.TheVariants.{SlotTaken, NoOpenList, TooDeep, ListTooLong, JobOver}
use Rattle.tfm_core.specs.Slots.{Slots, font_in}
use Rattle.job_machine.specs.FontSlots.{with_font, text_items_in, character_in, text_shaped, character_shaped}
use Rattle.job_machine.specs.Private.FontSlots.{glyph_by}
use Rattle.node_core.proofs.Leaves.{each_leaf}
use Rattle.job_machine.proofs.KeptRest.{KeepsRest, end_keeps, append_keeps, unbox_keeps}
use Rattle.job_machine.proofs.PackedItems.{packed_items}
use Rattle.job_state.proofs.SplitParts.{inner_nodes, rest_sound, front_sound}
use Rattle.job_state.specs.Private.Sized.{HasSizes, IsSizedLeaf, IsSoundBox, IsSized, AreSized, IsSizedList, IsSizedHeld, HasSizedGlyphs}
use Rattle.job_state.proofs.SetLines.{set_sized}
use Rattle.vert_core.specs.Paragraphs.{SetParagraph}
use Rattle.vert_core.specs.declared.paragraph.ParagraphFault.{ParagraphFault}
use Rattle.job_machine.specs.Paragraphs.{depth_in, set_after, set_checks, with_lines}
use Rattle.job_machine.specs.declared.ListPurpose.{ListPurpose}
use Rattle.job_machine.specs.declared.ListPurpose.TheVariants as purposes
use Rattle.job_machine.specs.declared.command.Splitting.{Splitting}
use Rattle.job_machine.specs.declared.command.Transfer.{Transfer}
use Rattle.job_machine.specs.declared.command.Transfer.TheVariants.{Move, Copy}
use Rattle.node_core.specs.declared.limits.TheConstants.{REGISTERS, MAX_DEPTH, MAX_ITEMS}
use Rattle.job_machine.specs.State.{State, first_state, innermost, outer, items_in, held_in, font_for}
use Rattle.job_machine.specs.OpenLists.{glue_in, box_items, if_packed, packed_by}
use Rattle.job_machine.specs.Checks.{home_checks, packed_checks, purpose_checks, close_checks, checks, first_refusal, refusal_in}
use Rattle.job_machine.specs.Effects.{with_nodes, with_rule, with_items, with_box, without_last, with_taken, with_home, with_closed, with_purpose, with_ended, with_used, with_unboxed, with_split, state_after_command}

-- A slot that has a font keeps it when another slot is given a font.
font_kept : (fonts : Slots) (other : ℕ) (font : LoadedFont) (slot : ℕ) (loaded : LoadedFont) → font_in fonts other ≡ None
    → font_in fonts slot ≡ Some loaded → font_in (slice_set fonts other (Some font)) slot ≡ Some loaded
font_kept [] other font slot loaded empty is = is
font_kept (held ∷ fonts) zero font zero loaded empty is = cc
font_kept (held ∷ fonts) zero font (suc slot) loaded empty is = is
font_kept (held ∷ fonts) (suc other) font zero loaded empty is = is
font_kept (held ∷ fonts) (suc other) font (suc slot) loaded empty is = font_kept fonts other font slot loaded empty is

with_font_kept : (fonts : Slots) (other : ℕ) (name : List ℕ) (read : Result SizedFont Refusal) (slot : ℕ) (loaded : LoadedFont) → font_in fonts other ≡ None
    → font_in fonts slot ≡ Some loaded → font_in (with_font fonts other name read) slot ≡ Some loaded
with_font_kept fonts other name (Err refusal) slot loaded empty is = is
with_font_kept fonts other name (Ok font) slot loaded empty is = font_kept fonts other _ slot loaded empty is

-- The second check of a command that is accepted does not hold.
second_fails : (first second : Bool) (r t : Refusal) (rest : List (Bool × Refusal)) → first_refusal ((first, r) ∷ (second, t) ∷ rest) ≡ None → second ≡ false
second_fails true second r t rest may = cc
second_fails false true r t rest may = cc
second_fails false false r t rest may = refl

not_deeper : (depth : ℕ) → nat_lt MAX_DEPTH depth ≡ false → depth ≤ MAX_DEPTH
not_deeper depth is = ltb-false MAX_DEPTH depth is

none_by : {A : Type 0} (o : Option A) → is_some o ≡ false → o ≡ None
none_by None h = refl
none_by (Some x) h = cc

-- A font is loaded only into an empty slot.
slot_empty : (s : State) (load : FontLoad) → first_refusal (checks s (LoadFont load)) ≡ None → font_in s.fonts load.slot ≡ None
slot_empty s load may =
    none_by (font_in s.fonts load.slot) (second_fails s.over (is_some (font_in s.fonts load.slot)) JobOver SlotTaken (refusal_in (font_for s load)) may)

still_loaded : (s t : State) (slot : ℕ) (loaded : LoadedFont) → KeepsRest s t → font_in s.fonts slot ≡ Some loaded → font_in t.fonts slot ≡ Some loaded
still_loaded s t slot loaded keeps is = ap (λ fonts. font_in fonts slot) keeps.fonts ∙ is

-- A slot that has a font keeps it.
pub stays_loaded : (s : State) (command : Command) → first_refusal (checks s command) ≡ None → (slot : ℕ) (loaded : LoadedFont)
    → font_in s.fonts slot ≡ Some loaded → font_in (state_after_command s command).fonts slot ≡ Some loaded
stays_loaded s (LoadFont load) may slot loaded is = with_font_kept s.fonts load.slot load.name (font_for s load) slot loaded (slot_empty s load may) is
stays_loaded s (UseFont other) may slot loaded is = is
stays_loaded s (Open opening) may slot loaded is = is
stays_loaded s Paragraph may slot loaded is = is
stays_loaded s End may slot loaded is = still_loaded s (state_after_command s End) slot loaded (end_keeps s) is
stays_loaded s (Text text) may slot loaded is = is
stays_loaded s (Character code) may slot loaded is = is
stays_loaded s (Rule rule) may slot loaded is = is
stays_loaded s (Kern width) may slot loaded is = is
stays_loaded s (Glue glue) may slot loaded is = is
stays_loaded s (Penalty n) may slot loaded is = is
stays_loaded s (Append taken) may slot loaded is = still_loaded s (state_after_command s (Append taken)) slot loaded (append_keeps s taken) is
stays_loaded s (Unbox taken) may slot loaded is = still_loaded s (state_after_command s (Unbox taken)) slot loaded (unbox_keeps s taken) is
stays_loaded s (LastBox r) may slot loaded is = is
stays_loaded s (Split splitting) may slot loaded is = is
stays_loaded s (Measure r) may slot loaded is = is
stays_loaded s (Void r) may slot loaded is = is
stays_loaded s (Set parameter) may slot loaded is = is
stays_loaded s (Count counting) may slot loaded is = is
stays_loaded s (Special text) may slot loaded is = is
stays_loaded s (Ship r) may slot loaded is = is

-- What is sized stays sized if each slot that has a font keeps it.
glyph_kept : (old new : Slots) → ((slot : ℕ) (loaded : LoadedFont) → font_in old slot ≡ Some loaded → font_in new slot ≡ Some loaded)
    → (g : Glyph) → HasSizes old g → HasSizes new g
glyph_kept old new keeps g is = by_font (font_in old g.slot) refl is
  where
    by_font : (held : Option LoadedFont) → font_in old g.slot ≡ held
        → glyph_by held g.code ≡ Some (record { width = g.width; height = g.height; depth = g.depth }) → HasSizes new g
    by_font None at sized = cc
    by_font (Some loaded) at sized = rw (keeps g.slot loaded at) sized

leaf_kept : (old new : Slots) → ((slot : ℕ) (loaded : LoadedFont) → font_in old slot ≡ Some loaded → font_in new slot ≡ Some loaded)
    → (x : Leaf) → IsSizedLeaf old x → IsSizedLeaf new x
leaf_kept old new keeps (leaves.glyph g) is = glyph_kept old new keeps g is
leaf_kept old new keeps (leaves.font_kern width) is = tt
leaf_kept old new keeps (leaves.kern width) is = tt
leaf_kept old new keeps (leaves.glue g) is = tt
leaf_kept old new keeps (leaves.penalty p) is = tt
leaf_kept old new keeps (leaves.rule sizes) is = tt
leaf_kept old new keeps (leaves.special text) is = tt

box_kept : (old new : Slots) → ((slot : ℕ) (loaded : LoadedFont) → font_in old slot ≡ Some loaded → font_in new slot ≡ Some loaded)
    → (b : BoxNode) → IsSoundBox old b → IsSoundBox new b
box_kept old new keeps b is = record { glyphs = each_leaf (IsSizedLeaf old) (IsSizedLeaf new) (leaf_kept old new keeps) b.list is.glyphs; depth = is.depth }

node_kept : (old new : Slots) → ((slot : ℕ) (loaded : LoadedFont) → font_in old slot ≡ Some loaded → font_in new slot ≡ Some loaded)
    → (x : Node) → IsSized old x → IsSized new x
node_kept old new keeps (nodes.Glyph g) is = glyph_kept old new keeps g is
node_kept old new keeps (nodes.FontKern width) is = tt
node_kept old new keeps (nodes.Kern width) is = tt
node_kept old new keeps (nodes.Glue g) is = tt
node_kept old new keeps (nodes.Penalty p) is = tt
node_kept old new keeps (nodes.Rule sizes) is = tt
node_kept old new keeps (nodes.Special text) is = tt
node_kept old new keeps (nodes.Box shift b) is = box_kept old new keeps b is

pub stays_sized : (s : State) (command : Command) → first_refusal (checks s command) ≡ None → (b : BoxNode) → IsSoundBox s.fonts b → IsSoundBox (state_after_command s command).fonts b
stays_sized s command may b is = box_kept s.fonts (state_after_command s command).fonts (stays_loaded s command may) b is

-- Items are sized as nodes if and only if they are sized as leaves, as long as no box among them is too deep.
leaf_sized : (fonts : Slots) (x : Leaf) → IsSized fonts (node_of x) → IsSizedLeaf fonts x
leaf_sized fonts (leaves.glyph g) is = is
leaf_sized fonts (leaves.font_kern width) is = tt
leaf_sized fonts (leaves.kern width) is = tt
leaf_sized fonts (leaves.glue g) is = tt
leaf_sized fonts (leaves.penalty p) is = tt
leaf_sized fonts (leaves.rule sizes) is = tt
leaf_sized fonts (leaves.special text) is = tt

sized_leaf : (fonts : Slots) (x : Leaf) → IsSizedLeaf fonts x → IsSized fonts (node_of x)
sized_leaf fonts (leaves.glyph g) is = is
sized_leaf fonts (leaves.font_kern width) is = tt
sized_leaf fonts (leaves.kern width) is = tt
sized_leaf fonts (leaves.glue g) is = tt
sized_leaf fonts (leaves.penalty p) is = tt
sized_leaf fonts (leaves.rule sizes) is = tt
sized_leaf fonts (leaves.special text) is = tt

sized_leaves : (fonts : Slots) (items : Items) → AreSized fonts (nodes_of items) → EachLeaf (IsSizedLeaf fonts) items
sized_leaves fonts leaves.none all = tt
sized_leaves fonts (leaves.leaf x rest) all = (leaf_sized fonts x all.0, sized_leaves fonts rest all.1)
sized_leaves fonts (leaves.box shift frame inner rest) all = (all.0.glyphs, sized_leaves fonts rest all.1)

sized_nodes : (fonts : Slots) (items : Items) → EachLeaf (IsSizedLeaf fonts) items → items_depth items ≤ MAX_DEPTH → AreSized fonts (nodes_of items)
sized_nodes fonts leaves.none all shallow = tt
sized_nodes fonts (leaves.leaf x rest) all shallow = (sized_leaf fonts x all.0, sized_nodes fonts rest all.1 shallow)
sized_nodes fonts (leaves.box shift frame inner rest) all shallow =
    (record { glyphs = all.0; depth = omega (arith, shallow) }, sized_nodes fonts rest all.1 (omega (arith, shallow)))

-- The items that characters become are sized.
glyph_sized : (fonts : Slots) (slot : ℕ) (loaded : LoadedFont) → font_in fonts slot ≡ Some loaded → (x : Node) → IsGlyphOf slot (glyph_of loaded.font) x → IsSized fonts x
glyph_sized fonts slot loaded at (nodes.Glyph g) is = rw (is.0, at) is.1
glyph_sized fonts slot loaded at (nodes.FontKern width) is = tt
glyph_sized fonts slot loaded at (nodes.Kern width) is = tt
glyph_sized fonts slot loaded at (nodes.Glue g) is = tt
glyph_sized fonts slot loaded at (nodes.Penalty penalty) is = tt
glyph_sized fonts slot loaded at (nodes.Rule rule) is = tt
glyph_sized fonts slot loaded at (nodes.Special text) is = absurd is
glyph_sized fonts slot loaded at (nodes.Box shift b) is = absurd is

text_sized : (fonts : Slots) (slot : ℕ) (held : Option LoadedFont) (text : List ℕ) → font_in fonts slot ≡ held → AreSized fonts (text_items_in held slot text).items
text_sized fonts slot None text at = tt
text_sized fonts slot (Some loaded) text at =
    all_weaker (IsGlyphOf slot (glyph_of loaded.font)) (IsSized fonts) (text_items_in (Some loaded) slot text).items (glyph_sized fonts slot loaded at)
    (text_items-glyphs slot (glyph_of loaded.font) (step_of loaded.font) (space_glue loaded.font.space) text)

character_sized : (fonts : Slots) (slot : ℕ) (held : Option LoadedFont) (code : ℕ) → font_in fonts slot ≡ held → AreSized fonts (character_in held slot code).items
character_sized fonts slot None code at = tt
character_sized fonts slot (Some loaded) code at =
    all_weaker (IsGlyphOf slot (glyph_of loaded.font)) (IsSized fonts) (character_in (Some loaded) slot code).items (glyph_sized fonts slot loaded at)
    (shaped_items-glyphs slot (glyph_of loaded.font) (step_of loaded.font) (code ∷ []))

text_shaped_sized : (fonts : Slots) (current : Option ℕ) (text : List ℕ) → AreSized fonts (text_shaped fonts current text).items
text_shaped_sized fonts None text = tt
text_shaped_sized fonts (Some slot) text = text_sized fonts slot (font_in fonts slot) text refl

character_shaped_sized : (fonts : Slots) (current : Option ℕ) (code : ℕ) → AreSized fonts (character_shaped fonts current code).items
character_shaped_sized fonts None code = tt
character_shaped_sized fonts (Some slot) code = character_sized fonts slot (font_in fonts slot) code refl

-- Sized items stay sized when more are appended.
nodes_sized : (fonts : Slots) (old more : List Node) → AreSized fonts old → AreSized fonts more → AreSized fonts (nodes_of (items_of (old ++ more)))
nodes_sized fonts old more all others = rw nodes_of-items_of (all_append (IsSized fonts) old more all others)

nest_sized : (fonts : Slots) (nest : List OpenList) (more : List Node) (l : Option OpenList) → AllByRecursion (IsSizedList fonts) nest → innermost nest ≡ l
    → AreSized fonts more → AllByRecursion (IsSizedList fonts) (with_nodes nest more l)
nest_sized fonts nest more None all is here = all
nest_sized fonts nest more (Some l) all is here =
    each_set (IsSizedList fonts) nest (length nest - 1) _ all (nodes_sized fonts (nodes_of l.list) more (each_at (IsSizedList fonts) nest (length nest - 1) l all is) here)

items_sized : (s : State) (more : List Node) → AreSized s.fonts more → HasSizedGlyphs s → HasSizedGlyphs (with_items s more)
items_sized s more here sized = record { nest = nest_sized s.fonts s.nest more (innermost s.nest) sized.nest refl here; registers = sized.registers }

held_kept : (old new : Slots) → ((slot : ℕ) (loaded : LoadedFont) → font_in old slot ≡ Some loaded → font_in new slot ≡ Some loaded)
    → (held : Option BoxNode) → IsSizedHeld old held → IsSizedHeld new held
held_kept old new keeps None is = tt
held_kept old new keeps (Some b) is = box_kept old new keeps b is

list_kept : (old new : Slots) → ((slot : ℕ) (loaded : LoadedFont) → font_in old slot ≡ Some loaded → font_in new slot ≡ Some loaded)
    → (l : OpenList) → IsSizedList old l → IsSizedList new l
list_kept old new keeps l is = all_weaker (IsSized old) (IsSized new) (nodes_of l.list) (node_kept old new keeps) is

-- The box that a register holds is sound.
pub sized_held : (s : State) (r : ℕ) (b : BoxNode) → HasSizedGlyphs s → held_in s.registers r ≡ Some b → IsSoundBox s.fonts b
sized_held s r b sized is = each_held (IsSizedHeld s.fonts) s.registers r b sized.registers is

-- A sound box is sized as an item of a list, with or without interline glue.
items_of_box : (fonts : Slots) (glue : Option glues.Glue) (shift : ℤ) (b : BoxNode) → IsSoundBox fonts b → AreSized fonts (appended_nodes glue shift b)
items_of_box fonts None shift b is = (is, tt)
items_of_box fonts (Some glue) shift b is = (tt, (is, tt))

nest_with_box : (fonts : Slots) (params : Params) (nest : List OpenList) (shift : ℤ) (b : BoxNode) (l : Option OpenList) → AllByRecursion (IsSizedList fonts) nest
    → innermost nest ≡ l → IsSoundBox fonts b → AllByRecursion (IsSizedList fonts) (with_box params nest shift b l)
nest_with_box fonts params nest shift b None all is sound = all
nest_with_box fonts params nest shift b (Some l) all is sound =
    each_set (IsSizedList fonts) nest (length nest - 1) _ all
    (nodes_sized fonts (nodes_of l.list) (box_items params l shift b) (each_at (IsSizedList fonts) nest (length nest - 1) l all is)
    (items_of_box fonts (glue_of (glue_in params l b.height)) shift b sound))

nest_with_rule : (fonts : Slots) (nest : List OpenList) (sizes : rules.Rule) (l : Option OpenList) → AllByRecursion (IsSizedList fonts) nest
    → innermost nest ≡ l → AllByRecursion (IsSizedList fonts) (with_rule nest sizes l)
nest_with_rule fonts nest sizes None all is = all
nest_with_rule fonts nest sizes (Some l) all is =
    each_set (IsSizedList fonts) nest (length nest - 1) _ all
    (nodes_sized fonts (nodes_of l.list) (nodes.Rule sizes ∷ []) (each_at (IsSizedList fonts) nest (length nest - 1) l all is) (tt, tt))

-- A list stays sized without its last box.
sized_without : (fonts : Slots) (xs : List Node) (last : Option BoxNode) → AreSized fonts xs → AreSized fonts (nodes_of (items_of (without_last_box last xs)))
sized_without fonts xs None all = rw nodes_of-items_of all
sized_without fonts xs (Some b) all = rw nodes_of-items_of (each_taken (IsSized fonts) (length xs - 1) xs all)

nest_without_last : (fonts : Slots) (nest : List OpenList) (l : Option OpenList) → AllByRecursion (IsSizedList fonts) nest
    → innermost nest ≡ l → AllByRecursion (IsSizedList fonts) (without_last nest l)
nest_without_last fonts nest None all is = all
nest_without_last fonts nest (Some l) all is =
    each_set (IsSizedList fonts) nest (length nest - 1) _ all
    (sized_without fonts (nodes_of l.list) (last_box (nodes_of l.list)) (each_at (IsSizedList fonts) nest (length nest - 1) l all is))

box_in_sized : (fonts : Slots) (x : Node) → IsSized fonts x → IsSizedHeld fonts (box_in x)
box_in_sized fonts (nodes.Glyph g) is = tt
box_in_sized fonts (nodes.FontKern width) is = tt
box_in_sized fonts (nodes.Kern width) is = tt
box_in_sized fonts (nodes.Glue g) is = tt
box_in_sized fonts (nodes.Penalty p) is = tt
box_in_sized fonts (nodes.Rule sizes) is = tt
box_in_sized fonts (nodes.Special text) is = tt
box_in_sized fonts (nodes.Box shift b) is = is

last_sized : (fonts : Slots) (xs : List Node) → AreSized fonts xs → IsSizedHeld fonts (last_box xs)
last_sized fonts xs all = by_last (slice_get xs (length xs - 1)) refl
  where
    by_last : (last : Option Node) → slice_get xs (length xs - 1) ≡ last → IsSizedHeld fonts (box_at last)
    by_last None is = tt
    by_last (Some x) is = box_in_sized fonts x (each_at (IsSized fonts) xs (length xs - 1) x all is)

last_of_nest : (fonts : Slots) (nest : List OpenList) (l : Option OpenList) → AllByRecursion (IsSizedList fonts) nest → innermost nest ≡ l
    → IsSizedHeld fonts (last_box (nodes_of (items_in l)))
last_of_nest fonts nest None all is = tt
last_of_nest fonts nest (Some l) all is = last_sized fonts (nodes_of l.list) (each_at (IsSizedList fonts) nest (length nest - 1) l all is)

-- The registers stay sized when the box of one is taken.
taken_sized : (fonts : Slots) (taking : Transfer) (registers : List (Option BoxNode)) (r : ℕ) → AllByRecursion (IsSizedHeld fonts) registers
    → AllByRecursion (IsSizedHeld fonts) (with_taken taking registers r)
taken_sized fonts Move registers r all = each_set (IsSizedHeld fonts) registers r None all tt
taken_sized fonts Copy registers r all = all

used_sized : (s : State) (taking : Transfer) (r : ℕ) (shift : ℤ) (held : Option BoxNode) → held_in s.registers r ≡ held → HasSizedGlyphs s
    → HasSizedGlyphs (with_used s taking r shift held)
used_sized s taking r shift None is sized = sized
used_sized s taking r shift (Some b) is sized =
    record {
      nest = nest_with_box s.fonts s.params s.nest shift b (innermost s.nest) sized.nest refl (sized_held s r b sized is);
      registers = taken_sized s.fonts taking s.registers r sized.registers;
    }

unboxed_sized : (s : State) (taking : Transfer) (r : ℕ) (held : Option BoxNode) → held_in s.registers r ≡ held → HasSizedGlyphs s
    → HasSizedGlyphs (with_unboxed s taking r held)
unboxed_sized s taking r None is sized = sized
unboxed_sized s taking r (Some b) is sized =
    let sound = sized_held s r b sized is in
    record {
      nest = nest_sized s.fonts s.nest (nodes_of b.list) (innermost s.nest) sized.nest refl (sized_nodes s.fonts b.list sound.glyphs (omega (arith, sound.depth)));
      registers = taken_sized s.fonts taking s.registers r sized.registers;
    }

-- The state stays sized when the box of a closed list goes to a register or to a list.
home_sized : (s : State) (into : Option ℕ) (b : BoxNode) → HasSizedGlyphs s → IsSoundBox s.fonts b → HasSizedGlyphs (with_home s (outer s.nest) into b)
home_sized s None b sized sound =
    record {
      nest = nest_with_box s.fonts s.params (outer s.nest) (pos 0) b (innermost (outer s.nest)) (each_taken (IsSizedList s.fonts) (length s.nest - 1) s.nest sized.nest) refl sound;
      registers = sized.registers;
    }
home_sized s (Some r) b sized sound =
    record {
      nest = each_taken (IsSizedList s.fonts) (length s.nest - 1) s.nest sized.nest;
      registers = each_set (IsSizedHeld s.fonts) s.registers r (Some b) sized.registers sound;
    }

packed_sized : (s : State) (l : OpenList) (into : Option ℕ) (found : Result packs.PackedBox TooLarge)
    → ((q : packs.PackedBox) → found ≡ Ok q → l.list ≡ q.box_node.list)
    → first_refusal ((s.over, JobOver) ∷ packed_checks s.params (outer s.nest) into (if_packed found)) ≡ None
    → HasSizedGlyphs s → IsSizedList s.fonts l → HasSizedGlyphs (with_closed s into (if_packed found))
packed_sized s l into (Err large) own may sized list = sized
packed_sized s l into (Ok q) own may sized list =
    let glyphs = subst (EachLeaf (IsSizedLeaf s.fonts)) (own q refl) (sized_leaves s.fonts l.list list) in
    let shallow =
    second_fails s.over (nat_lt MAX_DEPTH (box_depth q.box_node)) JobOver TooDeep (home_checks s.params (outer s.nest) into q.box_node) may in
    home_sized s into q.box_node sized (record { glyphs = glyphs; depth = not_deeper (box_depth q.box_node) shallow })

-- The third check of a command that is accepted does not hold; the lines of a paragraph are sized.
third_fails : (first second third : Bool) (r t u : Refusal) (rest : List (Bool × Refusal)) → first_refusal ((first, r) ∷ (second, t) ∷ (third, u) ∷ rest) ≡ None → third ≡ false
third_fails true second third r t u rest may = cc
third_fails false true third r t u rest may = cc
third_fails false false true r t u rest may = cc
third_fails false false false r t u rest may = refl

lines_sized : (fonts : Slots) (around : List OpenList) (m : Option OpenList) (result : Result SetParagraph ParagraphFault) (over nowhere : Bool) (count : ℕ)
    → innermost around ≡ m → ((set : SetParagraph) → result ≡ Ok set → EachLeaf (IsSizedLeaf fonts) set.items)
    → first_refusal ((over, JobOver) ∷ (nowhere, NoOpenList) ∷ set_checks count result) ≡ None
    → AllByRecursion (IsSizedList fonts) around → AllByRecursion (IsSizedList fonts) (with_lines around m result)
lines_sized fonts around None result over nowhere count is glyphs may all = all
lines_sized fonts around (Some l) (Err fault) over nowhere count is glyphs may all = all
lines_sized fonts around (Some l) (Ok set) over nowhere count is glyphs may all =
    let shallow =
    third_fails over nowhere (nat_lt MAX_DEPTH (items_depth set.items)) JobOver NoOpenList TooDeep ((nat_lt MAX_ITEMS (count + length (nodes_of set.items)), ListTooLong) ∷ []) may in
    let here = sized_nodes fonts set.items (glyphs set refl) (not_deeper (items_depth set.items) shallow) in
    each_set (IsSizedList fonts) around (length around - 1) _ all
    (nodes_sized fonts (nodes_of l.list) (nodes_of set.items) (each_at (IsSizedList fonts) around (length around - 1) l all is) here)

purpose_sized : (s : State) (l : OpenList) (purpose : ListPurpose) → innermost s.nest ≡ Some l
    → first_refusal ((s.over, JobOver) ∷ purpose_checks s.params (outer s.nest) l purpose) ≡ None → HasSizedGlyphs s → HasSizedGlyphs (with_purpose s l purpose)
purpose_sized s l (purposes.Box opening) is may sized =
    packed_sized s l opening.into (packed_by l.purpose s.params l.list) (packed_items l.purpose s.params l.list) may sized
    (each_at (IsSizedList s.fonts) s.nest (length s.nest - 1) l sized.nest is)
purpose_sized s l purposes.Paragraph is may sized =
    let around = outer s.nest in
    let list = each_at (IsSizedList s.fonts) s.nest (length s.nest - 1) l sized.nest is in
    record {
      nest =
          lines_sized s.fonts around (innermost around) (set_after s.params around l.list) s.over (is_none (innermost around)) (length (nodes_of (items_in (innermost around)))) refl
          (λ (set : SetParagraph) told. set_sized s.fonts (nodes_of l.list) s.params (depth_in (innermost around)) set list told)
          may (each_taken (IsSizedList s.fonts) (length s.nest - 1) s.nest sized.nest);
      registers = sized.registers;
    }

ended_sized : (s : State) (l : Option OpenList) → innermost s.nest ≡ l → first_refusal ((s.over, JobOver) ∷ close_checks s.params (outer s.nest) l) ≡ None
    → HasSizedGlyphs s → HasSizedGlyphs (with_ended s l)
ended_sized s None is may sized = sized
ended_sized s (Some l) is may sized = purpose_sized s l l.purpose is may sized

-- The registers stay sized when a box is split.
split_sized : (s : State) (splitting : Splitting) (held : Option BoxNode) → held_in s.registers splitting.register ≡ held → HasSizedGlyphs s
    → HasSizedGlyphs (record s { registers = with_split s.params.split s.registers splitting held })
split_sized s splitting None is sized = record { nest = sized.nest; registers = each_set (IsSizedHeld s.fonts) s.registers splitting.into None sized.registers tt }
split_sized s splitting (Some b) is sized =
    let inner = inner_nodes s.fonts b (sized_held s splitting.register b sized is) in
    record {
      nest = sized.nest;
      registers =
          each_set (IsSizedHeld s.fonts) _ splitting.into _
          (each_set (IsSizedHeld s.fonts) s.registers splitting.register _ sized.registers (rest_sound s.fonts s.params.split splitting.height (nodes_of b.list) inner))
          (front_sound s.fonts s.params.split splitting.height (nodes_of b.list) inner);
    }

-- A new job has no glyph.
pub sized_first : (files : List NamedBytes) → HasSizedGlyphs (first_state files)
sized_first files = record { nest = tt; registers = each_copy (IsSizedHeld (first_state files).fonts) REGISTERS None tt }

-- A command that is accepted leaves all glyphs sized.
pub sized_after : (s : State) (command : Command) → first_refusal (checks s command) ≡ None → HasSizedGlyphs s → HasSizedGlyphs (state_after_command s command)
sized_after s (LoadFont load) may sized =
    let new : Slots = (state_after_command s (LoadFont load)).fonts in
    let keeps = stays_loaded s (LoadFont load) may in
    record {
      nest = all_weaker (IsSizedList s.fonts) (IsSizedList new) s.nest (list_kept s.fonts new keeps) sized.nest;
      registers = all_weaker (IsSizedHeld s.fonts) (IsSizedHeld new) s.registers (held_kept s.fonts new keeps) sized.registers;
    }
sized_after s (UseFont slot) may sized = record { nest = sized.nest; registers = sized.registers }
sized_after s (Open opening) may sized = record { nest = all_append (IsSizedList s.fonts) s.nest _ sized.nest (tt, tt); registers = sized.registers }
sized_after s Paragraph may sized = record { nest = all_append (IsSizedList s.fonts) s.nest _ sized.nest (tt, tt); registers = sized.registers }
sized_after s End may sized = ended_sized s (innermost s.nest) refl may sized
sized_after s (Text text) may sized = items_sized s (text_shaped s.fonts s.current text).items (text_shaped_sized s.fonts s.current text) sized
sized_after s (Character code) may sized = items_sized s (character_shaped s.fonts s.current code).items (character_shaped_sized s.fonts s.current code) sized
sized_after s (Rule sizes) may sized = record { nest = nest_with_rule s.fonts s.nest sizes (innermost s.nest) sized.nest refl; registers = sized.registers }
sized_after s (Kern width) may sized = items_sized s (nodes.Kern width ∷ []) (tt, tt) sized
sized_after s (Glue glue) may sized = items_sized s (nodes.Glue glue ∷ []) (tt, tt) sized
sized_after s (Penalty n) may sized = items_sized s (nodes.Penalty n ∷ []) (tt, tt) sized
sized_after s (Append taken) may sized = used_sized s taken.taking taken.register taken.shift (held_in s.registers taken.register) refl sized
sized_after s (Unbox taken) may sized = unboxed_sized s taken.taking taken.register (held_in s.registers taken.register) refl sized
sized_after s (LastBox r) may sized =
    record {
      nest = nest_without_last s.fonts s.nest (innermost s.nest) sized.nest refl;
      registers = each_set (IsSizedHeld s.fonts) s.registers r _ sized.registers (last_of_nest s.fonts s.nest (innermost s.nest) sized.nest refl);
    }
sized_after s (Split splitting) may sized = split_sized s splitting (held_in s.registers splitting.register) refl sized
sized_after s (Measure r) may sized = sized
sized_after s (Void r) may sized = record { nest = sized.nest; registers = each_set (IsSizedHeld s.fonts) s.registers r None sized.registers tt }
sized_after s (Set parameter) may sized = record { nest = sized.nest; registers = sized.registers }
sized_after s (Count counting) may sized = record { nest = sized.nest; registers = sized.registers }
sized_after s (Special text) may sized = items_sized s (nodes.Special text ∷ []) (tt, tt) sized
sized_after s (Ship r) may sized = record { nest = sized.nest; registers = each_set (IsSizedHeld s.fonts) s.registers r None sized.registers tt }
