-- The lists and the registers of a job have glyphs only across.
use Rattle.std.proofs.Common.{◌≡◌, ◌∙◌, ℕ, zero, suc, ◌+◌, ◌-◌, ◌^◌, Bool, true, false, List, All, [], ◌∷◌, ◌++◌, length, Option, Some, None, Result, Ok, Err, refl, ap, sym, subst}
use Rattle.std.specs.Prelude.{ℤ, pos, slice_get, slice_set, ◌==◌, nat_lt, is_none, not}
use Rattle.std.specs.List.{list_all, list_any}
use Rattle.std.specs.Option.{option_map}
use Rattle.std.proofs.lemmas.List.Elements.{All-nil, All-cons, All-head, All-tail, All-append, All-take, All-set, All-replicate}
use Rattle.node_core.specs.declared.limits.TheConstants.{MAX_ITEMS, REGISTERS}
use Rattle.node_core.specs.declared.params.Params.{Params}
use Rattle.node_core.specs.declared.params.SplitParams.{SplitParams}
use Rattle.node_core.specs.declared.tree.BoxNode.{BoxNode}
use Rattle.node_core.specs.declared.tree.Kind.{Kind}
use Rattle.node_core.specs.declared.tree.Kind.TheVariants.{Horizontal, Vertical}
use Rattle.node_core.specs.declared.tree.Node.{Node}
use Rattle.node_core.specs.declared.tree.Node.TheVariants as nodes
use Rattle.node_core.specs.declared.tree.Rule as rules
use Rattle.node_core.specs.Classes.{shrinks_infinitely}
use Rattle.node_core.specs.Nodes.{last_box, nodes_of, without_last_box}
use Rattle.pack_core.specs.declared.pack.PackedBox as packs
use Rattle.tfm_core.specs.NamedBytes.{NamedBytes}
use Rattle.tfm_core.specs.declared.slots.LoadedFont.{LoadedFont}
use Rattle.tfm_core.specs.Fonts.{glyph_of, step_of}
use Rattle.tfm_core.specs.Slots.{Slots, font_in}
use Rattle.shape_core.specs.Spaces.{space_glue}
use Rattle.vert_core.specs.declared.paragraph.ParagraphFault.{ParagraphFault}
use Rattle.vert_core.specs.Interline.{glue_of}
use Rattle.vert_core.specs.Paragraphs.{SetParagraph}
use Rattle.vert_core.specs.Split.{rest_of, split_numbers}
use Rattle.job_machine.specs.declared.OpenList.{OpenList}
use Rattle.job_machine.specs.declared.ListPurpose.{ListPurpose}
use Rattle.job_machine.specs.declared.ListPurpose.TheVariants as purposes
use Rattle.job_machine.specs.declared.command.Splitting.{Splitting}
use Rattle.job_machine.specs.declared.command.Transfer.{Transfer}
use Rattle.job_machine.specs.declared.command.Transfer.TheVariants.{Move, Copy}
use Rattle.job_machine.specs.declared.command.Command.{Command}
use Rattle.job_machine.specs.declared.command.Command.TheVariants.{LoadFont, UseFont, Open, Paragraph, End, Text, Character, Rule, Kern, Glue, Penalty, Append, Unbox, LastBox, Split, Measure, Void, Set, Count, Special, Ship}
use Rattle.job_machine.specs.declared.replies.Refusal.{Refusal}
use Rattle.job_machine.specs.declared.replies.Refusal.TheVariants.{DimensionTooLarge, InfiniteShrink, JobOver, ListTooLong, NoFont, NoOpenList, WrongKind, WrongMode}
use Rattle.job_machine.specs.Reply.{Reply}
use Rattle.job_machine.specs.State.{State, held_in, innermost, items_in, outer}
use Rattle.job_machine.specs.FontSlots.{character_in, character_shaped, current_font, text_items_in, text_shaped}
use Rattle.job_machine.specs.OpenLists.{box_items, glue_in, is_vertical, kind_by, kind_in, opened_list, packed_list}
use Rattle.job_machine.specs.Paragraphs.{depth_in, set_after, with_lines}
use Rattle.job_machine.specs.Checks.{character_checks, checks, first_refusal, is_other, items_checks, length_checks, split_checks}
use Rattle.job_machine.specs.Effects.{state_after_command, with_box, with_closed, with_ended, with_home, with_nodes, with_purpose, with_rule, with_split, with_taken, with_unboxed, with_used, without_last}
use Rattle.job_machine.specs.Machine.{Machine, first_machine, state_by}
use Rattle.job_machine.specs.Runs.{LacksMemory, LosesDevice, Replies, Run, StepsTo}
use Rattle.scaled_core.specs.Dimensions.{Within, fits}
use Rattle.page_core.specs.Marks.{is_huge, marks_of_box}
use Rattle.page_core.specs.Pages.{page_at}
use Rattle.box_items.specs.Shown.{HasGlyphsAcross, marks_of_rows}
use Rattle.box_items.proofs.ShownLaws.{page_shown}
use Rattle.job_core.specs.Jobs.{Represents}
use Rattle.boxglue_calls.specs.Items.{box_held, rows_held, texts_held}
use Rattle.boxglue_calls.specs.Jobs.{KeptState}
use Rattle.boxglue_calls.proofs.GlyphsAcross.{IsBoxAcross, IsBoxAcrossIfHeld, MayAllStandIn, MayStandIn, appended_stand, closed_across, front_across, joined_across, items_across, last_box_across, nodes_stand, rest_across, set_stands, shaped_stand, shortened_stands, text_stands}

-- An open list, if there is one, has glyphs only across.
abbrev pub IsListAcross : OpenList → Type 0
IsListAcross l = HasGlyphsAcross (kind_by l.purpose) l.list

abbrev pub IsListAcrossIfOpen : Option OpenList → Type 0
IsListAcrossIfOpen None = Unit {0}
IsListAcrossIfOpen (Some l) = IsListAcross l

-- So have all open lists of a state and all boxes in its registers.
pub record IsStateAcross (s : State) : Type 0 where
  pub lists : All IsListAcross s.nest
  pub registers : All IsBoxAcrossIfHeld s.registers

pub held_across : (registers : List (Option BoxNode)) (r : ℕ) → All IsBoxAcrossIfHeld registers → IsBoxAcrossIfHeld (held_in registers r)
held_across [] r all = tt
held_across (held ∷ registers) zero all = All-head IsBoxAcrossIfHeld held registers all
held_across (held ∷ registers) (suc r) all = held_across registers r (All-tail IsBoxAcrossIfHeld held registers all)

list_at_across : (nest : List OpenList) (i : ℕ) → All IsListAcross nest → IsListAcrossIfOpen (slice_get nest i)
list_at_across [] i all = tt
list_at_across (l ∷ nest) zero all = All-head IsListAcross l nest all
list_at_across (l ∷ nest) (suc i) all = list_at_across nest i (All-tail IsListAcross l nest all)

innermost_across : (nest : List OpenList) → All IsListAcross nest → IsListAcrossIfOpen (innermost nest)
innermost_across nest all = list_at_across nest (length nest - 1) all

outer_across : (nest : List OpenList) → All IsListAcross nest → All IsListAcross (outer nest)
outer_across nest all = All-take IsListAcross (length nest - 1) nest all

opened_across : (nest : List OpenList) (purpose : ListPurpose) → All IsListAcross nest → All IsListAcross (nest ++ opened_list purpose ∷ [])
opened_across nest purpose all =
    All-append IsListAcross nest (opened_list purpose ∷ []) all (All-cons IsListAcross (opened_list purpose) [] tt (All-nil IsListAcross))

-- The nodes of an open list may be in it.
open_nodes_stand : (l : Option OpenList) → IsListAcrossIfOpen l → MayAllStandIn (kind_in l) (nodes_of (items_in l))
open_nodes_stand None is = All-nil (MayStandIn Horizontal)
open_nodes_stand (Some l) is = nodes_stand (kind_by l.purpose) l.list is

-- What a command appends to the innermost list.
nodes_across : (nest : List OpenList) (more : List Node) (l : Option OpenList) → All IsListAcross nest → IsListAcrossIfOpen l
    → MayAllStandIn (kind_in l) more → All IsListAcross (with_nodes nest more l)
nodes_across nest more None all is new = all
nodes_across nest more (Some l) all is new = All-set IsListAcross nest (length nest - 1) _ (joined_across (kind_by l.purpose) l.list more is new) all

items_appended : (s : State) (more : List Node) → IsStateAcross s → MayAllStandIn (kind_in (innermost s.nest)) more
    → All IsListAcross (with_nodes s.nest more (innermost s.nest))
items_appended s more is new = nodes_across s.nest more (innermost s.nest) is.lists (innermost_across s.nest is.lists) new

one_appended : (s : State) (x : Node) → IsStateAcross s → MayStandIn (kind_in (innermost s.nest)) x
    → All IsListAcross (with_nodes s.nest (x ∷ []) (innermost s.nest))
one_appended s x is new =
    let kind = kind_in (innermost s.nest) in
    items_appended s (x ∷ []) is (All-cons (MayStandIn kind) x [] new (All-nil (MayStandIn kind)))

rule_across : (nest : List OpenList) (rule : rules.Rule) (l : Option OpenList) → All IsListAcross nest → IsListAcrossIfOpen l
    → All IsListAcross (with_rule nest rule l)
rule_across nest rule None all is = all
rule_across nest rule (Some l) all is =
    let kind = kind_by l.purpose in
    All-set IsListAcross nest (length nest - 1) _
    (joined_across kind l.list (nodes.Rule rule ∷ []) is (All-cons (MayStandIn kind) (nodes.Rule rule) [] tt (All-nil (MayStandIn kind)))) all

box_across : (params : Params) (nest : List OpenList) (shift : ℤ) (b : BoxNode) (l : Option OpenList) → All IsListAcross nest → IsListAcrossIfOpen l
    → IsBoxAcross b → All IsListAcross (with_box params nest shift b l)
box_across params nest shift b None all is new = all
box_across params nest shift b (Some l) all is new =
    All-set IsListAcross nest (length nest - 1) _
    (joined_across (kind_by l.purpose) l.list (box_items params l shift b) is
    (appended_stand (kind_by l.purpose) (glue_of (glue_in params l b.height)) shift b new)) all

last_across : (nest : List OpenList) (l : Option OpenList) → All IsListAcross nest → IsListAcrossIfOpen l → All IsListAcross (without_last nest l)
last_across nest None all is = all
last_across nest (Some l) all is =
    let kind = kind_by l.purpose in
    All-set IsListAcross nest (length nest - 1) _
    (items_across kind (without_last_box (last_box (nodes_of l.list)) (nodes_of l.list))
    (shortened_stands kind (nodes_of l.list) (last_box (nodes_of l.list)) (nodes_stand kind l.list is))) all

-- A register with another box, or without one.
taken_across : (taking : Transfer) (registers : List (Option BoxNode)) (r : ℕ) → All IsBoxAcrossIfHeld registers
    → All IsBoxAcrossIfHeld (with_taken taking registers r)
taken_across Move registers r all = All-set IsBoxAcrossIfHeld registers r None tt all
taken_across Copy registers r all = all

used_across : (s : State) (taking : Transfer) (r : ℕ) (shift : ℤ) (held : Option BoxNode) → IsStateAcross s → IsBoxAcrossIfHeld held
    → IsStateAcross (with_used s taking r shift held)
used_across s taking r shift None is held = is
used_across s taking r shift (Some b) is held = record {
  lists = box_across s.params s.nest shift b (innermost s.nest) is.lists (innermost_across s.nest is.lists) held;
  registers = taken_across taking s.registers r is.registers;
}

same_kind : (a b : Kind) → is_other a b ≡ false → a ≡ b
same_kind Horizontal Horizontal is = refl
same_kind Vertical Vertical is = refl
same_kind Horizontal Vertical is = cc
same_kind Vertical Horizontal is = cc

unboxed_across : (s : State) (taking : Transfer) (r : ℕ) (held : Option BoxNode) → IsStateAcross s → IsBoxAcrossIfHeld held
    → ((b : BoxNode) → held ≡ Some b → b.kind ≡ kind_in (innermost s.nest)) → IsStateAcross (with_unboxed s taking r held)
unboxed_across s taking r None is held same = is
unboxed_across s taking r (Some b) is held same = record {
  lists = items_appended s (nodes_of b.list) is
      (subst (λ (kind : Kind). MayAllStandIn kind (nodes_of b.list)) (same b refl) (nodes_stand b.kind b.list held));
  registers = taken_across taking s.registers r is.registers;
}

split_across : (params : SplitParams) (registers : List (Option BoxNode)) (splitting : Splitting) (held : Option BoxNode) → All IsBoxAcrossIfHeld registers
    → IsBoxAcrossIfHeld held → ((b : BoxNode) → held ≡ Some b → b.kind ≡ Vertical) → All IsBoxAcrossIfHeld (with_split params registers splitting held)
split_across params registers splitting None all is vertical = All-set IsBoxAcrossIfHeld registers splitting.into None tt all
split_across params registers splitting (Some b) all is vertical =
    let stand = subst (λ (kind : Kind). MayAllStandIn kind (nodes_of b.list)) (vertical b refl) (nodes_stand b.kind b.list is) in
    let rest = option_map (λ (p : packs.PackedBox). p.box_node) (rest_of params splitting.height (nodes_of b.list)) in
    All-set IsBoxAcrossIfHeld (slice_set registers splitting.register rest) splitting.into _ (front_across params splitting.height (nodes_of b.list) stand)
    (All-set IsBoxAcrossIfHeld registers splitting.register rest (rest_across params splitting.height (nodes_of b.list) stand) all)

-- The end of a list.
home_across : (s : State) (around : List OpenList) (into : Option ℕ) (b : BoxNode) → IsStateAcross s → All IsListAcross around → IsBoxAcross b
    → IsStateAcross (with_home s around into b)
home_across s around None b is lists new = record {
  lists = box_across s.params around (pos 0) b (innermost around) lists (innermost_across around lists) new;
  registers = is.registers;
}
home_across s around (Some r) b is lists new = record { lists = lists; registers = All-set IsBoxAcrossIfHeld s.registers r (Some b) new is.registers }

set_lines_across : (around : List OpenList) (l : Option OpenList) (result : Result SetParagraph ParagraphFault) → All IsListAcross around
    → IsListAcrossIfOpen l → ((kind : Kind) (set : SetParagraph) → result ≡ Ok set → MayAllStandIn kind (nodes_of set.items))
    → All IsListAcross (with_lines around l result)
set_lines_across around None result all is lines = all
set_lines_across around (Some l) (Err fault) all is lines = all
set_lines_across around (Some l) (Ok set) all is lines =
    All-set IsListAcross around (length around - 1) _
    (joined_across (kind_by l.purpose) l.list (nodes_of set.items) is (lines (kind_by l.purpose) set refl)) all

ended_across : (s : State) (l : Option OpenList) → IsStateAcross s → IsListAcrossIfOpen l → IsStateAcross (with_ended s l)
ended_across s None is list = is
ended_across s (Some l) is list = by_purpose l.purpose refl
  where
    around : List OpenList
    around = outer s.nest

    closed : (into : Option ℕ) (packed : Option packs.PackedBox) → packed_list s.params (Some l) ≡ packed → IsStateAcross (with_closed s into packed)
    closed into None packed = is
    closed into (Some q) packed =
        home_across s around into q.box_node is (outer_across s.nest is.lists) (closed_across l.purpose s.params l.list q packed list)

    by_purpose : (purpose : ListPurpose) → l.purpose ≡ purpose → IsStateAcross (with_purpose s l purpose)
    by_purpose (purposes.Box opening) same = closed opening.into (packed_list s.params (Some l)) refl
    by_purpose purposes.Paragraph same =
        let stand = nodes_stand Horizontal l.list (subst (λ (purpose : ListPurpose). HasGlyphsAcross (kind_by purpose) l.list) same list) in
        record {
          lists = set_lines_across around (innermost around) (set_after s.params around l.list) (outer_across s.nest is.lists)
              (innermost_across around (outer_across s.nest is.lists))
              (λ (kind : Kind) (set : SetParagraph) found. set_stands kind (nodes_of l.list) s.params (depth_in (innermost around)) set found stand);
          registers = is.registers;
        }

-- The items of characters.
text_in_stands : (font : Option LoadedFont) (slot : ℕ) (text : List ℕ) → MayAllStandIn Horizontal (text_items_in font slot text).items
text_in_stands None slot text = All-nil (MayStandIn Horizontal)
text_in_stands (Some loaded) slot text = text_stands slot (glyph_of loaded.font) (step_of loaded.font) (space_glue loaded.font.space) text

text_shaped_stands : (fonts : Slots) (current : Option ℕ) (text : List ℕ) → MayAllStandIn Horizontal (text_shaped fonts current text).items
text_shaped_stands fonts None text = All-nil (MayStandIn Horizontal)
text_shaped_stands fonts (Some slot) text = text_in_stands (font_in fonts slot) slot text

character_in_stands : (font : Option LoadedFont) (slot code : ℕ) → MayAllStandIn Horizontal (character_in font slot code).items
character_in_stands None slot code = All-nil (MayStandIn Horizontal)
character_in_stands (Some loaded) slot code = shaped_stand slot (glyph_of loaded.font) (step_of loaded.font) (code ∷ [])

character_shaped_stands : (fonts : Slots) (current : Option ℕ) (code : ℕ) → MayAllStandIn Horizontal (character_shaped fonts current code).items
character_shaped_stands fonts None code = All-nil (MayStandIn Horizontal)
character_shaped_stands fonts (Some slot) code = character_in_stands (font_in fonts slot) slot code

-- No condition of an accepted command holds.
second_fails : (a b : Bool) (p q : Refusal) (rest : List (Bool × Refusal)) → first_refusal ((a, p) ∷ (b, q) ∷ rest) ≡ None → b ≡ false
second_fails true b p q rest none = cc
second_fails false true p q rest none = cc
second_fails false false p q rest none = refl

third_fails : (a b c : Bool) (p q r : Refusal) (rest : List (Bool × Refusal)) → first_refusal ((a, p) ∷ (b, q) ∷ (c, r) ∷ rest) ≡ None → c ≡ false
third_fails true b c p q r rest none = cc
third_fails false b c p q r rest none = second_fails b c q r rest none

fourth_fails : (a b c d : Bool) (p q r t : Refusal) (rest : List (Bool × Refusal))
    → first_refusal ((a, p) ∷ (b, q) ∷ (c, r) ∷ (d, t) ∷ rest) ≡ None → d ≡ false
fourth_fails true b c d p q r t rest none = cc
fourth_fails false b c d p q r t rest none = third_fails b c d q r t rest none

is_horizontal : (kind : Kind) → is_vertical kind ≡ false → kind ≡ Horizontal
is_horizontal Horizontal is = refl
is_horizontal Vertical is = cc

-- Characters are accepted only in a horizontal list.
characters_kind : (s : State) (more : List (Bool × Refusal)) → first_refusal ((s.over, JobOver) ∷ (character_checks s ++ more)) ≡ None
    → is_vertical (kind_in (innermost s.nest)) ≡ false
characters_kind s more none =
    third_fails s.over (length s.nest == 0) (is_vertical (kind_in (innermost s.nest))) JobOver NoOpenList WrongMode
    ((is_none (current_font s.fonts s.current), NoFont) ∷ more) none

characters_across : (s : State) (more : List Node) → is_vertical (kind_in (innermost s.nest)) ≡ false → IsStateAcross s → MayAllStandIn Horizontal more
    → All IsListAcross (with_nodes s.nest more (innermost s.nest))
characters_across s more across is new =
    items_appended s more is (subst (λ (kind : Kind). MayAllStandIn kind more) (sym (is_horizontal (kind_in (innermost s.nest)) across)) new)

unboxed_kind : (s : State) (kind : Kind) (count : ℕ) (held : Option BoxNode) (b : BoxNode) (a c : Bool) (p q r : Refusal)
    → first_refusal ((a, p) ∷ (c, q) ∷ (is_other kind (kind_in (innermost s.nest)), r) ∷ items_checks kind count held) ≡ None
    → held ≡ Some b → b.kind ≡ kind_in (innermost s.nest)
unboxed_kind s kind count None b a c p q r none is = cc
unboxed_kind s kind count (Some x) b a c p q r none is =
    let other = kind_in (innermost s.nest) in
    let here : kind ≡ other = same_kind kind other (third_fails a c (is_other kind other) p q r (items_checks kind count (Some x)) none) in
    let there : kind ≡ x.kind = same_kind kind x.kind
    (fourth_fails a c (is_other kind other) (is_other kind x.kind) p q r WrongKind
    ((nat_lt MAX_ITEMS (count + length (nodes_of x.list)), ListTooLong) ∷ []) none) in
    let same : x ≡ b = cc in
    ap (λ (y : BoxNode). y.kind) (sym same) ∙ sym there ∙ here

split_kind : (params : SplitParams) (height : ℤ) (over : Bool) (job : Refusal) (held : Option BoxNode) (b : BoxNode)
    → first_refusal ((over, job) ∷ split_checks params height held) ≡ None → held ≡ Some b → b.kind ≡ Vertical
split_kind params height over job None b none is = cc
split_kind params height over job (Some x) b none is =
    let there : Vertical ≡ x.kind = same_kind Vertical x.kind
    (second_fails over (is_other Vertical x.kind) job WrongKind
    ((list_any shrinks_infinitely (nodes_of x.list), InfiniteShrink)
    ∷ (not (list_all fits (split_numbers params height (nodes_of x.list))), DimensionTooLarge) ∷ []) none) in
    let same : x ≡ b = cc in
    ap (λ (y : BoxNode). y.kind) (sym same) ∙ sym there

-- An accepted command.
command_across : (s : State) (command : Command) → first_refusal (checks s command) ≡ None → IsStateAcross s → IsStateAcross (state_after_command s command)
command_across s (LoadFont load) none is = record { lists = is.lists; registers = is.registers }
command_across s (UseFont slot) none is = record { lists = is.lists; registers = is.registers }
command_across s (Open opening) none is = record { lists = opened_across s.nest (purposes.Box opening) is.lists; registers = is.registers }
command_across s Paragraph none is = record { lists = opened_across s.nest purposes.Paragraph is.lists; registers = is.registers }
command_across s End none is = ended_across s (innermost s.nest) is (innermost_across s.nest is.lists)
command_across s (Text text) none is = record {
  lists = characters_across s (text_shaped s.fonts s.current text).items
      (characters_kind s (length_checks s (text_shaped s.fonts s.current text).items) none) is (text_shaped_stands s.fonts s.current text);
  registers = is.registers;
}
command_across s (Character code) none is = record {
  lists = characters_across s (character_shaped s.fonts s.current code).items
      (characters_kind s (length_checks s (character_shaped s.fonts s.current code).items) none) is
      (character_shaped_stands s.fonts s.current code);
  registers = is.registers;
}
command_across s (Rule rule) none is =
    record { lists = rule_across s.nest rule (innermost s.nest) is.lists (innermost_across s.nest is.lists); registers = is.registers }
command_across s (Kern width) none is = record { lists = one_appended s (nodes.Kern width) is tt; registers = is.registers }
command_across s (Glue glue) none is = record { lists = one_appended s (nodes.Glue glue) is tt; registers = is.registers }
command_across s (Penalty n) none is = record { lists = one_appended s (nodes.Penalty n) is tt; registers = is.registers }
command_across s (Append taken) none is =
    used_across s taken.taking taken.register taken.shift (held_in s.registers taken.register) is (held_across s.registers taken.register is.registers)
command_across s (Unbox taken) none is =
    let held = held_in s.registers taken.register in
    unboxed_across s taken.taking taken.register held is (held_across s.registers taken.register is.registers)
    (λ (b : BoxNode) found.
    unboxed_kind s taken.kind (length (nodes_of (items_in (innermost s.nest)))) held b s.over (length s.nest == 0) JobOver NoOpenList WrongMode none found)
command_across s (LastBox r) none is =
    let list = innermost s.nest in
    let standing = innermost_across s.nest is.lists in
    record {
      lists = last_across s.nest list is.lists standing;
      registers = All-set IsBoxAcrossIfHeld s.registers r (last_box (nodes_of (items_in list)))
          (last_box_across (kind_in list) (nodes_of (items_in list)) (open_nodes_stand list standing)) is.registers;
    }
command_across s (Split splitting) none is =
    let held = held_in s.registers splitting.register in
    record {
      lists = is.lists;
      registers = split_across s.params.split s.registers splitting held is.registers (held_across s.registers splitting.register is.registers)
          (λ (b : BoxNode) found. split_kind s.params.split splitting.height s.over JobOver held b none found);
    }
command_across s (Measure r) none is = is
command_across s (Void r) none is = record { lists = is.lists; registers = All-set IsBoxAcrossIfHeld s.registers r None tt is.registers }
command_across s (Set parameter) none is = record { lists = is.lists; registers = is.registers }
command_across s (Count counting) none is = record { lists = is.lists; registers = is.registers }
command_across s (Special text) none is = record { lists = one_appended s (nodes.Special text) is tt; registers = is.registers }
command_across s (Ship r) none is = record { lists = is.lists; registers = All-set IsBoxAcrossIfHeld s.registers r None tt is.registers }

-- Any step, and any run.
reply_across : (s : State) (command : Command) (refused : Option Refusal) → first_refusal (checks s command) ≡ refused → IsStateAcross s
    → IsStateAcross (state_by refused s (state_after_command s command))
reply_across s command None found is = command_across s command found is
reply_across s command (Some refusal) found is = is

IsMachineAcross : Machine → Type 0
IsMachineAcross m = IsStateAcross m.state

step_across : (m : Machine) (n : ℕ) (command : Command) (reply : Reply) (next : Machine) (k : ℕ) → StepsTo m n command reply next k → IsMachineAcross m
    → IsMachineAcross next
unfolding IsMachineAcross
step_across m n command reply next k (Replies says goes counts) is =
    subst IsMachineAcross (sym goes) (reply_across m.state command (first_refusal (checks m.state command)) refl is)
step_across m n command reply next k (LacksMemory says takes may goes counts) is = subst IsMachineAcross (sym goes) is
step_across m n command reply next k (LosesDevice says ships may goes counts) is =
    subst IsMachineAcross (sym goes) (record { lists = is.lists; registers = is.registers })

run_across : (m : Machine) (n : ℕ) (commands : List Command) (replies : List Reply) (next : Machine) (k : ℕ) → Run m n commands replies next k
    → IsMachineAcross m → IsMachineAcross next
run_across m n [] [] next k run is = subst IsMachineAcross (sym run.0) is
run_across m n [] (reply ∷ replies) next k run is = absurd run
run_across m n (command ∷ commands) [] next k run is = absurd run
run_across m n (command ∷ commands) (reply ∷ replies) next k run is =
    run_across run.0 run.1 commands replies next k run.3 (step_across m n command reply run.0 run.1 run.2 is)

first_across : (files : List NamedBytes) → IsMachineAcross (first_machine files)
unfolding IsMachineAcross
first_across files = record { lists = All-nil IsListAcross; registers = All-replicate IsBoxAcrossIfHeld REGISTERS None tt }

-- The box of a register after any run of a new job.
pub box_of_run_across : (files : List NamedBytes) (n k : ℕ) (commands : List Command) (replies : List Reply) (m : Machine) (r : ℕ) (b : BoxNode)
    → Run (first_machine files) n commands replies m k → held_in m.state.registers r ≡ Some b → HasGlyphsAcross b.kind b.list
unfolding IsMachineAcross
box_of_run_across files n k commands replies m r b run found =
    let is : IsStateAcross m.state = run_across (first_machine files) n commands replies m k run (first_across files) in
    subst IsBoxAcrossIfHeld found (held_across m.state.registers r is.registers)

-- The items of such a box, as `items` hands them over.
pub items_shown : (files : List NamedBytes) (n k : ℕ) (commands : List Command) (replies : List Reply) (m : Machine) (kept : KeptState) (register : ℕ)
    (b : BoxNode) (counts : List ℤ) (h v : ℤ) → Run (first_machine files) n commands replies m k → Represents kept.job m → box_held kept register ≡ Some b
    → Within (2 ^ 64) h → Within (2 ^ 64) v → is_huge (page_at counts h v b) ≡ false
    → marks_of_rows h v (texts_held (box_held kept register)) (rows_held (box_held kept register)) ≡ marks_of_box b h v
items_shown files n k commands replies m kept register b counts h v run represents found near_h near_v small =
    let held : held_in m.state.registers register ≡ Some b = ap (λ (s : State). held_in s.registers register) (sym represents.state) ∙ found in
    let across = box_of_run_across files n k commands replies m register b run held in
    subst (λ (o : Option BoxNode). marks_of_rows h v (texts_held o) (rows_held o) ≡ marks_of_box b h v) (sym found)
    (page_shown b counts h v near_h near_v across small)
