-- The glyphs of the pages of each machine that a run reaches have the widths that its font files give.
use Rattle.std.proofs.Common.{◌≡◌, ℕ, List, [], ◌∷◌, ◌++◌, Option, Some, None, Result, Ok, Err, refl, ap, sym, subst}
use Rattle.std.specs.Prelude.{IfSome}
use Rattle.std.specs.Option.{option_map}
use Rattle.std.specs.List.{AllByRecursion}
use Rattle.tfm_core.specs.NamedBytes.{NamedBytes, file_named}
use Rattle.tfm_core.specs.Fonts.{SizedFont}
use Rattle.tfm_core.specs.FileWidths.{width_at}
use Rattle.scaled_core.specs.declared.sizes.Sizes.{Sizes}
use Rattle.node_core.specs.declared.tree.Glyph as glyph_type
use Rattle.node_core.specs.declared.tree.BoxNode.{BoxNode}
use Rattle.node_core.specs.Items.{Leaf, glyph, font_kern, kern, glue, penalty, rule, special}
use Rattle.scaled_core.proofs.EachOf.{all_append, all_weaker, each_set, each_copy, each_held}
use Rattle.tfm_core.specs.declared.slots.LoadedFont.{LoadedFont}
use Rattle.job_machine.specs.declared.command.Command.{Command}
use Rattle.job_machine.specs.declared.command.Command.TheVariants.{LoadFont, UseFont, Open, Paragraph, End, Text, Character, Rule, Kern, Glue, Penalty, Append, Unbox, LastBox, Split, Measure, Void, Set, Count, Special, Ship}
use Rattle.job_machine.specs.declared.replies.Refusal.{Refusal}
use Rattle.job_machine.specs.Reply.{Reply}
use Rattle.tfm_core.specs.Slots.{Slots, font_in}
use Rattle.job_machine.specs.FontSlots.{font_of_slot, with_font}
use Rattle.job_machine.specs.Private.FontSlots.{glyph_by}
use Rattle.job_state.specs.Private.Sized.{IsSizedLeaf, IsSoundBox, HasSizedGlyphs}
use Rattle.node_core.proofs.Leaves.{each_leaf}
use Rattle.job_machine.proofs.KeptRest.{KeepsRest, end_keeps, append_keeps, unbox_keeps}
use Rattle.page_core.specs.Marks.{ShippedPage}
use Rattle.job_machine.specs.State.{State, font_for, held_in}
use Rattle.job_machine.specs.Checks.{checks, first_refusal}
use Rattle.job_machine.specs.NextPages.{shipped_pages}
use Rattle.job_machine.specs.Effects.{state_after_command, new_pages}
use Rattle.job_machine.specs.Machine.{Machine, first_machine, state_by}
use Rattle.job_machine.specs.Runs.{StepsTo, Replies, LacksMemory, LosesDevice, Run}
use Rattle.job_core.specs.GlyphWidths.{HasFileWidth, IsMeasured, IsMeasuredPage}
use Rattle.job_state.proofs.SizedGlyphs.{sized_first, sized_after, sized_held, stays_sized}
use Rattle.job_state.proofs.LoadedFonts.{read_again, widths_in}

-- A font is what the first file of its name gives at its size.
abbrev IsRead : List NamedBytes → LoadedFont → Type 0
IsRead files loaded = font_of_slot (file_named loaded.name files) (Some loaded.font.size) ≡ Ok loaded.font

abbrev AreRead : State → Type 0
AreRead s = AllByRecursion (λ slot. IfSome slot (IsRead s.files)) s.fonts

-- What is known of a machine: its fonts, and the glyphs of its lists, its registers and its pages.
record IsKnown (m : Machine) : Type 0 where
  read : AreRead m.state
  sized : HasSizedGlyphs m.state
  pages : AllByRecursion (λ page. IsSoundBox m.state.fonts page.box_node) m.pages

read_with : (files : List NamedBytes) (fonts : Slots) (slot : ℕ) (name : List ℕ) (size : Option _) (read : Result SizedFont Refusal) → font_of_slot (file_named name files) size ≡ read
    → AllByRecursion (λ slot. IfSome slot (IsRead files)) fonts → AllByRecursion (λ slot. IfSome slot (IsRead files)) (with_font fonts slot name read)
read_with files fonts slot name size (Err refusal) is all = all
read_with files fonts slot name size (Ok font) is all =
    each_set (λ slot. IfSome slot (IsRead files)) fonts slot (Some (record { name = name; font = font })) all (read_again (file_named name files) size font is)

still_read : (s t : State) → KeepsRest s t → AreRead s → AreRead t
still_read s t keeps all =
    subst (λ (files : List NamedBytes). AllByRecursion (λ slot. IfSome slot (IsRead files)) t.fonts) (sym keeps.files)
    (subst (λ (fonts : Slots). AllByRecursion (λ slot. IfSome slot (IsRead s.files)) fonts) (sym keeps.fonts) all)

read_after : (s : State) (command : Command) → AreRead s → AreRead (state_after_command s command)
read_after s (LoadFont load) all = read_with s.files s.fonts load.slot load.name load.size (font_for s load) refl all
read_after s (UseFont slot) all = all
read_after s (Open opening) all = all
read_after s Paragraph all = all
read_after s End all = still_read s (state_after_command s End) (end_keeps s) all
read_after s (Text text) all = all
read_after s (Character code) all = all
read_after s (Rule sizes) all = all
read_after s (Kern width) all = all
read_after s (Glue g) all = all
read_after s (Penalty n) all = all
read_after s (Append taken) all = still_read s (state_after_command s (Append taken)) (append_keeps s taken) all
read_after s (Unbox taken) all = still_read s (state_after_command s (Unbox taken)) (unbox_keeps s taken) all
read_after s (LastBox r) all = all
read_after s (Split splitting) all = all
read_after s (Measure r) all = all
read_after s (Void r) all = all
read_after s (Set parameter) all = all
read_after s (Count counting) all = all
read_after s (Special text) all = all
read_after s (Ship r) all = all

abbrev IsSizedPage : Slots → ShippedPage → Type 0
IsSizedPage fonts page = IsSoundBox fonts page.box_node

sized_page : (s : State) (r : ℕ) (held : Option BoxNode) → held_in s.registers r ≡ held → HasSizedGlyphs s → AllByRecursion (IsSizedPage s.fonts) (shipped_pages s held)
sized_page s r None is sized = tt
sized_page s r (Some b) is sized = (sized_held s r b sized is, tt)

new_sized : (s : State) (command : Command) → HasSizedGlyphs s → AllByRecursion (IsSizedPage s.fonts) (new_pages s command)
new_sized s (LoadFont load) sized = tt
new_sized s (UseFont slot) sized = tt
new_sized s (Open opening) sized = tt
new_sized s Paragraph sized = tt
new_sized s End sized = tt
new_sized s (Text text) sized = tt
new_sized s (Character code) sized = tt
new_sized s (Rule sizes) sized = tt
new_sized s (Kern width) sized = tt
new_sized s (Glue g) sized = tt
new_sized s (Penalty n) sized = tt
new_sized s (Append taken) sized = tt
new_sized s (Unbox taken) sized = tt
new_sized s (LastBox r) sized = tt
new_sized s (Split splitting) sized = tt
new_sized s (Measure r) sized = tt
new_sized s (Void r) sized = tt
new_sized s (Set parameter) sized = tt
new_sized s (Count counting) sized = tt
new_sized s (Special text) sized = tt
new_sized s (Ship r) sized = sized_page s r (held_in s.registers r) refl sized

known_step : (m : Machine) (command : Command) (refused : Option Refusal) → first_refusal (checks m.state command) ≡ refused → IsKnown m
    → IsKnown (record { state = state_by refused m.state (state_after_command m.state command); pages = state_by refused m.pages (m.pages ++ new_pages m.state command); flight = m.flight })
known_step m command (Some refusal) is known = record { read = known.read; sized = known.sized; pages = known.pages }
known_step m command None is known =
    record {
      read = read_after m.state command known.read;
      sized = sized_after m.state command is known.sized;
      pages =
          all_weaker (IsSizedPage m.state.fonts) (IsSizedPage (state_after_command m.state command).fonts) (m.pages ++ new_pages m.state command)
          (λ page sized. stays_sized m.state command is page.box_node sized)
          (all_append (IsSizedPage m.state.fonts) m.pages (new_pages m.state command) known.pages (new_sized m.state command known.sized));
    }

known_next : (m : Machine) (n : ℕ) (command : Command) (reply : Reply) (next : Machine) (k : ℕ) → StepsTo m n command reply next k → IsKnown m → IsKnown next
known_next m n command reply next k (Replies says goes counts) known = subst IsKnown (sym goes) (known_step m command (first_refusal (checks m.state command)) refl known)
known_next m n command reply next k (LacksMemory says takes may goes counts) known = subst IsKnown (sym goes) known
known_next m n command reply next k (LosesDevice says ships may goes counts) known =
    subst IsKnown (sym goes) (record { read = known.read; sized = record { nest = known.sized.nest; registers = known.sized.registers }; pages = known.pages })

known_run : (m : Machine) (n : ℕ) (commands : List Command) (replies : List Reply) (next : Machine) (k : ℕ) → Run m n commands replies next k → IsKnown m → IsKnown next
known_run m n [] [] next k run known = subst IsKnown (sym run.0) known
known_run m n [] (reply ∷ replies) next k run known = absurd run
known_run m n (command ∷ commands) [] next k run known = absurd run
known_run m n (command ∷ commands) (reply ∷ replies) next k run known =
    known_run run.0 run.1 commands replies next k run.3 (known_next m n command reply run.0 run.1 run.2 known)

read_in : (s : State) (slot : ℕ) (loaded : LoadedFont) → AreRead s → font_in s.fonts slot ≡ Some loaded → IsRead s.files loaded
read_in s slot loaded all is = each_held (λ held. IfSome held (IsRead s.files)) s.fonts slot loaded all is

measured_glyph : (s : State) (g : glyph_type.Glyph) (x : Option LoadedFont) → AreRead s → font_in s.fonts g.slot ≡ x
    → glyph_by x g.code ≡ Some (record { width = g.width; height = g.height; depth = g.depth }) → HasFileWidth s g
measured_glyph s g None all is sized = cc
measured_glyph s g (Some loaded) all is sized =
    record {
      loaded = loaded;
      slot = is;
      widths = width_at loaded.font;
      given = widths_in (file_named loaded.name s.files) loaded.font.size loaded.font (read_in s g.slot loaded all is);
      width = ap (option_map (λ (size : Sizes). size.width)) sized;
    }

measured : (s : State) → AreRead s → (x : Leaf) → IsSizedLeaf s.fonts x → IsMeasured s x
measured s all (glyph g) sized = measured_glyph s g (font_in s.fonts g.slot) all refl sized
measured s all (font_kern width) sized = tt
measured s all (kern width) sized = tt
measured s all (glue g) sized = tt
measured s all (penalty p) sized = tt
measured s all (rule sizes) sized = tt
measured s all (special text) sized = tt

pub measured_pages : (files : List NamedBytes) (n : ℕ) (commands : List Command) (replies : List Reply) (m : Machine) (k : ℕ) → Run (first_machine files) n commands replies m k
    → AllByRecursion (IsMeasuredPage m.state) m.pages
measured_pages files n commands replies m k run =
    let first : IsKnown (first_machine files) = record { read = each_copy (λ slot. IfSome slot (IsRead files)) 256 None tt; sized = sized_first files; pages = tt } in
    let known = known_run (first_machine files) n commands replies m k run first in
    all_weaker (IsSizedPage m.state.fonts) (IsMeasuredPage m.state) m.pages
    (λ page sized. each_leaf (IsSizedLeaf m.state.fonts) (IsMeasured m.state) (measured m.state known.read) page.box_node.list sized.glyphs) known.pages
