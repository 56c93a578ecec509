-- The fonts of the slots are what the font files of the job give.
use Rattle.std.proofs.Common.{◌≡◌, ℕ, ℤ, ◌<◌, List, replicate, Bool, true, false, cond, Option, Some, None, Result, Ok, Err, refl, sym, ◌∙◌, ap, subst, arith}
use Rattle.std.specs.Prelude.{IfOk, IfSome}
use Rattle.std.proofs.Math.ListN.{length-set}
use Rattle.std.proofs.lemmas.List.{length-replicate}
use Rattle.tfm_core.specs.declared.fault.TfmCause.{TfmCause}
use Rattle.scaled_core.specs.declared.sizes.Sizes.{Sizes}
use Rattle.tfm_core.specs.NamedBytes.{NamedBytes, IsFontName, file_named}
use Rattle.tfm_core.specs.MetricFile.{MetricFile}
use Rattle.tfm_core.specs.Rules.{metric_file}
use Rattle.tfm_core.specs.Fonts.{SizedFont, HasNumbers, chosen_size, fits_at, font_at, glyph_of}
use Rattle.tfm_core.specs.FileWidths.{file_widths, widths_of_file, widths_by, width_at}
use Rattle.tfm_core.proofs.ByteLemmas.{byte-glyph_of}
use Rattle.tfm_core.specs.declared.slots.LoadedFont.{LoadedFont}
use Rattle.job_machine.specs.declared.command.Command.{Command}
use Rattle.job_machine.specs.declared.command.Command.TheVariants.{LoadFont, UseFont, Open, Paragraph, End, Text, Character, Rule, Kern, Glue, Penalty, Append, Unbox, LastBox, Split, Measure, Void, Set, Count, Special, Ship}
use Rattle.job_machine.specs.declared.replies.Refusal.{Refusal}
use Rattle.job_machine.specs.declared.replies.Refusal.TheVariants.{DimensionTooLarge}
use Rattle.tfm_core.specs.Slots.{Slots, font_in}
use Rattle.job_machine.specs.FontSlots.{sized_font, font_of_slot, with_font}
use Rattle.job_machine.proofs.KeptRest.{KeepsRest, end_keeps, append_keeps, unbox_keeps}
use Rattle.job_state.specs.Loaded.{GivesNumbersFor}
use Rattle.job_state.specs.Private.Loaded.{IsLoaded, AreLoaded}
use Rattle.job_machine.specs.State.{State, font_for}
use Rattle.job_machine.specs.Checks.{checks, first_refusal}
use Rattle.job_machine.specs.Effects.{state_after_command}
use Rattle.scaled_core.proofs.EachOf.{each_set, each_copy, each_held, held_within}

-- A metric file whose sizes fit gives the font of these sizes.
given_by : (b : Bool) (font other : SizedFont) → cond b (Ok font) (Err DimensionTooLarge) ≡ Ok other → (b ≡ true) × (font ≡ other)
given_by true font other is = (refl, cc)
given_by false font other is = cc

-- A font that was read is read again at its own size.
same_read : (read : Result MetricFile TfmCause) (size : Option ℤ) (font : SizedFont) → sized_font read size ≡ Ok font → sized_font read (Some font.size) ≡ Ok font
unfolding font_at
same_read (Err cause) size font is = cc
same_read (Ok file) size font is =
    let given = given_by (fits_at file (chosen_size file size)) (font_at file (chosen_size file size)) font is in
    let again : sized_font (Ok file) (Some (chosen_size file size)) ≡ Ok (font_at file (chosen_size file size)) = rw given.0 refl in
    subst (λ (f : SizedFont). sized_font (Ok file) (Some f.size) ≡ Ok f) given.1 again

pub read_again : (file : Option NamedBytes) (size : Option ℤ) (font : SizedFont) → font_of_slot file size ≡ Ok font → font_of_slot file (Some font.size) ≡ Ok font
read_again None size font is = cc
read_again (Some file) size font is = same_read (metric_file file.bytes) size font is

-- No font is loaded at first.
pub loaded_first : (files : List NamedBytes) → AreLoaded files (replicate 256 None)
loaded_first files = record { slots = length-replicate {A = Option LoadedFont} 256 None; each = each_copy (λ slot. IfSome slot (IsLoaded files)) 256 None tt }

with_font_loaded : (files : List NamedBytes) (fonts : Slots) (slot : ℕ) (name : List ℕ) (size : Option ℤ) (read : Result SizedFont Refusal)
    → font_of_slot (file_named name files) size ≡ read → IsFontName name → IfOk read HasNumbers → AreLoaded files fonts → AreLoaded files (with_font fonts slot name read)
with_font_loaded files fonts slot name size (Err refusal) is named numbers loaded = loaded
with_font_loaded files fonts slot name size (Ok font) is named numbers loaded =
    record {
      slots = length-set fonts slot _ ∙ loaded.slots;
      each = each_set (λ held. IfSome held (IsLoaded files)) fonts slot _ loaded.each
          (record { read = read_again (file_named name files) size font is; name = named; numbers = numbers });
    }

still_loaded : (s t : State) → KeepsRest s t → AreLoaded s.files s.fonts → AreLoaded t.files t.fonts
still_loaded s t keeps loaded =
    subst (λ (files : List NamedBytes). AreLoaded files t.fonts) (sym keeps.files) (subst (λ (fonts : Slots). AreLoaded s.files fonts) (sym keeps.fonts) loaded)

-- After a command that is accepted the fonts of the slots are still what the font files give.
pub loaded_after : (s : State) (command : Command) → first_refusal (checks s command) ≡ None → GivesNumbersFor s command → AreLoaded s.files s.fonts
    → AreLoaded (state_after_command s command).files (state_after_command s command).fonts
loaded_after s (LoadFont load) may gives loaded = with_font_loaded s.files s.fonts load.slot load.name load.size (font_for s load) refl gives.0 gives.1 loaded
loaded_after s (UseFont slot) may gives loaded = loaded
loaded_after s (Open opening) may gives loaded = loaded
loaded_after s Paragraph may gives loaded = loaded
loaded_after s End may gives loaded = still_loaded s (state_after_command s End) (end_keeps s) loaded
loaded_after s (Text text) may gives loaded = loaded
loaded_after s (Character code) may gives loaded = loaded
loaded_after s (Rule rule) may gives loaded = loaded
loaded_after s (Kern width) may gives loaded = loaded
loaded_after s (Glue glue) may gives loaded = loaded
loaded_after s (Penalty n) may gives loaded = loaded
loaded_after s (Append taken) may gives loaded = still_loaded s (state_after_command s (Append taken)) (append_keeps s taken) loaded
loaded_after s (Unbox taken) may gives loaded = still_loaded s (state_after_command s (Unbox taken)) (unbox_keeps s taken) loaded
loaded_after s (LastBox r) may gives loaded = loaded
loaded_after s (Split splitting) may gives loaded = loaded
loaded_after s (Measure r) may gives loaded = loaded
loaded_after s (Void r) may gives loaded = loaded
loaded_after s (Set parameter) may gives loaded = loaded
loaded_after s (Count counting) may gives loaded = loaded
loaded_after s (Special text) may gives loaded = loaded
loaded_after s (Ship r) may gives loaded = loaded

-- A font in a slot is one of them, and its slot is below 256.
pub loaded_in : (files : List NamedBytes) (fonts : Slots) (slot : ℕ) (loaded : LoadedFont) → AreLoaded files fonts → font_in fonts slot ≡ Some loaded
    → IsLoaded files loaded × (slot < 256)
loaded_in files fonts slot loaded all is =
    (each_held (λ held. IfSome held (IsLoaded files)) fonts slot loaded all.each is, omega (arith, held_within fonts slot loaded is, all.slots))

-- The widths of a loaded font are those that the files give for its name and size.
widths_given : (b : Bool) (font other : SizedFont) → cond b (Ok font) (Err DimensionTooLarge) ≡ Ok other → cond b (Some (width_at font)) None ≡ Some (width_at other)
widths_given true font other is = ap (λ f. Some (width_at f)) (given_by true font other is).1
widths_given false font other is = cc

widths_read : (read : Result MetricFile TfmCause) (size : ℤ) (font : SizedFont) → sized_font read (Some size) ≡ Ok font → widths_by read size ≡ Some (width_at font)
widths_read (Err cause) size font is = cc
widths_read (Ok file) size font is = widths_given (fits_at file size) (font_at file size) font is

pub widths_in : (file : Option NamedBytes) (size : ℤ) (font : SizedFont) → font_of_slot file (Some size) ≡ Ok font → widths_of_file file size ≡ Some (width_at font)
widths_in None size font is = cc
widths_in (Some file) size font is = widths_read (metric_file file.bytes) size font is

pub widths-loaded : (files : List NamedBytes) (loaded : LoadedFont) → IsLoaded files loaded → file_widths files loaded.name loaded.font.size ≡ Some (width_at loaded.font)
widths-loaded files loaded is = widths_in (file_named loaded.name files) loaded.font.size loaded.font is.read

-- The codes of the characters of a loaded font are bytes.
code_read : (bytes : List ℕ) (read : Result MetricFile TfmCause) (size : Option ℤ) (font : SizedFont) (code : ℕ) (glyph : Sizes)
    → metric_file bytes ≡ read
    → sized_font read size ≡ Ok font → glyph_of font code ≡ Some glyph → code < 256
code_read bytes (Err cause) size font code glyph at is found = cc
code_read bytes (Ok file) size font code glyph at is found =
    let given = given_by (fits_at file (chosen_size file size)) (font_at file (chosen_size file size)) font is in
    byte-glyph_of bytes file (chosen_size file size) code glyph at (ap (λ f. glyph_of f code) given.1 ∙ found)

code_in : (file : Option NamedBytes) (size : Option ℤ) (font : SizedFont) (code : ℕ) (glyph : Sizes) → font_of_slot file size ≡ Ok font
    → glyph_of font code ≡ Some glyph → code < 256
code_in None size font code glyph is found = cc
code_in (Some file) size font code glyph is found = code_read file.bytes (metric_file file.bytes) size font code glyph refl is found

pub code_small : (files : List NamedBytes) (loaded : LoadedFont) (code : ℕ) (size : Sizes) → IsLoaded files loaded
    → glyph_of loaded.font code ≡ Some size
    → code < 256
code_small files loaded code size is found = code_in (file_named loaded.name files) (Some loaded.font.size) loaded.font code size is.read found
