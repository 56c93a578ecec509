-- The font that a number selects.
use Rattle.std.proofs.Common.{◌≡◌, ◌++◌, ◌||◌, [], ◌∷◌, List, length, ℕ, zero, suc, ℤ, Bool, true, false, Option, Some, None, refl, sym, ◌∙◌, ap, subst, subst₂, inl, inr, length-append, arith}
use Rattle.std.specs.Prelude.{◌⊎◌, IsSome, cond, slice_get}
use Rattle.std.proofs.Math.Seq.{get_or-append_seam}
use Rattle.std.proofs.lemmas.Option.{slice_get_read}
use Rattle.std.specs.BTreeMap.{Updates, is_at}
use Rattle.std.specs.Map.{lookup}
use Rattle.std.specs.List.{AllByRecursion}
use Rattle.std.specs.Ordering.{int_cmp, int_eq}
use Rattle.std.proofs.lemmas.Bool.Decides.{Decides-int_eq}
use Rattle.dvi_ops.specs.Fonts.{WidthsByName, first_definition_of, font, widths_in}
use Rattle.dvi_ops.specs.Instruction.{Definition}
use Rattle.dvi_scan.specs.Reached.{has_number}
use Rattle.dvi_scan.proofs.FontLemmas.{defined_more, has_definition, some_definition}
use Rattle.dvi_read.specs.Private.Faults.{of_read}
use Rattle.dvi_read.specs.ReadFonts.{AreSound, AreUnchanged, HasWidthsAt, HaveByteCodes, FontIsRead, read_font_at, font_index}
use Rattle.dvi_read.specs.Private.ReadFonts.{IsIndexOfSame}
use Rattle.dvi_read.specs.declared.fonts.ReadFonts.{ReadFonts}
use Rattle.dvi_read.specs.Steps.{IsSelectFault, Selects}
use Rattle.dvi_read.specs.declared.fault.StepFault.TheVariants.{Pass, Font}
use Rattle.dvi_scan.specs.declared.executing.PassFault.TheVariants.{OutOfMemory}
use Rattle.dvi_scan.specs.Widths.{HasBytes, IsFontRefusal, MayAllocate}
use Rattle.dvi_scan.specs.declared.widths.FontRefusal.{FontRefusal}
use Rattle.dvi_scan.specs.declared.widths.FontRefusal.TheVariants as refusals
use Rattle.tfm_core.specs.FileWidths.{file_widths, width_at, widths_by}
use Rattle.tfm_core.specs.FontReads.{IsReadRefusal}
use Rattle.tfm_core.specs.Fonts.{SizedFont}
use Rattle.tfm_core.specs.NamedBytes.{NamedBytes, file_named}
use Rattle.tfm_core.specs.Rules.{metric_file}
use Rattle.tfm_core.specs.declared.reading.FontReadFault.{FontReadFault}
use Rattle.tfm_core.specs.declared.reading.FontReadFault.TheVariants as reads

-- The value of an option that is not None.
pub some_is : {X : Type 0} (o : Option X) → IsSome o → (x : X) × (o ≡ Some x)
some_is None some = absurd cc
some_is (Some x) some = (x, refl)

pub is_some : {X : Type 0} (o : Option X) (x : X) → o ≡ Some x → IsSome o
is_some o x e = rw e refl

-- An item of a list with one more item at its end.
item_before : {X : Type 0} (xs : List X) (x y : X) (k : ℕ) → slice_get xs k ≡ Some y → slice_get (xs ++ x ∷ []) k ≡ Some y
item_before [] x y k e = absurd cc
item_before (z ∷ xs) x y zero e = e
item_before (z ∷ xs) x y (suc k) e = item_before xs x y k e

item_last : {X : Type 0} (xs : List X) (x : X) → slice_get (xs ++ x ∷ []) (length xs) ≡ Some x
item_last xs x =
    slice_get_read (xs ++ x ∷ []) (length (xs ++ x ∷ [])) (length xs) x refl (let size = length-append xs (x ∷ []) in omega (arith, size)) (sym (get_or-append_seam xs x [] x))

item_back : {X : Type 0} (xs : List X) (x y : X) (k : ℕ) → slice_get (xs ++ x ∷ []) k ≡ Some y → (slice_get xs k ≡ Some y) ⊎ (x ≡ y)
item_back [] x y zero e = inr cc
item_back [] x y (suc k) e = absurd cc
item_back (z ∷ xs) x y zero e = inl e
item_back (z ∷ xs) x y (suc k) e = item_back xs x y k e

-- The font was read before.
pub selects_read : (metrics : WidthsByName) (after_post : List ℤ) (known : List Definition) (f : ℤ) (index : ℕ) (fonts new : ReadFonts)
    → AreSound metrics known fonts → has_number after_post f ≡ true
    → font_index f fonts ≡ Some index → new ≡ record fonts { current = index } → Selects metrics after_post known f fonts new
selects_read metrics after_post known f index fonts new sound named there is =
    let (read, e, widths) = sound.widths f index there in
    let chosen : Selects metrics after_post known f fonts (record fonts { current = index }) = record {
      named = named;
      widths = is_some (font metrics known f) (width_at read) widths;
      current = there;
      sound = record { widths = sound.widths; codes = sound.codes };
      kept = λ g some. some;
    } in
    subst (λ (now : ReadFonts). Selects metrics after_post known f fonts now) (sym is) chosen

-- A number has the index that was set for it, and each other number has its old index.
by_number : (P : ℤ → ℕ → Type 0) (b : Bool) (f g : ℤ) (mine index : ℕ) (rest : Option ℕ) → int_eq f g ≡ b → P f mine → (rest ≡ Some index → P g index) → cond b (Some mine) rest ≡ Some index
    → P g index
by_number P true f g mine index rest same here later e = let one : mine ≡ index = cc in subst₂ P ((Decides-int_eq f g).0 same) one here
by_number P false f g mine index rest same here later e = later e

number_kept : (b : Bool) (mine : ℕ) (rest : Option ℕ) → IsSome rest → IsSome (cond b (Some mine) rest)
number_kept true mine rest some = refl
number_kept false mine rest some = some

-- A number gets the index of a font that has its widths, and the fonts that were there stay.
module _ (metrics : WidthsByName) (after_post : List ℤ) (known : List Definition) (f : ℤ) (old new : ReadFonts) (mine : ℕ) (read : SizedFont)
    (sound : AreSound metrics known old) (updates : Updates int_cmp old.indices new.indices f (Some mine))
    (stays : (index : ℕ) (other : SizedFont) → read_font_at old index ≡ Some other → read_font_at new index ≡ Some other) where
  before_it : (g : ℤ) (index : ℕ) → font_index g old ≡ Some index → HasWidthsAt metrics known new g index
  before_it g index later = let (other, e, w) = sound.widths g index later in (other, stays index other e, w)

  pub selects_at : has_number after_post f ≡ true → new.current ≡ mine → read_font_at new mine ≡ Some read → font metrics known f ≡ Some (width_at read)
      → HaveByteCodes new → Selects metrics after_post known f old new
  selects_at named current last widths codes = record {
    named = named;
    widths = is_some (font metrics known f) (width_at read) widths;
    current = updates.1 ∙ ap (λ (n : ℕ). Some n) (sym current);
    sound = record {
      widths = λ g index at.
          by_number (HasWidthsAt metrics known new) (int_eq f g) f g mine index (font_index g old) refl (read, last, widths) (before_it g index) (sym (updates.0 g) ∙ at);
      codes = codes;
    };
    kept = λ g some. subst (λ (o : Option ℕ). IsSome o) (sym (updates.0 g)) (number_kept (int_eq f g) mine (font_index g old) some);
  }

-- The fonts, their indices and the selected one are unchanged.
module _ (old mid : ReadFonts) (same : AreUnchanged old mid) where
  index_stays : (g : ℤ) → font_index g mid ≡ font_index g old
  index_stays g = ap (λ (entries : List (ℤ × ℕ)). lookup (is_at (int_cmp g)) entries) same.indices

  font_stays : (index : ℕ) → read_font_at mid index ≡ read_font_at old index
  font_stays index = ap (λ (fonts : List SizedFont). slice_get fonts index) same.all

  pub sound_stays : (metrics : WidthsByName) (known : List Definition) → AreSound metrics known old → AreSound metrics known mid
  sound_stays metrics known sound = record {
    widths = λ g index at. (let (read, e, w) = sound.widths g index (sym (index_stays g) ∙ at) in (read, font_stays index ∙ e, w));
    codes = λ index other e. sound.codes index other (sym (font_stays index) ∙ e);
  }

  pub selects_on : (metrics : WidthsByName) (after_post : List ℤ) (known : List Definition) (f : ℤ) (new : ReadFonts)
      → Selects metrics after_post known f mid new → Selects metrics after_post known f old new
  selects_on metrics after_post known f new selects = record {
    named = selects.named;
    widths = selects.widths;
    current = selects.current;
    sound = selects.sound;
    kept = λ g some. selects.kept g (subst (λ (o : Option ℕ). IsSome o) (sym (index_stays g)) some);
  }

-- The font is read now.
module _ (files : List NamedBytes) (after_post : List ℤ) (known : List Definition) (d : Definition) (f : ℤ) (old new : ReadFonts) (read : SizedFont)
    (sound : AreSound (file_widths files) known old)
    (updates : Updates int_cmp old.indices new.indices f (Some (length old.all.items))) (all : new.all.items ≡ old.all.items ++ read ∷ []) where
  stays_before : (index : ℕ) (other : SizedFont) → read_font_at old index ≡ Some other → read_font_at new index ≡ Some other
  stays_before index other e = ap (λ (fonts : List SizedFont). slice_get fonts index) all ∙ item_before old.all.items read other index e

  by_item : (index : ℕ) (other : SizedFont) → HasBytes read → (read_font_at old index ≡ Some other) ⊎ (read ≡ other) → HasBytes other
  by_item index other codes (inl e) = sound.codes index other e
  by_item index other codes (inr same) = subst HasBytes same codes

  pub selects_new : has_number after_post f ≡ true → first_definition_of f known ≡ Some d → new.current ≡ length old.all.items
      → file_widths files d.name d.size ≡ Some (width_at read) → HasBytes read
      → Selects (file_widths files) after_post known f old new
  selects_new named there current given codes =
      let metrics : WidthsByName = file_widths files in
      let mine : ℕ = length old.all.items in
      let last : read_font_at new mine ≡ Some read = ap (λ (fonts : List SizedFont). slice_get fonts mine) all ∙ item_last old.all.items read in
      selects_at metrics after_post known f old new mine read sound updates stays_before named current last (ap (widths_in metrics) there ∙ given)
      (λ index other e.
      by_item index other codes (item_back old.all.items read other index (sym (ap (λ (fonts : List SizedFont). slice_get fonts index) all) ∙ e)))

-- The font was read for another number with the same name and size.
module _ (files : List NamedBytes) (known : List Definition) (d : Definition) (f : ℤ) (old : ReadFonts) (index : ℕ)
    (sound : AreSound (file_widths files) known old) (same : IsIndexOfSame known d old index) where
  pub given_by_same : (read : SizedFont) × (read_font_at old index ≡ Some read) × (file_widths files d.name d.size ≡ Some (width_at read))
  given_by_same =
      let metrics : WidthsByName = file_widths files in
      let (g, other, found, name, size, at) = same in
      let (read, there, widths) = sound.widths g index at in
      (read, there, ap (λ (n : List ℕ). metrics n d.size) (sym name) ∙ (ap (λ (z : ℤ). metrics other.name z) (sym size) ∙ (sym (ap (widths_in metrics) found) ∙ widths)))

  pub selects_same : (after_post : List ℤ) (new : ReadFonts) → Updates int_cmp old.indices new.indices f (Some index) → new.all.items ≡ old.all.items
      → has_number after_post f ≡ true → first_definition_of f known ≡ Some d → new.current ≡ index → Selects (file_widths files) after_post known f old new
  selects_same after_post new updates all named found current =
      let (read, there, given) = given_by_same in
      let at : (n : ℕ) → read_font_at new n ≡ read_font_at old n = λ n. ap (λ (fonts : List SizedFont). slice_get fonts n) all in
      selects_at (file_widths files) after_post known f old new index read sound updates (λ n other e. at n ∙ e) named current (at index ∙ there)
      (ap (widths_in (file_widths files)) found ∙ given) (λ n other e. sound.codes n other (sym (at n) ∙ e))

-- More definitions change no width of a font that was read.
pub sound_more : (metrics : WidthsByName) (xs ys : List Definition) (fonts : ReadFonts) → AreSound metrics xs fonts → AreSound metrics (xs ++ ys) fonts
sound_more metrics xs ys fonts sound =
    record {
      widths = λ f index at. (
          let (read, there, widths) = sound.widths f index at in
          let (d, e) = some_definition (first_definition_of f xs) (has_definition metrics xs f (is_some (font metrics xs f) (width_at read) widths)) in
          (read, there, ap (widths_in metrics) (defined_more f xs ys d e ∙ sym e) ∙ widths));
      codes = sound.codes;
    }

-- The widths of a font that was read from the first file with its name are those that the files give.
pub given_by : {bytes : List ℕ} (files : List NamedBytes) (d : Definition) (file : NamedBytes) (read : SizedFont)
    → file_named d.name files ≡ Some file → bytes ≡ file.bytes → widths_by (metric_file bytes) d.size ≡ Some (width_at read)
    → file_widths files d.name d.size ≡ Some (width_at read)
given_by files d file read is same widths = rw is (rw (sym same) widths)

module _ (files : List NamedBytes) (after_post : List ℤ) (known : List Definition) (fonts : ReadFonts) (f : ℤ) (d : Definition)
    (named : has_number after_post f ≡ true) (found : first_definition_of f known ≡ Some d) where
  -- The font is refused.
  pub refused_font : (refusal : FontRefusal) → IsFontRefusal files d refusal → IsSelectFault files after_post known fonts f (Font refusal)
  refused_font refusal refused = record { named = named; font = d; found = found; refused = refused }

  -- Memory is refused for the font.
  pub lacks_memory : font_index f fonts ≡ None → MayAllocate files d → IsSelectFault files after_post known fonts f (Pass OutOfMemory)
  lacks_memory new file = record { named = named; new = new; font = d; found = found; file = file }

  -- The first file with the name gives no font at the size.
  pub not_read_from : (file : NamedBytes) (fault : FontReadFault) → font_index f fonts ≡ None → file_named d.name files ≡ Some file
      → IsReadRefusal file.bytes (Some d.size) fault → IsSelectFault files after_post known fonts f (of_read d.number fault)
  not_read_from file reads.OutOfMemory new is refused = lacks_memory new (file, is, refused)
  not_read_from file (reads.BadTfm cause) new is refused = refused_font (refusals.BadTfm d.number cause) (refl, file, is, refused)
  not_read_from file reads.DimensionTooLarge new is refused =
      refused_font (refusals.DimensionTooLarge d.number) (refl, file, is, refused.0, refused.1, refused.2)

-- A font that was not read was not selected.
or_both : (a b : Bool) → a ≡ false → b ≡ false → (a || b) ≡ false
or_both true b one other = one
or_both false b one other = other

other_font : (f g : ℤ) (b : Bool) (fonts : ReadFonts) → int_eq f g ≡ b → font_index f fonts ≡ None → FontIsRead g fonts → int_eq f g ≡ false
other_font f g false fonts is none some = is
other_font f g true fonts is none some =
    let here : FontIsRead f fonts = subst (λ (n : ℤ). FontIsRead n fonts) (sym ((Decides-int_eq f g).0 is)) some in
    let nothing : Option ℕ = None in
    let gone : IsSome nothing = subst (λ (o : Option ℕ). IsSome o) none here in absurd cc

pub not_read : (f : ℤ) (fonts : ReadFonts) (selected : List ℤ) → font_index f fonts ≡ None → AllByRecursion (λ g. FontIsRead g fonts) selected → has_number selected f ≡ false
not_read f fonts [] none all = refl
not_read f fonts (g ∷ selected) none (here, all) = or_both (int_eq f g) (has_number selected f) (other_font f g (int_eq f g) fonts refl none here) (not_read f fonts selected none all)
