-- The rows of fonts one after the other, and the table of a file.
use Rattle.std.proofs.Common.{◌≡◌, ◌≢◌, ◌<◌, ◌+◌, ◌++◌, [], ◌∷◌, List, ℕ, Bool, true, false, get_or, length, map, take, inl, inr, Result, Ok, Err, IfOk, ap, ap₂, subst, ◌∙◌, sym, refl, arith, length-append, append-nil}
use Rattle.std.proofs.lemmas.Grind.{flat_map-append}
use Rattle.std.proofs.lemmas.List.{map_more}
use Rattle.dvi_ops.specs.Instruction.{Definition, Units}
use Rattle.dvi_ops.specs.View.{definition}
use Rattle.dvi_ops.specs.declared.op.FontDefinition.{FontDefinition}
use Rattle.boxglue_print.specs.Faults.{fault_line}
use Rattle.boxglue_print.specs.Fonts.{BreaksFonts, DefinesFonts}
use Rattle.boxglue_print.proofs.FontLemmas.{refuses_fonts}
use Rattle.dvi_read.specs.declared.fault.DviFault.{DviFault}
use Rattle.dvi_read.specs.declared.fault.DviFault.TheVariants.{OutOfMemory}
use Rattle.boxglue_calls.specs.Buffers.{HandsOverBoth}
use Rattle.boxglue_calls.specs.FontTables.{HandsOverFonts, IsFontTable, names_of, row_at, rows_from}
use Rattle.boxglue_calls.specs.Pages.{read_status}
use Rattle.boxglue_calls.specs.declared.font_table.DviFont.{DviFont}
use Rattle.boxglue_calls.specs.declared.font_table.FontSizes.{FontSizes}

-- One font more.
pub names_more : (fonts : List Definition) (font : Definition) → names_of (fonts ++ font ∷ []) ≡ names_of fonts ++ font.name
names_more fonts font = flat_map-append (λ (d : Definition). d.name) fonts (font ∷ []) ∙ ap (λ (name : List ℕ). names_of fonts ++ name) (append-nil font.name)

pub rows_more : (start : ℕ) (fonts : List Definition) (font : Definition) → rows_from start (fonts ++ font ∷ []) ≡ rows_from start fonts ++ row_at (start + length (names_of fonts)) font ∷ []
rows_more start [] font =
    let same : start ≡ start + 0 = omega arith in
    ap (λ (n : ℕ). row_at n font ∷ []) same
rows_more start (first ∷ rest) font =
    let size = length-append first.name (names_of rest) in
    let same : start + length first.name + length (names_of rest) ≡ start + length (first.name ++ names_of rest) = omega arith in
    ap (λ (rows : List DviFont). row_at start first ∷ rows)
    (rows_more (start + length first.name) rest font ∙ ap (λ (n : ℕ). rows_from (start + length first.name) rest ++ row_at n font ∷ []) same)

-- One definition more.
pub table_more : (fonts : List FontDefinition) (i : ℕ) (d : FontDefinition) → i < length fonts
    → (rows_from 0 (map definition (take (i + 1) fonts))
    ≡ rows_from 0 (map definition (take i fonts)) ++ row_at (length (names_of (map definition (take i fonts)))) (definition (get_or fonts i d)) ∷ [])
    × (names_of (map definition (take (i + 1) fonts)) ≡ names_of (map definition (take i fonts)) ++ (get_or fonts i d).name.now)
table_more fonts i d below =
    let before = map definition (take i fonts) in
    let here = definition (get_or fonts i d) in
    let more = map_more definition fonts i d below in
    let start : 0 + length (names_of before) ≡ length (names_of before) = omega arith in
    (ap (λ (ds : List Definition). rows_from 0 ds) more ∙ (rows_more 0 before here ∙ ap (λ (n : ℕ). rows_from 0 before ++ row_at n here ∷ []) start), ap (λ (ds : List Definition). names_of ds) more ∙ names_more before here)

pub table_step : (fonts : List FontDefinition) (i : ℕ) (d : FontDefinition) → i < length fonts → (rows rows_new : List DviFont) (names names_new : List ℕ)
    → (rows ≡ rows_from 0 (map definition (take i fonts))) × (names ≡ names_of (map definition (take i fonts)))
    → rows_new ≡ rows ++ row_at (length names) (definition (get_or fonts i d)) ∷ [] → names_new ≡ names ++ (get_or fonts i d).name.now
    → (rows_new ≡ rows_from 0 (map definition (take (i + 1) fonts))) × (names_new ≡ names_of (map definition (take (i + 1) fonts)))
table_step fonts i d below rows rows_new names names_new (rows_is, names_is) row name =
    let more = table_more fonts i d below in
    let here = definition (get_or fonts i d) in (
      row ∙ (ap₂ (λ (before : List DviFont) (text : List ℕ). before ++ row_at (length text) here ∷ []) rows_is names_is ∙ sym more.0),
      name ∙ (ap (λ (text : List ℕ). text ++ here.name) names_is ∙ sym more.1),
    )

-- The table of a file that is refused.
pub refuses : (bytes : List ℕ) (rows : List DviFont) (text : List ℕ) (accepted : Bool) (fault : DviFault) → fault ≢ OutOfMemory → text ≡ fault_line fault → accepted ≡ false → rows ≡ []
    → BreaksFonts bytes fault → IsFontTable bytes rows text accepted
refuses bytes rows text accepted fault other text_is accepted_is rows_is broken =
    inr (refuses_fonts bytes text accepted fault other text_is accepted_is broken, rows_is)

-- A table that is handed over.
pub handed_fonts : (bytes : List ℕ) (old new : List DviFont) (text_old text_new : List ℕ) (sizes : FontSizes) (done status : ℕ) (rows put : List DviFont) (text sent : List ℕ) (accepted : Bool)
    → IsFontTable bytes rows text accepted → put ≡ rows → sent ≡ text → done ≡ read_status accepted → HandsOverBoth (record { old = old; new = new; items = put }) (record { old = text_old; new = text_new; items = sent }) done status
    → sizes.fonts ≡ length rows → sizes.text ≡ length text → HandsOverFonts bytes old new text_old text_new sizes status
handed_fonts bytes old new text_old text_new sizes done status rows put text sent accepted table put_is sent_is done_is handed fonts_size text_size =
    record {
      fonts = rows;
      text = text;
      accepted = accepted;
      table = table;
      handed =
          subst (λ (items : List DviFont). HandsOverBoth (record { old = old; new = new; items = items }) (record { old = text_old; new = text_new; items = text }) (read_status accepted) status) put_is
          (subst (λ (bytes : List ℕ). HandsOverBoth (record { old = old; new = new; items = put }) (record { old = text_old; new = text_new; items = bytes }) (read_status accepted) status) sent_is
          (subst (λ (n : ℕ). HandsOverBoth (record { old = old; new = new; items = put }) (record { old = text_old; new = text_new; items = sent }) n status) done_is handed));
      fonts_size = fonts_size;
      text_size = text_size;
    }

-- The table of fonts that are defined.
pub accepts : (bytes : List ℕ) (units : Units) (fonts : List Definition) (rows : List DviFont) (text : List ℕ) (accepted : Bool) → DefinesFonts bytes units fonts
    → rows ≡ rows_from 0 fonts → text ≡ names_of fonts → accepted ≡ true → IsFontTable bytes rows text accepted
accepts bytes units fonts rows text accepted defined rows_is text_is accepted_is = inl (units, fonts, defined, rows_is, text_is, accepted_is)

-- What follows from three facts of the value in an Ok.
pub then_of_three : {A E : Type 0} (r : Result A E) (P Q R S : A → Type 0) → ((x : A) → P x → Q x → R x → S x) → IfOk r P → IfOk r Q → IfOk r R → IfOk r S
then_of_three (Ok x) P Q R S f p q s = f x p q s
then_of_three (Err e) P Q R S f p q s = tt

-- What follows from what holds of the value in an Ok.
pub then_of : {A E : Type 0} (r : Result A E) (P Q : A → Type 0) → ((x : A) → P x → Q x) → IfOk r P → IfOk r Q
then_of (Ok x) P Q f p = f x p
then_of (Err e) P Q f p = tt
