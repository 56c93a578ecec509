-- The rows of a font, and metrics that are handed over.
use Rattle.std.proofs.Common.{◌≡◌, ℕ, ℤ, pos, negsuc, FitsSigned, to_z, of_z, zero, suc, ◌+◌, ◌++◌, ◌∷◌, [], true, List, Option, Some, None, Ok, refl, sym, ap, subst, ◌∙◌, arith}
use Rattle.std.specs.Int.{w32, w64, cast_unsigned}
use Rattle.std.specs.List.{flat_map, range_with_len}
use Rattle.std.specs.Option.{IsSome, SomeIff, option_map}
use Rattle.std.proofs.lemmas.Int.{fits_signed_from_abs, ints, to_z-of_z}
use Rattle.std.proofs.lemmas.List.{append-nil, flat_map_more}
use Rattle.scaled_core.specs.Dimensions.{Fits}
use Rattle.scaled_core.specs.declared.sizes.Sizes.{Sizes}
use Rattle.tfm_core.specs.FontReads.{IsFontIn}
use Rattle.tfm_core.specs.Fonts.{SizedFont, chosen_size, fits_at, font_at, glyph_of, parameter, sizes_in, space_at, step_of}
use Rattle.tfm_core.specs.MetricFile.{MetricFile, record_in}
use Rattle.tfm_core.specs.Rules.{metric_file}
use Rattle.tfm_core.specs.Scaling.{IsFontSize, design_size_of, scaled}
use Rattle.tfm_core.specs.declared.font.Step.{Step}
use Rattle.tfm_core.specs.declared.record.CharInfo.{CharInfo}
use Rattle.tfm_core.proofs.LawLemmas.{glyph_of-font_at}
use Rattle.tfm_core.proofs.ReadingLemmas.{IsMetricFile-from_read, record_in-unique}
use Rattle.boxglue_calls.specs.Metrics.{font_parameters, glyph_row, italic_word, no_glyph, pair_steps, step_row, word_measure}
use Rattle.boxglue_calls.specs.Private.MetricPlaces.{character_in}
use Rattle.boxglue_calls.specs.declared.font_rows.FontStep.{FontStep}
use Rattle.boxglue_calls.specs.declared.font_rows.Measure.{Measure}

-- Lists that are made of one part for each number.
range_more : (a n : ℕ) → range_with_len a (suc n) ≡ range_with_len a n ++ (a + n) ∷ []
range_more a zero = let e : a ≡ a + 0 = omega arith in ap (λ (k : ℕ). k ∷ []) e
range_more a (suc n) =
    let e : a + 1 + n ≡ a + suc n = omega arith in
    ap (λ (l : List ℕ). a ∷ l) (range_more (a + 1) n ∙ ap (λ (k : ℕ). range_with_len (a + 1) n ++ k ∷ []) e)

range_next : (n : ℕ) → range_with_len 0 n ++ n ∷ [] ≡ range_with_len 0 (n + 1)
range_next n =
    let e : suc n ≡ n + 1 = omega arith in
    let f : 0 + n ≡ n = omega arith in
    ap (λ (k : ℕ). range_with_len 0 n ++ k ∷ []) (sym f) ∙ (sym (range_more 0 n) ∙ ap (λ (k : ℕ). range_with_len 0 k) e)

pub more_parts : {A : Type 0} (f : ℕ → List A) (n : ℕ) (old mid new : List A) → mid ≡ old ++ flat_map f (range_with_len 0 n) → new ≡ mid ++ f n
    → new ≡ old ++ flat_map f (range_with_len 0 (n + 1))
more_parts {A = A} f n old mid new before more =
    more
    ∙ (ap (λ (l : List A). l ++ f n) before
    ∙ (flat_map_more f old (range_with_len 0 n) n ∙ ap (λ (l : List ℕ). old ++ flat_map f l) (range_next n)))

-- The rows of two characters.
pub no_pair : (font : SizedFont) (character following : ℕ) (steps : List FontStep) → step_of font character following ≡ None
    → steps ≡ steps ++ pair_steps font character following
no_pair font character following steps none = rw none (sym (append-nil steps))

pub one_pair : (font : SizedFont) (character following : ℕ) (step : Step) (row : FontStep) (old new : List FontStep) → step_of font character following ≡ Some step
    → row ≡ step_row character following step → new ≡ old ++ row ∷ [] → new ≡ old ++ pair_steps font character following
one_pair font character following step row old new some is pushed = rw some (pushed ∙ ap (λ (r : FontStep). old ++ r ∷ []) is)

-- A character of a font is one of its metric file, with the sizes of its words.
glyph_is : (bytes : List ℕ) (font : SizedFont) (code : ℕ) → font ≡ font_at (record_in bytes) font.size
    → glyph_of font code ≡ option_map (sizes_in (record_in bytes) font.size) (character_in bytes code)
glyph_is bytes font code sized = ap (λ (f : SizedFont). glyph_of f code) sized ∙ glyph_of-font_at (record_in bytes) font.size code

mapped_none : {X Y : Type 0} (f : X → Y) (o : Option X) → option_map f o ≡ None → o ≡ None
mapped_none f None h = refl
mapped_none f (Some x) h = absurd (cc)

mapped_some : {X Y : Type 0} (f : X → Y) (o : Option X) (y : Y) → option_map f o ≡ Some y → (x : X) × (o ≡ Some x) × (y ≡ f x)
mapped_some f None y h = absurd (cc)
mapped_some f (Some x) y h = (x, refl, cc)

pub no_character : (bytes : List ℕ) (font : SizedFont) (code : ℕ) (size : ℤ) → font ≡ font_at (record_in bytes) font.size → glyph_of font code ≡ None
    → no_glyph ≡ glyph_row (record_in bytes) size (character_in bytes code)
no_character bytes font code size sized none =
    let absent = mapped_none (sizes_in (record_in bytes) font.size) (character_in bytes code) (sym (glyph_is bytes font code sized) ∙ none) in
    rw absent refl

pub has_character : (bytes : List ℕ) (font : SizedFont) (code : ℕ) (sizes : Sizes) → font ≡ font_at (record_in bytes) font.size → glyph_of font code ≡ Some sizes
    → IsSome (character_in bytes code)
has_character bytes font code sizes sized some =
    let found = mapped_some (sizes_in (record_in bytes) font.size) (character_in bytes code) sizes (sym (glyph_is bytes font code sized) ∙ some) in
    rw (found.1) refl

pub row_of_character : (bytes : List ℕ) (font : SizedFont) (code : ℕ) (sizes : Sizes) (width height depth : ℤ) (italic : ℤ) (measure : Measure)
    → font ≡ font_at (record_in bytes) font.size → glyph_of font code ≡ Some sizes
    → ((character : CharInfo) → character_in bytes code ≡ Some character → italic ≡ italic_word (record_in bytes) character)
    → width ≡ sizes.width → height ≡ sizes.height → depth ≡ sizes.depth → measure ≡ word_measure font.size italic
    → record { is_there = 1; width = width; height = height; depth = depth; italic = measure } ≡ glyph_row (record_in bytes) font.size (character_in bytes code)
row_of_character bytes font code sizes width height depth italic measure sized some italic_is w h d m =
    let file = record_in bytes in
    let (character, at, same) = mapped_some (sizes_in file font.size) (character_in bytes code) sizes (sym (glyph_is bytes font code sized) ∙ some) in
    let last : measure ≡ word_measure font.size (italic_word file character) = m ∙ ap (word_measure font.size) (italic_is character at) in
    let first : width ≡ (sizes_in file font.size character).width = w ∙ ap (λ (s : Sizes). s.width) same in
    let second : height ≡ (sizes_in file font.size character).height = h ∙ ap (λ (s : Sizes). s.height) same in
    let third : depth ≡ (sizes_in file font.size character).depth = d ∙ ap (λ (s : Sizes). s.depth) same in
    rw at (cc)

-- The numbers of a font that it has itself.
pub record HasParameters (bytes : List ℕ) (font : SizedFont) : Type 0 where
  pub design_size : font.design_size ≡ design_size_of (record_in bytes).design_word
  pub check_sum : font.check_sum ≡ (record_in bytes).check_sum
  pub space : font.space.width ≡ scaled font.size (parameter 2 (record_in bytes).parameters)
  pub stretch : font.space.stretch ≡ scaled font.size (parameter 3 (record_in bytes).parameters)
  pub shrink : font.space.shrink ≡ scaled font.size (parameter 4 (record_in bytes).parameters)

pub has_parameters : (bytes : List ℕ) (font : SizedFont) → font ≡ font_at (record_in bytes) font.size → HasParameters bytes font
unfolding font_at space_at
has_parameters bytes font sized = record {
  design_size = ap (λ (f : SizedFont). f.design_size) sized;
  check_sum = ap (λ (f : SizedFont). f.check_sum) sized;
  space = ap (λ (f : SizedFont). f.space.width) sized;
  stretch = ap (λ (f : SizedFont). f.space.stretch) sized;
  shrink = ap (λ (f : SizedFont). f.space.shrink) sized;
}

-- A font that was read is that of the record in its bytes.
pub record IsReadFrom (bytes : List ℕ) (asked : Option ℤ) (font : SizedFont) : Type 0 where
  pub read : metric_file bytes ≡ Ok (record_in bytes)
  pub sized : font ≡ font_at (record_in bytes) font.size
  pub size : font.size ≡ chosen_size (record_in bytes) asked
  pub fits : fits_at (record_in bytes) (chosen_size (record_in bytes) asked) ≡ true

size_is : (file : MetricFile) (size : ℤ) (font : SizedFont) → font ≡ font_at file size → font.size ≡ size
unfolding font_at
size_is file size font same = ap (λ (f : SizedFont). f.size) same

pub read_from : (bytes : List ℕ) (asked : Option ℤ) (font : SizedFont) → IsFontIn bytes asked font → IsReadFrom bytes asked font
read_from bytes asked font is =
    let file : is.metrics ≡ record_in bytes = record_in-unique bytes is.metrics (IsMetricFile-from_read bytes is.metrics is.read).encoded in
    let same : font ≡ font_at (record_in bytes) (chosen_size (record_in bytes) asked) =
    subst (λ (m : MetricFile). font ≡ font_at m (chosen_size m asked)) file is.same in
    let size = size_is (record_in bytes) (chosen_size (record_in bytes) asked) font same in
    record {
      read = subst (λ (m : MetricFile). metric_file bytes ≡ Ok m) file is.read;
      sized = same ∙ ap (font_at (record_in bytes)) (sym size);
      size = size;
      fits = subst (λ (m : MetricFile). fits_at m (chosen_size m asked) ≡ true) file is.fits;
    }

pub parameters_are : (bytes : List ℕ) (font : SizedFont) (size design : ℤ) (check : ℕ) (slant space stretch shrink : ℤ) (x_height quad extra : Measure)
    → font ≡ font_at (record_in bytes) font.size → size ≡ font.size → design ≡ font.design_size → check ≡ cast_unsigned w32 font.check_sum
    → slant ≡ parameter 1 (record_in bytes).parameters → space ≡ font.space.width → stretch ≡ font.space.stretch → shrink ≡ font.space.shrink
    → x_height ≡ word_measure font.size (parameter 5 (record_in bytes).parameters) → quad ≡ word_measure font.size (parameter 6 (record_in bytes).parameters)
    → extra ≡ word_measure font.size (parameter 7 (record_in bytes).parameters)
    → record {
      size = size;
      design_size = design;
      check_sum = check;
      slant = slant;
      space = space;
      stretch = stretch;
      shrink = shrink;
      x_height = x_height;
      quad = quad;
      extra_space = extra;
    } ≡ font_parameters (record_in bytes) font.size
parameters_are bytes font size design check slant space stretch shrink x_height quad extra sized a b d e f g h i j k =
    let has = has_parameters bytes font sized in
    let second = b ∙ has.design_size in
    let third = d ∙ ap (cast_unsigned w32) has.check_sum in
    let fifth = f ∙ has.space in
    let sixth = g ∙ has.stretch in
    let seventh = h ∙ has.shrink in
    cc

-- Numbers that fit in 32 bits.
dimension_in_32 : (z : ℤ) → Fits z → FitsSigned w32 z
dimension_in_32 (pos n) h = fits_signed_from_abs w32 (pos n) (omega (arith, ints, h.high))
dimension_in_32 (negsuc n) h = fits_signed_from_abs w32 (negsuc n) (omega (arith, ints, h.low))

size_in_32 : (z : ℤ) → IsFontSize z → FitsSigned w32 z
size_in_32 (pos n) h = fits_signed_from_abs w32 (pos n) (omega (arith, ints, h.below))
size_in_32 (negsuc n) h = absurd (omega (arith, ints, h.positive))

pub same_word : (z y : ℤ) → FitsSigned w32 z → z ≡ y → to_z w32 (of_z w32 z) ≡ y
same_word z y fits is = to_z-of_z w32 z fits ∙ is

pub same_dimension : (z y : ℤ) → Fits z → z ≡ y → to_z w32 (of_z w32 z) ≡ y
same_dimension z y fits is = same_word z y (dimension_in_32 z fits) is

pub same_size : (z y : ℤ) → IsFontSize z → z ≡ y → to_z w32 (of_z w32 z) ≡ y
same_size z y fits is = same_word z y (size_in_32 z fits) is

pub same_measure : (size other word y : ℤ) → size ≡ other → FitsSigned w32 word → word ≡ y
    → word_measure size (to_z w32 (of_z w32 word)) ≡ word_measure other y
same_measure size other word y size_is fits is =
    ap (λ (z : ℤ). word_measure z (to_z w32 (of_z w32 word))) size_is ∙ ap (word_measure other) (same_word word y fits is)

pub same_check : (z y : ℤ) → FitsSigned w32 z → z ≡ y → cast_unsigned w32 (to_z w32 (of_z w32 z)) ≡ cast_unsigned w32 y
same_check z y fits is = ap (cast_unsigned w32) (same_word z y fits is)

pub zero_is : (z : ℤ) → FitsSigned w32 z → of_z w32 z ≡ 0 → z ≡ pos 0
zero_is z fits none = sym (to_z-of_z w32 z fits) ∙ ap (to_z w32) none

pub nonzero_is : (z : ℤ) → (of_z w32 z ≡ 0 → ⊥) → z ≡ pos 0 → ⊥
nonzero_is z other none = other (ap (of_z w32) none)

-- A size that was asked for, in 64 bits.
pub same_asked : (asked : Option ℤ) (z y : ℤ) → FitsSigned w64 z → z ≡ y
    → SomeIff asked (IsFontSize (to_z w64 (of_z w64 z))) (to_z w64 (of_z w64 z)) → SomeIff asked (IsFontSize y) y
same_asked asked z y fits is iff = subst (λ (x : ℤ). SomeIff asked (IsFontSize x) x) (to_z-of_z w64 z fits ∙ is) iff

pub word_fits : (z : ℤ) → FitsSigned w32 z → FitsSigned w32 (to_z w32 (of_z w32 z))
word_fits z fits = subst (λ (y : ℤ). FitsSigned w32 y) (sym (to_z-of_z w32 z fits)) fits
