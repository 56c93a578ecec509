-- The results of reading a text, case by case.
use Rattle.std.proofs.Common.{◌≡◌, ℕ, ℤ, true, false, List, Option, Some, None, Result, Ok, Err, ◌⊎◌, ⊎_elim, inl, inr, ◌↔◌, subst, ◌∙◌, refl}
use Rattle.std.specs.Result.{IfOk}
use Rattle.std.proofs.lemmas.Bool.{cases_Bool}
use Rattle.scaled_core.specs.declared.fault.DimenFault.{DimenFault}
use Rattle.scaled_core.specs.declared.fault.DimenFault.TheVariants.{TooLarge, NotADimension}
use Rattle.scaled_core.specs.Dimensions.{Fits, fits}
use Rattle.scaled_core.specs.DimensionTexts.{IsDimensionText, IsTooLargeText, IsNoDimension}
use Rattle.scaled_core.specs.ParsedTexts.{dimension_value, parsed_value, read_dimension}
use Rattle.scaled_core.proofs.Fitting.{dimension_fits, fits_within}
use Rattle.scaled_core.proofs.TextLaws.{dimension_value-from_text, IsDimensionText-from_value}

-- The text writes a dimension that fits, and it was read.
pub record ReadsDimension (text : List ℕ) (r : Result ℤ DimenFault) : Type 0 where
  pub value : ℤ
  pub written : IsDimensionText text value
  pub fits : Fits value
  pub read : r ≡ Ok value

pub record ReadsTooLarge (text : List ℕ) (r : Result ℤ DimenFault) : Type 0 where
  pub large : IsTooLargeText text
  pub read : r ≡ Err TooLarge

pub record ReadsNothing (text : List ℕ) (r : Result ℤ DimenFault) : Type 0 where
  pub none : IsNoDimension text
  pub read : r ≡ Err NotADimension

abbrev pub Reads : List ℕ → Result ℤ DimenFault → Type 0
Reads text r = ReadsDimension text r ⊎ (ReadsTooLarge text r ⊎ ReadsNothing text r)

parsed_value-yes : (z : ℤ) → fits z ≡ true → parsed_value (Some z) ≡ Ok z
unfolding parsed_value
parsed_value-yes z e = rw e refl

parsed_value-no : (z : ℤ) → fits z ≡ false → parsed_value (Some z) ≡ Err TooLarge
unfolding parsed_value
parsed_value-no z e = rw e refl

-- A value that fits is read.
pub parsed_value-fits : (z : ℤ) → Fits z → parsed_value (Some z) ≡ Ok z
parsed_value-fits z fit = parsed_value-yes z (dimension_fits z fit)

parsed_value-nothing : parsed_value None ≡ Err NotADimension
unfolding parsed_value
parsed_value-nothing = refl

no_value : (text : List ℕ) → dimension_value text ≡ None → IsNoDimension text
no_value text e value written = let f = dimension_value-from_text text value written in absurd (cc)

reads_by : (text : List ℕ) (r : Result ℤ DimenFault) (v : Option ℤ) → dimension_value text ≡ v → r ≡ parsed_value v → Reads text r
reads_by text r None e h = inr (inr (record { none = no_value text e; read = h ∙ parsed_value-nothing }))
reads_by text r (Some z) e h = ⊎_elim
    (λ (yes : fits z ≡ true). inl (record { value = z; written = IsDimensionText-from_value text z e; fits = fits_within z yes; read = h ∙ parsed_value-yes z yes }))
    (λ (no : fits z ≡ false). inr (inl (record {
      large = record { value = z; written = IsDimensionText-from_value text z e; misfit = λ fit. let yes = dimension_fits z fit in absurd (cc) };
      read = h ∙ parsed_value-no z no;
    })))
    (cases_Bool (fits z))

-- Reading a text has one of the three results.
pub reads : (text : List ℕ) (r : Result ℤ DimenFault) → r ≡ read_dimension text → Reads text r
unfolding read_dimension
reads text r h = reads_by text r (dimension_value text) refl h

IfOk-by : (r : Result ℤ DimenFault) (P : ℤ → Type 0) → ((z : ℤ) → r ≡ Ok z → P z) → IfOk r P
IfOk-by (Ok z) P h = h z refl
IfOk-by (Err e) P h = tt

same_value : (text : List ℕ) (y z : ℤ) → IsDimensionText text y → IsDimensionText text z → y ≡ z
same_value text y z p q = let a = dimension_value-from_text text y p in let b = dimension_value-from_text text z q in cc

-- A number that was read.
pub record IsRead (text : List ℕ) (z : ℤ) : Type 0 where
  pub written : IsDimensionText text z
  pub fits : Fits z

along : (text : List ℕ) (y z : ℤ) → y ≡ z → IsDimensionText text y → Fits y → IsRead text z
along text y z e p q = let P : ℤ → Type 0 = λ x. IsRead text x in subst P e (record { written = p; fits = q })

was_read : (text : List ℕ) (r : Result ℤ DimenFault) (z : ℤ) → r ≡ Ok z → Reads text r → IsRead text z
was_read text r z e cases = ⊎_elim
    (λ (w : ReadsDimension text r). let a = w.read in let q : w.value ≡ z = cc in along text w.value z q w.written w.fits)
    (λ (v : ReadsTooLarge text r ⊎ ReadsNothing text r). ⊎_elim
    (λ (w : ReadsTooLarge text r). let a = w.read in absurd (cc))
    (λ (w : ReadsNothing text r). let a = w.read in absurd (cc)) v)
    cases

was_too_large : (text : List ℕ) (r : Result ℤ DimenFault) → r ≡ Err TooLarge → Reads text r → IsTooLargeText text
was_too_large text r e cases = ⊎_elim
    (λ (w : ReadsDimension text r). let a = w.read in absurd (cc))
    (λ (v : ReadsTooLarge text r ⊎ ReadsNothing text r). ⊎_elim
    (λ (w : ReadsTooLarge text r). w.large)
    (λ (w : ReadsNothing text r). let a = w.read in absurd (cc)) v)
    cases

was_none : (text : List ℕ) (r : Result ℤ DimenFault) → r ≡ Err NotADimension → Reads text r → IsNoDimension text
was_none text r e cases = ⊎_elim
    (λ (w : ReadsDimension text r). let a = w.read in absurd (cc))
    (λ (v : ReadsTooLarge text r ⊎ ReadsNothing text r). ⊎_elim
    (λ (w : ReadsTooLarge text r). let a = w.read in absurd (cc))
    (λ (w : ReadsNothing text r). w.none) v)
    cases

is_too_large : (text : List ℕ) (r : Result ℤ DimenFault) → IsTooLargeText text → Reads text r → r ≡ Err TooLarge
is_too_large text r t cases = ⊎_elim
    (λ (w : ReadsDimension text r).
    let q = same_value text w.value t.value w.written t.written in
    absurd (t.misfit (along text w.value t.value q w.written w.fits).fits))
    (λ (v : ReadsTooLarge text r ⊎ ReadsNothing text r). ⊎_elim
    (λ (w : ReadsTooLarge text r). w.read)
    (λ (w : ReadsNothing text r). absurd (w.none t.value t.written)) v)
    cases

is_none : (text : List ℕ) (r : Result ℤ DimenFault) → IsNoDimension text → Reads text r → r ≡ Err NotADimension
is_none text r n cases = ⊎_elim
    (λ (w : ReadsDimension text r). absurd (n w.value w.written))
    (λ (v : ReadsTooLarge text r ⊎ ReadsNothing text r). ⊎_elim
    (λ (w : ReadsTooLarge text r). absurd (n w.large.value w.large.written))
    (λ (w : ReadsNothing text r). w.read) v)
    cases

-- What was read is the text's dimension.
pub reads-ok : (text : List ℕ) (r : Result ℤ DimenFault) → r ≡ read_dimension text → IfOk r (λ d. IsDimensionText text d)
reads-ok text r h = IfOk-by r (λ d. IsDimensionText text d) (λ z e. (was_read text r z e (reads text r h)).written)

-- The dimension that was read fits.
pub reads-fits : (text : List ℕ) (r : Result ℤ DimenFault) → r ≡ read_dimension text → IfOk r (λ d. Fits d)
reads-fits text r h = IfOk-by r (λ d. Fits d) (λ z e. (was_read text r z e (reads text r h)).fits)

-- A text is refused as too large exactly when its value does not fit.
pub reads-too_large : (text : List ℕ) (r : Result ℤ DimenFault) → r ≡ read_dimension text → (r ≡ Err TooLarge) ↔ IsTooLargeText text
reads-too_large text r h = (λ e. was_too_large text r e (reads text r h), λ t. is_too_large text r t (reads text r h))

-- A text is refused as no dimension exactly when it is none.
pub reads-not_a_dimension : (text : List ℕ) (r : Result ℤ DimenFault) → r ≡ read_dimension text → (r ≡ Err NotADimension) ↔ IsNoDimension text
reads-not_a_dimension text r h = (λ e. was_none text r e (reads text r h), λ n. is_none text r n (reads text r h))
