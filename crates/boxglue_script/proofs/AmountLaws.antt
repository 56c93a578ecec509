-- The results of the function that reads an amount of stretch or shrink.
use Rattle.std.proofs.Common.{◌≡◌, ℕ, ℤ, ◌-◌, ◌<◌, ◌==◌, Bool, true, false, List, [], ◌∷◌, ◌++◌, Option, Some, None, Result, Ok, Err, codes, refl, ap, sym, ◌∙◌, subst, length, take, drop, arith, append_assoc, length-append}
use Rattle.std.specs.Str.{bytes_eq}
use Rattle.std.proofs.lemmas.List.{take-append-drop}
use Rattle.std.proofs.Math.Seq.{drop-append_seam, take-append_seam}
use Rattle.node_core.specs.declared.tree.Order.{Order}
use Rattle.node_core.specs.declared.tree.Order.TheVariants.{Normal, Fil, Fill, Filll}
use Rattle.scaled_core.specs.declared.units.LengthUnit.{LengthUnit}
use Rattle.scaled_core.specs.declared.units.LengthUnit.TheVariants.{Point, Inch, Pica, Centimeter, Millimeter, BigPoint, DidotPoint, Cicero, ScaledPoint}
use Rattle.scaled_core.specs.declared.fault.DimenFault.{DimenFault}
use Rattle.scaled_core.specs.Units.{unit_text}
use Rattle.scaled_core.specs.DimensionTexts.{DimensionParts, sign_text, fraction_text, parts_text}
use Rattle.scaled_core.specs.ParsedTexts.{read_dimension}
use Rattle.boxglue_script.specs.declared.amounts.Amount.{Amount}
use Rattle.boxglue_script.specs.declared.cause.Cause.{Cause}
use Rattle.boxglue_script.specs.declared.cause.Cause.TheVariants.{Dimension}
use Rattle.boxglue_script.specs.Grammar.{IsDimension, IsAmount}
use Rattle.boxglue_script.specs.Private.Reading.{before_unit, amount, amount_in, amount_or, amount_of, map_ok, dimension_or}
use Rattle.boxglue_script.proofs.FieldLaws.{same_bytes, bytes_same, reads_dimension, dimension_read}

front_size : (number unit : List ℕ) → length (number ++ unit) - length unit ≡ length number
front_size number unit = omega (arith, length-append number unit)

-- A number with a unit after it comes before that unit.
pub before_is : (unit number : List ℕ) → before_unit unit (number ++ unit) ≡ Some number
unfolding before_unit
before_is unit number = rw (front_size number unit, drop-append_seam number unit, take-append_seam number unit, bytes_same unit) refl

before_by : (unit field number : List ℕ) (n : ℕ) (b : Bool) → n ≡ length field - length unit → bytes_eq (drop n field) unit ≡ b → before_unit unit field ≡ Some number → field ≡ number ++ unit
unfolding before_unit
before_by unit field number n true size e h =
    let s : Some (take n field) ≡ Some number = rw (← size, e) at h in
    let front : take n field ≡ number = cc in
    sym (take-append-drop n field) ∙ (rw (front, same_bytes (drop n field) unit e) refl)
before_by unit field number n false size e h = let s : None ≡ Some number = rw (← size, e) at h in absurd (cc)

-- What comes before a unit is all except the unit.
pub before_said : (unit field number : List ℕ) → before_unit unit field ≡ Some number → field ≡ number ++ unit
before_said unit field number h = before_by unit field number (length field - length unit) _ refl refl h

none_by : (unit field : List ℕ) (o : Option (List ℕ)) → before_unit unit field ≡ o → ((number : List ℕ) → field ≡ number ++ unit → ⊥) → o ≡ None
none_by unit field None e h = refl
none_by unit field (Some number) e h = absurd (h number (before_said unit field number e))

-- Nothing comes before a unit with which the field does not end.
pub before_none : (unit field : List ℕ) → ((number : List ℕ) → field ≡ number ++ unit → ⊥) → before_unit unit field ≡ None
before_none unit field h = none_by unit field (before_unit unit field) refl h

-- Equal texts have equal ends.
same_end : (a b u v : List ℕ) → length u ≡ length v → a ++ u ≡ b ++ v → u ≡ v
same_end a b u v size e =
    let same : length a ≡ length b = omega (arith, length-append a u, length-append b v, ap length e) in
    sym (drop-append_seam a u) ∙ ap (drop (length a)) e ∙ (rw same (drop-append_seam b v))

longer_end : (a b u first v : List ℕ) → length u ≡ length v → a ++ u ≡ b ++ (first ++ v) → u ≡ v
longer_end a b u first v size e = same_end a (b ++ first) u v size (e ∙ sym (append_assoc b first v))

heads_differ : (x y : ℕ) (xs ys : List ℕ) → x < y → x ∷ xs ≡ y ∷ ys → ⊥
heads_differ x y xs ys less e = let same : x ≡ y = cc in absurd (omega arith)

fil_no_fill : (a b : List ℕ) → a ++ codes "fil" ≡ b ++ codes "fill" → ⊥
fil_no_fill a b e = let same = longer_end a b (codes "fil") (codes "f") (codes "ill") refl e in heads_differ 102 105 (codes "il") (codes "ll") (omega arith) same

fil_no_filll : (a b : List ℕ) → a ++ codes "fil" ≡ b ++ codes "filll" → ⊥
fil_no_filll a b e = let same = longer_end a b (codes "fil") (codes "fi") (codes "lll") refl e in heads_differ 102 108 (codes "il") (codes "ll") (omega arith) same

fill_no_filll : (a b : List ℕ) → a ++ codes "fill" ≡ b ++ codes "filll" → ⊥
fill_no_filll a b e = let same = longer_end a b (codes "fill") (codes "f") (codes "illl") refl e in heads_differ 102 105 (codes "ill") (codes "lll") (omega arith) same

unit_size : (unit : LengthUnit) → length (unit_text unit) ≡ 2
unit_size Point = refl
unit_size Inch = refl
unit_size Pica = refl
unit_size Centimeter = refl
unit_size Millimeter = refl
unit_size BigPoint = refl
unit_size DidotPoint = refl
unit_size Cicero = refl
unit_size ScaledPoint = refl

other_second : (a b c : ℕ) → (b == 108) ≡ false → a ∷ b ∷ [] ≡ c ∷ 108 ∷ [] → ⊥
other_second a b c differs e =
    let same : b ≡ 108 = cc in
    let s : true ≡ false = rw same at differs in
    absurd (cc)

unit_no_l : (unit : LengthUnit) (c : ℕ) → unit_text unit ≡ c ∷ 108 ∷ [] → ⊥
unit_no_l Point c e = other_second 112 116 c refl e
unit_no_l Inch c e = other_second 105 110 c refl e
unit_no_l Pica c e = other_second 112 99 c refl e
unit_no_l Centimeter c e = other_second 99 109 c refl e
unit_no_l Millimeter c e = other_second 109 109 c refl e
unit_no_l BigPoint c e = other_second 98 112 c refl e
unit_no_l DidotPoint c e = other_second 100 100 c refl e
unit_no_l Cicero c e = other_second 99 99 c refl e
unit_no_l ScaledPoint c e = other_second 115 112 c refl e

number_first : (parts : DimensionParts) → parts_text parts ≡ (sign_text parts.sign ++ (parts.whole ++ fraction_text parts.fraction)) ++ unit_text parts.unit
number_first parts = simp append_assoc refl

-- No dimension ends with `l`.
ends_otherwise : (field : List ℕ) (z : ℤ) (a first : List ℕ) (c : ℕ) → IsDimension field z → field ≡ a ++ (first ++ c ∷ 108 ∷ []) → ⊥
ends_otherwise field z a first c h e =
    let parts = h.text.parts in
    unit_no_l parts.unit c
    (longer_end (sign_text parts.sign ++ (parts.whole ++ fraction_text parts.fraction)) a (unit_text parts.unit) first (c ∷ 108 ∷ []) (unit_size parts.unit) (sym (number_first parts) ∙ sym h.text.text_is ∙ e))

given_in : (order : Order) (text : List ℕ) (z : ℤ) → IsDimension text z → amount_in order text ≡ Ok (amount order z)
unfolding amount_in
given_in order text z h = rw (dimension_read text z h) refl

-- The amount that a field writes is read.
pub amount_given : (field : List ℕ) (order : Order) (z : ℤ) → IsAmount field order z → amount_of field ≡ Ok (amount order z)
unfolding amount_of
amount_given field Normal z h =
    rw (
      before_none (codes "filll") field (λ number e. ends_otherwise field z number (codes "fil") 108 h e),
      before_none (codes "fill") field (λ number e. ends_otherwise field z number (codes "fi") 108 h e),
      before_none (codes "fil") field (λ number e. ends_otherwise field z number (codes "f") 105 h e),
    ) (given_in Normal field z h)
amount_given field Fil z (number, e, h) =
    rw (
      e,
      before_none (codes "filll") (number ++ codes "fil") (λ other same. fil_no_filll number other same),
      before_none (codes "fill") (number ++ codes "fil") (λ other same. fil_no_fill number other same),
      before_is (codes "fil") number,
    ) (given_in Fil (number ++ codes "pt") z h)
amount_given field Fill z (number, e, h) =
    rw (
      e,
      before_none (codes "filll") (number ++ codes "fill") (λ other same. fill_no_filll number other same),
      before_is (codes "fill") number,
    ) (given_in Fill (number ++ codes "pt") z h)
amount_given field Filll z (number, e, h) = rw (e, before_is (codes "filll") number) (given_in Filll (number ++ codes "pt") z h)

amount_is : (field : List ℕ) (one other : Amount) → one ≡ other → IsAmount field one.order one.size → IsAmount field other.order other.size
amount_is field one other e h = let P : Amount → Type 0 = λ a. IsAmount field a.order a.size in subst P e h

read_in : (order : Order) (text : List ℕ) (r : Result ℤ DimenFault) (a : Amount) → read_dimension text ≡ r → map_ok (amount order) (dimension_or r) ≡ Ok a → (z : ℤ) × IsDimension text z × (amount order z ≡ a)
read_in order text (Err fault) a e h = absurd (cc)
read_in order text (Ok z) a e h = (z, reads_dimension text z e, cc)

made_in : (order : Order) (text : List ℕ) (a : Amount) → amount_in order text ≡ Ok a → (z : ℤ) × IsDimension text z × (amount order z ≡ a)
unfolding amount_in
made_in order text a h = read_in order text (read_dimension text) a refl h

by_fil : (field : List ℕ) (a : Amount) (o : Option (List ℕ)) → before_unit (codes "fil") field ≡ o → amount_or Fil o (amount_in Normal field) ≡ Ok a → IsAmount field a.order a.size
by_fil field a (Some number) e h =
    let made = made_in Fil (number ++ codes "pt") a h in
    amount_is field (amount Fil made.0) a made.2 (number, before_said (codes "fil") field number e, made.1)
by_fil field a None e h =
    let made = made_in Normal field a h in
    amount_is field (amount Normal made.0) a made.2 made.1

by_fill : (field : List ℕ) (a : Amount) (o : Option (List ℕ)) → before_unit (codes "fill") field ≡ o → amount_or Fill o (amount_or Fil (before_unit (codes "fil") field) (amount_in Normal field)) ≡ Ok a → IsAmount field a.order a.size
by_fill field a (Some number) e h =
    let made = made_in Fill (number ++ codes "pt") a h in
    amount_is field (amount Fill made.0) a made.2 (number, before_said (codes "fill") field number e, made.1)
by_fill field a None e h = by_fil field a (before_unit (codes "fil") field) refl h

by_filll : (field : List ℕ) (a : Amount) (o : Option (List ℕ)) → before_unit (codes "filll") field ≡ o → amount_or Filll o (amount_or Fill (before_unit (codes "fill") field) (amount_or Fil (before_unit (codes "fil") field) (amount_in Normal field))) ≡ Ok a → IsAmount field a.order a.size
by_filll field a (Some number) e h =
    let made = made_in Filll (number ++ codes "pt") a h in
    amount_is field (amount Filll made.0) a made.2 (number, before_said (codes "filll") field number e, made.1)
by_filll field a None e h = by_fill field a (before_unit (codes "fill") field) refl h

-- The field writes the amount that is read.
pub gives_amount : (field : List ℕ) (a : Amount) → amount_of field ≡ Ok a → IsAmount field a.order a.size
unfolding amount_of
gives_amount field a h = by_filll field a (before_unit (codes "filll") field) refl h

fault_in : (order : Order) (r : Result ℤ DimenFault) (cause : Cause) → map_ok (amount order) (dimension_or r) ≡ Err cause → cause ≡ Dimension
fault_in order (Err fault) cause h = cc
fault_in order (Ok z) cause h = absurd (cc)

no_amount_in : (order : Order) (text : List ℕ) (cause : Cause) → amount_in order text ≡ Err cause → cause ≡ Dimension
unfolding amount_in
no_amount_in order text cause h = fault_in order (read_dimension text) cause h

fault_by : (order : Order) (o : Option (List ℕ)) (other : Result Amount Cause) (cause : Cause) → (other ≡ Err cause → cause ≡ Dimension) → amount_or order o other ≡ Err cause → cause ≡ Dimension
fault_by order None other cause more h = more h
fault_by order (Some number) other cause more h = no_amount_in order (number ++ codes "pt") cause h

-- If a field writes no amount, the cause is Dimension.
pub amount_fault : (field : List ℕ) (cause : Cause) → amount_of field ≡ Err cause → cause ≡ Dimension
unfolding amount_of
amount_fault field cause h =
    fault_by Filll (before_unit (codes "filll") field) _ cause
    (λ more. fault_by Fill (before_unit (codes "fill") field) _ cause
    (λ less. fault_by Fil (before_unit (codes "fil") field) _ cause (λ least. no_amount_in Normal field cause least) less) more) h
