-- The cause that the function names holds of the fields after `glue`.
use Rattle.std.proofs.Common.{◌≡◌, ℕ, ℤ, pos, Bool, true, false, List, [], ◌∷◌, Result, Ok, Err, codes, refl, ap, sym, ◌∙◌, subst}
use Rattle.std.specs.Str.{bytes_eq}
use Rattle.scaled_core.specs.declared.fault.DimenFault.{DimenFault}
use Rattle.scaled_core.specs.declared.fault.DimenFault.TheVariants.{NotADimension}
use Rattle.scaled_core.specs.ParsedTexts.{read_dimension}
use Rattle.job_machine.specs.declared.command.Command.{Command}
use Rattle.job_machine.specs.declared.command.Command.TheVariants.{Glue}
use Rattle.boxglue_script.specs.declared.amounts.Amount.{Amount}
use Rattle.boxglue_script.specs.declared.cause.Cause.{Cause}
use Rattle.boxglue_script.specs.declared.cause.Cause.TheVariants.{Word, Missing, Dimension}
use Rattle.boxglue_script.specs.declared.name.Name.TheVariants as names
use Rattle.boxglue_script.specs.Causes.{IsWord, IsFieldCause}
use Rattle.boxglue_script.specs.Private.Reading.{amount_of, last_amount, map_ok, no_amount, glue, last_shrink_of, shrink_of, parts_of, glue_of, command_named, command_of, last_value, value_first}
use Rattle.boxglue_script.proofs.FieldLaws.{same_bytes}
use Rattle.boxglue_script.proofs.NameLaws.{named}
use Rattle.boxglue_script.proofs.CauseForms.{missing, has_bad_elsewhere, as_cause, not_made, twice, zero_dimension, zero_amount, plus_is_word, minus_is_word, letter, letter_no_dimension, letter_no_amount, no_dimension_cause, no_amount_cause, amount_cause}

abbrev zero : List ℕ
zero = codes "0sp"

-- The glue of a width, a stretch and a shrink as a command.
abbrev said : ℤ → Amount → Amount → Command
said width stretch shrink = Glue (glue width stretch shrink)

pub glue_reads : (rest : List (List ℕ)) → command_of (codes "glue" ∷ rest) ≡ map_ok Glue (glue_of rest)
unfolding command_named
glue_reads rest = named names.Glue rest

width_lacks : command_of (codes "glue" ∷ []) ≡ Err Missing
unfolding glue_of value_first
width_lacks = glue_reads []

no_width : (d : List ℕ) (rest : List (List ℕ)) (fault : DimenFault) → read_dimension d ≡ Err fault → command_of (codes "glue" ∷ d ∷ rest) ≡ Err Dimension
unfolding glue_of value_first
no_width d rest fault e = glue_reads (d ∷ rest) ∙ (rw e refl)

after_width : (d : List ℕ) (z : ℤ) (rest : List (List ℕ)) → read_dimension d ≡ Ok z → command_of (codes "glue" ∷ d ∷ rest) ≡ map_ok Glue (parts_of z rest)
unfolding glue_of value_first
after_width d z rest e = glue_reads (d ∷ rest) ∙ (rw e refl)

-- After a width.
module _ (d : List ℕ) (z : ℤ) (is : read_dimension d ≡ Ok z) where
  width_alone : command_of (codes "glue" ∷ d ∷ []) ≡ Ok (said z no_amount no_amount)
  unfolding parts_of
  width_alone = after_width d z [] is

  no_part : (w : List ℕ) (rest : List (List ℕ)) → bytes_eq w (codes "plus") ≡ false → bytes_eq w (codes "minus") ≡ false → command_of (codes "glue" ∷ d ∷ w ∷ rest) ≡ Err Word
  unfolding parts_of
  no_part w rest e f = after_width d z (w ∷ rest) is ∙ (rw (e, f) refl)

  after_minus : (rest : List (List ℕ)) → command_of (codes "glue" ∷ d ∷ codes "minus" ∷ rest) ≡ map_ok (said z no_amount) (last_amount rest)
  unfolding parts_of last_shrink_of
  after_minus rest = after_width d z (codes "minus" ∷ rest) is ∙ twice Glue (glue z no_amount) (last_amount rest)

  stretch_lacks : command_of (codes "glue" ∷ d ∷ codes "plus" ∷ []) ≡ Err Missing
  unfolding parts_of value_first
  stretch_lacks = after_width d z (codes "plus" ∷ []) is

  no_stretch : (x : List ℕ) (rest : List (List ℕ)) (cause : Cause) → amount_of x ≡ Err cause → command_of (codes "glue" ∷ d ∷ codes "plus" ∷ x ∷ rest) ≡ Err cause
  unfolding parts_of value_first
  no_stretch x rest cause e = after_width d z (codes "plus" ∷ x ∷ rest) is ∙ (rw e refl)

  after_stretch : (x : List ℕ) (a : Amount) (rest : List (List ℕ)) → amount_of x ≡ Ok a → command_of (codes "glue" ∷ d ∷ codes "plus" ∷ x ∷ rest) ≡ map_ok Glue (shrink_of z a rest)
  unfolding parts_of value_first
  after_stretch x a rest e = after_width d z (codes "plus" ∷ x ∷ rest) is ∙ (rw e refl)

  stretch_alone : (x : List ℕ) (a : Amount) → amount_of x ≡ Ok a → command_of (codes "glue" ∷ d ∷ codes "plus" ∷ x ∷ []) ≡ Ok (said z a no_amount)
  unfolding shrink_of
  stretch_alone x a e = after_stretch x a [] e

  no_minus : (x : List ℕ) (a : Amount) (w : List ℕ) (rest : List (List ℕ)) → amount_of x ≡ Ok a → bytes_eq w (codes "minus") ≡ false → command_of (codes "glue" ∷ d ∷ codes "plus" ∷ x ∷ w ∷ rest) ≡ Err Word
  unfolding shrink_of
  no_minus x a w rest e f = after_stretch x a (w ∷ rest) e ∙ (rw f refl)

  after_both : (x : List ℕ) (a : Amount) (rest : List (List ℕ)) → amount_of x ≡ Ok a → command_of (codes "glue" ∷ d ∷ codes "plus" ∷ x ∷ codes "minus" ∷ rest) ≡ map_ok (said z a) (last_amount rest)
  unfolding shrink_of last_shrink_of
  after_both x a rest e = after_stretch x a (codes "minus" ∷ rest) e ∙ twice Glue (glue z a) (last_amount rest)

  last_read : (make : Amount → Command) → map_ok make (last_amount (zero ∷ [])) ≡ Ok (make no_amount)
  unfolding last_value value_first
  last_read make = rw zero_amount refl

  -- The shrink after a stretch.
  by_minus : (x : List ℕ) (a : Amount) (w : List ℕ) (rest : List (List ℕ)) (b : Bool) (cause : Cause) → amount_of x ≡ Ok a → bytes_eq w (codes "minus") ≡ b → command_of (codes "glue" ∷ d ∷ codes "plus" ∷ x ∷ w ∷ rest) ≡ Err cause → IsFieldCause cause (codes "glue" ∷ d ∷ codes "plus" ∷ x ∷ w ∷ rest)
  by_minus x a w rest true cause e f h =
      let minus : w ≡ codes "minus" = same_bytes w (codes "minus") f in
      let P : List ℕ → Type 0 = λ y. IsFieldCause cause (codes "glue" ∷ d ∷ codes "plus" ∷ x ∷ y ∷ rest) in
      let Q : List ℕ → Type 0 = λ y. command_of (codes "glue" ∷ d ∷ codes "plus" ∷ x ∷ y ∷ rest) ≡ Err cause in
      subst P (sym minus)
      (amount_cause (codes "glue" ∷ d ∷ codes "plus" ∷ x ∷ codes "minus" ∷ []) (said z a) (λ more. after_both x a more e) rest cause
      (not_made (said z a) (last_amount rest) cause (sym (after_both x a rest e) ∙ subst Q minus h)))
  by_minus x a w rest false cause e f h =
      as_cause _ Word cause (let no = no_minus x a w rest e f in cc)
      (has_bad_elsewhere IsWord (codes "glue" ∷ d ∷ codes "plus" ∷ x ∷ []) w rest (codes "minus") (zero ∷ []) (said z a no_amount) minus_is_word (after_both x a (zero ∷ []) e ∙ last_read (said z a))
      (λ later. (Word, no_minus x a w later e f)) (λ later. (Word, no_minus x a letter later e refl)))

  shrink_cause : (x : List ℕ) (a : Amount) (rest : List (List ℕ)) (cause : Cause) → amount_of x ≡ Ok a → command_of (codes "glue" ∷ d ∷ codes "plus" ∷ x ∷ rest) ≡ Err cause → IsFieldCause cause (codes "glue" ∷ d ∷ codes "plus" ∷ x ∷ rest)
  shrink_cause x a [] cause e h = absurd (let right = stretch_alone x a e in cc)
  shrink_cause x a (w ∷ rest) cause e h = by_minus x a w rest (bytes_eq w (codes "minus")) cause e refl h

  by_stretch : (x : List ℕ) (rest : List (List ℕ)) (r : Result Amount Cause) (cause : Cause) → amount_of x ≡ r → command_of (codes "glue" ∷ d ∷ codes "plus" ∷ x ∷ rest) ≡ Err cause → IsFieldCause cause (codes "glue" ∷ d ∷ codes "plus" ∷ x ∷ rest)
  by_stretch x rest (Err other) cause e h =
      let is : other ≡ cause = let no = no_stretch x rest other e in cc in
      no_amount_cause (codes "glue" ∷ d ∷ codes "plus" ∷ []) x rest [] (said z no_amount no_amount) cause (e ∙ ap (λ (c : Cause). Err c) is) (stretch_alone zero no_amount zero_amount)
      (λ later. (other, no_stretch x later other e)) (λ later. (Dimension, no_stretch letter later Dimension letter_no_amount))
  by_stretch x rest (Ok a) cause e h = shrink_cause x a rest cause e h

  plus_cause : (rest : List (List ℕ)) (cause : Cause) → command_of (codes "glue" ∷ d ∷ codes "plus" ∷ rest) ≡ Err cause → IsFieldCause cause (codes "glue" ∷ d ∷ codes "plus" ∷ rest)
  plus_cause [] cause h =
      as_cause _ Missing cause (let lacks = stretch_lacks in cc)
      (missing (codes "glue" ∷ d ∷ codes "plus" ∷ []) (zero ∷ []) (said z no_amount no_amount) (Missing, stretch_lacks) (stretch_alone zero no_amount zero_amount))
  plus_cause (x ∷ rest) cause h = by_stretch x rest (amount_of x) cause refl h

  minus_cause : (rest : List (List ℕ)) (cause : Cause) → command_of (codes "glue" ∷ d ∷ codes "minus" ∷ rest) ≡ Err cause → IsFieldCause cause (codes "glue" ∷ d ∷ codes "minus" ∷ rest)
  minus_cause rest cause h =
      amount_cause (codes "glue" ∷ d ∷ codes "minus" ∷ []) (said z no_amount) after_minus rest cause (not_made (said z no_amount) (last_amount rest) cause (sym (after_minus rest) ∙ h))

  along_word : (w word : List ℕ) (rest : List (List ℕ)) (cause : Cause) → bytes_eq w word ≡ true → (command_of (codes "glue" ∷ d ∷ word ∷ rest) ≡ Err cause → IsFieldCause cause (codes "glue" ∷ d ∷ word ∷ rest)) → command_of (codes "glue" ∷ d ∷ w ∷ rest) ≡ Err cause → IsFieldCause cause (codes "glue" ∷ d ∷ w ∷ rest)
  along_word w word rest cause e there h =
      let same : w ≡ word = same_bytes w word e in
      let P : List ℕ → Type 0 = λ x. IsFieldCause cause (codes "glue" ∷ d ∷ x ∷ rest) in
      let Q : List ℕ → Type 0 = λ x. command_of (codes "glue" ∷ d ∷ x ∷ rest) ≡ Err cause in
      subst P (sym same) (there (subst Q same h))

  by_word : (w : List ℕ) (rest : List (List ℕ)) (plus minus : Bool) (cause : Cause) → bytes_eq w (codes "plus") ≡ plus → bytes_eq w (codes "minus") ≡ minus → command_of (codes "glue" ∷ d ∷ w ∷ rest) ≡ Err cause → IsFieldCause cause (codes "glue" ∷ d ∷ w ∷ rest)
  by_word w rest true minus cause e f h = along_word w (codes "plus") rest cause e (plus_cause rest cause) h
  by_word w rest false true cause e f h = along_word w (codes "minus") rest cause f (minus_cause rest cause) h
  by_word w rest false false cause e f h =
      as_cause _ Word cause (let no = no_part w rest e f in cc)
      (has_bad_elsewhere IsWord (codes "glue" ∷ d ∷ []) w rest (codes "plus") (zero ∷ []) (said z no_amount no_amount) plus_is_word (stretch_alone zero no_amount zero_amount)
      (λ later. (Word, no_part w later e f)) (λ later. (Word, no_part letter later refl refl)))

  parts_cause : (rest : List (List ℕ)) (cause : Cause) → command_of (codes "glue" ∷ d ∷ rest) ≡ Err cause → IsFieldCause cause (codes "glue" ∷ d ∷ rest)
  parts_cause [] cause h = absurd (let right = width_alone in cc)
  parts_cause (w ∷ rest) cause h = by_word w rest (bytes_eq w (codes "plus")) (bytes_eq w (codes "minus")) cause refl refl h

by_width : (d : List ℕ) (rest : List (List ℕ)) (r : Result ℤ DimenFault) (cause : Cause) → read_dimension d ≡ r → command_of (codes "glue" ∷ d ∷ rest) ≡ Err cause → IsFieldCause cause (codes "glue" ∷ d ∷ rest)
by_width d rest (Err fault) cause e h =
    let is : Dimension ≡ cause = let no = no_width d rest fault e in cc in
    no_dimension_cause (codes "glue" ∷ []) d rest [] (said (pos 0) no_amount no_amount) cause (rw e (ap (λ (c : Cause). Err c) is)) (width_alone zero (pos 0) zero_dimension)
    (λ later. (Dimension, no_width d later fault e)) (λ later. (Dimension, no_width letter later NotADimension letter_no_dimension))
by_width d rest (Ok z) cause e h = parts_cause d z e rest cause h

pub glue_cause : (rest : List (List ℕ)) (cause : Cause) → command_of (codes "glue" ∷ rest) ≡ Err cause → IsFieldCause cause (codes "glue" ∷ rest)
glue_cause [] cause h =
    as_cause _ Missing cause (let lacks = width_lacks in cc)
    (missing (codes "glue" ∷ []) (zero ∷ []) (said (pos 0) no_amount no_amount) (Missing, width_lacks) (width_alone zero (pos 0) zero_dimension))
glue_cause (d ∷ rest) cause h = by_width d rest (read_dimension d) cause refl h
