-- The cause that the function names holds of the fields after `box` and `copy`.
use Rattle.std.proofs.Common.{◌≡◌, ℕ, pos, Bool, true, false, List, [], ◌∷◌, Option, Some, None, Ok, Err, codes, refl, ap, sym, ◌∙◌, subst, arith}
use Rattle.std.specs.Str.{bytes_eq}
use Rattle.job_machine.specs.declared.command.Transfer.{Transfer}
use Rattle.boxglue_script.specs.declared.cause.Cause.{Cause}
use Rattle.boxglue_script.specs.declared.cause.Cause.TheVariants.{Word, Missing, Number}
use Rattle.boxglue_script.specs.declared.name.Name.TheVariants as names
use Rattle.boxglue_script.specs.Grammar.{register_count, taking_text}
use Rattle.boxglue_script.specs.Causes.{IsWord, IsFieldCause}
use Rattle.boxglue_script.specs.Private.Reading.{number_of, last_dimension, map_ok, append, shift_of, append_of, command_named, command_of, last_value, value_first}
use Rattle.boxglue_script.proofs.FieldLaws.{same_bytes}
use Rattle.boxglue_script.proofs.NameLaws.{named}
use Rattle.boxglue_script.proofs.CauseForms.{missing, has_bad_elsewhere, as_cause, not_made, zero_text, zero_names, zero_dimension, shift_is_word, letter, letter_no_number, no_number_cause, dimension_cause}

module _ (taking : Transfer) where
  append_reads : (rest : List (List ℕ)) → command_of (taking_text taking ∷ rest) ≡ append_of taking rest
  unfolding command_named
  append_reads rest = named (names.Append taking) rest

  register_lacks : command_of (taking_text taking ∷ []) ≡ Err Missing
  unfolding append_of value_first
  register_lacks = append_reads []

  no_register : (r : List ℕ) (rest : List (List ℕ)) → number_of register_count r ≡ None → command_of (taking_text taking ∷ r ∷ rest) ≡ Err Number
  unfolding append_of value_first
  no_register r rest e = append_reads (r ∷ rest) ∙ (rw e refl)

  after_register : (r : List ℕ) (n : ℕ) (rest : List (List ℕ)) → number_of register_count r ≡ Some n → command_of (taking_text taking ∷ r ∷ rest) ≡ map_ok (append taking n) (shift_of rest)
  unfolding append_of value_first
  after_register r n rest e = append_reads (r ∷ rest) ∙ (rw e refl)

  register_alone : (r : List ℕ) (n : ℕ) → number_of register_count r ≡ Some n → command_of (taking_text taking ∷ r ∷ []) ≡ Ok (append taking n (pos 0))
  unfolding shift_of
  register_alone r n e = after_register r n [] e

  no_shift : (r : List ℕ) (n : ℕ) (w : List ℕ) (rest : List (List ℕ)) → number_of register_count r ≡ Some n → bytes_eq w (codes "shift") ≡ false → command_of (taking_text taking ∷ r ∷ w ∷ rest) ≡ Err Word
  unfolding shift_of
  no_shift r n w rest e f = after_register r n (w ∷ rest) e ∙ (rw f refl)

  after_shift : (r : List ℕ) (n : ℕ) (rest : List (List ℕ)) → number_of register_count r ≡ Some n → command_of (taking_text taking ∷ r ∷ codes "shift" ∷ rest) ≡ map_ok (append taking n) (last_dimension rest)
  unfolding shift_of
  after_shift r n rest e = after_register r n (codes "shift" ∷ rest) e

  zero_shift : (r : List ℕ) (n : ℕ) → number_of register_count r ≡ Some n → command_of (taking_text taking ∷ r ∷ codes "shift" ∷ codes "0sp" ∷ []) ≡ Ok (append taking n (pos 0))
  unfolding last_value value_first
  zero_shift r n e = after_shift r n (codes "0sp" ∷ []) e ∙ (rw zero_dimension refl)

  by_word : (r : List ℕ) (n : ℕ) (w : List ℕ) (rest : List (List ℕ)) (b : Bool) (cause : Cause) → number_of register_count r ≡ Some n → bytes_eq w (codes "shift") ≡ b → command_of (taking_text taking ∷ r ∷ w ∷ rest) ≡ Err cause → IsFieldCause cause (taking_text taking ∷ r ∷ w ∷ rest)
  by_word r n w rest true cause e f h =
      let same : w ≡ codes "shift" = same_bytes w (codes "shift") f in
      let P : List ℕ → Type 0 = λ x. IsFieldCause cause (taking_text taking ∷ r ∷ x ∷ rest) in
      let Q : List ℕ → Type 0 = λ x. command_of (taking_text taking ∷ r ∷ x ∷ rest) ≡ Err cause in
      subst P (sym same)
      (dimension_cause (taking_text taking ∷ r ∷ codes "shift" ∷ []) (append taking n) (λ more. after_shift r n more e) rest cause
      (not_made (append taking n) (last_dimension rest) cause (sym (after_shift r n rest e) ∙ subst Q same h)))
  by_word r n w rest false cause e f h =
      as_cause _ Word cause (let no = no_shift r n w rest e f in cc)
      (has_bad_elsewhere IsWord (taking_text taking ∷ r ∷ []) w rest (codes "shift") (codes "0sp" ∷ []) (append taking n (pos 0)) shift_is_word (zero_shift r n e)
      (λ later. (Word, no_shift r n w later e f)) (λ later. (Word, no_shift r n letter later e refl)))

  shift_cause : (r : List ℕ) (n : ℕ) (rest : List (List ℕ)) (cause : Cause) → number_of register_count r ≡ Some n → command_of (taking_text taking ∷ r ∷ rest) ≡ Err cause → IsFieldCause cause (taking_text taking ∷ r ∷ rest)
  shift_cause r n [] cause e h = absurd (let right = register_alone r n e in cc)
  shift_cause r n (w ∷ rest) cause e h = by_word r n w rest (bytes_eq w (codes "shift")) cause e refl h

  by_register : (r : List ℕ) (rest : List (List ℕ)) (o : Option ℕ) (cause : Cause) → number_of register_count r ≡ o → command_of (taking_text taking ∷ r ∷ rest) ≡ Err cause → IsFieldCause cause (taking_text taking ∷ r ∷ rest)
  by_register r rest None cause e h =
      let is : Number ≡ cause = let no = no_register r rest e in cc in
      no_number_cause register_count (taking_text taking ∷ []) r rest [] (append taking 0 (pos 0)) cause (rw e (ap (λ (c : Cause). Err c) is)) (register_alone zero_text 0 (zero_names register_count (omega arith)))
      (λ later. (Number, no_register r later e)) (λ later. (Number, no_register letter later (letter_no_number register_count)))
  by_register r rest (Some n) cause e h = shift_cause r n rest cause e h

  pub append_cause : (rest : List (List ℕ)) (cause : Cause) → command_of (taking_text taking ∷ rest) ≡ Err cause → IsFieldCause cause (taking_text taking ∷ rest)
  append_cause [] cause h =
      as_cause _ Missing cause (let lacks = register_lacks in cc)
      (missing (taking_text taking ∷ []) (zero_text ∷ []) (append taking 0 (pos 0)) (Missing, register_lacks) (register_alone zero_text 0 (zero_names register_count (omega arith))))
  append_cause (r ∷ rest) cause h = by_register r rest (number_of register_count r) cause refl h
