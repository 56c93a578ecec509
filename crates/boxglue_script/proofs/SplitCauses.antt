-- The cause that the function names holds of the fields after `vsplit`.
use Rattle.std.proofs.Common.{◌≡◌, ℕ, ℤ, pos, Bool, true, false, List, [], ◌∷◌, Option, Some, None, Result, Ok, Err, codes, refl, ap, sym, ◌∙◌, subst, arith}
use Rattle.std.specs.Str.{bytes_eq}
use Rattle.job_machine.specs.declared.command.Command.{Command}
use Rattle.scaled_core.specs.declared.fault.DimenFault.{DimenFault}
use Rattle.scaled_core.specs.declared.fault.DimenFault.TheVariants.{NotADimension}
use Rattle.scaled_core.specs.ParsedTexts.{read_dimension}
use Rattle.boxglue_script.specs.declared.cause.Cause.{Cause}
use Rattle.boxglue_script.specs.declared.cause.Cause.TheVariants.{Word, Missing, Number, Dimension}
use Rattle.boxglue_script.specs.declared.name.Name.TheVariants as names
use Rattle.boxglue_script.specs.Grammar.{register_count}
use Rattle.boxglue_script.specs.Causes.{IsWord, IsFieldCause}
use Rattle.boxglue_script.specs.Private.Reading.{number_of, last_number, map_ok, split_command, split_into, split_height, split_to, split_of, command_named, command_of, last_value, value_first}
use Rattle.boxglue_script.proofs.FieldLaws.{same_bytes}
use Rattle.boxglue_script.proofs.NameLaws.{named}
use Rattle.boxglue_script.proofs.CauseForms.{missing, has_bad_elsewhere, as_cause, not_made, zero_text, zero_names, zero_dimension, to_is_word, into_is_word, letter, letter_no_number, letter_no_dimension, no_number_cause, no_dimension_cause, number_cause}

abbrev vsplit : List ℕ
vsplit = codes "vsplit"

abbrev to : List ℕ
to = codes "to"

abbrev into : List ℕ
into = codes "into"

split_reads : (rest : List (List ℕ)) → command_of (vsplit ∷ rest) ≡ split_of rest
unfolding command_named
split_reads rest = named names.Split rest

-- The first register.
register_lacks : command_of (vsplit ∷ []) ≡ Err Missing
unfolding split_of value_first
register_lacks = split_reads []

no_register : (r : List ℕ) (rest : List (List ℕ)) → number_of register_count r ≡ None → command_of (vsplit ∷ r ∷ rest) ≡ Err Number
unfolding split_of value_first
no_register r rest e = split_reads (r ∷ rest) ∙ (rw e refl)

module _ (r : List ℕ) (n : ℕ) (is : number_of register_count r ≡ Some n) where
  after_register : (rest : List (List ℕ)) → command_of (vsplit ∷ r ∷ rest) ≡ split_to n rest
  unfolding split_of value_first
  after_register rest = split_reads (r ∷ rest) ∙ (rw is refl)

  -- The word after it.
  to_lacks : command_of (vsplit ∷ r ∷ []) ≡ Err Missing
  unfolding split_to
  to_lacks = after_register []

  no_to : (w : List ℕ) (rest : List (List ℕ)) → bytes_eq w to ≡ false → command_of (vsplit ∷ r ∷ w ∷ rest) ≡ Err Word
  unfolding split_to
  no_to w rest e = after_register (w ∷ rest) ∙ (rw e refl)

  after_to : (rest : List (List ℕ)) → command_of (vsplit ∷ r ∷ to ∷ rest) ≡ split_height n rest
  unfolding split_to
  after_to rest = after_register (to ∷ rest)

  -- The height.
  height_lacks : command_of (vsplit ∷ r ∷ to ∷ []) ≡ Err Missing
  unfolding split_height value_first
  height_lacks = after_to []

  no_height : (d : List ℕ) (rest : List (List ℕ)) (fault : DimenFault) → read_dimension d ≡ Err fault → command_of (vsplit ∷ r ∷ to ∷ d ∷ rest) ≡ Err Dimension
  unfolding split_height value_first
  no_height d rest fault e = after_to (d ∷ rest) ∙ (rw e refl)

  after_height : (d : List ℕ) (z : ℤ) (rest : List (List ℕ)) → read_dimension d ≡ Ok z → command_of (vsplit ∷ r ∷ to ∷ d ∷ rest) ≡ split_into n z rest
  unfolding split_height value_first
  after_height d z rest e = after_to (d ∷ rest) ∙ (rw e refl)

  module _ (d : List ℕ) (z : ℤ) (reads : read_dimension d ≡ Ok z) where
    -- The word after it.
    into_lacks : command_of (vsplit ∷ r ∷ to ∷ d ∷ []) ≡ Err Missing
    unfolding split_into
    into_lacks = after_height d z [] reads

    no_into : (w : List ℕ) (rest : List (List ℕ)) → bytes_eq w into ≡ false → command_of (vsplit ∷ r ∷ to ∷ d ∷ w ∷ rest) ≡ Err Word
    unfolding split_into
    no_into w rest e = after_height d z (w ∷ rest) reads ∙ (rw e refl)

    -- The last register.
    after_into : (rest : List (List ℕ)) → command_of (vsplit ∷ r ∷ to ∷ d ∷ into ∷ rest) ≡ map_ok (split_command n z) (last_number register_count rest)
    unfolding split_into
    after_into rest = after_height d z (into ∷ rest) reads

    whole : command_of (vsplit ∷ r ∷ to ∷ d ∷ into ∷ zero_text ∷ []) ≡ Ok (split_command n z 0)
    unfolding last_value value_first
    whole = after_into (zero_text ∷ []) ∙ (rw (zero_names register_count (omega arith)) refl)

    by_into : (w : List ℕ) (rest : List (List ℕ)) (b : Bool) (cause : Cause) → bytes_eq w into ≡ b → command_of (vsplit ∷ r ∷ to ∷ d ∷ w ∷ rest) ≡ Err cause → IsFieldCause cause (vsplit ∷ r ∷ to ∷ d ∷ w ∷ rest)
    by_into w rest true cause f h =
        let same : w ≡ into = same_bytes w into f in
        let P : List ℕ → Type 0 = λ x. IsFieldCause cause (vsplit ∷ r ∷ to ∷ d ∷ x ∷ rest) in
        let Q : List ℕ → Type 0 = λ x. command_of (vsplit ∷ r ∷ to ∷ d ∷ x ∷ rest) ≡ Err cause in
        subst P (sym same)
        (number_cause register_count (omega arith) (vsplit ∷ r ∷ to ∷ d ∷ into ∷ []) (split_command n z) after_into rest cause
        (not_made (split_command n z) (last_number register_count rest) cause (sym (after_into rest) ∙ subst Q same h)))
    by_into w rest false cause f h =
        as_cause _ Word cause (let no = no_into w rest f in cc)
        (has_bad_elsewhere IsWord (vsplit ∷ r ∷ to ∷ d ∷ []) w rest into (zero_text ∷ []) (split_command n z 0) into_is_word whole
        (λ later. (Word, no_into w later f)) (λ later. (Word, no_into letter later refl)))

    into_cause : (rest : List (List ℕ)) (cause : Cause) → command_of (vsplit ∷ r ∷ to ∷ d ∷ rest) ≡ Err cause → IsFieldCause cause (vsplit ∷ r ∷ to ∷ d ∷ rest)
    into_cause [] cause h =
        as_cause _ Missing cause (let lacks = into_lacks in cc)
        (missing (vsplit ∷ r ∷ to ∷ d ∷ []) (into ∷ zero_text ∷ []) (split_command n z 0) (Missing, into_lacks) whole)
    into_cause (w ∷ rest) cause h = by_into w rest (bytes_eq w into) cause refl h

  abbrev zero_split : Command
  zero_split = split_command n (pos 0) 0

  zero_whole : command_of (vsplit ∷ r ∷ to ∷ codes "0sp" ∷ into ∷ zero_text ∷ []) ≡ Ok zero_split
  zero_whole = whole (codes "0sp") (pos 0) zero_dimension

  by_height : (d : List ℕ) (rest : List (List ℕ)) (o : Result ℤ DimenFault) (cause : Cause) → read_dimension d ≡ o → command_of (vsplit ∷ r ∷ to ∷ d ∷ rest) ≡ Err cause → IsFieldCause cause (vsplit ∷ r ∷ to ∷ d ∷ rest)
  by_height d rest (Err fault) cause e h =
      let same : Dimension ≡ cause = let no = no_height d rest fault e in cc in
      no_dimension_cause (vsplit ∷ r ∷ to ∷ []) d rest (into ∷ zero_text ∷ []) zero_split cause (rw e (ap (λ (c : Cause). Err c) same)) zero_whole
      (λ later. (Dimension, no_height d later fault e)) (λ later. (Dimension, no_height letter later NotADimension letter_no_dimension))
  by_height d rest (Ok z) cause e h = into_cause d z e rest cause h

  height_cause : (rest : List (List ℕ)) (cause : Cause) → command_of (vsplit ∷ r ∷ to ∷ rest) ≡ Err cause → IsFieldCause cause (vsplit ∷ r ∷ to ∷ rest)
  height_cause [] cause h =
      as_cause _ Missing cause (let lacks = height_lacks in cc)
      (missing (vsplit ∷ r ∷ to ∷ []) (codes "0sp" ∷ into ∷ zero_text ∷ []) zero_split (Missing, height_lacks) zero_whole)
  height_cause (d ∷ rest) cause h = by_height d rest (read_dimension d) cause refl h

  by_to : (w : List ℕ) (rest : List (List ℕ)) (b : Bool) (cause : Cause) → bytes_eq w to ≡ b → command_of (vsplit ∷ r ∷ w ∷ rest) ≡ Err cause → IsFieldCause cause (vsplit ∷ r ∷ w ∷ rest)
  by_to w rest true cause f h =
      let same : w ≡ to = same_bytes w to f in
      let P : List ℕ → Type 0 = λ x. IsFieldCause cause (vsplit ∷ r ∷ x ∷ rest) in
      let Q : List ℕ → Type 0 = λ x. command_of (vsplit ∷ r ∷ x ∷ rest) ≡ Err cause in
      subst P (sym same) (height_cause rest cause (subst Q same h))
  by_to w rest false cause f h =
      as_cause _ Word cause (let no = no_to w rest f in cc)
      (has_bad_elsewhere IsWord (vsplit ∷ r ∷ []) w rest to (codes "0sp" ∷ into ∷ zero_text ∷ []) zero_split to_is_word zero_whole
      (λ later. (Word, no_to w later f)) (λ later. (Word, no_to letter later refl)))

  to_cause : (rest : List (List ℕ)) (cause : Cause) → command_of (vsplit ∷ r ∷ rest) ≡ Err cause → IsFieldCause cause (vsplit ∷ r ∷ rest)
  to_cause [] cause h =
      as_cause _ Missing cause (let lacks = to_lacks in cc)
      (missing (vsplit ∷ r ∷ []) (to ∷ codes "0sp" ∷ into ∷ zero_text ∷ []) zero_split (Missing, to_lacks) zero_whole)
  to_cause (w ∷ rest) cause h = by_to w rest (bytes_eq w to) cause refl h

-- 0 for the registers and the height.
zero_read : command_of (vsplit ∷ zero_text ∷ to ∷ codes "0sp" ∷ into ∷ zero_text ∷ []) ≡ Ok (split_command 0 (pos 0) 0)
zero_read = zero_whole zero_text 0 (zero_names register_count (omega arith))

by_register : (r : List ℕ) (rest : List (List ℕ)) (o : Option ℕ) (cause : Cause) → number_of register_count r ≡ o → command_of (vsplit ∷ r ∷ rest) ≡ Err cause → IsFieldCause cause (vsplit ∷ r ∷ rest)
by_register r rest None cause e h =
    let same : Number ≡ cause = let no = no_register r rest e in cc in
    no_number_cause register_count (vsplit ∷ []) r rest (to ∷ codes "0sp" ∷ into ∷ zero_text ∷ []) (split_command 0 (pos 0) 0) cause (rw e (ap (λ (c : Cause). Err c) same)) zero_read
    (λ later. (Number, no_register r later e)) (λ later. (Number, no_register letter later (letter_no_number register_count)))
by_register r rest (Some n) cause e h = to_cause r n e rest cause h

pub split_cause : (rest : List (List ℕ)) (cause : Cause) → command_of (vsplit ∷ rest) ≡ Err cause → IsFieldCause cause (vsplit ∷ rest)
split_cause [] cause h =
    as_cause _ Missing cause (let lacks = register_lacks in cc)
    (missing (vsplit ∷ []) (zero_text ∷ to ∷ codes "0sp" ∷ into ∷ zero_text ∷ []) (split_command 0 (pos 0) 0) (Missing, register_lacks) zero_read)
split_cause (r ∷ rest) cause h = by_register r rest (number_of register_count r) cause refl h
