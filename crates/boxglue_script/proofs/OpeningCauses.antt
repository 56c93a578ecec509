-- The cause that the function names holds of the fields after `hbox`, `vbox` and `vtop`.
use Rattle.std.proofs.Common.{◌≡◌, ℕ, ℤ, pos, Bool, true, false, List, [], ◌∷◌, Some, None, Result, Ok, Err, codes, refl, ap, sym, ◌∙◌, subst, arith}
use Rattle.std.specs.Str.{bytes_eq}
use Rattle.pack_core.specs.declared.pack.Target.{Target}
use Rattle.pack_core.specs.declared.pack.Target.TheVariants.{Natural, To, Spread}
use Rattle.job_machine.specs.declared.command.BoxForm.{BoxForm}
use Rattle.job_machine.specs.declared.command.Command.{Command}
use Rattle.scaled_core.specs.declared.fault.DimenFault.{DimenFault}
use Rattle.scaled_core.specs.declared.fault.DimenFault.TheVariants.{NotADimension}
use Rattle.scaled_core.specs.ParsedTexts.{read_dimension}
use Rattle.boxglue_script.specs.declared.cause.Cause.{Cause}
use Rattle.boxglue_script.specs.declared.cause.Cause.TheVariants.{Word, Missing, Dimension}
use Rattle.boxglue_script.specs.declared.name.Name.TheVariants as names
use Rattle.boxglue_script.specs.Grammar.{register_count, form_text}
use Rattle.boxglue_script.specs.Causes.{IsWord, IsFieldCause}
use Rattle.boxglue_script.specs.Private.Reading.{last_number, map_ok, opening_command, opening_with_register, opening_into, opening_with_size, opening_of, command_named, command_of, last_value, value_first}
use Rattle.boxglue_script.proofs.FieldLaws.{same_bytes}
use Rattle.boxglue_script.proofs.NameLaws.{named}
use Rattle.boxglue_script.proofs.CauseForms.{missing, has_bad_elsewhere, as_cause, not_made, zero_text, zero_names, zero_dimension, into_is_word, letter, letter_no_dimension, no_dimension_cause, number_cause}

opening_named : (form : BoxForm) (rest : List (List ℕ)) → command_of (form_text form ∷ rest) ≡ opening_of form rest
unfolding command_named
opening_named form rest = named (names.Open form) rest

-- The opening of a list for a register, and for the enclosing list.
abbrev for_register : BoxForm → Target → ℕ → Command
for_register form target register = opening_command form target (Some register)

abbrev for_list : BoxForm → Target → Command
for_list form target = opening_command form target None

-- The register after a size.
register_reads : (form : BoxForm) (target : Target) (rest : List (List ℕ)) → opening_with_register form target rest ≡ map_ok (for_register form target) (last_number register_count rest)
unfolding opening_with_register
register_reads form target rest = refl

into_reads : (form : BoxForm) (target : Target) (rest : List (List ℕ)) → opening_into form target (codes "into" ∷ rest) ≡ opening_with_register form target rest
unfolding opening_into
into_reads form target rest = refl

nothing_reads : (form : BoxForm) (target : Target) → opening_into form target [] ≡ Ok (for_list form target)
unfolding opening_into
nothing_reads form target = refl

no_into : (form : BoxForm) (target : Target) (w : List ℕ) (rest : List (List ℕ)) → bytes_eq w (codes "into") ≡ false → opening_into form target (w ∷ rest) ≡ Err Word
unfolding opening_into
no_into form target w rest e = rw e refl

zero_read : (form : BoxForm) (target : Target) → opening_with_register form target (zero_text ∷ []) ≡ Ok (for_register form target 0)
unfolding opening_with_register last_value value_first
zero_read form target = rw (zero_names register_count (omega arith)) refl

-- After `to` or `spread`.
module _ (form : BoxForm) (word : List ℕ) (sized : ℤ → Target) (reads : (rest : List (List ℕ)) → command_of (form_text form ∷ word ∷ rest) ≡ opening_with_size form sized rest) where
  size_lacks : command_of (form_text form ∷ word ∷ []) ≡ Err Missing
  unfolding opening_with_size value_first
  size_lacks = reads []

  no_size : (d : List ℕ) (rest : List (List ℕ)) (fault : DimenFault) → read_dimension d ≡ Err fault → command_of (form_text form ∷ word ∷ d ∷ rest) ≡ Err Dimension
  unfolding opening_with_size value_first
  no_size d rest fault e = reads (d ∷ rest) ∙ (rw e refl)

  after_size : (d : List ℕ) (z : ℤ) (rest : List (List ℕ)) → read_dimension d ≡ Ok z → command_of (form_text form ∷ word ∷ d ∷ rest) ≡ opening_into form (sized z) rest
  unfolding opening_with_size value_first
  after_size d z rest e = reads (d ∷ rest) ∙ (rw e refl)

  size_alone : (d : List ℕ) (z : ℤ) → read_dimension d ≡ Ok z → command_of (form_text form ∷ word ∷ d ∷ []) ≡ Ok (for_list form (sized z))
  size_alone d z e = after_size d z [] e ∙ nothing_reads form (sized z)

  whole : (d : List ℕ) (z : ℤ) → read_dimension d ≡ Ok z → command_of (form_text form ∷ word ∷ d ∷ codes "into" ∷ zero_text ∷ []) ≡ Ok (for_register form (sized z) 0)
  whole d z e = after_size d z (codes "into" ∷ zero_text ∷ []) e ∙ into_reads form (sized z) (zero_text ∷ []) ∙ zero_read form (sized z)

  by_into : (d : List ℕ) (z : ℤ) (w : List ℕ) (rest : List (List ℕ)) (b : Bool) (cause : Cause) → read_dimension d ≡ Ok z → bytes_eq w (codes "into") ≡ b → opening_into form (sized z) (w ∷ rest) ≡ Err cause → IsFieldCause cause (form_text form ∷ word ∷ d ∷ w ∷ rest)
  by_into d z w rest true cause e f h =
      let into : w ≡ codes "into" = same_bytes w (codes "into") f in
      let P : List ℕ → Type 0 = λ x. IsFieldCause cause (form_text form ∷ word ∷ d ∷ x ∷ rest) in
      let Q : List ℕ → Type 0 = λ x. opening_into form (sized z) (x ∷ rest) ≡ Err cause in
      let fault : map_ok (for_register form (sized z)) (last_number register_count rest) ≡ Err cause = sym (into_reads form (sized z) rest ∙ register_reads form (sized z) rest) ∙ subst Q into h in
      subst P (sym into)
      (number_cause register_count (omega arith) (form_text form ∷ word ∷ d ∷ codes "into" ∷ []) (for_register form (sized z)) (λ more. after_size d z (codes "into" ∷ more) e ∙ into_reads form (sized z) more ∙ register_reads form (sized z) more) rest cause
      (not_made (for_register form (sized z)) (last_number register_count rest) cause fault))
  by_into d z w rest false cause e f h =
      as_cause _ Word cause (let no = no_into form (sized z) w rest f in cc)
      (has_bad_elsewhere IsWord (form_text form ∷ word ∷ d ∷ []) w rest (codes "into") (zero_text ∷ []) (for_register form (sized z) 0) into_is_word (whole d z e)
      (λ later. (Word, after_size d z (w ∷ later) e ∙ no_into form (sized z) w later f))
      (λ later. (Word, after_size d z (letter ∷ later) e ∙ no_into form (sized z) letter later refl)))

  into_cause : (d : List ℕ) (z : ℤ) (rest : List (List ℕ)) (cause : Cause) → read_dimension d ≡ Ok z → opening_into form (sized z) rest ≡ Err cause → IsFieldCause cause (form_text form ∷ word ∷ d ∷ rest)
  into_cause d z [] cause e h = absurd (let right = nothing_reads form (sized z) in cc)
  into_cause d z (w ∷ rest) cause e h = by_into d z w rest (bytes_eq w (codes "into")) cause e refl h

  by_size : (d : List ℕ) (rest : List (List ℕ)) (r : Result ℤ DimenFault) (cause : Cause) → read_dimension d ≡ r → command_of (form_text form ∷ word ∷ d ∷ rest) ≡ Err cause → IsFieldCause cause (form_text form ∷ word ∷ d ∷ rest)
  by_size d rest (Err fault) cause e h =
      let is : Dimension ≡ cause = let no = no_size d rest fault e in cc in
      no_dimension_cause (form_text form ∷ word ∷ []) d rest [] (for_list form (sized (pos 0))) cause (rw e (ap (λ (c : Cause). Err c) is)) (size_alone (codes "0sp") (pos 0) zero_dimension)
      (λ later. (Dimension, no_size d later fault e)) (λ later. (Dimension, no_size letter later NotADimension letter_no_dimension))
  by_size d rest (Ok z) cause e h = into_cause d z rest cause e (sym (after_size d z rest e) ∙ h)

  sized_cause : (rest : List (List ℕ)) (cause : Cause) → command_of (form_text form ∷ word ∷ rest) ≡ Err cause → IsFieldCause cause (form_text form ∷ word ∷ rest)
  sized_cause [] cause h =
      as_cause _ Missing cause (let lacks = size_lacks in cc)
      (missing (form_text form ∷ word ∷ []) (codes "0sp" ∷ []) (for_list form (sized (pos 0))) (Missing, size_lacks) (size_alone (codes "0sp") (pos 0) zero_dimension))
  sized_cause (d ∷ rest) cause h = by_size d rest (read_dimension d) cause refl h

-- After the name of a form.
after_into : (form : BoxForm) (rest : List (List ℕ)) → command_of (form_text form ∷ codes "into" ∷ rest) ≡ opening_with_register form Natural rest
unfolding opening_of
after_into form rest = opening_named form (codes "into" ∷ rest)

after_to : (form : BoxForm) (rest : List (List ℕ)) → command_of (form_text form ∷ codes "to" ∷ rest) ≡ opening_with_size form To rest
unfolding opening_of
after_to form rest = opening_named form (codes "to" ∷ rest)

after_spread : (form : BoxForm) (rest : List (List ℕ)) → command_of (form_text form ∷ codes "spread" ∷ rest) ≡ opening_with_size form Spread rest
unfolding opening_of
after_spread form rest = opening_named form (codes "spread" ∷ rest)

form_alone : (form : BoxForm) → command_of (form_text form ∷ []) ≡ Ok (for_list form Natural)
unfolding opening_of
form_alone form = opening_named form []

no_word : (form : BoxForm) (w : List ℕ) (rest : List (List ℕ)) → bytes_eq w (codes "into") ≡ false → bytes_eq w (codes "to") ≡ false → bytes_eq w (codes "spread") ≡ false → command_of (form_text form ∷ w ∷ rest) ≡ Err Word
unfolding opening_of
no_word form w rest e f g = opening_named form (w ∷ rest) ∙ (rw (e, f, g) refl)

natural : (form : BoxForm) → command_of (form_text form ∷ codes "into" ∷ zero_text ∷ []) ≡ Ok (for_register form Natural 0)
natural form = after_into form (zero_text ∷ []) ∙ zero_read form Natural

natural_cause : (form : BoxForm) (rest : List (List ℕ)) (cause : Cause) → command_of (form_text form ∷ codes "into" ∷ rest) ≡ Err cause → IsFieldCause cause (form_text form ∷ codes "into" ∷ rest)
natural_cause form rest cause h =
    number_cause register_count (omega arith) (form_text form ∷ codes "into" ∷ []) (for_register form Natural) (λ more. after_into form more ∙ register_reads form Natural more) rest cause
    (not_made (for_register form Natural) (last_number register_count rest) cause (sym (after_into form rest ∙ register_reads form Natural rest) ∙ h))

-- What holds after a word holds after the same bytes.
along_word : (form : BoxForm) (w word : List ℕ) (rest : List (List ℕ)) (cause : Cause) → bytes_eq w word ≡ true → (command_of (form_text form ∷ word ∷ rest) ≡ Err cause → IsFieldCause cause (form_text form ∷ word ∷ rest)) → command_of (form_text form ∷ w ∷ rest) ≡ Err cause → IsFieldCause cause (form_text form ∷ w ∷ rest)
along_word form w word rest cause e there h =
    let is : w ≡ word = same_bytes w word e in
    let P : List ℕ → Type 0 = λ x. IsFieldCause cause (form_text form ∷ x ∷ rest) in
    let Q : List ℕ → Type 0 = λ x. command_of (form_text form ∷ x ∷ rest) ≡ Err cause in
    subst P (sym is) (there (subst Q is h))

by_word : (form : BoxForm) (w : List ℕ) (rest : List (List ℕ)) (into to spread : Bool) (cause : Cause) → bytes_eq w (codes "into") ≡ into → bytes_eq w (codes "to") ≡ to → bytes_eq w (codes "spread") ≡ spread → command_of (form_text form ∷ w ∷ rest) ≡ Err cause → IsFieldCause cause (form_text form ∷ w ∷ rest)
by_word form w rest true to spread cause e f g h = along_word form w (codes "into") rest cause e (natural_cause form rest cause) h
by_word form w rest false true spread cause e f g h = along_word form w (codes "to") rest cause f (sized_cause form (codes "to") To (after_to form) rest cause) h
by_word form w rest false false true cause e f g h = along_word form w (codes "spread") rest cause g (sized_cause form (codes "spread") Spread (after_spread form) rest cause) h
by_word form w rest false false false cause e f g h =
    as_cause _ Word cause (let no = no_word form w rest e f g in cc)
    (has_bad_elsewhere IsWord (form_text form ∷ []) w rest (codes "into") (zero_text ∷ []) (for_register form Natural 0) into_is_word (natural form)
    (λ later. (Word, no_word form w later e f g)) (λ later. (Word, no_word form letter later refl refl refl)))

pub opening_cause : (form : BoxForm) (rest : List (List ℕ)) (cause : Cause) → command_of (form_text form ∷ rest) ≡ Err cause → IsFieldCause cause (form_text form ∷ rest)
opening_cause form [] cause h = absurd (let right = form_alone form in cc)
opening_cause form (w ∷ rest) cause h = by_word form w rest (bytes_eq w (codes "into")) (bytes_eq w (codes "to")) (bytes_eq w (codes "spread")) cause refl refl refl h
