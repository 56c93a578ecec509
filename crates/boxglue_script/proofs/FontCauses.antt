-- The cause that the function names holds of the fields after `font`.
use Rattle.std.proofs.Common.{◌≡◌, inl, inr, ℕ, ℤ, pos, Bool, true, false, List, [], ◌∷◌, Option, Some, None, Result, Ok, Err, codes, refl, sym, ◌∙◌, subst, arith}
use Rattle.std.specs.Str.{bytes_eq}
use Rattle.node_core.specs.declared.tree.RuleSize.TheVariants.{Fixed}
use Rattle.job_machine.specs.declared.command.Command.{Command}
use Rattle.job_machine.specs.declared.command.Command.TheVariants.{LoadFont}
use Rattle.scaled_core.specs.declared.fault.DimenFault.{DimenFault}
use Rattle.scaled_core.specs.declared.fault.DimenFault.TheVariants.{NotADimension}
use Rattle.scaled_core.specs.Rounding.{nearest}
use Rattle.scaled_core.specs.DimensionTexts.{decimal_fraction}
use Rattle.scaled_core.specs.ParsedTexts.{read_dimension, dimension_value, parsed_value, written_value, unit_named, is_negative, text_after_sign, front_digits, text_after_digits, point_digits, text_after_fraction}
use Rattle.boxglue_script.specs.declared.cause.Cause.{Cause}
use Rattle.boxglue_script.specs.declared.cause.Cause.TheVariants as causes
use Rattle.boxglue_script.specs.declared.cause.Cause.TheVariants.{Word, Missing, Extra, Number, Dimension}
use Rattle.boxglue_script.specs.declared.name.Name.TheVariants as names
use Rattle.boxglue_script.specs.Grammar.{slot_count, IsName}
use Rattle.boxglue_script.specs.Causes.{IsWord, GivesNumber, GivesSizeOfFont, GivesSize, IsFieldCause}
use Rattle.boxglue_script.specs.Private.Reading.{number_of, size_of_font, size_of_font_first, is_name, name_first, chosen_size_of, font_by, font_of, map_ok, command_named, command_of, value_first}
use Rattle.boxglue_script.proofs.FieldLaws.{same_bytes, reads_dimension, font_named, is_size_of_font}
use Rattle.boxglue_script.proofs.NameLaws.{named}
use Rattle.boxglue_script.proofs.CommandLaws.{sound}
use Rattle.boxglue_script.proofs.CauseForms.{Fails, AllFail, missing, has_bad, has_bad_elsewhere, extra, as_cause, not_made, zero_text, zero_names, zero_number, no_dimension_given, at_is_word, letter, letter_passes, letter_names, letter_no_number, letter_no_dimension}

abbrev load : ℕ → List ℕ → Option ℤ → Command
load slot name size = LoadFont (record { slot = slot; name = name; size = size })

pub font_reads : (rest : List (List ℕ)) → command_of (codes "font" ∷ rest) ≡ font_of rest
unfolding command_named
font_reads rest = named names.Font rest

-- A right size.
abbrev one : List ℕ
one = codes "1sp"

one_dimension : read_dimension one ≡ Ok (pos 1)
unfolding read_dimension dimension_value parsed_value written_value unit_named is_negative text_after_sign front_digits text_after_digits point_digits text_after_fraction decimal_fraction nearest
one_dimension = refl

one_size : GivesSize one
one_size = (Fixed (pos 1), reads_dimension one (pos 1) one_dimension)

one_size_of_font : GivesSizeOfFont one
one_size_of_font =
    let size = is_size_of_font (pos 1) (pos 1) refl in
    (pos 1, record { dimension = reads_dimension one (pos 1) one_dimension; size = size.1 })

-- Fields after `font` that are missing or wrong.
slot_lacks : command_of (codes "font" ∷ []) ≡ Err Missing
unfolding font_of value_first
slot_lacks = font_reads []

no_slot : (s : List ℕ) (rest : List (List ℕ)) → number_of slot_count s ≡ None → command_of (codes "font" ∷ s ∷ rest) ≡ Err Number
unfolding font_of value_first
no_slot s rest e = font_reads (s ∷ rest) ∙ (rw e refl)

name_lacks : (s : List ℕ) (n : ℕ) → number_of slot_count s ≡ Some n → command_of (codes "font" ∷ s ∷ []) ≡ Err Missing
unfolding font_of value_first name_first
name_lacks s n e = font_reads (s ∷ []) ∙ (rw e refl)

no_name : (s : List ℕ) (n : ℕ) (name : List ℕ) (rest : List (List ℕ)) → number_of slot_count s ≡ Some n → is_name name ≡ false → command_of (codes "font" ∷ s ∷ name ∷ rest) ≡ Err causes.Name
unfolding font_of value_first name_first
no_name s n name rest e f = font_reads (s ∷ name ∷ rest) ∙ (rw (e, f) refl)

sized : (slot : ℕ) (name : List ℕ) (r : Result (Option ℤ) Cause) → font_by (Ok slot) (Ok name) r ≡ map_ok (load slot name) r
sized slot name (Err cause) = refl
sized slot name (Ok size) = refl

after_name : (s : List ℕ) (n : ℕ) (name : List ℕ) (rest : List (List ℕ)) → number_of slot_count s ≡ Some n → is_name name ≡ true → command_of (codes "font" ∷ s ∷ name ∷ rest) ≡ map_ok (load n name) (chosen_size_of rest)
unfolding font_of value_first name_first
after_name s n name rest e f = font_reads (s ∷ name ∷ rest) ∙ (rw (e, f) (sized n name (chosen_size_of rest)))

-- Fields after the name of a font that are missing or wrong.
at_given : chosen_size_of (codes "at" ∷ one ∷ []) ≡ Ok (Some (pos 1))
unfolding chosen_size_of size_of_font_first value_first
at_given = rw one_dimension refl

nothing_given : chosen_size_of [] ≡ Ok None
unfolding chosen_size_of
nothing_given = refl

no_at : (w : List ℕ) (rest : List (List ℕ)) → bytes_eq w (codes "at") ≡ false → chosen_size_of (w ∷ rest) ≡ Err Word
unfolding chosen_size_of
no_at w rest e = rw e refl

at_lacks : chosen_size_of (codes "at" ∷ []) ≡ Err Missing
unfolding chosen_size_of size_of_font_first value_first
at_lacks = refl

no_dimension : (d : List ℕ) (rest : List (List ℕ)) (fault : DimenFault) → read_dimension d ≡ Err fault → chosen_size_of (codes "at" ∷ d ∷ rest) ≡ Err Dimension
unfolding chosen_size_of size_of_font_first value_first
no_dimension d rest fault e = rw e refl

no_size : (d : List ℕ) (rest : List (List ℕ)) (z : ℤ) → read_dimension d ≡ Ok z → size_of_font z ≡ None → chosen_size_of (codes "at" ∷ d ∷ rest) ≡ Err Number
unfolding chosen_size_of size_of_font_first value_first
no_size d rest z e f = rw (e, f) refl

at_size : (d : List ℕ) (z y : ℤ) → read_dimension d ≡ Ok z → size_of_font z ≡ Some y → chosen_size_of (codes "at" ∷ d ∷ []) ≡ Ok (Some y)
unfolding chosen_size_of size_of_font_first value_first
at_size d z y e f = rw (e, f) refl

at_more : (d f : List ℕ) (rest : List (List ℕ)) (z y : ℤ) → read_dimension d ≡ Ok z → size_of_font z ≡ Some y → chosen_size_of (codes "at" ∷ d ∷ f ∷ rest) ≡ Err Extra
unfolding chosen_size_of size_of_font_first value_first
at_more d f rest z y e g = rw (e, g) refl

-- After a slot and a name.
module _ (s : List ℕ) (n : ℕ) (name : List ℕ) (is_slot : number_of slot_count s ≡ Some n) (named : is_name name ≡ true) where
  fails : (rest : List (List ℕ)) (cause : Cause) → chosen_size_of rest ≡ Err cause → Fails (codes "font" ∷ s ∷ name ∷ rest)
  fails rest cause h = (cause, after_name s n name rest is_slot named ∙ (rw h refl))

  fails_at : AllFail (codes "font" ∷ s ∷ name ∷ codes "at" ∷ []) letter
  fails_at later = fails (codes "at" ∷ letter ∷ later) Dimension (no_dimension letter later NotADimension letter_no_dimension)

  loads : (rest : List (List ℕ)) (size : Option ℤ) → chosen_size_of rest ≡ Ok size → command_of (codes "font" ∷ s ∷ name ∷ rest) ≡ Ok (load n name size)
  loads rest size h = after_name s n name rest is_slot named ∙ (rw h refl)

  by_size : (d : List ℕ) (rest : List (List ℕ)) (z : ℤ) (o : Option ℤ) (cause : Cause) → read_dimension d ≡ Ok z → size_of_font z ≡ o → chosen_size_of (codes "at" ∷ d ∷ rest) ≡ Err cause → IsFieldCause cause (codes "font" ∷ s ∷ name ∷ codes "at" ∷ d ∷ rest)
  by_size d rest z None cause e f h =
      as_cause _ Number cause (let no = no_size d rest z e f in cc)
      (inr (
        has_bad_elsewhere GivesSizeOfFont (codes "font" ∷ s ∷ name ∷ codes "at" ∷ []) d rest one [] (load n name (Some (pos 1))) one_size_of_font (loads (codes "at" ∷ one ∷ []) (Some (pos 1)) at_given)
            (λ later. fails (codes "at" ∷ d ∷ later) Number (no_size d later z e f)) fails_at,
        (z, reads_dimension d z e),
      ))
  by_size d [] z (Some y) cause e f h = absurd (let right = at_size d z y e f in cc)
  by_size d (g ∷ rest) z (Some y) cause e f h =
      as_cause _ Extra cause (let more = at_more d g rest z y e f in cc)
      (extra (codes "font" ∷ s ∷ name ∷ codes "at" ∷ d ∷ []) g rest (load n name (Some y)) (loads (codes "at" ∷ d ∷ []) (Some y) (at_size d z y e f))
      (λ other later. fails (codes "at" ∷ d ∷ other ∷ later) Extra (at_more d other later z y e f)))

  by_dimension : (d : List ℕ) (rest : List (List ℕ)) (o : Result ℤ DimenFault) (cause : Cause) → read_dimension d ≡ o → chosen_size_of (codes "at" ∷ d ∷ rest) ≡ Err cause → IsFieldCause cause (codes "font" ∷ s ∷ name ∷ codes "at" ∷ d ∷ rest)
  by_dimension d rest (Err fault) cause e h =
      as_cause _ Dimension cause (let no = no_dimension d rest fault e in cc) (
        has_bad_elsewhere GivesSize (codes "font" ∷ s ∷ name ∷ codes "at" ∷ []) d rest one [] (load n name (Some (pos 1))) one_size (loads (codes "at" ∷ one ∷ []) (Some (pos 1)) at_given)
            (λ later. fails (codes "at" ∷ d ∷ later) Dimension (no_dimension d later fault e)) fails_at,
        no_dimension_given d fault e,
      )
  by_dimension d rest (Ok z) cause e h = by_size d rest z (size_of_font z) cause e refl h

  after_at : (rest : List (List ℕ)) (cause : Cause) → chosen_size_of (codes "at" ∷ rest) ≡ Err cause → IsFieldCause cause (codes "font" ∷ s ∷ name ∷ codes "at" ∷ rest)
  after_at [] cause h =
      as_cause _ Missing cause (let lacks = at_lacks in cc)
      (missing (codes "font" ∷ s ∷ name ∷ codes "at" ∷ []) (one ∷ []) (load n name (Some (pos 1))) (fails (codes "at" ∷ []) Missing at_lacks) (loads (codes "at" ∷ one ∷ []) (Some (pos 1)) at_given))
  after_at (d ∷ rest) cause h = by_dimension d rest (read_dimension d) cause refl h

  by_word : (w : List ℕ) (rest : List (List ℕ)) (b : Bool) (cause : Cause) → bytes_eq w (codes "at") ≡ b → chosen_size_of (w ∷ rest) ≡ Err cause → IsFieldCause cause (codes "font" ∷ s ∷ name ∷ w ∷ rest)
  by_word w rest true cause e h =
      let at : w ≡ codes "at" = same_bytes w (codes "at") e in
      let P : List ℕ → Type 0 = λ x. IsFieldCause cause (codes "font" ∷ s ∷ name ∷ x ∷ rest) in
      let Q : List ℕ → Type 0 = λ x. chosen_size_of (x ∷ rest) ≡ Err cause in
      subst P (sym at) (after_at rest cause (subst Q at h))
  by_word w rest false cause e h =
      as_cause _ Word cause (let no = no_at w rest e in cc)
      (has_bad_elsewhere IsWord (codes "font" ∷ s ∷ name ∷ []) w rest (codes "at") (one ∷ []) (load n name (Some (pos 1))) at_is_word (loads (codes "at" ∷ one ∷ []) (Some (pos 1)) at_given)
      (λ later. fails (w ∷ later) Word (no_at w later e)) (λ later. fails (letter ∷ later) Word (no_at letter later refl)))

  pub size_cause : (rest : List (List ℕ)) (cause : Cause) → chosen_size_of rest ≡ Err cause → IsFieldCause cause (codes "font" ∷ s ∷ name ∷ rest)
  size_cause [] cause h = absurd (let right = nothing_given in cc)
  size_cause (w ∷ rest) cause h = by_word w rest (bytes_eq w (codes "at")) cause refl h

with_letter : (s : List ℕ) (n : ℕ) → number_of slot_count s ≡ Some n → command_of (codes "font" ∷ s ∷ letter ∷ []) ≡ Ok (load n letter None)
with_letter s n e = loads s n letter e letter_passes [] None nothing_given

name_by : (s : List ℕ) (n : ℕ) (name : List ℕ) (rest : List (List ℕ)) (b : Bool) (cause : Cause) → number_of slot_count s ≡ Some n → is_name name ≡ b → command_of (codes "font" ∷ s ∷ name ∷ rest) ≡ Err cause → IsFieldCause cause (codes "font" ∷ s ∷ name ∷ rest)
name_by s n name rest false cause e f h =
    as_cause _ causes.Name cause (let no = no_name s n name rest e f in cc) (
      has_bad IsName (codes "font" ∷ s ∷ []) name rest letter [] (load n letter None) letter_names (with_letter s n e) (λ later. (causes.Name, no_name s n name later e f)),
      λ other is. ([], (load n other None, sound (codes "font" ∷ s ∷ other ∷ []) (load n other None) (loads s n other e (font_named other is) [] None nothing_given))),
    )
name_by s n name rest true cause e f h =
    size_cause s n name e f rest cause (not_made (load n name) (chosen_size_of rest) cause (sym (after_name s n name rest e f) ∙ h))

slot_by : (s : List ℕ) (rest : List (List ℕ)) (o : Option ℕ) (cause : Cause) → number_of slot_count s ≡ o → command_of (codes "font" ∷ s ∷ rest) ≡ Err cause → IsFieldCause cause (codes "font" ∷ s ∷ rest)
slot_by s rest None cause e h =
    as_cause _ Number cause (let no = no_slot s rest e in cc)
    (inl (has_bad_elsewhere GivesNumber (codes "font" ∷ []) s rest zero_text (letter ∷ []) (load 0 letter None) zero_number (with_letter zero_text 0 (zero_names slot_count (omega arith)))
    (λ later. (Number, no_slot s later e)) (λ later. (Number, no_slot letter later (letter_no_number slot_count)))))
slot_by s [] (Some n) cause e h =
    as_cause _ Missing cause (let lacks = name_lacks s n e in cc)
    (missing (codes "font" ∷ s ∷ []) (letter ∷ []) (load n letter None) (Missing, name_lacks s n e) (with_letter s n e))
slot_by s (name ∷ rest) (Some n) cause e h = name_by s n name rest (is_name name) cause e refl h

pub font_cause : (rest : List (List ℕ)) (cause : Cause) → command_of (codes "font" ∷ rest) ≡ Err cause → IsFieldCause cause (codes "font" ∷ rest)
font_cause [] cause h =
    as_cause _ Missing cause (let lacks = slot_lacks in cc)
    (missing (codes "font" ∷ []) (zero_text ∷ letter ∷ []) (load 0 letter None) (Missing, slot_lacks) (with_letter zero_text 0 (zero_names slot_count (omega arith))))
font_cause (s ∷ rest) cause h = slot_by s rest (number_of slot_count s) cause refl h
