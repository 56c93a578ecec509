-- The cause that the function names holds of the fields after `count`.
use Rattle.std.proofs.Common.{◌≡◌, ℕ, ℤ, pos, inl, List, [], ◌∷◌, ◌++◌, Option, Some, None, Ok, Err, codes, refl, ap, sym, ◌∙◌, arith}
use Rattle.job_machine.specs.declared.command.Command.{Command}
use Rattle.boxglue_script.specs.declared.cause.Cause.{Cause}
use Rattle.boxglue_script.specs.declared.cause.Cause.TheVariants.{Missing, Number}
use Rattle.boxglue_script.specs.declared.name.Name.TheVariants as names
use Rattle.boxglue_script.specs.Grammar.{counter_count}
use Rattle.boxglue_script.specs.Causes.{GivesNumber, IsFieldCause}
use Rattle.boxglue_script.specs.Private.Reading.{some_or, number_of, count_of, last_count, map_ok, count_command, counting_of, command_named, command_of, last_value, value_first}
use Rattle.boxglue_script.proofs.NameLaws.{named}
use Rattle.boxglue_script.proofs.CauseForms.{AllFail, Wanted, missing, has_bad_elsewhere, as_cause, not_made, zero_text, zero_names, zero_number, letter, letter_no_number, no_number_cause, last_cause}

count_reads : (rest : List (List ℕ)) → command_of (codes "count" ∷ rest) ≡ counting_of rest
unfolding command_named
count_reads rest = named names.Count rest

zero_count : count_of zero_text ≡ Some (pos 0)
unfolding count_of
zero_count = refl

letter_no_count : count_of letter ≡ None
unfolding count_of
letter_no_count = refl

number_lacks : command_of (codes "count" ∷ []) ≡ Err Missing
unfolding counting_of value_first
number_lacks = count_reads []

no_number : (r : List ℕ) (rest : List (List ℕ)) → number_of counter_count r ≡ None → command_of (codes "count" ∷ r ∷ rest) ≡ Err Number
unfolding counting_of value_first
no_number r rest e = count_reads (r ∷ rest) ∙ (rw e refl)

after_number : (r : List ℕ) (n : ℕ) (rest : List (List ℕ)) → number_of counter_count r ≡ Some n → command_of (codes "count" ∷ r ∷ rest) ≡ map_ok (count_command n) (last_count rest)
unfolding counting_of value_first
after_number r n rest e = count_reads (r ∷ rest) ∙ (rw e refl)

zero_after : (r : List ℕ) (n : ℕ) → number_of counter_count r ≡ Some n → command_of (codes "count" ∷ r ∷ zero_text ∷ []) ≡ Ok (count_command n (pos 0))
unfolding last_value value_first
zero_after r n e = after_number r n (zero_text ∷ []) e ∙ (rw zero_count refl)

zero_read : command_of (codes "count" ∷ zero_text ∷ zero_text ∷ []) ≡ Ok (count_command 0 (pos 0))
zero_read = zero_after zero_text 0 (zero_names counter_count (omega arith))

no_count_by : (front : List (List ℕ)) (field : List ℕ) (rest more : List (List ℕ)) (command : Command) (o : Option ℤ) (cause : Cause) → some_or Number o ≡ Err cause → Wanted front zero_text more command → AllFail front field → AllFail front letter
    → IsFieldCause cause (front ++ field ∷ rest)
no_count_by front field rest more command None cause e wanted fails unnamed =
    as_cause _ Number cause (cc) (inl (has_bad_elsewhere GivesNumber front field rest zero_text more command zero_number wanted fails unnamed))
no_count_by front field rest more command (Some n) cause e wanted fails unnamed = absurd (cc)

-- The cause if one count and nothing else belongs there.
value_cause : (front : List (List ℕ)) (make : ℤ → Command) → ((rest : List (List ℕ)) → command_of (front ++ rest) ≡ map_ok make (last_count rest)) → (rest : List (List ℕ)) (cause : Cause) → last_count rest ≡ Err cause
    → IsFieldCause cause (front ++ rest)
unfolding last_value value_first
value_cause front make reads rest cause h =
    last_cause ℤ front make last_count (λ field. some_or Number (count_of field)) refl (λ field rest. refl) reads zero_text (pos 0) (rw zero_count refl) Number (rw letter_no_count refl)
    (λ field rest cause e wanted fails unnamed. no_count_by front field rest [] (make (pos 0)) (count_of field) cause e wanted fails unnamed) rest cause h

by_number : (r : List ℕ) (rest : List (List ℕ)) (o : Option ℕ) (cause : Cause) → number_of counter_count r ≡ o → command_of (codes "count" ∷ r ∷ rest) ≡ Err cause → IsFieldCause cause (codes "count" ∷ r ∷ rest)
by_number r rest None cause e h =
    let same : Number ≡ cause = let no = no_number r rest e in cc in
    no_number_cause counter_count (codes "count" ∷ []) r rest (zero_text ∷ []) (count_command 0 (pos 0)) cause (rw e (ap (λ (c : Cause). Err c) same)) zero_read
    (λ later. (Number, no_number r later e)) (λ later. (Number, no_number letter later (letter_no_number counter_count)))
by_number r rest (Some n) cause e h =
    value_cause (codes "count" ∷ r ∷ []) (count_command n) (λ more. after_number r n more e) rest cause
    (not_made (count_command n) (last_count rest) cause (sym (after_number r n rest e) ∙ h))

pub count_cause : (rest : List (List ℕ)) (cause : Cause) → command_of (codes "count" ∷ rest) ≡ Err cause → IsFieldCause cause (codes "count" ∷ rest)
count_cause [] cause h =
    as_cause _ Missing cause (let lacks = number_lacks in cc)
    (missing (codes "count" ∷ []) (zero_text ∷ zero_text ∷ []) (count_command 0 (pos 0)) (Missing, number_lacks) zero_read)
count_cause (r ∷ rest) cause h = by_number r rest (number_of counter_count r) cause refl h
