-- The forms of causes, and right fields of each kind.
use Rattle.std.proofs.Common.{◌≡◌, inl, inr, ℕ, ℤ, pos, ◌<◌, true, List, [], ◌∷◌, ◌++◌, Option, Some, None, Result, Ok, Err, codes, refl, ap, sym, ◌∙◌, subst, arith, append_assoc, length}
use Rattle.std.proofs.lemmas.Bool.{lt-ltb}
use Rattle.std.proofs.lemmas.List.{append-nil}
use Rattle.node_core.specs.declared.tree.Order.TheVariants.{Normal}
use Rattle.node_core.specs.declared.tree.RuleSize.TheVariants.{Running, Fixed}
use Rattle.job_machine.specs.declared.command.Command.{Command}
use Rattle.boxglue_script.specs.declared.amounts.Amount.{Amount}
use Rattle.boxglue_script.specs.declared.cause.Cause.{Cause}
use Rattle.boxglue_script.specs.declared.cause.Cause.TheVariants.{Missing, Extra, Number, Dimension}
use Rattle.boxglue_script.specs.Grammar.{register_count, IsName}
use Rattle.boxglue_script.specs.Causes.{inner_words, SaysSome, Begins, IsWord, GivesNumber, GivesDimension, GivesSize, HasBad, LacksField, HasExtra, TakesNames, HasBadElsewhere, IsFieldCause}
use Rattle.boxglue_script.specs.Private.Reading.{some_or, number_of, last_number, penalty_of, last_penalty, dimension_or, last_dimension, no_amount, before_unit, amount_in, amount_of, last_amount, map_ok, no_field_left, and_right, is_name, size_of, command_of, last_value, value_first}
use Rattle.scaled_core.specs.declared.fault.DimenFault.{DimenFault}
use Rattle.scaled_core.specs.declared.fault.DimenFault.TheVariants.{NotADimension}
use Rattle.scaled_core.specs.Rounding.{nearest}
use Rattle.scaled_core.specs.DimensionTexts.{decimal_fraction}
use Rattle.scaled_core.specs.ParsedTexts.{read_dimension, dimension_value, parsed_value, written_value, unit_named, is_negative, text_after_sign, front_digits, text_after_digits, point_digits, text_after_fraction}
use Rattle.boxglue_script.proofs.FieldLaws.{writes_number, reads_dimension, dimension_read, size_given, names_font}
use Rattle.boxglue_script.proofs.AmountLaws.{amount_given, amount_fault}
use Rattle.boxglue_script.proofs.GivenCommands.{complete}
use Rattle.boxglue_script.proofs.CommandLaws.{sound}

-- Reading fails.
abbrev pub Fails : List (List ℕ) → Type 0
Fails fields = (cause : Cause) × (command_of fields ≡ Err cause)

-- With a field after these no command is given.
abbrev pub AllFail : List (List ℕ) → List ℕ → Type 0
AllFail front field = (later : List (List ℕ)) → Fails ((front ++ field ∷ []) ++ later)

silent : (fields : List (List ℕ)) → Fails fields → SaysSome fields → ⊥
silent fields (cause, e) (command, says) = let o = complete fields command says in cc

pub not_begun : (fields : List (List ℕ)) → ((more : List (List ℕ)) → Fails (fields ++ more)) → Begins fields → ⊥
not_begun fields all (more, some) = silent (fields ++ more) (all more) some

pub missing : (front more : List (List ℕ)) (command : Command) → Fails front → command_of (front ++ more) ≡ Ok command → LacksField front
missing front more command fails whole = record { begins = (more, (command, sound (front ++ more) command whole)); incomplete = silent front fails }

abbrev pub has_bad : (IsRight : List ℕ → Type 0) (front : List (List ℕ)) (field : List ℕ) (rest : List (List ℕ)) (right : List ℕ) (more : List (List ℕ)) (command : Command) → IsRight right → command_of ((front ++ right ∷ []) ++ more) ≡ Ok command → AllFail front field → HasBad IsRight (front ++ field ∷ rest)
has_bad IsRight front field rest right more command is whole fails = record {
  front = front;
  field = field;
  rest = rest;
  split = refl;
  right = right;
  is_right = is;
  wanted = (more, (command, sound ((front ++ right ∷ []) ++ more) command whole));
  bad = not_begun (front ++ field ∷ []) fails;
}

-- A name of a font that is no word, no number, no dimension, no amount and no `*`.
abbrev pub letter : List ℕ
letter = codes "a"

pub letter_passes : is_name letter ≡ true
letter_passes = refl

pub letter_names : IsName letter
letter_names = names_font letter letter_passes

pub letter_no_number : (count : ℕ) → number_of count letter ≡ None
unfolding number_of
letter_no_number count = refl

letter_no_penalty : penalty_of letter ≡ None
unfolding penalty_of
letter_no_penalty = refl

pub letter_no_dimension : read_dimension letter ≡ Err NotADimension
unfolding read_dimension dimension_value parsed_value written_value unit_named is_negative text_after_sign front_digits text_after_digits point_digits text_after_fraction
letter_no_dimension = refl

pub letter_no_size : size_of letter ≡ Err Dimension
unfolding size_of
letter_no_size = rw letter_no_dimension refl

pub letter_no_amount : amount_of letter ≡ Err Dimension
unfolding amount_of amount_in before_unit
letter_no_amount = rw letter_no_dimension refl

-- If no command is given with this name there, not every name of a font may be there.
pub takes_no_names : (front : List (List ℕ)) → AllFail front letter → TakesNames front → ⊥
takes_no_names front fails takes = not_begun (front ++ letter ∷ []) fails (takes letter letter_names)

abbrev pub has_bad_elsewhere : (IsRight : List ℕ → Type 0) (front : List (List ℕ)) (field : List ℕ) (rest : List (List ℕ)) (right : List ℕ) (more : List (List ℕ)) (command : Command) → IsRight right → command_of ((front ++ right ∷ []) ++ more) ≡ Ok command → AllFail front field → AllFail front letter → HasBadElsewhere IsRight (front ++ field ∷ rest)
has_bad_elsewhere IsRight front field rest right more command is whole fails unnamed = record {
  found = has_bad IsRight front field rest right more command is whole fails;
  elsewhere = takes_no_names front unnamed;
}

pub extra : (front : List (List ℕ)) (field : List ℕ) (rest : List (List ℕ)) (command : Command) → command_of front ≡ Ok command → ((other : List ℕ) → AllFail front other) → HasExtra (front ++ field ∷ rest)
extra front field rest command whole fails = record {
  front = front;
  field = field;
  rest = rest;
  split = refl;
  whole = (command, sound front command whole);
  last = λ other. not_begun (front ++ other ∷ []) (fails other);
}

-- Equal causes hold of the same fields.
pub as_cause : (fields : List (List ℕ)) (one other : Cause) → one ≡ other → IsFieldCause one fields → IsFieldCause other fields
as_cause fields one other e h = let P : Cause → Type 0 = λ cause. IsFieldCause cause fields in subst P e h

pub not_made : {A : Type 0} (make : A → Command) (r : Result A Cause) (cause : Cause) → map_ok make r ≡ Err cause → r ≡ Err cause
not_made make (Err other) cause h = cc
not_made make (Ok x) cause h = absurd (cc)

pub twice : {A B : Type 0} (make : B → Command) (part : A → B) (r : Result A Cause) → map_ok make (map_ok part r) ≡ map_ok (λ x. make (part x)) r
twice make part (Err cause) = refl
twice make part (Ok x) = refl

-- Right fields of each kind.
abbrev pub zero_text : List ℕ
zero_text = codes "0"

pub zero_names : (count : ℕ) → 0 < count → number_of count zero_text ≡ Some 0
unfolding number_of
zero_names count some = rw (lt-ltb 0 count some) refl

pub zero_number : GivesNumber zero_text
zero_number = (0, inl (writes_number register_count zero_text 0 (zero_names register_count (omega arith))))

pub star_given : size_of (codes "*") ≡ Ok Running
unfolding size_of
star_given = refl

pub star_size : GivesSize (codes "*")
star_size = (Running, refl)

pub zero_dimension : read_dimension (codes "0sp") ≡ Ok (pos 0)
unfolding read_dimension dimension_value parsed_value written_value unit_named is_negative text_after_sign front_digits text_after_digits point_digits text_after_fraction decimal_fraction nearest
zero_dimension = refl

pub zero_size : GivesSize (codes "0sp")
zero_size = (Fixed (pos 0), reads_dimension (codes "0sp") (pos 0) zero_dimension)

-- What is read as no dimension is none.
pub no_dimension_given : (d : List ℕ) (fault : DimenFault) → read_dimension d ≡ Err fault → GivesDimension d → ⊥
no_dimension_given d fault e (z, h) = let read = dimension_read d z h in cc

pub no_size_given : (d : List ℕ) (cause : Cause) → size_of d ≡ Err cause → GivesDimension d → ⊥
no_size_given d cause e (z, h) = let given = size_given d (Fixed z) h in cc

pub no_amount_given : (x : List ℕ) (cause : Cause) → amount_of x ≡ Err cause → GivesDimension x → ⊥
no_amount_given x cause e (z, h) = let given = amount_given x Normal z h in cc

pub zero_amount : amount_of (codes "0sp") ≡ Ok no_amount
zero_amount = amount_given (codes "0sp") Normal (pos 0) (reads_dimension (codes "0sp") (pos 0) zero_dimension)

pub zero_penalty : penalty_of zero_text ≡ Some (pos 0)
unfolding penalty_of
zero_penalty = refl

-- Words that come after others.
pub at_is_word : IsWord (codes "at")
at_is_word = inr (0, omega arith, refl)

pub to_is_word : IsWord (codes "to")
to_is_word = inr (1, omega arith, refl)

pub into_is_word : IsWord (codes "into")
into_is_word = inr (3, omega arith, refl)

pub plus_is_word : IsWord (codes "plus")
plus_is_word = inr (4, omega arith, refl)

pub minus_is_word : IsWord (codes "minus")
minus_is_word = inr (5, omega arith, refl)

pub shift_is_word : IsWord (codes "shift")
shift_is_word = inr (6, omega arith, refl)

pub depth_is_word : IsWord (codes "boxmaxdepth")
depth_is_word = let count : length inner_words ≡ 26 = refl in inr (7, omega (arith, count), refl)

-- With a right field after these a command is given.
abbrev pub Wanted : List (List ℕ) → List ℕ → List (List ℕ) → Command → Type 0
Wanted front right more command = command_of ((front ++ right ∷ []) ++ more) ≡ Ok command

no_number_by : (front : List (List ℕ)) (field : List ℕ) (rest more : List (List ℕ)) (command : Command) (o : Option ℕ) (cause : Cause) → some_or Number o ≡ Err cause → Wanted front zero_text more command → AllFail front field → AllFail front letter → IsFieldCause cause (front ++ field ∷ rest)
no_number_by front field rest more command None cause e wanted fails unnamed = as_cause _ Number cause (cc) (inl (has_bad_elsewhere GivesNumber front field rest zero_text more command zero_number wanted fails unnamed))
no_number_by front field rest more command (Some n) cause e wanted fails unnamed = absurd (cc)

-- The cause of a field that is no number, where one belongs.
pub no_number_cause : (count : ℕ) (front : List (List ℕ)) (field : List ℕ) (rest more : List (List ℕ)) (command : Command) (cause : Cause) → some_or Number (number_of count field) ≡ Err cause → Wanted front zero_text more command → AllFail front field → AllFail front letter → IsFieldCause cause (front ++ field ∷ rest)
no_number_cause count front field rest more command cause e wanted fails unnamed = no_number_by front field rest more command (number_of count field) cause e wanted fails unnamed

no_penalty_by : (front : List (List ℕ)) (field : List ℕ) (rest more : List (List ℕ)) (command : Command) (o : Option ℤ) (cause : Cause) → some_or Number o ≡ Err cause → Wanted front zero_text more command → AllFail front field → AllFail front letter → IsFieldCause cause (front ++ field ∷ rest)
no_penalty_by front field rest more command None cause e wanted fails unnamed = as_cause _ Number cause (cc) (inl (has_bad_elsewhere GivesNumber front field rest zero_text more command zero_number wanted fails unnamed))
no_penalty_by front field rest more command (Some n) cause e wanted fails unnamed = absurd (cc)

-- The cause of a field that is no number of a penalty, where one belongs.
pub no_penalty_cause : (front : List (List ℕ)) (field : List ℕ) (rest more : List (List ℕ)) (command : Command) (cause : Cause) → some_or Number (penalty_of field) ≡ Err cause → Wanted front zero_text more command → AllFail front field → AllFail front letter → IsFieldCause cause (front ++ field ∷ rest)
no_penalty_cause front field rest more command cause e wanted fails unnamed = no_penalty_by front field rest more command (penalty_of field) cause e wanted fails unnamed

no_dimension_by : (front : List (List ℕ)) (field : List ℕ) (rest more : List (List ℕ)) (command : Command) (r : Result ℤ DimenFault) (cause : Cause) → read_dimension field ≡ r → dimension_or r ≡ Err cause → Wanted front (codes "0sp") more command → AllFail front field → AllFail front letter → IsFieldCause cause (front ++ field ∷ rest)
no_dimension_by front field rest more command (Err fault) cause e h wanted fails unnamed =
    as_cause _ Dimension cause (cc) (has_bad_elsewhere GivesSize front field rest (codes "0sp") more command zero_size wanted fails unnamed, no_dimension_given field fault e)
no_dimension_by front field rest more command (Ok z) cause e h wanted fails unnamed = absurd (cc)

-- The cause of a field that is no dimension, where one belongs.
pub no_dimension_cause : (front : List (List ℕ)) (field : List ℕ) (rest more : List (List ℕ)) (command : Command) (cause : Cause) → dimension_or (read_dimension field) ≡ Err cause → Wanted front (codes "0sp") more command → AllFail front field → AllFail front letter → IsFieldCause cause (front ++ field ∷ rest)
no_dimension_cause front field rest more command cause e wanted fails unnamed = no_dimension_by front field rest more command (read_dimension field) cause refl e wanted fails unnamed

-- The cause of a field that is no amount of stretch or shrink, where one belongs.
pub no_amount_cause : (front : List (List ℕ)) (field : List ℕ) (rest more : List (List ℕ)) (command : Command) (cause : Cause) → amount_of field ≡ Err cause → Wanted front (codes "0sp") more command → AllFail front field → AllFail front letter → IsFieldCause cause (front ++ field ∷ rest)
no_amount_cause front field rest more command cause e wanted fails unnamed =
    as_cause _ Dimension cause (sym (amount_fault field cause e)) (has_bad_elsewhere GivesSize front field rest (codes "0sp") more command zero_size wanted fails unnamed, no_amount_given field cause e)

-- The case that one field of a kind and nothing else belongs after these fields.
module _ (A : Type 0) (front : List (List ℕ)) (make : A → Command) (last : List (List ℕ) → Result A Cause) (read : List ℕ → Result A Cause)
    (none : last [] ≡ Err Missing) (some : (field : List ℕ) (rest : List (List ℕ)) → last (field ∷ rest) ≡ and_right (read field) (no_field_left rest))
    (reads : (rest : List (List ℕ)) → command_of (front ++ rest) ≡ map_ok make (last rest))
    (right : List ℕ) (x : A) (right_is : read right ≡ Ok x) (fault : Cause) (unread : read letter ≡ Err fault)
    (bad : (field : List ℕ) (rest : List (List ℕ)) (cause : Cause) → read field ≡ Err cause → Wanted front right [] (make x) → AllFail front field → AllFail front letter → IsFieldCause cause (front ++ field ∷ rest)) where
  after : (fields rest : List (List ℕ)) → fields ≡ front ++ rest → command_of fields ≡ map_ok make (last rest)
  after fields rest e = ap command_of e ∙ reads rest

  alone : (field : List ℕ) (y : A) → read field ≡ Ok y → map_ok make (last (field ∷ [])) ≡ Ok (make y)
  alone field y e = rw (some field [], e) refl

  lacks_last : LacksField (front ++ [])
  lacks_last = missing (front ++ []) (right ∷ []) (make x) (Missing, reads [] ∙ (rw none refl)) (after _ (right ∷ []) (append_assoc front [] (right ∷ [])) ∙ alone right x right_is)

  fails_after : (field : List ℕ) (cause : Cause) → read field ≡ Err cause → AllFail front field
  fails_after field cause e later = (cause, after _ (field ∷ later) (append_assoc front (field ∷ []) later) ∙ (rw (some field later, e) refl))

  last_field_cause : (field : List ℕ) (rest : List (List ℕ)) (cause : Cause) → read field ≡ Err cause → IsFieldCause cause (front ++ field ∷ rest)
  last_field_cause field rest cause e =
      bad field rest cause e (after _ (right ∷ []) (append-nil (front ++ right ∷ [])) ∙ alone right x right_is) (fails_after field cause e) (fails_after letter fault unread)

  extra_after : (field : List ℕ) (y : A) (f : List ℕ) (rest : List (List ℕ)) → read field ≡ Ok y → HasExtra ((front ++ field ∷ []) ++ f ∷ rest)
  extra_after field y f rest e =
      extra (front ++ field ∷ []) f rest (make y) (reads (field ∷ []) ∙ alone field y e)
      (λ other later. (Extra, after _ (field ∷ other ∷ later) (append_assoc (front ++ field ∷ []) (other ∷ []) later ∙ append_assoc front (field ∷ []) (other ∷ later)) ∙ (rw (some field (other ∷ later), e) refl)))

  by_last : (field : List ℕ) (rest : List (List ℕ)) (r : Result A Cause) (cause : Cause) → read field ≡ r → and_right r (no_field_left rest) ≡ Err cause → IsFieldCause cause (front ++ field ∷ rest)
  by_last field rest (Err other) cause e h = last_field_cause field rest cause (e ∙ h)
  by_last field [] (Ok y) cause e h = absurd (cc)
  by_last field (f ∷ rest) (Ok y) cause e h =
      let P : List (List ℕ) → Type 0 = λ fields. IsFieldCause cause fields in
      subst P (append_assoc front (field ∷ []) (f ∷ rest)) (as_cause _ Extra cause (cc) (extra_after field y f rest e))

  pub last_cause : (rest : List (List ℕ)) (cause : Cause) → last rest ≡ Err cause → IsFieldCause cause (front ++ rest)
  last_cause [] cause h = as_cause _ Missing cause (cc) lacks_last
  last_cause (field ∷ rest) cause h = by_last field rest (read field) cause refl (sym (some field rest) ∙ h)

-- The cause if one number and nothing else belongs there.
pub number_cause : (count : ℕ) → 0 < count → (front : List (List ℕ)) (make : ℕ → Command) → ((rest : List (List ℕ)) → command_of (front ++ rest) ≡ map_ok make (last_number count rest)) → (rest : List (List ℕ)) (cause : Cause) → last_number count rest ≡ Err cause → IsFieldCause cause (front ++ rest)
unfolding last_value value_first
number_cause count some front make reads rest cause h =
    last_cause ℕ front make (last_number count) (λ field. some_or Number (number_of count field)) refl (λ field rest. refl) reads zero_text 0 (rw (zero_names count some) refl) Number (rw (letter_no_number count) refl)
    (λ field rest cause e wanted fails unnamed. no_number_cause count front field rest [] (make 0) cause e wanted fails unnamed) rest cause h

-- The cause if one number of a penalty and nothing else belongs there.
pub penalty_cause : (front : List (List ℕ)) (make : ℤ → Command) → ((rest : List (List ℕ)) → command_of (front ++ rest) ≡ map_ok make (last_penalty rest)) → (rest : List (List ℕ)) (cause : Cause) → last_penalty rest ≡ Err cause → IsFieldCause cause (front ++ rest)
unfolding last_value value_first
penalty_cause front make reads rest cause h =
    last_cause ℤ front make last_penalty (λ field. some_or Number (penalty_of field)) refl (λ field rest. refl) reads zero_text (pos 0) (rw zero_penalty refl) Number (rw letter_no_penalty refl)
    (λ field rest cause e wanted fails unnamed. no_penalty_cause front field rest [] (make (pos 0)) cause e wanted fails unnamed) rest cause h

-- The cause if one dimension and nothing else belongs there.
pub dimension_cause : (front : List (List ℕ)) (make : ℤ → Command) → ((rest : List (List ℕ)) → command_of (front ++ rest) ≡ map_ok make (last_dimension rest)) → (rest : List (List ℕ)) (cause : Cause) → last_dimension rest ≡ Err cause → IsFieldCause cause (front ++ rest)
unfolding last_value value_first
dimension_cause front make reads rest cause h =
    last_cause ℤ front make last_dimension (λ field. dimension_or (read_dimension field)) refl (λ field rest. refl) reads (codes "0sp") (pos 0) (rw zero_dimension refl) Dimension (rw letter_no_dimension refl)
    (λ field rest cause e wanted fails unnamed. no_dimension_cause front field rest [] (make (pos 0)) cause e wanted fails unnamed) rest cause h

-- The cause if one amount of stretch or shrink and nothing else belongs there.
pub amount_cause : (front : List (List ℕ)) (make : Amount → Command) → ((rest : List (List ℕ)) → command_of (front ++ rest) ≡ map_ok make (last_amount rest)) → (rest : List (List ℕ)) (cause : Cause) → last_amount rest ≡ Err cause → IsFieldCause cause (front ++ rest)
unfolding last_value value_first
amount_cause front make reads rest cause h =
    last_cause Amount front make last_amount amount_of refl (λ field rest. refl) reads (codes "0sp") no_amount zero_amount Dimension letter_no_amount
    (λ field rest cause e wanted fails unnamed. no_amount_cause front field rest [] (make no_amount) cause e wanted fails unnamed) rest cause h
