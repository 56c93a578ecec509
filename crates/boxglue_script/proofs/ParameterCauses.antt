-- The cause that the function names holds of the fields after `set`.
use Rattle.std.proofs.Common.{◌≡◌, ℕ, ℤ, pos, Bool, true, false, arith, List, [], ◌∷◌, Option, Some, None, Ok, Err, codes, refl, sym, ◌∙◌, subst}
use Rattle.node_core.specs.declared.tree.Glue as glues
use Rattle.job_machine.specs.declared.parameter.SizeParameter.{SizeParameter}
use Rattle.job_machine.specs.declared.parameter.SizeParameter.TheVariants as sizes
use Rattle.job_machine.specs.declared.parameter.SkipParameter.{SkipParameter}
use Rattle.job_machine.specs.declared.parameter.NumberParameter.{NumberParameter}
use Rattle.job_machine.specs.declared.parameter.Parameter.TheVariants as parameters
use Rattle.job_machine.specs.declared.command.Command.{Command}
use Rattle.job_machine.specs.declared.command.Command.TheVariants.{Glue, Set}
use Rattle.boxglue_script.specs.declared.cause.Cause.{Cause}
use Rattle.boxglue_script.specs.declared.cause.Cause.TheVariants.{Word, Missing}
use Rattle.boxglue_script.specs.declared.name.Name.TheVariants as names
use Rattle.boxglue_script.specs.Grammar.{first_lines_count}
use Rattle.boxglue_script.specs.Causes.{IsWord, IsFieldCause}
use Rattle.boxglue_script.specs.ParameterNames.{first_lines_text, size_name, skip_name, number_name}
use Rattle.boxglue_script.specs.Private.ParameterNames.{names_first_lines}
use Rattle.boxglue_script.specs.Private.Reading.{last_dimension, last_number, last_penalty, map_ok, no_amount, glue, parts_of, glue_of, parameter_of, command_named, command_of, last_value, value_first}
use Rattle.boxglue_script.proofs.NameLaws.{named}
use Rattle.boxglue_script.proofs.ParameterNameLaws.{skip_no_size, number_no_size, number_no_skip, first_lines_written, first_lines_no_size, first_lines_no_skip, first_lines_no_number, first_lines_read}
use Rattle.boxglue_script.proofs.CauseForms.{missing, has_bad_elsewhere, as_cause, not_made, twice, zero_dimension, depth_is_word, letter, dimension_cause, penalty_cause}
use Rattle.boxglue_script.proofs.CauseForms as forms
use Rattle.boxglue_script.proofs.GlueCauses.{glue_reads, glue_cause}
use Rattle.boxglue_script.proofs.SharedCauses.{shared_cause}

pub set_reads : (rest : List (List ℕ)) → command_of (codes "set" ∷ rest) ≡ map_ok Set (parameter_of rest)
unfolding command_named
set_reads rest = named names.Set rest

set_lacks : command_of (codes "set" ∷ []) ≡ Err Missing
unfolding parameter_of
set_lacks = set_reads []

no_parameter : (w : List ℕ) (rest : List (List ℕ)) → size_name w ≡ None → skip_name w ≡ None → number_name w ≡ None → names_first_lines w ≡ false
    → command_of (codes "set" ∷ w ∷ rest) ≡ Err Word
unfolding parameter_of
no_parameter w rest a b c d = set_reads (w ∷ rest) ∙ (rw (a, b, c, d) refl)

letter_no_size : size_name letter ≡ None
unfolding size_name
letter_no_size = refl

letter_no_skip : skip_name letter ≡ None
unfolding skip_name
letter_no_skip = refl

letter_no_number : number_name letter ≡ None
unfolding number_name
letter_no_number = refl

letter_no_lines : names_first_lines letter ≡ false
unfolding names_first_lines
letter_no_lines = refl

-- A dimension.
abbrev set_size : SizeParameter → ℤ → Command
set_size name z = Set (parameters.Size name z)

size_reads : (word : List ℕ) (name : SizeParameter) → size_name word ≡ Some name → (rest : List (List ℕ)) → command_of (codes "set" ∷ word ∷ rest) ≡ map_ok (set_size name) (last_dimension rest)
unfolding parameter_of
size_reads word name is rest = set_reads (word ∷ rest) ∙ (rw is (twice Set (parameters.Size name) (last_dimension rest)))

depth_named : size_name (codes "boxmaxdepth") ≡ Some sizes.BoxMaxDepth
unfolding size_name
depth_named = refl

depth_zero : command_of (codes "set" ∷ codes "boxmaxdepth" ∷ codes "0sp" ∷ []) ≡ Ok (set_size sizes.BoxMaxDepth (pos 0))
unfolding last_value value_first
depth_zero = size_reads (codes "boxmaxdepth") sizes.BoxMaxDepth depth_named (codes "0sp" ∷ []) ∙ (rw zero_dimension refl)

size_cause : (word : List ℕ) (name : SizeParameter) → size_name word ≡ Some name → (rest : List (List ℕ)) (cause : Cause) → command_of (codes "set" ∷ word ∷ rest) ≡ Err cause → IsFieldCause cause (codes "set" ∷ word ∷ rest)
size_cause word name is rest cause h =
    let reads = size_reads word name is in
    dimension_cause (codes "set" ∷ word ∷ []) (set_size name) reads rest cause (not_made (set_size name) (last_dimension rest) cause (sym (reads rest) ∙ h))

-- A number.
abbrev set_number : NumberParameter → ℤ → Command
set_number name z = Set (parameters.Number name z)

number_reads : (word : List ℕ) (name : NumberParameter) → number_name word ≡ Some name → (rest : List (List ℕ)) → command_of (codes "set" ∷ word ∷ rest) ≡ map_ok (set_number name) (last_penalty rest)
unfolding parameter_of
number_reads word name is rest =
    set_reads (word ∷ rest) ∙ (rw (number_no_size word name is, number_no_skip word name is, is) (twice Set (parameters.Number name) (last_penalty rest)))

number_cause : (word : List ℕ) (name : NumberParameter) → number_name word ≡ Some name → (rest : List (List ℕ)) (cause : Cause) → command_of (codes "set" ∷ word ∷ rest) ≡ Err cause → IsFieldCause cause (codes "set" ∷ word ∷ rest)
number_cause word name is rest cause h =
    let reads = number_reads word name is in
    penalty_cause (codes "set" ∷ word ∷ []) (set_number name) reads rest cause (not_made (set_number name) (last_penalty rest) cause (sym (reads rest) ∙ h))

-- A number of first lines.
abbrev set_lines : ℕ → Command
set_lines n = Set (parameters.FirstLines n)

lines_read : (rest : List (List ℕ)) → command_of (codes "set" ∷ first_lines_text ∷ rest) ≡ map_ok set_lines (last_number first_lines_count rest)
unfolding parameter_of
lines_read rest =
    set_reads (first_lines_text ∷ rest)
    ∙ (rw (first_lines_no_size, first_lines_no_skip, first_lines_no_number, first_lines_read) (twice Set parameters.FirstLines (last_number first_lines_count rest)))

lines_cause : (rest : List (List ℕ)) (cause : Cause) → command_of (codes "set" ∷ first_lines_text ∷ rest) ≡ Err cause → IsFieldCause cause (codes "set" ∷ first_lines_text ∷ rest)
lines_cause rest cause h =
    forms.number_cause first_lines_count (omega arith) (codes "set" ∷ first_lines_text ∷ []) set_lines lines_read rest cause
    (not_made set_lines (last_number first_lines_count rest) cause (sym (lines_read rest) ∙ h))

-- A glue.
abbrev set_skip : SkipParameter → glues.Glue → Command
set_skip name g = Set (parameters.Skip name g)

skip_reads : (word : List ℕ) (name : SkipParameter) → skip_name word ≡ Some name → (rest : List (List ℕ)) → command_of (codes "set" ∷ word ∷ rest) ≡ map_ok (set_skip name) (glue_of rest)
unfolding parameter_of
skip_reads word name is rest = set_reads (word ∷ rest) ∙ (rw (skip_no_size word name is, is) (twice Set (parameters.Skip name) (glue_of rest)))

zero_glue : glue_of (codes "0sp" ∷ []) ≡ Ok (glue (pos 0) no_amount no_amount)
unfolding glue_of value_first parts_of
zero_glue = rw zero_dimension refl

-- A cause that makes some fields no glue holds of them after `glue`.
of_glue : (rest : List (List ℕ)) (make : glues.Glue → Command) (cause : Cause) → map_ok make (glue_of rest) ≡ Err cause → IsFieldCause cause (codes "glue" ∷ rest)
of_glue rest make cause h =
    let fault = not_made make (glue_of rest) cause h in
    glue_cause rest cause (glue_reads rest ∙ (rw fault refl))

skip_cause : (word : List ℕ) (name : SkipParameter) → skip_name word ≡ Some name → (rest : List (List ℕ)) (cause : Cause) → command_of (codes "set" ∷ word ∷ rest) ≡ Err cause → IsFieldCause cause (codes "set" ∷ word ∷ rest)
skip_cause word name is rest cause h =
    let reads = skip_reads word name is in
    shared_cause glues.Glue glue_of (codes "glue") (codes "set") word Glue (set_skip name) glue_reads reads (codes "0sp" ∷ []) _ zero_glue cause rest
    (of_glue rest (set_skip name) cause (sym (reads rest) ∙ h))

lines_cause_by : (w : List ℕ) (rest : List (List ℕ)) (cause : Cause) → w ≡ first_lines_text → command_of (codes "set" ∷ w ∷ rest) ≡ Err cause → IsFieldCause cause (codes "set" ∷ w ∷ rest)
lines_cause_by w rest cause is h =
    let P : List ℕ → Type 0 = λ x. IsFieldCause cause (codes "set" ∷ x ∷ rest) in
    let Q : List ℕ → Type 0 = λ x. command_of (codes "set" ∷ x ∷ rest) ≡ Err cause in
    subst P (sym is) (lines_cause rest cause (subst Q is h))

by_word : (w : List ℕ) (rest : List (List ℕ)) (size : Option SizeParameter) (skip : Option SkipParameter) (number : Option NumberParameter) (lines : Bool) (cause : Cause)
    → size_name w ≡ size → skip_name w ≡ skip → number_name w ≡ number → names_first_lines w ≡ lines
    → command_of (codes "set" ∷ w ∷ rest) ≡ Err cause → IsFieldCause cause (codes "set" ∷ w ∷ rest)
by_word w rest (Some name) skip number lines cause a b c d h = size_cause w name a rest cause h
by_word w rest None (Some name) number lines cause a b c d h = skip_cause w name b rest cause h
by_word w rest None None (Some name) lines cause a b c d h = number_cause w name c rest cause h
by_word w rest None None None true cause a b c d h = lines_cause_by w rest cause (first_lines_written w d) h
by_word w rest None None None false cause a b c d h =
    as_cause _ Word cause (let no = no_parameter w rest a b c d in cc)
    (has_bad_elsewhere IsWord (codes "set" ∷ []) w rest (codes "boxmaxdepth") (codes "0sp" ∷ []) (set_size sizes.BoxMaxDepth (pos 0)) depth_is_word depth_zero
    (λ later. (Word, no_parameter w later a b c d)) (λ later. (Word, no_parameter letter later letter_no_size letter_no_skip letter_no_number letter_no_lines)))

pub set_cause : (rest : List (List ℕ)) (cause : Cause) → command_of (codes "set" ∷ rest) ≡ Err cause → IsFieldCause cause (codes "set" ∷ rest)
set_cause [] cause h =
    as_cause _ Missing cause (let lacks = set_lacks in cc)
    (missing (codes "set" ∷ []) (codes "boxmaxdepth" ∷ codes "0sp" ∷ []) (set_size sizes.BoxMaxDepth (pos 0)) (Missing, set_lacks) depth_zero)
set_cause (w ∷ rest) cause h = by_word w rest (size_name w) (skip_name w) (number_name w) (names_first_lines w) cause refl refl refl refl h
