-- The words that name parameters: what holds of each name in a table holds of every word that the table has.
use Rattle.std.proofs.Common.{◌≡◌, ℕ, Bool, true, false, if◌then◌else◌, List, [], ◌∷◌, Option, Some, None, refl, ap, ◌∙◌}
use Rattle.std.specs.Prelude.{is_none}
use Rattle.std.specs.List.{list_all}
use Rattle.std.specs.Str.{bytes_eq}
use Rattle.job_machine.specs.declared.parameter.SkipParameter.{SkipParameter}
use Rattle.job_machine.specs.declared.parameter.NumberParameter.{NumberParameter}
use Rattle.boxglue_script.specs.ParameterNames.{skips, numbers, first_lines_text, names_in, named_in, size_name, skip_name, number_name}
use Rattle.boxglue_script.specs.Private.ParameterNames.{names_first_lines}
use Rattle.boxglue_script.proofs.FieldLaws.{same_bytes}
use Rattle.boxglue_script.proofs.Numbers.{and_parts}

named_by : {A : Type 0} (P : List ℕ → Bool) (word text : List ℕ) (here : A) (later : Option A) (name : A) (b : Bool) → bytes_eq word text ≡ b → (if b then Some here else later) ≡ Some name
    → P text ≡ true → (later ≡ Some name → P word ≡ true) → P word ≡ true
named_by P word text here later name true e h first more = ap P (same_bytes word text e) ∙ first
named_by P word text here later name false e h first more = more h

pub named_all : {A : Type 0} (P : List ℕ → Bool) (table : List (List ℕ × A)) (word : List ℕ) (name : A) → named_in table word ≡ Some name → list_all P (names_in table) ≡ true → P word ≡ true
named_all P [] word name h all = absurd (cc)
named_all P ((text, here) ∷ rest) word name h all =
    let parts = and_parts (P text) (list_all P (names_in rest)) all in
    named_by P word text here (named_in rest word) name (bytes_eq word text) refl h parts.0 (λ later. named_all P rest word name later parts.1)

none_is : {A : Type 0} (o : Option A) → is_none o ≡ true → o ≡ None
none_is None h = refl
none_is (Some x) h = absurd (cc)

pub skip_no_size : (word : List ℕ) (name : SkipParameter) → skip_name word ≡ Some name → size_name word ≡ None
unfolding size_name skip_name
skip_no_size word name h = none_is (size_name word) (named_all (λ w. is_none (size_name w)) skips word name h refl)

pub number_no_size : (word : List ℕ) (name : NumberParameter) → number_name word ≡ Some name → size_name word ≡ None
unfolding size_name number_name
number_no_size word name h = none_is (size_name word) (named_all (λ w. is_none (size_name w)) numbers word name h refl)

pub number_no_skip : (word : List ℕ) (name : NumberParameter) → number_name word ≡ Some name → skip_name word ≡ None
unfolding skip_name number_name
number_no_skip word name h = none_is (skip_name word) (named_all (λ w. is_none (skip_name w)) numbers word name h refl)

pub first_lines_written : (word : List ℕ) → names_first_lines word ≡ true → word ≡ first_lines_text
unfolding names_first_lines
first_lines_written word h = same_bytes word first_lines_text h

pub first_lines_no_size : size_name first_lines_text ≡ None
unfolding size_name
first_lines_no_size = refl

pub first_lines_no_skip : skip_name first_lines_text ≡ None
unfolding skip_name
first_lines_no_skip = refl

pub first_lines_no_number : number_name first_lines_text ≡ None
unfolding number_name
first_lines_no_number = refl

pub first_lines_read : names_first_lines first_lines_text ≡ true
unfolding names_first_lines
first_lines_read = refl
