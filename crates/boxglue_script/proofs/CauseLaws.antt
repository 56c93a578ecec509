-- The cause that the function names holds of the fields.
use Rattle.std.proofs.Common.{◌≡◌, inl, ℕ, ℤ, ◌<◌, Bool, true, false, List, [], ◌∷◌, Option, Some, None, Result, Ok, Err, codes, refl, sym, ◌∙◌, subst, arith}
use Rattle.std.specs.Str.{bytes_eq}
use Rattle.node_core.specs.declared.tree.RuleSize.{RuleSize}
use Rattle.node_core.specs.declared.tree.RuleSize.TheVariants.{Running, Fixed}
use Rattle.job_machine.specs.declared.command.Command.{Command}
use Rattle.job_machine.specs.declared.command.Command.TheVariants.{UseFont, Paragraph, End, Character, Rule, Kern, Penalty, LastBox, Measure, Void, Ship}
use Rattle.boxglue_script.specs.declared.cause.Cause.{Cause}
use Rattle.boxglue_script.specs.declared.cause.Cause.TheVariants.{Word, Missing, Extra, Dimension}
use Rattle.boxglue_script.specs.declared.name.Name.{Name}
use Rattle.boxglue_script.specs.declared.name.Name.TheVariants as names
use Rattle.boxglue_script.specs.Private.Names.{box_name, register_name, item_name, name_of}
use Rattle.boxglue_script.specs.Grammar.{register_count, slot_count, character_count}
use Rattle.boxglue_script.specs.Causes.{IsWord, GivesSize, IsFieldCause}
use Rattle.boxglue_script.specs.Private.Reading.{dimension_or, map_ok, size_of, no_field_left, last_number, last_dimension, last_penalty, right_and, unboxing_command, rule_of, command_named, named_by, command_of, value_first}
use Rattle.scaled_core.specs.declared.fault.DimenFault.{DimenFault}
use Rattle.scaled_core.specs.ParsedTexts.{read_dimension}
use Rattle.boxglue_script.proofs.NameLaws.{name_text, name_written, named}
use Rattle.boxglue_script.proofs.CauseForms.{missing, has_bad_elsewhere, extra, as_cause, not_made, star_given, star_size, no_size_given, letter, letter_no_size, number_cause, penalty_cause, dimension_cause}
use Rattle.boxglue_script.proofs.FontCauses.{font_cause, font_reads}
use Rattle.boxglue_script.proofs.OpeningCauses.{opening_cause}
use Rattle.boxglue_script.proofs.BoxCauses.{append_cause}
use Rattle.boxglue_script.proofs.SplitCauses.{split_cause}
use Rattle.boxglue_script.proofs.CountCauses.{count_cause}
use Rattle.boxglue_script.proofs.GlueCauses.{glue_cause}
use Rattle.boxglue_script.proofs.ParameterCauses.{set_reads, set_cause}

-- The end of a list.
end_reads : (rest : List (List ℕ)) → command_of (codes "end" ∷ rest) ≡ right_and (no_field_left rest) (Ok End)
unfolding command_named
end_reads rest = named names.End rest

end_cause : (rest : List (List ℕ)) (cause : Cause) → right_and (no_field_left rest) (Ok End) ≡ Err cause → IsFieldCause cause (codes "end" ∷ rest)
end_cause [] cause h = absurd (cc)
end_cause (f ∷ rest) cause h = as_cause _ Extra cause (cc) (extra (codes "end" ∷ []) f rest End (end_reads []) (λ other later. (Extra, end_reads (other ∷ later))))

-- A paragraph that is opened.
par_reads : (rest : List (List ℕ)) → command_of (codes "par" ∷ rest) ≡ right_and (no_field_left rest) (Ok Paragraph)
unfolding command_named
par_reads rest = named names.Paragraph rest

par_cause : (rest : List (List ℕ)) (cause : Cause) → right_and (no_field_left rest) (Ok Paragraph) ≡ Err cause → IsFieldCause cause (codes "par" ∷ rest)
par_cause [] cause h = absurd (cc)
par_cause (f ∷ rest) cause h = as_cause _ Extra cause (cc) (extra (codes "par" ∷ []) f rest Paragraph (par_reads []) (λ other later. (Extra, par_reads (other ∷ later))))

-- A rule.
rule_reads : (rest : List (List ℕ)) → command_of (codes "rule" ∷ rest) ≡ rule_of rest
unfolding command_named
rule_reads rest = named names.Rule rest

rule_right : (w h d : List ℕ) (width height depth : RuleSize) → size_of w ≡ Ok width → size_of h ≡ Ok height → size_of d ≡ Ok depth
    → command_of (codes "rule" ∷ w ∷ h ∷ d ∷ []) ≡ Ok (Rule (record { width = width; height = height; depth = depth }))
unfolding rule_of value_first
rule_right w h d width height depth a b c = rule_reads (w ∷ h ∷ d ∷ []) ∙ (rw (a, b, c) refl)

rule_lacks_1 : command_of (codes "rule" ∷ []) ≡ Err Missing
unfolding rule_of value_first
rule_lacks_1 = rule_reads []

rule_lacks_2 : (w : List ℕ) (width : RuleSize) → size_of w ≡ Ok width → command_of (codes "rule" ∷ w ∷ []) ≡ Err Missing
unfolding rule_of value_first
rule_lacks_2 w width a = rule_reads (w ∷ []) ∙ (rw a refl)

rule_lacks_3 : (w h : List ℕ) (width height : RuleSize) → size_of w ≡ Ok width → size_of h ≡ Ok height → command_of (codes "rule" ∷ w ∷ h ∷ []) ≡ Err Missing
unfolding rule_of value_first
rule_lacks_3 w h width height a b = rule_reads (w ∷ h ∷ []) ∙ (rw (a, b) refl)

no_width : (w : List ℕ) (rest : List (List ℕ)) (cause : Cause) → size_of w ≡ Err cause → command_of (codes "rule" ∷ w ∷ rest) ≡ Err cause
unfolding rule_of value_first
no_width w rest cause a = rule_reads (w ∷ rest) ∙ (rw a refl)

no_height : (w h : List ℕ) (rest : List (List ℕ)) (width : RuleSize) (cause : Cause) → size_of w ≡ Ok width → size_of h ≡ Err cause → command_of (codes "rule" ∷ w ∷ h ∷ rest) ≡ Err cause
unfolding rule_of value_first
no_height w h rest width cause a b = rule_reads (w ∷ h ∷ rest) ∙ (rw (a, b) refl)

no_depth : (w h d : List ℕ) (rest : List (List ℕ)) (width height : RuleSize) (cause : Cause) → size_of w ≡ Ok width → size_of h ≡ Ok height → size_of d ≡ Err cause → command_of (codes "rule" ∷ w ∷ h ∷ d ∷ rest) ≡ Err cause
unfolding rule_of value_first
no_depth w h d rest width height cause a b c = rule_reads (w ∷ h ∷ d ∷ rest) ∙ (rw (a, b, c) refl)

rule_extra : (w h d f : List ℕ) (rest : List (List ℕ)) (width height depth : RuleSize) → size_of w ≡ Ok width → size_of h ≡ Ok height → size_of d ≡ Ok depth → command_of (codes "rule" ∷ w ∷ h ∷ d ∷ f ∷ rest) ≡ Err Extra
unfolding rule_of value_first
rule_extra w h d f rest width height depth a b c = rule_reads (w ∷ h ∷ d ∷ f ∷ rest) ∙ (rw (a, b, c) refl)

fixed_fault : (r : Result ℤ DimenFault) (cause : Cause) → map_ok Fixed (dimension_or r) ≡ Err cause → cause ≡ Dimension
fixed_fault (Err fault) cause h = cc
fixed_fault (Ok z) cause h = absurd (cc)

star_fault : (field : List ℕ) (cause : Cause) (b : Bool) → bytes_eq field (codes "*") ≡ b → size_of field ≡ Err cause → cause ≡ Dimension
unfolding size_of
star_fault field cause true e h = let s : Ok Running ≡ Err cause = rw e at h in absurd (cc)
star_fault field cause false e h = fixed_fault (read_dimension field) cause (rw e at h)

-- A field that gives no size is no dimension.
size_fault : (field : List ℕ) (cause : Cause) → size_of field ≡ Err cause → cause ≡ Dimension
size_fault field cause h = star_fault field cause _ refl h

abbrev star : List ℕ
star = codes "*"

abbrev running : Command
running = Rule (record { width = Running; height = Running; depth = Running })

rule_by_depth : (w h d : List ℕ) (rest : List (List ℕ)) (width height : RuleSize) (o : Result RuleSize Cause) (cause : Cause) → size_of w ≡ Ok width → size_of h ≡ Ok height → size_of d ≡ o → command_of (codes "rule" ∷ w ∷ h ∷ d ∷ rest) ≡ Err cause → IsFieldCause cause (codes "rule" ∷ w ∷ h ∷ d ∷ rest)
rule_by_depth w h d rest width height (Err other) cause a b c e =
    let is : other ≡ Dimension = size_fault d other c in
    let bad = no_depth w h d rest width height other a b c in
    as_cause _ Dimension cause (cc) (
      has_bad_elsewhere GivesSize (codes "rule" ∷ w ∷ h ∷ []) d rest star [] _ star_size (rule_right w h star width height Running a b star_given)
          (λ later. (other, no_depth w h d later width height other a b c)) (λ later. (Dimension, no_depth w h letter later width height Dimension a b letter_no_size)),
      no_size_given d other c,
    )
rule_by_depth w h d [] width height (Ok depth) cause a b c e = absurd (let right = rule_right w h d width height depth a b c in cc)
rule_by_depth w h d (f ∷ rest) width height (Ok depth) cause a b c e =
    as_cause _ Extra cause (let more = rule_extra w h d f rest width height depth a b c in cc)
    (extra (codes "rule" ∷ w ∷ h ∷ d ∷ []) f rest _ (rule_right w h d width height depth a b c) (λ other later. (Extra, rule_extra w h d other later width height depth a b c)))

rule_by_height : (w h : List ℕ) (rest : List (List ℕ)) (width : RuleSize) (o : Result RuleSize Cause) (cause : Cause) → size_of w ≡ Ok width → size_of h ≡ o → command_of (codes "rule" ∷ w ∷ h ∷ rest) ≡ Err cause → IsFieldCause cause (codes "rule" ∷ w ∷ h ∷ rest)
rule_by_height w h rest width (Err other) cause a b e =
    let is : other ≡ Dimension = size_fault h other b in
    let bad = no_height w h rest width other a b in
    as_cause _ Dimension cause (cc) (
      has_bad_elsewhere GivesSize (codes "rule" ∷ w ∷ []) h rest star (star ∷ []) _ star_size (rule_right w star star width Running Running a star_given star_given)
          (λ later. (other, no_height w h later width other a b)) (λ later. (Dimension, no_height w letter later width Dimension a letter_no_size)),
      no_size_given h other b,
    )
rule_by_height w h [] width (Ok height) cause a b e =
    as_cause _ Missing cause (let lacks = rule_lacks_3 w h width height a b in cc)
    (missing (codes "rule" ∷ w ∷ h ∷ []) (star ∷ []) _ (Missing, rule_lacks_3 w h width height a b) (rule_right w h star width height Running a b star_given))
rule_by_height w h (d ∷ rest) width (Ok height) cause a b e = rule_by_depth w h d rest width height (size_of d) cause a b refl e

rule_by_width : (w : List ℕ) (rest : List (List ℕ)) (o : Result RuleSize Cause) (cause : Cause) → size_of w ≡ o → command_of (codes "rule" ∷ w ∷ rest) ≡ Err cause → IsFieldCause cause (codes "rule" ∷ w ∷ rest)
rule_by_width w rest (Err other) cause a e =
    let is : other ≡ Dimension = size_fault w other a in
    let bad = no_width w rest other a in
    as_cause _ Dimension cause (cc) (
      has_bad_elsewhere GivesSize (codes "rule" ∷ []) w rest star (star ∷ star ∷ []) running star_size (rule_right star star star Running Running Running star_given star_given star_given)
          (λ later. (other, no_width w later other a)) (λ later. (Dimension, no_width letter later Dimension letter_no_size)),
      no_size_given w other a,
    )
rule_by_width w [] (Ok width) cause a e =
    as_cause _ Missing cause (let lacks = rule_lacks_2 w width a in cc)
    (missing (codes "rule" ∷ w ∷ []) (star ∷ star ∷ []) _ (Missing, rule_lacks_2 w width a) (rule_right w star star width Running Running a star_given star_given))
rule_by_width w (h ∷ rest) (Ok width) cause a e = rule_by_height w h rest width (size_of h) cause a refl e

rule_cause : (rest : List (List ℕ)) (cause : Cause) → command_of (codes "rule" ∷ rest) ≡ Err cause → IsFieldCause cause (codes "rule" ∷ rest)
rule_cause [] cause e =
    as_cause _ Missing cause (let lacks = rule_lacks_1 in cc)
    (missing (codes "rule" ∷ []) (star ∷ star ∷ star ∷ []) running (Missing, rule_lacks_1) (rule_right star star star Running Running Running star_given star_given star_given))
rule_cause (w ∷ rest) cause e = rule_by_width w rest (size_of w) cause refl e

-- A command of one number.
alone_cause : (count : ℕ) → 0 < count → (name : Name) (make : ℕ → Command) (rest : List (List ℕ)) (cause : Cause) → ((fields : List (List ℕ)) → command_named name fields ≡ map_ok make (last_number count fields)) → command_named name rest ≡ Err cause → IsFieldCause cause (name_text name ∷ rest)
alone_cause count some name make rest cause is h =
    number_cause count some (name_text name ∷ []) make (λ fields. named name fields ∙ is fields) rest cause (not_made make (last_number count rest) cause (sym (is rest) ∙ h))

kern_cause : (rest : List (List ℕ)) (cause : Cause) → command_named names.Kern rest ≡ Err cause → IsFieldCause cause (codes "kern" ∷ rest)
unfolding command_named
kern_cause rest cause h = dimension_cause (codes "kern" ∷ []) Kern (λ fields. named names.Kern fields) rest cause (not_made Kern (last_dimension rest) cause h)

penalties_cause : (rest : List (List ℕ)) (cause : Cause) → command_named names.Penalty rest ≡ Err cause → IsFieldCause cause (codes "penalty" ∷ rest)
unfolding command_named
penalties_cause rest cause h = penalty_cause (codes "penalty" ∷ []) Penalty (λ fields. named names.Penalty fields) rest cause (not_made Penalty (last_penalty rest) cause h)

named_cause : (name : Name) (rest : List (List ℕ)) (cause : Cause) → command_named name rest ≡ Err cause → IsFieldCause cause (name_text name ∷ rest)
unfolding command_named
named_cause names.Font rest cause h = font_cause rest cause (font_reads rest ∙ h)
named_cause names.Use rest cause h = alone_cause slot_count (omega arith) names.Use UseFont rest cause (λ fields. refl) h
named_cause (names.Open form) rest cause h = opening_cause form rest cause (named (names.Open form) rest ∙ h)
named_cause names.Paragraph rest cause h = par_cause rest cause h
named_cause names.End rest cause h = end_cause rest cause h
named_cause names.Character rest cause h = alone_cause character_count (omega arith) names.Character Character rest cause (λ fields. refl) h
named_cause names.Rule rest cause h = rule_cause rest cause (rule_reads rest ∙ h)
named_cause names.Kern rest cause h = kern_cause rest cause h
named_cause names.Glue rest cause h = glue_cause rest cause (named names.Glue rest ∙ h)
named_cause names.Penalty rest cause h = penalties_cause rest cause h
named_cause (names.Append taking) rest cause h = append_cause taking rest cause (named (names.Append taking) rest ∙ h)
named_cause (names.Unbox kind taking) rest cause h = alone_cause register_count (omega arith) (names.Unbox kind taking) (unboxing_command kind taking) rest cause (λ fields. refl) h
named_cause names.LastBox rest cause h = alone_cause register_count (omega arith) names.LastBox LastBox rest cause (λ fields. refl) h
named_cause names.Split rest cause h = split_cause rest cause (named names.Split rest ∙ h)
named_cause names.Measure rest cause h = alone_cause register_count (omega arith) names.Measure Measure rest cause (λ fields. refl) h
named_cause names.Void rest cause h = alone_cause register_count (omega arith) names.Void Void rest cause (λ fields. refl) h
named_cause names.Set rest cause h = set_cause rest cause (set_reads rest ∙ h)
named_cause names.Count rest cause h = count_cause rest cause (named names.Count rest ∙ h)
named_cause names.Ship rest cause h = alone_cause register_count (omega arith) names.Ship Ship rest cause (λ fields. refl) h

pub no_name : (word : List ℕ) (rest : List (List ℕ)) → name_of word ≡ None → command_of (word ∷ rest) ≡ Err Word
unfolding command_of
no_name word rest e = rw e refl

pub letter_is_no_name : name_of letter ≡ None
unfolding name_of box_name register_name item_name
letter_is_no_name = refl

by_name : (word : List ℕ) (rest : List (List ℕ)) (cause : Cause) (o : Option Name) → name_of word ≡ o → named_by o rest ≡ Err cause → IsFieldCause cause (word ∷ rest)
by_name word rest cause None e h =
    as_cause _ Word cause (cc)
    (has_bad_elsewhere IsWord [] word rest (codes "end") [] End (inl ([], (End, refl))) (end_reads []) (λ later. (Word, no_name word later e)) (λ later. (Word, no_name letter later letter_is_no_name)))
by_name word rest cause (Some name) e h =
    let P : List ℕ → Type 0 = λ w. IsFieldCause cause (w ∷ rest) in
    subst P (sym (name_written word name e)) (named_cause name rest cause h)

-- The cause that reading names holds of the fields.
pub cause_holds : (fields : List (List ℕ)) (cause : Cause) → command_of fields ≡ Err cause → IsFieldCause cause fields
unfolding command_of
cause_holds [] cause h = as_cause _ Missing cause (cc) (missing [] (codes "end" ∷ []) End (Missing, refl) (end_reads []))
cause_holds (word ∷ rest) cause h = by_name word rest cause (name_of word) refl h
