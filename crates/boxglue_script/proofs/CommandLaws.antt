-- The function that reads a command gives the commands of the grammar.
use Rattle.std.proofs.Common.{◌≡◌, ℕ, ℤ, Bool, true, false, if◌then◌else◌, List, [], ◌∷◌, ◌++◌, Option, Some, None, Ok, Err, codes, refl, ap, sym, ◌∙◌, subst}
use Rattle.std.specs.Str.{bytes_eq}
use Rattle.pack_core.specs.declared.pack.Target.{Target}
use Rattle.pack_core.specs.declared.pack.Target.TheVariants.{Natural, To, Spread}
use Rattle.job_machine.specs.declared.command.BoxForm.{BoxForm}
use Rattle.job_machine.specs.declared.command.Transfer.{Transfer}
use Rattle.job_machine.specs.declared.parameter.SizeParameter.{SizeParameter}
use Rattle.job_machine.specs.declared.parameter.SkipParameter.{SkipParameter}
use Rattle.job_machine.specs.declared.parameter.NumberParameter.{NumberParameter}
use Rattle.job_machine.specs.declared.parameter.Parameter.{Parameter}
use Rattle.job_machine.specs.declared.parameter.Parameter.TheVariants as parameters
use Rattle.job_machine.specs.declared.command.Command.{Command}
use Rattle.job_machine.specs.declared.command.Command.TheVariants.{UseFont, Paragraph, End, Character, Kern, Glue, Penalty, LastBox, Measure, Void, Set, Ship}
use Rattle.boxglue_script.specs.declared.cause.Cause.TheVariants.{Word, Number}
use Rattle.boxglue_script.specs.declared.name.Name.{Name}
use Rattle.boxglue_script.specs.declared.name.Name.TheVariants as names
use Rattle.boxglue_script.specs.Private.Names.{name_of}
use Rattle.boxglue_script.specs.ParameterNames.{first_lines_text, size_name, skip_name, number_name}
use Rattle.boxglue_script.specs.Private.ParameterNames.{names_first_lines}
use Rattle.boxglue_script.specs.Grammar.{register_count, slot_count, character_count, counter_count, first_lines_count, IsNumberAmong, IsCount, IsDimension, form_text, IsTarget, taking_text, unboxing_text, SaysParameter, SaysCommand}
use Rattle.boxglue_script.specs.Private.Reading.{rest_of, some_or, count_of, last_count, count_command, counting_of, number_first, dimension_first, map_ok, no_field_left, last_number, last_dimension, right_and, font_of, rule_of, last_penalty, opening_command, opening_with_register, opening_into, opening_with_size, opening_of, append, shift_of, append_of, unboxing_command, split_command, split_into, split_height, split_to, split_of, glue_of, parameter_by, parameter_of, command_named, named_by, command_of, last_value, value_first}
use Rattle.boxglue_script.proofs.FieldLaws.{same_bytes}
use Rattle.boxglue_script.proofs.CountNumbers.{writes_count}
use Rattle.boxglue_script.proofs.NameLaws.{name_text, name_written}
use Rattle.boxglue_script.proofs.ParameterNameLaws.{first_lines_written}
use Rattle.boxglue_script.proofs.ReadFields.{nothing_after, number_last, dimension_last, number_read, font_name_read, two_fields, chosen_size_read, size_read, nothing_left, rule_read, font_read, made, then_read, dimension_first_read, shift_read, glue_read, penalty_last}

along : (fields : List (List ℕ)) (c d : Command) → c ≡ d → SaysCommand fields c → SaysCommand fields d
along fields c d e h = let P : Command → Type 0 = λ x. SaysCommand fields x in subst P e h

says_open : (form : BoxForm) (target : Target) (size : List (List ℕ)) (rest : List (List ℕ)) (command : Command) → IsTarget size target → opening_with_register form target rest ≡ Ok command → SaysCommand (form_text form ∷ (size ++ codes "into" ∷ rest)) command
unfolding opening_with_register
says_open form target size rest command is h =
    let make = made (λ register. opening_command form target (Some register)) (last_number register_count rest) command h in
    let last = number_last register_count rest make.0 make.1 in
    along _ _ _ make.2 (size, codes "into" ∷ last.0 ∷ [], ap (λ (xs : List (List ℕ)). form_text form ∷ (size ++ codes "into" ∷ xs)) last.1, is, (last.0, refl, last.2))

into_by : (form : BoxForm) (target : Target) (size : List (List ℕ)) (w : List ℕ) (rest : List (List ℕ)) (command : Command) (b : Bool) → bytes_eq w (codes "into") ≡ b → IsTarget size target → opening_into form target (w ∷ rest) ≡ Ok command → SaysCommand (form_text form ∷ (size ++ w ∷ rest)) command
unfolding opening_into
into_by form target size w rest command true e is h =
    let P : List ℕ → Type 0 = λ x. SaysCommand (form_text form ∷ (size ++ x ∷ rest)) command in
    subst P (sym (same_bytes w (codes "into") e)) (says_open form target size rest command is (rw e at h))
into_by form target size w rest command false e is h = let s : Err Word ≡ Ok command = rw e at h in absurd (cc)

says_into : (form : BoxForm) (target : Target) (size : List (List ℕ)) (rest : List (List ℕ)) (command : Command) → IsTarget size target → opening_into form target rest ≡ Ok command → SaysCommand (form_text form ∷ (size ++ rest)) command
unfolding opening_into
says_into form target size [] command is h =
    let e : opening_command form target None ≡ command = cc in
    along _ _ _ e (size, [], refl, is, refl)
says_into form target size (w ∷ rest) command is h = into_by form target size w rest command (bytes_eq w (codes "into")) refl is h

says_sized : (form : BoxForm) (word : List ℕ) (sized : ℤ → Target) (rest : List (List ℕ)) (command : Command) → ((d : List ℕ) (z : ℤ) → IsDimension d z → IsTarget (word ∷ d ∷ []) (sized z)) → opening_with_size form sized rest ≡ Ok command → SaysCommand (form_text form ∷ word ∷ rest) command
unfolding opening_with_size
says_sized form word sized rest command is h =
    let read = then_read (dimension_first rest) (λ z. opening_into form (sized z) (rest_of rest)) command h in
    let d = dimension_first_read rest read.0 read.1 in
    let P : List (List ℕ) → Type 0 = λ xs. SaysCommand (form_text form ∷ word ∷ xs) command in
    subst P (sym d.1) (says_into form (sized read.0) (word ∷ d.0 ∷ []) (rest_of rest) command (is d.0 read.0 d.2) read.2)

says_word : (form : BoxForm) (w word : List ℕ) (rest : List (List ℕ)) (command : Command) → bytes_eq w word ≡ true → SaysCommand (form_text form ∷ word ∷ rest) command → SaysCommand (form_text form ∷ w ∷ rest) command
says_word form w word rest command e h = let P : List ℕ → Type 0 = λ x. SaysCommand (form_text form ∷ x ∷ rest) command in subst P (sym (same_bytes w word e)) h

by_spread : (form : BoxForm) (w : List ℕ) (rest : List (List ℕ)) (command : Command) (b : Bool) → bytes_eq w (codes "spread") ≡ b → (if b then opening_with_size form Spread rest else Err Word) ≡ Ok command → SaysCommand (form_text form ∷ w ∷ rest) command
by_spread form w rest command true e h = says_word form w (codes "spread") rest command e (says_sized form (codes "spread") Spread rest command (λ d z is. (d, refl, is)) h)
by_spread form w rest command false e h = absurd (cc)

by_to : (form : BoxForm) (w : List ℕ) (rest : List (List ℕ)) (command : Command) (b : Bool) → bytes_eq w (codes "to") ≡ b → (if b then opening_with_size form To rest else (if bytes_eq w (codes "spread") then opening_with_size form Spread rest else Err Word)) ≡ Ok command → SaysCommand (form_text form ∷ w ∷ rest) command
by_to form w rest command true e h = says_word form w (codes "to") rest command e (says_sized form (codes "to") To rest command (λ d z is. (d, refl, is)) h)
by_to form w rest command false e h = by_spread form w rest command (bytes_eq w (codes "spread")) refl h

by_into : (form : BoxForm) (w : List ℕ) (rest : List (List ℕ)) (command : Command) (b : Bool) → bytes_eq w (codes "into") ≡ b → (if b then opening_with_register form Natural rest else (if bytes_eq w (codes "to") then opening_with_size form To rest else (if bytes_eq w (codes "spread") then opening_with_size form Spread rest else Err Word))) ≡ Ok command → SaysCommand (form_text form ∷ w ∷ rest) command
by_into form w rest command true e h = says_word form w (codes "into") rest command e (says_open form Natural [] rest command refl h)
by_into form w rest command false e h = by_to form w rest command (bytes_eq w (codes "to")) refl h

says_opening : (form : BoxForm) (rest : List (List ℕ)) (command : Command) → opening_of form rest ≡ Ok command → SaysCommand (form_text form ∷ rest) command
unfolding opening_of
says_opening form [] command h =
    let e : opening_command form Natural None ≡ command = cc in
    along _ _ _ e ([], [], refl, refl, refl)
says_opening form (w ∷ rest) command h = by_into form w rest command (bytes_eq w (codes "into")) refl h

says_append : (taking : Transfer) (rest : List (List ℕ)) (command : Command) → append_of taking rest ≡ Ok command → SaysCommand (taking_text taking ∷ rest) command
unfolding append_of
says_append taking rest command h =
    let read = then_read (number_first register_count rest) (λ register. map_ok (append taking register) (shift_of (rest_of rest))) command h in
    let r = number_read register_count rest read.0 read.1 in
    let m = made (append taking read.0) (shift_of (rest_of rest)) command read.2 in
    along _ _ _ m.2 (r.0, rest_of rest, ap (λ (xs : List (List ℕ)). taking_text taking ∷ xs) r.1, r.2, shift_read (rest_of rest) m.0 m.1)

split_into_by : (r : ℕ) (z : ℤ) (w : List ℕ) (rest : List (List ℕ)) (command : Command) (b : Bool) → bytes_eq w (codes "into") ≡ b → split_into r z (w ∷ rest) ≡ Ok command
    → (q : ℕ) × (split_command r z q ≡ command) × (f : List ℕ) × (w ∷ rest ≡ codes "into" ∷ f ∷ []) × IsNumberAmong register_count f q
unfolding split_into
split_into_by r z w rest command true e h =
    let m = made (split_command r z) (last_number register_count rest) command (rw e at h) in
    let last = number_last register_count rest m.0 m.1 in
    (m.0, m.2, last.0, two_fields w (codes "into") rest last.0 (same_bytes w (codes "into") e) last.1, last.2)
split_into_by r z w rest command false e h = let s : Err Word ≡ Ok command = rw e at h in absurd (cc)

split_into_read : (r : ℕ) (z : ℤ) (rest : List (List ℕ)) (command : Command) → split_into r z rest ≡ Ok command
    → (q : ℕ) × (split_command r z q ≡ command) × (f : List ℕ) × (rest ≡ codes "into" ∷ f ∷ []) × IsNumberAmong register_count f q
unfolding split_into
split_into_read r z [] command h = absurd (cc)
split_into_read r z (w ∷ rest) command h = split_into_by r z w rest command (bytes_eq w (codes "into")) refl h

says_height : (f : List ℕ) (r : ℕ) (rest : List (List ℕ)) (command : Command) → IsNumberAmong register_count f r → split_height r rest ≡ Ok command → SaysCommand (codes "vsplit" ∷ f ∷ codes "to" ∷ rest) command
unfolding split_height
says_height f r rest command is h =
    let read = then_read (dimension_first rest) (λ z. split_into r z (rest_of rest)) command h in
    let d = dimension_first_read rest read.0 read.1 in
    let into = split_into_read r read.0 (rest_of rest) command read.2 in
    let all : rest ≡ d.0 ∷ codes "into" ∷ into.2 ∷ [] = d.1 ∙ ap (λ (xs : List (List ℕ)). d.0 ∷ xs) into.3 in
    along _ _ _ into.1 (f, d.0, into.2, ap (λ (xs : List (List ℕ)). codes "vsplit" ∷ f ∷ codes "to" ∷ xs) all, is, d.2, into.4)

split_to_by : (f : List ℕ) (r : ℕ) (w : List ℕ) (rest : List (List ℕ)) (command : Command) (b : Bool) → IsNumberAmong register_count f r → bytes_eq w (codes "to") ≡ b → split_to r (w ∷ rest) ≡ Ok command
    → SaysCommand (codes "vsplit" ∷ f ∷ w ∷ rest) command
unfolding split_to
split_to_by f r w rest command true is e h =
    let P : List ℕ → Type 0 = λ x. SaysCommand (codes "vsplit" ∷ f ∷ x ∷ rest) command in
    subst P (sym (same_bytes w (codes "to") e)) (says_height f r rest command is (rw e at h))
split_to_by f r w rest command false is e h = let s : Err Word ≡ Ok command = rw e at h in absurd (cc)

says_to : (f : List ℕ) (r : ℕ) (rest : List (List ℕ)) (command : Command) → IsNumberAmong register_count f r → split_to r rest ≡ Ok command → SaysCommand (codes "vsplit" ∷ f ∷ rest) command
unfolding split_to
says_to f r [] command is h = absurd (cc)
says_to f r (w ∷ rest) command is h = split_to_by f r w rest command (bytes_eq w (codes "to")) is refl h

says_split : (rest : List (List ℕ)) (command : Command) → split_of rest ≡ Ok command → SaysCommand (codes "vsplit" ∷ rest) command
unfolding split_of
says_split rest command h =
    let read = then_read (number_first register_count rest) (λ register. split_to register (rest_of rest)) command h in
    let r = number_read register_count rest read.0 read.1 in
    let P : List (List ℕ) → Type 0 = λ xs. SaysCommand (codes "vsplit" ∷ xs) command in
    subst P (sym r.1) (says_to r.0 read.0 (rest_of rest) command r.2 read.2)

says_glue : (rest : List (List ℕ)) (command : Command) → map_ok Glue (glue_of rest) ≡ Ok command → SaysCommand (codes "glue" ∷ rest) command
says_glue rest command h =
    let m = made Glue (glue_of rest) command h in
    along (codes "glue" ∷ rest) (Glue m.0) command m.2 (rest, refl, glue_read rest m.0 m.1)

says_penalty : (rest : List (List ℕ)) (command : Command) → map_ok Penalty (last_penalty rest) ≡ Ok command → SaysCommand (codes "penalty" ∷ rest) command
says_penalty rest command h =
    let m = made Penalty (last_penalty rest) command h in
    let last = penalty_last rest m.0 m.1 in
    along (codes "penalty" ∷ rest) (Penalty m.0) command m.2 (last.0, ap (λ (xs : List (List ℕ)). codes "penalty" ∷ xs) last.1, last.2)

count_in_field : (f : List ℕ) (o : Option ℤ) (z : ℤ) → count_of f ≡ o → some_or Number o ≡ Ok z → IsCount f z
count_in_field f None z e h = absurd (cc)
count_in_field f (Some y) z e h = writes_count f z (cc)

-- One count and nothing else was read.
count_last : (rest : List (List ℕ)) (z : ℤ) → last_count rest ≡ Ok z → (f : List ℕ) × (rest ≡ f ∷ []) × IsCount f z
unfolding last_value value_first
count_last [] z h = absurd (cc)
count_last (f ∷ rest) z h =
    let after = nothing_after (some_or Number (count_of f)) rest z h in
    (f, ap (λ (xs : List (List ℕ)). f ∷ xs) after.0, count_in_field f (count_of f) z refl after.1)

says_count : (rest : List (List ℕ)) (command : Command) → counting_of rest ≡ Ok command → SaysCommand (codes "count" ∷ rest) command
unfolding counting_of
says_count rest command h =
    let read = then_read (number_first counter_count rest) (λ count. map_ok (count_command count) (last_count (rest_of rest))) command h in
    let i = number_read counter_count rest read.0 read.1 in
    let m = made (count_command read.0) (last_count (rest_of rest)) command read.2 in
    let last = count_last (rest_of rest) m.0 m.1 in
    let all : rest ≡ i.0 ∷ last.0 ∷ [] = i.1 ∙ ap (λ (xs : List (List ℕ)). i.0 ∷ xs) last.1 in
    along _ _ _ m.2 (i.0, last.0, ap (λ (xs : List (List ℕ)). codes "count" ∷ xs) all, i.2, last.2)

-- A parameter was read.
says_as : (w : List ℕ) (rest : List (List ℕ)) (p q : Parameter) → p ≡ q → SaysParameter w rest p → SaysParameter w rest q
says_as w rest p q e h = let P : Parameter → Type 0 = λ x. SaysParameter w rest x in subst P e h

by_size : (w : List ℕ) (rest : List (List ℕ)) (p : Parameter) (name : SizeParameter) → size_name w ≡ Some name → map_ok (parameters.Size name) (last_dimension rest) ≡ Ok p → SaysParameter w rest p
by_size w rest p name is h =
    let m = made (parameters.Size name) (last_dimension rest) p h in
    let last = dimension_last rest m.0 m.1 in
    says_as w rest _ _ m.2 (last.0, is, last.1, last.2)

by_skip : (w : List ℕ) (rest : List (List ℕ)) (p : Parameter) (name : SkipParameter) → skip_name w ≡ Some name → map_ok (parameters.Skip name) (glue_of rest) ≡ Ok p → SaysParameter w rest p
by_skip w rest p name is h =
    let m = made (parameters.Skip name) (glue_of rest) p h in
    says_as w rest _ _ m.2 (is, glue_read rest m.0 m.1)

by_number : (w : List ℕ) (rest : List (List ℕ)) (p : Parameter) (name : NumberParameter) → number_name w ≡ Some name → map_ok (parameters.Number name) (last_penalty rest) ≡ Ok p → SaysParameter w rest p
by_number w rest p name is h =
    let m = made (parameters.Number name) (last_penalty rest) p h in
    let last = penalty_last rest m.0 m.1 in
    says_as w rest _ _ m.2 (last.0, is, last.1, last.2)

by_lines : (w : List ℕ) (rest : List (List ℕ)) (p : Parameter) → w ≡ first_lines_text → map_ok parameters.FirstLines (last_number first_lines_count rest) ≡ Ok p → SaysParameter w rest p
by_lines w rest p is h =
    let m = made parameters.FirstLines (last_number first_lines_count rest) p h in
    let last = number_last first_lines_count rest m.0 m.1 in
    says_as w rest _ _ m.2 (last.0, is, last.1, last.2)

by_names : (w : List ℕ) (rest : List (List ℕ)) (p : Parameter) (size : Option SizeParameter) (skip : Option SkipParameter) (number : Option NumberParameter) (lines : Bool)
    → size_name w ≡ size → skip_name w ≡ skip → number_name w ≡ number → names_first_lines w ≡ lines → parameter_by size skip number lines rest ≡ Ok p
    → SaysParameter w rest p
by_names w rest p (Some name) skip number lines a b c e h = by_size w rest p name a h
by_names w rest p None (Some name) number lines a b c e h = by_skip w rest p name b h
by_names w rest p None None (Some name) lines a b c e h = by_number w rest p name c h
by_names w rest p None None None true a b c e h = by_lines w rest p (first_lines_written w e) h
by_names w rest p None None None false a b c e h = absurd (cc)

says_parameter : (rest : List (List ℕ)) (p : Parameter) → parameter_of rest ≡ Ok p → SaysCommand (codes "set" ∷ rest) (Set p)
unfolding parameter_of
says_parameter [] p h = absurd (cc)
says_parameter (w ∷ rest) p h = (w, rest, refl, by_names w rest p (size_name w) (skip_name w) (number_name w) (names_first_lines w) refl refl refl refl h)

says_set : (rest : List (List ℕ)) (command : Command) → map_ok Set (parameter_of rest) ≡ Ok command → SaysCommand (codes "set" ∷ rest) command
says_set rest command h =
    let m = made Set (parameter_of rest) command h in
    along (codes "set" ∷ rest) (Set m.0) command m.2 (says_parameter rest m.0 m.1)

says_alone : (count : ℕ) (name : List ℕ) (rest : List (List ℕ)) (make : ℕ → Command) (command : Command) → ((r : List ℕ) (n : ℕ) → IsNumberAmong count r n → SaysCommand (name ∷ r ∷ []) (make n)) → map_ok make (last_number count rest) ≡ Ok command → SaysCommand (name ∷ rest) command
says_alone count name rest make command says h =
    let m = made make (last_number count rest) command h in
    let last = number_last count rest m.0 m.1 in
    along _ _ _ m.2 (let P : List (List ℕ) → Type 0 = λ xs. SaysCommand (name ∷ xs) (make m.0) in subst P (sym last.1) (says last.0 m.0 last.2))

says_par : (rest : List (List ℕ)) (command : Command) → right_and (no_field_left rest) (Ok Paragraph) ≡ Ok command → SaysCommand (codes "par" ∷ rest) command
says_par [] command h = let e : Paragraph ≡ command = cc in along _ _ _ e refl
says_par (field ∷ rest) command h = absurd (cc)

says_end : (rest : List (List ℕ)) (command : Command) → right_and (no_field_left rest) (Ok End) ≡ Ok command → SaysCommand (codes "end" ∷ rest) command
says_end [] command h = let e : End ≡ command = cc in along _ _ _ e refl
says_end (field ∷ rest) command h = absurd (cc)

says_kern : (rest : List (List ℕ)) (command : Command) → map_ok Kern (last_dimension rest) ≡ Ok command → SaysCommand (codes "kern" ∷ rest) command
says_kern rest command h =
    let m = made Kern (last_dimension rest) command h in
    let last = dimension_last rest m.0 m.1 in
    along (codes "kern" ∷ rest) (Kern m.0) command m.2 (last.0, ap (λ (xs : List (List ℕ)). codes "kern" ∷ xs) last.1, last.2)

says_rule : (rest : List (List ℕ)) (command : Command) → rule_of rest ≡ Ok command → SaysCommand (codes "rule" ∷ rest) command
unfolding rule_of
says_rule rest command h =
    let r = rule_read _ _ _ _ command h in
    let w = size_read rest r.width r.width_is in
    let h = size_read (rest_of rest) r.height r.height_is in
    let d = size_read (rest_of (rest_of rest)) r.depth r.depth_is in
    let last = nothing_left (rest_of (rest_of (rest_of rest))) tt r.end in
    let all : rest ≡ w.0 ∷ h.0 ∷ d.0 ∷ [] = cc in
    along _ _ _ (sym r.command_is) (w.0, h.0, d.0, ap (λ (xs : List (List ℕ)). codes "rule" ∷ xs) all, w.2, h.2, d.2)

says_font : (rest : List (List ℕ)) (command : Command) → font_of rest ≡ Ok command → SaysCommand (codes "font" ∷ rest) command
unfolding font_of
says_font rest command h =
    let r = font_read _ _ _ command h in
    let slot = number_read slot_count rest r.slot r.slot_is in
    let name = font_name_read (rest_of rest) r.name r.name_is in
    let all : rest ≡ slot.0 ∷ r.name ∷ rest_of (rest_of rest) = cc in
    along _ _ _ (sym r.command_is)
    (slot.0, rest_of (rest_of rest), ap (λ (xs : List (List ℕ)). codes "font" ∷ xs) all, slot.2, name.1, chosen_size_read (rest_of (rest_of rest)) r.size r.size_is)

says_named : (name : Name) (rest : List (List ℕ)) (command : Command) → command_named name rest ≡ Ok command → SaysCommand (name_text name ∷ rest) command
unfolding command_named
says_named names.Font rest command h = says_font rest command h
says_named names.Use rest command h = says_alone slot_count (codes "use") rest UseFont command (λ r n is. (r, refl, is)) h
says_named (names.Open form) rest command h = says_opening form rest command h
says_named names.Paragraph rest command h = says_par rest command h
says_named names.End rest command h = says_end rest command h
says_named names.Character rest command h = says_alone character_count (codes "char") rest Character command (λ r n is. (r, refl, is)) h
says_named names.Rule rest command h = says_rule rest command h
says_named names.Kern rest command h = says_kern rest command h
says_named names.Glue rest command h = says_glue rest command h
says_named names.Penalty rest command h = says_penalty rest command h
says_named (names.Append taking) rest command h = says_append taking rest command h
says_named (names.Unbox kind taking) rest command h = says_alone register_count (unboxing_text kind taking) rest (unboxing_command kind taking) command (λ r n is. (r, refl, is)) h
says_named names.LastBox rest command h = says_alone register_count (codes "lastbox") rest LastBox command (λ r n is. (r, refl, is)) h
says_named names.Split rest command h = says_split rest command h
says_named names.Measure rest command h = says_alone register_count (codes "measure") rest Measure command (λ r n is. (r, refl, is)) h
says_named names.Void rest command h = says_alone register_count (codes "void") rest Void command (λ r n is. (r, refl, is)) h
says_named names.Set rest command h = says_set rest command h
says_named names.Count rest command h = says_count rest command h
says_named names.Ship rest command h = says_alone register_count (codes "ship") rest Ship command (λ r n is. (r, refl, is)) h

says_by : (word : List ℕ) (rest : List (List ℕ)) (command : Command) (o : Option Name) → name_of word ≡ o → named_by o rest ≡ Ok command → SaysCommand (word ∷ rest) command
says_by word rest command None e h = absurd (cc)
says_by word rest command (Some name) e h =
    let written = name_written word name e in
    let P : List ℕ → Type 0 = λ w. SaysCommand (w ∷ rest) command in
    subst P (sym written) (says_named name rest command h)

-- The fields of a command that is read give it.
pub sound : (fields : List (List ℕ)) (command : Command) → command_of fields ≡ Ok command → SaysCommand fields command
unfolding command_of
sound [] command h = absurd (cc)
sound (word ∷ rest) command h = says_by word rest command (name_of word) refl h
