-- A bad line has one cause, and a text has one first bad line.
use Rattle.std.proofs.Common.{◌≡◌, ◌⊎◌, inl, inr, ⊎_elim, ℕ, ℤ, ◌+◌, Bool, true, false, List, [], ◌∷◌, ◌++◌, Result, Ok, Err, length, refl, ap, sym, ◌∙◌, subst, append_assoc}
use Rattle.std.specs.List.{list_all, AllByRecursion}
use Rattle.std.proofs.lemmas.List.{append-nil}
use Rattle.scaled_core.specs.declared.fault.DimenFault.{DimenFault}
use Rattle.scaled_core.specs.ParsedTexts.{read_dimension}
use Rattle.job_machine.specs.declared.command.Command.{Command}
use Rattle.job_machine.specs.declared.command.Command.TheVariants.{Text, Special}
use Rattle.boxglue_script.specs.declared.cause.Cause.{Cause}
use Rattle.boxglue_script.specs.declared.cause.Cause.TheVariants as causes
use Rattle.boxglue_script.specs.declared.cause.Cause.TheVariants.{Word, Missing, Extra, Number, Dimension}
use Rattle.boxglue_script.specs.ScriptLines.{is_passed_over, is_printable, fields_of, HasText}
use Rattle.boxglue_script.specs.Grammar.{IsName, SaysCommand}
use Rattle.boxglue_script.specs.Causes.{SaysSome, Begins, IsWord, GivesNumber, GivesDimension, GivesSizeOfFont, GivesSize, HasBad, LacksField, HasBadElsewhere, HasExtra, TakesNames, IsFieldCause, IsCause}
use Rattle.boxglue_script.specs.Script.{Gives, SaysLine, IsRightLine, IsFirstBad}
use Rattle.boxglue_script.proofs.FieldLaws.{reads_dimension, dimension_read}
use Rattle.boxglue_script.proofs.CauseForms.{takes_no_names, letter}
use Rattle.boxglue_script.proofs.CauseLaws.{no_name, letter_is_no_name}
use Rattle.boxglue_script.proofs.FieldKinds.{kind_of, gives_number_kind, gives_size_kind, gives_font_size_kind, inner_word_kind}
use Rattle.boxglue_script.proofs.FieldPlaces.{place_of, HasKinds, kind_there, says_kinds}

-- The front of fields that begin a command begins it too.
shorter : (front more : List (List ℕ)) → Begins (front ++ more) → Begins front
shorter front more (later, some) = (more ++ later, subst SaysSome (append_assoc front more later) some)

begun : (fields : List (List ℕ)) → SaysSome fields → Begins fields
begun fields some = ([], subst SaysSome (sym (append-nil fields)) some)

-- Some fields are others, a field, and more.
abbrev ComesAfter : List (List ℕ) → List ℕ → List (List ℕ) → Type 0
ComesAfter front field longer = (middle : List (List ℕ)) × (longer ≡ front ++ field ∷ middle)

longer_by : (f g : List ℕ) (front other : List (List ℕ)) (field : List ℕ) → f ≡ g → ComesAfter front field other → ComesAfter (f ∷ front) field (g ∷ other)
longer_by f g front other field e (middle, is) = (middle, cc)

-- Of two places in some fields one is the other, or comes after it.
abbrev IsPlaced : List (List ℕ) → List ℕ → List (List ℕ) → List ℕ → Type 0
IsPlaced front field other g = ((front ≡ other) × (field ≡ g)) ⊎ (ComesAfter front field other ⊎ ComesAfter other g front)

places : (front : List (List ℕ)) (field : List ℕ) (rest other : List (List ℕ)) (g : List ℕ) (more : List (List ℕ)) → front ++ field ∷ rest ≡ other ++ g ∷ more → IsPlaced front field other g
places [] field rest [] g more e = inl (refl, cc)
places [] field rest (h ∷ other) g more e = inr (inl (other, cc))
places (f ∷ front) field rest [] g more e = inr (inr (front, cc))
places (f ∷ front) field rest (h ∷ other) g more e = further (places front field rest other g more (cc)) where
  further : IsPlaced front field other g → IsPlaced (f ∷ front) field (h ∷ other) g
  further (inl (same, is)) = inl (cc, is)
  further (inr (inl after)) = inr (inl (longer_by f h front other field (cc) after))
  further (inr (inr after)) = inr (inr (longer_by h f other front g (cc) after))

-- Fields that begin a command and have a field after some others: these others with that field begin it too.
begins_with : (front : List (List ℕ)) (field : List ℕ) (longer tail : List (List ℕ)) → ComesAfter front field longer → Begins (longer ++ tail) → Begins (front ++ field ∷ [])
begins_with front field longer tail (middle, e) begins =
    let P : List (List ℕ) → Type 0 = λ xs. Begins (xs ++ tail) in
    let seam : (front ++ field ∷ middle) ++ tail ≡ (front ++ field ∷ []) ++ (middle ++ tail) = append_assoc front (field ∷ middle) tail ∙ sym (append_assoc front (field ∷ []) (middle ++ tail)) in
    shorter (front ++ field ∷ []) (middle ++ tail) (subst Begins seam (subst P e begins))

-- No name of a font begins a line, as far as every one would.
nothing_takes : TakesNames [] → ⊥
nothing_takes takes = takes_no_names [] (λ later. (Word, no_name letter later letter_is_no_name)) takes

-- A field that may be at a place has the kind of the place.
kind_at : (front : List (List ℕ)) (right : List ℕ) → Begins (front ++ right ∷ []) → (TakesNames front → ⊥) → kind_of right ≡ place_of front
kind_at front right (more, (command, says)) elsewhere =
    let P : List (List ℕ) → Type 0 = λ fields. HasKinds place_of TakesNames fields in
    ⊎_elim
    (λ (takes : TakesNames front). absurd (elsewhere takes))
    (λ (is : kind_of right ≡ place_of front). is)
    (kind_there place_of TakesNames front right more (subst P (append_assoc front (right ∷ []) more) (says_kinds ((front ++ right ∷ []) ++ more) command says)))

word_kind : (field : List ℕ) → IsWord field → kind_of field ≡ Word
word_kind field (inl begins) = kind_at [] field begins nothing_takes
word_kind field (inr inner) = inner_word_kind field inner

-- Whether a field gives a dimension.
abbrev gives_by : Result ℤ DimenFault → Bool
gives_by (Ok z) = true
gives_by (Err fault) = false

abbrev gives : List ℕ → Bool
gives field = gives_by (read_dimension field)

does_give : (field : List ℕ) → GivesDimension field → gives field ≡ true
does_give field (z, h) = rw (dimension_read field z h) refl

gives_none_by : (field : List ℕ) (r : Result ℤ DimenFault) → read_dimension field ≡ r → (GivesDimension field → ⊥) → gives_by r ≡ false
gives_none_by field (Ok z) e none = absurd (none (z, reads_dimension field z e))
gives_none_by field (Err fault) e none = refl

gives_none : (field : List ℕ) → (GivesDimension field → ⊥) → gives field ≡ false
gives_none field none = gives_none_by field (read_dimension field) refl none

-- The cause of a bad field at a place of this kind: where a dimension belongs, one that is not taken is out of its range.
abbrev cause_at : Cause → Bool → Cause
cause_at Dimension true = Number
cause_at kind given = kind

-- The bad field of some fields, and its cause.
record BadAt (cause : Cause) (fields : List (List ℕ)) : Type 0 where
  pub front : List (List ℕ)
  pub field : List ℕ
  pub rest : List (List ℕ)
  pub split : fields ≡ front ++ field ∷ rest
  pub right : List ℕ
  pub wanted : Begins (front ++ right ∷ [])
  pub bad : Begins (front ++ field ∷ []) → ⊥
  pub is : (TakesNames front × (cause ≡ causes.Name)) ⊎ ((TakesNames front → ⊥) × (cause ≡ cause_at (place_of front) (gives field)))

bad_elsewhere : (IsRight : List ℕ → Type 0) (fields : List (List ℕ)) (cause kind : Cause) (bad : HasBadElsewhere IsRight fields) → kind_of bad.found.right ≡ kind → cause ≡ cause_at kind (gives bad.found.field) → BadAt cause fields
bad_elsewhere IsRight fields cause kind bad is e = record {
  front = bad.found.front;
  field = bad.found.field;
  rest = bad.found.rest;
  split = bad.found.split;
  right = bad.found.right;
  wanted = bad.found.wanted;
  bad = bad.found.bad;
  is = inr (bad.elsewhere, e ∙ ap (λ (k : Cause). cause_at k (gives bad.found.field)) (sym is ∙ kind_at bad.found.front bad.found.right bad.found.wanted bad.elsewhere));
}

bad_name : (fields : List (List ℕ)) (bad : HasBad IsName fields) → TakesNames bad.front → BadAt causes.Name fields
bad_name fields bad takes = record {
  front = bad.front;
  field = bad.field;
  rest = bad.rest;
  split = bad.split;
  right = bad.right;
  wanted = bad.wanted;
  bad = bad.bad;
  is = inl (takes, refl);
}

-- What is wrong with some fields: a field is bad, missing or too many.
abbrev IsWrong : Cause → List (List ℕ) → Type 0
IsWrong cause fields = BadAt cause fields ⊎ (((cause ≡ Missing) × LacksField fields) ⊎ ((cause ≡ Extra) × HasExtra fields))

wrong : (cause : Cause) (fields : List (List ℕ)) → IsFieldCause cause fields → IsWrong cause fields
wrong causes.Byte fields h = absurd h
wrong causes.Word fields h = inl (bad_elsewhere IsWord fields Word Word h (word_kind h.found.right h.found.is_right) refl)
wrong causes.Missing fields h = inr (inl (refl, h))
wrong causes.Extra fields h = inr (inr (refl, h))
wrong causes.Number fields (inl h) = inl (bad_elsewhere GivesNumber fields Number Number h (gives_number_kind h.found.right h.found.is_right) refl)
wrong causes.Number fields (inr (h, is)) = inl (bad_elsewhere GivesSizeOfFont fields Number Dimension h (gives_font_size_kind h.found.right h.found.is_right) (rw (does_give h.found.field is) refl))
wrong causes.Dimension fields (h, none) = inl (bad_elsewhere GivesSize fields Dimension Dimension h (gives_size_kind h.found.right h.found.is_right) (rw (gives_none h.found.field none) refl))
wrong causes.Name fields (h, takes) = inl (bad_name fields h takes)

same_cause : (front other : List (List ℕ)) (field g : List ℕ) → front ≡ other → field ≡ g → cause_at (place_of front) (gives field) ≡ cause_at (place_of other) (gives g)
same_cause front other field g e h = rw (e, h) refl

module _ (fields : List (List ℕ)) where
  -- Of two bad fields neither comes after the other.
  not_after : (c d : Cause) (one : BadAt c fields) (other : BadAt d fields) → ComesAfter one.front one.field other.front → ⊥
  not_after c d one other after = one.bad (begins_with one.front one.field other.front (other.right ∷ []) after other.wanted)

  at_one_place : (c d : Cause) (one : BadAt c fields) (other : BadAt d fields) → one.front ≡ other.front → one.field ≡ other.field → c ≡ d
  at_one_place c d one other same is = by_names one.is other.is where
    by_names : (TakesNames one.front × (c ≡ causes.Name)) ⊎ ((TakesNames one.front → ⊥) × (c ≡ cause_at (place_of one.front) (gives one.field)))
        → (TakesNames other.front × (d ≡ causes.Name)) ⊎ ((TakesNames other.front → ⊥) × (d ≡ cause_at (place_of other.front) (gives other.field))) → c ≡ d
    by_names (inl (takes, e)) (inl (also, h)) = e ∙ sym h
    by_names (inl (takes, e)) (inr (not, h)) = absurd (not (subst TakesNames same takes))
    by_names (inr (not, e)) (inl (takes, h)) = absurd (not (subst TakesNames (sym same) takes))
    by_names (inr (not, e)) (inr (nor, h)) = e ∙ same_cause one.front other.front one.field other.field same is ∙ sym h

  both_bad : (c d : Cause) → BadAt c fields → BadAt d fields → c ≡ d
  both_bad c d one other = at_place (places one.front one.field one.rest other.front other.field other.rest (sym one.split ∙ other.split)) where
    at_place : IsPlaced one.front one.field other.front other.field → c ≡ d
    at_place (inl (same, is)) = at_one_place c d one other same is
    at_place (inr (inl after)) = absurd (not_after c d one other after)
    at_place (inr (inr after)) = absurd (not_after d c other one after)

  no_beginning : (c : Cause) → BadAt c fields → Begins fields → ⊥
  no_beginning c bad begins = bad.bad (begins_with bad.front bad.field fields [] (bad.rest, bad.split) (subst Begins (sym (append-nil fields)) begins))

  no_extra : (c : Cause) → BadAt c fields → HasExtra fields → ⊥
  no_extra c bad extra = at_place (places bad.front bad.field bad.rest extra.front extra.field extra.rest (sym bad.split ∙ extra.split)) where
    at_place : IsPlaced bad.front bad.field extra.front extra.field → ⊥
    at_place (inl (same, is)) =
        let P : List (List ℕ) → Type 0 = λ front. Begins (front ++ bad.right ∷ []) in
        extra.last bad.right (subst P same bad.wanted)
    at_place (inr (inl after)) = bad.bad (begins_with bad.front bad.field extra.front [] after (subst Begins (sym (append-nil extra.front)) (begun extra.front extra.whole)))
    at_place (inr (inr after)) = extra.last extra.field (begins_with extra.front extra.field bad.front (bad.right ∷ []) after bad.wanted)

  not_too_long : HasExtra fields → Begins fields → ⊥
  not_too_long extra begins = extra.last extra.field (begins_with extra.front extra.field fields [] (extra.rest, extra.split) (subst Begins (sym (append-nil fields)) begins))

  one_wrong : (c d : Cause) → IsWrong c fields → IsWrong d fields → c ≡ d
  one_wrong c d (inl one) (inl other) = both_bad c d one other
  one_wrong c d (inl one) (inr (inl (e, lacks))) = absurd (no_beginning c one lacks.begins)
  one_wrong c d (inl one) (inr (inr (e, extra))) = absurd (no_extra c one extra)
  one_wrong c d (inr (inl (e, lacks))) (inl other) = absurd (no_beginning d other lacks.begins)
  one_wrong c d (inr (inl (e, lacks))) (inr (inl (h, also))) = e ∙ sym h
  one_wrong c d (inr (inl (e, lacks))) (inr (inr (h, extra))) = absurd (not_too_long extra lacks.begins)
  one_wrong c d (inr (inr (e, extra))) (inl other) = absurd (no_extra d other extra)
  one_wrong c d (inr (inr (e, extra))) (inr (inl (h, lacks))) = absurd (not_too_long extra lacks.begins)
  one_wrong c d (inr (inr (e, extra))) (inr (inr (h, also))) = e ∙ sym h

  no_command : (c : Cause) → IsWrong c fields → SaysSome fields → ⊥
  no_command c (inl bad) some = no_beginning c bad (begun fields some)
  no_command c (inr (inl (e, lacks))) some = lacks.incomplete some
  no_command c (inr (inr (e, extra))) some = not_too_long extra (begun fields some)

-- Of some fields one cause holds.
one_field_cause : (fields : List (List ℕ)) (c d : Cause) → IsFieldCause c fields → IsFieldCause d fields → c ≡ d
one_field_cause fields c d h k = one_wrong fields c d (wrong c fields h) (wrong d fields k)

pub name_alone : (fields : List (List ℕ)) (cause : Cause) → IsFieldCause causes.Name fields → IsFieldCause cause fields → cause ≡ causes.Name
name_alone fields cause name h = one_field_cause fields cause causes.Name h name

true_or_false : (b : Bool) → b ≡ true → b ≡ false → ⊥
true_or_false b e h = let both : true ≡ false = sym e ∙ h in cc

-- Of a line one cause holds.
pub one_line_cause : (line : List ℕ) (c d : Cause) → IsCause c line → IsCause d line → c ≡ d
one_line_cause line c d (inl (e, bytes)) (inl (h, more)) = e ∙ sym h
one_line_cause line c d (inl (e, bytes)) (inr (printable, none, k)) = absurd (true_or_false (list_all is_printable line) printable bytes)
one_line_cause line c d (inr (printable, none, k)) (inl (h, bytes)) = absurd (true_or_false (list_all is_printable line) printable bytes)
one_line_cause line c d (inr (printable, no_text, h)) (inr (also, none, k)) = one_field_cause (fields_of line) c d h k

text_or_fields : (line : List ℕ) (command : Command) → Gives line command → ((text : List ℕ) × HasText line text) ⊎ SaysCommand (fields_of line) command
text_or_fields line (Text text) h = inl (text, inl h)
text_or_fields line (Special text) h = inl (text, inr h)
text_or_fields line command h = inr h

-- A line with a cause is not right.
pub not_said : (line : List ℕ) (cause : Cause) (command : Command) → IsCause cause line → SaysLine line command → ⊥
not_said line cause command (inl (e, bytes)) said = true_or_false (list_all is_printable line) said.printable bytes
not_said line cause command (inr (printable, no_text, h)) said = ⊎_elim
    (λ (has : (text : List ℕ) × HasText line text). no_text has.0 has.1)
    (λ (says : SaysCommand (fields_of line) command). no_command (fields_of line) cause (wrong cause (fields_of line) h) (command, says))
    (text_or_fields line command said.says)

not_right : (line : List ℕ) (cause : Cause) → is_passed_over line ≡ false → IsCause cause line → IsRightLine line → ⊥
not_right line cause counted holds (inl passed) = true_or_false (is_passed_over line) passed counted
not_right line cause counted holds (inr (command, said)) = not_said line cause command holds said

right_among : (front : List (List ℕ)) (line : List ℕ) (rest : List (List ℕ)) → AllByRecursion IsRightLine (front ++ line ∷ rest) → IsRightLine line
right_among [] line rest h = h.0
right_among (first ∷ front) line rest h = right_among front line rest h.1

-- Of two first bad lines neither comes after the other.
no_bad_after : (text : List ℕ) (m n : ℕ) (c d : Cause) (one : IsFirstBad text m c) (other : IsFirstBad text n d) → ComesAfter one.front one.line other.front → ⊥
no_bad_after text m n c d one other (middle, is) =
    let P : List (List ℕ) → Type 0 = λ lines. AllByRecursion IsRightLine lines in
    not_right one.line c one.counted one.holds (right_among one.front one.line middle (subst P is other.right))

-- A text has one first bad line, and it has one cause.
pub one_first_bad : (text : List ℕ) (m n : ℕ) (c d : Cause) → IsFirstBad text m c → IsFirstBad text n d → (n ≡ m) × (d ≡ c)
one_first_bad text m n c d one other = at_place (places one.front one.line one.rest other.front other.line other.rest (sym one.split ∙ other.split)) where
  at_place : IsPlaced one.front one.line other.front other.line → (n ≡ m) × (d ≡ c)
  at_place (inl (same, is)) =
      let P : List ℕ → Type 0 = λ line. IsCause c line in (
        other.place ∙ ap (λ (front : List (List ℕ)). length front + 1) (sym same) ∙ sym one.place,
        one_line_cause other.line d c other.holds (subst P is one.holds),
      )
  at_place (inr (inl after)) = absurd (no_bad_after text m n c d one other after)
  at_place (inr (inr after)) = absurd (no_bad_after text n m d c other one after)
