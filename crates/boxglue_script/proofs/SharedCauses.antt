-- The cause after one word is that after two other words, if the same is read after them.
use Rattle.std.proofs.Common.{◌≡◌, inl, inr, ℕ, List, [], ◌∷◌, ◌++◌, Result, Ok, refl, ap, sym, ◌∙◌, subst}
use Rattle.job_machine.specs.declared.command.Command.{Command}
use Rattle.boxglue_script.specs.declared.cause.Cause.{Cause}
use Rattle.boxglue_script.specs.declared.cause.Cause.TheVariants as causes
use Rattle.boxglue_script.specs.Grammar.{IsName}
use Rattle.boxglue_script.specs.Causes.{SaysSome, Begins, IsWord, GivesNumber, GivesDimension, GivesSizeOfFont, GivesSize, HasBad, HasExtra, HasBadElsewhere, IsFieldCause}
use Rattle.boxglue_script.specs.Private.Reading.{map_ok, command_of}
use Rattle.boxglue_script.proofs.ReadFields.{made}
use Rattle.boxglue_script.proofs.GivenCommands.{complete}
use Rattle.boxglue_script.proofs.CommandLaws.{sound}

-- The fields after `word` are read as those after `first` and `second`, and some field is right there.
module _ (A : Type 0) (read : List (List ℕ) → Result A Cause) (word first second : List ℕ) (make other : A → Command)
    (reads : (rest : List (List ℕ)) → command_of (word ∷ rest) ≡ map_ok make (read rest))
    (others : (rest : List (List ℕ)) → command_of (first ∷ second ∷ rest) ≡ map_ok other (read rest))
    (right : List (List ℕ)) (x : A) (right_is : read right ≡ Ok x) where
  said : (rest : List (List ℕ)) → SaysSome (word ∷ rest) → SaysSome (first ∷ second ∷ rest)
  said rest (command, says) =
      let m = made make (read rest) command (sym (reads rest) ∙ complete (word ∷ rest) command says) in
      (other m.0, sound (first ∷ second ∷ rest) (other m.0) (others rest ∙ ap (λ (r : Result A Cause). map_ok other r) m.1))

  said_back : (rest : List (List ℕ)) → SaysSome (first ∷ second ∷ rest) → SaysSome (word ∷ rest)
  said_back rest (command, says) =
      let m = made other (read rest) command (sym (others rest) ∙ complete (first ∷ second ∷ rest) command says) in
      (make m.0, sound (word ∷ rest) (make m.0) (reads rest ∙ ap (λ (r : Result A Cause). map_ok make r) m.1))

  begun : (rest : List (List ℕ)) → Begins (word ∷ rest) → Begins (first ∷ second ∷ rest)
  begun rest (more, some) = (more, said (rest ++ more) some)

  begun_back : (rest : List (List ℕ)) → Begins (first ∷ second ∷ rest) → Begins (word ∷ rest)
  begun_back rest (more, some) = (more, said_back (rest ++ more) some)

  starts : Begins (word ∷ [])
  starts = (right, (make x, sound (word ∷ right) (make x) (reads right ∙ ap (λ (r : Result A Cause). map_ok make r) right_is)))

  -- The word itself is not bad.
  not_first : (field : List ℕ) (rest after : List (List ℕ)) → word ∷ rest ≡ field ∷ after → (Begins (field ∷ []) → ⊥) → ⊥
  not_first field rest after split bad =
      let same : word ≡ field = cc in
      let P : List ℕ → Type 0 = λ w. Begins (w ∷ []) in
      bad (subst P same starts)

  after_word : (w : List ℕ) (rest front : List (List ℕ)) (field : List ℕ) (after : List (List ℕ)) → word ∷ rest ≡ w ∷ (front ++ field ∷ after) → (w ≡ word) × (rest ≡ front ++ field ∷ after)
  after_word w rest front field after split = (cc, cc)

  has_bad_by : (IsRight : List ℕ → Type 0) (rest front : List (List ℕ)) (field : List ℕ) (after : List (List ℕ)) (r : List ℕ) → word ∷ rest ≡ front ++ field ∷ after → IsRight r → Begins (front ++ r ∷ []) → (Begins (front ++ field ∷ []) → ⊥)
      → (bad : HasBad IsRight (first ∷ second ∷ rest)) × (bad.field ≡ field)
      × ((name : List ℕ) → Begins (front ++ name ∷ []) → Begins (bad.front ++ name ∷ [])) × ((name : List ℕ) → Begins (bad.front ++ name ∷ []) → Begins (front ++ name ∷ []))
  has_bad_by IsRight rest [] field after r split is wanted bad = absurd (not_first field rest after split bad)
  has_bad_by IsRight rest (w ∷ front) field after r split is wanted bad =
      let parts = after_word w rest front field after split in
      let P : List ℕ → Type 0 = λ y. Begins (y ∷ (front ++ r ∷ [])) in
      let Q : List ℕ → Type 0 = λ y. Begins (y ∷ (front ++ field ∷ [])) in (
        record {
          front = first ∷ second ∷ front;
          field = field;
          rest = after;
          split = ap (λ (xs : List (List ℕ)). first ∷ second ∷ xs) parts.1;
          right = r;
          is_right = is;
          wanted = begun (front ++ r ∷ []) (subst P parts.0 wanted);
          bad = λ begins. bad (subst Q (sym parts.0) (begun_back (front ++ field ∷ []) begins));
        },
        refl,
        λ name begins. let N : List ℕ → Type 0 = λ y. Begins (y ∷ (front ++ name ∷ [])) in begun (front ++ name ∷ []) (subst N parts.0 begins),
        λ name begins. let N : List ℕ → Type 0 = λ y. Begins (y ∷ (front ++ name ∷ [])) in subst N (sym parts.0) (begun_back (front ++ name ∷ []) begins),
      )

  has_bad_shared : (IsRight : List ℕ → Type 0) (rest : List (List ℕ)) (bad : HasBad IsRight (word ∷ rest))
      → (new : HasBad IsRight (first ∷ second ∷ rest)) × (new.field ≡ bad.field)
      × ((name : List ℕ) → Begins (bad.front ++ name ∷ []) → Begins (new.front ++ name ∷ [])) × ((name : List ℕ) → Begins (new.front ++ name ∷ []) → Begins (bad.front ++ name ∷ []))
  has_bad_shared IsRight rest bad = has_bad_by IsRight rest bad.front bad.field bad.rest bad.right bad.split bad.is_right bad.wanted bad.bad

  -- A bad field in a place where not every name may be, after the other two words.
  elsewhere_shared : (IsRight : List ℕ → Type 0) (rest : List (List ℕ)) (bad : HasBadElsewhere IsRight (word ∷ rest)) → (new : HasBadElsewhere IsRight (first ∷ second ∷ rest)) × (new.found.field ≡ bad.found.field)
  elsewhere_shared IsRight rest bad =
      let new = has_bad_shared IsRight rest bad.found in
      (record { found = new.0; elsewhere = λ takes. bad.elsewhere (λ name is. new.3 name (takes name is)) }, new.1)

  extra_by : (rest front : List (List ℕ)) (field : List ℕ) (after : List (List ℕ)) → word ∷ rest ≡ front ++ field ∷ after → SaysSome front → ((other : List ℕ) → Begins (front ++ other ∷ []) → ⊥) → HasExtra (first ∷ second ∷ rest)
  extra_by rest [] field after split whole last = absurd (last word starts)
  extra_by rest (w ∷ front) field after split whole last =
      let parts = after_word w rest front field after split in
      let P : List ℕ → Type 0 = λ y. SaysSome (y ∷ front) in
      record {
        front = first ∷ second ∷ front;
        field = field;
        rest = after;
        split = ap (λ (xs : List (List ℕ)). first ∷ second ∷ xs) parts.1;
        whole = said front (subst P parts.0 whole);
        last = λ other begins.
            let Q : List ℕ → Type 0 = λ y. Begins (y ∷ (front ++ other ∷ [])) in
            last other (subst Q (sym parts.0) (begun_back (front ++ other ∷ []) begins));
      }

  pub shared_cause : (cause : Cause) (rest : List (List ℕ)) → IsFieldCause cause (word ∷ rest) → IsFieldCause cause (first ∷ second ∷ rest)
  shared_cause causes.Byte rest h = h
  shared_cause causes.Word rest h = (elsewhere_shared IsWord rest h).0
  shared_cause causes.Missing rest h = record { begins = begun rest h.begins; incomplete = λ some. h.incomplete (said_back rest some) }
  shared_cause causes.Extra rest h = extra_by rest h.front h.field h.rest h.split h.whole h.last
  shared_cause causes.Number rest (inl h) = inl (elsewhere_shared GivesNumber rest h).0
  shared_cause causes.Number rest (inr (h, is)) =
      let new = elsewhere_shared GivesSizeOfFont rest h in
      inr (new.0, subst GivesDimension (sym new.1) is)
  shared_cause causes.Dimension rest (h, none) =
      let new = elsewhere_shared GivesSize rest h in
      (new.0, λ given. none (subst GivesDimension new.1 given))
  shared_cause causes.Name rest (h, takes) =
      let new = has_bad_shared IsName rest h in
      (new.0, λ name is. new.2 name (takes name is))
