-- The first field of a line.
use Rattle.std.proofs.Common.{◌≡◌, ℕ, ◌+◌, ◌<◌, ◌≤◌, Bool, true, false, List, [], ◌∷◌, length, take, drop, get_or, refl, ap, sym, ◌∙◌, arith, ⊎_elim}
use Rattle.std.proofs.Math.Numerals.{one-add}
use Rattle.std.specs.List.{slice_split, filter, prefix_len}
use Rattle.std.proofs.lemmas.List.Splits.{slice_split_first, slice_split_none, slice_split-cons_yes}
use Rattle.std.proofs.lemmas.List.Sums.{fails_before_first, passes_at_first}
use Rattle.std.proofs.lemmas.List.{drop_more, take_all, drop_all}
use Rattle.std.proofs.lemmas.Bool.{cases_lt}
use Rattle.boxglue_script.specs.ScriptLines.{fields_of, is_space, is_filled}
use Rattle.boxglue_script.specs.Private.Names.{name_of}
use Rattle.boxglue_script.specs.Private.Reading.{front_field, after_field, without_spaces, in_field, first_word, named_by, command_by, command_of}

-- A space at the beginning of a line gives no field.
pub fields-space : (byte : ℕ) (line : List ℕ) → is_space byte ≡ true → fields_of (byte ∷ line) ≡ fields_of line
unfolding fields_of
fields-space byte line e = rw (slice_split-cons_yes is_space byte line e) refl

fields-without_one : (byte : ℕ) (line : List ℕ) (b : Bool) → is_space byte ≡ b → fields_of line ≡ fields_of (without_spaces line) → fields_of (byte ∷ line) ≡ fields_of (without_spaces (byte ∷ line))
fields-without_one byte line true e more = fields-space byte line e ∙ more ∙ (rw (e, one-add) refl)
fields-without_one byte line false e more = rw e refl

-- Spaces at the beginning of a line give no field.
fields-without_spaces : (line : List ℕ) → fields_of line ≡ fields_of (without_spaces line)
fields-without_spaces [] = refl
fields-without_spaces (byte ∷ line) = fields-without_one byte line (is_space byte) refl (fields-without_spaces line)

starts_one : (byte : ℕ) (line : List ℕ) (b : Bool) → is_space byte ≡ b → prefix_len is_space (without_spaces line) ≡ 0 → prefix_len is_space (without_spaces (byte ∷ line)) ≡ 0
starts_one byte line true e more = rw (e, one-add) more
starts_one byte line false e more = rw e (rw e refl)

-- No space is left at the beginning.
starts : (line : List ℕ) → prefix_len is_space (without_spaces line) ≡ 0
starts [] = refl
starts (byte ∷ line) = starts_one byte line (is_space byte) refl (starts line)

filter_filled : (x : List ℕ) (parts : List (List ℕ)) → 0 < length x → filter is_filled (x ∷ parts) ≡ x ∷ filter is_filled parts
filter_filled [] parts h = absurd (omega arith)
filter_filled (b ∷ x) parts h = refl

-- A field that a space follows.
pub fields_then : (t : List ℕ) (n : ℕ) → n ≡ prefix_len in_field t → n < length t → 0 < length (take n t) → fields_of t ≡ take n t ∷ fields_of (drop n t)
unfolding fields_of
fields_then t n e inside some =
    let parts : slice_split is_space t ≡ take n t ∷ slice_split is_space (drop (n + 1) t) = rw e (slice_split_first is_space t 0 (rw (← e) inside)) in
    let space : is_space (get_or t n 0) ≡ true = rw e (passes_at_first is_space t 0 (rw (← e) inside)) in
    let after : drop n t ≡ get_or t n 0 ∷ drop (n + 1) t = drop_more t n 0 inside in
    ap (filter is_filled) parts ∙ filter_filled (take n t) (slice_split is_space (drop (n + 1) t)) some
    ∙ ap (λ (xs : List (List ℕ)). take n t ∷ xs) (sym (ap fields_of after ∙ fields-space (get_or t n 0) (drop (n + 1) t) space))

-- A field at the end.
fields_last : (t : List ℕ) (n : ℕ) → n ≡ prefix_len in_field t → length t ≤ n → 0 < length (take n t) → fields_of t ≡ take n t ∷ fields_of (drop n t)
unfolding fields_of
fields_last t n e past some =
    let none : slice_split is_space t ≡ t ∷ [] = slice_split_none is_space t (λ k d lt. fails_before_first is_space t k d (omega arith)) in
    let whole : take n t ≡ t = take_all n t past in
    let nothing : drop n t ≡ [] = drop_all n t past in
    ap (filter is_filled) none ∙ ap (λ (x : List ℕ). filter is_filled (x ∷ [])) (sym whole) ∙ filter_filled (take n t) [] some ∙ ap (λ (x : List ℕ). take n t ∷ fields_of x) (sym nothing)

some_byte : (byte : ℕ) (t : List ℕ) (b : Bool) → is_space byte ≡ b → prefix_len is_space (byte ∷ t) ≡ 0 → 0 < length (take (prefix_len in_field (byte ∷ t)) (byte ∷ t))
some_byte byte t true e starts = let h : 1 + prefix_len is_space t ≡ 0 = rw e at starts in absurd (omega arith)
some_byte byte t false e starts = rw (e, one-add) (omega arith)

-- A text that begins with a byte of a field begins with a field.
some_field : (t : List ℕ) → 0 < length t → prefix_len is_space t ≡ 0 → 0 < length (take (prefix_len in_field t) t)
some_field [] h starts = absurd (omega arith)
some_field (byte ∷ t) h starts = some_byte byte t (is_space byte) refl starts

fields_from : (t : List ℕ) (n : ℕ) → n ≡ prefix_len in_field t → 0 < length (take n t) → fields_of t ≡ take n t ∷ fields_of (drop n t)
fields_from t n e some = ⊎_elim (λ (inside : n < length t). fields_then t n e inside some) (λ (past : length t ≤ n). fields_last t n e past some) (cases_lt n (length t))

pub fields_first : (line : List ℕ) → 0 < length (front_field line) → fields_of line ≡ front_field line ∷ fields_of (after_field line)
unfolding front_field after_field
fields_first line some = fields-without_spaces line ∙ fields_from (without_spaces line) _ refl some

nothing_left : (t : List ℕ) → prefix_len is_space t ≡ 0 → length (take (prefix_len in_field t) t) ≡ 0 → t ≡ []
nothing_left [] starts h = refl
nothing_left (byte ∷ t) starts h = absurd (omega (arith, some_field (byte ∷ t) (omega arith) starts))

no_fields : (t : List ℕ) (n : ℕ) → t ≡ [] → (fields_of t ≡ []) × (fields_of (drop n t) ≡ [])
unfolding fields_of
no_fields t n e =
    let rest : drop n t ≡ [] = rw e (drop_all n [] (omega arith)) in
    (rw e refl, rw rest refl)

pub fields_none : (line : List ℕ) → length (front_field line) ≡ 0 → (fields_of line ≡ []) × (fields_of (after_field line) ≡ [])
unfolding front_field after_field
fields_none line h =
    let none = no_fields (without_spaces line) (prefix_len in_field (without_spaces line)) (nothing_left (without_spaces line) (starts line) h) in
    (fields-without_spaces line ∙ none.0, none.1)

pub ruleset next_field = (fields_none, fields_first)

command_by_word : (line word : List ℕ) → front_field line ≡ word → command_by (first_word word) (fields_of (after_field line)) ≡ command_of (fields_of line)
unfolding command_of
command_by_word line [] is = sym (ap command_of (fields_none line (ap length is)).0)
command_by_word line (byte ∷ word) is =
    sym (ap command_of (fields_first line (omega (arith, ap length is))) ∙ ap (λ (x : List ℕ). named_by (name_of x) (fields_of (after_field line))) is)

-- The command of the fields of a line, by its first field and those after it.
pub line_command : (line word rest : List ℕ) (fields : List (List ℕ)) → word ≡ front_field line → rest ≡ after_field line → fields ≡ fields_of rest
    → command_by (first_word word) fields ≡ command_of (fields_of line)
line_command line word rest fields front after rest_fields =
    ap (λ (x : List (List ℕ)). command_by (first_word word) x) (rest_fields ∙ ap fields_of after) ∙ command_by_word line word (sym front)
