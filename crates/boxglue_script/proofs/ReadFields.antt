-- What is read is in the fields.
use Rattle.std.proofs.Common.{◌≡◌, inl, inr, ℕ, ℤ, Bool, true, false, if◌then◌else◌, List, [], ◌∷◌, ◌++◌, Option, Some, None, Result, Ok, Err, codes, refl, ap, sym, ◌∙◌, subst}
use Rattle.std.specs.Str.{bytes_eq}
use Rattle.node_core.specs.declared.tree.Glue as glues
use Rattle.node_core.specs.declared.tree.RuleSize.{RuleSize}
use Rattle.job_machine.specs.declared.command.Command.{Command}
use Rattle.job_machine.specs.declared.command.Command.TheVariants.{LoadFont, Rule}
use Rattle.boxglue_script.specs.declared.cause.Cause.{Cause}
use Rattle.boxglue_script.specs.declared.cause.Cause.TheVariants as causes
use Rattle.boxglue_script.specs.declared.cause.Cause.TheVariants.{Word, Number}
use Rattle.boxglue_script.specs.declared.amounts.Amount.{Amount}
use Rattle.boxglue_script.specs.Grammar.{IsNumberAmong, IsPenalty, IsDimension, IsRuleSizeField, IsName, IsSizeOfFont, IsChosenSize, IsShift, IsAmount, IsGluePart, IsGlue}
use Rattle.boxglue_script.specs.Private.Reading.{rest_of, some_or, number_of, number_first, dimension_or, dimension_first, size_of_font, as_size_of_font, size_of_font_first, is_name, as_name, name_first, map_ok, size_first, no_field_left, and_right, last_number, last_dimension, chosen_size_of, font_by, rule_by, penalty_of, last_penalty, amount_of, amount_first, last_amount, and_then, shift_of, no_amount, glue, last_shrink_of, shrink_of, parts_of, glue_of, last_value, value_first}
use Rattle.scaled_core.specs.declared.fault.DimenFault.{DimenFault}
use Rattle.scaled_core.specs.ParsedTexts.{read_dimension}
use Rattle.boxglue_script.proofs.AmountLaws.{gives_amount}
use Rattle.boxglue_script.proofs.FieldLaws.{same_bytes, writes_number, writes_penalty, reads_dimension, gives_size, names_font, is_size_of_font}

-- No field is left if the end was read.
pub nothing_after : {A : Type 0} (r : Result A Cause) (rest : List (List ℕ)) (x : A) → and_right r (no_field_left rest) ≡ Ok x → (rest ≡ []) × (r ≡ Ok x)
nothing_after (Err cause) rest x h = absurd (cc)
nothing_after (Ok y) [] x h = (refl, h)
nothing_after (Ok y) (field ∷ rest) x h = absurd (cc)

number_in : (count : ℕ) (r : List ℕ) (o : Option ℕ) (n : ℕ) → number_of count r ≡ o → some_or Number o ≡ Ok n → IsNumberAmong count r n
number_in count r None n e h = absurd (cc)
number_in count r (Some m) n e h = writes_number count r n (cc)

-- One number and nothing else was read.
pub number_last : (count : ℕ) (rest : List (List ℕ)) (n : ℕ) → last_number count rest ≡ Ok n → (r : List ℕ) × (rest ≡ r ∷ []) × IsNumberAmong count r n
unfolding last_value value_first
number_last count [] n h = absurd (cc)
number_last count (r ∷ rest) n h =
    let after = nothing_after (some_or Number (number_of count r)) rest n h in
    (r, ap (λ (xs : List (List ℕ)). r ∷ xs) after.0, number_in count r (number_of count r) n refl after.1)

dimension_in : (d : List ℕ) (o : Result ℤ DimenFault) (z : ℤ) → read_dimension d ≡ o → dimension_or o ≡ Ok z → IsDimension d z
dimension_in d (Err fault) z e h = absurd (cc)
dimension_in d (Ok y) z e h = reads_dimension d z (cc)

-- One dimension and nothing else was read.
pub dimension_last : (rest : List (List ℕ)) (z : ℤ) → last_dimension rest ≡ Ok z → (d : List ℕ) × (rest ≡ d ∷ []) × IsDimension d z
unfolding last_value value_first
dimension_last [] z h = absurd (cc)
dimension_last (d ∷ rest) z h =
    let after = nothing_after (dimension_or (read_dimension d)) rest z h in
    (d, ap (λ (xs : List (List ℕ)). d ∷ xs) after.0, dimension_in d (read_dimension d) z refl after.1)

-- A number was read.
pub number_read : (count : ℕ) (fields : List (List ℕ)) (n : ℕ) → number_first count fields ≡ Ok n → (s : List ℕ) × (fields ≡ s ∷ rest_of fields) × IsNumberAmong count s n
unfolding value_first
number_read count [] n h = absurd (cc)
number_read count (s ∷ rest) n h = (s, refl, number_in count s (number_of count s) n refl h)

name_by : (field name : List ℕ) (b : Bool) → is_name field ≡ b → as_name (Ok field) ≡ Ok name → (field ≡ name) × IsName name
name_by field name true e h =
    let s : Ok field ≡ Ok name = rw e at h in
    let same : field ≡ name = cc in
    (same, subst IsName same (names_font field e))
name_by field name false e h = let s : Err causes.Name ≡ Ok name = rw e at h in absurd (cc)

-- The name of a font was read.
pub font_name_read : (fields : List (List ℕ)) (name : List ℕ) → name_first fields ≡ Ok name → (fields ≡ name ∷ rest_of fields) × IsName name
unfolding name_first
font_name_read [] name h = absurd (cc)
font_name_read (field ∷ rest) name h =
    let read = name_by field name (is_name field) refl h in
    (ap (λ (x : List ℕ). x ∷ rest) read.0, read.1)

size_in : (d : List ℕ) (y z : ℤ) (o : Option ℤ) → read_dimension d ≡ Ok y → size_of_font y ≡ o → some_or Number o ≡ Ok z → IsSizeOfFont d z
size_in d y z None e f h = absurd (cc)
size_in d y z (Some x) e f h =
    let is = is_size_of_font y x f in
    let same : z ≡ y = let s : x ≡ z = cc in sym s ∙ is.0 in
    let P : ℤ → Type 0 = λ w. IsSizeOfFont d w in
    subst P (sym same) (record { dimension = reads_dimension d y e; size = is.1 })

size_of_dimension : (d : List ℕ) (z : ℤ) (o : Result ℤ DimenFault) → read_dimension d ≡ o → as_size_of_font (dimension_or o) ≡ Ok z → IsSizeOfFont d z
size_of_dimension d z (Err fault) e h = absurd (cc)
size_of_dimension d z (Ok y) e h = size_in d y z (size_of_font y) e refl h

-- The size of a font and nothing else was read.
size_of_font_last : (fields : List (List ℕ)) (z : ℤ) → and_right (size_of_font_first fields) (no_field_left (rest_of fields)) ≡ Ok z → (d : List ℕ) × (fields ≡ d ∷ []) × IsSizeOfFont d z
unfolding size_of_font_first value_first
size_of_font_last [] z h = absurd (cc)
size_of_font_last (d ∷ rest) z h =
    let after = nothing_after (as_size_of_font (dimension_or (read_dimension d))) rest z h in
    (d, ap (λ (xs : List (List ℕ)). d ∷ xs) after.0, size_of_dimension d z (read_dimension d) refl after.1)

some_size : (r : Result ℤ Cause) (size : Option ℤ) → map_ok Some r ≡ Ok size → (z : ℤ) × (r ≡ Ok z) × (size ≡ Some z)
some_size (Err cause) size h = absurd (cc)
some_size (Ok z) size h = (z, refl, cc)

pub two_fields : (field word : List ℕ) (rest : List (List ℕ)) (last : List ℕ) → field ≡ word → rest ≡ last ∷ [] → field ∷ rest ≡ word ∷ last ∷ []
two_fields field word rest last e f = rw (e, f) refl

two_words : (field word : List ℕ) (rest more : List (List ℕ)) → field ≡ word → rest ≡ more → field ∷ rest ≡ word ∷ more
two_words field word rest more e f = rw (e, f) refl

at_by : (word : List ℕ) (rest : List (List ℕ)) (size : Option ℤ) (b : Bool) → bytes_eq word (codes "at") ≡ b → chosen_size_of (word ∷ rest) ≡ Ok size → IsChosenSize (word ∷ rest) size
unfolding chosen_size_of
at_by word rest size true e h =
    let some = some_size (and_right (size_of_font_first rest) (no_field_left (rest_of rest))) size (rw e at h) in
    let last = size_of_font_last rest some.0 some.1 in
    let all : word ∷ rest ≡ codes "at" ∷ last.0 ∷ [] = two_fields word (codes "at") rest last.0 (same_bytes word (codes "at") e) last.1 in
    let P : Option ℤ → Type 0 = λ o. IsChosenSize (word ∷ rest) o in
    subst P (sym some.2) (last.0, all, last.2)
at_by word rest size false e h = let s : Err Word ≡ Ok size = rw e at h in absurd (cc)

no_size : (size : Option ℤ) → chosen_size_of [] ≡ Ok size → size ≡ None
unfolding chosen_size_of
no_size size h = cc

-- The size after the name of a font was read.
pub chosen_size_read : (fields : List (List ℕ)) (size : Option ℤ) → chosen_size_of fields ≡ Ok size → IsChosenSize fields size
chosen_size_read [] size h = let P : Option ℤ → Type 0 = λ o. IsChosenSize [] o in subst P (sym (no_size size h)) refl
chosen_size_read (word ∷ rest) size h = at_by word rest size (bytes_eq word (codes "at")) refl h

-- One size was read.
pub size_read : (fields : List (List ℕ)) (size : RuleSize) → size_first fields ≡ Ok size → (field : List ℕ) × (fields ≡ field ∷ rest_of fields) × IsRuleSizeField field size
unfolding value_first
size_read [] size h = absurd (cc)
size_read (field ∷ rest) size h = (field, refl, gives_size field size h)

pub nothing_left : (fields : List (List ℕ)) (u : Unit {0}) → no_field_left fields ≡ Ok u → fields ≡ []
nothing_left [] u h = refl
nothing_left (field ∷ rest) u h = absurd (cc)

-- The parts of a rule that were read.
pub record RuleRead (a b c : Result RuleSize Cause) (e : Result (Unit {0}) Cause) (command : Command) : Type 0 where
  pub width : RuleSize
  pub height : RuleSize
  pub depth : RuleSize
  pub width_is : a ≡ Ok width
  pub height_is : b ≡ Ok height
  pub depth_is : c ≡ Ok depth
  pub end : e ≡ Ok tt
  pub command_is : command ≡ Rule (record { width = width; height = height; depth = depth })

pub rule_read : (a b c : Result RuleSize Cause) (e : Result (Unit {0}) Cause) (command : Command) → rule_by a b c e ≡ Ok command → RuleRead a b c e command
rule_read (Err cause) b c e command h = absurd (cc)
rule_read (Ok width) (Err cause) c e command h = absurd (cc)
rule_read (Ok width) (Ok height) (Err cause) e command h = absurd (cc)
rule_read (Ok width) (Ok height) (Ok depth) (Err cause) command h = absurd (cc)
rule_read (Ok w) (Ok h) (Ok d) (Ok tt) command e = record { width = w; height = h; depth = d; width_is = refl; height_is = refl; depth_is = refl; end = refl; command_is = cc }

-- The parts of a font that were read.
pub record FontRead (a : Result ℕ Cause) (b : Result (List ℕ) Cause) (c : Result (Option ℤ) Cause) (command : Command) : Type 0 where
  pub slot : ℕ
  pub name : List ℕ
  pub size : Option ℤ
  pub slot_is : a ≡ Ok slot
  pub name_is : b ≡ Ok name
  pub size_is : c ≡ Ok size
  pub command_is : command ≡ LoadFont (record { slot = slot; name = name; size = size })

pub font_read : (a : Result ℕ Cause) (b : Result (List ℕ) Cause) (c : Result (Option ℤ) Cause) (command : Command) → font_by a b c ≡ Ok command → FontRead a b c command
font_read (Err cause) b c command h = absurd (cc)
font_read (Ok slot) (Err cause) c command h = absurd (cc)
font_read (Ok slot) (Ok name) (Err cause) command h = absurd (cc)
font_read (Ok s) (Ok n) (Ok z) command h = record { slot = s; name = n; size = z; slot_is = refl; name_is = refl; size_is = refl; command_is = cc }

pub made : {A B : Type 0} (make : A → B) (r : Result A Cause) (y : B) → map_ok make r ≡ Ok y → (x : A) × (r ≡ Ok x) × (make x ≡ y)
made make (Err cause) y h = absurd (cc)
made make (Ok x) y h = (x, refl, cc)

-- The first part was read.
pub then_read : {A B : Type 0} (r : Result A Cause) (more : A → Result B Cause) (y : B) → and_then r more ≡ Ok y → (x : A) × (r ≡ Ok x) × (more x ≡ Ok y)
then_read (Err cause) more y h = absurd (cc)
then_read (Ok x) more y h = (x, refl, h)

-- A dimension was read.
pub dimension_first_read : (fields : List (List ℕ)) (z : ℤ) → dimension_first fields ≡ Ok z → (d : List ℕ) × (fields ≡ d ∷ rest_of fields) × IsDimension d z
unfolding value_first
dimension_first_read [] z h = absurd (cc)
dimension_first_read (d ∷ rest) z h = (d, refl, dimension_in d (read_dimension d) z refl h)

-- The shift of a box was read.
shift_by : (w : List ℕ) (rest : List (List ℕ)) (z : ℤ) (b : Bool) → bytes_eq w (codes "shift") ≡ b → (if b then last_dimension rest else Err Word) ≡ Ok z → IsShift (w ∷ rest) z
shift_by w rest z true e h =
    let last = dimension_last rest z h in
    inr (last.0, two_fields w (codes "shift") rest last.0 (same_bytes w (codes "shift") e) last.1, last.2)
shift_by w rest z false e h = absurd (cc)

pub shift_read : (fields : List (List ℕ)) (z : ℤ) → shift_of fields ≡ Ok z → IsShift fields z
unfolding shift_of
shift_read [] z h = inl (refl, cc)
shift_read (w ∷ rest) z h = shift_by w rest z (bytes_eq w (codes "shift")) refl h

-- One amount and nothing else was read.
amount_last : (rest : List (List ℕ)) (a : Amount) → last_amount rest ≡ Ok a → (x : List ℕ) × (rest ≡ x ∷ []) × IsAmount x a.order a.size
unfolding last_value value_first
amount_last [] a h = absurd (cc)
amount_last (x ∷ rest) a h =
    let after = nothing_after (amount_of x) rest a h in
    (x, ap (λ (xs : List (List ℕ)). x ∷ xs) after.0, gives_amount x a after.1)

-- An amount was read.
amount_first_read : (fields : List (List ℕ)) (a : Amount) → amount_first fields ≡ Ok a → (x : List ℕ) × (fields ≡ x ∷ rest_of fields) × IsAmount x a.order a.size
unfolding value_first
amount_first_read [] a h = absurd (cc)
amount_first_read (x ∷ rest) a h = (x, refl, gives_amount x a h)

-- The shrink of glue was read.
pub record ShrinkRead (width : ℤ) (stretch : Amount) (fields : List (List ℕ)) (g : glues.Glue) : Type 0 where
  pub shrink : Amount
  pub part : IsGluePart (codes "minus") fields shrink.order shrink.size
  pub glue_is : glue width stretch shrink ≡ g

last_shrink_read : (width : ℤ) (stretch : Amount) (w : List ℕ) (rest : List (List ℕ)) (g : glues.Glue) → bytes_eq w (codes "minus") ≡ true → last_shrink_of width stretch rest ≡ Ok g → ShrinkRead width stretch (w ∷ rest) g
unfolding last_shrink_of
last_shrink_read width stretch w rest g e h =
    let make = made (glue width stretch) (last_amount rest) g h in
    let last = amount_last rest make.0 make.1 in
    record { shrink = make.0; part = inr (last.0, two_fields w (codes "minus") rest last.0 (same_bytes w (codes "minus") e) last.1, last.2); glue_is = make.2 }

no_shrink_read : (width : ℤ) (stretch : Amount) (g : glues.Glue) → glue width stretch no_amount ≡ g → ShrinkRead width stretch [] g
no_shrink_read width stretch g h = record { shrink = no_amount; part = inl (refl, refl, refl); glue_is = h }

minus_by : (width : ℤ) (stretch : Amount) (w : List ℕ) (rest : List (List ℕ)) (g : glues.Glue) (b : Bool) → bytes_eq w (codes "minus") ≡ b → (if b then last_shrink_of width stretch rest else Err Word) ≡ Ok g → ShrinkRead width stretch (w ∷ rest) g
minus_by width stretch w rest g true e h = last_shrink_read width stretch w rest g e h
minus_by width stretch w rest g false e h = absurd (cc)

shrink_read : (width : ℤ) (stretch : Amount) (fields : List (List ℕ)) (g : glues.Glue) → shrink_of width stretch fields ≡ Ok g → ShrinkRead width stretch fields g
unfolding shrink_of
shrink_read width stretch [] g h = no_shrink_read width stretch g (cc)
shrink_read width stretch (w ∷ rest) g h = minus_by width stretch w rest g (bytes_eq w (codes "minus")) refl h

glue_with : (d : List ℕ) (width : ℤ) (stretch : Amount) (plus : List (List ℕ)) (rest : List (List ℕ)) (g : glues.Glue) → IsDimension d width → IsGluePart (codes "plus") plus stretch.order stretch.size → ShrinkRead width stretch rest g → IsGlue (d ∷ (plus ++ rest)) g
glue_with d width stretch plus rest g is part shrink =
    let P : glues.Glue → Type 0 = λ x. IsGlue (d ∷ (plus ++ rest)) x in
    subst P shrink.glue_is (d, plus, rest, refl, is, part, shrink.part)

plus_by : (d : List ℕ) (width : ℤ) (w : List ℕ) (rest : List (List ℕ)) (g : glues.Glue) (b : Bool) → bytes_eq w (codes "plus") ≡ b → IsDimension d width
    → (if b then and_then (amount_first rest) (λ stretch. shrink_of width stretch (rest_of rest)) else (if bytes_eq w (codes "minus") then last_shrink_of width no_amount rest else Err Word)) ≡ Ok g
    → IsGlue (d ∷ w ∷ rest) g
plus_by d width w rest g true e is h =
    let read = then_read (amount_first rest) (λ stretch. shrink_of width stretch (rest_of rest)) g h in
    let x = amount_first_read rest read.0 read.1 in
    let all : w ∷ rest ≡ codes "plus" ∷ x.0 ∷ rest_of rest = two_words w (codes "plus") rest (x.0 ∷ rest_of rest) (same_bytes w (codes "plus") e) x.1 in
    let P : List (List ℕ) → Type 0 = λ xs. IsGlue (d ∷ xs) g in
    subst P (sym all) (glue_with d width read.0 (codes "plus" ∷ x.0 ∷ []) (rest_of rest) g is (inr (x.0, refl, x.2)) (shrink_read width read.0 (rest_of rest) g read.2))
plus_by d width w rest g false e is h =
    glue_with d width no_amount [] (w ∷ rest) g is (inl (refl, refl, refl)) (minus_by width no_amount w rest g (bytes_eq w (codes "minus")) refl h)

parts_read : (d : List ℕ) (width : ℤ) (rest : List (List ℕ)) (g : glues.Glue) → IsDimension d width → parts_of width rest ≡ Ok g → IsGlue (d ∷ rest) g
unfolding parts_of
parts_read d width [] g is h = glue_with d width no_amount [] [] g is (inl (refl, refl, refl)) (no_shrink_read width no_amount g (cc))
parts_read d width (w ∷ rest) g is h = plus_by d width w rest g (bytes_eq w (codes "plus")) refl is h

pub glue_read : (rest : List (List ℕ)) (g : glues.Glue) → glue_of rest ≡ Ok g → IsGlue rest g
unfolding glue_of
glue_read rest g h =
    let read = then_read (dimension_first rest) (λ width. parts_of width (rest_of rest)) g h in
    let d = dimension_first_read rest read.0 read.1 in
    let P : List (List ℕ) → Type 0 = λ xs. IsGlue xs g in
    subst P (sym d.1) (parts_read d.0 read.0 (rest_of rest) g d.2 read.2)

penalty_in : (p : List ℕ) (o : Option ℤ) (z : ℤ) → penalty_of p ≡ o → some_or Number o ≡ Ok z → IsPenalty p z
penalty_in p None z e h = absurd (cc)
penalty_in p (Some y) z e h = writes_penalty p z (cc)

pub penalty_last : (rest : List (List ℕ)) (z : ℤ) → last_penalty rest ≡ Ok z → (p : List ℕ) × (rest ≡ p ∷ []) × IsPenalty p z
unfolding last_value value_first
penalty_last [] z h = absurd (cc)
penalty_last (p ∷ rest) z h =
    let after = nothing_after (some_or Number (penalty_of p)) rest z h in
    (p, ap (λ (xs : List (List ℕ)). p ∷ xs) after.0, penalty_in p (penalty_of p) z refl after.1)
