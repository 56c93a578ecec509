-- At each place in the fields of a command one kind of field belongs, or any name of a font. The kind follows from the fields before the place.
use Rattle.std.proofs.Common.{◌≡◌, ◌⊎◌, inl, inr, ℕ, ℤ, pos, true, if◌then◌else◌, List, [], ◌∷◌, ◌++◌, Option, Some, None, codes, refl, sym, subst}
use Rattle.std.specs.Prelude.{not}
use Rattle.std.specs.List.{list_all}
use Rattle.std.specs.Str.{bytes_eq}
use Rattle.node_core.specs.declared.tree.Kind.TheVariants.{Horizontal, Vertical}
use Rattle.node_core.specs.declared.tree.Glue as glues
use Rattle.node_core.specs.declared.tree.Order.{Order}
use Rattle.pack_core.specs.declared.pack.Target.{Target}
use Rattle.pack_core.specs.declared.pack.Target.TheVariants.{Natural, To, Spread}
use Rattle.job_machine.specs.declared.command.BoxForm.TheVariants as forms
use Rattle.job_machine.specs.declared.command.Transfer.TheVariants.{Move, Copy}
use Rattle.job_machine.specs.declared.parameter.SizeParameter.{SizeParameter}
use Rattle.job_machine.specs.declared.parameter.SkipParameter.{SkipParameter}
use Rattle.job_machine.specs.declared.parameter.Parameter.{Parameter}
use Rattle.job_machine.specs.declared.parameter.Parameter.TheVariants as parameters
use Rattle.job_machine.specs.declared.command.Command.{Command}
use Rattle.job_machine.specs.declared.command.Command.TheVariants.{LoadFont, UseFont, Open, Paragraph, End, Text, Character, Rule, Kern, Glue, Penalty, Append, Unbox, LastBox, Split, Measure, Void, Set, Count, Special, Ship}
use Rattle.boxglue_script.specs.declared.cause.Cause.{Cause}
use Rattle.boxglue_script.specs.declared.cause.Cause.TheVariants as causes
use Rattle.boxglue_script.specs.declared.cause.Cause.TheVariants.{Word, Number, Dimension}
use Rattle.boxglue_script.specs.declared.name.Name.{Name}
use Rattle.boxglue_script.specs.declared.name.Name.TheVariants as names
use Rattle.boxglue_script.specs.Private.Names.{name_of}
use Rattle.boxglue_script.specs.ParameterNames.{sizes, skips, numbers, names_in, named_in, size_name, skip_name, number_name}
use Rattle.boxglue_script.specs.Grammar.{IsSlot, IsChosenSize, IsTarget, IsDestination, IsShift, IsGluePart, IsGlue, SaysParameter, SaysCommand}
use Rattle.boxglue_script.specs.Causes.{TakesNames}
use Rattle.boxglue_script.proofs.NameLaws.{name_text, name_read}
use Rattle.boxglue_script.proofs.ParameterNameLaws.{named_all, skip_no_size, number_no_size, number_no_skip, first_lines_no_size, first_lines_no_skip}
use Rattle.boxglue_script.proofs.FieldKinds.{begins_low, kind_of, high_kind, integer_kind, dimension_kind, amount_kind, size_kind}

-- The kind that belongs after some fields, by the part of the command that these fields begin.
abbrev font_size_place : List (List ℕ) → Cause
font_size_place [] = Word
font_size_place (at ∷ fields) = Dimension

abbrev font_place : List (List ℕ) → Cause
font_place [] = Number
font_place (slot ∷ []) = causes.Name
font_place (slot ∷ name ∷ fields) = font_size_place fields

abbrev sized_place : List (List ℕ) → Cause
sized_place [] = Dimension
sized_place (size ∷ []) = Word
sized_place (size ∷ into ∷ fields) = Number

abbrev open_place : List (List ℕ) → Cause
open_place [] = Word
open_place (word ∷ fields) = if bytes_eq word (codes "into") then Number else sized_place fields

abbrev append_place : List (List ℕ) → Cause
append_place [] = Number
append_place (register ∷ []) = Word
append_place (register ∷ shift ∷ fields) = Dimension

abbrev split_place : List (List ℕ) → Cause
split_place [] = Number
split_place (register ∷ []) = Word
split_place (register ∷ to ∷ fields) = sized_place fields

abbrev part_place : List (List ℕ) → Cause
part_place [] = Word
part_place (word ∷ []) = Dimension
part_place (word ∷ amount ∷ fields) = part_place fields

abbrev glue_place : List (List ℕ) → Cause
glue_place [] = Dimension
glue_place (width ∷ fields) = part_place fields

abbrev value_place : Option SizeParameter → Option SkipParameter → List (List ℕ) → Cause
value_place (Some name) skip fields = Dimension
value_place None (Some name) fields = glue_place fields
value_place None None fields = Number

abbrev set_place : List (List ℕ) → Cause
set_place [] = Word
set_place (word ∷ fields) = value_place (size_name word) (skip_name word) fields

abbrev place_after : Name → List (List ℕ) → Cause
place_after names.Font fields = font_place fields
place_after (names.Open form) fields = open_place fields
place_after names.Rule fields = Dimension
place_after names.Kern fields = Dimension
place_after names.Glue fields = glue_place fields
place_after (names.Append taking) fields = append_place fields
place_after names.Split fields = split_place fields
place_after names.Set fields = set_place fields
place_after name fields = Number

abbrev place_by : Option Name → List (List ℕ) → Cause
place_by None fields = Word
place_by (Some name) fields = place_after name fields

abbrev pub place_of : List (List ℕ) → Cause
place_of [] = Word
place_of (word ∷ fields) = place_by (name_of word) fields

-- Each field has the kind of its place, or any name of a font may be at its place.
abbrev pub HasKinds : (place : List (List ℕ) → Cause) → (takes : List (List ℕ) → Type 0) → List (List ℕ) → Type 0
HasKinds place takes [] = Unit {0}
HasKinds place takes (field ∷ rest) = (takes [] ⊎ (kind_of field ≡ place [])) × HasKinds (λ front. place (field ∷ front)) (λ front. takes (field ∷ front)) rest

-- The field at one place.
pub kind_there : (place : List (List ℕ) → Cause) (takes : List (List ℕ) → Type 0) (front : List (List ℕ)) (field : List ℕ) (rest : List (List ℕ)) → HasKinds place takes (front ++ field ∷ rest) → takes front ⊎ (kind_of field ≡ place front)
kind_there place takes [] field rest h = h.0
kind_there place takes (first ∷ front) field rest h = kind_there (λ xs. place (first ∷ xs)) (λ xs. takes (first ∷ xs)) front field rest h.1

name_kind : (name : Name) → kind_of (name_text name) ≡ Word
name_kind names.Font = refl
name_kind names.Use = refl
name_kind (names.Open forms.Hbox) = refl
name_kind (names.Open forms.Vbox) = refl
name_kind (names.Open forms.Vtop) = refl
name_kind names.Paragraph = refl
name_kind names.End = refl
name_kind names.Character = refl
name_kind names.Rule = refl
name_kind names.Kern = refl
name_kind names.Glue = refl
name_kind names.Penalty = refl
name_kind (names.Append Move) = refl
name_kind (names.Append Copy) = refl
name_kind (names.Unbox Horizontal Move) = refl
name_kind (names.Unbox Horizontal Copy) = refl
name_kind (names.Unbox Vertical Move) = refl
name_kind (names.Unbox Vertical Copy) = refl
name_kind names.LastBox = refl
name_kind names.Split = refl
name_kind names.Measure = refl
name_kind names.Void = refl
name_kind names.Set = refl
name_kind names.Count = refl
name_kind names.Ship = refl

after_name : (name : Name) (rest : List (List ℕ)) → HasKinds (place_after name) (λ front. TakesNames (name_text name ∷ front)) rest → HasKinds place_of TakesNames (name_text name ∷ rest)
after_name name rest h =
    let P : Option Name → Type 0 = λ o. HasKinds (λ front. place_by o front) (λ front. TakesNames (name_text name ∷ front)) rest in
    (inr (name_kind name), subst P (sym (name_read name)) h)

-- After a slot any name of a font may be.
slot_takes : (slot : List ℕ) (n : ℕ) → IsSlot slot n → TakesNames (codes "font" ∷ slot ∷ [])
slot_takes slot n is = λ name named. ([], (LoadFont (record { slot = n; name = name; size = None }), (slot, [], refl, is, named, refl)))

font_size_kinds : (takes : List (List ℕ) → Type 0) (fields : List (List ℕ)) (size : Option ℤ) → IsChosenSize fields size → HasKinds font_size_place takes fields
font_size_kinds takes fields None h = rw h tt
font_size_kinds takes fields (Some z) (d, e, h) = rw e (inr refl, (inr (dimension_kind d z h.dimension), tt))

opening_kinds : (takes : List (List ℕ) → Type 0) (size : List (List ℕ)) (target : Target) (fields : List (List ℕ)) (into : Option ℕ) → IsTarget size target → IsDestination fields into → HasKinds open_place takes (size ++ fields)
opening_kinds takes size Natural fields None e h = rw (e, h) tt
opening_kinds takes size Natural fields (Some n) e (r, f, h) = rw (e, f) (inr refl, (inr (integer_kind r (pos n) h.written), tt))
opening_kinds takes size (To z) fields None (d, e, is) h = rw (e, h) (inr refl, (inr (dimension_kind d z is), tt))
opening_kinds takes size (To z) fields (Some n) (d, e, is) (r, f, h) = rw (e, f) (inr refl, (inr (dimension_kind d z is), (inr refl, (inr (integer_kind r (pos n) h.written), tt))))
opening_kinds takes size (Spread z) fields None (d, e, is) h = rw (e, h) (inr refl, (inr (dimension_kind d z is), tt))
opening_kinds takes size (Spread z) fields (Some n) (d, e, is) (r, f, h) = rw (e, f) (inr refl, (inr (dimension_kind d z is), (inr refl, (inr (integer_kind r (pos n) h.written), tt))))

append_kinds : (takes : List (List ℕ) → Type 0) (r : List ℕ) (fields : List (List ℕ)) (z : ℤ) → kind_of r ≡ Number → IsShift fields z → HasKinds append_place takes (r ∷ fields)
append_kinds takes r fields z number (inl h) = rw h.0 (inr number, tt)
append_kinds takes r fields z number (inr (d, e, h)) = rw e (inr number, (inr refl, (inr (dimension_kind d z h), tt)))

-- The last part of a glue, and one before others.
last_part_kinds : (takes : List (List ℕ) → Type 0) (word : List ℕ) → kind_of word ≡ Word → (fields : List (List ℕ)) (order : Order) (z : ℤ) → IsGluePart word fields order z → HasKinds part_place takes fields
last_part_kinds takes word is fields order z (inl h) = rw h.0 tt
last_part_kinds takes word is fields order z (inr (x, e, h)) = rw e (inr is, (inr (amount_kind x order z h), tt))

part_kinds : (takes : List (List ℕ) → Type 0) (word : List ℕ) → kind_of word ≡ Word → (fields more : List (List ℕ)) (order : Order) (z : ℤ) → IsGluePart word fields order z
    → ((others : List (List ℕ) → Type 0) → HasKinds part_place others more) → HasKinds part_place takes (fields ++ more)
part_kinds takes word is fields more order z (inl h) later = rw h.0 (later takes)
part_kinds takes word is fields more order z (inr (x, e, h)) later = rw e (inr is, (inr (amount_kind x order z h), later (λ front. takes (word ∷ x ∷ front))))

glue_kinds : (takes : List (List ℕ) → Type 0) (fields : List (List ℕ)) (g : glues.Glue) → IsGlue fields g → HasKinds glue_place takes fields
glue_kinds takes fields g (d, plus, minus, e, width, stretch, shrink) =
    rw e (
      inr (dimension_kind d g.width width),
      part_kinds (λ front. takes (d ∷ front)) (codes "plus") refl plus minus g.stretch_order g.stretch stretch (λ others. last_part_kinds others (codes "minus") refl minus g.shrink_order g.shrink shrink),
    )

-- The name of a parameter is a word.
named_kind : {A : Type 0} (table : List (List ℕ × A)) (word : List ℕ) (name : A) → named_in table word ≡ Some name → list_all (λ w. not (begins_low w)) (names_in table) ≡ true → kind_of word ≡ Word
named_kind table word name is all = high_kind word (named_all (λ w. not (begins_low w)) table word name is all)

value_kinds : (takes : List (List ℕ) → Type 0) (word : List ℕ) (fields : List (List ℕ)) (size : Option SizeParameter) (skip : Option SkipParameter) → size_name word ≡ size → skip_name word ≡ skip
    → HasKinds (λ front. value_place size skip front) takes fields → HasKinds (λ front. set_place (word ∷ front)) takes fields
value_kinds takes word fields size skip is at h =
    let P : Option SizeParameter → Option SkipParameter → Type 0 = λ s k. HasKinds (λ front. value_place s k front) takes fields in
    subst (λ s. P s (skip_name word)) (sym is) (subst (λ k. P size k) (sym at) h)

-- The name of a parameter, and its value.
parameter_kinds : (word : List ℕ) (fields : List (List ℕ)) (parameter : Parameter) → SaysParameter word fields parameter → HasKinds set_place (λ front. TakesNames (codes "set" ∷ front)) (word ∷ fields)
unfolding size_name skip_name number_name
parameter_kinds word fields (parameters.Size name z) (d, is, e, h) =
    (inr (named_kind sizes word name is refl), value_kinds _ word fields (Some name) (skip_name word) is refl (rw e (inr (dimension_kind d z h), tt)))
parameter_kinds word fields (parameters.Skip name g) (is, h) =
    (inr (named_kind skips word name is refl), value_kinds _ word fields None (Some name) (skip_no_size word name is) is (glue_kinds _ fields g h))
parameter_kinds word fields (parameters.Number name z) (p, is, e, h) =
    (inr (named_kind numbers word name is refl), value_kinds _ word fields None None (number_no_size word name is) (number_no_skip word name is) (rw e (inr (integer_kind p z h.written), tt)))
parameter_kinds word fields (parameters.FirstLines n) (l, is, e, h) =
    (inr (rw is refl), value_kinds _ word fields None None (rw is first_lines_no_size) (rw is first_lines_no_skip) (rw e (inr (integer_kind l (pos n) h.written), tt)))

-- Each field of a command has the kind of its place.
pub says_kinds : (fields : List (List ℕ)) (command : Command) → SaysCommand fields command → HasKinds place_of TakesNames fields
says_kinds fields (LoadFont load) (s, more, e, slot, name, size) =
    rw e (after_name names.Font (s ∷ load.name ∷ more) (inr (integer_kind s (pos load.slot) slot.written), (inl (slot_takes s load.slot slot), font_size_kinds (λ front. TakesNames (codes "font" ∷ s ∷ load.name ∷ front)) more load.size size)))
says_kinds fields (UseFont n) (s, e, h) = rw e (after_name names.Use (s ∷ []) (inr (integer_kind s (pos n) h.written), tt))
says_kinds fields (Open opened) (size, more, e, target, into) =
    rw e (after_name (names.Open opened.form) (size ++ more) (opening_kinds (λ front. TakesNames (name_text (names.Open opened.form) ∷ front)) size opened.target more opened.into target into))
says_kinds fields Paragraph e = rw e (after_name names.Paragraph [] tt)
says_kinds fields End e = rw e (after_name names.End [] tt)
says_kinds fields (Text text) h = absurd h
says_kinds fields (Special text) h = absurd h
says_kinds fields (Character n) (c, e, h) = rw e (after_name names.Character (c ∷ []) (inr (integer_kind c (pos n) h.written), tt))
says_kinds fields (Rule rule) (w, h, d, e, width, height, depth) =
    rw e (after_name names.Rule (w ∷ h ∷ d ∷ []) (inr (size_kind w rule.width width), (inr (size_kind h rule.height height), (inr (size_kind d rule.depth depth), tt))))
says_kinds fields (Kern z) (d, e, h) = rw e (after_name names.Kern (d ∷ []) (inr (dimension_kind d z h), tt))
says_kinds fields (Glue g) (more, e, h) = rw e (after_name names.Glue more (glue_kinds (λ front. TakesNames (codes "glue" ∷ front)) more g h))
says_kinds fields (Penalty z) (p, e, h) = rw e (after_name names.Penalty (p ∷ []) (inr (integer_kind p z h.written), tt))
says_kinds fields (Append taken) (r, more, e, h, is) =
    rw e (after_name (names.Append taken.taking) (r ∷ more) (append_kinds (λ front. TakesNames (name_text (names.Append taken.taking) ∷ front)) r more taken.shift (integer_kind r (pos taken.register) h.written) is))
says_kinds fields (Unbox unboxed) (r, e, h) = rw e (after_name (names.Unbox unboxed.kind unboxed.taking) (r ∷ []) (inr (integer_kind r (pos unboxed.register) h.written), tt))
says_kinds fields (LastBox n) (r, e, h) = rw e (after_name names.LastBox (r ∷ []) (inr (integer_kind r (pos n) h.written), tt))
says_kinds fields (Split splitting) (r, d, q, e, from, height, into) =
    rw e (after_name names.Split (r ∷ codes "to" ∷ d ∷ codes "into" ∷ q ∷ []) (
      inr (integer_kind r (pos splitting.register) from.written),
      (inr refl, (inr (dimension_kind d splitting.height height), (inr refl, (inr (integer_kind q (pos splitting.into) into.written), tt)))),
    ))
says_kinds fields (Measure n) (r, e, h) = rw e (after_name names.Measure (r ∷ []) (inr (integer_kind r (pos n) h.written), tt))
says_kinds fields (Void n) (r, e, h) = rw e (after_name names.Void (r ∷ []) (inr (integer_kind r (pos n) h.written), tt))
says_kinds fields (Set parameter) (word, more, e, h) = rw e (after_name names.Set (word ∷ more) (parameter_kinds word more parameter h))
says_kinds fields (Count counted) (i, n, e, count, value) =
    rw e (after_name names.Count (i ∷ n ∷ []) (inr (integer_kind i (pos counted.count) count.written), (inr (integer_kind n counted.value value.written), tt)))
says_kinds fields (Ship n) (r, e, h) = rw e (after_name names.Ship (r ∷ []) (inr (integer_kind r (pos n) h.written), tt))
