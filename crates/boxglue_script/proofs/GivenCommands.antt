-- The commands of the grammar are read.
use Rattle.std.proofs.Common.{◌≡◌, inl, inr, ℕ, ℤ, List, [], ◌∷◌, ◌++◌, Option, Some, None, Ok, codes, refl, ◌∙◌}
use Rattle.node_core.specs.declared.tree.Glue as glues
use Rattle.node_core.specs.declared.tree.Order.{Order}
use Rattle.pack_core.specs.declared.pack.Target.{Target}
use Rattle.pack_core.specs.declared.pack.Target.TheVariants.{Natural, To, Spread}
use Rattle.job_machine.specs.declared.command.BoxForm.{BoxForm}
use Rattle.job_machine.specs.declared.command.Transfer.{Transfer}
use Rattle.job_machine.specs.declared.parameter.Parameter.{Parameter}
use Rattle.job_machine.specs.declared.parameter.Parameter.TheVariants as parameters
use Rattle.job_machine.specs.declared.command.Command.{Command}
use Rattle.job_machine.specs.declared.command.Command.TheVariants.{LoadFont, UseFont, Open, Paragraph, End, Text, Character, Rule, Kern, Glue, Penalty, Append, Unbox, LastBox, Split, Measure, Void, Set, Count, Special, Ship}
use Rattle.boxglue_script.specs.declared.name.Name.TheVariants as names
use Rattle.boxglue_script.specs.declared.amounts.Amount.{Amount}
use Rattle.boxglue_script.specs.Grammar.{register_count, slot_count, character_count, counter_count, first_lines_count, IsCountNumber, IsCount, IsNumberAmong, IsRegister, IsChosenSize, IsTarget, IsDestination, IsShift, IsDimension, IsAmount, IsGluePart, IsGlue, SaysParameter, SaysCommand}
use Rattle.boxglue_script.specs.Private.Reading.{count_command, counting_of, size_of_font_first, name_first, map_ok, last_number, chosen_size_of, font_of, rule_of, amount, last_amount, opening_command, opening_with_register, opening_into, opening_with_size, opening_of, append, shift_of, append_of, unboxing_command, split_command, split_into, split_height, split_to, split_of, no_amount, glue, last_shrink_of, shrink_of, parts_of, glue_of, parameter_of, command_named, command_of, last_value, value_first}
use Rattle.boxglue_script.proofs.AmountLaws.{amount_given}
use Rattle.boxglue_script.proofs.FieldLaws.{number_written, penalty_written, dimension_read, size_given, font_named, size_of_font_is}
use Rattle.boxglue_script.proofs.CountNumbers.{count_written}
use Rattle.boxglue_script.proofs.NameLaws.{named}
use Rattle.boxglue_script.proofs.ParameterNameLaws.{skip_no_size, number_no_size, number_no_skip, first_lines_no_size, first_lines_no_skip, first_lines_no_number, first_lines_read}

-- A number that is the last field.
pub number_alone : (count : ℕ) (make : ℕ → Command) (r : List ℕ) (n : ℕ) → IsNumberAmong count r n → map_ok make (last_number count (r ∷ [])) ≡ Ok (make n)
unfolding last_value value_first
number_alone count make r n h = rw (number_written count r n h) refl

-- The size after the name of a font.
pub chosen_size_given : (fields : List (List ℕ)) (size : Option ℤ) → IsChosenSize fields size → chosen_size_of fields ≡ Ok size
unfolding chosen_size_of size_of_font_first value_first
chosen_size_given fields None h = rw h refl
chosen_size_given fields (Some z) (d, e, h) = rw (e, dimension_read d z h.dimension, size_of_font_is z h.size) refl

-- What follows a size.
destination_given : (form : BoxForm) (target : Target) (fields : List (List ℕ)) (into : Option ℕ) → IsDestination fields into → opening_into form target fields ≡ Ok (opening_command form target into)
unfolding opening_into opening_with_register
destination_given form target fields None h = rw h refl
destination_given form target fields (Some n) (r, e, h) = rw e (number_alone register_count (λ register. opening_command form target (Some register)) r n h)

natural_given : (form : BoxForm) (fields : List (List ℕ)) (into : Option ℕ) → IsDestination fields into → opening_of form fields ≡ Ok (opening_command form Natural into)
unfolding opening_of opening_with_register
natural_given form fields None h = rw h refl
natural_given form fields (Some n) (r, e, h) = rw e (number_alone register_count (λ register. opening_command form Natural (Some register)) r n h)

-- A size and what follows it.
opening_given : (form : BoxForm) (size : List (List ℕ)) (target : Target) (fields : List (List ℕ)) (into : Option ℕ) → IsTarget size target → IsDestination fields into → opening_of form (size ++ fields) ≡ Ok (opening_command form target into)
unfolding opening_of opening_with_size value_first
opening_given form size Natural fields into e h = rw e (natural_given form fields into h)
opening_given form size (To z) fields into (d, e, is) h = rw (e, dimension_read d z is) (destination_given form (To z) fields into h)
opening_given form size (Spread z) fields into (d, e, is) h = rw (e, dimension_read d z is) (destination_given form (Spread z) fields into h)

shift_given : (fields : List (List ℕ)) (z : ℤ) → IsShift fields z → shift_of fields ≡ Ok z
unfolding shift_of last_value value_first
shift_given fields z (inl h) = rw (h.0, h.1) refl
shift_given fields z (inr (d, e, h)) = rw (e, dimension_read d z h) refl

append_given : (taking : Transfer) (r : List ℕ) (n : ℕ) (fields : List (List ℕ)) (z : ℤ) → IsRegister r n → IsShift fields z → append_of taking (r ∷ fields) ≡ Ok (append taking n z)
unfolding append_of value_first
append_given taking r n fields z h is = rw (number_written register_count r n h, shift_given fields z is) refl

split_given : (r : List ℕ) (n : ℕ) (d : List ℕ) (z : ℤ) (q : List ℕ) (m : ℕ) → IsRegister r n → IsDimension d z → IsRegister q m
    → split_of (r ∷ codes "to" ∷ d ∷ codes "into" ∷ q ∷ []) ≡ Ok (split_command n z m)
unfolding split_of split_to split_height split_into value_first
split_given r n d z q m h is at = rw (number_written register_count r n h, dimension_read d z is) (number_alone register_count (split_command n z) q m at)

counting_given : (i : List ℕ) (count : ℕ) (n : List ℕ) (value : ℤ) → IsCountNumber i count → IsCount n value → counting_of (i ∷ n ∷ []) ≡ Ok (count_command count value)
unfolding counting_of value_first last_value
counting_given i count n value h is = rw (number_written counter_count i count h, count_written n value is) refl

last_amount_given : (make : Amount → glues.Glue) (x : List ℕ) (order : Order) (z : ℤ) → IsAmount x order z → map_ok make (last_amount (x ∷ [])) ≡ Ok (make (amount order z))
unfolding last_value value_first
last_amount_given make x order z h = rw (amount_given x order z h) refl

-- The shrink of a glue.
shrink_given : (width : ℤ) (stretch : Amount) (minus : List (List ℕ)) (order : Order) (z : ℤ) → IsGluePart (codes "minus") minus order z → shrink_of width stretch minus ≡ Ok (glue width stretch (amount order z))
unfolding shrink_of last_shrink_of
shrink_given width stretch minus order z (inl h) = rw (h.0, h.1, h.2) refl
shrink_given width stretch minus order z (inr (x, e, h)) = rw e (last_amount_given (glue width stretch) x order z h)

shrink_alone : (width : ℤ) (minus : List (List ℕ)) (order : Order) (z : ℤ) → IsGluePart (codes "minus") minus order z → parts_of width minus ≡ Ok (glue width no_amount (amount order z))
unfolding parts_of last_shrink_of
shrink_alone width minus order z (inl h) = rw (h.0, h.1, h.2) refl
shrink_alone width minus order z (inr (x, e, h)) = rw e (last_amount_given (glue width no_amount) x order z h)

-- The stretch and the shrink of a glue.
parts_given : (width : ℤ) (plus minus : List (List ℕ)) (stretch_order : Order) (stretch : ℤ) (shrink_order : Order) (shrink : ℤ)
    → IsGluePart (codes "plus") plus stretch_order stretch → IsGluePart (codes "minus") minus shrink_order shrink
    → parts_of width (plus ++ minus) ≡ Ok (glue width (amount stretch_order stretch) (amount shrink_order shrink))
unfolding parts_of value_first
parts_given width plus minus so s mo m (inl h) is = rw (h.0, h.1, h.2) (shrink_alone width minus mo m is)
parts_given width plus minus so s mo m (inr (x, e, h)) is = rw (e, amount_given x so s h) (shrink_given width (amount so s) minus mo m is)

glue_given : (fields : List (List ℕ)) (g : glues.Glue) → IsGlue fields g → glue_of fields ≡ Ok g
unfolding glue_of value_first
glue_given fields g (d, plus, minus, e, width, stretch, shrink) =
    rw (e, dimension_read d g.width width) (parts_given g.width plus minus g.stretch_order g.stretch g.shrink_order g.shrink stretch shrink)

-- A parameter.
parameter_given : (word : List ℕ) (fields : List (List ℕ)) (parameter : Parameter) → SaysParameter word fields parameter → map_ok Set (parameter_of (word ∷ fields)) ≡ Ok (Set parameter)
unfolding parameter_of last_value value_first
parameter_given word fields (parameters.Size name z) (d, is, e, h) = rw (is, e, dimension_read d z h) refl
parameter_given word fields (parameters.Skip name g) (is, h) = rw (skip_no_size word name is, is, glue_given fields g h) refl
parameter_given word fields (parameters.Number name z) (p, is, e, h) = rw (number_no_size word name is, number_no_skip word name is, is, e, penalty_written p z h) refl
parameter_given word fields (parameters.FirstLines n) (l, is, e, h) =
    rw (is, e, first_lines_no_size, first_lines_no_skip, first_lines_no_number, first_lines_read, number_written first_lines_count l n h) refl

-- The fields of a command are read as this command.
pub complete : (fields : List (List ℕ)) (command : Command) → SaysCommand fields command → command_of fields ≡ Ok command
unfolding command_named font_of value_first name_first rule_of last_value
complete fields (LoadFont load) (s, more, e, slot, name, size) =
    rw e (named names.Font (s ∷ load.name ∷ more) ∙ (rw (number_written slot_count s load.slot slot, font_named load.name name, chosen_size_given more load.size size) refl))
complete fields (UseFont n) (s, e, h) = rw e (named names.Use (s ∷ []) ∙ number_alone slot_count UseFont s n h)
complete fields (Open opened) (size, more, e, target, into) =
    rw e (named (names.Open opened.form) (size ++ more) ∙ opening_given opened.form size opened.target more opened.into target into)
complete fields Paragraph e = rw e (named names.Paragraph [])
complete fields End e = rw e (named names.End [])
complete fields (Text text) h = absurd h
complete fields (Special text) h = absurd h
complete fields (Character n) (c, e, h) = rw e (named names.Character (c ∷ []) ∙ number_alone character_count Character c n h)
complete fields (Rule sizes) (w, h, d, e, width, height, depth) =
    rw e (named names.Rule (w ∷ h ∷ d ∷ []) ∙ (rw (size_given w sizes.width width, size_given h sizes.height height, size_given d sizes.depth depth) refl))
complete fields (Kern z) (d, e, h) = rw e (named names.Kern (d ∷ []) ∙ (rw (dimension_read d z h) refl))
complete fields (Glue g) (more, e, h) = rw e (named names.Glue more ∙ (rw (glue_given more g h) refl))
complete fields (Penalty z) (p, e, h) = rw e (named names.Penalty (p ∷ []) ∙ (rw (penalty_written p z h) refl))
complete fields (Append taken) (r, more, e, h, is) = rw e (named (names.Append taken.taking) (r ∷ more) ∙ append_given taken.taking r taken.register more taken.shift h is)
complete fields (Unbox unboxed) (r, e, h) = rw e (named (names.Unbox unboxed.kind unboxed.taking) (r ∷ []) ∙ number_alone register_count (unboxing_command unboxed.kind unboxed.taking) r unboxed.register h)
complete fields (LastBox n) (r, e, h) = rw e (named names.LastBox (r ∷ []) ∙ number_alone register_count LastBox r n h)
complete fields (Split splitting) (r, d, q, e, from, height, into) =
    rw e (named names.Split (r ∷ codes "to" ∷ d ∷ codes "into" ∷ q ∷ []) ∙ split_given r splitting.register d splitting.height q splitting.into from height into)
complete fields (Measure n) (r, e, h) = rw e (named names.Measure (r ∷ []) ∙ number_alone register_count Measure r n h)
complete fields (Void n) (r, e, h) = rw e (named names.Void (r ∷ []) ∙ number_alone register_count Void r n h)
complete fields (Set parameter) (word, more, e, h) = rw e (named names.Set (word ∷ more) ∙ parameter_given word more parameter h)
complete fields (Count counted) (i, n, e, count, value) = rw e (named names.Count (i ∷ n ∷ []) ∙ counting_given i counted.count n counted.value count value)
complete fields (Ship n) (r, e, h) = rw e (named names.Ship (r ∷ []) ∙ number_alone register_count Ship r n h)
