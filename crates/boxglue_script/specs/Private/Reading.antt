-- What the functions that read a script compute (own).
use Rattle.std.specs.Prelude.{◌≡◌, ◌==◌, ℕ, ℤ, pos, negsuc, Bool, true, false, not, ◌&&◌, ◌||◌, if◌then◌else◌, List, [], ◌∷◌, ◌++◌, ◌+◌, ◌-◌, Option}
use Rattle.std.specs.Prelude.{None, Some, Result, Ok, Err, IsOk, codes, drop, take, length, nat_lt, nat_le, unsigned_abs}
use Rattle.std.specs.List.{prefix_len, list_all}
use Rattle.std.specs.Char.{digit_value}
use Rattle.std.specs.Str.{bytes_eq}
use Rattle.std.specs.Str.Parse.{without_leading_sign, signed_digits_value}
use Rattle.scaled_core.specs.declared.fault.DimenFault.{DimenFault}
use Rattle.scaled_core.specs.ParsedTexts.{read_dimension}
use Rattle.node_core.specs.declared.tree.Kind.{Kind}
use Rattle.node_core.specs.declared.tree.Glue as glues
use Rattle.node_core.specs.declared.tree.Order.{Order}
use Rattle.node_core.specs.declared.tree.Order.TheVariants.{Normal, Fil, Fill, Filll}
use Rattle.node_core.specs.declared.tree.RuleSize.{RuleSize}
use Rattle.node_core.specs.declared.tree.RuleSize.TheVariants.{Running, Fixed}
use Rattle.pack_core.specs.declared.pack.Target.{Target}
use Rattle.pack_core.specs.declared.pack.Target.TheVariants.{Natural, To, Spread}
use Rattle.job_machine.specs.declared.command.BoxForm.{BoxForm}
use Rattle.job_machine.specs.declared.command.Transfer.{Transfer}
use Rattle.job_machine.specs.declared.parameter.SizeParameter.{SizeParameter}
use Rattle.job_machine.specs.declared.parameter.SkipParameter.{SkipParameter}
use Rattle.job_machine.specs.declared.parameter.NumberParameter.{NumberParameter}
use Rattle.job_machine.specs.declared.parameter.Parameter.{Parameter}
use Rattle.job_machine.specs.declared.parameter.Parameter.TheVariants as parameters
use Rattle.job_machine.specs.declared.command.Command.{Command}
use Rattle.job_machine.specs.declared.command.Command.TheVariants.{LoadFont, UseFont, Open, Paragraph, End, Text, Character, Rule, Kern, Glue}
use Rattle.job_machine.specs.declared.command.Command.TheVariants.{Penalty, Append, Unbox, LastBox, Split, Measure, Void, Set, Count, Special, Ship}
use Rattle.boxglue_script.specs.declared.cause.Cause.{Cause}
use Rattle.boxglue_script.specs.declared.cause.Cause.TheVariants as causes
use Rattle.boxglue_script.specs.declared.cause.Cause.TheVariants.{Byte, Word, Missing, Extra, Number, Dimension}
use Rattle.boxglue_script.specs.declared.amounts.Amount.{Amount}
use Rattle.boxglue_script.specs.declared.script.Line.{Line}
use Rattle.boxglue_script.specs.declared.script.ScriptFault.{ScriptFault}
use Rattle.boxglue_script.specs.declared.script.ScriptFault.TheVariants.{BadScript}
use Rattle.boxglue_script.specs.declared.line_content.LineContent.{LineContent}
use Rattle.boxglue_script.specs.declared.line_content.LineContent.TheVariants as contents
use Rattle.boxglue_script.specs.declared.name.Name.{Name}
use Rattle.boxglue_script.specs.declared.name.Name.TheVariants as names
use Rattle.boxglue_script.specs.Private.Names.{name_of}
use Rattle.boxglue_script.specs.ParameterNames.{size_name, skip_name, number_name}
use Rattle.boxglue_script.specs.Private.ParameterNames.{names_first_lines}
use Rattle.boxglue_script.specs.ScriptLines.{is_space, is_printable, is_passed_over, fields_of}
use Rattle.boxglue_script.specs.Grammar.{register_count, slot_count, character_count, counter_count, first_lines_count, is_name_byte}
use Rattle.boxglue_script.specs.Script.{HoldsBytes}

-- A byte before the end of a line: any but a line feed.
abbrev pub in_line : ℕ → Bool
in_line byte = not (byte == 10)

-- A byte of a plain text: printable, or a line feed.
abbrev pub is_plain : ℕ → Bool
is_plain byte = is_printable byte || byte == 10

-- A byte of a field: any but a space.
abbrev pub in_field : ℕ → Bool
in_field byte = not (is_space byte)

-- A line without the spaces at its front.
abbrev pub without_spaces : List ℕ → List ℕ
without_spaces line = drop (prefix_len is_space line) line

-- The first field of a line, empty if there is none.
unfoldable pub front_field : List ℕ → List ℕ
front_field line = take (prefix_len in_field (without_spaces line)) (without_spaces line)

-- What follows the first field of a line.
unfoldable pub after_field : List ℕ → List ℕ
after_field line = drop (prefix_len in_field (without_spaces line)) (without_spaces line)

-- The first of some fields; the cause is Missing if there is none.
abbrev pub first_of : List (List ℕ) → Result (List ℕ) Cause
first_of [] = Err Missing
first_of (field ∷ rest) = Ok field

-- The fields after the first one.
abbrev pub rest_of : List (List ℕ) → List (List ℕ)
rest_of [] = []
rest_of (field ∷ rest) = rest

-- The value of an option; the cause if it has none.
abbrev pub some_or : {A : Type 0} → Cause → Option A → Result A Cause
some_or cause None = Err cause
some_or cause (Some x) = Ok x

-- What follows, by what was read before it, if that is right.
abbrev pub and_then : {A B : Type 0} → Result A Cause → (A → Result B Cause) → Result B Cause
and_then (Err cause) more = Err cause
and_then (Ok x) more = more x

-- The first of some fields, read as a value of its kind; the cause is Missing if there is no field.
unfoldable pub value_first : {A : Type 0} → (List ℕ → Result A Cause) → List (List ℕ) → Result A Cause
value_first reading fields = and_then (first_of fields) reading

-- Whether there are digits, and nothing else.
abbrev pub is_numeral : List ℕ → Bool
is_numeral digits = nat_lt 0 (length digits) && list_all (λ c. nat_lt (digit_value c) 10) digits

-- A number below the count.
abbrev pub number_among : ℕ → ℤ → Option ℕ
number_among count (pos n) = if nat_lt n count then Some n else None
number_among count (negsuc n) = None

-- The number that a field writes, if it is below the count.
unfoldable pub number_of : ℕ → List ℕ → Option ℕ
number_of count field = if is_numeral (without_leading_sign field) then number_among count (signed_digits_value 10 field) else None

-- A number in the range of penalties.
abbrev pub penalty_number : ℤ → Option ℤ
penalty_number z = if nat_le (unsigned_abs z) 500000000 then Some z else None

-- The number of a penalty that a field writes.
unfoldable pub penalty_of : List ℕ → Option ℤ
penalty_of field = if is_numeral (without_leading_sign field) then penalty_number (signed_digits_value 10 field) else None

-- A number in the range of the counts of a page.
abbrev pub count_value : ℤ → Option ℤ
count_value (pos n) = if nat_lt n 2147483648 then Some (pos n) else None
count_value (negsuc n) = if nat_lt n 2147483648 then Some (negsuc n) else None

-- The count of a page that a field writes.
unfoldable pub count_of : List ℕ → Option ℤ
count_of field = if is_numeral (without_leading_sign field) then count_value (signed_digits_value 10 field) else None

-- A field as a count of a page; the cause is Number if it is none.
abbrev pub count_field : List ℕ → Result ℤ Cause
count_field field = some_or Number (count_of field)

-- The first of some fields as a count of a page.
abbrev pub count_first : List (List ℕ) → Result ℤ Cause
count_first fields = value_first count_field fields

-- A field as a number below the count; the cause is Number if it is none.
abbrev pub number_field : ℕ → List ℕ → Result ℕ Cause
number_field count field = some_or Number (number_of count field)

-- The first of some fields as a number below the count.
abbrev pub number_first : ℕ → List (List ℕ) → Result ℕ Cause
number_first count fields = value_first (number_field count) fields

-- A field as the number of a penalty; the cause is Number if it is none.
abbrev pub penalty_field : List ℕ → Result ℤ Cause
penalty_field field = some_or Number (penalty_of field)

-- The first of some fields as the number of a penalty.
abbrev pub penalty_first : List (List ℕ) → Result ℤ Cause
penalty_first fields = value_first penalty_field fields

-- A dimension that was read; the cause is Dimension if there is none or it does not fit.
abbrev pub dimension_or : Result ℤ DimenFault → Result ℤ Cause
dimension_or (Err fault) = Err Dimension
dimension_or (Ok z) = Ok z

-- A field as a dimension; the cause is Dimension if it is none or does not fit.
abbrev pub dimension_field : List ℕ → Result ℤ Cause
dimension_field field = dimension_or (read_dimension field)

-- The first of some fields as a dimension.
abbrev pub dimension_first : List (List ℕ) → Result ℤ Cause
dimension_first fields = value_first dimension_field fields

-- The size of a font that a dimension is: 1 sp to 2^27 - 1 sp.
abbrev pub size_of_font : ℤ → Option ℤ
size_of_font (pos n) = if nat_lt 0 n && nat_lt n 134217728 then Some (pos n) else None
size_of_font (negsuc n) = None

-- A dimension as the size of a font; the cause is Number if it is none, and stays if there is no dimension.
abbrev pub as_size_of_font : Result ℤ Cause → Result ℤ Cause
as_size_of_font (Err cause) = Err cause
as_size_of_font (Ok z) = some_or Number (size_of_font z)

-- The first of some fields as the size of a font.
unfoldable pub size_of_font_first : List (List ℕ) → Result ℤ Cause
size_of_font_first fields = as_size_of_font (dimension_first fields)

-- Whether a field has 1 to 255 bytes.
abbrev pub is_short : List ℕ → Bool
is_short field = nat_lt 0 (length field) && nat_lt (length field) 256

-- Whether a field is the name of a font.
abbrev pub is_name : List ℕ → Bool
is_name field = is_short field && list_all is_name_byte field

-- A field as the name of a font; the cause is Name if it is none, and stays if there is no field.
abbrev pub as_name : Result (List ℕ) Cause → Result (List ℕ) Cause
as_name (Err cause) = Err cause
as_name (Ok field) = if is_name field then Ok field else Err causes.Name

-- The first of some fields as the name of a font.
unfoldable pub name_first : List (List ℕ) → Result (List ℕ) Cause
name_first fields = as_name (first_of fields)

-- A function of what was read; a cause stays.
abbrev pub map_ok : {A B : Type 0} → (A → B) → Result A Cause → Result B Cause
map_ok f (Err cause) = Err cause
map_ok f (Ok x) = Ok (f x)

-- The size of a rule that a field gives.
unfoldable pub size_of : List ℕ → Result RuleSize Cause
size_of field = if bytes_eq field (codes "*") then Ok Running else map_ok Fixed (dimension_or (read_dimension field))

-- The first of some fields as a size of a rule.
abbrev pub size_first : List (List ℕ) → Result RuleSize Cause
size_first fields = value_first size_of fields

-- What comes before a unit, if a field ends with it.
unfoldable pub before_unit : List ℕ → List ℕ → Option (List ℕ)
before_unit unit field = if bytes_eq (drop (length field - length unit) field) unit then Some (take (length field - length unit) field) else None

-- This stretch or shrink of that order.
abbrev pub amount : Order → ℤ → Amount
amount order size = record { size = size; order = order }

-- The amount of that order whose value is that of a dimension.
unfoldable pub amount_in : Order → List ℕ → Result Amount Cause
amount_in order text = map_ok (amount order) (dimension_or (read_dimension text))

-- The amount of that order whose value is that of a number in points.
abbrev pub number_in_points : Order → List ℕ → Result Amount Cause
number_in_points order number = amount_in order (number ++ codes "pt")

-- The amount of that order by the number before its unit, or another amount if the unit is not there.
abbrev pub amount_or : Order → Option (List ℕ) → Result Amount Cause → Result Amount Cause
amount_or order None other = other
amount_or order (Some number) other = number_in_points order number

-- The amount of stretch or shrink that a field writes.
unfoldable pub amount_of : List ℕ → Result Amount Cause
amount_of field =
    amount_or Filll (before_unit (codes "filll") field)
    (amount_or Fill (before_unit (codes "fill") field)
    (amount_or Fil (before_unit (codes "fil") field)
    (amount_in Normal field)))

-- The first of some fields as an amount of stretch or shrink.
abbrev pub amount_first : List (List ℕ) → Result Amount Cause
amount_first fields = value_first amount_of fields

-- No field is left.
abbrev pub no_field_left : List (List ℕ) → Result (Unit {0}) Cause
no_field_left [] = Ok tt
no_field_left (field ∷ rest) = Err Extra

-- What was read, if what follows it is right too.
abbrev pub and_right : {A : Type 0} → Result A Cause → Result (Unit {0}) Cause → Result A Cause
and_right (Err cause) after = Err cause
and_right (Ok x) (Err cause) = Err cause
and_right (Ok x) (Ok u) = Ok x

-- The first of some fields, which is the last one too, read as a value of its kind.
unfoldable pub last_value : {A : Type 0} → (List ℕ → Result A Cause) → List (List ℕ) → Result A Cause
last_value reading fields = and_right (value_first reading fields) (no_field_left (rest_of fields))

-- The first of some fields, which is the last one too, as a number below the count.
abbrev pub last_number : ℕ → List (List ℕ) → Result ℕ Cause
last_number count fields = last_value (number_field count) fields

-- The first of some fields, which is the last one too, as a dimension.
abbrev pub last_dimension : List (List ℕ) → Result ℤ Cause
last_dimension fields = last_value dimension_field fields

-- What follows, if what comes before it is right.
abbrev pub right_and : {A : Type 0} → Result (Unit {0}) Cause → Result A Cause → Result A Cause
right_and (Err cause) after = Err cause
right_and (Ok u) after = after

-- The first of some fields, which is the last one too, as the number of a penalty.
abbrev pub last_penalty : List (List ℕ) → Result ℤ Cause
last_penalty fields = last_value penalty_field fields

-- The first of some fields, which is the last one too, as a count of a page.
abbrev pub last_count : List (List ℕ) → Result ℤ Cause
last_count fields = last_value count_field fields

-- The first of some fields, which is the last one too, as an amount of stretch or shrink.
abbrev pub last_amount : List (List ℕ) → Result Amount Cause
last_amount fields = last_value amount_of fields

-- The command that opens a list of that form and size, whose box goes into that register or to the enclosing list.
abbrev pub opening_command : BoxForm → Target → Option ℕ → Command
opening_command form target into = Open (record { form = form; target = target; into = into })

-- The opening of a list with this register as the last field.
unfoldable pub opening_with_register : BoxForm → Target → List (List ℕ) → Result Command Cause
opening_with_register form target fields = map_ok (λ register. opening_command form target (Some register)) (last_number register_count fields)

-- The opening of a list by what follows its size: nothing, or `into` and a register.
unfoldable pub opening_into : BoxForm → Target → List (List ℕ) → Result Command Cause
opening_into form target [] = Ok (opening_command form target None)
opening_into form target (word ∷ rest) = if bytes_eq word (codes "into") then opening_with_register form target rest else Err Word

-- The opening of a list by the dimension of its size and what follows that.
unfoldable pub opening_with_size : BoxForm → (ℤ → Target) → List (List ℕ) → Result Command Cause
opening_with_size form sized fields = and_then (dimension_first fields) (λ z. opening_into form (sized z) (rest_of fields))

-- The command of the fields after `hbox`, `vbox` or `vtop`.
unfoldable pub opening_of : BoxForm → List (List ℕ) → Result Command Cause
opening_of form [] = Ok (opening_command form Natural None)
opening_of form (word ∷ rest) =
    if bytes_eq word (codes "into") then opening_with_register form Natural rest
    else (if bytes_eq word (codes "to") then opening_with_size form To rest
    else (if bytes_eq word (codes "spread") then opening_with_size form Spread rest
    else Err Word))

-- The command that appends the box of a register, moved or copied, with that shift.
abbrev pub append : Transfer → ℕ → ℤ → Command
append taking register shift = Append (record { register = register; taking = taking; shift = shift })

-- What follows the register of a box: nothing, or `shift` and a dimension.
unfoldable pub shift_of : List (List ℕ) → Result ℤ Cause
shift_of [] = Ok (pos 0)
shift_of (word ∷ rest) = if bytes_eq word (codes "shift") then last_dimension rest else Err Word

-- The command of the fields after `box` or `copy`.
unfoldable pub append_of : Transfer → List (List ℕ) → Result Command Cause
append_of taking fields = and_then (number_first register_count fields) (λ register. map_ok (append taking register) (shift_of (rest_of fields)))

-- The command that appends the items of the box of a register, which is of that kind, moved or copied.
abbrev pub unboxing_command : Kind → Transfer → ℕ → Command
unboxing_command kind taking register = Unbox (record { kind = kind; register = register; taking = taking })

-- The command that splits the box of a register to that height, with its front for another one.
abbrev pub split_command : (register : ℕ) → (height : ℤ) → (into : ℕ) → Command
split_command register height into = Split (record { register = register; height = height; into = into })

-- What follows the height of a split: `into` and a register.
unfoldable pub split_into : (register : ℕ) → (height : ℤ) → List (List ℕ) → Result Command Cause
split_into register height [] = Err Missing
split_into register height (word ∷ rest) =
    if bytes_eq word (codes "into") then map_ok (split_command register height) (last_number register_count rest) else Err Word

-- The height of a split, and what follows it.
unfoldable pub split_height : (register : ℕ) → List (List ℕ) → Result Command Cause
split_height register fields = and_then (dimension_first fields) (λ height. split_into register height (rest_of fields))

-- What follows the register of a split: `to`, and a height.
unfoldable pub split_to : (register : ℕ) → List (List ℕ) → Result Command Cause
split_to register [] = Err Missing
split_to register (word ∷ rest) = if bytes_eq word (codes "to") then split_height register rest else Err Word

-- The command of the fields after `vsplit`.
unfoldable pub split_of : List (List ℕ) → Result Command Cause
split_of fields = and_then (number_first register_count fields) (λ register. split_to register (rest_of fields))

-- No stretch or shrink: 0 of order normal.
abbrev pub no_amount : Amount
no_amount = amount Normal (pos 0)

-- The glue of that width, stretch and shrink.
abbrev pub glue : ℤ → Amount → Amount → glues.Glue
glue width stretch shrink =
    record { width = width; stretch = stretch.size; stretch_order = stretch.order; shrink = shrink.size; shrink_order = shrink.order }

-- A glue of that width and stretch, and its shrink as the last field.
unfoldable pub last_shrink_of : ℤ → Amount → List (List ℕ) → Result glues.Glue Cause
last_shrink_of width stretch fields = map_ok (glue width stretch) (last_amount fields)

-- What follows the stretch of a glue: nothing, or `minus` and its shrink.
unfoldable pub shrink_of : ℤ → Amount → List (List ℕ) → Result glues.Glue Cause
shrink_of width stretch [] = Ok (glue width stretch no_amount)
shrink_of width stretch (word ∷ rest) = if bytes_eq word (codes "minus") then last_shrink_of width stretch rest else Err Word

-- What follows the width of a glue: nothing, or its stretch, its shrink or both.
unfoldable pub parts_of : ℤ → List (List ℕ) → Result glues.Glue Cause
parts_of width [] = Ok (glue width no_amount no_amount)
parts_of width (word ∷ rest) =
    if bytes_eq word (codes "plus") then and_then (amount_first rest) (λ stretch. shrink_of width stretch (rest_of rest))
    else (if bytes_eq word (codes "minus") then last_shrink_of width no_amount rest
    else Err Word)

-- The glue that some fields write.
unfoldable pub glue_of : List (List ℕ) → Result glues.Glue Cause
glue_of fields = and_then (dimension_first fields) (λ width. parts_of width (rest_of fields))

-- The parameter by what follows its name, by the kind of value that it takes: a dimension, glue, a number or a number of first lines; the cause is
-- Word if there is no such name.
abbrev pub parameter_by : Option SizeParameter → Option SkipParameter → Option NumberParameter → (lines : Bool) → List (List ℕ)
    → Result Parameter Cause
parameter_by (Some name) skip number lines rest = map_ok (parameters.Size name) (last_dimension rest)
parameter_by None (Some name) number lines rest = map_ok (parameters.Skip name) (glue_of rest)
parameter_by None None (Some name) lines rest = map_ok (parameters.Number name) (last_penalty rest)
parameter_by None None None true rest = map_ok parameters.FirstLines (last_number first_lines_count rest)
parameter_by None None None false rest = Err Word

-- The parameter of the fields after `set`: its name and its value.
unfoldable pub parameter_of : List (List ℕ) → Result Parameter Cause
parameter_of [] = Err Missing
parameter_of (word ∷ rest) = parameter_by (size_name word) (skip_name word) (number_name word) (names_first_lines word) rest

-- The command that sets a count of the pages that follow.
abbrev pub count_command : (count : ℕ) → (value : ℤ) → Command
count_command count value = Count (record { count = count; value = value })

-- The command of the fields after `count`: the number of a count, and its value.
unfoldable pub counting_of : List (List ℕ) → Result Command Cause
counting_of fields = and_then (number_first counter_count fields) (λ count. map_ok (count_command count) (last_count (rest_of fields)))

-- The size after the name of a font: none, or `at` and a size.
unfoldable pub chosen_size_of : List (List ℕ) → Result (Option ℤ) Cause
chosen_size_of [] = Ok None
chosen_size_of (word ∷ rest) =
    if bytes_eq word (codes "at") then map_ok Some (and_right (size_of_font_first rest) (no_field_left (rest_of rest))) else Err Word

-- The command that loads a font by its slot, its name and its size, or the first cause among them.
abbrev pub font_by : Result ℕ Cause → Result (List ℕ) Cause → Result (Option ℤ) Cause → Result Command Cause
font_by (Err cause) name size = Err cause
font_by (Ok slot) (Err cause) size = Err cause
font_by (Ok slot) (Ok name) (Err cause) = Err cause
font_by (Ok slot) (Ok name) (Ok size) = Ok (LoadFont (record { slot = slot; name = name; size = size }))

-- The command of the fields after `font`.
unfoldable pub font_of : List (List ℕ) → Result Command Cause
font_of fields = font_by (number_first slot_count fields) (name_first (rest_of fields)) (chosen_size_of (rest_of (rest_of fields)))

-- The command that appends a rule by its width, its height and its depth, with no field after them, or the first cause among them.
abbrev pub rule_by : Result RuleSize Cause → Result RuleSize Cause → Result RuleSize Cause → Result (Unit {0}) Cause → Result Command Cause
rule_by (Err cause) height depth end = Err cause
rule_by (Ok width) (Err cause) depth end = Err cause
rule_by (Ok width) (Ok height) (Err cause) end = Err cause
rule_by (Ok width) (Ok height) (Ok depth) (Err cause) = Err cause
rule_by (Ok width) (Ok height) (Ok depth) (Ok u) = Ok (Rule (record { width = width; height = height; depth = depth }))

-- The command of the fields after `rule`.
unfoldable pub rule_of : List (List ℕ) → Result Command Cause
rule_of fields = rule_by (size_first fields) (size_first (rest_of fields)) (size_first (rest_of (rest_of fields)))
    (no_field_left (rest_of (rest_of (rest_of fields))))

-- The command of that name with these fields after it.
unfoldable pub command_named : Name → List (List ℕ) → Result Command Cause
command_named names.Font fields = font_of fields
command_named names.Use fields = map_ok UseFont (last_number slot_count fields)
command_named (names.Open form) fields = opening_of form fields
command_named names.Paragraph fields = right_and (no_field_left fields) (Ok Paragraph)
command_named names.End fields = right_and (no_field_left fields) (Ok End)
command_named names.Character fields = map_ok Character (last_number character_count fields)
command_named names.Rule fields = rule_of fields
command_named names.Kern fields = map_ok Kern (last_dimension fields)
command_named names.Glue fields = map_ok Glue (glue_of fields)
command_named names.Penalty fields = map_ok Penalty (last_penalty fields)
command_named (names.Append taking) fields = append_of taking fields
command_named (names.Unbox kind taking) fields = map_ok (unboxing_command kind taking) (last_number register_count fields)
command_named names.LastBox fields = map_ok LastBox (last_number register_count fields)
command_named names.Split fields = split_of fields
command_named names.Measure fields = map_ok Measure (last_number register_count fields)
command_named names.Void fields = map_ok Void (last_number register_count fields)
command_named names.Set fields = map_ok Set (parameter_of fields)
command_named names.Count fields = counting_of fields
command_named names.Ship fields = map_ok Ship (last_number register_count fields)

-- The command of that name with these fields after it; the cause is Word if there is no name.
abbrev pub named_by : Option Name → List (List ℕ) → Result Command Cause
named_by None fields = Err Word
named_by (Some name) fields = command_named name fields

-- The command of that first word with these fields after it; the cause stays if there is no word.
abbrev pub command_by : Result (List ℕ) Cause → List (List ℕ) → Result Command Cause
command_by (Err cause) fields = Err cause
command_by (Ok word) fields = named_by (name_of word) fields

-- The first word of a line, which is its first field; the cause is Missing if there is none.
abbrev pub first_word : List ℕ → Result (List ℕ) Cause
first_word [] = Err Missing
first_word (byte ∷ word) = Ok (byte ∷ word)

-- The command that the fields of a line give, or the cause at the first bad field from the left.
unfoldable pub command_of : List (List ℕ) → Result Command Cause
command_of fields = command_by (first_of fields) (rest_of fields)

-- The text after the first field of a line: all that follows one space, unchanged.
abbrev pub kept_text : List ℕ → List ℕ
kept_text line = drop 1 (after_field line)

-- The command of a line: a text or a special with its text, by its first field, otherwise the command of its fields.
unfoldable pub command_of_printable : List ℕ → Result Command Cause
command_of_printable line =
    if bytes_eq (front_field line) (codes "text") then Ok (Text (kept_text line))
    else (if bytes_eq (front_field line) (codes "special") then Ok (Special (kept_text line)) else command_of (fields_of line))

-- The command of a line, or the cause why it has none.
unfoldable pub command_of_line : List ℕ → Result Command Cause
command_of_line line = if list_all is_printable line then command_of_printable line else Err Byte

-- A command was read that holds bytes of its line.
abbrev pub ReadsBytes : Result Command Cause → Type 0
ReadsBytes (Err cause) = ⊥
ReadsBytes (Ok command) = HoldsBytes command

-- What a line says that is not passed over, by what was read of it: its command, or the cause why it has none.
abbrev pub content_of : Result Command Cause → LineContent
content_of (Ok command) = contents.Command command
content_of (Err cause) = contents.Bad cause

-- The result of reading lines: the lines that give commands, or why the script was not read.
abbrev pub LinesOrFault : Type 0
LinesOrFault = Result (List Line) ScriptFault

-- Lines that were found, followed by those found after them; a fault stays.
abbrev pub lines_then : List Line → LinesOrFault → LinesOrFault
lines_then found (Err fault) = Err fault
lines_then found (Ok more) = Ok (found ++ more)

-- The line of that number with its command, followed by what is found after it; or the fault if the line gives no command.
abbrev pub reads_by : ℕ → Result Command Cause → LinesOrFault → LinesOrFault
reads_by number (Err cause) more = Err (BadScript number cause)
reads_by number (Ok command) more = lines_then (record { number = number; command = command } ∷ []) more

-- The result of reading the lines from that number on.
abbrev pub reading_from : ℕ → List (List ℕ) → LinesOrFault
reading_from number [] = Ok []
reading_from number (line ∷ rest) = if is_passed_over line then reading_from (number + 1) rest
    else reads_by number (command_of_line line) (reading_from (number + 1) rest)

-- Reading continues after a line: `old` are the lines found before it, `new` those found when it is read too.
abbrev pub ReadsOn : ℕ → List ℕ → List Line → List Line → Type 0
ReadsOn number line old new = (rest : List (List ℕ))
    → lines_then old (reading_from number (line ∷ rest)) ≡ lines_then new (reading_from (number + 1) rest)

-- Reading ends at a line with that fault, whatever comes after the line.
abbrev pub HasFaultAtLine : ℕ → List ℕ → List Line → ScriptFault → Type 0
HasFaultAtLine number line old fault = (rest : List (List ℕ)) → lines_then old (reading_from number (line ∷ rest)) ≡ Err fault

-- A line is counted, and a command is read from it.
abbrev pub GivesCommand : List ℕ → Type 0
GivesCommand line = (is_passed_over line ≡ false) × IsOk (command_of_line line)
