-- What is read of known scripts.
use Rattle.std.proofs.Common.{◌≡◌, Ok, Err, codes, refl}
use Rattle.std.specs.Str.Lines.{lines}
use Rattle.scaled_core.specs.Rounding.{nearest}
use Rattle.scaled_core.specs.Units.{of_points}
use Rattle.scaled_core.specs.DimensionTexts.{decimal_fraction}
use Rattle.scaled_core.specs.ParsedTexts.{read_dimension, dimension_value, parsed_value, written_value, unit_named, is_negative, text_after_sign, front_digits, text_after_digits, point_digits, text_after_fraction}
use Rattle.boxglue_script.specs.declared.cause.Cause.TheVariants as causes
use Rattle.boxglue_script.specs.declared.cause.Cause.TheVariants.{Missing, Extra, Number, Dimension}
use Rattle.boxglue_script.specs.declared.script.ScriptFault.TheVariants.{BadScript}
use Rattle.boxglue_script.specs.Private.Names.{box_name, register_name, item_name, name_of}
use Rattle.boxglue_script.specs.ScriptLines.{fields_of}
use Rattle.boxglue_script.specs.ParameterNames.{size_name, skip_name, number_name}
use Rattle.boxglue_script.specs.Private.Reading.{name_first, size_of_font_first, chosen_size_of, font_of, number_of, size_of, penalty_of, before_unit, amount_in, amount_of, opening_with_register, opening_into, opening_with_size, opening_of, last_shrink_of, shrink_of, parts_of, glue_of, parameter_of, rule_of, command_named, command_of, front_field, after_field, command_of_printable, command_of_line, reading_from, last_value, value_first}
use Rattle.boxglue_script.specs.Rows.{one_rule_lines, OneRuleScript, UnitlessRow, text_lines, TextScript, special_lines, SpecialScript}
use Rattle.boxglue_script.specs.Rows.{NoSuchRegisterRow, NoSizeRow, SlashInNameRow, tall_box_lines, TallBoxScript, NoRegisterRow, LateStretchRow}
use Rattle.boxglue_script.proofs.ScriptLaws.{script_read, script_refused}

one_rule_read : reading_from 1 (lines (codes "hbox into 0\nrule 1pt 1pt 0pt\nend\nship 0\n")) ≡ Ok one_rule_lines
unfolding command_of_line command_of_printable front_field after_field fields_of command_of command_named name_of box_name register_name item_name opening_of opening_with_register rule_of value_first number_of last_value size_of read_dimension dimension_value parsed_value written_value unit_named is_negative text_after_sign front_digits text_after_digits point_digits text_after_fraction decimal_fraction nearest of_points
one_rule_read = refl

pub one_rule_said : OneRuleScript
one_rule_said = script_read (codes "hbox into 0\nrule 1pt 1pt 0pt\nend\nship 0\n") one_rule_lines one_rule_read

unitless_read : reading_from 1 (lines (codes "end\nkern 1\n")) ≡ Err (BadScript 2 Dimension)
unfolding command_of_line command_of_printable front_field after_field fields_of command_of command_named name_of box_name register_name item_name opening_of opening_with_register rule_of value_first number_of last_value size_of read_dimension dimension_value parsed_value written_value unit_named is_negative text_after_sign front_digits text_after_digits point_digits text_after_fraction decimal_fraction nearest of_points
unitless_read = refl

pub unitless_named : UnitlessRow
unitless_named = (script_refused (codes "end\nkern 1\n") (BadScript 2 Dimension) unitless_read).0

text_script_read : reading_from 1 (lines (codes "font 0 tiny at 10pt\nuse +0\n% text\n  text  a \nchar 99\n")) ≡ Ok text_lines
unfolding command_of_line command_of_printable front_field after_field fields_of command_of command_named name_of box_name register_name item_name font_of name_first chosen_size_of size_of_font_first value_first number_of last_value read_dimension dimension_value parsed_value written_value unit_named is_negative text_after_sign front_digits text_after_digits point_digits text_after_fraction decimal_fraction nearest of_points
text_script_read = refl

pub text_script_said : TextScript
text_script_said = script_read (codes "font 0 tiny at 10pt\nuse +0\n% text\n  text  a \nchar 99\n") text_lines text_script_read

special_script_read : reading_from 1 (lines (codes "  special  a \nspecial\nmeasure 32767\n")) ≡ Ok special_lines
unfolding command_of_line command_of_printable front_field after_field fields_of command_of command_named name_of box_name register_name item_name value_first number_of last_value
special_script_read = refl

pub special_script_said : SpecialScript
special_script_said = script_read (codes "  special  a \nspecial\nmeasure 32767\n") special_lines special_script_read

no_such_register_read : reading_from 1 (lines (codes "special\nmeasure 32768\n")) ≡ Err (BadScript 2 Number)
unfolding command_of_line command_of_printable front_field after_field fields_of command_of command_named name_of box_name register_name item_name value_first number_of last_value
no_such_register_read = refl

pub no_such_register_named : NoSuchRegisterRow
no_such_register_named = (script_refused (codes "special\nmeasure 32768\n") (BadScript 2 Number) no_such_register_read).0

no_size_read : reading_from 1 (lines (codes "font 0 tiny at 0pt")) ≡ Err (BadScript 1 Number)
unfolding command_of_line command_of_printable front_field after_field fields_of command_of command_named name_of box_name register_name item_name font_of name_first chosen_size_of size_of_font_first value_first number_of last_value read_dimension dimension_value parsed_value written_value unit_named is_negative text_after_sign front_digits text_after_digits point_digits text_after_fraction decimal_fraction nearest of_points
no_size_read = refl

pub no_size_named : NoSizeRow
no_size_named = (script_refused (codes "font 0 tiny at 0pt") (BadScript 1 Number) no_size_read).0

slash_read : reading_from 1 (lines (codes "font 0 a/b at 0pt")) ≡ Err (BadScript 1 causes.Name)
unfolding command_of_line command_of_printable front_field after_field fields_of command_of command_named name_of box_name register_name item_name font_of name_first chosen_size_of size_of_font_first value_first number_of last_value read_dimension dimension_value parsed_value written_value unit_named is_negative text_after_sign front_digits text_after_digits point_digits text_after_fraction decimal_fraction nearest of_points
slash_read = refl

pub slash_named : SlashInNameRow
slash_named = (script_refused (codes "font 0 a/b at 0pt") (BadScript 1 causes.Name) slash_read).0

tall_box_read : reading_from 1 (lines (codes "set boxmaxdepth 1pt\nvbox to 20pt into 0\nglue 0pt plus 1fil\npenalty -10000\nend\n")) ≡ Ok tall_box_lines
unfolding command_of_line command_of_printable front_field after_field fields_of command_of command_named name_of box_name register_name item_name parameter_of size_name skip_name number_name opening_of opening_with_register opening_into opening_with_size glue_of parts_of shrink_of value_first amount_of amount_in before_unit last_value penalty_of number_of read_dimension dimension_value parsed_value written_value unit_named is_negative text_after_sign front_digits text_after_digits point_digits text_after_fraction decimal_fraction nearest of_points
tall_box_read = refl

pub tall_box_said : TallBoxScript
tall_box_said = script_read (codes "set boxmaxdepth 1pt\nvbox to 20pt into 0\nglue 0pt plus 1fil\npenalty -10000\nend\n") tall_box_lines tall_box_read

no_register_read : reading_from 1 (lines (codes "hbox to 1pt into")) ≡ Err (BadScript 1 Missing)
unfolding command_of_line command_of_printable front_field after_field fields_of command_of command_named name_of box_name register_name item_name opening_of opening_with_register opening_into opening_with_size value_first number_of last_value read_dimension dimension_value parsed_value written_value unit_named is_negative text_after_sign front_digits text_after_digits point_digits text_after_fraction decimal_fraction nearest of_points
no_register_read = refl

pub no_register_named : NoRegisterRow
no_register_named = (script_refused (codes "hbox to 1pt into") (BadScript 1 Missing) no_register_read).0

late_stretch_read : reading_from 1 (lines (codes "glue 1pt minus 1fil plus 1pt")) ≡ Err (BadScript 1 Extra)
unfolding command_of_line command_of_printable front_field after_field fields_of command_of command_named name_of box_name register_name item_name glue_of parts_of last_shrink_of last_value value_first amount_of amount_in before_unit read_dimension dimension_value parsed_value written_value unit_named is_negative text_after_sign front_digits text_after_digits point_digits text_after_fraction decimal_fraction nearest of_points
late_stretch_read = refl

pub late_stretch_named : LateStretchRow
late_stretch_named = (script_refused (codes "glue 1pt minus 1fil plus 1pt") (BadScript 1 Extra) late_stretch_read).0
