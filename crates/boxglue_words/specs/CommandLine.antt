-- The words that boxglue accepts, in the terms of the kit's clap (own).
use Rattle.std.specs.Prelude.{true, ℕ, pos, Some, codes}
use Rattle.clap.specs.Lexer.{usize_max}
use Rattle.clap.specs.Walk.{Rule, Text}
use Rattle.clap.specs.Simple.{App, new_app, new_rule, with_rule, with_subcommand}
use Rattle.clap.specs.declared.builder.ArgAction.TheVariants.{Append}
use Rattle.clap.specs.declared.builder.value_parser.ValueParser.TheVariants as parsers

-- A required path.
abbrev pub path_rule : Text → Rule
path_rule id = record (new_rule id) { required = true }

-- Any number of words NAME=TFM.
abbrev pub fonts_rule : Rule
fonts_rule = record (new_rule (codes "NAME=TFM")) { action = Some Append; range = Some (record { start_inclusive = 0; end_inclusive = usize_max }) }

-- A required option with a number from 1 to this one.
abbrev pub number_rule : Text → ℕ → Rule
number_rule id most = record (new_rule id) { long = Some id; value_names = 1; parser = Some (parsers.Signed (pos 1) (pos most)); required = true }

-- `typeset OUT [NAME=TFM ..]`.
abbrev pub typeset : App
typeset = with_rule (with_rule (new_app (codes "typeset")) (path_rule (codes "OUT"))) fonts_rule

-- `session OUT [NAME=TFM ..]`.
abbrev pub session : App
session = with_rule (with_rule (new_app (codes "session")) (path_rule (codes "OUT"))) fonts_rule

-- `list DVI [NAME=TFM ..]`.
abbrev pub lists : App
lists = with_rule (with_rule (new_app (codes "list")) (path_rule (codes "DVI"))) fonts_rule

-- `fonts DVI`.
abbrev pub names_fonts : App
names_fonts = with_rule (new_app (codes "fonts")) (path_rule (codes "DVI"))

-- `paint --page N --dpi N --width N --height N DVI [NAME=TFM ..]`.
abbrev pub paint : App
paint =
    with_rule (with_rule
    (with_rule (with_rule (with_rule (with_rule (new_app (codes "paint"))
    (number_rule (codes "page") 4294967295)) (number_rule (codes "dpi") 10000)) (number_rule (codes "width") 10000))
    (number_rule (codes "height") 10000))
    (path_rule (codes "DVI"))) fonts_rule

-- The program without a subcommand. It has a version, and the words begin after its name.
abbrev pub plain_program : App
plain_program =
    let named = new_app (codes "boxglue") in
    record named { top = record named.top { no_binary_name = true; disable_help_subcommand = true; has_version = true } }

-- The program with these five as subcommands.
abbrev pub boxglue : App
boxglue =
    with_subcommand (with_subcommand (with_subcommand (with_subcommand (with_subcommand plain_program typeset.top) session.top) lists.top)
    names_fonts.top) paint.top
