-- Known scripts (own).
use Rattle.std.specs.Prelude.{pos, negsuc, List, [], ◌∷◌, Some, codes}
use Rattle.node_core.specs.declared.tree.RuleSize.TheVariants.{Fixed}
use Rattle.node_core.specs.declared.tree.Order.TheVariants.{Normal, Fil}
use Rattle.pack_core.specs.declared.pack.Target.TheVariants.{Natural, To}
use Rattle.job_machine.specs.declared.command.BoxForm.TheVariants.{Hbox, Vbox}
use Rattle.job_machine.specs.declared.parameter.SizeParameter.TheVariants.{BoxMaxDepth}
use Rattle.job_machine.specs.declared.parameter.Parameter.TheVariants.{Size}
use Rattle.job_machine.specs.declared.command.Command.TheVariants.{LoadFont, UseFont, Open, End, Text, Character, Rule, Glue, Penalty, Measure, Set}
use Rattle.job_machine.specs.declared.command.Command.TheVariants.{Special, Ship}
use Rattle.boxglue_script.specs.declared.cause.Cause.TheVariants as causes
use Rattle.boxglue_script.specs.declared.cause.Cause.TheVariants.{Missing, Extra, Number, Dimension}
use Rattle.boxglue_script.specs.declared.script.Line.{Line}
use Rattle.boxglue_script.specs.Script.{IsScript, IsFirstBad}

-- The lines of the one-rule script.
abbrev pub one_rule_lines : List Line
one_rule_lines =
    record { number = 1; command = Open (record { form = Hbox; target = Natural; into = Some 0 }) }
    ∷ record { number = 2; command = Rule (record { width = Fixed (pos 65536); height = Fixed (pos 65536); depth = Fixed (pos 0) }) }
    ∷ record { number = 3; command = End }
    ∷ record { number = 4; command = Ship 0 }
    ∷ []

-- The script of the one-rule page gives those lines.
abbrev pub OneRuleScript : Type 0
OneRuleScript = IsScript (codes "hbox into 0\nrule 1pt 1pt 0pt\nend\nship 0\n") one_rule_lines

-- A dimension without its unit in the second line: that line is the first bad one, with the cause Dimension.
abbrev pub UnitlessRow : Type 0
UnitlessRow = IsFirstBad (codes "end\nkern 1\n") 2 Dimension

-- The lines of a script with a font and a text.
abbrev pub text_lines : List Line
text_lines =
    record { number = 1; command = LoadFont (record { slot = 0; name = codes "tiny"; size = Some (pos 655360) }) }
    ∷ record { number = 2; command = UseFont 0 }
    ∷ record { number = 4; command = Text (codes " a ") }
    ∷ record { number = 5; command = Character 99 }
    ∷ []

-- The script with a font, a comment line, a text with spaces around it and a character gives those lines.
abbrev pub TextScript : Type 0
TextScript = IsScript (codes "font 0 tiny at 10pt\nuse +0\n% text\n  text  a \nchar 99\n") text_lines

-- The lines of a script of two specials and of the last register.
abbrev pub special_lines : List Line
special_lines =
    record { number = 1; command = Special (codes " a ") }
    ∷ record { number = 2; command = Special [] }
    ∷ record { number = 3; command = Measure 32767 }
    ∷ []

-- The script with a special that has spaces around it, one without a text, and the last register gives those lines.
abbrev pub SpecialScript : Type 0
SpecialScript = IsScript (codes "  special  a \nspecial\nmeasure 32767\n") special_lines

-- A register after the last one has the cause Number.
abbrev pub NoSuchRegisterRow : Type 0
NoSuchRegisterRow = IsFirstBad (codes "special\nmeasure 32768\n") 2 Number

-- A font of size 0 has the cause Number.
abbrev pub NoSizeRow : Type 0
NoSizeRow = IsFirstBad (codes "font 0 tiny at 0pt") 1 Number

-- A name of a font with `/` in it has the cause Name.
abbrev pub SlashInNameRow : Type 0
SlashInNameRow = IsFirstBad (codes "font 0 a/b at 0pt") 1 causes.Name

-- The lines of a script of a vertical box of a given size.
abbrev pub tall_box_lines : List Line
tall_box_lines =
    record { number = 1; command = Set (Size BoxMaxDepth (pos 65536)) }
    ∷ record { number = 2; command = Open (record { form = Vbox; target = To (pos 1310720); into = Some 0 }) }
    ∷ record {
      number = 3;
      command = Glue (record { width = pos 0; stretch = pos 65536; stretch_order = Fil; shrink = pos 0; shrink_order = Normal });
    }
    ∷ record { number = 4; command = Penalty (negsuc 9999) }
    ∷ record { number = 5; command = End }
    ∷ []

-- The script with a parameter and a vertical box of a given size gives those lines.
abbrev pub TallBoxScript : Type 0
TallBoxScript = IsScript (codes "set boxmaxdepth 1pt\nvbox to 20pt into 0\nglue 0pt plus 1fil\npenalty -10000\nend\n") tall_box_lines

-- `into` without its register has the cause Missing.
abbrev pub NoRegisterRow : Type 0
NoRegisterRow = IsFirstBad (codes "hbox to 1pt into") 1 Missing

-- Glue with its stretch after its shrink has the cause Extra.
abbrev pub LateStretchRow : Type 0
LateStretchRow = IsFirstBad (codes "glue 1pt minus 1fil plus 1pt") 1 Extra
