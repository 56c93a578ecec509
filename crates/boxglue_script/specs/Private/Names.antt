-- The names of commands, except `text` and `special`, whose lines are not cut into fields (own).
use Rattle.std.specs.Prelude.{ℕ, if◌then◌else◌, List, Option, None, Some, codes}
use Rattle.std.specs.Str.{bytes_eq}
use Rattle.node_core.specs.declared.tree.Kind.TheVariants.{Horizontal, Vertical}
use Rattle.job_machine.specs.declared.command.BoxForm.TheVariants.{Hbox, Vbox, Vtop}
use Rattle.job_machine.specs.declared.command.Transfer.TheVariants.{Move, Copy}
use Rattle.boxglue_script.specs.declared.name.Name.{Name}
use Rattle.boxglue_script.specs.declared.name.Name.TheVariants.{Font, Use, Open, Paragraph, End, Character, Rule, Kern, Glue, Penalty, Append, Unbox}
use Rattle.boxglue_script.specs.declared.name.Name.TheVariants.{LastBox, Split, Measure, Void, Set, Count, Ship}

-- The names of commands on lists and whole boxes, and that of rules.
unfoldable pub box_name : List ℕ → Option Name
box_name word =
    if bytes_eq word (codes "hbox") then Some (Open Hbox)
    else (if bytes_eq word (codes "rule") then Some Rule
    else (if bytes_eq word (codes "vbox") then Some (Open Vbox)
    else (if bytes_eq word (codes "vtop") then Some (Open Vtop)
    else (if bytes_eq word (codes "par") then Some Paragraph
    else (if bytes_eq word (codes "end") then Some End
    else (if bytes_eq word (codes "measure") then Some Measure
    else (if bytes_eq word (codes "void") then Some Void
    else (if bytes_eq word (codes "ship") then Some Ship
    else None))))))))

-- The names of commands that take the box of a register into a list, take the last box out of a list, or split a box.
unfoldable pub register_name : List ℕ → Option Name
register_name word =
    if bytes_eq word (codes "box") then Some (Append Move)
    else (if bytes_eq word (codes "copy") then Some (Append Copy)
    else (if bytes_eq word (codes "unhbox") then Some (Unbox Horizontal Move)
    else (if bytes_eq word (codes "unhcopy") then Some (Unbox Horizontal Copy)
    else (if bytes_eq word (codes "unvbox") then Some (Unbox Vertical Move)
    else (if bytes_eq word (codes "unvcopy") then Some (Unbox Vertical Copy)
    else (if bytes_eq word (codes "lastbox") then Some LastBox
    else (if bytes_eq word (codes "vsplit") then Some Split
    else None)))))))

-- The names of commands on fonts, other items, parameters and counts.
unfoldable pub item_name : List ℕ → Option Name
item_name word =
    if bytes_eq word (codes "font") then Some Font
    else (if bytes_eq word (codes "use") then Some Use
    else (if bytes_eq word (codes "char") then Some Character
    else (if bytes_eq word (codes "kern") then Some Kern
    else (if bytes_eq word (codes "glue") then Some Glue
    else (if bytes_eq word (codes "penalty") then Some Penalty
    else (if bytes_eq word (codes "set") then Some Set
    else (if bytes_eq word (codes "count") then Some Count
    else None)))))))

-- The first of two optional names.
abbrev pub name_or : Option Name → Option Name → Option Name
name_or None later = later
name_or (Some name) later = Some name

-- The name that a word is.
unfoldable pub name_of : List ℕ → Option Name
name_of word = name_or (box_name word) (name_or (register_name word) (item_name word))
