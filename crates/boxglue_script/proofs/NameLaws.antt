-- The names of commands, as they are written.
use Rattle.std.proofs.Common.{◌≡◌, ℕ, Bool, true, false, if◌then◌else◌, List, ◌∷◌, Option, Some, None, codes, refl, ap, ◌∙◌}
use Rattle.std.specs.Str.{bytes_eq}
use Rattle.node_core.specs.declared.tree.Kind.TheVariants.{Horizontal, Vertical}
use Rattle.job_machine.specs.declared.command.BoxForm.TheVariants as forms
use Rattle.job_machine.specs.declared.command.Transfer.TheVariants.{Move, Copy}
use Rattle.boxglue_script.specs.declared.name.Name.{Name}
use Rattle.boxglue_script.specs.declared.name.Name.TheVariants as names
use Rattle.boxglue_script.specs.Private.Names.{box_name, register_name, item_name, name_or, name_of}
use Rattle.boxglue_script.specs.Grammar.{form_text, taking_text, unboxing_text}
use Rattle.boxglue_script.specs.Private.Reading.{command_named, command_of}
use Rattle.boxglue_script.proofs.FieldLaws.{same_bytes}

-- How a name is written.
abbrev pub name_text : Name → List ℕ
name_text names.Font = codes "font"
name_text names.Use = codes "use"
name_text (names.Open form) = form_text form
name_text names.Paragraph = codes "par"
name_text names.End = codes "end"
name_text names.Character = codes "char"
name_text names.Rule = codes "rule"
name_text names.Kern = codes "kern"
name_text names.Glue = codes "glue"
name_text names.Penalty = codes "penalty"
name_text (names.Append taking) = taking_text taking
name_text (names.Unbox kind taking) = unboxing_text kind taking
name_text names.LastBox = codes "lastbox"
name_text names.Split = codes "vsplit"
name_text names.Measure = codes "measure"
name_text names.Void = codes "void"
name_text names.Set = codes "set"
name_text names.Count = codes "count"
name_text names.Ship = codes "ship"

one_name : (b : Bool) (word text : List ℕ) (here : Name) (later : Option Name) (name : Name) → bytes_eq word text ≡ b → text ≡ name_text here → (later ≡ Some name → word ≡ name_text name) → (if b then Some here else later) ≡ Some name → word ≡ name_text name
one_name true word text here later name e t more h =
    let same : here ≡ name = cc in
    same_bytes word text e ∙ t ∙ ap name_text same
one_name false word text here later name e t more h = more h

box_name_written : (word : List ℕ) (name : Name) → box_name word ≡ Some name → word ≡ name_text name
unfolding box_name
box_name_written word name h =
    one_name _ word (codes "hbox") (names.Open forms.Hbox) _ name refl refl
    (one_name _ word (codes "rule") names.Rule _ name refl refl
    (one_name _ word (codes "vbox") (names.Open forms.Vbox) _ name refl refl
    (one_name _ word (codes "vtop") (names.Open forms.Vtop) _ name refl refl
    (one_name _ word (codes "par") names.Paragraph _ name refl refl
    (one_name _ word (codes "end") names.End _ name refl refl
    (one_name _ word (codes "measure") names.Measure _ name refl refl
    (one_name _ word (codes "void") names.Void _ name refl refl
    (one_name _ word (codes "ship") names.Ship None name refl refl (λ e. absurd (cc)))))))))) h

register_name_written : (word : List ℕ) (name : Name) → register_name word ≡ Some name → word ≡ name_text name
unfolding register_name
register_name_written word name h =
    one_name _ word (codes "box") (names.Append Move) _ name refl refl
    (one_name _ word (codes "copy") (names.Append Copy) _ name refl refl
    (one_name _ word (codes "unhbox") (names.Unbox Horizontal Move) _ name refl refl
    (one_name _ word (codes "unhcopy") (names.Unbox Horizontal Copy) _ name refl refl
    (one_name _ word (codes "unvbox") (names.Unbox Vertical Move) _ name refl refl
    (one_name _ word (codes "unvcopy") (names.Unbox Vertical Copy) _ name refl refl
    (one_name _ word (codes "lastbox") names.LastBox _ name refl refl
    (one_name _ word (codes "vsplit") names.Split None name refl refl (λ e. absurd (cc))))))))) h

item_name_written : (word : List ℕ) (name : Name) → item_name word ≡ Some name → word ≡ name_text name
unfolding item_name
item_name_written word name h =
    one_name _ word (codes "font") names.Font _ name refl refl
    (one_name _ word (codes "use") names.Use _ name refl refl
    (one_name _ word (codes "char") names.Character _ name refl refl
    (one_name _ word (codes "kern") names.Kern _ name refl refl
    (one_name _ word (codes "glue") names.Glue _ name refl refl
    (one_name _ word (codes "penalty") names.Penalty _ name refl refl
    (one_name _ word (codes "set") names.Set _ name refl refl
    (one_name _ word (codes "count") names.Count None name refl refl (λ e. absurd (cc))))))))) h

name_by_rest : (word : List ℕ) (name : Name) (o : Option Name) → register_name word ≡ o → name_or o (item_name word) ≡ Some name → word ≡ name_text name
name_by_rest word name None e h = item_name_written word name h
name_by_rest word name (Some other) e h = register_name_written word name (e ∙ h)

name_by_part : (word : List ℕ) (name : Name) (o : Option Name) → box_name word ≡ o → name_or o (name_or (register_name word) (item_name word)) ≡ Some name → word ≡ name_text name
name_by_part word name None e h = name_by_rest word name (register_name word) refl h
name_by_part word name (Some other) e h = box_name_written word name (e ∙ h)

-- A word that is a name has the text of this name.
pub name_written : (word : List ℕ) (name : Name) → name_of word ≡ Some name → word ≡ name_text name
unfolding name_of
name_written word name h = name_by_part word name (box_name word) refl h

pub name_read : (name : Name) → name_of (name_text name) ≡ Some name
unfolding name_of box_name register_name item_name
name_read names.Font = refl
name_read names.Use = refl
name_read (names.Open forms.Hbox) = refl
name_read (names.Open forms.Vbox) = refl
name_read (names.Open forms.Vtop) = refl
name_read names.Paragraph = refl
name_read names.End = refl
name_read names.Character = refl
name_read names.Rule = refl
name_read names.Kern = refl
name_read names.Glue = refl
name_read names.Penalty = refl
name_read (names.Append Move) = refl
name_read (names.Append Copy) = refl
name_read (names.Unbox Horizontal Move) = refl
name_read (names.Unbox Horizontal Copy) = refl
name_read (names.Unbox Vertical Move) = refl
name_read (names.Unbox Vertical Copy) = refl
name_read names.LastBox = refl
name_read names.Split = refl
name_read names.Measure = refl
name_read names.Void = refl
name_read names.Set = refl
name_read names.Count = refl
name_read names.Ship = refl

-- The command that a name begins.
pub named : (name : Name) (rest : List (List ℕ)) → command_of (name_text name ∷ rest) ≡ command_named name rest
unfolding command_of
named name rest = rw (name_read name) refl
