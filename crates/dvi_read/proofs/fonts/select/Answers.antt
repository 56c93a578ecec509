use Rattle.std.proofs.Common.{None, Some, subst, sym, true, ℤ, ◌≡◌}
use Rattle.std.specs.Prelude.{IfErr, OnOk}
use Rattle.dvi_ops.specs.Fonts.{first_definition_of}
use Rattle.dvi_ops.specs.View.{definition}
use Rattle.dvi_read.specs.ReadFonts.{font_index}
use Rattle.dvi_read.specs.Steps.{IsSelectFault, Selects}
use Rattle.dvi_read.specs.declared.fonts.ReadFonts.{ReadFonts}
use Rattle.dvi_read.proofs.SelectLemmas.{selects_read}
use Rattle.dvi_scan.proofs.FirstDefinitionLemmas.{defined_number}
use Rattle.dvi_scan.specs.Reached.{has_number}
use Rattle.tfm_core.specs.FileWidths.{file_widths}
use Rattle.dvi_read.proofs.fonts.select.Goals as goal

pub returns-then-choose-clause-ok : goal.returns-then-choose-clause-ok
returns-then-choose-clause-ok c =
    let (index, there, is) = c.choose.ensures.yes c.if-choose.true in
    selects_read (file_widths c.args.source.now.files.now) c.args.source.now.after_post.now.keys c.args.known.now c.args.number.value index
    c.args.fonts.now c.choose.new.self c.requires.sound
    c.in-Some.ensures.font_defined.0 there is

pub select_first-requires-clause-first : goal.select_first-requires-clause-first
select_first-requires-clause-first c =
    let known = c.args.known.now in
    let d = definition c.in-Some.font.now in
    let first = c.in-Some.ensures.font_defined.1 in
    subst (λ (f : ℤ). first_definition_of f known ≡ Some d) (defined_number c.args.number.value known d first) first

pub select_first-requires-clause-after_post : goal.select_first-requires-clause-after_post
select_first-requires-clause-after_post c =
    let (named, first) = c.in-Some.ensures.font_defined in
    subst (λ (f : ℤ). has_number c.args.source.now.after_post.now.keys f ≡ true)
    (defined_number c.args.number.value c.args.known.now (definition c.in-Some.font.now) first) named

pub select_first-requires-clause-new : goal.select_first-requires-clause-new
select_first-requires-clause-new c =
    let same = defined_number c.args.number.value c.args.known.now (definition c.in-Some.font.now) c.in-Some.ensures.font_defined.1 in
    let (none, kept) = c.choose.ensures.no c.if-choose.false in
    subst (λ (fonts : ReadFonts). font_index c.in-Some.font.now.number fonts ≡ None) (sym kept)
    (subst (λ (f : ℤ). font_index f c.args.fonts.now ≡ None) same none)

pub returns-clause-ok : goal.returns-clause-ok
returns-clause-ok c =
    let metrics = file_widths c.args.source.now.files.now in
    let after_post = c.args.source.now.after_post.now.keys in
    let known = c.args.known.now in
    let same = defined_number c.args.number.value known (definition c.in-Some.font.now) c.in-Some.ensures.font_defined.1 in
    subst (λ (fonts : ReadFonts). OnOk c.select_first.result (Selects metrics after_post known c.args.number.value fonts c.select_first.new.fonts))
    (c.choose.ensures.no c.if-choose.false).1
    (subst (λ (f : ℤ). OnOk c.select_first.result (Selects metrics after_post known f c.choose.new.self c.select_first.new.fonts)) (sym same)
    c.select_first.ensures.ok)

pub returns-clause-bad : goal.returns-clause-bad
returns-clause-bad c =
    let files = c.args.source.now.files.now in
    let after_post = c.args.source.now.after_post.now.keys in
    let known = c.args.known.now in
    let same = defined_number c.args.number.value known (definition c.in-Some.font.now) c.in-Some.ensures.font_defined.1 in
    subst (λ (fonts : ReadFonts). IfErr c.select_first.result (IsSelectFault files after_post known fonts c.args.number.value))
    (c.choose.ensures.no c.if-choose.false).1
    (subst (λ (f : ℤ). IfErr c.select_first.result (IsSelectFault files after_post known c.choose.new.self f)) (sym same) c.select_first.ensures.bad)
