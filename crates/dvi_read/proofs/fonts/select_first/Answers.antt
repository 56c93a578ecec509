use Rattle.std.proofs.Common.{Some, length, subst, ℤ}
use Rattle.std.specs.BTreeMap.{Updates}
use Rattle.std.specs.Ordering.{int_cmp}
use Rattle.dvi_scan.proofs.FirstDefinitionLemmas.{defined_all}
use Rattle.dvi_scan.proofs.RefusalLemmas.{handed_on, widths_space}
use Rattle.dvi_ops.specs.Fonts.{IsFontSize}
use Rattle.dvi_ops.specs.Instruction.{Definition}
use Rattle.dvi_ops.specs.View.{definition}
use Rattle.dvi_read.specs.Steps.{IsSelectFault}
use Rattle.dvi_read.specs.declared.fault.StepFault.TheVariants.{Pass}
use Rattle.dvi_scan.specs.declared.executing.PassFault.TheVariants.{OutOfMemory}
use Rattle.dvi_read.proofs.SelectLemmas.{given_by, given_by_same, lacks_memory, selects_new, selects_on, sound_stays}
use Rattle.tfm_core.specs.FileWidths.{file_widths, width_at}
use Rattle.dvi_read.proofs.fonts.select_first.Goals as goal

pub returns-in_err-share-clause-bad : goal.returns-in_err-share-clause-bad
returns-in_err-share-clause-bad c =
    let files = c.args.source.now.files.now in
    let after_post = c.args.source.now.after_post.now.keys in
    let known = c.args.known.now in
    let fonts = c.args.fonts.now in
    let f = c.args.font.now.number in
    let d = definition c.args.font.now in
    let (read, at, widths) = given_by_same files known d f fonts c.in-Some.index c.requires.sound c.in-Some.ensures in
    handed_on (IsSelectFault files after_post known fonts f) c.from_residual.result (Pass OutOfMemory) c.from_residual.ensures.1
    (lacks_memory files after_post known fonts f d c.requires.after_post c.requires.first c.requires.new (widths_space files d (width_at read) widths))

pub read_font-requires : goal.read_font-requires
read_font-requires c =
    defined_all (λ (d : Definition). IsFontSize d.size) c.args.font.now.number c.args.known.now (definition c.args.font.now) c.requires.sizes c.requires.first

pub returns-in_err-keep_number-clause-bad : goal.returns-in_err-keep_number-clause-bad
returns-in_err-keep_number-clause-bad c =
    let files = c.args.source.now.files.now in
    let after_post = c.args.source.now.after_post.now.keys in
    let known = c.args.known.now in
    let fonts = c.args.fonts.now in
    let f = c.args.font.now.number in
    let d = definition c.args.font.now in
    let read = c.in-Ok.read in
    let widths = given_by files d c.in_ok-file.file.now read c.in_ok-file.ensures.found c.bytes.ensures c.in-Ok.ensures.ok in
    handed_on (IsSelectFault files after_post known fonts f) c.from_residual-in_err-keep_number.result (Pass OutOfMemory) c.from_residual-in_err-keep_number.ensures.1
    (lacks_memory files after_post known fonts f d c.requires.after_post c.requires.first c.requires.new (widths_space files d (width_at read) widths))

pub returns-in_err-add-clause-bad : goal.returns-in_err-add-clause-bad
returns-in_err-add-clause-bad c =
    let files = c.args.source.now.files.now in
    let after_post = c.args.source.now.after_post.now.keys in
    let known = c.args.known.now in
    let fonts = c.args.fonts.now in
    let f = c.args.font.now.number in
    let d = definition c.args.font.now in
    let read = c.in-Ok.read in
    let widths = given_by files d c.in_ok-file.file.now read c.in_ok-file.ensures.found c.bytes.ensures c.in-Ok.ensures.ok in
    handed_on (IsSelectFault files after_post known fonts f) c.from_residual-in_err-add.result (Pass OutOfMemory) c.from_residual-in_err-add.ensures.1
    (lacks_memory files after_post known fonts f d c.requires.after_post c.requires.first c.requires.new (widths_space files d (width_at read) widths))

pub returns-clause-ok : goal.returns-clause-ok
returns-clause-ok c =
    let files = c.args.source.now.files.now in
    let after_post = c.args.source.now.after_post.now.keys in
    let known = c.args.known.now in
    let f = c.args.font.now.number in
    let d = definition c.args.font.now in
    let read = c.in-Ok.read in
    let add = c.in_ok-add.ensures in
    let old = c.args.fonts.now in
    let mid = c.keep_number.new.self in
    let metrics = file_widths files in
    let widths = given_by files d c.in_ok-file.file.now read c.in_ok-file.ensures.found c.bytes.ensures c.in-Ok.ensures.ok in
    let indices =
    subst (λ (n : ℤ). Updates int_cmp mid.indices c.add.new.self.indices n (Some (length mid.all.items))) c.number_of-number.ensures add.indices in
    selects_on old mid c.keep_number.ensures metrics after_post known f c.add.new.self
    (selects_new files after_post known d f mid c.add.new.self read (sound_stays old mid c.keep_number.ensures metrics known c.requires.sound) indices add.all
    c.requires.after_post c.requires.first add.current widths c.in-Ok.ensures.bytes)
