-- The tables of a file that was opened, or the line of its refusal.
use Rattle.std.proofs.Common.{◌≡◌, ◌∙◌, false, List, ℕ, refl, subst, sym}
use Rattle.tfm_core.specs.NamedBytes.{NamedBytes}
use Rattle.boxglue_print.proofs.PrintLemmas.{refuses}
use Rattle.boxglue_calls.specs.Fonts.{files_of}
use Rattle.boxglue_calls.specs.MarkTables.{mark_outputs}
use Rattle.boxglue_calls.specs.Private.MarkFiles.{HandsOverFully, IsRefusal}
use Rattle.boxglue_calls.proofs.MarkTableLaws.{opened_checked}
use Rattle.boxglue_calls.proofs.mark_table.hand_over_marks.Goals as goal

pub hand_over_rows-requires : goal.hand_over_rows-requires
hand_over_rows-requires c =
    let files = c.deref.result.now in
    let opened = c.in-Ok.ensures in
    let seen_items = c.in_ok-seen_items-in-Ok in (
      files,
      c.args.dvi.now,
      c.in-Ok.opened.pages,
      opened_checked files c.args.dvi.now c.in-Ok.opened c.units-units.result seen_items.seen_items opened.ok opened.units opened.bytes opened.widths
          opened.space opened.texts c.units-units.ensures.value seen_items.ensures.remaining
          seen_items.ensures.all seen_items.ensures.place seen_items.ensures.file,
    )

pub returns-in-Ok-clause-handed : goal.returns-in-Ok-clause-handed
returns-in-Ok-clause-handed c =
    let files = c.deref.result.now in
    let same : files ≡ files_of c.args.fonts.now = c.deref.ensures.value ∙ c.in_ok-files.ensures.copied in
    let opened = c.in-Ok.ensures in
    let seen_items = c.in_ok-seen_items-in-Ok in
    let checked =
    opened_checked files c.args.dvi.now c.in-Ok.opened c.units-units.result seen_items.seen_items opened.ok opened.units opened.bytes opened.widths
    opened.space opened.texts c.units-units.ensures.value seen_items.ensures.remaining
    seen_items.ensures.all seen_items.ensures.place seen_items.ensures.file in
    subst
    (λ (fs : List NamedBytes).
    HandsOverFully fs c.args.dvi.now (mark_outputs c.args.pages.now c.args.marks.now c.args.text.now) (mark_outputs c.hand_over_rows.new.pages c.hand_over_rows.new.marks c.args.text.now)
    c.hand_over_rows.new.sizes c.hand_over_rows.result) same (c.hand_over_rows.ensures files c.args.dvi.now c.in-Ok.opened.pages c.args.text.now checked)

pub returns-clause-handed : goal.returns-clause-handed
returns-clause-handed c =
    let files = c.deref.result.now in
    let same : files ≡ files_of c.args.fonts.now = c.deref.ensures.value ∙ c.in_ok-files.ensures.copied in
    let refusal = c.in_ok-line-in-Err.ensures in
    let line = c.in_ok-line-in-Err.line.items in
    let whole : IsRefusal files c.args.dvi.now line =
    record {
      refuses = refuses files c.args.dvi.now line c.in-Err.fault false refusal.other c.in-Err.ensures.bad c.in-Err.ensures.refused refusal.line_is refl;
      short = refusal.short;
    } in
    let refused = subst (λ (bytes : List ℕ). IsRefusal files c.args.dvi.now bytes) (sym c.deref-in-Err.ensures.value) whole in
    subst
    (λ (fs : List NamedBytes).
    HandsOverFully fs c.args.dvi.now (mark_outputs c.args.pages.now c.args.marks.now c.args.text.now) (mark_outputs c.args.pages.now c.args.marks.now c.hand_over_refusal.new.text)
    c.hand_over_refusal.new.sizes c.hand_over_refusal.result) same (c.hand_over_refusal.ensures files c.args.dvi.now refused c.args.pages.now c.args.marks.now)
