use Rattle.std.proofs.Common.{inl, map}
use Rattle.dvi_scan.proofs.ErrLemmas.{handed_on}
use Rattle.dvi_scan.specs.View.{marked_page}
use Rattle.dvi_read.specs.Private.OpeningParts.{IsFinishFault}
use Rattle.dvi_read.proofs.OpenLemmas.{tail_refused}
use Rattle.dvi_read.specs.Faults.{of_frame}
use Rattle.dvi_read.specs.Steps.{known_of, places_left, pass_state_of}
use Rattle.dvi_read.specs.declared.fault.DviFault.TheVariants.{Bad}
use Rattle.dvi_read.proofs.check.pages.check_after_pages.Goals as goal

pub returns-in_err-pages_end-clause-bad : goal.returns-in_err-pages_end-clause-bad
returns-in_err-pages_end-clause-bad c =
    let walk = c.args.walk.now in
    let ending = c.args.ending.now in
    handed_on (IsFinishFault c.args.bytes.now ending.post ending.after ending.last (pass_state_of walk) (places_left walk) (known_of walk))
    c.from_residual.result (Bad c.in_err-pages_end.field-0.0) c.from_residual.ensures.1
    (inl c.in_err-pages_end.ensures.bad)

pub returns-in_err-read_trailing_definitions-clause-bad : goal.returns-in_err-read_trailing_definitions-clause-bad
returns-in_err-read_trailing_definitions-clause-bad c =
    let walk = c.args.walk.now in
    let ending = c.args.ending.now in
    let fault = c.in_err-read_trailing_definitions.field-0.0 in
    handed_on (IsFinishFault c.args.bytes.now ending.post ending.after ending.last (pass_state_of walk) (places_left walk) (known_of walk))
    c.from_residual-in_err-read_trailing_definitions.result (of_frame fault)
    c.from_residual-in_err-read_trailing_definitions.ensures.1
    (tail_refused c.args.bytes.now ending.post ending.after ending.last (pass_state_of walk) (places_left walk) (map marked_page walk.done.items)
    (known_of walk) c.read_trailing_definitions.new.known fault
    c.in_ok-pages_end.ensures.ok c.in_err-read_trailing_definitions.ensures.bad)
