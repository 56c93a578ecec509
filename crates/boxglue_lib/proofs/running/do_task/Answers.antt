-- Each task.
use Rattle.std.proofs.Common.{refl}
use Rattle.boxglue_lib.proofs.EndLemmas.{has_ended, keeps_same}
use Rattle.boxglue_lib.proofs.running.do_task.Goals as goal

pub returns-in-Version : goal.returns-in-Version
returns-in-Version g c = rw c.in-Version.is (refl, c.print_version.ensures, keeps_same _)

pub returns-in-Memory : goal.returns-in-Memory
returns-in-Memory g c =
    rw c.in-Memory.is
    (refl, has_ended _ c.run_input-end.result _ _ _ _ c.run_input-end.ensures.ended c.run_input-end.ensures.memory c.report_end.ensures.output c.report_end.ensures.errors c.report_end.ensures.status)

pub returns-in-Typeset : goal.returns-in-Typeset
returns-in-Typeset g c =
    let done = rw c.deref.ensures.value at c.typeset.ensures in
    rw c.in-Typeset.is done

pub returns-in-Session : goal.returns-in-Session
returns-in-Session g c =
    let done = rw c.deref-in-Session.ensures.value at c.session.ensures in
    rw c.in-Session.is done

pub returns-in-Listing : goal.returns-in-Listing
returns-in-Listing g c =
    let done = rw c.deref-in-Listing.ensures.value at c.list-end.ensures.ended in
    let memory = rw c.deref-in-Listing.ensures.value at c.list-end.ensures.memory in
    rw c.in-Listing.is
    (refl, has_ended _ c.list-end.result _ _ _ _ done memory c.report_end-in-Listing.ensures.output c.report_end-in-Listing.ensures.errors c.report_end-in-Listing.ensures.status)

pub returns-in-Fonts : goal.returns-in-Fonts
returns-in-Fonts g c =
    rw c.in-Fonts.is
    (refl, has_ended _ c.list_fonts-end.result _ _ _ _ c.list_fonts-end.ensures.ended c.list_fonts-end.ensures.memory c.report_end-in-Fonts.ensures.output c.report_end-in-Fonts.ensures.errors c.report_end-in-Fonts.ensures.status)

pub returns-in-Painting : goal.returns-in-Painting
returns-in-Painting g c =
    let done = rw c.deref-in-Painting.ensures.value at c.paint-end.ensures.ended in
    let memory = rw c.deref-in-Painting.ensures.value at c.paint-end.ensures.memory in
    rw c.in-Painting.is
    (refl, has_ended _ c.paint-end.result _ _ _ _ done memory c.report_end-in-Painting.ensures.output c.report_end-in-Painting.ensures.errors c.report_end-in-Painting.ensures.status)
