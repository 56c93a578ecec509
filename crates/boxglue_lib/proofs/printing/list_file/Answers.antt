-- The line of the refusal, or the pieces of the listing: all of it, or a beginning.
use Rattle.std.proofs.Common.{false, true, inl, inr, refl}
use Rattle.dvi_read.specs.Listing.{listing}
use Rattle.boxglue_print.proofs.PrintLemmas.{refuses}
use Rattle.boxglue_lib.proofs.EndLemmas.{keeps_same}
use Rattle.boxglue_lib.proofs.printing.list_file.Goals as goal

pub returns-in_err-write_text-in-Err-clause-unwritten : goal.returns-in_err-write_text-in-Err-clause-unwritten
returns-in_err-write_text-in-Err-clause-unwritten g c said =
    let refusal = c.in_ok-text-in-Err in
    let front = rw c.deref.ensures.value at c.in_err-write_text-in-Err.ensures.front in (
      refusal.text.items,
      false,
      inr (refuses c.args.files.now c.args.dvi.now refusal.text.items c.in-Err.fault false refusal.ensures.other c.in-Err.ensures.bad c.in-Err.ensures.refused
          refusal.ensures.text refl),
      front,
    )

pub returns-in-Err-clause-listed : goal.returns-in-Err-clause-listed
returns-in-Err-clause-listed g c =
    let refusal = c.in_ok-text-in-Err in
    let written = rw c.deref.ensures.value at c.in_ok-write_text-in-Err.ensures.all in (
      refusal.text.items,
      inr (refuses c.args.files.now c.args.dvi.now refusal.text.items c.in-Err.fault false refusal.ensures.other c.in-Err.ensures.bad c.in-Err.ensures.refused
          refusal.ensures.text refl),
      written,
    )

pub write_listing-requires-clause-remaining : goal.write_listing-requires-clause-remaining
write_listing-requires-clause-remaining g c = (listing c.in-Ok.opened.pages, c.in_ok-lines.ensures.remaining)

pub returns-in_err-write_listing-clause-unwritten : goal.returns-in_err-write_listing-clause-unwritten
returns-in_err-write_listing-clause-unwritten g c said =
    let pages = c.in-Ok.opened.pages in (
      listing pages,
      true,
      inl (record { pages = pages; file = c.in-Ok.ensures.ok; text_is = refl; accepted_is = refl }),
      c.in_err-write_listing.ensures.front (listing pages) c.in_ok-lines.ensures.remaining,
    )

pub returns-clause-listed : goal.returns-clause-listed
returns-clause-listed g c =
    let pages = c.in-Ok.opened.pages in (
      listing pages,
      inl (record { pages = pages; file = c.in-Ok.ensures.ok; text_is = refl; accepted_is = refl }),
      c.in_ok-write_listing.ensures.all (listing pages) c.in_ok-lines.ensures.remaining,
    )

pub returns-in_err-piece-clause-silent : goal.returns-in_err-piece-clause-silent
returns-in_err-piece-clause-silent g c = λ _. keeps_same (g.W.Write.contents c.args.writer.now)
