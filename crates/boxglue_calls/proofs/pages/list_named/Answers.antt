-- The listing of a file that was checked, or the line of its refusal.
use Rattle.std.proofs.Common.{◌≡◌, ◌∙◌, false, List, ℕ, length, refl, rules, subst, true, inl, inr}
use Rattle.std.specs.Prelude.{IfOk}
use Rattle.std.proofs.lemmas.Result.{IfOk-weaker}
use Rattle.dvi_read.specs.Listing.{listing}
use Rattle.tfm_core.specs.NamedBytes.{NamedBytes}
use Rattle.boxglue_print.specs.Outputs.{IsListed}
use Rattle.boxglue_print.proofs.PrintLemmas.{refuses}
use Rattle.boxglue_calls.specs.Buffers.{HandsOver}
use Rattle.boxglue_calls.specs.Fonts.{files_of}
use Rattle.boxglue_calls.specs.Pages.{HandsOverPages}
use Rattle.boxglue_calls.proofs.pages.list_named.Goals as goal

pub returns-in-Ok-clause-handed : goal.returns-in-Ok-clause-handed
returns-in-Ok-clause-handed c =
    let pages = c.in-Ok.opened.pages in
    let same : c.deref.result.now ≡ files_of c.args.fonts.now = c.deref.ensures.value ∙ c.in_ok-files.ensures.copied in
    let new = c.list_opened.new.text in
    let size = c.list_opened.new.size in
    subst (λ (files : List NamedBytes). IfOk c.list_opened.result (HandsOverPages (IsListed files c.args.dvi.now) c.args.text.now new size)) same
    (IfOk-weaker c.list_opened.result (λ status. HandsOver c.args.text.now new (listing pages) 0 status × (size ≡ length (listing pages)))
    (HandsOverPages (IsListed c.deref.result.now c.args.dvi.now) c.args.text.now new size)
    (λ status handed.
    record {
      text = listing pages;
      accepted = true;
      output = inl (record { pages = pages; file = c.in-Ok.ensures.ok; text_is = refl; accepted_is = refl });
      handed = handed.0;
      size_is = handed.1;
    }) c.list_opened.ensures.handed)

pub returns-clause-handed : goal.returns-clause-handed
returns-clause-handed c =
    let refusal = c.in_ok-line-in-Err in
    let line = refusal.line.items in
    let size : c.len.result ≡ length line = search rules in
    let same : c.deref.result.now ≡ files_of c.args.fonts.now = c.deref.ensures.value ∙ c.in_ok-files.ensures.copied in
    subst (λ (files : List NamedBytes). HandsOverPages (IsListed files c.args.dvi.now) c.args.text.now c.hand_over.new.buffer c.len.result c.hand_over.result) same
    (record {
      text = line;
      accepted = false;
      output = inr (refuses c.deref.result.now c.args.dvi.now line c.in-Err.fault false refusal.ensures.other c.in-Err.ensures.bad c.in-Err.ensures.refused
          refusal.ensures.text refl);
      handed = subst (λ (text : List ℕ). HandsOver c.args.text.now c.hand_over.new.buffer text 1 c.hand_over.result) c.deref-in-Err.ensures.value c.hand_over.ensures;
      size_is = size;
    })
