-- The fonts that a file defines, and what a fault says of a file.
use Rattle.std.proofs.Common.{◌≡◌, ◌≢◌, ◌-◌, [], List, ℕ, Bool, false, length, drop, inl, inr, ap, subst, subst₂, ◌∙◌, sym, refl, arith}
use Rattle.std.proofs.lemmas.List.{length-drop, length-take-le}
use Rattle.std.specs.Fmt.{digits}
use Rattle.dvi_scan.specs.Closing.{Closes, ClosesTo, IsClosingFault}
use Rattle.dvi_scan.proofs.ClosingLemmas.{broken_closing}
use Rattle.dvi_scan.specs.Passed.{IsFramed}
use Rattle.dvi_scan.specs.declared.fault.FrameFault.{FrameFault}
use Rattle.dvi_scan.specs.declared.fault.FrameFault.TheVariants as frames
use Rattle.dvi_scan.proofs.EndLemmas.{one_end}
use Rattle.dvi_scan.proofs.KnownLemmas.{fonts_fewer, same_self}
use Rattle.dvi_scan.proofs.PassedLemmas.{file_passed}
use Rattle.dvi_scan.proofs.PlaceLemmas.{same_front}
use Rattle.dvi_ops.proofs.Appends.{fonts_back}
use Rattle.dvi_ops.specs.Fonts.{known_after}
use Rattle.dvi_ops.specs.Instruction.{Definition, Post, Postamble, Units}
use Rattle.dvi_ops.specs.Tokens.{token_instructions}
use Rattle.dvi_ops.specs.View.{view_postamble}
use Rattle.dvi_read.proofs.FaultLemmas.{after_within, no_fault, no_front_fault}
use Rattle.dvi_read.specs.Opened.{IsNoFile}
use Rattle.dvi_read.specs.Opening.{BeforeThePages, StartsAt}
use Rattle.dvi_read.specs.OpeningParts.{HasFront}
use Rattle.dvi_read.specs.declared.check.before_pages.BeforePages.{BeforePages}
use Rattle.dvi_read.specs.Faults.{of_frame}
use Rattle.dvi_read.specs.declared.fault.DviFault.{DviFault}
use Rattle.dvi_read.specs.declared.fault.DviFault.TheVariants.{OutOfMemory}
use Rattle.tfm_core.specs.FileWidths.{file_widths}
use Rattle.tfm_core.specs.NamedBytes.{NamedBytes}
use Rattle.boxglue_print.specs.Faults.{fault_line}
use Rattle.boxglue_print.specs.FontLines.{KnownFontLines, check_sum_text, font_line, number_and_name, sizes, space_and_number, units_line, word_byte}
use Rattle.boxglue_print.specs.Fonts.{BreaksFonts, DefinesFonts, RefusesFonts}

-- The definitions after post, of which none was known before.
pub defines : (bytes : List ℕ) (front : BeforePages) (units : Units) (old known fonts : List Definition)
    → units ≡ (view_postamble front.ending.postamble).units → old ≡ [] → HasFront bytes front
    → ClosesTo bytes front.ending.after (front.ending.last - 5) old known → fonts ≡ known → DefinesFonts bytes units fonts
defines bytes front units old known fonts units_are none starts closes same =
    let all = subst (λ (ds : List Definition). ClosesTo bytes front.ending.after (front.ending.last - 5) ds known) none closes in
    record {
      post = front.ending.post;
      after = front.ending.after;
      last = front.ending.last;
      postamble = view_postamble front.ending.postamble;
      chain = front.chain.items;
      from = front.from;
      starts = starts;
      units_are = units_are;
      closes = subst (λ (ds : List Definition). ClosesTo bytes front.ending.after (front.ending.last - 5) [] ds) (sym same) all;
    }

pub breaks : (bytes : List ℕ) (front : BeforePages) (old new : List Definition) (frame : FrameFault) → old ≡ [] → HasFront bytes front
    → IsClosingFault bytes front.ending.after (front.ending.last - 5) old new frame → BreaksFonts bytes (of_frame frame)
breaks bytes front old new frame none starts broken =
    inr (
      front.ending.post,
      front.ending.after,
      front.ending.last,
      view_postamble front.ending.postamble,
      front.chain.items,
      front.from,
      new,
      frame,
      starts,
      subst (λ (ds : List Definition). IsClosingFault bytes front.ending.after (front.ending.last - 5) ds new frame) none broken,
      refl,
    )

-- What is wrong after post.
tail_fault : (files : List NamedBytes) (bytes : List ℕ) (post after last : ℕ) (postamble : Postamble) (chain : List ℕ) (from : ℕ)
    (new : List Definition) (frame : FrameFault) (fault : DviFault)
    → fault ≢ OutOfMemory → StartsAt bytes post after last postamble chain from → IsClosingFault bytes after (last - 5) [] new frame
    → fault ≡ of_frame frame → IsNoFile files bytes
tail_fault files bytes post after last postamble chain from new frames.OutOfMemory fault other starts broken is pages f = other is
tail_fault files bytes post after last postamble chain from new (frames.Bad bad) fault other starts broken is pages f =
    let framed = starts.chained.framed in
    let passed = file_passed bytes post after last postamble chain framed (file_widths files) pages f in
    let fonts = fonts_back [] (token_instructions passed.front) (token_instructions passed.tail) passed.fonts in
    let closes : Closes bytes after (last - 5) [] passed.tail =
    record {
      spelled = passed.tail_spelled;
      whole = passed.tail_whole;
      idle = passed.tail_is;
      fonts = fonts_fewer (known_after [] (token_instructions passed.front)) [] (token_instructions passed.tail) passed.tail_is (λ d among. absurd among) fonts;
    } in
    broken_closing bytes after (last - 5) [] new [] bad passed.tail (after_within files bytes post after last postamble chain framed) (same_self [])
    broken closes

-- A fault that is none of memory.
pub no_file : (files : List NamedBytes) (bytes : List ℕ) (fault : DviFault) → fault ≢ OutOfMemory → BreaksFonts bytes fault → IsNoFile files bytes
no_file files bytes fault other (inl broken) pages f = no_fault files bytes fault pages other (BeforeThePages broken) f
no_file files bytes fault other (inr (post, after, last, postamble, chain, from, new, frame, starts, broken, is)) pages f =
    tail_fault files bytes post after last postamble chain from new frame fault other starts broken is pages f

-- The place after post is unique.
one_after : (bytes : List ℕ) (post after other last last' : ℕ) (postamble postamble' : Postamble) (chain chain' : List ℕ)
    → IsFramed bytes post after last postamble chain → IsFramed bytes post other last' postamble' chain' → after ≡ other
one_after bytes post after other last last' postamble postamble' chain chain' one two =
    let whole = length-drop post bytes in
    let low = one.low in
    let low' = two.low in
    let high = one.high in
    let high' = two.high in
    let padded = one.ends.closed.trailed.padded in
    let padded' = two.ends.closed.trailed.padded in
    let same = same_front (Post postamble) (Post postamble') (after - post) (other - post) (drop post bytes) one.spelled two.spelled in
    let sizes : after - post ≡ other - post =
    sym (length-take-le (after - post) (drop post bytes) (omega arith)) ∙ (ap (λ (x : List ℕ). length x) same.1 ∙ length-take-le (other - post) (drop post bytes) (omega arith)) in omega arith

-- A fault that is none of memory, where the end of the file defines fonts.
no_tail_fault : (bytes : List ℕ) (post after last : ℕ) (postamble : Postamble) (chain : List ℕ) (from : ℕ) (new : List Definition)
    (frame : FrameFault) (fault : DviFault) → fault ≢ OutOfMemory
    → StartsAt bytes post after last postamble chain from → IsClosingFault bytes after (last - 5) [] new frame → fault ≡ of_frame frame
    → (units : Units) (fonts : List Definition) → DefinesFonts bytes units fonts → ⊥
no_tail_fault bytes post after last postamble chain from new frames.OutOfMemory fault other starts broken is units fonts defines = other is
no_tail_fault bytes post after last postamble chain from new (frames.Bad bad) fault other starts broken is units fonts defines =
    let framed = starts.chained.framed in
    let theirs = defines.starts.chained.framed in
    let (lasts, posts, stops) = one_end bytes defines.post defines.last post last defines.postamble postamble theirs.ends framed.ends in
    let here : IsFramed bytes post defines.after defines.last defines.postamble defines.chain =
    subst (λ (n : ℕ). IsFramed bytes n defines.after defines.last defines.postamble defines.chain) posts theirs in
    let afters = one_after bytes post defines.after after defines.last last defines.postamble postamble defines.chain chain here framed in
    let (tail, closes, all) = defines.closes in
    let same : Closes bytes after (last - 5) [] tail = subst₂ (λ (n m : ℕ). Closes bytes n (m - 5) [] tail) afters lasts closes in
    broken_closing bytes after (last - 5) [] new [] bad tail (after_within [] bytes post after last postamble chain framed) (same_self []) broken same

no_definitions : (bytes : List ℕ) (fault : DviFault) → fault ≢ OutOfMemory → BreaksFonts bytes fault → (units : Units) (fonts : List Definition) → DefinesFonts bytes units fonts → ⊥
no_definitions bytes fault other (inl broken) units fonts defines =
    no_front_fault bytes fault defines.post defines.after defines.last defines.postamble defines.chain defines.from other broken defines.starts
no_definitions bytes fault other (inr (post, after, last, postamble, chain, from, new, frame, starts, broken, is)) units fonts defines =
    no_tail_fault bytes post after last postamble chain from new frame fault other starts broken is units fonts defines

-- A file whose fonts are refused.
pub refuses_fonts : (bytes text : List ℕ) (accepted : Bool) (fault : DviFault) → fault ≢ OutOfMemory → text ≡ fault_line fault → accepted ≡ false → BreaksFonts bytes fault
    → RefusesFonts bytes text accepted
refuses_fonts bytes text accepted fault other text_is accepted_is broken = record {
  fault = fault;
  other = other;
  broken = broken;
  undefined = no_definitions bytes fault other broken;
  none = λ files. no_file files bytes fault other broken;
  text_is = text_is;
  accepted_is = accepted_is;
}

-- The known lines, computed by the definitions.
pub known_font_lines : KnownFontLines
unfolding units_line font_line number_and_name sizes space_and_number word_byte check_sum_text digits
known_font_lines = (refl, refl, refl, refl)
