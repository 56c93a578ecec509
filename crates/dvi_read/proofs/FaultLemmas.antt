-- Where the rule that a fault names is broken, the bytes are no file.
use Rattle.std.proofs.Common.{◌≡◌, ◌≢◌, ◌≤◌, ◌-◌, ◌%◌, [], ◌∷◌, List, length, take, ℕ, ℤ, refl, sym, ◌∙◌, ap, subst, subst₂, inl, inr, arith}
use Rattle.std.specs.Prelude.{◌⊎◌}
use Rattle.std.specs.List.{AllByRecursion}
use Rattle.dvi_scan.specs.AfterPost.{AreAfterPost}
use Rattle.dvi_scan.specs.Closing.{Closes, IsClosingFault}
use Rattle.dvi_scan.proofs.AfterPostLemmas.{looked}
use Rattle.dvi_scan.proofs.ClosingLemmas.{broken_closing, first_spelled}
use Rattle.dvi_scan.specs.Chain.{Links}
use Rattle.dvi_scan.specs.Ends.{IsSpelledAt}
use Rattle.dvi_scan.specs.Preamble.{IsPreambleFault}
use Rattle.dvi_scan.specs.declared.fault.BadDvi.{BadDvi}
use Rattle.dvi_scan.specs.declared.fault.DviCause.TheVariants.{Opcode, Pointer}
use Rattle.dvi_scan.specs.declared.fault.FrameFault.TheVariants as frames
use Rattle.dvi_scan.proofs.EndLemmas.{one_end}
use Rattle.dvi_scan.proofs.FaultLemmas.{breaks_chain, breaks_end, chain_fault, end_fault}
use Rattle.dvi_ops.specs.File.{AreUnits, IsFile, MarkedPage}
use Rattle.dvi_ops.specs.Fonts.{definitions, known_after}
use Rattle.dvi_ops.specs.Instruction.{Definition, Instruction, Postamble, Pre}
use Rattle.dvi_ops.specs.Tokens.{Token, IsSpelled, token_instructions, token_bytes}
use Rattle.dvi_ops.proofs.Appends.{fonts_back}
use Rattle.dvi_scan.specs.Pass.{Between}
use Rattle.dvi_scan.specs.Passed.{file_framing, IsFramed, IsPassed}
use Rattle.dvi_scan.specs.Reached.{AreNumbersOf, ReadSoFar, all_left}
use Rattle.dvi_scan.proofs.KnownLemmas.{same_self}
use Rattle.dvi_scan.proofs.PassedLemmas.{file_passed}
use Rattle.dvi_scan.proofs.ReachedLemmas.{end_right, tail_right}
use Rattle.dvi_read.specs.Opening.{HasPages, IsDviFault, IsFrontFault, StartsAt, BeforeThePages, ForPlaces, InThePrescan, AtTheEnd, InTheChain}
use Rattle.dvi_read.specs.Opening.{InThePreamble, InThePages, AtPost, AfterPost, ForDefinitions}
use Rattle.dvi_read.specs.WalkFaults.{IsUnended}
use Rattle.dvi_read.specs.declared.fault.DviFault.{DviFault}
use Rattle.dvi_read.specs.declared.fault.DviFault.TheVariants.{OutOfMemory}
use Rattle.dvi_read.proofs.WalkLemmas.{walk_fault}
use Rattle.tfm_core.specs.FileWidths.{file_widths}
use Rattle.tfm_core.specs.NamedBytes.{NamedBytes}

module _ (files : List NamedBytes) (bytes : List ℕ) (post after last : ℕ) (postamble : Postamble) (chain : List ℕ)
    (framed : IsFramed bytes post after last postamble chain) where
  -- The place of post is within the file, and so is the part after it.
  pub post_within : post ≤ length bytes
  post_within =
      let low = framed.low in
      let high = framed.high in
      let padded = framed.ends.closed.trailed.padded in
      omega arith

  pub after_within : last - 5 ≤ length bytes
  after_within = let padded = framed.ends.closed.trailed.padded in omega arith

  module _ (pages : List MarkedPage) (f : IsPassed (file_widths files) bytes (file_framing post after last postamble chain) pages) where
    -- The instructions after post in a file.
    closes_there : Closes bytes after (last - 5) (known_after [] (token_instructions f.front)) f.tail
    closes_there =
        record { spelled = f.tail_spelled; whole = f.tail_whole; idle = f.tail_is; fonts = fonts_back [] (token_instructions f.front) (token_instructions f.tail) f.fonts }

    -- The numbers that were found before the pages are read are those that are defined after post.
    pub numbers_are : (after_post : List ℤ) → AreAfterPost bytes after (last - 5) after_post
        → AreNumbersOf after_post (definitions (token_instructions f.tail))
    numbers_are after_post look =
        looked bytes after (last - 5) after_post (known_after [] (token_instructions f.front)) f.tail after_within look closes_there

    -- The preamble of a file.
    pub preamble_there : (bad : BadDvi) → IsPreambleFault bytes post postamble bad → ⊥
    preamble_there bad fault = by_front f.front f.front_spelled f.front_whole f.front_is
      where
        by_front : (front : List Token) → AllByRecursion IsSpelled front → token_bytes front ≡ take post bytes
            → token_instructions front ≡ Pre 2 postamble.units f.comment ∷ f.body → ⊥
        by_front [] spelled whole is = cc
        by_front (t ∷ more) (here, spelled) whole is =
            let first : t.says ≡ Pre 2 postamble.units f.comment = cc in
            let whole_size : post ≡ post - 0 = omega arith in
            fault.none f.comment (subst (λ (i : Instruction). IsSpelledAt bytes 0 post i) first
            (first_spelled bytes 0 post t more (omega arith) post_within here
            (subst (λ (n : ℕ). token_bytes (t ∷ more) ≡ take n bytes) whole_size whole))) f.units

    -- A fault at the place of post.
    pub pages_ended : (bad : BadDvi) (from : ℕ) (after_post : List ℤ) (seen : ReadSoFar)
        → HasPages files bytes (file_framing post after last postamble chain) from after_post seen → IsUnended seen.pass seen.left post bad → ⊥
    pages_ended bad from after_post seen has (place, broken) =
        let (p, left) = end_right (file_widths files) bytes post after last postamble chain pages f post_within after_post
        (numbers_are after_post has.looked) post seen (omega arith) has.reached refl in by_rule broken p left
      where
        by_rule : (bad.cause ≡ Opcode) × ((pages : List MarkedPage) → seen.pass ≡ Between pages → ⊥) ⊎ (bad.cause ≡ Pointer) × ((pages : List MarkedPage) × (seen.pass ≡ Between pages)) × (seen.left ≢ all_left [])
            → seen.pass ≡ Between pages → seen.left ≡ all_left [] → ⊥
        by_rule (inl (cause, inside)) p left = inside pages p
        by_rule (inr (cause, closed, some)) p left = some left

    pub tail_is_right : (bad : BadDvi) (from : ℕ) (after_post : List ℤ) (seen : ReadSoFar) (new : List Definition)
        → HasPages files bytes (file_framing post after last postamble chain) from after_post seen
        → IsClosingFault bytes after (last - 5) seen.known new (frames.Bad bad) → ⊥
    tail_is_right bad from after_post seen new has broken =
        let tail = tail_right (file_widths files) bytes post after last postamble chain pages f post_within after_post seen has.reached in
        let closes : Closes bytes after (last - 5) seen.known f.tail = record { spelled = tail.spelled; whole = tail.whole; idle = tail.idle; fonts = tail.fonts } in
        broken_closing bytes after (last - 5) seen.known new seen.known bad f.tail after_within (same_self seen.known) broken closes

-- A fault before the pages, other than refused memory, where the rules of the parts before the pages hold.
pub no_front_fault : (bytes : List ℕ) (fault : DviFault) (post after last : ℕ) (postamble : Postamble) (chain : List ℕ) (from : ℕ)
    → fault ≢ OutOfMemory → IsFrontFault bytes fault
    → StartsAt bytes post after last postamble chain from → ⊥
no_front_fault bytes fault post after last postamble chain from other (ForPlaces post' e postamble' is ends named) starts = other is
no_front_fault bytes fault post after last postamble chain from other (AtTheEnd bad is broken) starts =
    breaks_end bytes bad.place bad.cause post last postamble starts.chained.framed.ends broken
no_front_fault bytes fault post after last postamble chain from other (InTheChain bad post' e postamble' is ends broken) starts =
    let framed = starts.chained.framed in
    let (lasts, posts, fault_is) = one_end bytes post' e post last postamble' postamble ends framed.ends in
    let links : Links bytes post' postamble'.last_bop chain =
    subst₂ (λ (n : ℕ) (s : Postamble). Links bytes n s.last_bop chain) (sym posts) (sym fault_is) framed.links in
    let count : postamble'.pages ≡ length chain % 65536 = ap (λ (s : Postamble). s.pages) fault_is ∙ starts.chained.count in
    breaks_chain bytes post' bad.place postamble' bad.cause chain broken links count
no_front_fault bytes fault post after last postamble chain from other
    (InThePreamble bad post' after' last' postamble' chain' is chained broken) starts =
    let preamble = starts.preamble in
    let (lasts, posts, fault_is) = one_end bytes post' last' post last postamble' postamble chained.framed.ends starts.chained.framed.ends in
    let none : (comment : List ℕ) → IsSpelledAt bytes 0 post (Pre 2 postamble.units comment) → AreUnits postamble.units → ⊥ =
    subst₂ (λ (n : ℕ) (s : Postamble). (comment : List ℕ) → IsSpelledAt bytes 0 n (Pre 2 s.units comment) → AreUnits s.units → ⊥) posts fault_is
    broken.none in
    let within = preamble.within in none preamble.comment (from, omega arith, preamble.spelled) preamble.units

-- A fault before the pages, other than refused memory, in a file.
front_fault : (files : List NamedBytes) (bytes : List ℕ) (fault : DviFault) (pages : List MarkedPage) → fault ≢ OutOfMemory → IsFrontFault bytes fault → IsFile (file_widths files) bytes pages → ⊥
front_fault files bytes fault pages other (ForPlaces post e postamble is ends named) f = other is
front_fault files bytes fault pages other (AtTheEnd bad e broken) f = end_fault bytes bad.place bad.cause broken f.frame
front_fault files bytes fault pages other (InTheChain bad post e postamble is ends broken) f =
    chain_fault (file_widths files) bytes pages post e bad.place postamble bad.cause ends broken f
front_fault files bytes fault pages other (InThePreamble bad post after last postamble chain is chained broken) f =
    preamble_there files bytes post after last postamble chain chained.framed pages
    (file_passed bytes post after last postamble chain chained.framed (file_widths files) pages f) bad broken

-- A fault other than refused memory.
pub no_fault : (files : List NamedBytes) (bytes : List ℕ) (fault : DviFault) (pages : List MarkedPage) → fault ≢ OutOfMemory → IsDviFault files bytes fault → IsFile (file_widths files) bytes pages → ⊥
no_fault files bytes fault pages other (BeforeThePages broken) f = front_fault files bytes fault pages other broken f
no_fault files bytes fault pages other (InThePrescan post after last postamble chain from is starts wants) f = other is
no_fault files bytes fault pages other (InThePages post after last postamble chain from after_post starts look broken stray) f =
    let framed = starts.chained.framed in
    let passed = file_passed bytes post after last postamble chain framed (file_widths files) pages f in
    walk_fault files after_post bytes post after last postamble chain pages fault (post_within files bytes post after last postamble chain framed)
    other broken passed
    (numbers_are files bytes post after last postamble chain framed pages passed after_post look)
no_fault files bytes fault pages other (AtPost bad post after last postamble chain from after_post seen is has broken unmet) f =
    let framed = has.starts.chained.framed in
    let passed = file_passed bytes post after last postamble chain framed (file_widths files) pages f in
    pages_ended files bytes post after last postamble chain framed pages passed bad from after_post seen has broken
no_fault files bytes fault pages other (AfterPost bad post after last postamble chain from after_post seen ends new is has ended broken) f =
    let framed = has.starts.chained.framed in
    let passed = file_passed bytes post after last postamble chain framed (file_widths files) pages f in
    tail_is_right files bytes post after last postamble chain framed pages passed bad from after_post seen new has broken
no_fault files bytes fault pages other (ForDefinitions post after last postamble chain from after_post seen ends new is has ended wants) f = other is
