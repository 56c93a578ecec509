-- A whole file: its parts make a file, and each refusal has a reason.
use Rattle.std.proofs.Common.{◌≡◌, ◌≢◌, ◌-◌, ◌++◌, List, length, ℕ, ℤ, Result, Ok, Err, refl, sym, ◌∙◌, ap, ap₂, subst, inl, inr, arith}
use Rattle.std.specs.Prelude.{IfOk, IfErr, IsErrAnd}
use Rattle.std.proofs.lemmas.Grind.{flat_map-append}
use Rattle.dvi_scan.specs.Closing.{ClosesTo, IsClosingFault}
use Rattle.dvi_scan.proofs.AfterPostLemmas.{looked}
use Rattle.dvi_scan.proofs.ErrLemmas.{handed_on}
use Rattle.dvi_scan.specs.AfterPost.{AreAfterPost}
use Rattle.dvi_scan.specs.Chain.{IsChainRefusal}
use Rattle.dvi_scan.specs.Ends.{HasPostamble}
use Rattle.dvi_scan.specs.declared.fault.FrameFault.{FrameFault}
use Rattle.dvi_scan.specs.declared.fault.FrameFault.TheVariants as frames
use Rattle.dvi_scan.proofs.EndLemmas.{frame_ends, one_end}
use Rattle.dvi_ops.specs.File.{Frame, IsFile, MarkedPage}
use Rattle.dvi_ops.specs.Fonts.{WidthsByName, definitions_in, definitions}
use Rattle.dvi_ops.specs.Instruction.{Definition, Postamble}
use Rattle.dvi_ops.specs.Tokens.{Token, token_instructions, token_bytes}
use Rattle.dvi_ops.proofs.Frames.{one_list, one_list_of_pages}
use Rattle.dvi_scan.specs.Pass.{PassStateView}
use Rattle.dvi_scan.specs.Passed.{file_framing, IsFramed}
use Rattle.dvi_scan.specs.Reached.{IsReached, IsTail, PlacesLeft, ReadSoFar, before_pages}
use Rattle.dvi_scan.proofs.PassedLemmas.{frame_parts, passed_file}
use Rattle.dvi_scan.proofs.ReachedLemmas.{reached_end, reached_first}
use Rattle.dvi_read.specs.Opened.{OpenedFile, GivesPages, IsExact, IsNoFile}
use Rattle.dvi_read.specs.Opening.{HasPages, IsDviFault, IsFrontFault, IsStray, StartsAt, ForPlaces, InTheChain, InThePages, AtPost, AfterPost, ForDefinitions}
use Rattle.dvi_read.specs.Private.OpeningParts.{IsFinishFault}
use Rattle.dvi_read.proofs.FaultLemmas.{after_within, no_fault, post_within}
use Rattle.dvi_read.specs.Faults.{of_frame}
use Rattle.dvi_read.specs.WalkFaults.{PagesHaveEnded, IsWalkFault}
use Rattle.dvi_read.specs.declared.fault.DviFault.{DviFault}
use Rattle.dvi_read.specs.declared.fault.DviFault.TheVariants as faults
use Rattle.dvi_read.proofs.PointerLemmas.{stray_bop, stray_pointer, unmet_pointer}
use Rattle.tfm_core.specs.FileWidths.{file_widths}
use Rattle.tfm_core.specs.NamedBytes.{NamedBytes}

-- A refusal of the chain.
pub chain_refused : (bytes : List ℕ) (post e : ℕ) (postamble : Postamble) (fault : FrameFault) → HasPostamble bytes post e postamble
    → IsChainRefusal bytes post postamble fault
    → IsFrontFault bytes (of_frame fault)
chain_refused bytes post e postamble frames.OutOfMemory ends named = ForPlaces post e postamble refl ends named
chain_refused bytes post e postamble (frames.Bad fault) ends broken = InTheChain fault post e postamble refl ends broken

-- The place after the preamble begins the walk.
pub starts_reached : (files : List NamedBytes) (bytes : List ℕ) (post after last : ℕ) (postamble : Postamble) (chain : List ℕ) (from : ℕ)
    (after_post : List ℤ) → StartsAt bytes post after last postamble chain from
    → IsReached (file_widths files) after_post bytes postamble chain from (before_pages chain)
starts_reached files bytes post after last postamble chain from after_post starts =
    let high = post_within files bytes post after last postamble chain starts.chained.framed in
    let within = starts.preamble.within in
    reached_first (file_widths files) after_post bytes postamble chain from starts.preamble.comment (omega arith) starts.preamble.spelled

-- A fault of the pages that is Pointer is at a bop that is not in the chain.
pub strays : (files : List NamedBytes) (after_post : List ℤ) (bytes : List ℕ) (post after last : ℕ) (postamble : Postamble) (chain : List ℕ)
    (fault : DviFault) → IsFramed bytes post after last postamble chain
    → IsWalkFault files after_post bytes postamble chain post fault → IsStray bytes post chain fault
strays files after_post bytes post after last postamble chain fault framed broken = λ bad is cause.
    let walk = subst (λ (fault : DviFault). IsWalkFault files after_post bytes postamble chain post fault) is broken in
    let high = post_within files bytes post after last postamble chain framed in (
      stray_bop files after_post bytes postamble chain post bad cause walk,
      stray_pointer files after_post bytes postamble chain post post postamble.last_bop bad high framed.links cause walk,
    )

-- The parts make a file of the pages.
pub opened : (files : List NamedBytes) (bytes : List ℕ) (post after last : ℕ) (postamble : Postamble) (chain : List ℕ) (from : ℕ)
    (after_post : List ℤ) (seen : ReadSoFar) (pages : List MarkedPage) (new : List Definition)
    → HasPages files bytes (file_framing post after last postamble chain) from after_post seen → PagesHaveEnded seen.pass seen.left pages
    → ClosesTo bytes after (last - 5) seen.known new → IsFile (file_widths files) bytes pages
opened files bytes post after last postamble chain from after_post seen pages new has ended (tail, closes, new_is) =
    let framed = has.starts.chained.framed in
    let numbers = looked bytes after (last - 5) after_post seen.known tail (after_within files bytes post after last postamble chain framed)
    has.looked closes in
    let is_tail : IsTail bytes after last seen.known tail = record { spelled = closes.spelled; whole = closes.whole; idle = closes.idle; fonts = closes.fonts } in
    passed_file bytes post after last postamble chain framed (file_widths files) pages has.starts.chained.count
    (reached_end (file_widths files) bytes post after last postamble chain pages after_post seen tail has.starts.preamble.units numbers has.reached
    ended.between ended.none is_tail)

-- The units are those of post.
pub units_of_post : (bytes : List ℕ) (post e : ℕ) (postamble : Postamble) → HasPostamble bytes post e postamble → (f : Frame bytes)
    → postamble.units ≡ f.postamble.units
units_of_post bytes post e postamble ends f =
    let found = frame_ends bytes f in
    let (lasts, posts, fault_is) = one_end bytes post e (length (token_bytes f.front)) found.0 postamble f.postamble ends found.1 in
    ap (λ (s : Postamble). s.units) fault_is

-- A refusal at the place of post or after it.
pub finish_refused : (files : List NamedBytes) (bytes : List ℕ) (post after last : ℕ) (postamble : Postamble) (chain : List ℕ) (from : ℕ)
    (after_post : List ℤ) (seen : ReadSoFar) (fault : DviFault)
    → HasPages files bytes (file_framing post after last postamble chain) from after_post seen
    → IsFinishFault bytes post after last seen.pass seen.left seen.known fault → IsDviFault files bytes fault
finish_refused files bytes post after last postamble chain from after_post seen faults.OutOfMemory has (pages, ended, new, wants) =
    ForDefinitions post after last postamble chain from after_post seen pages new refl has ended wants
finish_refused files bytes post after last postamble chain from after_post seen (faults.Bad bad) has (inl unended) =
    AtPost bad post after last postamble chain from after_post seen refl has unended
    (λ cause. unmet_pointer (file_widths files) after_post bytes postamble chain post seen bad has.reached cause unended)
finish_refused files bytes post after last postamble chain from after_post seen (faults.Bad bad) has (inr (pages, ended, new, broken)) =
    AfterPost bad post after last postamble chain from after_post seen pages new refl has ended broken
finish_refused files bytes post after last postamble chain from after_post seen fault has broken = absurd broken

-- The definitions that were read before post and after it are those of the whole file.
pub fonts_read : (metrics : WidthsByName) (after_post : List ℤ) (bytes : List ℕ) (post after last : ℕ) (postamble : Postamble) (chain : List ℕ)
    (seen : ReadSoFar) (new : List Definition)
    → IsFramed bytes post after last postamble chain → IsReached metrics after_post bytes postamble chain post seen
    → ClosesTo bytes after (last - 5) seen.known new
    → (f : Frame bytes) → new ≡ definitions (token_instructions f.front ++ token_instructions f.tail)
fonts_read metrics after_post bytes post after last postamble chain seen new framed r (tail, closes, new_is) f =
    let parts = frame_parts bytes post after last postamble chain framed f in
    let front : r.before ≡ f.front = one_list r.before f.front r.spelled f.front_spelled (r.whole ∙ sym parts.0) in
    let after_it : tail ≡ f.tail = one_list tail f.tail closes.spelled f.tail_spelled (closes.whole ∙ sym parts.1) in
    new_is
    ∙ (ap (λ (ds : List Definition). ds ++ definitions (token_instructions tail)) (sym r.known_is)
    ∙ (sym (flat_map-append definitions_in (token_instructions r.before) (token_instructions tail))
    ∙ ap₂ (λ (a b : List Token). definitions (token_instructions a ++ token_instructions b)) front after_it))

-- A fault, if it is none of memory, is of no file.
abbrev pub IsRefused : List NamedBytes → List ℕ → DviFault → Type 0
IsRefused files bytes fault = fault ≢ faults.OutOfMemory → IsNoFile files bytes

pub refused : (files : List NamedBytes) (bytes : List ℕ) (fault : DviFault) → IsDviFault files bytes fault → IsRefused files bytes fault
refused files bytes fault bad other pages f = no_fault files bytes fault pages other bad f

-- A file that is not opened has no pages.
pub not_opened : {A E : Type 0} (r : Result A E) (e : E) (P : A → Type 0) → IsErrAnd r (λ y. y ≡ e) → IfOk r P
not_opened (Ok x) e P given = absurd given
not_opened (Err y) e P given = tt

-- The pages that an opened file has are those of the file.
abbrev HasFilePages : List NamedBytes → List ℕ → OpenedFile → Type 0
HasFilePages files bytes dvi = IsFile (file_widths files) bytes dvi.pages

exactly : (files : List NamedBytes) (bytes : List ℕ) (result : Result OpenedFile DviFault) (pages : List MarkedPage) → IfOk result (HasFilePages files bytes) → IfErr result (IsDviFault files bytes)
    → IsFile (file_widths files) bytes pages → GivesPages pages result
exactly files bytes (Ok dvi) pages read bad f = one_list_of_pages (file_widths files) bytes dvi.pages pages read f
exactly files bytes (Err faults.OutOfMemory) pages read bad f = refl
exactly files bytes (Err fault) pages read bad f = absurd (no_fault files bytes fault pages (λ e. absurd cc) bad f)

pub exact_open : (files : List NamedBytes) (bytes : List ℕ) (result : Result OpenedFile DviFault) → IfOk result (HasFilePages files bytes) → IfErr result (IsDviFault files bytes) → IsExact files bytes result
exact_open files bytes result read bad = λ pages f. exactly files bytes result pages read bad f

-- The same where a fault is handed on.
pub exact_refused : (files : List NamedBytes) (bytes : List ℕ) (result : Result OpenedFile DviFault) (fault : DviFault) → IsErrAnd result (λ y. y ≡ fault) → IsDviFault files bytes fault → IsExact files bytes result
exact_refused files bytes result fault is bad =
    exact_open files bytes result (not_opened result fault (HasFilePages files bytes) is) (handed_on (IsDviFault files bytes) result fault is bad)

-- A fault of the pages.
pub walk_refused : (files : List NamedBytes) (after_post : List ℤ) (bytes : List ℕ) (post after last : ℕ) (postamble : Postamble) (chain : List ℕ)
    (from : ℕ) → StartsAt bytes post after last postamble chain from
    → AreAfterPost bytes after (last - 5) after_post → (fault : DviFault) → IsWalkFault files after_post bytes postamble chain post fault
    → IsDviFault files bytes fault
walk_refused files after_post bytes post after last postamble chain from starts numbers fault broken =
    InThePages post after last postamble chain from after_post starts numbers broken
    (strays files after_post bytes post after last postamble chain fault starts.chained.framed broken)

-- A fault after post.
pub tail_refused : (bytes : List ℕ) (post after last : ℕ) (p : PassStateView) (left : PlacesLeft) (pages : List MarkedPage) (known new : List Definition) (fault : FrameFault) → PagesHaveEnded p left pages
    → IsClosingFault bytes after (last - 5) known new fault → IsFinishFault bytes post after last p left known (of_frame fault)
tail_refused bytes post after last p left pages known new frames.OutOfMemory ended wants = (pages, ended, new, wants)
tail_refused bytes post after last p left pages known new (frames.Bad fault) ended broken = inr (pages, ended, new, broken)
