-- A file that was checked: its pages are those of the file, and the fonts that were read have the widths of the files.
use Rattle.std.proofs.Common.{◌≡◌, ◌≤◌, ◌<◌, ◌+◌, ◌*◌, ◌-◌, ◌++◌, min, [], ◌∷◌, List, drop, length, reverse, slice_index, take, ℕ, ℤ, Option, Some, append-nil, arith, refl, sym, ◌∙◌, ap, subst, inl, inr}
use Rattle.std.specs.Prelude.{IsSome, option_and_then}
use Rattle.std.proofs.lemmas.List.{length-drop, length-take-le}
use Rattle.std.specs.List.{AllByRecursion}
use Rattle.scaled_core.proofs.EachOf.{all_weaker}
use Rattle.dvi_ops.specs.Body.{instruction_acts, bounded_acts}
use Rattle.dvi_ops.specs.File.{Frame, IsFile, MarkedPage}
use Rattle.dvi_ops.specs.Fonts.{WidthsByName, definitions, selections, widths_of, width_in as width_of_font}
use Rattle.dvi_ops.specs.Instruction.{Definition, Instruction, Postamble, Pre}
use Rattle.dvi_ops.specs.Tokens.{Token, places, token_instructions, token_bytes}
use Rattle.dvi_ops.proofs.Frames.{begins}
use Rattle.dvi_ops.proofs.SameMeaning.{SameWidths}
use Rattle.dvi_scan.proofs.FontLemmas.{same_passes}
use Rattle.dvi_scan.proofs.LeftLemmas.{none_missed}
use Rattle.dvi_scan.proofs.ReachedLemmas.{take_next, token}
use Rattle.dvi_scan.specs.Closing.{ClosesTo}
use Rattle.dvi_scan.specs.Pass.{PassStateView, Between, Inside, passes}
use Rattle.dvi_scan.specs.Passed.{file_framing}
use Rattle.dvi_scan.specs.Preamble.{HasPreamble}
use Rattle.dvi_scan.specs.Reached.{IsReached, PlacesLeft, ReadSoFar, all_left}
use Rattle.dvi_read.specs.Opening.{IsDviFault}
use Rattle.dvi_read.specs.Private.OpeningParts.{HasPassed, IsFinishFault}
use Rattle.dvi_read.specs.PageMarks.{HasGlyphWidths, HasSpaceFor, IsGlyphWidth, marks_of, read_width}
use Rattle.dvi_read.specs.ReadFonts.{AreSound, FontIsRead, font_index, read_font_at, width_in}
use Rattle.dvi_read.specs.ItemsLeft.{HasRest}
use Rattle.dvi_read.specs.Steps.{FontsAreRead, known_of, places_left, pass_state_of}
use Rattle.dvi_read.specs.WalkFaults.{PagesHaveEnded}
use Rattle.dvi_read.specs.Walks.{bare, read_in}
use Rattle.dvi_read.specs.declared.fault.DviFault.{DviFault}
use Rattle.dvi_read.specs.declared.fault.DviFault.TheVariants as faults
use Rattle.dvi_read.specs.declared.fonts.ReadFonts.{ReadFonts}
use Rattle.dvi_read.specs.declared.check.walk.Walk.{Walk}
use Rattle.dvi_read.proofs.FaultLemmas.{post_within}
use Rattle.dvi_read.proofs.MarkLemmas.{least_of, least_written, more_widths, pass_bytes, pass_glyphs}
use Rattle.dvi_read.proofs.OpenLemmas.{finish_refused, fonts_read, opened}
use Rattle.dvi_read.proofs.SelectLemmas.{some_is}
use Rattle.tfm_core.specs.FileWidths.{file_widths}
use Rattle.tfm_core.specs.Fonts.{SizedFont}
use Rattle.tfm_core.specs.NamedBytes.{NamedBytes}

-- A font that was read has the widths of the files.
same_read : (metrics : WidthsByName) (table : List Definition) (fonts : ReadFonts) (f : ℤ) → AreSound metrics table fonts → FontIsRead f fonts → SameWidths (widths_of metrics table) (read_width fonts) f
same_read metrics table fonts f sound is_read c =
    let (index, at) = some_is (font_index f fonts) is_read in
    let (read, there, widths) = sound.widths f index at in
    let found : option_and_then (read_font_at fonts) (font_index f fonts) ≡ Some read = ap (λ (o : Option ℕ). option_and_then (read_font_at fonts) o) at ∙ there in
    ap (λ (o : Option (ℤ → Option ℤ)). width_of_font o c) widths ∙ sym (ap (λ (o : Option SizedFont). width_in o c) found)

-- The instructions after the preamble make the pages of the file.
pub checked_rest : (metrics : WidthsByName) (after_post : List ℤ) (bytes : List ℕ) (postamble : Postamble) (chain : List ℕ) (from post : ℕ)
    (s : ReadSoFar) (fonts : ReadFonts) (pages : List MarkedPage)
    → ((k : ℕ) → slice_index bytes k < 256) → post ≤ length bytes → HasPreamble bytes post postamble from
    → IsReached metrics after_post bytes postamble chain post s → s.pass ≡ Between pages → s.left ≡ all_left []
    → FontsAreRead fonts s.selected → AreSound metrics s.known fonts
    → (rest : HasRest bytes from post (min 1024 postamble.stack_depth) fonts [] (Between []) pages) × (places from rest.rest ≡ reverse chain)
checked_rest metrics after_post bytes postamble chain from post s fonts pages small high preamble r between none read sound =
    let within = preamble.within in
    let most : ℕ = min 1024 postamble.stack_depth in
    let front : List ℕ = take from bytes in
    let left : List ℕ = take (post - from) (drop from bytes) in
    let one = token (Pre 2 postamble.units preamble.comment) front in
    let whole : token_bytes (one ∷ []) ++ left ≡ token_bytes r.before =
    ap (λ (x : List ℕ). x ++ left) (append-nil front) ∙ (sym (take_next bytes from post within high) ∙ sym r.whole) in
    let (more, same, spelled, more_whole) = begins (one ∷ []) r.before left (preamble.spelled, tt) r.spelled whole in
    let all : Pre 2 postamble.units preamble.comment ∷ token_instructions more ≡ Pre 2 postamble.units r.comment ∷ r.body =
    sym (ap token_instructions same) ∙ r.front_is in
    let body : r.body ≡ token_instructions more = cc in
    let chosen : selections r.body ≡ s.selected = sym (ap (λ (is : List Instruction). selections is) r.front_is) ∙ r.selected_is in
    let all_read : AllByRecursion (λ f. FontIsRead f fonts) (selections r.body) = subst (λ (fs : List ℤ). AllByRecursion (λ f. FontIsRead f fonts) fs) (sym chosen) read in
    let passed =
    (same_passes (widths_of metrics s.known) (read_width fonts) most r.body (Between []) s.pass (λ f e. absurd cc)
    (all_weaker (λ f. FontIsRead f fonts) (SameWidths (widths_of metrics s.known) (read_width fonts)) (selections r.body) (λ f is_read. same_read metrics s.known fonts f sound is_read) all_read) r.passed).0 in
    let taken = length-take-le from bytes (omega (arith, within, high)) in
    let place : 0 + length front ≡ from = omega (arith, taken) in
    let all_placed : places 0 r.before ≡ places from more = ap (λ (ts : List Token). places 0 ts) same ∙ ap (λ (n : ℕ). places n more) place in
    let met : places 0 r.before ++ [] ≡ reverse chain = (none_missed (places 0 r.before) (all_left chain) [] (r.bops ∙ ap (λ (l : PlacesLeft). Some l) none)).1 in (
      record {
        low = within;
        high = high;
        rest = more;
        spelled = spelled;
        whole = more_whole;
        passed = subst (λ (is : List Instruction). passes (bounded_acts (instruction_acts (read_width fonts))) most is (Between []) ≡ Some (Between pages)) body (passed ∙ ap (λ (p : PassStateView). Some p) between);
        read = subst (λ (is : List Instruction). FontsAreRead fonts (selections is)) body all_read;
        codes = sound.codes;
        small = small;
      },
      sym all_placed ∙ (sym (append-nil (places 0 r.before)) ∙ met),
    )

-- The glyphs of the rest have widths.
read_glyph : (metrics : WidthsByName) (table : List Definition) (fonts : ReadFonts) (f c : ℤ) → AreSound metrics table fonts → FontIsRead f fonts → IsSome (read_width fonts f c) → IsGlyphWidth metrics table fonts f c
read_glyph metrics table fonts f c sound is_read some =
    let (width, is) = some_is (read_width fonts f c) some in (width, is, same_read metrics table fonts f sound is_read c ∙ is)

rest_widths : (metrics : WidthsByName) (table : List Definition) (bytes : List ℕ) (from post most : ℕ) (fonts : ReadFonts) (pages : List MarkedPage) → AreSound metrics table fonts
    → HasRest bytes from post most fonts [] (Between []) pages → HasGlyphWidths metrics table fonts (marks_of pages)
rest_widths metrics table bytes from post most fonts pages sound r =
    record {
      codes = sound.codes;
      widths = pass_glyphs (IsGlyphWidth metrics table fonts) (λ f. FontIsRead f fonts) (read_width fonts) most (token_instructions r.rest) (Between []) (Between pages)
          (λ f is_read c some. read_glyph metrics table fonts f c sound is_read some) (λ f at. absurd cc) r.read tt r.passed;
    }

-- The marks and the pages of the rest have space in the file.
pub rest_space : (bytes : List ℕ) (from post most : ℕ) (fonts : ReadFonts) (pages : List MarkedPage)
    → HasRest bytes from post most fonts [] (Between []) pages → HasSpaceFor bytes pages
rest_space bytes from post most fonts pages r =
    let takes = pass_bytes (read_width fonts) most (token_instructions r.rest) (Between []) (Between pages) r.passed in
    let low = r.low in
    let high = r.high in
    let spelled = least_written r.rest r.spelled in
    let whole : length (token_bytes r.rest) ≡ length (take (post - from) (drop from bytes)) = ap (λ (x : List ℕ). length x) r.whole in
    let left = length-drop from bytes in
    let taken = length-take-le (post - from) (drop from bytes) (omega arith) in
    let few : length (marks_of pages) ≤ 0 + least_of (token_instructions r.rest) = takes.marks in
    let pages_few : 46 * length pages ≤ 46 * 0 + least_of (token_instructions r.rest) = takes.pages in record { marks_fit = omega arith; pages_fit = omega arith }

-- Where a walk without pages and marks is between pages, so is the whole state.
pub bare_between : (p : PassStateView) (pages : List MarkedPage) → bare p ≡ Between pages → (all : List MarkedPage) × (p ≡ Between all)
bare_between (Between all) pages e = (all, refl)
bare_between (Inside all counts marks stack s) pages e = absurd cc

bare_ended : (p : PassStateView) (left : PlacesLeft) (pages : List MarkedPage) → PagesHaveEnded (bare p) left pages → (all : List MarkedPage) × PagesHaveEnded p left all
bare_ended p left pages ended = let (all, between) = bare_between p pages ended.between in (all, record { between = between; none = ended.none })

-- A fault at the place of post is one of the whole state.
pub finish_bare : (bytes : List ℕ) (post after last : ℕ) (p : PassStateView) (left : PlacesLeft) (known : List Definition) (fault : DviFault) → IsFinishFault bytes post after last (bare p) left known fault
    → IsFinishFault bytes post after last p left known fault
finish_bare bytes post after last p left known faults.OutOfMemory (pages, ended, new, wants) = let (all, done) = bare_ended p left pages ended in (all, done, new, wants)
finish_bare bytes post after last p left known (faults.Bad bad) (inl (place, inl (cause, open_page))) = inl (place, inl (cause, λ pages e. open_page [] (ap bare e)))
finish_bare bytes post after last p left known (faults.Bad bad) (inl (place, inr (cause, (pages, between), some))) = inl (place, inr (cause, bare_between p pages between, some))
finish_bare bytes post after last p left known (faults.Bad bad) (inr (pages, ended, new, broken)) = let (all, done) = bare_ended p left pages ended in inr (all, done, new, broken)
finish_bare bytes post after last p left known fault broken = absurd broken

-- A walk that has passed over a file, and has ended.
module _ (files : List NamedBytes) (bytes : List ℕ) (post after last : ℕ) (postamble : Postamble) (chain : List ℕ) (from : ℕ) (walk : Walk)
    (passed : HasPassed files bytes (file_framing post after last postamble chain) from walk) where
  pub checked_fault : (fault : DviFault) → IsFinishFault bytes post after last (pass_state_of walk) (places_left walk) (known_of walk) fault
      → IsDviFault files bytes fault
  checked_fault fault b =
      finish_refused files bytes post after last postamble chain from passed.after_post (read_in passed.pass passed.selected walk) fault passed.has
      (finish_bare bytes post after last passed.pass (places_left walk) (known_of walk) fault
      (subst (λ (p : PassStateView). IsFinishFault bytes post after last p (places_left walk) (known_of walk) fault) passed.pass_state b))

  -- The widths of the glyphs.
  pub checked_widths : (new : List Definition) (most : ℕ) (pages : List MarkedPage) → ClosesTo bytes after (last - 5) (known_of walk) new → HasRest bytes from post most walk.fonts [] (Between []) pages → (f : Frame bytes)
      → HasGlyphWidths (file_widths files) (definitions (token_instructions f.front ++ token_instructions f.tail)) walk.fonts (marks_of pages)
  checked_widths new most pages closes rest f =
      let (tail, tail_is, new_is) = closes in
      let all = fonts_read (file_widths files) passed.after_post bytes post after last postamble chain (read_in passed.pass passed.selected walk) new
      passed.has.starts.chained.framed passed.has.reached closes f in
      subst (λ (ds : List Definition). HasGlyphWidths (file_widths files) ds walk.fonts (marks_of pages)) (sym new_is ∙ all)
      (more_widths (file_widths files) (known_of walk) (definitions (token_instructions tail)) walk.fonts (marks_of pages)
      (rest_widths (file_widths files) (known_of walk) bytes from post most walk.fonts pages passed.sound rest))

  pub checked_pages : (pages : List MarkedPage) (new : List Definition) → ((k : ℕ) → slice_index bytes k < 256)
      → PagesHaveEnded (pass_state_of walk) (places_left walk) pages → ClosesTo bytes after (last - 5) (known_of walk) new
      → (all : List MarkedPage) × IsFile (file_widths files) bytes all
      × (rest : HasRest bytes from post (min 1024 postamble.stack_depth) walk.fonts [] (Between []) all) × (places from rest.rest ≡ reverse chain)
  checked_pages pages new small ended closes =
      let (all, done) = bare_ended passed.pass (places_left walk) pages
      (subst (λ (p : PassStateView). PagesHaveEnded p (places_left walk) pages) passed.pass_state ended) in
      let has = passed.has in
      let high = post_within files bytes post after last postamble chain has.starts.chained.framed in
      let (rest, placed) =
      checked_rest (file_widths files) passed.after_post bytes postamble chain from post (read_in passed.pass passed.selected walk) walk.fonts all
      small high has.starts.preamble has.reached done.between done.none passed.read passed.sound in (
        all,
        opened files bytes post after last postamble chain from passed.after_post (read_in passed.pass passed.selected walk) all new has done closes,
        rest,
        placed,
      )
