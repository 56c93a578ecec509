-- The instructions of a checked file up to the beginning of a page, and those of the page.
use Rattle.std.proofs.Common.{◌≡◌, ◌≤◌, ◌<◌, ◌+◌, ◌-◌, ◌++◌, if◌then◌else◌, [], ◌∷◌, Bool, true, false, List, drop, filter, length, map, nat_lt, reverse, slice_get, take, suc, ℕ, ℤ, IfOk, Option, Some, None, Result, Ok, Err, append-nil, append_assoc, arith, length-append, refl, sym, ◌∙◌, ap, ap₂, subst}
use Rattle.std.proofs.lemmas.Bool.{ltb-false, ltb-true}
use Rattle.scaled_core.specs.Mark.{Mark}
use Rattle.scaled_core.proofs.EachOf.{all_front}
use Rattle.dvi_ops.specs.Body.{Position, DviState, Meaning, Acts, instruction_acts, bounded_acts, start}
use Rattle.dvi_ops.specs.File.{MarkedPage}
use Rattle.dvi_ops.specs.Fonts.{selection_of, selections}
use Rattle.dvi_ops.specs.Instruction.{Nop, FontDef, Instruction, Do, Push, Pop, Bop, Eop}
use Rattle.dvi_ops.specs.Table.{Spells}
use Rattle.dvi_ops.specs.Tokens.{Token, token_instructions}
use Rattle.dvi_scan.proofs.ReachedLemmas.{token}
use Rattle.dvi_scan.specs.Ends.{IsSpelledAt}
use Rattle.dvi_scan.specs.Pass.{PassStateView, Between, Inside, execute, passes, then_pass, with_marks}
use Rattle.dvi_scan.specs.View.{spot_position, dvi_state, marked_page}
use Rattle.dvi_scan.specs.declared.executing.OpenPage.{OpenPage}
use Rattle.dvi_scan.specs.declared.page.Position.{Position as Spot}
use Rattle.dvi_scan.specs.declared.page.Page.{Page}
use Rattle.dvi_read.specs.PageMarks.{read_width, rules_alone}
use Rattle.dvi_read.specs.ReadFonts.{FontIsRead}
use Rattle.dvi_read.specs.Private.OnePage.{HasRestAt, ShowsKept, is_kept}
use Rattle.dvi_read.specs.Private.ShownPages.{ShowsPages}
use Rattle.dvi_read.specs.ItemsLeft.{HasRest, pass_with}
use Rattle.dvi_read.specs.Steps.{FontsAreRead}
use Rattle.dvi_read.specs.declared.check.checked_file.CheckedFile.{CheckedFile}
use Rattle.dvi_read.specs.declared.fonts.ReadFonts.{ReadFonts}
use Rattle.dvi_read.specs.declared.seen_items.one_page.MarkChoice.TheVariants.{All, Rules}
use Rattle.dvi_read.proofs.SeenLemmas.{Continues, end_turn}
use Rattle.dvi_read.proofs.SeenItemLemmas.{first_read, first_split, goes_on, no_tokens, none_left, rest_after, some_there}

-- The pages that have ended.
abbrev pub pages_ended : PassStateView → List MarkedPage
pages_ended (Between pages) = pages
pages_ended (Inside pages counts marks stack s) = pages

-- The number of pages that have begun.
abbrev pub pages_begun : PassStateView → ℕ
pages_begun (Between pages) = length pages
pages_begun (Inside pages counts marks stack s) = suc (length pages)

-- The number of pages that an instruction begins.
abbrev pub begins : Instruction → ℕ
begins (Bop counts pointer) = 1
begins i = 0

-- What an instruction does to the pages: those that have ended stay, and so many more have begun.
pub record KeepsPages (more_begun : ℕ) (p q : PassStateView) : Type 0 where
  pub more : List MarkedPage
  pub ended : pages_ended q ≡ pages_ended p ++ more
  pub begun : pages_begun q ≡ more_begun + pages_begun p

none_ended : (n : ℕ) (p q r : PassStateView) → q ≡ r → pages_ended q ≡ pages_ended p → pages_begun q ≡ n + pages_begun p → KeepsPages n p r
none_ended n p q r same ended begun =
    record { more = []; ended = sym (ap pages_ended same) ∙ (ended ∙ sym (append-nil (pages_ended p))); begun = sym (ap pages_begun same) ∙ begun }

drawn_keeps : (pages : List MarkedPage) (counts : List ℤ) (marks : List Mark) (stack : List Position) (s : DviState) (m : Meaning) (q : PassStateView)
    → with_marks pages counts marks stack m ≡ Some q → KeepsPages 0 (Inside pages counts marks stack s) q
drawn_keeps pages counts marks stack s None q e = absurd cc
drawn_keeps pages counts marks stack s (Some (more, t)) q e =
    let same : Inside pages counts (marks ++ more) stack t ≡ q = cc in none_ended 0 (Inside pages counts marks stack s) (Inside pages counts (marks ++ more) stack t) q same refl (omega arith)

push_keeps : (b : Bool) (pages : List MarkedPage) (counts : List ℤ) (marks : List Mark) (stack more : List Position) (s : DviState) (q : PassStateView)
    → (if b then Some (Inside pages counts marks more s) else None) ≡ Some q → KeepsPages 0 (Inside pages counts marks stack s) q
push_keeps true pages counts marks stack more s q e =
    let same : Inside pages counts marks more s ≡ q = cc in none_ended 0 (Inside pages counts marks stack s) (Inside pages counts marks more s) q same refl (omega arith)
push_keeps false pages counts marks stack more s q e = absurd cc

pub turn_keeps : (does : Acts) (most : ℕ) (i : Instruction) (p q : PassStateView) → execute does most i p ≡ Some q → KeepsPages (begins i) p q
turn_keeps does most (Do Nop) (Between pages) q e = let same : Between pages ≡ q = cc in none_ended 0 (Between pages) (Between pages) q same refl (omega arith)
turn_keeps does most (Do (FontDef d)) (Between pages) q e = let same : Between pages ≡ q = cc in none_ended 0 (Between pages) (Between pages) q same refl (omega arith)
turn_keeps does most (Bop counts pointer) (Between pages) q e =
    let same : Inside pages counts [] [] start ≡ q = cc in none_ended 1 (Between pages) (Inside pages counts [] [] start) q same refl (omega arith)
turn_keeps does most i (Between pages) q e = absurd cc
turn_keeps does most (Do leaf) (Inside pages counts marks stack s) q e = drawn_keeps pages counts marks stack s (does leaf s) q e
turn_keeps does most Push (Inside pages counts marks stack s) q e = push_keeps (nat_lt (length stack) most) pages counts marks stack (s.place ∷ stack) s q e
turn_keeps does most Pop (Inside pages counts marks [] s) q e = absurd cc
turn_keeps does most Pop (Inside pages counts marks (p ∷ stack) s) q e =
    let after : PassStateView = Inside pages counts marks stack (record { place = p; font = s.font }) in
    let same : after ≡ q = cc in none_ended 0 (Inside pages counts marks (p ∷ stack) s) after q same refl (omega arith)
turn_keeps does most Eop (Inside pages counts marks stack s) q e =
    let page : MarkedPage = record { counts = counts; marks = marks } in
    let is : q ≡ Between (pages ++ page ∷ []) = end_turn does most pages counts marks stack s q e in
    let size = length-append pages (page ∷ []) in
    record { more = page ∷ []; ended = ap pages_ended is; begun = ap pages_begun is ∙ (omega (arith, size)) }
turn_keeps does most i (Inside pages counts marks stack s) q e = absurd cc

-- The pages that have ended stay.
abbrev EndedStay : PassStateView → PassStateView → Type 0
EndedStay p q = (more : List MarkedPage) × (pages_ended q ≡ pages_ended p ++ more)

ended_pass : (does : Acts) (most : ℕ) (is : List Instruction) (p q : PassStateView) → passes does most is p ≡ Some q → EndedStay p q
ended_pass does most [] p q e = let same : p ≡ q = cc in ([], sym (ap pages_ended same) ∙ sym (append-nil (pages_ended p)))
ended_pass does most (i ∷ is) p q e = by_turn (execute does most i p) refl (λ r later. ended_pass does most is r q later) e
  where
    by_turn : (o : Option PassStateView) → execute does most i p ≡ o → ((r : PassStateView) → passes does most is r ≡ Some q → EndedStay r q) → then_pass (passes does most is) o ≡ Some q → EndedStay p q
    by_turn None turn later e = absurd cc
    by_turn (Some r) turn later e =
        let keeps = turn_keeps does most i p r turn in
        let (more, rest) = later r e in (keeps.more ++ more, rest ∙ (ap (λ (ps : List MarkedPage). ps ++ more) keeps.ended ∙ append_assoc (pages_ended p) keeps.more more))

-- The instruction of the first of some tokens.
first_says : (t u : Token) (ts us : List Token) → t ∷ ts ≡ u ∷ us → t.says ≡ u.says
first_says t u ts us e = cc

-- A bop begins a page, where none is open.
bop_turn : (does : Acts) (most : ℕ) (counts : List ℤ) (pointer : ℤ) (p q : PassStateView) → execute does most (Bop counts pointer) p ≡ Some q
    → (before : List MarkedPage) × (p ≡ Between before) × (q ≡ Inside before counts [] [] start)
bop_turn does most counts pointer (Between pages) q e = (pages, refl, cc)
bop_turn does most counts pointer (Inside pages found marks stack s) q e = absurd cc

-- A bop is at a place, where a page with this index begins.
pub record IsAtBop (file : CheckedFile) (pages : List MarkedPage) (index place : ℕ) : Type 0 where
  pub here : PassStateView
  pub count : pages_begun here ≡ index
  pub rest : HasRestAt file place here pages
  pub counts : List ℤ
  pub pointer : ℤ
  pub bytes : List ℕ
  pub later : List Token
  pub first : rest.rest ≡ token (Bop counts pointer) bytes ∷ later

module _ (file : CheckedFile) (pages : List MarkedPage) (index place : ℕ) (bop : IsAtBop file pages index place) where
  -- An instruction is there.
  pub bop_there : ((i : Instruction) → IsSpelledAt file.bytes.now place file.post i → ⊥) → ⊥
  bop_there none = by_size (nat_lt place file.post) refl
    where
      by_size : (b : Bool) → nat_lt place file.post ≡ b → ⊥
      by_size true is = some_there file.bytes.now place file.post file.most file.fonts bop.here pages (ltb-true place file.post is) bop.rest none
      by_size false is =
          let nothing = no_tokens file.bytes.now place file.post file.most file.fonts bop.here pages (ltb-false place file.post is) bop.rest in
          let both : token (Bop bop.counts bop.pointer) bop.bytes ∷ bop.later ≡ [] = sym bop.first ∙ nothing in cc

  module _ (i : Instruction) (next : ℕ) (forward : place < next) (within : next ≤ file.post) (spelled : Spells i (take (next - place) (drop place file.bytes.now))) where
    -- It is the bop.
    pub bop_is : i ≡ Bop bop.counts bop.pointer
    bop_is =
        let (more, same, more_spelled, more_whole) = first_split file.bytes.now place file.post file.most file.fonts bop.here pages i next forward within spelled bop.rest in
        let both : token i (take (next - place) (drop place file.bytes.now)) ∷ more ≡ token (Bop bop.counts bop.pointer) bop.bytes ∷ bop.later = sym same ∙ bop.first in
        first_says _ _ more bop.later both

    -- The page begins with it.
    pub page_begins : (counts : List ℤ) (pointer : ℤ) → i ≡ Bop counts pointer → (earlier : List MarkedPage) × (length earlier ≡ index) × HasRestAt file next (Inside earlier counts [] [] start) pages
    page_begins counts pointer is =
        let does = bounded_acts (instruction_acts (read_width file.fonts)) in
        let read = first_read file.bytes.now place file.post file.most file.fonts bop.here pages i next forward within spelled bop.rest in
        let turned = goes_on file.bytes.now next file.post file.most file.fonts bop.here pages i read in
        let turns = subst (λ (i : Instruction). execute does file.most i bop.here ≡ Some turned.after) is turned.turns in
        let (earlier, here, after) = bop_turn does file.most counts pointer bop.here turned.after turns in
        let begun : pages_begun bop.here ≡ length earlier = ap pages_begun here in
        let rest = rest_after file.bytes.now next file.post file.most file.fonts bop.here pages i turned.after file.fonts file.fonts.current refl read turned.later in
        (earlier, sym begun ∙ bop.count, subst (λ (p : PassStateView). HasRestAt file next p pages) after rest)

-- A page that has begun, without marks and without saved places.
pub page_opened : (before : List MarkedPage) (counts : List ℤ) (places : List Spot) (s : DviState) → places ≡ [] → s ≡ start
    → Inside before counts [] [] start ≡ Inside before counts [] (reverse (map spot_position places)) s
page_opened before counts places s no_places begun =
    ap₂ (λ (ps : List Spot) (s : DviState). Inside before counts [] (reverse (map spot_position ps)) s) (sym no_places) (sym begun)

-- All marks are kept.
pub all_kept : (marks : List Mark) → filter (is_kept All) marks ≡ marks
all_kept [] = refl
all_kept (mark ∷ marks) = ap (λ (ms : List Mark). mark ∷ ms) (all_kept marks)

abbrev pub page_of : (counts : List ℤ) (marks : List Mark) → MarkedPage
page_of counts marks = record { counts = counts; marks = marks }

-- A page with all its marks is one of those that the file shows.
pub whole_page : {E : Type 0} (file : CheckedFile) (pages : List MarkedPage) (index : ℕ) (found : Result Page E) → ShowsPages file pages
    → IfOk found (λ page. (pages : List MarkedPage) → ShowsPages file pages → ShowsKept All (marked_page page) index pages)
    → IfOk found (λ page. slice_get pages index ≡ Some (marked_page page))
whole_page file pages index (Ok page) shows kept =
    let (marks, there, same) = kept pages shows in
    let all : marks ≡ (marked_page page).marks = sym (same ∙ all_kept marks) in
    there ∙ ap (λ (ms : List Mark). Some (page_of page.counts ms)) all
whole_page file pages index (Err fault) shows kept = tt

-- Or it has the rules of such a page alone.
pub page_of_rules : {E : Type 0} (file : CheckedFile) (pages : List MarkedPage) (index : ℕ) (found : Result Page E) → ShowsPages file pages
    → IfOk found (λ page. (pages : List MarkedPage) → ShowsPages file pages → ShowsKept Rules (marked_page page) index pages)
    → IfOk found (λ page. (shown : MarkedPage) × (slice_get pages index ≡ Some shown) × (marked_page page ≡ rules_alone shown))
page_of_rules file pages index (Ok page) shows kept =
    let (marks, there, same) = kept pages shows in
    (page_of page.counts marks, there, ap (λ (ms : List Mark). page_of page.counts ms) same)
page_of_rules file pages index (Err fault) shows kept = tt

-- The page after some others.
page_after : (before later : List MarkedPage) (page : MarkedPage) → slice_get (before ++ page ∷ later) (length before) ≡ Some page
page_after [] later page = refl
page_after (first ∷ before) later page = page_after before later page

-- The rest of an open page.
module _ (bytes : List ℕ) (at post most : ℕ) (fonts : ReadFonts) (before : List MarkedPage) (marks : List Mark) (page : OpenPage) (pages : List MarkedPage)
    (after_post : HasRest bytes at post most fonts [] (pass_with true before marks page) pages) where
  -- It does not end at the place of post.
  pub some_left : at < post
  some_left = by_size (nat_lt at post) refl
    where
      by_size : (b : Bool) → nat_lt at post ≡ b → at < post
      by_size true is = ltb-true at post is
      by_size false is = (let here = none_left bytes at post most fonts (pass_with true before marks page) pages (ltb-false at post is) after_post in absurd cc)

  module _ (i : Instruction) (next : ℕ) (forward : at < next) (within : next ≤ post) (spelled : Spells i (take (next - at) (drop at bytes))) where
    pub read_here : HasRest bytes next post most fonts (i ∷ []) (pass_with true before marks page) pages
    read_here = first_read bytes at post most fonts (pass_with true before marks page) pages i next forward within spelled after_post

    pub turned_here : Continues (bounded_acts (instruction_acts (read_width fonts))) most i (token_instructions read_here.rest) (pass_with true before marks page) (Between pages)
    turned_here = goes_on bytes next post most fonts (pass_with true before marks page) pages i read_here

    -- The font that it selects was read.
    pub fonts_read : FontsAreRead fonts (selection_of i)
    fonts_read = all_front (λ f. FontIsRead f fonts) (selection_of i) (selections (token_instructions read_here.rest)) read_here.read

    -- The page goes on after it, with the marks that it made.
    pub rest_drawn : (new : OpenPage) (made : List Mark)
        → ((pages : List MarkedPage) (marks : List Mark) (after : PassStateView)
        → execute (bounded_acts (instruction_acts (read_width fonts))) most i (pass_with true pages marks page) ≡ Some after → after ≡ pass_with true pages (marks ++ made) new)
        → HasRest bytes next post most fonts [] (pass_with true before (marks ++ made) new) pages
    rest_drawn new made draws =
        subst (λ (p : PassStateView). HasRest bytes next post most fonts [] p pages) (draws before marks turned_here.after turned_here.turns)
        (rest_after bytes next post most fonts (pass_with true before marks page) pages i turned_here.after fonts fonts.current refl read_here turned_here.later)

    -- The page ends with it.
    pub page_ends : i ≡ Eop → slice_get pages (length before) ≡ Some (record { counts = page.counts; marks = marks })
    page_ends is =
        let does = bounded_acts (instruction_acts (read_width fonts)) in
        let whole : MarkedPage = record { counts = page.counts; marks = marks } in
        let turns = subst (λ (i : Instruction). execute (bounded_acts (instruction_acts (read_width fonts))) most i (pass_with true before marks page) ≡ Some turned_here.after) is turned_here.turns in
        let after : turned_here.after ≡ Between (before ++ whole ∷ []) =
        end_turn does most before page.counts marks (reverse (map spot_position page.stack.items)) (dvi_state page.state)
        turned_here.after turns in
        let (more, stay) = ended_pass does most (token_instructions read_here.rest) turned_here.after (Between pages) turned_here.later in
        let all : pages ≡ (before ++ whole ∷ []) ++ more = stay ∙ ap (λ (p : PassStateView). pages_ended p ++ more) after in
        ap (λ (ps : List MarkedPage). slice_get ps (length before)) (all ∙ append_assoc before (whole ∷ []) more) ∙ page_after before more whole
