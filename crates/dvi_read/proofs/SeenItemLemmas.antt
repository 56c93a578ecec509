-- One instruction of a checked file: no rule is broken, no memory is refused, and what is seen of it comes next.
use Rattle.std.proofs.Common.{◌≡◌, ◌≢◌, ◌≤◌, ◌<◌, ◌+◌, ◌-◌, ◌++◌, [], ◌∷◌, Bool, true, false, List, drop, length, map, reverse, take, vec_capacity, vec_items, vec_len, zero, suc, ℕ, ℤ, Option, Some, None, Result, Err, append-nil, append_assoc, slice_index, arith, length-append, refl, sym, ◌∙◌, ap, ap₂, subst}
use Rattle.std.specs.Prelude.{IsSome, option_and_then}
use Rattle.std.specs.List.{AllByRecursion}
use Rattle.std.specs.Option.{option_map, option_to_list}
use Rattle.std.proofs.lemmas.List.{append_cancel_left, drop-drop, length-drop, length-map, length-take-le, take-take, take_at}
use Rattle.scaled_core.specs.Mark.{Mark, Glyph, Rule, Special}
use Rattle.scaled_core.proofs.EachOf.{all_back, all_front}
use Rattle.dvi_ops.specs.Body.{instruction_acts, bounded_acts}
use Rattle.dvi_ops.specs.File.{MarkedPage}
use Rattle.dvi_ops.specs.Fonts.{selection_of, selections}
use Rattle.dvi_ops.specs.Instruction.{SetChar, PutChar, Xxx, Instruction, Do, Bop, Eop}
use Rattle.dvi_ops.specs.Table.{Spells}
use Rattle.dvi_ops.specs.View.{view}
use Rattle.dvi_ops.specs.declared.body_op.BodyOp.TheVariants as bodies
use Rattle.dvi_ops.specs.declared.op.Op.{Op}
use Rattle.dvi_ops.specs.declared.op.Op.TheVariants as ops
use Rattle.dvi_ops.specs.Tokens.{Token, IsSpelled, token_instructions, token_bytes}
use Rattle.dvi_ops.proofs.Frames.{begins, one_list}
use Rattle.dvi_scan.proofs.OpLemmas.{IsInBody, in_body}
use Rattle.dvi_scan.proofs.ReachedLemmas.{take_next, token}
use Rattle.dvi_scan.proofs.TurnLemmas.{broken_turn}
use Rattle.dvi_scan.proofs.WidthLemmas.{one_width}
use Rattle.dvi_scan.specs.Drawing.{constant_width}
use Rattle.dvi_scan.specs.Ends.{IsSpelledAt}
use Rattle.dvi_scan.specs.Execution.{HasPageSpace, IsAsked, TurnsPage, inside_of}
use Rattle.dvi_scan.specs.Pass.{PassStateView, Between, Inside, execute, passes}
use Rattle.dvi_scan.specs.View.{mark_of, spot_position, dvi_state}
use Rattle.dvi_scan.specs.Private.View.{marks_in}
use Rattle.dvi_scan.specs.declared.executing.OpenPage.{OpenPage}
use Rattle.dvi_scan.specs.declared.executing.PassFault.{PassFault}
use Rattle.dvi_scan.specs.declared.executing.PassFault.TheVariants.{OutOfMemory, Broken}
use Rattle.dvi_scan.specs.declared.page.DviState.{DviState as CodeState}
use Rattle.dvi_scan.specs.declared.page.Mark.{Mark as PassMark}
use Rattle.dvi_read.specs.PageMarks.{marks_of, read_width}
use Rattle.dvi_read.specs.Private.PageMarks.{marks_so_far, text_put, texts_in}
use Rattle.dvi_read.specs.Private.SeenTexts.{IsTextOf, ShowsTextOf}
use Rattle.dvi_read.specs.ReadFonts.{FontIsRead, HasCurrent, asked_width, code_in, read_font_at, width_in, with_current}
use Rattle.dvi_read.specs.Private.ReadFonts.{Chooses}
use Rattle.dvi_read.specs.Seen.{SeenItemView, Counts, Marked, seen_of, seen_so_far}
use Rattle.dvi_read.specs.ItemsLeft.{EndsText, HasRest, TextEndsAt, IsReady, IsSeenAfter, AreItemsLeft, ShowsFirst, pass_with}
use Rattle.dvi_read.specs.Steps.{FontsAreRead}
use Rattle.dvi_read.specs.declared.fonts.ReadFonts.{ReadFonts}
use Rattle.dvi_read.specs.declared.seen_items.SeenItem.{SeenItem}
use Rattle.dvi_read.specs.declared.seen_items.SeenItem.TheVariants as seen_items
use Rattle.dvi_read.specs.declared.seen_items.SeenItems.{SeenItems}
use Rattle.dvi_read.proofs.HeldLemmas.{onto, turn_onto}
use Rattle.dvi_read.proofs.MarkLemmas.{text_spelled, turn_adds}
use Rattle.dvi_read.proofs.SeenLemmas.{Continues, counts_stay, end_turn, first_turn, idle_turn, more_marks, page_seen, rest_seen}
use Rattle.dvi_read.proofs.StepLemmas.{current_next}

-- The width in the font that was selected last is that of the selected font.
pub asked_here : (fonts : ReadFonts) (c f : ℤ) → HasCurrent f fonts → asked_width fonts (Some c) ≡ read_width fonts f c
asked_here fonts c f current = sym (ap (λ (o : Option ℕ). width_in (option_and_then (read_font_at fonts) o) c) current)

pub asked_now : (fonts : ReadFonts) (i : Instruction) (pages : List MarkedPage) (page : OpenPage) → ((f : ℤ) → page.state.font ≡ Some f → HasCurrent f fonts)
    → IsAsked (read_width fonts) i (inside_of pages page) (asked_width fonts (code_in i))
asked_now fonts (Do (SetChar c)) pages page current = λ f e. asked_here fonts c f (current f e)
asked_now fonts (Do (PutChar c)) pages page current = λ f e. asked_here fonts c f (current f e)
asked_now fonts i pages page current = tt

module _ (most : ℕ) (fonts : ReadFonts) (i : Instruction) (page : OpenPage) (ready : IsReady most fonts page) where
  -- An open page without marks.
  page_alone : inside_of [] page ≡ pass_with true [] [] page
  page_alone = ap (λ (ms : List PassMark). Inside [] page.counts (map mark_of ms) (reverse (map spot_position page.stack.items))
      (dvi_state page.state)) ready.none

  -- The instruction does the same with the one width that was asked, and without the pages and the marks that were seen.
  alone_turn : execute (bounded_acts (instruction_acts (constant_width (asked_width fonts (code_in i))))) most i (inside_of [] page) ≡ execute
      (bounded_acts (instruction_acts (read_width fonts))) most i (pass_with true [] [] page)
  alone_turn =
      one_width (read_width fonts) (asked_width fonts (code_in i)) most i (inside_of [] page) (asked_now fonts i [] page ready.current)
      ∙ ap (λ (p : PassStateView). execute (bounded_acts (instruction_acts (read_width fonts))) most i p) page_alone

  turn_here : (pages : List MarkedPage) (marks : List Mark)
      → execute (bounded_acts (instruction_acts (read_width fonts))) most i (pass_with true pages marks page)
      ≡ option_map (onto pages marks) (execute (bounded_acts (instruction_acts (constant_width (asked_width fonts (code_in i))))) most i (inside_of [] page))
  turn_here pages marks =
      turn_onto (bounded_acts (instruction_acts (read_width fonts))) most i pages page.counts marks (reverse (map spot_position page.stack.items))
      (dvi_state page.state)
      ∙ ap (λ (o : Option PassStateView). option_map (onto pages marks) o) (sym alone_turn)

  -- No rule is broken where the pass goes on.
  pub never_broken : (pages : List MarkedPage) (marks : List Mark) (after : PassStateView) (fault : PassFault) (new : OpenPage)
      → execute (bounded_acts (instruction_acts (read_width fonts))) most i (pass_with true pages marks page) ≡ Some after → fault ≢ OutOfMemory
      → TurnsPage {A = Unit {0}} (instruction_acts (constant_width (asked_width fonts (code_in i)))) most i [] page new (Err fault) → ⊥
  never_broken pages marks after OutOfMemory new e other turn = other refl
  never_broken pages marks after (Broken cause) new e other turn =
      let none = broken_turn (instruction_acts (constant_width (asked_width fonts (code_in i)))) most i (inside_of [] page) cause turn.0 in
      let both : Some after ≡ None = sym e ∙ (turn_here pages marks ∙ ap (λ (o : Option PassStateView). option_map (onto pages marks) o) none) in cc

  -- The state after the instruction, with the marks that it made.
  module _ (mid : OpenPage) (turn : execute (bounded_acts (instruction_acts (constant_width (asked_width fonts (code_in i))))) most i (inside_of [] page) ≡ Some (inside_of [] mid)) where
    pub after_is : (pages : List MarkedPage) (marks : List Mark) (after : PassStateView)
        → execute (bounded_acts (instruction_acts (read_width fonts))) most i (pass_with true pages marks page) ≡ Some after
        → after ≡ pass_with true pages (marks ++ map mark_of mid.marks.items) mid
    after_is pages marks after e =
        let both : Some after ≡ Some (pass_with true pages (marks ++ map mark_of mid.marks.items) mid) =
        sym e ∙ (turn_here pages marks ∙ ap (λ (o : Option PassStateView). option_map (onto pages marks) o) turn) in cc

    -- It makes one mark at most.
    pub few_marks : length mid.marks.items ≤ 1
    few_marks =
        let adds = turn_adds (constant_width (asked_width fonts (code_in i))) most i (inside_of [] page) (inside_of [] mid) turn in
        let old : map mark_of page.marks.items ≡ [] = ap (λ (ms : List PassMark). map mark_of ms) ready.none in
        let new : map mark_of mid.marks.items ≡ adds.marks = adds.after ∙ ap (λ (ms : List Mark). ms ++ adds.marks) old in
        let size = ap (λ (ms : List Mark). length ms) new in
        let few = adds.few in
        omega (arith, length-map mid.marks.items mark_of)

    -- The font that is selected after it was selected last.
    pub current_after : (new : ReadFonts) → Chooses i fonts new → (f : ℤ) → mid.state.font ≡ Some f → HasCurrent f new
    current_after new chosen f e =
        current_next (constant_width (asked_width fonts (code_in i))) most i (inside_of [] page) (inside_of [] mid) f fonts new turn e ready.current chosen

    -- Its counts stay.
    pub counts_after : mid.counts ≡ page.counts
    counts_after =
        counts_stay (bounded_acts (instruction_acts (constant_width (asked_width fonts (code_in i))))) most i [] page.counts
        (map mark_of page.marks.items) (reverse (map spot_position page.stack.items)) (dvi_state page.state) (inside_of [] mid) turn

-- The one mark that was made is handed out, and none is left.
pub popped : (old new : List PassMark) (found : Option PassMark) → old ≡ new ++ option_to_list found → length old ≤ 1 → (found ≡ None → length old ≡ 0) → (map mark_of old ≡ marks_in found) × (new ≡ [])
popped old new None e few none = by_size old new (none refl) (e ∙ append-nil new)
  where
    by_size : (old new : List PassMark) → length old ≡ 0 → old ≡ new → (map mark_of old ≡ []) × (new ≡ [])
    by_size [] new size e = (refl, sym e)
    by_size (x ∷ old) new size e = absurd (omega arith)
popped old [] (Some mark) e few none = (ap (λ (ms : List PassMark). map mark_of ms) e, refl)
popped old (x ∷ new) (Some mark) e few none =
    let size : length old ≡ length ((x ∷ new) ++ (mark ∷ [])) = ap (λ (ms : List PassMark). length ms) e in absurd (more new size)
  where
    more : (new : List PassMark) → length old ≡ length ((x ∷ new) ++ (mark ∷ [])) → ⊥
    more [] size = omega arith
    more (y ∷ new) size = omega arith

-- An open page is ready again after the mark was handed out.
pub ready_again : (most : ℕ) (fonts : ReadFonts) (old mid new : OpenPage) → HasPageSpace most old → vec_capacity old.marks ≤ vec_capacity mid.marks
    → old.stack.capacity ≤ mid.stack.capacity
    → new.marks.items ≡ [] → vec_capacity new.marks ≡ vec_capacity mid.marks → new.stack.capacity ≡ mid.stack.capacity → new.state ≡ mid.state
    → ((f : ℤ) → mid.state.font ≡ Some f → HasCurrent f fonts) → IsReady most fonts new
ready_again most fonts old mid new space marks places none same_marks same_places state current =
    let size : vec_len new.marks ≡ 0 = new.marks.ok.0 ∙ ap (λ (ms : List PassMark). length ms) none in
    let mark = space.mark in
    let saved = space.places in
    record {
      none = none;
      space = record { mark = omega arith; places = omega arith };
      current = λ f e. current f (sym (ap (λ (s : CodeState). s.font) state) ∙ e);
    }

-- An instruction that selects no font.
pub none_chosen : (op : Op) (fonts : ReadFonts) → ((value : ℤ) → op ≡ ops.Body (bodies.FontNum value) → ⊥) → Chooses (view op) fonts fonts
none_chosen (ops.Body (bodies.FontNum value)) fonts other = absurd (other value refl)
none_chosen op fonts other = refl

-- An instruction that ends no page.
pub no_eop : (op : Op) → (op ≡ ops.Eop → ⊥) → view op ≢ Eop
no_eop ops.Eop other e = other refl
no_eop (ops.Body op) other e = subst IsInBody e (in_body op)
no_eop op other e = absurd cc

-- Memory was not refused.
pub no_memory : (fault : PassFault) → (◌≡◌ {A = Result Unit PassFault} (Err fault) (Err OutOfMemory) → ⊥) → fault ≢ OutOfMemory
no_memory fault other e = other (ap (λ (f : PassFault). Err f) e)

-- Where nothing was taken out, nothing was in.
pub none_held : (found : Option PassMark) (size : ℕ) → (0 < size → IsSome found) → found ≡ None → size ≡ 0
none_held found zero some e = refl
none_held found (suc size) some e =
    let nowhere : Option PassMark = None in
    let there : IsSome nowhere = subst (λ (o : Option PassMark). IsSome o) e (some (omega arith)) in cc

-- What a walk knows of the instructions that are still to come.
module _ (bytes : List ℕ) (at post most : ℕ) (fonts : ReadFonts) (here : PassStateView) (all : List MarkedPage) where
  -- An instruction is there.
  pub some_there : at < post → HasRest bytes at post most fonts [] here all → ((i : Instruction) → IsSpelledAt bytes at post i → ⊥) → ⊥
  some_there below r none = by_tokens r.rest r.spelled r.whole
    where
      by_tokens : (ts : List Token) → AllByRecursion IsSpelled ts → token_bytes ts ≡ take (post - at) (drop at bytes) → ⊥
      by_tokens [] spelled whole =
          let high = r.high in
          let size : 0 ≡ length (take (post - at) (drop at bytes)) = ap (λ (x : List ℕ). length x) whole in
          omega (arith, length-take-le (post - at) (drop at bytes) (omega (arith, length-drop at bytes)), length-drop at bytes)
      by_tokens (t ∷ ts) spelled whole =
          let high = r.high in
          let size : length (t.bytes ++ token_bytes ts) ≡ length (take (post - at) (drop at bytes)) = ap (λ (x : List ℕ). length x) whole in
          let fits : length t.bytes ≤ post - at =
          omega (arith, length-append t.bytes (token_bytes ts), length-take-le (post - at) (drop at bytes) (omega (arith, length-drop at bytes))) in
          let front : take (length t.bytes) (drop at bytes) ≡ t.bytes =
          sym (take-take (length t.bytes) (post - at) (drop at bytes) fits) ∙ (ap (λ (x : List ℕ). take (length t.bytes) x) (sym whole) ∙ take_at t.bytes (token_bytes ts) (length t.bytes) refl) in
          none t.says (length t.bytes, omega arith, subst (λ (x : List ℕ). Spells t.says x) (sym front) spelled.0)

  -- The instruction that was read is the first of them.
  pub first_split : (i : Instruction) (next : ℕ) → at < next → next ≤ post → Spells i (take (next - at) (drop at bytes)) → (r : HasRest bytes at post most fonts [] here all)
      → (more : List Token) × (r.rest ≡ token i (take (next - at) (drop at bytes)) ∷ more) × AllByRecursion IsSpelled more × (token_bytes more ≡ take (post - next) (drop next bytes))
  first_split i next forward within spelled r =
      let high = r.high in
      let front : List ℕ = take (next - at) (drop at bytes) in
      let left : List ℕ = take (post - next) (drop next bytes) in
      let one = token i front in
      let parts : take (post - at) (drop at bytes) ≡ front ++ take (post - at - (next - at)) (drop (next - at) (drop at bytes)) =
      take_next (drop at bytes) (next - at) (post - at) (omega arith) (omega (arith, length-drop at bytes)) in
      let amount : post - at - (next - at) ≡ post - next = omega arith in
      let place : at + (next - at) ≡ next = omega arith in
      let later : take (post - at - (next - at)) (drop (next - at) (drop at bytes)) ≡ left =
      ap (λ (x : List ℕ). take (post - at - (next - at)) x) (drop-drop (next - at) at bytes ∙ ap (λ (n : ℕ). drop n bytes) place) ∙ ap (λ (n : ℕ). take n (drop next bytes)) amount in
      let whole : token_bytes (one ∷ []) ++ left ≡ token_bytes r.rest =
      ap (λ (x : List ℕ). x ++ left) (append-nil front) ∙ (ap (λ (x : List ℕ). front ++ x) (sym later) ∙ (sym parts ∙ sym r.whole)) in
      begins (one ∷ []) r.rest left (spelled, tt) r.spelled whole

  pub first_read : (i : Instruction) (next : ℕ) → at < next → next ≤ post → Spells i (take (next - at) (drop at bytes)) → HasRest bytes at post most fonts [] here all
      → HasRest bytes next post most fonts (i ∷ []) here all
  first_read i next forward within spelled r =
      let (more, same, more_spelled, more_whole) = first_split i next forward within spelled r in
      record {
        low = within;
        high = r.high;
        rest = more;
        spelled = more_spelled;
        whole = more_whole;
        passed = subst (λ (ts : List Token). passes (bounded_acts (instruction_acts (read_width fonts))) most (token_instructions ts) here ≡ Some (Between all)) same r.passed;
        read = subst (λ (ts : List Token). FontsAreRead fonts (selections (token_instructions ts))) same r.read;
        codes = r.codes;
        small = r.small;
      }

  -- The pass goes on with it.
  pub goes_on : (i : Instruction) → (r : HasRest bytes at post most fonts (i ∷ []) here all) → Continues (bounded_acts (instruction_acts (read_width fonts))) most i (token_instructions r.rest) here (Between all)
  goes_on i r = first_turn (bounded_acts (instruction_acts (read_width fonts))) most i (token_instructions r.rest) here (Between all) r.passed

  -- What is known after it.
  pub rest_after : (i : Instruction) (after : PassStateView) (new : ReadFonts) (place : ℕ) → new ≡ record fonts { current = place }
      → (r : HasRest bytes at post most fonts (i ∷ []) here all) → passes (bounded_acts (instruction_acts (read_width fonts))) most (token_instructions r.rest) after ≡ Some (Between all)
      → HasRest bytes at post most new [] after all
  rest_after i after new place same r later =
      subst (λ (fonts : ReadFonts). HasRest bytes at post most fonts [] after all) (sym same)
      (record {
        low = r.low;
        high = r.high;
        rest = r.rest;
        spelled = r.spelled;
        whole = r.whole;
        passed = later;
        read = all_back (λ f. FontIsRead f fonts) (selection_of i) (selections (token_instructions r.rest)) r.read;
        codes = r.codes;
        small = r.small;
      })

  -- Nothing is left at the place of post.
  pub no_tokens : post ≤ at → (r : HasRest bytes at post most fonts [] here all) → r.rest ≡ []
  no_tokens past r =
      let low = r.low in
      let none : post - at ≡ 0 = omega arith in
      let empty : token_bytes r.rest ≡ [] = r.whole ∙ ap (λ (n : ℕ). take n (drop at bytes)) none in
      one_list r.rest [] r.spelled tt empty

  pub none_left : post ≤ at → HasRest bytes at post most fonts [] here all → here ≡ Between all
  none_left past r =
      let passed : Some here ≡ Some (Between all) = subst (λ (ts : List Token). passes (bounded_acts (instruction_acts (read_width fonts))) most (token_instructions ts) here ≡ Some (Between all)) (no_tokens past r) r.passed in cc

-- One instruction of a file.
module _ (i : Instruction) (s : SeenItems) (seen : List SeenItemView) (a : IsSeenAfter (i ∷ []) s seen) where
  abbrev pub here : PassStateView
  here = pass_with s.inside a.pages a.marks s.page

  pub turned : Continues (bounded_acts (instruction_acts (read_width s.file.now.fonts))) s.file.now.most i (token_instructions a.rest.rest) here (Between a.all)
  turned = goes_on s.file.now.bytes.now s.at s.file.now.post s.file.now.most s.file.now.fonts here a.all i a.rest

  -- What is known after it, where it shows something new.
  pub then_seen : (inside : Bool) (current : ℕ) (page : OpenPage) (pages : List MarkedPage) (marks : List Mark) (new : List SeenItemView)
      → turned.after ≡ pass_with inside pages marks page → IsReady s.file.now.most (with_current s.file.now.fonts current) page
      → seen_so_far (pass_with inside pages marks page) ≡ seen_so_far here ++ new
      → (rest : List SeenItemView) × (seen ≡ new ++ rest) × AreItemsLeft (record s { inside = inside; current = current; page = page }) rest
  then_seen inside current page pages marks new after_is ready new_is =
      let later = subst (λ (p : PassStateView). passes (bounded_acts (instruction_acts (read_width s.file.now.fonts))) s.file.now.most (token_instructions a.rest.rest) p ≡ Some (Between a.all)) after_is turned.later in
      let (rest, seen_is, rest_is) =
      rest_seen (bounded_acts (instruction_acts (read_width s.file.now.fonts))) s.file.now.most (token_instructions a.rest.rest) here
      (pass_with inside pages marks page) a.all new seen later a.seen_is new_is in (
        rest,
        seen_is,
        record {
          pages = pages;
          marks = marks;
          all = a.all;
          rest = rest_after s.file.now.bytes.now s.at s.file.now.post s.file.now.most s.file.now.fonts here a.all i
              (pass_with inside pages marks page) s.file.now.fonts s.file.now.fonts.current refl a.rest later;
          ready = ready;
          seen_is = rest_is;
        },
      )

  marks_empty : (page : OpenPage) → page.marks ≡ s.page.marks → s.page.marks.items ≡ [] → page.marks.items ≡ []
  marks_empty page same none = subst (λ v. vec_items v ≡ []) (sym same) none

  marks_space : (page : OpenPage) → page.marks ≡ s.page.marks → vec_len s.page.marks < vec_capacity s.page.marks
      → vec_len page.marks < vec_capacity page.marks
  marks_space page same space = subst (λ v. vec_len v < vec_capacity v) (sym same) space

  -- A page begins.
  pub began : (page : OpenPage) → s.inside ≡ false
      → execute (bounded_acts (instruction_acts (read_width s.file.now.fonts))) s.file.now.most i (Between a.pages) ≡ Some
      (pass_with true a.pages [] page) → page.marks ≡ s.page.marks
      → page.stack.capacity ≡ s.page.stack.capacity → page.state.font ≡ None
      → ShowsFirst seen (record s { inside = true; page = page }) (Some (seen_items.Page page.counts))
  began page outside turns marks places font =
      let closed : here ≡ Between a.pages = ap (λ (b : Bool). pass_with b a.pages a.marks s.page) outside in
      let both : Some turned.after ≡ Some (pass_with true a.pages [] page) = sym turned.turns
      ∙ (ap (λ (p : PassStateView). execute (bounded_acts (instruction_acts (read_width s.file.now.fonts))) s.file.now.most i p)
      closed ∙ turns) in
      let after_is : turned.after ≡ pass_with true a.pages [] page = cc in
      let ready = a.ready in
      let new_is : seen_so_far (Between a.pages) ++ (Counts page.counts ∷ []) ≡ seen_so_far here ++ (Counts page.counts ∷ []) = ap (λ (p : PassStateView). seen_so_far p ++ (Counts page.counts ∷ [])) (sym closed) in
      then_seen true s.current page a.pages [] (Counts page.counts ∷ []) after_is
      (record {
        none = marks_empty page marks ready.none;
        space = record {
          mark = marks_space page marks ready.space.mark;
          places = subst (λ (n : ℕ). s.file.now.most ≤ n) (sym places) ready.space.places;
        };
        current = λ f e. (let none : None ≡ Some f = sym font ∙ e in absurd cc);
      }) new_is

  -- Nothing is seen of an instruction between pages that begins no page.
  pub idled : (page : OpenPage) → s.inside ≡ false → page ≡ s.page → ((counts : List ℤ) (pointer : ℤ) → i ≢ Bop counts pointer)
      → AreItemsLeft (record s { page = page }) seen
  idled page outside same other =
      let closed : here ≡ Between a.pages = ap (λ (b : Bool). pass_with b a.pages a.marks s.page) outside in
      let turns = sym (ap (λ (p : PassStateView). execute (bounded_acts (instruction_acts (read_width s.file.now.fonts))) s.file.now.most i p) closed) ∙ turned.turns in
      let after_is : turned.after ≡ here = sym (idle_turn (bounded_acts (instruction_acts (read_width s.file.now.fonts))) s.file.now.most i a.pages turned.after other turns) ∙ sym closed in
      let (rest, seen_is, remaining) =
      then_seen s.inside s.current s.page a.pages a.marks [] after_is a.ready (sym (append-nil (seen_so_far here))) in
      subst (λ (page : OpenPage). AreItemsLeft (record s { page = page }) seen) (sym same)
      (subst (λ (ss : List SeenItemView). AreItemsLeft s ss) (sym seen_is) remaining)

  -- A page ends.
  pub ended : s.inside ≡ true → i ≡ Eop → AreItemsLeft (record s { inside = false }) seen
  ended within is =
      let stack = reverse (map spot_position s.page.stack.items) in
      let page : MarkedPage = record { counts = s.page.counts; marks = a.marks } in
      let opened : here ≡ Inside a.pages s.page.counts a.marks stack (dvi_state s.page.state) =
      ap (λ (b : Bool). pass_with b a.pages a.marks s.page) within in
      let turns : execute (bounded_acts (instruction_acts (read_width s.file.now.fonts))) s.file.now.most Eop
      (Inside a.pages s.page.counts a.marks stack (dvi_state s.page.state)) ≡ Some turned.after =
      sym (ap₂ (λ (i : Instruction) (p : PassStateView). execute (bounded_acts (instruction_acts (read_width s.file.now.fonts))) s.file.now.most i p) is opened) ∙ turned.turns in
      let after_is = end_turn (bounded_acts (instruction_acts (read_width s.file.now.fonts))) s.file.now.most a.pages s.page.counts a.marks stack
      (dvi_state s.page.state) turned.after turns in
      let new_is : seen_of (a.pages ++ page ∷ []) ≡ seen_so_far here ++ [] =
      page_seen a.pages page ∙ (sym (ap seen_so_far opened) ∙ sym (append-nil (seen_so_far here))) in
      let (rest, seen_is, remaining) = then_seen false s.current s.page (a.pages ++ page ∷ []) a.marks [] after_is a.ready new_is in
      subst (λ (ss : List SeenItemView). AreItemsLeft (record s { inside = false }) ss) (sym seen_is) remaining

  -- The text of the mark that it makes is its own.
  pub drawn_texts : (page : OpenPage) (found : Option PassMark) → s.inside ≡ true
      → ((pages : List MarkedPage) (marks : List Mark) (after : PassStateView)
      → execute (bounded_acts (instruction_acts (read_width s.file.now.fonts))) s.file.now.most i (pass_with true pages marks s.page) ≡ Some after
      → after ≡ pass_with true pages (marks ++ marks_in found) page) → texts_in (marks_in found) ≡ text_put i
  drawn_texts page found within draws =
      let opened : here ≡ pass_with true a.pages a.marks s.page = ap (λ (b : Bool). pass_with b a.pages a.marks s.page) within in
      let turns = sym (ap (λ (p : PassStateView). execute (bounded_acts (instruction_acts (read_width s.file.now.fonts))) s.file.now.most i p) opened) ∙ turned.turns in
      let adds = turn_adds (read_width s.file.now.fonts) s.file.now.most i (pass_with true a.pages a.marks s.page) turned.after turns in
      let before : List Mark = marks_of a.pages ++ a.marks in
      let whole : before ++ marks_in found ≡ before ++ adds.marks =
      append_assoc (marks_of a.pages) a.marks (marks_in found) ∙ (sym (ap marks_so_far (draws a.pages a.marks turned.after turns)) ∙ adds.after) in
      ap texts_in (append_cancel_left before (marks_in found) adds.marks whole) ∙ adds.texts

  -- The mark of an instruction comes next, if it makes one.
  pub drew : (current : ℕ) (page : OpenPage) (found shown : Option PassMark) → s.inside ≡ true → page.counts ≡ s.page.counts → IsReady s.file.now.most (with_current s.file.now.fonts current) page
      → ((pages : List MarkedPage) (marks : List Mark) (after : PassStateView)
      → execute (bounded_acts (instruction_acts (read_width s.file.now.fonts))) s.file.now.most i (pass_with true pages marks s.page) ≡ Some after
      → after ≡ pass_with true pages (marks ++ marks_in found) page) → found ≡ shown
      → ShowsFirst seen (record s { current = current; page = page }) (option_map (λ mark. seen_items.Mark mark) shown)
  drew current page found shown within counts ready draws is = by_mark shown is
    where
      opened : here ≡ pass_with true a.pages a.marks s.page
      opened = ap (λ (b : Bool). pass_with b a.pages a.marks s.page) within

      after_is : turned.after ≡ pass_with s.inside a.pages (a.marks ++ marks_in found) page
      after_is =
          draws a.pages a.marks turned.after (sym (ap (λ (p : PassStateView). execute (bounded_acts (instruction_acts (read_width s.file.now.fonts))) s.file.now.most i p) opened) ∙ turned.turns)
          ∙ ap (λ (b : Bool). pass_with b a.pages (a.marks ++ marks_in found) page) (sym within)

      new_is : seen_so_far (pass_with s.inside a.pages (a.marks ++ marks_in found) page) ≡ seen_so_far here ++ map Marked (marks_in found)
      new_is =
          ap (λ (b : Bool). seen_so_far (pass_with b a.pages (a.marks ++ marks_in found) page)) within
          ∙ (more_marks a.pages page.counts a.marks (marks_in found)
          ∙ (ap (λ (cs : List ℤ). (seen_of a.pages ++ (Counts cs ∷ map Marked a.marks)) ++ map Marked (marks_in found)) counts
          ∙ ap (λ (p : PassStateView). seen_so_far p ++ map Marked (marks_in found)) (sym opened)))

      next : (rest : List SeenItemView) × (seen ≡ map Marked (marks_in found) ++ rest)
          × AreItemsLeft (record s { current = current; page = page }) rest
      next = then_seen s.inside current page a.pages (a.marks ++ marks_in found) (map Marked (marks_in found)) after_is ready new_is

      by_mark : (o : Option PassMark) → found ≡ o
          → ShowsFirst seen (record s { current = current; page = page }) (option_map (λ mark. seen_items.Mark mark) o)
      by_mark None none =
          let (rest, seen_is, remaining) = next in
          let all : seen ≡ rest = seen_is ∙ ap (λ (o : Option PassMark). map Marked (marks_in o) ++ rest) none in
          subst (λ (ss : List SeenItemView). AreItemsLeft (record s { current = current; page = page }) ss) (sym all) remaining
      by_mark (Some mark) some =
          let (rest, seen_is, remaining) = next in (rest, seen_is ∙ ap (λ (o : Option PassMark). map Marked (marks_in o) ++ rest) some, remaining)

-- The text of a special that is shown is that of the instruction, and ends where the instruction ends.
put_is : (i : Instruction) (text : List ℕ) → text ∷ [] ≡ text_put i → i ≡ Do (Xxx text)
put_is (Do (Xxx put)) text e = cc
put_is i text e = absurd cc

seen_text : (i : Instruction) (m : Mark) → texts_in (m ∷ []) ≡ text_put i → IsTextOf i m
seen_text i (Glyph font code h v) e = tt
seen_text i (Rule h v height width) e = tt
seen_text i (Special h v text) e = put_is i text e

pub text_shown : (i : Instruction) (found shown : Option PassMark) → texts_in (marks_in found) ≡ text_put i → found ≡ shown
    → ShowsTextOf i (option_map (λ mark. seen_items.Mark mark) shown)
text_shown i found shown e is = by_mark shown (subst (λ (o : Option PassMark). texts_in (marks_in o) ≡ text_put i) is e)
  where
    by_mark : (o : Option PassMark) → texts_in (marks_in o) ≡ text_put i → ShowsTextOf i (option_map (λ mark. seen_items.Mark mark) o)
    by_mark None e = tt
    by_mark (Some mark) e = seen_text i (mark_of mark) e

pub text_ends : (bytes : List ℕ) (at next : ℕ) (i : Instruction) (shown : Option SeenItem) → ((k : ℕ) → slice_index bytes k < 256) → at < next
    → next ≤ length bytes → Spells i (take (next - at) (drop at bytes))
    → ShowsTextOf i shown → EndsText bytes next shown
text_ends bytes at next i None small forward within spelled is = tt
text_ends bytes at next i (Some (seen_items.Page counts)) small forward within spelled is = tt
text_ends bytes at next i (Some (seen_items.Mark mark)) small forward within spelled is = by_mark (mark_of mark) is
  where
    by_mark : (m : Mark) → IsTextOf i m → TextEndsAt bytes next m
    by_mark (Glyph font code h v) is = tt
    by_mark (Rule h v height width) is = tt
    by_mark (Special h v text) is =
        text_spelled bytes at next text small forward within (subst (λ (i : Instruction). Spells i (take (next - at) (drop at bytes))) is spelled)

-- At the place of post nothing is left to be seen.
pub all_seen : (s : SeenItems) (seen : List SeenItemView) → s.file.now.post ≤ s.at → AreItemsLeft s seen → (seen ≡ []) × AreItemsLeft s []
all_seen s seen past a =
    let here = pass_with s.inside a.pages a.marks s.page in
    let last = none_left s.file.now.bytes.now s.at s.file.now.post s.file.now.most s.file.now.fonts here a.all past a.rest in
    let whole : seen_of a.all ++ seen ≡ seen_of a.all ++ [] =
    sym (a.seen_is ∙ ap (λ (p : PassStateView). seen_so_far p ++ seen) last) ∙ sym (append-nil (seen_of a.all)) in
    let none : seen ≡ [] = append_cancel_left (seen_of a.all) seen [] whole in (none, subst (λ (ss : List SeenItemView). AreItemsLeft s ss) none a)

-- What is known where an instruction was read.
pub now_read : (s : SeenItems) (seen : List SeenItemView) (i : Instruction) (next : ℕ) → s.at < next → next ≤ s.file.now.post
    → Spells i (take (next - s.at) (drop s.at s.file.now.bytes.now)) → AreItemsLeft s seen
    → IsSeenAfter (i ∷ []) (record s { at = next }) seen
now_read s seen i next forward within spelled a =
    record {
      pages = a.pages;
      marks = a.marks;
      all = a.all;
      rest = first_read s.file.now.bytes.now s.at s.file.now.post s.file.now.most s.file.now.fonts (pass_with s.inside a.pages a.marks s.page) a.all i
          next forward within spelled a.rest;
      ready = a.ready;
      seen_is = a.seen_is;
    }

-- Some instruction is there before the place of post.
pub one_there : (s : SeenItems) (seen : List SeenItemView) → s.at < s.file.now.post → AreItemsLeft s seen
    → ((i : Instruction) → IsSpelledAt s.file.now.bytes.now s.at s.file.now.post i → ⊥) → ⊥
one_there s seen below a none =
    some_there s.file.now.bytes.now s.at s.file.now.post s.file.now.most s.file.now.fonts (pass_with s.inside a.pages a.marks s.page) a.all
    below a.rest none

-- In an open page the pass goes on with the instruction that was read.
pub draws_on : (i : Instruction) (s : SeenItems) (seen : List SeenItemView) → s.inside ≡ true → IsSeenAfter (i ∷ []) s seen
    → (pages : List MarkedPage) × (marks : List Mark) × (after : PassStateView)
    × (execute (bounded_acts (instruction_acts (read_width s.file.now.fonts))) s.file.now.most i (pass_with true pages marks s.page) ≡ Some after)
draws_on i s seen within a =
    let here = pass_with s.inside a.pages a.marks s.page in
    let turned = goes_on s.file.now.bytes.now s.at s.file.now.post s.file.now.most s.file.now.fonts here a.all i a.rest in
    let opened : here ≡ pass_with true a.pages a.marks s.page = ap (λ (b : Bool). pass_with b a.pages a.marks s.page) within in
    (a.pages, a.marks, turned.after, sym (ap (λ (p : PassStateView). execute (bounded_acts (instruction_acts (read_width s.file.now.fonts))) s.file.now.most i p) opened) ∙ turned.turns)

-- The font that the instruction selects was read.
pub read_first : (i : Instruction) (s : SeenItems) (seen : List SeenItemView) → IsSeenAfter (i ∷ []) s seen
    → FontsAreRead s.file.now.fonts (selection_of i)
read_first i s seen a = all_front (λ f. FontIsRead f s.file.now.fonts) (selection_of i) (selections (token_instructions a.rest.rest)) a.rest.read
