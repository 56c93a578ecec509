-- The pass goes on with right instructions, and in a file each instruction is right.
use Rattle.std.proofs.Common.{◌≡◌, ◌≤◌, ◌<◌, ◌+◌, ◌-◌, ◌++◌, min, [], ◌∷◌, true, false, List, length, reverse, take, drop, ℕ, ℤ, Option, Some, None, refl, sym, ◌∙◌, ap, ap₂, subst, append_assoc, append-nil, length-append, arith}
use Rattle.std.proofs.lemmas.List.{take-append-drop, take-take, take_at, length-drop, length-take-le}
use Rattle.std.specs.Prelude.{IsSome}
use Rattle.std.specs.List.{AllByRecursion}
use Rattle.dvi_ops.specs.Instruction.{Definition, FontNum, Instruction, Do, Postamble, Pre}
use Rattle.dvi_ops.specs.Table.{Spells}
use Rattle.dvi_ops.specs.Body.{Acts, instruction_acts, bounded_acts}
use Rattle.dvi_ops.specs.Tokens.{Token, IsSpelled, token_instructions, token_bytes, bop_place, places}
use Rattle.dvi_ops.specs.Fonts.{WidthsByName, FontsAreRight, IsRightAfter, first_definition_of, definitions_in, definitions, widths_in, known_after, selection_of, selections, widths_of}
use Rattle.dvi_ops.specs.File.{MarkedPage, AreUnits, max_pushes}
use Rattle.scaled_core.proofs.EachOf.{all_append, all_front, all_back, all_weaker}
use Rattle.dvi_ops.proofs.Appends.{says-append, written-append, places-append, fonts_append, fonts_front, fonts_back, definitions-append, selections-append}
use Rattle.dvi_ops.proofs.Frames.{begins, not_empty, one_list}
use Rattle.dvi_scan.specs.Known.{HasSame}
use Rattle.dvi_scan.specs.Pass.{PassStateView, Between, execute, then_pass, passes}
use Rattle.dvi_scan.specs.Passed.{file_framing, IsPassed}
use Rattle.dvi_scan.specs.Reached.{AreNumbersOf, HasRight, HasWidths, IsDefined, IsReached, IsRightAt, IsTail, PlacesLeft, ReadSoFar, all_left, before_pages, after_bops, has_number}
use Rattle.dvi_scan.proofs.FontLemmas.{SameNow, all_more_widths, all_same_widths, defined_more, same_passes, same_turn, some_definition}
use Rattle.dvi_scan.proofs.KnownLemmas.{fonts_same, same_after, same_right, same_self, same_sym}
use Rattle.dvi_scan.proofs.LeftLemmas.{after_bops-append, bops_met, none_missed}
use Rattle.dvi_scan.proofs.PartLemmas.{passes-append}

-- A list before two more, cut at a place.
pub take_next : (bytes : List ℕ) (at next : ℕ) → at ≤ next → next ≤ length bytes → take next bytes ≡ take at bytes ++ take (next - at) (drop at bytes)
take_next bytes at next low high =
    let size : length (take at bytes ++ take (next - at) (drop at bytes)) ≡ next =
    length-append (take at bytes) (take (next - at) (drop at bytes)) ∙ (let one = length-take-le at bytes (omega arith) in let rest = length-drop at bytes in let two = length-take-le (next - at) (drop at bytes) (omega arith) in omega arith) in
    let whole : bytes ≡ (take at bytes ++ take (next - at) (drop at bytes)) ++ drop (next - at) (drop at bytes) =
    sym (append_assoc (take at bytes) (take (next - at) (drop at bytes)) (drop (next - at) (drop at bytes))
    ∙ (ap (λ (x : List ℕ). take at bytes ++ x) (take-append-drop (next - at) (drop at bytes)) ∙ take-append-drop at bytes)) in
    ap (λ (x : List ℕ). take next x) whole ∙ take_at (take at bytes ++ take (next - at) (drop at bytes)) (drop (next - at) (drop at bytes)) next size

abbrev pub token : Instruction → List ℕ → Token
token i bytes = record { says = i; bytes = bytes }

-- The definitions and selections with one more instruction.
definitions_more : (is : List Instruction) (i : Instruction) → definitions (is ++ i ∷ []) ≡ definitions is ++ definitions_in i
definitions_more is i = definitions-append is (i ∷ []) ∙ ap (λ (ds : List Definition). definitions is ++ ds) (append-nil (definitions_in i))

selections_more : (is : List Instruction) (i : Instruction) → selections (is ++ i ∷ []) ≡ selections is ++ selection_of i
selections_more is i = selections-append is (i ∷ []) ∙ ap (λ (fs : List ℤ). selections is ++ fs) (append-nil (selection_of i))

-- The definitions in order are the known ones, which have the last one first.
same_order : (is : List Instruction) (known : List Definition) → definitions is ≡ known → HasSame known (known_after [] is)
same_order is known e = subst (λ (ds : List Definition). HasSame ds (known_after [] is)) e (same_after [] [] is (same_self []))

-- No page is open between pages, so no font is selected there.
none_now : (v w : List Definition) (metrics : WidthsByName) → SameNow (widths_of metrics v) (widths_of metrics w) (Between [])
none_now v w metrics f e = absurd cc

module _ (metrics : WidthsByName) (after_post : List ℤ) (bytes : List ℕ) (postamble : Postamble) (chain : List ℕ) where
  -- More definitions do not change what was passed.
  pub passed_more : (at : ℕ) (s : ReadSoFar) (r : IsReached metrics after_post bytes postamble chain at s) (ds : List Definition)
      → (passes (bounded_acts (instruction_acts (widths_of metrics (s.known ++ ds)))) (min max_pushes postamble.stack_depth) r.body (Between [])
      ≡ Some s.pass) × SameNow (widths_of metrics s.known) (widths_of metrics (s.known ++ ds)) s.pass
  passed_more at s r ds =
      let body : selections r.body ≡ s.selected = sym (ap (λ (is : List Instruction). selections is) r.front_is) ∙ r.selected_is in
      same_passes (widths_of metrics s.known) (widths_of metrics (s.known ++ ds)) (min max_pushes postamble.stack_depth) r.body (Between []) s.pass
      (none_now s.known (s.known ++ ds) metrics)
      (all_same_widths metrics s.known ds (selections r.body) (subst (AllByRecursion (HasWidths metrics s.known)) (sym body) r.closing)) r.passed

  -- One more instruction.
  pub reached_next : (at next : ℕ) (s t : ReadSoFar) (i : Instruction) → at ≤ next → next ≤ length bytes
      → IsReached metrics after_post bytes postamble chain at s
      → Spells i (take (next - at) (drop at bytes)) → IsRightAt metrics after_post postamble at s i t
      → IsReached metrics after_post bytes postamble chain next t
  reached_next at next s t i low high r spelled right =
      let one = token i (take (next - at) (drop at bytes)) in
      let says_more : token_instructions (r.before ++ one ∷ []) ≡ token_instructions r.before ++ i ∷ [] = says-append r.before (one ∷ []) in
      let size : length (token_bytes r.before) ≡ at = ap (λ (x : List ℕ). length x) (r.whole) ∙ length-take-le at bytes (omega arith) in
      let bops_are : places 0 (r.before ++ one ∷ []) ≡ places 0 r.before ++ bop_place at i =
      places-append 0 r.before (one ∷ [])
      ∙ (ap (λ (n : ℕ). places 0 r.before ++ places n (one ∷ [])) (ap (λ (n : ℕ). 0 + n) size ∙ zero_first at)
      ∙ ap (λ (ns : List ℕ). places 0 r.before ++ ns) (append-nil (bop_place at i))) in
      let (before, now) = passed_more at s r (definitions_in i) in
      let known : s.known ++ definitions_in i ≡ t.known = sym right.known_is in
      let selected : s.selected ++ selection_of i ≡ t.selected = sym right.selected_is in
      let turned : execute (bounded_acts (instruction_acts (widths_of metrics (s.known ++ definitions_in i)))) (min max_pushes postamble.stack_depth)
      i s.pass ≡ Some t.pass =
      sym (same_turn (widths_of metrics s.known) (widths_of metrics (s.known ++ definitions_in i)) (min max_pushes postamble.stack_depth) i s.pass
      now) ∙ right.goes_on in
      let goes_on : passes (bounded_acts (instruction_acts (widths_of metrics (s.known ++ definitions_in i)))) (min max_pushes postamble.stack_depth)
      (r.body ++ i ∷ []) (Between []) ≡ Some t.pass =
      passes-append (bounded_acts (instruction_acts (widths_of metrics (s.known ++ definitions_in i)))) (min max_pushes postamble.stack_depth) r.body
      (i ∷ []) (Between []) s.pass before ∙ ap (then_pass (λ p. Some p)) turned in
      let closing : AllByRecursion (HasWidths metrics (s.known ++ definitions_in i)) (s.selected ++ selection_of i) =
      all_append (HasWidths metrics (s.known ++ definitions_in i)) s.selected (selection_of i) (all_more_widths metrics s.known (definitions_in i) s.selected r.closing)
      (all_more_widths metrics s.known (definitions_in i) (selection_of i) right.closing) in
      let closed = subst (λ (fs : List ℤ). AllByRecursion (HasWidths metrics (s.known ++ definitions_in i)) fs) selected closing in
      let first = same_right s.known (known_after [] (token_instructions r.before)) i (same_order (token_instructions r.before) s.known r.known_is) right.fonts in
      record {
        before = r.before ++ one ∷ [];
        spelled = all_append IsSpelled r.before (one ∷ []) r.spelled (spelled, tt);
        whole = written-append r.before (one ∷ []) ∙ (ap₂ (λ (x y : List ℕ). x ++ y) r.whole (append-nil (take (next - at) (drop at bytes))) ∙ sym (take_next bytes at next low high));
        comment = r.comment;
        body = r.body ++ i ∷ [];
        front_is = says_more ∙ ap (λ (is : List Instruction). is ++ i ∷ []) r.front_is;
        known_is = ap (λ (is : List Instruction). definitions is) says_more ∙ (definitions_more (token_instructions r.before) i ∙ (ap (λ (ds : List Definition). ds ++ definitions_in i) r.known_is ∙ known));
        selected_is = ap (λ (is : List Instruction). selections is) says_more ∙ (selections_more (token_instructions r.before) i ∙ (ap (λ (fs : List ℤ). fs ++ selection_of i) r.selected_is ∙ selected));
        passed = subst (λ (ds : List Definition). passes (bounded_acts (instruction_acts (widths_of metrics ds)))
            (min max_pushes postamble.stack_depth) (r.body ++ i ∷ []) (Between []) ≡ Some t.pass) known goes_on;
        bops = ap (λ (ns : List ℕ). after_bops ns (all_left chain)) bops_are ∙ (after_bops-append (places 0 r.before) (bop_place at i) (all_left chain) s.left r.bops ∙ right.bop);
        fonts = subst (λ (is : List Instruction). FontsAreRight [] is) (sym says_more) (fonts_append [] (token_instructions r.before) (i ∷ []) r.fonts (first, tt));
        closing = subst (λ (ds : List Definition). AllByRecursion (HasWidths metrics ds) t.selected) known closed;
        named = subst (AllByRecursion (λ f. has_number after_post f ≡ true)) selected
            (all_append (λ f. has_number after_post f ≡ true) s.selected (selection_of i) r.named right.named);
      }
    where
      zero_first : (n : ℕ) → 0 + n ≡ n
      zero_first n = omega arith

  -- The preamble.
  pub reached_first : (next : ℕ) (comment : List ℕ) → next ≤ length bytes → Spells (Pre 2 postamble.units comment) (take next bytes)
      → IsReached metrics after_post bytes postamble chain next (before_pages chain)
  reached_first next comment high spelled =
      record {
        before = token (Pre 2 postamble.units comment) (take next bytes) ∷ [];
        spelled = (spelled, tt);
        whole = append-nil (take next bytes);
        comment = comment;
        body = [];
        front_is = refl;
        known_is = refl;
        selected_is = refl;
        passed = refl;
        bops = refl;
        fonts = (tt, tt);
        closing = tt;
        named = tt;
      }

-- Where the pass goes on, it has accepted the first instruction.
first_turn : (does : Acts) (most : ℕ) (i : Instruction) (rest : List Instruction) (p : PassStateView) (end : PassStateView) → passes does most (i ∷ rest) p ≡ Some end → (q : PassStateView) × (execute does most i p ≡ Some q)
first_turn does most i rest p end e = go (execute does most i p) e
  where
    go : (o : Option PassStateView) → then_pass (passes does most rest) o ≡ Some end → (q : PassStateView) × (o ≡ Some q)
    go None e = absurd cc
    go (Some q) e = (q, refl)

-- A font that is selected after some definitions has the same widths among more.
fewer_widths : (metrics : WidthsByName) (xs ys : List Definition) (f : ℤ) → IsDefined xs f → HasWidths metrics (xs ++ ys) f → HasWidths metrics xs f
fewer_widths metrics xs ys f some widths =
    let (d, e) = some_definition (first_definition_of f xs) some in
    subst (λ (o : Option Definition). IsSome (widths_in metrics o)) (defined_more f xs ys d e ∙ sym e) widths

selected_widths : (metrics : WidthsByName) (xs ys : List Definition) (i : Instruction) → IsRightAfter xs i → AllByRecursion (HasWidths metrics (xs ++ ys)) (selection_of i) → AllByRecursion (HasWidths metrics xs) (selection_of i)
selected_widths metrics xs ys (Do (FontNum f)) some (widths, none) = (fewer_widths metrics xs ys f some widths, tt)
selected_widths metrics xs ys i right all = tt

module _ (metrics : WidthsByName) (bytes : List ℕ) (post after last : ℕ) (postamble : Postamble) (chain : List ℕ) (pages : List MarkedPage)
    (f : IsPassed metrics bytes (file_framing post after last postamble chain) pages) (small : post ≤ length bytes)
    (after_post : List ℤ) (numbers : AreNumbersOf after_post (definitions (token_instructions f.tail))) (at : ℕ) (s : ReadSoFar) (low : at ≤ post)
    (r : IsReached metrics after_post bytes postamble chain at s) where
  -- The instructions that are still to come.
  pub record Rest : Type 0 where
    pub more : List Token
    pub front : f.front ≡ r.before ++ more
    pub spelled : AllByRecursion IsSpelled more
    pub whole : token_bytes more ≡ take (post - at) (drop at bytes)
    pub body : f.body ≡ r.body ++ token_instructions more
    pub known : definitions (token_instructions f.front) ≡ s.known ++ definitions (token_instructions more)
    pub passed : passes (bounded_acts (instruction_acts (widths_of metrics (s.known ++ definitions (token_instructions more)))))
        (min max_pushes postamble.stack_depth) (token_instructions more) s.pass ≡ Some (Between pages)
    pub now : SameNow (widths_of metrics s.known) (widths_of metrics (s.known ++ definitions (token_instructions more))) s.pass
    pub bops : s.left ≡ record { missed = false; places = places at more }

  pub rest : Rest
  rest =
      let cut : token_bytes r.before ++ take (post - at) (drop at bytes) ≡ token_bytes f.front =
      ap (λ (x : List ℕ). x ++ take (post - at) (drop at bytes)) r.whole ∙ (sym (take_next bytes at post low small) ∙ sym f.front_whole) in
      let (more, front, spelled, whole) = begins r.before f.front (take (post - at) (drop at bytes)) r.spelled f.front_spelled cut in
      let size : length (token_bytes r.before) ≡ at = ap (λ (x : List ℕ). length x) r.whole ∙ length-take-le at bytes (omega arith) in
      let all : Pre 2 postamble.units f.comment ∷ f.body ≡ Pre 2 postamble.units r.comment ∷ (r.body ++ token_instructions more) =
      sym f.front_is ∙ (ap (λ (ts : List Token). token_instructions ts) front ∙ (says-append r.before more ∙ ap (λ (is : List Instruction). is ++ token_instructions more) r.front_is)) in
      let body : f.body ≡ r.body ++ token_instructions more = cc in
      let all_places : reverse chain ≡ places 0 r.before ++ places at more =
      sym f.bops
      ∙ (ap (λ (ts : List Token). places 0 ts) front
      ∙ (places-append 0 r.before more ∙ ap (λ (n : ℕ). places 0 r.before ++ places n more) (ap (λ (n : ℕ). 0 + n) size ∙ zero_first at))) in
      let fronts : token_instructions f.front ≡ token_instructions r.before ++ token_instructions more = ap (λ (ts : List Token). token_instructions ts) front ∙ says-append r.before more in
      let known : definitions (token_instructions f.front) ≡ s.known ++ definitions (token_instructions more) =
      ap (λ (is : List Instruction). definitions is) fronts ∙ (definitions-append (token_instructions r.before) (token_instructions more) ∙ ap (λ (ds : List Definition). ds ++ definitions (token_instructions more)) r.known_is) in
      let (before, now) = passed_more metrics after_post bytes postamble chain at s r (definitions (token_instructions more)) in
      let all_passed = subst (λ (ds : List Definition). passes (bounded_acts (instruction_acts (widths_of metrics ds)))
      (min max_pushes postamble.stack_depth) f.body (Between []) ≡ Some (Between pages)) known f.passed in
      let still : Some s.left ≡ Some (record { missed = false; places = places at more }) =
      sym r.bops ∙ (ap (λ (ns : List ℕ). after_bops (places 0 r.before) (record { missed = false; places = ns })) all_places ∙ bops_met (places 0 r.before) (places at more)) in
      record {
        more = more;
        front = front;
        spelled = spelled;
        whole = whole;
        body = body;
        known = known;
        passed = sym (passes-append (bounded_acts (instruction_acts (widths_of metrics (s.known ++ definitions (token_instructions more)))))
            (min max_pushes postamble.stack_depth) r.body (token_instructions more) (Between []) s.pass before)
            ∙ (ap (λ (is : List Instruction). passes
            (bounded_acts (instruction_acts (widths_of metrics (s.known ++ definitions (token_instructions more)))))
            (min max_pushes postamble.stack_depth) is (Between [])) (sym body) ∙ all_passed);
        now = now;
        bops = cc;
      }
    where
      zero_first : (n : ℕ) → 0 + n ≡ n
      zero_first n = omega arith

  -- A right instruction is at each place before post.
  pub next_right : at < post → HasRight metrics after_post bytes postamble at post s
  unfolding rest
  next_right below = by_first rest.more rest.front rest.spelled rest.whole rest.known rest.passed rest.now rest.bops
    where
      by_first : (more : List Token) → f.front ≡ r.before ++ more → AllByRecursion IsSpelled more → token_bytes more ≡ take (post - at) (drop at bytes) → definitions (token_instructions f.front) ≡ s.known ++ definitions (token_instructions more)
          → passes (bounded_acts (instruction_acts (widths_of metrics (s.known ++ definitions (token_instructions more)))))
          (min max_pushes postamble.stack_depth) (token_instructions more) s.pass ≡ Some (Between pages)
          → SameNow (widths_of metrics s.known) (widths_of metrics (s.known ++ definitions (token_instructions more))) s.pass → s.left ≡ record { missed = false; places = places at more }
          → HasRight metrics after_post bytes postamble at post s
      by_first [] front spelled whole known passed now bops =
          let none : 0 ≡ length (take (post - at) (drop at bytes)) = ap (λ (x : List ℕ). length x) whole in
          let some = length-take-le (post - at) (drop at bytes) (omega (arith, length-drop at bytes)) in
          absurd (omega arith)
      by_first (t ∷ more) front (here, spelled) whole known passed now bops =
          let size : length t.bytes + length (token_bytes more) ≡ post - at =
          sym (length-append t.bytes (token_bytes more)) ∙ (ap (λ (x : List ℕ). length x) whole ∙ length-take-le (post - at) (drop at bytes) (omega (arith, length-drop at bytes))) in
          let cut : take (length t.bytes) (drop at bytes) ≡ t.bytes =
          sym (take-take (length t.bytes) (post - at) (drop at bytes) (omega arith)) ∙ (ap (λ (x : List ℕ). take (length t.bytes) x) (sym whole) ∙ take_at t.bytes (token_bytes more) (length t.bytes) refl) in
          let span : at + length t.bytes - at ≡ length t.bytes = omega arith in
          let all_known : List Definition = s.known ++ definitions (t.says ∷ token_instructions more) in
          let (q, turned) = first_turn (bounded_acts (instruction_acts (widths_of metrics all_known))) (min max_pushes postamble.stack_depth) t.says
          (token_instructions more) s.pass (Between pages) passed in
          let goes_on = same_turn (widths_of metrics s.known) (widths_of metrics all_known) (min max_pushes postamble.stack_depth) t.says s.pass
          now ∙ turned in
          let fronts : token_instructions f.front ≡ token_instructions r.before ++ (t.says ∷ token_instructions more) = ap (λ (ts : List Token). token_instructions ts) front ∙ says-append r.before (t ∷ more) in
          let fonts = fonts_back [] (token_instructions r.before) (t.says ∷ token_instructions more) (subst (λ (is : List Instruction). FontsAreRight [] is) fronts (fonts_front [] (token_instructions f.front) (token_instructions f.tail) f.fonts)) in
          let all_selected : selections (token_instructions f.front) ≡ selections (token_instructions r.before) ++ (selection_of t.says ++ selections (token_instructions more)) =
          ap (λ (is : List Instruction). selections is) fronts ∙ selections-append (token_instructions r.before) (t.says ∷ token_instructions more) in
          let widths = subst (λ (ds : List Definition). AllByRecursion (HasWidths metrics ds) (selection_of t.says)) known (here_of (HasWidths metrics (definitions (token_instructions f.front))) t.says more all_selected f.closing) in
          let right = same_right (known_after [] (token_instructions r.before)) s.known t.says (same_sym s.known (known_after [] (token_instructions r.before)) (same_order (token_instructions r.before) s.known r.known_is)) fonts.0 in
          record {
            next = at + length t.bytes;
            forward = some_bytes t here;
            within = omega arith;
            here = t.says;
            spelled = subst (λ (x : List ℕ). Spells t.says x) (sym (ap (λ (n : ℕ). take n (drop at bytes)) span ∙ cut)) here;
            new = record {
              pass = q;
              known = s.known ++ definitions_in t.says;
              selected = s.selected ++ selection_of t.says;
              left = record { missed = false; places = places (at + length t.bytes) more };
            };
            right = record {
              goes_on = goes_on;
              bop = ap (after_bops (bop_place at t.says)) bops ∙ bops_met (bop_place at t.says) (places (at + length t.bytes) more);
              fonts = right;
              known_is = refl;
              selected_is = refl;
              closing = selected_widths metrics s.known (definitions (t.says ∷ token_instructions more)) t.says right widths;
              named = all_weaker (IsDefined (definitions (token_instructions f.tail))) (λ f. has_number after_post f ≡ true) (selection_of t.says)
                  (λ f some. numbers f ∙ some) (here_of (IsDefined (definitions (token_instructions f.tail))) t.says more all_selected f.named);
            };
          }
        where
          here_of : (P : ℤ → Type 0) (i : Instruction) (more : List Token) → selections (token_instructions f.front) ≡ selections (token_instructions r.before) ++ (selection_of i ++ selections (token_instructions more))
              → AllByRecursion P (selections (token_instructions f.front)) → AllByRecursion P (selection_of i)
          here_of P i more e all =
              all_front P (selection_of i) (selections (token_instructions more)) (all_back P (selections (token_instructions r.before)) (selection_of i ++ selections (token_instructions more)) (subst (AllByRecursion P) e all))

          some_bytes : (t : Token) → IsSpelled t → at < at + length t.bytes
          some_bytes t here = by_bytes t.bytes here
            where
              by_bytes : (b : List ℕ) → Spells t.says b → at < at + length b
              by_bytes [] here = absurd (not_empty t.says here)
              by_bytes (x ∷ b) here = omega arith

  -- At the place of post the pass is between pages, and none is still to come.
  pub end_right : at ≡ post → (s.pass ≡ Between pages) × (s.left ≡ all_left [])
  unfolding rest
  end_right same = by_first rest.more rest.spelled rest.whole rest.passed rest.bops
    where
      by_first : (more : List Token) → AllByRecursion IsSpelled more → token_bytes more ≡ take (post - at) (drop at bytes)
          → passes (bounded_acts (instruction_acts (widths_of metrics (s.known ++ definitions (token_instructions more)))))
          (min max_pushes postamble.stack_depth) (token_instructions more) s.pass ≡ Some (Between pages)
          → s.left ≡ record { missed = false; places = places at more }
          → (s.pass ≡ Between pages) × (s.left ≡ all_left [])
      by_first [] spelled whole passed bops = let e : s.pass ≡ Between pages = cc in (e, bops)
      by_first (t ∷ more) (here, spelled) whole passed bops =
          let none : take (post - at) (drop at bytes) ≡ [] = (let zero : post - at ≡ 0 = omega arith in ap (λ (n : ℕ). take n (drop at bytes)) zero) in
          absurd (by_bytes t.bytes here (whole ∙ none))
        where
          by_bytes : (b : List ℕ) → Spells t.says b → b ++ token_bytes more ≡ [] → ⊥
          by_bytes [] here e = not_empty t.says here
          by_bytes (x ∷ b) here e = cc

-- The end of the pass.
pub reached_end : (metrics : WidthsByName) (bytes : List ℕ) (post after last : ℕ) (postamble : Postamble) (chain : List ℕ) (pages : List MarkedPage)
    (after_post : List ℤ) (s : ReadSoFar) (tail : List Token) → AreUnits postamble.units
    → AreNumbersOf after_post (definitions (token_instructions tail)) → IsReached metrics after_post bytes postamble chain post s
    → s.pass ≡ Between pages → s.left ≡ all_left [] → IsTail bytes after last s.known tail
    → IsPassed metrics bytes (file_framing post after last postamble chain) pages
reached_end metrics bytes post after last postamble chain pages after_post s tail units numbers r pass_is left_is t =
    let bops = r.bops ∙ ap (λ (l : PlacesLeft). Some l) left_is in
    let order = same_order (token_instructions r.before) s.known r.known_is in
    record {
      front = r.before;
      tail = tail;
      front_spelled = r.spelled;
      tail_spelled = t.spelled;
      front_whole = r.whole;
      tail_whole = t.whole;
      comment = r.comment;
      body = r.body;
      front_is = r.front_is;
      units = units;
      passed =
          subst (λ (ds : List Definition). passes (bounded_acts (instruction_acts (widths_of metrics ds))) (min max_pushes postamble.stack_depth)
          r.body (Between []) ≡ Some (Between pages)) (sym r.known_is)
          (r.passed ∙ ap (λ (p : PassStateView). Some p) pass_is);
      bops = sym (append-nil (places 0 r.before)) ∙ (none_missed (places 0 r.before) (all_left chain) [] bops).1;
      tail_is = t.idle;
      fonts = fonts_append [] (token_instructions r.before) (token_instructions tail) r.fonts (fonts_same s.known (known_after [] (token_instructions r.before)) (token_instructions tail) order t.fonts);
      closing =
          subst (λ (ds : List Definition). AllByRecursion (HasWidths metrics ds) (selections (token_instructions r.before))) (sym r.known_is)
          (subst (AllByRecursion (HasWidths metrics s.known)) (sym r.selected_is) r.closing);
      named =
          all_weaker (λ f. has_number after_post f ≡ true) (IsDefined (definitions (token_instructions tail)))
          (selections (token_instructions r.before)) (λ f has. sym (numbers f) ∙ has)
          (subst (AllByRecursion (λ f. has_number after_post f ≡ true)) (sym r.selected_is) r.named);
    }

-- The tail of a file, after the fonts that are known at the place of post.
pub tail_right : (metrics : WidthsByName) (bytes : List ℕ) (post after last : ℕ) (postamble : Postamble) (chain : List ℕ) (pages : List MarkedPage)
    (f : IsPassed metrics bytes (file_framing post after last postamble chain) pages)
    → post ≤ length bytes → (after_post : List ℤ) (s : ReadSoFar) → IsReached metrics after_post bytes postamble chain post s
    → IsTail bytes after last s.known f.tail
tail_right metrics bytes post after last postamble chain pages f small after_post s r =
    let same : f.front ≡ r.before = one_list f.front r.before f.front_spelled r.spelled (f.front_whole ∙ sym r.whole) in
    let fonts = fonts_back [] (token_instructions f.front) (token_instructions f.tail) f.fonts in
    let before = subst (λ (ts : List Token). FontsAreRight (known_after [] (token_instructions ts)) (token_instructions f.tail)) same fonts in
    let order = same_sym s.known (known_after [] (token_instructions r.before)) (same_order (token_instructions r.before) s.known r.known_is) in
    record {
      spelled = f.tail_spelled;
      whole = f.tail_whole;
      idle = f.tail_is;
      fonts = fonts_same (known_after [] (token_instructions r.before)) s.known (token_instructions f.tail) order before;
    }
