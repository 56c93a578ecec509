-- Bytes that the pass accepts are a file of its pages, and the pass accepts each file.
use Rattle.std.proofs.Common.{◌≡◌, ◌≤◌, ◌+◌, ◌-◌, ◌%◌, ◌++◌, min, [], ◌∷◌, List, length, replicate, reverse, slice_index, take, drop, drop-cons, ℕ, ℤ, suc, pos, Option, Some, refl, sym, ◌∙◌, ap, ap₂, subst, subst₂, length-append, arith}
use Rattle.std.proofs.lemmas.Grind.{same_number_lists}
use Rattle.std.proofs.lemmas.List.{take-append-drop, take_more, drop-drop, drop_at, take_at, length-drop, length-take-le, length-replicate, get_or-drop, get_or-replicate, reverse-reverse, length-reverse}
use Rattle.std.specs.Prelude.{IsSome}
use Rattle.std.specs.List.{AllByRecursion, flat_map}
use Rattle.dvi_ops.specs.Instruction.{Definition, Instruction, Postamble, Pre, Post}
use Rattle.dvi_ops.specs.Table.{Spells, signed}
use Rattle.dvi_ops.specs.Tokens.{Token, IsSpelled, token_instructions, token_bytes, places, pointers}
use Rattle.dvi_ops.specs.File.{AreUnits, Frame, IsFile, MarkedPage, instructions, max_pushes}
use Rattle.dvi_ops.specs.Fonts.{WidthsByName, FontsAreRight, first_definition_of, definitions, widths_in, selections, width_in, widths_of}
use Rattle.scaled_core.proofs.EachOf.{all_both, all_weaker}
use Rattle.dvi_ops.proofs.Appends.{fonts_front, length-places, length-pages}
use Rattle.dvi_ops.proofs.SameMeaning.{SameWidths, same_pages}
use Rattle.dvi_scan.specs.Chain.{Links}
use Rattle.dvi_scan.proofs.ChainLemmas.{says_front}
use Rattle.dvi_scan.proofs.EndLemmas.{one_end, frame_ends, frame_last}
use Rattle.dvi_scan.proofs.PlaceLemmas.{same_front}
use Rattle.dvi_scan.proofs.LinkLemmas.{one_chain}
use Rattle.dvi_scan.proofs.FaultLemmas.{chained, file_chain}
use Rattle.dvi_scan.specs.Pass.{Between, passes}
use Rattle.dvi_scan.specs.Passed.{file_framing, IsFramed, IsPassed, drawing_by}
use Rattle.dvi_scan.specs.Reached.{HasWidths, IsDefined}
use Rattle.dvi_scan.proofs.FontLemmas.{has_definition, same_definition, selected_defined}
use Rattle.dvi_scan.proofs.PartLemmas.{passes-parts, passed_parts}

-- A selected font is defined before post; where it is defined after post too, both definitions are the same.
front_tail : (front tail : List Instruction) → FontsAreRight [] (front ++ tail) → AllByRecursion (IsDefined (definitions tail)) (selections front)
    → AllByRecursion (λ f. first_definition_of f (definitions front) ≡ first_definition_of f (definitions tail)) (selections front)
front_tail front tail right named =
    all_weaker (λ (f : ℤ). IsDefined (definitions front) f × IsDefined (definitions tail) f) (λ (f : ℤ). first_definition_of f (definitions front) ≡ first_definition_of f (definitions tail)) (selections front)
    (λ f both. same_definition front tail f right both.0 both.1)
    (all_both (IsDefined (definitions front)) (IsDefined (definitions tail)) (selections front) (selected_defined front (fonts_front [] front tail right)) named)

pub front_and_tail : (metrics : WidthsByName) (front tail : List Instruction) → FontsAreRight [] (front ++ tail) → AllByRecursion (IsDefined (definitions tail)) (selections front)
    → AllByRecursion (SameWidths (widths_of metrics (definitions front)) (widths_of metrics (definitions tail))) (selections front)
front_and_tail metrics front tail right named =
    all_weaker (λ (f : ℤ). first_definition_of f (definitions front) ≡ first_definition_of f (definitions tail)) (SameWidths (widths_of metrics (definitions front)) (widths_of metrics (definitions tail))) (selections front)
    (λ f same c. ap (λ (o : Option Definition). width_in (widths_in metrics o) c) same) (front_tail front tail right named)

closed_after : (metrics : WidthsByName) (front tail : List Instruction) → FontsAreRight [] (front ++ tail) → AllByRecursion (HasWidths metrics (definitions front)) (selections front)
    → AllByRecursion (IsDefined (definitions tail)) (selections front) → AllByRecursion (HasWidths metrics (definitions tail)) (selections front)
closed_after metrics front tail right closing named =
    all_weaker (λ (f : ℤ). HasWidths metrics (definitions front) f × (first_definition_of f (definitions front) ≡ first_definition_of f (definitions tail))) (HasWidths metrics (definitions tail)) (selections front)
    (λ f both. subst (λ (o : Option Definition). IsSome (widths_in metrics o)) both.1 both.0)
    (all_both (HasWidths metrics (definitions front)) (λ (f : ℤ). first_definition_of f (definitions front) ≡ first_definition_of f (definitions tail)) (selections front) closing (front_tail front tail right named))

closed_before : (metrics : WidthsByName) (front tail : List Instruction) → FontsAreRight [] (front ++ tail) → AllByRecursion (HasWidths metrics (definitions tail)) (selections front)
    → AllByRecursion (HasWidths metrics (definitions front)) (selections front)
closed_before metrics front tail right closing =
    all_weaker (λ (f : ℤ). HasWidths metrics (definitions tail) f × (first_definition_of f (definitions front) ≡ first_definition_of f (definitions tail))) (HasWidths metrics (definitions front)) (selections front)
    (λ f both. subst (λ (o : Option Definition). IsSome (widths_in metrics o)) (sym both.1) both.0)
    (all_both (HasWidths metrics (definitions tail)) (λ (f : ℤ). first_definition_of f (definitions front) ≡ first_definition_of f (definitions tail)) (selections front) closing
    (front_tail front tail right (all_weaker (HasWidths metrics (definitions tail)) (IsDefined (definitions tail)) (selections front) (has_definition metrics (definitions tail)) closing)))

-- The places of the parts of each frame.
pub frame_parts : (bytes : List ℕ) (post after last : ℕ) (postamble : Postamble) (chain : List ℕ) → IsFramed bytes post after last postamble chain
    → (g : Frame bytes)
    → (token_bytes g.front ≡ take post bytes) × (token_bytes g.tail ≡ take (last - 5 - after) (drop after bytes))
frame_parts bytes post after last postamble chain framed g =
    let found = frame_ends bytes g in
    let (lasts, posts, nothing_idle) = one_end bytes post last (length (token_bytes g.front)) found.0 postamble g.postamble framed.ends found.1 in
    let where_last = frame_last bytes g in
    let front_whole : take post bytes ≡ token_bytes g.front = ap₂ (λ (n : ℕ) (x : List ℕ). take n x) posts g.whole ∙ take_at (token_bytes g.front) _ (length (token_bytes g.front)) refl in
    let from_post : drop post bytes ≡ g.post ++ (token_bytes g.tail ++ (g.ending ++ replicate g.padding 223)) = ap₂ (λ (n : ℕ) (x : List ℕ). drop n x) posts g.whole ∙ drop_at (token_bytes g.front) _ (length (token_bytes g.front)) refl in
    let there : take (length g.post) (drop post bytes) ≡ g.post = ap (λ (x : List ℕ). take (length g.post) x) from_post ∙ take_at g.post _ (length g.post) refl in
    let spelled = subst (λ (x : List ℕ). Spells (Post g.postamble) x) (sym there) g.post_spelled in
    let same = same_front (Post postamble) (Post g.postamble) (after - post) (length g.post) (drop post bytes) framed.spelled spelled in
    let place_after_is : after ≡ post + length g.post = sizes same.1 front_whole from_post in
    let from_after : drop after bytes ≡ token_bytes g.tail ++ (g.ending ++ replicate g.padding 223) =
    ap (λ (n : ℕ). drop n bytes) place_after_is ∙ (sym (drop-drop (length g.post) post bytes) ∙ (ap (λ (x : List ℕ). drop (length g.post) x) from_post ∙ drop_at g.post _ (length g.post) refl)) in
    let tail_size : last - 5 - after ≡ length (token_bytes g.tail) = omega arith in
    (sym front_whole, sym (ap₂ (λ (n : ℕ) (x : List ℕ). take n x) tail_size from_after ∙ take_at (token_bytes g.tail) _ (length (token_bytes g.tail)) refl))
  where
    sizes : take (after - post) (drop post bytes) ≡ take (length g.post) (drop post bytes) → take post bytes ≡ token_bytes g.front
        → drop post bytes ≡ g.post ++ (token_bytes g.tail ++ (g.ending ++ replicate g.padding 223)) → after ≡ post + length g.post
    sizes same front_whole from_post =
        let padded = framed.ends.closed.trailed.padded in
        let low = framed.low in
        let high = framed.high in
        let all = length-drop post bytes in
        let one : length (take (after - post) (drop post bytes)) ≡ after - post = length-take-le (after - post) (drop post bytes) (omega arith) in
        let whole = ap (λ (x : List ℕ). length x) from_post in
        let other : length (take (length g.post) (drop post bytes)) ≡ length g.post =
        length-take-le (length g.post) (drop post bytes) (let size = length-append g.post (token_bytes g.tail ++ (g.ending ++ replicate g.padding 223)) in omega arith) in
        let equal = ap (λ (x : List ℕ). length x) same in
        omega arith

-- In a file the first definition of a selected font before post is the first one after post.
pub one_definition : (metrics : WidthsByName) (bytes : List ℕ) (pages : List MarkedPage) (f : IsFile metrics bytes pages)
    → AllByRecursion (λ n. first_definition_of n (definitions (token_instructions f.frame.front)) ≡ first_definition_of n (definitions (token_instructions f.frame.tail))) (selections (token_instructions f.frame.front))
one_definition metrics bytes pages f =
    front_tail (token_instructions f.frame.front) (token_instructions f.frame.tail) f.fonts
    (all_weaker (HasWidths metrics (definitions (token_instructions f.frame.tail))) (IsDefined (definitions (token_instructions f.frame.tail))) (selections (token_instructions f.frame.front)) (has_definition metrics (definitions (token_instructions f.frame.tail))) f.closing)

-- The bytes after a place, cut once more.
cut_after : (bytes : List ℕ) (at n next : ℕ) → at + n ≡ next → drop at bytes ≡ take n (drop at bytes) ++ drop next bytes
cut_after bytes at n next e =
    sym (take-append-drop n (drop at bytes)) ∙ ap (λ (x : List ℕ). take n (drop at bytes) ++ x) (drop-drop n at bytes ∙ ap (λ (k : ℕ). drop k bytes) e)

module _ (bytes : List ℕ) (post after last : ℕ) (postamble : Postamble) (chain : List ℕ)
    (framed : IsFramed bytes post after last postamble chain) where
  padding : ℕ
  padding = length bytes - (last + 1)

  padded : drop (last + 1) bytes ≡ replicate padding 223
  unfolding padding
  padded =
      let trailed = framed.ends.closed.trailed in
      let space = trailed.padded in
      same_number_lists (drop (last + 1) bytes) (replicate (length bytes - (last + 1)) 223)
      (length-drop (last + 1) bytes ∙ sym (length-replicate {A = ℕ} (length bytes - (last + 1)) 223))
      (λ k below. (let size = length-drop (last + 1) bytes in
      get_or-drop (last + 1) bytes k 0 ∙ (trailed.after (last + 1 + k) (omega arith) (omega arith) ∙ sym (get_or-replicate (length bytes - (last + 1)) k 223 0 (omega arith)))))

  operand : List ℕ
  operand = take 4 (drop (last - 4) bytes)

  ending : List ℕ
  ending = take 6 (drop (last - 5) bytes)

  ending_is : ending ≡ 249 ∷ (operand ++ 2 ∷ [])
  unfolding ending operand
  ending_is =
      let trailed = framed.ends.closed.trailed in
      let space = trailed.padded in
      let five = trailed.space in
      let size = length-drop (last - 5) bytes in
      let back : last - 5 + 5 ≡ last = omega arith in
      let there : slice_index (drop (last - 5) bytes) 5 ≡ 2 = get_or-drop (last - 5) bytes 5 0 ∙ (ap (λ (k : ℕ). slice_index bytes k) back ∙ framed.ends.closed.version) in
      let first : drop (last - 5) bytes ≡ 249 ∷ drop (last - 4) bytes = first_is five space in
      take_more (drop (last - 5) bytes) 5 0 (omega arith)
      ∙ ap₂ (λ (x : List ℕ) (y : ℕ). take 5 x ++ y ∷ []) first there
    where
      first_is : 5 ≤ last → last + 5 ≤ length bytes → drop (last - 5) bytes ≡ 249 ∷ drop (last - 4) bytes
      first_is five space =
          let next : suc (last - 5) ≡ last - 4 = omega arith in
          drop-cons bytes (last - 5) 0 (omega arith)
          ∙ ap₂ (λ (x : ℕ) (k : ℕ). x ∷ drop k bytes) framed.ends.closed.opcode next

  pub frame_of : (front tail : List Token) → AllByRecursion IsSpelled front → AllByRecursion IsSpelled tail → token_bytes front ≡ take post bytes → token_bytes tail ≡ take (last - 5 - after) (drop after bytes) → Frame bytes
  unfolding ending operand padding
  frame_of front tail front_spelled tail_spelled front_whole tail_whole =
      let trailed = framed.ends.closed.trailed in
      let space = trailed.padded in
      let five = trailed.space in
      let low = framed.low in
      let high = framed.high in
      let size : length (token_bytes front) ≡ post = ap (λ (x : List ℕ). length x) front_whole ∙ length-take-le post bytes (omega arith) in
      record {
        front = front;
        post = take (after - post) (drop post bytes);
        postamble = postamble;
        tail = tail;
        ending = ending;
        padding = padding;
        whole =
            sym (take-append-drop post bytes)
            ∙ ap₂ (λ (x y : List ℕ). x ++ y) (sym front_whole)
            (cut_after bytes post (after - post) after (omega arith)
            ∙ ap (λ (x : List ℕ). take (after - post) (drop post bytes) ++ x)
            (cut_after bytes after (last - 5 - after) (last - 5) (omega arith)
            ∙ ap₂ (λ (x y : List ℕ). x ++ y) (sym tail_whole) (cut_after bytes (last - 5) 6 (last + 1) (omega arith) ∙ ap (λ (x : List ℕ). take 6 (drop (last - 5) bytes) ++ x) padded)));
        padded = omega arith;
        front_spelled = front_spelled;
        post_spelled = framed.spelled;
        tail_spelled = tail_spelled;
        ending_spelled = (
          operand,
          ending_is,
          (
            length-take-le 4 (drop (last - 4) bytes) (omega (arith, length-drop (last - 4) bytes)),
            sym (says_front (signed 4 operand) operand (drop 4 (drop (last - 4) bytes)) (length-take-le 4 (drop (last - 4) bytes) (omega (arith, length-drop (last - 4) bytes)), refl))
                ∙ (ap (λ (x : List ℕ). signed 4 x) (take-append-drop 4 (drop (last - 4) bytes)) ∙ (framed.ends.named ∙ ap (λ (n : ℕ). pos n) (sym size))),
          ),
        );
      }

  -- Bytes that were accepted are a file.
  pub passed_file : (metrics : WidthsByName) (pages : List MarkedPage) → postamble.pages ≡ length chain % 65536
      → IsPassed metrics bytes (file_framing post after last postamble chain) pages → IsFile metrics bytes pages
  unfolding frame_of
  passed_file metrics pages count p =
      let (parts, whole, shows, deep) = passed_parts (drawing_by metrics p.front) (min max_pushes postamble.stack_depth) p.body pages p.passed in
      let frame = frame_of p.front p.tail p.front_spelled p.tail_spelled p.front_whole p.tail_whole in
      let front_is : token_instructions p.front ≡ Pre 2 postamble.units p.comment ∷ flat_map instructions parts = p.front_is
      ∙ ap (λ is. Pre 2 postamble.units p.comment ∷ is) whole in
      let bops : reverse (places 0 p.front) ≡ chain = ap (λ (ns : List ℕ). reverse ns) p.bops ∙ reverse-reverse chain in
      let linked = chained bytes p.front _ post postamble.last_bop (frame.whole) p.front_spelled
      (subst (λ (c : List ℕ). Links bytes post postamble.last_bop c) (sym bops) framed.links) in
      let as_many : length chain ≡ length pages =
      sym (length-reverse chain) ∙ (ap (λ (ns : List ℕ). length ns) (sym p.bops) ∙ (length-places 0 p.front ∙ (ap (λ is. length (pointers is)) front_is ∙ length-pages (drawing_by metrics p.front) parts pages shows))) in
      record {
        frame = frame;
        comment = p.comment;
        parts = parts;
        front_is = front_is;
        tail_is = p.tail_is;
        units = p.units;
        chain = linked;
        count = count ∙ ap (λ n. n % 65536) as_many;
        fonts = p.fonts;
        closing = closed_after metrics (token_instructions p.front) (token_instructions p.tail) p.fonts p.closing p.named;
        depth = deep;
        shows =
            sym (same_pages (widths_of metrics (definitions (token_instructions p.front))) (widths_of metrics (definitions (token_instructions p.tail))) parts
            (subst (λ (is : List Instruction). AllByRecursion (SameWidths (widths_of metrics (definitions (token_instructions p.front))) (widths_of metrics (definitions (token_instructions p.tail)))) (selections is)) front_is
            (front_and_tail metrics (token_instructions p.front) (token_instructions p.tail) p.fonts p.named)))
            ∙ shows;
      }

  -- A file is accepted.
  pub file_passed : (metrics : WidthsByName) (pages : List MarkedPage) → IsFile metrics bytes pages
      → IsPassed metrics bytes (file_framing post after last postamble chain) pages
  file_passed metrics pages f =
      let g = f.frame in
      let found = frame_ends bytes g in
      let (lasts, posts, nothing_idle) = one_end bytes post last (length (token_bytes g.front)) found.0 postamble g.postamble framed.ends found.1 in
      let parts = frame_parts bytes post after last postamble chain framed g in
      let links : Links bytes post postamble.last_bop (reverse (places 0 g.front)) =
      subst₂ (λ (n : ℕ) (s : Postamble). Links bytes n s.last_bop (reverse (places 0 g.front))) (sym posts) (sym nothing_idle)
      (file_chain metrics bytes pages f) in
      let chains : chain ≡ reverse (places 0 g.front) =
      one_chain bytes post post postamble.last_bop chain (reverse (places 0 g.front)) framed.links links in
      let named = all_weaker (HasWidths metrics (definitions (token_instructions g.tail))) (IsDefined (definitions (token_instructions g.tail))) (selections (token_instructions g.front)) (has_definition metrics (definitions (token_instructions g.tail))) f.closing in
      let shows = same_pages (widths_of metrics (definitions (token_instructions g.front))) (widths_of metrics (definitions (token_instructions g.tail))) f.parts
      (subst (λ (is : List Instruction). AllByRecursion (SameWidths (widths_of metrics (definitions (token_instructions g.front))) (widths_of metrics (definitions (token_instructions g.tail)))) (selections is)) f.front_is
      (front_and_tail metrics (token_instructions g.front) (token_instructions g.tail) f.fonts named)) ∙ f.shows in
      let passed = passes-parts (drawing_by metrics g.front) (min max_pushes g.postamble.stack_depth) f.parts [] pages shows f.depth in
      record {
        front = g.front;
        tail = g.tail;
        front_spelled = g.front_spelled;
        tail_spelled = g.tail_spelled;
        front_whole = parts.0;
        tail_whole = parts.1;
        comment = f.comment;
        body = flat_map instructions f.parts;
        front_is = f.front_is ∙ ap (λ (s : Postamble). Pre 2 s.units f.comment ∷ flat_map instructions f.parts) (sym nothing_idle);
        units = subst (λ (s : Postamble). AreUnits s.units) (sym nothing_idle) f.units;
        passed = subst (λ (s : Postamble). passes (drawing_by metrics g.front) (min max_pushes s.stack_depth) (flat_map instructions f.parts)
            (Between []) ≡ Some (Between pages)) (sym nothing_idle) passed;
        bops = sym (ap (λ (ns : List ℕ). reverse ns) chains ∙ reverse-reverse (places 0 g.front));
        tail_is = f.tail_is;
        fonts = f.fonts;
        closing = closed_before metrics (token_instructions g.front) (token_instructions g.tail) f.fonts f.closing;
        named = named;
      }
