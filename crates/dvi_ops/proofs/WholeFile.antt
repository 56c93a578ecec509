-- The bytes that are written for good pages are a file of them.
use Rattle.std.proofs.Common.{◌≡◌, ◌≤◌, ◌<◌, ◌+◌, ◌%◌, ◌^◌, ◌++◌, min, [], ◌∷◌, List, length, map, replicate, ℕ, suc, ℤ, pos, Bool, true, false, if◌then◌else◌, Option, Some, IsSome, refl, sym, ◌∙◌, ap, ap₂, subst, subst₂, append_assoc, append-nil, lit<, arith}
use Rattle.std.proofs.lemmas.Int.{ints}
use Rattle.std.proofs.lemmas.Bool.Decides.{Decides-int_eq}
use Rattle.std.specs.Ordering.{int_eq}
use Rattle.std.specs.List.{flat_map, AllByRecursion}
use Rattle.dvi_ops.specs.Instruction.{Definition, Postamble, FontDef, Instruction, Do, Post, PostPost}
use Rattle.dvi_ops.specs.Table.{Spells}
use Rattle.dvi_ops.specs.Spelling.{operand, spelling, NumberFits, NumbersFit}
use Rattle.dvi_ops.specs.Tokens.{IsSpelled, token_instructions, pointers}
use Rattle.dvi_ops.specs.Fonts.{WidthsByName, definitions, selections, first_definition_of, FontsAreRight, known_after, font, widths_in, width_in, widths_of}
use Rattle.dvi_ops.specs.File.{FilePart, instructions, MarkedPage, max_pushes, push_depth_of, IsIdle, Frame, IsFile}
use Rattle.dvi_ops.specs.Layout.{bytes_of, preamble, define, FilePage, WriterKnowledge, after_preamble, file_page_from, knowledge_after}
use Rattle.dvi_ops.specs.Layout.{file_pages_from, after_all, front_of, whole_of, postamble_of, ending_of, padding_after, Table, table_widths}
use Rattle.dvi_ops.specs.Layout.{IsWritable, IsTabled, IsGood, known_in, AreGood, IsClosing}
use Rattle.scaled_core.proofs.EachOf.{all_weaker, all_both, all_map}
use Rattle.dvi_ops.proofs.Appends.{fonts_append}
use Rattle.dvi_ops.proofs.Layouts.{wrote, says-wrote, written-wrote, bytes_of-append, length-bytes_of-append, definitions-define, defined_right, place_fits, Knows, knows_first, knows_next, page_with}
use Rattle.dvi_ops.proofs.Frames.{Facts, facts_at}
use Rattle.dvi_ops.proofs.Spelled.{written_is_spelled}
use Rattle.dvi_ops.proofs.SameMeaning.{SameWidths, same_pages}

pub all_spelled : (is : List Instruction) → AllByRecursion IsWritable is → AllByRecursion IsSpelled (map wrote is)
all_spelled [] w = tt
all_spelled (i ∷ is) (here, w) = (written_is_spelled i here.0 here.1, all_spelled is w)

-- A page never makes the file shorter.
grows : (s : WriterKnowledge) (ps : List FilePage) → s.size ≤ (after_all s ps).size
grows s [] = omega arith
grows s (p ∷ ps) = let more = grows (knowledge_after s p) ps in omega arith

-- The relation holds after all pages.
knows_all : (metrics : WidthsByName) (table : Table) (s : WriterKnowledge) (known : List Definition) (is : List Instruction) (parts : List FilePart) (pages : List MarkedPage) (ps : List FilePage) (more : List MarkedPage) →
    Knows metrics table s known is parts pages → AreGood metrics table known ps more → (after_all s ps).size < 2 ^ 31 →
    (all : List FilePart) × Knows metrics table (after_all s ps) (known_in known ps) (is ++ file_pages_from s ps) all (pages ++ more)
knows_all metrics table s known is parts pages [] [] t good small =
    (parts, subst₂ (λ is pages. Knows metrics table s known is parts pages) (sym (append-nil is)) (sym (append-nil pages)) t)
knows_all metrics table s known is parts pages [] (page ∷ more) t good small = absurd good
knows_all metrics table s known is parts pages (p ∷ ps) [] t good small = absurd good
knows_all metrics table s known is parts pages (p ∷ ps) (page ∷ more) t (counts, good, rest) small =
    let bound = grows (knowledge_after s p) ps in
    let later = known_after known (define p.fresh) in
    let next = knows_next metrics table s known is parts pages p page.marks t good (omega arith) in
    let found = knows_all metrics table (knowledge_after s p) later (is ++ file_page_from s.last p) _ (pages ++ (page_with p page.marks) ∷ []) ps more next rest small in
    let same : page_with p page.marks ≡ page = ap (λ (counts : List ℤ). record { counts = counts; marks = page.marks }) (sym counts) in
    (found.0, subst₂ (λ is pages. Knows metrics table (after_all (knowledge_after s p) ps) (known_in later ps) is found.0 pages) (append_assoc is (file_page_from s.last p) (file_pages_from (knowledge_after s p) ps)) (append_assoc pages (page_with p page.marks ∷ []) more ∙ ap (λ (page : MarkedPage). pages ++ (page ∷ more)) same) found.1)

-- A definition of the postamble is the job's.
closing_is_table : (table : Table) (closing : List Definition) (f : ℤ) → AllByRecursion (IsTabled table) closing → IsSome (first_definition_of f closing) → first_definition_of f closing ≡ table f
closing_is_table table [] f all some = absurd cc
closing_is_table table (d ∷ closing) f (here, all) some = by_test (int_eq f d.number) refl some (closing_is_table table closing f all)
  where
    by_test : (same : Bool) → int_eq f d.number ≡ same → IsSome (if same then Some d else first_definition_of f closing) → (IsSome (first_definition_of f closing) → first_definition_of f closing ≡ table f) → (if same then Some d else first_definition_of f closing) ≡ table f
    by_test true e some later = sym (ap table ((Decides-int_eq f d.number).0 e) ∙ here.listed)
    by_test false e some later = later some

all_idle : (fonts : List Definition) → AllByRecursion IsIdle (define fonts)
all_idle [] = tt
all_idle (d ∷ fonts) = (tt, all_idle fonts)

pub regroup : (a p t e bytes : List ℕ) → a ++ ((p ++ (t ++ (e ++ []))) ++ bytes) ≡ a ++ (p ++ (t ++ (e ++ bytes)))
regroup a p t e bytes = simp (append_assoc, append-nil)

-- The frame of what is written: instructions before post, post, instructions after it, and post_post.
unfoldable pub frame_of : (is : List Instruction) (postamble : Postamble) (tail : List Instruction) (place padding : ℕ) →
    AllByRecursion IsWritable is → NumbersFit (Post postamble) → AllByRecursion IsWritable tail → place ≡ length (bytes_of is) → place < 2 ^ 31
    → 4 ≤ padding →
    Frame (bytes_of is ++ (bytes_of (Post postamble ∷ (tail ++ PostPost (pos place) 2 ∷ [])) ++ replicate padding 223))
frame_of is postamble tail place padding front_fits postamble_fits tail_fits at small padded =
    let post = spelling (Post postamble) in
    let ending = spelling (PostPost (pos place) 2) in
    record {
      front = map wrote is;
      post = post;
      postamble = postamble;
      tail = map wrote tail;
      ending = ending;
      padding = padding;
      whole =
          ap (λ (following : List ℕ). bytes_of is ++ ((post ++ following) ++ replicate padding 223)) (bytes_of-append tail (PostPost (pos place) 2 ∷ []))
          ∙ (regroup (bytes_of is) post (bytes_of tail) ending (replicate padding 223)
          ∙ ap₂ (λ (a b : List ℕ). a ++ (post ++ (b ++ (ending ++ replicate padding 223)))) (sym (written-wrote is)) (sym (written-wrote tail)));
      padded = padded;
      front_spelled = all_spelled is front_fits;
      post_spelled = written_is_spelled (Post postamble) tt postamble_fits;
      tail_spelled = all_spelled tail tail_fits;
      ending_spelled = subst (λ n. Spells (PostPost (pos n) 2) ending) (at ∙ ap length (sym (written-wrote is))) (written_is_spelled (PostPost (pos place) 2) tt (record { sfits = small }));
    }

-- The facts about such bytes where they are a file.
pub facts_of_written : (is : List Instruction) (postamble : Postamble) (tail : List Instruction) (place padding : ℕ) (metrics : WidthsByName)
    (pages : List MarkedPage) →
    AllByRecursion IsWritable is → NumbersFit (Post postamble) → AllByRecursion IsWritable tail → place ≡ length (bytes_of is) → place < 2 ^ 31
    → 4 ≤ padding →
    IsFile metrics (bytes_of is ++ (bytes_of (Post postamble ∷ (tail ++ PostPost (pos place) 2 ∷ [])) ++ replicate padding 223)) pages
    → Facts metrics (map wrote is) postamble (map wrote tail) pages
unfolding frame_of
facts_of_written is postamble tail place padding metrics pages front_fits postamble_fits tail_fits at small padded f =
    facts_at metrics _ pages f (frame_of is postamble tail place padding front_fits postamble_fits tail_fits at small padded)

module _ (metrics : WidthsByName) (table : Table) (s : WriterKnowledge) (known : List Definition) (is : List Instruction) (parts : List FilePart) (pages : List MarkedPage)
    (tall wide : ℤ) (closing : List Definition) (padding : ℕ)
    (t : Knows metrics table s known is parts pages) (c : IsClosing table known closing) (tall_fits : NumberFits tall) (wide_fits : NumberFits wide) (small : s.size < 2 ^ 31) (padded : 4 ≤ padding) where
  postamble : Postamble
  postamble = postamble_of s tall wide (length pages)

  whole_bytes : List ℕ
  whole_bytes = bytes_of is ++ ending_of s postamble closing padding

  postamble_fits : NumbersFit (Post postamble)
  unfolding postamble
  postamble_fits =
      let shallow = t.shallow in
      (place_fits s.size s.last t.last small, (record { sfits = lit< tt }, record { sfits = lit< tt }, record { sfits = lit< tt }), tall_fits, wide_fits, omega arith, omega arith)

  -- Definitions of the job can be written.
  closing_fits : AllByRecursion IsWritable (define closing)
  closing_fits = all_map IsWritable (λ d. Do (FontDef d)) closing (all_weaker (IsTabled table) (λ d. IsWritable (Do (FontDef d))) closing (λ d u. u.writable) c.tabled)

  frame : Frame whole_bytes
  unfolding whole_bytes
  frame = frame_of is postamble (define closing) s.size padding t.writable postamble_fits closing_fits t.size small padded

  definitions_tail : definitions (token_instructions (map wrote (define closing))) ≡ closing
  definitions_tail = ap definitions (says-wrote (define closing)) ∙ definitions-define closing

  -- A selected font has a definition in the postamble, and it is the job's.
  closes : (f : ℤ) → IsSome (first_definition_of f known) → first_definition_of f closing ≡ table f
  closes f some = closing_is_table table closing f c.tabled (c.each f some)

  same_widths : (f : ℤ) → IsSome (first_definition_of f known) → SameWidths (widths_of metrics (definitions (token_instructions (map wrote (define closing))))) (table_widths metrics table) f
  same_widths f some code =
      ap (λ (fonts : List Definition). width_in (widths_in metrics (first_definition_of f fonts)) code) definitions_tail ∙ ap (λ (d : Option Definition). width_in (widths_in metrics d) code) (closes f some)

  measured : (f : ℤ) → IsSome (first_definition_of f known) × IsSome (widths_in metrics (table f)) → IsSome (font metrics (definitions (token_instructions (map wrote (define closing)))) f)
  measured f (some, widths) =
      subst (λ (d : Option Definition). IsSome (widths_in metrics d)) (sym (ap (first_definition_of f) definitions_tail ∙ closes f some)) widths

  file : IsFile metrics whole_bytes pages
  unfolding frame postamble frame_of
  file =
      record {
        frame = frame;
        comment = [];
        parts = parts;
        front_is = says-wrote is ∙ t.is_front;
        tail_is = subst (AllByRecursion IsIdle) (sym (says-wrote (define closing))) (all_idle closing);
        units = (omega (arith, ints), omega (arith, ints), omega (arith, ints));
        chain = ap (λ (is : List Instruction). pointers is ++ s.last ∷ []) (says-wrote is) ∙ t.chain;
        count = refl;
        fonts =
            subst₂ (λ (a b : List Instruction). FontsAreRight [] (a ++ b)) (sym (says-wrote is)) (sym (says-wrote (define closing)))
            (fonts_append [] is (define closing) t.fonts (subst (λ (known : List Definition). FontsAreRight known (define closing)) (sym t.known_is) (defined_right table known closing t.tabled c.tabled)));
        closing =
            subst (λ (is : List Instruction). AllByRecursion (λ f. IsSome (font metrics (definitions (token_instructions (map wrote (define closing)))) f)) (selections is)) (sym (says-wrote is))
            (all_weaker (λ f. IsSome (first_definition_of f known) × IsSome (widths_in metrics (table f))) (λ f. IsSome (font metrics (definitions (token_instructions (map wrote (define closing)))) f)) (selections is) measured
            (all_both (λ f. IsSome (first_definition_of f known)) (λ f. IsSome (widths_in metrics (table f))) (selections is) t.chosen t.measured));
        depth = all_weaker (λ part. push_depth_of part ≤ s.depth) (λ part. push_depth_of part ≤ min max_pushes s.depth) parts (λ part shallow. (let most = t.shallow in omega arith)) t.depth;
        shows =
            same_pages (widths_of metrics (definitions (token_instructions (map wrote (define closing))))) (table_widths metrics table) parts
            (all_weaker (λ f. IsSome (first_definition_of f known)) (SameWidths (widths_of metrics (definitions (token_instructions (map wrote (define closing))))) (table_widths metrics table)) (selections (flat_map instructions parts)) same_widths
            (subst (λ (is : List Instruction). AllByRecursion (λ f. IsSome (first_definition_of f known)) (selections is)) t.is_front t.chosen))
            ∙ t.shows;
      }

-- There are as many pages as file pages.
same_length : (metrics : WidthsByName) (table : Table) (known : List Definition) (ps : List FilePage) (pages : List MarkedPage) → AreGood metrics table known ps pages → length pages ≡ length ps
same_length metrics table known [] [] good = refl
same_length metrics table known [] (page ∷ pages) good = absurd good
same_length metrics table known (p ∷ ps) [] good = absurd good
same_length metrics table known (p ∷ ps) (page ∷ pages) (counts, here, good) = ap suc (same_length metrics table (known_after known (define p.fresh)) ps pages good)

-- The bytes that are written for good pages and the postamble are a file of these pages.
pub whole_file : (metrics : WidthsByName) (table : Table) (ps : List FilePage) (pages : List MarkedPage) (tall wide : ℤ) (closing : List Definition) (padding : ℕ) →
    AreGood metrics table [] ps pages → IsClosing table (known_in [] ps) closing → NumberFits tall → NumberFits wide → (after_all after_preamble ps).size < 2 ^ 31 → 4 ≤ padding →
    IsFile metrics (whole_of ps tall wide closing padding) pages
unfolding whole_bytes postamble
whole_file metrics table ps pages tall wide closing padding good closed tall_fits wide_fits small padded =
    let all = knows_all metrics table after_preamble [] (preamble ∷ []) [] [] ps pages (knows_first metrics table) good small in
    subst (λ count. IsFile metrics
    (front_of ps ++ ending_of (after_all after_preamble ps) (postamble_of (after_all after_preamble ps) tall wide count) closing padding) pages)
    (same_length metrics table [] ps pages good)
    (file metrics table (after_all after_preamble ps) (known_in [] ps) (preamble ∷ file_pages_from after_preamble ps) all.0 pages tall wide closing padding all.1 closed tall_fits wide_fits small padded)

-- One more page: the writer's numbers, its bytes, and that the pages are good.
pub after_all-append : (s : WriterKnowledge) (ps qs : List FilePage) → after_all s (ps ++ qs) ≡ after_all (after_all s ps) qs
after_all-append s [] qs = refl
after_all-append s (p ∷ ps) qs = after_all-append (knowledge_after s p) ps qs

pub file_pages_from-append : (s : WriterKnowledge) (ps qs : List FilePage) → file_pages_from s (ps ++ qs) ≡ file_pages_from s ps ++ file_pages_from (after_all s ps) qs
file_pages_from-append s [] qs = refl
file_pages_from-append s (p ∷ ps) qs =
    ap (λ (is : List Instruction). file_page_from s.last p ++ is) (file_pages_from-append (knowledge_after s p) ps qs) ∙ sym (append_assoc (file_page_from s.last p) (file_pages_from (knowledge_after s p) ps) (file_pages_from (after_all (knowledge_after s p) ps) qs))

pub front_more : (ps : List FilePage) (p : FilePage) → front_of (ps ++ p ∷ []) ≡ front_of ps ++ bytes_of (file_page_from (after_all after_preamble ps).last p)
front_more ps p =
    ap (λ (is : List Instruction). bytes_of (preamble ∷ is)) (file_pages_from-append after_preamble ps (p ∷ []) ∙ ap (λ (is : List Instruction). file_pages_from after_preamble ps ++ is) (append-nil (file_page_from (after_all after_preamble ps).last p)))
    ∙ bytes_of-append (preamble ∷ file_pages_from after_preamble ps) (file_page_from (after_all after_preamble ps).last p)

pub good_more : (metrics : WidthsByName) (table : Table) (known : List Definition) (ps : List FilePage) (pages : List MarkedPage) (p : FilePage) (page : MarkedPage) →
    AreGood metrics table known ps pages → page.counts ≡ p.counts → IsGood metrics table (known_in known ps) p page.marks → AreGood metrics table known (ps ++ p ∷ []) (pages ++ page ∷ [])
good_more metrics table known [] [] p page are counts good = (counts, good, tt)
good_more metrics table known [] (q ∷ pages) p page are counts good = absurd are
good_more metrics table known (q ∷ ps) [] p page are counts good = absurd are
good_more metrics table known (q ∷ ps) (first ∷ pages) p page (same, here, are) counts good = (same, here, good_more metrics table (known_after known (define q.fresh)) ps pages p page are counts good)

-- The writer's count of bytes is the length of what it has written.
pub size_of_front : (ps : List FilePage) → (after_all after_preamble ps).size ≡ length (front_of ps)
unfolding spelling operand
size_of_front ps = sized after_preamble (preamble ∷ []) ps refl
  where
    sized : (s : WriterKnowledge) (is : List Instruction) (ps : List FilePage) → s.size ≡ length (bytes_of is) → (after_all s ps).size ≡ length (bytes_of (is ++ file_pages_from s ps))
    sized s is [] e = e ∙ ap (λ (is : List Instruction). length (bytes_of is)) (sym (append-nil is))
    sized s is (p ∷ ps) e =
        sized (knowledge_after s p) (is ++ file_page_from s.last p) ps (ap (λ n. n + length (bytes_of (file_page_from s.last p))) e ∙ sym (length-bytes_of-append is (file_page_from s.last p)))
        ∙ ap (λ (is : List Instruction). length (bytes_of is)) (append_assoc is (file_page_from s.last p) (file_pages_from (knowledge_after s p) ps))

-- There are four to seven bytes 223.
pub padding_low : (n : ℕ) → 4 ≤ padding_after n
padding_low n = omega arith

pub padding_fills : (n : ℕ) → (n + padding_after n) % 4 ≡ 0
padding_fills n = omega arith
