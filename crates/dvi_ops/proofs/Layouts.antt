-- The state of the writer while it writes pages: lemmas for the law that the whole is a file.
use Rattle.std.proofs.Common.{◌≡◌, ◌≤◌, ◌<◌, ◌+◌, ◌^◌, ◌++◌, [], ◌∷◌, List, length, map, ℕ, ℤ, pos, negsuc, Bool, true, false, if◌then◌else◌, Some, IsSome, refl, lit<, lit≤, sym, ◌∙◌, ap, ap₂, subst, append-nil, length-append, arith}
use Rattle.std.proofs.lemmas.List.{nil_from_length, map-append}
use Rattle.std.proofs.lemmas.Grind.{flat_map-append}
use Rattle.std.specs.Ordering.{int_eq}
use Rattle.std.specs.List.{flat_map, AllByRecursion}
use Rattle.dvi_ops.specs.Instruction.{Definition, FontNum, FontDef, Instruction, Do, Bop, Eop}
use Rattle.dvi_ops.specs.Spelling.{operand, spelling, NumberFits}
use Rattle.dvi_ops.specs.Body.{Meaning, Acts, instruction_acts, bounded_acts}
use Rattle.scaled_core.specs.Mark.{Mark}
use Rattle.dvi_ops.specs.Forest.{flat}
use Rattle.dvi_ops.specs.Tokens.{Token, token_instructions, token_bytes, places, pointers}
use Rattle.dvi_ops.specs.Fonts.{WidthsByName, AgreesWith, definitions, selections, first_definition_of, FontsAreRight, known_after, widths_in}
use Rattle.dvi_ops.specs.File.{FilePart, Defines, Shows, instructions, MarkedPage, page_then, pages_of, max_pushes, push_depth_of}
use Rattle.dvi_ops.specs.Layout.{bytes_of, preamble, define, FilePage, WriterKnowledge, after_preamble, file_page_from, knowledge_after, Table, table_widths, IsWritable, IsTabled, IsGood}
use Rattle.scaled_core.proofs.EachOf.{all_append, all_weaker, all_map}
use Rattle.dvi_ops.proofs.Appends.{pointers-page, pointers-append, definitions-append, selections-append, instructions-append, places-append, length-places, known_after-append, fonts_append, pages_joined, pointers-flat}

-- An instruction with its written bytes.
abbrev pub wrote : Instruction → Token
wrote i = record { says = i; bytes = spelling i }

pub says-wrote : (is : List Instruction) → token_instructions (map wrote is) ≡ is
says-wrote [] = refl
says-wrote (i ∷ is) = ap (λ (is : List Instruction). i ∷ is) (says-wrote is)

pub written-wrote : (is : List Instruction) → token_bytes (map wrote is) ≡ bytes_of is
written-wrote [] = refl
written-wrote (i ∷ is) = ap (λ (bytes : List ℕ). spelling i ++ bytes) (written-wrote is)

pub bytes_of-append : (a b : List Instruction) → bytes_of (a ++ b) ≡ bytes_of a ++ bytes_of b
bytes_of-append a b = flat_map-append spelling a b

pub length-bytes_of-append : (a b : List Instruction) → length (bytes_of (a ++ b)) ≡ length (bytes_of a) + length (bytes_of b)
length-bytes_of-append a b = ap length (bytes_of-append a b) ∙ length-append (bytes_of a) (bytes_of b)

-- Where no instruction is a bop, there are no places.
no_places : (at : ℕ) (is : List Instruction) → pointers is ≡ [] → places at (map wrote is) ≡ []
no_places at is none = nil_from_length _ (length-places at (map wrote is) ∙ (ap (λ (is : List Instruction). length (pointers is)) (says-wrote is) ∙ ap length none))

-- Definitions contain no bop and no selection.
pub pointers-define : (fonts : List Definition) → pointers (define fonts) ≡ []
pointers-define [] = refl
pointers-define (d ∷ fonts) = pointers-define fonts

pub selections-define : (fonts : List Definition) → selections (define fonts) ≡ []
selections-define [] = refl
selections-define (d ∷ fonts) = selections-define fonts

pub definitions-define : (fonts : List Definition) → definitions (define fonts) ≡ fonts
definitions-define [] = refl
definitions-define (d ∷ fonts) = ap (λ (ds : List Definition). d ∷ ds) (definitions-define fonts)

pub instructions-define : (fonts : List Definition) → flat_map instructions (map (λ d. Defines d) fonts) ≡ define fonts
instructions-define [] = refl
instructions-define (d ∷ fonts) = ap (λ (is : List Instruction). Do (FontDef d) ∷ is) (instructions-define fonts)

-- Where nothing is defined, the known definitions stay, and the fonts are right where those selected are known.
known_stays : (known : List Definition) (is : List Instruction) → definitions is ≡ [] → known_after known is ≡ known
known_stays known [] none = refl
known_stays known (Do (FontDef d) ∷ is) none = absurd cc
known_stays known (i ∷ is) none = known_stays known is none

chosen_right : (known : List Definition) (is : List Instruction) → definitions is ≡ [] → AllByRecursion (λ f. IsSome (first_definition_of f known)) (selections is) → FontsAreRight known is
chosen_right known [] none chosen = tt
chosen_right known (Do (FontDef d) ∷ is) none chosen = absurd cc
chosen_right known (Do (FontNum f) ∷ is) none (here, chosen) = (here, chosen_right known is none chosen)
chosen_right known (i ∷ is) none chosen = (tt, chosen_right known is none chosen)

-- Two definitions of one number in a job agree.
tabled_agree : (table : Table) (d e : Definition) → IsTabled table d → IsTabled table e → AgreesWith d e
tabled_agree table d e t u same = let first = t.listed in let second : table d.number ≡ Some e = ap table same ∙ u.listed in cc

agrees_with_all : (table : Table) (d : Definition) (known : List Definition) → IsTabled table d → AllByRecursion (IsTabled table) known → AllByRecursion (AgreesWith d) known
agrees_with_all table d known t all = all_weaker (IsTabled table) (AgreesWith d) known (λ e u. tabled_agree table d e t u) all

pub known_tabled : (table : Table) (known fonts : List Definition) → AllByRecursion (IsTabled table) known → AllByRecursion (IsTabled table) fonts → AllByRecursion (IsTabled table) (known_after known (define fonts))
known_tabled table known [] p q = p
known_tabled table known (d ∷ fonts) p (here, q) = known_tabled table (d ∷ known) fonts (here, p) q

pub defined_right : (table : Table) (known fonts : List Definition) → AllByRecursion (IsTabled table) known → AllByRecursion (IsTabled table) fonts → FontsAreRight known (define fonts)
defined_right table known [] p q = tt
defined_right table known (d ∷ fonts) p (here, q) = ((here.size, agrees_with_all table d known here p), defined_right table (d ∷ known) fonts (here, p) q)

-- A font that is known stays known.
stays_known : (f : ℤ) (known fonts : List Definition) → IsSome (first_definition_of f known) → IsSome (first_definition_of f (known_after known (define fonts)))
stays_known f known [] p = p
stays_known f known (d ∷ fonts) p = stays_known f (d ∷ known) fonts (by_test (int_eq f d.number))
  where
    by_test : (same : Bool) → IsSome (if same then Some d else first_definition_of f known)
    by_test true = refl
    by_test false = p

-- The number -1, or a place up to n.
pub IsPlaceUpTo : ℕ → ℤ → Type 0
IsPlaceUpTo n (pos a) = a ≤ n
IsPlaceUpTo n (negsuc a) = a ≡ 0

pub place_fits : (n : ℕ) (z : ℤ) → IsPlaceUpTo n z → n < 2 ^ 31 → NumberFits z
unfolding IsPlaceUpTo
place_fits n (pos a) p below = record { sfits = omega arith }
place_fits n (negsuc a) p below = record { sfits = omega arith }

-- The relation between the writer's numbers and the known definitions, and what it has written.
pub record Knows (metrics : WidthsByName) (table : Table) (s : WriterKnowledge) (known : List Definition) (is : List Instruction) (parts : List FilePart) (pages : List MarkedPage) : Type 0 where
  pub writable : AllByRecursion IsWritable is
  pub is_front : is ≡ preamble ∷ flat_map instructions parts
  pub size : s.size ≡ length (bytes_of is)
  pub last : IsPlaceUpTo s.size s.last
  pub chain : pointers is ++ s.last ∷ [] ≡ negsuc 0 ∷ map pos (places 0 (map wrote is))
  pub depth : AllByRecursion (λ part. push_depth_of part ≤ s.depth) parts
  pub shallow : s.depth ≤ max_pushes
  pub fonts : FontsAreRight [] is
  pub known_is : known_after [] is ≡ known
  pub tabled : AllByRecursion (IsTabled table) known
  pub chosen : AllByRecursion (λ f. IsSome (first_definition_of f known)) (selections is)
  pub measured : AllByRecursion (λ f. IsSome (widths_in metrics (table f))) (selections is)
  pub shows : pages_of (bounded_acts (instruction_acts (table_widths metrics table))) parts ≡ Some pages

-- At first only the preamble is written.
pub knows_first : (metrics : WidthsByName) (table : Table) → Knows metrics table after_preamble [] (preamble ∷ []) [] []
unfolding spelling operand IsPlaceUpTo
knows_first metrics table =
    record {
      writable = ((lit< tt, (record { sfits = lit< tt }, record { sfits = lit< tt }, record { sfits = lit< tt })), tt);
      is_front = refl;
      size = refl;
      last = refl;
      chain = refl;
      depth = tt;
      shallow = lit≤ tt;
      fonts = (tt, tt);
      known_is = refl;
      tabled = tt;
      chosen = tt;
      measured = tt;
      shows = refl;
    }

-- The parts of a page: the definitions of its fresh fonts, and the page itself.
abbrev pub parts_of : ℤ → FilePage → List FilePart
parts_of last p = map (λ d. Defines d) p.fresh ++ (Shows p.counts last p.body ∷ [])

-- The page itself.
abbrev pub page_from : ℤ → FilePage → List Instruction
page_from last p = Bop p.counts last ∷ (flat p.body ++ Eop ∷ [])

-- The page as a reader sees it.
abbrev pub page_with : FilePage → List Mark → MarkedPage
page_with p marks = record { counts = p.counts; marks = marks }

pages-define : (does : Acts) (fonts : List Definition) (rest : List FilePart) → pages_of does (map (λ d. Defines d) fonts ++ rest) ≡ pages_of does rest
pages-define does [] rest = refl
pages-define does (d ∷ fonts) rest = pages-define does fonts rest

module _ (metrics : WidthsByName) (table : Table) (s : WriterKnowledge) (known : List Definition) (is : List Instruction) (parts : List FilePart) (pages : List MarkedPage) (p : FilePage) (marks : List Mark)
    (t : Knows metrics table s known is parts pages) (g : IsGood metrics table known p marks) (small : s.size < 2 ^ 31) where
  writable_next : AllByRecursion IsWritable (is ++ file_page_from s.last p)
  writable_next =
      all_append IsWritable is (file_page_from s.last p) t.writable
      (all_append IsWritable (define p.fresh) (page_from s.last p) (all_map IsWritable (λ d. Do (FontDef d)) p.fresh (all_weaker (IsTabled table) (λ d. IsWritable (Do (FontDef d))) p.fresh (λ d u. u.writable) g.fresh))
      ((tt, (g.ten, g.counts_fit, place_fits s.size s.last t.last small)), all_append IsWritable (flat p.body) (Eop ∷ []) g.writable ((tt, tt), tt)))

  instructions_next : is ++ file_page_from s.last p ≡ preamble ∷ flat_map instructions (parts ++ parts_of s.last p)
  instructions_next =
      ap₂ (λ (a b : List Instruction). a ++ b) t.is_front
      (sym (instructions-append (map (λ d. Defines d) p.fresh) (Shows p.counts s.last p.body ∷ []) ∙ ap₂ (λ (a b : List Instruction). a ++ b) (instructions-define p.fresh) (append-nil (page_from s.last p))))
      ∙ ap (λ (b : List Instruction). preamble ∷ b) (sym (instructions-append parts (parts_of s.last p)))

  pointers_file_page : pointers (file_page_from s.last p) ≡ s.last ∷ []
  pointers_file_page =
      pointers-append (define p.fresh) (page_from s.last p)
      ∙ ap₂ (λ (a b : List ℤ). a ++ b) (pointers-define p.fresh) (pointers-page p.counts s.last p.body)

  places_file_page : (at : ℕ) → places at (map wrote (file_page_from s.last p)) ≡ (at + length (bytes_of (define p.fresh))) ∷ []
  places_file_page at =
      ap (places at) (map-append wrote (define p.fresh) (page_from s.last p))
      ∙ (places-append at (map wrote (define p.fresh)) (map wrote (page_from s.last p))
      ∙ (ap₂ (λ (a b : List ℕ). a ++ b) (no_places at (define p.fresh) (pointers-define p.fresh))
      (ap (λ (bytes : List ℕ). places (at + length bytes) (map wrote (page_from s.last p))) (written-wrote (define p.fresh)))
      ∙ ap (λ (b : List ℕ). (at + length (bytes_of (define p.fresh))) ∷ b) (no_places _ (flat p.body ++ Eop ∷ []) (pointers-append (flat p.body) (Eop ∷ []) ∙ ap (λ (ps : List ℤ). ps ++ []) (pointers-flat p.body)))))

  place_next : ℕ
  place_next = s.size + length (bytes_of (define p.fresh))

  places_next : places 0 (map wrote (is ++ file_page_from s.last p)) ≡ places 0 (map wrote is) ++ place_next ∷ []
  unfolding place_next
  places_next =
      let upto : length (token_bytes (map wrote is)) ≡ s.size = ap length (written-wrote is) ∙ sym t.size in
      let at : 0 + length (token_bytes (map wrote is)) ≡ s.size = omega arith in
      ap (places 0) (map-append wrote is (file_page_from s.last p))
      ∙ (places-append 0 (map wrote is) (map wrote (file_page_from s.last p))
      ∙ ap (λ (b : List ℕ). places 0 (map wrote is) ++ b) (ap (λ n. places n (map wrote (file_page_from s.last p))) at ∙ places_file_page s.size))

  chain_next : pointers (is ++ file_page_from s.last p) ++ (knowledge_after s p).last ∷ [] ≡ negsuc 0 ∷ map pos (places 0 (map wrote (is ++ file_page_from s.last p)))
  unfolding place_next
  chain_next =
      ap (λ (ps : List ℤ). ps ++ (knowledge_after s p).last ∷ []) (pointers-append is (file_page_from s.last p) ∙ (ap (λ (ps : List ℤ). pointers is ++ ps) pointers_file_page ∙ t.chain))
      ∙ ap (λ (zs : List ℤ). negsuc 0 ∷ zs) (sym (ap (map (λ n. pos n)) places_next ∙ map-append (λ (n : ℕ). pos n) (places 0 (map wrote is)) (place_next ∷ [])))

  page_plain : definitions (page_from s.last p) ≡ []
  page_plain = definitions-append (flat p.body) (Eop ∷ []) ∙ ap (λ (ds : List Definition). ds ++ []) g.plain

  selections_page : selections (page_from s.last p) ≡ selections (flat p.body)
  selections_page = selections-append (flat p.body) (Eop ∷ []) ∙ append-nil (selections (flat p.body))

  selections_file_page : selections (file_page_from s.last p) ≡ selections (flat p.body)
  selections_file_page = selections-append (define p.fresh) (page_from s.last p) ∙ ap₂ (λ (a b : List ℤ). a ++ b) (selections-define p.fresh) selections_page

  known_next : known_after [] (is ++ file_page_from s.last p) ≡ known_after known (define p.fresh)
  known_next =
      known_after-append [] is (file_page_from s.last p)
      ∙ (ap (λ (known : List Definition). known_after known (file_page_from s.last p)) t.known_is
      ∙ (known_after-append known (define p.fresh) (page_from s.last p) ∙ known_stays (known_after known (define p.fresh)) (page_from s.last p) page_plain))

  fonts_next : FontsAreRight [] (is ++ file_page_from s.last p)
  fonts_next =
      let later : List Definition = known_after known (define p.fresh) in
      let chosen = subst (AllByRecursion (λ f. IsSome (first_definition_of f later))) (sym selections_page) g.chosen in
      let page = chosen_right later (page_from s.last p) page_plain chosen in
      let file_page = fonts_append known (define p.fresh) (page_from s.last p) (defined_right table known p.fresh t.tabled g.fresh) page in
      fonts_append [] is (file_page_from s.last p) t.fonts (subst (λ (known : List Definition). FontsAreRight known (file_page_from s.last p)) (sym t.known_is) file_page)

  -- What holds of the fonts selected before and of those that the page selects holds of both together.
  selected_next : (P : ℤ → Type 0) → AllByRecursion P (selections is) → AllByRecursion P (selections (flat p.body)) → AllByRecursion P (selections (is ++ file_page_from s.last p))
  selected_next P before here =
      subst (AllByRecursion P) (sym (selections-append is (file_page_from s.last p)))
      (all_append P (selections is) (selections (file_page_from s.last p)) before (subst (AllByRecursion P) (sym selections_file_page) here))

  chosen_next : AllByRecursion (λ f. IsSome (first_definition_of f (known_after known (define p.fresh)))) (selections (is ++ file_page_from s.last p))
  chosen_next =
      selected_next (λ f. IsSome (first_definition_of f (known_after known (define p.fresh))))
      (all_weaker (λ f. IsSome (first_definition_of f known)) (λ f. IsSome (first_definition_of f (known_after known (define p.fresh)))) (selections is) (λ f q. stays_known f known p.fresh q) t.chosen) g.chosen

  shows_next : pages_of (bounded_acts (instruction_acts (table_widths metrics table))) (parts ++ parts_of s.last p) ≡ Some (pages ++ page_with p marks ∷ [])
  shows_next =
      let does = bounded_acts (instruction_acts (table_widths metrics table)) in
      pages_joined does parts (parts_of s.last p) pages (page_with p marks ∷ []) t.shows
      (pages-define does p.fresh (Shows p.counts s.last p.body ∷ []) ∙ ap (λ (m : Meaning). page_then p.counts m (Some [])) g.shows)

  depth_next : AllByRecursion (λ part. push_depth_of part ≤ (knowledge_after s p).depth) (parts ++ parts_of s.last p)
  depth_next =
      let Shallow : FilePart → Type 0 = λ part. push_depth_of part ≤ (knowledge_after s p).depth in
      all_append Shallow parts (parts_of s.last p) (all_weaker (λ part. push_depth_of part ≤ s.depth) Shallow parts (λ part q. omega arith) t.depth)
      (all_append Shallow (map (λ d. Defines d) p.fresh) (Shows p.counts s.last p.body ∷ []) (no_depth p.fresh) (omega arith, tt))
    where
      no_depth : (fonts : List Definition) → AllByRecursion (λ part. push_depth_of part ≤ (knowledge_after s p).depth) (map (λ d. Defines d) fonts)
      no_depth [] = tt
      no_depth (d ∷ fonts) = (omega arith, no_depth fonts)

  last_next : IsPlaceUpTo (knowledge_after s p).size (knowledge_after s p).last
  unfolding IsPlaceUpTo
  last_next = omega (arith, length-bytes_of-append (define p.fresh) (page_from s.last p))

  -- The relation holds after one more page.
  pub knows_next : Knows metrics table (knowledge_after s p) (known_after known (define p.fresh)) (is ++ file_page_from s.last p) (parts ++ parts_of s.last p) (pages ++ page_with p marks ∷ [])
  knows_next =
      record {
        writable = writable_next;
        is_front = instructions_next;
        size = ap (λ n. n + length (bytes_of (file_page_from s.last p))) t.size ∙ sym (length-bytes_of-append is (file_page_from s.last p));
        last = last_next;
        chain = chain_next;
        depth = depth_next;
        shallow = (let before = t.shallow in let here = g.shallow in omega arith);
        fonts = fonts_next;
        known_is = known_next;
        tabled = known_tabled table known p.fresh t.tabled g.fresh;
        chosen = chosen_next;
        measured = selected_next (λ f. IsSome (widths_in metrics (table f))) t.measured g.measured;
        shows = shows_next;
      }
