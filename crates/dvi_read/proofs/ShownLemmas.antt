-- The pages that a checked file shows: there is one list of them, and each is at its place.
use Rattle.std.proofs.Common.{◌≡◌, ◌≤◌, ◌<◌, ◌+◌, ◌-◌, ◌++◌, [], ◌∷◌, List, drop, get_or, length, reverse, slice_get, slice_index_or, slice_index, take, vec_len, zero, suc, ℕ, ℤ, Option, Some, arith, length-append, refl, sym, ◌∙◌, ap, subst, subst₂, inl, inr, min}
use Rattle.std.specs.Prelude.{◌⊎◌}
use Rattle.std.specs.List.{AllByRecursion}
use Rattle.std.proofs.lemmas.Grind.{flat_map-append, get_or_default_zero}
use Rattle.std.proofs.lemmas.List.{drop-drop, drop-take, drop_at, get_or-reverse, length-drop, length-reverse, length-take-le, map-append}
use Rattle.std.proofs.lemmas.Option.{slice_get-get_or}
use Rattle.scaled_core.proofs.EachOf.{all_back}
use Rattle.dvi_ops.specs.Body.{Acts, instruction_acts, bounded_acts}
use Rattle.dvi_ops.specs.File.{IsFile, MarkedPage}
use Rattle.dvi_ops.specs.Fonts.{selection_of, selections}
use Rattle.dvi_ops.specs.Instruction.{Definition, Instruction, Bop, Postamble}
use Rattle.dvi_ops.specs.Tokens.{Token, IsSpelled, bop_place, places, token_instructions, token_bytes}
use Rattle.dvi_ops.proofs.Frames.{one_list}
use Rattle.dvi_scan.proofs.ReachedLemmas.{token}
use Rattle.dvi_scan.specs.Closing.{ClosesTo}
use Rattle.dvi_scan.specs.Pass.{PassStateView, Between, passes}
use Rattle.dvi_scan.specs.Passed.{file_framing}
use Rattle.dvi_read.specs.PageMarks.{read_width}
use Rattle.dvi_read.specs.ReadFonts.{FontIsRead}
use Rattle.dvi_read.specs.ItemsLeft.{HasCheckedPages, HasRest}
use Rattle.dvi_read.specs.Private.OpeningParts.{HasPassed}
use Rattle.dvi_read.specs.Private.ShownPages.{ShowsPages}
use Rattle.dvi_read.specs.Steps.{known_of, places_left, pass_state_of}
use Rattle.dvi_read.specs.WalkFaults.{PagesHaveEnded}
use Rattle.dvi_read.specs.declared.check.checked_file.CheckedFile.{CheckedFile}
use Rattle.dvi_read.specs.declared.check.walk.Walk.{Walk}
use Rattle.dvi_read.specs.declared.fonts.ReadFonts.{ReadFonts}
use Rattle.dvi_read.proofs.CheckedLemmas.{checked_pages}
use Rattle.dvi_read.proofs.OnePageLemmas.{IsAtBop, KeepsPages, begins, pages_begun, turn_keeps}
use Rattle.dvi_read.proofs.SeenLemmas.{Continues, first_turn}
use Rattle.tfm_core.specs.FileWidths.{file_widths}
use Rattle.tfm_core.specs.NamedBytes.{NamedBytes}

-- A file shows one list of pages.
same_between : (a b : List MarkedPage) (p : Option PassStateView) → p ≡ Some (Between a) → p ≡ Some (Between b) → a ≡ b
same_between a b p one other = let both : Some (Between a) ≡ Some (Between b) = sym one ∙ other in cc

pub one_shown : (file : CheckedFile) (pages others : List MarkedPage) → HasCheckedPages file pages → HasCheckedPages file others → pages ≡ others
one_shown file pages others a b =
    let does = bounded_acts (instruction_acts (read_width file.fonts)) in
    let same : a.rest ≡ b.rest = one_list a.rest b.rest a.spelled b.spelled (a.whole ∙ sym b.whole) in
    same_between pages others (passes does file.most (token_instructions b.rest) (Between []))
    (subst (λ (ts : List Token). passes does file.most (token_instructions ts) (Between []) ≡ Some (Between pages)) same a.passed) b.passed

-- An instruction is a bop, or it begins no page.
bop_or_none : (at : ℕ) (i : Instruction) → ((counts : List ℤ) × (pointer : ℤ) × (i ≡ Bop counts pointer)) ⊎ ((bop_place at i ≡ []) × (begins i ≡ 0))
bop_or_none at (Bop counts pointer) = inl (counts, pointer, refl)
bop_or_none at i = inr (refl, refl)

bop_once : (at : ℕ) (i : Instruction) → length (bop_place at i) ≡ begins i
bop_once at (Bop counts pointer) = refl
bop_once at i = refl

-- There is a place for each page that begins.
pages_placed : (does : Acts) (most at : ℕ) (ts : List Token) (p : PassStateView) (pages : List MarkedPage) → passes does most (token_instructions ts) p ≡ Some (Between pages)
    → length pages ≡ pages_begun p + length (places at ts)
pages_placed does most at [] p pages passed =
    let same : p ≡ Between pages = cc in
    let begun : pages_begun p ≡ length pages = ap pages_begun same in omega (arith, begun)
pages_placed does most at (t ∷ ts) p pages passed =
    let first = first_turn does most t.says (token_instructions ts) p (Between pages) passed in
    let keeps = turn_keeps does most t.says p first.after first.turns in
    let later = pages_placed does most (at + length t.bytes) ts first.after pages first.later in
    let begun = keeps.begun in
    omega (arith, later, begun, bop_once at t.says, length-append (bop_place at t.says) (places (at + length t.bytes) ts))

pub as_many_places : (file : CheckedFile) (pages : List MarkedPage) → ShowsPages file pages → length file.places.items ≡ length pages
as_many_places file pages shows =
    let has = shows.has in
    let placed : length (places file.from has.rest) ≡ length (reverse file.places.items) = ap (λ (ns : List ℕ). length ns) shows.placed in
    let many = pages_placed (bounded_acts (instruction_acts (read_width file.fonts))) file.most file.from has.rest (Between []) pages has.passed in
    omega (arith, placed, many, length-reverse file.places.items)

-- A page that the file shows has a place.
pub has_place : (file : CheckedFile) (pages all : List MarkedPage) (index : ℕ) → ShowsPages file pages → pages ≡ all → index < length all
    → index < vec_len file.places
has_place file pages all index shows same below =
    let many = as_many_places file pages shows in
    let size = ap (λ (ps : List MarkedPage). length ps) same in
    omega (arith, below, many, size, file.places.ok.0)

-- The bop at a place among some instructions.
record FindsBop (does : Acts) (most at : ℕ) (ts : List Token) (p : PassStateView) (pages : List MarkedPage) (index place : ℕ) : Type 0 where
  pub before : List Token
  pub counts : List ℤ
  pub pointer : ℤ
  pub bytes : List ℕ
  pub later : List Token
  pub split : ts ≡ before ++ (token (Bop counts pointer) bytes ∷ later)
  pub place_is : place ≡ at + length (token_bytes before)
  pub here : PassStateView
  pub passed : passes does most (token_instructions (token (Bop counts pointer) bytes ∷ later)) here ≡ Some (Between pages)
  pub count : pages_begun here ≡ pages_begun p + index

-- One more instruction before it.
found_later : (does : Acts) (most at : ℕ) (t : Token) (ts : List Token) (p after : PassStateView) (pages : List MarkedPage) (index less place : ℕ) → pages_begun after + less ≡ pages_begun p + index
    → FindsBop does most (at + length t.bytes) ts after pages less place → FindsBop does most at (t ∷ ts) p pages index place
found_later does most at t ts p after pages index less place same found =
    let place_is = found.place_is in
    record {
      before = t ∷ found.before;
      counts = found.counts;
      pointer = found.pointer;
      bytes = found.bytes;
      later = found.later;
      split = ap (λ (us : List Token). t ∷ us) found.split;
      place_is = omega (arith, place_is, length-append t.bytes (token_bytes found.before));
      here = found.here;
      passed = found.passed;
      count = found.count ∙ same;
    }

-- The first instruction is the bop, or the bop is among the others.
module _ (does : Acts) (most at : ℕ) (t : Token) (ts : List Token) (p : PassStateView) (pages : List MarkedPage) (place : ℕ)
    (passed : passes does most (token_instructions (t ∷ ts)) p ≡ Some (Between pages)) (first : Continues does most t.says (token_instructions ts) p (Between pages))
    (others : (n : ℕ) → slice_get (places (at + length t.bytes) ts) n ≡ Some place → FindsBop does most (at + length t.bytes) ts first.after pages n place) where
  keeps : KeepsPages (begins t.says) p first.after
  keeps = turn_keeps does most t.says p first.after first.turns

  by_index : (n : ℕ) → slice_get (at ∷ places (at + length t.bytes) ts) n ≡ Some place → (counts : List ℤ) (pointer : ℤ) → t.says ≡ Bop counts pointer → FindsBop does most at (t ∷ ts) p pages n place
  by_index zero there counts pointer is =
      let here : at ≡ place = cc in
      let same : t ∷ ts ≡ token (Bop counts pointer) t.bytes ∷ ts = ap (λ (i : Instruction). token i t.bytes ∷ ts) is in
      record {
        before = [];
        counts = counts;
        pointer = pointer;
        bytes = t.bytes;
        later = ts;
        split = same;
        place_is = omega (arith, here);
        here = p;
        passed = subst (λ (us : List Token). passes does most (token_instructions us) p ≡ Some (Between pages)) same passed;
        count = omega arith;
      }
  by_index (suc n) there counts pointer is =
      let begun = keeps.begun in
      let one : begins t.says ≡ 1 = ap begins is in found_later does most at t ts p first.after pages (suc n) n place (omega (arith, begun, one)) (others n there)

  bop_among : (index : ℕ) → slice_get (places at (t ∷ ts)) index ≡ Some place → FindsBop does most at (t ∷ ts) p pages index place
  bop_among index there = by_bop (bop_or_none at t.says)
    where
      by_bop : ((counts : List ℤ) × (pointer : ℤ) × (t.says ≡ Bop counts pointer)) ⊎ ((bop_place at t.says ≡ []) × (begins t.says ≡ 0)) → FindsBop does most at (t ∷ ts) p pages index place
      by_bop (inl (counts, pointer, is)) =
          by_index index (subst (λ (i : Instruction). slice_get (bop_place at i ++ places (at + length t.bytes) ts) index ≡ Some place) is there) counts pointer is
      by_bop (inr (none, idle)) =
          let begun = keeps.begun in
          found_later does most at t ts p first.after pages index index place (omega (arith, begun, idle))
          (others index (subst (λ (ns : List ℕ). slice_get (ns ++ places (at + length t.bytes) ts) index ≡ Some place) none there))

no_place : (n place : ℕ) → slice_get {X = ℕ} [] n ≡ Some place → ⊥
no_place zero place e = cc
no_place (suc n) place e = cc

bop_found : (does : Acts) (most at : ℕ) (ts : List Token) (p : PassStateView) (pages : List MarkedPage) (index place : ℕ) → passes does most (token_instructions ts) p ≡ Some (Between pages)
    → slice_get (places at ts) index ≡ Some place → FindsBop does most at ts p pages index place
bop_found does most at [] p pages index place passed there = absurd (no_place index place there)
bop_found does most at (t ∷ ts) p pages index place passed there =
    let first = first_turn does most t.says (token_instructions ts) p (Between pages) passed in
    bop_among does most at t ts p pages place passed first (λ n later. bop_found does most (at + length t.bytes) ts first.after pages n place first.later later) index there

-- The page with an index begins at its place.
pub begins_at : (file : CheckedFile) (pages : List MarkedPage) (index : ℕ) → ShowsPages file pages → index < length file.places.items
    → IsAtBop file pages index (get_or file.places.items (length file.places.items - 1 - index) 0)
begins_at file pages index shows below =
    let bytes = file.bytes.now in
    let has = shows.has in
    let does = bounded_acts (instruction_acts (read_width file.fonts)) in
    let place : ℕ = get_or file.places.items (length file.places.items - 1 - index) 0 in
    let there : slice_get (places file.from has.rest) index ≡ Some place =
    ap (λ (ns : List ℕ). slice_get ns index) shows.placed
    ∙ (slice_get-get_or (reverse file.places.items) index 0 (omega (arith, below, length-reverse file.places.items)) ∙ ap (λ (n : ℕ). Some n) (get_or-reverse file.places.items index 0 below)) in
    let found = bop_found does file.most file.from has.rest (Between []) pages index place has.passed there in
    let bop : List Token = token (Bop found.counts found.pointer) found.bytes ∷ found.later in
    let size : ℕ = length (token_bytes found.before) in
    let low = has.low in
    let high = has.high in
    let place_is = found.place_is in
    let whole : token_bytes found.before ++ token_bytes bop ≡ take (file.post - file.from) (drop file.from bytes) =
    sym (flat_map-append (λ (t : Token). t.bytes) found.before bop) ∙ (ap token_bytes (sym found.split) ∙ has.whole) in
    let sizes : length (token_bytes found.before ++ token_bytes bop) ≡ length (take (file.post - file.from) (drop file.from bytes)) = ap (λ (x : List ℕ). length x) whole in
    let within : place ≤ file.post =
    omega (arith, place_is, low, sizes, length-append (token_bytes found.before) (token_bytes bop), length-take-le (file.post - file.from) (drop file.from bytes) (omega (arith, high, low, length-drop file.from bytes))) in
    let amount : file.post - file.from ≡ size + (file.post - place) = omega (arith, place_is, within, low) in
    let behind : token_bytes bop ≡ take (file.post - place) (drop place bytes) =
    sym (drop_at (token_bytes found.before) (token_bytes bop) size refl)
    ∙ (ap (λ (x : List ℕ). drop size x) (whole ∙ ap (λ (n : ℕ). take n (drop file.from bytes)) amount)
    ∙ (drop-take size (file.post - place) (drop file.from bytes)
    ∙ ap (λ (x : List ℕ). take (file.post - place) x) (drop-drop size file.from bytes ∙ ap (λ (n : ℕ). drop n bytes) (sym place_is)))) in
    let spelled : AllByRecursion IsSpelled (found.before ++ bop) = subst (λ (ts : List Token). AllByRecursion IsSpelled ts) found.split has.spelled in
    let chosen : selections (token_instructions has.rest) ≡ selections (token_instructions found.before) ++ selections (token_instructions bop) =
    ap (λ (ts : List Token). selections (token_instructions ts)) found.split
    ∙ (ap (λ (is : List Instruction). selections is) (map-append (λ (t : Token). t.says) found.before bop) ∙ flat_map-append selection_of (token_instructions found.before) (token_instructions bop)) in
    let read : AllByRecursion (λ f. FontIsRead f file.fonts) (selections (token_instructions found.before) ++ selections (token_instructions bop)) =
    subst (λ (fs : List ℤ). AllByRecursion (λ f. FontIsRead f file.fonts) fs) chosen has.read in
    let count = found.count in
    record {
      here = found.here;
      count = omega (arith, count);
      rest = record {
        low = within;
        high = high;
        rest = bop;
        spelled = all_back IsSpelled found.before bop spelled;
        whole = behind;
        passed = found.passed;
        read = all_back (λ f. FontIsRead f file.fonts) (selections (token_instructions found.before)) (selections (token_instructions bop)) read;
        codes = has.codes;
        small = has.small;
      };
      counts = found.counts;
      pointer = found.pointer;
      bytes = found.bytes;
      later = found.later;
      first = refl;
    }

pub begins_here : (file : CheckedFile) (pages : List MarkedPage) (index place n : ℕ) → ShowsPages file pages → index < vec_len file.places → n ≡ vec_len file.places
    → place ≡ slice_index_or file.places.items (n - 1 - index) place → IsAtBop file pages index place
begins_here file pages index place n shows below n_is place_is =
    let size = file.places.ok.0 in
    let last : n - 1 - index ≡ length file.places.items - 1 - index = omega (arith, n_is, size) in
    let here : place ≡ get_or file.places.items (length file.places.items - 1 - index) 0 =
    place_is
    ∙ (ap (λ (k : ℕ). get_or file.places.items k place) last ∙ get_or_default_zero file.places.items (length file.places.items - 1 - index) place (omega (arith, below, size))) in
    subst (λ (k : ℕ). IsAtBop file pages index k) (sym here) (begins_at file pages index shows (omega (arith, below, size)))

-- A file that was checked shows the pages of the file that its bytes are.
pub opened_shows : (files : List NamedBytes) (file : CheckedFile) (after last : ℕ) (postamble : Postamble) (walk : Walk)
    → HasPassed files file.bytes.now (file_framing file.post after last postamble file.places.items) file.from walk
    → (pages : List MarkedPage) (new : List Definition) → ((k : ℕ) → slice_index file.bytes.now k < 256)
    → PagesHaveEnded (pass_state_of walk) (places_left walk) pages → ClosesTo file.bytes.now after (last - 5) (known_of walk) new
    → file.fonts ≡ walk.fonts → file.most ≡ min 1024 postamble.stack_depth → (all : List MarkedPage) × IsFile (file_widths files) file.bytes.now all
    × ShowsPages file all
opened_shows files file after last postamble walk passed pages new small ended closed fonts most =
    let bytes = file.bytes.now in
    let chain = file.places.items in
    let (all, is, rest, placed) = checked_pages files bytes file.post after last postamble chain file.from walk passed pages new small ended closed in
    let both =
    subst₂ (λ (fonts : ReadFonts) (most : ℕ). (rest : HasRest bytes file.from file.post most fonts [] (Between []) all) × (places file.from rest.rest ≡ reverse chain)) (sym fonts) (sym most) (rest, placed) in
    (all, is, record { has = both.0; placed = both.1 })
