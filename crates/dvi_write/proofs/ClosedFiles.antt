-- The end of the file that the writer writes for pages.
use Rattle.std.proofs.Common.{◌≡◌, ◌≢◌, ℕ, zero, suc, ◌+◌, ◌≤◌, ◌<◌, ◌%◌, ◌^◌, List, [], ◌∷◌, ◌++◌, length, map, replicate, refl, ap, ap₂, sym, ◌∙◌, subst, arith, lit<, length-append, append-nil}
use Rattle.std.specs.Prelude.{ℤ, pos, negsuc, max, ◌≤ℤ◌, Bool, true, false, int_lt, cond}
use Rattle.std.specs.Int.{int_max}
use Rattle.std.specs.List.{AllByRecursion, Contains, flat_map}
use Rattle.std.proofs.lemmas.Int.{ints, clamps}
use Rattle.std.proofs.lemmas.List.{length-replicate}
use Rattle.dvi_ops.specs.Instruction.{Definition, Instruction, Bop, Eop, Post, PostPost, Postamble, Pre}
use Rattle.dvi_ops.specs.Forest.{flat, nests}
use Rattle.dvi_ops.specs.Fonts.{definitions}
use Rattle.dvi_ops.specs.File.{FilePart, Defines, Shows, instructions, push_depth_of}
use Rattle.dvi_ops.specs.Spelling.{NumberFits, NumbersFit, UnitsFit}
use Rattle.dvi_ops.specs.Layout.{bytes_of, define, preamble, scaled_points, FilePage, WriterKnowledge, after_preamble, file_page_from}
use Rattle.dvi_ops.specs.Layout.{knowledge_after, file_pages_from, after_all, closing_of, front_of, postamble_of, whole_of, padding_after, IsTabled}
use Rattle.dvi_ops.specs.Layout.{IsWritable, Table}
use Rattle.scaled_core.proofs.EachOf.{all_append}
use Rattle.dvi_ops.proofs.Appends.{definitions-append, instructions-append}
use Rattle.dvi_ops.proofs.Layouts.{says-wrote, definitions-define, instructions-define, length-bytes_of-append, parts_of}
use Rattle.dvi_ops.proofs.WholeFile.{frame_of, padding_low, padding_fills, size_of_front}
use Rattle.page_core.specs.Marks.{ShippedPage}
use Rattle.page_core.specs.Pages.{reach_down, reach_right}
use Rattle.node_core.specs.declared.limits.TheConstants.{MAX_DEPTH}
use Rattle.tfm_core.specs.Slots.{Slots, AreDefinable}
use Rattle.dvi_write.specs.FilePages.{written_body, definitions_of, fresh_slots, in_rising_order, file_page_of, slots_after}
use Rattle.dvi_write.specs.SoFar.{ProgressView, nothing_so_far, so_far_from, so_far_of, with_next, closing_so_far}
use Rattle.dvi_write.specs.Layout.{file_pages_of, whole}
use Rattle.dvi_write.specs.Shippable.{slot_widths, IsRightPage}
use Rattle.dvi_write.specs.Closing.{IsGreatestOf, IsOfJob, IsClosedFor}
use Rattle.dvi_write.proofs.DefinedFonts.{each_of}
use Rattle.dvi_write.proofs.Files.{table_of, tabled, tall_fits, wide_fits, small_layout}
use Rattle.dvi_write.proofs.NextPages.{layout-is, length-file_pages, pages-are, whole-laid_out}
use Rattle.dvi_write.proofs.WrittenBodies.{definitions-written, nests_written, writable_written}

-- The greatest of a size of some values and a number.
abbrev farthest : {X : Type 0} → (X → ℤ) → ℤ → List X → ℤ
farthest size z [] = z
farthest size z (x ∷ xs) = farthest size (int_max z (size x)) xs

-- The greatest of a size of some values and a number z is one of them, and none is greater.
farthest_bounds : {X : Type 0} (size : X → ℤ) (z : ℤ) (xs : List X) → (z ≤ℤ farthest size z xs) × AllByRecursion (λ y. y ≤ℤ farthest size z xs) (map size xs)
farthest_bounds size z [] = (omega (arith, ints), tt)
farthest_bounds size z (x ∷ xs) =
    let later = farthest_bounds size (int_max z (size x)) xs in
    (omega (arith, ints, clamps, later.0), (omega (arith, ints, clamps, later.0), later.1))

-- An element of a list is one of a longer list.
in_tail : (x z : ℤ) (xs : List ℤ) → Contains xs z → Contains (x ∷ xs) z
in_tail x z xs (k, within, is) = (suc k, omega (arith, within), is)

in_tail_after_first : (a x z : ℤ) (xs : List ℤ) → Contains (a ∷ xs) z → Contains (a ∷ x ∷ xs) z
in_tail_after_first a x z xs (zero, within, is) = (zero, omega arith, is)
in_tail_after_first a x z xs (suc k, within, is) = (suc (suc k), omega (arith, within), is)

either_first : (a x z : ℤ) (xs : List ℤ) → Contains (int_max a x ∷ xs) z → Contains (a ∷ x ∷ xs) z
either_first a x z xs has = by_test (int_lt x a) refl
  where
    by_test : (less : Bool) → int_lt x a ≡ less → Contains (a ∷ x ∷ xs) z
    by_test true is = in_tail_after_first a x z xs (subst (λ y. Contains (y ∷ xs) z) (ap (λ t. cond t a x) is) has)
    by_test false is = in_tail a z (x ∷ xs) (subst (λ y. Contains (y ∷ xs) z) (ap (λ t. cond t a x) is) has)

farthest_reached : {X : Type 0} (size : X → ℤ) (z : ℤ) (xs : List X) → Contains (z ∷ map size xs) (farthest size z xs)
farthest_reached size z [] = (zero, omega arith, refl)
farthest_reached size z (x ∷ xs) =
    either_first z (size x) (farthest size (int_max z (size x)) xs) (map size xs) (farthest_reached size (int_max z (size x)) xs)

farthest-greatest : {X : Type 0} (size : X → ℤ) (xs : List X) → IsGreatestOf (pos 0 ∷ map size xs) (farthest size (pos 0) xs)
farthest-greatest size xs = record { bounds = farthest_bounds size (pos 0) xs; reached = farthest_reached size (pos 0) xs }

-- The writer keeps the greatest sizes of its pages.
tall-is : (fonts : Slots) (s : ProgressView) (pages : List ShippedPage) → farthest reach_down s.tall pages ≡ (so_far_from fonts s pages).tall
unfolding with_next
tall-is fonts s [] = refl
tall-is fonts s (page ∷ pages) = tall-is fonts (with_next fonts s page) pages

wide-is : (fonts : Slots) (s : ProgressView) (pages : List ShippedPage) → farthest reach_right s.wide pages ≡ (so_far_from fonts s pages).wide
unfolding with_next
wide-is fonts s [] = refl
wide-is fonts s (page ∷ pages) = wide-is fonts (with_next fonts s page) pages

farthest-append : {X : Type 0} (size : X → ℤ) (z : ℤ) (xs ys : List X) → farthest size z (xs ++ ys) ≡ farthest size (farthest size z xs) ys
farthest-append size z [] ys = refl
farthest-append size z (x ∷ xs) ys = farthest-append size (int_max z (size x)) xs ys

-- The layout of the pages can be spelled, and the last place fits.
grows : (fonts : Slots) (slots : List ℕ) (s : WriterKnowledge) (pages : List ShippedPage) → s.size ≤ (after_all s (file_pages_of fonts slots pages)).size
grows fonts slots s [] = omega arith
grows fonts slots s (page ∷ pages) = omega (arith, grows fonts (slots_after fonts slots page) (knowledge_after s (file_page_of fonts slots page)) pages)

-- The place of a bop is before the end of its page.
place_fits : (fonts : Slots) (slots : List ℕ) (s : WriterKnowledge) (page : ShippedPage) (pages : List ShippedPage) → (after_all s (file_pages_of fonts slots (page ∷ pages))).size < 2 ^ 31
    → NumberFits (pos (s.size + length (bytes_of (define (file_page_of fonts slots page).fresh))))
place_fits fonts slots s page pages small =
    let file_page = file_page_of fonts slots page in
    record {
      sfits =
          omega (
            arith,
            grows fonts (slots_after fonts slots page) (knowledge_after s file_page) pages,
            length-bytes_of-append (define file_page.fresh) (Bop file_page.counts s.last ∷ (flat file_page.body ++ Eop ∷ [])),
            small,
          );
    }

last_fits : (fonts : Slots) (slots : List ℕ) (s : WriterKnowledge) (pages : List ShippedPage) → NumberFits s.last → (after_all s (file_pages_of fonts slots pages)).size < 2 ^ 31
    → NumberFits (after_all s (file_pages_of fonts slots pages)).last
last_fits fonts slots s [] fit small = fit
last_fits fonts slots s (page ∷ pages) fit small =
    last_fits fonts (slots_after fonts slots page) (knowledge_after s (file_page_of fonts slots page)) pages (place_fits fonts slots s page pages small) small

all_defined : (table : Table) (ds : List Definition) → AllByRecursion (IsTabled table) ds → AllByRecursion IsWritable (define ds)
all_defined table [] all = tt
all_defined table (d ∷ ds) (here, all) = (here.writable, all_defined table ds all)

pages_writable : (fonts : Slots) → AreDefinable fonts → (slots : List ℕ) (s : WriterKnowledge) (pages : List ShippedPage)
    → AllByRecursion (IsRightPage fonts) pages → NumberFits s.last → (after_all s (file_pages_of fonts slots pages)).size < 2 ^ 31
    → AllByRecursion IsWritable (file_pages_from s (file_pages_of fonts slots pages))
pages_writable fonts definable slots s [] all fit small = tt
pages_writable fonts definable slots s (page ∷ pages) (here, all) fit small =
    let file_page = file_page_of fonts slots page in
    let next = knowledge_after s file_page in
    let later = slots_after fonts slots page in
    all_append IsWritable (file_page_from s.last file_page) (file_pages_from next (file_pages_of fonts later pages))
    (all_append IsWritable (define file_page.fresh) (Bop page.counts s.last ∷ (flat file_page.body ++ Eop ∷ [])) (all_defined (table_of fonts) file_page.fresh
    (each_of (IsTabled (table_of fonts)) fonts (fresh_slots fonts slots (flat (written_body page))) (λ s l among has. tabled fonts definable s l has)))
    ((tt, (here.ten, here.counts_fit, fit)), all_append IsWritable (flat file_page.body) (Eop ∷ []) (writable_written (slot_widths fonts) page here.small here.sound.glyphs (omega (arith, here.text))) ((tt, tt), tt)))
    (pages_writable fonts definable later next pages all (place_fits fonts slots s page pages small) small)

-- The pages have few open pushes.
few_pushes : (fonts : Slots) (slots : List ℕ) (s : WriterKnowledge) (pages : List ShippedPage) → AllByRecursion (IsRightPage fonts) pages → s.depth ≤ MAX_DEPTH
    → (after_all s (file_pages_of fonts slots pages)).depth ≤ MAX_DEPTH
few_pushes fonts slots s [] all few = few
few_pushes fonts slots s (page ∷ pages) (here, all) few =
    few_pushes fonts (slots_after fonts slots page) (knowledge_after s (file_page_of fonts slots page)) pages all (omega (arith, few, nests_written page, here.sound.depth))

-- The parts of the layout of pages: the definitions of their fresh fonts, and the pages.
parts_from : Slots → List ℕ → WriterKnowledge → List ShippedPage → List FilePart
parts_from fonts slots s [] = []
parts_from fonts slots s (page ∷ pages) =
    parts_of s.last (file_page_of fonts slots page) ++ parts_from fonts (slots_after fonts slots page) (knowledge_after s (file_page_of fonts slots page)) pages

one_page : (last : ℤ) (p : FilePage) → file_page_from last p ≡ flat_map instructions (parts_of last p)
one_page last p =
    let shows = Shows p.counts last p.body in
    ap₂ (λ (a b : List Instruction). a ++ b) (sym (instructions-define p.fresh)) (sym (append-nil (instructions shows)))
    ∙ sym (instructions-append (map (λ d. Defines d) p.fresh) (shows ∷ []))

instructions_from : (fonts : Slots) (slots : List ℕ) (s : WriterKnowledge) (pages : List ShippedPage) → file_pages_from s (file_pages_of fonts slots pages) ≡ flat_map instructions (parts_from fonts slots s pages)
unfolding parts_from
instructions_from fonts slots s [] = refl
instructions_from fonts slots s (page ∷ pages) =
    let file_page = file_page_of fonts slots page in
    let later = slots_after fonts slots page in
    ap₂ (λ (a b : List Instruction). a ++ b) (one_page s.last file_page) (instructions_from fonts later (knowledge_after s file_page) pages)
    ∙ sym (instructions-append (parts_of s.last file_page) (parts_from fonts later (knowledge_after s file_page) pages))

-- The greatest number of pushes that are open at once in a part.
abbrev part_depth : FilePart → ℤ
part_depth part = pos (push_depth_of part)

max-deeper : (n m : ℕ) → int_max (pos n) (pos m) ≡ pos (max n m)
max-deeper n m = omega (arith, ints, clamps)

-- A definition has no open push.
definitions-flat : (n : ℕ) (ds : List Definition) → farthest part_depth (pos n) (map (λ d. Defines d) ds) ≡ pos n
definitions-flat n [] = refl
definitions-flat n (d ∷ ds) = ap (λ z. farthest part_depth z (map (λ d. Defines d) ds)) (max-deeper n 0) ∙ (ap (λ k. farthest part_depth (pos k) (map (λ d. Defines d) ds)) (max-none n) ∙ definitions-flat n ds)
  where
    max-none : (n : ℕ) → max n 0 ≡ n
    max-none n = omega arith

page-deeper : (n : ℕ) (last : ℤ) (p : FilePage) → farthest part_depth (pos n) (parts_of last p) ≡ pos (max n (nests p.body))
page-deeper n last p =
    farthest-append part_depth (pos n) (map (λ d. Defines d) p.fresh) (Shows p.counts last p.body ∷ [])
    ∙ (ap (λ z. int_max z (pos (nests p.body))) (definitions-flat n p.fresh) ∙ max-deeper n (nests p.body))

-- The layout keeps the greatest number of pushes that are open at once in its parts.
depth-is : (fonts : Slots) (slots : List ℕ) (s : WriterKnowledge) (pages : List ShippedPage)
    → farthest part_depth (pos s.depth) (parts_from fonts slots s pages) ≡ pos (after_all s (file_pages_of fonts slots pages)).depth
unfolding parts_from
depth-is fonts slots s [] = refl
depth-is fonts slots s (page ∷ pages) =
    let file_page = file_page_of fonts slots page in
    let later = slots_after fonts slots page in
    let parts = parts_from fonts later (knowledge_after s file_page) pages in
    farthest-append part_depth (pos s.depth) (parts_of s.last file_page) parts
    ∙ (ap (λ z. farthest part_depth z parts) (page-deeper s.depth s.last file_page) ∙ depth-is fonts later (knowledge_after s file_page) pages)

-- The definitions in the layout are those of the job's fonts.
job_definitions : (fonts : Slots) (slots : List ℕ) → AllByRecursion (IsOfJob fonts) (definitions_of fonts slots)
job_definitions fonts slots = each_of (IsOfJob fonts) fonts slots (λ s l among has. record { slot = s; loaded = l; held = has; is = refl })

page_definitions : (fonts : Slots) (slots : List ℕ) (last : ℤ) (page : ShippedPage)
    → definitions (file_page_from last (file_page_of fonts slots page)) ≡ definitions_of fonts (fresh_slots fonts slots (flat (written_body page)))
page_definitions fonts slots last page =
    let fresh = definitions_of fonts (fresh_slots fonts slots (flat (written_body page))) in
    let shows = Bop page.counts last ∷ (flat (written_body page) ++ Eop ∷ []) in
    let none : definitions shows ≡ [] = definitions-append (flat (written_body page)) (Eop ∷ []) ∙ (append-nil (definitions (flat (written_body page))) ∙ definitions-written page) in
    definitions-append (define fresh) shows ∙ (ap₂ (λ (a b : List Definition). a ++ b) (definitions-define fresh) none ∙ append-nil fresh)

front_definitions : (fonts : Slots) (slots : List ℕ) (s : WriterKnowledge) (pages : List ShippedPage) → AllByRecursion (IsOfJob fonts) (definitions (file_pages_from s (file_pages_of fonts slots pages)))
front_definitions fonts slots s [] = tt
front_definitions fonts slots s (page ∷ pages) =
    let file_page = file_page_of fonts slots page in
    let later = slots_after fonts slots page in
    subst (AllByRecursion (IsOfJob fonts)) (sym (definitions-append (file_page_from s.last file_page) (file_pages_from (knowledge_after s file_page) (file_pages_of fonts later pages))))
    (all_append (IsOfJob fonts) (definitions (file_page_from s.last file_page)) (definitions (file_pages_from (knowledge_after s file_page) (file_pages_of fonts later pages)))
    (subst (AllByRecursion (IsOfJob fonts)) (sym (page_definitions fonts slots s.last page)) (job_definitions fonts (fresh_slots fonts slots (flat (written_body page)))))
    (front_definitions fonts later (knowledge_after s file_page) pages))

all_definitions : (fonts : Slots) (slots : List ℕ) (pages : List ShippedPage)
    → AllByRecursion (IsOfJob fonts) (definitions ((preamble ∷ file_pages_from after_preamble (file_pages_of fonts [] pages)) ++ define (definitions_of fonts (in_rising_order slots))))
all_definitions fonts slots pages =
    let is = preamble ∷ file_pages_from after_preamble (file_pages_of fonts [] pages) in
    let ds = definitions_of fonts (in_rising_order slots) in
    subst (AllByRecursion (IsOfJob fonts)) (sym (definitions-append is (define ds)))
    (all_append (IsOfJob fonts) (definitions is) (definitions (define ds)) (front_definitions fonts [] after_preamble pages)
    (subst (AllByRecursion (IsOfJob fonts)) (sym (definitions-define ds)) (job_definitions fonts (in_rising_order slots))))

-- The end of a file: instructions that can be spelled, post, definitions, post_post that names the place of post, and bytes 223.
framed :
    (fonts : Slots) (is : List Instruction) (postamble : Postamble) (tail : List Instruction) (place padding : ℕ) (pages : List ShippedPage)
    (parts : List FilePart)
    → AllByRecursion (IsOfJob fonts) (definitions (is ++ tail)) → is ≡ Pre 2 postamble.units [] ∷ flat_map instructions parts
    → postamble.units ≡ scaled_points
    → AllByRecursion IsWritable is → NumbersFit (Post postamble) → AllByRecursion IsWritable tail → place ≡ length (bytes_of is) → place < 2 ^ 31
    → 4 ≤ padding → padding ≤ 7
    → IsGreatestOf (pos 0 ∷ map reach_down pages) postamble.height_plus_depth → IsGreatestOf (pos 0 ∷ map reach_right pages) postamble.width
    → IsGreatestOf (pos 0 ∷ map (λ part. pos (push_depth_of part)) parts) (pos postamble.stack_depth)
    → length (bytes_of is ++ (bytes_of (Post postamble ∷ (tail ++ PostPost (pos place) 2 ∷ [])) ++ replicate padding 223)) % 4 ≡ 0
    → IsClosedFor fonts (bytes_of is ++ (bytes_of (Post postamble ∷ (tail ++ PostPost (pos place) 2 ∷ [])) ++ replicate padding 223)) pages
unfolding frame_of
framed fonts is postamble tail place padding pages parts defined front_is units fits postamble_fits tail_fits at small least most tall
    wide deep fills =
    record {
      frame = frame_of is postamble tail place padding fits postamble_fits tail_fits at small least;
      parts = parts;
      front_is = says-wrote is ∙ front_is;
      units = units;
      defined = rw (says-wrote is, says-wrote tail) defined;
      tall = tall;
      wide = wide;
      deep = deep;
      least = least;
      most = most;
      fills = fills;
    }

-- The length of a file in the layout.
length-whole : (file_pages : List FilePage) (tall wide : ℤ) (closing : List Definition) (padding : ℕ) → length (whole_of file_pages tall wide closing padding)
    ≡ (after_all after_preamble file_pages).size
    + length (bytes_of (closing_of (after_all after_preamble file_pages)
    (postamble_of (after_all after_preamble file_pages) tall wide (length file_pages)) closing)) + padding
length-whole file_pages tall wide closing padding =
    let s = after_all after_preamble file_pages in
    let end = bytes_of (closing_of s (postamble_of s tall wide (length file_pages)) closing) in
    omega (
      arith,
      length-append (front_of file_pages) (end ++ replicate padding 223),
      length-append end (replicate padding 223),
      length-replicate {A = ℕ} padding 223,
      size_of_front file_pages,
    )

-- The file of pages, as it is laid out, has the right end.
laid_out_closes : (fonts : Slots) (pages : List ShippedPage) (padding : ℕ) → AreDefinable fonts → AllByRecursion (IsRightPage fonts) pages
    → (after_all after_preamble (file_pages_of fonts [] pages)).size < 2 ^ 31 → 4 ≤ padding → padding ≤ 7
    → length (whole_of (file_pages_of fonts [] pages) (so_far_of fonts pages).tall (so_far_of fonts pages).wide (definitions_of fonts (in_rising_order (so_far_of fonts pages).defined)) padding) % 4 ≡ 0
    → IsClosedFor fonts (whole_of (file_pages_of fonts [] pages) (so_far_of fonts pages).tall (so_far_of fonts pages).wide (definitions_of fonts (in_rising_order (so_far_of fonts pages).defined)) padding) pages
laid_out_closes fonts pages padding definable all below least most fills =
    let file_pages = file_pages_of fonts [] pages in
    let s = after_all after_preamble file_pages in
    let kept = so_far_of fonts pages in
    let is = preamble ∷ file_pages_from after_preamble file_pages in
    let parts = parts_from fonts [] after_preamble pages in
    let postamble = postamble_of s kept.tall kept.wide (length file_pages) in
    let closing = definitions_of fonts (in_rising_order kept.defined) in
    let first : NumberFits (negsuc 0) = record { sfits = omega arith } in
    let units : UnitsFit scaled_points = (record { sfits = lit< tt }, record { sfits = lit< tt }, record { sfits = lit< tt }) in
    framed fonts is postamble (define closing) s.size padding pages parts (all_definitions fonts kept.defined pages)
    (ap (λ (is : List Instruction). preamble ∷ is) (instructions_from fonts [] after_preamble pages))
    refl
    (((lit< tt, units), pages_writable fonts definable [] after_preamble pages all first below))
    (last_fits fonts [] after_preamble pages first below, units, tall_fits fonts pages all, wide_fits fonts pages all, omega (arith, few_pushes fonts [] after_preamble pages all (omega arith)), omega arith)
    (all_defined (table_of fonts) closing (each_of (IsTabled (table_of fonts)) fonts (in_rising_order kept.defined) (λ s l among has. tabled fonts definable s l has)))
    (size_of_front file_pages) below least most
    (subst (IsGreatestOf (pos 0 ∷ map reach_down pages)) (tall-is fonts nothing_so_far pages) (farthest-greatest reach_down pages))
    (subst (IsGreatestOf (pos 0 ∷ map reach_right pages)) (wide-is fonts nothing_so_far pages) (farthest-greatest reach_right pages))
    (subst (IsGreatestOf (pos 0 ∷ map part_depth parts)) (depth-is fonts [] after_preamble pages) (farthest-greatest part_depth parts))
    fills

pub file_closes : (fonts : Slots) (pages : List ShippedPage) → AreDefinable fonts → pages ≢ [] → AllByRecursion (IsRightPage fonts) pages
    → (so_far_of fonts pages).layout.size < 2 ^ 31 → IsClosedFor fonts (whole fonts pages) pages
file_closes fonts pages definable some all small =
    let file_pages = file_pages_of fonts [] pages in
    let s = so_far_of fonts pages in
    let closing = definitions_of fonts (in_rising_order s.defined) in
    let size = s.layout.size + length (bytes_of (closing_so_far fonts s)) in
    let same : s.layout ≡ after_all after_preamble file_pages = layout-is fonts nothing_so_far pages in
    let counted : size ≡ (after_all after_preamble file_pages).size + length
    (bytes_of (closing_of (after_all after_preamble file_pages)
    (postamble_of (after_all after_preamble file_pages) s.tall s.wide (length file_pages)) closing)) =
    ap₂ (λ (w : WriterKnowledge) (count : ℕ). w.size + length (bytes_of (closing_of w (postamble_of w s.tall s.wide count) closing))) same
    (pages-are fonts pages ∙ sym (length-file_pages fonts [] pages)) in
    let fills = ap (λ n. n % 4) (length-whole file_pages s.tall s.wide closing (padding_after size) ∙ ap (λ n. n + padding_after size) (sym counted)) ∙ padding_fills size in
    subst (λ (bytes : List ℕ). IsClosedFor fonts bytes pages) (sym (whole-laid_out fonts pages some))
    (laid_out_closes fonts pages (padding_after size) definable all (small_layout fonts pages small) (padding_low size) (omega arith) fills)
