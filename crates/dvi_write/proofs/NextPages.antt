-- The bytes that the writer sends for a page, the numbers that it keeps after it, and the file that they make.
use Rattle.std.proofs.Common.{◌≡◌, ◌≢◌, ℕ, zero, suc, ◌+◌, List, [], ◌∷◌, ◌++◌, length, refl, ap, ap₂, sym, ◌∙◌, arith, append-nil}
use Rattle.std.specs.Prelude.{negsuc}
use Rattle.dvi_ops.specs.Instruction.{Instruction}
use Rattle.dvi_ops.specs.Layout.{FilePage, WriterKnowledge, after_preamble, after_all, bytes_of, ending_of, front_of, padding_after, preamble}
use Rattle.dvi_ops.specs.Layout.{file_page_from, postamble_of, whole_of}
use Rattle.dvi_ops.proofs.WholeFile.{front_more, size_of_front}
use Rattle.page_core.specs.Marks.{ShippedPage}
use Rattle.tfm_core.specs.Slots.{Slots}
use Rattle.dvi_write.specs.FilePages.{file_page_of, slots_after}
use Rattle.dvi_write.specs.SoFar.{ProgressView, nothing_so_far, so_far_from, so_far_of, opening_instructions, next_bytes, with_next, defined_so_far, closing_so_far, last_bytes}
use Rattle.dvi_write.specs.Layout.{file_pages_of, unfinished_file, whole}

-- The preamble comes only before the first page.
opening-some : (n : ℕ) → n ≢ 0 → opening_instructions n ≡ []
opening-some zero some = absurd (some refl)
opening-some (suc n) some = refl

-- The numbers after one more page.
so_far_from-append : (fonts : Slots) (s : ProgressView) (pages : List ShippedPage) (page : ShippedPage) → so_far_from fonts s (pages ++ page ∷ []) ≡ with_next fonts (so_far_from fonts s pages) page
so_far_from-append fonts s [] page = refl
so_far_from-append fonts s (p ∷ pages) page = so_far_from-append fonts (with_next fonts s p) pages page

pub so_far-append : (fonts : Slots) (pages : List ShippedPage) (page : ShippedPage) → so_far_of fonts (pages ++ page ∷ []) ≡ with_next fonts (so_far_of fonts pages) page
so_far-append fonts pages page = so_far_from-append fonts nothing_so_far pages page

file_pages_of-append : (fonts : Slots) (s : ProgressView) (pages : List ShippedPage) (page : ShippedPage)
    → file_pages_of fonts s.defined (pages ++ page ∷ []) ≡ file_pages_of fonts s.defined pages ++ file_page_of fonts (so_far_from fonts s pages).defined page ∷ []
unfolding with_next
file_pages_of-append fonts s [] page = refl
file_pages_of-append fonts s (p ∷ pages) page = ap (λ (file_pages : List FilePage). file_page_of fonts s.defined p ∷ file_pages) (file_pages_of-append fonts (with_next fonts s p) pages page)

-- The numbers of the layout are those after all file pages.
pub layout-is : (fonts : Slots) (s : ProgressView) (pages : List ShippedPage) → (so_far_from fonts s pages).layout ≡ after_all s.layout (file_pages_of fonts s.defined pages)
unfolding with_next
layout-is fonts s [] = refl
layout-is fonts s (page ∷ pages) = layout-is fonts (with_next fonts s page) pages

-- The pages are counted, and there are as many file pages.
pages_from : (fonts : Slots) (s : ProgressView) (pages : List ShippedPage) → (so_far_from fonts s pages).pages ≡ s.pages + length pages
unfolding with_next
pages_from fonts s [] = omega arith
pages_from fonts s (page ∷ pages) = omega (arith, pages_from fonts (with_next fonts s page) pages)

pub pages-are : (fonts : Slots) (pages : List ShippedPage) → (so_far_of fonts pages).pages ≡ length pages
pages-are fonts pages = omega (arith, pages_from fonts nothing_so_far pages)

pub length-file_pages : (fonts : Slots) (defined : List ℕ) (pages : List ShippedPage) → length (file_pages_of fonts defined pages) ≡ length pages
length-file_pages fonts defined [] = refl
length-file_pages fonts defined (page ∷ pages) = ap suc (length-file_pages fonts (slots_after fonts defined page) pages)

-- The front of some pages is that of the layout.
front-some : (fonts : Slots) (pages : List ShippedPage) → pages ≢ [] → unfinished_file fonts pages ≡ front_of (file_pages_of fonts [] pages)
unfolding unfinished_file
front-some fonts [] some = absurd (some refl)
front-some fonts (page ∷ pages) some = refl

-- The front of one more page: that of the pages before it, and the bytes sent for it.
pub front-append : (fonts : Slots) (pages : List ShippedPage) (page : ShippedPage)
    → unfinished_file fonts (pages ++ page ∷ []) ≡ unfinished_file fonts pages ++ next_bytes fonts (so_far_of fonts pages) page
unfolding unfinished_file next_bytes
front-append fonts [] page = ap bytes_of (append-nil (preamble ∷ file_page_from (negsuc 0) (file_page_of fonts [] page)))
front-append fonts (p ∷ pages) page =
    let file_pages = file_pages_of fonts [] (p ∷ pages) in
    let s = so_far_of fonts (p ∷ pages) in
    let file_page = file_page_of fonts s.defined page in
    let some : s.pages ≢ 0 = λ none. absurd (omega (arith, pages-are fonts (p ∷ pages), none)) in
    ap front_of (file_pages_of-append fonts nothing_so_far (p ∷ pages) page)
    ∙ (front_more file_pages file_page
    ∙ ap₂ (λ (is : List Instruction) (w : WriterKnowledge). front_of file_pages ++ bytes_of (is ++ file_page_from w.last file_page)) (sym (opening-some s.pages some)) (sym (layout-is fonts nothing_so_far (p ∷ pages))))

-- The layout counts the bytes of its front.
pub size-some : (fonts : Slots) (pages : List ShippedPage) → pages ≢ [] → (so_far_of fonts pages).layout.size ≡ length (unfinished_file fonts pages)
size-some fonts pages some =
    ap (λ (w : WriterKnowledge). w.size) (layout-is fonts nothing_so_far pages) ∙ (size_of_front (file_pages_of fonts [] pages) ∙ ap length (sym (front-some fonts pages some)))

-- The file of some pages is their front and the bytes that are sent at the end.
pub whole-is : (fonts : Slots) (pages : List ShippedPage) → pages ≢ [] → whole fonts pages ≡ unfinished_file fonts pages ++ last_bytes fonts (so_far_of fonts pages)
unfolding whole
whole-is fonts [] some = absurd (some refl)
whole-is fonts (page ∷ pages) some = refl

-- It is the layout's.
pub whole-laid_out : (fonts : Slots) (pages : List ShippedPage) → pages ≢ []
    → whole fonts pages
    ≡ whole_of (file_pages_of fonts [] pages) (so_far_of fonts pages).tall (so_far_of fonts pages).wide (defined_so_far fonts (so_far_of fonts pages))
    (padding_after ((so_far_of fonts pages).layout.size + length (bytes_of (closing_so_far fonts (so_far_of fonts pages)))))
unfolding last_bytes
whole-laid_out fonts pages some =
    let s = so_far_of fonts pages in
    let padding = padding_after (s.layout.size + length (bytes_of (closing_so_far fonts s))) in
    whole-is fonts pages some
    ∙ (ap (λ (bytes : List ℕ). bytes ++ last_bytes fonts s) (front-some fonts pages some)
    ∙ ap₂ (λ (w : WriterKnowledge) (count : ℕ). front_of (file_pages_of fonts [] pages) ++ ending_of w (postamble_of w s.tall s.wide count)
    (defined_so_far fonts s) padding)
    (layout-is fonts nothing_so_far pages) (pages-are fonts pages ∙ sym (length-file_pages fonts [] pages)))
