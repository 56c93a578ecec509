-- The file that the writer writes for pages: `unfinished_file`, up to the last eop, and `whole` (own, over the layout of dvi_ops; DVItype, 13 to 20;
-- TeX: The Program, part 32, §640 to §642). Both are empty without pages.
use Rattle.std.specs.Prelude.{◌++◌, [], ◌∷◌, ℕ, List}
use Rattle.dvi_ops.specs.Layout.{FilePage, front_of}
use Rattle.page_core.specs.Marks.{ShippedPage}
use Rattle.tfm_core.specs.Slots.{Slots}
use Rattle.dvi_write.specs.FilePages.{file_page_of, slots_after}
use Rattle.dvi_write.specs.SoFar.{so_far_of, last_bytes}

-- The input to the layout for pages, each after the definitions before it.
abbrev pub file_pages_of : Slots → (defined : List ℕ) → List ShippedPage → List FilePage
file_pages_of fonts defined [] = []
file_pages_of fonts defined (page ∷ pages) = file_page_of fonts defined page ∷ file_pages_of fonts (slots_after fonts defined page) pages

-- The bytes for pages up to the last eop.
unfoldable pub unfinished_file : Slots → List ShippedPage → List ℕ
unfinished_file fonts [] = []
unfinished_file fonts (page ∷ pages) = front_of (file_pages_of fonts [] (page ∷ pages))

-- The whole file of pages: those bytes, and the end.
unfoldable pub whole : Slots → List ShippedPage → List ℕ
whole fonts [] = []
whole fonts (page ∷ pages) = unfinished_file fonts (page ∷ pages) ++ last_bytes fonts (so_far_of fonts (page ∷ pages))
