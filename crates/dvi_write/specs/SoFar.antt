-- The numbers that the writer keeps of the pages that it has sent, and the bytes that it sends next (own, over the layout of dvi_ops; DVItype, 13 to
-- 20).
use Rattle.std.specs.Prelude.{◌+◌, ◌++◌, [], ◌∷◌, zero, suc, ℕ, ℤ, pos, List, length}
use Rattle.std.specs.Int.{int_max}
use Rattle.dvi_ops.specs.Instruction.{Definition, Instruction, Postamble}
use Rattle.dvi_ops.specs.Layout.{WriterKnowledge, after_preamble, knowledge_after, bytes_of, preamble, file_page_from, postamble_of, closing_of}
use Rattle.dvi_ops.specs.Layout.{ending_of}
use Rattle.dvi_ops.specs.Layout.{padding_after}
use Rattle.node_core.specs.Loads.{Load, load_with_box}
use Rattle.page_core.specs.Marks.{ShippedPage}
use Rattle.page_core.specs.Pages.{reach_down, reach_right}
use Rattle.tfm_core.specs.Slots.{Slots}
use Rattle.dvi_write.specs.FilePages.{definitions_of, in_rising_order, file_page_of, slots_after}

-- The numbers of the layout; the slots of the defined fonts, in order; the greatest bottom and right edge of the pages, at least 0; the number of
-- pages; and their load.
pub record ProgressView : Type 0 where
  pub layout : WriterKnowledge
  pub defined : List ℕ
  pub tall : ℤ
  pub wide : ℤ
  pub pages : ℕ
  pub load : Load

-- The numbers before any page.
abbrev pub nothing_so_far : ProgressView
nothing_so_far = record {
  layout = after_preamble;
  defined = [];
  tall = pos 0;
  wide = pos 0;
  pages = 0;
  load = record { nodes = 0; text = 0 };
}

-- The instructions before the definitions of a page that follows that many others: the preamble before the first page.
abbrev pub opening_instructions : ℕ → List Instruction
opening_instructions zero = preamble ∷ []
opening_instructions (suc n) = []

-- The bytes of the next page, with what comes before it.
unfoldable pub next_bytes : Slots → ProgressView → ShippedPage → List ℕ
next_bytes fonts s page = bytes_of (opening_instructions s.pages ++ file_page_from s.layout.last (file_page_of fonts s.defined page))

-- The numbers after one more page.
unfoldable pub with_next : Slots → ProgressView → ShippedPage → ProgressView
with_next fonts s page =
    record {
      layout = knowledge_after s.layout (file_page_of fonts s.defined page);
      defined = slots_after fonts s.defined page;
      tall = int_max s.tall (reach_down page);
      wide = int_max s.wide (reach_right page);
      pages = s.pages + 1;
      load = load_with_box s.load page.box_node;
    }

-- The numbers after these and more pages.
abbrev pub so_far_from : Slots → ProgressView → List ShippedPage → ProgressView
so_far_from fonts s [] = s
so_far_from fonts s (page ∷ pages) = so_far_from fonts (with_next fonts s page) pages

-- The numbers after these pages.
abbrev pub so_far_of : Slots → List ShippedPage → ProgressView
so_far_of fonts pages = so_far_from fonts nothing_so_far pages

-- The operands of post (TeX: The Program, part 32, §642).
abbrev pub postamble_so_far : ProgressView → Postamble
postamble_so_far s = postamble_of s.layout s.tall s.wide s.pages

-- The definitions of the postamble: those of all defined fonts, in rising order of the slots.
abbrev pub defined_so_far : Slots → ProgressView → List Definition
defined_so_far fonts s = definitions_of fonts (in_rising_order s.defined)

-- The instructions of the postamble.
abbrev pub closing_so_far : Slots → ProgressView → List Instruction
closing_so_far fonts s = closing_of s.layout (postamble_so_far s) (defined_so_far fonts s)

-- The bytes from post to the end of the file: four to seven bytes 223 make its length a multiple of 4.
unfoldable pub last_bytes : Slots → ProgressView → List ℕ
last_bytes fonts s =
    ending_of s.layout (postamble_so_far s) (defined_so_far fonts s) (padding_after (s.layout.size + length (bytes_of (closing_so_far fonts s))))
