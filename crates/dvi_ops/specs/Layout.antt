-- How this writer lays a file out (own; the law `whole_is_file` connects it with `IsFile`): the preamble, for each page the definitions of its new
-- fonts and the page, then the postamble.
use Rattle.std.specs.Prelude.{◌≡◌, ◌≤◌, ◌+◌, ◌-◌, ◌%◌, ◌++◌, max, [], ◌∷◌, List, length, map, replicate, ℕ, ℤ, pos, negsuc, Option, Some, IsSome}
use Rattle.std.specs.List.{flat_map, AllByRecursion}
use Rattle.dvi_ops.specs.Instruction.{Definition, Units, Postamble, FontDef, Instruction, Do, Bop, Eop, Pre, Post, PostPost}
use Rattle.dvi_ops.specs.Spelling.{spelling, HasSpelling, NumberFits, NumbersFit}
use Rattle.dvi_ops.specs.Body.{DviState, Widths, instruction_acts, bounded_acts, start}
use Rattle.scaled_core.specs.Mark.{Mark}
use Rattle.dvi_ops.specs.Forest.{Forest, flat, meaning, nests}
use Rattle.dvi_ops.specs.Fonts.{WidthsByName, IsFontSize, definitions, selections, first_definition_of, known_after, widths_in, width_in}
use Rattle.dvi_ops.specs.File.{MarkedPage, max_pushes}

-- The bytes of instructions, each by its written spelling.
abbrev pub bytes_of : List Instruction → List ℕ
bytes_of is = flat_map spelling is

-- The units of a scaled point: 25400000 / 473628672 times 10^-7 metres (TeX: The Program, part 32, §617).
abbrev pub scaled_points : Units
scaled_points = record { num = pos 25400000; den = pos 473628672; mag = pos 1000 }

-- The preamble: version 2, in scaled points, without a comment.
abbrev pub preamble : Instruction
preamble = Pre 2 scaled_points []

-- The definitions of fonts, in order.
abbrev pub define : List Definition → List Instruction
define fonts = map (λ d. Do (FontDef d)) fonts

-- The input for one page: its ten counts, the definitions of the fonts that no earlier page uses, and its body.
pub record FilePage : Type 0 where
  pub counts : List ℤ
  pub fresh : List Definition
  pub body : Forest

-- What the writer has written so far: the place of the last bop, or -1; the number of bytes; and the greatest number of pushes open at once.
pub record WriterKnowledge : Type 0 where
  pub last : ℤ
  pub size : ℕ
  pub depth : ℕ

-- The writer's numbers after the preamble, which has 15 bytes.
abbrev pub after_preamble : WriterKnowledge
after_preamble = record { last = negsuc 0; size = 15; depth = 0 }

-- The instructions for a page, where the previous bop is at `last`.
abbrev pub file_page_from : ℤ → FilePage → List Instruction
file_page_from last p = define p.fresh ++ (Bop p.counts last ∷ (flat p.body ++ Eop ∷ []))

-- The writer's numbers after a page.
abbrev pub knowledge_after : WriterKnowledge → FilePage → WriterKnowledge
knowledge_after s p =
    record {
      last = pos (s.size + length (bytes_of (define p.fresh)));
      size = s.size + length (bytes_of (file_page_from s.last p));
      depth = max s.depth (nests p.body);
    }

-- The instructions for pages, in order.
abbrev pub file_pages_from : WriterKnowledge → List FilePage → List Instruction
file_pages_from s [] = []
file_pages_from s (p ∷ rest) = file_page_from s.last p ++ file_pages_from (knowledge_after s p) rest

-- The writer's numbers after these pages.
abbrev pub after_all : WriterKnowledge → List FilePage → WriterKnowledge
after_all s [] = s
after_all s (p ∷ rest) = after_all (knowledge_after s p) rest

-- The bytes of a file up to the last eop.
abbrev pub front_of : List FilePage → List ℕ
front_of file_pages = bytes_of (preamble ∷ file_pages_from after_preamble file_pages)

-- The operands of post, with the greatest sizes of the pages and their number.
abbrev pub postamble_of : WriterKnowledge → (tall wide : ℤ) → (count : ℕ) → Postamble
postamble_of s tall wide count =
    record { last_bop = s.last; units = scaled_points; height_plus_depth = tall; width = wide; stack_depth = s.depth; pages = count % 65536 }

-- The instructions of the postamble: post, definitions of fonts, and post_post, which names the place of post.
abbrev pub closing_of : WriterKnowledge → Postamble → List Definition → List Instruction
closing_of s postamble closing = Post postamble ∷ (define closing ++ PostPost (pos s.size) 2 ∷ [])

-- The bytes from post to the end of a file.
abbrev pub ending_of : WriterKnowledge → Postamble → List Definition → (padding : ℕ) → List ℕ
ending_of s postamble closing padding = bytes_of (closing_of s postamble closing) ++ replicate padding 223

-- The whole file, with these greatest sizes, and these definitions in the postamble.
abbrev pub whole_of : List FilePage → (tall wide : ℤ) → List Definition → (padding : ℕ) → List ℕ
whole_of file_pages tall wide closing padding =
    front_of file_pages ++ ending_of (after_all after_preamble file_pages)
    (postamble_of (after_all after_preamble file_pages) tall wide (length file_pages)) closing padding

-- How many bytes 223 follow `size` bytes: 4 to 7, so that the length is a multiple of 4 (TeX: The Program, part 32, §642).
abbrev pub padding_after : ℕ → ℕ
padding_after size = 7 - (size + 3) % 4

-- The fonts of a job by their numbers.
abbrev pub Table : Type 0
Table = ℤ → Option Definition

-- The width of each character of the job's fonts.
abbrev pub table_widths : WidthsByName → Table → Widths
table_widths metrics table f c = width_in (widths_in metrics (table f)) c

-- The numbers and the lengths of an instruction fit their fields.
abbrev pub IsWritable : Instruction → Type 0
IsWritable i = HasSpelling i × NumbersFit i

-- A definition is the job's for its number, has a valid size, and can be written.
pub record IsTabled (table : Table) (d : Definition) : Type 0 where
  pub listed : table d.number ≡ Some d
  pub size : IsFontSize d.size
  pub writable : IsWritable (Do (FontDef d))

-- A page may follow the definitions `known`, and has these marks.
pub record IsGood (metrics : WidthsByName) (table : Table) (known : List Definition) (p : FilePage) (marks : List Mark) : Type 0 where
  pub ten : length p.counts ≡ 10
  pub counts_fit : AllByRecursion NumberFits p.counts
  pub fresh : AllByRecursion (IsTabled table) p.fresh
  pub writable : AllByRecursion IsWritable (flat p.body)
  -- The body defines no font, and selects only fonts that are known or fresh and have widths.
  pub plain : definitions (flat p.body) ≡ []
  pub chosen : AllByRecursion (λ f. IsSome (first_definition_of f (known_after known (define p.fresh)))) (selections (flat p.body))
  pub measured : AllByRecursion (λ f. IsSome (widths_in metrics (table f))) (selections (flat p.body))
  pub shallow : nests p.body ≤ max_pushes
  pub last : DviState
  pub shows : meaning (bounded_acts (instruction_acts (table_widths metrics table))) p.body start ≡ Some (marks, last)

-- The definitions before and in pages, the last one first.
abbrev pub known_in : (known : List Definition) → List FilePage → List Definition
known_in known [] = known
known_in known (p ∷ rest) = known_in (known_after known (define p.fresh)) rest

-- Each page is good after the definitions before it, and the marked pages have their counts and marks.
abbrev pub AreGood : WidthsByName → Table → (known : List Definition) → List FilePage → List MarkedPage → Type 0
AreGood metrics table known [] [] = Unit {0}
AreGood metrics table known [] (page ∷ pages) = ⊥
AreGood metrics table known (p ∷ rest) [] = ⊥
AreGood metrics table known (p ∷ rest) (page ∷ pages) =
    (page.counts ≡ p.counts) × IsGood metrics table known p page.marks × AreGood metrics table (known_after known (define p.fresh)) rest pages

-- The definitions of the postamble: each is the job's, and all known fonts are among them.
pub record IsClosing (table : Table) (known closing : List Definition) : Type 0 where
  pub tabled : AllByRecursion (IsTabled table) closing
  pub each : (f : ℤ) → IsSome (first_definition_of f known) → IsSome (first_definition_of f closing)
