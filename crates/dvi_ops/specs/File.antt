-- The definition of a DVI file with a list of pages (DVItype, 13 to 20; that there may be no page is own).
use Rattle.std.specs.Prelude.{◌≡◌, ◌≤◌, ◌<ℤ◌, ◌%◌, ◌++◌, min, [], ◌∷◌, List, length, map, replicate, ℕ, ℤ, pos, negsuc, Option, Some, None, IsSome}
use Rattle.std.specs.List.{flat_map, AllByRecursion}
use Rattle.dvi_ops.specs.Instruction.{Definition, Units, Postamble, Nop, FontDef, Instruction, Do, Bop, Eop, Pre, Post, PostPost}
use Rattle.dvi_ops.specs.Table.{Spells}
use Rattle.dvi_ops.specs.Body.{Meaning, Acts, instruction_acts, bounded_acts, start}
pub use Rattle.scaled_core.specs.Mark.{MarkedPage}
use Rattle.dvi_ops.specs.Forest.{Forest, flat, meaning, nests}
use Rattle.dvi_ops.specs.Tokens.{Token, IsSpelled, token_instructions, token_bytes, places, pointers}
use Rattle.dvi_ops.specs.Fonts.{WidthsByName, FontsAreRight, definitions, selections, font, widths_of}

-- A part between the preamble and the postamble: a nop, a font definition, or a page (DVItype, 14 and 15).
pub data FilePart : Type 0 where
  Idle : FilePart
  Defines : Definition → FilePart
  Shows : (counts : List ℤ) (pointer : ℤ) (body : Forest) → FilePart

-- The instructions of a part. A page is bop, its body and eop.
abbrev pub instructions : FilePart → List Instruction
instructions Idle = Do Nop ∷ []
instructions (Defines d) = Do (FontDef d) ∷ []
instructions (Shows counts pointer body) = Bop counts pointer ∷ (flat body ++ Eop ∷ [])

-- A page with the marks of its body, before the other pages.
abbrev pub page_then : List ℤ → Meaning → Option (List MarkedPage) → Option (List MarkedPage)
page_then counts None pages = None
page_then counts (Some (marks, last)) None = None
page_then counts (Some (marks, last)) (Some pages) = Some (record { counts = counts; marks = marks } ∷ pages)

-- The pages of the parts, each with the marks of its body from six zeros and no font; None where a body has no meaning.
abbrev pub pages_of : Acts → List FilePart → Option (List MarkedPage)
pages_of does [] = Some []
pages_of does (Idle ∷ rest) = pages_of does rest
pages_of does (Defines d ∷ rest) = pages_of does rest
pages_of does (Shows counts pointer body ∷ rest) = page_then counts (meaning does body start) (pages_of does rest)

-- The greatest number of pushes that may be open at once on a page, whatever post allows (own).
abbrev pub max_pushes : ℕ
max_pushes = 1024

-- The greatest number of pushes that are open at once in a part.
abbrev pub push_depth_of : FilePart → ℕ
push_depth_of Idle = 0
push_depth_of (Defines d) = 0
push_depth_of (Shows counts pointer body) = nests body

-- A nop or a font definition (DVItype, 19).
abbrev pub IsIdle : Instruction → Type 0
IsIdle (Do Nop) = Unit {0}
IsIdle (Do (FontDef d)) = Unit {0}
IsIdle i = ⊥

-- The values num, den and mag are positive (DVItype, 17).
abbrev pub AreUnits : Units → Type 0
AreUnits u = (pos 0 <ℤ u.num) × (pos 0 <ℤ u.den) × (pos 0 <ℤ u.mag)

-- The instructions that the bytes spell: those before post, post, those after it, and post_post, which names the place of post and the version 2.
-- Four or more bytes 223 follow, up to the end (DVItype, 19 and 20).
pub record Frame (bytes : List ℕ) : Type 0 where
  pub front : List Token
  pub post : List ℕ
  pub postamble : Postamble
  pub tail : List Token
  pub ending : List ℕ
  pub padding : ℕ
  pub whole : bytes ≡ token_bytes front ++ (post ++ (token_bytes tail ++ (ending ++ replicate padding 223)))
  pub padded : 4 ≤ padding
  pub front_spelled : AllByRecursion IsSpelled front
  pub post_spelled : Spells (Post postamble) post
  pub tail_spelled : AllByRecursion IsSpelled tail
  pub ending_spelled : Spells (PostPost (pos (length (token_bytes front))) 2) ending

-- The bytes are a DVI file of these pages, with these metric files.
pub record IsFile (metrics : WidthsByName) (bytes : List ℕ) (pages : List MarkedPage) : Type 0 where
  pub frame : Frame bytes
  -- A preamble of version 2, then nops, font definitions and pages. Between post and post_post there are nops and font definitions alone (DVItype,
  -- 14, 17 and 19).
  pub comment : List ℕ
  pub parts : List FilePart
  pub front_is : token_instructions frame.front ≡ Pre 2 frame.postamble.units comment ∷ flat_map instructions parts
  pub tail_is : AllByRecursion IsIdle (token_instructions frame.tail)
  -- The values num, den and mag are positive, and the same in preamble and postamble (DVItype, 17 and 19).
  pub units : AreUnits frame.postamble.units
  -- The first bop names -1, each other bop the one before it, and post the last one (DVItype, 15 and 19).
  pub chain : pointers (token_instructions frame.front) ++ frame.postamble.last_bop ∷ [] ≡ negsuc 0 ∷ map pos (places 0 frame.front)
  -- The operand of post is the number of pages modulo 65536 (DVItype, 19).
  pub count : frame.postamble.pages ≡ length pages % 65536
  -- Each definition has a size and agrees with earlier ones, and each font is defined before it is selected (DVItype, 18).
  pub fonts : FontsAreRight [] (token_instructions frame.front ++ token_instructions frame.tail)
  -- A selected font is defined in the postamble too (DVItype, 19), and its metric file is known.
  pub closing : AllByRecursion (λ f. IsSome (font metrics (definitions (token_instructions frame.tail)) f))
      (selections (token_instructions frame.front))
  -- No more pushes are open than post allows (DVItype, 19), and no more than `max_pushes`.
  pub depth : AllByRecursion (λ part. push_depth_of part ≤ min max_pushes frame.postamble.stack_depth) parts
  -- The pages, with h and v in signed 32 bits.
  pub shows : pages_of (bounded_acts (instruction_acts (widths_of metrics (definitions (token_instructions frame.tail))))) parts ≡ Some pages

-- The bytes are a DVI file of exactly these pages, in order. Without pages there are no bytes (own).
abbrev pub IsFileOfPages : WidthsByName → List ℕ → List MarkedPage → Type 0
IsFileOfPages metrics bytes [] = bytes ≡ []
IsFileOfPages metrics bytes (page ∷ pages) = IsFile metrics bytes (page ∷ pages)
