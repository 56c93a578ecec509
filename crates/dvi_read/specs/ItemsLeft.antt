-- What is still to be seen of a file that was checked (own).
use Rattle.std.specs.Prelude.{◌≡◌, ◌≤◌, ◌<◌, ◌+◌, ◌-◌, ◌*◌, ◌^◌, ◌++◌, if◌then◌else◌, nat_lt, [], ◌∷◌, Bool, true, false, List, Option, Some, None}
use Rattle.std.specs.Prelude.{drop, length, map, reverse, slice_index, take, ℕ, ℤ}
use Rattle.std.specs.Borrow.{Bor}
use Rattle.std.specs.List.{AllByRecursion}
use Rattle.scaled_core.specs.Mark.{Mark, Special}
use Rattle.dvi_ops.specs.Body.{instruction_acts, bounded_acts}
use Rattle.dvi_ops.specs.File.{MarkedPage}
use Rattle.dvi_ops.specs.Fonts.{selections}
use Rattle.dvi_ops.specs.Instruction.{Instruction}
use Rattle.dvi_ops.specs.Tokens.{Token, IsSpelled, token_instructions, token_bytes}
use Rattle.dvi_scan.specs.Execution.{HasPageSpace}
use Rattle.dvi_scan.specs.Pass.{PassStateView, Between, Inside, passes}
use Rattle.dvi_scan.specs.View.{mark_of, spot_position, dvi_state}
use Rattle.dvi_scan.specs.declared.executing.OpenPage.{OpenPage}
use Rattle.dvi_read.specs.Listing.{listing, rest_of_line}
use Rattle.dvi_read.specs.PageMarks.{TextIsAt, read_width, text_in, text_places}
use Rattle.dvi_read.specs.ReadFonts.{HasCurrent, HaveByteCodes, with_current}
use Rattle.dvi_read.specs.Seen.{SeenItemView, Counts, Marked, seen_lines, seen_of, seen_so_far}
use Rattle.dvi_read.specs.Steps.{FontsAreRead}
use Rattle.dvi_read.specs.declared.check.checked_file.CheckedFile.{CheckedFile}
use Rattle.dvi_read.specs.declared.listings.lines.Lines.{Lines}
use Rattle.dvi_read.specs.declared.fonts.ReadFonts.{ReadFonts}
use Rattle.dvi_read.specs.declared.seen_items.SeenItem.{SeenItem}
use Rattle.dvi_read.specs.declared.seen_items.SeenItem.TheVariants as seen_items
use Rattle.dvi_read.specs.declared.seen_items.SeenItems.{SeenItems}

-- What a value of the code represents.
abbrev pub seen_item_view : SeenItem → SeenItemView
seen_item_view (seen_items.Page counts) = Counts counts
seen_item_view (seen_items.Mark mark) = Marked (mark_of mark)

-- The instructions between two places of a file make these pages, with the widths of these fonts, which are all that they select.
pub record HasRest (bytes : List ℕ) (at post most : ℕ) (fonts : ReadFonts) (first : List Instruction) (here : PassStateView)
    (pages : List MarkedPage) : Type 0 where
  pub low : at ≤ post
  pub high : post ≤ length bytes
  pub rest : List Token
  pub spelled : AllByRecursion IsSpelled rest
  pub whole : token_bytes rest ≡ take (post - at) (drop at bytes)
  -- The instructions of `first` come before them.
  pub passed : passes (bounded_acts (instruction_acts (read_width fonts))) most (first ++ token_instructions rest) here ≡ Some (Between pages)
  pub read : FontsAreRead fonts (selections (first ++ token_instructions rest))
  pub codes : HaveByteCodes fonts
  pub small : (k : ℕ) → slice_index bytes k < 256

-- A checked file has these pages.
abbrev pub HasCheckedPages : CheckedFile → List MarkedPage → Type 0
HasCheckedPages file pages = HasRest file.bytes.now file.from file.post file.most file.fonts [] (Between []) pages

-- The state of the pass where these pages, and these marks of the open one, were seen.
abbrev pub pass_with : (inside : Bool) → List MarkedPage → List Mark → OpenPage → PassStateView
pass_with false pages marks page = Between pages
pass_with true pages marks page = Inside pages page.counts marks (reverse (map spot_position page.stack.items)) (dvi_state page.state)

-- An open page has no mark, but space for one; and its font was selected last, if one was.
pub record IsReady (most : ℕ) (fonts : ReadFonts) (page : OpenPage) : Type 0 where
  pub none : page.marks.items ≡ []
  pub space : HasPageSpace most page
  pub current : (f : ℤ) → page.state.font ≡ Some f → HasCurrent f fonts

-- What is still to be seen, where the instructions of `first` were read, but not taken.
pub record IsSeenAfter (first : List Instruction) (s : SeenItems) (seen : List SeenItemView) : Type 0 where
  pub pages : List MarkedPage
  pub marks : List Mark
  pub all : List MarkedPage
  pub rest : HasRest s.file.now.bytes.now s.at s.file.now.post s.file.now.most s.file.now.fonts first (pass_with s.inside pages marks s.page) all
  pub ready : IsReady s.file.now.most (with_current s.file.now.fonts s.current) s.page
  pub seen_is : seen_of all ≡ seen_so_far (pass_with s.inside pages marks s.page) ++ seen

-- What is still to be seen.
abbrev pub AreItemsLeft : SeenItems → List SeenItemView → Type 0
AreItemsLeft s seen = IsSeenAfter [] s seen

-- After an instruction: what is seen of it comes before what is still to be seen.
abbrev pub ShowsFirst : List SeenItemView → SeenItems → Option SeenItem → Type 0
ShowsFirst seen new None = AreItemsLeft new seen
ShowsFirst seen new (Some item) = (rest : List SeenItemView) × (seen ≡ seen_item_view item ∷ rest) × AreItemsLeft new rest

-- What comes next of what is still to be seen; or nothing is.
abbrev pub ShowsNext : List SeenItemView → SeenItems → Option SeenItem → Type 0
ShowsNext seen new None = (seen ≡ []) × AreItemsLeft new []
ShowsNext seen new (Some item) = ShowsFirst seen new (Some item)

-- The text of a special is in the bytes, and ends at this place.
abbrev pub TextEndsAt : List ℕ → (place : ℕ) → Mark → Type 0
TextEndsAt bytes place (Special h v text) = TextIsAt bytes (place - length text) text
TextEndsAt bytes place mark = Unit {0}

-- The same for what is seen, if it is a special.
abbrev pub EndsText : List ℕ → (place : ℕ) → Option SeenItem → Type 0
EndsText bytes place (Some (seen_items.Mark mark)) = TextEndsAt bytes place (mark_of mark)
EndsText bytes place item = Unit {0}

-- The texts of the specials among the instructions between two places of a file begin at these places.
pub record HasTexts (bytes : List ℕ) (at post : ℕ) (places : List ℕ) : Type 0 where
  pub tokens : List Token
  pub spelled : AllByRecursion IsSpelled tokens
  pub whole : token_bytes tokens ≡ take (post - at) (drop at bytes)
  pub places_are : places ≡ text_places at tokens

-- The same for a checked file, and for what is still to be seen of it.
abbrev pub HasCheckedTexts : CheckedFile → (places : List ℕ) → Type 0
HasCheckedTexts file places = HasTexts file.bytes.now file.from file.post places

abbrev pub AreTextsLeft : SeenItems → (places : List ℕ) → Type 0
AreTextsLeft s places = HasTexts s.file.now.bytes.now s.at s.file.now.post places

-- Where the text of what is seen begins, if it is a special and its text ends at this place.
abbrev pub text_seen : (end : ℕ) → Option SeenItem → List ℕ
text_seen end (Some (seen_items.Mark mark)) = map (λ text. end - length text) (text_in (mark_of mark))
text_seen end item = []

-- Where the walk has come to, the text of what is seen ends, and it is the first of those that were left.
abbrev pub PassesText : (places : List ℕ) → SeenItems → Option SeenItem → Type 0
PassesText places new item = (rest : List ℕ) × (places ≡ text_seen new.at item ++ rest) × AreTextsLeft new rest

-- The same for what is seen next; where nothing is, no text is left.
abbrev pub PassesNextText : (places : List ℕ) → SeenItems → Option SeenItem → Type 0
PassesNextText places new None = places ≡ []
PassesNextText places new (Some item) = PassesText places new (Some item)

-- The bytes of a listing that are still to come: the rest of a line that was begun, and the lines of what is still to be seen.
pub record AreLinesLeft (l : Lines) (text : List ℕ) : Type 0 where
  pub seen : List SeenItemView
  pub remaining : AreItemsLeft l.seen_items seen
  pub text_is : text ≡ rest_of_line l.text ++ seen_lines (l.before + 1) seen
  pub counted : l.before ≤ l.seen_items.at

-- These are the bytes of the whole listing, from the first page on.
abbrev pub HasAllLines : Lines → (text : List ℕ) → Type 0
HasAllLines l text = (pages : List MarkedPage) × HasCheckedPages l.seen_items.file.now pages × (text ≡ listing pages)

-- These bytes come first of a listing, and the rest is still to come.
abbrev pub GivesFirst : (text first : List ℕ) → Lines → Type 0
GivesFirst text first new = (rest : List ℕ) × (text ≡ first ++ rest) × AreLinesLeft new rest

-- The bytes of the rest of a line that was begun, and one for its end. A text has fewer than 2^64 bytes.
abbrev pub text_left : Option (Bor (List ℕ)) → ℕ
text_left None = 0
text_left (Some text) = if nat_lt (length text.now) (2 ^ 64) then 1 + length text.now else 0

-- A number that each line makes smaller.
abbrev pub lines_left : Lines → ℕ
lines_left l = (l.seen_items.file.now.post - l.seen_items.at) * 2 ^ 65 + text_left l.text
