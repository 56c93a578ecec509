-- The tasks that command lines ask for (own).
use Rattle.std.specs.Prelude.{◌≡◌, ◌≤◌, ⊤, List, [], ◌∷◌, ℕ, Option, Some, None, codes, unwrap_or}
use Rattle.std.specs.Str.Parse.{IsNumeral, digits_value, without_leading_plus}
use Rattle.clap.specs.Words.{Row, Text, all_of, fault_of, first_of, one_of, subcommand_of}
use Rattle.clap.specs.declared.error.kind.ErrorKind.TheVariants.{DisplayVersion}
use Rattle.raster_core.specs.PaintOptions.{PaintOptionsView}
use Rattle.boxglue_words.specs.declared.fonts.WordFault.{WordFault}
use Rattle.boxglue_words.specs.declared.fonts.WordFault.TheVariants.{Line, Memory as WantsMemory}
use Rattle.boxglue_words.specs.declared.task.Task.{Task}
use Rattle.boxglue_words.specs.declared.task.Task.TheVariants.{Version, Memory, Typeset, Session, Listing, Fonts, Painting}
use Rattle.boxglue_words.specs.CommandLine.{boxglue}
use Rattle.boxglue_words.specs.Pairs.{AreFonts, IsFirstFault}

-- What words ask for: the version, nothing, or a subcommand with its path and its words NAME=TFM, which `fonts` has none of.
pub data Request : Type 0 where
  version : Request
  nothing : Request
  typesets : Text → List Text → Request
  holds_session : Text → List Text → Request
  lists : Text → List Text → Request
  names_fonts : Text → Request
  paints : PaintOptionsView → Text → List Text → Request

-- The words NAME=TFM of a subcommand.
abbrev pub font_words : List Row → List Text
font_words rows = unwrap_or (all_of (codes "NAME=TFM") rows) []

-- The number of an option: its digits give the number, which is from 1 to a greatest one.
pub record IsNumber (most : ℕ) (rows : List Row) (id : Text) (number : ℕ) : Type 0 where
  pub text : Text
  pub given : one_of id rows ≡ Some text
  pub digits : IsNumeral 10 (without_leading_plus text)
  pub value : number ≡ digits_value 10 (without_leading_plus text)
  pub least : 1 ≤ number
  pub most_is : number ≤ most

-- The four numbers of `paint`.
pub record AreOptions (rows : List Row) (options : PaintOptionsView) : Type 0 where
  pub page : IsNumber 4294967295 rows (codes "page") options.page
  pub dpi : IsNumber 10000 rows (codes "dpi") options.dpi
  pub width : IsNumber 10000 rows (codes "width") options.width
  pub height : IsNumber 10000 rows (codes "height") options.height

-- The subcommand with this name and these rows asks for this.
abbrev pub AsksBy : Text → List Row → Request → Type 0
AsksBy name rows version = ⊥
AsksBy name rows nothing = ⊥
AsksBy name rows (typesets out fonts) = (name ≡ codes "typeset") × (first_of (codes "OUT") rows ≡ Some out) × (font_words rows ≡ fonts)
AsksBy name rows (holds_session out fonts) = (name ≡ codes "session") × (first_of (codes "OUT") rows ≡ Some out) × (font_words rows ≡ fonts)
AsksBy name rows (lists dvi fonts) = (name ≡ codes "list") × (first_of (codes "DVI") rows ≡ Some dvi) × (font_words rows ≡ fonts)
AsksBy name rows (names_fonts dvi) = (name ≡ codes "fonts") × (first_of (codes "DVI") rows ≡ Some dvi)
AsksBy name rows (paints options dvi fonts) =
    (name ≡ codes "paint") × AreOptions rows options × (first_of (codes "DVI") rows ≡ Some dvi) × (font_words rows ≡ fonts)

-- The subcommand that was found asks for this; without one, nothing is asked for.
abbrev pub Asks : Option (Text × List Row) → Request → Type 0
Asks None nothing = ⊤
Asks None _ = ⊥
Asks (Some met) request = AsksBy met.0 met.1 request

-- `clap` accepts the words, and this is what they ask for.
pub record IsAccepted (words : List Text) (request : Request) : Type 0 where
  pub accepted : fault_of boxglue words ≡ []
  pub asked : Asks (subcommand_of boxglue words) request

-- The words are a command line, and this is what they ask for: the version, if `clap` answers them with it; otherwise `clap` accepts them.
abbrev pub IsRequest : List Text → Request → Type 0
IsRequest words version = fault_of boxglue words ≡ DisplayVersion ∷ []
IsRequest words request = IsAccepted words request

-- The words NAME=TFM of a request.
abbrev pub fonts_of : Request → List Text
fonts_of version = []
fonts_of nothing = []
fonts_of (typesets out fonts) = fonts
fonts_of (holds_session out fonts) = fonts
fonts_of (lists dvi fonts) = fonts
fonts_of (names_fonts dvi) = []
fonts_of (paints options dvi fonts) = fonts

-- The task is what is asked for, with the fonts of its words.
abbrev pub IsTaskOf : Request → Task → Type 0
IsTaskOf version Version = ⊤
IsTaskOf nothing Memory = ⊤
IsTaskOf (typesets path words) (Typeset out fonts) = (out.now ≡ path) × AreFonts words fonts.items
IsTaskOf (holds_session path words) (Session out fonts) = (out.now ≡ path) × AreFonts words fonts.items
IsTaskOf (lists path words) (Listing dvi fonts) = (dvi.now ≡ path) × AreFonts words fonts.items
IsTaskOf (names_fonts path) (Fonts dvi) = dvi.now ≡ path
IsTaskOf (paints numbers path words) (Painting options dvi fonts) = (options ≡ numbers) × (dvi.now ≡ path) × AreFonts words fonts.items
IsTaskOf _ _ = ⊥

-- The words are a command line, and this is its task.
abbrev pub IsTask : List Text → Task → Type 0
IsTask words task = (request : Request) × IsRequest words request × IsTaskOf request task

-- Why the request of a subcommand is refused: there is no such request; or its words NAME=TFM are refused, for the first faulty one; or out of
-- memory.
abbrev pub IsRefusedBy : (Request → Type 0) → WordFault → Type 0
IsRefusedBy asked WantsMemory = ⊤
IsRefusedBy asked (Line text) = (request : Request) → asked request → ⊥
IsRefusedBy asked fault = (request : Request) × asked request × IsFirstFault (fonts_of request) fault

-- Why words are refused: they are no command line; or the words NAME=TFM are refused, for the first faulty one; or out of memory.
abbrev pub IsRefused : List Text → WordFault → Type 0
IsRefused words fault = IsRefusedBy (IsRequest words) fault
