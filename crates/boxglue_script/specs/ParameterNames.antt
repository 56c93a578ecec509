-- The names of parameters, by the kind of their values (own).
use Rattle.std.specs.Prelude.{ℕ, if◌then◌else◌, List, [], ◌∷◌, ◌++◌, Option, None, Some, codes}
use Rattle.std.specs.Str.{bytes_eq}
use Rattle.job_machine.specs.declared.parameter.SizeParameter.{SizeParameter}
use Rattle.job_machine.specs.declared.parameter.SizeParameter.TheVariants.{BoxMaxDepth, LineSkipLimit, SplitMaxDepth, Hsize, FirstSize, Hoffset}
use Rattle.job_machine.specs.declared.parameter.SizeParameter.TheVariants.{Voffset}
use Rattle.job_machine.specs.declared.parameter.SkipParameter.{SkipParameter}
use Rattle.job_machine.specs.declared.parameter.SkipParameter.TheVariants.{BaselineSkip, LineSkip, SplitTopSkip, ParFillSkip}
use Rattle.job_machine.specs.declared.parameter.NumberParameter.{NumberParameter}
use Rattle.job_machine.specs.declared.parameter.NumberParameter.TheVariants.{Pretolerance, Tolerance, LinePenalty, AdjDemerits, ClubPenalty}
use Rattle.job_machine.specs.declared.parameter.NumberParameter.TheVariants.{WidowPenalty, InterlinePenalty}

-- The names of the parameters that are dimensions.
abbrev pub sizes : List (List ℕ × SizeParameter)
sizes =
    (codes "boxmaxdepth", BoxMaxDepth)
    ∷ (codes "lineskiplimit", LineSkipLimit)
    ∷ (codes "splitmaxdepth", SplitMaxDepth)
    ∷ (codes "hsize", Hsize)
    ∷ (codes "firstsize", FirstSize)
    ∷ (codes "hoffset", Hoffset)
    ∷ (codes "voffset", Voffset)
    ∷ []

-- The names of the parameters that are glue.
abbrev pub skips : List (List ℕ × SkipParameter)
skips =
    (codes "baselineskip", BaselineSkip)
    ∷ (codes "lineskip", LineSkip)
    ∷ (codes "splittopskip", SplitTopSkip)
    ∷ (codes "parfillskip", ParFillSkip)
    ∷ []

-- The names of the parameters that are numbers.
abbrev pub numbers : List (List ℕ × NumberParameter)
numbers =
    (codes "pretolerance", Pretolerance)
    ∷ (codes "tolerance", Tolerance)
    ∷ (codes "linepenalty", LinePenalty)
    ∷ (codes "adjdemerits", AdjDemerits)
    ∷ (codes "clubpenalty", ClubPenalty)
    ∷ (codes "widowpenalty", WidowPenalty)
    ∷ (codes "interlinepenalty", InterlinePenalty)
    ∷ []

-- The name of the parameter that is a number of first lines.
abbrev pub first_lines_text : List ℕ
first_lines_text = codes "firstlines"

-- The names in a table.
abbrev pub names_in : {A : Type 0} → List (List ℕ × A) → List (List ℕ)
names_in [] = []
names_in ((name, x) ∷ rest) = name ∷ names_in rest

-- All names of parameters.
abbrev pub parameter_names : List (List ℕ)
parameter_names = names_in sizes ++ names_in skips ++ names_in numbers ++ first_lines_text ∷ []

-- What a word names by a table.
abbrev pub named_in : {A : Type 0} → List (List ℕ × A) → (word : List ℕ) → Option A
named_in [] word = None
named_in ((name, x) ∷ rest) word = if bytes_eq word name then Some x else named_in rest word

-- The parameter with a dimension that a word names.
unfoldable pub size_name : List ℕ → Option SizeParameter
size_name word = named_in sizes word

-- The parameter with glue that a word names.
unfoldable pub skip_name : List ℕ → Option SkipParameter
skip_name word = named_in skips word

-- The parameter with a number that a word names.
unfoldable pub number_name : List ℕ → Option NumberParameter
number_name word = named_in numbers word
