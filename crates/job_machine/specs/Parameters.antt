-- The place of each parameter in what a job keeps of them (own).
use Rattle.std.specs.Prelude.{ℤ}
use Rattle.node_core.specs.declared.tree.Glue.{Glue}
use Rattle.node_core.specs.declared.params.Params.{Params}
use Rattle.job_machine.specs.declared.parameter.SizeParameter.{SizeParameter}
use Rattle.job_machine.specs.declared.parameter.SizeParameter.TheVariants.{BoxMaxDepth, LineSkipLimit, SplitMaxDepth, Hsize, FirstSize, Hoffset}
use Rattle.job_machine.specs.declared.parameter.SizeParameter.TheVariants.{Voffset}
use Rattle.job_machine.specs.declared.parameter.SkipParameter.{SkipParameter}
use Rattle.job_machine.specs.declared.parameter.SkipParameter.TheVariants.{BaselineSkip, LineSkip, SplitTopSkip, ParFillSkip}
use Rattle.job_machine.specs.declared.parameter.NumberParameter.{NumberParameter}
use Rattle.job_machine.specs.declared.parameter.NumberParameter.TheVariants.{Pretolerance, Tolerance, LinePenalty, AdjDemerits, ClubPenalty}
use Rattle.job_machine.specs.declared.parameter.NumberParameter.TheVariants.{WidowPenalty, InterlinePenalty}
use Rattle.job_machine.specs.declared.parameter.Parameter.{Parameter}
use Rattle.job_machine.specs.declared.parameter.Parameter.TheVariants.{Size, Skip, Number, FirstLines}

-- The parameters with one of the dimensions changed.
abbrev pub with_size : Params → SizeParameter → ℤ → Params
with_size params BoxMaxDepth size = record params { box_max_depth = size }
with_size params LineSkipLimit size = record params { line_skip_limit = size }
with_size params SplitMaxDepth size = record params { split = record params.split { split_max_depth = size } }
with_size params Hsize size = record params { hsize = size }
with_size params FirstSize size = record params { first_size = size }
with_size params Hoffset size = record params { hoffset = size }
with_size params Voffset size = record params { voffset = size }

-- The parameters with one of the glues changed.
abbrev pub with_skip : Params → SkipParameter → Glue → Params
with_skip params BaselineSkip glue = record params { baseline_skip = glue }
with_skip params LineSkip glue = record params { line_skip = glue }
with_skip params SplitTopSkip glue = record params { split = record params.split { split_top_skip = glue } }
with_skip params ParFillSkip glue = record params { par_fill_skip = glue }

-- The parameters with one of the numbers changed.
abbrev pub with_number : Params → NumberParameter → ℤ → Params
with_number params Pretolerance number = record params { pretolerance = number }
with_number params Tolerance number = record params { tolerance = number }
with_number params LinePenalty number = record params { line_penalty = number }
with_number params AdjDemerits number = record params { adj_demerits = number }
with_number params ClubPenalty number = record params { club_penalty = number }
with_number params WidowPenalty number = record params { widow_penalty = number }
with_number params InterlinePenalty number = record params { interline_penalty = number }

-- The parameters with one of them changed.
abbrev pub with_parameter : Params → Parameter → Params
with_parameter params (Size name size) = with_size params name size
with_parameter params (Skip name glue) = with_skip params name glue
with_parameter params (Number name number) = with_number params name number
with_parameter params (FirstLines lines) = record params { first_lines = lines }
