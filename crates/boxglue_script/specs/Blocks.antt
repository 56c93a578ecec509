-- The lines of a script in blocks (own).
use Rattle.std.specs.Prelude.{List, ◌++◌, Vec}
use Rattle.std.specs.declared.alloc.Global.{Global}
use Rattle.std.specs.List.{flat_map}
use Rattle.boxglue_script.specs.declared.script.Line.{Line}
use Rattle.boxglue_script.specs.declared.blocks.LineBlocks.{LineBlocks}

-- The lines of some blocks, one block after the other.
abbrev pub lines_in : List (Vec Line Global) → List Line
lines_in blocks = flat_map (λ block. block.items) blocks

-- The lines of all blocks of a script, in order.
abbrev pub lines_of : LineBlocks → List Line
lines_of blocks = lines_in blocks.full.items ++ blocks.last.items
