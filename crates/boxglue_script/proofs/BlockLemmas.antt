-- The lines of blocks.
use Rattle.std.proofs.Common.{◌≡◌, ◌++◌, ◌∷◌, [], List, Vec, ap, ◌∙◌}
use Rattle.std.specs.declared.alloc.Global.{Global}
use Rattle.std.proofs.lemmas.List.{append-nil}
use Rattle.std.proofs.lemmas.Grind.{flat_map-append}
use Rattle.boxglue_script.specs.declared.script.Line.{Line}
use Rattle.boxglue_script.specs.Blocks.{lines_in}

-- The lines of blocks and of one more.
pub one_block_more : (blocks : List (Vec Line Global)) (block : Vec Line Global) → lines_in (blocks ++ block ∷ []) ≡ lines_in blocks ++ block.items
one_block_more blocks block =
    flat_map-append (λ (b : Vec Line Global). b.items) blocks (block ∷ []) ∙ ap (λ (xs : List Line). lines_in blocks ++ xs) (append-nil block.items)
