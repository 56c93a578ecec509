-- A beginning of the line.
use Rattle.std.proofs.Common.{[], ◌∷◌, ◌++◌}
use Rattle.boxglue_lib.proofs.EndLemmas.{err_then, front_after, front_more}
use Rattle.boxglue_lib.proofs.telling.write_line.Goals as goal

pub returns-in_default-write_text-clause-front : goal.returns-in_default-write_text-clause-front
returns-in_default-write_text-clause-front g c =
    let first = rw c.as_bytes.ensures.value at c.in-Ok.ensures.all in
    let second = rw c.as_bytes-2.ensures.value at c.in_default-write_text.ensures.front in
    front_after _ _ _ c.args.what.now (c.args.name.now ++ 10 ∷ []) first (front_more _ _ c.args.name.now (10 ∷ []) second)

pub returns-clause-front : goal.returns-clause-front
returns-clause-front g c =
    let first = rw c.as_bytes.ensures.value at c.in-Ok.ensures.all in
    let second = rw c.as_bytes-2.ensures.value at c.in-Ok-write_text.ensures.all in
    err_then c.write_text-3.result c.write_text-3.ensures.front
    (λ front. front_after _ _ _ c.args.what.now (c.args.name.now ++ 10 ∷ []) first (front_after _ _ _ c.args.name.now (10 ∷ []) second front))
